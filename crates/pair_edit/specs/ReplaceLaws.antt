-- `replace_pair`: the leaf list that it leaves is the rule's, for a key that is there makes no leaf full; and the header's numbers are those of
-- that list.
-- Assumes nothing.
use Rattle.model.proofs.RuleEdits.{insert_slack}
use Rattle.std.specs.Prelude.{◌+◌, ◌-◌, ◌<◌, ◌≤◌, ◌^◌, suc, ℕ, List, [], ◌++◌, ◌∷◌, ◌≡◌, refl, drop, get_or, length, take}
use Rattle.std.proofs.Math.Option.{some}
use Rattle.std.proofs.Common.{◌∙◌, ap, subst, sym, arith}
use Rattle.layout.specs.Buffers.{value_place}
use Rattle.layout.specs.Lays.{buffers}
use Rattle.layout.specs.Pieces.{pair_in}
use Rattle.layout.specs.Presumed.{Presumed}
use Rattle.layout.specs.UsedLaws.{length_same}
use Rattle.layout.specs.declared.Header.{Header}
use Rattle.lists.specs.All.{all_at}
use Rattle.lists.proofs.PartLaws.{length-put}
use Rattle.model.specs.Charge.{charge}
use Rattle.model.specs.Good.{Bounds, Fits, Tiles, Within, limits}
use Rattle.model.specs.Leaves.{Node, node, owned, owner, pairs_of, with_pairs}
use Rattle.model.specs.LimitLaws.{fanout_three}
use Rattle.model.specs.Map.{Pair, lookup, pair, put}
use Rattle.model.specs.MapParts as map
use Rattle.model.proofs.Numbers.{insert_distinct, insert_numbers}
use Rattle.model.proofs.OwnerLaws.{tiled_at, tiles_first}
use Rattle.model.proofs.PairLaws.{insert_pairs}
use Rattle.model.specs.Place.{PutBy, at, place, put_by}
use Rattle.model.proofs.RoomLaws.{owned_room, replace_no_split}
use Rattle.model.specs.Rules.{insert_rule}
use Rattle.model.proofs.SizeLaws.{insert_charge}
use Rattle.model.proofs.TileLaws.{insert_tiles}
use Rattle.order.specs.Bytes.{Bytes}
use Rattle.pair_edit.specs.OldLaws.{around_leaf, edited_lays, leaf_region, spot_found, spot_in, spot_key, spot_leaf, spot_listed, spot_listed_dir, spot_owned, spot_slot}
use Rattle.pair_edit.specs.PairEdits.{CanReplace, ReplacedPair}
use Rattle.route.specs.RouteLaws.{owner_pairs}
use Rattle.route.specs.Routes.{leaf_at}
use Rattle.slots.specs.Edits.{Replaced, Replaces, slot_of, valued}
use Rattle.slots.specs.Whole.{whole_kept}
use Rattle.spots.specs.KeySpots.{AtSpot}
use Rattle.spots.specs.Spots.{SpotIn, SpotRead}
use Rattle.spots.specs.declared.Pieced.{Pieced}
use Rattle.spots.specs.declared.Spot.{Spot}

-- the rule at the leaf that owns the key, where that leaf has the key and is below F pairs

pub replace_at : {B : Bounds} (F : ℕ) (k v : Bytes) (ns : List Node) → Tiles B ns → (j i : ℕ) → j ≡ owner k ns → place k (leaf_at ns j).pairs ≡ at i
    → (length (put k v (leaf_at ns j).pairs) ≡ F → ⊥)
    → insert_rule F k v ns ≡ take j ns ++ (with_pairs (leaf_at ns j) (take i (leaf_at ns j).pairs ++ (pair k v ∷ drop (suc i) (leaf_at ns j).pairs)) ∷ drop (suc j) ns)
replace_at F k v ns t j i o p few =
    insert_slack F k v ns t o few ∙ ap (λ (m : List Pair). take j ns ++ (with_pairs (leaf_at ns j) m ∷ drop (suc j) ns)) (subst (PutBy k v (leaf_at ns j).pairs) p (put_by k v (leaf_at ns j).pairs))

replaced_charge : {B : Bounds} (k v old : Bytes) (ns : List Node) → Tiles B ns → lookup k (owned k ns) ≡ some old
    → charge (insert_rule B.fanout k v ns) + length old ≡ charge ns + length v
replaced_charge {B} k v old ns t l =
    tiles_first (λ ms. lookup k (owned k ms) ≡ some old → length (owned k ms) < B.fanout → charge (insert_rule B.fanout k v ms) + length old ≡ charge ms + length v)
    (λ n ms h u m f. let e = rw (m, replace_no_split B.fanout k v old (n ∷ ms) f m) at (insert_charge B.fanout k v n ms) in omega (arith, e))
    ns t l (owned_room k ns t)

-- the numbers after it

pub record Replacing (h : Header) (ns : List Node) (t : Spot) (v : Bytes) (after : List Node) : Type 0 where
  pub leaves_are : h.leaves ≡ length after
  pub pairs_are : h.pairs ≡ length (pairs_of after)
  pub charge_is : charge after + length (pair_in ns t.leaf t.slot).value ≡ h.charge + length v
  pub charged : length (pair_in ns t.leaf t.slot).value ≤ h.charge

module _ {h : Header} {dir slots arena : List ℕ} {ns : List Node} (x : Presumed h dir slots arena ns) {k : Bytes} {t : Spot} (s : AtSpot k ns t) (v : Bytes) where
  -- the owner's count is as before
  few : length (put k v (owned k ns)) < h.fanout
  few = let e = rw (spot_owned x s) at (map.length-put k v (owned k ns)) in omega (arith, e, owned_room k ns x.tiles)

  edit : insert_rule h.fanout k v ns
      ≡ take t.leaf ns
      ++ (with_pairs (leaf_at ns t.leaf) (take t.slot (leaf_at ns t.leaf).pairs ++ (pair k v ∷ drop (suc t.slot) (leaf_at ns t.leaf).pairs)) ∷ drop (suc t.leaf) ns)
  edit = replace_at h.fanout k v ns x.tiles t.leaf t.slot s.owns s.stands (λ e. omega (arith, e, rw (owner_pairs x k s.owns) at few))

  pub replacing : Replacing h ns t v (insert_rule h.fanout k v ns)
  replacing =
      let m = (leaf_at ns t.leaf).pairs in
      let c = replaced_charge k v (pair_in ns t.leaf t.slot).value ns x.tiles (spot_owned x s) in
      let a = replaced_charge k [] (pair_in ns t.leaf t.slot).value ns x.tiles (spot_owned x s) in
      let p = rw (spot_found x s) at (map.length-put k v (pairs_of ns)) in
      record {
        leaves_are =
            x.holds.leaves_are ∙ sym (ap length edit
            ∙ length_same ns t.leaf (with_pairs (leaf_at ns t.leaf) (take t.slot m ++ (pair k v ∷ drop (suc t.slot) m))) (spot_listed x s).leaf_in);
        pairs_are = omega (arith, p, x.holds.pairs_are, ap length (insert_pairs h.fanout k v ns x.tiles));
        charge_is = omega (arith, c, x.holds.charge_is);
        charged = omega (arith, a, x.holds.charge_is);
      }

  module _ (short : length v ≤ length (pair_in ns t.leaf t.slot).value) where
    -- the pair that was there was within the limits, so the new one is
    within : Within (limits h.fanout) (pair k v)
    within =
        let w = all_at (Within (limits h.fanout)) (leaf_at ns t.leaf).pairs t.slot (pair [] []) (spot_listed x s).slot_in (tiled_at ns t.leaf x.tiles.tiled (spot_listed x s).leaf_in).within in
        (omega (arith, w.0, ap length (spot_key x s)), omega (arith, w.1, short))

    still_fits : Fits (length dir) (length arena) (insert_rule h.fanout k v ns)
    still_fits = record {
      counted = omega (arith, replacing.leaves_are, x.holds.leaves_are, x.fits.counted);
      in_pool = insert_numbers (λ i. i < length dir) h.fanout k v ns (λ e. absurd (omega (arith, e, few))) x.fits.in_pool;
      distinct = insert_distinct h.fanout k v ns x.fits.distinct;
      charged = omega (arith, replacing.charge_is, short, x.holds.charge_is, x.fits.charged);
    }

    pub replaced_presumed : {now_slots now_arena : List ℕ} {r : Header} → Replaced h.fanout slots arena (get_or dir t.leaf 0) t.slot v now_slots now_arena
        → length now_slots ≡ length slots → length now_arena ≡ length arena
        → r.fanout ≡ h.fanout → r.leaves ≡ h.leaves → r.pairs ≡ h.pairs
        → r.charge ≡ h.charge - length (pair_in ns t.leaf t.slot).value + length v
        → Presumed r dir now_slots now_arena (insert_rule h.fanout k v ns)
    replaced_presumed {now_slots} {now_arena} {r} o ls la rf rl rp rc =
        let j = t.leaf in
        let i = t.slot in
        let n = leaf_at ns j in
        let m = (spot_listed x s).leaf_in in
        let q = replacing in
        let left = with_pairs n (take i n.pairs ++ (pair k v ∷ drop (suc i) n.pairs)) in
        let b = rw (spot_key x s) at (o.leaves (around_leaf x j m) (pair [] [])) in
        let w = whole_kept (buffers h slots arena) dir (length ns) _ ns (node 0 [] []) (length dir) j x.holds.lays _ m m _ _ left b in
        record {
          holds = record {
            sizes = rw (rf, ls, la) x.holds.sizes;
            leaves_are = rl ∙ q.leaves_are;
            pairs_are = rp ∙ q.pairs_are;
            charge_is = omega (arith, rc, q.charge_is, q.charged);
            lays = rw (rf, edit) (edited_lays dir ns j (node 0 [] []) left m refl w);
          };
          tiles = rw rf (insert_tiles (limits h.fanout) (fanout_three x.holds.sizes.fanout_enough) k v within ns x.tiles);
          fits = rw la still_fits;
        }

-- the function: what it reads and calls can be asked, its arithmetic comes out, and the index that it leaves

pub record Charged (h : Header) (p : Pieced) (v : Bytes) : Type 0 where
  pub charged : p.slot.value ≤ h.charge
  pub not_longer : length v ≤ p.slot.value
  pub charge_fits : h.charge < 2 ^ 28

module _ {h : Header} {dir slots arena : List ℕ} {v : Bytes} {t : Spot} (c : CanReplace h dir slots arena v t) where
  abbrev x : Presumed h dir slots arena c.step.nodes
  x = c.step.presumed

  pub replace_spot : SpotIn h dir slots arena t
  replace_spot = spot_in x c.step.asks.spot

  pub replace_place : t.leaf < length dir
  replace_place = spot_listed_dir x c.step.asks.spot

  module _ {p : Pieced} (s : SpotRead h dir slots arena t p) where
    pub replace_charged : Charged h p v
    replace_charged =
        let y = (s c.step.nodes x).pieces in
        record {
          charged = omega (arith, (replacing x c.step.asks.spot v).charged, y.value_length);
          not_longer = omega (arith, c.step.asks.not_longer, y.value_length);
          charge_fits = omega (arith, x.holds.charge_is, x.fits.charged, y.arena_fits);
        }

    pub replace_asks : Replaces h.fanout slots arena (get_or dir t.leaf 0) t.slot v
    replace_asks =
        let y = s c.step.nodes x in
        record {
          region = leaf_region x t.leaf (spot_leaf x c.step.asks.spot);
          slot = spot_slot x c.step.asks.spot;
          inside = omega (arith, y.slot_is.offset_is, y.slot_is.suffix_is, y.pieces.parts_in, replace_charged.not_longer);
          not_longer = omega (arith, y.slot_is.value_is, replace_charged.not_longer);
        }

    pub replace_met : {now_slots now_arena : List ℕ} → Replaced h.fanout slots arena (get_or dir t.leaf 0) t.slot v now_slots now_arena
        → ReplacedPair h dir slots arena v t
        (record { fanout = h.fanout; leaves = h.leaves; pairs = h.pairs; charge = h.charge - p.slot.value + length v }) now_slots now_arena
    replace_met {now_slots} {now_arena} o =
        let d = get_or dir t.leaf 0 in
        let a = slot_of h.fanout d t.slot in
        let w = get_or slots a 0 in
        let g = replace_asks in
        let ls : length now_slots ≡ length slots =
        ap length o.slots_are ∙ length-put slots a (valued w (length v) ∷ []) (omega (arith, g.region.inside, g.region.count_fits, g.slot)) in
        let la : length now_arena ≡ length arena = ap length o.arena_is ∙ length-put arena (value_place w) v g.inside in
        λ k. record {
          fanout_is = refl;
          same_dir = refl;
          same_slots = ls;
          same_arena = la;
          index = λ ns y z.
              replaced_presumed y z.spot v z.not_longer o ls la refl refl refl
              (ap (λ (n : ℕ). h.charge - n + length v) (s ns y).pieces.value_length);
        }
