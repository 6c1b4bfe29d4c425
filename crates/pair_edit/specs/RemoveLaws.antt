-- `remove_pair`: the leaf list that it leaves is the rule's, and the header's numbers are those of that list.
-- Assumes nothing.
use Rattle.model.proofs.RuleEdits.{remove_edit}
use Rattle.std.specs.Prelude.{◌+◌, ◌-◌, ◌^◌, ◌<◌, ◌≤◌, suc, ℕ, false, List, [], ◌++◌, ◌∷◌, ◌≡◌, refl, drop, get_or, length, take}
use Rattle.std.proofs.Math.Option.{none}
use Rattle.std.proofs.Common.{◌∙◌, ap, subst, sym, arith}
use Rattle.layout.specs.Lays.{buffers}
use Rattle.layout.specs.Pieces.{pair_in}
use Rattle.layout.specs.Presumed.{Presumed}
use Rattle.layout.specs.UsedLaws.{length_same}
use Rattle.layout.specs.declared.Header.{Header}
use Rattle.lists.proofs.PartLaws.{length-part, length-put}
use Rattle.lists.specs.Part.{part}
use Rattle.model.specs.Charge.{charge}
use Rattle.model.proofs.FitsLaws.{remove_fits}
use Rattle.model.specs.Good.{Bounds, Tiles, limits}
use Rattle.model.specs.LeafViews.{on, side, stay}
use Rattle.model.specs.Leaves.{Node, node, owned, owner, pairs_of, with_pairs}
use Rattle.model.specs.Map.{lookup, remove}
use Rattle.model.specs.MapParts.{cost, length-remove}
use Rattle.model.proofs.OwnerLaws.{tiles_first}
use Rattle.model.proofs.PairLaws.{remove_pairs}
use Rattle.model.specs.Place.{RemoveBy, at, place, remove_by}
use Rattle.model.specs.Rules.{remove_here, remove_rule}
use Rattle.model.proofs.SizeLaws.{remove-charge}
use Rattle.model.specs.LeafCuts.{remove_cut}
use Rattle.model.proofs.TileLaws.{remove_tiles}
use Rattle.order.specs.Bytes.{Bytes}
use Rattle.pair_edit.specs.OldLaws.{around_leaf, edited_lays, leaf_region, spot_found, spot_in, spot_key, spot_leaf, spot_listed, spot_listed_dir, spot_owned, spot_slot}
use Rattle.pair_edit.specs.PairEdits.{CanRemove, RemovedPair}
use Rattle.route.specs.Routes.{leaf_at}
use Rattle.slots.specs.Edits.{TakenOut, Takes, counted, slot_of}
use Rattle.slots.specs.Whole.{whole_written}
use Rattle.spots.specs.KeySpots.{AtSpot}
use Rattle.spots.specs.Spots.{SpotIn, SpotRead}
use Rattle.spots.specs.declared.Pieced.{Pieced}
use Rattle.spots.specs.declared.Spot.{Spot}
use Rattle.words.specs.Words.{word_count}

-- the rule at the leaf that owns the key: not merging, it takes one pair out of that leaf, and no leaf goes

pub remove_at : {B : Bounds} (k : Bytes) (ns : List Node) → Tiles B ns → (j i : ℕ) → j ≡ owner k ns → place k (leaf_at ns j).pairs ≡ at i
    → remove_rule false k ns ≡ take j ns ++ (with_pairs (leaf_at ns j) (take i (leaf_at ns j).pairs ++ drop (suc i) (leaf_at ns j).pairs) ∷ drop (suc j) ns)
unfolding remove_here
remove_at k ns t j i o p =
    let m = (leaf_at ns j).pairs in
    let e : remove k m ≡ take i m ++ drop (suc i) m = subst (RemoveBy k m) p (remove_by k m) in
    (rw (sym o) at (remove_edit false k ns t)) ∙ rw e refl

no_merge : (k : Bytes) (ns : List Node) → remove_cut false k ns ≡ none
unfolding remove_cut
no_merge k [] = refl
no_merge k (n ∷ []) = refl
no_merge k (n ∷ m ∷ ns) = elim (side k m ns) [ on e u ↦ rw e (no_merge k (m ∷ ns)) | stay e b ↦ rw e ]

removed_charge : {B : Bounds} (k : Bytes) (ns : List Node) → Tiles B ns → charge (remove_rule false k ns) + cost k (lookup k (owned k ns)) ≡ charge ns
removed_charge k ns t =
    tiles_first (λ ms. charge (remove_rule false k ms) + cost k (lookup k (owned k ms)) ≡ charge ms)
    (λ n ms h u. let e = rw (no_merge k (n ∷ ms)) at (remove-charge false k n ms) in omega (arith, e)) ns t

-- the numbers after it

pub record Removing (h : Header) (ns : List Node) (t : Spot) (after : List Node) : Type 0 where
  pub leaves_are : h.leaves ≡ length after
  pub pairs_are : h.pairs ≡ length (pairs_of after) + 1
  pub charge_is : h.charge ≡ charge after + (length (pair_in ns t.leaf t.slot).key + length (pair_in ns t.leaf t.slot).value)

module _ {h : Header} {dir slots arena : List ℕ} {ns : List Node} (x : Presumed h dir slots arena ns) {k : Bytes} {t : Spot} (s : AtSpot k ns t) where
  pub removing : Removing h ns t (remove_rule false k ns)
  removing =
      let m = (leaf_at ns t.leaf).pairs in
      let c = rw (spot_owned x s) at (removed_charge k ns x.tiles) in
      let p = rw (spot_found x s) at (length-remove k (pairs_of ns)) in
      record {
        leaves_are =
            x.holds.leaves_are ∙ sym (ap length (remove_at k ns x.tiles t.leaf t.slot s.owns s.stands)
            ∙ length_same ns t.leaf (with_pairs (leaf_at ns t.leaf) (take t.slot m ++ drop (suc t.slot) m)) (spot_listed x s).leaf_in);
        pairs_are = omega (arith, p, x.holds.pairs_are, ap length (remove_pairs false k ns x.tiles));
        charge_is = omega (arith, c, x.holds.charge_is, ap length (spot_key x s));
      }

  pub removed_presumed : {now_dir now_slots : List ℕ} {r : Header} → TakenOut h.fanout dir slots t.leaf t.slot now_dir now_slots
      → length now_dir ≡ length dir → length now_slots ≡ length slots
      → r.fanout ≡ h.fanout → r.leaves ≡ h.leaves → r.pairs ≡ h.pairs - 1
      → r.charge ≡ h.charge - (length (pair_in ns t.leaf t.slot).key + length (pair_in ns t.leaf t.slot).value)
      → Presumed r now_dir now_slots arena (remove_rule false k ns)
  removed_presumed {now_dir} {now_slots} {r} o ld ls rf rl rp rc =
      let j = t.leaf in
      let i = t.slot in
      let n = leaf_at ns j in
      let m = (spot_listed x s).leaf_in in
      let q = removing in
      let left = with_pairs n (take i n.pairs ++ drop (suc i) n.pairs) in
      let w = whole_written (buffers h slots arena) dir (length ns) _ ns (node 0 [] []) (length dir) j x.holds.lays _ m m _ now_dir _ _ left (spot_listed_dir x s) o.dir_is (o.leaves arena (around_leaf x j m)) in
      record {
        holds = record {
          sizes = rw (rf, ld, ls) x.holds.sizes;
          leaves_are = rl ∙ q.leaves_are;
          pairs_are = omega (arith, rp, q.pairs_are);
          charge_is = omega (arith, rc, q.charge_is);
          lays = rw (rf, remove_at k ns x.tiles j i s.owns s.stands) (edited_lays now_dir ns j (node 0 [] []) left m refl w);
        };
        tiles = rw rf (remove_tiles (limits h.fanout) false k ns x.tiles);
        fits = rw ld (remove_fits (length dir) (length arena) false k ns x.fits);
      }

-- the function: what it reads and calls can be asked, its subtractions come out, and the index that it leaves

pub record Reached (h : Header) (p : Pieced) : Type 0 where
  pub one : 1 ≤ h.pairs
  pub charged : p.prefix + p.slot.suffix + p.slot.value ≤ h.charge
  pub charge_fits : h.charge < 2 ^ 28

module _ {h : Header} {dir slots arena : List ℕ} {t : Spot} (c : CanRemove h dir slots arena t) where
  abbrev x : Presumed h dir slots arena c.step.nodes
  x = c.step.presumed

  pub remove_spot : SpotIn h dir slots arena t
  remove_spot = spot_in x c.step.asks

  pub remove_takes : Takes h.fanout dir slots t.leaf t.slot
  remove_takes =
      record { place = spot_listed_dir x c.step.asks; region = leaf_region x t.leaf (spot_leaf x c.step.asks); slot = spot_slot x c.step.asks }

  module _ {p : Pieced} (s : SpotRead h dir slots arena t p) where
    pub remove_reached : Reached h p
    remove_reached =
        let q = removing x c.step.asks in
        let y = (s c.step.nodes x).pieces in
        record {
          one = omega (arith, q.pairs_are);
          charged = omega (arith, q.charge_is, y.key_length, y.value_length);
          charge_fits = omega (arith, x.holds.charge_is, x.fits.charged, y.arena_fits);
        }

    pub remove_met : {now_dir now_slots : List ℕ} → TakenOut h.fanout dir slots t.leaf t.slot now_dir now_slots
        → RemovedPair h dir slots arena t
        (record { fanout = h.fanout; leaves = h.leaves; pairs = h.pairs - 1; charge = h.charge - (p.prefix + p.slot.suffix + p.slot.value) }) now_dir now_slots
    remove_met {now_dir} {now_slots} o =
        let d = get_or dir t.leaf 0 in
        let a = slot_of h.fanout d t.slot in
        let g = remove_takes.region in
        let l : length (part slots (a + 1) (word_count d - (t.slot + 1))) ≡ word_count d - (t.slot + 1) =
        length-part slots (a + 1) (word_count d - (t.slot + 1)) (omega (arith, g.inside, g.count_fits, remove_takes.slot)) in
        let ld : length now_dir ≡ length dir =
        ap length o.dir_is ∙ length-put dir t.leaf (counted d (word_count d - 1) ∷ []) (omega (arith, remove_takes.place)) in
        let ls : length now_slots ≡ length slots =
        ap length o.slots_are ∙ length-put slots a (part slots (a + 1) (word_count d - (t.slot + 1))) (omega (arith, l, g.inside, g.count_fits, remove_takes.slot)) in
        λ k. record {
          fanout_is = refl;
          same_dir = ld;
          same_slots = ls;
          same_arena = refl;
          index = λ ns y z.
              let q = (s ns y).pieces in
              removed_presumed y z o ld ls refl refl refl
              (ap (λ (n : ℕ). h.charge - n) (omega (arith, q.key_length, q.value_length)));
        }
