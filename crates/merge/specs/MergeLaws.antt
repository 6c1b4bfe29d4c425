-- What a merge reads of an index, and that what its steps ask is met: the prefix kept is the front of both low keys, there is room for what is
-- regained, and the leaf list left is the merged one.
-- Assumes nothing.
use Rattle.std.specs.Prelude.{ℕ, suc, ◌+◌, ◌-◌, ◌*◌, ◌≤◌, ◌<◌, List, [], ◌++◌, ◌≡◌, drop, get_or, length, take}
use Rattle.std.proofs.Common.{◌∙◌, ap, subst, sym, arith, Option}
use Rattle.directory.specs.Used.{lent, used_from, used_to, word_at}
use Rattle.layout.proofs.AroundLaws.{lays_of}
use Rattle.layout.specs.Frames.{WordsIn}
use Rattle.layout.specs.Lays.{Lays, LaysAt, buffers, prefixes_of}
use Rattle.layout.specs.LaysLaws.{prefixes_at}
use Rattle.layout.proofs.LaysWords.{holds_long}
use Rattle.layout.specs.Order.{leaf_words, words_of}
use Rattle.layout.specs.Presumed.{Presumed}
use Rattle.layout.specs.Viewed.{Views, leaves_of, view_held}
use Rattle.layout.specs.declared.Header.{Header}
use Rattle.layout.specs.declared.lent.View.{View}
use Rattle.leaf.specs.Keys.{PrefixOf}
use Rattle.leaf.specs.declared.Leaf.{Leaf}
use Rattle.lists.specs.All.{all_mono}
use Rattle.lists.proofs.PartLaws.{length-part}
use Rattle.model.specs.Charge.{charge, stored}
use Rattle.model.specs.Good.{GoodLeaf, Tiled, limits}
use Rattle.model.specs.Leaves.{Node, Under, node}
use Rattle.model.specs.LimitLaws.{arena_limit_fits, key_limit_fits}
use Rattle.model.proofs.OwnerLaws.{tiled_at}
use Rattle.model.specs.PrefixLaws.{prefix_low, span_prefix}
use Rattle.model.proofs.RoomLaws.{merge_room}
use Rattle.model.proofs.StoredLaws.{prefix_grows, regained}
use Rattle.order.specs.Bytes.{◌≺◌}
use Rattle.order.specs.OrderLaws.{below_asym}
use Rattle.regrow.specs.Merge.{CanMerge, Merged, Merges}
use Rattle.regrow.specs.MergeLaws.{merges_at}
use Rattle.room.specs.RoomMet.{presumed_apart}
use Rattle.route.specs.RouteLaws.{leaf_lays, leaf_told, low_from, low_key_at, low_key_is, upper_is}
use Rattle.route.specs.Routes.{LeafIs, UpperRead, leaf_at, low_place, prefix_at, upper_of}
use Rattle.words.specs.Words.{LowKeyUnpacked, word_count}
use Rattle.words.specs.declared.LowKey.{LowKey}
use Rattle.merge.specs.Behind.{CanRoomBehind, RoomBehind, taken_prefix}
use Rattle.merge.specs.Merges.{MergeAsked, MergedLeaf, merge_at}
use Rattle.merge.specs.NodeLaws.{MergeGood, merge_good, merge_is, merge_prefixes, merge_whole}

-- the two leaves and the prefix kept

module _ {h : Header} {dir slots arena : List ℕ} {ns : List Node} (x : Presumed h dir slots arena ns) {j : ℕ} (a : MergeAsked j ns) where
  pub next_used : suc j < h.leaves
  next_used = omega (arith, a.next_in, x.holds.leaves_are)

  next_good : GoodLeaf (limits h.fanout) (leaf_at ns (suc j)) (upper_of ns (suc j))
  next_good = tiled_at ns (suc j) x.tiles.tiled a.next_in

  low_below : (leaf_at ns j).low ≺ (leaf_at ns (suc j)).low
  low_below =
      subst (λ (o : _). Under o (leaf_at ns j).low) (low_from (node 0 [] []) (suc j) ns a.next_in)
      (tiled_at ns j x.tiles.tiled (omega (arith, a.next_in))).low_under

  pub kept_shorter : taken_prefix ns j ≤ prefix_at ns (suc j)
  kept_shorter = prefix_grows (leaf_at ns j).low (leaf_at ns (suc j)).low (upper_of ns (suc j)) (below_asym low_below) next_good.low_under

  kept_same : take (taken_prefix ns j) (leaf_at ns j).low ≡ take (taken_prefix ns j) (leaf_at ns (suc j)).low
  kept_same = sym (span_prefix (leaf_at ns j).low (upper_of ns (suc j)) (leaf_at ns (suc j)).low (below_asym low_below, next_good.low_under))

  merge_free : stored ns + length (leaf_at ns (suc j)).pairs * (prefix_at ns (suc j) - taken_prefix ns j) ≤ length arena
  merge_free =
      let whole = merge_whole j ns a.next_in in
      let n = leaf_at ns j in
      let m = leaf_at ns (suc j) in
      let r = drop (suc (suc j)) ns in
      let room : stored ns + length m.pairs * regained n m r ≤ charge ns =
      subst (λ (z : List Node). stored z + length m.pairs * regained n m r ≤ charge z) (sym whole)
      (merge_room (limits h.fanout) (take j ns) n m r (subst (Tiled (limits h.fanout)) whole x.tiles.tiled) a.empty) in
      omega (arith, room, x.fits.charged)

  merge_ready : (top : ℕ)
      → WordsIn 0 (words_of (lent h.fanout slots arena) (used_to dir h.leaves (suc j)) ++ leaf_words (lent h.fanout slots arena) (word_at dir (suc j))) top
      → WordsIn (top + length (leaf_at ns (suc j)).pairs * (prefix_at ns (suc j) - taken_prefix ns j)) (words_of (lent h.fanout slots arena) (used_from dir h.leaves (suc (suc j)))) (length arena)
      → Merges h.fanout h.leaves dir slots arena j (prefix_at ns (suc j)) (taken_prefix ns j) top (take j (prefixes_of ns)) (get_or (prefixes_of ns) j 0)
      (drop (suc (suc j)) (prefixes_of ns)) (take j ns) (leaf_at ns j) (leaf_at ns (suc j)) (drop (suc (suc j)) ns)
  merge_ready top ends room =
      let y = node 0 [] [] in
      let q : get_or (prefixes_of ns) (suc j) 0 ≡ prefix_at ns (suc j) = prefixes_at y (suc j) ns a.next_in in
      let count = x.holds.leaves_are in
      let laid : LaysAt (lent h.fanout slots arena) (take h.leaves dir) (prefixes_of ns) ns = rw count x.holds.lays in
      let own = presumed_apart x in
      rw q at (merges_at h.fanout h.leaves dir slots arena (prefixes_of ns) ns y (length dir) j laid count (omega (arith, holds_long x.holds, count)) next_used
      own.slots_are own.numbers own.distinct own.few (omega (arith, x.holds.sizes.arena_most, arena_limit_fits)) a.empty
      (all_mono (leaf_at ns (suc j)).pairs (λ p w. omega (arith, w.0, key_limit_fits)) next_good.within)
      (rw q (prefix_low (leaf_at ns (suc j)).low (upper_of ns (suc j))))
      (taken_prefix ns j) top (rw q kept_shorter) kept_same ends (rw q room))

-- the prefix length kept, as it is read
pub kept_read : {h : Header} {dir slots arena : List ℕ} {j next : ℕ} {low : LowKey} {r : ℕ} (upper : Option LowKey) → next ≡ suc j → suc j < h.leaves
    → LowKeyUnpacked (get_or slots (low_place h dir j) 0) low → UpperRead h dir slots next upper → PrefixOf arena low upper r
    → (ns : List Node) → Presumed h dir slots arena ns → r ≡ taken_prefix ns j
kept_read {j = j} {next = next} upper e k u v p ns x =
    p.is ∙ rw (low_key_is x j (omega arith) u, upper_is x next upper v, e)

-- what is read before anything is written: the next leaf, and the prefix length kept
pub record ReadNext (h : Header) (dir slots arena : List ℕ) (j next : ℕ) (leaf : Leaf) (kept : ℕ) : Type 0 where
  pub next_is : next ≡ suc j
  pub leaf_is : (ns : List Node) → Presumed h dir slots arena ns → LeafIs h dir ns next leaf
  pub kept_is : (ns : List Node) → Presumed h dir slots arena ns → kept ≡ taken_prefix ns j

-- (on a view)
pub read_next : {h : Header} {dir slots arena : List ℕ} {j next : ℕ} {leaf : Leaf} {kept : ℕ} (w : View) → Views w h dir slots arena → next ≡ suc j
    → LeafIs w.header w.dir.now (leaves_of w) next leaf → kept ≡ taken_prefix (leaves_of w) j → ReadNext h dir slots arena j next leaf kept
read_next {j = j} {kept = kept} w u e l k =
    record { next_is = e; leaf_is = leaf_told w u l; kept_is = view_held (λ h dir slots arena ns. kept ≡ taken_prefix ns j) w u k }

module _ {h : Header} {dir slots arena : List ℕ} {j next : ℕ} {leaf : Leaf} {kept : ℕ} (v : ReadNext h dir slots arena j next leaf kept) where
  module _ {ns : List Node} (x : Presumed h dir slots arena ns) (a : MergeAsked j ns) where
    prefix_read : leaf.prefix_length ≡ prefix_at ns (suc j)
    prefix_read = (v.leaf_is ns x).prefix_is ∙ ap (prefix_at ns) v.next_is

    pairs_read : leaf.pairs ≡ length (leaf_at ns (suc j)).pairs
    pairs_read = (v.leaf_is ns x).pairs_are ∙ ap (λ (i : ℕ). word_count (get_or dir i 0)) v.next_is ∙ (leaf_lays x (suc j) (next_used x a)).count_is

    pub kept_in : kept ≤ leaf.prefix_length
    kept_in = rw (prefix_read, v.kept_is ns x) (kept_shorter x a)

    pub behind_asked : CanRoomBehind h dir slots arena next leaf.pairs (leaf.prefix_length - kept)
    behind_asked = record {
      nodes = ns;
      presumed = x;
      leaf_in = omega (arith, v.next_is, next_used x a);
      pairs_are = rw v.next_is pairs_read;
      free = rw (pairs_read, prefix_read, v.kept_is ns x) (merge_free x a);
    }

    module _ {now_slots now_arena : List ℕ} (b : RoomBehind h dir slots arena next leaf.pairs (leaf.prefix_length - kept) now_slots now_arena) where
      from_ready : Merges h.fanout h.leaves dir now_slots now_arena j leaf.prefix_length kept b.top (take j (prefixes_of ns)) (get_or (prefixes_of ns) j 0)
          (drop (suc (suc j)) (prefixes_of ns)) (take j ns) (leaf_at ns j) (leaf_at ns (suc j)) (drop (suc (suc j)) ns)
      from_ready =
          rw (prefix_read, v.kept_is ns x) (merge_ready (b.index ns x) a b.top (rw v.next_is at b.ends)
          (rw (v.next_is, pairs_read, prefix_read, v.kept_is ns x) at b.room))

      pub from_asked : CanMerge h.fanout h.leaves dir now_slots now_arena j leaf.prefix_length kept
      from_asked = record {
        top = b.top;
        qs = take j (prefixes_of ns);
        p = get_or (prefixes_of ns) j 0;
        rs = drop (suc (suc j)) (prefixes_of ns);
        l = take j ns;
        n = leaf_at ns j;
        m = leaf_at ns (suc j);
        r = drop (suc (suc j)) ns;
        merges = from_ready;
      }

      merged_lays : {exit_dir exit_slots exit_arena : List ℕ}
          → Merged h.fanout h.leaves dir now_slots now_arena j leaf.prefix_length kept exit_dir exit_slots exit_arena
          → suc (length (merge_at j ns)) ≡ length ns → Lays (buffers h exit_slots exit_arena) exit_dir (merge_at j ns)
      merged_lays {exit_dir} {exit_slots} {exit_arena} g count =
          let t = g.merged from_ready in
          let m = leaf_at ns (suc j) in
          let fewer : h.leaves - 1 ≡ length (merge_at j ns) = omega (arith, x.holds.leaves_are, count) in
          let words = sym (ap (λ (i : ℕ). take i exit_dir) fewer) ∙ t.used in
          let prefixes = ap prefixes_of (merge_is j ns a.next_in) ∙ merge_prefixes (node 0 [] []) m.pairs j ns a.next_in in
          rw (words, prefixes, merge_is j ns a.next_in) (rw (v.kept_is ns x) at (lays_of t.lays))

-- the low key that the merge frees

module _ {h : Header} {dir slots arena : List ℕ} {j next : ℕ} {freed : LowKey} (e : next ≡ suc j) (u : LowKeyUnpacked (get_or slots (low_place h dir next) 0) freed)
    {ns : List Node} (x : Presumed h dir slots arena ns) (a : MergeAsked j ns) where
  freed_long : freed.length ≡ length (leaf_at ns (suc j)).low
  freed_long =
      let w : LowKeyUnpacked (get_or slots (low_place h dir (suc j)) 0) freed = rw e at u in
      sym (length-part arena freed.offset.0 freed.length (low_key_at x (suc j) (next_used x a) w).inside) ∙ ap length (low_key_is x (suc j) (next_used x a) w)

  left : MergeGood (limits h.fanout) (length dir) (length arena) j ns
  left = merge_good (limits h.fanout) (length dir) (length arena) a x.tiles x.fits

  pub freed_charged : freed.length ≤ h.charge
  freed_charged = omega (arith, freed_long, left.charge_is, x.holds.charge_is)

-- the header then
pub record Lowered (h : Header) (freed : LowKey) (r : Header) : Type 0 where
  pub fanout_is : r.fanout ≡ h.fanout
  pub leaves_are : r.leaves ≡ h.leaves - 1
  pub pairs_are : r.pairs ≡ h.pairs
  pub charge_is : r.charge ≡ h.charge - freed.length

pub merge_met : {h : Header} {dir slots arena : List ℕ} {j next : ℕ} {leaf : Leaf} {kept : ℕ} {now_slots now_arena exit_dir exit_slots exit_arena : List ℕ} {freed : LowKey} {r : Header}
    → ReadNext h dir slots arena j next leaf kept → LowKeyUnpacked (get_or slots (low_place h dir next) 0) freed
    → RoomBehind h dir slots arena next leaf.pairs (leaf.prefix_length - kept) now_slots now_arena
    → Merged h.fanout h.leaves dir now_slots now_arena j leaf.prefix_length kept exit_dir exit_slots exit_arena
    → Lowered h freed r → length exit_dir ≡ length dir → length exit_slots ≡ length now_slots → length exit_arena ≡ length now_arena
    → MergedLeaf h dir slots arena j r exit_dir exit_slots exit_arena
merge_met {h} {dir} {slots} {arena} {j} {exit_dir = exit_dir} {exit_slots} {exit_arena} {freed} {r} v u b g w dirs words bytes =
    record { fanout_is = w.fanout_is; same_dir = dirs; same_slots = words ∙ b.same_slots; same_arena = bytes ∙ b.same_arena; index = index }
  where
    index : (ns : List Node) → Presumed h dir slots arena ns → MergeAsked j ns → Presumed r exit_dir exit_slots exit_arena (merge_at j ns)
    index ns x a =
        let good = left v.next_is u x a in
        record {
          holds = record {
            sizes = rw (w.fanout_is, dirs, words ∙ b.same_slots, bytes ∙ b.same_arena) x.holds.sizes;
            leaves_are = w.leaves_are ∙ omega (arith, x.holds.leaves_are, good.count);
            pairs_are = w.pairs_are ∙ x.holds.pairs_are ∙ ap length (sym good.pairs_are);
            charge_is = w.charge_is ∙ omega (arith, x.holds.charge_is, good.charge_is, freed_long v.next_is u x a);
            lays = rw w.fanout_is (merged_lays v x a b g good.count);
          };
          tiles = rw w.fanout_is good.tiles;
          fits = rw (dirs, bytes ∙ b.same_arena) good.fits;
        }
