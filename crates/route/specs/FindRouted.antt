-- A key sought in the leaf that owns it: what the search asks, and that its answer is the key's place among the leaf's pairs.
-- Assumes nothing.
use Rattle.std.specs.Prelude.{◌-◌, ◌<◌, ℕ, List, ◌≡◌, drop, get_or, length, take}
use Rattle.std.proofs.Common.{◌∙◌, ap, arith, length-drop, take_all, Result}
use Rattle.layout.specs.Buffers.{slot_words}
use Rattle.layout.specs.Lays.{buffers}
use Rattle.layout.specs.Presumed.{Presumed}
use Rattle.layout.specs.declared.Header.{Header}
use Rattle.leaf.specs.FindLaws.{leaf_slots_are, suffix-place, suffix_rising}
use Rattle.leaf.specs.Finds.{Suffixes, find_told, leaf_slots, suffixes_of}
use Rattle.leaf.specs.declared.Leaf.{Leaf}
use Rattle.model.specs.Leaves.{Node, owner}
use Rattle.model.proofs.OwnerLaws.{tiled_at}
use Rattle.model.specs.Place.{place}
use Rattle.model.specs.PrefixLaws.{prefix_low}
use Rattle.order.specs.Bytes.{Bytes}
use Rattle.route.specs.RouteLaws.{key_begins, leaf_lays, leaf_read_lays, leaf_slots_in, leaf_words_inside, place_in, routed}
use Rattle.route.specs.Routes.{LeafIs, leaf_at, upper_of}

module _ {h : Header} {dir slots arena : List ℕ} {ns : List Node} {j : ℕ} {leaf : Leaf} (x : Presumed h dir slots arena ns) (l : LeafIs h dir ns j leaf) where
  slots_are : leaf_slots slots leaf ≡ slot_words (buffers h slots arena) (get_or dir j 0)
  slots_are = leaf_slots_are (buffers h slots arena) (get_or dir j 0) leaf l.number_is l.fanout_is l.pairs_are

  pub find_asks : j < h.leaves → Suffixes slots arena leaf
  unfolding leaf_slots
  find_asks k = record {
    room = leaf_slots_in l x k;
    inside = leaf_words_inside l x k;
    rising = rw slots_are (suffix_rising (buffers h slots arena) _ (get_or dir j 0) (leaf_at ns j) (leaf_lays x j k) (tiled_at ns j x.tiles.tiled (place_in x k)).rises);
  }

  -- (the key's part as `&key[p..]` gives it)
  pub find_routed : (k : Bytes) {f : Result ℕ ℕ} → j ≡ owner k ns
      → f ≡ find_told (place (take (length k - leaf.prefix_length) (drop leaf.prefix_length k)) (suffixes_of arena (leaf_slots slots leaf)))
      → f ≡ find_told (place k (leaf_at ns j).pairs)
  find_routed k e f =
      let r = routed x k e in
      let p = leaf.prefix_length in
      let d = get_or dir j 0 in
      let b = buffers h slots arena in
      let q = leaf_read_lays l x r.within in
      let c : take (length k - p) (drop p k) ≡ drop p k = take_all (length k - p) (drop p k) (omega (arith, length-drop p k)) in
      f ∙ ap (λ (s : Bytes). find_told (place s (suffixes_of arena (leaf_slots slots leaf)))) c
      ∙ ap (λ (ws : List ℕ). find_told (place (drop p k) (suffixes_of arena ws))) slots_are
      ∙ ap find_told (suffix-place b p d (leaf_at ns j) k q (rw l.prefix_is (prefix_low (leaf_at ns j).low (upper_of ns j))) (key_begins l r))
