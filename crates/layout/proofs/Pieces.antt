-- A pair of an index in the arena: its key in two pieces, the leaf's prefix in the low key and its own suffix, and its value behind the suffix.
-- Assumes nothing.
use Rattle.std.specs.Prelude.{◌<◌, ◌≤◌, suc, ℕ, ◌≡◌, drop, take}
use mathlib.Core.List.{List, [], ◌++◌}
use Rattle.std.proofs.Common.{◌∙◌, arith, length-append}
use Rattle.std.proofs.Math.Path.{ap, sym}
use Rattle.std.proofs.Math.ListN.{get_or, length}
use Rattle.std.proofs.Math.Seq.{take-take}
use Rattle.layout.specs.Buffers.{Buffers, low_at, low_word, pair_at, slot_words, suffix_at, value_at, value_place}
use Rattle.layout.specs.Lays.{LaysLeaf, buffers}
use Rattle.layout.specs.LaysParts.{WordInside}
use Rattle.layout.proofs.LaysParts.{suffix-length}
use Rattle.layout.proofs.LaysWords.{holds_at, holds_inside, leaf_slots, pair_at_lem, slot_at}
use Rattle.layout.specs.Places.{place_of}
use Rattle.layout.proofs.PlacesLaws.{holds_word}
use Rattle.layout.specs.Presumed.{Presumed}
use Rattle.layout.specs.declared.Header.{Header}
use Rattle.lists.specs.All.{all_at}
use Rattle.lists.proofs.PartLaws.{length-part}
use Rattle.lists.specs.Part.{part}
use Rattle.model.specs.Good.{GoodLeaf, limits}
use Rattle.model.specs.Leaves.{Node, Spans, low_of, node, prefix_length}
use Rattle.model.specs.LimitLaws.{arena_limit_fits}
use Rattle.model.specs.Map.{Pair, pair}
use Rattle.model.specs.SpansAt.{SpansAt}
use Rattle.model.proofs.OwnerLaws.{no_other_owner, tiled_at}
use Rattle.model.specs.Place.{place_of_lem}
use Rattle.model.specs.PrefixLaws.{prefix_low}
use Rattle.order.specs.Bytes.{Bytes}
use Rattle.words.specs.Words.{word_count, word_offset, word_suffix, word_value}
use Rattle.layout.specs.Pieces.{pair_in, InList, Pieces, word_at_slot}

module _ {h : Header} {dir slots arena : List ℕ} {ns : List Node} (x : Presumed h dir slots arena ns) {j i : ℕ} (m : InList ns j i) where
  abbrev b : Buffers
  b = buffers h slots arena

  abbrev d : ℕ
  d = get_or dir j 0

  abbrev w : ℕ
  w = word_at_slot h.fanout slots d i

  abbrev n : Node
  n = get_or ns j (node 0 [] [])

  abbrev p : ℕ
  p = prefix_length n.low (low_of (drop (suc j) ns))

  laid : LaysLeaf b p d n
  laid = holds_at x.holds (node 0 [] []) j m.leaf_in

  good : GoodLeaf (limits h.fanout) n (low_of (drop (suc j) ns))
  good = tiled_at ns j x.tiles.tiled m.leaf_in

  pair_is : pair_in ns j i ≡ pair_at arena (take p n.low) w
  pair_is = pair_at_lem b p d n (pair [] []) i laid m.slot_in

  counted : i < word_count d
  counted = rw laid.count_is m.slot_in

  low_inside : WordInside arena (low_word b d)
  low_inside = (holds_inside x.holds j m.leaf_in).0

  word_is : get_or (slot_words b d) i 0 ≡ w
  word_is = slot_at b d i counted

  inside : WordInside arena w
  inside =
      rw word_is at (all_at (WordInside arena) (slot_words b d) i 0 (rw (leaf_slots b p d n laid) m.slot_in) (holds_inside x.holds j m.leaf_in).1)

  low_length : length n.low ≡ word_suffix (low_word b d)
  unfolding low_at
  low_length = ap length (sym laid.low_is) ∙ suffix-length arena (low_word b d) low_inside

  prefix_short : p ≤ word_suffix (low_word b d)
  prefix_short = omega (arith, prefix_low n.low (low_of (drop (suc j) ns)), low_length)

  prefix_is : take p n.low ≡ part arena (word_offset (low_word b d)) p
  unfolding low_at suffix_at
  prefix_is = ap (take p) (sym laid.low_is) ∙ take-take p (word_suffix (low_word b d)) (drop (word_offset (low_word b d)) arena) prefix_short

  key_pieces : part arena (word_offset (low_word b d)) p ++ part arena (word_offset w) (word_suffix w) ≡ (pair_in ns j i).key
  unfolding pair_at suffix_at
  key_pieces = sym (ap (λ (y : Pair). y.key) pair_is ∙ ap (λ (l : Bytes). l ++ suffix_at arena w) prefix_is)

  value_piece : part arena (value_place w) (word_value w) ≡ (pair_in ns j i).value
  unfolding pair_at value_at
  value_piece = sym (ap (λ (y : Pair). y.value) pair_is)

  spans : SpansAt ns (pair_in ns j i).key j
  spans = record { within = m.leaf_in; spans = all_at (λ y. Spans n.low (low_of (drop (suc j) ns)) y.key) n.pairs i (pair [] []) m.slot_in good.spanned }

  place_here : value_place w ≡ place_of h dir slots arena ns (pair_in ns j i).key
  unfolding place_of
  place_here =
      let o = no_other_owner (pair_in ns j i).key ns j x.tiles spans in
      let q = place_of_lem (pair [] []) n.pairs i m.slot_in good.rises in
      ap value_place (sym (holds_word x (pair_in ns j i).key i (rw (sym o) q) ∙ ap (λ (k : ℕ). get_or (slot_words b (get_or dir k 0)) i 0) (sym o) ∙ word_is))

  pub pieces_of : Pieces h dir slots arena ns (pair_in ns j i) (word_offset (low_word b d)) p (word_offset w) (word_suffix w) (word_value w)
  pieces_of =
      let a : length (part arena (word_offset (low_word b d)) p) ≡ p = length-part arena (word_offset (low_word b d)) p (omega (arith, low_inside, prefix_short)) in
      let c : length (part arena (word_offset w) (word_suffix w)) ≡ word_suffix w = length-part arena (word_offset w) (word_suffix w) (omega (arith, inside)) in
      let v : length (part arena (value_place w) (word_value w)) ≡ word_value w = length-part arena (value_place w) (word_value w) (omega (arith, inside)) in
      record {
        arena_fits = omega (arith, x.holds.sizes.arena_most, arena_limit_fits);
        low_in = omega (arith, low_inside, prefix_short);
        parts_in = omega (arith, inside);
        key_is = key_pieces;
        value_is = value_piece;
        key_length = sym (ap length (sym key_pieces) ∙ length-append (part arena (word_offset (low_word b d)) p) (part arena (word_offset w) (word_suffix w)) ∙ omega (arith, a, c));
        value_length = sym (ap length (sym value_piece) ∙ v);
        place_is = place_here;
      }
