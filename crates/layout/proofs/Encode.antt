-- An encoder of leaf lists, the witness of Existence.antt: the parts of all leaves end to end, in order, and the words that name them. Shown
-- here for one leaf: its region of the slot buffer and its bytes in the arena lay it out, and its parts are in order.
-- Assumes nothing.
use Rattle.std.specs.Prelude.{◌+◌, ◌-◌, ◌<◌, ◌^◌, suc, ℕ, ◌≡◌, refl, drop, take}
use mathlib.Core.List.{append_assoc, List, [], ◌++◌, ◌∷◌, map}
use Rattle.std.proofs.Common.{◌∙◌, sym, add_assoc, add-zero, arith, length-append, take-append-drop, take_at, take-take}
use Rattle.std.proofs.Math.Path.{ap}
use Rattle.std.proofs.lemmas.List.{length-replicate}
use Rattle.std.proofs.Math.ListN.{get_or, length}
use Rattle.std.proofs.Math.Seq.{get_or_at, drop-append_seam, take-length, take-append_seam}
use Rattle.layout.specs.Buffers.{low_at, Buffers, low_word, slot_words, pair_at, suffix_at, value_at}
use Rattle.layout.specs.Lays.{LaysLeaf}
use Rattle.layout.specs.Order.{leaf_words, word_extent, Extent, InOrder}
use Rattle.lists.specs.All.{All}
use Rattle.lists.proofs.PartLaws.{get_or-part, part-part}
use Rattle.lists.specs.Part.{part}
use Rattle.model.specs.Leaves.{Node}
use Rattle.model.specs.Map.{Pair, pair}
use Rattle.order.specs.Bytes.{Bytes}
use Rattle.words.specs.Laws.{count_of_directory, leaf_of_directory, offset_of_slot, suffix_of_slot, value_of_slot}
use Rattle.words.specs.Words.{first_slot, word_count, word_leaf, slot_word}
use Rattle.layout.specs.Encode.{Lies, pair_bytes, leaf_bytes, pair_words, low_word_of, region_head, region, directory_of, Storable, Written}

module _ (l : List ℕ) (a : ℕ) (x y : List ℕ) (s : Lies l a (x ++ y)) where
  pub lies_left : Lies l a x
  lies_left = record {
    reads =
        sym (take-take (length x) (length (x ++ y)) (drop a l) (rw length-append (omega arith))) ∙ ap (take (length x)) s.reads ∙ take-append_seam x y;
  }

  pub lies_right : Lies l (a + length x) y
  lies_right = record {
    reads =
        sym (part-part l a (length (x ++ y)) (length x) (length y) (rw length-append (omega arith))) ∙ ap (λ (r : List ℕ). part r (length x) (length y)) s.reads
        ∙ ap (take (length y)) (drop-append_seam x y) ∙ take-length y;
  }

-- the bytes of a leaf that is stored at prefix length p: its low key, then each pair's suffix and value

-- its slot words, the parts from a on; all F words of its region, its low-key word last

pub length_words : (p a : ℕ) (m : List Pair) → length (pair_words p a m) ≡ length m
unfolding pair_words
length_words p a [] = refl
length_words p a (q ∷ m) = ap suc (length_words p (a + length (drop p q.key ++ q.value)) m)

word_reads : (arena : List ℕ) (prefix : Bytes) (a s v : ℕ) → s < 2 ^ 12 → v < 2 ^ 24 → pair_at arena prefix (slot_word a s v) ≡ pair (prefix ++ part arena a s) (part arena (a + s) v)
unfolding pair_at suffix_at value_at
word_reads arena prefix a s v h k = rw (offset_of_slot a s v h k, suffix_of_slot a s v h k, value_of_slot a s v h k)

pub pairs_laid : (arena : List ℕ) (prefix : Bytes) (p a : ℕ) (m : List Pair) → Lies arena a (pair_bytes p m) → All (Storable p prefix) m → map (pair_at arena prefix) (pair_words p a m) ≡ m
unfolding pair_words pair_bytes
pairs_laid arena prefix p a [] s f = refl
pairs_laid arena prefix p a (q ∷ m) s f =
    let x = drop p q.key in
    let here = lies_left arena a (x ++ q.value) (pair_bytes p m) s in
    let one : pair_at arena prefix (slot_word a (length x) (length q.value)) ≡ q =
    word_reads arena prefix a (length x) (length q.value) f.0.suffix_fits f.0.value_fits
    ∙ rw ((lies_left arena a x q.value here).reads, (lies_right arena a x q.value here).reads, ← f.0.begins, take-append-drop p q.key) in
    cc (one, pairs_laid arena prefix p (a + length (x ++ q.value)) m (lies_right arena a (x ++ q.value) (pair_bytes p m) s) f.1)

-- the region read back

module _ (fanout p a : ℕ) (n : Node) (h : length n.pairs < fanout) where
  head_long : length (region_head fanout p a n) ≡ fanout - 1
  head_long = simp (length-append, length_words, length-replicate) (omega arith)

  pub region_long : length (region fanout p a n) ≡ fanout
  unfolding region
  region_long = rw (length-append, head_long) (omega arith)

  region_slots : take (length n.pairs) (region fanout p a n) ≡ pair_words p (a + length n.low) n.pairs
  unfolding region
  region_slots = rw append_assoc (take_at (pair_words p (a + length n.low) n.pairs) _ (length n.pairs) (length_words p (a + length n.low) n.pairs))

  region_low : get_or (region fanout p a n) (fanout - 1) 0 ≡ low_word_of a n
  unfolding region
  region_low = get_or_at (region_head fanout p a n) (low_word_of a n) [] 0 (fanout - 1) head_long

module _ (b : Buffers) (p a : ℕ) (n : Node) (w : Written b p a n) where
  leaf_is : word_leaf (directory_of n) ≡ n.number
  leaf_is = leaf_of_directory n.number (length n.pairs) w.count_fits

  count_of : word_count (directory_of n) ≡ length n.pairs
  count_of = count_of_directory n.number (length n.pairs) w.count_fits

  slots_are : slot_words b (directory_of n) ≡ pair_words p (a + length n.low) n.pairs
  unfolding slot_words
  slots_are =
      rw (leaf_is, count_of)
      (sym (take-take (length n.pairs) b.fanout (drop (first_slot b.fanout n.number) b.slots) (omega (arith, w.counted)))
      ∙ ap (take (length n.pairs)) w.words ∙ region_slots b.fanout p a n w.counted)

  low_word_is : low_word b (directory_of n) ≡ low_word_of a n
  unfolding low_word
  low_word_is =
      rw leaf_is
      (sym (get_or-part b.slots (first_slot b.fanout n.number) b.fanout (b.fanout - 1) 0 (omega (arith, w.counted)))
      ∙ ap (λ (r : List ℕ). get_or r (b.fanout - 1) 0) w.words ∙ region_low b.fanout p a n w.counted)

  pub leaf_laid : LaysLeaf b p (directory_of n) n
  unfolding low_at suffix_at
  leaf_laid = record {
    number_is = leaf_is;
    count_is = count_of;
    low_is =
        rw (low_word_is, offset_of_slot a (length n.low) 0 w.low_fits (omega arith), suffix_of_slot a (length n.low) 0 w.low_fits (omega arith))
        (lies_left b.arena a n.low (pair_bytes p n.pairs) w.bytes).reads;
    no_value = rw low_word_is (value_of_slot a (length n.low) 0 w.low_fits (omega arith));
    pairs_are =
        rw slots_are
        (pairs_laid b.arena (take p n.low) p (a + length n.low) n.pairs (lies_right b.arena a n.low (pair_bytes p n.pairs) w.bytes) w.storable);
  }

-- parts in order

slot_ordered : (a s v x : ℕ) (es : List Extent) (top : ℕ) → s < 2 ^ 12 → v < 2 ^ 24 → x ≡ s + v → InOrder (a + x) es top
    → InOrder a (word_extent (slot_word a s v) ∷ es) top
slot_ordered a s v x es top h k e o = rw (offset_of_slot a s v h k, suffix_of_slot a s v h k, value_of_slot a s v h k, ← e) (omega arith, o)

pairs_ordered : (prefix : Bytes) (p a : ℕ) (m : List Pair) (es : List Extent) (top : ℕ) → All (Storable p prefix) m → InOrder (a + length (pair_bytes p m)) es top
    → InOrder a (map word_extent (pair_words p a m) ++ es) top
unfolding pair_words pair_bytes
pairs_ordered prefix p a [] es top f o = rw add-zero at o
pairs_ordered prefix p a (q ∷ m) es top f o =
    let x = drop p q.key ++ q.value in
    slot_ordered a (length (drop p q.key)) (length q.value) (length x) (map word_extent (pair_words p (a + length x) m) ++ es) top
    f.0.suffix_fits f.0.value_fits (length-append (drop p q.key) q.value)
    (pairs_ordered prefix p (a + length x) m es top f.1 (rw (length-append x (pair_bytes p m), ← add_assoc a (length x) (length (pair_bytes p m))) at o))

pub leaf_ordered : (b : Buffers) (p a : ℕ) (n : Node) (es : List Extent) (top : ℕ) → Written b p a n → InOrder (a + length (leaf_bytes p n)) es top
    → InOrder a (map word_extent (leaf_words b (directory_of n)) ++ es) top
leaf_ordered b p a n es top w o =
    rw (low_word_is b p a n w, slots_are b p a n w)
    (slot_ordered a (length n.low) 0 (length n.low) (map word_extent (pair_words p (a + length n.low) n.pairs) ++ es) top w.low_fits (omega arith) (omega arith)
    (pairs_ordered (take p n.low) p (a + length n.low) n.pairs es top w.storable
    (rw (length-append n.low (pair_bytes p n.pairs), ← add_assoc a (length n.low) (length (pair_bytes p n.pairs))) at o)))
