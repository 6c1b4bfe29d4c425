-- The parts of laid-out leaves: all inside the arena and none overlapping (document 01's W), and their bytes add up to the stored bytes of
-- the leaf list (L9), so that these are no more than the arena has.
-- Assumes nothing.
use Rattle.std.specs.Prelude.{◌+◌, ◌-◌, ◌<◌, ◌≤◌, suc, zero, ℕ, List, [], ◌++◌, ◌∷◌, map, ◌≡◌, refl, get_or, length, take}
use Rattle.std.proofs.Common.{append_assoc, ap₂, ◌∙◌, ap, sym, add-zero, arith, length-append, length-take-le}
use Rattle.std.proofs.lemmas.List.{map-append}
use Rattle.layout.specs.Buffers.{Buffers, low_at, low_word, pair_at, slot_words, suffix_at, value_at, value_place}
use Rattle.layout.specs.Lays.{LaysEach, prefixes_of, LaysAt, LaysLeaf}
use Rattle.layout.specs.LaysLaws.{each_induct}
use Rattle.layout.specs.Order.{Extent, extents, leaf_words, word_extent, words_of, Apart, total}
use Rattle.layout.proofs.OrderLaws.{order_total, order_apart, order_before}
use Rattle.lists.specs.All.{All, all_left, all_right}
use Rattle.lists.proofs.PartLaws.{length-part}
use Rattle.model.specs.Charge.{stored, stored_pairs}
use Rattle.model.specs.Leaves.{low_of, Node}
use Rattle.model.specs.PrefixLaws.{prefix_low}
use Rattle.words.specs.Words.{word_offset, word_suffix, word_value}
use Rattle.layout.specs.LaysParts.{WordInside, stored_at, Covered}

-- the words of a list of directory words

module _ (b : Buffers) where
  pub words_append : (ds es : List ℕ) → words_of b (ds ++ es) ≡ words_of b ds ++ words_of b es
  words_append [] es = refl
  words_append (d ∷ ds) es = rw (words_append ds es) (sym (append_assoc (leaf_words b d) (words_of b ds) (words_of b es)))

  pub words_at : (P : ℕ → Type 0) (j : ℕ) (ds : List ℕ) → j < length ds → All P (words_of b ds) → All P (leaf_words b (get_or ds j 0))
  words_at P j [] h a = absurd (omega arith)
  words_at P zero (d ∷ ds) h a = all_left P (leaf_words b d) (words_of b ds) a
  words_at P (suc j) (d ∷ ds) h a = words_at P j ds (omega arith) (all_right P (leaf_words b d) (words_of b ds) a)

pub suffix-length : (arena : List ℕ) (w : ℕ) → WordInside arena w → length (suffix_at arena w) ≡ word_suffix w
unfolding suffix_at
suffix-length arena w h = length-part arena (word_offset w) (word_suffix w) (omega arith)

pub value_length : (arena : List ℕ) (w : ℕ) → WordInside arena w → length (value_at arena w) ≡ word_value w
unfolding value_at
value_length arena w h = length-part arena (value_place w) (word_value w) (omega arith)

all_unmap : {A B : Type 0} (P : B → Type 0) (f : A → B) (l : List A) → All P (map f l) → All (λ x. P (f x)) l
all_unmap P f [] a = tt
all_unmap P f (x ∷ l) a = (a.0, all_unmap P f l a.1)

module _ (b : Buffers) (ds ps : List ℕ) (ns : List Node) (l : LaysAt b ds ps ns) where
  pub lays_inside : All (λ e. e.at + e.size ≤ length b.arena) (extents b ds)
  lays_inside = order_before 0 (extents b ds) (length b.arena) l.ordered

  pub lays_apart : Apart (extents b ds)
  lays_apart = order_apart 0 (extents b ds) (length b.arena) l.ordered

  pub lays_words_inside : All (WordInside b.arena) (words_of b ds)
  lays_words_inside = all_unmap (λ e. e.at + e.size ≤ length b.arena) word_extent (words_of b ds) lays_inside

-- stored bytes

pub total_append : (es fs : List Extent) → total (es ++ fs) ≡ total es + total fs
total_append [] fs = omega arith
total_append (e ∷ es) fs = omega (arith, total_append es fs)

total_words : (b : Buffers) (d : ℕ) (ds : List ℕ) → total (extents b (d ∷ ds)) ≡ total (map word_extent (leaf_words b d)) + total (extents b ds)
total_words b d ds = ap total (map-append word_extent (leaf_words b d) (words_of b ds)) ∙ total_append (map word_extent (leaf_words b d)) (extents b ds)

pairs_stored : (arena prefix ws : List ℕ) → All (WordInside arena) ws → total (map word_extent ws) ≡ stored_pairs (length prefix) (map (pair_at arena prefix) ws)
unfolding stored_pairs pair_at
pairs_stored arena prefix [] a = refl
pairs_stored arena prefix (w ∷ ws) a =
    rw (length-append prefix (suffix_at arena w), suffix-length arena w a.0, value_length arena w a.0, ← pairs_stored arena prefix ws a.1)
    (add_back (length prefix) (word_suffix w) (word_value w) (total (map word_extent ws)))
  where
    add_back : (x s v t : ℕ) → (s + v) + t ≡ (x + s - x) + v + t
    add_back x s v t = omega arith

-- of one leaf, at the prefix length at which it is stored
pub leaf_stored : (b : Buffers) (p d : ℕ) (n : Node) → LaysLeaf b p d n → p ≤ length n.low → All (WordInside b.arena) (leaf_words b d)
    → total (map word_extent (leaf_words b d)) ≡ length n.low + stored_pairs p n.pairs
unfolding low_at
leaf_stored b p d n l h a =
    let x : length n.low ≡ word_suffix (low_word b d) = ap length (sym l.low_is) ∙ suffix-length b.arena (low_word b d) a.0 in
    let y : total (map word_extent (slot_words b d)) ≡ stored_pairs p n.pairs =
    pairs_stored b.arena (take p n.low) (slot_words b d) a.1 ∙ rw (length-take-le p n.low h, l.pairs_are) in
    rw (l.no_value, ← x, y) (ap (λ (i : ℕ). i + stored_pairs p n.pairs) (add-zero (length n.low)))

-- of all leaves, at any prefix lengths within the low keys

pub each_stored : (b : Buffers) (ps ds : List ℕ) (ns : List Node) → LaysEach b ps ds ns → Covered ps ns → All (WordInside b.arena) (words_of b ds)
    → total (extents b ds) ≡ stored_at ps ns
each_stored b ps ds ns e =
    each_induct b (λ ps ds ns. Covered ps ns → All (WordInside b.arena) (words_of b ds) → total (extents b ds) ≡ stored_at ps ns)
    (λ c a. refl)
    (λ p d n ps ds ns l e h c a. total_words b d ds ∙ ap₂ (λ (i j : ℕ). i + j)
    (leaf_stored b p d n l c.0 (all_left (WordInside b.arena) (leaf_words b d) (words_of b ds) a))
    (h c.1 (all_right (WordInside b.arena) (leaf_words b d) (words_of b ds) a)))
    ps ds ns e

-- at L2's

stored_of : (ns : List Node) → stored_at (prefixes_of ns) ns ≡ stored ns
unfolding stored
stored_of [] = refl
stored_of (n ∷ ns) = rw (stored_of ns)

prefixes_covered : (ns : List Node) → Covered (prefixes_of ns) ns
prefixes_covered [] = tt
prefixes_covered (n ∷ ns) = (prefix_low n.low (low_of ns), prefixes_covered ns)

pub lays_stored : (b : Buffers) (ds : List ℕ) (ns : List Node) → LaysAt b ds (prefixes_of ns) ns → total (extents b ds) ≡ stored ns
lays_stored b ds ns l =
    each_stored b (prefixes_of ns) ds ns l.leaves (prefixes_covered ns) (lays_words_inside b ds (prefixes_of ns) ns l) ∙ stored_of ns

pub lays_room : (b : Buffers) (ds : List ℕ) (ns : List Node) → LaysAt b ds (prefixes_of ns) ns → stored ns ≤ length b.arena
lays_room b ds ns l = omega (arith, lays_stored b ds ns l, order_total 0 (extents b ds) (length b.arena) l.ordered)
