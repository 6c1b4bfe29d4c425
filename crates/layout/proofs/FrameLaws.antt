-- What a write leaves as it was: a write into the slot words of one leaf keeps the words of every other leaf, and a write of bytes into a gap
-- keeps every leaf.
-- Assumes nothing.
use Rattle.std.specs.Prelude.{◌-◌, suc, ℕ, ◌+◌, ◌≤◌, ◌⊎◌, ◌≡◌, refl, ltb, drop, length}
use mathlib.Core.List.{map-append, List, [], ◌++◌, ◌∷◌, map}
use Rattle.std.proofs.Math.Logic.{inl, inr}
use Rattle.std.proofs.Common.{◌∙◌, sym, eq-or-lt_of_le, mul-le-mul_right, arith, ltb-false, ltb-true}
use Rattle.std.proofs.Math.Path.{ap}
use Rattle.std.proofs.Math.ListN.{take}
use Rattle.std.proofs.Math.Seq.{take-take}
use Rattle.layout.specs.Buffers.{Buffers, low_at, low_word, pair_at, slot_words, suffix_at, value_at}
use Rattle.layout.specs.Lays.{LaysAt, LaysEach, LaysLeaf}
use Rattle.layout.specs.LaysLaws.{each_induct}
use Rattle.layout.specs.Order.{Extent, word_extent, words_of}
use Rattle.layout.proofs.OrderLaws.{order_top, gap_frame}
use Rattle.lists.specs.All.{All, all_left, all_right}
use Rattle.lists.proofs.PartLaws.{get_or-put_after, get_or-put_before, part-part, part-put_after, part-put_before, length-put}
use Rattle.lists.specs.Part.{part, put}
use Rattle.model.specs.LeafViews.{fails, holds, truth}
use Rattle.model.specs.Leaves.{Node}
use Rattle.order.specs.Bytes.{Bytes}
use Rattle.words.specs.Words.{first_slot, word_count, word_leaf, word_offset, word_suffix, word_value}
use Rattle.layout.specs.Frames.{rewritten, first_of, WordsIn, SameBytes, SameWords, SameLeaf, Elsewhere}

-- the bytes of the word w's part, now at the word v's place: v's suffix and value are w's

module _ (arena now : List ℕ) (w v : ℕ) (suffix : word_suffix v ≡ word_suffix w) (value : word_value v ≡ word_value w)
    (bytes : part now (word_offset v) (word_suffix w + word_value w) ≡ part arena (word_offset w) (word_suffix w + word_value w)) where
  pub moved_suffix : suffix_at now v ≡ suffix_at arena w
  unfolding suffix_at
  moved_suffix =
      let cut : (l : List ℕ) (a : ℕ) → take (word_suffix w) (part l a (word_suffix w + word_value w)) ≡ part l a (word_suffix w) =
      λ l a. take-take (word_suffix w) (word_suffix w + word_value w) (drop a l) (omega arith) in
      rw suffix (sym (cut now (word_offset v)) ∙ ap (take (word_suffix w)) bytes ∙ cut arena (word_offset w))

  pub moved_value : value_at now v ≡ value_at arena w
  unfolding value_at
  moved_value =
      let cut : (l : List ℕ) (a : ℕ) → part (part l a (word_suffix w + word_value w)) (word_suffix w) (word_value w) ≡ part l (a + word_suffix w) (word_value w) =
      λ l a. part-part l a (word_suffix w + word_value w) (word_suffix w) (word_value w) (omega arith) in
      rw (suffix, value) (sym (cut now (word_offset v)) ∙ ap (λ (r : List ℕ). part r (word_suffix w) (word_value w)) bytes ∙ cut arena (word_offset w))

  pub moved_pair : (prefix : Bytes) → pair_at now prefix v ≡ pair_at arena prefix w
  unfolding pair_at
  moved_pair prefix = rw (moved_suffix, moved_value)

module _ (arena now : List ℕ) where
  pub same_suffix : (w : ℕ) → SameBytes arena now w → suffix_at now w ≡ suffix_at arena w
  same_suffix w h = moved_suffix arena now w w refl refl h

  pub same_pairs : (prefix : Bytes) (ws : List ℕ) → All (SameBytes arena now) ws → map (pair_at now prefix) ws ≡ map (pair_at arena prefix) ws
  same_pairs prefix [] h = refl
  same_pairs prefix (w ∷ ws) h = rw (moved_pair arena now w w refl refl h.0 prefix, same_pairs prefix ws h.1)

pub all_of : {A : Type 0} {P : A → Type 0} → ((x : A) → P x) → (l : List A) → All P l
all_of f [] = tt
all_of f (x ∷ l) = (f x, all_of f l)

pub same_leaf : {b c : Buffers} {p d : ℕ} {n : Node} → SameLeaf b c d → LaysLeaf b p d n → LaysLeaf c p d n
unfolding low_at
same_leaf {b} {c} {p} {d} {n} s h =
    record {
      number_is = h.number_is;
      count_is = h.count_is;
      low_is = rw s.same.low_word_eq (same_suffix b.arena c.arena (low_word b d) s.bytes.0 ∙ h.low_is);
      no_value = rw s.same.low_word_eq h.no_value;
      pairs_are = rw s.same.words (same_pairs b.arena c.arena (take p n.low) (slot_words b d) s.bytes.1 ∙ h.pairs_are);
    }

module _ (b c : Buffers) where
  pub same_each : (ps ds : List ℕ) (ns : List Node) → All (SameLeaf b c) ds → LaysEach b ps ds ns → LaysEach c ps ds ns
  same_each ps ds ns s h =
      each_induct b (λ ps ds ns. All (SameLeaf b c) ds → LaysEach c ps ds ns) (λ s. tt) (λ p d n ps ds ns l e f s. (same_leaf s.0 l, f s.1)) ps ds ns h s

  pub same_words : (ds : List ℕ) → All (SameLeaf b c) ds → words_of c ds ≡ words_of b ds
  same_words [] s = refl
  same_words (d ∷ ds) s = rw (s.0.same.low_word_eq, s.0.same.words, same_words ds s.1)

  pub same_leaves : (ds : List ℕ) → All (SameWords b c) ds → All (SameBytes b.arena c.arena) (words_of b ds) → All (SameLeaf b c) ds
  same_leaves [] s h = tt
  same_leaves (d ∷ ds) s h = (
    record { same = s.0; bytes = (h.0, all_left (SameBytes b.arena c.arena) (slot_words b d) (words_of b ds) h.1) },
    same_leaves ds s.1 (all_right (SameBytes b.arena c.arena) (slot_words b d) (words_of b ds) h.1),
  )

-- a write into the slot words of one leaf: the words of every other leaf stay

-- its words lie before the region of that leaf, or behind it
apart : (fanout leaf i : ℕ) → (i ≡ leaf → ⊥) → (first_slot fanout i + fanout ≤ first_slot fanout leaf) ⊎ (first_slot fanout leaf + fanout ≤ first_slot fanout i)
apart fanout leaf i o =
    elim (truth (ltb i leaf)) [
      | holds e ↦ inl (omega (arith, mul-le-mul_right {m = suc i} {n = leaf} fanout (ltb-true i leaf e)))
      | fails e ↦ inr (omega (arith, mul-le-mul_right {m = suc leaf} {n = i} fanout (let h : leaf ≤ i = ltb-false i leaf e in elim (eq-or-lt_of_le h) [ inl q ↦ absurd (o (sym q)) | inr q ↦ q ])))
    ]

module _ (b : Buffers) (slots arena : List ℕ) (leaf a : ℕ) (s : List ℕ) (is : slots ≡ put b.slots a s)
    (low : first_slot b.fanout leaf ≤ a) (high : a + length s ≤ first_slot b.fanout leaf + b.fanout) (inside : a ≤ length b.slots) where
  pub region_frame : (d : ℕ) → Elsewhere b.fanout leaf d → SameWords b (rewritten b slots arena) d
  unfolding low_word slot_words
  region_frame d e =
      let i = first_of b d in
      elim (apart b.fanout leaf (word_leaf d) e.other) [
        | inl h ↦
            record {
              low_word_eq = rw is (get_or-put_before b.slots a s (i + (b.fanout - 1)) 0 inside (omega (arith, e.fits)));
              words = rw is (part-put_before b.slots a s i (word_count d) inside (omega (arith, e.fits)));
            }
        | inr h ↦
            record {
              low_word_eq = rw is (get_or-put_after b.slots a s (i + (b.fanout - 1)) 0 inside (omega arith));
              words = rw is (part-put_after b.slots a s i (word_count d) inside (omega arith));
            }
      ]

-- what holds of the parts, said of the words
pub all_words : (P : Extent → Type 0) (ws : List ℕ) → All P (map word_extent ws) → All (λ w. P (word_extent w)) ws
all_words P [] h = tt
all_words P (w ∷ ws) h = (h.0, all_words P ws h.1)

-- a write of bytes at x, behind the parts of the words ws and before those of vs: the bytes of all these parts stay
pub bytes_frame : (arena now : List ℕ) (x : ℕ) (bytes ws vs : List ℕ) → now ≡ put arena x bytes → WordsIn 0 ws x → WordsIn (x + length bytes) vs (length arena)
    → All (SameBytes arena now) (ws ++ vs)
bytes_frame arena now x bytes ws vs is h k =
    rw is (all_words (λ e. part (put arena x bytes) e.at e.size ≡ part arena e.at e.size) (ws ++ vs)
    (rw map-append (gap_frame arena x bytes (map word_extent ws) (map word_extent vs) (length arena) h k (omega arith))))

-- so it keeps every leaf
pub write_gap : {b : Buffers} {ds ps : List ℕ} {ns : List Node} (arena : List ℕ) (x : ℕ) (bytes ws vs : List ℕ) → LaysAt b ds ps ns
    → arena ≡ put b.arena x bytes → words_of b ds ≡ ws ++ vs → WordsIn 0 ws x → WordsIn (x + length bytes) vs (length b.arena)
    → LaysAt (rewritten b b.slots arena) ds ps ns
unfolding low_word slot_words
write_gap {b} {ds} {ps} {ns} arena x bytes ws vs h is e k m =
    let c = rewritten b b.slots arena in
    let s : All (SameLeaf b c) ds =
    same_leaves b c ds (all_of (λ d. record { low_word_eq = refl; words = refl }) ds) (rw e (bytes_frame b.arena arena x bytes ws vs is k m)) in
    let n : length arena ≡ length b.arena = ap length is ∙ length-put b.arena x bytes (order_top _ (map word_extent vs) _ m) in
    record { leaves = same_each b c ps ds ns s h.leaves; ordered = rw (n, same_words b c ds s) h.ordered }
