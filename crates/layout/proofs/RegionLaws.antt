-- The region of a leaf in the slot buffer: no other leaf's words are in it; and the leaf's words after a write into it.
-- Assumes nothing.
use Rattle.std.specs.Prelude.{suc, ◌*◌, ◌-◌, ◌<◌, ℕ, ◌+◌, ◌≤◌, List, [], ◌++◌, ◌∷◌, ◌≡◌, get_or, drop, length, take}
use Rattle.std.proofs.Common.{subst, ◌∙◌, ap, sym, mul_comm, mul-le-mul_right, arith, drop-drop}
use Rattle.std.proofs.Math.Nat.{add-zero}
use Rattle.std.proofs.Math.Seq.{split_at, take-take}
use Rattle.layout.proofs.AroundLaws.{around_at, lays_of}
use Rattle.layout.specs.Around.{LaysAround}
use Rattle.layout.specs.Buffers.{Buffers, low_word, slot_words}
use Rattle.layout.specs.Frames.{Elsewhere, SameWords, first_of, rewritten}
use Rattle.layout.proofs.FrameLaws.{region_frame}
use Rattle.layout.specs.Lays.{LaysAt, LaysEach}
use Rattle.layout.specs.LaysLaws.{each_induct}
use Rattle.lists.specs.All.{all_at, All, all_append, all_left, all_mono, all_right}
use Rattle.lists.proofs.PartLaws.{get_or-put_after, get_or-put_in, part-add, part-put, part-put_after, part-put_before, take-drop}
use Rattle.lists.specs.Part.{part, put}
use Rattle.model.specs.Good.{Distinct}
use Rattle.model.specs.Leaves.{Node}
use Rattle.words.specs.Words.{first_slot, low_key_slot, word_count, word_leaf}
use Rattle.layout.specs.Regions.{Owns}

region_inside : (fanout pool leaf slots : ℕ) → slots ≡ fanout * pool → leaf < pool → first_slot fanout leaf + fanout ≤ slots
region_inside fanout pool leaf slots s i = omega (arith, mul-le-mul_right fanout i, mul_comm fanout pool)

-- so it is where the leaves have different numbers of the pool and fewer pairs than the fanout

elsewhere : (b : Buffers) (leaf : ℕ) (ps ds : List ℕ) (ns : List Node) → LaysEach b ps ds ns → All (λ m. m.number ≡ leaf → ⊥) ns
    → All (λ m. length m.pairs < b.fanout) ns → All (Elsewhere b.fanout leaf) ds
elsewhere b leaf =
    each_induct b (λ ps ds ns. All (λ m. m.number ≡ leaf → ⊥) ns → All (λ m. length m.pairs < b.fanout) ns → All (Elsewhere b.fanout leaf) ds)
    (λ o f. tt)
    (λ p d m ps ds ns h e r o f. (record { other = λ q. o.0 (sym h.number_is ∙ q); fits = omega (arith, h.count_is, f.0) }, r o.1 f.1))

distinct_around : (l : List Node) (n : Node) (r : List Node) → Distinct (l ++ (n ∷ r))
    → All (λ m. m.number ≡ n.number → ⊥) l × All (λ m. m.number ≡ n.number → ⊥) r
distinct_around [] n r h = (tt, all_mono r (λ m o e. o (sym e)) h.0)
distinct_around (m ∷ l) n r h =
    let s = distinct_around l n r h.1 in
    (((all_right (λ k. m.number ≡ k.number → ⊥) l (n ∷ r) h.0).0, s.0), s.1)

pub owns_of : {b : Buffers} {fs : List ℕ} {d : ℕ} {bs qs : List ℕ} {p : ℕ} {rs : List ℕ} {l : List Node} {n : Node} {r : List Node} (pool : ℕ)
    → LaysAround b fs d bs qs p rs l n r → length b.slots ≡ b.fanout * pool → n.number < pool → Distinct (l ++ (n ∷ r))
    → All (λ m. length m.pairs < b.fanout) (l ++ (n ∷ r)) → Owns b fs d bs
owns_of {b} {fs} {d} {bs} {qs} {p} {rs} {l} {n} {r} pool h s i o f =
    let few : Node → Type 0 = λ m. length m.pairs < b.fanout in
    let t = distinct_around l n r o in
    let g : All few (n ∷ r) = all_right few l (n ∷ r) f in
    record {
      inside = rw h.here.number_is (region_inside b.fanout pool n.number (length b.slots) s i);
      count_fits = rw h.here.count_is g.0;
      others_ahead = rw h.here.number_is (elsewhere b n.number qs fs l h.ahead t.0 (all_left few l (n ∷ r) f));
      others_behind = rw h.here.number_is (elsewhere b n.number rs bs r h.behind t.1 g.1);
    }

pub owns_at : {b : Buffers} {ds ps : List ℕ} {ns : List Node} (pool : ℕ) → LaysAt b ds ps ns → (x : Node) (j : ℕ) → j < length ns
    → length b.slots ≡ b.fanout * pool → All (λ m. m.number < pool) ns → Distinct ns → All (λ m. length m.pairs < b.fanout) ns
    → Owns b (take j ds) (get_or ds j 0) (drop (suc j) ds)
owns_at {b} {ds} {ps} {ns} pool h x j k s i o f =
    let whole = split_at ns j x k in
    owns_of pool (around_at h x j k) s (all_at (λ m. m.number < pool) ns j x k i) (subst Distinct whole o) (subst (All (λ m. length m.pairs < b.fanout)) whole f)

-- other buffers of the same sizes, another directory word of the same leaf
pub owns_kept : {b : Buffers} {fs : List ℕ} {d : ℕ} {bs : List ℕ} (slots arena : List ℕ) (e : ℕ) → Owns b fs d bs → length slots ≡ length b.slots
    → word_leaf e ≡ word_leaf d → word_count e < b.fanout → Owns (rewritten b slots arena) fs e bs
owns_kept slots arena e o s i f =
    record { inside = rw (i, s) o.inside; count_fits = f; others_ahead = rw i o.others_ahead; others_behind = rw i o.others_behind }

-- the region of a leaf of the pool that no leaf of the list has
pub owns_free : {b : Buffers} {fs : List ℕ} {d : ℕ} {bs qs : List ℕ} {p : ℕ} {rs : List ℕ} {l : List Node} {n : Node} {r : List Node} (pool e : ℕ)
    → LaysAround b fs d bs qs p rs l n r → length b.slots ≡ b.fanout * pool → word_leaf e < pool → word_count e < b.fanout
    → All (λ m. m.number ≡ word_leaf e → ⊥) (l ++ (n ∷ r)) → All (λ m. length m.pairs < b.fanout) (l ++ (n ∷ r)) → Owns b (fs ++ (d ∷ [])) e bs
owns_free {b} {fs} {d} {bs} {qs} {p} {rs} {l} {n} {r} pool e h s i few o f =
    let P = Elsewhere b.fanout (word_leaf e) in
    let a : All P (fs ++ (d ∷ bs)) = elsewhere b (word_leaf e) (qs ++ (p ∷ rs)) (fs ++ (d ∷ bs)) (l ++ (n ∷ r)) (lays_of h).leaves o f in
    let t : All P (d ∷ bs) = all_right P fs (d ∷ bs) a in
    record {
      inside = region_inside b.fanout pool (word_leaf e) (length b.slots) s i;
      count_fits = few;
      others_ahead = all_append P fs (d ∷ []) (all_left P fs (d ∷ bs) a) (t.0, tt);
      others_behind = t.1;
    }

part_over : (l : List ℕ) (a j k : ℕ) (s : List ℕ) → a + j ≤ length l → part (put l (a + j) s) a (j + (length s + k)) ≡ part l a j ++ (s ++ part l (a + j + length s) k)
part_over l a j k s h =
    rw (
      part-add (put l (a + j) s) a j (length s + k),
      part-add (put l (a + j) s) (a + j) (length s) k,
      part-put_before l (a + j) s a j h (omega arith),
      part-put l (a + j) s h,
      part-put_after l (a + j) s (a + j + length s) k h (omega arith),
    )

-- a write s into the leaf's slot words, from the j-th on

module _ {b : Buffers} {fs : List ℕ} {d : ℕ} {bs : List ℕ} (o : Owns b fs d bs) (slots arena : List ℕ) (j : ℕ) (s : List ℕ)
    (is : slots ≡ put b.slots (first_of b d + j) s) where
  region_others : (ds : List ℕ) → j + length s ≤ b.fanout → All (Elsewhere b.fanout (word_leaf d)) ds → All (SameWords b (rewritten b slots arena)) ds
  region_others ds f = all_mono ds (region_frame b slots arena (word_leaf d) (first_of b d + j) s is (omega arith) (omega arith) (omega (arith, o.inside)))

  pub region_ahead : j + length s ≤ b.fanout → All (SameWords b (rewritten b slots arena)) fs
  region_ahead f = region_others fs f o.others_ahead

  pub region_behind : j + length s ≤ b.fanout → All (SameWords b (rewritten b slots arena)) bs
  region_behind f = region_others bs f o.others_behind

  pub region_low : (e : ℕ) → j + length s < b.fanout → word_leaf e ≡ word_leaf d → low_word (rewritten b slots arena) e ≡ low_word b d
  unfolding low_word
  region_low e f i = rw (i, is) (get_or-put_after b.slots (first_of b d + j) s (first_of b d + (b.fanout - 1)) 0 (omega (arith, o.inside)) (omega arith))

  -- the words before it, the words written, and k words behind
  pub region_words : (e k : ℕ) → word_leaf e ≡ word_leaf d → word_count e ≡ j + (length s + k) → j ≤ word_count d
      → slot_words (rewritten b slots arena) e ≡ take j (slot_words b d) ++ (s ++ part b.slots (first_of b d + j + length s) k)
  unfolding slot_words
  region_words e k i count h =
      rw (i, count, is, take-take j (word_count d) (drop (first_of b d) b.slots) h) (part_over b.slots (first_of b d) j k s (omega (arith, o.inside)))

-- the low-key word w written

module _ {b : Buffers} {fs : List ℕ} {d : ℕ} {bs : List ℕ} (o : Owns b fs d bs) (slots arena : List ℕ) (w : ℕ)
    (is : slots ≡ put b.slots (low_key_slot b.fanout (word_leaf d)) (w ∷ [])) where
  pub low_written : low_word (rewritten b slots arena) d ≡ w
  unfolding low_word
  low_written = rw is (rw add-zero at (get_or-put_in b.slots (low_key_slot b.fanout (word_leaf d)) (w ∷ []) 0 0 (omega (arith, o.inside)) (omega arith)))

  pub low_words : slot_words (rewritten b slots arena) d ≡ slot_words b d
  unfolding slot_words
  low_words = rw is (part-put_before b.slots (low_key_slot b.fanout (word_leaf d)) (w ∷ []) (first_of b d) (word_count d) (omega (arith, o.inside)) (omega (arith, o.count_fits)))

-- the words of the leaf from the j-th on
pub words_from : (b : Buffers) (d a j k : ℕ) → a ≡ first_of b d + j → j + k ≡ word_count d → part b.slots a k ≡ drop j (slot_words b d)
unfolding slot_words
words_from b d a j k e f =
    ap (λ (x : ℕ). part b.slots x k) e ∙ ap (take k) (sym (drop-drop j (first_of b d) b.slots)) ∙ take-drop (drop (first_of b d) b.slots) j k
    ∙ ap (λ (x : ℕ). drop j (part b.slots (first_of b d) x)) f
