-- A part of a list, and a list written over a part of another: the two words by which contracts speak of buffers.
-- Assumes nothing.
use Rattle.std.specs.Prelude.{◌≡◌, ℕ, zero, suc, ◌+◌, ◌-◌, ◌≤◌, ◌<◌, get_or}
use Rattle.std.proofs.Math.Path.{sym, ap}
use Rattle.std.proofs.Common.{◌∙◌, add-zero, zero-add, add-suc, suc-add, add-one, arith, length-drop, take-append-drop, length-take-le, take-suc, drop-cons, get_or-take, get_or-drop}
use mathlib.Core.List.{List, [], ◌∷◌, ◌++◌, append_assoc, append-nil}
use Rattle.std.proofs.Math.Nat.{add_assoc}
use Rattle.std.proofs.Math.ListN.{length, take, drop, set, length-append, get_or-append}
use Rattle.std.proofs.Math.Seq.{take-nil, take_at, drop_at, set_at, take-take, drop-drop, take-add, take-append_seam}
use Rattle.std.proofs.lemmas.List.{take-append-le, drop-append-le}
use Rattle.lists.specs.Part.{part, put}

module _ {A : Type 0} where
  pub length-part : (l : List A) (a n : ℕ) → a + n ≤ length l → length (part l a n) ≡ n
  length-part l a n h = length-take-le n (drop a l) (rw length-drop (omega arith))

  pub get_or-part : (l : List A) (a n i : ℕ) (d : A) → i < n → get_or (part l a n) i d ≡ get_or l (a + i) d
  get_or-part l a n i d h = get_or-take n (drop a l) i d h ∙ get_or-drop a l i d

  pub part-cons : (l : List A) (a n : ℕ) (d : A) → a < length l → part l a (suc n) ≡ get_or l a d ∷ part l (suc a) n
  part-cons l a n d h = rw (drop-cons l a d h)

  pub part-snoc : (l : List A) (a n : ℕ) (d : A) → a + n < length l → part l a (suc n) ≡ part l a n ++ (get_or l (a + n) d ∷ [])
  part-snoc l a n d h =
      take-suc (drop a l) n d (rw length-drop (omega arith)) ∙ ap (λ (x : A). part l a n ++ (x ∷ [])) (get_or-drop a l n d)

  pub part-add : (l : List A) (a n m : ℕ) → part l a (n + m) ≡ part l a n ++ part l (a + n) m
  part-add l a n m = take-add n m (drop a l) ∙ ap (λ (r : List A). part l a n ++ take m r) (drop-drop n a l)

  -- of what was written, and of what lies before and after it

  pub length-put : (l : List A) (a : ℕ) (s : List A) → a + length s ≤ length l → length (put l a s) ≡ length l
  unfolding put
  length-put l a s h = simp (length-append, length-drop) (rw (length-take-le a l (omega arith)) (omega arith))

  head_length : (l : List A) (a : ℕ) (s : List A) → a ≤ length l → length (take a l ++ s) ≡ a + length s
  head_length l a s h = rw (length-append, length-take-le a l h)

  pub drop-put : (l : List A) (a : ℕ) (s : List A) → a ≤ length l → drop a (put l a s) ≡ s ++ drop (a + length s) l
  unfolding put
  drop-put l a s h = rw append_assoc (drop_at (take a l) _ a (length-take-le a l h))

  pub drop-put_all : (l : List A) (a : ℕ) (s : List A) → a ≤ length l → drop (a + length s) (put l a s) ≡ drop (a + length s) l
  unfolding put
  drop-put_all l a s h = drop_at (take a l ++ s) _ (a + length s) (head_length l a s h)

  pub take-put : (l : List A) (a : ℕ) (s : List A) → a ≤ length l → take a (put l a s) ≡ take a l
  unfolding put
  take-put l a s h = rw append_assoc (take_at (take a l) _ a (length-take-le a l h))

  pub part-put : (l : List A) (a : ℕ) (s : List A) → a ≤ length l → part (put l a s) a (length s) ≡ s
  part-put l a s h = rw (drop-put l a s h) (take-append_seam s _)

  pub part-put_after : (l : List A) (a : ℕ) (s : List A) (b n : ℕ) → a ≤ length l → a + length s ≤ b → part (put l a s) b n ≡ part l b n
  part-put_after l a s b n h k =
      let e : a + length s + (b - (a + length s)) ≡ b = omega arith in
      let up : drop b (put l a s) ≡ drop b l =
      ap (λ (j : ℕ). drop j (put l a s)) (sym e) ∙ sym (drop-drop _ (a + length s) (put l a s))
      ∙ ap (drop (b - (a + length s))) (drop-put_all l a s h) ∙ drop-drop _ (a + length s) l ∙ ap (λ (j : ℕ). drop j l) e in
      ap (take n) up

  pub take-drop : (l : List A) (b n : ℕ) → take n (drop b l) ≡ drop b (take (b + n) l)
  take-drop l zero n = ap (λ (k : ℕ). take k l) (sym (zero-add n))
  take-drop [] (suc b) n = rw (take-nil, take-nil)
  take-drop (x ∷ l) (suc b) n = take-drop l b n ∙ ap (λ (k : ℕ). drop (suc b) (take k (x ∷ l))) (sym (suc-add b n))

  pub take-put_le : (l : List A) (a : ℕ) (s : List A) (n : ℕ) → a ≤ length l → n ≤ a → take n (put l a s) ≡ take n l
  take-put_le l a s n h k = sym (take-take n a (put l a s) k) ∙ ap (take n) (take-put l a s h) ∙ take-take n a l k

  pub part-put_before : (l : List A) (a : ℕ) (s : List A) (b n : ℕ) → a ≤ length l → b + n ≤ a → part (put l a s) b n ≡ part l b n
  part-put_before l a s b n h k = take-drop (put l a s) b n ∙ ap (drop b) (take-put_le l a s (b + n) h k) ∙ sym (take-drop l b n)

  -- a part of what was written
  pub part-put_in : (l : List A) (a : ℕ) (s : List A) (i n : ℕ) → a ≤ length l → i + n ≤ length s → part (put l a s) (a + i) n ≡ part s i n
  part-put_in l a s i n h k =
      ap (take n) (sym (drop-drop i a (put l a s)) ∙ ap (drop i) (drop-put l a s h) ∙ drop-append-le i s _ (omega arith))
      ∙ take-append-le n (drop i s) _ (rw length-drop (omega arith))

  -- one element

  pub get_or-put_before : (l : List A) (a : ℕ) (s : List A) (i : ℕ) (d : A) → a ≤ length l → i < a → get_or (put l a s) i d ≡ get_or l i d
  get_or-put_before l a s i d h k = sym (get_or-take a (put l a s) i d k) ∙ ap (λ (r : List A). get_or r i d) (take-put l a s h) ∙ get_or-take a l i d k

  pub get_or-put_after : (l : List A) (a : ℕ) (s : List A) (i : ℕ) (d : A) → a ≤ length l → a + length s ≤ i → get_or (put l a s) i d ≡ get_or l i d
  get_or-put_after l a s i d h k =
      let e : a + length s + (i - (a + length s)) ≡ i = omega arith in
      ap (λ (j : ℕ). get_or (put l a s) j d) (sym e) ∙ sym (get_or-drop (a + length s) (put l a s) _ d)
      ∙ ap (λ (r : List A). get_or r (i - (a + length s)) d) (drop-put_all l a s h) ∙ get_or-drop (a + length s) l _ d ∙ ap (λ (j : ℕ). get_or l j d) e

  pub get_or-put_in : (l : List A) (a : ℕ) (s : List A) (i : ℕ) (d : A) → a ≤ length l → i < length s → get_or (put l a s) (a + i) d ≡ get_or s i d
  get_or-put_in l a s i d h k =
      sym (get_or-drop a (put l a s) i d) ∙ ap (λ (r : List A). get_or r i d) (drop-put l a s h) ∙ get_or-append s _ d i k

  -- the loops that write: from the front, one more at the end; from the back, one more in front

  pub put-nil : (l : List A) (a : ℕ) → put l a [] ≡ l
  unfolding put
  put-nil l a = rw (append-nil, add-zero) (take-append-drop a l)

  pub put-snoc : (l : List A) (a : ℕ) (s : List A) (x : A) → a + length s < length l → set (put l a s) (a + length s) x ≡ put l a (s ++ (x ∷ []))
  unfolding put
  put-snoc l a s x h =
      ap (λ (r : List A). set (take a l ++ s ++ r) (a + length s) x) (drop-cons l (a + length s) x h)
      ∙ set_at (take a l ++ s) _ _ x (a + length s) (head_length l a s (omega arith))
      ∙ simp (append_assoc, length-append, ← add_assoc, add-one)

  pub put-cons : (l : List A) (a : ℕ) (s : List A) (x : A) → a < length l → set (put l (suc a) s) a x ≡ put l a (x ∷ s)
  unfolding put
  put-cons l a s x h =
      ap (λ (r : List A). set (r ++ s ++ drop (suc a + length s) l) a x) (take-suc l a x h)
      ∙ simp append_assoc (set_at (take a l) _ _ x a (length-take-le a l (omega arith)) ∙ rw (suc-add, add-suc))

  pub drop-put_after : (l : List A) (a : ℕ) (s : List A) (b : ℕ) → a ≤ length l → a + length s ≤ b → drop b (put l a s) ≡ drop b l
  drop-put_after l a s b h k =
      let e : a + length s + (b - (a + length s)) ≡ b = omega arith in
      ap (λ (j : ℕ). drop j (put l a s)) (sym e) ∙ sym (drop-drop _ (a + length s) (put l a s))
      ∙ ap (drop (b - (a + length s))) (drop-put_all l a s h) ∙ drop-drop _ (a + length s) l ∙ ap (λ (j : ℕ). drop j l) e

  pub take-put_all : (l : List A) (a : ℕ) (s : List A) → a ≤ length l → take (a + length s) (put l a s) ≡ take a l ++ s
  unfolding put
  take-put_all l a s h = take_at (take a l ++ s) _ (a + length s) (head_length l a s h)

  pub put-append : (l : List A) (a : ℕ) (s t : List A) → a ≤ length l → put (put l a s) (a + length s) t ≡ put l a (s ++ t)
  unfolding put
  put-append l a s t h =
      cc (
        take-put_all l a s h,
        drop-put_after l a s (a + length s + length t) h (omega arith),
        append_assoc (take a l) s t,
        length-append s t,
        add_assoc a (length s) (length t),
      )

  -- a part that was lent as `&mut` and comes back: what was written over it, said of the whole. The left side is what the borrow checker leaves, `put_mid`
  pub put_lent : (l : List A) (a k i : ℕ) (s : List A) → a + k ≤ length l → i + length s ≤ k
      → take a l ++ (put (part l a k) i s ++ drop k (drop a l)) ≡ put l (a + i) s
  unfolding put
  put_lent l a k i s h m =
      let one : take i (part l a k) ≡ take i (drop a l) = take-take i k (drop a l) (omega arith) in
      let two : drop (i + length s) (part l a k) ++ drop k (drop a l) ≡ drop (a + i + length s) l =
      sym (drop-append-le (i + length s) (part l a k) (drop k (drop a l)) (rw (length-part l a k h) m))
      ∙ ap (drop (i + length s)) (take-append-drop k (drop a l)) ∙ drop-drop (i + length s) a l ∙ ap (λ (j : ℕ). drop j l) (sym (add_assoc a i (length s))) in
      ap (λ (r : List A). take a l ++ r) (append_assoc (take i (part l a k) ++ s) _ _ ∙ ap (λ (r : List A). take i (part l a k) ++ s ++ r) two
      ∙ append_assoc (take i (part l a k)) s _ ∙ ap (λ (r : List A). r ++ (s ++ drop (a + i + length s) l)) one)
      ∙ sym (append_assoc (take a l) (take i (drop a l)) _) ∙ ap (λ (r : List A). r ++ (s ++ drop (a + i + length s) l)) (sym (take-add a i l)) ∙ sym (append_assoc (take (a + i) l) s (drop (a + i + length s) l))

  pub part-part : (l : List A) (a n i m : ℕ) → i + m ≤ n → part (part l a n) i m ≡ part l (a + i) m
  part-part l a n i m h =
      let e : i + (n - i) ≡ n = omega arith in
      ap (λ (j : ℕ). take m (drop i (take j (drop a l)))) (sym e) ∙ ap (take m) (sym (take-drop (drop a l) i (n - i)))
      ∙ take-take m (n - i) (drop i (drop a l)) (omega arith) ∙ ap (take m) (drop-drop i a l)

  -- one element written
  pub put_one : (l : List A) (a : ℕ) (x : A) → a < length l → set l a x ≡ put l a (x ∷ [])
  put_one l a x h =
      ap (λ (r : List A). set r a x) (sym (put-nil l (suc a))) ∙ put-cons l a [] x h

  -- what stands at a place written there again
  pub put-part : (l : List A) (a n : ℕ) → a + n ≤ length l → put l a (part l a n) ≡ l
  unfolding put
  put-part l a n h = rw (length-part l a n h, ← take-add a n l) (take-append-drop (a + n) l)
