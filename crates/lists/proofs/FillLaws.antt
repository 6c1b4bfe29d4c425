-- Loops that write a list s over l from `at` on, one element a turn: from the front, and from the back. A loop's invariant is one of
-- the two records, and its turn one of the two step laws; what is left to the loop's own proof is that the element written is s's.
-- Assumes nothing.
use Rattle.std.specs.Prelude.{◌≡◌, refl, List, ℕ, suc, ◌+◌, ◌≤◌, ◌<◌, length, get_or, take, drop, set}
use Rattle.std.proofs.Common.{sym, ap, ◌∙◌, add-zero, add-one, arith, length-drop, take-suc, take_all, drop-cons, length-take-le}
use Rattle.std.proofs.Math.Seq.{drop-length}
use Rattle.lists.specs.Part.{put}
use Rattle.lists.proofs.PartLaws.{length-put, put-nil, put-cons, put-snoc, get_or-put_before, get_or-put_after}
use Rattle.lists.specs.Fill.{Filling, Backing}

module _ {A : Type 0} where
  pub fill_start : (l : List A) (at : ℕ) (s : List A) (i : ℕ) → i ≡ 0 → Filling l at s i l
  fill_start l at s i e = record { is = sym (rw e (put-nil l at)); long = refl }

  -- what stands at j and above is as it was
  pub fill_read : (l : List A) (at : ℕ) (s : List A) (i : ℕ) (a : List A) (j : ℕ) (d : A) → at + i ≤ j → i ≤ length s → at ≤ length l
      → Filling l at s i a → get_or a j d ≡ get_or l j d
  fill_read l at s i a j d h k m u = ap (λ (r : List A). get_or r j d) u.is ∙ get_or-put_after l at (take i s) j d m (rw (length-take-le i s k) h)

  pub fill_step : (l : List A) (at : ℕ) (s : List A) (i k : ℕ) (a : List A) (j : ℕ) (x d : A) → at + length s ≤ length l → i < length s
      → k ≡ i + 1 → j ≡ at + i → x ≡ get_or s i d → Filling l at s i a → Filling l at s k (set a j x)
  fill_step l at s i k a j x d m h o e v u =
      let n : length (take i s) ≡ i = length-take-le i s (omega arith) in
      let y : set a j x ≡ put l at (take k s) =
      cc (u.is, e, n, v, o, add-one i, take-suc s i d h, put-snoc l at (take i s) x (rw n (omega arith))) in
      record { is = y; long = ap length y ∙ length-put l at (take k s) (rw (length-take-le k s (omega arith)) (omega arith)) }

  pub fill_done : (l : List A) (at : ℕ) (s : List A) (i : ℕ) (a : List A) → length s ≤ i → Filling l at s i a → a ≡ put l at s
  fill_done l at s i a h u = u.is ∙ ap (put l at) (take_all i s h)

  pub back_start : (l : List A) (at : ℕ) (s : List A) (i : ℕ) → i ≡ length s → Backing l at s i l
  back_start l at s i e = record { is = sym (rw (e, drop-length) (put-nil l _)); long = refl }

  pub back_read : (l : List A) (at : ℕ) (s : List A) (i : ℕ) (a : List A) (j : ℕ) (d : A) → j < at + i → at + i ≤ length l
      → Backing l at s i a → get_or a j d ≡ get_or l j d
  back_read l at s i a j d h m u = ap (λ (r : List A). get_or r j d) u.is ∙ get_or-put_before l (at + i) (drop i s) j d m h

  pub back_step : (l : List A) (at : ℕ) (s : List A) (i k : ℕ) (a : List A) (j : ℕ) (x d : A) → at + length s ≤ length l → k < length s
      → i ≡ k + 1 → j ≡ at + k → x ≡ get_or s k d → Backing l at s i a → Backing l at s k (set a j x)
  back_step l at s i k a j x d m h o e v u =
      let f : at + i ≡ suc (at + k) = omega arith in
      let y : set a j x ≡ put l (at + k) (drop k s) =
      cc (u.is, e, v, o, f, add-one k, drop-cons s k d h, put-cons l (at + k) (drop i s) x (omega arith)) in
      record { is = y; long = ap length y ∙ length-put l (at + k) (drop k s) (rw length-drop (omega arith)) }

  pub back_done : (l : List A) (at : ℕ) (s : List A) (i : ℕ) (a : List A) → i ≡ 0 → Backing l at s i a → a ≡ put l at s
  back_done l at s i a e u = u.is ∙ rw (e, add-zero)
