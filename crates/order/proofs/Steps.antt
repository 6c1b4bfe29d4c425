-- std's order of slices is `cmp`, and the items of two slices that are equal side by side are counted by `common`.
-- Assumes nothing.
use Rattle.std.specs.Prelude.{◌≡◌, refl, ℕ, ◌+◌, ◌≤◌, ◌<◌, Bool, [], ◌∷◌, eqb, drop, get_or, length, take}
use Rattle.std.proofs.Common.{◌∙◌, add-one, arith, drop-cons, lt-ltb, le-ltb, ne_eqb, eq-eqb, take-suc}
use Rattle.std.proofs.Math.Decide.{dec_lt}
use lib.ListN.{drop_of_length-le}
use Rattle.std.specs.Cmp.Lexicographic.{slice_cmp}
use Rattle.std.specs.Ordering.{nat_cmp}
use Rattle.std.specs.List.{zip, prefix_len}
use Rattle.order.specs.Bytes.{Bytes, cmp, common}
use Rattle.order.specs.OrderLaws.{lower, level, upper, heads, cmp-drop}
use Rattle.order.specs.CommonLaws.{even, apart, leveled}

pub is_cmp : (a b : Bytes) → slice_cmp nat_cmp a b ≡ cmp a b
unfolding cmp
is_cmp [] [] = refl
is_cmp [] (y ∷ b) = refl
is_cmp (x ∷ a) [] = refl
is_cmp (x ∷ a) (y ∷ b) =
    elim (heads x y) [
      | lower h ↦ rw (lt-ltb x y h)
      | level e ↦ rw (le-ltb x y (omega arith), le-ltb y x (omega arith), eq-eqb x y e) (is_cmp a b)
      | upper h ↦ rw (le-ltb x y (omega arith), lt-ltb y x h, ne_eqb x y (omega arith))
    ]

-- two heads that differ decide
heads_decide : (x y : ℕ) (a b : Bytes) → (x ≡ y → ⊥) → nat_cmp x y ≡ cmp (x ∷ a) (y ∷ b)
unfolding cmp
heads_decide x y a b n =
    elim (heads x y) [
      | lower h ↦ rw (lt-ltb x y h)
      | level e ↦ absurd (n e)
      | upper h ↦ rw (le-ltb x y (omega arith), lt-ltb y x h, ne_eqb x y (omega arith))
    ]

-- `compare`'s first bytes: the i that were looked at are equal
pub record Agree (a b : Bytes) (i : ℕ) : Type 0 where
  pub within_left : i ≤ length a
  pub within_right : i ≤ length b
  pub fronts : take i a ≡ take i b

pub agree_start : (a b : Bytes) → Agree a b 0
agree_start a b = record { within_left = omega arith; within_right = omega arith; fronts = refl }

module _ {a b : Bytes} {i : ℕ} (g : Agree a b i) where
  module _ (h : i < length a) (k : i < length b) where
    pub agree_more : get_or a i 0 ≡ get_or b i 0 → Agree a b (i + 1)
    agree_more e = record {
      within_left = omega arith;
      within_right = omega arith;
      fronts = rw add-one (cc (take-suc a i 0 h, take-suc b i 0 k, g.fronts));
    }

    pub agree_apart : (get_or a i 0 ≡ get_or b i 0 → ⊥) → nat_cmp (get_or a i 0) (get_or b i 0) ≡ cmp a b
    agree_apart n =
        let e : nat_cmp (get_or a i 0) (get_or b i 0) ≡ cmp (drop i a) (drop i b) = rw (drop-cons a i 0 h, drop-cons b i 0 k) (heads_decide _ _ _ _ n) in
        e ∙ cmp-drop i a b g.fronts

  -- what is left decides
  rest_cmp : cmp (drop i a) (drop i b) ≡ cmp a b
  rest_cmp = cmp-drop i a b g.fronts

  -- where one of the two ends, the lengths decide
  module _ (n : i < length a → i < length b → ⊥) where
    left_ends : length a ≤ length b → length a ≤ i
    left_ends h = elim (dec_lt i (length a)) [ yes k ↦ absurd (n k (omega arith)) | no k ↦ omega arith ]

    right_ends : length b ≤ length a → length b ≤ i
    right_ends h = elim (dec_lt i (length b)) [ yes k ↦ absurd (n (omega arith) k) | no k ↦ omega arith ]

    pub agree_end : nat_cmp (length a) (length b) ≡ cmp a b
    unfolding cmp
    agree_end =
        elim (heads (length a) (length b)) [
          | lower h ↦ rw (lt-ltb (length a) (length b) h) (rw (drop_of_length-le a (left_ends (omega arith)), drop-cons b i 0 (omega arith)) at rest_cmp)
          | level e ↦ rw (le-ltb (length a) (length b) (omega arith), eq-eqb (length a) (length b) e)
              (rw (drop_of_length-le a (left_ends (omega arith)), drop_of_length-le b (right_ends (omega arith))) at rest_cmp)
          | upper h ↦ rw (le-ltb (length a) (length b) (omega arith), ne_eqb (length a) (length b) (omega arith))
              (rw (drop_of_length-le b (right_ends (omega arith)), drop-cons a i 0 (omega arith)) at rest_cmp)
        ]

abbrev pub same : ℕ × ℕ → Bool
same p = eqb p.0 p.1

pub is_common : (a b : Bytes) → prefix_len same (zip a b) ≡ common a b
unfolding common
is_common [] b = refl
is_common (x ∷ a) [] = refl
is_common (x ∷ a) (y ∷ b) =
    elim (leveled x y) [
      | even e ↦ rw (eq-eqb x y e) (omega (arith, is_common a b))
      | apart n ↦ rw (ne_eqb x y n)
    ]
