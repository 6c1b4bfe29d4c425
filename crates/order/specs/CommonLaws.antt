-- The laws of the number of equal leading bytes: it is exact and the longest, equal fronts add to it, and a key between two bounds has
-- the bytes that the bounds share (L1, L2).
-- Assumes nothing.
use Rattle.std.specs.Prelude.{ℕ, zero, suc, ◌+◌, ◌≤◌, ◌<◌, [], ◌∷◌, ◌++◌, ◌≡◌, refl, length, take, drop, get_or}
use Rattle.std.proofs.Common.{sym, ap, ◌∙◌, inl, inr, arith, eq-eqb, ne_eqb}
use Rattle.std.proofs.Math.Seq.{take-nil}
use Rattle.order.specs.Bytes.{Bytes, cmp, ◌≺◌, ◌≼◌, common}
use Rattle.order.specs.OrderLaws.{lower, level, upper, heads, cmp-drop, below_nil, below_lower, below_level, below_cons}

pub common_level : (x y : ℕ) (xs ys : Bytes) → x ≡ y → common (x ∷ xs) (y ∷ ys) ≡ suc (common xs ys)
unfolding common
common_level x y xs ys e = rw (eq-eqb x y e)

pub common_apart : (x y : ℕ) (xs ys : Bytes) → (x ≡ y → ⊥) → common (x ∷ xs) (y ∷ ys) ≡ 0
unfolding common
common_apart x y xs ys h = rw (ne_eqb x y h)

pub common-nil : (a : Bytes) → common a [] ≡ 0
unfolding common
common-nil [] = refl
common-nil (x ∷ a) = refl

-- equal or not: two ways serve wherever the order does not matter
pub data Level (x y : ℕ) : Type 0 where
  even : x ≡ y → Level x y
  apart : (x ≡ y → ⊥) → Level x y

pub leveled : (x y : ℕ) → Level x y
leveled x y = elim (heads x y) [ lower h ↦ apart (omega arith) | level e ↦ even e | upper h ↦ apart (omega arith) ]

pub common_left : (a b : Bytes) → common a b ≤ length a
unfolding common
common_left [] b = omega arith
common_left (x ∷ a) [] = omega arith
common_left (x ∷ a) (y ∷ b) =
    elim (leveled x y) [
      | even e ↦ rw (common_level x y a b e) (omega (arith, common_left a b))
      | apart h ↦ rw (common_apart x y a b h) (omega arith)
    ]

pub common_comm : (a b : Bytes) → common a b ≡ common b a
unfolding common
common_comm [] [] = refl
common_comm [] (y ∷ b) = refl
common_comm (x ∷ a) [] = refl
common_comm (x ∷ a) (y ∷ b) =
    elim (leveled x y) [
      | even e ↦ rw (common_level x y a b e, common_level y x b a (sym e)) (ap suc (common_comm a b))
      | apart h ↦ rw (common_apart x y a b h, common_apart y x b a (λ e. h (sym e)))
    ]

pub common_right : (a b : Bytes) → common a b ≤ length b
common_right a b = rw (common_comm a b) (common_left b a)

-- exact: so many are equal, and the next two, where there are two, are not

pub common-take : (a b : Bytes) → take (common a b) a ≡ take (common a b) b
unfolding common
common-take [] b = rw take-nil
common-take (x ∷ a) [] = refl
common-take (x ∷ a) (y ∷ b) =
    elim (leveled x y) [
      | even e ↦ rw (common_level x y a b e) (rw (e, common-take a b))
      | apart h ↦ rw (common_apart x y a b h)
    ]

pub common_stop : (a b : Bytes) (i : ℕ) → i ≡ common a b → i < length a → i < length b → get_or a i 0 ≡ get_or b i 0 → ⊥
common_stop [] b i e ha hb q = omega arith
common_stop (x ∷ a) [] i e ha hb q = omega arith
common_stop (x ∷ a) (y ∷ b) zero e ha hb q = let s = common_level x y a b q in omega arith
common_stop (x ∷ a) (y ∷ b) (suc i) e ha hb q =
    elim (leveled x y) [
      | even p ↦ common_stop a b i (omega (arith, common_level x y a b p)) (omega arith) (omega arith) q
      | apart p ↦ omega (arith, common_apart x y a b p)
    ]

-- longest: any equal fronts are within it
pub common_most : (n : ℕ) (a b : Bytes) → n ≤ length a → n ≤ length b → take n a ≡ take n b → n ≤ common a b
common_most zero a b h k e = omega arith
common_most (suc n) [] b h k e = absurd (omega arith)
common_most (suc n) (x ∷ a) [] h k e = absurd (omega arith)
common_most (suc n) (x ∷ a) (y ∷ b) h k e =
    let q : x ≡ y = cc in
    let t : take n a ≡ take n b = cc in
    rw (common_level x y a b q) (omega (arith, common_most n a b (omega arith) (omega arith) t))

pub common_front : (p a b : Bytes) → common (p ++ a) (p ++ b) ≡ length p + common a b
common_front [] a b = omega arith
common_front (x ∷ p) a b = rw (common_level x x (p ++ a) (p ++ b) refl) (omega (arith, common_front p a b))

-- a key between two bounds begins with the bytes that the bounds share
pub squeeze : (lo k hi : Bytes) → lo ≼ k → k ≺ hi → take (common lo hi) k ≡ take (common lo hi) lo
unfolding common
squeeze [] k hi h l = refl
squeeze (x ∷ lo) k [] h l = refl
squeeze (x ∷ lo) [] (y ∷ hi) h l = absurd (h (below_nil x lo))
squeeze (x ∷ lo) (z ∷ k) (y ∷ hi) h l =
    elim (leveled x y) [
      | even e ↦ rw (common_level x y lo hi e)
          (elim (below_cons z y k hi l) [
            | inl m ↦ absurd (h (below_lower z x k lo (omega arith)))
            | inr m ↦ rw (m.0 ∙ sym e, squeeze lo k hi (λ n. h (below_level z x k lo (m.0 ∙ sym e) n)) m.1)
          ])
      | apart n ↦ rw (common_apart x y lo hi n)
    ]

-- and is at least as long
pub squeeze_long : (lo k hi : Bytes) → lo ≼ k → k ≺ hi → common lo hi ≤ length k
unfolding common
squeeze_long [] k hi h l = omega arith
squeeze_long (x ∷ lo) k [] h l = omega arith
squeeze_long (x ∷ lo) [] (y ∷ hi) h l = absurd (h (below_nil x lo))
squeeze_long (x ∷ lo) (z ∷ k) (y ∷ hi) h l =
    elim (leveled x y) [
      | even e ↦ rw (common_level x y lo hi e)
          (elim (below_cons z y k hi l) [
            | inl m ↦ absurd (h (below_lower z x k lo (omega arith)))
            | inr m ↦ omega (arith, squeeze_long lo k hi (λ n. h (below_level z x k lo (m.0 ∙ sym e) n)) m.1)
          ])
      | apart n ↦ rw (common_apart x y lo hi n) (omega arith)
    ]

-- so two keys between the same bounds compare as their suffixes
pub cmp_suffixes : (lo hi j k : Bytes) → lo ≼ j → j ≺ hi → lo ≼ k → k ≺ hi → cmp (drop (common lo hi) j) (drop (common lo hi) k) ≡ cmp j k
cmp_suffixes lo hi j k a b c d = cmp-drop (common lo hi) j k (squeeze lo j hi a b ∙ sym (squeeze lo k hi c d))
