-- L5: the separator of l and r, where l is below r, is above l and not above r; no shorter byte string at all is; of those as short it is
-- the largest. Where l and r share a front, it is that front and the separator of what comes after: a leaf holds suffixes only.
-- Assumes nothing.
use Rattle.std.specs.Prelude.{ℕ, zero, suc, ◌≤◌, ◌<◌, [], ◌∷◌, ◌++◌, ◌≡◌, refl, length, take}
use Rattle.std.proofs.Common.{sym, ◌∙◌, inl, inr, arith, length-take}
use Rattle.order.specs.Bytes.{Bytes, ◌≺◌, ◌≼◌, common, separator}
use Rattle.order.specs.OrderLaws.{not_below_nil, below_nil, below_lower, below_level, below_cons, take_upto}
use Rattle.order.specs.CommonLaws.{even, apart, leveled, common_level, common_apart}

pub common_below : (l r : Bytes) → l ≺ r → common l r < length r
unfolding common
common_below l [] h = absurd (not_below_nil l h)
common_below [] (y ∷ r) h = omega arith
common_below (x ∷ l) (y ∷ r) h =
    elim (below_cons x y l r h) [
      | inl m ↦ rw (common_apart x y l r (omega arith)) (omega arith)
      | inr m ↦ rw (common_level x y l r m.0) (omega (arith, common_below l r m.1))
    ]

pub length-separator : (l r : Bytes) → l ≺ r → length (separator l r) ≡ suc (common l r)
unfolding separator
length-separator l r h = rw length-take (omega (arith, common_below l r h))

-- it divides

pub separator_above : (l r : Bytes) → l ≺ r → l ≺ separator l r
unfolding common separator
separator_above l [] h = absurd (not_below_nil l h)
separator_above [] (y ∷ r) h = below_nil y []
separator_above (x ∷ l) (y ∷ r) h =
    elim (below_cons x y l r h) [
      | inl m ↦ below_lower x y l _ m
      | inr m ↦ below_level x y l _ m.0 (rw (common_level x y l r m.0) (separator_above l r m.1))
    ]

pub separator_upto : (l r : Bytes) → separator l r ≼ r
unfolding separator
separator_upto l r = take_upto (suc (common l r)) r

-- no shorter string divides

divider_longer : (l r s : Bytes) → l ≺ s → s ≼ r → common l r < length s
unfolding common
divider_longer l r [] h k = absurd (not_below_nil l h)
divider_longer [] r (z ∷ s) h k = omega arith
divider_longer (x ∷ l) [] (z ∷ s) h k = omega arith
divider_longer (x ∷ l) (y ∷ r) (z ∷ s) h k =
    elim (leveled x y) [
      | even e ↦ rw (common_level x y l r e)
          (elim (below_cons x z l s h) [
            | inl m ↦ absurd (k (below_lower y z r s (omega arith)))
            | inr m ↦ omega (arith, divider_longer l r s m.1 (λ n. k (below_level y z r s (sym e ∙ m.0) n)))
          ])
      | apart n ↦ rw (common_apart x y l r n) (omega arith)
    ]

pub separator_shortest : (l r s : Bytes) → l ≺ r → l ≺ s → s ≼ r → length (separator l r) ≤ length s
separator_shortest l r s h k m = omega (arith, length-separator l r h, divider_longer l r s k m)

-- of those as short it is the largest

upto_take : (n : ℕ) (s a : Bytes) → length s ≤ n → s ≼ a → s ≼ take n a
upto_take zero [] a h k l = not_below_nil _ l
upto_take zero (x ∷ s) a h k l = absurd (omega arith)
upto_take (suc n) s [] h k l = k l
upto_take (suc n) [] (y ∷ a) h k l = not_below_nil _ l
upto_take (suc n) (x ∷ s) (y ∷ a) h k l =
    elim (below_cons y x (take n a) s l) [
      | inl m ↦ k (below_lower y x a s m)
      | inr m ↦ upto_take n s a (omega arith) (λ j. k (below_level y x a s m.0 j)) m.1
    ]

pub separator_largest : (l r s : Bytes) → l ≺ r → s ≼ r → length s ≤ length (separator l r) → s ≼ separator l r
unfolding separator
separator_largest l r s h m n = upto_take (suc (common l r)) s r (omega (arith, length-separator l r h)) m

-- a shared front comes out

pub separator_front : (p a b : Bytes) → separator (p ++ a) (p ++ b) ≡ p ++ separator a b
unfolding separator
separator_front [] a b = refl
separator_front (x ∷ p) a b = rw (common_level x x (p ++ a) (p ++ b) refl) (rw (separator_front p a b))
