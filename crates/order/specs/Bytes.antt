-- Byte strings, their order, their common front and their separator.
-- A byte string is a list of numbers. That each is below 256 plays no part in the order.
use Rattle.std.specs.Prelude.{ℕ, suc, cond, List, [], ◌∷◌, ◌≡◌, ltb, eqb, take}
use Rattle.std.specs.declared.cmp.Ordering.{Ordering}
use Rattle.std.specs.declared.cmp.Ordering.TheVariants.{Less, Equal, Greater}

infix 40 ◌≺◌
infix 40 ◌≼◌
abbrev pub Bytes : Type 0
Bytes = List ℕ

-- The order that Rust documents for slices: the first two bytes that differ decide, as unsigned numbers; where there are none, the
-- shorter string, a prefix of the other, comes first.
unfoldable pub cmp : Bytes → Bytes → Ordering
cmp [] [] = Equal
cmp [] (y ∷ ys) = Less
cmp (x ∷ xs) [] = Greater
cmp (x ∷ xs) (y ∷ ys) = cond (ltb x y) Less (cond (ltb y x) Greater (cmp xs ys))

-- a is below b
pub record ◌≺◌ (a b : Bytes) : Type 0 where
  pub below : cmp a b ≡ Less

-- a is not above b
abbrev pub ◌≼◌ : Bytes → Bytes → Type 0
a ≼ b = b ≺ a → ⊥

-- The number of equal leading bytes.
unfoldable pub common : Bytes → Bytes → ℕ
common [] ys = 0
common (x ∷ xs) [] = 0
common (x ∷ xs) (y ∷ ys) = cond (eqb x y) (suc (common xs ys)) 0

-- L5. With c the number of equal leading bytes of the largest left key l and the smallest right key r: the first c + 1 bytes of r.
unfoldable pub separator : Bytes → Bytes → Bytes
separator l r = take (suc (common l r)) r
