-- A set of numbers as bits, 64 to a word: the number i is bit i % 64 of the word i / 64.
use Rattle.std.specs.Prelude.{◌%◌, ◌/◌, ◌<◌, ◌^◌, ◌≤◌, ℕ, List, ◌≡◌, get_or}

unfoldable pub bit_of : (w b : ℕ) → ℕ
bit_of w b = w / 2 ^ b % 2

-- r is w with bit b set
pub record Sets (w b r : ℕ) : Type 0 where
  pub itself : bit_of r b ≡ 1
  pub others : (k : ℕ) → (k ≡ b → ⊥) → bit_of r k ≡ bit_of w k

abbrev pub Marked : List ℕ → ℕ → Type 0
Marked seen i = bit_of (get_or seen (i / 64) 0) (i % 64) ≡ 1

-- the lowest number below 2 ^ 12 that is not in the set, and 2 ^ 12 where all are
pub record FirstUnmarked (seen : List ℕ) (r : ℕ) : Type 0 where
  pub below : (i : ℕ) → i < r → Marked seen i
  pub near : r ≤ 2 ^ 12
  pub itself : r < 2 ^ 12 → Marked seen r → ⊥
