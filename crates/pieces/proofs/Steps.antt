-- The first piece against as much of the key, and where they are the same, the second against the rest.
-- Assumes nothing.
use Rattle.std.specs.Prelude.{◌-◌, ◌≤◌, ◌++◌, ◌≡◌, refl, drop, length, take}
use Rattle.std.proofs.Common.{arith}
use Rattle.std.specs.Ordering.{MatchOrdering}
use Rattle.std.specs.declared.cmp.Ordering.{Ordering}
use Rattle.std.specs.declared.cmp.Ordering.TheVariants.{Equal, Greater, Less}
use Rattle.order.specs.Bytes.{Bytes}
use Rattle.order.specs.Compared.{Compared}
use Rattle.pieces.specs.PieceLaws.{pieces_apart, pieces_front}

whole : (p : Bytes) → length p - 0 ≡ length p
whole p = omega arith

module _ {p s k : Bytes} {r : Ordering} (h : length p ≤ length k) (P : Type 0)
    (rest : P → Compared s (take (length k - length p) (drop (length p) k)) r) where
  pub pieces_then : (o : Ordering) → Compared p (take (length p) k) o → MatchOrdering o (r ≡ Less) P (r ≡ Greater) → Compared (p ++ s) k r
  pieces_then Less c e = rw e (pieces_apart s Less tt h (rw (whole p) c) refl)
  pieces_then Equal c q = pieces_front (rw (whole p) c) refl (rest q)
  pieces_then Greater c e = rw e (pieces_apart s Greater tt h (rw (whole p) c) refl)
