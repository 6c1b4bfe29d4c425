-- What `compare` promises, and what a caller knows in each arm of a match on its answer.
-- Assumes nothing.
use Rattle.std.specs.Prelude.{◌≡◌}
use Rattle.std.proofs.Common.{sym, ap, ◌∙◌}
use Rattle.std.specs.declared.cmp.Ordering.{Ordering}
use Rattle.std.specs.declared.cmp.Ordering.TheVariants.{Less, Equal, Greater}
use Rattle.order.specs.Bytes.{Bytes, cmp, ◌≺◌}
use Rattle.order.specs.OrderLaws.{flip, cmp-flip, cmp_same}

pub record Compared (a b : Bytes) (r : Ordering) : Type 0 where
  pub is : r ≡ cmp a b

pub compared_less : {a b : Bytes} {r : Ordering} → Compared a b r → r ≡ Less → a ≺ b
compared_less c e = record { below = sym c.is ∙ e }

pub compared_equal : {a b : Bytes} {r : Ordering} → Compared a b r → r ≡ Equal → a ≡ b
compared_equal {a} {b} c e = cmp_same a b (sym c.is ∙ e)

pub compared_greater : {a b : Bytes} {r : Ordering} → Compared a b r → r ≡ Greater → b ≺ a
unfolding flip
compared_greater {a} {b} c e = record { below = cmp-flip a b ∙ ap flip (sym c.is ∙ e) }
