-- Words for the first pair in a range: a pair out of it, the first of two answers, and a bound that has a key.
use Rattle.std.specs.Prelude.{false}
use Rattle.std.proofs.Math.Option.{Option, none, some}
use Rattle.std.proofs.Math.Path.{◌≡◌}
use Rattle.model.specs.Map.{Pair, in_range}
use Rattle.model.specs.declared.Bound.{Bound}
use Rattle.model.specs.declared.Bound.TheVariants.{Excluded, Included, Open}
use Rattle.model.specs.declared.Range.{Range}
use Rattle.order.specs.Bytes.{Bytes}

-- a pair out of the range
abbrev pub Out : Range → (start end : Bytes) → Pair → Type 0
Out r s e p = in_range r s e p.key ≡ false

-- the first of two answers that is a pair
abbrev pub or_else : Option Pair → Option Pair → Option Pair
or_else none o = o
or_else (some p) o = some p

-- keys below a start that has a key are out
abbrev pub Closed : Bound → Type 0
Closed Included = Unit {0}
Closed Excluded = Unit {0}
Closed Open = ⊥
