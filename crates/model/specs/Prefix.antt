-- The range of a prefix: from the prefix, included, to an excluded end or an open one.
use Rattle.std.specs.Prelude.{ℕ, suc, cond, [], ◌∷◌, eqb}
use Rattle.std.proofs.Math.Option.{Option, none, some}
use Rattle.order.specs.Bytes.{Bytes}
use Rattle.model.specs.declared.Bound.TheVariants.{Included, Excluded, Open}
use Rattle.model.specs.declared.Range.{Range}

-- the end: drop trailing FF bytes, raise the last byte left by one; none if no byte is left
abbrev pub raised : ℕ → Option Bytes → Option Bytes
raised x (some e) = some (x ∷ e)
raised x none = cond (eqb x 0xff) none (some (suc x ∷ []))

unfoldable pub prefix_end : Bytes → Option Bytes
prefix_end [] = none
prefix_end (x ∷ p) = raised x (prefix_end p)

abbrev pub prefix_range : Option Bytes → Range
prefix_range none = record { start = Included; end = Open }
prefix_range (some e) = record { start = Included; end = Excluded }
