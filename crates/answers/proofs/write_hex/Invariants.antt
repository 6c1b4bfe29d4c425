use Prim.Native.Nat.{◌*◌}
use mathlib.Core.Path.{◌≡◌}
use lib.ListN.{length}
use Rattle.lists.specs.Fill.{Filling}
use Rattle.lines.specs.Grammar.{hex_of}
use Rattle.answers.proofs.write_hex.Given as goal

abbrev pub invariant-loop-i : goal.invariant-loop-i
invariant-loop-i l = (length l.out ≡ length l.initial.out) × Filling l.initial.out l.at (hex_of l.s) (2 * l.i) l.out
