use lib.ListN.{length}
use Rattle.lines.specs.HexLaws.{Decoding}
use mathlib.Core.Path.{◌≡◌}
use Rattle.lines.proofs.decode.Given as goal

abbrev pub invariant-loop-i : goal.invariant-loop-i
invariant-loop-i l = (length l.out ≡ length l.initial.out) × Decoding l.word l.initial.out l.out l.i
