use Rattle.lines.specs.NumberLaws.{Counting}
use Rattle.lines.proofs.counted.Given as goal

abbrev pub invariant-loop-i : goal.invariant-loop-i
invariant-loop-i l = Counting l.word l.i l.v
