-- `number` gives the number of the digits. The loop's invariant: the number so far is that of the bytes so far (`Counting`).
-- Assumes nothing.
use Rattle.bulk.specs.JobLaws.{Counting}
use Rattle.bulk.proofs.job.number.Given as goal

abbrev pub invariant-loop-b : goal.invariant-loop-b
invariant-loop-b l = Counting l.word l.b-index l.n
