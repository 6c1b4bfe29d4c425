-- `lowest_free` meets its contract. The invariant: the numbers of the words read so far are marked, and no others.
-- Assumes nothing.
use Rattle.numbers.specs.FreeLaws.{Marks}
use Rattle.numbers.proofs.lowest_free.Given as goal

abbrev pub invariant-loop-word : goal.invariant-loop-word
invariant-loop-word l = Marks l.word-index l.dir l.seen
