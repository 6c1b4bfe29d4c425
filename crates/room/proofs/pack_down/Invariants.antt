-- `pack_down` meets its contract. The invariant: the parts of the leaves before the next one lie tight, the words of the others are as they were.
-- Assumes nothing.
use Rattle.room.specs.Pack.{PackDown}
use Rattle.room.proofs.pack_down.Given as goal

abbrev pub invariant-loop-d : goal.invariant-loop-d
invariant-loop-d l = PackDown l.fanout l.dir l.initial.slots l.initial.arena l.slots l.arena l.d-index l.end.0
