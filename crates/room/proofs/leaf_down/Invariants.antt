-- `leaf_down` meets its contract. The invariant: the parts before the k-th lie tight, the others are as they were.
-- Assumes nothing.
use Rattle.room.specs.Leaf.{LeafDown}
use Rattle.room.proofs.leaf_down.Given as goal

abbrev pub invariant-loop-k : goal.invariant-loop-k
invariant-loop-k l = LeafDown l.fanout l.initial.slots l.initial.arena l.d l.initial.end l.slots l.arena l.k l.end
