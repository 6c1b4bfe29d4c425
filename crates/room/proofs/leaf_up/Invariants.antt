-- `leaf_up` meets its contract. The invariant: the parts from the k-th on lie tight, the others are as they were.
-- Assumes nothing.
use Rattle.std.specs.Prelude.{suc, ◌≤◌}
use Rattle.words.specs.Words.{word_count}
use Rattle.room.specs.Leaf.{LeafUp}
use Rattle.room.proofs.leaf_up.Given as goal

abbrev pub invariant-loop-k : goal.invariant-loop-k
invariant-loop-k l = (l.n ≤ l.k) × (l.k ≤ suc (word_count l.d)) × LeafUp l.fanout l.initial.slots l.initial.arena l.d l.initial.start l.slots l.arena l.k l.start
