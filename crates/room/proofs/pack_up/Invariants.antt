-- `pack_up` meets its contract. The invariant: the parts of the leaves from the i-th on lie tight, the words of the others are as they were.
-- Assumes nothing.
use Rattle.std.specs.Prelude.{◌≤◌}
use Rattle.room.specs.Pack.{PackUp}
use Rattle.room.proofs.pack_up.Given as goal

abbrev pub invariant-loop-i : goal.invariant-loop-i
invariant-loop-i l = (l.j ≤ l.i) × (l.i ≤ l.leaves) × PackUp l.fanout l.leaves l.dir l.initial.slots l.initial.arena l.slots l.arena l.i l.start.0
