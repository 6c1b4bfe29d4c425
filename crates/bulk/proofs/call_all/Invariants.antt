-- `call_all` makes the row of calls. The loop's invariant: the calls so far, in buffers of the same lengths (`Along`).
-- Assumes nothing.
use Rattle.bulk.specs.Bulk.{CallOne, store}
use Rattle.bulk.specs.BulkLaws.{Along}
use Rattle.bulk.specs.Job.{key_at}
use Rattle.bulk.proofs.call_all.Given as goal

abbrev pub invariant-loop-i : goal.invariant-loop-i
invariant-loop-i l = Along (λ j. CallOne l.kind (key_at l.order j l.n) j) l.initial.t (store l.initial.dir l.initial.slots l.initial.arena) l.i l.t (store l.dir l.slots l.arena)
