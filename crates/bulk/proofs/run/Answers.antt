-- `run` makes both rows: the test of W gives the index that the first call presumes, and each row leaves one for the next.
-- Assumes nothing.
use mathlib.Core.Path.{refl}
use Rattle.layout.specs.Presumed.{entry_damaged, entry_held, w_index}
use Rattle.lists.specs.Exact.{refuted}
use Rattle.bulk.specs.Bulk.{store}
use Rattle.bulk.specs.BulkLaws.{rows}
use Rattle.bulk.specs.JobLaws.{calls_most}
use Rattle.bulk.specs.RowLaws.{inserts_stand}
use Rattle.bulk.proofs.run.Goals as goal

pub returns-then-not-holds_index : goal.returns-then-not-holds_index
returns-then-not-holds_index g c = record { made = c.create-r.result; fresh = store _ _ _; created = c.create-r.ensures; same_arena = refl; tested = entry_damaged (refuted c.if-not-holds_index.true c.holds_index.ensures) refl }

pub call_all-full-requires : goal.call_all-full-requires
call_all-full-requires g c = (w_index (c.holds_index.ensures.sound c.if-not-holds_index.false), calls_most c.args.j.inserts c.call_count-inserts.ensures c.requires)

pub call_all-left-requires : goal.call_all-left-requires
call_all-left-requires g c = (inserts_stand c.args.j.inserts c.call_count-inserts.result (w_index (c.holds_index.ensures.sound c.if-not-holds_index.false)) c.call_all-full.ensures, calls_most c.args.j.deletes c.call_count-deletes.ensures c.requires)

pub returns : goal.returns
returns g c = record { made = c.create-r.result; fresh = store c.create-r.new.dir c.create-r.new.slots _; created = c.create-r.ensures; same_arena = refl; tested = entry_held (c.holds_index.ensures.sound c.if-not-holds_index.false) (λ ns p. rows c.call_count-inserts.ensures c.call_all-full.ensures c.call_count-deletes.ensures c.call_all-left.ensures) }
