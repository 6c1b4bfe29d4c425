use mathlib.Core.Path.{refl}
use native.Mathlib.Omega.{arith}
use Rattle.bulk.specs.BulkLaws.{along_done, along_start, along_turn, count_fits}
use Rattle.bulk.specs.RowLaws.{calls_stand}
use Rattle.bulk.proofs.call_all.Goals as goal

pub loop-i-init : goal.loop-i-init
loop-i-init c = along_start

pub call_one-c-requires : goal.call_one-c-requires
call_one-c-requires c = calls_stand c.args.order c.args.n c.args.kind c.requires.0 c.loop-i.invariant.calls

pub count-t-requires : goal.count-t-requires
count-t-requires c = count_fits c.loop-i-test.true c.requires.1 c.loop-i.invariant.calls

pub loop-i-preserved : goal.loop-i-preserved
loop-i-preserved c = along_turn refl c.loop-i.invariant (rw c.key_at-key.ensures at c.call_one-c.ensures) c.count-t.ensures c.call_one-c.auto.dir c.call_one-c.auto.slots c.call_one-c.auto.arena

pub returns : goal.returns
returns c = along_done (omega arith) c.loop-i.invariant
