-- `judge` meets its contract.
-- Assumes nothing.
use Rattle.lists.specs.Exact.{refuted}
use Rattle.spots.specs.SeekLaws.{at_spot_in, stands_at}
use Rattle.judge.specs.JudgeLaws.{at_told, old_asked}
use native.Mathlib.Omega.{arith}
use Rattle.judge.proofs.judge.Goals as goal

pub read_spot-x-requires : goal.read_spot-x-requires
read_spot-x-requires c = at_spot_in c.args.v.now.index.presumed c.args.key.now (stands_at c.args.key.now _ c.seek.ensures c.in-Ok.is)

pub judge_old-requires : goal.judge_old-requires
judge_old-requires c = old_asked c.args.v.now.index.presumed c.args.key.now c.args.value.now (stands_at c.args.key.now _ c.seek.ensures c.in-Ok.is) c.read_spot-x.ensures.pieces.value_length (omega (arith, refuted c.if-long_value.false c.long_value.ensures))

pub returns-in-Ok : goal.returns-in-Ok
returns-in-Ok c = at_told c.args.v.now.index.presumed c.args.key.now c.args.value.now c.args.out (omega (arith, refuted c.if-long_key.false c.long_key.ensures)) (omega (arith, refuted c.if-long_value.false c.long_value.ensures)) (stands_at c.args.key.now _ c.seek.ensures c.in-Ok.is) _ c.read_spot-x.ensures.pieces.value_length c.judge_old.ensures

pub returns-in-Err : goal.returns-in-Err
returns-in-Err c = c.judge_new.ensures _
