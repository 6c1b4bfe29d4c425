-- `inner::get` meets its contract.
-- Assumes nothing.
use Rattle.lists.specs.Exact.{refuted}
use Rattle.spots.specs.SeekLaws.{at_spot_in, stands_at, stands_gap}
use Rattle.tree_get.specs.GetLaws.{get_found, get_none}
use native.Mathlib.Omega.{arith}
use Rattle.tree_get.proofs.inner.get.Goals as goal

pub returns-in_default : goal.returns-in_default
returns-in_default c = get_none c.args.v.now (stands_gap c.args.key.now _ c.seek.ensures c.in_default.is) (omega (arith, refuted c.if-long_key.false c.long_key.ensures))

pub read_spot-requires : goal.read_spot-requires
read_spot-requires c = at_spot_in c.args.v.now.index.presumed c.args.key.now (stands_at c.args.key.now _ c.seek.ensures c.in-Ok.is)

pub returns : goal.returns
returns c = get_found c.args.v.now (stands_at c.args.key.now _ c.seek.ensures c.in-Ok.is) (omega (arith, refuted c.if-long_key.false c.long_key.ensures)) c.read_spot.ensures.pieces
