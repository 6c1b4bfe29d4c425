-- `range_value` meets its contract.
-- Assumes nothing.
use Rattle.std.proofs.Common.{sym}
use Rattle.tree_range.specs.FoundLaws.{range_value_held}
use Rattle.tree_range.proofs.range_value.Goals as goal

pub range_value-requires : goal.range_value-requires
range_value-requires c = sym c.in-Ok.ensures.0.arena_is

pub returns : goal.returns
returns c =
    range_value_held c.args.range c.args.start.now c.args.end.now c.in-Ok.v c.in-Ok.ensures.1 c.in-Ok.ensures.0 c.range_value.ensures
