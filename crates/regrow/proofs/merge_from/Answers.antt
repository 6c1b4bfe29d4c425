-- `merge_from` meets its contract.
-- Assumes nothing.
use Rattle.regrow.proofs.MergeSteps.{can_shorten, can_take, merged}
use Rattle.regrow.proofs.merge_from.Goals as goal

pub shorten_prefix-requires : goal.shorten_prefix-requires
shorten_prefix-requires c = can_shorten c.requires

pub take_over-requires : goal.take_over-requires
take_over-requires c = can_take c.requires c.shorten_prefix.ensures c.shorten_prefix.auto.slots

pub returns : goal.returns
returns c = merged c.requires c.shorten_prefix.ensures c.shorten_prefix.auto.slots c.take_over.ensures
