-- `shorten_keys_after_split` meets its contract.
-- Assumes nothing.
use Rattle.leaf_edit.specs.ShortenLaws.{short_asks, short_done, short_none}
use Rattle.leaf_edit.proofs.shorten_keys_after_split.Goals as goal

pub returns-in_default : goal.returns-in_default
returns-in_default c = short_none c.requires c.in_default.is

pub shorten_keys-requires : goal.shorten_keys-requires
shorten_keys-requires c = short_asks c.requires c.prefix_length-length.ensures.is

pub returns : goal.returns
returns c = short_done c.requires c.prefix_length-length.ensures.is c.shorten_keys.ensures
