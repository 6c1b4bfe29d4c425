-- `shorten_keys` meets its contract.
-- Assumes nothing.
use mathlib.Core.Path.{refl}
use Rattle.slots.proofs.Steps.{words_fit, shorten_keys_met}
use borrow.Author.Rules.{rules}
use Rattle.slots.proofs.shorten_keys.Goals as goal

pub raise-requires : goal.raise-requires
raise-requires c = (search rules, words_fit _ _ _ c.requires c.slot_at-first.ensures c.pair_count.ensures.0 refl)

pub returns : goal.returns
returns c = shorten_keys_met _ _ _ c.requires c.slot_at-first.ensures c.pair_count.ensures.0 refl c.raise.ensures
