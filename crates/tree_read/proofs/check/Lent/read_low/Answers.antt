-- `read_low` meets its contract.
-- Assumes nothing.
use Rattle.tree_read.proofs.Steps.{low_read_no, low_read_yes}
use native.Mathlib.Omega.{arith}
use Rattle.tree_read.proofs.check.Lent.read_low.Goals as goal

pub returns-then-not-low_word_ok : goal.returns-then-not-low_word_ok
returns-then-not-low_word_ok c = low_read_no _ _ _ _ _ _ _ c.leaf_number-leaf.ensures.0 c.low_key_slot.ensures c.if-not-low_word_ok.true c.low_word_ok.ensures

pub returns : goal.returns
returns c = low_read_yes _ _ _ _ _ _ _ c.leaf_number-leaf.ensures.0 c.low_key_slot.ensures (omega arith) (c.low_word_ok.ensures.sound c.if-not-low_word_ok.false) c.from.ensures
