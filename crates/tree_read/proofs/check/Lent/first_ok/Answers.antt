-- `first_ok` meets its contract.
-- Assumes nothing.
use mathlib.Core.Path.{refl}
use Rattle.tree_read.proofs.Steps.{first_not_below}
use Rattle.tree_read.proofs.check.Lent.first_ok.Goals as goal

pub returns-then-word_ok : goal.returns-then-word_ok
returns-then-word_ok c = first_not_below _ _ _ _ _ refl (c.word_ok.ensures.sound c.if-word_ok.true) c.from-s.ensures c.below.ensures
