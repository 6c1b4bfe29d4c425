-- `next_ok` meets its contract.
-- Assumes nothing.
use mathlib.Core.Path.{refl}
use Rattle.tree_read.proofs.Steps.{next_below}
use Rattle.tree_read.proofs.check.Lent.next_ok.Goals as goal

pub returns-then-word_ok : goal.returns-then-word_ok
returns-then-word_ok c =
    next_below _ _ _ _ _ c.from-p.ensures refl (c.word_ok.ensures.sound c.if-word_ok.true)
    c.from-s.ensures c.below.ensures
