use mathlib.Core.Path.{refl}
use Rattle.tree_read.proofs.Run.{going_turn}
use Rattle.tree_read.proofs.check.Lent.check_leaves.Goals as goal

pub loop-j-preserved : goal.loop-j-preserved
loop-j-preserved c = going_turn _ _ _ _ _ c.requires _ _ _ _ c.loop-j.invariant c.loop-j-test.true refl c.in_ok-s.ensures
