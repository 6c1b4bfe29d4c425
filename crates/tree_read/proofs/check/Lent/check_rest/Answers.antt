use mathlib.Core.Path.{refl}
use Rattle.lists.specs.Exact.{refuted}
use Rattle.tree_read.proofs.Rest.{rest_start, rest_fails, rest_turn}
use native.Mathlib.Omega.{arith}
use Rattle.tree_read.proofs.check.Lent.check_rest.Goals as goal

pub loop-i-init : goal.loop-i-init
loop-i-init c = rest_start _ _ _ _ _ c.requires _ _ refl c.pair_charge-charge.ensures.0 c.pair_charge-charge.ensures.1

pub returns-then-not-next_ok : goal.returns-then-not-next_ok
returns-then-not-next_ok c = rest_fails _ _ _ _ _ c.requires _ _ c.loop-i.invariant c.loop-i-test.true (refuted c.if-not-next_ok.true c.next_ok.ensures)

pub loop-i-preserved : goal.loop-i-preserved
loop-i-preserved c =
    rest_turn _ _ _ _ _ c.requires _ _ c.loop-i.invariant (omega arith) _ _ refl (omega arith) (omega arith)
    (c.next_ok.ensures.sound c.if-not-next_ok.false)
