-- `check_next` meets its contract.
-- Assumes nothing.
use mathlib.Core.Path.{refl, ap}
use Prim.Native.Nat.{ℕ, ◌+◌}
use Rattle.tree_read.proofs.Run.{next_unread, step_fails, step_goes}
use Rattle.tree_read.proofs.check.Lent.check_next.Goals as goal

pub returns-in_err-upper : goal.returns-in_err-upper
returns-in_err-upper c = rw c.from_residual.ensures (next_unread _ _ _ _ _ _ _ c.requires c.in_err-upper.ensures)

pub returns-in_err-sum : goal.returns-in_err-sum
returns-in_err-sum c =
    rw c.from_residual-in_err-sum.ensures
    (step_fails _ _ _ _ _ _ _ c.requires c.in_ok-upper.upper c.in_ok-upper.ensures
    c.in_err-sum.ensures)

pub returns : goal.returns
returns c =
    let o = c.in_ok-sum.ensures in
    step_goes _ _ _ _ _ _ _ c.requires c.in_ok-upper.upper c.in_ok-upper.ensures _ o.0 o.1 c.unwrap_or.ensures refl
    (ap (λ (x : ℕ). c.args.s.pairs + x) c.pair_count.ensures.0) refl
