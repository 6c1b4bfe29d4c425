use Rattle.std.specs.Prelude.{◌≡◌, ℕ, ◌+◌, ◌-◌}
use Rattle.std.proofs.Common.{arith}
use Rattle.lists.proofs.FillLaws.{fill_start}
use Rattle.lists.proofs.Shift.{each_read, each_done}
use Rattle.moves.proofs.Steps.{raised}
use Rattle.moves.proofs.raise.Goals as goal

pub loop-i-init : goal.loop-i-init
loop-i-init c = fill_start _ _ _ _ (omega arith)

pub overflow_add-a : goal.overflow_add-a
overflow_add-a c =
    let a = c.args in
    let i = c.loop-i.i in
    let at : a.from + (i - a.from) ≡ i = omega arith in
    omega (
      arith,
      c.requires.1 i (omega arith) (omega arith),
      rw at at (each_read a.a.now a.from a.n (λ (x : ℕ). x + a.k) (omega arith) (i - a.from) _ 0 (omega arith) c.loop-i.invariant),
    )

pub loop-i-preserved : goal.loop-i-preserved
loop-i-preserved c =
    let a = c.args in
    raised _ a.from a.n _ _ (λ (x : ℕ). x + a.k) _ 0 (omega arith) (omega arith) (omega arith) (omega arith) c.loop-i.invariant

pub returns : goal.returns
returns c = each_done _ _ c.args.n _ (omega arith) _ _ (omega arith) c.loop-i.invariant
