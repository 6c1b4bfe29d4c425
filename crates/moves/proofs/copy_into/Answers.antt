use Rattle.std.specs.Prelude.{refl}
use Rattle.std.proofs.Common.{arith}
use Rattle.lists.proofs.FillLaws.{fill_start, fill_step}
use Rattle.moves.proofs.copy_into.Goals as goal

pub loop-i-init : goal.loop-i-init
loop-i-init g c = fill_start _ _ _ _ refl

pub loop-i-preserved : goal.loop-i-preserved
loop-i-preserved g c =
    let x = c.index-s-i.result in
    fill_step _ _ _ _ _ _ _ x x (omega (arith, c.requires)) (omega (arith, c.loop-i-test.true)) refl refl c.index-s-i.is c.loop-i.invariant
