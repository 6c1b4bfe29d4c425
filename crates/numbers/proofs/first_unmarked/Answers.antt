use Rattle.std.specs.Prelude.{◌≡◌, ◌^◌}
use native.Mathlib.Omega.{arith}
use mathlib.Core.Path.{refl}
use Rattle.lists.specs.Exact.{refuted}
use Rattle.numbers.specs.BitLaws.{walk_end, walk_found, walk_start, walk_step}
use Rattle.numbers.proofs.first_unmarked.Goals as goal

pub loop-i-init : goal.loop-i-init
loop-i-init c = walk_start _

pub returns-then-not-has_bit : goal.returns-then-not-has_bit
returns-then-not-has_bit c = walk_found c.loop-i.invariant (omega arith) (refuted c.if-not-has_bit.true c.has_bit.ensures)

pub loop-i-preserved : goal.loop-i-preserved
loop-i-preserved c = walk_step c.loop-i.invariant (c.has_bit.ensures.sound c.if-not-has_bit.false) refl

pub returns : goal.returns
returns c = let e : c.loop-i.i ≡ 2 ^ 12 = omega arith in rw e at (walk_end c.loop-i.invariant (omega arith) (omega arith))
