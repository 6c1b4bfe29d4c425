-- Written out, so that an edit of the test is refused by the fact that fails.
-- Assumes nothing.
use Rattle.std.specs.Prelude.{◌+◌, ◌-◌, ◌≡◌}
use Rattle.std.proofs.Common.{arith}
use Rattle.prefixes.proofs.end_length.Goals as goal

pub returns-then-prefix-n : goal.returns-then-prefix-n
returns-then-prefix-n c =
    let e : c.loop-n.n - 1 + 1 ≡ c.loop-n.n = omega arith in
    let g : c.loop-n.n - 1 + 1 - 1 ≡ c.loop-n.n - 1 = omega arith in
    record { within = omega arith; full = rw e c.loop-n.invariant.1; stops = λ _ f. let h : _ = rw g at f in omega (arith, h) }
