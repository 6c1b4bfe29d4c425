-- `hold` meets its contract.
-- Assumes nothing.
use Prim.Native.Nat.{◌-◌}
use lib.ListN.{length}
use mathlib.Core.Path.{refl}
use Rattle.feed.specs.FeedLaws.{Least, holds_put}
use native.Mathlib.Omega.{arith}
use Rattle.feed.proofs.hold.Goals as goal

pub returns : goal.returns
returns c =
    let m : Least c.min-n.result (length c.args.text.now) (length c.args.line.now - c.args.held) =
    record { first = omega (arith, c.min-n.ensures); second = omega (arith, c.min-n.ensures); lower = λ l. omega (arith, c.min-n.ensures); upper = λ l. omega (arith, c.min-n.ensures) } in
    holds_put c.copy_into.ensures c.requires refl m
