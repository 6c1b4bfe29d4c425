use Rattle.regrow.proofs.Steps.{can_regain, place_of_lem, regrow_done, regrow_goes_on, regrow_starts}
use native.Mathlib.Omega.{arith}
use Rattle.regrow.proofs.regrow.Goals as goal

pub loop-i-init : goal.loop-i-init
loop-i-init c = regrow_starts c.requires _ (omega arith)

pub regain-requires : goal.regain-requires
regain-requires c = can_regain c.requires c.loop-i.invariant _ (omega arith) _ (place_of_lem c.requires _ c.leaf_number.ensures.0 c.first_slot-first.ensures)

pub loop-i-preserved : goal.loop-i-preserved
loop-i-preserved c =
    regrow_goes_on c.requires c.loop-i.invariant _ (omega arith) _ (place_of_lem c.requires _ c.leaf_number.ensures.0 c.first_slot-first.ensures) c.regain.ensures c.regain.auto.slots c.regain.auto.arena

pub returns : goal.returns
returns c = regrow_done c.requires _ (omega arith) c.loop-i.invariant
