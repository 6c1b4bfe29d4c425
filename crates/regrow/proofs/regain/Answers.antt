-- `regain` meets its contract.
-- Assumes nothing.
use Rattle.regrow.proofs.Steps.{from_room, part_room, regained}
use Rattle.regrow.proofs.regain.Goals as goal

pub move_within-requires : goal.move_within-requires
move_within-requires c = part_room c.requires c.from-old.ensures

pub move_within-requires-2 : goal.move_within-requires-2
move_within-requires-2 c = from_room c.requires c.from-old.ensures c.move_within.auto.a

pub returns : goal.returns
returns c = regained c.requires c.from-old.ensures c.move_within.ensures c.move_within-2.ensures c.pack_slot.ensures
