-- `room_behind` meets its contract.
-- Assumes nothing.
use Rattle.merge.specs.BehindLaws.{behind_can, behind_made, behind_none}
use native.Mathlib.Omega.{arith}
use Rattle.merge.proofs.room_behind.Goals as goal

pub make_room-requires : goal.make_room-requires
make_room-requires c = behind_can c.requires

pub returns-then-g-gt0 : goal.returns-then-g-gt0
returns-then-g-gt0 c = behind_made c.requires c.make_room.ensures

pub returns-else-g-gt0 : goal.returns-else-g-gt0
returns-else-g-gt0 c = behind_none c.requires (omega arith)
