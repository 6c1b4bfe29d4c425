-- `make_room` meets its contract: the room is found, or the parts are packed around its place.
-- Assumes nothing.
use Rattle.room.specs.GapLaws.{place_read, place_sized, room_found}
use Rattle.room.specs.RoomLaws.{place_asked}
use Rattle.room.proofs.make_room.Goals as goal

pub bounds-dir-j : goal.bounds-dir-j
bounds-dir-j c = place_read (place_asked c.requires)

pub part_end-end-requires : goal.part_end-end-requires
part_end-end-requires c = place_sized (place_asked c.requires)

pub next_start-next-requires : goal.next_start-next-requires
next_start-next-requires c = place_asked c.requires

pub returns-then-end-need : goal.returns-then-end-need
returns-then-end-need c = room_found (place_asked c.requires) c.part_end-end.ensures c.next_start-next.ensures c.if-end-need.true

pub pack_around-requires : goal.pack_around-requires
pack_around-requires c = place_asked c.requires

pub returns : goal.returns
returns c = c.pack_around.ensures.made _ c.requires.free
