-- `pack_around` meets its contract.
-- Assumes nothing.
use Rattle.room.proofs.RoomSteps.{all_packed, first_asked, fourth_asked, second_asked, third_asked}
use Rattle.room.specs.GapLaws.{place_read}
use mathlib.Core.Path.{◌∙◌}
use Rattle.room.proofs.pack_around.Goals as goal

pub bounds-dir-j : goal.bounds-dir-j
bounds-dir-j c = place_read c.requires

pub pack_down-before-requires : goal.pack_down-before-requires
pack_down-before-requires c = first_asked c.requires

pub leaf_down-place-requires : goal.leaf_down-place-requires
leaf_down-place-requires c = second_asked c.requires c.pack_down-before.ensures c.pack_down-before.auto.arena

pub pack_up-behind-requires : goal.pack_up-behind-requires
pack_up-behind-requires c = third_asked c.requires c.pack_down-before.ensures c.leaf_down-place.ensures c.leaf_down-place.auto.slots (c.leaf_down-place.auto.arena ∙ c.pack_down-before.auto.arena)

pub leaf_up-requires : goal.leaf_up-requires
leaf_up-requires c = fourth_asked c.requires c.pack_down-before.ensures c.leaf_down-place.ensures c.leaf_down-place.auto.slots c.pack_up-behind.ensures (c.pack_up-behind.auto.arena ∙ c.leaf_down-place.auto.arena ∙ c.pack_down-before.auto.arena)

pub returns : goal.returns
returns c = all_packed c.requires c.pack_down-before.ensures c.leaf_down-place.ensures c.leaf_down-place.auto.slots c.pack_up-behind.ensures c.leaf_up.ensures c.leaf_up.auto.slots (c.leaf_up.auto.slots ∙ c.pack_up-behind.auto.slots ∙ c.leaf_down-place.auto.slots ∙ c.pack_down-before.auto.slots) (c.leaf_up.auto.arena ∙ c.pack_up-behind.auto.arena ∙ c.leaf_down-place.auto.arena ∙ c.pack_down-before.auto.arena)
