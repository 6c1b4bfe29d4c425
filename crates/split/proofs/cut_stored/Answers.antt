-- `cut_stored` meets its contract.
-- Assumes nothing.
use mathlib.Core.Path.{refl}
use Rattle.split.specs.CutStoredLaws.{can_cut, can_make_room, cut_done}
use Rattle.split.proofs.cut_stored.Goals as goal

pub make_room-at-requires : goal.make_room-at-requires
make_room-at-requires c = can_make_room c.requires

pub cut_leaf-requires : goal.cut_leaf-requires
cut_leaf-requires c = can_cut c.requires c.make_room-at.ensures c.copy_into.ensures _ refl refl

pub returns : goal.returns
returns c = cut_done c.requires c.make_room-at.ensures c.copy_into.ensures _ refl refl c.cut_leaf.ensures c.cut_leaf.auto.dir c.cut_leaf.auto.slots
