-- `inner::remove_found` meets its contract.
-- Assumes nothing.
use Rattle.changes.specs.MadeLaws.{wrote_told}
use Rattle.spots.specs.SpotLaws.{spot_asked, spot_told}
use Rattle.tree_remove.specs.RemoveLaws.{found_short, found_spot, found_taken, found_writes}
use Rattle.tree_remove.proofs.inner.remove_found.Goals as goal

pub read_spot-x-requires : goal.read_spot-x-requires
read_spot-x-requires c = spot_asked _ c.new-view.ensures (found_spot c.requires)

pub returns-then-out-x : goal.returns-then-out-x
returns-then-out-x c = found_short c.requires (spot_told _ c.new-view.ensures c.read_spot-x.ensures) c.args.out.now c.if-out-x.true

pub write_old-old-requires : goal.write_old-old-requires
write_old-old-requires c = found_writes _ c.args.out.now (spot_asked _ c.new-view.ensures (found_spot c.requires)) c.read_spot-x.ensures c.if-out-x.false

pub returns : goal.returns
returns c =
    found_taken c.requires (spot_told _ c.new-view.ensures c.read_spot-x.ensures) c.args.out.now c.if-out-x.false (wrote_told _ c.new-view.ensures c.write_old-old.ensures) c.take_pair-header.ensures
