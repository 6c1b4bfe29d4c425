-- `create` meets its contract.
-- Assumes nothing.
use Rattle.lists.specs.Exact.{refuted}
use native.Mathlib.Omega.{arith}
use Rattle.tree_create.proofs.Steps.{sizes_room, create_done, create_refused}
use Rattle.tree_create.proofs.create.Goals as goal

pub returns-then-not-sizes_met : goal.returns-then-not-sizes_met
returns-then-not-sizes_met c =
    let g = c.args in
    create_refused _ g.dir.now g.slots.now g.arena.now (refuted c.if-not-sizes_met.true c.sizes_met.ensures)
    _ _ _ _ (omega arith) (omega arith) (omega arith) (omega arith)

pub make_fresh-requires : goal.make_fresh-requires
make_fresh-requires c = sizes_room (c.sizes_met.ensures.sound c.if-not-sizes_met.false)

pub returns : goal.returns
returns c =
    let g = c.args in
    create_done _ g.dir.now g.slots.now g.arena.now (c.sizes_met.ensures.sound c.if-not-sizes_met.false) c.make_fresh.ensures
