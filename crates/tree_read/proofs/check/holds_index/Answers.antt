-- `holds_index` meets its contract: true exactly where W holds.
-- Assumes nothing.
use Rattle.tree_read.proofs.WTest.{w_shaped, w_low, w_first, w_leaves_at, w_leaves, w_all}
use native.Mathlib.Omega.{arith}
use Rattle.tree_read.proofs.check.holds_index.Goals as goal

pub read_low-requires : goal.read_low-requires
read_low-requires c =
    let g = c.args in
    w_shaped g.h g.dir.now g.slots.now g.arena.now (c.sizes_met.ensures.sound c.if-not-sizes_met.false)

pub returns-in_default : goal.returns-in_default
returns-in_default c = w_low _ _ _ _ (c.sizes_met.ensures.sound c.if-not-sizes_met.false) (omega arith) (omega arith) c.in_default.ensures

pub returns-then-low-ne0 : goal.returns-then-low-ne0
returns-then-low-ne0 c = w_first _ _ _ _ (c.sizes_met.ensures.sound c.if-not-sizes_met.false) (omega arith) (omega arith) c.in-Some.ensures.1 (λ e. omega arith)

pub check_leaves-requires : goal.check_leaves-requires
check_leaves-requires c = w_leaves_at c.args.h _ _ _ (c.sizes_met.ensures.sound c.if-not-sizes_met.false) (omega arith) (omega arith) c.in-Some.ensures

pub returns-in_default-check_leaves : goal.returns-in_default-check_leaves
returns-in_default-check_leaves c = w_leaves _ _ _ _ (c.sizes_met.ensures.sound c.if-not-sizes_met.false) (omega arith) (omega arith) c.in_default-check_leaves.ensures

pub returns : goal.returns
returns c =
    let m = c.in-Some-check_leaves.ensures in
    w_all _ _ _ _ (c.sizes_met.ensures.sound c.if-not-sizes_met.false) (omega arith) (omega arith) _ m.1 c.in-Some.ensures.1 (omega arith) m.0 c.adds_up.ensures
