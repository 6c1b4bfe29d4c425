-- `check_pairs` meets its contract.
-- Assumes nothing.
use Rattle.lists.specs.Exact.{refuted}
use Rattle.tree_read.proofs.Pairs.{pairs_first, pairs_rest, pairs_end, pairs_last, pairs_all}
use native.Mathlib.Omega.{arith}
use Rattle.tree_read.proofs.check.Lent.check_pairs.Goals as goal

pub returns-then-not-first_ok : goal.returns-then-not-first_ok
returns-then-not-first_ok c = pairs_first _ _ _ _ _ _ _ c.requires (omega arith) (refuted c.if-not-first_ok.true c.first_ok.ensures)

pub returns-in_err-sum : goal.returns-in_err-sum
returns-in_err-sum c =
    rw c.from_residual.ensures (pairs_rest _ _ _ _ _ _ _ c.requires (omega arith)
    c.in_err-sum.ensures)

pub last_ok-requires : goal.last_ok-requires
last_ok-requires c =
    let p = c.requires in
    let o = c.in_ok-sum.ensures in
    (omega (arith, p.in_slots), pairs_end _ _ _ _ _ _ _ p (omega arith) (c.first_ok.ensures.sound c.if-not-first_ok.false) o.0, p.upper_stands)

pub returns-then-not-last_ok : goal.returns-then-not-last_ok
returns-then-not-last_ok c =
    pairs_last _ _ _ _ _ _ _ c.requires (omega arith) (refuted c.if-not-last_ok.true c.last_ok.ensures)

pub returns : goal.returns
returns c =
    let o = c.in_ok-sum.ensures in
    pairs_all _ _ _ _ _ _ _ c.requires (omega arith) _ (c.first_ok.ensures.sound c.if-not-first_ok.false) o.0 o.1
    (c.last_ok.ensures.sound c.if-not-last_ok.false)
