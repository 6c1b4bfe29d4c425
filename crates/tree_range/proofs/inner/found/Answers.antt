-- `inner::found` meets its contract.
-- Assumes nothing.
use Rattle.tree_range.specs.FoundLaws.{allowed, found_at, found_out, found_past, next_in, spot_of}
use Rattle.tree_range.proofs.inner.found.Goals as goal

pub returns-in_default : goal.returns-in_default
returns-in_default c =
    let a = allowed c.args.range c.args.start.now c.args.end.now c.long_bound.ensures c.if-long_bound.false c.long_bound-else-long_bound.ensures c.if-long_bound-2.false c.inverted.ensures c.if-inverted.false in
    found_past c.args.v.now.index.presumed c.next_spot.ensures _ a c.start_spot-s.ensures c.in_default.is

pub before_end-requires : goal.before_end-requires
before_end-requires c =
    let x = c.args.v.now.index.presumed in
    spot_of x (next_in x c.next_spot.ensures c.in-Some.is)

pub returns-then-not-before_end : goal.returns-then-not-before_end
returns-then-not-before_end c =
    let a = allowed c.args.range c.args.start.now c.args.end.now c.long_bound.ensures c.if-long_bound.false c.long_bound-else-long_bound.ensures c.if-long_bound-2.false c.inverted.ensures c.if-inverted.false in
    found_out c.args.v.now.index.presumed c.next_spot.ensures _ a c.start_spot-s.ensures c.in-Some.is c.before_end.ensures c.if-not-before_end.true

pub returns : goal.returns
returns c =
    let a = allowed c.args.range c.args.start.now c.args.end.now c.long_bound.ensures c.if-long_bound.false c.long_bound-else-long_bound.ensures c.if-long_bound-2.false c.inverted.ensures c.if-inverted.false in
    found_at c.args.v.now.index.presumed c.next_spot.ensures _ a c.start_spot-s.ensures c.in-Some.is c.before_end.ensures c.if-not-before_end.false
