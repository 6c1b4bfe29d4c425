-- `take_lines` meets its contract: the part of the piece that was taken so far was fed.
-- Assumes nothing.
use Rattle.session.specs.SameLaws.{same_more, same_self}
use Rattle.session.specs.TakeLaws.{going_asked, going_start, going_turn}
use borrow.Author.Rules.{rules}
use Rattle.session.proofs.take.take_lines.Goals as goal

pub loop-b-init : goal.loop-b-init
loop-b-init c = (going_start c.requires, same_self _)

pub take_line-e-requires : goal.take_line-e-requires
take_line-e-requires c = going_asked c.requires c.loop-b.invariant.0 (c.goes_on.ensures.sound c.loop-b-test.true).0 (c.goes_on.ensures.sound c.loop-b-test.true).1

pub loop-b-preserved : goal.loop-b-preserved
loop-b-preserved c = (
  going_turn c.requires c.loop-b.invariant.0 c.take_line-e.ensures.taken (search rules) c.take_line-e.ensures.same.key.long c.take_line-e.ensures.same.value.long c.take_line-e.ensures.same.found.long c.take_line-e.ensures.same.out.long,
  same_more c.loop-b.invariant.1 c.take_line-e.ensures.same,
)
