-- `reply_leaves` meets its contract.
-- Assumes nothing.
use mathlib.Core.Path.{refl}
use Rattle.replies.specs.LeavesLaws.{line_asked, line_more, lines_done, lines_start}
use borrow.Author.Rules.{rules}
use native.Mathlib.Omega.{arith}
use Rattle.replies.proofs.reply_leaves.Goals as goal

pub loop-place-init : goal.loop-place-init
loop-place-init c = (search rules, lines_start c.requires)

pub reply_leaf-e-requires : goal.reply_leaf-e-requires
reply_leaf-e-requires c = line_asked c.requires c.loop-place.place c.loop-place.invariant.1

pub loop-place-preserved : goal.loop-place-preserved
loop-place-preserved c = (search rules, line_more c.requires c.loop-place.place c.loop-place.invariant.1 _ refl c.reply_leaf-e.ensures)

pub returns : goal.returns
returns c = lines_done c.requires c.loop-place.place c.loop-place.invariant.1 (omega arith)
