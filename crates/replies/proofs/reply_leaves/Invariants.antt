use mathlib.Core.Path.{◌≡◌}
use lib.ListN.{length}
use Rattle.replies.specs.Leaves.{lines_upto}
use Rattle.replies.specs.Replies.{ReadReply}
use Rattle.replies.proofs.reply_leaves.Given as goal

abbrev pub invariant-loop-place : goal.invariant-loop-place
invariant-loop-place l = (length l.out ≡ length l.initial.out) × ReadReply l.h l.dir l.slots l.arena (lines_upto l.place) l.initial.out l.at l.out l.e
