use Prim.Native.Nat.{◌-◌}
use lib.ListN.{length}
use Rattle.session.specs.Same.{SameBuffers}
use Rattle.script.specs.ScriptLaws.{Along}
use Rattle.script.proofs.answer_piece.Given as goal

abbrev pub invariant-loop-next : goal.invariant-loop-next
invariant-loop-next g l =
    Along l.initial.e l.initial.b.dir.now l.initial.b.slots.now l.initial.b.arena.now l.initial.line l.piece l.e l.next l.b.dir.now l.b.slots.now l.b.arena.now l.line l.b.key.now l.b.value.now l.b.found.now l.b.out.now
    × SameBuffers l.initial.b l.b

abbrev pub decreases-loop-next : goal.decreases-loop-next
decreases-loop-next g l =
    length l.piece - l.next
