use Prim.Native.Nat.{◌-◌}
use lib.ListN.{length}
use Rattle.session.specs.Same.{SameBuffers}
use Rattle.session.specs.TakeLaws.{Going}
use Rattle.session.proofs.take.take_lines.Given as goal

abbrev pub invariant-loop-b : goal.invariant-loop-b
invariant-loop-b l =
    Going l.initial.e l.initial.b.dir.now l.initial.b.slots.now l.initial.b.arena.now l.piece l.initial.line l.initial.b.out.now l.e l.b.dir.now l.b.slots.now l.b.arena.now l.line l.b.key.now l.b.value.now l.b.found.now l.b.out.now
    × SameBuffers l.initial.b l.b

abbrev pub decreases-loop-b : goal.decreases-loop-b
decreases-loop-b l =
    length l.piece - l.e.next
