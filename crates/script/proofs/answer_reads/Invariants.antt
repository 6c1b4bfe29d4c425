use mathlib.Core.Path.{◌≡◌}
use lib.ListN.{length}
use Rattle.session.specs.Same.{SameBuffers}
use Rattle.script.specs.Script.{Led}
use Rattle.script.proofs.answer_reads.Given as goal

abbrev pub invariant-loop-turn : goal.invariant-loop-turn
invariant-loop-turn g l =
    Led l.c l.b.dir.now l.b.slots.now l.b.arena.now l.line l.b.key.now l.b.value.now l.b.found.now l.b.out.now × SameBuffers l.initial.b l.b × (length l.input ≡ length l.initial.input)
    × (l.turns ≡ l.turn)
