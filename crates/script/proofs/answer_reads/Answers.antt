-- `answer_reads` meets its contract: after each read, what stands is what the input so far leads to.
-- Assumes nothing.
use mathlib.Core.Path.{refl, sym, ◌∙◌}
use Rattle.session.specs.SameLaws.{same_more, same_self}
use Rattle.script.specs.ScriptLaws.{all_read, led_ready, led_start, led_step, same_lengths, true_false}
use native.Mathlib.Omega.{arith}
use Rattle.script.proofs.answer_reads.Goals as goal

pub loop-turn-init : goal.loop-turn-init
loop-turn-init g c = (led_start c.requires c.closed.ensures, same_self _, refl, refl)

pub returns-then-not-is_more : goal.returns-then-not-is_more
returns-then-not-is_more g c = record {
  read = all_read c.loop-turn.invariant.0 (omega (arith, c.loop-turn.invariant.3)) (λ p. true_false (sym p.0 ∙ sym c.is_more.ensures ∙ c.if-not-is_more.true));
  same = c.loop-turn.invariant.1;
}

pub answer_some-c-requires : goal.answer_some-c-requires
answer_some-c-requires g c = led_ready c.loop-turn.invariant.0

pub loop-turn-preserved : goal.loop-turn-preserved
loop-turn-preserved g c = (
  led_step c.loop-turn.invariant.0 (same_lengths c.answer_some-c.ensures.same c.answer_some-c.auto.line) (sym c.is_more.ensures ∙ c.if-not-is_more.false) c.answer_some-c.ensures.stepped,
  same_more c.loop-turn.invariant.1 c.answer_some-c.ensures.same,
  c.answer_some-c.auto.input ∙ c.loop-turn.invariant.2,
  refl,
)

pub returns : goal.returns
returns g c = record { read = all_read c.loop-turn.invariant.0 (omega (arith, c.loop-turn.invariant.3)) (λ p. omega (arith, p.1)); same = c.loop-turn.invariant.1 }
