-- `answer_piece` meets its contract: the piece was fed up to `next`.
-- Assumes nothing.
use mathlib.Core.Path.{sym, ◌∙◌}
use Rattle.session.specs.SameLaws.{same_more, same_self}
use Rattle.script.specs.ScriptLaws.{along_asked, along_done, along_further, along_start, along_turn, along_written, same_lengths, true_false}
use borrow.Author.Rules.{rules}
use native.Mathlib.Omega.{arith}
use Rattle.script.proofs.answer_piece.Goals as goal

pub loop-next-init : goal.loop-next-init
loop-next-init g c = (along_start _ c.requires, same_self _)

pub take_lines-f-requires : goal.take_lines-f-requires
take_lines-f-requires g c = along_asked c.requires c.loop-next.invariant.0 c.begin.ensures

pub write_out-e-requires : goal.write_out-e-requires
write_out-e-requires g c = along_written c.requires c.loop-next.invariant.0 c.begin.ensures c.take_lines-f.ensures.taken c.loop-next-test.true

pub loop-next-smaller : goal.loop-next-smaller
loop-next-smaller g c = omega (arith, along_further c.loop-next.invariant.0 c.begin.ensures c.take_lines-f.ensures.taken c.loop-next-test.true, c.loop-next-test.true)

pub loop-next-preserved : goal.loop-next-preserved
loop-next-preserved g c = (along_turn c.loop-next.invariant.0 c.begin.ensures c.take_lines-f.ensures.taken c.write_out-e.ensures (same_lengths c.take_lines-f.ensures.same (search rules)), same_more c.loop-next.invariant.1 c.take_lines-f.ensures.same)

pub returns-else-is_more-clause-answered : goal.returns-else-is_more-clause-answered
returns-else-is_more-clause-answered g c = along_done c.loop-next.invariant.0 (λ p. true_false (sym p.0 ∙ sym c.is_more.ensures ∙ c.if-is_more.false))

pub returns-after-loop-next-clause-answered : goal.returns-after-loop-next-clause-answered
returns-after-loop-next-clause-answered g c = along_done c.loop-next.invariant.0 (λ p. omega (arith, p.1, c.loop-next-test.false))
