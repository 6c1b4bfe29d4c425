-- `parse` meets its contract.
-- Assumes nothing.
use mathlib.Core.Path.{refl}
use Rattle.lists.specs.Exact.{refuted}
use Rattle.lines.specs.CutLaws.{cut_whole, equal_words}
use Rattle.lines.specs.Grammar.{new_word, put_word}
use Rattle.lines.specs.ParseLaws.{space_joined, alone, of_word}
use Rattle.lines.proofs.parse.Goals as goal

pub returns-else-eq : goal.returns-else-eq
returns-else-eq c = alone _ _ (cut_whole (rw c.in_default.is at c.word_end.ensures) refl) (refuted c.if-eq.false (equal_words c.eq.ensures c.as_slice.ensures))

pub returns-then-eq-2 : goal.returns-then-eq-2
returns-then-eq-2 c = of_word (space_joined (rw c.in-Some.is at c.word_end.ensures)) _ _ _ _ put_word c.parse_put.result ((equal_words c.eq-2.ensures c.as_slice-2.ensures).sound c.if-eq-2.true) c.parse_put.ensures

pub returns-then-eq-3 : goal.returns-then-eq-3
returns-then-eq-3 c = of_word (space_joined (rw c.in-Some.is at c.word_end.ensures)) _ _ _ _ new_word c.parse_new.result ((equal_words c.eq-3.ensures c.as_slice-3.ensures).sound c.if-eq-3.true) (c.parse_new.ensures _ _)

pub returns : goal.returns
returns c = of_word (space_joined (rw c.in-Some.is at c.word_end.ensures)) _ _ _ _ _ c.parse_key.result refl (c.parse_key.ensures _)
