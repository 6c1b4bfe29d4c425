-- `parse_key` meets its contract.
-- Assumes nothing.
use Rattle.lists.specs.Exact.{refuted}
use Rattle.lines.specs.CutLaws.{equal_words}
use Rattle.lines.specs.ParseLaws.{key_bad, key_other, key_get, key_del, key_next, taken}
use native.Mathlib.Omega.{arith}
use Rattle.lines.proofs.parse_key.Goals as goal

pub returns-then-not-is_bytes : goal.returns-then-not-is_bytes
returns-then-not-is_bytes c = key_bad c.requires.0 (refuted c.if-not-is_bytes.true c.is_bytes.ensures) _

pub returns-then-eq : goal.returns-then-eq
returns-then-eq c = key_get c.requires.0 ((equal_words c.eq.ensures c.as_slice.ensures).sound c.if-eq.true) (taken (c.is_bytes.ensures.sound c.if-not-is_bytes.false) (omega (arith, c.requires.0.short)) c.decode.ensures)

pub returns-then-eq-2 : goal.returns-then-eq-2
returns-then-eq-2 c = key_del c.requires.0 ((equal_words c.eq-2.ensures c.as_slice-2.ensures).sound c.if-eq-2.true) (taken (c.is_bytes.ensures.sound c.if-not-is_bytes.false) (omega (arith, c.requires.0.short)) c.decode-then-eq-2.ensures)

pub returns-then-eq-3 : goal.returns-then-eq-3
returns-then-eq-3 c = key_next c.requires.0 ((equal_words c.eq-3.ensures c.as_slice-3.ensures).sound c.if-eq-3.true) (taken (c.is_bytes.ensures.sound c.if-not-is_bytes.false) (omega (arith, c.requires.0.short)) c.decode-then-eq-3.ensures)

pub returns : goal.returns
returns c = key_other c.requires.0 (refuted c.if-eq.false (equal_words c.eq.ensures c.as_slice.ensures)) (refuted c.if-eq-2.false (equal_words c.eq-2.ensures c.as_slice-2.ensures)) (refuted c.if-eq-3.false (equal_words c.eq-3.ensures c.as_slice-3.ensures)) _
