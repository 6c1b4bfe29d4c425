-- `parse_put` meets its contract.
-- Assumes nothing.
use mathlib.Core.Path.{refl}
use Rattle.lists.specs.Exact.{refuted}
use Rattle.lines.specs.ParseLaws.{space_joined, first_half, second_half, put_one, put_first, put_second, put_said, taken}
use Rattle.lines.proofs.parse_put.Goals as goal

pub returns-in_err-e : goal.returns-in_err-e
returns-in_err-e c = rw c.from_residual.ensures (put_one c.in_err-e.ensures refl _ _)

pub returns-then-not-is_bytes : goal.returns-then-not-is_bytes
returns-then-not-is_bytes c = put_first (space_joined c.in_ok-e.ensures) (refuted c.if-not-is_bytes.true c.is_bytes.ensures) _ _

pub returns-then-not-is_bytes-2 : goal.returns-then-not-is_bytes-2
returns-then-not-is_bytes-2 c = put_second (space_joined c.in_ok-e.ensures) (refuted c.if-not-is_bytes-2.true c.is_bytes-2.ensures) _ _

pub returns : goal.returns
returns c = put_said (space_joined c.in_ok-e.ensures) c.requires.0 (taken (c.is_bytes.ensures.sound c.if-not-is_bytes.false) (first_half (space_joined c.in_ok-e.ensures) _ c.requires.0 c.requires.1) c.decode-n.ensures) (taken (c.is_bytes-2.ensures.sound c.if-not-is_bytes-2.false) (second_half (space_joined c.in_ok-e.ensures) _ c.requires.0 c.requires.2) c.decode-m.ensures)
