-- `parse_new` meets its contract.
-- Assumes nothing.
use mathlib.Core.Path.{refl}
use Rattle.lines.specs.ParseLaws.{space_joined, new_one, new_two, new_first, new_second, new_third, new_said}
use Rattle.lines.proofs.parse_new.Goals as goal

pub returns-in_err-e : goal.returns-in_err-e
returns-in_err-e c = rw c.from_residual.ensures (new_one c.in_err-e.ensures refl)

pub returns-in_err-m : goal.returns-in_err-m
returns-in_err-m c = rw c.from_residual-in_err-m.ensures (new_two (space_joined c.in_ok-e.ensures) c.in_err-m.ensures refl)

pub returns-in_err-fanout : goal.returns-in_err-fanout
returns-in_err-fanout c = rw c.from_residual-in_err-fanout.ensures (new_first (space_joined c.in_ok-e.ensures) c.in_err-fanout.ensures)

pub returns-in_err-pool : goal.returns-in_err-pool
returns-in_err-pool c = rw c.from_residual-in_err-pool.ensures (new_second (space_joined c.in_ok-e.ensures) (space_joined c.in_ok-m.ensures) c.in_err-pool.ensures)

pub returns-in_err-arena : goal.returns-in_err-arena
returns-in_err-arena c = rw c.from_residual-in_err-arena.ensures (new_third (space_joined c.in_ok-e.ensures) (space_joined c.in_ok-m.ensures) c.in_err-arena.ensures)

pub returns : goal.returns
returns c = new_said (space_joined c.in_ok-e.ensures) (space_joined c.in_ok-m.ensures) _ _ _ c.requires c.in_ok-fanout.ensures c.in_ok-pool.ensures c.in_ok-arena.ensures
