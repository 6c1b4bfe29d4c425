-- `moves::raise` meets its contract. The invariant: the words from `from` up to i are changed, and the others as they were.
-- Assumes nothing.
use Rattle.std.specs.Prelude.{map, ℕ, ◌+◌, ◌-◌}
use Rattle.lists.specs.Part.{part}
use Rattle.lists.specs.Fill.{Filling}
use Rattle.moves.proofs.raise.Given as goal

abbrev pub invariant-loop-i : goal.invariant-loop-i
invariant-loop-i l = Filling l.initial.a l.from (map (λ (x : ℕ). x + l.k) (part l.initial.a l.from l.n)) (l.i - l.from) l.a
