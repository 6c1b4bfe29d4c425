-- The bytes behind those that are left are FF.
-- Assumes nothing.
use Rattle.lists.specs.All.{All}
use Rattle.std.specs.Prelude.{drop, ◌≤◌, length}
use Rattle.prefixes.specs.End.{Full}
use Rattle.prefixes.proofs.end_length.Given as goal

abbrev pub invariant-loop-n : goal.invariant-loop-n
invariant-loop-n l = (l.n ≤ length l.prefix) × All Full (drop l.n l.prefix)
