-- What L8's `clear` is held against: every pair's key removed in turn.
use Rattle.std.specs.Prelude.{ℕ, true, List, [], ◌∷◌}
use Rattle.model.specs.Leaves.{Node}
use Rattle.model.specs.Map.{Pair}
use Rattle.model.specs.Rules.{remove_rule}

-- every pair's key removed in turn, in merge mode
unfoldable pub remove_each : List Pair → List Node → List Node
remove_each [] ns = ns
remove_each (p ∷ l) ns = remove_each l (remove_rule true p.key ns)

abbrev pub first_number : List Node → ℕ
first_number [] = 0
first_number (n ∷ ns) = n.number
