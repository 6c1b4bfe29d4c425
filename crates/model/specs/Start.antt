-- A scan by its two ends: the pairs from the first past the start on, and where they begin.
use Rattle.std.specs.Prelude.{suc, ℕ, cond, drop, get_or}
use mathlib.Core.List.{List, [], ◌++◌, ◌∷◌}
use Rattle.std.proofs.Math.Option.{Option, none, some}
use Rattle.model.specs.Leaves.{Node, node, pairs_of}
use Rattle.model.specs.Map.{Pair, before_end, past_start}
use Rattle.model.specs.Place.{Place, at, gap}
use Rattle.model.specs.declared.Bound.{Bound}
use Rattle.model.specs.declared.Bound.TheVariants.{Excluded, Included, Open}
use Rattle.order.specs.Bytes.{Bytes}

-- the pairs from the first past the start on
unfoldable pub from_start : Bound → Bytes → List Pair → List Pair
from_start b s [] = []
from_start b s (p ∷ m) = cond (past_start b s p.key) (p ∷ m) (from_start b s m)

-- the first of some pairs, if it is before the end
abbrev pub first_before : Bound → Bytes → List Pair → Option Pair
first_before b e [] = none
first_before b e (p ∷ m) = cond (before_end b e p.key) (some p) none

abbrev pub slot_from : Bound → Place → ℕ
slot_from Included (at i) = i
slot_from Excluded (at i) = suc i
slot_from Open (at i) = 0
slot_from Included (gap i) = i
slot_from Excluded (gap i) = i
slot_from Open (gap i) = 0

-- the pairs from the i-th of the j-th leaf on
abbrev pub rest_of : List Node → (j i : ℕ) → List Pair
rest_of ns j i = drop i (get_or ns j (node 0 [] [])).pairs ++ pairs_of (drop (suc j) ns)
