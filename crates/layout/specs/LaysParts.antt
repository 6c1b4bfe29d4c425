-- The parts of a leaf list that is laid out: a slot word's part inside the arena, and what they cover.
use Rattle.std.specs.Prelude.{◌+◌, ◌≤◌, ℕ, List, [], ◌∷◌, length}
use Rattle.model.specs.Charge.{stored_pairs}
use Rattle.model.specs.Leaves.{Node}
use Rattle.words.specs.Words.{word_offset, word_suffix, word_value}

-- a word's part is inside the arena; its suffix and its value are then as long as it says
abbrev pub WordInside : (arena : List ℕ) → ℕ → Type 0
WordInside arena w = word_offset w + (word_suffix w + word_value w) ≤ length arena

abbrev pub stored_at : (prefixes : List ℕ) → List Node → ℕ
stored_at [] ns = 0
stored_at (p ∷ ps) [] = 0
stored_at (p ∷ ps) (n ∷ ns) = length n.low + stored_pairs p n.pairs + stored_at ps ns

abbrev pub Covered : (prefixes : List ℕ) → List Node → Type 0
Covered [] ns = Unit {0}
Covered (p ∷ ps) [] = Unit {0}
Covered (p ∷ ps) (n ∷ ns) = (p ≤ length n.low) × Covered ps ns
