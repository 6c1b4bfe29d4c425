-- The search in a leaf: its suffixes as pairs, what the search presumes of them, and its answer by a key's place.
use Rattle.std.proofs.Common.{Result}
use Rattle.std.specs.Prelude.{ℕ, ◌+◌, ◌≤◌, List, [], map, length, Ok, Err}
use Rattle.lists.specs.All.{All}
use Rattle.lists.specs.Part.{part}
use Rattle.words.specs.Words.{first_slot}
use Rattle.model.specs.Map.{Pair, Rising}
use Rattle.model.specs.Place.{Place}
use Rattle.model.specs.Place.Place.{at, gap}
use Rattle.layout.specs.Buffers.{pair_at}
use Rattle.layout.specs.LaysParts.{WordInside}
use Rattle.leaf.specs.declared.Leaf.{Leaf}

-- the leaf's slot words
unfoldable pub leaf_slots : (slots : List ℕ) → Leaf → List ℕ
leaf_slots slots leaf = part slots (first_slot leaf.fanout leaf.number.0) leaf.pairs

-- pairs with their suffixes for keys
abbrev pub suffixes_of : (arena words : List ℕ) → List Pair
suffixes_of arena words = map (pair_at arena []) words

abbrev pub find_told : Place → Result ℕ ℕ
find_told (at j) = Ok j
find_told (gap j) = Err j

-- the leaf's slots are in the buffer, what they hold is inside the arena, and the suffixes rise, as a search that halves needs
pub record Suffixes (slots arena : List ℕ) (leaf : Leaf) : Type 0 where
  pub room : first_slot leaf.fanout leaf.number.0 + leaf.pairs ≤ length slots
  pub inside : All (WordInside arena) (leaf_slots slots leaf)
  pub rising : Rising (suffixes_of arena (leaf_slots slots leaf))
