-- Where the pairs of an index lie: the slot words of all leaves in key order, one for each pair of the map, and the one of a key.
use Rattle.std.specs.Prelude.{ℕ, List, [], ◌∷◌, ◌++◌, length, take}
use Rattle.order.specs.Bytes.{Bytes, cmp}
use Rattle.model.specs.Leaves.{Node, pairs_of}
use Rattle.model.specs.Map.{Pair, by}
use Rattle.layout.specs.Buffers.{Buffers, slot_words, value_place}
use Rattle.layout.specs.Lays.{buffers}
use Rattle.layout.specs.declared.Header.{Header}

abbrev pub slots_of : Buffers → List ℕ → List ℕ
slots_of b [] = []
slots_of b (d ∷ ds) = slot_words b d ++ slots_of b ds

-- in step with the pairs; where the key has no pair, 0 stands for no word
unfoldable pub word_of : Bytes → List Pair → List ℕ → ℕ
word_of k [] ws = 0
word_of k (p ∷ m) [] = 0
word_of k (p ∷ m) (w ∷ ws) = by (cmp k p.key) 0 w (word_of k m ws)

-- where the value of the key k lies in the arena: right behind the suffix of k's slot word
unfoldable pub place_of : Header → (dir slots arena : List ℕ) → List Node → Bytes → ℕ
place_of h dir slots arena ns k = value_place (word_of k (pairs_of ns) (slots_of (buffers h slots arena) (take (length ns) dir)))
