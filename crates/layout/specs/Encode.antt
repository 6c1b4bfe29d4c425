-- A leaf list written as words and bytes.
use Rattle.std.specs.Prelude.{◌+◌, ◌-◌, ◌<◌, ◌^◌, ℕ, ◌≡◌, replicate, drop, take}
use mathlib.Core.List.{List, [], ◌++◌, ◌∷◌}
use Rattle.std.proofs.Math.ListN.{length}
use Rattle.layout.specs.Buffers.{Buffers}
use Rattle.lists.specs.All.{All}
use Rattle.lists.specs.Part.{part}
use Rattle.model.specs.Leaves.{Node}
use Rattle.model.specs.Map.{Pair}
use Rattle.order.specs.Bytes.{Bytes}
use Rattle.words.specs.Words.{first_slot, directory_word, low_key_word, slot_word}

-- a list stands in another from a place on
pub record Lies (l : List ℕ) (a : ℕ) (x : List ℕ) : Type 0 where
  pub reads : part l a (length x) ≡ x

unfoldable pub pair_bytes : (p : ℕ) → List Pair → List ℕ
pair_bytes p [] = []
pair_bytes p (q ∷ m) = (drop p q.key ++ q.value) ++ pair_bytes p m

abbrev pub leaf_bytes : (p : ℕ) → Node → List ℕ
leaf_bytes p n = n.low ++ pair_bytes p n.pairs

unfoldable pub pair_words : (p a : ℕ) → List Pair → List ℕ
pair_words p a [] = []
pair_words p a (q ∷ m) =
    slot_word a (length (drop p q.key)) (length q.value) ∷ pair_words p (a + length (drop p q.key ++ q.value)) m

abbrev pub low_word_of : (a : ℕ) → Node → ℕ
low_word_of a n = low_key_word a (length n.low)

abbrev pub region_head : (fanout p a : ℕ) → Node → List ℕ
region_head fanout p a n = pair_words p (a + length n.low) n.pairs ++ replicate (fanout - 1 - length n.pairs) 0

unfoldable pub region : (fanout p a : ℕ) → Node → List ℕ
region fanout p a n = region_head fanout p a n ++ (low_word_of a n ∷ [])

abbrev pub directory_of : Node → ℕ
directory_of n = directory_word n.number (length n.pairs)

-- a pair that can be stored: its key begins with the leaf's prefix, its lengths fit the word's fields
pub record Storable (p : ℕ) (prefix : Bytes) (q : Pair) : Type 0 where
  pub begins : take p q.key ≡ prefix
  pub suffix_fits : length (drop p q.key) < 2 ^ 12
  pub value_fits : length q.value < 2 ^ 24

-- one leaf: its words are in its region, its bytes lie from a on
pub record Written (b : Buffers) (p a : ℕ) (n : Node) : Type 0 where
  pub counted : length n.pairs < b.fanout
  pub count_fits : length n.pairs < 2 ^ 20
  pub low_fits : length n.low < 2 ^ 12
  pub storable : All (Storable p (take p n.low)) n.pairs
  pub words : part b.slots (first_slot b.fanout n.number) b.fanout ≡ region b.fanout p a n
  pub bytes : Lies b.arena a (leaf_bytes p n)
