-- The buffers of an encoded leaf list.
use Rattle.std.specs.Prelude.{◌+◌, ℕ, ◌≡◌}
use mathlib.Core.List.{List, [], ◌++◌, ◌∷◌}
use Rattle.std.proofs.Math.ListN.{length}
use Rattle.layout.specs.Encode.{leaf_bytes, region}
use Rattle.lists.specs.Part.{put, part}
use Rattle.model.specs.Leaves.{Node, low_of, prefix_length}
use Rattle.words.specs.Words.{first_slot}

-- the prefix length of a leaf before others, by L2
abbrev pub prefix_before : Node → List Node → ℕ
prefix_before n ns = prefix_length n.low (low_of ns)

unfoldable pub bytes_of : List Node → List ℕ
bytes_of [] = []
bytes_of (n ∷ ns) = leaf_bytes (prefix_before n ns) n ++ bytes_of ns

-- the leaves' regions written over a slot buffer; the bytes lie from a on
unfoldable pub slots_of : (fanout : ℕ) (base : List ℕ) (a : ℕ) → List Node → List ℕ
slots_of fanout base a [] = base
slots_of fanout base a (n ∷ ns) =
    put (slots_of fanout base (a + length (leaf_bytes (prefix_before n ns) n)) ns) (first_slot fanout n.number) (region fanout (prefix_before n ns) a n)

-- each leaf's region is in the slot buffer
abbrev pub Regions : (fanout : ℕ) (slots : List ℕ) (a : ℕ) → List Node → Type 0
Regions fanout slots a [] = Unit {0}
Regions fanout slots a (n ∷ ns) =
    (part slots (first_slot fanout n.number) fanout ≡ region fanout (prefix_before n ns) a n)
    × Regions fanout slots (a + length (leaf_bytes (prefix_before n ns) n)) ns
