-- A leaf list laid out around one leaf: the leaves and words before it, and behind it.
use Rattle.std.specs.Prelude.{ℕ, List, ◌++◌, ◌∷◌, drop, length, take}
use Rattle.layout.specs.Buffers.{Buffers, low_word, slot_words}
use Rattle.layout.specs.Frames.{WordsIn}
use Rattle.layout.specs.Lays.{LaysEach, LaysLeaf}
use Rattle.layout.specs.Order.{leaf_words, words_of}
use Rattle.model.specs.Leaves.{Node}

-- the directory words fs, d and bs, at the prefix lengths qs, p and rs, lay out the leaves l, n and r
pub record LaysAround (b : Buffers) (fs : List ℕ) (d : ℕ) (bs qs : List ℕ) (p : ℕ) (rs : List ℕ) (l : List Node) (n : Node) (r : List Node) : Type 0 where
  pub ahead : LaysEach b qs fs l
  pub here : LaysLeaf b p d n
  pub behind : LaysEach b rs bs r
  pub ordered : WordsIn 0 (words_of b fs ++ (leaf_words b d ++ words_of b bs)) (length b.arena)

-- the words before the j-th slot word of the leaf, and those from it on
abbrev pub words_before : Buffers → (fs : List ℕ) (d j : ℕ) → List ℕ
words_before b fs d j = words_of b fs ++ (low_word b d ∷ take j (slot_words b d))

abbrev pub words_behind : Buffers → (d : ℕ) (bs : List ℕ) (j : ℕ) → List ℕ
words_behind b d bs j = drop j (slot_words b d) ++ words_of b bs
