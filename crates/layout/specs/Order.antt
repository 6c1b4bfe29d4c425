-- Rule G: the parts of a leaf list lie in the arena in order, gaps anywhere. (docs/LAYOUT.md)
use Rattle.std.specs.Prelude.{ℕ, ◌+◌, ◌≤◌, List, [], ◌∷◌, ◌++◌, map}
use Rattle.words.specs.Words.{word_offset, word_suffix, word_value}
use Rattle.lists.specs.All.{All}
use Rattle.layout.specs.Buffers.{Buffers, slot_words, low_word}

-- a part of the arena: where it starts, and how many bytes it has
pub record Extent : Type 0 where
  pub at : ℕ
  pub size : ℕ

abbrev pub extent : ℕ → ℕ → Extent
extent at size = record { at = at; size = size }

-- each part starts at or after the end of the one before it, the first at or after a, and the last ends at or before top
abbrev pub InOrder : ℕ → List Extent → ℕ → Type 0
InOrder a [] top = a ≤ top
InOrder a (e ∷ es) top = (a ≤ e.at) × InOrder (e.at + e.size) es top

-- the part of a slot word (a low-key word has no value)
abbrev pub word_extent : ℕ → Extent
word_extent w = extent (word_offset w) (word_suffix w + word_value w)

-- a leaf's words in the order of their parts: its low-key word, then its slot words
abbrev pub leaf_words : Buffers → ℕ → List ℕ
leaf_words b d = low_word b d ∷ slot_words b d

-- the words of all leaves, in directory order
abbrev pub words_of : Buffers → List ℕ → List ℕ
words_of b [] = []
words_of b (d ∷ ds) = leaf_words b d ++ words_of b ds

abbrev pub extents : Buffers → List ℕ → List Extent
extents b ds = map word_extent (words_of b ds)

-- where the last part ends
abbrev pub end_of : ℕ → List Extent → ℕ
end_of a [] = a
end_of a (e ∷ es) = end_of (e.at + e.size) es

abbrev pub total : List Extent → ℕ
total [] = 0
total (e ∷ es) = e.size + total es

-- none overlaps a later one
abbrev pub Apart : List Extent → Type 0
Apart [] = Unit {0}
Apart (e ∷ es) = All (λ f. e.at + e.size ≤ f.at) es × Apart es
