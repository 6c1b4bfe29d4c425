-- What a leaf owns of directory and slots.
use Rattle.std.specs.Prelude.{◌<◌, ℕ, ◌+◌, ◌≤◌, List, length}
use Rattle.layout.specs.Buffers.{Buffers}
use Rattle.layout.specs.Frames.{Elsewhere, first_of}
use Rattle.lists.specs.All.{All}
use Rattle.words.specs.Words.{word_count, word_leaf}

-- the leaf's region is inside the slot buffer, and no other leaf's words are in it
pub record Owns (b : Buffers) (fs : List ℕ) (d : ℕ) (bs : List ℕ) : Type 0 where
  pub inside : first_of b d + b.fanout ≤ length b.slots
  pub count_fits : word_count d < b.fanout
  pub others_ahead : All (Elsewhere b.fanout (word_leaf d)) fs
  pub others_behind : All (Elsewhere b.fanout (word_leaf d)) bs
