-- One leaf of a leaf list laid out, and that leaf list with this leaf alone changed.
use Rattle.std.specs.Prelude.{ℕ, ◌+◌, ◌≤◌, ◌<◌, List, length}
use Rattle.layout.specs.Around.{LaysAround}
use Rattle.layout.specs.Buffers.{Buffers}
use Rattle.layout.specs.Regions.{Owns}
use Rattle.model.specs.Leaves.{Node}
use Rattle.words.specs.Words.{first_slot, word_count, word_leaf}

abbrev pub over : (fanout : ℕ) (slots arena : List ℕ) → Buffers
over fanout slots arena = record { fanout = fanout; slots = slots; arena = arena }

-- a leaf list laid out around the leaf of the directory word d, in whose region no other leaf's words are
pub record Around (b : Buffers) (d : ℕ) : Type 0 where
  pub ahead : List ℕ
  pub behind : List ℕ
  pub prefixes_ahead : List ℕ
  pub prefix : ℕ
  pub prefixes_behind : List ℕ
  pub leaves_ahead : List Node
  pub leaf : Node
  pub leaves_behind : List Node
  pub lays : LaysAround b ahead d behind prefixes_ahead prefix prefixes_behind leaves_ahead leaf leaves_behind
  pub owns : Owns b ahead d behind

-- the same leaf list in the buffers c, but for that leaf: it is m now, at the prefix length p, by the directory word e
pub record Becomes (b : Buffers) (d : ℕ) (a : Around b d) (c : Buffers) (e p : ℕ) (m : Node) : Type 0 where
  pub lays : LaysAround c a.ahead e a.behind a.prefixes_ahead p a.prefixes_behind a.leaves_ahead m a.leaves_behind
  pub owns : Owns c a.ahead e a.behind

-- the region of the directory word d's leaf is inside the slot buffer
pub record Region (fanout : ℕ) (slots : List ℕ) (d : ℕ) : Type 0 where
  pub inside : first_slot fanout (word_leaf d) + fanout ≤ length slots
  pub count_fits : word_count d < fanout
