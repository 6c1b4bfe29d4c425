-- Room made before the i-th slot of the leaf at the directory's place j: what is asked, and what is left. Where the room lies is not said.
use Rattle.std.specs.Prelude.{ℕ, suc, ◌+◌, ◌^◌, ◌≤◌, ◌<◌, List, [], ◌∷◌, ◌≡◌, length, take}
use Rattle.directory.specs.Used.{lent, used_from, used_to, word_at}
use Rattle.layout.specs.Around.{words_behind}
use Rattle.layout.specs.Lays.{LaysAt}
use Rattle.layout.specs.Order.{extents, total}
use Rattle.model.specs.Leaves.{Node}
use Rattle.slots.specs.Edits.{Gap}
use Rattle.slots.specs.Whole.{Apart}
use Rattle.words.specs.Words.{word_count, word_offset}
use Rattle.room.specs.Pack.{Whole}

-- the leaves lie in the arena, each with its own region of the slot buffer, and leave `need` bytes free in all
pub record CanMakeRoom (fanout leaves : ℕ) (dir slots arena : List ℕ) (j i need : ℕ) : Type 0 where
  pub inside : leaves ≤ length dir
  pub used : j < leaves
  pub slot : i ≤ word_count (word_at dir j)
  pub pool : ℕ
  pub ps : List ℕ
  pub ns : List Node
  pub lays : LaysAt (lent fanout slots arena) (take leaves dir) ps ns
  pub apart : Apart (lent fanout slots arena) pool ns
  pub arena_fits : length arena < 2 ^ 28
  pub free : total (extents (lent fanout slots arena) (take leaves dir)) + need ≤ length arena

-- every leaf list stays, and `need` bytes from `at` on lie in the gap there
pub record MadeRoom (fanout leaves : ℕ) (dir slots arena : List ℕ) (j i need at : ℕ) (exit_slots exit_arena : List ℕ) : Type 0 where
  pub same_slots : length exit_slots ≡ length slots
  pub same_arena : length exit_arena ≡ length arena
  pub kept : {ps : List ℕ} {ns : List Node} → LaysAt (lent fanout slots arena) (take leaves dir) ps ns → LaysAt (lent fanout exit_slots exit_arena) (take leaves dir) ps ns
  pub gap : Gap (lent fanout exit_slots exit_arena) (used_to dir leaves j) (word_at dir j) (used_from dir leaves (suc j)) i at need
  pub inside : at + need ≤ length arena

-- the place alone, whatever is free
pub record RoomPlace (fanout leaves : ℕ) (dir slots arena : List ℕ) (j i : ℕ) : Type 0 where
  pub inside : leaves ≤ length dir
  pub used : j < leaves
  pub slot : i ≤ word_count (word_at dir j)
  pub whole : Whole (lent fanout slots arena) (take leaves dir)
  pub arena_fits : length arena < 2 ^ 28

-- where the first of these words' parts starts, or `top` where there is none
abbrev pub start_of : (ws : List ℕ) (top : ℕ) → ℕ
start_of [] top = top
start_of (w ∷ ws) top = word_offset w

-- where the gap at that place ends: a part may be empty, and still bounds it
abbrev pub next_start : (fanout leaves : ℕ) (dir slots arena : List ℕ) (j i : ℕ) → ℕ
next_start fanout leaves dir slots arena j i = start_of (words_behind (lent fanout slots arena) (word_at dir j) (used_from dir leaves (suc j)) i) (length arena)

-- all parts packed around the place: room for as many bytes as are free in all
pub record PackedAround (fanout leaves : ℕ) (dir slots arena : List ℕ) (j i at : ℕ) (exit_slots exit_arena : List ℕ) : Type 0 where
  pub made : (need : ℕ) → total (extents (lent fanout slots arena) (take leaves dir)) + need ≤ length arena
      → MadeRoom fanout leaves dir slots arena j i need at exit_slots exit_arena
