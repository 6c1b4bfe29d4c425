-- The parts of the first leaves moved down tight from the arena's start on, or those of the last leaves up tight to its end.
use Rattle.std.specs.Prelude.{ℕ, suc, ◌^◌, ◌≤◌, ◌<◌, List, ◌≡◌, drop, get_or, length, take}
use Rattle.arena.specs.Slides.{lent}
use Rattle.layout.specs.Buffers.{Buffers}
use Rattle.layout.specs.Frames.{SameWords}
use Rattle.layout.specs.Lays.{LaysAt}
use Rattle.layout.specs.Order.{words_of}
use Rattle.layout.specs.Regions.{Owns}
use Rattle.lists.specs.All.{All}
use Rattle.model.specs.Leaves.{Node}
use Rattle.room.specs.Parts.{Tight, sizes}

-- the directory words ds lay out a leaf list, and each leaf has its region for itself
pub record Whole (b : Buffers) (ds : List ℕ) : Type 0 where
  pub ps : List ℕ
  pub ns : List Node
  pub lays : LaysAt b ds ps ns
  pub owns : (j : ℕ) → j < length ds → Owns b (take j ds) (get_or ds j 0) (drop (suc j) ds)

-- parts were moved: every leaf list stays, and all parts together have the same size
pub record Repacked (b c : Buffers) (ds : List ℕ) : Type 0 where
  pub kept : {ps : List ℕ} {ns : List Node} → LaysAt b ds ps ns → LaysAt c ds ps ns
  pub owned : (j : ℕ) → j < length ds → Owns c (take j ds) (get_or ds j 0) (drop (suc j) ds)
  pub same_size : sizes (words_of c ds) ≡ sizes (words_of b ds)

-- the first j leaves packed down, the words of the others as they were
pub record AllDown (b c : Buffers) (ds : List ℕ) (j end : ℕ) : Type 0 where
  pub repacked : Repacked b c ds
  pub rest : All (SameWords b c) (drop j ds)
  pub tight : Tight 0 (words_of c (take j ds)) end

-- the leaves from the j-th on packed up
pub record AllUp (b c : Buffers) (ds : List ℕ) (j start : ℕ) : Type 0 where
  pub repacked : Repacked b c ds
  pub rest : All (SameWords b c) (take j ds)
  pub tight : Tight start (words_of c (drop j ds)) (length c.arena)

pub record CanPackDown (fanout : ℕ) (dir slots arena : List ℕ) (j : ℕ) : Type 0 where
  pub leaves : ℕ
  pub used : j ≤ leaves
  pub inside : leaves ≤ length dir
  pub whole : Whole (lent fanout slots arena) (take leaves dir)
  pub arena_fits : length arena < 2 ^ 28

-- however many leaves there are
pub record PackDown (fanout : ℕ) (dir slots arena now_slots now_arena : List ℕ) (j end : ℕ) : Type 0 where
  pub down : (leaves : ℕ) → j ≤ leaves → leaves ≤ length dir → Whole (lent fanout slots arena) (take leaves dir)
      → AllDown (lent fanout slots arena) (lent fanout now_slots now_arena) (take leaves dir) j end

pub record CanPackUp (fanout leaves : ℕ) (dir slots arena : List ℕ) (j : ℕ) : Type 0 where
  pub used : j ≤ leaves
  pub inside : leaves ≤ length dir
  pub whole : Whole (lent fanout slots arena) (take leaves dir)
  pub arena_fits : length arena < 2 ^ 28

abbrev pub PackUp : (fanout leaves : ℕ) (dir slots arena now_slots now_arena : List ℕ) (j start : ℕ) → Type 0
PackUp fanout leaves dir slots arena now_slots now_arena j start =
    AllUp (lent fanout slots arena) (lent fanout now_slots now_arena) (take leaves dir) j start
