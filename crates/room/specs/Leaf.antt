-- The parts of one leaf moved down tight behind what lies before it, or up tight before what lies behind it.
use Rattle.std.specs.Prelude.{ℕ, suc, ◌^◌, ◌≤◌, ◌<◌, List, ◌≡◌, drop, length, take}
use Rattle.arena.specs.Slides.{lent}
use Rattle.layout.specs.Buffers.{Buffers}
use Rattle.layout.specs.Order.{leaf_words, words_of}
use Rattle.words.specs.Words.{word_count}
use Rattle.room.specs.Parts.{Laid, Moved, Tight, parts_before, parts_from}

-- the first k parts of the leaf moved down: all parts before the k-th lie tight from the arena's start to `end`, the words from the k-th on are as they were
pub record Down (b c : Buffers) (fs : List ℕ) (d : ℕ) (bs : List ℕ) (k end : ℕ) : Type 0 where
  pub moved : Moved b c fs d bs
  pub rest : drop k (leaf_words c d) ≡ drop k (leaf_words b d)
  pub tight : Tight 0 (parts_before c fs d k) end

-- the parts from the k-th on moved up
pub record Up (b c : Buffers) (fs : List ℕ) (d : ℕ) (bs : List ℕ) (k start : ℕ) : Type 0 where
  pub moved : Moved b c fs d bs
  pub rest : take k (leaf_words c d) ≡ take k (leaf_words b d)
  pub tight : Tight start (parts_from c d bs k) (length c.arena)

pub record CanLeafDown (fanout : ℕ) (slots arena : List ℕ) (d n start : ℕ) : Type 0 where
  pub fs : List ℕ
  pub bs : List ℕ
  pub laid : Laid (lent fanout slots arena) fs d bs
  pub stored : n ≤ suc (word_count d)
  pub packed : Tight 0 (words_of (lent fanout slots arena) fs) start
  pub arena_fits : length arena < 2 ^ 28

-- whatever leaves lie tight before it
pub record LeafDown (fanout : ℕ) (slots arena : List ℕ) (d start : ℕ) (now_slots now_arena : List ℕ) (k end : ℕ) : Type 0 where
  pub down : {fs bs : List ℕ} → Laid (lent fanout slots arena) fs d bs → Tight 0 (words_of (lent fanout slots arena) fs) start
      → Down (lent fanout slots arena) (lent fanout now_slots now_arena) fs d bs k end

pub record CanLeafUp (fanout : ℕ) (slots arena : List ℕ) (d n top : ℕ) : Type 0 where
  pub fs : List ℕ
  pub bs : List ℕ
  pub laid : Laid (lent fanout slots arena) fs d bs
  pub stored : n ≤ suc (word_count d)
  pub packed : Tight top (words_of (lent fanout slots arena) bs) (length arena)
  pub arena_fits : length arena < 2 ^ 28

-- whatever leaves lie tight behind it
pub record LeafUp (fanout : ℕ) (slots arena : List ℕ) (d top : ℕ) (now_slots now_arena : List ℕ) (k start : ℕ) : Type 0 where
  pub up : {fs bs : List ℕ} → Laid (lent fanout slots arena) fs d bs → Tight top (words_of (lent fanout slots arena) bs) (length arena)
      → Up (lent fanout slots arena) (lent fanout now_slots now_arena) fs d bs k start
