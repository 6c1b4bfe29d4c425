-- The steps under a merge: the prefix length with which a leaf takes over the next one's pairs, and room behind the last pair of a leaf. What is
-- asked, and what is left.
use Rattle.std.specs.Prelude.{ℕ, suc, ◌+◌, ◌*◌, ◌≤◌, ◌<◌, List, ◌++◌, ◌≡◌, length}
use Rattle.directory.specs.Used.{lent, used_from, used_to, word_at}
use Rattle.layout.specs.Frames.{WordsIn}
use Rattle.layout.specs.Order.{leaf_words, words_of}
use Rattle.layout.specs.Presumed.{Inner, Presumed}
use Rattle.layout.specs.declared.Header.{Header}
use Rattle.model.specs.Charge.{stored}
use Rattle.model.specs.Leaves.{Node, prefix_length}
use Rattle.route.specs.Routes.{leaf_at, upper_of}

-- the prefix length of the j-th leaf with the next one's upper key (L2)
abbrev pub taken_prefix : List Node → ℕ → ℕ
taken_prefix ns j = prefix_length (leaf_at ns j).low (upper_of ns (suc j))

-- g bytes for each pair of the j-th leaf are free in all
pub record CanRoomBehind (h : Header) (dir slots arena : List ℕ) (j pairs g : ℕ) : Type 0 where
  pub nodes : List Node
  pub presumed : Presumed h dir slots arena nodes
  pub leaf_in : j < h.leaves
  pub pairs_are : pairs ≡ length (leaf_at nodes j).pairs
  pub free : stored nodes + pairs * g ≤ length arena

-- the index stays, and they lie behind that leaf's last part
pub record RoomBehind (h : Header) (dir slots arena : List ℕ) (j pairs g : ℕ) (exit_slots exit_arena : List ℕ) : Type 0 where
  pub same_slots : length exit_slots ≡ length slots
  pub same_arena : length exit_arena ≡ length arena
  pub index : Inner h dir slots arena (λ ns. Presumed h dir exit_slots exit_arena ns)
  pub top : ℕ
  pub ends :
      WordsIn 0 (words_of (lent h.fanout exit_slots exit_arena) (used_to dir h.leaves j) ++ leaf_words (lent h.fanout exit_slots exit_arena) (word_at dir j)) top
  pub room : WordsIn (top + pairs * g) (words_of (lent h.fanout exit_slots exit_arena) (used_from dir h.leaves (suc j))) (length exit_arena)
