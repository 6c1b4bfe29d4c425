-- A step from one index to the next, as the functions under `insert` and `remove` take it: what is asked of the leaf list presumed, and the leaf
-- list of the index left, with the lent lengths and the fanout as they were.
use Rattle.std.specs.Prelude.{List, ◌≡◌, ℕ, length}
use Rattle.model.specs.Leaves.{Node}
use Rattle.layout.specs.Presumed.{Inner, Presumed}
use Rattle.layout.specs.declared.Header.{Header}

pub record CanStep (h : Header) (dir slots arena : List ℕ) (asked : List Node → Type 0) : Type 0 where
  pub nodes : List Node
  pub presumed : Presumed h dir slots arena nodes
  pub asks : asked nodes

pub record Step (h : Header) (dir slots arena : List ℕ) (asked : List Node → Type 0) (after : List Node → List Node) (r : Header) (now_dir now_slots now_arena : List ℕ) : Type 0 where
  pub fanout_is : r.fanout ≡ h.fanout
  pub same_dir : length now_dir ≡ length dir
  pub same_slots : length now_slots ≡ length slots
  pub same_arena : length now_arena ≡ length arena
  pub index : Inner h dir slots arena (λ ns. asked ns → Presumed r now_dir now_slots now_arena (after ns))
