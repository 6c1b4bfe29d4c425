-- How an entry point's contract is said: where header and buffers hold no index it is refused as damaged (2); else it answers for the leaf
-- list that they hold.
use Rattle.std.specs.Prelude.{List, ℕ}
use Rattle.model.specs.Leaves.{Node}
use Rattle.layout.specs.declared.Header.{Header}
use Rattle.layout.specs.Lays.{W}

pub record Entry (h : Header) (dir slots arena : List ℕ) (refusal : Type 0) (answer : List Node → Type 0) : Type 0 where
  pub damaged : (W h dir slots arena → ⊥) → refusal
  pub held : (w : W h dir slots arena) → answer w.nodes
