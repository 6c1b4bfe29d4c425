-- What the functions under the entry points presume of header and buffers: W less its clause on empty leaves.
use Rattle.std.specs.Prelude.{ℕ, List, length}
use Rattle.model.specs.Good.{Fits, Tiles, limits}
use Rattle.model.specs.Leaves.{Node}
use Rattle.layout.specs.Entry.{Entry}
use Rattle.layout.specs.Lays.{Holds, W}
use Rattle.layout.specs.declared.Header.{Header}

pub record Presumed (h : Header) (dir slots arena : List ℕ) (ns : List Node) : Type 0 where
  pub holds : Holds h dir slots arena ns
  pub tiles : Tiles (limits h.fanout) ns
  pub fits : Fits (length dir) (length arena) ns

pub record Index (h : Header) (dir slots arena : List ℕ) : Type 0 where
  pub nodes : List Node
  pub presumed : Presumed h dir slots arena nodes

pub w_presumed : {h : Header} {dir slots arena : List ℕ} (w : W h dir slots arena) → Presumed h dir slots arena w.nodes
w_presumed w = record { holds = w.holds; tiles = w.good.tiles; fits = w.good.fits }

pub w_index : {h : Header} {dir slots arena : List ℕ} → W h dir slots arena → Index h dir slots arena
w_index w = record { nodes = w.nodes; presumed = w_presumed w }

-- how the contract of such a function is said: an answer for the leaf list that is presumed
abbrev pub Inner : Header → (dir slots arena : List ℕ) → (List Node → Type 0) → Type 0
Inner h dir slots arena answer = (ns : List Node) → Presumed h dir slots arena ns → answer ns

-- an entry point tests W: refused where it fails, and what the function under it answers where it holds

module _ {h : Header} {dir slots arena : List ℕ} {refusal : Type 0} {answer : List Node → Type 0} where
  pub entry_damaged : (W h dir slots arena → ⊥) → refusal → Entry h dir slots arena refusal answer
  entry_damaged n r = record { damaged = λ m. r; held = λ w. absurd (n w) }

  pub entry_held : W h dir slots arena → Inner h dir slots arena answer → Entry h dir slots arena refusal answer
  entry_held w a = record { damaged = λ n. absurd (n w); held = λ v. a v.nodes (w_presumed v) }
