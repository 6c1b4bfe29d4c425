-- What the lines of `leaves` say: the leaf that a view shows, the leaf at a place of the leaf list, and the leaves before a place.
use Rattle.std.specs.Prelude.{ℕ, suc, zero, None, Some, List, [], ◌∷◌, ◌++◌}
use Rattle.std.proofs.Math.Option.{Option, none, some}
use Rattle.std.proofs.Common as rust
use Rattle.std.proofs.Common.{Bor}
use Rattle.answers.specs.Answers.{Room}
use Rattle.leaf.specs.Keys.{KeyAt, UpperAt, key_at, upper_at}
use Rattle.lines.specs.Grammar.{Number}
use Rattle.model.specs.Answers.{Shown, leaf_at, shown}
use Rattle.model.specs.Leaves.{Node, low_of}
use Rattle.order.specs.Bytes.{Bytes}
use Rattle.replies.specs.Texts.{leaf_text}
use Rattle.tree_get.specs.declared.Shown as tree

abbrev pub viewed : (arena : List ℕ) → tree.Shown → Shown
viewed arena v = record { low = key_at arena v.low; upper = upper_at arena v.upper; prefix = v.prefix_length; pairs = v.pairs }

-- the bytes of a part of the arena, if there is one
abbrev pub bytes_of : rust.Option (Bor (List ℕ)) → Option Bytes
bytes_of None = none
bytes_of (Some k) = some k.now

-- its keys lie inside the arena, its numbers can be written, and the output has room for the line
pub record ViewAsked (arena : List ℕ) (v : tree.Shown) (out : Bytes) (at : ℕ) : Type 0 where
  pub low_stands : KeyAt arena 0 v.low
  pub upper_stands : UpperAt arena 0 v.upper
  pub prefix_small : Number v.prefix_length
  pub pairs_few : Number v.pairs
  pub room : Room out at (leaf_text (viewed arena v))

-- the line of the leaf at a place, none behind the last leaf
abbrev pub line_text : Option Shown → Bytes
line_text none = []
line_text (some s) = leaf_text s

abbrev pub line_said : ℕ → List Node → Bytes
line_said j ns = line_text (leaf_at j ns)

-- the lines of the leaves before a place
abbrev pub lines_upto : ℕ → List Node → Bytes
lines_upto zero ns = []
lines_upto (suc j) [] = []
lines_upto (suc j) (n ∷ ns) = leaf_text (shown n (low_of ns)) ++ lines_upto j ns
