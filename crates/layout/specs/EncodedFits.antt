-- Bytes, and a leaf of bytes.
use Rattle.std.specs.Prelude.{◌<◌, ℕ, List}
use Rattle.lists.specs.All.{All}
use Rattle.model.specs.Leaves.{Node}

-- all keys, low keys and values are byte strings
abbrev pub Octets : List ℕ → Type 0
Octets l = All (λ x. x < 256) l

pub record OctetNode (n : Node) : Type 0 where
  pub low_octets : Octets n.low
  pub pair_octets : All (λ q. Octets q.key × Octets q.value) n.pairs
