-- The leaf's own type: an empty leaf.
use Rattle.std.specs.Prelude.{ℕ, ◌≡◌}
use Rattle.leaf.specs.declared.Leaf.{Leaf}

-- L8: pool number 0, no pairs; without an upper key the prefix length is 0 (L2)
pub record IsEmpty (fanout : ℕ) (l : Leaf) : Type 0 where
  pub number_is : l.number.0 ≡ 0
  pub fanout_is : l.fanout ≡ fanout
  pub pairs_are : l.pairs ≡ 0
  pub prefix_is : l.prefix_length ≡ 0
