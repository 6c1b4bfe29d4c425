-- Buffers that hold a given leaf list.
use Rattle.std.specs.Prelude.{◌*◌, ◌<◌, ◌^◌, ℕ, List, ◌≡◌, length}
use Rattle.layout.specs.EncodedFits.{Octets}
use Rattle.layout.specs.Lays.{Holds}
use Rattle.layout.specs.declared.Header.{Header}
use Rattle.lists.specs.All.{All}
use Rattle.model.specs.Charge.{charge}
use Rattle.model.specs.Leaves.{Node, pairs_of}

abbrev pub header_of : (fanout : ℕ) → List Node → Header
header_of fanout ns = record { fanout = fanout; leaves = length ns; pairs = length (pairs_of ns); charge = charge ns }

-- buffers of pool words, fanout x pool words and room bytes that hold a leaf list
pub record Layout (fanout pool room : ℕ) (ns : List Node) : Type 0 where
  pub dir : List ℕ
  pub slots : List ℕ
  pub arena : List ℕ
  pub pool_is : length dir ≡ pool
  pub slots_are : length slots ≡ fanout * pool
  pub room_is : length arena ≡ room
  pub dir_small : All (λ w. w < 2 ^ 32) dir
  pub slots_small : All (λ w. w < 2 ^ 64) slots
  pub octets : Octets arena
  pub counts_small : (length ns < 2 ^ 64) × (length (pairs_of ns) < 2 ^ 64) × (charge ns < 2 ^ 64)
  pub holds : Holds (header_of fanout ns) dir slots arena ns
