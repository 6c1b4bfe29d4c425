-- Where a key stands in an index: at a spot of the leaf that owns it, or in the gap before one.
use Rattle.std.proofs.Common.{Result}
use Rattle.std.specs.Prelude.{List, ◌≡◌, Ok, Err}
use Rattle.model.specs.Leaves.{Node, owner}
use Rattle.model.specs.Place.{place}
use Rattle.model.specs.Place.Place.{at, gap}
use Rattle.order.specs.Bytes.{Bytes}
use Rattle.route.specs.Routes.{leaf_at}
use Rattle.spots.specs.declared.Spot.{Spot}

pub record AtSpot (k : Bytes) (ns : List Node) (t : Spot) : Type 0 where
  pub owns : t.leaf ≡ owner k ns
  pub stands : place k (leaf_at ns t.leaf).pairs ≡ at t.slot

pub record InGap (k : Bytes) (ns : List Node) (t : Spot) : Type 0 where
  pub owns : t.leaf ≡ owner k ns
  pub stands : place k (leaf_at ns t.leaf).pairs ≡ gap t.slot

abbrev pub Stands : Bytes → List Node → Result Spot Spot → Type 0
Stands k ns (Ok t) = AtSpot k ns t
Stands k ns (Err t) = InGap k ns t
