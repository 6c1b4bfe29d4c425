-- A scan in its steps: where it begins, and whether the pair found there is before the end.
use Rattle.std.proofs.Common.{Result}
use Rattle.std.specs.Prelude.{ℕ, suc, Bool, false, ◌≡◌, Ok, Err}
use Rattle.layout.specs.Pieces.{pair_in}
use Rattle.layout.specs.Viewed.{leaves_of}
use Rattle.layout.specs.declared.lent.View.{View}
use Rattle.model.specs.Answers.{inverted, long_bound}
use Rattle.model.specs.Leaves.{pairs_of}
use Rattle.model.specs.Map.{before_end}
use Rattle.model.specs.Start.{from_start}
use Rattle.model.specs.declared.Bound.{Bound}
use Rattle.model.specs.declared.Bound.TheVariants.{Excluded, Included, Open}
use Rattle.model.specs.declared.Range.{Range}
use Rattle.order.specs.Bytes.{Bytes}
use Rattle.order.specs.Compared.{Compared}
use Rattle.std.specs.declared.cmp.Ordering.{Ordering}
use Rattle.spots.specs.Spots.{rest_at}
use Rattle.spots.specs.declared.Spot.{Spot}

-- a range with its keys that is refused neither as 3 nor as 6
pub record Allowed (range : Range) (s e : Bytes) : Type 0 where
  pub start_short : long_bound range.start s ≡ false
  pub end_short : long_bound range.end e ≡ false
  pub upright : inverted range s e ≡ false

-- the slot from which a leaf's pairs are past the start, by where the start stands in the leaf
abbrev pub slot_at : Bound → Result ℕ ℕ → ℕ
slot_at Included (Ok i) = i
slot_at Excluded (Ok i) = suc i
slot_at Open (Ok i) = 0
slot_at b (Err i) = i

-- the pairs from the spot on are those from the first past the start on
abbrev pub Begins : View → Bound → (start : Bytes) → Spot → Type 0
Begins v b s r = rest_at (leaves_of v) r ≡ from_start b s (pairs_of (leaves_of v))

-- the key of the pair at a spot against another; and against the end
abbrev pub ComparesTo : View → Spot → Bytes → Ordering → Type 0
ComparesTo v t k r = Compared (pair_in (leaves_of v) t.leaf t.slot).key k r

abbrev pub EndsBefore : View → Spot → Bound → (end : Bytes) → Bool → Type 0
EndsBefore v t b e r = r ≡ before_end b e (pair_in (leaves_of v) t.leaf t.slot).key
