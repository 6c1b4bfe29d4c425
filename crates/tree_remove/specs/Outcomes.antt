-- What `remove` answers and leaves, and what the functions under it ask.
use Rattle.std.specs.Prelude.{ℕ, ◌≤◌, true, List, ◌≡◌, length}
use Rattle.std.proofs.Math.Option.{none}
use Rattle.changes.specs.Outcomes.{ChangedBy, Kept, Lent}
use Rattle.changes.specs.declared.Changed.{Changed}
use Rattle.layout.specs.Entry.{Entry}
use Rattle.layout.specs.Presumed.{Index, Inner}
use Rattle.layout.specs.Steps.{Step}
use Rattle.layout.specs.declared.Header.{Header}
use Rattle.model.specs.Answers.{remove_answer}
use Rattle.model.specs.Leaves.{Node, pairs_of}
use Rattle.model.specs.Limits.{key_limit}
use Rattle.model.specs.Map.{lookup}
use Rattle.model.specs.Rules.{remove_rule}
use Rattle.model.specs.declared.Refusal.TheVariants.{Damaged}
use Rattle.order.specs.Bytes.{Bytes}
use Rattle.spots.specs.KeySpots.{AtSpot}
use Rattle.spots.specs.declared.Spot.{Spot}

-- the model's answer on a leaf list; where the key is absent, nothing changes
pub record RemoveBy (h : Header) (k : Bytes) (before : Lent) (r : Changed) (after : Lent) (ns : List Node) : Type 0 where
  pub changed : ChangedBy (remove_answer true k (length before.out) ns) h before r after
  pub absent : lookup k (pairs_of ns) ≡ none → after ≡ before

abbrev pub RemoveInner : Header → (k : Bytes) → (before : Lent) → Changed → (after : Lent) → Type 0
RemoveInner h k before r after = Inner h before.dir before.slots before.arena (RemoveBy h k before r after)

abbrev pub RemoveOutcome : Header → (k : Bytes) → (before : Lent) → Changed → (after : Lent) → Type 0
RemoveOutcome h k before r after = Entry h before.dir before.slots before.arena (Kept Damaged h before r after) (RemoveBy h k before r after)

-- a pair taken out with L7's merge: the key at the spot goes

abbrev pub TakesOut : Header → (dir slots arena : List ℕ) → Bytes → Spot → Header → (now_dir now_slots now_arena : List ℕ) → Type 0
TakesOut h dir slots arena k t r now_dir now_slots now_arena = Step h dir slots arena (λ ns. AtSpot k ns t) (remove_rule true k) r now_dir now_slots now_arena

-- the key at a spot, its length within the limit

pub record FoundAsked (h : Header) (dir slots arena : List ℕ) (k : Bytes) (t : Spot) : Type 0 where
  pub index : Index h dir slots arena
  pub at_spot : Inner h dir slots arena (λ ns. AtSpot k ns t)
  pub key_short : length k ≤ key_limit
