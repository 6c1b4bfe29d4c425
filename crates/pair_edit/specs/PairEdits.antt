-- One pair of an index changed: what each function asks of the leaf list presumed. What it leaves is said by the model's rules.
use Rattle.std.specs.Prelude.{ℕ, ◌+◌, ◌<◌, ◌≤◌, suc, List, [], get_or, length, false}
use Rattle.layout.specs.Steps.{CanStep, Step}
use Rattle.layout.specs.declared.Header.{Header}
use Rattle.model.specs.Leaves.{Node}
use Rattle.model.specs.Limits.{key_limit, value_limit}
use Rattle.model.specs.Map.{pair}
use Rattle.model.specs.Rules.{insert_rule, remove_rule}
use Rattle.order.specs.Bytes.{Bytes}
use Rattle.route.specs.Routes.{leaf_at}
use Rattle.spots.specs.KeySpots.{AtSpot, InGap}
use Rattle.spots.specs.declared.Spot.{Spot}

-- a new pair before the spot: its leaf stays below F pairs, and the charge with it is not over the arena's length
pub record Inserts (h : Header) (arena : ℕ) (k v : Bytes) (t : Spot) (ns : List Node) : Type 0 where
  pub spot : InGap k ns t
  pub slack : suc (length (leaf_at ns t.leaf).pairs) < h.fanout
  pub key_short : length k ≤ key_limit
  pub value_short : length v ≤ value_limit
  pub room : h.charge + length k + length v ≤ arena

abbrev pub CanInsert : Header → (dir slots arena : List ℕ) → (k v : Bytes) → Spot → Type 0
CanInsert h dir slots arena k v t = CanStep h dir slots arena (Inserts h (length arena) k v t)

abbrev pub InsertedPair : Header → (dir slots arena : List ℕ) → (k v : Bytes) → Spot → Header → (now_dir now_slots now_arena : List ℕ) → Type 0
InsertedPair h dir slots arena k v t r now_dir now_slots now_arena =
    Step h dir slots arena (Inserts h (length arena) k v t) (insert_rule h.fanout k v) r now_dir now_slots now_arena

-- the pair at the spot, whatever its key, taken out; its leaf may then be empty

pub record CanRemove (h : Header) (dir slots arena : List ℕ) (t : Spot) : Type 0 where
  pub key : Bytes
  pub step : CanStep h dir slots arena (λ ns. AtSpot key ns t)

abbrev pub RemovedPair : Header → (dir slots arena : List ℕ) → Spot → Header → (now_dir now_slots : List ℕ) → Type 0
RemovedPair h dir slots arena t r now_dir now_slots =
    (k : Bytes) → Step h dir slots arena (λ ns. AtSpot k ns t) (remove_rule false k) r now_dir now_slots arena

-- its value replaced by one that is not longer

pub record Replaces (k v : Bytes) (t : Spot) (ns : List Node) : Type 0 where
  pub spot : AtSpot k ns t
  pub not_longer : length v ≤ length (get_or (leaf_at ns t.leaf).pairs t.slot (pair [] [])).value

pub record CanReplace (h : Header) (dir slots arena : List ℕ) (v : Bytes) (t : Spot) : Type 0 where
  pub key : Bytes
  pub step : CanStep h dir slots arena (Replaces key v t)

abbrev pub ReplacedPair : Header → (dir slots arena : List ℕ) → (v : Bytes) → Spot → Header → (now_slots now_arena : List ℕ) → Type 0
ReplacedPair h dir slots arena v t r now_slots now_arena =
    (k : Bytes) → Step h dir slots arena (Replaces k v t) (insert_rule h.fanout k v) r dir now_slots now_arena
