-- What a call leaves, and what a row of calls leaves, call by call.
use Rattle.std.specs.Prelude.{ℕ, suc, ◌+◌, ◌/◌, ◌%◌, List, [], ◌∷◌, ◌≡◌, None, Some, Ok, Err, replicate}
use Rattle.std.proofs.Common.{Option, Result}
use Rattle.changes.specs.Outcomes.{Lent, lent}
use Rattle.changes.specs.declared.Changed.{Changed}
use Rattle.layout.specs.Entry.{Entry}
use Rattle.layout.specs.declared.Header.{Header}
use Rattle.model.specs.declared.Refusal.{Refusal}
use Rattle.order.specs.Bytes.{Bytes}
use Rattle.tree_create.specs.Outcomes.{CreateOutcome}
use Rattle.tree_create.specs.declared.Answered.{Answered}
use Rattle.tree_insert.specs.Outcomes.{InsertInner}
use Rattle.tree_remove.specs.Outcomes.{RemoveInner}
use Rattle.bulk.specs.Job.{call_count, key_at}
use Rattle.bulk.specs.declared.Kind.{Kind}
use Rattle.bulk.specs.declared.Kind.TheVariants.{Insert, Remove}
use Rattle.bulk.specs.declared.Tally.{Tally}
use Rattle.bulk.specs.declared.job.Job.{Job}
use Rattle.bulk.specs.declared.job.Order.{Order}

-- a number's last four bytes, most significant first
abbrev pub four_bytes : ℕ → Bytes
four_bytes n = n / 16777216 % 256 ∷ n / 65536 % 256 ∷ n / 256 % 256 ∷ n % 256 ∷ []

-- the buffers of an index, and a call's: with an output
pub record Store : Type 0 where
  pub dir : List ℕ
  pub slots : List ℕ
  pub arena : List ℕ

abbrev pub store : (dir slots arena : List ℕ) → Store
store dir slots arena = record { dir = dir; slots = slots; arena = arena }

abbrev pub lends : Store → (out : Bytes) → Lent
lends s out = lent s.dir s.slots s.arena out

-- a call is made with four zeros to write the old value to; `inner::insert` and `inner::remove` say what it leaves
pub record InsertOne (key value : ℕ) (h : Header) (before : Store) (r : Changed) (after : Store) : Type 0 where
  pub out : Bytes
  pub made : InsertInner h (four_bytes key) (four_bytes value) (lends before (replicate 4 0)) r (lends after out)

pub record RemoveOne (key : ℕ) (h : Header) (before : Store) (r : Changed) (after : Store) : Type 0 where
  pub out : Bytes
  pub made : RemoveInner h (four_bytes key) (lends before (replicate 4 0)) r (lends after out)

abbrev pub CallOne : Kind → (key value : ℕ) → Header → Store → Changed → Store → Type 0
CallOne Insert key value = InsertOne key value
CallOne Remove key value = RemoveOne key

-- a call counted: its header is the one to go on with
abbrev pub refusals : Result (Option ℕ) Refusal → ℕ
refusals (Ok (Some n)) = 0
refusals (Ok None) = 0
refusals (Err x) = 1

abbrev pub finds : Result (Option ℕ) Refusal → ℕ
finds (Ok (Some n)) = 1
finds (Ok None) = 0
finds (Err x) = 0

pub record Counted (t : Tally) (c : Changed) (r : Tally) : Type 0 where
  pub header_is : r.header ≡ c.header
  pub refused_is : r.refused ≡ t.refused + refusals c.old
  pub found_is : r.found ≡ t.found + finds c.old

-- a row of calls, where `one i` is what the i-th leaves: the tally and the buffers after the first i of them
abbrev pub Call : Type 1
Call = ℕ → Header → Store → Changed → Store → Type 0

pub data Calls (one : Call) (t₀ : Tally) (s₀ : Store) : ℕ → Tally → Store → Type 0 where
  start : Calls one t₀ s₀ 0 t₀ s₀
  more : {i : ℕ} {t t' : Tally} {s s' : Store} {c : Changed} → Calls one t₀ s₀ i t s → one i t.header s c s' → Counted t c t' → Calls one t₀ s₀ (suc i) t' s'

abbrev pub begun : Header → Tally
begun h = record { header = h; refused = 0; found = 0 }

-- all n calls, the i-th with the order's i-th key, an insert with i as the value
abbrev pub Inserts : Order → ℕ → Header → Store → Tally → Store → Type 0
Inserts o n h before r after = Calls (λ i. InsertOne (key_at o i n) i) (begun h) before n r after

abbrev pub Removes : Order → ℕ → Header → Store → Tally → Store → Type 0
Removes o n h before r after = Calls (λ i. RemoveOne (key_at o i n)) (begun h) before n r after

-- of either kind: `CallAll Insert` is `Inserts`, and `CallAll Remove` is `Removes`
abbrev pub CallAll : Kind → Order → ℕ → Header → Store → Tally → Store → Type 0
CallAll kind o n h before r after = Calls (λ i. CallOne kind (key_at o i n) i) (begun h) before n r after

-- both rows, on an index that stands
pub record Rows (j : Job) (h : Header) (before after : Store) : Type 0 where
  pub full : Tally
  pub between : Store
  pub left : Tally
  pub filled : Inserts j.inserts (call_count j.inserts j.pairs) h before full between
  pub emptied : Removes j.deletes (call_count j.deletes j.pairs) full.header between left after

-- what `run` leaves: an index is made, fanout 64, and both rows follow where one stands then
pub record Ran (j : Job) (before after : Store) : Type 0 where
  pub made : Answered
  pub fresh : Store
  pub created : CreateOutcome 64 before.dir before.slots before.arena fresh.dir fresh.slots made
  pub same_arena : fresh.arena ≡ before.arena
  pub tested : Entry made.header fresh.dir fresh.slots fresh.arena (after ≡ fresh) (λ ns. Rows j made.header fresh after)
