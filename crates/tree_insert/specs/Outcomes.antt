-- What `insert` answers and leaves, and what the functions under it ask.
use Rattle.std.specs.Prelude.{ℕ, List, ◌≡◌, length, Ok}
use Rattle.changes.specs.Outcomes.{ChangedBy, Kept, Lent, value_in}
use Rattle.changes.specs.declared.Changed.{Changed}
use Rattle.judge.specs.Judges.{Judges, Replaces}
use Rattle.judge.specs.declared.Fit.{Fit}
use Rattle.judge.specs.declared.Judged.TheVariants.{Insert}
use Rattle.layout.specs.Entry.{Entry}
use Rattle.layout.specs.Presumed.{Inner, Presumed}
use Rattle.layout.specs.Steps.{CanStep, Step}
use Rattle.layout.specs.declared.Header.{Header}
use Rattle.model.specs.Answers.{insert_answer}
use Rattle.model.specs.Leaves.{Node}
use Rattle.model.specs.Rules.{insert_rule}
use Rattle.model.specs.declared.Refusal.TheVariants.{Damaged}
use Rattle.order.specs.Bytes.{Bytes}
use Rattle.pair_edit.specs.PairEdits.{Inserts}
use Rattle.spots.specs.declared.Spot.{Spot}
use Rattle.tree_insert.specs.declared.inner.Placed.{Placed}

-- the model's answer on a leaf list
abbrev pub InsertBy : Header → (k v : Bytes) → (before : Lent) → Changed → (after : Lent) → List Node → Type 0
InsertBy h k v before r after ns =
    ChangedBy (insert_answer h.fanout (length before.dir) (length before.arena) k v (length before.out) ns) h before r after

abbrev pub InsertInner : Header → (k v : Bytes) → (before : Lent) → Changed → (after : Lent) → Type 0
InsertInner h k v before r after = Inner h before.dir before.slots before.arena (InsertBy h k v before r after)

abbrev pub InsertOutcome : Header → (k v : Bytes) → (before : Lent) → Changed → (after : Lent) → Type 0
InsertOutcome h k v before r after = Entry h before.dir before.slots before.arena (Kept Damaged h before r after) (InsertBy h k v before r after)

-- a full leaf split, so that the new pair has its place in a leaf that stays below F pairs

abbrev pub FitAsked : Header → (dir slots arena : List ℕ) → (k v : Bytes) → (out : ℕ) → Fit → List Node → Type 0
FitAsked h dir slots arena k v out f ns = Judges h dir slots arena k v out ns (Ok (Insert f))

pub record CanFit (h : Header) (dir slots arena : List ℕ) (k : Bytes) (f : Fit) : Type 0 where
  pub value : Bytes
  pub out : ℕ
  pub step : CanStep h dir slots arena (FitAsked h dir slots arena k value out f)

-- an index whose insert gives what the insert into the index before gives, and which `insert_pair` accepts
pub record Ready (fanout : ℕ) (k v : Bytes) (ns : List Node) (r : Placed) (dir slots arena : List ℕ) : Type 0 where
  pub nodes : List Node
  pub presumed : Presumed r.header dir slots arena nodes
  pub asks : Inserts r.header (length arena) k v r.spot nodes
  pub rule : insert_rule fanout k v nodes ≡ insert_rule fanout k v ns

pub record SplitIfFull (h : Header) (dir slots arena : List ℕ) (k : Bytes) (f : Fit) (r : Placed) (now_dir now_slots now_arena : List ℕ) : Type 0 where
  pub fanout_is : r.header.fanout ≡ h.fanout
  pub same_dir : length now_dir ≡ length dir
  pub same_slots : length now_slots ≡ length slots
  pub same_arena : length now_arena ≡ length arena
  pub ready : Inner h dir slots arena (λ ns. (v : Bytes) (out : ℕ) → FitAsked h dir slots arena k v out f ns → Ready h.fanout k v ns r now_dir now_slots now_arena)

-- the value at a spot, of `old` bytes, replaced whatever the new length

pub record OldAsked (h : Header) (dir arena : List ℕ) (k v : Bytes) (out : ℕ) (t : Spot) (old : ℕ) (ns : List Node) : Type 0 where
  pub replaces : Replaces h (length dir) (length arena) k v out ns t
  pub old_is : old ≡ length (value_in ns t)

pub record CanReplaceOld (h : Header) (dir slots arena : List ℕ) (k v : Bytes) (t : Spot) (old : ℕ) : Type 0 where
  pub out : ℕ
  pub step : CanStep h dir slots arena (OldAsked h dir arena k v out t old)

abbrev pub ReplacedOld : Header → (dir slots arena : List ℕ) → (k v : Bytes) → Spot → (old : ℕ) → Header → (now_dir now_slots now_arena : List ℕ) → Type 0
ReplacedOld h dir slots arena k v t old r now_dir now_slots now_arena =
    (out : ℕ) → Step h dir slots arena (OldAsked h dir arena k v out t old) (insert_rule h.fanout k v) r now_dir now_slots now_arena
