-- Histories: what a caller may do with an index from its creation on. Each call has an outcome that the entry point's contract allows, and the
-- next call is lent what this one left, untouched.
use Rattle.std.proofs.Common.{Option, Result}
use Rattle.std.specs.Prelude.{ℕ, ◌≤◌, Bool, true, List, [], ◌≡◌, length, None, Some, Ok, Err}
use Rattle.changes.specs.Outcomes.{Lent, lent}
use Rattle.changes.specs.declared.Changed.{Changed}
use Rattle.layout.specs.Lays.{Holds, W}
use Rattle.layout.specs.declared.Header.{Header}
use Rattle.lists.specs.Exact.{Exact}
use Rattle.model.specs.Leaves.{Node}
use Rattle.model.specs.Map.{Pair}
use Rattle.model.specs.Map as map
use Rattle.model.specs.Rules.{clear_rule, fresh, insert_rule, remove_rule}
use Rattle.model.specs.declared.Range.{Range}
use Rattle.order.specs.Bytes.{Bytes}
use Rattle.prefixes.specs.Outcome.{PrefixOutcome}
use Rattle.tree_create.specs.Outcomes.{ClearOutcome, CreateOutcome, LenOutcome}
use Rattle.tree_create.specs.declared.Answered.{Answered}
use Rattle.tree_get.specs.Outcomes.{ContainsOutcome, GetOutcome, LeafOutcome, ValueOutcome}
use Rattle.tree_get.specs.declared.Found.{Found}
use Rattle.tree_get.specs.declared.Shown.{Shown}
use Rattle.tree_insert.specs.Outcomes.{InsertOutcome}
use Rattle.tree_range.specs.Outcomes.{FirstOutcome, GtOutcome, RangeOutcome, RangeValueOutcome}
use Rattle.tree_range.specs.declared.Seen.{Seen}
use Rattle.tree_remove.specs.Outcomes.{RemoveOutcome}
use Rattle.prefixes.specs.declared.Span.{Span}
use Rattle.model.specs.declared.Refusal.{Refusal}

-- what the caller keeps between calls: the header and the three lent buffers
pub record State : Type 0 where
  pub header : Header
  pub dir : List ℕ
  pub slots : List ℕ
  pub arena : List ℕ

abbrev pub state : Header → (dir slots arena : List ℕ) → State
state h dir slots arena = record { header = h; dir = dir; slots = slots; arena = arena }

-- lent to a changing call beside an output, and handed on from it
abbrev pub lending : State → (out : Bytes) → Lent
lending s out = lent s.dir s.slots s.arena out

abbrev pub handed : Changed → Lent → State
handed r after = state r.header after.dir after.slots after.arena

-- the first where a call was refused, else the second

abbrev pub if_not_done {ℓ} : {A : Type ℓ} → Result (Unit {0}) Refusal → A → A → A
if_not_done (Err x) a b = a
if_not_done (Ok u) a b = b

abbrev pub if_refused {ℓ} : {A : Type ℓ} → Result (Option ℕ) Refusal → A → A → A
if_refused (Err x) a b = a
if_refused (Ok o) a b = b

-- a call that changes nothing, with its answer and what its output then holds
pub data Reading (s : State) : Type 0 where
  holds_index : (r : Bool) → Exact r (W s.header s.dir s.slots s.arena) → Reading s
  len : (r : Result ℕ Refusal) → LenOutcome s.header s.dir s.slots s.arena r → Reading s
  get : (k : Bytes) (r : Result (Option Found) Refusal) → GetOutcome s.header s.dir s.slots s.arena k r → Reading s
  get_value : (k r : Bytes) → ValueOutcome s.header s.dir s.slots s.arena k r → Reading s
  contains_key : (k : Bytes) (r : Result Bool Refusal) → ContainsOutcome s.header s.dir s.slots s.arena k r → Reading s
  leaf_at : (place : ℕ) (r : Result (Option Shown) Refusal) → LeafOutcome s.header s.dir s.slots s.arena place r → Reading s
  first_in_range : (range : Range) (start end out now_out : Bytes) (r : Result (Option Seen) Refusal) → RangeOutcome s.header s.dir s.slots s.arena range start end out now_out r → Reading s
  range_value : (range : Range) (start end r : Bytes) → RangeValueOutcome s.header s.dir s.slots s.arena range start end r → Reading s
  get_gt : (k out now_out : Bytes) (r : Result (Option Seen) Refusal) → GtOutcome s.header s.dir s.slots s.arena k out now_out r → Reading s
  first : (out now_out : Bytes) (r : Result (Option Seen) Refusal) → FirstOutcome s.header s.dir s.slots s.arena out now_out r → Reading s
  scan_prefix : (p out now_out : Bytes) (r : Result Span Refusal) → PrefixOutcome p out now_out r → Reading s

-- any call, accepted or refused: its arguments, what it answered and left, and that its contract allows this. What a function borrows without `mut`
-- stays by its signature: header and buffers of a reading call, the arena of creation and `clear`
pub data Call : State → State → Type 0 where
  read : {s : State} → Reading s → Call s s
  insert : {s : State} (k v out : Bytes) (r : Changed) (after : Lent) → InsertOutcome s.header k v (lending s out) r after → Call s (handed r after)
  remove : {s : State} (k out : Bytes) (r : Changed) (after : Lent) → RemoveOutcome s.header k (lending s out) r after → Call s (handed r after)
  clear : {s : State} (now_dir now_slots : List ℕ) (r : Answered) → ClearOutcome s.header s.dir s.slots s.arena now_dir now_slots r
      → Call s (state r.header now_dir now_slots s.arena)
  -- a creation in the same buffers; where it is refused, the caller keeps the header that it had
  create : {s : State} (fanout : ℕ) (now_dir now_slots : List ℕ) (r : Answered) → CreateOutcome fanout s.dir s.slots s.arena now_dir now_slots r
      → Call s (state (if_not_done r.answer s.header r.header) now_dir now_slots s.arena)

-- a fresh index, by an accepted creation or as header and buffers hold one, and any calls after it
pub data History : State → Type 0 where
  begin : (fanout : ℕ) (dir slots arena now_dir now_slots : List ℕ) (r : Answered) → CreateOutcome fanout dir slots arena now_dir now_slots r → r.answer ≡ Ok tt
      → History (state r.header now_dir now_slots arena)
  found : {s : State} → Holds s.header s.dir s.slots s.arena fresh → History s
  on : {s t : State} → History s → Call s t → History t

-- beside a history run an ordered map and the leaf rules: of each call they are told the arguments, and whether it was refused

abbrev pub map_after : {s t : State} → Call s t → List Pair → List Pair
map_after (read c) m = m
map_after (insert k v out r after o) m = if_refused r.old m (map.put k v m)
map_after (remove k out r after o) m = if_refused r.old m (map.remove k m)
map_after (clear now_dir now_slots r o) m = if_not_done r.answer m []
map_after (create fanout now_dir now_slots r o) m = if_not_done r.answer m []

abbrev pub map_of : {s : State} → History s → List Pair
map_of (begin fanout dir slots arena now_dir now_slots r o d) = []
map_of (found y) = []
map_of (on h c) = map_after c (map_of h)

abbrev pub leaves_after : {s t : State} → Call s t → List Node → List Node
leaves_after (read c) ns = ns
leaves_after (insert {s} k v out r after o) ns = if_refused r.old ns (insert_rule s.header.fanout k v ns)
leaves_after (remove k out r after o) ns = if_refused r.old ns (remove_rule true k ns)
leaves_after (clear now_dir now_slots r o) ns = if_not_done r.answer ns (clear_rule ns)
leaves_after (create fanout now_dir now_slots r o) ns = if_not_done r.answer ns fresh

abbrev pub leaves_of : {s : State} → History s → List Node
leaves_of (begin fanout dir slots arena now_dir now_slots r o d) = fresh
leaves_of (found y) = fresh
leaves_of (on h c) = leaves_after c (leaves_of h)

-- demand 3's bounds: since the index was last made fresh, every accepted insert has a key of at most kmost bytes and a value of at most vmost

abbrev pub WithinAfter : (kmost vmost : ℕ) {s t : State} → Call s t → (before : Type 0) → Type 0
WithinAfter kmost vmost (read c) before = before
WithinAfter kmost vmost (insert k v out r after o) before = if_refused r.old before (((length k ≤ kmost) × (length v ≤ vmost)) × before)
WithinAfter kmost vmost (remove k out r after o) before = before
WithinAfter kmost vmost (clear now_dir now_slots r o) before = if_not_done r.answer before (Unit {0})
WithinAfter kmost vmost (create fanout now_dir now_slots r o) before = if_not_done r.answer before (Unit {0})

abbrev pub Within : (kmost vmost : ℕ) {s : State} → History s → Type 0
Within kmost vmost (begin fanout dir slots arena now_dir now_slots r o d) = Unit {0}
Within kmost vmost (found y) = Unit {0}
Within kmost vmost (on h c) = WithinAfter kmost vmost c (Within kmost vmost h)

-- what an index was made with: the fanout, and the lengths of the three buffers
pub record Measures : Type 0 where
  pub fanout : ℕ
  pub pool : ℕ
  pub slots_words : ℕ
  pub arena_bytes : ℕ

abbrev pub measured : (fanout : ℕ) (dir slots arena : List ℕ) → Measures
measured fanout dir slots arena = record { fanout = fanout; pool = length dir; slots_words = length slots; arena_bytes = length arena }

abbrev pub measures_of : State → Measures
measures_of s = measured s.header.fanout s.dir s.slots s.arena

-- beside a history: what it began with, and from an accepted creation on that one's fanout

abbrev pub measures_after : {s t : State} → Call s t → Measures → Measures
measures_after (read c) m = m
measures_after (insert k v out r after o) m = m
measures_after (remove k out r after o) m = m
measures_after (clear now_dir now_slots r o) m = m
measures_after (create fanout now_dir now_slots r o) m =
    if_not_done r.answer m (record { fanout = fanout; pool = m.pool; slots_words = m.slots_words; arena_bytes = m.arena_bytes })

abbrev pub made_with : {s : State} → History s → Measures
made_with (begin fanout dir slots arena now_dir now_slots r o d) = measured fanout dir slots arena
made_with (found {s} y) = measures_of s
made_with (on h c) = measures_after c (made_with h)

-- a call that reads or is refused, and a remove that answers none

abbrev pub NoValue : Result (Option ℕ) Refusal → Type 0
NoValue (Err x) = Unit {0}
NoValue (Ok None) = Unit {0}
NoValue (Ok (Some n)) = ⊥

abbrev pub Idle : {s t : State} → Call s t → Type 0
Idle (read c) = Unit {0}
Idle (insert k v out r after o) = if_refused r.old (Unit {0}) ⊥
Idle (remove k out r after o) = NoValue r.old
Idle (clear now_dir now_slots r o) = if_not_done r.answer (Unit {0}) ⊥
Idle (create fanout now_dir now_slots r o) = if_not_done r.answer (Unit {0}) ⊥
