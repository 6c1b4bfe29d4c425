-- What the ordered map m, and for `leaf_at` and refusals 7 and 8 the leaf list ns, says to a call: what each answer that the call may give, read as
-- its caller reads it, means of them.
use Rattle.std.proofs.Common.{Option, Result}
use Rattle.std.specs.Prelude.{ℕ, ◌+◌, ◌≤◌, ◌<◌, Bool, false, true, List, [], ◌≡◌, drop, length, take, None, Some, Ok, Err}
use Rattle.std.proofs.Math.Option as math
use Rattle.std.proofs.Math.Option.{none, some}
use Rattle.history.specs.Histories.{Call, Reading, State, clear, contains_key, create, first, first_in_range, get, get_gt, get_value, holds_index, insert, leaf_at, len, range_value, read, remove, scan_prefix}
use Rattle.lists.specs.All.{All}
use Rattle.lists.specs.Exact.{Exact}
use Rattle.lists.specs.Part.{part}
use Rattle.model.specs.Answers.{beyond, everything, inverted, long_bound, meets_sizes, no_leaf, no_room}
use Rattle.model.specs.Leaves.{Node}
use Rattle.model.specs.Limits.{key_limit, value_limit}
use Rattle.model.specs.Map.{Pair, first_in, in_range, lookup}
use Rattle.model.specs.Prefix.{prefix_end, prefix_range}
use Rattle.model.specs.declared.Range.{Range}
use Rattle.model.specs.declared.Refusal.{Refusal}
use Rattle.model.specs.declared.Refusal.TheVariants.{InvertedRange, LongKey, LongValue, NoLeaf, NoRoom, Shape, ShortOutput}
use Rattle.order.specs.Bytes.{Bytes}
use Rattle.prefixes.specs.End.{Begins, Byte, end_bytes}
use Rattle.prefixes.specs.declared.Span.{Span}
use Rattle.tree_get.specs.Outcomes as reads
use Rattle.tree_get.specs.declared.Found.{Found}
use Rattle.tree_range.specs.Scans.{Allowed}
use Rattle.tree_range.specs.Walked.{pair_seen}
use Rattle.tree_range.specs.declared.Seen.{Seen}

-- a lookup is refused only where the key has over 512 bytes and, as `NotLong` stands with every other answer, wherever it has
pub record TooLong (k : Bytes) (x : Refusal) : Type 0 where
  pub refused : x ≡ LongKey
  pub long : key_limit < length k

-- 3 does not apply to a key; 3 and 4 do not to a pair
abbrev pub NotLong : Bytes → Type 0
NotLong k = length k ≤ key_limit

abbrev pub PairNotLong : (k v : Bytes) → Type 0
PairNotLong k v = NotLong k × (length v ≤ value_limit)

-- get: the value is that part of the arena, or there is none
pub record ValueLies (arena : List ℕ) (k : Bytes) (m : List Pair) (place n : ℕ) : Type 0 where
  pub found : lookup k m ≡ some (part arena place n)
  pub inside : place + n ≤ length arena

abbrev pub GetSays : (arena : List ℕ) → Bytes → List Pair → Result (Option Found) Refusal → Type 0
GetSays arena k m (Ok (Some f)) = ValueLies arena k m f.at.0 f.length × NotLong k
GetSays arena k m (Ok None) = (lookup k m ≡ none) × NotLong k
GetSays arena k m (Err x) = TooLong k x

abbrev pub ContainsSays : Bytes → List Pair → Result Bool Refusal → Type 0
ContainsSays k m (Ok true) = (lookup k m ≡ none → ⊥) × NotLong k
ContainsSays k m (Ok false) = (lookup k m ≡ none) × NotLong k
ContainsSays k m (Err x) = TooLong k x

-- get_value, range_value: empty on none
abbrev pub bytes_of : math.Option Bytes → Bytes
bytes_of none = []
bytes_of (some v) = v

abbrev pub value_of : math.Option Pair → math.Option Bytes
value_of none = none
value_of (some p) = some p.value

-- len, never refused
abbrev pub LenSays : List Pair → Result ℕ Refusal → Type 0
LenSays m (Ok n) = n ≡ length m
LenSays m (Err x) = ⊥

-- a scan: the first pair in the range, its key at the output's front and the rest of the output as it was
pub record PairLies (arena : List ℕ) (range : Range) (s e : Bytes) (m : List Pair) (out now_out : Bytes) (x : Seen) : Type 0 where
  pub found : first_in range s e m ≡ some (pair_seen arena now_out x)
  pub inside : x.place.0 + x.value ≤ length arena
  pub fits : x.key ≤ length out
  pub rest : drop x.key now_out ≡ drop x.key out
  pub same_length : length now_out ≡ length out

-- each refusal of a call where the tests before it, in document 01's order (of a scan 6 before 5), did not refuse
pub data ScanRefused (range : Range) (s e : Bytes) (m : List Pair) (out : Bytes) : Refusal → Type 0 where
  long_start : long_bound range.start s ≡ true → ScanRefused range s e m out LongKey
  long_end : long_bound range.end e ≡ true → ScanRefused range s e m out LongKey
  inverted_range : long_bound range.start s ≡ false → long_bound range.end e ≡ false → inverted range s e ≡ true → ScanRefused range s e m out InvertedRange
  short_key : Allowed range s e → (p : Pair) → first_in range s e m ≡ some p → length out < length p.key → ScanRefused range s e m out (ShortOutput (length p.key))

abbrev pub ScanSays : (arena : List ℕ) → Range → (start end : Bytes) → List Pair → (out now_out : Bytes) → Result (Option Seen) Refusal → Type 0
ScanSays arena range s e m out now_out (Ok (Some x)) = PairLies arena range s e m out now_out x × Allowed range s e
ScanSays arena range s e m out now_out (Ok None) = (first_in range s e m ≡ none) × ((now_out ≡ out) × Allowed range s e)
ScanSays arena range s e m out now_out (Err x) = ScanRefused range s e m out x × (now_out ≡ out)

-- empty where the scan would be refused as 3 or 6
pub record RangeValueSays (range : Range) (s e : Bytes) (m : List Pair) (v : Bytes) : Type 0 where
  pub allowed : Allowed range s e → v ≡ bytes_of (value_of (first_in range s e m))
  pub refused : (Allowed range s e → ⊥) → v ≡ []

-- scan_prefix: the prefix's end at the output's front, no byte of it where it is open, and the rest of the output as it was; of the keys made of
-- bytes exactly those that begin with the prefix are in the range that the caller then has, and no scan refuses it as 3 or 6
pub record PrefixLies (p out now_out : Bytes) (x : Span) : Type 0 where
  pub range_is : x.range ≡ prefix_range (prefix_end p)
  pub end_is : take x.end now_out ≡ end_bytes (prefix_end p)
  pub exact : (k : Bytes) → All Byte k → Exact (in_range x.range p (take x.end now_out) k) (Begins p k)
  pub allowed : Allowed x.range p (take x.end now_out)
  pub fits : x.end ≤ length out
  pub rest : drop x.end now_out ≡ drop x.end out
  pub same_length : length now_out ≡ length out
  pub not_long : NotLong p

pub data PrefixRefused (p out : Bytes) : Refusal → Type 0 where
  long_prefix : key_limit < length p → PrefixRefused p out LongKey
  short_end : NotLong p → (e : Bytes) → prefix_end p ≡ some e → length out < length e → PrefixRefused p out (ShortOutput (length e))

abbrev pub PrefixSays : (p out now_out : Bytes) → Result Span Refusal → Type 0
PrefixSays p out now_out (Ok x) = PrefixLies p out now_out x
PrefixSays p out now_out (Err x) = PrefixRefused p out x × (now_out ≡ out)

-- the old value at the output's front and the rest of the output as it was
pub record OldLies (k : Bytes) (m : List Pair) (out now_out : Bytes) (n : ℕ) : Type 0 where
  pub found : lookup k m ≡ some (take n now_out)
  pub fits : n ≤ length out
  pub rest : drop n now_out ≡ drop n out
  pub same_length : length now_out ≡ length out

-- that, or none and the whole output as it was, both only where `may` holds; or a refusal for one of the reasons that `why` allows
abbrev pub OldSays : Bytes → List Pair → (out now_out : Bytes) → (may : Type 0) → (why : Refusal → Type 0) → Result (Option ℕ) Refusal → Type 0
OldSays k m out now_out may why (Ok (Some n)) = OldLies k m out now_out n × may
OldSays k m out now_out may why (Ok None) = (lookup k m ≡ none) × ((now_out ≡ out) × may)
OldSays k m out now_out may why (Err x) = why x × (now_out ≡ out)

-- an old value fits the output
abbrev pub OldFits : Bytes → List Pair → (out : Bytes) → Type 0
OldFits k m out = (u : Bytes) → lookup k m ≡ some u → length u ≤ length out

-- 3; and 5 only where `may` holds, what the tests before it leave
pub data OldRefused (k : Bytes) (m : List Pair) (out : Bytes) (may : Type 0) : Refusal → Type 0 where
  key_too_long : key_limit < length k → OldRefused k m out may LongKey
  short_output : may → (v : Bytes) → lookup k m ≡ some v → length out < length v → OldRefused k m out may (ShortOutput (length v))

-- 7 and 8 are about leaves and bytes: the leaf list says when, and demand 3's sizing when not
pub data InsertRefused (fanout pool arena : ℕ) (k v : Bytes) (ns : List Node) (m : List Pair) (out : Bytes) : Refusal → Type 0 where
  old_refused : {x : Refusal} → OldRefused k m out (PairNotLong k v) x → InsertRefused fanout pool arena k v ns m out x
  value_too_long : NotLong k → value_limit < length v → InsertRefused fanout pool arena k v ns m out LongValue
  no_free_leaf : PairNotLong k v → OldFits k m out → no_leaf fanout pool k v ns ≡ true → InsertRefused fanout pool arena k v ns m out NoLeaf
  no_free_room : PairNotLong k v → OldFits k m out → no_leaf fanout pool k v ns ≡ false → no_room fanout arena k v ns ≡ true → InsertRefused fanout pool arena k v ns m out NoRoom

-- an accepted insert: neither 3, 4, 7 nor 8 applies (that 5 does not is said by `OldSays`)
pub record MayInsert (fanout pool arena : ℕ) (k v : Bytes) (ns : List Node) : Type 0 where
  pub not_long : PairNotLong k v
  pub leaf_free : no_leaf fanout pool k v ns ≡ false
  pub room : no_room fanout arena k v ns ≡ false

-- create, refused exactly where the sizes are not met
abbrev pub CreateSays : (fanout pool slots arena : ℕ) → Result (Unit {0}) Refusal → Type 0
CreateSays fanout pool slots arena (Ok u) = meets_sizes fanout pool slots arena ≡ true
CreateSays fanout pool slots arena (Err x) = (x ≡ Shape) × (meets_sizes fanout pool slots arena ≡ false)

-- each reading call
abbrev pub ReadSays : {s : State} → Reading s → List Node → List Pair → Type 0
ReadSays (holds_index r o) ns m = r ≡ true
ReadSays (len r o) ns m = LenSays m r
ReadSays {s} (get k r o) ns m = GetSays s.arena k m r
ReadSays (get_value k r o) ns m = r ≡ bytes_of (lookup k m)
ReadSays (contains_key k r o) ns m = ContainsSays k m r
ReadSays {s} (leaf_at place r o) ns m = reads.Shows s.header s.dir s.slots s.arena place ns r
ReadSays {s} (first_in_range range start end out now_out r o) ns m = ScanSays s.arena range start end m out now_out r
ReadSays (range_value range start end r o) ns m = RangeValueSays range start end m r
ReadSays {s} (get_gt k out now_out r o) ns m = ScanSays s.arena beyond k [] m out now_out r
ReadSays {s} (first out now_out r o) ns m = ScanSays s.arena everything [] [] m out now_out r
ReadSays (scan_prefix p out now_out r o) ns m = PrefixSays p out now_out r

-- each call; `clear` is never refused
abbrev pub Says : {s t : State} → Call s t → List Node → List Pair → Type 0
Says (read c) ns m = ReadSays c ns m
Says {s} (insert k v out r after o) ns m =
    OldSays k m out after.out (MayInsert s.header.fanout (length s.dir) (length s.arena) k v ns)
    (InsertRefused s.header.fanout (length s.dir) (length s.arena) k v ns m out) r.old
Says (remove k out r after o) ns m = OldSays k m out after.out (NotLong k) (OldRefused k m out (NotLong k)) r.old
Says (clear now_dir now_slots r o) ns m = r.answer ≡ Ok tt
Says {s} (create fanout now_dir now_slots r o) ns m = CreateSays fanout (length s.dir) (length s.slots) (length s.arena) r.answer
