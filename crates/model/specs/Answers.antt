-- The answer of each call on a leaf list: the refusals in the order of document 01's table, then the ordered map's answer on all pairs.
-- (Refusal 2 is about the buffers that hold the list, and comes before all of these.)
use Rattle.std.specs.Prelude.{ℕ, zero, suc, ◌*◌, Bool, true, false, not, ◌&&◌, List, [], ◌∷◌, ◌≡◌, ltb, leb, eqb, length, Err, None, Ok, Some}
use Rattle.std.proofs.Common as rust
use Rattle.std.proofs.Math.Option.{Option, none, some}
use Rattle.order.specs.Bytes.{Bytes, cmp}
use Rattle.model.specs.declared.Bound.{Bound}
use Rattle.model.specs.declared.Bound.TheVariants.{Included, Excluded, Open}
use Rattle.model.specs.declared.Range.{Range}
use Rattle.model.specs.declared.Refusal.{Refusal}
use Rattle.model.specs.declared.Refusal.TheVariants.{Shape, Damaged, LongKey, LongValue, ShortOutput, InvertedRange, NoLeaf, NoRoom}
use Rattle.model.specs.Map.{Pair, by, lookup, put, first_in}
use Rattle.model.specs.Leaves.{Node, low_of, pairs_of, prefix_length, owned}
use Rattle.model.specs.Rules.{insert_rule, remove_rule, clear_rule, fresh}
use Rattle.model.specs.Charge.{charge}
use Rattle.model.specs.Limits.{key_limit, value_limit, fanout_least, fanout_limit, pool_least, pool_limit, arena_limit}
use Rattle.model.specs.Prefix.{prefix_end, prefix_range}

-- the number of a refusal in document 01's table, and the length that it also returns
abbrev pub number_of : Refusal → ℕ
number_of Shape = 1
number_of Damaged = 2
number_of LongKey = 3
number_of LongValue = 4
number_of (ShortOutput n) = 5
number_of InvertedRange = 6
number_of NoLeaf = 7
number_of NoRoom = 8

abbrev pub length_of : Refusal → Option ℕ
length_of Shape = none
length_of Damaged = none
length_of LongKey = none
length_of LongValue = none
length_of (ShortOutput n) = some n
length_of InvertedRange = none
length_of NoLeaf = none
length_of NoRoom = none

-- the same length as Rust's own type has it
abbrev pub length_told : Refusal → rust.Option ℕ
length_told Shape = None
length_told Damaged = None
length_told LongKey = None
length_told LongValue = None
length_told (ShortOutput n) = Some n
length_told InvertedRange = None
length_told NoLeaf = None
length_told NoRoom = None

pub data Answer (A : Type 0) : Type 0 where
  refused : Refusal → Answer A
  accepted : A → Answer A

-- document 01's number of an answer, 0 where nothing is refused, and the length that a refusal also returns
pub record Code : Type 0 where
  pub number : ℕ
  pub length : Option ℕ

abbrev pub code_of : Refusal → Code
code_of x = record { number = number_of x; length = length_of x }

abbrev pub no_refusal : Code
no_refusal = record { number = 0; length = none }

abbrev pub answer_code : {A : Type 0} → Answer A → Code
answer_code (refused x) = code_of x
answer_code (accepted a) = no_refusal

-- an answer as Rust's Result, what is accepted told by f, and the number of a Result
abbrev pub told : {A B : Type 0} → (A → B) → Answer A → rust.Result B Refusal
told f (refused x) = Err x
told f (accepted a) = Ok (f a)

abbrev pub result_code : {B : Type 0} → rust.Result B Refusal → Code
result_code (Ok b) = no_refusal
result_code (Err x) = code_of x

-- a call's answer r is the one told, and has its number
pub record Gives {R : Type 0} (code_in : R → Code) (told : R) (code : Code) (r : R) : Type 0 where
  pub answer_is : r ≡ told
  pub code_is : code_in r ≡ code

-- a test, its refusal, and what comes after it
abbrev pub refuse_if : {A : Type 0} → Bool → Refusal → Answer A → Answer A
refuse_if true r a = refused r
refuse_if false r a = a

-- 1
abbrev pub meets_sizes : (fanout pool slots arena : ℕ) → Bool
meets_sizes fanout pool slots arena =
    leb fanout_least fanout && (leb fanout fanout_limit
    && (leb pool_least pool && (leb pool pool_limit
    && (eqb slots (fanout * pool) && leb arena arena_limit))))

-- 3, 4
abbrev pub long_key : Bytes → Bool
long_key k = ltb key_limit (length k)

abbrev pub long_bound : Bound → Bytes → Bool
long_bound Included k = long_key k
long_bound Excluded k = long_key k
long_bound Open k = false

abbrev pub long_value : Bytes → Bool
long_value v = ltb value_limit (length v)

-- 5: a byte string that is to be written doesn't fit an output of `out` bytes
abbrev pub size_of : Option Bytes → ℕ
size_of none = 0
size_of (some b) = length b

abbrev pub short : (out : ℕ) → Option Bytes → Bool
short out none = false
short out (some b) = ltb out (length b)

-- 6: both bounds have keys, and the start key is above the end key
abbrev pub both_keyed : Bound → Bound → Bool
both_keyed Open b = false
both_keyed Included Open = false
both_keyed Included Included = true
both_keyed Included Excluded = true
both_keyed Excluded Open = false
both_keyed Excluded Included = true
both_keyed Excluded Excluded = true

abbrev pub inverted : Range → (start end : Bytes) → Bool
inverted r s e = both_keyed r.start r.end && by (cmp s e) false false true

-- 7: the insert makes F pairs and no leaf is free
abbrev pub no_leaf : (fanout pool : ℕ) → Bytes → Bytes → List Node → Bool
no_leaf fanout pool k v ns = eqb (length (put k v (owned k ns))) fanout && leb pool (length ns)

-- 8: the charge after the whole insert, split included, is over the arena's length
abbrev pub no_room : (fanout arena : ℕ) → Bytes → Bytes → List Node → Bool
no_room fanout arena k v ns = ltb arena (charge (insert_rule fanout k v ns))

-- the calls

abbrev pub create_answer : (fanout pool slots arena : ℕ) → Answer (List Node)
create_answer fanout pool slots arena = refuse_if (not (meets_sizes fanout pool slots arena)) Shape (accepted fresh)

abbrev pub get_answer : Bytes → List Node → Answer (Option Bytes)
get_answer k ns = refuse_if (long_key k) LongKey (accepted (lookup k (pairs_of ns)))

abbrev pub is_some : {A : Type 0} → Option A → Bool
is_some none = false
is_some (some a) = true

abbrev pub contains_answer : Bytes → List Node → Answer Bool
contains_answer k ns = refuse_if (long_key k) LongKey (accepted (is_some (lookup k (pairs_of ns))))

abbrev pub len_answer : List Node → Answer ℕ
len_answer ns = accepted (length (pairs_of ns))

-- what a changing call hands out, and the leaf list that it leaves
pub record Changed : Type 0 where
  pub old : Option Bytes
  pub nodes : List Node

abbrev pub insert_answer : (fanout pool arena : ℕ) → Bytes → Bytes → (out : ℕ) → List Node → Answer Changed
insert_answer fanout pool arena k v out ns =
    let old = lookup k (pairs_of ns) in
    refuse_if (long_key k) LongKey
    (refuse_if (long_value v) LongValue
    (refuse_if (short out old) (ShortOutput (size_of old))
    (refuse_if (no_leaf fanout pool k v ns) NoLeaf
    (refuse_if (no_room fanout arena k v ns) NoRoom
    (accepted (record { old = old; nodes = insert_rule fanout k v ns }))))))

abbrev pub remove_answer : (merging : Bool) → Bytes → (out : ℕ) → List Node → Answer Changed
remove_answer merging k out ns =
    let old = lookup k (pairs_of ns) in
    refuse_if (long_key k) LongKey
    (refuse_if (short out old) (ShortOutput (size_of old))
    (accepted (record { old = old; nodes = remove_rule merging k ns })))

abbrev pub clear_answer : List Node → Answer (List Node)
clear_answer ns = accepted (clear_rule ns)

abbrev pub key_of : Option Pair → Option Bytes
key_of none = none
key_of (some p) = some p.key

-- a scan's pair: 3, then 6
abbrev pub range_found : Range → (start end : Bytes) → List Node → Answer (Option Pair)
range_found r s e ns =
    refuse_if (long_bound r.start s) LongKey
    (refuse_if (long_bound r.end e) LongKey
    (refuse_if (inverted r s e) InvertedRange
    (accepted (first_in r s e (pairs_of ns)))))

-- and its key written to an output of `out` bytes: 6 before 5, since 5 needs the pair
abbrev pub key_written : (out : ℕ) → Answer (Option Pair) → Answer (Option Pair)
key_written out (refused x) = refused x
key_written out (accepted found) = refuse_if (short out (key_of found)) (ShortOutput (size_of (key_of found))) (accepted found)

abbrev pub range_answer : Range → (start end : Bytes) → (out : ℕ) → List Node → Answer (Option Pair)
range_answer r s e out ns = key_written out (range_found r s e ns)

abbrev pub everything : Range
everything = record { start = Open; end = Open }

abbrev pub beyond : Range
beyond = record { start = Excluded; end = Open }

abbrev pub first_answer : (out : ℕ) → List Node → Answer (Option Pair)
first_answer out ns = range_answer everything [] [] out ns

abbrev pub get_gt_answer : Bytes → (out : ℕ) → List Node → Answer (Option Pair)
get_gt_answer k out ns = range_answer beyond k [] out ns

-- the range of a prefix and its end key, if it has one
pub record Scanned : Type 0 where
  pub range : Range
  pub end : Option Bytes

abbrev pub prefix_answer : Bytes → (out : ℕ) → Answer Scanned
prefix_answer p out =
    let end = prefix_end p in
    refuse_if (long_key p) LongKey
    (refuse_if (short out end) (ShortOutput (size_of end))
    (accepted (record { range = prefix_range end; end = end })))

-- one leaf of the leaf list, as document 01 shows it, counted in key order from 0
pub record Shown : Type 0 where
  pub low : Bytes
  pub upper : Option Bytes
  pub prefix : ℕ
  pub pairs : ℕ

abbrev pub shown : Node → Option Bytes → Shown
shown n upper = record { low = n.low; upper = upper; prefix = prefix_length n.low upper; pairs = length n.pairs }

abbrev pub leaf_at : ℕ → List Node → Option Shown
leaf_at i [] = none
leaf_at zero (n ∷ ns) = some (shown n (low_of ns))
leaf_at (suc i) (n ∷ ns) = leaf_at i ns

abbrev pub leaf_answer : ℕ → List Node → Answer (Option Shown)
leaf_answer i ns = accepted (leaf_at i ns)
