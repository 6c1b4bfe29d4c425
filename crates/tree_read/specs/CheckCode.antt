-- What the functions of the test of W promise, each by the statement that it decides.
use Rattle.std.proofs.Common.{Option}
use Rattle.std.specs.Prelude.{◌+◌, ◌-◌, ◌^◌, ◌≤◌, ℕ, ◌*◌, ◌<◌, List, ◌≡◌, take, drop, get_or, length, Some, None}
use Rattle.std.proofs.Math.Option as math
use Rattle.layout.specs.Buffers.{low_at, slot_words, suffix_at, Buffers, low_word}
use Rattle.leaf.specs.Keys.{upper_at, KeyAt, UpperAt, key_part, upper_part}
use Rattle.lists.specs.Part.{part}
use Rattle.model.specs.Leaves.{Under, prefix_length}
use Rattle.model.specs.Limits.{key_limit}
use Rattle.order.specs.Bytes.{Bytes, ◌≼◌, ◌≺◌}
use Rattle.tree_read.specs.Check.{LeafOk, RunLeaves, charge_of, count_of, upper_of, NotEmpty, behind, leaf_charge, leaf_end, low_end, PairsOk, RunPairs, end_after, words_charge, WordOk, word_end, LowOk}
use Rattle.tree_read.specs.declared.check.State.{State}
use Rattle.tree_read.specs.declared.check.Sum.{Sum}
use Rattle.words.specs.Words.{first_slot, word_count, word_leaf, word_offset, word_suffix, word_value, LowKeyUnpacked}
use Rattle.words.specs.declared.LowKey.{LowKey}

abbrev pub lent : (fanout : ℕ) (slots arena : List ℕ) → Buffers
lent fanout slots arena = record { fanout = fanout; slots = slots; arena = arena }

-- the sizes that every index is read under
pub record Shaped (fanout pool : ℕ) (slots : List ℕ) : Type 0 where
  pub some_slot : 0 < fanout
  pub slots_are : length slots ≡ fanout * pool

-- a low key's word
pub record LowWordOk (top w : ℕ) : Type 0 where
  pub no_value : word_value w ≡ 0
  pub short : word_suffix w ≤ key_limit
  pub inside : word_offset w + word_suffix w ≤ top

abbrev pub LowRead : (fanout pool : ℕ) (slots arena : List ℕ) (d : ℕ) → Option LowKey → Type 0
LowRead fanout pool slots arena d (Some k) = LowOk (lent fanout slots arena) pool d × LowKeyUnpacked (low_word (lent fanout slots arena) d) k
LowRead fanout pool slots arena d None = LowOk (lent fanout slots arena) pool d → ⊥

-- the word w right behind the word p: in place, and its suffix above p's
abbrev pub Follows : (arena : List ℕ) (prefix p w : ℕ) → Type 0
Follows arena prefix p w = WordOk (length arena) (word_end p) prefix w × (suffix_at arena p ≺ suffix_at arena w)

pub record NextAt (slots arena : List ℕ) (i prefix : ℕ) : Type 0 where
  pub behind_one : 0 < i
  pub in_slots : i < length slots
  pub before_inside : word_end (get_or slots (i - 1) 0) ≤ length arena
  pub prefix_fits : prefix < 2 ^ 12

-- a leaf's slot words from the second on, the first one in place

pub record Rested (slots arena : List ℕ) (first count prefix : ℕ) : Type 0 where
  pub some_pair : 0 < count
  pub in_slots : first + count ≤ length slots
  pub few : count < 2 ^ 20
  pub first_inside : word_end (get_or slots first 0) ≤ length arena
  pub prefix_fits : prefix < 2 ^ 12

abbrev pub rest_of : (slots : List ℕ) (first count : ℕ) → List ℕ
rest_of slots first count = part slots (first + 1) (count - 1)

abbrev pub RestOk : (slots arena : List ℕ) (first count prefix : ℕ) → Type 0
RestOk slots arena first count prefix = RunPairs arena prefix (word_end (get_or slots first 0)) (suffix_at arena (get_or slots first 0)) (rest_of slots first count)

pub record RestSum (slots : List ℕ) (first count prefix : ℕ) (s : Sum) : Type 0 where
  pub end_is : s.end ≡ end_after (word_end (get_or slots first 0)) (rest_of slots first count)
  pub charge_is : s.charge ≡ words_charge prefix (part slots first count)
  pub charge_few : s.charge ≤ count * 2 ^ 25

abbrev pub RestRead : (slots arena : List ℕ) (first count prefix : ℕ) → Option Sum → Type 0
RestRead slots arena first count prefix (Some s) = RestOk slots arena first count prefix × RestSum slots first count prefix s
RestRead slots arena first count prefix None = RestOk slots arena first count prefix → ⊥

-- a leaf's first word

abbrev pub FirstOk : (arena : List ℕ) (prefix : ℕ) → LowKey → ℕ → Type 0
FirstOk arena prefix low w = WordOk (length arena) (low.offset.0 + low.length) prefix w × (key_part arena prefix low ≼ suffix_at arena w)

-- a leaf's slot words, between its low key and its upper key

pub record PairsAt (slots arena : List ℕ) (first count prefix : ℕ) (low : LowKey) (upper : Option LowKey) : Type 0 where
  pub in_slots : first + count ≤ length slots
  pub few : count < 2 ^ 20
  pub low_stands : KeyAt arena prefix low
  pub upper_stands : UpperAt arena prefix upper

abbrev pub PairsOkAt : (slots arena : List ℕ) (first count prefix : ℕ) → LowKey → Option LowKey → Type 0
PairsOkAt slots arena first count prefix low upper =
    PairsOk arena prefix (low.offset.0 + low.length) (key_part arena prefix low) (upper_part arena prefix upper) (part slots first count)

pub record PairsSum (slots : List ℕ) (first count prefix : ℕ) (low : LowKey) (s : Sum) : Type 0 where
  pub end_is : s.end ≡ end_after (low.offset.0 + low.length) (part slots first count)
  pub charge_is : s.charge ≡ words_charge prefix (part slots first count)
  pub charge_few : s.charge ≤ count * 2 ^ 25

abbrev pub PairsRead : (slots arena : List ℕ) (first count prefix : ℕ) → LowKey → Option LowKey → Option Sum → Type 0
PairsRead slots arena first count prefix low upper (Some s) = PairsOkAt slots arena first count prefix low upper × PairsSum slots first count prefix low s
PairsRead slots arena first count prefix low upper None = PairsOkAt slots arena first count prefix low upper → ⊥

-- a leaf of the directory word d, in the pool, whose low key and upper key are read

pub record LeafAt (fanout : ℕ) (slots arena : List ℕ) (d : ℕ) (low : LowKey) (upper : Option LowKey) : Type 0 where
  pub in_slots : first_slot fanout (word_leaf d) + fanout ≤ length slots
  pub low_is : LowKeyUnpacked (low_word (lent fanout slots arena) d) low
  pub low_stands : KeyAt arena 0 low
  pub upper_stands : UpperAt arena 0 upper

-- what is left of `LeafOk` then
pub record LeafRest (b : Buffers) (end d : ℕ) (upper : math.Option Bytes) : Type 0 where
  pub after : end ≤ word_offset (low_word b d)
  pub under : Under upper (low_at b d)
  pub count : word_count d < b.fanout
  pub not_empty : NotEmpty upper (word_count d)
  pub pairs : PairsOk b.arena (prefix_length (low_at b d) upper) (low_end b d) (drop (prefix_length (low_at b d) upper) (low_at b d)) (behind (prefix_length (low_at b d) upper) upper) (slot_words b d)

pub record LeafSum (b : Buffers) (d : ℕ) (upper : math.Option Bytes) (s : Sum) : Type 0 where
  pub end_is : s.end ≡ leaf_end b d
  pub charge_is : s.charge ≡ leaf_charge b d upper
  pub charge_few : s.charge < 2 ^ 46

abbrev pub LeafRead : (fanout : ℕ) (slots arena : List ℕ) (d : ℕ) → LowKey → Option LowKey → (end : ℕ) → Option Sum → Type 0
LeafRead fanout slots arena d low upper end (Some s) = LeafRest (lent fanout slots arena) end d (upper_at arena upper) × LeafSum (lent fanout slots arena) d (upper_at arena upper) s
LeafRead fanout slots arena d low upper end None = LeafRest (lent fanout slots arena) end d (upper_at arena upper) → ⊥

-- the upper key of the leaf before the k-th

abbrev pub NextRead : (fanout leaves : ℕ) (dir slots arena : List ℕ) (k : ℕ) → Option (Option LowKey) → Type 0
NextRead fanout leaves dir slots arena k (Some None) = leaves ≤ k
NextRead fanout leaves dir slots arena k (Some (Some u)) =
    (k < leaves) × (LowOk (lent fanout slots arena) (length dir) (get_or dir k 0) × LowKeyUnpacked (low_word (lent fanout slots arena) (get_or dir k 0)) u)
NextRead fanout leaves dir slots arena k None = (k < leaves) × (LowOk (lent fanout slots arena) (length dir) (get_or dir k 0) → ⊥)

-- one leaf after another

pub record LowKnown (fanout pool : ℕ) (slots arena : List ℕ) (d : ℕ) (low : LowKey) : Type 0 where
  pub ok : LowOk (lent fanout slots arena) pool d
  pub is : LowKeyUnpacked (low_word (lent fanout slots arena) d) low

pub record StepAt (fanout leaves : ℕ) (dir slots arena : List ℕ) (j : ℕ) (s : State) : Type 0 where
  pub shaped : Shaped fanout (length dir) slots
  pub in_directory : leaves ≤ length dir
  pub more : j < leaves
  pub low_known : LowKnown fanout (length dir) slots arena (get_or dir j 0) s.low
  pub pairs_few : s.pairs < 2 ^ 62
  pub charge_few : s.charge < 2 ^ 62

pub record Stepped (fanout leaves : ℕ) (dir slots arena : List ℕ) (j : ℕ) (s t : State) : Type 0 where
  pub leaf : LeafOk (lent fanout slots arena) (length dir) s.end (get_or dir j 0) (upper_of (lent fanout slots arena) (drop (j + 1) (take leaves dir)))
  pub end_is : t.end ≡ leaf_end (lent fanout slots arena) (get_or dir j 0)
  pub pairs_are : t.pairs ≡ s.pairs + word_count (get_or dir j 0)
  pub charge_is : t.charge ≡ s.charge + leaf_charge (lent fanout slots arena) (get_or dir j 0) (upper_of (lent fanout slots arena) (drop (j + 1) (take leaves dir)))
  pub charge_few : t.charge < s.charge + 2 ^ 46
  pub next_known : j + 1 < leaves → LowKnown fanout (length dir) slots arena (get_or dir (j + 1) 0) t.low

abbrev pub StepRead : (fanout leaves : ℕ) (dir slots arena : List ℕ) (j : ℕ) → State → Option State → Type 0
StepRead fanout leaves dir slots arena j s (Some t) = Stepped fanout leaves dir slots arena j s t
StepRead fanout leaves dir slots arena j s None = RunLeaves (lent fanout slots arena) (length dir) s.end (drop j (take leaves dir)) → ⊥

-- all leaves

pub record LeavesAt (fanout leaves : ℕ) (dir slots arena : List ℕ) (low : LowKey) : Type 0 where
  pub shaped : Shaped fanout (length dir) slots
  pub in_directory : leaves ≤ length dir
  pub few : leaves ≤ 2 ^ 12
  pub low_known : LowKnown fanout (length dir) slots arena (get_or dir 0 0) low

pub record LeavesSum (fanout leaves : ℕ) (dir slots arena : List ℕ) (s : State) : Type 0 where
  pub pairs_are : s.pairs ≡ count_of (take leaves dir)
  pub charge_is : s.charge ≡ charge_of (lent fanout slots arena) (take leaves dir)

abbrev pub LeavesRead : (fanout leaves : ℕ) (dir slots arena : List ℕ) → Option State → Type 0
LeavesRead fanout leaves dir slots arena (Some s) = RunLeaves (lent fanout slots arena) (length dir) 0 (take leaves dir) × LeavesSum fanout leaves dir slots arena s
LeavesRead fanout leaves dir slots arena None = RunLeaves (lent fanout slots arena) (length dir) 0 (take leaves dir) → ⊥
