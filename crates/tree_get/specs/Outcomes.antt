-- What `get`, `contains_key`, `get_value` and `leaf_at` answer: the model's answer, told in Rust's own types.
use Rattle.std.specs.Prelude.{Bool, Err, List, None, Ok, Some, [], get_or, length, suc, ℕ, ◌≡◌}
use Rattle.std.proofs.Common.{Option, Result}
use Rattle.std.proofs.Math.Option as math
use Rattle.std.proofs.Math.Option.{none, some}
use Rattle.layout.specs.Buffers.{low_word}
use Rattle.layout.specs.Entry.{Entry}
use Rattle.layout.specs.Lays.{buffers}
use Rattle.layout.specs.Places.{place_of}
use Rattle.layout.specs.Viewed.{leaves_of}
use Rattle.layout.specs.declared.Header.{Header}
use Rattle.layout.specs.declared.lent.View.{View}
use Rattle.leaf.specs.Keys.{key_at, upper_at}
use Rattle.model.specs.Answers.{Answer, Gives, accepted, answer_code, code_of, contains_answer, get_answer, leaf_answer, leaf_at, refused, result_code, told}
use Rattle.model.specs.Answers as model
use Rattle.model.specs.Leaves.{Node}
use Rattle.model.specs.declared.Refusal.{Refusal}
use Rattle.model.specs.declared.Refusal.TheVariants.{Damaged}
use Rattle.order.specs.Bytes.{Bytes}
use Rattle.tree_get.specs.declared.Found.{Found}
use Rattle.tree_get.specs.declared.Shown.{Shown}
use Rattle.words.specs.Words.{word_offset, word_suffix}
use Rattle.words.specs.declared.LowKey.{LowKey}

-- an entry point's answer: damaged, or what the model answers for the leaf list that is held
abbrev pub Outcome : {A B : Type 0} → Header → (dir slots arena : List ℕ) → (List Node → A → B) → (List Node → Answer A) → Result B Refusal → Type 0
Outcome h dir slots arena f answer r =
    Entry h dir slots arena (Gives result_code (Err Damaged) (code_of Damaged) r) (λ ns. Gives result_code (told (f ns) (answer ns)) (answer_code (answer ns)) r)

-- get: the value's place and length, or none

abbrev pub found : (place : ℕ) → math.Option Bytes → Option Found
found place none = None
found place (some v) = Some (record { at = record { 0 = place }; length = length v })

abbrev pub Gets : Header → (dir slots arena : List ℕ) → Bytes → Result (Option Found) Refusal → List Node → Type 0
Gets h dir slots arena k r ns = r ≡ told (found (place_of h dir slots arena ns k)) (get_answer k ns)

abbrev pub GetRead : View → Bytes → Result (Option Found) Refusal → Type 0
GetRead v k r = Gets v.header v.dir.now v.slots.now v.arena.now k r (leaves_of v)

abbrev pub GetOutcome : Header → (dir slots arena : List ℕ) → Bytes → Result (Option Found) Refusal → Type 0
GetOutcome h dir slots arena k r = Outcome h dir slots arena (λ ns. found (place_of h dir slots arena ns k)) (get_answer k) r

-- contains_key

abbrev pub Contains : Bytes → Result Bool Refusal → List Node → Type 0
Contains k r ns = r ≡ told (λ b. b) (contains_answer k ns)

abbrev pub ContainsRead : View → Bytes → Result Bool Refusal → Type 0
ContainsRead v k r = Contains k r (leaves_of v)

abbrev pub ContainsOutcome : Header → (dir slots arena : List ℕ) → Bytes → Result Bool Refusal → Type 0
ContainsOutcome h dir slots arena k r = Outcome h dir slots arena (λ ns b. b) (contains_answer k) r

-- get_value: the map's value, empty on none or a refusal

abbrev pub value_told : Answer (math.Option Bytes) → Bytes
value_told (refused x) = []
value_told (accepted none) = []
value_told (accepted (some v)) = v

abbrev pub ValueOutcome : Header → (dir slots arena : List ℕ) → Bytes → (v : Bytes) → Type 0
ValueOutcome h dir slots arena k v = Entry h dir slots arena (v ≡ []) (λ ns. v ≡ value_told (get_answer k ns))

-- leaf_at: where the low key of the j-th leaf lies, and its upper key, the next one's low key

abbrev pub low_place : Header → (dir slots arena : List ℕ) → ℕ → LowKey
low_place h dir slots arena j =
    record {
      offset = record { 0 = word_offset (low_word (buffers h slots arena) (get_or dir j 0)) };
      length = word_suffix (low_word (buffers h slots arena) (get_or dir j 0));
    }

abbrev pub upper_place : Header → (dir slots arena : List ℕ) → ℕ → math.Option Bytes → Option LowKey
upper_place h dir slots arena j none = None
upper_place h dir slots arena j (some u) = Some (low_place h dir slots arena (suc j))

pub record Views (h : Header) (dir slots arena : List ℕ) (j : ℕ) (s : model.Shown) (v : Shown) : Type 0 where
  pub low_stands : v.low ≡ low_place h dir slots arena j
  pub low_is : key_at arena v.low ≡ s.low
  pub upper_stands : v.upper ≡ upper_place h dir slots arena j s.upper
  pub upper_is : upper_at arena v.upper ≡ s.upper
  pub prefix_is : v.prefix_length ≡ s.prefix
  pub pairs_are : v.pairs ≡ s.pairs

abbrev pub ShownBy : Header → (dir slots arena : List ℕ) → ℕ → math.Option model.Shown → Option Shown → Type 0
ShownBy h dir slots arena j none None = Unit {0}
ShownBy h dir slots arena j none (Some v) = ⊥
ShownBy h dir slots arena j (some s) None = ⊥
ShownBy h dir slots arena j (some s) (Some v) = Views h dir slots arena j s v

abbrev pub LeafSeen : View → ℕ → Option Shown → Type 0
LeafSeen v j r = ShownBy v.header v.dir.now v.slots.now v.arena.now j (leaf_at j (leaves_of v)) r

pub record Shows (h : Header) (dir slots arena : List ℕ) (j : ℕ) (ns : List Node) (r : Result (Option Shown) Refusal) : Type 0 where
  pub shown : Option Shown
  pub answer_is : r ≡ Ok shown
  pub shows : ShownBy h dir slots arena j (leaf_at j ns) shown
  pub code_is : result_code r ≡ answer_code (leaf_answer j ns)

abbrev pub LeafOutcome : Header → (dir slots arena : List ℕ) → ℕ → Result (Option Shown) Refusal → Type 0
LeafOutcome h dir slots arena j r = Entry h dir slots arena (Gives result_code (Err Damaged) (code_of Damaged) r) (λ ns. Shows h dir slots arena j ns r)
