-- What `judge` answers: the refusal that document 01's table gives, or where the new pair goes, and the plan of a split.
use Rattle.std.proofs.Common.{Option, Result}
use Rattle.std.specs.Prelude.{◌+◌, ◌-◌, ◌<◌, ◌/◌, ◌≤◌, suc, zero, ℕ, Bool, false, true, cond, List, [], ◌≡◌, leb, ltb, get_or, length, Some, None, Ok, Err}
use Rattle.layout.specs.Viewed.{leaves_of}
use Rattle.layout.specs.declared.Header.{Header}
use Rattle.layout.specs.declared.lent.View.{View}
use Rattle.model.specs.Answers.{accepted, insert_answer, refused}
use Rattle.model.specs.Leaves.{Node, owner, pairs_of}
use Rattle.model.specs.Limits.{key_limit, value_limit}
use Rattle.model.specs.Map.{Pair, lookup, pair, put}
use Rattle.model.specs.Rules.{cut_key, insert_rule, split_offset}
use Rattle.model.specs.declared.Refusal.{Refusal}
use Rattle.model.specs.declared.Refusal.TheVariants.{NoRoom, ShortOutput}
use Rattle.order.specs.Bytes.{Bytes, common}
use Rattle.route.specs.Routes.{Directed, leaf_at, upper_of}
use Rattle.spots.specs.KeySpots.{AtSpot, InGap}
use Rattle.spots.specs.Spots.{SpotIn}
use Rattle.spots.specs.declared.Spot.{Spot}
use Rattle.words.specs.Words.{word_count}
use Rattle.judge.specs.declared.Fit.TheVariants.{Full, Slack}
use Rattle.judge.specs.declared.Half.{Half}
use Rattle.judge.specs.declared.Half.TheVariants.{Left, Right}
use Rattle.judge.specs.declared.Judged.{Judged}
use Rattle.judge.specs.declared.Judged.TheVariants.{Insert, Replace}
use Rattle.judge.specs.declared.Plan.{Plan}
use Rattle.words.specs.declared.LowKey.{LowKey}

-- F pairs cut in front of the s-th, the new one being the i-th: how many stored ones stay left, whether the new one goes right, and its
-- slot in its half

abbrev pub cut_of : (i s : ℕ) → ℕ
cut_of i s = cond (ltb i s) (s - 1) s

abbrev pub right_of : (i s : ℕ) → Bool
right_of i s = leb s i

abbrev pub slot_of : (i s : ℕ) → ℕ
slot_of i s = cond (ltb i s) i (i - s)

-- L4's offset of the j-th leaf, once it holds F pairs
abbrev pub offset_at : (fanout : ℕ) → List Node → (j : ℕ) → ℕ
offset_at fanout ns j = split_offset fanout (leaf_at ns j).low (upper_of ns j)

-- a half of a split leaf: whether it is the right one, and the new pair's slot in it

abbrev pub right_half : Half → Bool
right_half (Left i) = false
right_half (Right i) = true

abbrev pub half_slot : Half → ℕ
half_slot (Left i) = i
half_slot (Right i) = i

-- the plan where the new key stands in the gap before a spot; the separator is L5's of all F pairs, whatever the new value
pub record PlanIs (fanout : ℕ) (k : Bytes) (ns : List Node) (t : Spot) (p : Plan) : Type 0 where
  pub leaf_is : p.leaf ≡ t.leaf
  pub cut_is : p.cut ≡ cut_of t.slot (offset_at fanout ns t.leaf)
  pub separator_is : (v : Bytes) → p.separator ≡ length (cut_key (offset_at fanout ns t.leaf) (put k v (leaf_at ns t.leaf).pairs))
  pub right_is : right_half p.half ≡ right_of t.slot (offset_at fanout ns t.leaf)
  pub slot_is : half_slot p.half ≡ slot_of t.slot (offset_at fanout ns t.leaf)

-- the model accepts the insert
abbrev pub Accepts : Header → (pool arena : ℕ) → Bytes → Bytes → (out : ℕ) → List Node → Type 0
Accepts h pool arena k v out ns =
    insert_answer h.fanout pool arena k v out ns ≡ accepted (record { old = lookup k (pairs_of ns); nodes = insert_rule h.fanout k v ns })

-- a pair replaced; one added to a leaf that stays below F pairs; one that makes F pairs

pub record Replaces (h : Header) (pool arena : ℕ) (k v : Bytes) (out : ℕ) (ns : List Node) (t : Spot) : Type 0 where
  pub accepts : Accepts h pool arena k v out ns
  pub spot : AtSpot k ns t

pub record Adds (h : Header) (pool arena : ℕ) (k v : Bytes) (out : ℕ) (ns : List Node) (t : Spot) : Type 0 where
  pub accepts : Accepts h pool arena k v out ns
  pub spot : InGap k ns t
  pub slack : suc (length (leaf_at ns t.leaf).pairs) < h.fanout

pub record Splits (h : Header) (pool arena : ℕ) (k v : Bytes) (out : ℕ) (ns : List Node) (p : Plan) : Type 0 where
  pub accepts : Accepts h pool arena k v out ns
  pub at_gap : Spot
  pub spot : InGap k ns at_gap
  pub full : suc (length (leaf_at ns at_gap.leaf).pairs) ≡ h.fanout
  pub plan : PlanIs h.fanout k ns at_gap p

abbrev pub Judges : Header → (dir slots arena : List ℕ) → (k v : Bytes) → (out : ℕ) → List Node → Result Judged Refusal → Type 0
Judges h dir slots arena k v out ns (Err x) = insert_answer h.fanout (length dir) (length arena) k v out ns ≡ refused x
Judges h dir slots arena k v out ns (Ok (Replace t)) = Replaces h (length dir) (length arena) k v out ns t
Judges h dir slots arena k v out ns (Ok (Insert (Slack t))) = Adds h (length dir) (length arena) k v out ns t
Judges h dir slots arena k v out ns (Ok (Insert (Full p))) = Splits h (length dir) (length arena) k v out ns p

-- what the functions under it ask and answer

-- L4 by the low key's length
abbrev pub offset_by : ℕ → (low : ℕ) → Option LowKey → ℕ
offset_by n zero upper = 1
offset_by n (suc low) None = n - 2
offset_by n (suc low) (Some u) = n / 2

pub record OffsetAsked (h : Header) (dir slots : List ℕ) (j : ℕ) : Type 0 where
  pub directed : Directed h dir slots
  pub leaf_in : j < h.leaves
  pub fanout_two : 2 ≤ h.fanout

-- a pair of the leaf that owns the key
pub record KeySpot (v : View) (k : Bytes) (t : Spot) : Type 0 where
  pub spot : SpotIn v.header v.dir.now v.slots.now v.arena.now t
  pub owns : t.leaf ≡ owner k (leaves_of v)

-- a pair with another behind it in its leaf
pub record BesideSpot (v : View) (t : Spot) : Type 0 where
  pub leaf_in : t.leaf < v.header.leaves
  pub next_in : suc t.slot < word_count (get_or v.dir.now t.leaf 0)

-- the equal leading bytes of the two keys at the cut in front of the s-th of F pairs, the new one being the i-th
abbrev pub key_in : List Pair → ℕ → Bytes
key_in m i = (get_or m i (pair [] [])).key

abbrev pub cut_common : Bytes → List Pair → (i s : ℕ) → ℕ
cut_common k m i s =
    cond (ltb (suc i) s) (common (key_in m (s - 2)) (key_in m (s - 1)))
    (cond (ltb s i) (common (key_in m (s - 1)) (key_in m s)) (common k (key_in m (s - 1))))

pub record CommonAsked (v : View) (k : Bytes) (t : Spot) (s : ℕ) : Type 0 where
  pub leaf_in : t.leaf < v.header.leaves
  pub owns : t.leaf ≡ owner k (leaves_of v)
  pub slot_upto : t.slot ≤ word_count (get_or v.dir.now t.leaf 0)
  pub cut_left : 0 < s
  pub cut_right : s ≤ word_count (get_or v.dir.now t.leaf 0)

-- a key in a gap of a leaf, which with it has F pairs
pub record GapAsked (v : View) (k : Bytes) (t : Spot) : Type 0 where
  pub gap_spot : InGap k (leaves_of v) t
  pub full : suc (word_count (get_or v.dir.now t.leaf 0)) ≡ v.header.fanout

abbrev pub old_judged : (charge room value out old : ℕ) → Spot → Result Judged Refusal
old_judged charge room value out old t =
    cond (ltb out old) (Err (ShortOutput old)) (cond (ltb room (charge - old + value)) (Err NoRoom) (Ok (Replace t)))

pub record NewAsked (v : View) (k w : Bytes) (t : Spot) : Type 0 where
  pub gap_spot : InGap k (leaves_of v) t
  pub key_short : length k ≤ key_limit
  pub value_short : length w ≤ value_limit

-- the answer on a view
abbrev pub JudgesOn : View → (k w : Bytes) → (out : ℕ) → Result Judged Refusal → Type 0
JudgesOn v k w out r = Judges v.header v.dir.now v.slots.now v.arena.now k w out (leaves_of v) r
