-- A full leaf split as planned: what the functions ask, and what they leave. The leaf list left is again an index's: the stored pairs cut in
-- two, the separator as the right half's low key; the new pair is not in it yet.
use Rattle.std.specs.Prelude.{ℕ, ◌+◌, ◌^◌, ◌<◌, ◌≤◌, suc, cond, List, ◌∷◌, ◌++◌, ◌≡◌, drop, get_or, length, take}
use Rattle.directory.specs.Used.{lent}
use Rattle.judge.specs.Judges.{half_slot, right_half}
use Rattle.judge.specs.Planned.{Planned}
use Rattle.judge.specs.declared.Plan.{Plan}
use Rattle.layout.specs.Lays.{LaysAt, prefixes_of}
use Rattle.layout.specs.Presumed.{Inner, Presumed}
use Rattle.layout.specs.Steps.{CanStep}
use Rattle.layout.specs.declared.Header.{Header}
use Rattle.lists.specs.All.{All}
use Rattle.model.specs.Leaves.{Node, Spans}
use Rattle.model.specs.Limits.{key_limit, value_limit}
use Rattle.model.specs.Rules.{lowest_free}
use Rattle.model.specs.StoredCut.{cut_stored}
use Rattle.order.specs.Bytes.{Bytes}
use Rattle.route.specs.Routes.{leaf_at, prefix_at, upper_of}
use Rattle.slots.specs.Whole.{Apart}
use Rattle.spots.specs.declared.Spot.{Spot}

-- the leaf list with its j-th leaf's pairs cut in front of the i-th: those from there on are the leaf `free`'s, with the low key `low`
abbrev pub cut_at : (free : ℕ) (low : Bytes) (j i : ℕ) → List Node → List Node
cut_at free low j i ns = take j ns ++ (cut_stored free low i (leaf_at ns j) ++ drop (suc j) ns)

-- that of a plan (L5, L6), and where the new pair goes then
abbrev pub cut_nodes : (separator : Bytes) → Plan → List Node → List Node
cut_nodes separator p ns = cut_at (lowest_free ns) separator p.leaf p.cut ns

abbrev pub spot_of : Plan → Spot
spot_of p = record { leaf = cond (right_half p.half) (suc p.leaf) p.leaf; slot = half_slot p.half }

-- the plan of an accepted insert
pub record SplitAsked (h : Header) (pool arena : ℕ) (k v : Bytes) (p : Plan) (ns : List Node) : Type 0 where
  pub plan : Planned h pool arena k v ns p
  pub key_short : length k ≤ key_limit
  pub value_short : length v ≤ value_limit

pub record CanSplit (h : Header) (dir slots arena : List ℕ) (k : Bytes) (p : Plan) : Type 0 where
  pub value : Bytes
  pub step : CanStep h dir slots arena (SplitAsked h (length dir) (length arena) k value p)

pub record SplitLeaf (h : Header) (dir slots arena : List ℕ) (k : Bytes) (p : Plan) (r : Header) (now_dir now_slots now_arena : List ℕ) : Type 0 where
  pub fanout_is : r.fanout ≡ h.fanout
  pub same_dir : length now_dir ≡ length dir
  pub same_slots : length now_slots ≡ length slots
  pub same_arena : length now_arena ≡ length arena
  pub index : Inner h dir slots arena
      (λ ns. (v : Bytes) (a : SplitAsked h (length dir) (length arena) k v p ns) → Presumed r now_dir now_slots now_arena (cut_nodes a.plan.separator p ns))

-- the separator written to the front of a buffer that holds any key

pub record CanWriteSeparator (h : Header) (dir slots arena : List ℕ) (k : Bytes) (p : Plan) (out : List ℕ) : Type 0 where
  pub asked : CanSplit h dir slots arena k p
  pub holds_keys : key_limit ≤ length out

pub record SeparatorWritten (h : Header) (dir slots arena : List ℕ) (k : Bytes) (p : Plan) (out now_out : List ℕ) : Type 0 where
  pub same_out : length now_out ≡ length out
  pub bytes : Inner h dir slots arena (λ ns. (v : Bytes) (a : SplitAsked h (length dir) (length arena) k v p ns) → take p.separator now_out ≡ a.plan.separator)

-- the stored pairs cut, both halves still behind the prefix of the whole leaf

abbrev pub twice : (j : ℕ) (ps : List ℕ) → List ℕ
twice j ps = take j ps ++ (get_or ps j 0 ∷ get_or ps j 0 ∷ drop (suc j) ps)

pub record CutAsked (h : Header) (pool arena : ℕ) (j i free : ℕ) (low : Bytes) (ns : List Node) : Type 0 where
  pub leaf_in : j < length ns
  pub slot : i ≤ length (leaf_at ns j).pairs
  pub leaf_free : h.leaves < pool
  pub number_in : free < pool
  pub number_free : All (λ m. m.number ≡ free → ⊥) ns
  pub low_short : length low ≤ key_limit
  pub prefix_is : take (prefix_at ns j) low ≡ take (prefix_at ns j) (leaf_at ns j).low
  pub room : h.charge + length low ≤ arena

abbrev pub CanCutStored : Header → (dir slots arena : List ℕ) → (j i free : ℕ) → Bytes → Type 0
CanCutStored h dir slots arena j i free low = CanStep h dir slots arena (CutAsked h (length dir) (length arena) j i free low)

pub record CutStored (h : Header) (dir slots arena : List ℕ) (j i free : ℕ) (low : Bytes) (now_dir now_slots now_arena : List ℕ) : Type 0 where
  pub same_dir : length now_dir ≡ length dir
  pub same_slots : length now_slots ≡ length slots
  pub same_arena : length now_arena ≡ length arena
  pub laid : Inner h dir slots arena (λ ns. CutAsked h (length dir) (length arena) j i free low ns
      → LaysAt (lent h.fanout now_slots now_arena) (take (h.leaves + 1) now_dir) (twice j (prefixes_of ns)) (cut_at free low j i ns))

-- one half's keys shortened: the leaf list stays, its j-th leaf is behind L2's prefix now

pub record HalfAsked (h : Header) (dir slots arena : List ℕ) (j old : ℕ) (ps : List ℕ) (ns : List Node) : Type 0 where
  pub some_slot : 0 < h.fanout
  pub listed : h.leaves ≤ length dir
  pub arena_fits : length arena < 2 ^ 28
  pub lays : LaysAt (lent h.fanout slots arena) (take h.leaves dir) ps ns
  pub apart : Apart (lent h.fanout slots arena) (length dir) ns
  pub leaf_in : j < length ns
  pub old_is : get_or ps j 0 ≡ old
  pub longer : old ≤ prefix_at ns j
  pub spanned : All (λ x. Spans (leaf_at ns j).low (upper_of ns j) x.key) (leaf_at ns j).pairs

pub record CanShortenHalf (h : Header) (dir slots arena : List ℕ) (j old : ℕ) : Type 0 where
  pub ps : List ℕ
  pub ns : List Node
  pub asked : HalfAsked h dir slots arena j old ps ns

pub record ShortenedHalf (h : Header) (dir slots arena : List ℕ) (j old : ℕ) (now_slots : List ℕ) : Type 0 where
  pub same_slots : length now_slots ≡ length slots
  pub laid : {ps : List ℕ} {ns : List Node} → HalfAsked h dir slots arena j old ps ns
      → LaysAt (lent h.fanout now_slots arena) (take h.leaves dir) (take j ps ++ (prefix_at ns j ∷ drop (suc j) ps)) ns
