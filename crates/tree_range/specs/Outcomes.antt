-- What the scanning calls answer and write: the model's answer, told in the calls' own types.
use Rattle.std.specs.Prelude.{ℕ, List, [], ◌≡◌, length, None, Some, Ok, Err}
use Rattle.std.proofs.Common.{Option, Result}
use Rattle.std.proofs.Math.Option as math
use Rattle.std.proofs.Math.Option.{none, some}
use Rattle.layout.specs.Entry.{Entry}
use Rattle.layout.specs.Pieces.{InList, pair_in}
use Rattle.layout.specs.Places.{place_of}
use Rattle.layout.specs.Viewed.{leaves_of}
use Rattle.layout.specs.declared.Header.{Header}
use Rattle.layout.specs.declared.lent.View.{View}
use Rattle.lists.specs.Part.{put}
use Rattle.model.specs.Answers.{Answer, accepted, answer_code, code_of, first_answer, get_gt_answer, key_written, range_answer, range_found, refused, result_code, told}
use Rattle.model.specs.Leaves.{Node}
use Rattle.model.specs.Map.{Pair}
use Rattle.model.specs.declared.Range.{Range}
use Rattle.model.specs.declared.Refusal.{Refusal}
use Rattle.model.specs.declared.Refusal.TheVariants.{Damaged}
use Rattle.order.specs.Bytes.{Bytes}
use Rattle.spots.specs.declared.Spot.{Spot}
use Rattle.tree_range.specs.declared.Seen.{Seen}

-- a pair: the key's length, and the value's place and length; or the end
abbrev pub seen : (place : Bytes → ℕ) → math.Option Pair → Option Seen
seen place none = None
seen place (some p) = Some (record { key = length p.key; place = record { 0 = place p.key }; value = length p.value })

-- what is written at the output's front: the key of a pair that is given, else nothing
abbrev pub key_told : Answer (math.Option Pair) → Bytes
key_told (refused x) = []
key_told (accepted none) = []
key_told (accepted (some p)) = p.key

-- answer and output, of which every byte behind what is written stays
pub record Scans (h : Header) (dir slots arena : List ℕ) (ns : List Node) (a : Answer (math.Option Pair)) (out now_out : Bytes) (r : Result (Option Seen) Refusal) : Type 0 where
  pub answer_is : r ≡ told (seen (place_of h dir slots arena ns)) a
  pub code_is : result_code r ≡ answer_code a
  pub out_is : now_out ≡ put out 0 (key_told a)

pub record Untouched (out now_out : Bytes) (r : Result (Option Seen) Refusal) : Type 0 where
  pub answer_is : r ≡ Err Damaged
  pub code_is : result_code r ≡ code_of Damaged
  pub out_is : now_out ≡ out

abbrev pub RangeOutcome : Header → (dir slots arena : List ℕ) → Range → (start end out now_out : Bytes) → Result (Option Seen) Refusal → Type 0
RangeOutcome h dir slots arena range s e out now_out r =
    Entry h dir slots arena (Untouched out now_out r) (λ ns. Scans h dir slots arena ns (range_answer range s e (length out) ns) out now_out r)

abbrev pub GtOutcome : Header → (dir slots arena : List ℕ) → (key out now_out : Bytes) → Result (Option Seen) Refusal → Type 0
GtOutcome h dir slots arena k out now_out r =
    Entry h dir slots arena (Untouched out now_out r) (λ ns. Scans h dir slots arena ns (get_gt_answer k (length out) ns) out now_out r)

abbrev pub FirstOutcome : Header → (dir slots arena : List ℕ) → (out now_out : Bytes) → Result (Option Seen) Refusal → Type 0
FirstOutcome h dir slots arena out now_out r =
    Entry h dir slots arena (Untouched out now_out r) (λ ns. Scans h dir slots arena ns (first_answer (length out) ns) out now_out r)

-- range_value: the pair's value, empty at the end or on a refusal; it writes nothing, so it is never refused as 5

abbrev pub value_told : Answer (math.Option Pair) → Bytes
value_told (refused x) = []
value_told (accepted none) = []
value_told (accepted (some p)) = p.value

abbrev pub RangeValueOutcome : Header → (dir slots arena : List ℕ) → Range → (start end value : Bytes) → Type 0
RangeValueOutcome h dir slots arena range s e v = Entry h dir slots arena (v ≡ []) (λ ns. v ≡ value_told (range_found range s e ns))

-- the functions under them

-- the pair is at the spot
pub record Struck (ns : List Node) (p : Pair) (r : Result (Option Spot) Refusal) : Type 0 where
  pub spot : Spot
  pub answer_is : r ≡ Ok (Some spot)
  pub in_list : InList ns spot.leaf spot.slot
  pub pair_is : pair_in ns spot.leaf spot.slot ≡ p

abbrev pub HitBy : List Node → Answer (math.Option Pair) → Result (Option Spot) Refusal → Type 0
HitBy ns (refused x) r = r ≡ Err x
HitBy ns (accepted none) r = r ≡ Ok None
HitBy ns (accepted (some p)) r = Struck ns p r

pub record Hits (ns : List Node) (a : Answer (math.Option Pair)) (r : Result (Option Spot) Refusal) : Type 0 where
  pub hit : HitBy ns a r

abbrev pub FoundInner : View → Range → (start end : Bytes) → Result (Option Spot) Refusal → Type 0
FoundInner v range s e r = Hits (leaves_of v) (range_found range s e (leaves_of v)) r

-- an answer for a leaf list that the view holds
abbrev pub ScansIn : View → Answer (math.Option Pair) → (out now_out : Bytes) → Result (Option Seen) Refusal → Type 0
ScansIn v a out now_out r = Scans v.header v.dir.now v.slots.now v.arena.now (leaves_of v) a out now_out r

-- a pair that is there is shown or refused
abbrev pub shown : Result Seen Refusal → Result (Option Seen) Refusal
shown (Ok x) = Ok (Some x)
shown (Err y) = Err y

abbrev pub ShowInner : View → Spot → (out now_out : Bytes) → Result Seen Refusal → Type 0
ShowInner v t out now_out r = ScansIn v (key_written (length out) (accepted (some (pair_in (leaves_of v) t.leaf t.slot)))) out now_out (shown r)

abbrev pub RangeInner : View → Range → (start end out now_out : Bytes) → Result (Option Seen) Refusal → Type 0
RangeInner v range s e out now_out r = ScansIn v (range_answer range s e (length out) (leaves_of v)) out now_out r

-- the value of the pair at a spot
abbrev pub ValueInner : View → Spot → Bytes → Type 0
ValueInner v t value = value ≡ (pair_in (leaves_of v) t.leaf t.slot).value

abbrev pub RangeValueInner : View → Range → (start end value : Bytes) → Type 0
RangeValueInner v range s e value = value ≡ value_told (range_found range s e (leaves_of v))
