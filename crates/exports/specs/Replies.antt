-- What the exported calls return: an outcome of the entry point behind each, told in document 01's numbers.
use Rattle.std.proofs.Common.{Option, Result}
use Rattle.std.specs.Prelude.{suc, zero, ℕ, Bool, true, false, List, ◌≡◌, Some, None, Ok, Err}
use Rattle.std.proofs.Math.Option as math
use Rattle.std.proofs.Math.Option.{none, some}
use Rattle.changes.specs.Outcomes.{Lent}
use Rattle.changes.specs.declared.Changed.{Changed}
use Rattle.exports.specs.declared.Reply.{Reply}
use Rattle.exports.specs.declared.Told.{Told}
use Rattle.exports.specs.declared.reads.Place.{Place}
use Rattle.exports.specs.declared.reads.Shown.{Shown}
use Rattle.exports.specs.declared.scans.Scanned.{Scanned}
use Rattle.exports.specs.declared.scans.Span.{Span}
use Rattle.exports.specs.declared.writes.OldPart.{OldPart}
use Rattle.exports.specs.declared.writes.OldReply.{OldReply}
use Rattle.layout.specs.declared.Header.{Header}
use Rattle.model.specs.Answers.{length_of, number_of}
use Rattle.model.specs.declared.Bound.{Bound}
use Rattle.model.specs.declared.Bound.TheVariants.{Excluded, Included, Open}
use Rattle.model.specs.declared.Refusal.{Refusal}
use Rattle.order.specs.Bytes.{Bytes}
use Rattle.prefixes.specs.Outcome.{PrefixOutcome}
use Rattle.prefixes.specs.declared.Span as prefix
use Rattle.tree_create.specs.Outcomes.{ClearOutcome, CreateOutcome, LenOutcome}
use Rattle.tree_create.specs.declared.Answered.{Answered}
use Rattle.tree_get.specs.Outcomes.{ContainsOutcome, GetOutcome, LeafOutcome}
use Rattle.tree_get.specs.declared.Found.{Found}
use Rattle.tree_get.specs.declared.Shown as looked
use Rattle.tree_insert.specs.Outcomes.{InsertOutcome}
use Rattle.tree_range.specs.Outcomes.{FirstOutcome, GtOutcome, RangeOutcome}
use Rattle.tree_range.specs.declared.Seen.{Seen}
use Rattle.tree_remove.specs.Outcomes.{RemoveOutcome}
use Rattle.words.specs.declared.LowKey.{LowKey}

-- a refusal that returns nothing besides has length 0
abbrev pub or_zero : math.Option ℕ → ℕ
or_zero none = 0
or_zero (some n) = n

abbrev pub refusal_told : Refusal → Told
refusal_told x = record { refusal = number_of x; length = or_zero (length_of x) }

-- accepted is 0, which is no refusal's number
abbrev pub change_told : Result (Unit {0}) Refusal → Told
change_told (Ok u) = record { refusal = 0; length = 0 }
change_told (Err x) = refusal_told x

abbrev pub length_told : Result ℕ Refusal → Told
length_told (Ok n) = record { refusal = 0; length = n }
length_told (Err x) = refusal_told x

abbrev pub with_header : Told → Header → Reply
with_header t h = record { refusal = t.refusal; length = t.length; header = h }

abbrev pub reply_of : Answered → Reply
reply_of a = with_header (change_told a.answer) a.header

-- contains_key: the length is 1 where the key is held, 0 where not
abbrev pub contained_told : Result Bool Refusal → Told
contained_told (Ok true) = record { refusal = 0; length = 1 }
contained_told (Ok false) = record { refusal = 0; length = 0 }
contained_told (Err x) = refusal_told x

-- get: found is 1 or 0; where it is 0, the place and the length are too
abbrev pub no_place : (refusal : ℕ) → Place
no_place n = record { refusal = n; found = 0; offset = 0; length = 0 }

abbrev pub place_told : Result (Option Found) Refusal → Place
place_told (Ok (Some f)) = record { refusal = 0; found = 1; offset = f.at.0; length = f.length }
place_told (Ok None) = no_place 0
place_told (Err x) = no_place (number_of x)

-- leaf_at: found is 1 or 0; where it is 0, the rest is too, and where there is no upper key, its fields are
abbrev pub no_view : (refusal : ℕ) → Shown
no_view n =
    record {
      refusal = n;
      found = 0;
      low_offset = 0;
      low_length = 0;
      has_upper = 0;
      upper_offset = 0;
      upper_length = 0;
      prefix_length = 0;
      pairs = 0;
    }

abbrev pub upper_told : Option LowKey → looked.Shown → Shown
upper_told (Some k) v =
    record {
      refusal = 0;
      found = 1;
      low_offset = v.low.offset.0;
      low_length = v.low.length;
      has_upper = 1;
      upper_offset = k.offset.0;
      upper_length = k.length;
      prefix_length = v.prefix_length;
      pairs = v.pairs;
    }
upper_told None v =
    record {
      refusal = 0;
      found = 1;
      low_offset = v.low.offset.0;
      low_length = v.low.length;
      has_upper = 0;
      upper_offset = 0;
      upper_length = 0;
      prefix_length = v.prefix_length;
      pairs = v.pairs;
    }

abbrev pub shown_told : Result (Option looked.Shown) Refusal → Shown
shown_told (Ok (Some v)) = upper_told v.upper v
shown_told (Ok None) = no_view 0
shown_told (Err x) = no_view (number_of x)

-- scan_prefix: the bound kinds' numbers, and how many bytes of the end were written
abbrev pub bound_told : Bound → ℕ
bound_told Included = 0
bound_told Excluded = 1
bound_told Open = 2

abbrev pub span_made : (start end written : ℕ) → Span
span_made s e n = record { refusal = 0; length = 0; start = s; end = e; end_length = n }

abbrev pub no_span : Told → Span
no_span t = record { refusal = t.refusal; length = t.length; start = 0; end = 0; end_length = 0 }

abbrev pub span_told : Result prefix.Span Refusal → Span
span_told (Ok s) = span_made (bound_told s.range.start) (bound_told s.range.end) s.end
span_told (Err x) = no_span (refusal_told x)

-- the scanning calls: a bound kind's number read, from 2 on open
abbrev pub bound_read : ℕ → Bound
bound_read zero = Included
bound_read (suc zero) = Excluded
bound_read (suc (suc n)) = Open

-- found is 1 or 0; where it is 0, the rest is too
abbrev pub no_pair : Told → Scanned
no_pair t = record { refusal = t.refusal; length = t.length; found = 0; key = 0; offset = 0; value = 0 }

abbrev pub scan_told : Result (Option Seen) Refusal → Scanned
scan_told (Ok (Some x)) = record { refusal = 0; length = 0; found = 1; key = x.key; offset = x.place.0; value = x.value }
scan_told (Ok None) = no_pair (record { refusal = 0; length = 0 })
scan_told (Err x) = no_pair (refusal_told x)

-- the changing calls: found is 1 where there was an old value, and then the length is its length
abbrev pub no_old : Told → OldPart
no_old t = record { refusal = t.refusal; length = t.length; found = 0 }

abbrev pub old_told : Result (Option ℕ) Refusal → OldPart
old_told (Ok (Some n)) = record { refusal = 0; length = n; found = 1 }
old_told (Ok None) = no_old (record { refusal = 0; length = 0 })
old_told (Err x) = no_old (refusal_told x)

abbrev pub with_header_old : OldPart → Header → OldReply
with_header_old t h = record { refusal = t.refusal; length = t.length; found = t.found; header = h }

abbrev pub changed_told : Changed → OldReply
changed_told a = with_header_old (old_told a.old) a.header

-- r tells an answer that the entry point may give
pub record Tells {A R : Type 0} (tell : A → R) (Allowed : A → Type 0) (r : R) : Type 0 where
  pub answer : A
  pub allowed : Allowed answer
  pub told : r ≡ tell answer

abbrev pub CreateReply : (fanout : ℕ) (dir slots arena now_dir now_slots : List ℕ) → Reply → Type 0
CreateReply fanout dir slots arena now_dir now_slots r = Tells reply_of (CreateOutcome fanout dir slots arena now_dir now_slots) r

abbrev pub ClearReply : Header → (dir slots arena now_dir now_slots : List ℕ) → Reply → Type 0
ClearReply h dir slots arena now_dir now_slots r = Tells reply_of (ClearOutcome h dir slots arena now_dir now_slots) r

abbrev pub LenReply : Header → (dir slots arena : List ℕ) → Told → Type 0
LenReply h dir slots arena r = Tells length_told (LenOutcome h dir slots arena) r

abbrev pub ContainsReply : Header → (dir slots arena : List ℕ) → Bytes → Told → Type 0
ContainsReply h dir slots arena k r = Tells contained_told (ContainsOutcome h dir slots arena k) r

abbrev pub GetReply : Header → (dir slots arena : List ℕ) → Bytes → Place → Type 0
GetReply h dir slots arena k r = Tells place_told (GetOutcome h dir slots arena k) r

abbrev pub LeafReply : Header → (dir slots arena : List ℕ) → (place : ℕ) → Shown → Type 0
LeafReply h dir slots arena place r = Tells shown_told (LeafOutcome h dir slots arena place) r

abbrev pub PrefixReply : (prefix out now_out : Bytes) → Span → Type 0
PrefixReply prefix out now_out r = Tells span_told (PrefixOutcome prefix out now_out) r

abbrev pub RangeReply : Header → (dir slots arena : List ℕ) → (from to : ℕ) → (start end out now_out : Bytes) → Scanned → Type 0
RangeReply h dir slots arena from to s e out now_out r = Tells scan_told (RangeOutcome h dir slots arena (record { start = bound_read from; end = bound_read to }) s e out now_out) r

abbrev pub GtReply : Header → (dir slots arena : List ℕ) → (key out now_out : Bytes) → Scanned → Type 0
GtReply h dir slots arena k out now_out r = Tells scan_told (GtOutcome h dir slots arena k out now_out) r

abbrev pub FirstReply : Header → (dir slots arena : List ℕ) → (out now_out : Bytes) → Scanned → Type 0
FirstReply h dir slots arena out now_out r = Tells scan_told (FirstOutcome h dir slots arena out now_out) r

abbrev pub InsertReply : Header → (key value : Bytes) → (before after : Lent) → OldReply → Type 0
InsertReply h k v before after r = Tells changed_told (λ a. InsertOutcome h k v before a after) r

abbrev pub RemoveReply : Header → (key : Bytes) → (before after : Lent) → OldReply → Type 0
RemoveReply h k before after r = Tells changed_told (λ a. RemoveOutcome h k before a after) r
