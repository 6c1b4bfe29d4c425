-- How tight the contracts are: any two outcomes allowed for one input coincide, answer and every byte of the output. And the key beside an
-- open bound plays no part.
-- Assumes nothing.
use Rattle.std.specs.Prelude.{ℕ, List, [], ◌≡◌, length}
use Rattle.std.proofs.Math.Option.{Option}
use Rattle.std.proofs.Common as rust
use Rattle.std.proofs.Common.{Result, ◌∙◌, ap, subst, sym}
use Rattle.layout.specs.Entry.{Entry}
use Rattle.layout.specs.declared.Header.{Header}
use Rattle.model.specs.Answers.{Answer, first_answer, get_gt_answer, range_answer, range_found}
use Rattle.model.specs.Leaves.{Node}
use Rattle.model.specs.Map.{Pair}
use Rattle.model.proofs.ScanLaws.{found_open_end, found_open_start, range_open_end, range_open_start}
use Rattle.model.specs.declared.Bound.TheVariants.{Open}
use Rattle.model.specs.declared.Range.{Range}
use Rattle.order.specs.Bytes.{Bytes}
use Rattle.tree_range.specs.Outcomes.{FirstOutcome, GtOutcome, RangeOutcome, RangeValueOutcome, Scans, Untouched, value_told}
use Rattle.model.specs.declared.Refusal.{Refusal}
use Rattle.tree_range.specs.declared.Seen.{Seen}
use Rattle.tree_read.specs.Decided.{dec_w}

module _ (h : Header) (dir slots arena : List ℕ) where
  -- by the model's answer, whichever call it is of
  same : (answer : List Node → Answer (Option Pair)) (out : Bytes) {out₁ out₂ : Bytes} {r q : Result (rust.Option Seen) Refusal}
      → Entry h dir slots arena (Untouched out out₁ r) (λ ns. Scans h dir slots arena ns (answer ns) out out₁ r)
      → Entry h dir slots arena (Untouched out out₂ q) (λ ns. Scans h dir slots arena ns (answer ns) out out₂ q) → (r ≡ q) × (out₁ ≡ out₂)
  same answer out a b =
      elim (dec_w h dir slots arena) [
        | yes w ↦ ((a.held w).answer_is ∙ sym (b.held w).answer_is, (a.held w).out_is ∙ sym (b.held w).out_is)
        | no n ↦ ((a.damaged n).answer_is ∙ sym (b.damaged n).answer_is, (a.damaged n).out_is ∙ sym (b.damaged n).out_is)
      ]

  pub range_coincides : (range : Range) (s e out : Bytes) {out₁ out₂ : Bytes} {r q : Result (rust.Option Seen) Refusal}
      → RangeOutcome h dir slots arena range s e out out₁ r → RangeOutcome h dir slots arena range s e out out₂ q → (r ≡ q) × (out₁ ≡ out₂)
  range_coincides range s e out a b = same (range_answer range s e (length out)) out a b

  pub gt_coincides : (k out : Bytes) {out₁ out₂ : Bytes} {r q : Result (rust.Option Seen) Refusal}
      → GtOutcome h dir slots arena k out out₁ r → GtOutcome h dir slots arena k out out₂ q → (r ≡ q) × (out₁ ≡ out₂)
  gt_coincides k out a b = same (get_gt_answer k (length out)) out a b

  pub first_coincides : (out : Bytes) {out₁ out₂ : Bytes} {r q : Result (rust.Option Seen) Refusal}
      → FirstOutcome h dir slots arena out out₁ r → FirstOutcome h dir slots arena out out₂ q → (r ≡ q) × (out₁ ≡ out₂)
  first_coincides out a b = same (first_answer (length out)) out a b

  pub range_value_coincides : (range : Range) (s e : Bytes) {v u : Bytes}
      → RangeValueOutcome h dir slots arena range s e v → RangeValueOutcome h dir slots arena range s e u → v ≡ u
  range_value_coincides range s e a b =
      elim (dec_w h dir slots arena) [
        | yes w ↦ a.held w ∙ sym (b.held w)
        | no n ↦ a.damaged n ∙ sym (b.damaged n)
      ]

  -- an outcome for one key beside an open bound is one for any other

  module _ (range : Range) {out now_out : Bytes} {r : Result (rust.Option Seen) Refusal} where
    scans_as : (a b : List Node → Answer (Option Pair)) → ((ns : List Node) → a ns ≡ b ns)
        → Entry h dir slots arena (Untouched out now_out r) (λ ns. Scans h dir slots arena ns (a ns) out now_out r)
        → Entry h dir slots arena (Untouched out now_out r) (λ ns. Scans h dir slots arena ns (b ns) out now_out r)
    scans_as a b f o = record {
      damaged = o.damaged;
      held = λ w. subst (λ (x : Answer (Option Pair)). Scans h dir slots arena w.nodes x out now_out r) (f w.nodes) (o.held w);
    }

    pub start_unread : (s s' e : Bytes) → range.start ≡ Open → RangeOutcome h dir slots arena range s e out now_out r → RangeOutcome h dir slots arena range s' e out now_out r
    start_unread s s' e q o = scans_as (range_answer range s e (length out)) (range_answer range s' e (length out)) (λ ns. range_open_start range s s' e (length out) ns q) o

    pub end_unread : (s e e' : Bytes) → range.end ≡ Open → RangeOutcome h dir slots arena range s e out now_out r → RangeOutcome h dir slots arena range s e' out now_out r
    end_unread s e e' q o = scans_as (range_answer range s e (length out)) (range_answer range s e' (length out)) (λ ns. range_open_end range s e e' (length out) ns q) o

  module _ (range : Range) {v : Bytes} where
    value_as : (a b : List Node → Answer (Option Pair)) → ((ns : List Node) → a ns ≡ b ns)
        → Entry h dir slots arena (v ≡ []) (λ ns. v ≡ value_told (a ns)) → Entry h dir slots arena (v ≡ []) (λ ns. v ≡ value_told (b ns))
    value_as a b f o = record { damaged = o.damaged; held = λ w. o.held w ∙ ap value_told (f w.nodes) }

    pub value_start_unread : (s s' e : Bytes) → range.start ≡ Open → RangeValueOutcome h dir slots arena range s e v → RangeValueOutcome h dir slots arena range s' e v
    value_start_unread s s' e q o = value_as (range_found range s e) (range_found range s' e) (λ ns. found_open_start range s s' e ns q) o

    pub value_end_unread : (s e e' : Bytes) → range.end ≡ Open → RangeValueOutcome h dir slots arena range s e v → RangeValueOutcome h dir slots arena range s e' v
    value_end_unread s e e' q o = value_as (range_found range s e) (range_found range s e') (λ ns. found_open_end range s e e' ns q) o
