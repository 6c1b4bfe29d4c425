-- The place that `get` gives holds the map's value: what `get_value` hands back. And what `contains_key` makes of `get`'s answer.
-- Assumes nothing.
use Rattle.std.specs.Prelude.{Bool, Err, List, None, Ok, Some, is_some, [], drop, length, refl, take, ℕ, ◌+◌, ◌-◌, ◌≡◌, ◌≤◌}
use Rattle.std.proofs.Math.Option as math
use Rattle.std.proofs.Math.Option.{none, some}
use Rattle.std.proofs.Common.{Option, Result, arith, subst, sym, ap, ◌∙◌}
use Rattle.layout.specs.Lays.{W}
use Rattle.layout.specs.Places.{place_of}
use Rattle.layout.specs.Presumed.{w_presumed}
use Rattle.layout.specs.declared.Header.{Header}
use Rattle.lists.specs.Part.{part}
use Rattle.model.proofs.ToldLaws.{code_told}
use Rattle.model.specs.Answers as model
use Rattle.model.specs.Answers.{Answer, accepted, contains_answer, get_answer, long_key, refused, result_code, told}
use Rattle.model.specs.LeafViews.{fails, holds, truth}
use Rattle.model.specs.Leaves.{Node, pairs_of}
use Rattle.model.specs.Map.{lookup}
use Rattle.model.specs.Place.{place}
use Rattle.model.specs.declared.Refusal.{Refusal}
use Rattle.order.specs.Bytes.{Bytes}
use Rattle.route.specs.Lookups.{Lies, value_lies}
use Rattle.tree_get.specs.Outcomes.{ContainsOutcome, GetOutcome, ValueOutcome, found, value_told}
use Rattle.tree_get.specs.declared.Found.{Found}
use Rattle.tree_read.specs.Decided.{dec_w}

-- `get_value`, by the cases of `get`'s answer

-- the place and length told of an answer, and whether a value lies there
abbrev Told : (arena : List ℕ) → Answer (math.Option Bytes) → Result (Option Found) Refusal → Type 0
Told arena a (Ok (Some f)) = (f.at.0 + f.length ≤ length arena) × (part arena f.at.0 f.length ≡ value_told a)
Told arena a (Ok None) = [] ≡ value_told a
Told arena a (Err r) = [] ≡ value_told a

told_value : (arena : List ℕ) (place : ℕ) (a : Answer (math.Option Bytes)) → ((v : Bytes) → a ≡ accepted (some v) → Lies arena place v) → Told arena a (told (found place) a)
told_value arena place (refused r) f = refl
told_value arena place (accepted none) f = refl
told_value arena place (accepted (some v)) f =
    let l = f v refl in
    (l.inside, l.is)

accepted_lookup : (k v : Bytes) (ns : List Node) → get_answer k ns ≡ accepted (some v) → lookup k (pairs_of ns) ≡ some v
accepted_lookup k v ns e =
    elim (truth (long_key k)) [
      | holds t ↦ refused_accepted (sym (rw t at e))
      | fails t ↦ accepted_same (rw t at e)
    ]
  where
    refused_accepted : {B : Type 0} {r : Refusal} {o : math.Option Bytes} → accepted o ≡ refused r → B
    refused_accepted e = absurd (let z : ◌≡◌ {A = ℕ} 0 1 = ap (λ (a : Answer (math.Option Bytes)). elim a [ refused r ↦ 1 | accepted o ↦ 0 ]) e in omega (arith, z))

    accepted_same : {o q : math.Option Bytes} → accepted o ≡ accepted q → o ≡ q
    accepted_same {o} e = ap (λ (a : Answer (math.Option Bytes)). elim a [ refused r ↦ o | accepted q ↦ q ]) e

module _ {h : Header} {dir slots arena : List ℕ} (k : Bytes) {r : Result (Option Found) Refusal} (g : GetOutcome h dir slots arena k r) where
  get_told : (w : W h dir slots arena) → Told arena (get_answer k w.nodes) r
  get_told w =
      rw (g.held w).answer_is
      (told_value arena (place_of h dir slots arena w.nodes k) (get_answer k w.nodes) (λ v e. value_lies (w_presumed w) k v (accepted_lookup k v w.nodes e)))

  at_not_damaged : {f : Found} → r ≡ Ok (Some f) → W h dir slots arena
  at_not_damaged e =
      elim (dec_w h dir slots arena) [
        | yes w ↦ w
        | no m ↦ cc ((g.damaged m).answer_is, e)
      ]

  pub value_inside : {f : Found} → r ≡ Ok (Some f) → f.at.0 + f.length ≤ length arena
  value_inside e =
      let w = at_not_damaged e in
      (subst (Told arena (get_answer k w.nodes)) e (get_told w)).0

  -- (the parts as `&arena[from..end]` and `&arena[0..0]` give them)

  pub value_at : {f : Found} → r ≡ Ok (Some f) → ValueOutcome h dir slots arena k (take (f.at.0 + f.length - f.at.0) (drop f.at.0 arena))
  value_at {f} e =
      let l : f.at.0 + f.length - f.at.0 ≡ f.length = omega arith in
      record {
        damaged = λ m. absurd (m (at_not_damaged e));
        held = λ w. rw l (subst (Told arena (get_answer k w.nodes)) e (get_told w)).1;
      }

  pub value_none : r ≡ Ok None → ValueOutcome h dir slots arena k (take (0 - 0) (drop 0 arena))
  value_none e = record { damaged = λ m. refl; held = λ w. subst (Told arena (get_answer k w.nodes)) e (get_told w) }

  pub value_refused : {x : Refusal} → r ≡ Err x → ValueOutcome h dir slots arena k (take (0 - 0) (drop 0 arena))
  value_refused e = record { damaged = λ m. refl; held = λ w. subst (Told arena (get_answer k w.nodes)) e (get_told w) }

-- `contains_key`

abbrev pub contained_of : Result (Option Found) Refusal → Result Bool Refusal
contained_of (Ok o) = Ok (is_some o)
contained_of (Err r) = Err r

contained_told_lem : (place : ℕ) (k : Bytes) (ns : List Node) → contained_of (told (found place) (get_answer k ns)) ≡ told (λ b. b) (contains_answer k ns)
contained_told_lem place k ns =
    elim (truth (long_key k)) [
      | holds t ↦ rw t
      | fails t ↦ rw t (some_told (lookup k (pairs_of ns)))
    ]
  where
    some_told : (o : math.Option Bytes) → contained_of (told (found place) (accepted o)) ≡ told (λ b. b) (accepted (model.is_some o))
    some_told none = refl
    some_told (some v) = refl

pub contains_by : {h : Header} {dir slots arena : List ℕ} (k : Bytes) {f : Result (Option Found) Refusal} {r : Result Bool Refusal}
    → GetOutcome h dir slots arena k f → r ≡ contained_of f → ContainsOutcome h dir slots arena k r
contains_by {h} {dir} {slots} {arena} k g e = record {
  damaged = λ n.
      let q = e ∙ ap contained_of (g.damaged n).answer_is in
      record { answer_is = q; code_is = ap result_code q };
  held = λ w.
      let q = e ∙ ap contained_of (g.held w).answer_is ∙ contained_told_lem (place_of h dir slots arena w.nodes k) k w.nodes in
      record { answer_is = q; code_is = ap result_code q ∙ code_told (λ b. b) (contains_answer k w.nodes) };
}
