-- How tight the contracts are: any two outcomes allowed for one input coincide, with the places of a value and of the keys.
-- Assumes nothing.
use Rattle.std.specs.Prelude.{Bool, List, None, Ok, Some, refl, ℕ, ◌≡◌}
use Rattle.std.proofs.Math.Option as math
use Rattle.std.proofs.Math.Option.{none, some}
use Rattle.std.proofs.Common.{Option, Result, ap, sym, ◌∙◌}
use Rattle.layout.specs.Entry.{Entry}
use Rattle.layout.specs.declared.Header.{Header}
use Rattle.model.specs.Answers.{Code, Gives, leaf_at}
use Rattle.model.specs.Answers as model
use Rattle.model.specs.Leaves.{Node}
use Rattle.model.specs.declared.Refusal.{Refusal}
use Rattle.order.specs.Bytes.{Bytes}
use Rattle.tree_get.specs.Outcomes.{ContainsOutcome, GetOutcome, LeafOutcome, ShownBy, Views, ValueOutcome}
use Rattle.tree_get.specs.declared.Found.{Found}
use Rattle.tree_get.specs.declared.Shown.{Shown}
use Rattle.tree_read.specs.Decided.{dec_w}

module _ (h : Header) (dir slots arena : List ℕ) where
  -- an entry point whose answer is a function of the leaf list has one answer
  one_answer : {R : Type 0} {refusal : R} {answer : List Node → R} {r q : R}
      → Entry h dir slots arena (r ≡ refusal) (λ ns. r ≡ answer ns) → Entry h dir slots arena (q ≡ refusal) (λ ns. q ≡ answer ns) → r ≡ q
  one_answer a b =
      elim (dec_w h dir slots arena) [
        | yes w ↦ a.held w ∙ sym (b.held w)
        | no n ↦ a.damaged n ∙ sym (b.damaged n)
      ]

  given_answer : {R : Type 0} {code_in : R → Code} {refusal : R} {code : Code} {answer : List Node → R} {codes : List Node → Code} {r q : R}
      → Entry h dir slots arena (Gives code_in refusal code r) (λ ns. Gives code_in (answer ns) (codes ns) r)
      → Entry h dir slots arena (Gives code_in refusal code q) (λ ns. Gives code_in (answer ns) (codes ns) q) → r ≡ q
  given_answer a b =
      elim (dec_w h dir slots arena) [
        | yes w ↦ (a.held w).answer_is ∙ sym (b.held w).answer_is
        | no n ↦ (a.damaged n).answer_is ∙ sym (b.damaged n).answer_is
      ]

  pub get_coincides : (k : Bytes) {r q : Result (Option Found) Refusal} → GetOutcome h dir slots arena k r → GetOutcome h dir slots arena k q → r ≡ q
  get_coincides k a b = given_answer a b

  pub contains_coincides : (k : Bytes) {r q : Result Bool Refusal} → ContainsOutcome h dir slots arena k r → ContainsOutcome h dir slots arena k q → r ≡ q
  contains_coincides k a b = given_answer a b

  pub value_coincides : (k : Bytes) {v u : Bytes} → ValueOutcome h dir slots arena k v → ValueOutcome h dir slots arena k u → v ≡ u
  value_coincides k a b = one_answer a b

view_path : (v u : Shown) → v.low ≡ u.low → v.upper ≡ u.upper → v.prefix_length ≡ u.prefix_length → v.pairs ≡ u.pairs → v ≡ u
view_path v u l t p n = λ i. record { low = l i; upper = t i; prefix_length = p i; pairs = n i }

module _ (h : Header) (dir slots arena : List ℕ) (j : ℕ) where
  views_same : {s : model.Shown} (v u : Shown) → Views h dir slots arena j s v → Views h dir slots arena j s u → v ≡ u
  views_same v u a b =
      view_path v u (a.low_stands ∙ sym b.low_stands) (a.upper_stands ∙ sym b.upper_stands) (a.prefix_is ∙ sym b.prefix_is) (a.pairs_are ∙ sym b.pairs_are)

  shown_same : (m : math.Option model.Shown) (o q : Option Shown) → ShownBy h dir slots arena j m o → ShownBy h dir slots arena j m q → o ≡ q
  shown_same none None None a b = refl
  shown_same (some s) (Some v) (Some u) a b = ap Some (views_same v u a b)
  shown_same none None (Some u) a b = absurd b
  shown_same none (Some v) q a b = absurd a
  shown_same (some s) None q a b = absurd a
  shown_same (some s) (Some v) None a b = absurd b

  pub leaf_coincides : {r q : Result (Option Shown) Refusal} → LeafOutcome h dir slots arena j r → LeafOutcome h dir slots arena j q → r ≡ q
  leaf_coincides a b =
      elim (dec_w h dir slots arena) [
        | yes w ↦ (a.held w).answer_is ∙ ap Ok (shown_same (leaf_at j w.nodes) _ _ (a.held w).shows (b.held w).shows) ∙ sym (b.held w).answer_is
        | no n ↦ (a.damaged n).answer_is ∙ sym (b.damaged n).answer_is
      ]
