-- How tight the contract is: any two outcomes allowed for one input coincide, answer and every byte of the output.
-- Assumes nothing.
use Rattle.std.proofs.Common.{◌∙◌, sym, Result}
use Rattle.std.specs.Prelude.{◌≡◌, length}
use Rattle.model.specs.Answers.{Answer, Scanned, accepted, prefix_answer, refused}
use Rattle.order.specs.Bytes.{Bytes}
use Rattle.prefixes.specs.Outcome.{PrefixBy, PrefixOutcome}
use Rattle.prefixes.specs.declared.Span.{Span}
use Rattle.model.specs.declared.Refusal.{Refusal}

-- two outcomes with what they leave
pub record Same (now_out : Bytes) (r : Result Span Refusal) (now_out' : Bytes) (q : Result Span Refusal) : Type 0 where
  pub answers : r ≡ q
  pub outs : now_out ≡ now_out'

by_same : (m : Answer Scanned) (out : Bytes) {o₁ o₂ : Bytes} {r q : Result Span Refusal} → PrefixBy m out o₁ r → PrefixBy m out o₂ q → Same o₁ r o₂ q
by_same (refused x) out a b = record { answers = a.answer_is ∙ sym b.answer_is; outs = a.out_is ∙ sym b.out_is }
by_same (accepted s) out a b = record { answers = a.answer_is ∙ sym b.answer_is; outs = a.out_is ∙ sym b.out_is }

pub prefix_coincides : (p out : Bytes) {o₁ o₂ : Bytes} {r q : Result Span Refusal} → PrefixOutcome p out o₁ r → PrefixOutcome p out o₂ q → Same o₁ r o₂ q
prefix_coincides p out a b = by_same (prefix_answer p (length out)) out a b
