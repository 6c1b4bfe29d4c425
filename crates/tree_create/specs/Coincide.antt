-- How tight the contracts are: any two outcomes allowed for one input coincide, answer, header and every lent word.
-- Assumes nothing.
use Rattle.std.specs.Prelude.{ℕ, List, ◌≡◌, length}
use Rattle.std.proofs.Common.{◌∙◌, sym, Result}
use Rattle.layout.proofs.Examples.{fresh_good}
use Rattle.layout.specs.Examples.{header}
use Rattle.layout.specs.Lays.{W}
use Rattle.model.specs.Rules.{fresh}
use Rattle.layout.specs.declared.Header.{Header}
use Rattle.model.specs.Answers.{Answer, accepted, clear_answer, create_answer, refused}
use Rattle.model.specs.Leaves.{Node}
use Rattle.model.specs.declared.Refusal.{Refusal}
use Rattle.tree_create.specs.Outcomes.{ClearOutcome, CreateOutcome, FreshBy, Freshened, LenOutcome, Untouched}
use Rattle.tree_create.specs.declared.Answered.{Answered}
use Rattle.tree_read.specs.Decided.{dec_w}

-- two outcomes with what they leave
pub record Same (dir slots : List ℕ) (r : Answered) (dir' slots' : List ℕ) (q : Answered) : Type 0 where
  pub answers : r ≡ q
  pub dirs : dir ≡ dir'
  pub slots_words : slots ≡ slots'

answered_path : (r q : Answered) → r.header ≡ q.header → r.answer ≡ q.answer → r ≡ q
answered_path r q h a = λ i. record { header = h i; answer = a i }

module _ (dir slots : List ℕ) {d₁ s₁ d₂ s₂ : List ℕ} {r q : Answered} where
  untouched_same : {x : Refusal} {h : Header} → Untouched x h dir slots d₁ s₁ r → Untouched x h dir slots d₂ s₂ q → Same d₁ s₁ r d₂ s₂ q
  untouched_same a b = record {
    answers = answered_path r q (a.header_is ∙ sym b.header_is) (a.answer_is ∙ sym b.answer_is);
    dirs = a.dir_is ∙ sym b.dir_is;
    slots_words = a.slots_are ∙ sym b.slots_are;
  }

  fresh_same : {fanout : ℕ} {arena : List ℕ} {ns : List Node} → Freshened fanout dir slots arena d₁ s₁ ns r → Freshened fanout dir slots arena d₂ s₂ ns q → Same d₁ s₁ r d₂ s₂ q
  fresh_same a b = record {
    answers = answered_path r q (a.fresh.header_is ∙ sym b.fresh.header_is) (a.answer_is ∙ sym b.answer_is);
    dirs = a.fresh.dir_is ∙ sym b.fresh.dir_is;
    slots_words = a.fresh.slots_are ∙ sym b.fresh.slots_are;
  }

  by_same : (m : Answer (List Node)) (fanout : ℕ) (h : Header) (arena : List ℕ) → FreshBy m fanout h dir slots arena d₁ s₁ r → FreshBy m fanout h dir slots arena d₂ s₂ q → Same d₁ s₁ r d₂ s₂ q
  by_same (refused x) fanout h arena a b = untouched_same a b
  by_same (accepted ns) fanout h arena a b = fresh_same a b

pub create_coincides : (fanout : ℕ) (dir slots arena : List ℕ) {d₁ s₁ d₂ s₂ : List ℕ} {r q : Answered}
    → CreateOutcome fanout dir slots arena d₁ s₁ r → CreateOutcome fanout dir slots arena d₂ s₂ q → Same d₁ s₁ r d₂ s₂ q
create_coincides fanout dir slots arena a b = by_same dir slots (create_answer fanout (length dir) (length slots) (length arena)) fanout (header 0 0 0 0) arena a b

pub clear_coincides : (h : Header) (dir slots arena : List ℕ) {d₁ s₁ d₂ s₂ : List ℕ} {r q : Answered}
    → ClearOutcome h dir slots arena d₁ s₁ r → ClearOutcome h dir slots arena d₂ s₂ q → Same d₁ s₁ r d₂ s₂ q
clear_coincides h dir slots arena a b =
    elim (dec_w h dir slots arena) [
      | yes w ↦ by_same dir slots (clear_answer w.nodes) h.fanout h arena (a.held w) (b.held w)
      | no n ↦ untouched_same dir slots (a.damaged n) (b.damaged n)
    ]

pub len_coincides : (h : Header) (dir slots arena : List ℕ) {r q : Result ℕ Refusal} → LenOutcome h dir slots arena r → LenOutcome h dir slots arena q → r ≡ q
len_coincides h dir slots arena a b =
    elim (dec_w h dir slots arena) [
      | yes w ↦ (a.held w).answer_is ∙ sym (b.held w).answer_is
      | no n ↦ (a.damaged n).answer_is ∙ sym (b.damaged n).answer_is
    ]

-- creation and `clear` leave an index
pub freshened_w : {fanout : ℕ} {dir slots arena d s : List ℕ} {r : Answered} → Freshened fanout dir slots arena d s fresh r → W r.header d s arena
freshened_w {arena = arena} {d = d} {s = s} {r = r} x = record { nodes = fresh; holds = x.holds; good = fresh_good r.header.fanout (length d) (length s) (length arena) x.holds.sizes }
