-- How tight the entries are: any two outcomes allowed for one input coincide, and so do the headers that they leave in place, but for what
-- docs/EXCEPTIONS.md leaves open.
-- Assumes nothing.
use Rattle.std.proofs.Common.{Option, Result}
use Rattle.std.specs.Prelude.{List, ◌≡◌, ℕ}
use Rattle.std.proofs.Math.Option.{none}
use Rattle.changes.specs.Coincide.{Same}
use Rattle.changes.specs.Outcomes.{Lent}
use Rattle.changes.specs.declared.Changed.{Changed}
use Rattle.layout.specs.Lays.{W}
use Rattle.layout.specs.declared.Header.{Header}
use Rattle.model.specs.Leaves.{pairs_of}
use Rattle.model.specs.Map.{lookup}
use Rattle.model.specs.declared.Refusal.{Refusal}
use Rattle.order.specs.Bytes.{Bytes}
use Rattle.tree_create.specs.Coincide as fresh
use Rattle.tree_create.specs.Outcomes.{ClearOutcome}
use Rattle.tree_create.specs.declared.Answered.{Answered}
use Rattle.tree_insert.specs.Coincide as inserts
use Rattle.tree_insert.specs.Outcomes.{InsertOutcome}
use Rattle.tree_remove.specs.Coincide as removes
use Rattle.tree_remove.specs.Outcomes.{RemoveOutcome}

-- the header at exit and the answer, as the call by value hands them back
abbrev pub changed : Header → Result (Option ℕ) Refusal → Changed
changed g a = record { header = g; old = a }

abbrev pub answered : Header → Result (Unit {0}) Refusal → Answered
answered g a = record { header = g; answer = a }

pub insert_coincides : (h : Header) (k v : Bytes) (before : Lent) {g f : Header} {a b : Result (Option ℕ) Refusal} {l m : Lent}
    → InsertOutcome h k v before (changed g a) l → InsertOutcome h k v before (changed f b) m → Same (changed g a) l (changed f b) m
insert_coincides h k v before x y = inserts.insert_coincides h k v before x y

module _ (h : Header) (k : Bytes) (before : Lent) {g f : Header} {a b : Result (Option ℕ) Refusal} {l m : Lent} (x : RemoveOutcome h k before (changed g a) l) (y : RemoveOutcome h k before (changed f b) m) where
  pub remove_coincides : Same (changed g a) l (changed f b) m
  remove_coincides = removes.remove_coincides h k before x y

  pub absent_coincides : (w : W h before.dir before.slots before.arena) → lookup k (pairs_of w.nodes) ≡ none → l ≡ m
  absent_coincides w e = removes.absent_coincides h k before x y w e

pub clear_coincides : (h : Header) (dir slots arena : List ℕ) {d₁ s₁ d₂ s₂ : List ℕ} {g f : Header} {a b : Result (Unit {0}) Refusal}
    → ClearOutcome h dir slots arena d₁ s₁ (answered g a) → ClearOutcome h dir slots arena d₂ s₂ (answered f b) → fresh.Same d₁ s₁ (answered g a) d₂ s₂ (answered f b)
clear_coincides h dir slots arena x y = fresh.clear_coincides h dir slots arena x y
