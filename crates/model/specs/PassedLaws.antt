-- What an accepted answer has passed: each test that would have refused it.
-- Assumes nothing.
use Rattle.std.specs.Prelude.{ℕ, Bool, false, true, ◌≡◌, refl}
use Rattle.std.proofs.Common.{ap, arith}
use Rattle.model.specs.Answers.{Answer, accepted, refuse_if, refused}
use Rattle.model.specs.declared.Refusal.{Refusal}

pub passed_if : {A : Type 0} (b : Bool) (r : Refusal) (a : Answer A) {y : A} → refuse_if b r a ≡ accepted y → (b ≡ false) × (a ≡ accepted y)
passed_if false r a e = (refl, e)
passed_if {A} true r a e = absurd (let z : ◌≡◌ {A = ℕ} 1 0 = ap (λ (x : Answer A). elim x [ refused q ↦ 1 | accepted o ↦ 0 ]) e in omega (arith, z))

pub same_accepted : {A : Type 0} {x y : A} → accepted x ≡ accepted y → x ≡ y
same_accepted {A} {x} e = ap (λ (a : Answer A). elim a [ refused q ↦ x | accepted o ↦ o ]) e
