-- An answer told as a Result has its own number.
-- Assumes nothing.
use Rattle.std.specs.Prelude.{◌≡◌, refl}
use Rattle.model.specs.Answers.{Answer, accepted, answer_code, refused, result_code, told}

pub code_told : {A B : Type 0} (f : A → B) (a : Answer A) → result_code (told f a) ≡ answer_code a
code_told f (refused x) = refl
code_told f (accepted b) = refl
