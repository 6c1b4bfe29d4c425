-- `write` meets its contract.
-- Assumes nothing.
use mathlib.Core.Path.{ap, ◌∙◌, sym}
use lib.ListN.{length}
use Rattle.answers.specs.Answers.{answered, lined}
use Rattle.answers.specs.Said.{said}
use Rattle.answers.specs.AnswerLaws.{bad_text, wrote_is}
use native.Mathlib.Omega.{arith}
use Rattle.answers.proofs.write.Goals as goal

pub write_line-requires-in-Bad : goal.write_line-requires-in-Bad
write_line-requires-in-Bad c = let room = rw c.in-Bad.is at c.requires.1 in omega (arith, ap (λ s. length (lined s)) bad_text, room)

pub returns-in-Bad : goal.returns-in-Bad
returns-in-Bad c = wrote_is c.write_line-in-Bad.ensures (ap lined bad_text ∙ ap (λ a. answered (said a)) (sym c.in-Bad.is))
