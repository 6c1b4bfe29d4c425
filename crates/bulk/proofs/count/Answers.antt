-- `count` counts a call by its answer, in each arm by the answer that the arm told.
-- Assumes nothing.
use Rattle.std.proofs.Common.{Ok, ap, ◌∙◌}
use mathlib.Core.Path.{refl}
use borrow.Author.Rules.{rules}
use Rattle.bulk.specs.BulkLaws.{counted}
use Rattle.bulk.proofs.count.Goals as goal

pub returns-in-Ok-Some : goal.returns-in-Ok-Some
returns-in-Ok-Some c = counted (c.in-Ok-Some.is ∙ ap Ok (rw c.in-Ok-Some.is at c.in-Ok-Some.field-0-is)) refl (search rules) (search rules)

pub returns-in-Ok-None : goal.returns-in-Ok-None
returns-in-Ok-None c = counted (c.in-Ok-None.is ∙ ap Ok (rw c.in-Ok-None.is at c.in-Ok-None.field-0-is)) refl (search rules) (search rules)

pub returns-in-Err : goal.returns-in-Err
returns-in-Err c = counted c.in-Err.is refl (search rules) (search rules)
