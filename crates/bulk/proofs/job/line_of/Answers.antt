-- `line_of` cuts a newline off: `line_end`, by the last byte.
-- Assumes nothing.
use mathlib.Core.Path.{ap, refl, sym, ◌∙◌}
use lib.ListN.{length, take}
use Rattle.std.proofs.Common.{take_all}
use native.Mathlib.Omega.{arith}
use Rattle.bulk.specs.JobLaws.{end_newline, end_none}
use Rattle.bulk.proofs.job.line_of.Goals as goal

pub returns-in-10 : goal.returns-in-10
returns-in-10 c = let text = c.args.text.now in ap (λ n. take n text) (end_newline text (length text) refl (omega arith))

pub returns-in_default-2 : goal.returns-in_default-2
returns-in_default-2 c =
    let text = c.args.text.now in
    sym (take_all (length text) text (omega arith)) ∙ ap (λ n. take n text) (end_none text (length text) refl (λ e. omega arith))
