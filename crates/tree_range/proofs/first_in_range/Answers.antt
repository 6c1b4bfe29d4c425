-- `first_in_range` meets its contract.
-- Assumes nothing.
use Rattle.layout.specs.Presumed.{entry_held}
use Rattle.layout.specs.Viewed.{view_held}
use Rattle.model.specs.Answers.{range_answer}
use Rattle.std.proofs.Common.{length}
use Rattle.tree_range.specs.Outcomes.{Scans}
use Rattle.tree_range.proofs.first_in_range.Goals as goal

pub returns : goal.returns
returns c =
    entry_held c.in_ok-open.ensures.1
    (view_held
    (λ h dir slots arena ns. Scans h dir slots arena ns (range_answer c.args.range c.args.start.now c.args.end.now (length c.args.out.now) ns) c.args.out.now c.first_in_range.new.out c.first_in_range.result)
    c.in_ok-open.field-0 c.in_ok-open.ensures.0 c.first_in_range.ensures)
