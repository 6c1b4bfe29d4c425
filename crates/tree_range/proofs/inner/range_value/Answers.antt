-- `inner::range_value` meets its contract.
-- Assumes nothing.
use mathlib.Core.Path.{ap}
use Rattle.std.proofs.Common.{Ok, ◌∙◌}
use Rattle.tree_range.specs.FoundLaws.{hit_none, hit_refused, hit_stands, spot_of, value_none, value_refused, value_stands}
use Rattle.tree_range.proofs.inner.range_value.Goals as goal

pub value_at-requires-clause-there : goal.value_at-requires-clause-there
value_at-requires-clause-there c = spot_of c.args.v.now.index.presumed (hit_stands c.found.ensures (c.in-Ok-Some.is ∙ ap Ok c.in-Ok-Some.field-0-is)).in_list

pub returns-in-Ok-Some : goal.returns-in-Ok-Some
returns-in-Ok-Some c = value_stands (hit_stands c.found.ensures (c.in-Ok-Some.is ∙ ap Ok c.in-Ok-Some.field-0-is)) c.value_at.ensures

pub returns-in-Ok-None : goal.returns-in-Ok-None
returns-in-Ok-None c = value_none (hit_none c.found.ensures (c.in-Ok-None.is ∙ ap Ok c.in-Ok-None.field-0-is))

pub returns-in-Err : goal.returns-in-Err
returns-in-Err c = value_refused (hit_refused c.found.ensures c.in-Err.is)
