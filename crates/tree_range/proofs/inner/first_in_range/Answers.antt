-- `inner::first_in_range` meets its contract.
-- Assumes nothing.
use mathlib.Core.Path.{ap}
use Rattle.std.proofs.lemmas.Result.{err_from_is_err_and}
use Rattle.std.proofs.Common.{Ok, ◌∙◌}
use Rattle.tree_range.specs.FoundLaws.{hit_none, hit_refused, hit_stands, scan_none, scan_refused, spot_of}
use Rattle.tree_range.proofs.inner.first_in_range.Goals as goal

pub returns-in_err-t : goal.returns-in_err-t
returns-in_err-t c =
    let p = err_from_is_err_and c.from_residual.result c.from_residual.ensures.1 in
    rw (p.1, p.2) (scan_refused _ (hit_refused c.found.ensures c.in_err-t.was))

pub returns-in_default : goal.returns-in_default
returns-in_default c = scan_none _ (hit_none c.found.ensures (c.in_ok-t.was ∙ ap Ok c.in_default.is))

pub show-requires : goal.show-requires
show-requires c = spot_of c.args.v.now.index.presumed (hit_stands c.found.ensures (c.in_ok-t.was ∙ ap Ok c.in-Some.is)).in_list
