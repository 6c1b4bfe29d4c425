-- `inner::value_at` meets its contract.
-- Assumes nothing.
use mathlib.Core.Path.{ap}
use Rattle.std.proofs.Common.{drop, take, ℕ, List, ◌+◌, ◌-◌, ◌∙◌}
use Rattle.tree_range.specs.FoundLaws.{value_shown}
use Rattle.tree_range.proofs.inner.value_at.Goals as goal

pub returns : goal.returns
returns c =
    let s = c.read_spot.result.slot in
    let from = s.offset.0 + s.suffix in
    ap (λ (a : List ℕ). take (from + s.value - from) (drop from a)) c.requires.same_arena ∙ value_shown c.read_spot.ensures.pieces
