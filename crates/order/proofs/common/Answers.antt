-- `order::common` meets its contract.
-- Assumes nothing.
use Rattle.std.proofs.Common.{◌≡◌, ◌∙◌, rules, tests}
use Rattle.std.proofs.lemmas.Iterator.{YieldsList-from_slice, YieldsList-from_zip}
use Rattle.std.proofs.lemmas.Iterator.Consumers.{YieldsList-at, count_from_yields_List}
use Rattle.std.proofs.lemmas.Iterator.Search.{YieldsList-from_take_while}
use Rattle.std.proofs.lemmas.List.Folds.{length-prefix_len}
use Rattle.std.specs.List.{zip}
use Rattle.order.proofs.Steps.{same, is_common}
use Rattle.order.proofs.common.Goals as goal

pub returns : goal.returns
returns c =
    let a = c.args.a.now in
    let b = c.args.b.now in
    let second : c.zip.result.b.rest.now ≡ b = c.zip.ensures.second.0 in
    count_from_yields_List c.take_while.result _ c.count.ensures.ran
    (YieldsList-from_take_while _ same
    (YieldsList-at c.take_while.ensures.source
    (YieldsList-from_zip
    (YieldsList-at c.zip.ensures.first (YieldsList-from_slice a c.iter.ensures.rest))
    (YieldsList-from_slice b second)))
    c.take_while.ensures.closure c.take_while.ensures.done (λ x b q k. search (rules, tests)))
    ∙ length-prefix_len same (zip a b) ∙ is_common a b
