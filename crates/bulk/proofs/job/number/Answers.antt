use Rattle.std.proofs.Common.{◌≡◌, length, get_or, ◌≤◌, eq-eqb, ◌∙◌}
use Rattle.lists.specs.Exact.{no_way}
use mathlib.Core.Path.{refl}
use borrow.Author.Rules.{rules}
use borrow.Author.Tests.{tests}
use native.Mathlib.Omega.{arith}
use Rattle.bulk.specs.JobLaws.{count_done, count_over, count_turn}
use Rattle.bulk.proofs.job.number.Goals as goal

pub returns-then-n-gt-MOST_PAIRS : goal.returns-then-n-gt-MOST_PAIRS
returns-then-n-gt-MOST_PAIRS c = count_over _ c.loop-b.b-index _ (omega arith) c.if-n-gt-MOST_PAIRS.true c.loop-b.invariant

pub loop-b-preserved : goal.loop-b-preserved
loop-b-preserved c =
    let least : 48 ≤ get_or c.args.word.now c.loop-b.b-index 0 = search (rules, tests) in
    let most : get_or c.args.word.now c.loop-b.b-index 0 ≤ 57 = search (rules, tests) in
    count_turn _ c.loop-b.b-index _ _ (omega arith) refl least most c.if-n-gt-MOST_PAIRS.false c.loop-b.invariant

pub returns : goal.returns
returns c =
    let some : length c.args.word.now ≡ 0 → ⊥ = λ e. no_way (c.if-is_empty.ensures ∙ eq-eqb _ _ e) in
    count_done _ c.loop-b.b-index _ some (omega arith) c.loop-b.invariant
