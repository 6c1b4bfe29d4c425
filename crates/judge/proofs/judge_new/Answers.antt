-- `judge_new` meets its contract.
-- Assumes nothing.
use Rattle.judge.specs.JudgeLaws.{add_refused, add_taken, new_fits, new_small, new_word, split_asked, split_fits, split_no_leaf, split_refused, split_taken}
use native.Mathlib.Omega.{arith}
use Rattle.judge.proofs.judge_new.Goals as goal

pub overflow_add-after-2 : goal.overflow_add-after-2
overflow_add-after-2 c = omega (arith, new_fits c.requires)

pub offset_bounds-v-t : goal.offset_bounds-v-t
offset_bounds-v-t c = omega (arith, new_small c.requires)

pub bounds-v-t : goal.bounds-v-t
bounds-v-t c = omega (arith, new_word c.requires)

pub returns-then-v-after : goal.returns-then-v-after
returns-then-v-after c = add_refused c.requires c.pair_count-pairs.ensures.0 c.if-pairs-v.true c.if-v-after.true

pub returns-then-pairs-v : goal.returns-then-pairs-v
returns-then-pairs-v c = add_taken c.requires c.pair_count-pairs.ensures.0 c.if-pairs-v.true c.if-v-after.false

pub returns-then-v : goal.returns-then-v
returns-then-v c = split_no_leaf c.requires c.pair_count-pairs.ensures.0 c.if-pairs-v.false c.if-v.true

pub plan_split-p-requires : goal.plan_split-p-requires
plan_split-p-requires c = split_asked c.requires c.pair_count-pairs.ensures.0 c.if-pairs-v.false

pub overflow_add-after-3 : goal.overflow_add-after-3
overflow_add-after-3 c = omega (arith, split_fits c.requires c.pair_count-pairs.ensures.0 c.if-pairs-v.false c.if-v.false c.plan_split-p.ensures)

pub returns-then-v-after-2 : goal.returns-then-v-after-2
returns-then-v-after-2 c = split_refused c.requires c.pair_count-pairs.ensures.0 c.if-pairs-v.false c.if-v.false c.plan_split-p.ensures c.if-v-after-2.true

pub returns : goal.returns
returns c = split_taken c.requires c.pair_count-pairs.ensures.0 c.if-pairs-v.false c.if-v.false c.plan_split-p.ensures c.if-v-after-2.false
