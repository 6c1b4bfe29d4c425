use Rattle.std.proofs.Common.{◌∙◌, ap, get_or-take, length-take-le}
use native.Mathlib.Omega.{arith}
use mathlib.Core.Path.{refl}
use Rattle.words.specs.Words.{word_leaf}
use Rattle.numbers.specs.FreeLaws.{free_end, marks_start, marks_step}
use Rattle.numbers.proofs.lowest_free.Goals as goal

pub loop-word-init : goal.loop-word-init
loop-word-init c = marks_start _

pub loop-word-preserved : goal.loop-word-preserved
loop-word-preserved c =
    let n = c.leaf_number-n.ensures in
    let read = ap word_leaf (get_or-take c.args.leaves c.args.dir.now c.loop-word.word-index 0 (omega (arith, length-take-le c.args.leaves c.args.dir.now c.requires))) in
    marks_step c.loop-word.invariant (n.0 ∙ read) n.1 refl refl c.with_bit.ensures refl

pub returns : goal.returns
returns c =
    let long = length-take-le c.args.leaves c.args.dir.now c.requires in
    free_end c.loop-word.invariant (omega (arith, long)) (omega (arith, long)) c.first_unmarked.ensures
