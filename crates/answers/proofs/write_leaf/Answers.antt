-- `write_leaf` meets its contract.
-- Assumes nothing.
use mathlib.Core.Path.{◌∙◌}
use Rattle.answers.specs.AnswerLaws.{five_text, wrote_is, wrote_more}
use Rattle.answers.specs.SaidLaws.{leaf_length, leaf_line}
use native.Mathlib.Omega.{arith}
use Rattle.answers.proofs.write_leaf.Goals as goal

pub write_word-w-requires : goal.write_word-w-requires
write_word-w-requires c = let l = c.args.leaf in omega (arith, leaf_length l.low.now l.upper l.prefix l.pairs)

pub spaced_bytes-l-requires : goal.spaced_bytes-l-requires
spaced_bytes-l-requires c =
    let l = c.args.leaf in omega (arith, leaf_length l.low.now l.upper l.prefix l.pairs, c.write_word-w.ensures.behind, c.write_word-w.ensures.long)

pub write_upper-u-requires : goal.write_upper-u-requires
write_upper-u-requires c =
    let l = c.args.leaf in
    omega (arith, leaf_length l.low.now l.upper l.prefix l.pairs, c.write_word-w.ensures.behind, c.write_word-w.ensures.long, c.spaced_bytes-l.ensures.behind, c.spaced_bytes-l.ensures.long)

pub write_counts-requires : goal.write_counts-requires
write_counts-requires c =
    let l = c.args.leaf in (
      c.requires.0,
      c.requires.1,
      omega (arith, leaf_length l.low.now l.upper l.prefix l.pairs, c.write_word-w.ensures.behind, c.write_word-w.ensures.long, c.spaced_bytes-l.ensures.behind, c.spaced_bytes-l.ensures.long, c.write_upper-u.ensures.behind, c.write_upper-u.ensures.long),
    )

pub returns : goal.returns
returns c =
    let l = c.args.leaf in
    let p = c.requires.2 in
    wrote_is (wrote_more (omega arith) (wrote_more (omega arith) (wrote_more (omega arith) c.write_word-w.ensures c.spaced_bytes-l.ensures) c.write_upper-u.ensures) c.write_counts.ensures)
    (five_text _ _ _ _ _ ∙ leaf_line l.low.now l.upper l.prefix l.pairs)
