-- `write_hex` meets its contract.
-- Assumes nothing.
use mathlib.Core.Path.{refl}
use lib.ListN.{length-set}
use Rattle.lists.proofs.FillLaws.{fill_start}
use Rattle.lines.specs.HexLaws.{hex_length}
use Rattle.answers.specs.AnswerLaws.{hex_turn, hex_done}
use borrow.Author.Rules.{rules}
use native.Mathlib.Omega.{arith}
use Rattle.answers.proofs.write_hex.Goals as goal

pub loop-i-init : goal.loop-i-init
loop-i-init c = (search rules, fill_start _ _ _ _ (omega arith))

pub overflow_add-j : goal.overflow_add-j
overflow_add-j c = omega (arith, hex_length c.args.s.now, c.requires)

pub bounds-out-j : goal.bounds-out-j
bounds-out-j c = omega (arith, hex_length c.args.s.now, c.requires)

pub overflow_add-out : goal.overflow_add-out
overflow_add-out c = omega (arith, hex_length c.args.s.now, c.requires)

pub bounds-out-j-in-loop-i : goal.bounds-out-j-in-loop-i
bounds-out-j-in-loop-i c = simp length-set (omega (arith, hex_length c.args.s.now, c.requires))

pub loop-i-preserved : goal.loop-i-preserved
loop-i-preserved c = (simp length-set c.loop-i.invariant.0, hex_turn _ _ _ _ c.loop-i.i _ _ _ _ _ _ c.requires (omega arith) refl refl refl refl c.hex_digit.ensures c.hex_digit-in-loop-i.ensures c.loop-i.invariant.1)

pub overflow_add-result : goal.overflow_add-result
overflow_add-result c = omega (arith, hex_length c.args.s.now, c.requires)

pub returns : goal.returns
returns c = hex_done _ _ _ _ c.loop-i.i _ _ (omega arith) refl (omega arith) c.loop-i.invariant.1
