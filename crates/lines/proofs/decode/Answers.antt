-- `decode` meets its contract.
-- Assumes nothing.
use lib.ListN.{length-set}
use Rattle.lists.proofs.FillLaws.{fill_start}
use Rattle.lines.specs.HexLaws.{decode_turn, decode_done, digit_read, value_or}
use mathlib.Core.Path.{refl}
use borrow.Author.Rules.{rules}
use native.Mathlib.Omega.{arith}
use Rattle.lines.proofs.decode.Goals as goal

pub loop-i-init : goal.loop-i-init
loop-i-init c = (search rules, λ s a t. fill_start _ _ _ _ refl)

pub loop-i-preserved : goal.loop-i-preserved
loop-i-preserved c =
    let high = value_or _ c.unwrap_or-high.ensures c.hex_value.ensures (digit_read _ c.requires.0 (omega arith)) in
    let low = value_or _ c.unwrap_or-low.ensures c.hex_value-in-loop-i.ensures (digit_read _ c.requires.0 (omega arith)) in
    (simp length-set c.loop-i.invariant.0, decode_turn _ _ _ _ _ _ _ c.requires.1 (omega arith) refl c.requires.0 high low c.loop-i.invariant.1)

pub returns : goal.returns
returns c = decode_done _ _ _ _ _ refl (omega arith) c.loop-i.invariant.1
