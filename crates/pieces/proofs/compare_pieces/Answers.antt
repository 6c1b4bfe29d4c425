-- `compare_pieces` meets its contract.
-- Assumes nothing.
use Rattle.pieces.specs.PieceLaws.{pieces_shorter}
use Rattle.pieces.proofs.Steps.{pieces_then}
use native.Mathlib.Omega.{arith}
use borrow.Author.Rules.{rules}
use Rattle.pieces.proofs.compare_pieces.Goals as goal

pub returns-then-key-p : goal.returns-then-key-p
returns-then-key-p c = pieces_shorter _ (omega arith) c.compare.ensures

pub returns : goal.returns
returns c = pieces_then c.if-key-p.false _ (λ p. search rules) _ c.compare-2.ensures c.then_with.ensures
