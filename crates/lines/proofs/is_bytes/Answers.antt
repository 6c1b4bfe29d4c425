-- `is_bytes` meets its contract.
-- Assumes nothing.
use Rattle.lists.specs.Exact.{exact_no, exact_eqb, exact_iff}
use Rattle.std.proofs.lemmas.Iterator.{cases_from_all, YieldsList-from_slice}
use Rattle.lines.specs.HexLaws.{no_bytes, dash, odd_bytes, exact_digits, digits_bytes, bytes_digits}
use Rattle.lines.specs.Pieces.{IsDigit}
use borrow.Author.Rules.{rules}
use borrow.Author.Tests.{tests}
use native.Mathlib.Omega.{arith}
use Rattle.lines.proofs.is_bytes.Goals as goal

pub returns-in-0 : goal.returns-in-0
returns-in-0 c = exact_no (no_bytes _ (omega arith))

pub returns-in-1 : goal.returns-in-1
returns-in-1 c = dash _ (omega arith)

pub returns-then-n-eq0 : goal.returns-then-n-eq0
returns-then-n-eq0 c =
    let all = cases_from_all _ _ _ IsDigit (λ b. IsDigit b → ⊥) c.all.ensures.ran (YieldsList-from_slice c.args.word.now cc) (λ x q k. search (rules, tests)) (λ x q k. search (rules, tests)) in
    exact_iff (exact_digits _ c.args.word.now all) (digits_bytes c.args.word.now (omega arith) (omega arith)) (bytes_digits c.args.word.now (omega arith))

pub returns-else-n-eq0 : goal.returns-else-n-eq0
returns-else-n-eq0 c = exact_iff (exact_eqb _ 0) (λ e. absurd (c.if-n-eq0.false e)) (λ b. absurd (odd_bytes c.args.word.now (omega arith) (omega arith) b))
