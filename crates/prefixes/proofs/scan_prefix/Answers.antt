-- `scan_prefix` meets its contract.
-- Assumes nothing.
use Rattle.lists.specs.Exact.{refuted}
use Rattle.prefixes.proofs.Steps.{scan_long, scan_made, scan_open, scan_short}
use native.Mathlib.Omega.{arith}
use Rattle.prefixes.proofs.scan_prefix.Goals as goal

pub returns-then-long_key : goal.returns-then-long_key
returns-then-long_key c =
    let g = c.args in
    scan_long g.prefix.now g.out.now (c.long_key.ensures.sound c.if-long_key.true)

pub returns-then-out-n : goal.returns-then-out-n
returns-then-out-n c =
    let g = c.args in
    scan_short g.prefix.now g.out.now _ (refuted c.if-long_key.false c.long_key.ensures) c.end_length-n.ensures (omega arith)

pub returns-then-n-eq0 : goal.returns-then-n-eq0
returns-then-n-eq0 c =
    let g = c.args in
    scan_open g.prefix.now g.out.now _ (refuted c.if-long_key.false c.long_key.ensures) c.end_length-n.ensures (omega arith)

pub write_end-requires : goal.write_end-requires
write_end-requires c = (omega arith, omega arith, c.end_length-n.ensures)

pub returns : goal.returns
returns c =
    let g = c.args in
    scan_made g.prefix.now g.out.now _ (refuted c.if-long_key.false c.long_key.ensures) c.end_length-n.ensures _ (omega arith) (omega arith) c.write_end.ensures
