-- `replace_old` meets its contract.
-- Assumes nothing.
use Rattle.tree_insert.specs.ReplaceLaws.{again_asked, longer_replaced, short_replaced}
use native.Mathlib.Omega.{arith}
use Rattle.tree_insert.proofs.inner.replace_old.Goals as goal

pub returns-then-value-old : goal.returns-then-value-old
returns-then-value-old c = short_replaced (omega (arith, c.if-value-old.true)) c.replace_pair.ensures

pub insert_pair-requires : goal.insert_pair-requires
insert_pair-requires c = again_asked c.remove_pair-r.ensures c.requires

pub returns : goal.returns
returns c = longer_replaced c.remove_pair-r.ensures c.insert_pair.ensures
