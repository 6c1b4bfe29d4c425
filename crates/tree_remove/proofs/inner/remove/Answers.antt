-- `inner::remove` meets its contract.
-- Assumes nothing.
use Rattle.lists.specs.Exact.{refuted}
use Rattle.spots.specs.SeekLaws.{stands_at, stands_gap, stands_told}
use Rattle.tree_remove.specs.RemoveLaws.{found_asked, remove_none}
use native.Mathlib.Omega.{arith}
use Rattle.tree_remove.proofs.inner.remove.Goals as goal

pub remove_found-requires : goal.remove_found-requires
remove_found-requires c = found_asked c.requires (λ ns x. stands_at c.args.key.now _ (stands_told _ c.new-view.ensures c.args.key.now _ c.seek.ensures ns x) c.in-Ok.is) (omega (arith, refuted c.if-long_key.false c.long_key.ensures))

pub returns-in-Err : goal.returns-in-Err
returns-in-Err c = remove_none c.args.key.now c.args.out.now (omega (arith, refuted c.if-long_key.false c.long_key.ensures)) (λ ns x. stands_gap c.args.key.now _ (stands_told _ c.new-view.ensures c.args.key.now _ c.seek.ensures ns x) c.in-Err.is)
