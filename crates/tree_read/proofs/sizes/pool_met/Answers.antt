-- `pool_met` meets its contract: the constants are document 01's limits.
-- Assumes nothing.
use Rattle.std.specs.Prelude.{◌≡◌, leb, ◌&&◌}
use Rattle.std.proofs.Common.{rules, tests}
use Rattle.lists.specs.Exact.{exact_and, exact_leb}
use Rattle.model.specs.Limits.{pool_least, pool_limit}
use Rattle.tree_read.proofs.sizes.pool_met.Goals as goal

pub returns : goal.returns
unfolding pool_least pool_limit
returns c =
    let e : c.contains.result ≡ (leb 1 c.args.pool && leb c.args.pool 4096) = search (rules, tests) in
    rw e (exact_and (exact_leb 1 c.args.pool) (exact_leb c.args.pool 4096))
