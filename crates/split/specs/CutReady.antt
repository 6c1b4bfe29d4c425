-- The leaf list cut in two as a plan says is ready for the new pair: its key stands in the gap that the plan names, its leaf has room for one
-- more, and the insert into it gives what the insert into the whole list does.
-- Assumes nothing.
use Rattle.std.specs.Prelude.{◌<◌, suc, ℕ, List, ◌≡◌, length}
use Rattle.judge.specs.declared.Plan.{Plan}
use Rattle.layout.specs.Presumed.{Presumed}
use Rattle.layout.specs.declared.Header.{Header}
use Rattle.model.specs.Leaves.{Node}
use Rattle.model.specs.Rules.{insert_rule}
use Rattle.order.specs.Bytes.{Bytes}
use Rattle.route.specs.Routes.{leaf_at}
use Rattle.split.specs.CutNodes.{all_but_pair, inserted_tiles}
use Rattle.split.specs.PairLess.{less_owner, less_rule, less_slack, less_stands}
use Rattle.split.specs.Splits.{SplitAsked, cut_nodes, spot_of}
use Rattle.spots.specs.KeySpots.{InGap}

module _ {h : Header} {dir slots arena : List ℕ} {ns : List Node} (x : Presumed h dir slots arena ns) (k v : Bytes) {p : Plan}
    (a : SplitAsked h (length dir) (length arena) k v p ns) where
  pub cut_gap : InGap k (cut_nodes a.plan.separator p ns) (spot_of p)
  cut_gap = record { owns = less_owner (all_but_pair x k v a) (inserted_tiles x k v a); stands = less_stands (all_but_pair x k v a) }

  pub cut_slack : suc (length (leaf_at (cut_nodes a.plan.separator p ns) (spot_of p).leaf).pairs) < h.fanout
  cut_slack = less_slack (all_but_pair x k v a) (inserted_tiles x k v a)

  pub cut_rule : insert_rule h.fanout k v (cut_nodes a.plan.separator p ns) ≡ insert_rule h.fanout k v ns
  cut_rule = less_rule (all_but_pair x k v a) (inserted_tiles x k v a)
