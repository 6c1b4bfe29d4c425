-- `take_pair`: the pair taken out, then the merge where its leaf is left empty and has a right neighbour, is one step by the rule that merges.
-- Assumes nothing.
use Rattle.std.specs.Prelude.{◌+◌, ◌<◌, ◌≤◌, ◌^◌, ℕ, false, true, List, ◌≡◌, refl, get_or, length}
use Rattle.std.proofs.Common.{◌∙◌, subst, sym, arith}
use Rattle.layout.specs.Presumed.{Presumed}
use Rattle.layout.specs.declared.Header.{Header}
use Rattle.merge.specs.Merges.{CanMergeLeaf, MergeAsked, MergedLeaf}
use Rattle.model.specs.Leaves.{Node}
use Rattle.model.specs.LimitLaws.{pool_limit_fits}
use Rattle.model.specs.Rules.{remove_rule}
use Rattle.order.specs.Bytes.{Bytes}
use Rattle.pair_edit.specs.OldLaws.{spot_leaf, spot_listed_dir}
use Rattle.pair_edit.specs.PairEdits.{CanRemove, RemovedPair}
use Rattle.route.specs.RouteLaws.{leaf_lays}
use Rattle.route.specs.Routes.{leaf_at}
use Rattle.spots.specs.KeySpots.{AtSpot}
use Rattle.spots.specs.declared.Spot.{Spot}
use Rattle.tree_remove.specs.MergeRule.{mid_count, no_pairs, rule_last, rule_merges, rule_stays}
use Rattle.tree_remove.specs.Outcomes.{TakesOut}
use Rattle.words.specs.Words.{word_count}

module _ {h : Header} {dir slots arena : List ℕ} {t : Spot} (c : CanRemove h dir slots arena t) where
  pub take-place : t.leaf < length dir
  take-place = spot_listed_dir c.step.presumed c.step.asks

  pub take_small : t.leaf < 2 ^ 12
  take_small = omega (arith, take-place, c.step.presumed.holds.sizes.pool_most, pool_limit_fits)

-- behind the first step

module _ {h : Header} {dir slots arena : List ℕ} {t : Spot} {r : Header} {mid_dir mid_slots : List ℕ} (s : RemovedPair h dir slots arena t r mid_dir mid_slots) where
  module _ {k : Bytes} {ns : List Node} (x : Presumed h dir slots arena ns) (a : AtSpot k ns t) where
    mid_index : Presumed r mid_dir mid_slots arena (remove_rule false k ns)
    mid_index = (s k).index ns x a

    mid_leaves : r.leaves ≡ length ns
    mid_leaves = mid_index.holds.leaves_are ∙ mid_count k ns x.tiles a.owns a.stands

    mid_counted : word_count (get_or mid_dir t.leaf 0) ≡ length (leaf_at (remove_rule false k ns) t.leaf).pairs
    mid_counted = (leaf_lays mid_index t.leaf (omega (arith, mid_leaves, spot_leaf x a, x.holds.leaves_are))).count_is

    left_as : remove_rule true k ns ≡ remove_rule false k ns → Presumed r mid_dir mid_slots arena (remove_rule true k ns)
    left_as e = subst (Presumed r mid_dir mid_slots arena) (sym e) mid_index

  stayed : ((k : Bytes) (ns : List Node) → Presumed h dir slots arena ns → AtSpot k ns t → remove_rule true k ns ≡ remove_rule false k ns)
      → (k : Bytes) → TakesOut h dir slots arena k t r mid_dir mid_slots arena
  stayed e k = record {
    fanout_is = (s k).fanout_is;
    same_dir = (s k).same_dir;
    same_slots = (s k).same_slots;
    same_arena = refl;
    index = λ ns x a. left_as x a (e k ns x a);
  }

  -- no right neighbour
  pub take_last : r.leaves ≤ t.leaf + 1 → (k : Bytes) → TakesOut h dir slots arena k t r mid_dir mid_slots arena
  take_last l = stayed (λ k ns x a. rule_last k ns x.tiles a.owns a.stands (omega (arith, l, (mid_index x a).holds.leaves_are)))

  module _ {n : ℕ} (e : n ≡ word_count (get_or mid_dir t.leaf 0)) where
    -- a pair is left
    pub take_left : (n ≡ 0 → ⊥) → (k : Bytes) → TakesOut h dir slots arena k t r mid_dir mid_slots arena
    take_left f =
        let p : 0 < n = omega (arith, f) in
        stayed (λ k ns x a. rule_stays k ns x.tiles a.owns a.stands (omega (arith, p, e, mid_counted x a)))

    module _ (z : n ≡ 0) (l : t.leaf + 1 < r.leaves) where
      merge_asked : {k : Bytes} {ns : List Node} → Presumed h dir slots arena ns → AtSpot k ns t → MergeAsked t.leaf (remove_rule false k ns)
      merge_asked {k} {ns} x a = record {
        next_in = omega (arith, l, (mid_index x a).holds.leaves_are);
        empty = no_pairs (leaf_at (remove_rule false k ns) t.leaf).pairs (omega (arith, z, e, mid_counted x a));
      }

      pub take_merges : CanRemove h dir slots arena t → CanMergeLeaf r mid_dir mid_slots arena t.leaf
      take_merges c = record {
        nodes = remove_rule false c.key c.step.nodes;
        presumed = mid_index c.step.presumed c.step.asks;
        asks = merge_asked c.step.presumed c.step.asks;
      }

      pub take_merged : {q : Header} {now_dir now_slots now_arena : List ℕ} → MergedLeaf r mid_dir mid_slots arena t.leaf q now_dir now_slots now_arena
          → (k : Bytes) → TakesOut h dir slots arena k t q now_dir now_slots now_arena
      take_merged {q} {now_dir} {now_slots} {now_arena} m k = record {
        fanout_is = m.fanout_is ∙ (s k).fanout_is;
        same_dir = m.same_dir ∙ (s k).same_dir;
        same_slots = m.same_slots ∙ (s k).same_slots;
        same_arena = m.same_arena;
        index = λ ns x a.
            subst (Presumed q now_dir now_slots now_arena)
            (sym (rule_merges k ns x.tiles a.owns a.stands (omega (arith, z, e, mid_counted x a))))
            (m.index (remove_rule false k ns) (mid_index x a) (merge_asked x a));
      }
