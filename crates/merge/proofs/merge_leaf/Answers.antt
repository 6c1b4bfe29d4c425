-- `merge_leaf` meets its contract (L7).
-- Assumes nothing.
use mathlib.Core.Path.{refl}
use native.Mathlib.Numerals.{add-one}
use Rattle.merge.specs.MergeLaws.{behind_asked, freed_charged, from_asked, kept_in, merge_met, next_used, read_next}
use Rattle.route.specs.RouteLaws.{directed}
use native.Mathlib.Omega.{arith}
use Rattle.merge.proofs.merge_leaf.Goals as goal

pub low_key-freed-requires : goal.low_key-freed-requires
low_key-freed-requires c =
    let p = c.requires in
    ((directed p.presumed).some_slot, (directed p.presumed).lows_in _ (omega (arith, next_used p.presumed p.asks)))

pub overflow_sub-old : goal.overflow_sub-old
overflow_sub-old c =
    let p = c.requires in
    kept_in (read_next _ c.new-view.ensures (add-one _) c.leaf_of-neighbour.ensures c.taken_prefix-kept.ensures) p.presumed p.asks

pub room_behind-requires : goal.room_behind-requires
room_behind-requires c =
    let p = c.requires in
    behind_asked (read_next _ c.new-view.ensures (add-one _) c.leaf_of-neighbour.ensures c.taken_prefix-kept.ensures) p.presumed p.asks

pub merge_from-requires : goal.merge_from-requires
merge_from-requires c =
    let p = c.requires in
    from_asked (read_next _ c.new-view.ensures (add-one _) c.leaf_of-neighbour.ensures c.taken_prefix-kept.ensures) p.presumed p.asks c.room_behind.ensures

pub overflow_sub-result-2 : goal.overflow_sub-result-2
overflow_sub-result-2 c =
    let p = c.requires in
    freed_charged (add-one _) c.low_key-freed.ensures p.presumed p.asks

pub returns : goal.returns
returns c = merge_met (read_next _ c.new-view.ensures (add-one _) c.leaf_of-neighbour.ensures c.taken_prefix-kept.ensures) c.low_key-freed.ensures c.room_behind.ensures c.merge_from.ensures (record { fanout_is = refl; leaves_are = refl; pairs_are = refl; charge_is = refl }) c.merge_from.auto.dir c.merge_from.auto.slots c.merge_from.auto.arena
