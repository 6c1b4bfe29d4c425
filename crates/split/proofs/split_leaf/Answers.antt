-- `split_leaf` meets its contract.
-- Assumes nothing.
use Rattle.split.specs.SplitLeafLaws.{can_cut, can_first, can_second, separator_asked, split_met, split_reach}
use Rattle.split.specs.SeparatorLaws.{asked_there, written_there}
use Rattle.route.specs.RouteLaws.{leaf_told}
use Rattle.std.proofs.Common.{length-take-le, sym}
use mathlib.Core.Path.{refl}
use native.Mathlib.Numerals.{add-one}
use native.Mathlib.Omega.{arith}
use Rattle.split.proofs.split_leaf.Goals as goal

pub write_separator-requires : goal.write_separator-requires
write_separator-requires c = asked_there c.new-view.ensures (separator_asked c.requires refl)

pub leaf_of-old-requires : goal.leaf_of-old-requires
leaf_of-old-requires c = rw c.new-view.ensures.header_is (split_reach c.requires).leaf_in

pub slice_bounds-separator-end : goal.slice_bounds-separator-end
slice_bounds-separator-end c = omega (arith, (split_reach c.requires).separator_short, (written_there c.new-view.ensures c.write_separator.ensures).same_out)

pub slice_bounds-cut_stored-end : goal.slice_bounds-cut_stored-end
slice_bounds-cut_stored-end c = sym (length-take-le c.args.p.separator _ (omega (arith, (split_reach c.requires).separator_short, (written_there c.new-view.ensures c.write_separator.ensures).same_out)))

pub cut_stored-requires : goal.cut_stored-requires
cut_stored-requires c = can_cut c.requires (written_there c.new-view.ensures c.write_separator.ensures) (leaf_told _ c.new-view.ensures c.leaf_of-old.ensures) c.lowest_free-free.ensures

pub shorten_half-requires : goal.shorten_half-requires
shorten_half-requires c = can_first c.requires (written_there c.new-view.ensures c.write_separator.ensures) (leaf_told _ c.new-view.ensures c.leaf_of-old.ensures) c.lowest_free-free.ensures c.cut_stored.ensures

pub overflow_add-p : goal.overflow_add-p
overflow_add-p c = omega (arith, split_reach c.requires)

pub shorten_half-requires-2 : goal.shorten_half-requires-2
shorten_half-requires-2 c = can_second c.requires (written_there c.new-view.ensures c.write_separator.ensures) (leaf_told _ c.new-view.ensures c.leaf_of-old.ensures) c.lowest_free-free.ensures c.cut_stored.ensures c.shorten_half.ensures (add-one _)

pub returns : goal.returns
returns c = split_met c.requires (written_there c.new-view.ensures c.write_separator.ensures) (leaf_told _ c.new-view.ensures c.leaf_of-old.ensures) c.lowest_free-free.ensures c.cut_stored.ensures c.shorten_half.ensures (add-one _) c.shorten_half-2.ensures
