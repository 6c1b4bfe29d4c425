-- `shorten_half` meets its contract (L6).
-- Assumes nothing.
use native.Mathlib.Omega.{arith}
use Rattle.split.specs.HalfLaws.{can_shorten, half_directed, half_done, low_place_in, word_in}
use Rattle.split.proofs.shorten_half.Goals as goal

pub offset_bounds-dir-j : goal.offset_bounds-dir-j
offset_bounds-dir-j c = omega (arith, word_in c.requires.asked)

pub bounds-dir-j : goal.bounds-dir-j
bounds-dir-j c = word_in c.requires.asked

pub low_key-low-requires : goal.low_key-low-requires
low_key-low-requires c = (c.requires.asked.some_slot, low_place_in c.requires.asked)

pub upper_key-upper-requires : goal.upper_key-upper-requires
upper_key-upper-requires c = half_directed c.requires.asked

pub shorten_keys_after_split-requires : goal.shorten_keys_after_split-requires
shorten_keys_after_split-requires c = can_shorten {upper = c.upper_key-upper.result} c.requires c.low_key-low.ensures c.upper_key-upper.ensures

pub returns : goal.returns
returns c = half_done {upper = c.upper_key-upper.result} c.requires c.low_key-low.ensures c.upper_key-upper.ensures c.shorten_keys_after_split.ensures c.shorten_keys_after_split.auto.slots
