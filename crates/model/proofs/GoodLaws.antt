-- Every accepted rule keeps `Good`, in merge mode: its three parts together.
-- Assumes nothing.
use Rattle.std.specs.Prelude.{◌≤◌, ℕ, false, true, List, ◌≡◌}
use Rattle.model.specs.Answers.{no_leaf, no_room}
use Rattle.model.proofs.FilledLaws.{insert_filled, remove_filled}
use Rattle.model.proofs.FitsLaws.{fresh_fits, insert_fits, remove_fits}
use Rattle.model.specs.Good.{Bounds, Good, Within}
use Rattle.model.specs.Leaves.{Node}
use Rattle.model.specs.Map.{pair}
use Rattle.model.specs.Rules.{clear_rule, fresh, insert_rule, remove_rule}
use Rattle.model.proofs.TileLaws.{fresh_tiles, insert_tiles, remove_tiles}
use Rattle.order.specs.Bytes.{Bytes}

pub fresh_good : (B : Bounds) (pool arena : ℕ) → 3 ≤ B.fanout → 1 ≤ pool → Good B pool arena fresh
fresh_good B pool arena three one = record { tiles = fresh_tiles B three; filled = tt; fits = fresh_fits pool arena one }

pub insert_good : (B : Bounds) (pool arena : ℕ) → 3 ≤ B.fanout → (k v : Bytes) → Within B (pair k v) → (ns : List Node)
    → no_leaf B.fanout pool k v ns ≡ false → no_room B.fanout arena k v ns ≡ false → Good B pool arena ns → Good B pool arena (insert_rule B.fanout k v ns)
insert_good B pool arena three k v w ns l r g = record {
  tiles = insert_tiles B three k v w ns g.tiles;
  filled = insert_filled B.fanout k v ns three g.filled;
  fits = insert_fits B.fanout pool arena k v ns l r g.fits;
}

pub remove_good : (B : Bounds) (pool arena : ℕ) (k : Bytes) (ns : List Node) → Good B pool arena ns → Good B pool arena (remove_rule true k ns)
remove_good B pool arena k ns g = record {
  tiles = remove_tiles B true k ns g.tiles;
  filled = remove_filled k ns g.filled;
  fits = remove_fits pool arena true k ns g.fits;
}

pub clear_good : (B : Bounds) (pool arena : ℕ) (ns : List Node) → 3 ≤ B.fanout → 1 ≤ pool → Good B pool arena (clear_rule ns)
clear_good B pool arena ns three one = fresh_good B pool arena three one
