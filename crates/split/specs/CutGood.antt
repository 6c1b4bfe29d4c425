-- What the leaf list is after a planned cut, the new pair not in it yet: an index's, with the separator in its charge, the same pairs, and one
-- leaf more.
use Rattle.std.specs.Prelude.{ℕ, ◌+◌, suc, List, ◌≡◌, length}
use Rattle.layout.specs.declared.Header.{Header}
use Rattle.model.specs.Charge.{charge}
use Rattle.model.specs.Good.{Fits, Tiles, limits}
use Rattle.model.specs.Leaves.{Node, pairs_of}
use Rattle.order.specs.Bytes.{Bytes}

pub record CutGood (h : Header) (pool arena : ℕ) (ns cut : List Node) (separator : Bytes) : Type 0 where
  pub tiles : Tiles (limits h.fanout) cut
  pub fits : Fits pool arena cut
  pub charge_is : charge cut ≡ charge ns + length separator
  pub pairs_are : length (pairs_of cut) ≡ length (pairs_of ns)
  pub count : length cut ≡ suc (length ns)
