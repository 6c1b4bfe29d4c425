-- `inner::show` meets its contract. (`returns` is written out, so that an edit is refused by the fact that fails.)
-- Assumes nothing.
use mathlib.Core.Path.{refl}
use Rattle.tree_range.specs.FoundLaws.{show_pair, show_short}
use Rattle.tree_range.proofs.inner.show.Goals as goal

pub returns-then-out-length : goal.returns-then-out-length
returns-then-out-length c = show_short c.read_spot-pair.ensures.pieces _ refl c.if-out-length.true

pub returns : goal.returns
returns c = show_pair c.read_spot-pair.ensures.pieces c.args.out.now refl c.if-out-length.false c.write_pieces.ensures
