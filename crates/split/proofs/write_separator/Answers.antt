-- `write_separator` meets its contract.
-- Assumes nothing.
use Rattle.std.proofs.Common.{rules}
use Rattle.layout.specs.Viewed.{answered}
use Rattle.split.specs.SeparatorLaws.{spot_asked, new_written, pieces_fit, stored_first, stored_written}
use Rattle.spots.specs.Spots.{PairRead}
use Rattle.split.proofs.write_separator.Goals as goal

pub returns-then-eq : goal.returns-then-eq
returns-then-eq c = new_written c.requires (search (rules, c.if-eq.ensures)) c.copy_into.ensures

pub read_spot-x-requires : goal.read_spot-x-requires
read_spot-x-requires c = spot_asked c.requires (stored_first c.args.p (search (rules, c.if-eq.ensures)))

pub write_pieces-requires : goal.write_pieces-requires
write_pieces-requires c = pieces_fit c.requires (stored_first c.args.p (search (rules, c.if-eq.ensures))) (answered c.args.v.now (λ ns. PairRead _ _ _ _ ns _ _) c.read_spot-x.ensures)

pub returns : goal.returns
returns c = stored_written c.requires (stored_first c.args.p (search (rules, c.if-eq.ensures))) (answered c.args.v.now (λ ns. PairRead _ _ _ _ ns _ _) c.read_spot-x.ensures) c.write_pieces.ensures
