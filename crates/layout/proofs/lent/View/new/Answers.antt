-- `View::new` meets its contract. (Written out, so that an edit is refused by the fact that fails.)
-- Assumes nothing.
use Rattle.layout.proofs.lent.View.new.Goals as goal

pub invariant_of-result : goal.invariant_of-result
invariant_of-result c = record { index = c.requires }
