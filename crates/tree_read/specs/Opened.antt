-- What `open` answers: W holds, and the view is of what was lent; or W does not hold, and the refusal says so.
-- Assumes nothing.
use Rattle.std.specs.Prelude.{Err, List, Ok, ℕ, ◌≡◌}
use Rattle.std.proofs.Common.{Result}
use Rattle.layout.specs.Lays.{W}
use Rattle.layout.specs.Viewed.{Views}
use Rattle.layout.specs.declared.Header.{Header}
use Rattle.layout.specs.declared.lent.View.{View}
use Rattle.model.specs.declared.Refusal.{Refusal}
use Rattle.model.specs.declared.Refusal.TheVariants.{Damaged}

abbrev pub Opened : Header → (dir slots arena : List ℕ) → Result View Refusal → Type 0
Opened h dir slots arena (Ok v) = Views v h dir slots arena × W h dir slots arena
Opened h dir slots arena (Err x) = (x ≡ Damaged) × (W h dir slots arena → ⊥)
