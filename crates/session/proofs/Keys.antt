-- Which lines are left where `new` is not.
-- Assumes nothing.
use mathlib.Core.Path.{◌≡◌, refl}
use Rattle.lines.specs.declared.Line.{Line}
use Rattle.lines.specs.declared.Sizes.{Sizes}
use Rattle.lines.specs.declared.Line.TheVariants.{Del, Get, Leaves, New, Next, Put}
use Rattle.session.specs.Serving.{Ordinary}

-- all but `new`
pub ordinary_key : (line : Line) → ((s : Sizes) → line ≡ New s → ⊥) → Ordinary line
ordinary_key (New s) k = k s refl
ordinary_key (Put n m) k = tt
ordinary_key (Get n) k = tt
ordinary_key (Del n) k = tt
ordinary_key (Next n) k = tt
ordinary_key Leaves k = tt
