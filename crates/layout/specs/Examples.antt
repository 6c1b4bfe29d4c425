-- A header by its numbers, and blank buffers.
use Rattle.std.specs.Prelude.{ℕ, List, ◌≡◌, get_or, length}
use Rattle.layout.specs.declared.Header.{Header}
use Rattle.model.specs.Charge.{charge}
use Rattle.model.specs.Limits.{Sizes}
use Rattle.words.specs.Words.{low_key_slot}

abbrev pub header : (fanout leaves pairs charge : ℕ) → Header
header fanout leaves pairs charge = record { fanout = fanout; leaves = leaves; pairs = pairs; charge = charge }

-- what creation leaves in the buffers
pub record Blank (fanout : ℕ) (dir slots arena : List ℕ) : Type 0 where
  pub sizes : Sizes fanout (length dir) (length slots) (length arena)
  pub first_word : get_or dir 0 0 ≡ 0
  pub low_word_eq : get_or slots (low_key_slot fanout 0) 0 ≡ 0
