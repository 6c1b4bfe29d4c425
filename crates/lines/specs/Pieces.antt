-- What the functions under `parse` promise of one word of a line.
use Rattle.std.specs.Prelude.{ℕ, ◌+◌, ◌≤◌, ◌<◌, None, Some, ◌≡◌, get_or, length, take}
use Rattle.std.proofs.Common.{Option}
use Rattle.lists.specs.All.{All}
use Rattle.lists.specs.Part.{put}
use Rattle.order.specs.Bytes.{Bytes}
use Rattle.lines.specs.Grammar.{AllBytes, Number, bytes_text, digit_of, new_word, number_text, put_word}

-- the byte is a hexadecimal digit
pub record IsDigit (b : ℕ) : Type 0 where
  pub digit : ℕ
  pub fits : digit < 16
  pub text : digit_of digit ≡ b

-- a hexadecimal digit's value, or that the byte is none
abbrev pub HexValue : ℕ → Option ℕ → Type 0
HexValue b (Some d) = (d < 16) × (digit_of d ≡ b)
HexValue b None = IsDigit b → ⊥

-- a decimal digit's value, or that the byte is none
abbrev pub TenValue : ℕ → Option ℕ → Type 0
TenValue b (Some d) = (d < 10) × (48 + d ≡ b)
TenValue b None = 48 ≤ b → b < 58 → ⊥

abbrev pub AllDigits : Bytes → ℕ → Type 0
AllDigits word n = (j : ℕ) → j < n → IsDigit (get_or word j 0)

-- the word is the text of bytes
pub record IsBytes (word : Bytes) : Type 0 where
  pub bytes : Bytes
  pub fits : AllBytes bytes
  pub text : bytes_text bytes ≡ word

-- the bytes of which the word is the text stand at the output's front
abbrev pub Decoded : (word out out' : Bytes) → ℕ → Type 0
Decoded word out out' r = (s : Bytes) → AllBytes s → bytes_text s ≡ word → (r ≡ length s) × (out' ≡ put out 0 s)

-- the number of which the word is the text, or that there is none
abbrev pub Numbered : Bytes → Option ℕ → Type 0
Numbered word (Some v) = Number v × (number_text v ≡ word)
Numbered word None = (v : ℕ) → Number v → number_text v ≡ word → ⊥

abbrev pub Spaceless : Bytes → Type 0
Spaceless s = All (λ b. b ≡ 32 → ⊥) s

-- the first word ends at r: at the first space or at the line's end
pub record Cut (line : Bytes) (r : ℕ) : Type 0 where
  pub within : r ≤ length line
  pub clear : Spaceless (take r line)
  pub stop : r < length line → get_or line r 0 ≡ 32

-- where a line's first space is, if it has one
abbrev pub FirstSpace : Bytes → Option ℕ → Type 0
FirstSpace line (Some e) = Cut line e × (e < length line)
FirstSpace line None = Cut line (length line)

-- a first word that is neither `new` nor `put`, and what stands behind its space
pub record OneKey (command word : Bytes) : Type 0 where
  pub clear : Spaceless command
  pub not_new : new_word ≡ command → ⊥
  pub not_put : put_word ≡ command → ⊥
  pub short : length command + 1 + length word ≤ 4096
