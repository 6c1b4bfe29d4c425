-- L6: words whose suffixes lose g bytes at the front.
use Rattle.std.specs.Prelude.{◌*◌, ◌<◌, ◌-◌, ◌^◌, ℕ, ◌+◌, ◌≤◌, List, ◌≡◌, take}
use Rattle.layout.specs.Buffers.{suffix_at}
use Rattle.lists.specs.Part.{part}
use Rattle.order.specs.Bytes.{Bytes}
use Rattle.words.specs.Words.{word_offset, word_suffix}

-- offset up by g, suffix length down by g
abbrev pub shifted : (g w : ℕ) → ℕ
shifted g w = w + g * (2 ^ 36 - 2 ^ 24)

-- the word's suffix leads with these g bytes
abbrev pub Leads : (arena : List ℕ) (g : ℕ) (bytes : Bytes) → ℕ → Type 0
Leads arena g bytes w = (g ≤ word_suffix w) × (take g (suffix_at arena w) ≡ bytes)

-- the other way: offset down by g, suffix length up by g, where these bytes stand right before the part
abbrev pub lowered : (g w : ℕ) → ℕ
lowered g w = w - g * (2 ^ 36 - 2 ^ 24)

pub record Preceded (arena : List ℕ) (g : ℕ) (bytes : Bytes) (w : ℕ) : Type 0 where
  pub offset_high : g ≤ word_offset w
  pub suffix_low : word_suffix w + g < 2 ^ 12
  pub bytes_are : part arena (word_offset w - g) g ≡ bytes
