-- The used words of the directory, from one place in it.
use Rattle.std.specs.Prelude.{ℕ, List, drop, get_or, take}
use Rattle.layout.specs.Buffers.{Buffers}

abbrev pub lent : (fanout : ℕ) (slots arena : List ℕ) → Buffers
lent fanout slots arena = record { fanout = fanout; slots = slots; arena = arena }

-- the j-th word, the used ones before it, the used ones from it on
abbrev pub word_at : (dir : List ℕ) (j : ℕ) → ℕ
word_at dir j = get_or dir j 0

abbrev pub used_to : (dir : List ℕ) (leaves j : ℕ) → List ℕ
used_to dir leaves j = take j (take leaves dir)

abbrev pub used_from : (dir : List ℕ) (leaves j : ℕ) → List ℕ
used_from dir leaves j = drop j (take leaves dir)
