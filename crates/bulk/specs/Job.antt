-- The line that asks for a job, such as `r s 20000`, and the keys that its calls name.
use Rattle.std.specs.Prelude.{ℕ, ◌+◌, ◌-◌, ◌*◌, ◌%◌, ◌≤◌, ◌<◌, cond, None, Some, [], ◌∷◌, ◌≡◌, eqb, get_or, length, take}
use Rattle.std.proofs.Common.{Option}
use Rattle.lists.specs.All.{All}
use Rattle.order.specs.Bytes.{Bytes}
use Rattle.bulk.specs.declared.job.Job.{Job}
use Rattle.bulk.specs.declared.job.Order.{Order}
use Rattle.bulk.specs.declared.job.Order.TheVariants.{Falling, Nothing, Rising, Shuffled}

abbrev pub most_pairs : ℕ
most_pairs = 20000

-- how many calls are made for n pairs, and the key of the i-th of n calls
abbrev pub call_count : Order → ℕ → ℕ
call_count Rising n = n
call_count Falling n = n
call_count Shuffled n = n
call_count Nothing n = 0

abbrev pub key_at : Order → (i n : ℕ) → ℕ
key_at Rising i n = i
key_at Falling i n = n - 1 - i
key_at Shuffled i n = i * 7919 % n
key_at Nothing i n = i

-- an order's letter: r, f, s, n
abbrev pub letter_of : Order → ℕ
letter_of Rising = 114
letter_of Falling = 102
letter_of Shuffled = 115
letter_of Nothing = 110

abbrev pub Lettered : ℕ → Option Order → Type 0
Lettered b (Some o) = letter_of o ≡ b
Lettered b None = (o : Order) → letter_of o ≡ b → ⊥

-- the number whose decimal digits are those of n and then these
unfoldable pub decimal : ℕ → Bytes → ℕ
decimal n [] = n
decimal n (b ∷ s) = decimal (n * 10 + (b - 48)) s

-- a word of digits, leading zeros allowed, whose number is n and not above the most
pub record Numbers (word : Bytes) (n : ℕ) : Type 0 where
  pub some : 0 < length word
  pub digits : All (λ b. (48 ≤ b) × (b ≤ 57)) word
  pub number : decimal 0 word ≡ n
  pub most : n ≤ most_pairs

abbrev pub Numbered : Bytes → Option ℕ → Type 0
Numbered word (Some n) = Numbers word n
Numbered word None = (n : ℕ) → Numbers word n → ⊥

-- the text's length without a newline at its end
unfoldable pub line_end : Bytes → ℕ
line_end text = cond (eqb (get_or text (length text - 1) 0) 10) (length text - 1) (length text)

-- the text asks for the job: a letter, a space, a letter, a space, digits, and perhaps a newline
pub record Asks (text : Bytes) (j : Job) : Type 0 where
  pub digits : Bytes
  pub line : take (line_end text) text ≡ letter_of j.inserts ∷ 32 ∷ letter_of j.deletes ∷ 32 ∷ digits
  pub pairs_are : Numbers digits j.pairs

abbrev pub Parsed : Bytes → Option Job → Type 0
Parsed text (Some j) = Asks text j
Parsed text None = (j : Job) → Asks text j → ⊥
