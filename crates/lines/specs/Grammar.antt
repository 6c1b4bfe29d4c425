-- The script program's lines: the text of each command. A line is formed exactly where it is the text of a command and has at most
-- 4,096 bytes.
use Rattle.std.specs.Prelude.{ℕ, zero, suc, ◌+◌, ◌/◌, ◌%◌, ◌≤◌, ◌<◌, cond, None, Some, [], ◌++◌, ◌∷◌, ◌≡◌, ltb, drop, length, take}
use Rattle.std.proofs.Common.{Option}
use Rattle.lists.specs.All.{All}
use Rattle.order.specs.Bytes.{Bytes}
use Rattle.lines.specs.declared.Line.{Line}
use Rattle.lines.specs.declared.Line.TheVariants.{Del, Get, Leaves, New, Next, Put}

-- a hexadecimal digit in lower case: 0 to 9, then a to f
unfoldable pub digit_of : ℕ → ℕ
digit_of d = cond (ltb d 10) (48 + d) (87 + d)

-- two digits a byte
unfoldable pub hex_of : Bytes → Bytes
hex_of [] = []
hex_of (b ∷ s) = digit_of (b / 16) ∷ digit_of (b % 16) ∷ hex_of s

-- bytes in a line: the empty string is `-`
unfoldable pub bytes_text : Bytes → Bytes
bytes_text [] = 45 ∷ []
bytes_text (b ∷ s) = hex_of (b ∷ s)

-- n in decimal without leading zeros, where it has at most d + 1 digits
unfoldable pub digits_of : ℕ → ℕ → Bytes
digits_of zero n = (48 + n) ∷ []
digits_of (suc d) n = cond (ltb n 10) ((48 + n) ∷ []) (digits_of d (n / 10) ++ ((48 + n % 10) ∷ []))

-- a number in a line: at most 9 digits
unfoldable pub number_text : ℕ → Bytes
number_text n = digits_of 8 n

-- two words stand one space apart
infixr 50 ◌␣◌
unfoldable pub ◌␣◌ : Bytes → Bytes → Bytes
v ␣ w = v ++ (32 ∷ w)

abbrev pub new_word : Bytes
new_word = 110 ∷ 101 ∷ 119 ∷ []

abbrev pub put_word : Bytes
put_word = 112 ∷ 117 ∷ 116 ∷ []

abbrev pub get_word : Bytes
get_word = 103 ∷ 101 ∷ 116 ∷ []

abbrev pub del_word : Bytes
del_word = 100 ∷ 101 ∷ 108 ∷ []

abbrev pub next_word : Bytes
next_word = 110 ∷ 101 ∷ 120 ∷ 116 ∷ []

abbrev pub leaves_word : Bytes
leaves_word = 108 ∷ 101 ∷ 97 ∷ 118 ∷ 101 ∷ 115 ∷ []

pub data Command : Type 0 where
  makes : (fanout pool arena : ℕ) → Command
  puts : (key value : Bytes) → Command
  gets : (key : Bytes) → Command
  dels : (key : Bytes) → Command
  nexts : (key : Bytes) → Command
  shows : Command

abbrev pub written : Command → Bytes
written (makes f p a) = new_word ␣ number_text f ␣ number_text p ␣ number_text a
written (puts k v) = put_word ␣ bytes_text k ␣ bytes_text v
written (gets k) = get_word ␣ bytes_text k
written (dels k) = del_word ␣ bytes_text k
written (nexts k) = next_word ␣ bytes_text k
written shows = leaves_word

-- what a line can say: bytes that are bytes, numbers of at most 9 digits
abbrev pub Number : ℕ → Type 0
Number n = n < 1000000000

abbrev pub AllBytes : Bytes → Type 0
AllBytes s = All (λ b. b < 256) s

abbrev pub Sayable : Command → Type 0
Sayable (makes f p a) = Number f × Number p × Number a
Sayable (puts k v) = AllBytes k × AllBytes v
Sayable (gets k) = AllBytes k
Sayable (dels k) = AllBytes k
Sayable (nexts k) = AllBytes k
Sayable shows = Unit {0}

-- the line says the command
pub record Says (line : Bytes) (c : Command) : Type 0 where
  pub sayable : Sayable c
  pub text : written c ≡ line
  pub short : length line ≤ 4096

-- a lent buffer whose first n bytes were written: the rest as it was
pub record Front (was now_is : Bytes) (n : ℕ) : Type 0 where
  pub within : n ≤ length was
  pub long : length now_is ≡ length was
  pub rest : drop n now_is ≡ drop n was

abbrev pub Key : (Bytes → Command) → (line key key' value value' : Bytes) → ℕ → Type 0
Key f line key key' value value' n = Says line (f (take n key')) × Front key key' n × (value' ≡ value)

-- What `parse` answers and leaves: the command that the line says, with its bytes at the front of the lent buffers, or that it says none.
abbrev pub Parsed : (line key key' value value' : Bytes) → Option Line → Type 0
Parsed line key key' value value' (Some (New s)) = Says line (makes s.fanout s.pool s.arena) × (key' ≡ key) × (value' ≡ value)
Parsed line key key' value value' (Some (Put n m)) = Says line (puts (take n key') (take m value')) × Front key key' n × Front value value' m
Parsed line key key' value value' (Some (Get n)) = Key gets line key key' value value' n
Parsed line key key' value value' (Some (Del n)) = Key dels line key key' value value' n
Parsed line key key' value value' (Some (Next n)) = Key nexts line key key' value value' n
Parsed line key key' value value' (Some Leaves) = Says line shows × (key' ≡ key) × (value' ≡ value)
Parsed line key key' value value' None = ((c : Command) → Says line c → ⊥) × (key' ≡ key) × (value' ≡ value)
