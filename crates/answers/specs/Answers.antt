-- The script program's answers: the text of each, a line with its newline.
use Rattle.std.specs.Prelude.{ℕ, ◌+◌, ◌≤◌, [], ◌++◌, ◌∷◌, ◌≡◌, length}
use Rattle.lists.specs.Part.{put}
use Rattle.order.specs.Bytes.{Bytes}
use Rattle.lines.specs.Grammar.{◌␣◌, bytes_text, new_word, number_text}

pub data Answer : Type 0 where
  none : Answer
  old : (value : Bytes) → Answer
  value : (value : Bytes) → Answer
  pair : (key value : Bytes) → Answer
  end : Answer
  -- low key, upper key, prefix length, number of pairs
  leaf : (low upper : Bytes) (prefix pairs : ℕ) → Answer
  -- a leaf without an upper key
  last : (low : Bytes) (prefix pairs : ℕ) → Answer
  made : Answer
  refused : (number : ℕ) → Answer
  bad : Answer

abbrev pub none_word : Bytes
none_word = 110 ∷ 111 ∷ 110 ∷ 101 ∷ []

abbrev pub old_word : Bytes
old_word = 111 ∷ 108 ∷ 100 ∷ []

abbrev pub value_word : Bytes
value_word = 118 ∷ 97 ∷ 108 ∷ 117 ∷ 101 ∷ []

abbrev pub pair_word : Bytes
pair_word = 112 ∷ 97 ∷ 105 ∷ 114 ∷ []

abbrev pub end_word : Bytes
end_word = 101 ∷ 110 ∷ 100 ∷ []

abbrev pub leaf_word : Bytes
leaf_word = 108 ∷ 101 ∷ 97 ∷ 102 ∷ []

abbrev pub refused_word : Bytes
refused_word = 114 ∷ 101 ∷ 102 ∷ 117 ∷ 115 ∷ 101 ∷ 100 ∷ []

abbrev pub bad_word : Bytes
bad_word = 98 ∷ 97 ∷ 100 ∷ []

abbrev pub line_word : Bytes
line_word = 108 ∷ 105 ∷ 110 ∷ 101 ∷ []

-- no upper key
abbrev pub star : Bytes
star = 42 ∷ []

unfoldable pub lined : Bytes → Bytes
lined s = s ++ (10 ∷ [])

-- the end of a leaf's line
unfoldable pub counts_text : (prefix pairs : ℕ) → Bytes
counts_text p n = 32 ∷ lined (number_text p ␣ number_text n)

abbrev pub answered : Answer → Bytes
answered none = lined none_word
answered (old v) = lined (old_word ␣ bytes_text v)
answered (value v) = lined (value_word ␣ bytes_text v)
answered (pair k v) = lined (pair_word ␣ bytes_text k ␣ bytes_text v)
answered end = lined end_word
answered (leaf l u p n) = lined (leaf_word ␣ bytes_text l ␣ bytes_text u ␣ number_text p ␣ number_text n)
answered (last l p n) = lined (leaf_word ␣ bytes_text l ␣ star ␣ number_text p ␣ number_text n)
answered made = lined new_word
answered (refused n) = lined (refused_word ␣ number_text n)
answered bad = lined (bad_word ␣ line_word)

-- there is room for the text from `at` on
abbrev pub Room : (out : Bytes) (at : ℕ) (text : Bytes) → Type 0
Room out at text = at + length text ≤ length out

-- the text was written from `at` on, and r is the place behind it; every other byte as it was
pub record Wrote (out out' : Bytes) (at : ℕ) (text : Bytes) (r : ℕ) : Type 0 where
  pub is : out' ≡ put out at text
  pub behind : r ≡ at + length text
  pub long : length out' ≡ length out
