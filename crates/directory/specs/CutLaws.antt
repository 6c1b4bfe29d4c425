-- The two halves' directory words, field by field.
-- Assumes nothing.
use Rattle.std.specs.Prelude.{◌-◌, ◌<◌, ◌^◌, ◌≤◌, ℕ, List, ◌≡◌}
use Rattle.std.proofs.Common.{arith}
use Rattle.directory.specs.Cuts.{left_word, right_word}
use Rattle.directory.specs.Used.{word_at}
use Rattle.words.specs.Laws.{count_of_directory, count_small, leaf_of_directory}
use Rattle.words.specs.Words.{word_count, word_leaf}

-- the fields of the two halves' words

under_small : (x y : ℕ) → x ≤ y → y < 2 ^ 20 → x < 2 ^ 20
under_small x y h k = omega arith

less_small : (x y : ℕ) → x < 2 ^ 20 → x - y < 2 ^ 20
less_small x y h = omega arith

module _ (dir : List ℕ) (j i free : ℕ) where
  pub left_leaf : i ≤ word_count (word_at dir j) → word_leaf (left_word dir j i) ≡ word_leaf (word_at dir j)
  left_leaf h = leaf_of_directory (word_leaf (word_at dir j)) i (under_small i (word_count (word_at dir j)) h (count_small (word_at dir j)))

  pub left_count : i ≤ word_count (word_at dir j) → word_count (left_word dir j i) ≡ i
  left_count h = count_of_directory (word_leaf (word_at dir j)) i (under_small i (word_count (word_at dir j)) h (count_small (word_at dir j)))

  right_small : word_count (word_at dir j) - i < 2 ^ 20
  right_small = less_small (word_count (word_at dir j)) i (count_small (word_at dir j))

  pub right_leaf : word_leaf (right_word dir j i free) ≡ free
  right_leaf = leaf_of_directory free (word_count (word_at dir j) - i) right_small

  pub right_count : word_count (right_word dir j i free) ≡ word_count (word_at dir j) - i
  right_count = count_of_directory free (word_count (word_at dir j) - i) right_small
