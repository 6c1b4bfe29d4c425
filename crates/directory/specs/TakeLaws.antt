-- The directory word of the leaf that took over, field by field.
-- Assumes nothing.
use Rattle.std.specs.Prelude.{◌<◌, ◌≤◌, suc, ℕ, List, ◌∷◌, ◌≡◌, length, take}
use Rattle.std.proofs.Common.{◌∙◌, ap, drop-cons, get_or-take, length-take-le}
use Rattle.directory.specs.Takes.{taken_word}
use Rattle.directory.specs.Used.{used_from, word_at}
use Rattle.words.specs.Laws.{count_of_directory, count_small, leaf_of_directory}
use Rattle.words.specs.Words.{word_count, word_leaf}

pub taken_leaf : (dir : List ℕ) (j : ℕ) → word_leaf (taken_word dir j) ≡ word_leaf (word_at dir j)
taken_leaf dir j = leaf_of_directory (word_leaf (word_at dir j)) (word_count (word_at dir (suc j))) (count_small (word_at dir (suc j)))

pub taken_count : (dir : List ℕ) (j : ℕ) → word_count (taken_word dir j) ≡ word_count (word_at dir (suc j))
taken_count dir j = count_of_directory (word_leaf (word_at dir j)) (word_count (word_at dir (suc j))) (count_small (word_at dir (suc j)))

-- the next leaf's word and those behind it
pub next_cons : (dir : List ℕ) (leaves j : ℕ) → j < leaves → leaves ≤ length dir → used_from dir leaves j ≡ word_at dir j ∷ used_from dir leaves (suc j)
next_cons dir leaves j h k = drop-cons (take leaves dir) j 0 (rw (length-take-le leaves dir k) h) ∙ ap (λ (z : ℕ). z ∷ used_from dir leaves (suc j)) (get_or-take leaves dir j 0 h)
