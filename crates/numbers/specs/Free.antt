-- The numbers that the directory's first words give to leaves, and the lowest number that no leaf has (L6).
use Rattle.std.specs.Prelude.{◌<◌, ℕ, List, [], ◌≡◌, get_or, length}
use Rattle.model.specs.Leaves.{Node, node}
use Rattle.model.specs.Rules.{lowest_free}
use Rattle.words.specs.Words.{word_leaf}

-- the first words of the directory have the numbers of a leaf list
pub record Numbered (leaves : ℕ) (dir : List ℕ) (ns : List Node) : Type 0 where
  pub leaves_are : leaves ≡ length ns
  pub numbers_are : (j : ℕ) → j < leaves → word_leaf (get_or dir j 0) ≡ (get_or ns j (node 0 [] [])).number

-- r is the lowest free number of each such list
pub record FreeRead (leaves : ℕ) (dir : List ℕ) (r : ℕ) : Type 0 where
  pub lowest : (ns : List Node) → Numbered leaves dir ns → r ≡ lowest_free ns
