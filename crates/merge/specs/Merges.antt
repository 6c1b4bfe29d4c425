-- L7 on an index: any empty leaf that has a right neighbour takes its pairs and its upper key. What is asked, and the leaf list left.
use Rattle.std.specs.Prelude.{ℕ, ◌<◌, suc, List, [], ◌++◌, ◌≡◌, drop, length, take}
use Rattle.layout.specs.Steps.{CanStep, Step}
use Rattle.layout.specs.declared.Header.{Header}
use Rattle.model.specs.Leaves.{Node}
use Rattle.model.specs.Rules.{merge_from}
use Rattle.route.specs.Routes.{leaf_at}

abbrev pub merge_at : (j : ℕ) → List Node → List Node
merge_at j ns = take j ns ++ merge_from (leaf_at ns j) (drop (suc j) ns)

pub record MergeAsked (j : ℕ) (ns : List Node) : Type 0 where
  pub next_in : suc j < length ns
  pub empty : (leaf_at ns j).pairs ≡ []

abbrev pub CanMergeLeaf : Header → (dir slots arena : List ℕ) → (j : ℕ) → Type 0
CanMergeLeaf h dir slots arena j = CanStep h dir slots arena (MergeAsked j)

abbrev pub MergedLeaf : Header → (dir slots arena : List ℕ) → (j : ℕ) → Header → (now_dir now_slots now_arena : List ℕ) → Type 0
MergedLeaf h dir slots arena j r now_dir now_slots now_arena = Step h dir slots arena (MergeAsked j) (merge_at j) r now_dir now_slots now_arena
