-- The low key of the leaf that an insert makes or a remove frees, if there is one.
use Rattle.std.specs.Prelude.{ℕ, Bool, ◌&&◌, cond, List, [], ◌∷◌, ◌≡◌, length}
use Rattle.std.proofs.Math.Option.{Option, none, some}
use Rattle.model.specs.LeafViews.{new_low}
use Rattle.model.specs.Leaves.{Node, low_of, owned, reaches, with_pairs}
use Rattle.model.specs.Map.{put}
use Rattle.model.specs.Rules.{is_last}
use Rattle.order.specs.Bytes.{Bytes}

-- the low key of the leaf that an insert makes, if it makes one
unfoldable pub insert_cut : (fanout : ℕ) → Bytes → Bytes → List Node → Option Bytes
insert_cut fanout k v [] = none
insert_cut fanout k v (n ∷ ns) =
    cond (reaches k ns) (insert_cut fanout k v ns) (new_low fanout (with_pairs n (put k v n.pairs)) (low_of ns))

-- the low key of the leaf that a remove frees, if it frees one
unfoldable pub remove_cut : (merging : Bool) → Bytes → List Node → Option Bytes
remove_cut merging k [] = none
remove_cut merging k (n ∷ ns) = cond (reaches k ns) (remove_cut merging k ns) (cond (merging && is_last k n.pairs) (low_of ns) none)

-- an insert makes a leaf exactly where it makes F pairs
pub data Cutting (F : ℕ) (k v : Bytes) (ns : List Node) : Type 0 where
  cuts : length (put k v (owned k ns)) ≡ F → (s : Bytes) → insert_cut F k v ns ≡ some s → Cutting F k v ns
  uncut : (length (put k v (owned k ns)) ≡ F → ⊥) → insert_cut F k v ns ≡ none → Cutting F k v ns
