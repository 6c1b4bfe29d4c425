-- The stored pairs cut first, and the new pair then put into the half that owns it.
use Rattle.std.specs.Prelude.{ℕ, drop, take}
use mathlib.Core.List.{List, [], ◌∷◌}
use Rattle.model.specs.Leaves.{Node, node, with_pairs}
use Rattle.model.specs.Map.{put}
use Rattle.order.specs.Bytes.{Bytes}

-- the new pair put into its owner, without a split
abbrev pub put_here : Bytes → Bytes → Node → List Node → List Node
put_here k v n ns = with_pairs n (put k v n.pairs) ∷ ns

-- the stored pairs cut in two, at a place that leaves the new pair room in its half
abbrev pub cut_stored : (free : ℕ) → Bytes → (a : ℕ) → Node → List Node
cut_stored free s a n = with_pairs n (take a n.pairs) ∷ node free s (drop a n.pairs) ∷ []
