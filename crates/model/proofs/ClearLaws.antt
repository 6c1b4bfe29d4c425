-- L8's `clear` against the Rust's, which removes every key in turn: on a list that is tiled and filled both end at one empty leaf with an
-- empty low key, whose number is the first leaf's; so at the same leaf list, and at the same nodes where that number is 0.
-- Assumes nothing.
use Rattle.std.specs.Prelude.{ℕ, Bool, true, List, [], ◌∷◌, ◌≡◌, refl, length}
use Rattle.std.proofs.Common.{append-nil, ap, ◌∙◌, sym, arith, length-append}
use Rattle.model.proofs.FilledLaws.{remove_filled}
use Rattle.model.specs.Good.{Bounds, Filled, Tiles}
use Rattle.model.specs.LeafViews.{fails, holds, merges, removal, stays, truth}
use Rattle.model.specs.Leaves.{Node, at_owner, node, pairs_of, reaches, with_pairs}
use Rattle.model.specs.Map.{Pair, remove}
use Rattle.model.proofs.PairLaws.{remove_pairs}
use Rattle.model.specs.Rules.{clear_rule, merge_from, remove_rule}
use Rattle.model.proofs.TileLaws.{remove_tiles}
use Rattle.order.specs.Bytes.{Bytes}
use Rattle.order.specs.OrderLaws.{cmp_refl}
use Rattle.model.specs.ClearEach.{remove_each, first_number}

remove_first_number : (merging : Bool) (k : Bytes) (ns : List Node) → first_number (remove_rule merging k ns) ≡ first_number ns
unfolding remove_rule at_owner merge_from
remove_first_number merging k [] = refl
remove_first_number merging k (n ∷ ns) =
    elim (truth (reaches k ns)) [
      | holds e ↦ rw e
      | fails e ↦ rw e (elim (removal merging k n ns) [ merges on' p x f q ↦ rw q (taken ns) | stays t q ↦ rw q ])
    ]
  where
    taken : (ns : List Node) → first_number (merge_from (with_pairs n []) ns) ≡ n.number
    taken [] = refl
    taken (m ∷ ns) = refl

remove_head : (p : Pair) (l : List Pair) → remove p.key (p ∷ l) ≡ l
unfolding remove
remove_head p l = rw (cmp_refl p.key)

-- a filled tiling without a pair is one empty leaf
nothing_left : {B : Bounds} (ns : List Node) → Tiles B ns → Filled ns → pairs_of ns ≡ [] → ns ≡ node (first_number ns) [] [] ∷ []
nothing_left [] t f e = absurd (let z : ◌≡◌ {A = ℕ} 0 1 = cc t.starts in omega arith)
nothing_left (n ∷ []) t f e =
    let low : n.low ≡ [] = cc t.starts in
    let empty : n.pairs ≡ [] = sym (append-nil n.pairs) ∙ e in
    ap (λ (x : Node). x ∷ []) (λ i. record { number = n.number; low = low i; pairs = empty i })
nothing_left (n ∷ m ∷ ns) t f e = absurd (omega (arith, f.0, ap length e, length-append n.pairs (pairs_of (m ∷ ns))))

remove_all : {B : Bounds} (l : List Pair) (ns : List Node) → Tiles B ns → Filled ns → pairs_of ns ≡ l → remove_each l ns ≡ node (first_number ns) [] [] ∷ []
unfolding remove_each
remove_all [] ns t f e = nothing_left ns t f e
remove_all {B} (p ∷ l) ns t f e =
    remove_all l (remove_rule true p.key ns) (remove_tiles B true p.key ns t) (remove_filled p.key ns f)
    (remove_pairs true p.key ns t ∙ ap (remove p.key) e ∙ remove_head p l)
    ∙ rw (remove_first_number true p.key ns)

-- the theorems

pub clear_each : {B : Bounds} (ns : List Node) → Tiles B ns → Filled ns → remove_each (pairs_of ns) ns ≡ node (first_number ns) [] [] ∷ []
clear_each ns t f = remove_all (pairs_of ns) ns t f refl

pub clear_same : {B : Bounds} (ns : List Node) → Tiles B ns → Filled ns → first_number ns ≡ 0 → remove_each (pairs_of ns) ns ≡ clear_rule ns
clear_same ns t f e = clear_each ns t f ∙ rw e
