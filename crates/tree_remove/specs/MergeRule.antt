-- L7 in two steps: the rule that merges takes the pair out as the rule that doesn't, and then merges the leaf where that left it empty and it has
-- a right neighbour.
-- Assumes nothing.
use Rattle.model.proofs.RuleEdits.{remove_edit}
use Rattle.std.specs.Prelude.{◌+◌, ◌<◌, ◌≤◌, suc, zero, ℕ, false, true, List, [], ◌++◌, ◌∷◌, ◌≡◌, refl, drop, length, take}
use Rattle.std.proofs.Common.{◌∙◌, ap, sym, arith, length-drop}
use Rattle.layout.specs.UsedLaws.{length_same}
use Rattle.merge.specs.Merges.{merge_at}
use Rattle.model.specs.Good.{Bounds, Tiles}
use Rattle.model.specs.LeafViews.{merges, removal, stays}
use Rattle.model.specs.Leaves.{Node, owner, with_pairs}
use Rattle.model.specs.Map.{Pair, pair, remove}
use Rattle.model.specs.MapParts.{length-remove}
use Rattle.model.proofs.OwnerLaws.{one_owner}
use Rattle.model.specs.Place.{at, place, place_key, place-lookup}
use Rattle.model.specs.Rules.{is_last, merge_from, remove_here, remove_rule}
use Rattle.order.specs.Bytes.{Bytes}
use Rattle.order.specs.OrderLaws.{cmp_equal}
use Rattle.route.specs.Routes.{leaf_at}

here_stays : (k : Bytes) (n : Node) (ns : List Node) → remove_here false k n ns ≡ with_pairs n (remove k n.pairs) ∷ ns
unfolding remove_here
here_stays k n ns = refl

-- a leaf list with one leaf changed

edit_leaf : (j : ℕ) (ns : List Node) (n : Node) → j < length ns → leaf_at (take j ns ++ (n ∷ drop (suc j) ns)) j ≡ n
edit_leaf j [] n h = absurd (omega arith)
edit_leaf zero (m ∷ ns) n h = refl
edit_leaf (suc j) (m ∷ ns) n h = edit_leaf j ns n (omega arith)

edit_ahead : (j : ℕ) (ns : List Node) (n : Node) → j < length ns → take j (take j ns ++ (n ∷ drop (suc j) ns)) ≡ take j ns
edit_ahead j [] n h = absurd (omega arith)
edit_ahead zero (m ∷ ns) n h = refl
edit_ahead (suc j) (m ∷ ns) n h = ap (λ (l : List Node). m ∷ l) (edit_ahead j ns n (omega arith))

edit_behind : (j : ℕ) (ns : List Node) (n : Node) → j < length ns → drop (suc j) (take j ns ++ (n ∷ drop (suc j) ns)) ≡ drop (suc j) ns
edit_behind j [] n h = absurd (omega arith)
edit_behind zero (m ∷ ns) n h = refl
edit_behind (suc j) (m ∷ ns) n h = edit_behind j ns n (omega arith)

-- a leaf without a right neighbour
merge_none : (n : Node) (ns : List Node) → length ns ≡ 0 → merge_from n ns ≡ n ∷ ns
unfolding merge_from
merge_none n [] e = refl
merge_none n (m ∷ ns) e = absurd (omega arith)

pub no_pairs : (m : List Pair) → length m ≡ 0 → m ≡ []
no_pairs [] e = refl
no_pairs (p ∷ m) e = absurd (omega arith)

-- the key of a pair whose taking out leaves none
last_key_lem : (k : Bytes) (m : List Pair) {i : ℕ} → place k m ≡ at i → length m ≡ 1 → is_last k m ≡ true
last_key_lem k [] p e = absurd (omega arith)
last_key_lem k (x ∷ []) {i} p e =
    let y = place_key (pair [] []) k (x ∷ []) i p in
    let z : i ≡ 0 = omega (arith, y.0) in
    let q : x.key ≡ k = rw z at y.1 in
    rw (cmp_equal (sym q)) refl
last_key_lem k (x ∷ y ∷ m) p e = absurd (omega arith)

module _ {B : Bounds} (k : Bytes) (ns : List Node) (t : Tiles B ns) {j i : ℕ} (o : j ≡ owner k ns) (p : place k (leaf_at ns j).pairs ≡ at i) where
  abbrev mid : List Node
  mid = remove_rule false k ns

  abbrev n : Node
  n = leaf_at ns j

  abbrev left : Node
  left = with_pairs n (remove k n.pairs)

  listed : j < length ns
  listed = rw o (one_owner k ns t).within

  mid_is : mid ≡ take j ns ++ (left ∷ drop (suc j) ns)
  mid_is = (rw (sym o) at (remove_edit false k ns t)) ∙ ap (λ (l : List Node). take j ns ++ l) (here_stays k n (drop (suc j) ns))

  one_less : length (remove k n.pairs) + 1 ≡ length n.pairs
  one_less = rw (place-lookup (pair [] []) k n.pairs i p) at (length-remove k n.pairs)

  pub mid_count : length mid ≡ length ns
  mid_count = ap length mid_is ∙ length_same ns j left listed

  mid_leaf : leaf_at mid j ≡ left
  mid_leaf = ap (λ (l : List Node). leaf_at l j) mid_is ∙ edit_leaf j ns left listed

  mid_pairs : length (leaf_at mid j).pairs ≡ length (remove k n.pairs)
  mid_pairs = ap (λ (x : Node). length x.pairs) mid_leaf

  mid_merged : merge_at j mid ≡ take j ns ++ merge_from left (drop (suc j) ns)
  mid_merged = rw (mid_leaf, mid_is, edit_ahead j ns left listed, edit_behind j ns left listed)

  merging_is : remove_rule true k ns ≡ take j ns ++ remove_here true k n (drop (suc j) ns)
  merging_is = rw (sym o) at (remove_edit true k ns t)

  -- emptied, with a right neighbour
  pub rule_merges : length (leaf_at mid j).pairs ≡ 0 → remove_rule true k ns ≡ merge_at j mid
  rule_merges e =
      let z : length (remove k n.pairs) ≡ 0 = omega (arith, e, mid_pairs) in
      elim (removal true k n (drop (suc j) ns)) [
        | merges y x f g q ↦ merging_is ∙ ap (λ (l : List Node). take j ns ++ l) q
            ∙ sym (mid_merged ∙ ap (λ (m : List Pair). take j ns ++ merge_from (with_pairs n m) (drop (suc j) ns)) (no_pairs (remove k n.pairs) z))
        | stays y q ↦ absurd (let b : ◌≡◌ {A = ℕ} 0 1 = cc (y refl, last_key_lem k n.pairs p (omega (arith, z, one_less))) in omega arith)
      ]

  -- a pair is left
  pub rule_stays : 0 < length (leaf_at mid j).pairs → remove_rule true k ns ≡ mid
  rule_stays e =
      elim (removal true k n (drop (suc j) ns)) [
        | merges y x f g q ↦ absurd (omega (arith, e, mid_pairs, one_less, ap length f))
        | stays y q ↦ merging_is ∙ ap (λ (l : List Node). take j ns ++ l) q ∙ sym mid_is
      ]

  -- no right neighbour
  pub rule_last : length mid ≤ suc j → remove_rule true k ns ≡ mid
  rule_last e =
      elim (removal true k n (drop (suc j) ns)) [
        | merges y x f g q ↦
            (let z : length (drop (suc j) ns) ≡ 0 = omega (arith, e, mid_count, length-drop (suc j) ns) in
            let w : remove k n.pairs ≡ [] = no_pairs (remove k n.pairs) (omega (arith, one_less, ap length f)) in
            merging_is ∙ ap (λ (l : List Node). take j ns ++ l) (q ∙ merge_none (with_pairs n []) (drop (suc j) ns) z)
            ∙ sym (mid_is ∙ ap (λ (m : List Pair). take j ns ++ (with_pairs n m ∷ drop (suc j) ns)) w))
        | stays y q ↦ merging_is ∙ ap (λ (l : List Node). take j ns ++ l) q ∙ sym mid_is
      ]
