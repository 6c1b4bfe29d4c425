-- A longer value goes in as a new pair, the old one taken out first: the key then stands in the gap where its pair was, in the same leaf, which
-- has one pair less, and putting the new pair in gives what the insert into the whole leaf list gives.
-- Assumes nothing.
use Prim.Native.Nat.{ℕ, zero, suc}
use Rattle.std.specs.Prelude.{Bool, false, true, ◌||◌, length}
use Rattle.std.proofs.Math.Bool.{cond}
use mathlib.Core.List.{List, [], ◌∷◌, ◌++◌}
use Rattle.std.proofs.Math.Option.{some}
use Rattle.std.proofs.Math.Path.{◌≡◌, refl, ap, sym}
use Rattle.std.proofs.Common.{◌∙◌, arith}
use Rattle.std.proofs.Math.Dec.{eqb}
use Rattle.lists.specs.All.{All}
use Rattle.model.specs.Good.{Bounds, Tiled, Tiles}
use Rattle.model.specs.LeafViews.{on, side, stay}
use Rattle.model.specs.Leaves.{Node, at_owner, low_of, owner, reaches, with_pairs}
use Rattle.model.specs.Map.{Above, Pair, Rising, lookup, pair, put, remove}
use Rattle.model.specs.MapParts.{length-remove}
use Rattle.model.proofs.OwnerLaws.{tiles_first}
use Rattle.model.specs.Place.{Place, at, gap, next, place}
use Rattle.model.specs.Rules.{free_from, insert_here, insert_rule, lowest_free, remove_here, remove_rule, split_if_full, used}
use Rattle.order.specs.Bytes.{Bytes}
use Rattle.order.specs.OrderLaws.{after, before, cmp_after, cmp_before, cmp_equal, equal, tri}
use Rattle.route.specs.Routes.{leaf_at}

-- in the leaf's own pairs

module _ (k v : Bytes) where
  put_front : (m : List Pair) → All (Above k) m → put k v m ≡ pair k v ∷ m
  unfolding put
  put_front [] a = refl
  put_front (p ∷ m) a = rw (cmp_before a.0)

  pub put_removed : (m : List Pair) → Rising m → put k v (remove k m) ≡ put k v m
  unfolding put remove
  put_removed [] r = refl
  put_removed (p ∷ m) r =
      elim (tri k p.key) [
        | before h ↦ rw (cmp_before h) (rw (cmp_before h))
        | equal e ↦ rw (cmp_equal e) (put_front m (rw e r.0))
        | after h ↦ rw (cmp_after h) (rw (cmp_after h) (rw (put_removed m r.1)))
      ]

module _ (k : Bytes) where
  place_front : (m : List Pair) → All (Above k) m → place k m ≡ gap 0
  unfolding place
  place_front [] a = refl
  place_front (p ∷ m) a = rw (cmp_before a.0)

  pub gap_removed : (m : List Pair) (i : ℕ) → Rising m → place k m ≡ at i → place k (remove k m) ≡ gap i
  unfolding place remove
  gap_removed [] i r e = absurd (let z : ◌≡◌ {A = ℕ} 0 1 = cc e in omega (arith, z))
  gap_removed (p ∷ m) i r e =
      elim (tri k p.key) [
        | before h ↦ absurd (let z : ◌≡◌ {A = ℕ} 0 1 = cc (rw (cmp_before h) at e) in omega (arith, z))
        | equal q ↦
            (let z : at 0 ≡ at i = rw (cmp_equal q) at e in
            let w : ◌≡◌ {A = ℕ} 0 i = cc in
            rw (cmp_equal q) (place_front m (rw q r.0) ∙ ap gap w))
        | after h ↦ rw (cmp_after h) (rw (cmp_after h) (behind (λ j q. gap_removed m j r.1 q) (place k m) refl (rw (cmp_after h) at e)))
      ]
    where
      behind : ((j : ℕ) → place k m ≡ at j → place k (remove k m) ≡ gap j) → (x : Place) → place k m ≡ x → next x ≡ at i → next (place k (remove k m)) ≡ gap i
      behind f (gap j) q s = absurd (let z : ◌≡◌ {A = ℕ} 0 1 = cc in omega arith)
      behind f (at j) q s =
          let z : at (suc j) ≡ at i = s in
          let w : suc j ≡ i = cc in
          ap next (f j q) ∙ ap gap w

  pub count_removed : (m : List Pair) {b : Bytes} → lookup k m ≡ some b → suc (length (remove k m)) ≡ length m
  count_removed m l = let e = rw l at (length-remove k m) in omega (arith, e)

-- in the leaf list

abbrev taken : Bytes → List Node → List Node
taken k ns = remove_rule false k ns

module _ (k : Bytes) where
  taken_one : (n : Node) → taken k (n ∷ []) ≡ with_pairs n (remove k n.pairs) ∷ []
  unfolding remove_rule remove_here at_owner
  taken_one n = refl

  taken_on : (n m : Node) (ns : List Node) → reaches k (m ∷ ns) ≡ true → taken k (n ∷ m ∷ ns) ≡ n ∷ taken k (m ∷ ns)
  unfolding remove_rule remove_here at_owner
  taken_on n m ns e = rw e

  taken_here : (n m : Node) (ns : List Node) → reaches k (m ∷ ns) ≡ false → taken k (n ∷ m ∷ ns) ≡ with_pairs n (remove k n.pairs) ∷ m ∷ ns
  unfolding remove_rule remove_here at_owner
  taken_here n m ns e = rw e

  -- the leaves keep their low keys and numbers

  taken_reaches : (n : Node) (ns : List Node) → reaches k (taken k (n ∷ ns)) ≡ reaches k (n ∷ ns)
  taken_reaches n [] = ap (reaches k) (taken_one n)
  taken_reaches n (m ∷ ns) =
      elim (side k m ns) [
        | on e u ↦ ap (reaches k) (taken_on n m ns e)
        | stay e b ↦ ap (reaches k) (taken_here n m ns e)
      ]

  taken_used : (i : ℕ) (n : Node) (ns : List Node) → used i (taken k (n ∷ ns)) ≡ used i (n ∷ ns)
  unfolding used
  taken_used i n [] = ap (used i) (taken_one n)
  taken_used i n (m ∷ ns) =
      elim (side k m ns) [
        | on e u ↦ ap (used i) (taken_on n m ns e) ∙ ap (λ (b : Bool). eqb i n.number || b) (taken_used i m ns)
        | stay e b ↦ ap (used i) (taken_here n m ns e)
      ]

  taken_count : (n : Node) (ns : List Node) → length (taken k (n ∷ ns)) ≡ length (n ∷ ns)
  taken_count n [] = ap length (taken_one n)
  taken_count n (m ∷ ns) =
      elim (side k m ns) [
        | on e u ↦ ap length (taken_on n m ns e) ∙ ap suc (taken_count m ns)
        | stay e b ↦ ap length (taken_here n m ns e)
      ]

  taken_owner : (n : Node) (ns : List Node) → owner k (taken k (n ∷ ns)) ≡ owner k (n ∷ ns)
  unfolding owner
  taken_owner n [] = ap (owner k) (taken_one n)
  taken_owner n (m ∷ ns) =
      elim (side k m ns) [
        | on e u ↦ ap (owner k) (taken_on n m ns e)
            ∙ ap (λ (b : Bool). cond b (suc (owner k (taken k (m ∷ ns)))) 0) (taken_reaches m ns)
            ∙ ap (λ (i : ℕ). cond (reaches k (m ∷ ns)) (suc i) 0) (taken_owner m ns)
        | stay e b ↦ ap (owner k) (taken_here n m ns e)
      ]

  taken_leaf : (n : Node) (ns : List Node)
      → leaf_at (taken k (n ∷ ns)) (owner k (n ∷ ns)) ≡ with_pairs (leaf_at (n ∷ ns) (owner k (n ∷ ns))) (remove k (leaf_at (n ∷ ns) (owner k (n ∷ ns))).pairs)
  unfolding owner
  taken_leaf n [] = ap (λ (ms : List Node). leaf_at ms 0) (taken_one n)
  taken_leaf n (m ∷ ns) =
      elim (side k m ns) [
        | on e u ↦ rw (e, taken_on n m ns e) (taken_leaf m ns)
        | stay e b ↦ rw (e, taken_here n m ns e)
      ]

-- so the same number is free

free_same : (l m : List Node) → ((i : ℕ) → used i l ≡ used i m) → (s i : ℕ) → free_from s i l ≡ free_from s i m
unfolding free_from
free_same l m u zero i = refl
free_same l m u (suc s) i =
    ap (λ (b : Bool). cond b (free_from s (suc i) l) i) (u i) ∙ ap (λ (j : ℕ). cond (used i m) j i) (free_same l m u s (suc i))

taken_free : (k : Bytes) (n : Node) (ns : List Node) → lowest_free (taken k (n ∷ ns)) ≡ lowest_free (n ∷ ns)
unfolding lowest_free
taken_free k n ns =
    ap (λ (s : ℕ). free_from s 0 (taken k (n ∷ ns))) (taken_count k n ns)
    ∙ free_same (taken k (n ∷ ns)) (n ∷ ns) (λ i. taken_used k i n ns) (length (n ∷ ns)) 0

-- and the insert finds what it finds in the whole list

module _ (F free : ℕ) (k v : Bytes) where
  put_again : (n : Node) (ns : List Node) → Rising n.pairs → insert_here F free k v (with_pairs n (remove k n.pairs)) ns ≡ insert_here F free k v n ns
  unfolding insert_here
  put_again n ns r = ap (λ (m : List Pair). split_if_full F free (with_pairs n m) (low_of ns) ++ ns) (put_removed k v n.pairs r)

  taken_edit : {B : Bounds} (n : Node) (ns : List Node) → Tiled B (n ∷ ns) → at_owner (insert_here F free k v) k (taken k (n ∷ ns)) ≡ at_owner (insert_here F free k v) k (n ∷ ns)
  unfolding at_owner
  taken_edit n [] t = ap (at_owner (insert_here F free k v) k) (taken_one k n) ∙ put_again n [] t.0.0.rises
  taken_edit n (m ∷ ns) t =
      elim (side k m ns) [
        | on e u ↦ ap (at_owner (insert_here F free k v) k) (taken_on k n m ns e)
            ∙ ap (λ (b : Bool). cond b (n ∷ at_owner (insert_here F free k v) k (taken k (m ∷ ns))) (insert_here F free k v n (taken k (m ∷ ns)))) (taken_reaches k m ns ∙ e)
            ∙ ap (λ (l : List Node). n ∷ l) (taken_edit m ns t.1) ∙ sym (rw e)
        | stay e b ↦ rw (taken_here k n m ns e) (rw e (put_again n (m ∷ ns) t.0.0.rises))
      ]

insert_taken : {B : Bounds} (F : ℕ) (k v : Bytes) (n : Node) (ns : List Node) → Tiled B (n ∷ ns) → insert_rule F k v (taken k (n ∷ ns)) ≡ insert_rule F k v (n ∷ ns)
unfolding insert_rule
insert_taken F k v n ns t =
    ap (λ (i : ℕ). at_owner (insert_here F i k v) k (taken k (n ∷ ns))) (taken_free k n ns) ∙ taken_edit F (lowest_free (n ∷ ns)) k v n ns t

-- all together

pub record TakenOut (F : ℕ) (k v : Bytes) (ns : List Node) : Type 0 where
  pub owner_is : owner k (remove_rule false k ns) ≡ owner k ns
  pub leaf_is : leaf_at (remove_rule false k ns) (owner k ns) ≡ with_pairs (leaf_at ns (owner k ns)) (remove k (leaf_at ns (owner k ns)).pairs)
  pub rule : insert_rule F k v (remove_rule false k ns) ≡ insert_rule F k v ns

pub taken_out : {B : Bounds} (F : ℕ) (k v : Bytes) (ns : List Node) → Tiles B ns → TakenOut F k v ns
taken_out F k v ns t =
    tiles_first (TakenOut F k v)
    (λ n ms h u. record { owner_is = taken_owner k n ms; leaf_is = taken_leaf k n ms; rule = insert_taken F k v n ms u }) ns t
