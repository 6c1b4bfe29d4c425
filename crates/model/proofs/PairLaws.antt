-- Demand 2's map: the pairs of a tiled leaf list rise strictly, `insert_rule` puts and `remove_rule` removes in them, and what the owning leaf
-- finds is what all leaves find.
-- Assumes nothing.
use Rattle.std.specs.Prelude.{◌*◌, ◌≤◌, ℕ, false, Bool, ◌≡◌, refl, drop, length, take}
use Rattle.std.proofs.Math.Bool.{and-false}
use mathlib.Core.List.{List, [], ◌++◌, ◌∷◌, append_assoc, append-nil}
use Rattle.std.proofs.Math.Option.{none, Option, some}
use Rattle.std.proofs.Common.{◌∙◌, suc-mul, arith, length-append, take-append-drop}
use Rattle.std.proofs.Math.Path.{sym}
use Rattle.lists.specs.All.{All, all_append, all_mono}
use Rattle.model.specs.Good.{Bounds, GoodLeaf, Tiled, Tiles, Within}
use Rattle.model.specs.LeafViews.{fails, holds, truth, full, merges, offset_of, on, removal, settled, side, slack, stay, stays}
use Rattle.model.specs.Leaves.{reaches, Node, Under, at_owner, low_of, owned, pairs_of, with_pairs}
use Rattle.model.specs.Map.{put, Above, Below, From, Pair, Rising, lookup, remove}
use Rattle.model.specs.MapLaws.{rising_append}
use Rattle.model.specs.MapParts.{lookup_left, lookup_right, put_left, put_right, remove_left, remove_right}
use Rattle.model.proofs.OwnerLaws.{tiles_first}
use Rattle.model.specs.Rules.{is_last, halves, insert_here, insert_rule, lowest_free, merge_from, remove_here, remove_rule, split_if_full}
use Rattle.order.specs.Bytes.{Bytes, ◌≼◌}
use Rattle.order.specs.OrderLaws.{after, before, cmp_after, cmp_before, equal, tri, below_asym, below_upto_trans, cmp_equal, upto_trans}

module _ (B : Bounds) where
  -- every key of a tiled list is at or above its first low key

  pub from_low : {upper : Option Bytes} {n : Node} → GoodLeaf B n upper → All (From n.low) n.pairs
  from_low {upper} {n} g = all_mono n.pairs (λ p s. s.0) g.spanned

  pub under_upper : {u : Bytes} {n : Node} → GoodLeaf B n (some u) → All (Below u) n.pairs
  under_upper {u} {n} g = all_mono n.pairs (λ p s. s.1) g.spanned

  pub from_pairs : (n : Node) (ns : List Node) → Tiled B (n ∷ ns) → All (From n.low) (pairs_of (n ∷ ns))
  from_pairs n [] t = all_append (From n.low) n.pairs [] (from_low t.0.0) tt
  from_pairs n (m ∷ ns) t =
      all_append (From n.low) n.pairs (pairs_of (m ∷ ns)) (from_low t.0.0)
      (all_mono (pairs_of (m ∷ ns)) (λ q h. upto_trans (below_asym t.0.0.low_under) h) (from_pairs m ns t.1))

  pub above_rest : (k : Bytes) (ns : List Node) → Tiled B ns → Under (low_of ns) k → All (Above k) (pairs_of ns)
  above_rest k [] t h = tt
  above_rest k (n ∷ ns) t h = all_mono (pairs_of (n ∷ ns)) (λ q j. below_upto_trans h j) (from_pairs n ns t)

  pub below_next : (k : Bytes) (n m : Node) (ns : List Node) → Tiled B (n ∷ m ∷ ns) → m.low ≼ k → All (Below k) n.pairs
  below_next k n m ns t u = all_mono n.pairs (λ q b. below_upto_trans b u) (under_upper t.0.0)

  pub pairs_within : (ns : List Node) → Tiled B ns → All (Within B) (pairs_of ns)
  pairs_within [] t = tt
  pairs_within (n ∷ ns) t = all_append (Within B) n.pairs (pairs_of ns) t.0.0.within (pairs_within ns t.1)

  pub pairs_most : (ns : List Node) → Tiled B ns → length (pairs_of ns) ≤ length ns * B.fanout
  pairs_most [] t = omega arith
  pairs_most (n ∷ ns) t = rw (length-append, suc-mul) (omega (arith, pairs_most ns t.1, t.0.1))

  pub rising_pairs : (ns : List Node) → Tiled B ns → Rising (pairs_of ns)
  rising_pairs [] t = tt
  rising_pairs (n ∷ []) t = rw (append-nil n.pairs) t.0.0.rises
  rising_pairs (n ∷ m ∷ ns) t =
      rising_append n.pairs (pairs_of (m ∷ ns)) m.low t.0.0.rises (rising_pairs (m ∷ ns) t.1) (under_upper t.0.0) (from_pairs m ns t.1)

  -- a change at the owner changes all pairs as g does, where g goes by parts
  module _ (k : Bytes) (f : Node → List Node → List Node) (g : List Pair → List Pair)
      (left : (l m : List Pair) → All (Above k) m → g (l ++ m) ≡ g l ++ m)
      (right : (l m : List Pair) → All (Below k) l → g (l ++ m) ≡ l ++ g m)
      (here : (n : Node) (ns : List Node) → pairs_of (f n ns) ≡ g n.pairs ++ pairs_of ns) where
    owner_pairs : (n : Node) (ns : List Node) → n.low ≼ k → Tiled B (n ∷ ns) → pairs_of (at_owner f k (n ∷ ns)) ≡ g (pairs_of (n ∷ ns))
    unfolding at_owner
    owner_pairs n [] h t = here n [] ∙ sym (left n.pairs [] tt)
    owner_pairs n (m ∷ ns) h t =
        elim (side k m ns) [
          | on e u ↦ rw e (rw (owner_pairs m ns u t.1) (sym (right n.pairs (pairs_of (m ∷ ns)) (below_next k n m ns t u))))
          | stay e b ↦ rw e (here n (m ∷ ns) ∙ sym (left n.pairs (pairs_of (m ∷ ns)) (above_rest k (m ∷ ns) t.1 b)))
        ]

-- a split changes no pair
split_pairs : (F free : ℕ) (n : Node) (u : Option Bytes) (ns : List Node) → pairs_of (split_if_full F free n u ++ ns) ≡ n.pairs ++ pairs_of ns
unfolding halves
split_pairs F free n u ns =
    elim (settled F free n u) [
      | full e q w ↦ rw q
          (sym (append_assoc (take (offset_of n u) n.pairs) (drop (offset_of n u) n.pairs) (pairs_of ns)) ∙ rw (take-append-drop (offset_of n u) n.pairs))
      | slack e q w ↦ rw q
    ]

-- a merge changes no pair
pub merge_pairs : (n : Node) (ns : List Node) → n.pairs ≡ [] → pairs_of (merge_from n ns) ≡ pairs_of ns
unfolding merge_from
merge_pairs n [] e = rw e
merge_pairs n (m ∷ ns) e = refl

remove_only : (k : Bytes) (p : Pair) → k ≡ p.key → remove k (p ∷ []) ≡ []
unfolding remove
remove_only k p e = rw (cmp_equal e)

remove_here_lem : (merging : Bool) (k : Bytes) (n : Node) (ns : List Node) → pairs_of (remove_here merging k n ns) ≡ remove k n.pairs ++ pairs_of ns
remove_here_lem merging k n ns =
    elim (removal merging k n ns) [
      | merges on' p e f q ↦ rw q (merge_pairs (with_pairs n []) ns refl ∙ rw (e, remove_only k p f))
      | stays t q ↦ rw q
    ]

-- the two theorems

pub insert_pairs : {B : Bounds} (F : ℕ) (k v : Bytes) (ns : List Node) → Tiles B ns → pairs_of (insert_rule F k v ns) ≡ put k v (pairs_of ns)
unfolding insert_rule insert_here
insert_pairs {B} F k v ns t =
    tiles_first (λ ms. pairs_of (insert_rule F k v ms) ≡ put k v (pairs_of ms))
    (λ n ms h u. owner_pairs B k (insert_here F (lowest_free (n ∷ ms)) k v) (put k v) (put_left k v) (put_right k v)
    (λ x xs. split_pairs F (lowest_free (n ∷ ms)) (with_pairs x (put k v x.pairs)) (low_of xs) xs) n ms (h k) u)
    ns t

pub remove_pairs : {B : Bounds} (merging : Bool) (k : Bytes) (ns : List Node) → Tiles B ns → pairs_of (remove_rule merging k ns) ≡ remove k (pairs_of ns)
unfolding remove_rule
remove_pairs {B} merging k ns t =
    tiles_first (λ ms. pairs_of (remove_rule merging k ms) ≡ remove k (pairs_of ms))
    (λ n ms h u. owner_pairs B k (remove_here merging k) (remove k) (remove_left k) (remove_right k) (remove_here_lem merging k) n ms (h k) u)
    ns t

-- what the owner finds
module _ (B : Bounds) (k : Bytes) where
  owned_finds : (n : Node) (ns : List Node) → Tiled B (n ∷ ns) → lookup k (owned k (n ∷ ns)) ≡ lookup k (pairs_of (n ∷ ns))
  unfolding owned
  owned_finds n [] t = sym (lookup_left k n.pairs [] tt)
  owned_finds n (m ∷ ns) t =
      elim (side k m ns) [
        | on e u ↦ rw e (owned_finds m ns t.1 ∙ sym (lookup_right k n.pairs (pairs_of (m ∷ ns)) (below_next B k n m ns t u)))
        | stay e b ↦ rw e (sym (lookup_left k n.pairs (pairs_of (m ∷ ns)) (above_rest B k (m ∷ ns) t.1 b)))
      ]

pub lookup-owned : {B : Bounds} (k : Bytes) (ns : List Node) → Tiles B ns → lookup k (owned k ns) ≡ lookup k (pairs_of ns)
lookup-owned {B} k ns t = tiles_first (λ ms. lookup k (owned k ms) ≡ lookup k (pairs_of ms)) (λ n ms h u. owned_finds B k n ms u) ns t

-- an absent key changes no list

pub absent_not_last : (k : Bytes) (m : List Pair) → lookup k m ≡ none → is_last k m ≡ false
unfolding lookup
absent_not_last k [] h = refl
absent_not_last k (p ∷ []) h =
    elim (tri k p.key) [
      | before b ↦ rw (cmp_before b)
      | equal e ↦ absurd (let z : ◌≡◌ {A = ℕ} 0 1 = cc (rw (cmp_equal e) at h) in omega arith)
      | after b ↦ rw (cmp_after b)
    ]
absent_not_last k (p ∷ q ∷ m) h = refl

remove_absent_pairs : (k : Bytes) (m : List Pair) → lookup k m ≡ none → remove k m ≡ m
unfolding lookup remove
remove_absent_pairs k [] h = refl
remove_absent_pairs k (p ∷ m) h =
    elim (tri k p.key) [
      | before b ↦ rw (cmp_before b)
      | equal e ↦ absurd (let z : ◌≡◌ {A = ℕ} 0 1 = cc (rw (cmp_equal e) at h) in omega arith)
      | after b ↦ rw (cmp_after b) (rw (remove_absent_pairs k m (rw (cmp_after b) at h)))
    ]

pub remove_absent : (merging : Bool) (k : Bytes) (ns : List Node) → lookup k (owned k ns) ≡ none → remove_rule merging k ns ≡ ns
unfolding remove_rule remove_here at_owner owned
remove_absent merging k [] h = refl
remove_absent merging k (n ∷ ns) h =
    elim (truth (reaches k ns)) [
      | holds e ↦ rw e (rw (remove_absent merging k ns (rw e at h)))
      | fails e ↦
          (let a : lookup k n.pairs ≡ none = rw e at h in
          rw (e, absent_not_last k n.pairs a, and-false merging) (rw (remove_absent_pairs k n.pairs a)))
    ]
