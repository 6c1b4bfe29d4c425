-- L9: stored bytes exactly, after an insert that doesn't split, after a split, and after a remove that doesn't merge. (After a merge:
-- StoredLaws.)
-- Assumes nothing.
use Rattle.std.specs.Prelude.{◌+◌, ◌-◌, ℕ, cond, false, true, ◌≡◌, drop, take, length}
use mathlib.Core.List.{◌++◌, List, [], ◌∷◌}
use Rattle.std.proofs.Math.Option.{Option, none, some}
use Rattle.std.proofs.Common.{ap, arith}
use Rattle.std.proofs.Math.Path.{refl}
use Rattle.model.specs.Charge.{stored, stored_pairs}
use Rattle.model.specs.LeafViews.{full, settled, slack, fails, holds, truth}
use Rattle.model.specs.Leaves.{owned, with_pairs, Node, at_owner, low_of, prefix_length, reaches}
use Rattle.model.specs.Map.{Pair, lookup, put, remove}
use Rattle.model.specs.Rules.{cut_key, halves, remove_here, remove_rule, insert_here, insert_rule, lowest_free, split_if_full}
use Rattle.order.specs.Bytes.{Bytes}
use Rattle.order.specs.OrderLaws.{after, before, cmp_after, cmp_before, cmp_equal, equal, tri}

-- what a found pair stores behind a prefix
abbrev pub stored_cost : (prefix : ℕ) → Bytes → Option Bytes → ℕ
stored_cost prefix k none = 0
stored_cost prefix k (some v) = (length k - prefix) + length v

-- the prefix length of the leaf that owns k
unfoldable pub owned_prefix : Bytes → List Node → ℕ
owned_prefix k [] = 0
owned_prefix k (n ∷ ns) = cond (reaches k ns) (owned_prefix k ns) (prefix_length n.low (low_of ns))

stored_put : (c : ℕ) (k v : Bytes) (m : List Pair) → stored_pairs c (put k v m) + stored_cost c k (lookup k m) ≡ stored_pairs c m + ((length k - c) + length v)
unfolding put lookup stored_pairs
stored_put c k v [] = omega arith
stored_put c k v (p ∷ m) =
    elim (tri k p.key) [
      | before h ↦ rw (cmp_before h) (omega arith)
      | equal h ↦ rw (cmp_equal h) (omega (arith, ap length h))
      | after h ↦ rw (cmp_after h) (omega (arith, stored_put c k v m))
    ]

stored_remove : (c : ℕ) (k : Bytes) (m : List Pair) → stored_pairs c (remove k m) + stored_cost c k (lookup k m) ≡ stored_pairs c m
unfolding remove lookup stored_pairs
stored_remove c k [] = omega arith
stored_remove c k (p ∷ m) =
    elim (tri k p.key) [
      | before h ↦ rw (cmp_before h) (omega arith)
      | equal h ↦ rw (cmp_equal h) (omega (arith, ap length h))
      | after h ↦ rw (cmp_after h) (omega (arith, stored_remove c k m))
    ]

-- a leaf before others, by their first low key
stored_before : (n : Node) (ms : List Node) (u : Bytes) → low_of ms ≡ some u
    → stored (n ∷ ms) ≡ length n.low + stored_pairs (prefix_length n.low (some u)) n.pairs + stored ms
unfolding stored
stored_before n ms u e = rw e

-- a change at the owner that keeps its low key: the leaves before it store what they did
module _ (k : Bytes) (f : Node → List Node → List Node) (x y : List Node → ℕ)
    (low : (n : Node) (ns : List Node) → low_of (f n ns) ≡ some n.low)
    (step : (n m : Node) (ns : List Node) → reaches k (m ∷ ns) ≡ true → (x (n ∷ m ∷ ns) ≡ x (m ∷ ns)) × (y (n ∷ m ∷ ns) ≡ y (m ∷ ns))) where
  low_kept : (n : Node) (ns : List Node) → low_of (at_owner f k (n ∷ ns)) ≡ some n.low
  unfolding at_owner
  low_kept n ns = elim (truth (reaches k ns)) [ holds e ↦ rw e | fails e ↦ rw e (low n ns) ]

  owner_stored : (P : List Node → Type 0)
      → ((n m : Node) (ns : List Node) → reaches k (m ∷ ns) ≡ true → P (n ∷ m ∷ ns) → P (m ∷ ns))
      → ((n : Node) (ns : List Node) → reaches k ns ≡ false → P (n ∷ ns) → stored (f n ns) + x (n ∷ ns) ≡ stored (n ∷ ns) + y (n ∷ ns))
      → (n : Node) (ns : List Node) → P (n ∷ ns) → stored (at_owner f k (n ∷ ns)) + x (n ∷ ns) ≡ stored (n ∷ ns) + y (n ∷ ns)
  unfolding at_owner
  owner_stored P next here n [] p = here n [] refl p
  owner_stored P next here n (m ∷ ns) p =
      elim (truth (reaches k (m ∷ ns))) [
        | holds e ↦
            (let s = step n m ns e in
            let i = owner_stored P next here m ns (next n m ns e p) in
            let g = stored_before n (at_owner f k (m ∷ ns)) m.low (low_kept m ns) in
            let h = stored_before n (m ∷ ns) m.low refl in
            rw e (omega (arith, g, h, i, s.0, s.1)))
        | fails e ↦ rw e (here n (m ∷ ns) e p)
      ]

-- the theorems

abbrev stays : (fanout : ℕ) → Bytes → Bytes → List Node → Type 0
stays fanout k v ns = length (put k v (owned k ns)) ≡ fanout → ⊥

owned_on : (k : Bytes) (n m : Node) (ns : List Node) → reaches k (m ∷ ns) ≡ true → owned k (n ∷ m ∷ ns) ≡ owned k (m ∷ ns)
unfolding owned
owned_on k n m ns e = rw e

owned_here : (k : Bytes) (n : Node) (ns : List Node) → reaches k ns ≡ false → owned k (n ∷ ns) ≡ n.pairs
unfolding owned
owned_here k n ns e = rw e

prefix_on : (k : Bytes) (n m : Node) (ns : List Node) → reaches k (m ∷ ns) ≡ true → owned_prefix k (n ∷ m ∷ ns) ≡ owned_prefix k (m ∷ ns)
unfolding owned_prefix
prefix_on k n m ns e = rw e

prefix_here : (k : Bytes) (n : Node) (ns : List Node) → reaches k ns ≡ false → owned_prefix k (n ∷ ns) ≡ prefix_length n.low (low_of ns)
unfolding owned_prefix
prefix_here k n ns e = rw e

stored_leaf : (n : Node) (ns : List Node) → stored (n ∷ ns) ≡ length n.low + stored_pairs (prefix_length n.low (low_of ns)) n.pairs + stored ns
unfolding stored
stored_leaf n ns = refl

halves_low : (free at : ℕ) (n : Node) (ns : List Node) → low_of (halves free at n ++ ns) ≡ some n.low
unfolding halves
halves_low free at n ns = refl

-- an insert that doesn't split stores the new suffix and value, less what it replaces
pub insert_stored : (F : ℕ) (k v : Bytes) (n : Node) (ns : List Node) → (length (put k v (owned k (n ∷ ns))) ≡ F → ⊥)
    → stored (insert_rule F k v (n ∷ ns)) + stored_cost (owned_prefix k (n ∷ ns)) k (lookup k (owned k (n ∷ ns)))
    ≡ stored (n ∷ ns) + ((length k - owned_prefix k (n ∷ ns)) + length v)
unfolding insert_rule insert_here
insert_stored F k v n ns h =
    owner_stored k (insert_here F (lowest_free (n ∷ ns)) k v)
    (λ ms. stored_cost (owned_prefix k ms) k (lookup k (owned k ms)))
    (λ ms. (length k - owned_prefix k ms) + length v)
    low
    (λ x m ms e. (rw (owned_on k x m ms e, prefix_on k x m ms e), rw (prefix_on k x m ms e)))
    (stays F k v)
    (λ x m ms e g. rw (owned_on k x m ms e) at g)
    here n ns h
  where
    low : (x : Node) (ms : List Node) → low_of (split_if_full F (lowest_free (n ∷ ns)) (with_pairs x (put k v x.pairs)) (low_of ms) ++ ms) ≡ some x.low
    low x ms = elim (settled F (lowest_free (n ∷ ns)) (with_pairs x (put k v x.pairs)) (low_of ms)) [ full e q w ↦ rw q (halves_low _ _ (with_pairs x (put k v x.pairs)) ms) | slack e q w ↦ rw q ]

    here : (x : Node) (ms : List Node) → reaches k ms ≡ false → stays F k v (x ∷ ms)
        → stored (split_if_full F (lowest_free (n ∷ ns)) (with_pairs x (put k v x.pairs)) (low_of ms) ++ ms) + stored_cost (owned_prefix k (x ∷ ms)) k (lookup k (owned k (x ∷ ms)))
        ≡ stored (x ∷ ms) + ((length k - owned_prefix k (x ∷ ms)) + length v)
    here x ms e g =
        elim (settled F (lowest_free (n ∷ ns)) (with_pairs x (put k v x.pairs)) (low_of ms)) [
          | full q r w ↦ absurd (g (rw (owned_here k x ms e) q))
          | slack q r w ↦
              rw (r, owned_here k x ms e, prefix_here k x ms e)
              (omega (
                arith,
                stored_leaf (with_pairs x (put k v x.pairs)) ms,
                stored_leaf x ms,
                stored_put (prefix_length x.low (low_of ms)) k v x.pairs,
              ))
        ]

-- a remove that doesn't merge stores less what it takes out
pub remove_stored : (k : Bytes) (n : Node) (ns : List Node)
    → stored (remove_rule false k (n ∷ ns)) + stored_cost (owned_prefix k (n ∷ ns)) k (lookup k (owned k (n ∷ ns))) ≡ stored (n ∷ ns) + 0
unfolding remove_rule remove_here
remove_stored k n ns =
    owner_stored k (remove_here false k)
    (λ ms. stored_cost (owned_prefix k ms) k (lookup k (owned k ms)))
    (λ ms. 0)
    (λ x ms. refl)
    (λ x m ms e. (rw (owned_on k x m ms e, prefix_on k x m ms e), refl))
    (λ ms. Unit {0})
    (λ x m ms e g. tt)
    (λ x ms e g.
    rw (owned_here k x ms e, prefix_here k x ms e)
    (omega (
      arith,
      stored_leaf (with_pairs x (remove k x.pairs)) ms,
      stored_leaf x ms,
      stored_remove (prefix_length x.low (low_of ms)) k x.pairs,
    )))
    n ns tt

-- a split stores the separator, and each half behind its own prefix
pub split_stored : (free at : ℕ) (n : Node) (ns : List Node)
    → stored (halves free at n ++ ns)
    ≡ length n.low + stored_pairs (prefix_length n.low (some (cut_key at n.pairs))) (take at n.pairs)
    + (length (cut_key at n.pairs) + stored_pairs (prefix_length (cut_key at n.pairs) (low_of ns)) (drop at n.pairs) + stored ns)
unfolding halves stored
split_stored free at n ns = refl
