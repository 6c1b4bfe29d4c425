-- The laws of the ordered map: what is found after a put and after a remove, and the keys still rise.
-- Assumes nothing.
use Rattle.std.specs.Prelude.{ℕ, zero, suc, List, [], ◌∷◌, ◌++◌, ◌≢◌, ◌≡◌, refl, take, drop}
use Rattle.std.proofs.Math.Option.{none, some}
use Rattle.std.proofs.Common.{sym, ◌∙◌}
use Rattle.lists.specs.All.{all_append, all_mono, all_take, All}
use Rattle.model.specs.Map.{pair, Pair, Above, Below, From, Rising, lookup, put, remove}
use Rattle.order.specs.Bytes.{Bytes}
use Rattle.order.specs.OrderLaws.{cmp_after, cmp_before, cmp_equal, cmp_refl, before, equal, after, tri, below_trans, below_upto_trans}

-- put keeps what holds of all and of the new pair
pub all_put : (P : Pair → Type 0) (k v : Bytes) (m : List Pair) → P (pair k v) → All P m → All P (put k v m)
unfolding put
all_put P k v [] h a = (h, tt)
all_put P k v (p ∷ m) h a =
    elim (tri k p.key) [
      | before l ↦ rw (cmp_before l) (h, a)
      | equal e ↦ rw (cmp_equal e) (h, a.1)
      | after l ↦ rw (cmp_after l) (a.0, all_put P k v m h a.1)
    ]

pub all_remove : (P : Pair → Type 0) (k : Bytes) (m : List Pair) → All P m → All P (remove k m)
unfolding remove
all_remove P k [] a = tt
all_remove P k (p ∷ m) a =
    elim (tri k p.key) [
      | before l ↦ rw (cmp_before l) a
      | equal e ↦ rw (cmp_equal e) a.1
      | after l ↦ rw (cmp_after l) (a.0, all_remove P k m a.1)
    ]

-- the keys still rise
pub rising_put : (k v : Bytes) (m : List Pair) → Rising m → Rising (put k v m)
unfolding put
rising_put k v [] r = (tt, tt)
rising_put k v (p ∷ m) r =
    elim (tri k p.key) [
      | before l ↦ rw (cmp_before l) ((l, all_mono m (λ q h. below_trans l h) r.0), r)
      | equal e ↦ rw (cmp_equal e) (rw e r.0, r.1)
      | after l ↦ rw (cmp_after l) (all_put (Above p.key) k v m l r.0, rising_put k v m r.1)
    ]

pub rising_remove : (k : Bytes) (m : List Pair) → Rising m → Rising (remove k m)
unfolding remove
rising_remove k [] r = tt
rising_remove k (p ∷ m) r =
    elim (tri k p.key) [
      | before l ↦ rw (cmp_before l) r
      | equal e ↦ rw (cmp_equal e) r.1
      | after l ↦ rw (cmp_after l) (all_remove (Above p.key) k m r.0, rising_remove k m r.1)
    ]

pub rising_append : (l m : List Pair) (b : Bytes) → Rising l → Rising m → All (Below b) l → All (From b) m → Rising (l ++ m)
rising_append [] m b r s h k = s
rising_append (p ∷ l) m b r s h k =
    (all_append (Above p.key) l m r.0 (all_mono m (λ q j. below_upto_trans h.0 j) k), rising_append l m b r.1 s h.1 k)

pub rising_take : (n : ℕ) (m : List Pair) → Rising m → Rising (take n m)
rising_take zero m r = tt
rising_take (suc n) [] r = tt
rising_take (suc n) (p ∷ m) r = (all_take (Above p.key) n m r.0, rising_take n m r.1)

pub rising_drop : (n : ℕ) (m : List Pair) → Rising m → Rising (drop n m)
rising_drop zero m r = r
rising_drop (suc n) [] r = tt
rising_drop (suc n) (p ∷ m) r = rising_drop n m r.1

-- what is found
pub lookup_above : (k : Bytes) (m : List Pair) → All (Above k) m → lookup k m ≡ none
unfolding lookup
lookup_above k [] a = refl
lookup_above k (p ∷ m) a = rw (cmp_before a.0)

pub lookup-put_same : (k v : Bytes) (m : List Pair) → lookup k (put k v m) ≡ some v
unfolding lookup put
lookup-put_same k v [] = rw (cmp_refl k)
lookup-put_same k v (p ∷ m) =
    elim (tri k p.key) [
      | before l ↦ rw (cmp_before l) (rw (cmp_refl k))
      | equal e ↦ rw (cmp_equal e) (rw (cmp_refl k))
      | after l ↦ rw (cmp_after l) (rw (cmp_after l) (lookup-put_same k v m))
    ]

pub lookup-put_other : (j k v : Bytes) (m : List Pair) → j ≢ k → lookup j (put k v m) ≡ lookup j m
unfolding lookup put
lookup-put_other j k v [] n =
    elim (tri j k) [ before l ↦ rw (cmp_before l) | equal e ↦ absurd (n e) | after l ↦ rw (cmp_after l) ]
lookup-put_other j k v (p ∷ m) n =
    elim (tri k p.key) [
      | before l ↦ rw (cmp_before l)
          (elim (tri j k) [
            | before i ↦ rw (cmp_before i, cmp_before (below_trans i l))
            | equal e ↦ absurd (n e)
            | after i ↦ rw (cmp_after i)
          ])
      | equal e ↦ rw (cmp_equal e)
          (elim (tri j k) [
            | before i ↦ rw (← e, cmp_before i)
            | equal i ↦ absurd (n i)
            | after i ↦ rw (← e, cmp_after i)
          ])
      | after l ↦ rw (cmp_after l) (rw (lookup-put_other j k v m n))
    ]

pub lookup-remove_same : (k : Bytes) (m : List Pair) → Rising m → lookup k (remove k m) ≡ none
unfolding lookup remove
lookup-remove_same k [] r = refl
lookup-remove_same k (p ∷ m) r =
    elim (tri k p.key) [
      | before l ↦ rw (cmp_before l) (rw (cmp_before l))
      | equal e ↦ rw (cmp_equal e) (lookup_above k m (rw e r.0))
      | after l ↦ rw (cmp_after l) (rw (cmp_after l) (lookup-remove_same k m r.1))
    ]

pub lookup-remove_other : (j k : Bytes) (m : List Pair) → Rising m → j ≢ k → lookup j (remove k m) ≡ lookup j m
unfolding lookup remove
lookup-remove_other j k [] r n = refl
lookup-remove_other j k (p ∷ m) r n =
    elim (tri k p.key) [
      | before l ↦ rw (cmp_before l)
      | equal e ↦ rw (cmp_equal e)
          (elim (tri j p.key) [
            | before i ↦ rw (cmp_before i) (lookup_above j m (all_mono m (λ q h. below_trans i h) r.0))
            | equal i ↦ absurd (n (i ∙ sym e))
            | after i ↦ rw (cmp_after i)
          ])
      | after l ↦ rw (cmp_after l) (rw (lookup-remove_other j k m r.1 n))
    ]
