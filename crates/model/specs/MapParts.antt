-- The ordered map in parts, l ++ m: the part that k lies in is the one changed; and its counts and weights.
-- Assumes nothing.
use Rattle.std.specs.Prelude.{ℕ, suc, ◌+◌, List, [], ◌∷◌, ◌++◌, ◌≡◌, refl, length}
use Rattle.std.proofs.Math.Option.{Option, none, some}
use Rattle.std.proofs.Common.{ap, arith}
use Rattle.lists.specs.All.{All}
use Rattle.model.specs.Charge.{weight}
use Rattle.model.specs.Map.{Pair, Above, Below, lookup, put, remove}
use Rattle.model.specs.MapLaws.{lookup_above}
use Rattle.order.specs.Bytes.{Bytes}
use Rattle.order.specs.OrderLaws.{before, equal, after, tri, cmp_before, cmp_equal, cmp_after}

-- k below every key of the right part: the left part is changed
pub put_left : (k v : Bytes) (l m : List Pair) → All (Above k) m → put k v (l ++ m) ≡ put k v l ++ m
unfolding put
put_left k v [] [] a = refl
put_left k v [] (q ∷ m) a = rw (cmp_before a.0)
put_left k v (p ∷ l) m a =
    elim (tri k p.key) [
      | before h ↦ rw (cmp_before h)
      | equal h ↦ rw (cmp_equal h)
      | after h ↦ rw (cmp_after h) (rw (put_left k v l m a))
    ]

pub remove_left : (k : Bytes) (l m : List Pair) → All (Above k) m → remove k (l ++ m) ≡ remove k l ++ m
unfolding remove
remove_left k [] [] a = refl
remove_left k [] (q ∷ m) a = rw (cmp_before a.0)
remove_left k (p ∷ l) m a =
    elim (tri k p.key) [
      | before h ↦ rw (cmp_before h)
      | equal h ↦ rw (cmp_equal h)
      | after h ↦ rw (cmp_after h) (rw (remove_left k l m a))
    ]

pub lookup_left : (k : Bytes) (l m : List Pair) → All (Above k) m → lookup k (l ++ m) ≡ lookup k l
unfolding lookup
lookup_left k [] m a = lookup_above k m a
lookup_left k (p ∷ l) m a = rw (lookup_left k l m a)

-- every key of the left part below k: the right part is changed
pub put_right : (k v : Bytes) (l m : List Pair) → All (Below k) l → put k v (l ++ m) ≡ l ++ put k v m
unfolding put
put_right k v [] m a = refl
put_right k v (p ∷ l) m a = rw (cmp_after a.0) (rw (put_right k v l m a.1))

pub remove_right : (k : Bytes) (l m : List Pair) → All (Below k) l → remove k (l ++ m) ≡ l ++ remove k m
unfolding remove
remove_right k [] m a = refl
remove_right k (p ∷ l) m a = rw (cmp_after a.0) (rw (remove_right k l m a.1))

pub lookup_right : (k : Bytes) (l m : List Pair) → All (Below k) l → lookup k (l ++ m) ≡ lookup k m
unfolding lookup
lookup_right k [] m a = refl
lookup_right k (p ∷ l) m a = rw (cmp_after a.0) (lookup_right k l m a.1)

-- what a found pair counts and weighs
abbrev pub tally : Option Bytes → ℕ
tally none = 0
tally (some v) = 1

abbrev pub cost : Bytes → Option Bytes → ℕ
cost k none = 0
cost k (some v) = length k + length v

pub weight-append : (l m : List Pair) → weight (l ++ m) ≡ weight l + weight m
unfolding weight
weight-append [] m = omega arith
weight-append (p ∷ l) m = omega (arith, weight-append l m)

pub length-put : (k v : Bytes) (m : List Pair) → length (put k v m) + tally (lookup k m) ≡ suc (length m)
unfolding put lookup
length-put k v [] = omega arith
length-put k v (p ∷ m) =
    elim (tri k p.key) [
      | before h ↦ rw (cmp_before h) (omega arith)
      | equal h ↦ rw (cmp_equal h) (omega arith)
      | after h ↦ rw (cmp_after h) (omega (arith, length-put k v m))
    ]

pub length-remove : (k : Bytes) (m : List Pair) → length (remove k m) + tally (lookup k m) ≡ length m
unfolding remove lookup
length-remove k [] = omega arith
length-remove k (p ∷ m) =
    elim (tri k p.key) [
      | before h ↦ rw (cmp_before h) (omega arith)
      | equal h ↦ rw (cmp_equal h) (omega arith)
      | after h ↦ rw (cmp_after h) (omega (arith, length-remove k m))
    ]

pub weight-put : (k v : Bytes) (m : List Pair) → weight (put k v m) + cost k (lookup k m) ≡ weight m + (length k + length v)
unfolding put lookup weight
weight-put k v [] = omega arith
weight-put k v (p ∷ m) =
    elim (tri k p.key) [
      | before h ↦ rw (cmp_before h) (omega arith)
      | equal h ↦ rw (cmp_equal h) (omega (arith, ap length h))
      | after h ↦ rw (cmp_after h) (omega (arith, weight-put k v m))
    ]

pub weight-remove : (k : Bytes) (m : List Pair) → weight (remove k m) + cost k (lookup k m) ≡ weight m
unfolding remove lookup weight
weight-remove k [] = omega arith
weight-remove k (p ∷ m) =
    elim (tri k p.key) [
      | before h ↦ rw (cmp_before h) (omega arith)
      | equal h ↦ rw (cmp_equal h) (omega (arith, ap length h))
      | after h ↦ rw (cmp_after h) (omega (arith, weight-remove k m))
    ]
