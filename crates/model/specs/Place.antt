-- Where a key stands in a list of pairs: what a search in a leaf answers, and what edits of its slots are proved against.
-- Assumes nothing.
use Rattle.std.specs.Prelude.{◌<◌, ◌≤◌, suc, zero, ℕ, List, [], ◌++◌, ◌∷◌, map, ◌≡◌, refl, drop, get_or, length, take}
use Rattle.std.proofs.Math.Option.{none, some}
use Rattle.std.proofs.Common.{subst, sym, arith}
use Rattle.lists.specs.All.{All, all_at}
use Rattle.model.specs.Map.{Above, Below, Pair, Rising, by, lookup, pair, put, remove}
use Rattle.order.specs.Bytes.{Bytes, ◌≺◌, cmp}
use Rattle.order.specs.OrderLaws.{after, before, cmp_after, cmp_before, cmp-drop, cmp_equal, equal, tri}

-- the key is the one at a place, or would stand before it
pub data Place : Type 0 where
  at gap : ℕ → Place

abbrev pub next : Place → Place
next (at j) = at (suc j)
next (gap j) = gap (suc j)

unfoldable pub place : Bytes → List Pair → Place
place k [] = gap 0
place k (p ∷ m) = by (cmp k p.key) (gap 0) (at 0) (next (place k m))

-- the map's functions, by the place
abbrev pub PutBy : Bytes → Bytes → List Pair → Place → Type 0
PutBy k v m (at j) = put k v m ≡ take j m ++ (pair k v ∷ drop (suc j) m)
PutBy k v m (gap j) = put k v m ≡ take j m ++ (pair k v ∷ drop j m)

abbrev pub RemoveBy : Bytes → List Pair → Place → Type 0
RemoveBy k m (at j) = remove k m ≡ take j m ++ drop (suc j) m
RemoveBy k m (gap j) = remove k m ≡ m

abbrev pub LookupBy : Pair → Bytes → List Pair → Place → Type 0
LookupBy d k m (at j) = (j < length m) × (lookup k m ≡ some (get_or m j d).value)
LookupBy d k m (gap j) = (j ≤ length m) × (lookup k m ≡ none)

put_next : (k v : Bytes) (p : Pair) (m : List Pair) (x : Place) → p.key ≺ k → PutBy k v m x → PutBy k v (p ∷ m) (next x)
unfolding put
put_next k v p m (at j) h e = rw (cmp_after h) (rw e)
put_next k v p m (gap j) h e = rw (cmp_after h) (rw e)

pub put_by : (k v : Bytes) (m : List Pair) → PutBy k v m (place k m)
unfolding put place
put_by k v [] = refl
put_by k v (p ∷ m) =
    elim (tri k p.key) [
      | before h ↦ rw (cmp_before h) (rw (cmp_before h))
      | equal e ↦ rw (cmp_equal e) (rw (cmp_equal e))
      | after h ↦ rw (cmp_after h) (put_next k v p m (place k m) h (put_by k v m))
    ]

remove_next : (k : Bytes) (p : Pair) (m : List Pair) (x : Place) → p.key ≺ k → RemoveBy k m x → RemoveBy k (p ∷ m) (next x)
unfolding remove
remove_next k p m (at j) h e = rw (cmp_after h) (rw e)
remove_next k p m (gap j) h e = rw (cmp_after h) (rw e)

pub remove_by : (k : Bytes) (m : List Pair) → RemoveBy k m (place k m)
unfolding remove place
remove_by k [] = refl
remove_by k (p ∷ m) =
    elim (tri k p.key) [
      | before h ↦ rw (cmp_before h) (rw (cmp_before h))
      | equal e ↦ rw (cmp_equal e) (rw (cmp_equal e))
      | after h ↦ rw (cmp_after h) (remove_next k p m (place k m) h (remove_by k m))
    ]

lookup_next : (d : Pair) (k : Bytes) (p : Pair) (m : List Pair) (x : Place) → p.key ≺ k → LookupBy d k m x → LookupBy d k (p ∷ m) (next x)
unfolding lookup
lookup_next d k p m (at j) h e = (omega arith, rw (cmp_after h) e.1)
lookup_next d k p m (gap j) h e = (omega arith, rw (cmp_after h) e.1)

pub lookup_by : (d : Pair) (k : Bytes) (m : List Pair) → LookupBy d k m (place k m)
unfolding lookup place
lookup_by d k [] = (omega arith, refl)
lookup_by d k (p ∷ m) =
    elim (tri k p.key) [
      | before h ↦ rw (cmp_before h) (omega arith, rw (cmp_before h))
      | equal e ↦ rw (cmp_equal e) (omega arith, rw (cmp_equal e))
      | after h ↦ rw (cmp_after h) (lookup_next d k p m (place k m) h (lookup_by d k m))
    ]

-- what a search has to show: every key before j is below k, and at j it is known how k compares
pub place_end : (k : Bytes) (m : List Pair) → All (Below k) m → place k m ≡ gap (length m)
unfolding place
place_end k [] a = refl
place_end k (p ∷ m) a = rw (cmp_after a.0) (rw (place_end k m a.1))

pub place_at : (d : Pair) (k : Bytes) (m : List Pair) (j : ℕ) → j < length m → All (Below k) (take j m) → k ≡ (get_or m j d).key → place k m ≡ at j
unfolding place
place_at d k [] j h a e = absurd (omega arith)
place_at d k (p ∷ m) zero h a e = rw (cmp_equal e)
place_at d k (p ∷ m) (suc j) h a e = rw (cmp_after a.0) (rw (place_at d k m j (omega arith) a.1 e))

pub place_gap : (d : Pair) (k : Bytes) (m : List Pair) (j : ℕ) → j < length m → All (Below k) (take j m) → k ≺ (get_or m j d).key → place k m ≡ gap j
unfolding place
place_gap d k [] j h a e = absurd (omega arith)
place_gap d k (p ∷ m) zero h a e = rw (cmp_before e)
place_gap d k (p ∷ m) (suc j) h a e = rw (cmp_after a.0) (rw (place_gap d k m j (omega arith) a.1 e))

-- each key of a rising list stands at its own place
pub place_of_lem : (d : Pair) (m : List Pair) (j : ℕ) → j < length m → Rising m → place (get_or m j d).key m ≡ at j
unfolding place
place_of_lem d [] j h r = absurd (omega arith)
place_of_lem d (p ∷ m) zero h r = rw (cmp_equal {a = p.key} refl)
place_of_lem d (p ∷ m) (suc j) h r = rw (cmp_after (all_at (Above p.key) m j d (omega arith) r.0), place_of_lem d m j (omega arith) r.1)

-- and the pair at a key's place has that key

abbrev KeyedBy : Pair → Bytes → List Pair → Place → Type 0
KeyedBy d k m (at j) = (j < length m) × ((get_or m j d).key ≡ k)
KeyedBy d k m (gap j) = Unit {0}

keyed_next : (d : Pair) (k : Bytes) (p : Pair) (m : List Pair) (x : Place) → KeyedBy d k m x → KeyedBy d k (p ∷ m) (next x)
keyed_next d k p m (at j) e = (omega (arith, e.0), e.1)
keyed_next d k p m (gap j) e = tt

keyed_by : (d : Pair) (k : Bytes) (m : List Pair) → KeyedBy d k m (place k m)
unfolding place
keyed_by d k [] = tt
keyed_by d k (p ∷ m) =
    elim (tri k p.key) [
      | before h ↦ rw (cmp_before h) tt
      | equal e ↦ rw (cmp_equal e) (omega arith, sym e)
      | after h ↦ rw (cmp_after h) (keyed_next d k p m (place k m) (keyed_by d k m))
    ]

pub place_key : (d : Pair) (k : Bytes) (m : List Pair) (j : ℕ) → place k m ≡ at j → (j < length m) × ((get_or m j d).key ≡ k)
place_key d k m j e = subst (KeyedBy d k m) e (keyed_by d k m)

pub place-lookup : (d : Pair) (k : Bytes) (m : List Pair) (j : ℕ) → place k m ≡ at j → lookup k m ≡ some (get_or m j d).value
place-lookup d k m j e = (subst (LookupBy d k m) e (lookup_by d k m)).1

pub gap_lookup : (k : Bytes) (m : List Pair) (j : ℕ) → place k m ≡ gap j → lookup k m ≡ none
gap_lookup k m j e = (subst (LookupBy (pair [] []) k m) e (lookup_by (pair [] []) k m)).1

-- the same place among suffixes, where k and all keys share their first c bytes

abbrev pub cut_pair : ℕ → Pair → Pair
cut_pair c p = record { key = drop c p.key; value = p.value }

pub place_cut : (c : ℕ) (k : Bytes) (m : List Pair) → All (λ p. take c k ≡ take c p.key) m → place (drop c k) (map (cut_pair c) m) ≡ place k m
unfolding place
place_cut c k [] a = refl
place_cut c k (p ∷ m) a = rw (cmp-drop c k p.key a.0, place_cut c k m a.1)
