-- The ordered map of demand 2: a list of pairs whose keys rise strictly. Lookup, put, remove, and the first pair in a range.
use Rattle.std.specs.Prelude.{Bool, true, false, cond, ◌&&◌, List, [], ◌∷◌}
use Rattle.std.proofs.Math.Option.{Option, none, some}
use Rattle.lists.specs.All.{All}
use Rattle.std.specs.declared.cmp.Ordering.{Ordering}
use Rattle.std.specs.declared.cmp.Ordering.TheVariants.{Less, Equal, Greater}
use Rattle.order.specs.Bytes.{Bytes, cmp, ◌≺◌, ◌≼◌}
use Rattle.model.specs.declared.Bound.{Bound}
use Rattle.model.specs.declared.Bound.TheVariants.{Included, Excluded, Open}
use Rattle.model.specs.declared.Range.{Range}

pub record Pair : Type 0 where
  pub key : Bytes
  pub value : Bytes

abbrev pub pair : Bytes → Bytes → Pair
pair k v = record { key = k; value = v }

-- a pair whose key is above k; below k; not below k
abbrev pub Above : Bytes → Pair → Type 0
Above k p = k ≺ p.key

abbrev pub Below : Bytes → Pair → Type 0
Below k p = p.key ≺ k

abbrev pub From : Bytes → Pair → Type 0
From k p = k ≼ p.key

-- the keys rise strictly
abbrev pub Rising : List Pair → Type 0
Rising [] = Unit {0}
Rising (p ∷ m) = All (Above p.key) m × Rising m

-- one of three, by an order
abbrev pub by {ℓ} : {A : Type ℓ} → Ordering → A → A → A → A
by Less a b c = a
by Equal a b c = b
by Greater a b c = c

-- the value of k, or none
unfoldable pub lookup : Bytes → List Pair → Option Bytes
lookup k [] = none
lookup k (p ∷ m) = by (cmp k p.key) none (some p.value) (lookup k m)

-- k has the value v, and every other key what it had
unfoldable pub put : Bytes → Bytes → List Pair → List Pair
put k v [] = pair k v ∷ []
put k v (p ∷ m) = by (cmp k p.key) (pair k v ∷ p ∷ m) (pair k v ∷ m) (p ∷ put k v m)

-- k has no value, and every other key what it had
unfoldable pub remove : Bytes → List Pair → List Pair
remove k [] = []
remove k (p ∷ m) = by (cmp k p.key) (p ∷ m) m (p ∷ remove k m)

-- k is past the start s, before the end e: the key beside an open bound isn't looked at
abbrev pub past_start : Bound → Bytes → Bytes → Bool
past_start Included s k = by (cmp s k) true true false
past_start Excluded s k = by (cmp s k) true false false
past_start Open s k = true

abbrev pub before_end : Bound → Bytes → Bytes → Bool
before_end Included e k = by (cmp k e) true true false
before_end Excluded e k = by (cmp k e) true false false
before_end Open e k = true

abbrev pub in_range : Range → (start end : Bytes) → Bytes → Bool
in_range r s e k = past_start r.start s k && before_end r.end e k

-- the first pair in the range, or none
unfoldable pub first_in : Range → (start end : Bytes) → List Pair → Option Pair
first_in r s e [] = none
first_in r s e (p ∷ m) = cond (in_range r s e p.key) (some p) (first_in r s e m)
