-- Walking a range, one call a pair: the walk gives exactly the pairs in the range, each once, in key order; further calls give no more.
-- Assumes nothing.
use Rattle.std.specs.Prelude.{◌≤◌, suc, zero, ℕ, Bool, cond, false, true, ◌≡◌, length, take}
use Rattle.std.proofs.Math.Bool.{and-eq-true_iff}
use Rattle.std.proofs.lemmas.Bool.{false≢true}
use mathlib.Core.List.{List, [], ◌∷◌}
use Rattle.std.proofs.Math.Option.{Option, none, some}
use Rattle.std.proofs.Common.{◌∙◌, subst, take_all}
use Rattle.std.proofs.Math.Path.{ap, refl, sym}
use native.Mathlib.Omega.{arith}
use Rattle.lists.specs.All.{All, all_mono}
use Rattle.model.specs.LeafViews.{fails, holds, truth}
use Rattle.model.specs.Answers.{inverted}
use Rattle.model.specs.Map.{Above, Pair, Rising, before_end, first_in, in_range, lookup, past_start}
use Rattle.model.specs.MapLaws.{lookup_above}
use Rattle.model.specs.declared.Bound.{Bound}
use Rattle.model.specs.declared.Bound.TheVariants.{Excluded, Included, Open}
use Rattle.model.specs.declared.Range.{Range}
use Rattle.order.specs.Bytes.{Bytes, ◌≺◌, ◌≼◌}
use Rattle.order.specs.OrderLaws.{after, before, below_asym, cmp_after, cmp_before, cmp_equal, cmp_refl, equal, tri, upto_below_trans, upto_of_eq}

-- the range of a walk's later calls; the last key found stands beside it as the start
abbrev pub onward : Range → Range
onward r = record { start = Excluded; end = r.end }

-- a found pair and what a walk lists after it; nothing where none is found
abbrev pub listed : Option Pair → (Pair → List Pair) → List Pair
listed none f = []
listed (some p) f = p ∷ f p

-- the pairs found by at most n calls: the first for the range as given, each later one for "excluded, last key"
unfoldable pub walk : (n : ℕ) → Range → (start end : Bytes) → List Pair → List Pair
walk zero r s e m = []
walk (suc n) r s e m = listed (first_in r s e m) (λ p. walk n (onward r) p.key e m)

-- the pairs in a range, in order
unfoldable pub within : Range → (start end : Bytes) → List Pair → List Pair
within r s e [] = []
within r s e (p ∷ m) = cond (in_range r s e p.key) (p ∷ within r s e m) (within r s e m)

abbrev head_of : List Pair → Option Pair
head_of [] = none
head_of (p ∷ m) = some p

cond_none : (b : Bool) → ◌≡◌ {A = Option Bytes} (cond b none none) none
cond_none true = refl
cond_none false = refl

-- past the start, all that comes after is past it
past_start_lem : (b : Bound) (s j k : Bytes) → past_start b s j ≡ true → j ≺ k → past_start b s k ≡ true
past_start_lem Included s j k h l = rw (cmp_before {a = s} {b = k} (upto_below_trans (λ (i : j ≺ s). false≢true (rw (cmp_after i) at h)) l))
past_start_lem Excluded s j k h l = rw (cmp_before {a = s} {b = k} (upto_below_trans (λ (i : j ≺ s). false≢true (rw (cmp_after i) at h)) l))
past_start_lem Open s j k h l = refl

module _ (r : Range) (s e : Bytes) where
  -- what `within` is: what holds of all pairs holds of those in the range, their keys rise, and a key is found among them as it is found
  -- in the map if it is in the range, and else not
  pub all_within : (P : Pair → Type 0) (m : List Pair) → All P m → All P (within r s e m)
  unfolding within
  all_within P [] a = tt
  all_within P (p ∷ m) a =
      elim (truth (in_range r s e p.key)) [
        | holds h ↦ rw h (a.0, all_within P m a.1)
        | fails h ↦ rw h (all_within P m a.1)
      ]

  pub rising_within : (m : List Pair) → Rising m → Rising (within r s e m)
  unfolding within
  rising_within [] a = tt
  rising_within (p ∷ m) a =
      elim (truth (in_range r s e p.key)) [
        | holds h ↦ rw h (all_within (Above p.key) m a.0, rising_within m a.1)
        | fails h ↦ rw h (rising_within m a.1)
      ]

  pub lookup-within : (k : Bytes) (m : List Pair) → Rising m → lookup k (within r s e m) ≡ cond (in_range r s e k) (lookup k m) none
  unfolding within lookup
  lookup-within k [] a = sym (cond_none (in_range r s e k))
  lookup-within k (p ∷ m) a =
      elim (truth (in_range r s e p.key)) [
        | holds h ↦ rw h
            (elim (tri k p.key) [
              | before l ↦ rw (cmp_before l, cond_none (in_range r s e k))
              | equal i ↦ rw (cmp_equal i, ap (in_range r s e) i ∙ h)
              | after l ↦ rw (cmp_after l) (lookup-within k m a.1)
            ])
        | fails h ↦ rw h
            (elim (tri k p.key) [
              | before l ↦ rw (cmp_before l, cond_none (in_range r s e k)) (not_after (below_asym l))
              | equal i ↦ rw (ap (in_range r s e) i ∙ h) (not_after (upto_of_eq i))
              | after l ↦ rw (cmp_after l) (lookup-within k m a.1)
            ])
      ]
    where
      not_after : k ≼ p.key → lookup k (within r s e m) ≡ none
      not_after h = lookup_above k (within r s e m) (all_within (Above k) m (all_mono m (λ q j. upto_below_trans h j) a.0))

  pub length-within : (m : List Pair) → length (within r s e m) ≤ length m
  unfolding within
  length-within [] = omega arith
  length-within (p ∷ m) =
      elim (truth (in_range r s e p.key)) [
        | holds h ↦ rw h (omega (arith, length-within m))
        | fails h ↦ rw h (omega (arith, length-within m))
      ]

  -- a call finds the first of them
  first_within : (m : List Pair) → first_in r s e m ≡ head_of (within r s e m)
  unfolding first_in within
  first_within [] = refl
  first_within (p ∷ m) = elim (truth (in_range r s e p.key)) [ holds h ↦ rw h | fails h ↦ rw h (first_within m) ]

  -- where j is past the start, and all keys are above j, it is the same to start after j
  within_past : (j : Bytes) (m : List Pair) → past_start r.start s j ≡ true → All (Above j) m → within (onward r) j e m ≡ within r s e m
  unfolding within
  within_past j [] h a = refl
  within_past j (p ∷ m) h a =
      rw (cmp_before a.0, past_start_lem r.start s j p.key h a.0, within_past j m h a.1)

  -- "excluded, last key" leaves those after the first
  within_onward : (m : List Pair) (p : Pair) (w : List Pair) → Rising m → within r s e m ≡ p ∷ w → within (onward r) p.key e m ≡ w
  unfolding within
  within_onward [] p w a h = cc
  within_onward (q ∷ m) p w a h =
      elim (truth (in_range r s e q.key)) [
        | holds i ↦
            (let f : q ∷ within r s e m ≡ p ∷ w = rw i at h in
            let k : q.key ≡ p.key = cc in
            let same : within r s e m ≡ w = cc in
            let on : within (onward r) p.key e m ≡ w = subst (λ x. within (onward r) x e m ≡ w) k (within_past q.key m ((and-eq-true_iff _ _).0 i).0 a.0 ∙ same) in
            rw (← k, cmp_refl q.key) on)
        | fails i ↦
            (let f : within r s e m ≡ p ∷ w = rw i at h in
            let l : All (Above q.key) (p ∷ w) = rw f at (all_within (Above q.key) m a.0) in
            rw (cmp_after l.0) (within_onward m p w a.1 f))
      ]

walk_list : (n : ℕ) (r : Range) (s e : Bytes) (m w : List Pair) → Rising m → within r s e m ≡ w → walk n r s e m ≡ take n w
unfolding walk
walk_list zero r s e m w a h = refl
walk_list (suc n) r s e m [] a h = rw (first_within r s e m ∙ ap head_of h)
walk_list (suc n) r s e m (p ∷ w) a h =
    rw (first_within r s e m ∙ ap head_of h, walk_list n (onward r) p.key e m w a (within_onward r s e m p w a h))

-- n calls give the first n of them
pub walk_take : (n : ℕ) (r : Range) (s e : Bytes) (m : List Pair) → Rising m → walk n r s e m ≡ take n (within r s e m)
walk_take n r s e m a = walk_list n r s e m (within r s e m) a refl

-- as many calls as there are pairs give all of them, and more calls give no more
pub walk_all : (r : Range) (s e : Bytes) (m : List Pair) → Rising m → walk (length m) r s e m ≡ within r s e m
walk_all r s e m a = walk_take (length m) r s e m a ∙ take_all (length m) (within r s e m) (length-within r s e m)

pub walk_more : (n : ℕ) (r : Range) (s e : Bytes) (m : List Pair) → Rising m → length m ≤ n → walk n r s e m ≡ walk (length m) r s e m
walk_more n r s e m a h =
    walk_take n r s e m a ∙ take_all n (within r s e m) (omega (arith, length-within r s e m)) ∙ sym (walk_all r s e m a)

-- so a walk's later calls are never refused as inverted
pub onward_not_inverted : (r : Range) (s e k : Bytes) → in_range r s e k ≡ true → inverted (onward r) k e ≡ false
onward_not_inverted r s e k h = go r.end ((and-eq-true_iff (past_start r.start s k) (before_end r.end e k)).0 h).1
  where
    go : (b : Bound) → before_end b e k ≡ true → inverted (record { start = Excluded; end = b }) k e ≡ false
    go Open t = refl
    go Included t = elim (tri k e) [ before l ↦ rw (cmp_before l) | equal i ↦ rw (cmp_equal i) | after l ↦ absurd (false≢true (rw (cmp_after l) at t)) ]
    go Excluded t = elim (tri k e) [ before l ↦ rw (cmp_before l) | equal i ↦ rw (cmp_equal i) | after l ↦ absurd (false≢true (rw (cmp_after l) at t)) ]
