-- A strictly rising list of pairs is determined by what is found in it: it is the map.
-- Assumes nothing.
use Rattle.std.specs.Prelude.{List, [], ◌∷◌, ◌≡◌, refl}
use Rattle.std.proofs.Math.Option.{none, some}
use Rattle.std.proofs.Common.{sym, ◌∙◌}
use Rattle.lists.specs.All.{all_mono}
use Rattle.model.specs.Map.{Pair, Rising, lookup}
use Rattle.model.specs.MapLaws.{lookup_above}
use Rattle.order.specs.Bytes.{Bytes, ◌≺◌, ◌≼◌}
use Rattle.order.specs.OrderLaws.{before, equal, after, tri, below_asym, upto_of_eq, upto_below_trans, cmp_before, cmp_equal, cmp_after}

pub pair_path : (p q : Pair) → p.key ≡ q.key → p.value ≡ q.value → p ≡ q
pair_path p q e f = λ i. record { key = e i; value = f i }

lookup_head : (p : Pair) (m : List Pair) (k : Bytes) → k ≡ p.key → lookup k (p ∷ m) ≡ some p.value
unfolding lookup
lookup_head p m k e = rw (cmp_equal e)

lookup_before : (p : Pair) (m : List Pair) (k : Bytes) → k ≺ p.key → lookup k (p ∷ m) ≡ none
unfolding lookup
lookup_before p m k h = rw (cmp_before h)

lookup_after : (p : Pair) (m : List Pair) (k : Bytes) → p.key ≺ k → lookup k (p ∷ m) ≡ lookup k m
unfolding lookup
lookup_after p m k h = rw (cmp_after h)

-- a key not above a rising list's head is not in its tail
lookup_tail : (p : Pair) (m : List Pair) (k : Bytes) → Rising (p ∷ m) → k ≼ p.key → lookup k m ≡ none
lookup_tail p m k r h = lookup_above k m (all_mono m (λ q j. upto_below_trans h j) r.0)

-- a rising list is determined by what is found in it: it is the map
pub same_map : (l m : List Pair) → Rising l → Rising m → ((k : Bytes) → lookup k l ≡ lookup k m) → l ≡ m
unfolding lookup
same_map [] [] r s h = refl
same_map [] (q ∷ m) r s h = cc (h q.key, lookup_head q m q.key refl)
same_map (p ∷ l) [] r s h = cc (h p.key, lookup_head p l p.key refl)
same_map (p ∷ l) (q ∷ m) r s h =
    elim (tri p.key q.key) [
      | before b ↦ cc (h p.key, lookup_head p l p.key refl, lookup_before q m p.key b)
      | equal e ↦
          (let f : p.value ≡ q.value = cc (h p.key, lookup_head p l p.key refl, lookup_head q m p.key e) in
          let t : l ≡ m = same_map l m r.1 s.1 (λ k. elim (tri k p.key) [
            | before b ↦ lookup_tail p l k r (below_asym b) ∙ sym (lookup_tail q m k s (below_asym (rw e at b)))
            | equal b ↦ lookup_tail p l k r (upto_of_eq b) ∙ sym (lookup_tail q m k s (upto_of_eq (b ∙ e)))
            | after b ↦ sym (lookup_after p l k b) ∙ h k ∙ lookup_after q m k (rw e at b)
          ]) in
          rw (pair_path p q e f, t))
      | after b ↦ cc (h q.key, lookup_head q m q.key refl, lookup_before p l q.key b)
    ]
