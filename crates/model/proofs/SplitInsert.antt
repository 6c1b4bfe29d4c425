-- F pairs are never stored, so the code cuts the stored pairs first and then puts the new pair into the half that owns it. That gives the
-- same two leaves as L3's insert first, then split; the new key at the cut included.
-- Assumes nothing.
use Rattle.std.specs.Prelude.{◌-◌, ◌<◌, ◌≤◌, suc, zero, ℕ, cond, true, ◌≡◌, refl, ltb, drop, take}
use mathlib.Core.List.{List, [], ◌∷◌}
use Rattle.std.proofs.Math.Decide.{dec_lt}
use Rattle.std.proofs.Common.{arith, le-ltb, lt-ltb}
use Rattle.lists.specs.All.{All}
use Rattle.model.specs.CutLaws.{Cut, cut_below, cut_from}
use Rattle.model.specs.LeafViews.{on, side, stay}
use Rattle.model.specs.Leaves.{Node, at_owner, node, reaches, with_pairs}
use Rattle.model.specs.Map.{Below, From, Rising, Pair, pair, put}
use Rattle.model.specs.MapLaws.{rising_put}
use Rattle.model.specs.Place.{at, Place, gap, next, place}
use Rattle.model.specs.Rules.{cut_key, halves}
use Rattle.order.specs.Bytes.{◌≼◌, Bytes, ◌≺◌}
use Rattle.order.specs.OrderLaws.{after, before, cmp_after, cmp_before, cmp_equal, equal, tri}
use Rattle.model.specs.StoredCut.{put_here, cut_stored}

-- what holds of all pairs after a put holds of the pair that was put
put_holds : (P : Pair → Type 0) (k v : Bytes) (m : List Pair) → All P (put k v m) → P (pair k v)
unfolding put
put_holds P k v [] a = a.0
put_holds P k v (p ∷ m) a =
    elim (tri k p.key) [
      | before h ↦ (rw (cmp_before h) at a).0
      | equal h ↦ (rw (cmp_equal h) at a).0
      | after h ↦ put_holds P k v m (rw (cmp_after h) at a).1
    ]

reaches_upto : (k : Bytes) (n : Node) (ns : List Node) → n.low ≼ k → reaches k (n ∷ ns) ≡ true
reaches_upto k n ns h = elim (side k n ns) [ on e u ↦ e | stay e b ↦ absurd (h b) ]

-- a key that is absent, with the number of keys below it, by the first pair

data GapView (k : Bytes) (p : Pair) (m : List Pair) (i : ℕ) : Type 0 where
  front : k ≺ p.key → i ≡ 0 → GapView k p m i
  later : p.key ≺ k → (j : ℕ) → i ≡ suc j → place k m ≡ gap j → GapView k p m i

gap_view : (k : Bytes) (p : Pair) (m : List Pair) (i : ℕ) → place k (p ∷ m) ≡ gap i → GapView k p m i
unfolding place
gap_view k p m i e =
    elim (tri k p.key) [
      | before h ↦ front h (let z : gap 0 ≡ gap i = rw (cmp_before h) at e in cc)
      | equal q ↦ absurd (let z : ◌≡◌ {A = ℕ} 0 1 = cc (rw (cmp_equal q) at e) in omega arith)
      | after h ↦ behind (place k m) refl (rw (cmp_after h) at e) h
    ]
  where
    behind : (x : Place) → place k m ≡ x → next x ≡ gap i → p.key ≺ k → GapView k p m i
    behind (at j) q r h = absurd (let z : ◌≡◌ {A = ℕ} 0 1 = cc in omega arith)
    behind (gap j) q r h = later h j (let z : gap (suc j) ≡ gap i = r in cc) q

-- the put list cut: where at most a keys are below k, the left part of a + 1 pairs has it

put_cut_left : (k v : Bytes) (m : List Pair) (i a : ℕ) → place k m ≡ gap i → i ≤ a
    → (take (suc a) (put k v m) ≡ put k v (take a m)) × (drop (suc a) (put k v m) ≡ drop a m)
unfolding put
put_cut_left k v [] i zero e h = (refl, refl)
put_cut_left k v [] i (suc a) e h = (refl, refl)
put_cut_left k v (p ∷ m) i zero e h =
    elim (gap_view k p m i e) [
      | front b q ↦ rw (cmp_before b) (refl, refl)
      | later b j q r ↦ absurd (omega arith)
    ]
put_cut_left k v (p ∷ m) i (suc a) e h =
    elim (gap_view k p m i e) [
      | front b q ↦ rw (cmp_before b) (refl, refl)
      | later b j q r ↦
          (let t = put_cut_left k v m j a r (omega arith) in
          rw (cmp_after b) (rw t.0, t.1))
    ]

-- where at least a are, the right part behind a pairs has it

put_cut_right : (k v : Bytes) (m : List Pair) (i a : ℕ) → place k m ≡ gap i → a ≤ i
    → (take a (put k v m) ≡ take a m) × (drop a (put k v m) ≡ put k v (drop a m))
unfolding put place
put_cut_right k v m i zero e h = (refl, refl)
put_cut_right k v [] i (suc a) e h = absurd (let z : ◌≡◌ {A = ℕ} 0 i = cc in omega arith)
put_cut_right k v (p ∷ m) i (suc a) e h =
    elim (gap_view k p m i e) [
      | front b q ↦ absurd (omega arith)
      | later b j q r ↦
          (let t = put_cut_right k v m j a r (omega arith) in
          rw (cmp_after b) (rw t.0, t.1))
    ]

-- how many stored pairs stand left of the cut, and which half the new pair goes to: that which owns its key

module _ (k v : Bytes) (m : List Pair) (i at : ℕ) (e : place k m ≡ gap i) (r : Rising m) (c : Cut at (put k v m)) where
  pub split_left : i < at → (a : ℕ) → at ≡ suc a
      → (take at (put k v m) ≡ put k v (take a m)) × ((drop at (put k v m) ≡ drop a m) × (k ≺ cut_key at (put k v m)))
  split_left h a q =
      let t = put_cut_left k v m i a e (omega arith) in
      let x : take at (put k v m) ≡ put k v (take a m) = rw q t.0 in
      (x, (rw q t.1, put_holds (Below (cut_key at (put k v m))) k v (take a m) (rw x at (cut_below c (rising_put k v m r)))))

  pub split_right : at ≤ i
      → (take at (put k v m) ≡ take at m) × ((drop at (put k v m) ≡ put k v (drop at m)) × (cut_key at (put k v m) ≼ k))
  split_right h =
      let t = put_cut_right k v m i at e h in
      (t.0, (t.1, put_holds (From (cut_key at (put k v m))) k v (drop at m) (rw t.1 at (cut_from at (put k v m) (rising_put k v m r)))))

module _ (k v : Bytes) (n : Node) (i at free : ℕ) (e : place k n.pairs ≡ gap i) (r : Rising n.pairs) (c : Cut at (put k v n.pairs)) where
  pub split_then_insert : halves free at (with_pairs n (put k v n.pairs))
      ≡ at_owner (put_here k v) k (cut_stored free (cut_key at (put k v n.pairs)) (cond (ltb i at) (at - 1) at) n)
  unfolding halves at_owner
  split_then_insert =
      elim (dec_lt i at) [
        | yes h ↦
            (let t = split_left k v n.pairs i at e r c h (at - 1) (omega (arith, c.left)) in
            rw (lt-ltb i at h, cmp_before t.1.1) (rw (t.0, t.1.0)))
        | no h ↦
            (let t = split_right k v n.pairs i at e r c (omega arith) in
            rw (le-ltb i at (omega arith), reaches_upto k (node free (cut_key at (put k v n.pairs)) (drop at n.pairs)) [] t.1.1) (rw (t.0, t.1.0)))
      ]
