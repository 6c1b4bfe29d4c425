-- What a plan says of the leaf rules: cutting the stored pairs where it says, with the separator as the right half's low key, and putting the
-- new pair into the half that it names, at the slot that it names, is L3's insert first, then split.
-- Assumes nothing.
use Rattle.model.specs.PassedLaws.{passed_if}
use Prim.Native.Nat.{◌-◌, ◌<◌, ◌≤◌, suc, zero, ℕ}
use Rattle.std.specs.Prelude.{false, length}
use mathlib.Core.List.{List, [], ◌++◌, ◌∷◌}
use Rattle.std.proofs.Common.{◌∙◌, sym, arith, le-ltb, lt-ltb, ltb-false}
use Rattle.std.proofs.Math.Path.{◌≡◌, ap, refl}
use Rattle.std.proofs.Math.Decide.{dec_lt}
use Rattle.std.proofs.Math.ListN.{drop, take}
use Rattle.layout.specs.declared.Header.{Header}
use Rattle.model.specs.Answers.{long_key, long_value, no_leaf, no_room, short, size_of}
use Rattle.model.specs.Charge.{charge}
use Rattle.model.specs.CutLaws.{Cut, cut_order}
use Rattle.model.specs.Good.{Bounds, Tiles}
use Rattle.model.specs.LeafViews.{full, settled, slack}
use Rattle.model.specs.Leaves.{Node, at_owner, owner, pairs_of, with_pairs}
use Rattle.model.specs.Map.{Pair, Rising, lookup, put}
use Rattle.model.specs.Place.{Place, at, gap, next, place}
use Rattle.model.proofs.RuleEdits.{insert_edit}
use Rattle.model.specs.Rules.{cut_key, first_key, halves, insert_here, insert_rule, lowest_free, split_if_full, split_offset}
use Rattle.model.specs.StoredCut.{cut_stored, put_here}
use Rattle.model.proofs.SplitInsert.{split_then_insert}
use Rattle.model.specs.declared.Refusal.TheVariants.{LongKey, LongValue, NoLeaf, NoRoom, ShortOutput}
use Rattle.order.specs.Bytes.{Bytes, separator}
use Rattle.order.specs.OrderLaws.{after, before, cmp_after, cmp_before, cmp_equal, equal, tri}
use Rattle.order.proofs.SeparatorLaws.{length-separator}
use Rattle.route.specs.Routes.{leaf_at, upper_of}
use Rattle.judge.specs.CutsAt.{first_at, key_after, key_before, key_here}
use Rattle.judge.specs.Judges.{Accepts, cut_of, key_in, offset_at, slot_of}

module _ (F : ℕ) (k v : Bytes) (ns : List Node) {j : ℕ} (o : j ≡ owner k ns) where
  abbrev m : List Pair
  m = put k v (leaf_at ns j).pairs

  abbrev s : ℕ
  s = offset_at F ns j

  pub plan_splits : {B : Bounds} {i : ℕ} → Tiles B ns → length m ≡ F → place k (leaf_at ns j).pairs ≡ gap i → Rising (leaf_at ns j).pairs → Cut s m
      → insert_rule F k v ns
      ≡ take j ns ++ (at_owner (put_here k v) k (cut_stored (lowest_free ns) (cut_key s m) (cut_of i s) (leaf_at ns j)) ++ drop (suc j) ns)
  unfolding insert_here
  plan_splits {B} {i} t l e r c =
      let n = leaf_at ns j in
      let q : split_if_full F (lowest_free ns) (with_pairs n m) (upper_of ns j) ≡ halves (lowest_free ns) s (with_pairs n m) =
      elim (settled F (lowest_free ns) (with_pairs n m) (upper_of ns j)) [
        | full f a w ↦ a ∙ ap (λ (z : ℕ). halves (lowest_free ns) (split_offset z n.low (upper_of ns j)) (with_pairs n m)) f
        | slack f a w ↦ absurd (f l)
      ] in
      (rw (sym o) at (insert_edit F k v ns t))
      ∙ ap (λ (z : List Node). take j ns ++ (z ++ drop (suc j) ns)) (q ∙ split_then_insert k v n i s (lowest_free ns) e r c)

-- the new pair's slot in its half

module _ (k : Bytes) where
  take-place : (m : List Pair) (i a : ℕ) → place k m ≡ gap i → i ≤ a → place k (take a m) ≡ gap i
  unfolding place
  take-place [] i zero e h = e
  take-place [] i (suc a) e h = e
  take-place (p ∷ m) i zero e h = ap gap (omega arith)
  take-place (p ∷ m) i (suc a) e h =
      elim (tri k p.key) [
        | before b ↦ rw (cmp_before b) (rw (cmp_before b) at e)
        | equal q ↦ rw (cmp_equal q) (rw (cmp_equal q) at e)
        | after b ↦ rw (cmp_after b) (behind (λ j q l. take-place m j a q l) (place k m) refl (rw (cmp_after b) at e))
      ]
    where
      behind : ((j : ℕ) → place k m ≡ gap j → j ≤ a → place k (take a m) ≡ gap j) → (x : Place) → place k m ≡ x → next x ≡ gap i → next (place k (take a m)) ≡ gap i
      behind f (at j) q r = absurd (let z : ◌≡◌ {A = ℕ} 0 1 = cc in omega arith)
      behind f (gap j) q r =
          let z : gap (suc j) ≡ gap i = r in
          let w : suc j ≡ i = cc in
          ap next (f j q (omega (arith, w))) ∙ r

  drop-place : (m : List Pair) (i a : ℕ) → place k m ≡ gap i → a ≤ i → place k (drop a m) ≡ gap (i - a)
  unfolding place
  drop-place m i zero e h = e ∙ ap gap (omega arith)
  drop-place [] i (suc a) e h = absurd (let w : ◌≡◌ {A = ℕ} 0 i = cc in omega (arith, w))
  drop-place (p ∷ m) i (suc a) e h =
      elim (tri k p.key) [
        | before b ↦ absurd (let z : gap 0 ≡ gap i = rw (cmp_before b) at e in let w : ◌≡◌ {A = ℕ} 0 i = cc in omega (arith, w))
        | equal q ↦ absurd (let z : ◌≡◌ {A = ℕ} 0 1 = cc (rw (cmp_equal q) at e) in omega arith)
        | after b ↦ behind (λ j q l. drop-place m j a q l) (place k m) refl (rw (cmp_after b) at e)
      ]
    where
      behind : ((j : ℕ) → place k m ≡ gap j → a ≤ j → place k (drop a m) ≡ gap (j - a)) → (x : Place) → place k m ≡ x → next x ≡ gap i → place k (drop a m) ≡ gap (i - suc a)
      behind f (at j) q r = absurd (let z : ◌≡◌ {A = ℕ} 0 1 = cc in omega arith)
      behind f (gap j) q r =
          let z : gap (suc j) ≡ gap i = r in
          let w : suc j ≡ i = cc in
          f j q (omega (arith, w)) ∙ ap gap (omega (arith, w))

  pub left_place : (m : List Pair) (i s : ℕ) → place k m ≡ gap i → i < s → place k (take (cut_of i s) m) ≡ gap (slot_of i s)
  left_place m i s e h = rw (lt-ltb i s h) (take-place m i (s - 1) e (omega arith))

  pub right_place : (m : List Pair) (i s : ℕ) → place k m ≡ gap i → s ≤ i → place k (drop (cut_of i s) m) ≡ gap (slot_of i s)
  right_place m i s e h = rw (le-ltb i s h) (drop-place m i s e h)

-- the separator's bytes: the front of the new key where that is the smallest of the right half, else of the first stored pair that goes right

pub separator_bytes : (s : ℕ) (m : List Pair) → Cut s m → Rising m → cut_key s m ≡ take (length (cut_key s m)) (key_in m s)
unfolding cut_key separator
separator_bytes s m c r =
    ap (λ (n : ℕ). take n (first_key (drop s m))) (sym (length-separator _ _ (cut_order c r)))
    ∙ ap (take (length (cut_key s m))) (first_at m s)

module _ (k v : Bytes) (m : List Pair) (i : ℕ) (e : place k m ≡ gap i) where
  pub right_key_stored : (s : ℕ) → 0 < s → (i ≡ s → ⊥) → key_in (put k v m) s ≡ key_in m (cut_of i s)
  right_key_stored zero z n = absurd (omega arith)
  right_key_stored (suc a) z n =
      elim (dec_lt i (suc a)) [
        | yes h ↦
            (let q : suc a - 1 ≡ a = omega arith in
            rw (lt-ltb i (suc a) h, q) (key_after k v m i e a (omega arith)))
        | no h ↦ rw (le-ltb i (suc a) (omega arith)) (key_before k v m i e (suc a) (omega (arith, n)))
      ]

  pub right_key_new : (s : ℕ) → i ≡ s → key_in (put k v m) s ≡ k
  right_key_new s q = rw (sym q) (key_here k v m i e)

-- an accepted insert met neither 7 nor 8

pub record Passed (fanout pool arena : ℕ) (k v : Bytes) (ns : List Node) : Type 0 where
  pub leaf_free : no_leaf fanout pool k v ns ≡ false
  pub room : charge (insert_rule fanout k v ns) ≤ arena

pub accepts_passed : (h : Header) (pool arena : ℕ) (k v : Bytes) (out : ℕ) (ns : List Node) → Accepts h pool arena k v out ns → Passed h.fanout pool arena k v ns
accepts_passed h pool arena k v out ns e =
    let a = (passed_if (long_key k) LongKey _ e).1 in
    let b = (passed_if (long_value v) LongValue _ a).1 in
    let c = (passed_if (short out (lookup k (pairs_of ns))) (ShortOutput (size_of (lookup k (pairs_of ns)))) _ b).1 in
    let d = passed_if (no_leaf h.fanout pool k v ns) NoLeaf _ c in
    record { leaf_free = d.0; room = ltb-false arena (charge (insert_rule h.fanout k v ns)) (passed_if (no_room h.fanout arena k v ns) NoRoom _ d.1).0 }
