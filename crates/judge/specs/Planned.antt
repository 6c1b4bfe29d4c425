-- All that the commit of a plan needs, from `judge`'s answer: which stored pairs stay left, the separator and its bytes, the half and the slot of
-- the new pair, that L3 to L6 give the same leaves, and that a leaf is free and the arena has room.
-- Assumes nothing.
use Rattle.std.specs.Prelude.{◌+◌, ◌-◌, ◌<◌, ◌≤◌, suc, ℕ, false, true, List, ◌++◌, ◌≡◌, drop, length, take}
use Rattle.std.proofs.Common.{◌∙◌, ap, subst, sym, arith, eq-eqb, le-leb, le-ltb, leb-false, leb-true, lt-ltb}
use Rattle.std.proofs.Math.Decide.{dec_lt}
use Rattle.layout.specs.Presumed.{Presumed}
use Rattle.layout.specs.declared.Header.{Header}
use Rattle.model.specs.Answers.{no_leaf}
use Rattle.model.specs.CutLaws.{Cut, offset_cut}
use Rattle.model.specs.Leaves.{Node, at_owner, owner}
use Rattle.model.specs.LimitLaws.{fanout_three}
use Rattle.model.specs.Map.{Pair, Rising, put}
use Rattle.model.specs.MapLaws.{rising_put}
use Rattle.model.proofs.OwnerLaws.{tiled_at}
use Rattle.model.specs.Place.{gap, gap_lookup, place}
use Rattle.model.specs.Rules.{cut_key, insert_rule, lowest_free, split_offset}
use Rattle.model.specs.StoredCut.{cut_stored, put_here}
use Rattle.model.proofs.SplitInsert.{split_left, split_right}
use Rattle.order.specs.Bytes.{Bytes, ◌≺◌, ◌≼◌}
use Rattle.route.specs.RouteLaws.{owner_pairs, place_in, routed}
use Rattle.route.specs.Routes.{leaf_at, upper_of}
use Rattle.spots.specs.declared.Spot.{Spot}
use Rattle.judge.specs.AnswerLaws.{full_charge, new_count}
use Rattle.spots.specs.KeySpots.{InGap}
use Rattle.judge.specs.Judges.{PlanIs, Splits, cut_of, half_slot, key_in, offset_at, right_half, slot_of}
use Rattle.judge.specs.PlanSplits.{Passed, accepts_passed, left_place, plan_splits, right_key_new, right_key_stored, right_place, separator_bytes}
use Rattle.judge.specs.declared.Plan.{Plan}

-- the new pair goes left

pub record GoesLeft (k : Bytes) (m : List Pair) (s : Bytes) (p : Plan) : Type 0 where
  pub stands : place k (take p.cut m) ≡ gap (half_slot p.half)
  pub below : k ≺ s
  pub bytes : s ≡ take p.separator (key_in m p.cut)

-- it goes right; as the smallest there it gives the separator's bytes

pub record GoesRight (k : Bytes) (m : List Pair) (s : Bytes) (p : Plan) : Type 0 where
  pub stands : place k (drop p.cut m) ≡ gap (half_slot p.half)
  pub from : s ≼ k
  pub new_bytes : half_slot p.half ≡ 0 → s ≡ take p.separator k
  pub bytes : (half_slot p.half ≡ 0 → ⊥) → s ≡ take p.separator (key_in m p.cut)

pub record Planned (h : Header) (pool arena : ℕ) (k v : Bytes) (ns : List Node) (p : Plan) : Type 0 where
  pub owns : p.leaf ≡ owner k ns
  pub separator : Bytes
  pub long : length separator ≡ p.separator
  pub rule : insert_rule h.fanout k v ns
      ≡ take p.leaf ns ++ (at_owner (put_here k v) k (cut_stored (lowest_free ns) separator p.cut (leaf_at ns p.leaf)) ++ drop (suc p.leaf) ns)
  pub left : right_half p.half ≡ false → GoesLeft k (leaf_at ns p.leaf).pairs separator p
  pub right : right_half p.half ≡ true → GoesRight k (leaf_at ns p.leaf).pairs separator p
  pub cut_in : p.cut ≤ length (leaf_at ns p.leaf).pairs
  pub leaf_free : h.leaves < pool
  pub room : h.charge + length k + length v + p.separator ≤ arena

-- the stored pairs, and L4's offset, where the new key stands

abbrev pairs_at : List Node → Spot → List Pair
pairs_at ns t = (leaf_at ns t.leaf).pairs

abbrev cut_at : Header → List Node → Spot → ℕ
cut_at h ns t = offset_at h.fanout ns t.leaf

-- no more stored pairs stay left than pairs in all
cut_upto : (i s : ℕ) → cut_of i s ≤ s
cut_upto i s = elim (dec_lt i s) [ yes h ↦ rw (lt-ltb i s h) (omega arith) | no h ↦ rw (le-ltb i s (omega arith)) (omega arith) ]

module _ {h : Header} {dir slots arena : List ℕ} {ns : List Node} (x : Presumed h dir slots arena ns) (k v : Bytes) {t : Spot} (g : InGap k ns t)
    (f : suc (length (pairs_at ns t)) ≡ h.fanout) where
  filled : length (put k v (pairs_at ns t)) ≡ h.fanout
  filled = new_count x k v g.owns (gap_lookup k (pairs_at ns t) t.slot g.stands) ∙ f

  cut : Cut (cut_at h ns t) (put k v (pairs_at ns t))
  cut =
      subst (λ (n : ℕ). Cut (split_offset n (leaf_at ns t.leaf).low (upper_of ns t.leaf)) (put k v (pairs_at ns t))) filled
      (offset_cut (leaf_at ns t.leaf).low (upper_of ns t.leaf) (put k v (pairs_at ns t)) (omega (arith, filled, fanout_three x.holds.sizes.fanout_enough)))

  rises : Rising (pairs_at ns t)
  rises = (tiled_at ns t.leaf x.tiles.tiled (place_in x (routed x k g.owns).within)).rises

  free : no_leaf h.fanout (length dir) k v ns ≡ false → h.leaves < length dir
  free n =
      elim (dec_lt h.leaves (length dir)) [
        | yes l ↦ l
        | no l ↦ absurd
            (let y : no_leaf h.fanout (length dir) k v ns ≡ true = rw (owner_pairs x k g.owns, eq-eqb (length (put k v (pairs_at ns t))) h.fanout filled, le-leb (length dir) (length ns) (omega (arith, l, x.holds.leaves_are))) in
            let z : ◌≡◌ {A = ℕ} 0 1 = cc (y, n) in
            omega (arith, z))
      ]

  module _ {p : Plan} (i : PlanIs h.fanout k ns t p) where
    bytes_of : (b : Bytes) → key_in (put k v (pairs_at ns t)) (cut_at h ns t) ≡ b → cut_key (cut_at h ns t) (put k v (pairs_at ns t)) ≡ take p.separator b
    bytes_of b e =
        separator_bytes (cut_at h ns t) (put k v (pairs_at ns t)) cut (rising_put k v (pairs_at ns t) rises)
        ∙ ap (λ (n : ℕ). take n (key_in (put k v (pairs_at ns t)) (cut_at h ns t))) (sym (i.separator_is v)) ∙ ap (take p.separator) e

    stored_bytes : (t.slot ≡ cut_at h ns t → ⊥) → cut_key (cut_at h ns t) (put k v (pairs_at ns t)) ≡ take p.separator (key_in (pairs_at ns t) p.cut)
    stored_bytes n =
        bytes_of (key_in (pairs_at ns t) p.cut)
        (right_key_stored k v (pairs_at ns t) t.slot g.stands (cut_at h ns t) cut.left n ∙ ap (key_in (pairs_at ns t)) (sym i.cut_is))

    goes_left : right_half p.half ≡ false → GoesLeft k (pairs_at ns t) (cut_key (cut_at h ns t) (put k v (pairs_at ns t))) p
    goes_left e =
        let l : t.slot < cut_at h ns t = leb-false (cut_at h ns t) t.slot (sym i.right_is ∙ e) in
        record {
          stands = ap (λ (c : ℕ). place k (take c (pairs_at ns t))) i.cut_is ∙ left_place k (pairs_at ns t) t.slot (cut_at h ns t) g.stands l ∙ ap gap (sym i.slot_is);
          below = (split_left k v (pairs_at ns t) t.slot (cut_at h ns t) g.stands rises cut l (cut_at h ns t - 1) (omega (arith, cut.left))).1.1;
          bytes = stored_bytes (λ q. omega (arith, q, l));
        }

    goes_right : right_half p.half ≡ true → GoesRight k (pairs_at ns t) (cut_key (cut_at h ns t) (put k v (pairs_at ns t))) p
    goes_right e =
        let l : cut_at h ns t ≤ t.slot = leb-true (cut_at h ns t) t.slot (sym i.right_is ∙ e) in
        let u : slot_of t.slot (cut_at h ns t) ≡ t.slot - cut_at h ns t = rw (le-ltb t.slot (cut_at h ns t) l) in
        let q : half_slot p.half ≡ t.slot - cut_at h ns t = i.slot_is ∙ u in
        record {
          stands = ap (λ (c : ℕ). place k (drop c (pairs_at ns t))) i.cut_is ∙ right_place k (pairs_at ns t) t.slot (cut_at h ns t) g.stands l ∙ ap gap (sym i.slot_is);
          from = (split_right k v (pairs_at ns t) t.slot (cut_at h ns t) g.stands rises cut l).1.1;
          new_bytes = λ z. bytes_of k (right_key_new k v (pairs_at ns t) t.slot g.stands (cut_at h ns t) (omega (arith, z, q, l)));
          bytes = λ z. stored_bytes (λ w. z (omega (arith, q, w)));
        }

    plan_rule : insert_rule h.fanout k v ns
        ≡ take t.leaf ns ++ (at_owner (put_here k v) k (cut_stored (lowest_free ns) (cut_key (cut_at h ns t) (put k v (pairs_at ns t))) p.cut (leaf_at ns t.leaf)) ++ drop (suc t.leaf) ns)
    plan_rule =
        plan_splits h.fanout k v ns g.owns x.tiles filled g.stands rises cut
        ∙ ap (λ (c : ℕ). take t.leaf ns ++ (at_owner (put_here k v) k (cut_stored (lowest_free ns) (cut_key (cut_at h ns t) (put k v (pairs_at ns t))) c (leaf_at ns t.leaf)) ++ drop (suc t.leaf) ns)) (sym i.cut_is)

    stays_in : p.cut ≤ length (pairs_at ns t)
    stays_in = omega (arith, i.cut_is, cut_upto t.slot (cut_at h ns t), cut.right, filled, f)

    made : Passed h.fanout (length dir) (length arena) k v ns → Planned h (length dir) (length arena) k v ns p
    made a =
        let y = cut_key (cut_at h ns t) (put k v (pairs_at ns t)) in
        record {
          owns = i.leaf_is ∙ g.owns;
          separator = y;
          long = sym (i.separator_is v);
          rule = subst (λ (q : ℕ). insert_rule h.fanout k v ns ≡ take q ns ++ (at_owner (put_here k v) k (cut_stored (lowest_free ns) y p.cut (leaf_at ns q)) ++ drop (suc q) ns)) (sym i.leaf_is) plan_rule;
          left = subst (λ (q : ℕ). right_half p.half ≡ false → GoesLeft k (leaf_at ns q).pairs y p) (sym i.leaf_is) goes_left;
          right = subst (λ (q : ℕ). right_half p.half ≡ true → GoesRight k (leaf_at ns q).pairs y p) (sym i.leaf_is) goes_right;
          cut_in = subst (λ (q : ℕ). p.cut ≤ length (leaf_at ns q).pairs) (sym i.leaf_is) stays_in;
          leaf_free = free a.leaf_free;
          room = omega (arith, i.separator_is v, full_charge x k v g.owns (gap_lookup k (pairs_at ns t) t.slot g.stands) f, a.room);
        }

pub planned : {h : Header} {dir slots arena : List ℕ} {ns : List Node} → Presumed h dir slots arena ns → (k v : Bytes) (out : ℕ) {p : Plan}
    → Splits h (length dir) (length arena) k v out ns p → Planned h (length dir) (length arena) k v ns p
planned {h} {dir} {arena = arena} {ns = ns} x k v out a = made x k v a.spot a.full a.plan (accepts_passed h (length dir) (length arena) k v out ns a.accepts)
