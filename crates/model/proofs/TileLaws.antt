-- The leaf rules keep the tiling, whatever the mode: `Tiles` of a fresh list, after `insert_rule` and after `remove_rule`, at any bounds that
-- the inserted pair meets.
-- Assumes nothing.
use Rattle.std.specs.Prelude.{◌≤◌, ℕ, Bool, ◌≡◌, drop, length, take}
use mathlib.Core.List.{List, [], ◌++◌, ◌∷◌}
use Rattle.std.proofs.Math.Option.{Option, none, some}
use Rattle.std.proofs.Common.{◌∙◌, arith}
use Rattle.std.proofs.Math.Path.{refl}
use Rattle.std.proofs.Math.ListN.{length-drop, length-take}
use Rattle.lists.specs.All.{all_both, all_drop, all_mono, all_take}
use Rattle.model.specs.CutLaws.{Cut, cut_below, cut_from, cut_left, cut_long, cut_right, cut_upto, first_key_lem, offset_cut}
use Rattle.model.specs.Good.{Bounds, GoodLeaf, Tiled, Tiles, Within}
use Rattle.model.specs.LeafViews.{full, merges, offset_of, on, removal, settled, side, slack, stay, stays}
use Rattle.model.specs.Leaves.{Node, Spans, Under, at_owner, low_of, node, with_pairs}
use Rattle.model.specs.Map.{Below, From, pair, put, remove}
use Rattle.model.specs.MapLaws.{all_put, all_remove, rising_drop, rising_put, rising_remove, rising_take}
use Rattle.model.specs.MapParts.{length-put, length-remove}
use Rattle.model.proofs.PairLaws.{from_low}
use Rattle.model.specs.Rules.{cut_key, first_key, fresh, halves, insert_here, insert_rule, lowest_free, merge_from, remove_here, remove_rule, split_if_full}
use Rattle.order.specs.Bytes.{Bytes, ◌≺◌, ◌≼◌}
use Rattle.order.specs.OrderLaws.{below_asym, below_trans, nil_upto, upto_below_trans, upto_trans}

-- an upper key or none

under_below : (o : Option Bytes) {a b : Bytes} → a ≺ b → Under o b → Under o a
under_below none h k = tt
under_below (some u) h k = below_trans h k

under_upto : (o : Option Bytes) {a b : Bytes} → a ≼ b → Under o b → Under o a
under_upto none h k = tt
under_upto (some u) h k = upto_below_trans h k

module _ (B : Bounds) where
  -- the pairs of a good leaf, changed

  pub leaf_put : (k v : Bytes) (n : Node) (u : Option Bytes) → Within B (pair k v) → Spans n.low u k → GoodLeaf B n u → GoodLeaf B (with_pairs n (put k v n.pairs)) u
  leaf_put k v n u w s g = record {
    low_within = g.low_within;
    low_under = g.low_under;
    rises = rising_put k v n.pairs g.rises;
    spanned = all_put (λ p. Spans n.low u p.key) k v n.pairs s g.spanned;
    within = all_put (Within B) k v n.pairs w g.within;
  }

  pub leaf_remove : (k : Bytes) (n : Node) (u : Option Bytes) → GoodLeaf B n u → GoodLeaf B (with_pairs n (remove k n.pairs)) u
  leaf_remove k n u g = record {
    low_within = g.low_within;
    low_under = g.low_under;
    rises = rising_remove k n.pairs g.rises;
    spanned = all_remove (λ p. Spans n.low u p.key) k n.pairs g.spanned;
    within = all_remove (Within B) k n.pairs g.within;
  }

  -- L6: the two halves of a leaf

  module _ (n : Node) (u : Option Bytes) (at : ℕ) (c : Cut at n.pairs) (g : GoodLeaf B n u) where
    low_below_cut : n.low ≺ cut_key at n.pairs
    low_below_cut =
        upto_below_trans
        (first_key_lem (λ y. n.low ≼ y) (take at n.pairs) (cut_left c) (all_take (From n.low) at n.pairs (from_low B g)))
        (first_key_lem (λ y. y ≺ cut_key at n.pairs) (take at n.pairs) (cut_left c) (cut_below c g.rises))

    pub leaf_left : GoodLeaf B (with_pairs n (take at n.pairs)) (some (cut_key at n.pairs))
    leaf_left = record {
      low_within = g.low_within;
      low_under = low_below_cut;
      rises = rising_take at n.pairs g.rises;
      spanned = all_both (From n.low) (Below (cut_key at n.pairs)) (take at n.pairs) (all_take (From n.low) at n.pairs (from_low B g)) (cut_below c g.rises);
      within = all_take (Within B) at n.pairs g.within;
    }

    pub leaf_right : (free : ℕ) → GoodLeaf B (node free (cut_key at n.pairs) (drop at n.pairs)) u
    leaf_right free = record {
      low_within =
          (let q : length (first_key (drop at n.pairs)) ≤ B.key_most =
          first_key_lem (λ y. length y ≤ B.key_most) (drop at n.pairs) (cut_right c) (all_mono (drop at n.pairs) (λ p f. f.0) (all_drop (Within B) at n.pairs g.within)) in
          omega (arith, cut_long at n.pairs));
      low_under = under_upto u (cut_upto at n.pairs) (first_key_lem (Under u) (drop at n.pairs) (cut_right c) (all_mono (drop at n.pairs) (λ p s. s.1) (all_drop (λ p. Spans n.low u p.key) at n.pairs g.spanned)));
      rises = rising_drop at n.pairs g.rises;
      spanned = all_both (From (cut_key at n.pairs)) (λ p. Under u p.key) (drop at n.pairs) (cut_from at n.pairs g.rises) (all_mono (drop at n.pairs) (λ p s. s.1) (all_drop (λ p. Spans n.low u p.key) at n.pairs g.spanned));
      within = all_drop (Within B) at n.pairs g.within;
    }

  -- L7: the taker
  pub leaf_merge : (n m : Node) (u : Option Bytes) → GoodLeaf B n (some m.low) → GoodLeaf B m u → GoodLeaf B (with_pairs n m.pairs) u
  leaf_merge n m u g h = record {
    low_within = g.low_within;
    low_under = under_below u g.low_under h.low_under;
    rises = h.rises;
    spanned = all_mono m.pairs (λ p s. (upto_trans (below_asym g.low_under) s.0, s.1)) h.spanned;
    within = h.within;
  }

  -- what stands in the owner's place tiles, and begins where the owner did
  pub record Replaces (n : Node) (ms : List Node) : Type 0 where
    pub tiled : Tiled B ms
    pub low : low_of ms ≡ some n.low

  split_replaces : 3 ≤ B.fanout → (free : ℕ) (n : Node) (ns : List Node) → GoodLeaf B n (low_of ns) → length n.pairs ≤ B.fanout → Tiled B ns
      → Replaces n (split_if_full B.fanout free n (low_of ns) ++ ns)
  unfolding halves
  split_replaces three free n ns g h t =
      elim (settled B.fanout free n (low_of ns)) [
        | full e q w ↦
            (let at = offset_of n (low_of ns) in
            let c : Cut at n.pairs = offset_cut n.low (low_of ns) n.pairs (omega arith) in
            rw q (record {
              tiled = (
                (leaf_left n (low_of ns) at c g, rw length-take (omega (arith, c.right))),
                ((leaf_right n (low_of ns) at c g free, rw length-drop (omega (arith, c.left))), t),
              );
              low = refl;
            }))
        | slack e q w ↦ rw q (record { tiled = ((g, omega arith), t); low = refl })
      ]

  insert_replaces : 3 ≤ B.fanout → (free : ℕ) (k v : Bytes) → Within B (pair k v) → (n : Node) (ns : List Node) → Spans n.low (low_of ns) k
      → Tiled B (n ∷ ns) → Replaces n (insert_here B.fanout free k v n ns)
  unfolding insert_here
  insert_replaces three free k v w n ns s t =
      let r = split_replaces three free (with_pairs n (put k v n.pairs)) ns (leaf_put k v n (low_of ns) w s t.0.0) (omega (arith, length-put k v n.pairs, t.0.1)) t.1 in
      record { tiled = r.tiled; low = r.low }

  pub merge_replaces : (n : Node) (ns : List Node) → Tiled B (n ∷ ns) → Replaces n (merge_from n ns)
  unfolding merge_from
  merge_replaces n [] t = record { tiled = t; low = refl }
  merge_replaces n (m ∷ ns) t = record { tiled = ((leaf_merge n m (low_of ns) t.0.0 t.1.0.0, t.1.0.1), t.1.1); low = refl }

  remove_replaces : (merging : Bool) (k : Bytes) (n : Node) (ns : List Node) → Tiled B (n ∷ ns) → Replaces n (remove_here merging k n ns)
  remove_replaces merging k n ns t =
      elim (removal merging k n ns) [
        | merges on' p e f q ↦
            (let r = merge_replaces (with_pairs n []) ns ((emptied, omega (arith, t.0.1)), t.1) in
            rw q (record { tiled = r.tiled; low = r.low }))
        | stays w q ↦ rw q (record {
          tiled = ((leaf_remove k n (low_of ns) t.0.0, omega (arith, length-remove k n.pairs, t.0.1)), t.1);
          low = refl;
        })
      ]
    where
      emptied : GoodLeaf B (with_pairs n []) (low_of ns)
      emptied = record { low_within = t.0.0.low_within; low_under = t.0.0.low_under; rises = tt; spanned = tt; within = tt }

  module _ (k : Bytes) (f : Node → List Node → List Node)
      (here : (n : Node) (ns : List Node) → Spans n.low (low_of ns) k → Tiled B (n ∷ ns) → Replaces n (f n ns)) where
    owner_replaces : (n : Node) (ns : List Node) → n.low ≼ k → Tiled B (n ∷ ns) → Replaces n (at_owner f k (n ∷ ns))
    unfolding at_owner
    owner_replaces n [] h t = here n [] (h, tt) t
    owner_replaces n (m ∷ ns) h t =
        elim (side k m ns) [
          | on e u ↦ rw e (let r = owner_replaces m ns u t.1 in record { tiled = (rw r.low t.0, r.tiled); low = refl })
          | stay e b ↦ rw e (here n (m ∷ ns) (h, b) t)
        ]

    owner_tiles : (ns : List Node) → Tiles B ns → Tiles B (at_owner f k ns)
    owner_tiles [] t = absurd (let z : ◌≡◌ {A = ℕ} 0 1 = cc t.starts in omega arith)
    owner_tiles (n ∷ ns) t =
        let e : n.low ≡ [] = cc t.starts in
        let r = owner_replaces n ns (rw e nil_upto) t.tiled in
        record { starts = r.low ∙ t.starts; tiled = r.tiled }

-- the theorems

pub fresh_tiles : (B : Bounds) → 3 ≤ B.fanout → Tiles B fresh
fresh_tiles B h = record {
  starts = refl;
  tiled = ((record { low_within = omega arith; low_under = tt; rises = tt; spanned = tt; within = tt }, omega arith), tt);
}

pub insert_tiles : (B : Bounds) → 3 ≤ B.fanout → (k v : Bytes) → Within B (pair k v) → (ns : List Node) → Tiles B ns → Tiles B (insert_rule B.fanout k v ns)
unfolding insert_rule
insert_tiles B three k v w ns t =
    owner_tiles B k (insert_here B.fanout (lowest_free ns) k v) (insert_replaces B three (lowest_free ns) k v w) ns t

pub remove_tiles : (B : Bounds) (merging : Bool) (k : Bytes) (ns : List Node) → Tiles B ns → Tiles B (remove_rule merging k ns)
unfolding remove_rule
remove_tiles B merging k ns t = owner_tiles B k (remove_here merging k) (λ n ms s u. remove_replaces B merging k n ms u) ns t
