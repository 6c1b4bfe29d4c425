-- Demand 3's split rule: an insert that makes F pairs cuts the owner's pairs, in order, into two nonempty halves at a string above every left
-- key and above no right key, and no shorter byte string at all is. An insert that doesn't make F pairs adds no leaf.
-- Assumes nothing.
use Rattle.std.specs.Prelude.{◌≤◌, suc, ℕ, ◌≡◌, refl, length}
use mathlib.Core.List.{List, [], ◌∷◌}
use Rattle.std.proofs.Common.{ap, arith, take-append-drop}
use Rattle.std.proofs.Math.ListN.{drop, take}
use Rattle.model.specs.CutLaws.{Cut, cut_below, cut_from, cut_left, cut_right, cut_shortest, offset_cut}
use Rattle.model.specs.Good.{Bounds, Tiled, Tiles}
use Rattle.model.specs.LeafViews.{fails, full, holds, offset_of, settled, slack, truth}
use Rattle.model.specs.Leaves.{Node, at_owner, low_of, owned, reaches, with_pairs}
use Rattle.model.specs.Map.{Pair, Rising, put}
use Rattle.model.specs.MapLaws.{rising_put}
use Rattle.model.specs.Rules.{cut_key, halves, insert_here, insert_rule, lowest_free}
use Rattle.order.specs.Bytes.{Bytes}
use Rattle.model.specs.SplitOf.{Divided, SplitOf}

pub divided : (at : ℕ) (m : List Pair) → Cut at m → Rising m → Divided m (take at m) (drop at m) (cut_key at m)
divided at m c r = record {
  whole = take-append-drop at m;
  left = cut_left c;
  right = cut_right c;
  above = cut_below c r;
  upto = cut_from at m r;
  shortest = λ x a b. cut_shortest x c r a b;
}

module _ (B : Bounds) (three : 3 ≤ B.fanout) (free : ℕ) (k v : Bytes) where
  split_here : (n : Node) (ns : List Node) → owned k (n ∷ ns) ≡ n.pairs → Rising n.pairs → length (put k v n.pairs) ≡ B.fanout
      → SplitOf k v free (n ∷ ns) (insert_here B.fanout free k v n ns)
  unfolding insert_here halves
  split_here n ns o g h =
      let m = put k v n.pairs in
      let at = offset_of (with_pairs n m) (low_of ns) in
      elim (settled B.fanout free (with_pairs n m) (low_of ns)) [
        | full e q w ↦ record {
          ahead = [];
          leaf = n;
          behind = ns;
          separator = cut_key at m;
          l = take at m;
          r = drop at m;
          was = refl;
          owns = o;
          now = rw q;
          cut = divided at m (offset_cut n.low (low_of ns) m (omega arith)) (rising_put k v n.pairs g);
        }
        | slack e q w ↦ absurd (e h)
      ]

  split_owner : (ns : List Node) → Tiled B ns → length (put k v (owned k ns)) ≡ B.fanout → SplitOf k v free ns (at_owner (insert_here B.fanout free k v) k ns)
  unfolding owned at_owner put
  split_owner [] t h = absurd (omega arith)
  split_owner (n ∷ ns) t h =
      elim (truth (reaches k ns)) [
        | holds e ↦
            (let i = split_owner ns t.1 (rw e at h) in
            record {
              ahead = n ∷ i.ahead;
              leaf = i.leaf;
              behind = i.behind;
              separator = i.separator;
              l = i.l;
              r = i.r;
              was = rw (← i.was);
              owns = rw e i.owns;
              now = rw e (rw (← i.now));
              cut = i.cut;
            })
        | fails e ↦ rw e (split_here n ns (rw e) t.0.0.rises (rw e at h))
      ]

-- the theorem
pub insert_split : (B : Bounds) → 3 ≤ B.fanout → (k v : Bytes) (ns : List Node) → Tiles B ns → length (put k v (owned k ns)) ≡ B.fanout
    → SplitOf k v (lowest_free ns) ns (insert_rule B.fanout k v ns)
unfolding insert_rule
insert_split B three k v ns t h = split_owner B three (lowest_free ns) k v ns t.tiled h

-- where the insert doesn't make F pairs: as many leaves as before
pub insert_no_split : (F : ℕ) (k v : Bytes) (ns : List Node) → (length (put k v (owned k ns)) ≡ F → ⊥) → length (insert_rule F k v ns) ≡ length ns
unfolding insert_rule owned at_owner insert_here
insert_no_split F k v ns h = go ns h
  where
    go : (ms : List Node) → (length (put k v (owned k ms)) ≡ F → ⊥) → length (at_owner (insert_here F (lowest_free ns) k v) k ms) ≡ length ms
    go [] h = refl
    go (n ∷ ms) h =
        elim (truth (reaches k ms)) [
          | holds e ↦ rw e (ap suc (go ms (rw e at h)))
          | fails e ↦ rw e (elim (settled F (lowest_free ns) (with_pairs n (put k v n.pairs)) (low_of ms)) [
            | full x q w ↦ absurd ((rw e at h) x)
            | slack x q w ↦ rw q
          ])
        ]
