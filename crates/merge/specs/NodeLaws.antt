-- L7 on the leaf list, at a place in it: the list left is an index's, without the freed low key in its charge, with the same pairs and one leaf
-- fewer.
-- Assumes nothing.
use Rattle.std.specs.Prelude.{ℕ, zero, suc, ◌+◌, ◌<◌, ◌≡◌, refl, drop, get_or, length}
use mathlib.Core.List.{List, [], ◌∷◌, ◌++◌}
use Rattle.std.proofs.Common.{◌∙◌, sym, arith, length-append, drop-cons}
use Rattle.std.proofs.Math.Path.{ap}
use Rattle.std.proofs.Math.ListN.{take}
use Rattle.std.proofs.Math.Seq.{split_at}
use Rattle.layout.specs.Lays.{prefixes_of}
use Rattle.lists.specs.All.{All, all_append, all_left, all_right}
use Rattle.model.specs.Charge.{charge, weight}
use Rattle.model.specs.Good.{Bounds, Distinct, Fits, Tiled, Tiles}
use Rattle.model.specs.Leaves.{Node, low_of, node, pairs_of, prefix_length, with_pairs}
use Rattle.model.specs.Map.{Pair}
use Rattle.model.specs.Rules.{merge_from}
use Rattle.model.proofs.StoredLaws.{charge_ahead}
use Rattle.model.proofs.TileLaws.{Replaces, merge_replaces}
use Rattle.merge.specs.Merges.{MergeAsked, merge_at}
use Rattle.route.specs.Routes.{leaf_at}

-- tiling

module _ (B : Bounds) where
  merge_behind : (j : ℕ) (n : Node) (ns : List Node) → j < length (n ∷ ns) → Tiled B (n ∷ ns) → Replaces B n (merge_at j (n ∷ ns))
  merge_behind zero n ns h t = merge_replaces B n ns t
  merge_behind (suc j) n [] h t = absurd (omega arith)
  merge_behind (suc j) n (m ∷ ns) h t =
      let r = merge_behind j m ns (omega arith) t.1 in
      record { tiled = (rw r.low t.0, r.tiled); low = refl }

  merge_tiles : (j : ℕ) (ns : List Node) → j < length ns → Tiles B ns → Tiles B (merge_at j ns)
  merge_tiles j [] h t = absurd (omega arith)
  merge_tiles j (n ∷ ns) h t =
      let r = merge_behind j n ns h t.tiled in
      record { starts = r.low ∙ t.starts; tiled = r.tiled }

-- the list seen from the j-th leaf

abbrev taken : Node → Node → Node
taken n m = with_pairs n m.pairs

module _ (l : List Node) (n m : Node) (r : List Node) where
  numbers_fewer : (R : ℕ → Type 0) → All (λ x. R x.number) (l ++ (n ∷ m ∷ r)) → All (λ x. R x.number) (l ++ (taken n m ∷ r))
  numbers_fewer R a =
      let b = all_right (λ x. R x.number) l (n ∷ m ∷ r) a in
      all_append (λ x. R x.number) l (taken n m ∷ r) (all_left (λ x. R x.number) l (n ∷ m ∷ r) a) (b.0, b.1.1)

  charge_fewer : n.pairs ≡ [] → charge (l ++ (taken n m ∷ r)) + length m.low ≡ charge (l ++ (n ∷ m ∷ r))
  unfolding charge weight
  charge_fewer e = omega (arith, charge_ahead l (taken n m ∷ r), charge_ahead l (n ∷ m ∷ r), ap weight e)

distinct_fewer : (l : List Node) (n m : Node) (r : List Node) → Distinct (l ++ (n ∷ m ∷ r)) → Distinct (l ++ (taken n m ∷ r))
distinct_fewer [] n m r d = (d.0.1, d.1.1)
distinct_fewer (x ∷ l) n m r d = (numbers_fewer l n m r (λ i. x.number ≡ i → ⊥) d.0, distinct_fewer l n m r d.1)

pairs_fewer : (l : List Node) (n m : Node) (r : List Node) → n.pairs ≡ [] → pairs_of (l ++ (taken n m ∷ r)) ≡ pairs_of (l ++ (n ∷ m ∷ r))
pairs_fewer [] n m r e = rw e
pairs_fewer (x ∷ l) n m r e = ap (λ (ps : List Pair). x.pairs ++ ps) (pairs_fewer l n m r e)

-- at a place

module _ (j : ℕ) (ns : List Node) (next : suc j < length ns) where
  pub merge_whole : ns ≡ take j ns ++ (leaf_at ns j ∷ leaf_at ns (suc j) ∷ drop (suc (suc j)) ns)
  merge_whole =
      split_at ns j (node 0 [] []) (omega arith) ∙ ap (λ (r : List Node). take j ns ++ (leaf_at ns j ∷ r)) (drop-cons ns (suc j) (node 0 [] []) next)

  pub merge_is : merge_at j ns ≡ take j ns ++ (taken (leaf_at ns j) (leaf_at ns (suc j)) ∷ drop (suc (suc j)) ns)
  unfolding merge_from
  merge_is = ap (λ (r : List Node). take j ns ++ merge_from (leaf_at ns j) r) (drop-cons ns (suc j) (node 0 [] []) next)

-- what is left

pub record MergeGood (B : Bounds) (pool arena j : ℕ) (ns : List Node) : Type 0 where
  pub tiles : Tiles B (merge_at j ns)
  pub fits : Fits pool arena (merge_at j ns)
  pub charge_is : charge (merge_at j ns) + length (leaf_at ns (suc j)).low ≡ charge ns
  pub pairs_are : pairs_of (merge_at j ns) ≡ pairs_of ns
  pub count : suc (length (merge_at j ns)) ≡ length ns

module _ (B : Bounds) (pool arena : ℕ) {j : ℕ} {ns : List Node} (a : MergeAsked j ns) (tiles : Tiles B ns) (fits : Fits pool arena ns) where
  abbrev n : Node
  n = leaf_at ns j

  abbrev m : Node
  m = leaf_at ns (suc j)

  abbrev l : List Node
  l = take j ns

  abbrev r : List Node
  r = drop (suc (suc j)) ns

  charge_left : charge (merge_at j ns) + length m.low ≡ charge ns
  charge_left =
      ap (λ (z : List Node). charge z + length m.low) (merge_is j ns a.next_in) ∙ charge_fewer l n m r a.empty ∙ ap charge (sym (merge_whole j ns a.next_in))

  pairs_left : pairs_of (merge_at j ns) ≡ pairs_of ns
  pairs_left = ap pairs_of (merge_is j ns a.next_in) ∙ pairs_fewer l n m r a.empty ∙ ap pairs_of (sym (merge_whole j ns a.next_in))

  count_left : suc (length (merge_at j ns)) ≡ length ns
  count_left =
      omega (
        arith,
        ap length (merge_is j ns a.next_in),
        ap length (merge_whole j ns a.next_in),
        length-append l (taken n m ∷ r),
        length-append l (n ∷ m ∷ r),
      )

  pub merge_good : MergeGood B pool arena j ns
  merge_good = record {
    tiles = merge_tiles B j ns (omega (arith, a.next_in)) tiles;
    fits = record {
      counted = omega (arith, count_left, fits.counted);
      in_pool = rw (merge_is j ns a.next_in) (numbers_fewer l n m r (λ i. i < pool) (rw (merge_whole j ns a.next_in) at fits.in_pool));
      distinct = rw (merge_is j ns a.next_in) (distinct_fewer l n m r (rw (merge_whole j ns a.next_in) at fits.distinct));
      charged = omega (arith, charge_left, fits.charged);
    };
    charge_is = charge_left;
    pairs_are = pairs_left;
    count = count_left;
  }

-- L2's prefix lengths: the taker's goes to the upper key that it took over
pub merge_prefixes : (x : Node) (ps : List Pair) (j : ℕ) (ns : List Node) → suc j < length ns
    → prefixes_of (take j ns ++ (with_pairs (get_or ns j x) ps ∷ drop (suc (suc j)) ns))
    ≡ take j (prefixes_of ns) ++ (prefix_length (get_or ns j x).low (low_of (drop (suc (suc j)) ns)) ∷ drop (suc (suc j)) (prefixes_of ns))
merge_prefixes x ps j [] h = absurd (omega arith)
merge_prefixes x ps j (n ∷ []) h = absurd (omega arith)
merge_prefixes x ps zero (n ∷ m ∷ ns) h = refl
merge_prefixes x ps (suc zero) (n ∷ m ∷ ns) h = rw (merge_prefixes x ps zero (m ∷ ns) (omega arith))
merge_prefixes x ps (suc (suc j)) (n ∷ m ∷ ns) h = rw (merge_prefixes x ps (suc j) (m ∷ ns) (omega arith))
