-- The leaf list cut in two as a plan says is an index's, with the separator in its charge: it is what an insert leaves, less the new pair.
-- Assumes nothing.
use Rattle.std.specs.Prelude.{◌+◌, ◌<◌, ◌≤◌, suc, ℕ, List, [], ◌++◌, ◌∷◌, ◌≡◌, refl, drop, length, take}
use Rattle.std.proofs.Common.{append_assoc, ◌∙◌, sym, arith, length-append, length-take, take-append-drop}
use Rattle.std.proofs.Math.Path.{ap}
use Rattle.std.proofs.Math.Seq.{split_at}
use Rattle.judge.specs.Judges.{half_slot, right_half}
use Rattle.judge.specs.declared.Plan.{Plan}
use Rattle.layout.specs.Presumed.{Presumed}
use Rattle.layout.specs.declared.Header.{Header}
use Rattle.model.specs.Charge.{charge, weight}
use Rattle.model.specs.Good.{Tiles, limits}
use Rattle.model.specs.LeafViews.{fails, holds, on, side, stay, truth}
use Rattle.model.specs.Leaves.{Node, at_owner, node, pairs_of, with_pairs}
use Rattle.model.specs.LimitLaws.{fanout_three}
use Rattle.model.specs.Map.{Pair, put}
use Rattle.model.specs.MapParts.{weight-append}
use Rattle.model.proofs.Numbers.{insert_distinct, insert_numbers, lowest_below}
use Rattle.model.specs.Rules.{insert_rule, lowest_free}
use Rattle.model.specs.StoredCut.{cut_stored, put_here}
use Rattle.model.proofs.StoredLaws.{charge_ahead}
use Rattle.model.proofs.TileLaws.{insert_tiles}
use Rattle.order.specs.Bytes.{Bytes, ◌≺◌, ◌≼◌}
use Rattle.order.specs.OrderLaws.{cmp_before}
use Rattle.route.specs.RouteLaws.{routed}
use Rattle.route.specs.Routes.{leaf_at}
use Rattle.split.specs.CutGood.{CutGood}
use Rattle.split.specs.PairLess.{PairLess, less_distinct, less_numbers, less_tiles}
use Rattle.split.specs.Splits.{SplitAsked, cut_nodes, spot_of}

-- which half the new pair goes to

module _ (k v : Bytes) (free : ℕ) (s : Bytes) (i : ℕ) (n : Node) where
  put_left_half : k ≺ s → at_owner (put_here k v) k (cut_stored free s i n) ≡ with_pairs n (put k v (take i n.pairs)) ∷ node free s (drop i n.pairs) ∷ []
  unfolding at_owner
  put_left_half b = rw (cmp_before b)

  put_right_half : s ≼ k → at_owner (put_here k v) k (cut_stored free s i n) ≡ with_pairs n (take i n.pairs) ∷ node free s (put k v (drop i n.pairs)) ∷ []
  unfolding at_owner
  put_right_half h = elim (side k (node free s (drop i n.pairs)) []) [ on e u ↦ rw e | stay e b ↦ absurd (h b) ]

-- the sizes of a leaf list with one leaf cut in two

pairs_ahead : (l r : List Node) → length (pairs_of (l ++ r)) ≡ length (pairs_of l) + length (pairs_of r)
pairs_ahead [] r = omega arith
pairs_ahead (x ∷ l) r =
    omega (arith, length-append x.pairs (pairs_of (l ++ r)), length-append x.pairs (pairs_of l), pairs_ahead l r)

module _ (l : List Node) (n : Node) (r : List Node) (free : ℕ) (s : Bytes) (i : ℕ) where
  parts : take i n.pairs ++ drop i n.pairs ≡ n.pairs
  parts = take-append-drop i n.pairs

  charge_parts : charge (l ++ (cut_stored free s i n ++ r)) ≡ charge (l ++ (n ∷ r)) + length s
  unfolding charge
  charge_parts =
      omega (arith, charge_ahead l (cut_stored free s i n ++ r), charge_ahead l (n ∷ r), weight-append (take i n.pairs) (drop i n.pairs), ap weight parts)

  pairs_parts : length (pairs_of (l ++ (cut_stored free s i n ++ r))) ≡ length (pairs_of (l ++ (n ∷ r)))
  pairs_parts =
      let a = take i n.pairs in
      let b = drop i n.pairs in
      omega (
        arith,
        pairs_ahead l (cut_stored free s i n ++ r),
        pairs_ahead l (n ∷ r),
        length-append a (b ++ pairs_of r),
        length-append b (pairs_of r),
        length-append n.pairs (pairs_of r),
        length-append a b,
        ap length parts,
      )

  count_parts : length (l ++ (cut_stored free s i n ++ r)) ≡ suc (length (l ++ (n ∷ r)))
  count_parts = omega (arith, length-append l (cut_stored free s i n ++ r), length-append l (n ∷ r))

-- the laws

module _ {h : Header} {dir slots arena : List ℕ} {ns : List Node} (x : Presumed h dir slots arena ns) (k v : Bytes) {p : Plan}
    (a : SplitAsked h (length dir) (length arena) k v p ns) where
  abbrev sep : Bytes
  sep = a.plan.separator

  abbrev leaf : Node
  leaf = leaf_at ns p.leaf

  abbrev lefts : List Pair
  lefts = take p.cut leaf.pairs

  abbrev rights : List Pair
  rights = drop p.cut leaf.pairs

  abbrev front : List Node
  front = take p.leaf ns

  abbrev rest : List Node
  rest = drop (suc p.leaf) ns

  pub leaf_in : p.leaf < length ns
  leaf_in = omega (arith, (routed x k a.plan.owns).within, x.holds.leaves_are)

  whole : ns ≡ front ++ (leaf ∷ rest)
  whole = split_at ns p.leaf (node 0 [] []) leaf_in

  front_long : length front ≡ p.leaf
  front_long = rw length-take (omega (arith, leaf_in))

  pub all_but_pair : PairLess k v (spot_of p).leaf (half_slot p.half) (cut_nodes sep p ns) (insert_rule h.fanout k v ns)
  all_but_pair =
      elim (truth (right_half p.half)) [
        | fails e ↦
            (let g = a.plan.left e in
            record {
              ahead = front;
              leaf = with_pairs leaf lefts;
              behind = node (lowest_free ns) sep rights ∷ rest;
              less_is = refl;
              more_is = a.plan.rule ∙ ap (λ (z : List Node). front ++ (z ++ rest)) (put_left_half k v (lowest_free ns) sep p.cut leaf g.below);
              place_is = rw e front_long;
              stands = g.stands;
              spans = ((routed x k a.plan.owns).spans.0, g.below);
            })
        | holds e ↦
            (let g = a.plan.right e in
            record {
              ahead = front ++ (with_pairs leaf lefts ∷ []);
              leaf = node (lowest_free ns) sep rights;
              behind = rest;
              less_is = sym (append_assoc front (with_pairs leaf lefts ∷ []) (node (lowest_free ns) sep rights ∷ rest));
              more_is = a.plan.rule ∙ ap (λ (z : List Node). front ++ (z ++ rest)) (put_right_half k v (lowest_free ns) sep p.cut leaf g.from)
                  ∙ sym (append_assoc front (with_pairs leaf lefts ∷ []) (node (lowest_free ns) sep (put k v rights) ∷ rest));
              place_is = rw e (omega (arith, length-append front (with_pairs leaf lefts ∷ []), front_long));
              stands = g.stands;
              spans = (g.from, (routed x k a.plan.owns).spans.1);
            })
      ]

  pub inserted_tiles : Tiles (limits h.fanout) (insert_rule h.fanout k v ns)
  inserted_tiles = insert_tiles (limits h.fanout) (fanout_three x.holds.sizes.fanout_enough) k v (a.key_short, a.value_short) ns x.tiles

  charge_cut : charge (cut_nodes sep p ns) ≡ charge ns + length sep
  charge_cut = charge_parts front leaf rest (lowest_free ns) sep p.cut ∙ ap (λ (z : List Node). charge z + length sep) (sym whole)

  pairs_cut : length (pairs_of (cut_nodes sep p ns)) ≡ length (pairs_of ns)
  pairs_cut = pairs_parts front leaf rest (lowest_free ns) sep p.cut ∙ ap (λ (z : List Node). length (pairs_of z)) (sym whole)

  count_cut : length (cut_nodes sep p ns) ≡ suc (length ns)
  count_cut = count_parts front leaf rest (lowest_free ns) sep p.cut ∙ ap (λ (z : List Node). suc (length z)) (sym whole)

  leaf_left : length ns < length dir
  leaf_left = omega (arith, a.plan.leaf_free, x.holds.leaves_are)

  pub cut_room : charge (cut_nodes sep p ns) + length k + length v ≤ length arena
  cut_room = omega (arith, charge_cut, a.plan.room, a.plan.long, x.holds.charge_is)

  pub cut_good : CutGood h (length dir) (length arena) ns (cut_nodes sep p ns) sep
  cut_good = record {
    tiles = less_tiles all_but_pair inserted_tiles;
    fits = record {
      counted = omega (arith, count_cut, leaf_left);
      in_pool = less_numbers all_but_pair (λ i. i < length dir) (insert_numbers (λ i. i < length dir) h.fanout k v ns (λ e. lowest_below (length dir) ns leaf_left) x.fits.in_pool);
      distinct = less_distinct all_but_pair (insert_distinct h.fanout k v ns x.fits.distinct);
      charged = omega (arith, cut_room);
    };
    charge_is = charge_cut;
    pairs_are = pairs_cut;
    count = count_cut;
  }
