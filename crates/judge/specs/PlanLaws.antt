-- The plan of a split: what its functions ask follows from a key in a gap of a leaf that it fills, and the numbers read are the plan's.
-- Assumes nothing.
use Rattle.std.specs.Prelude.{◌+◌, ◌-◌, ◌^◌, ◌<◌, ◌≤◌, suc, ℕ, false, true, List, [], ◌≡◌, refl, length}
use Rattle.std.proofs.Common.{◌∙◌, ap, subst, sym, arith, le-leb, le-ltb, lt-ltb}
use Rattle.std.proofs.Math.Decide.{dec_lt}
use Rattle.std.proofs.lemmas.Bool.{lt-leb}
use Rattle.layout.specs.Presumed.{Presumed}
use Rattle.layout.specs.Viewed.{leaves_of}
use Rattle.layout.specs.declared.lent.View.{View}
use Rattle.lists.specs.All.{all_at}
use Rattle.model.specs.CutLaws.{Cut, offset_cut}
use Rattle.model.specs.Good.{Within, limits}
use Rattle.model.specs.Leaves.{Node}
use Rattle.model.specs.LimitLaws.{fanout_three, key_limit_fits}
use Rattle.model.specs.Limits.{key_limit}
use Rattle.model.specs.Map.{Pair, pair, put}
use Rattle.model.specs.MapParts.{length-put}
use Rattle.model.proofs.OwnerLaws.{tiled_at}
use Rattle.model.specs.Place.{gap_lookup}
use Rattle.model.specs.Rules.{cut_key, split_offset}
use Rattle.order.specs.Bytes.{Bytes}
use Rattle.order.specs.CommonLaws.{common_left, common_right}
use Rattle.route.specs.RouteLaws.{directed, leaf_lays, place_in, routed}
use Rattle.route.specs.Routes.{leaf_at, upper_of}
use Rattle.spots.specs.declared.Spot.{Spot}
use Rattle.judge.specs.CutsAt.{cut_length, gap_within}
use Rattle.judge.specs.Judges.{CommonAsked, GapAsked, OffsetAsked, PlanIs, cut_common, cut_of, key_in, offset_at, right_of, slot_of}
use Rattle.judge.specs.declared.Half.TheVariants.{Left, Right}
use Rattle.judge.specs.declared.Plan.{Plan}

-- one of the two keys at the cut is the stored one in front of it
common_short : (k : Bytes) (m : List Pair) (i s : ℕ) → cut_common k m i s ≤ length (key_in m (s - 1))
common_short k m i s =
    elim (dec_lt (suc i) s) [
      | yes h ↦ rw (lt-ltb (suc i) s h) (common_right (key_in m (s - 2)) (key_in m (s - 1)))
      | no h ↦ rw (le-ltb (suc i) s (omega arith)) (elim (dec_lt s i) [
        | yes g ↦ rw (lt-ltb s i g) (common_left (key_in m (s - 1)) (key_in m s))
        | no g ↦ rw (le-ltb s i (omega arith)) (common_right k (key_in m (s - 1)))
      ])
    ]

-- the plan's numbers, by which side of the cut the new pair is on

module _ (i s : ℕ) {o : ℕ} (e : s ≡ o) where
  left_cut : i < s → s - 1 ≡ cut_of i o
  left_cut h = subst (λ (o : ℕ). s - 1 ≡ cut_of i o) e (rw (lt-ltb i s h))

  left_slot : i < s → i ≡ slot_of i o
  left_slot h = subst (λ (o : ℕ). i ≡ slot_of i o) e (rw (lt-ltb i s h))

  left_side : i < s → false ≡ right_of i o
  left_side h = subst (λ (o : ℕ). false ≡ right_of i o) e (sym (lt-leb s i h))

  right_cut : s ≤ i → s ≡ cut_of i o
  right_cut h = subst (λ (o : ℕ). s ≡ cut_of i o) e (rw (le-ltb i s h))

  right_slot : s ≤ i → i - s ≡ slot_of i o
  right_slot h = subst (λ (o : ℕ). i - s ≡ slot_of i o) e (rw (le-ltb i s h))

  right_side : s ≤ i → true ≡ right_of i o
  right_side h = subst (λ (o : ℕ). true ≡ right_of i o) e (sym (le-leb s i h))

module _ {v : View} {k : Bytes} {t : Spot} (g : GapAsked v k t) where
  abbrev ns : List Node
  ns = leaves_of v

  abbrev x : Presumed v.header v.dir.now v.slots.now v.arena.now (leaves_of v)
  x = v.index.presumed

  abbrev m : List Pair
  m = (leaf_at (leaves_of v) t.leaf).pairs

  pub gap_in : t.leaf < v.header.leaves
  gap_in = (routed x k g.gap_spot.owns).within

  pub offset_asked : OffsetAsked v.header v.dir.now v.slots.now t.leaf
  offset_asked = record {
    directed = directed x;
    leaf_in = gap_in;
    fanout_two = omega (arith, fanout_three x.holds.sizes.fanout_enough);
  }

  counted : suc (length m) ≡ v.header.fanout
  counted = omega (arith, g.full, (leaf_lays x t.leaf gap_in).count_is)

  put_full : (w : Bytes) → length (put k w m) ≡ v.header.fanout
  put_full w =
      let l = gap_lookup k m t.slot g.gap_spot.stands in
      let e = rw l at (length-put k w m) in
      omega (arith, e, counted)

  plan_cut : (w : Bytes) → Cut (offset_at v.header.fanout ns t.leaf) (put k w m)
  plan_cut w =
      subst (λ (n : ℕ). Cut (split_offset n (leaf_at ns t.leaf).low (upper_of ns t.leaf)) (put k w m)) (put_full w)
      (offset_cut (leaf_at ns t.leaf).low (upper_of ns t.leaf) (put k w m) (omega (arith, put_full w, fanout_three x.holds.sizes.fanout_enough)))

  cut_inside : (s : ℕ) → s ≡ offset_at v.header.fanout ns t.leaf → (0 < s) × (s ≤ length m)
  cut_inside s e =
      let c = plan_cut [] in
      (omega (arith, e, c.left), omega (arith, e, c.right, put_full [], counted))

  key_short : (s : ℕ) → s ≡ offset_at v.header.fanout ns t.leaf → cut_common k m t.slot s ≤ key_limit
  key_short s e =
      let c = cut_inside s e in
      let w = all_at (Within (limits v.header.fanout)) m (s - 1) (pair [] []) (omega (arith, c)) (tiled_at ns t.leaf x.tiles.tiled (place_in x gap_in)).within in
      omega (arith, w.0, common_short k m t.slot s)

  separator_is : (s c : ℕ) → s ≡ offset_at v.header.fanout ns t.leaf → c ≡ cut_common k m t.slot s
      → (w : Bytes) → c + 1 ≡ length (cut_key (offset_at v.header.fanout ns t.leaf) (put k w m))
  separator_is s c e f w =
      let q = cut_length k w m t.slot g.gap_spot.stands (tiled_at ns t.leaf x.tiles.tiled (place_in x gap_in)).rises (offset_at v.header.fanout ns t.leaf) (plan_cut w) in
      omega (arith, f ∙ ap (cut_common k m t.slot) e, q)

  -- a separator is no longer than the longest key and one byte
  pub plan_fits : {p : Plan} → PlanIs v.header.fanout k ns t p → p.separator < 2 ^ 13
  plan_fits i =
      let s = offset_at v.header.fanout ns t.leaf in
      omega (arith, i.separator_is [], separator_is s (cut_common k m t.slot s) refl refl [], key_short s refl, key_limit_fits)

  module _ {s : ℕ} (e : s ≡ offset_at v.header.fanout ns t.leaf) where
    pub common_asked : CommonAsked v k t s
    common_asked =
        let c = cut_inside s e in
        let l = (leaf_lays x t.leaf gap_in).count_is in
        record {
          leaf_in = gap_in;
          owns = g.gap_spot.owns;
          slot_upto = omega (arith, l, gap_within k [] m t.slot g.gap_spot.stands);
          cut_left = c.0;
          cut_right = omega (arith, c.1, l);
        }

    module _ {c : ℕ} (f : c ≡ cut_common k m t.slot s) where
      pub separator_fits : c + 1 < 2 ^ 32
      separator_fits = omega (arith, f, key_short s e, key_limit_fits)

      pub plan_left : t.slot < s → PlanIs v.header.fanout k ns t (record { leaf = t.leaf; cut = s - 1; separator = c + 1; half = Left t.slot })
      plan_left l = record {
        leaf_is = refl;
        cut_is = left_cut t.slot s e l;
        separator_is = separator_is s c e f;
        right_is = left_side t.slot s e l;
        slot_is = left_slot t.slot s e l;
      }

      pub plan_right : s ≤ t.slot → PlanIs v.header.fanout k ns t (record { leaf = t.leaf; cut = s; separator = c + 1; half = Right (t.slot - s) })
      plan_right l = record {
        leaf_is = refl;
        cut_is = right_cut t.slot s e l;
        separator_is = separator_is s c e f;
        right_is = right_side t.slot s e l;
        slot_is = right_slot t.slot s e l;
      }
