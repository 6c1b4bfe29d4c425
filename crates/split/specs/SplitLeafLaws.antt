-- What `split_leaf` asks of its steps, from what it knows of the leaf list cut as planned, and that the steps leave that leaf list's index.
-- Assumes nothing.
use Rattle.std.specs.Prelude.{◌*◌, ◌+◌, ◌-◌, ◌<◌, ◌^◌, ◌≤◌, suc, ℕ, List, [], ◌++◌, ◌∷◌, ◌≡◌, refl, drop, get_or, length, take}
use Rattle.std.proofs.Math.Option.{Option, none, some}
use Rattle.std.proofs.Common.{◌∙◌, ap, subst, sym, arith, length-append, length-drop, length-take, length-take-le}
use Rattle.directory.specs.Used.{lent}
use Rattle.judge.specs.declared.Plan.{Plan}
use Rattle.layout.specs.Lays.{LaysAt, prefixes_of}
use Rattle.layout.specs.Presumed.{Index, Presumed}
use Rattle.layout.specs.declared.Header.{Header}
use Rattle.leaf.specs.declared.Leaf.{Leaf}
use Rattle.lists.specs.All.{All, all_mono}
use Rattle.model.specs.Good.{Bounds, GoodLeaf, Tiled, limits}
use Rattle.model.specs.Leaves.{Node, Spans, Under, node, prefix_length, with_pairs}
use Rattle.model.specs.LimitLaws.{arena_limit_fits, fanout_three, key_limit_small, pool_limit_fits}
use Rattle.model.proofs.Numbers.{lowest_below, lowest_free_lem, unused}
use Rattle.model.proofs.OwnerLaws.{tiled_at}
use Rattle.model.specs.PrefixLaws.{span_prefix}
use Rattle.model.specs.Rules.{lowest_free}
use Rattle.model.proofs.StoredLaws.{prefix_grows}
use Rattle.numbers.specs.Free.{FreeRead}
use Rattle.numbers.specs.FreeLaws.{presumed_numbered}
use Rattle.order.specs.Bytes.{Bytes, ◌≼◌}
use Rattle.order.specs.CommonLaws.{common_left, common_most, squeeze, squeeze_long}
use Rattle.order.specs.OrderLaws.{below_asym}
use Rattle.route.specs.Routes.{LeafIs, leaf_at, prefix_at, upper_of}
use Rattle.slots.specs.Whole.{Apart}
use Rattle.split.specs.CutGood.{CutGood}
use Rattle.split.specs.CutNodes.{cut_good}
use Rattle.split.specs.PairedLaws.{at_first, at_second, behind_first, behind_second, first_at, prefix_first, prefix_second, prefixes_both, prefixes_first, prefixes_second, twice_at}
use Rattle.split.specs.Splits.{CanCutStored, CanShortenHalf, CanSplit, CanWriteSeparator, CutAsked, CutStored, HalfAsked, SeparatorWritten, ShortenedHalf, SplitAsked, SplitLeaf, cut_at, cut_nodes, twice}

-- a key between a leaf's low key and its upper key shares no less with the low key than the upper key does
prefix_below : (low s : Bytes) (upper : Option Bytes) → low ≼ s → Under upper s → prefix_length low upper ≤ prefix_length low (some s)
prefix_below low s none h u = omega arith
prefix_below low s (some upper) h u = common_most _ low s (common_left low upper) (squeeze_long low s upper h u) (sym (squeeze low s upper h u))

-- between calls every leaf has a slot left
tiled_few : (B : Bounds) (ns : List Node) → Tiled B ns → All (λ n. length n.pairs < B.fanout) ns
tiled_few B [] t = tt
tiled_few B (n ∷ ns) t = (t.0.1, tiled_few B ns t.1)

-- the header with one leaf more and the separator in its charge
abbrev pub split_header : Header → Plan → Header
split_header h p = record { fanout = h.fanout; leaves = h.leaves + 1; pairs = h.pairs; charge = h.charge + p.separator }

-- the prefix lengths after the first half's

abbrev pub once_prefixes : (j : ℕ) (ps : List ℕ) → ℕ → List ℕ
once_prefixes j ps m = take j ps ++ (m ∷ drop (suc j) ps)

module _ {h : Header} {dir slots arena : List ℕ} {ns : List Node} (x : Presumed h dir slots arena ns) {k v : Bytes} {p : Plan}
    (a : SplitAsked h (length dir) (length arena) k v p ns)
    (g : CutGood h (length dir) (length arena) ns (cut_nodes a.plan.separator p ns) a.plan.separator) where
  abbrev j : ℕ
  j = p.leaf

  abbrev s : Bytes
  s = a.plan.separator

  abbrev n : Node
  n = leaf_at ns j

  abbrev left : Node
  left = with_pairs n (take p.cut n.pairs)

  abbrev right : Node
  right = node (lowest_free ns) s (drop p.cut n.pairs)

  abbrev rest : List Node
  rest = drop (suc j) ns

  abbrev cut : List Node
  cut = cut_nodes s p ns

  -- the leaf that is cut is in the list, for the cut list has one leaf more

  cut_count : length cut ≡ length (take j ns) + suc (suc (length rest))
  cut_count = length-append (take j ns) (left ∷ right ∷ rest)

  pub split_leaf_in : j < length ns
  split_leaf_in = omega (arith, cut_count, length-take j ns, length-drop (suc j) ns, g.count)

  front_long : length (take j ns) ≡ j
  front_long = length-take-le j ns (omega (arith, split_leaf_in))

  -- the halves

  left_is : leaf_at cut j ≡ left
  left_is = at_first (take j ns) left right rest front_long (node 0 [] [])

  right_is : leaf_at cut (suc j) ≡ right
  right_is = at_second (take j ns) left right rest front_long (node 0 [] [])

  left_in : j < length cut
  left_in = omega (arith, g.count, split_leaf_in)

  right_in : suc j < length cut
  right_in = omega (arith, g.count, split_leaf_in)

  left_good : GoodLeaf (limits h.fanout) left (some s)
  left_good = rw (left_is, behind_first (take j ns) left right rest front_long) at (tiled_at cut j g.tiles.tiled left_in)

  right_good : GoodLeaf (limits h.fanout) right (upper_of ns j)
  right_good = rw (right_is, behind_second (take j ns) left right rest front_long) at (tiled_at cut (suc j) g.tiles.tiled right_in)

  -- the separator lies in the leaf's span, so it begins with the leaf's prefix

  from_low : n.low ≼ s
  from_low = below_asym left_good.low_under

  sep_spans : Spans n.low (upper_of ns j) s
  sep_spans = (from_low, right_good.low_under)

  -- the cut

  pub cut_asked : CutAsked h (length dir) (length arena) j p.cut (lowest_free ns) s ns
  cut_asked = record {
    leaf_in = split_leaf_in;
    slot = a.plan.cut_in;
    leaf_free = a.plan.leaf_free;
    number_in = lowest_below (length dir) ns (omega (arith, a.plan.leaf_free, x.holds.leaves_are));
    number_free = all_mono ns (λ m f e. f (sym e)) (unused (lowest_free ns) ns (lowest_free_lem ns));
    low_short = right_good.low_within;
    prefix_is = span_prefix n.low (upper_of ns j) s sep_spans;
    room = omega (arith, a.plan.room, a.plan.long);
  }

  -- the halves' prefixes are not shorter than the leaf's

  left_longer : prefix_at ns j ≤ prefix_at cut j
  left_longer = rw (prefix_first ns split_leaf_in left right refl) (prefix_below n.low s (upper_of ns j) from_low right_good.low_under)

  right_longer : prefix_at ns j ≤ prefix_at cut (suc j)
  right_longer = rw (prefix_second ns split_leaf_in left right refl) (prefix_grows n.low s (upper_of ns j) from_low right_good.low_under)

  abbrev once : List ℕ
  once = once_prefixes j (twice j (prefixes_of ns)) (prefix_at cut j)

  module _ (now_dir now_arena : List ℕ) (same_dir : length now_dir ≡ length dir) (same_arena : length now_arena ≡ length arena) where
    cut_apart : {now_slots : List ℕ} → length now_slots ≡ length slots → Apart (lent h.fanout now_slots now_arena) (length now_dir) cut
    cut_apart same = record {
      slots_are = same ∙ x.holds.sizes.slots_are ∙ ap (λ (i : ℕ). h.fanout * i) (sym same_dir);
      numbers = rw same_dir g.fits.in_pool;
      distinct = g.fits.distinct;
      few = tiled_few (limits h.fanout) cut g.tiles.tiled;
    }

    half_asked : {now_slots ps : List ℕ} {i old : ℕ} → length now_slots ≡ length slots → LaysAt (lent h.fanout now_slots now_arena) (take (h.leaves + 1) now_dir) ps cut
        → i < length cut → get_or ps i 0 ≡ old → old ≤ prefix_at cut i → HalfAsked (split_header h p) now_dir now_slots now_arena i old ps cut
    half_asked {i = i} same l w e m = record {
      some_slot = omega (arith, fanout_three x.holds.sizes.fanout_enough);
      listed = omega (arith, same_dir, a.plan.leaf_free);
      arena_fits = omega (arith, same_arena, x.holds.sizes.arena_most, arena_limit_fits);
      lays = l;
      apart = cut_apart same;
      leaf_in = w;
      old_is = e;
      longer = m;
      spanned = (tiled_at cut i g.tiles.tiled w).spanned;
    }

    pub first_asked : {now_slots : List ℕ} {old : ℕ} → length now_slots ≡ length slots → old ≡ prefix_at ns j
        → LaysAt (lent h.fanout now_slots now_arena) (take (h.leaves + 1) now_dir) (twice j (prefixes_of ns)) cut
        → HalfAsked (split_header h p) now_dir now_slots now_arena j old (twice j (prefixes_of ns)) cut
    first_asked same e l = half_asked same l left_in (twice_at ns split_leaf_in ∙ sym e) (omega (arith, e, left_longer))

    pub second_asked : {now_slots : List ℕ} {old : ℕ} → length now_slots ≡ length slots → old ≡ prefix_at ns j
        → LaysAt (lent h.fanout now_slots now_arena) (take (h.leaves + 1) now_dir) once cut
        → HalfAsked (split_header h p) now_dir now_slots now_arena (suc j) old once cut
    second_asked same e l =
        half_asked same l right_in (rw (prefixes_first ns split_leaf_in (prefix_at cut j)) (first_at ns split_leaf_in (prefix_at cut j)) ∙ sym e) (omega (arith, e, right_longer))

    pub cut_presumed : {now_slots : List ℕ} → length now_slots ≡ length slots
        → LaysAt (lent h.fanout now_slots now_arena) (take (h.leaves + 1) now_dir) (once_prefixes (suc j) once (prefix_at cut (suc j))) cut
        → Presumed (split_header h p) now_dir now_slots now_arena cut
    cut_presumed same l =
        let e : once_prefixes (suc j) once (prefix_at cut (suc j)) ≡ prefixes_of cut =
        ap (λ (ps : List ℕ). once_prefixes (suc j) ps (prefix_at cut (suc j))) (prefixes_first ns split_leaf_in (prefix_at cut j))
        ∙ prefixes_second ns split_leaf_in (prefix_at cut j) (prefix_at cut (suc j)) ∙ sym (prefixes_both ns split_leaf_in left right refl) in
        let m : h.leaves + 1 ≡ length cut = omega (arith, g.count, x.holds.leaves_are) in
        record {
          holds = record {
            sizes = rw (same_dir, same, same_arena) x.holds.sizes;
            leaves_are = m;
            pairs_are = x.holds.pairs_are ∙ sym g.pairs_are;
            charge_is = omega (arith, x.holds.charge_is, g.charge_is, a.plan.long);
            lays = rw (e, m) at l;
          };
          tiles = g.tiles;
          fits = rw (same_dir, same_arena) g.fits;
        }

-- the steps, from the contract of `split_leaf`

-- the front of the buffer, cut out from 0 on
abbrev pub front_of : List ℕ → ℕ → Bytes
front_of b n = take (n - 0) (drop 0 b)

front_is : (b : List ℕ) (n : ℕ) → front_of b n ≡ take n b
front_is b n = ap (λ (i : ℕ). take i b) (let e : n - 0 ≡ n = omega arith in e)

pub record SplitReach (h : Header) (dir : List ℕ) (p : Plan) : Type 0 where
  pub leaf_in : p.leaf < h.leaves
  pub listed : h.leaves < length dir
  pub pool_small : length dir ≤ 2 ^ 12
  pub charge_small : h.charge + p.separator < 2 ^ 28
  pub separator_short : p.separator ≤ 512

module _ {h : Header} {dir slots arena : List ℕ} {k : Bytes} {p : Plan} (c : CanSplit h dir slots arena k p) where
  abbrev ns₀ : List Node
  ns₀ = c.step.nodes

  good_cut : CutGood h (length dir) (length arena) ns₀ (cut_nodes c.step.asks.plan.separator p ns₀) c.step.asks.plan.separator
  good_cut = cut_good c.step.presumed k c.value c.step.asks

  pub separator_asked : {out : List ℕ} → length out ≡ 512 → CanWriteSeparator h dir slots arena k p out
  separator_asked e = record { asked = c; holds_keys = omega (arith, e, key_limit_small) }

  pub split_index : Index h dir slots arena
  split_index = record { nodes = ns₀; presumed = c.step.presumed }

  pub split_reach : SplitReach h dir p
  split_reach =
      let x = c.step.presumed in
      let a = c.step.asks in
      let q = cut_asked x a good_cut in
      record {
        leaf_in = omega (arith, q.leaf_in, x.holds.leaves_are);
        listed = a.plan.leaf_free;
        pool_small = omega (arith, x.holds.sizes.pool_most, pool_limit_fits);
        charge_small = omega (arith, a.plan.room, x.holds.sizes.arena_most, arena_limit_fits);
        separator_short = omega (arith, a.plan.long, q.low_short, key_limit_small);
      }

  module _ {out b : List ℕ} (w : SeparatorWritten h dir slots arena k p out b) {leaf : Leaf}
      (l : (ns : List Node) → Presumed h dir slots arena ns → LeafIs h dir ns p.leaf leaf) {free : ℕ} (f : FreeRead h.leaves dir free) where
    abbrev old : ℕ
    old = leaf.prefix_length

    module _ {ns : List Node} (x : Presumed h dir slots arena ns) {v : Bytes} (a : SplitAsked h (length dir) (length arena) k v p ns) where
      low_read : a.plan.separator ≡ take p.separator b
      low_read = sym (w.bytes ns x v a)

      free_read : lowest_free ns ≡ free
      free_read = sym (f.lowest ns (presumed_numbered x))

      good : CutGood h (length dir) (length arena) ns (cut_nodes a.plan.separator p ns) a.plan.separator
      good = cut_good x k v a

      code_asked : CutAsked h (length dir) (length arena) p.leaf p.cut free (take p.separator b) ns
      code_asked =
          subst (λ (i : ℕ). CutAsked h (length dir) (length arena) p.leaf p.cut i (take p.separator b) ns) free_read
          (subst (λ (y : Bytes). CutAsked h (length dir) (length arena) p.leaf p.cut (lowest_free ns) y ns) low_read (cut_asked x a good))

    pub can_cut : CanCutStored h dir slots arena p.leaf p.cut free (take p.separator b)
    can_cut = record { nodes = ns₀; presumed = c.step.presumed; asks = code_asked c.step.presumed c.step.asks }

    module _ {now_dir now_slots now_arena : List ℕ} (q : CutStored h dir slots arena p.leaf p.cut free (take p.separator b) now_dir now_slots now_arena) where
      module _ {ns : List Node} (x : Presumed h dir slots arena ns) {v : Bytes} (a : SplitAsked h (length dir) (length arena) k v p ns) where
        cut_laid : LaysAt (lent h.fanout now_slots now_arena) (take (h.leaves + 1) now_dir) (twice p.leaf (prefixes_of ns)) (cut_nodes a.plan.separator p ns)
        cut_laid =
            let t = q.laid ns x (code_asked x a) in
            subst (λ (y : Bytes). LaysAt (lent h.fanout now_slots now_arena) (take (h.leaves + 1) now_dir) (twice p.leaf (prefixes_of ns)) (cut_at (lowest_free ns) y p.leaf p.cut ns))
            (sym (low_read x a))
            (subst (λ (i : ℕ). LaysAt (lent h.fanout now_slots now_arena) (take (h.leaves + 1) now_dir) (twice p.leaf (prefixes_of ns)) (cut_at i (take p.separator b) p.leaf p.cut ns))
            (sym (free_read x a)) t)

        left_asked : HalfAsked (split_header h p) now_dir now_slots now_arena p.leaf old (twice p.leaf (prefixes_of ns)) (cut_nodes a.plan.separator p ns)
        left_asked = first_asked x a (good x a) now_dir now_arena q.same_dir q.same_arena q.same_slots (l ns x).prefix_is cut_laid

      pub can_first : CanShortenHalf (split_header h p) now_dir now_slots now_arena p.leaf old
      can_first = record {
        ps = twice p.leaf (prefixes_of ns₀);
        ns = cut_nodes c.step.asks.plan.separator p ns₀;
        asked = left_asked c.step.presumed c.step.asks;
      }

      module _ {one : List ℕ} (y : ShortenedHalf (split_header h p) now_dir now_slots now_arena p.leaf old one) {j : ℕ} (e : j ≡ suc p.leaf) where
        module _ {ns : List Node} (x : Presumed h dir slots arena ns) {v : Bytes} (a : SplitAsked h (length dir) (length arena) k v p ns) where
          abbrev once_of : List ℕ
          once_of = once_prefixes p.leaf (twice p.leaf (prefixes_of ns)) (prefix_at (cut_nodes a.plan.separator p ns) p.leaf)

          right_asked : HalfAsked (split_header h p) now_dir one now_arena j old once_of (cut_nodes a.plan.separator p ns)
          right_asked =
              rw e (second_asked x a (good x a) now_dir now_arena q.same_dir q.same_arena (y.same_slots ∙ q.same_slots) (l ns x).prefix_is (y.laid (left_asked x a)))

        pub can_second : CanShortenHalf (split_header h p) now_dir one now_arena j old
        can_second = record {
          ps = once_of c.step.presumed c.step.asks;
          ns = cut_nodes c.step.asks.plan.separator p ns₀;
          asked = right_asked c.step.presumed c.step.asks;
        }

        pub split_met : {two : List ℕ} → ShortenedHalf (split_header h p) now_dir one now_arena j old two
            → SplitLeaf h dir slots arena k p (split_header h p) now_dir two now_arena
        split_met z = record {
          fanout_is = refl;
          same_dir = q.same_dir;
          same_slots = z.same_slots ∙ y.same_slots ∙ q.same_slots;
          same_arena = q.same_arena;
          index = λ ns x v a. cut_presumed x a (good x a) now_dir now_arena q.same_dir q.same_arena (z.same_slots ∙ y.same_slots ∙ q.same_slots)
              (rw e at (z.laid (right_asked x a)));
        }
