-- The test of a list of leaves is exact: directory words pass exactly where the leaf list decoded from them is laid out by them, tiles, is
-- filled, has its numbers in the pool, and its parts lie in order. They count and weigh what the leaf list does.
-- Assumes nothing.
use Rattle.std.specs.Prelude.{◌*◌, ◌+◌, ◌<◌, ◌≤◌, suc, ℕ, ◌≡◌, length}
use mathlib.Core.List.{List, [], ◌++◌, ◌∷◌, map, map-append}
use Rattle.std.proofs.Common.{◌∙◌, ap, subst, sym, arith, length-append}
use Rattle.std.proofs.Math.Path.{refl}
use Rattle.layout.specs.Buffers.{Buffers, low_word}
use Rattle.layout.specs.Lays.{LaysEach, prefixes_of}
use Rattle.layout.specs.Order.{Extent, InOrder, extents, leaf_words, word_extent, words_of, end_of}
use Rattle.layout.proofs.OrderLaws.{order_end, order_append, order_left, order_right, order_top, order_widen}
use Rattle.lists.specs.All.{All}
use Rattle.model.specs.Charge.{charge}
use Rattle.model.specs.Good.{Filled, Tiled, limits}
use Rattle.model.specs.Leaves.{pairs_of, Node, low_of}
use Rattle.tree_read.specs.Check.{RunLeaves, charge_of, count_of, NotEmpty, leaf_end, upper_of}
use Rattle.tree_read.specs.LeafCheck.{leaf_charge_lem, leaf_good, leaf_ok, leaf_end_lem, node_of}
use Rattle.words.specs.Words.{word_value}

-- the leaf list of some directory words
abbrev pub decode : Buffers → List ℕ → List Node
decode b [] = []
decode b (d ∷ ds) = node_of b (upper_of b ds) d ∷ decode b ds

-- what it is to be, its parts from `end` on
pub record RunGood (b : Buffers) (pool end : ℕ) (ds : List ℕ) : Type 0 where
  pub lays : LaysEach b (prefixes_of (decode b ds)) ds (decode b ds)
  pub tiled : Tiled (limits b.fanout) (decode b ds)
  pub filled : Filled (decode b ds)
  pub in_pool : All (λ n. n.number < pool) (decode b ds)
  pub ordered : InOrder end (extents b ds) (length b.arena)

order_close : (a : ℕ) (es : List Extent) (top : ℕ) → InOrder a es top → InOrder a es (end_of a es)
order_close a [] top o = omega arith
order_close a (e ∷ es) top o = (o.0, order_close (e.at + e.size) es top o.1)

module _ (b : Buffers) where
  pub decode_low : (ds : List ℕ) → low_of (decode b ds) ≡ upper_of b ds
  decode_low [] = refl
  decode_low (d ∷ ds) = refl

  pub decode-length : (ds : List ℕ) → length (decode b ds) ≡ length ds
  decode-length [] = refl
  decode-length (d ∷ ds) = ap suc (decode-length ds)

  -- words lay out no other list
  pub decode_lays : (ds : List ℕ) (ns : List Node) → LaysEach b (prefixes_of ns) ds ns → decode b ds ≡ ns
  decode_lays [] [] e = refl
  decode_lays (d ∷ ds) (n ∷ ns) e =
      let r = decode_lays ds ns e.1 in
      let u : upper_of b ds ≡ low_of ns = sym (decode_low ds) ∙ ap low_of r in
      let p : (node_of b (upper_of b ds) d).pairs ≡ n.pairs = rw (u, e.0.low_is) e.0.pairs_are in
      λ i. record { number = e.0.number_is i; low = e.0.low_is i; pairs = p i } ∷ r i
  decode_lays [] (n ∷ ns) e = absurd e
  decode_lays (d ∷ ds) [] e = absurd e

  -- only the last may be empty

  filled_cons : (n : Node) (ds : List ℕ) → NotEmpty (upper_of b ds) (length n.pairs) → Filled (decode b ds) → Filled (n ∷ decode b ds)
  filled_cons n [] h f = tt
  filled_cons n (d ∷ ds) h f = (h, f)

  filled_first : (n : Node) (ds : List ℕ) → Filled (n ∷ decode b ds) → NotEmpty (upper_of b ds) (length n.pairs) × Filled (decode b ds)
  filled_first n [] f = (tt, tt)
  filled_first n (d ∷ ds) f = f

  -- the parts of a leaf, and those behind

  parts_cons : (end d : ℕ) (ds : List ℕ) → word_value (low_word b d) ≡ 0 → InOrder end (map word_extent (leaf_words b d)) (length b.arena)
      → InOrder (leaf_end b d) (extents b ds) (length b.arena) → InOrder end (extents b (d ∷ ds)) (length b.arena)
  parts_cons end d ds v o p =
      subst (λ (es : List Extent). InOrder end es (length b.arena)) (sym (map-append word_extent (leaf_words b d) (words_of b ds)))
      (order_append end (map word_extent (leaf_words b d)) (extents b ds) _ (length b.arena) (order_close end (map word_extent (leaf_words b d)) (length b.arena) o) (rw (leaf_end_lem b d end v) at p))

  parts_first : (end d : ℕ) (ds : List ℕ) → word_value (low_word b d) ≡ 0 → InOrder end (extents b (d ∷ ds)) (length b.arena)
      → InOrder end (map word_extent (leaf_words b d)) (length b.arena) × InOrder (leaf_end b d) (extents b ds) (length b.arena)
  parts_first end d ds v o =
      let l = map word_extent (leaf_words b d) in
      let top = length b.arena in
      let q : InOrder end (l ++ extents b ds) top =
      subst (λ (es : List Extent). InOrder end es (length b.arena)) (map-append word_extent (leaf_words b d) (words_of b ds)) o in
      let r = order_right end l (extents b ds) top q in (
        order_widen end end l (end_of end l) top (omega arith) (order_top (end_of end l) (extents b ds) top r) (order_left end l (extents b ds) top q),
        rw (leaf_end_lem b d end v) r,
      )

  module _ (pool : ℕ) (s : length b.slots ≡ b.fanout * pool) where
    pub run_good : (end : ℕ) (ds : List ℕ) → end ≤ length b.arena → RunLeaves b pool end ds → RunGood b pool end ds
    run_good end [] h r = record { lays = tt; tiled = tt; filled = tt; in_pool = tt; ordered = h }
    run_good end (d ∷ ds) h r =
        let g = leaf_good b (upper_of b ds) d pool end s r.0 in
        let i : leaf_end b d ≤ length b.arena = rw (leaf_end_lem b d end g.lays.no_value) (order_end end (map word_extent (leaf_words b d)) (length b.arena) g.ordered) in
        let q = run_good (leaf_end b d) ds i r.1 in
        record {
          lays = (rw (decode_low ds) g.lays, q.lays);
          tiled = ((rw (decode_low ds) g.good, g.has_room), q.tiled);
          filled = filled_cons (node_of b (upper_of b ds) d) ds g.filled q.filled;
          in_pool = (g.in_pool, q.in_pool);
          ordered = parts_cons end d ds g.lays.no_value g.ordered q.ordered;
        }

    pub run_leaves : (end : ℕ) (ds : List ℕ) → RunGood b pool end ds → RunLeaves b pool end ds
    run_leaves end [] g = tt
    run_leaves end (d ∷ ds) g =
        let o = parts_first end d ds g.lays.0.no_value g.ordered in
        let f = filled_first (node_of b (upper_of b ds) d) ds g.filled in (
          leaf_ok b (upper_of b ds) d pool end s (record {
            lays = rw (decode_low ds) at g.lays.0;
            good = rw (decode_low ds) at g.tiled.0.0;
            has_room = g.tiled.0.1;
            in_pool = g.in_pool.0;
            filled = f.0;
            ordered = o.0;
          }),
          run_leaves (leaf_end b d) ds (record { lays = g.lays.1; tiled = g.tiled.1; filled = f.1; in_pool = g.in_pool.1; ordered = o.1 }),
        )

    pub run_count : (end : ℕ) (ds : List ℕ) → RunLeaves b pool end ds → count_of ds ≡ length (pairs_of (decode b ds))
    run_count end [] r = refl
    run_count end (d ∷ ds) r =
        rw (length-append (node_of b (upper_of b ds) d).pairs (pairs_of (decode b ds)), ← run_count (leaf_end b d) ds r.1, (leaf_good b (upper_of b ds) d pool end s r.0).lays.count_is)

    pub run_charge : (end : ℕ) (ds : List ℕ) → RunLeaves b pool end ds → charge_of b ds ≡ charge (decode b ds)
    unfolding charge
    run_charge end [] r = refl
    run_charge end (d ∷ ds) r = rw (leaf_charge_lem b (upper_of b ds) d pool end s (leaf_good b (upper_of b ds) d pool end s r.0), run_charge (leaf_end b d) ds r.1)
