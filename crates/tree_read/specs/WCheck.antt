-- The test of W is exact: buffers and header pass it exactly where they meet W.
-- Assumes nothing.
use Prim.Native.Nat.{◌≤◌, suc, zero, ℕ}
use mathlib.Core.List.{List, [], ◌∷◌}
use Rattle.std.proofs.Math.Option.{some}
use Rattle.std.proofs.Common.{◌∙◌, ap, sym, arith, length-take-le}
use Rattle.std.specs.Prelude.{◌≡◌, get_or, length, take}
use Rattle.layout.specs.Buffers.{Buffers, low_at, low_word, suffix_at}
use Rattle.layout.specs.Lays.{Holds, LaysAt, W, buffers, prefixes_of}
use Rattle.layout.specs.LaysUnique.{lays_distinct}
use Rattle.layout.specs.declared.Header.{Header}
use Rattle.model.specs.Charge.{charge}
use Rattle.model.specs.Good.{Good, limits}
use Rattle.model.specs.Leaves.{Node, low_of}
use Rattle.tree_read.specs.Check.{Passes, RunLeaves, upper_of}
use Rattle.tree_read.specs.LeafCheck.{low_length}
use Rattle.tree_read.specs.RunCheck.{decode, decode_lays, decode-length, decode_low, run_charge, run_count, run_good, run_leaves}
use Rattle.words.specs.Words.{word_suffix}

-- the first low key is empty

module _ (b : Buffers) where
  first_empty : (n : ℕ) (dir : List ℕ) → 1 ≤ n → n ≤ length dir → word_suffix (low_word b (get_or dir 0 0)) ≡ 0 → upper_of b (take n dir) ≡ some []
  unfolding low_at suffix_at
  first_empty zero dir h k e = absurd (omega arith)
  first_empty (suc n) [] h k e = absurd (omega arith)
  first_empty (suc n) (d ∷ dir) h k e = rw e

  empty_first : (pool end n : ℕ) (dir : List ℕ) → 1 ≤ n → n ≤ length dir → RunLeaves b pool end (take n dir) → upper_of b (take n dir) ≡ some []
      → word_suffix (low_word b (get_or dir 0 0)) ≡ 0
  empty_first pool end zero dir h k r e = absurd (omega arith)
  empty_first pool end (suc n) [] h k r e = absurd (omega arith)
  empty_first pool end (suc n) (d ∷ dir) h k r e =
      let l : low_at b d ≡ [] = cc in
      sym (low_length b d r.0.low) ∙ ap length l

some_node : (ns : List Node) → low_of ns ≡ some [] → 1 ≤ length ns
some_node [] e = absurd (let z : ◌≡◌ {A = ℕ} 0 1 = cc in omega arith)
some_node (n ∷ ns) e = omega arith

-- the two theorems

pub passes_w : (h : Header) (dir slots arena : List ℕ) → Passes h dir slots arena → W h dir slots arena
passes_w h dir slots arena p =
    let b = buffers h slots arena in
    let ds = take h.leaves dir in
    let n : length (decode b ds) ≡ h.leaves = decode-length b ds ∙ length-take-le h.leaves dir p.in_directory in
    let c : h.charge ≡ charge (decode b ds) = p.charge_is ∙ run_charge b (length dir) p.sizes.slots_are 0 ds p.leaves in
    let g = run_good b (length dir) p.sizes.slots_are 0 ds (omega arith) p.leaves in
    record {
      nodes = decode b ds;
      holds = record {
        sizes = p.sizes;
        leaves_are = sym n;
        pairs_are = p.pairs_are ∙ run_count b (length dir) p.sizes.slots_are 0 ds p.leaves;
        charge_is = c;
        lays = rw n (record { leaves = g.lays; ordered = g.ordered });
      };
      good = record {
        tiles = record { starts = decode_low b ds ∙ first_empty b h.leaves dir p.some_leaf p.in_directory p.first_low; tiled = g.tiled };
        filled = g.filled;
        fits = record {
          counted = rw n p.in_directory;
          in_pool = g.in_pool;
          distinct = lays_distinct (limits h.fanout) b (prefixes_of (decode b ds)) ds (decode b ds) g.tiled g.lays;
          charged = rw (← c) p.charge_fits;
        };
      };
    }

held_passes : (h : Header) (dir slots arena : List ℕ) (ns : List Node) → decode (buffers h slots arena) (take h.leaves dir) ≡ ns → Holds h dir slots arena ns
    → Good (limits h.fanout) (length dir) (length arena) ns → Passes h dir slots arena
held_passes h dir slots arena ns e x' g' =
    let b = buffers h slots arena in
    let ds = take h.leaves dir in
    let x : Holds h dir slots arena (decode b ds) = rw e x' in
    let g : Good (limits h.fanout) (length dir) (length arena) (decode b ds) = rw e g' in
    let n = x.leaves_are in
    let l : LaysAt b ds (prefixes_of (decode b ds)) (decode b ds) = rw (← n) at x.lays in
    let r : RunLeaves b (length dir) 0 ds =
    run_leaves b (length dir) x.sizes.slots_are 0 ds (record { lays = l.leaves; tiled = g.tiles.tiled; filled = g.filled; in_pool = g.fits.in_pool; ordered = l.ordered }) in
    let o : 1 ≤ h.leaves = rw n (some_node (decode b ds) g.tiles.starts) in
    let i : h.leaves ≤ length dir = rw n g.fits.counted in
    record {
      sizes = x.sizes;
      some_leaf = o;
      in_directory = i;
      first_low = empty_first b (length dir) 0 h.leaves dir o i r (sym (decode_low b ds) ∙ g.tiles.starts);
      leaves = r;
      pairs_are = x.pairs_are ∙ sym (run_count b (length dir) x.sizes.slots_are 0 ds r);
      charge_is = x.charge_is ∙ sym (run_charge b (length dir) x.sizes.slots_are 0 ds r);
      charge_fits = rw x.charge_is g.fits.charged;
    }

pub w_passes : (h : Header) (dir slots arena : List ℕ) → W h dir slots arena → Passes h dir slots arena
w_passes h dir slots arena w =
    held_passes h dir slots arena w.nodes
    (decode_lays (buffers h slots arena) (take h.leaves dir) w.nodes (rw w.holds.leaves_are w.holds.lays.leaves))
    w.holds w.good
