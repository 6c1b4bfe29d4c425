-- The steps of the functions that read the directory, over plain lists and numbers.
-- Assumes nothing.
use Rattle.std.proofs.Common.{Option, false, true}
use Prim.Native.Nat.{◌+◌, ◌-◌, ◌<◌, ◌^◌, ◌≤◌, suc, ℕ}
use mathlib.Core.List.{List, [], ◌∷◌}
use mathlib.Core.Option.{some}
use mathlib.Core.Path.{◌∙◌, ◌≡◌}
use native.Mathlib.Decide.{dec_lt}
use native.Mathlib.Omega.{arith}
use lib.ListN.{drop, get_or, length, take}
use Rattle.layout.specs.Presumed.{Presumed}
use Rattle.layout.specs.declared.Header.{Header}
use Rattle.leaf.specs.Keys.{PrefixOf}
use Rattle.leaf.specs.declared.Leaf.{Leaf}
use Rattle.lists.specs.Exact.{Exact, exact_no, exact_yes}
use Rattle.model.specs.Leaves.{Node, Under, low_of, node, owner}
use Rattle.model.proofs.OwnerLaws.{no_other_owner, one_owner}
use Rattle.order.specs.Bytes.{Bytes, ◌≺◌, ◌≼◌}
use Rattle.order.specs.Compared.{Compared, compared_equal, compared_greater, compared_less}
use Rattle.order.specs.OrderLaws.{below_asym, nil_upto, upto_of_eq}
use Rattle.std.specs.declared.cmp.Ordering.{Ordering}
use Rattle.std.specs.declared.cmp.Ordering.TheVariants.{Equal, Greater, Less}
use Rattle.route.specs.RouteLaws.{low_from, low_key_at, low_key_is, low_none, place_in, upper_is}
use Rattle.route.specs.Routes.{LeafIs, UpperRead, leaf_at, low_place, upper_of}
use Rattle.words.specs.Words.{LowKeyUnpacked, word_count, word_leaf}
use Rattle.words.specs.declared.LowKey.{LowKey}

-- leaf_of

pub leaf_met : {h : Header} {dir slots arena : List ℕ} {ns : List Node} {low : LowKey} {upper : Option LowKey} (j : ℕ) (leaf : Leaf) → j < h.leaves
    → leaf.number.0 ≡ word_leaf (get_or dir j 0) → leaf.fanout ≡ h.fanout → leaf.pairs ≡ word_count (get_or dir j 0) → leaf.pairs < 2 ^ 20
    → LowKeyUnpacked (get_or slots (low_place h dir j) 0) low → UpperRead h dir slots j upper → PrefixOf arena low upper leaf.prefix_length
    → Presumed h dir slots arena ns → LeafIs h dir ns j leaf
leaf_met {upper = upper} j leaf k n f c s u r x p = record {
  number_is = n;
  fanout_is = f;
  pairs_are = c;
  prefix_is = x.is ∙ rw (low_key_is p j k u, upper_is p j upper r);
  pairs_fit = omega arith;
  prefix_fits = omega (arith, x.in_low.long, x.in_low.fits);
}

-- reaches

module _ {h : Header} {dir slots arena : List ℕ} {ns : List Node} (p : Presumed h dir slots arena ns) {j : ℕ} (l : j < h.leaves) {k : LowKey}
    (u : LowKeyUnpacked (get_or slots (low_place h dir j) 0) k) where
  pub low_end_lem : k.offset.0 + k.length ≤ length arena
  low_end_lem = (low_key_at p j l u).inside

  low_part : take (k.offset.0 + k.length - k.offset.0) (drop k.offset.0 arena) ≡ (leaf_at ns j).low
  low_part =
      let e : k.offset.0 + k.length - k.offset.0 ≡ k.length = omega arith in
      rw e (low_key_is p j l u)

  module _ {key : Bytes} {r : Ordering} (c : Compared (take (k.offset.0 + k.length - k.offset.0) (drop k.offset.0 arena)) key r) where
    pub reaches_less : r ≡ Less → Exact true ((leaf_at ns j).low ≼ key)
    reaches_less e = exact_yes (below_asym (compared_less (rw low_part at c) e))

    pub reaches_equal : r ≡ Equal → Exact true ((leaf_at ns j).low ≼ key)
    reaches_equal e = exact_yes (upto_of_eq (compared_equal (rw low_part at c) e))

    pub reaches_greater : r ≡ Greater → Exact false ((leaf_at ns j).low ≼ key)
    reaches_greater e = exact_no (λ n. n (compared_greater (rw low_part at c) e))

-- owner: the low key of leaf `low` is not above the key; that of leaf `high`, where there is one, is above it

pub record Narrowed (ns : List Node) (leaves : ℕ) (key : Bytes) (low high : ℕ) : Type 0 where
  pub apart : low < high
  pub within : high ≤ leaves
  pub low_upto : (leaf_at ns low).low ≼ key
  pub high_over : high < leaves → key ≺ (leaf_at ns high).low

first_upto : (ns : List Node) (key : Bytes) → low_of ns ≡ some [] → (leaf_at ns 0).low ≼ key
first_upto [] key e = nil_upto
first_upto (n ∷ ns) key e = let f : n.low ≡ [] = cc in rw f nil_upto

pub narrow_start : {h : Header} {dir slots arena : List ℕ} {ns : List Node} (key : Bytes) → Presumed h dir slots arena ns → Narrowed ns h.leaves key 0 h.leaves
narrow_start {h} {ns = ns} key p = record {
  apart = omega (arith, (one_owner key ns p.tiles).within, p.holds.leaves_are);
  within = omega arith;
  low_upto = first_upto ns key p.tiles.starts;
  high_over = λ l. absurd (omega arith);
}

-- one leaf is left, and it spans the key

pub narrow_end : {h : Header} {dir slots arena : List ℕ} {ns : List Node} {key : Bytes} {low high : ℕ} → Narrowed ns h.leaves key low high
    → high ≤ suc low → Presumed h dir slots arena ns → low ≡ owner key ns
narrow_end {h} {ns = ns} {key = key} {low = low} {high = high} n e p =
    no_other_owner key ns low p.tiles (record { within = place_in p (omega (arith, n.apart, n.within)); spans = (n.low_upto, under (dec_lt (suc low) h.leaves)) })
  where
    under : Dec (suc low < h.leaves) → Under (upper_of ns low) key
    under (yes g) =
        let q : high ≡ suc low = omega (arith, n.apart) in
        rw (low_from (node 0 [] []) (suc low) ns (place_in p g)) (rw q at (n.high_over (omega arith)))
    under (no g) = rw (low_none (suc low) ns (omega (arith, p.holds.leaves_are))) tt
