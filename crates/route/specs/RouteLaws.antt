-- What a caller knows of the leaf list that header and buffers hold: a low key and an upper key that were read, a leaf that was read, and the
-- leaf that owns a key, which begins with that leaf's prefix.
-- Assumes nothing.
use Rattle.std.specs.Prelude.{◌+◌, ◌<◌, ◌≤◌, suc, zero, ℕ, List, [], ◌∷◌, ◌≡◌, refl, drop, get_or, length, take, Some, None}
use Rattle.std.proofs.Math.Option.{none, some}
use Rattle.std.proofs.Common.{◌∙◌, ap, sym, Option}
use native.Mathlib.Omega.{arith}
use Rattle.layout.specs.Buffers.{low_at, low_word, slot_words, suffix_at}
use Rattle.layout.specs.Lays.{LaysLeaf, buffers}
use Rattle.layout.specs.LaysParts.{WordInside}
use Rattle.layout.specs.LaysWords.{WordGood}
use Rattle.layout.proofs.LaysWords.{holds_at, holds_inside, holds_long, word_good}
use Rattle.layout.specs.Order.{leaf_words}
use Rattle.layout.specs.Presumed.{Inner, Presumed}
use Rattle.layout.specs.Viewed.{Views, leaves_of, view_held}
use Rattle.layout.specs.declared.Header.{Header}
use Rattle.layout.specs.declared.lent.View.{View}
use Rattle.leaf.specs.Keys.{KeyAt, UpperAt, key_at, upper_at}
use Rattle.leaf.specs.declared.Leaf.{Leaf}
use Rattle.lists.specs.All.{All}
use Rattle.lists.specs.Part.{part}
use Rattle.model.specs.Leaves.{Node, low_of, node, owned, owner}
use Rattle.model.specs.LimitLaws.{fanout_three}
use Rattle.model.proofs.OwnerLaws.{one_owner, owned_at, tiles_first}
use Rattle.model.specs.PrefixLaws.{span_long, span_prefix}
use Rattle.order.specs.Bytes.{Bytes}
use Rattle.route.specs.Routes.{Directed, LeafIs, Routed, UpperRead, leaf_at, low_place, prefix_at, upper_of}
use Rattle.words.specs.Words.{LowKeyUnpacked, first_slot}
use Rattle.words.specs.declared.LowKey.{LowKey}

-- the first low key from a place on

pub low_from : (y : Node) (j : ℕ) (ns : List Node) → j < length ns → low_of (drop j ns) ≡ some (get_or ns j y).low
low_from y j [] h = absurd (omega arith)
low_from y zero (n ∷ ns) h = refl
low_from y (suc j) (n ∷ ns) h = low_from y j ns (omega arith)

pub low_none : (j : ℕ) (ns : List Node) → length ns ≤ j → low_of (drop j ns) ≡ none
low_none zero [] h = refl
low_none (suc j) [] h = refl
low_none zero (n ∷ ns) h = absurd (omega arith)
low_none (suc j) (n ∷ ns) h = low_none j ns (omega arith)

module _ {h : Header} {dir slots arena : List ℕ} {ns : List Node} (p : Presumed h dir slots arena ns) where
  -- the j-th leaf in the buffers

  pub place_in : {j : ℕ} → j < h.leaves → j < length ns
  place_in k = omega (arith, p.holds.leaves_are)

  pub leaf_lays : (j : ℕ) → j < h.leaves → LaysLeaf (buffers h slots arena) (prefix_at ns j) (get_or dir j 0) (leaf_at ns j)
  leaf_lays j k = holds_at p.holds (node 0 [] []) j (place_in k)

  pub leaf_word : (j : ℕ) → j < h.leaves → WordGood (buffers h slots arena) (length dir) (get_or dir j 0)
  leaf_word j k = word_good h dir slots arena ns p.holds p.tiles.tiled p.fits.in_pool j (place_in k)

  pub leaf_inside : (j : ℕ) → j < h.leaves → All (WordInside arena) (leaf_words (buffers h slots arena) (get_or dir j 0))
  leaf_inside j k = holds_inside p.holds j (place_in k)

  -- what `upper_key` asks
  pub directed : Directed h dir slots
  directed = record {
    some_slot = omega (arith, fanout_three p.holds.sizes.fanout_enough);
    listed = omega (arith, holds_long p.holds, p.holds.leaves_are);
    lows_in = λ j k. (leaf_word j k).low_in;
  }

  -- a low key read

  pub low_key_at : {low : LowKey} (j : ℕ) → j < h.leaves → LowKeyUnpacked (get_or slots (low_place h dir j) 0) low → KeyAt arena 0 low
  unfolding low_word
  low_key_at j k u = record { inside = omega (arith, u.offset_is, u.length_is, (leaf_inside j k).0); fits = u.fits.length_fits; long = omega arith }

  pub low_key_is : {low : LowKey} (j : ℕ) → j < h.leaves → LowKeyUnpacked (get_or slots (low_place h dir j) 0) low → key_at arena low ≡ (leaf_at ns j).low
  unfolding low_at low_word suffix_at
  low_key_is j k u = rw (u.offset_is, u.length_is) (leaf_lays j k).low_is

  -- an upper key read

  pub upper_stands : (j : ℕ) (upper : Option LowKey) → UpperRead h dir slots j upper → UpperAt arena 0 upper
  upper_stands j (Some u) r = low_key_at (suc j) r.0 r.1
  upper_stands j None r = tt

  pub upper_is : (j : ℕ) (upper : Option LowKey) → UpperRead h dir slots j upper → upper_at arena upper ≡ upper_of ns j
  upper_is j (Some u) r = ap some (low_key_is (suc j) r.0 r.1) ∙ sym (low_from (node 0 [] []) (suc j) ns (place_in r.0))
  upper_is j None r = sym (low_none (suc j) ns (omega (arith, p.holds.leaves_are)))

  -- the leaf that owns a key (L1)

  pub owner_leaf : (k : Bytes) → Routed h ns k (owner k ns)
  owner_leaf k =
      let s = one_owner k ns p.tiles in
      let low = (leaf_at ns (owner k ns)).low in
      let upper = upper_of ns (owner k ns) in
      record {
        within = omega (arith, s.within, p.holds.leaves_are);
        spans = s.spans;
        begins = span_prefix low upper k s.spans;
        long = span_long low upper k s.spans;
      }

  pub routed : {j : ℕ} (k : Bytes) → j ≡ owner k ns → Routed h ns k j
  routed k e = rw e (owner_leaf k)

  pub owner_pairs : {j : ℕ} (k : Bytes) → j ≡ owner k ns → owned k ns ≡ (leaf_at ns j).pairs
  owner_pairs k e =
      rw e (tiles_first (λ ms. owned k ms ≡ (leaf_at ms (owner k ms)).pairs) (λ n ms l t. owned_at k (node 0 [] []) n ms) ns p.tiles)

-- a leaf read

module _ {h : Header} {dir : List ℕ} {ns : List Node} {j : ℕ} {leaf : Leaf} (l : LeafIs h dir ns j leaf) where
  -- its slot words, all of them in the slot buffer and their parts inside the arena

  pub leaf_words_lem : (slots arena : List ℕ) → part slots (first_slot leaf.fanout leaf.number.0) leaf.pairs ≡ slot_words (buffers h slots arena) (get_or dir j 0)
  unfolding slot_words
  leaf_words_lem slots arena = rw (l.number_is, l.fanout_is, l.pairs_are)

  module _ {slots arena : List ℕ} (p : Presumed h dir slots arena ns) (k : j < h.leaves) where
    pub leaf_slots_in : first_slot leaf.fanout leaf.number.0 + leaf.pairs ≤ length slots
    leaf_slots_in = rw (l.number_is, l.fanout_is, l.pairs_are) (leaf_word p j k).slots_in

    pub leaf_words_inside : All (WordInside arena) (part slots (first_slot leaf.fanout leaf.number.0) leaf.pairs)
    leaf_words_inside = rw (leaf_words_lem slots arena) (leaf_inside p j k).1

    -- what it lays out
    pub leaf_read_lays : LaysLeaf (buffers h slots arena) leaf.prefix_length (get_or dir j 0) (leaf_at ns j)
    leaf_read_lays = rw l.prefix_is (leaf_lays p j k)

  -- a key routed to it is cut at its prefix length

  pub key_long : {k : Bytes} → Routed h ns k j → leaf.prefix_length ≤ length k
  key_long r = rw l.prefix_is r.long

  pub key_begins : {k : Bytes} → Routed h ns k j → take leaf.prefix_length k ≡ take leaf.prefix_length (leaf_at ns j).low
  key_begins r = rw l.prefix_is r.begins

-- what was read on a view, told of the header and the buffers that it views

module _ {h : Header} {dir slots arena : List ℕ} (v : View) (u : Views v h dir slots arena) where
  pub leaf_told : {j : ℕ} {leaf : Leaf} → LeafIs v.header v.dir.now (leaves_of v) j leaf → Inner h dir slots arena (λ ns. LeafIs h dir ns j leaf)
  leaf_told {j} {leaf} e = view_held (λ h dir slots arena ns. LeafIs h dir ns j leaf) v u e

  pub owner_told : (k : Bytes) {j : ℕ} → j ≡ owner k (leaves_of v) → Inner h dir slots arena (λ ns. j ≡ owner k ns)
  owner_told k {j} e = view_held (λ h dir slots arena ns. j ≡ owner k ns) v u e
