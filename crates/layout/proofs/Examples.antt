-- W is inhabited: buffers that meet the sizes, whose first directory word and whose first leaf's low-key word are 0, with the header that
-- creation hands back (1 leaf, no pair, charge 0), hold the fresh leaf list; whatever else the buffers hold. And W is not all: the same
-- buffers with a header that counts one pair more are damaged, and so is every index whose header counts no leaf.
-- Assumes nothing.
use Rattle.std.specs.Prelude.{◌*◌, ◌<◌, ◌≤◌, ℕ, List, [], ◌∷◌, ◌≡◌, refl, replicate, get_or, length, take}
use Rattle.std.proofs.Math.Option.{some}
use Rattle.std.proofs.Common.{ap, sym, arith}
use Rattle.std.proofs.lemmas.List.{get_or-replicate, length-replicate}
use Rattle.layout.specs.Buffers.{Buffers, low_at, low_word, slot_words, suffix_at}
use Rattle.layout.specs.Lays.{Holds, LaysAt, LaysLeaf, W, prefixes_of}
use Rattle.layout.specs.LaysUnique.{lays_unique}
use Rattle.layout.proofs.LaysWords.{region_in}
use Rattle.layout.specs.declared.Header.{Header}
use Rattle.model.specs.Charge.{charge, weight}
use Rattle.model.proofs.FitsLaws.{fresh_fits}
use Rattle.model.specs.Good.{Good, limits}
use Rattle.model.specs.Leaves.{Node, low_of, pairs_of, node}
use Rattle.model.specs.LimitLaws.{fanout_three, pool_one}
use Rattle.model.specs.Limits.{Sizes}
use Rattle.model.specs.Rules.{fresh}
use Rattle.model.proofs.TileLaws.{fresh_tiles}
use Rattle.words.specs.Words.{low_key_slot}
use Rattle.layout.specs.Examples.{header, Blank}

first_words : (dir : List ℕ) → 1 ≤ length dir → get_or dir 0 0 ≡ 0 → take 1 dir ≡ 0 ∷ []
first_words [] h e = absurd (omega arith)
first_words (d ∷ dir) h e = cc

module _ (b : Buffers) (e : get_or b.slots (low_key_slot b.fanout 0) 0 ≡ 0) where
  low_zero : low_word b 0 ≡ 0
  unfolding low_word
  low_zero = e

  blank_leaf : LaysLeaf b 0 0 (node 0 [] [])
  unfolding low_at suffix_at slot_words
  blank_leaf = record {
    number_is = refl;
    count_is = refl;
    low_is = rw low_zero;
    no_value = rw low_zero;
    pairs_are = refl;
  }

  blank_lays : LaysAt b (0 ∷ []) (prefixes_of fresh) fresh
  unfolding slot_words
  blank_lays = record { leaves = (blank_leaf, tt); ordered = rw low_zero (omega arith) }

pub blank_holds : {fanout : ℕ} {dir slots arena : List ℕ} → Blank fanout dir slots arena → Holds (header fanout 1 0 0) dir slots arena fresh
unfolding charge weight
blank_holds {fanout} {dir} {slots} {arena} x = record {
  sizes = x.sizes;
  leaves_are = refl;
  pairs_are = refl;
  charge_is = refl;
  lays =
      rw (first_words dir (pool_one x.sizes.pool_enough) x.first_word)
      (blank_lays (record { fanout = fanout; slots = slots; arena = arena }) x.low_word_eq);
}

pub fresh_good : (fanout pool slots arena : ℕ) → Sizes fanout pool slots arena → Good (limits fanout) pool arena fresh
fresh_good fanout pool slots arena s = record {
  tiles = fresh_tiles (limits fanout) (fanout_three s.fanout_enough);
  filled = tt;
  fits = fresh_fits pool arena (pool_one s.pool_enough);
}

pub blank_w : {fanout : ℕ} {dir slots arena : List ℕ} → Blank fanout dir slots arena → W (header fanout 1 0 0) dir slots arena
blank_w {fanout} {dir} {slots} {arena} x = record {
  nodes = fresh;
  holds = blank_holds x;
  good = fresh_good fanout (length dir) (length slots) (length arena) x.sizes;
}

-- such as all zeros, at any sizes
pub zeros_blank : (fanout pool arena : ℕ) → Sizes fanout pool (fanout * pool) arena → Blank fanout (replicate pool 0) (replicate (fanout * pool) 0) (replicate arena 0)
zeros_blank fanout pool arena s =
    let three : 3 ≤ fanout = fanout_three s.fanout_enough in
    let one : 1 ≤ pool = pool_one s.pool_enough in
    record {
      sizes = simp length-replicate s;
      first_word = get_or-replicate pool 0 0 0 one;
      low_word_eq = get_or-replicate (fanout * pool) (low_key_slot fanout 0) 0 0 (omega (arith, region_in fanout pool 0 one, three));
    }

-- damaged: a pair counted that is not there; no leaf counted

pub blank_miscounted : {fanout : ℕ} {dir slots arena : List ℕ} → Blank fanout dir slots arena → W (header fanout 1 1 0) dir slots arena → ⊥
blank_miscounted {fanout} {dir} {slots} {arena} x w =
    let s : length w.nodes ≡ 1 = sym w.holds.leaves_are in
    let e : w.nodes ≡ fresh =
    lays_unique (record { fanout = fanout; slots = slots; arena = arena }) (take 1 dir) w.nodes fresh (rw s at w.holds.lays.leaves) (blank_holds x).lays.leaves in
    omega (arith, w.holds.pairs_are, ap (λ (ns : List Node). length (pairs_of ns)) e)

starts_leaf : (ns : List Node) → low_of ns ≡ some [] → 0 < length ns
starts_leaf [] e = absurd (let z : ◌≡◌ {A = ℕ} 0 1 = cc in omega arith)
starts_leaf (n ∷ ns) e = omega arith

pub w_leaf : {h : Header} {dir slots arena : List ℕ} → W h dir slots arena → 0 < h.leaves
w_leaf w = omega (arith, w.holds.leaves_are, starts_leaf w.nodes w.good.tiles.starts)

pub leafless : {fanout : ℕ} {dir slots arena : List ℕ} → W (header fanout 0 0 0) dir slots arena → ⊥
leafless w = omega (arith, w_leaf w)
