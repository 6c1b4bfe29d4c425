-- One half's keys shortened: the half's low key and upper key are read where the leaf list is laid out at any prefix lengths, and the leaf list
-- laid out then is the same, with L2's prefix length for that half.
-- Assumes nothing.
use Rattle.std.specs.Prelude.{◌<◌, suc, ℕ, List, [], ◌++◌, ◌∷◌, ◌≡◌, drop, get_or, length, take, Some, None}
use Rattle.std.proofs.Math.Option.{some}
use Rattle.std.proofs.Common.{◌∙◌, ap, ap₂, sym, get_or-take, length-take-le, Option}
use native.Mathlib.Omega.{arith}
use Rattle.std.proofs.Math.Seq.{split_at}
use Rattle.directory.specs.Used.{lent}
use Rattle.layout.specs.Buffers.{Buffers, low_at, low_word, suffix_at}
use Rattle.layout.specs.Lays.{LaysAt, LaysLeaf}
use Rattle.layout.specs.LaysLaws.{each_at, each_words}
use Rattle.layout.specs.LaysParts.{WordInside}
use Rattle.layout.proofs.LaysParts.{lays_words_inside, words_at}
use Rattle.layout.proofs.LaysWords.{region_in}
use Rattle.layout.specs.Order.{leaf_words}
use Rattle.layout.specs.declared.Header.{Header}
use Rattle.leaf.specs.Keys.{KeyAt, UpperAt, key_at, upper_at}
use Rattle.leaf_edit.specs.Shorten.{CanShorten, Halved, ShortenedKeys}
use Rattle.lists.specs.All.{All, all_at}
use Rattle.model.specs.Leaves.{Node, node, prefix_length}
use Rattle.route.specs.RouteLaws.{low_from, low_none}
use Rattle.route.specs.Routes.{Directed, UpperRead, leaf_at, low_place, prefix_at, upper_of}
use Rattle.slots.specs.Around.{Around}
use Rattle.slots.specs.Whole.{around_place, whole_kept}
use Rattle.split.specs.Splits.{CanShortenHalf, HalfAsked, ShortenedHalf}
use Rattle.words.specs.Words.{LowKeyUnpacked, word_leaf}
use Rattle.words.specs.declared.LowKey.{LowKey}

module _ {h : Header} {dir slots arena : List ℕ} {j old : ℕ} {ps : List ℕ} {ns : List Node} (a : HalfAsked h dir slots arena j old ps ns) where
  abbrev b : Buffers
  b = lent h.fanout slots arena

  -- the directory's used words, one for each leaf

  words_long : length (take h.leaves dir) ≡ h.leaves
  words_long = length-take-le h.leaves dir a.listed

  count : h.leaves ≡ length ns
  count = sym words_long ∙ each_words b ps (take h.leaves dir) ns a.lays.leaves

  used : j < h.leaves
  used = omega (arith, count, a.leaf_in)

  pub word_in : j < length dir
  word_in = omega (arith, used, a.listed)

  -- the k-th leaf in the buffers

  leaf_lays : (k : ℕ) → k < h.leaves → LaysLeaf b (get_or ps k 0) (get_or dir k 0) (leaf_at ns k)
  leaf_lays k m = rw (get_or-take h.leaves dir k 0 m) at (each_at b (node 0 [] []) k ps (take h.leaves dir) ns (omega (arith, count, m)) a.lays.leaves)

  leaf_inside : (k : ℕ) → k < h.leaves → All (WordInside arena) (leaf_words b (get_or dir k 0))
  leaf_inside k m =
      rw (get_or-take h.leaves dir k 0 m) at
      (words_at b (WordInside arena) k (take h.leaves dir) (omega (arith, words_long, m)) (lays_words_inside b (take h.leaves dir) ps ns a.lays))

  low_in : (k : ℕ) → k < h.leaves → low_place h dir k < length slots
  low_in k m =
      let number : (leaf_at ns k).number < length dir = all_at (λ n. n.number < length dir) ns k (node 0 [] []) (omega (arith, count, m)) a.apart.numbers in
      let leaf : word_leaf (get_or dir k 0) < length dir = rw (leaf_lays k m).number_is number in
      omega (arith, region_in h.fanout (length dir) (word_leaf (get_or dir k 0)) leaf, a.apart.slots_are, a.some_slot)

  pub low_place_in : low_place h dir j < length slots
  low_place_in = low_in j used

  pub half_directed : Directed h dir slots × (j < h.leaves)
  half_directed = (record { some_slot = a.some_slot; listed = a.listed; lows_in = low_in }, used)

  -- a low key read

  low_key_at : {low : LowKey} (k : ℕ) → k < h.leaves → LowKeyUnpacked (get_or slots (low_place h dir k) 0) low → KeyAt arena 0 low
  unfolding low_word
  low_key_at k m u = record { inside = omega (arith, u.offset_is, u.length_is, (leaf_inside k m).0); fits = u.fits.length_fits; long = omega arith }

  low_key_is : {low : LowKey} (k : ℕ) → k < h.leaves → LowKeyUnpacked (get_or slots (low_place h dir k) 0) low → key_at arena low ≡ (leaf_at ns k).low
  unfolding low_at low_word suffix_at
  low_key_is k m u = rw (u.offset_is, u.length_is) (leaf_lays k m).low_is

  -- the upper key read

  upper_stands : (upper : Option LowKey) → UpperRead h dir slots j upper → UpperAt arena 0 upper
  upper_stands (Some u) r = low_key_at (suc j) r.0 r.1
  upper_stands None r = tt

  upper_is : (upper : Option LowKey) → UpperRead h dir slots j upper → upper_at arena upper ≡ upper_of ns j
  upper_is (Some u) r = ap some (low_key_is (suc j) r.0 r.1) ∙ sym (low_from (node 0 [] []) (suc j) ns (omega (arith, count, r.0)))
  upper_is None r = sym (low_none (suc j) ns (omega (arith, count, r)))

  -- both read: the keys can be shortened

  abbrev around : Around b (get_or dir j 0)
  around = around_place b dir h.leaves ps ns (node 0 [] []) (length dir) j a.lays a.apart used a.leaf_in

  module _ {low : LowKey} {upper : Option LowKey} (l : LowKeyUnpacked (get_or slots (low_place h dir j) 0) low) (u : UpperRead h dir slots j upper) where
    halved : Halved h.fanout slots arena (get_or dir j 0) old low upper around
    halved = record {
      old_is = a.old_is;
      low_is = low_key_is j used l;
      longer = rw (upper_is upper u) a.longer;
      spanned = rw (upper_is upper u) a.spanned;
    }

    half_shortens : CanShorten h.fanout slots arena (get_or dir j 0) old low upper
    half_shortens = record { low_stands = low_key_at j used l; upper_stands = upper_stands upper u; arena_fits = a.arena_fits; around = around; halved = halved }

    half_laid : {r : ℕ} {now_slots : List ℕ} → ShortenedKeys h.fanout slots arena (get_or dir j 0) old low upper r now_slots
        → LaysAt (lent h.fanout now_slots arena) (take h.leaves dir) (take j ps ++ (prefix_at ns j ∷ drop (suc j) ps)) ns
    half_laid {r} {now_slots} t =
        let c = lent h.fanout now_slots arena in
        let length_is : r ≡ prefix_at ns j = t.length_is ∙ ap₂ prefix_length (low_key_is j used l) (upper_is upper u) in
        let laid = whole_kept b dir h.leaves ps ns (node 0 [] []) (length dir) j a.lays a.apart used a.leaf_in c r (leaf_at ns j) (t.leaves around halved) in
        rw (length_is, ← split_at ns j (node 0 [] []) a.leaf_in) at laid

-- `shorten_half`, call by call

module _ {h : Header} {dir slots arena : List ℕ} {j old : ℕ} {low : LowKey} {upper : Option LowKey}
    (s : CanShortenHalf h dir slots arena j old) (l : LowKeyUnpacked (get_or slots (low_place h dir j) 0) low) (u : UpperRead h dir slots j upper) where
  pub can_shorten : CanShorten h.fanout slots arena (get_or dir j 0) old low upper
  can_shorten = half_shortens s.asked l u

  pub half_done : {r : ℕ} {now_slots : List ℕ} → ShortenedKeys h.fanout slots arena (get_or dir j 0) old low upper r now_slots → length now_slots ≡ length slots
      → ShortenedHalf h dir slots arena j old now_slots
  half_done t same = record { same_slots = same; laid = λ a. half_laid a l u t }
