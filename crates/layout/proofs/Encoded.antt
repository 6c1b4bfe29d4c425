-- The encoder on a whole leaf list: the regions of all leaves written into the slot buffer one after another stay as they are written, since
-- the numbers differ; and with the bytes end to end in the arena they lay out the list, the parts in order.
-- Assumes nothing.
use Rattle.std.specs.Prelude.{◌*◌, ◌+◌, ◌<◌, ◌^◌, ◌≤◌, ℕ, ◌≡◌, take}
use mathlib.Core.List.{List, [], ◌∷◌, map, map-append}
use Rattle.std.proofs.Math.Option.{Option}
use Rattle.std.proofs.Common.{◌∙◌, sym, mul-le-mul_right, suc-mul, length-drop}
use Rattle.std.proofs.Math.Path.{subst}
use Rattle.std.proofs.Math.Decide.{dec_lt}
use native.Mathlib.Omega.{arith}
use Rattle.std.proofs.Math.ListN.{length, length-append}
use Rattle.layout.specs.Buffers.{Buffers}
use Rattle.layout.specs.Encode.{Lies, Storable, Written, directory_of, leaf_bytes, region}
use Rattle.layout.proofs.Encode.{leaf_laid, leaf_ordered, lies_left, lies_right, region_long}
use Rattle.layout.specs.Lays.{LaysEach, prefixes_of}
use Rattle.layout.proofs.LaysWords.{region_in}
use Rattle.layout.specs.Order.{Extent, InOrder, extents, leaf_words, word_extent, words_of}
use Rattle.lists.specs.All.{All, all_both, all_mono}
use Rattle.lists.proofs.PartLaws.{length-put, part-put, part-put_after, part-put_before}
use Rattle.lists.specs.Part.{put, part}
use Rattle.model.specs.Good.{Distinct, GoodLeaf, Tiled, Within, limits}
use Rattle.model.specs.Leaves.{Node, Spans, low_of, prefix_length}
use Rattle.model.specs.LimitLaws.{key_limit_fits, value_limit_fits}
use Rattle.model.specs.PrefixLaws.{span_prefix}
use Rattle.order.specs.Bytes.{Bytes}
use Rattle.words.specs.Words.{first_slot}
use Rattle.layout.specs.Encoded.{prefix_before, bytes_of, slots_of, Regions}

region_next : (fanout i j : ℕ) → i < j → first_slot fanout i + fanout ≤ first_slot fanout j
region_next fanout i j h = omega (arith, mul-le-mul_right fanout h, suc-mul i fanout)

-- a write over one leaf's region leaves the others alone

module _ (fanout : ℕ) (slots : List ℕ) (i : ℕ) (ws : List ℕ) (l : length ws ≡ fanout) (h : first_slot fanout i + fanout ≤ length slots) where
  region_kept : (j : ℕ) → (i ≡ j → ⊥) → part (put slots (first_slot fanout i) ws) (first_slot fanout j) fanout ≡ part slots (first_slot fanout j) fanout
  region_kept j n =
      elim (dec_lt i j) [
        | yes x ↦ part-put_after slots (first_slot fanout i) ws (first_slot fanout j) fanout (omega arith) (omega (arith, region_next fanout i j x))
        | no x ↦ part-put_before slots (first_slot fanout i) ws (first_slot fanout j) fanout (omega arith) (region_next fanout j i (omega arith))
      ]

  regions_kept : (a : ℕ) (ns : List Node) → All (λ m. i ≡ m.number → ⊥) ns → Regions fanout slots a ns → Regions fanout (put slots (first_slot fanout i) ws) a ns
  regions_kept a [] n r = tt
  regions_kept a (m ∷ ns) n r = (region_kept m.number n.0 ∙ r.0, regions_kept (a + length (leaf_bytes (prefix_before m ns) m)) ns n.1 r.1)

-- all regions, written

module _ (fanout pool : ℕ) (base : List ℕ) (l : length base ≡ fanout * pool) where
  pub slots_long : (a : ℕ) (ns : List Node) → All (λ n. n.number < pool) ns → Tiled (limits fanout) ns → length (slots_of fanout base a ns) ≡ fanout * pool
  unfolding slots_of
  slots_long a [] i t = l
  slots_long a (n ∷ ns) i t =
      let p = prefix_before n ns in
      let s = slots_of fanout base (a + length (leaf_bytes p n)) ns in
      let r : length s ≡ fanout * pool = slots_long (a + length (leaf_bytes p n)) ns i.1 t.1 in
      length-put s (first_slot fanout n.number) (region fanout p a n) (rw (r, region_long fanout p a n t.0.1) (region_in fanout pool n.number i.0)) ∙ r

  pub regions_written : (a : ℕ) (ns : List Node) → All (λ n. n.number < pool) ns → Tiled (limits fanout) ns → Distinct ns → Regions fanout (slots_of fanout base a ns) a ns
  unfolding slots_of
  regions_written a [] i t d = tt
  regions_written a (n ∷ ns) i t d =
      let p = prefix_before n ns in
      let s = slots_of fanout base (a + length (leaf_bytes p n)) ns in
      let g : length (region fanout p a n) ≡ fanout = region_long fanout p a n t.0.1 in
      let r : first_slot fanout n.number + fanout ≤ length s = rw (slots_long (a + length (leaf_bytes p n)) ns i.1 t.1) (region_in fanout pool n.number i.0) in (
        rw g at (part-put s (first_slot fanout n.number) (region fanout p a n) (omega arith)),
        regions_kept fanout s n.number (region fanout p a n) g r (a + length (leaf_bytes p n)) ns d.0 (regions_written (a + length (leaf_bytes p n)) ns i.1 t.1 d.1),
      )

-- each leaf laid out

pub leaf_storable : (fanout : ℕ) (n : Node) (upper : Option Bytes) → GoodLeaf (limits fanout) n upper
    → All (Storable (prefix_length n.low upper) (take (prefix_length n.low upper) n.low)) n.pairs
leaf_storable fanout n upper g =
    all_mono n.pairs
    (λ q h. record {
      begins = span_prefix n.low upper q.key h.0;
      suffix_fits = rw length-drop (omega (arith, key_limit_fits, h.1.0));
      value_fits = omega (arith, value_limit_fits, h.1.1);
    })
    (all_both (λ q. Spans n.low upper q.key) (Within (limits fanout)) n.pairs g.spanned g.within)

module _ (b : Buffers) (f : b.fanout ≤ 2 ^ 20) where
  leaf_written : (a : ℕ) (n : Node) (ns : List Node) → Tiled (limits b.fanout) (n ∷ ns) → Lies b.arena a (bytes_of (n ∷ ns)) → Regions b.fanout b.slots a (n ∷ ns)
      → Written b (prefix_before n ns) a n
  unfolding bytes_of
  leaf_written a n ns t s r = record {
    counted = t.0.1;
    count_fits = omega (arith, f, t.0.1);
    low_fits = omega (arith, key_limit_fits, t.0.0.low_within);
    storable = leaf_storable b.fanout n (low_of ns) t.0.0;
    words = r.0;
    bytes = lies_left b.arena a (leaf_bytes (prefix_before n ns) n) (bytes_of ns) s;
  }

  pub list_laid : (a : ℕ) (ns : List Node) → Tiled (limits b.fanout) ns → Lies b.arena a (bytes_of ns) → Regions b.fanout b.slots a ns
      → LaysEach b (prefixes_of ns) (map directory_of ns) ns
  unfolding bytes_of
  list_laid a [] t s r = tt
  list_laid a (n ∷ ns) t s r =
      let p = prefix_before n ns in
      (leaf_laid b p a n (leaf_written a n ns t s r), list_laid (a + length (leaf_bytes p n)) ns t.1 (lies_right b.arena a (leaf_bytes p n) (bytes_of ns) s) r.1)

  pub list_ordered : (a : ℕ) (ns : List Node) (top : ℕ) → Tiled (limits b.fanout) ns → Lies b.arena a (bytes_of ns) → Regions b.fanout b.slots a ns
      → a + length (bytes_of ns) ≤ top → InOrder a (extents b (map directory_of ns)) top
  unfolding bytes_of
  list_ordered a [] top t s r h = omega arith
  list_ordered a (n ∷ ns) top t s r h =
      let p = prefix_before n ns in
      let d = directory_of n in
      let rest = list_ordered (a + length (leaf_bytes p n)) ns top t.1 (lies_right b.arena a (leaf_bytes p n) (bytes_of ns) s) r.1
      (omega (arith, length-append (leaf_bytes p n) (bytes_of ns))) in
      subst (λ (es : List Extent). InOrder a es top) (sym (map-append word_extent (leaf_words b d) (words_of b (map directory_of ns))))
      (leaf_ordered b p a n (extents b (map directory_of ns)) top (leaf_written a n ns t s r) rest)
