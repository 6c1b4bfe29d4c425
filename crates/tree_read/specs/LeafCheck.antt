-- The test of a leaf is exact: a directory word passes exactly where the leaf decoded from its words is laid out by them, is good, has room
-- and its number in the pool, and its parts lie in order.
-- Assumes nothing.
use Rattle.std.specs.Prelude.{◌*◌, ◌+◌, ◌<◌, ℕ, List, [], ◌∷◌, ◌++◌, map, ◌≡◌, refl, drop, length, take}
use Rattle.std.proofs.Math.Option.{Option, none, some}
use Rattle.std.proofs.Common.{sym, ◌∙◌, ap, add-zero, arith, take-append-drop, length-take-le}
use Rattle.std.proofs.lemmas.List.{length-map}
use Rattle.layout.specs.Buffers.{Buffers, low_at, low_word, pair_at, slot_words}
use Rattle.layout.specs.Lays.{LaysLeaf}
use Rattle.layout.specs.LaysParts.{WordInside}
use Rattle.layout.proofs.LaysParts.{suffix-length}
use Rattle.layout.proofs.LaysWords.{region_in}
use Rattle.layout.specs.Order.{InOrder, leaf_words, word_extent, end_of}
use Rattle.layout.proofs.OrderLaws.{order_top}
use Rattle.lists.specs.All.{All}
use Rattle.lists.proofs.PartLaws.{length-part}
use Rattle.model.specs.Charge.{weight}
use Rattle.model.specs.Good.{GoodLeaf, limits}
use Rattle.model.specs.Leaves.{Node, node, prefix_length}
use Rattle.model.specs.PrefixLaws.{prefix_low}
use Rattle.order.specs.Bytes.{Bytes, common}
use Rattle.order.specs.CommonLaws.{common-take}
use Rattle.tree_read.specs.Check.{LeafOk, LowOk, leaf_charge, NotEmpty, behind, leaf_end, low_end}
use Rattle.tree_read.specs.PairCheck.{PairsGood, pairs_good, pairs_ok, words_charge_lem, ahead, end_after_lem}
use Rattle.words.specs.Words.{first_slot, word_count, word_leaf, word_offset, word_suffix, word_value}

-- the leaf that a directory word and an upper key stand for

abbrev pub prefix_at : Buffers → Option Bytes → ℕ → ℕ
prefix_at b upper d = prefix_length (low_at b d) upper

abbrev pub node_of : Buffers → Option Bytes → ℕ → Node
node_of b upper d = node (word_leaf d) (low_at b d) (map (pair_at b.arena (take (prefix_at b upper d) (low_at b d))) (slot_words b d))

-- what it is to be, its parts from `end` on
pub record LeafGood (b : Buffers) (pool end d : ℕ) (upper : Option Bytes) : Type 0 where
  pub lays : LaysLeaf b (prefix_at b upper d) d (node_of b upper d)
  pub good : GoodLeaf (limits b.fanout) (node_of b upper d) upper
  pub has_room : length (node_of b upper d).pairs < b.fanout
  pub in_pool : word_leaf d < pool
  pub filled : NotEmpty upper (length (node_of b upper d).pairs)
  pub ordered : InOrder end (map word_extent (leaf_words b d)) (length b.arena)

-- low key and upper key begin with the prefix

upper_whole : (low : Bytes) (upper : Option Bytes) → ahead (take (prefix_length low upper) low) (behind (prefix_length low upper) upper) ≡ upper
upper_whole low none = refl
upper_whole low (some u) = ap some (ap (λ (t : Bytes). t ++ drop (common low u) u) (common-take low u) ∙ take-append-drop (common low u) u)

-- words in order are inside
words_inside : (arena : List ℕ) (end : ℕ) (ws : List ℕ) → InOrder end (map word_extent ws) (length arena) → All (WordInside arena) ws
words_inside arena end [] o = tt
words_inside arena end (w ∷ ws) o = (order_top _ (map word_extent ws) (length arena) o.1, words_inside arena ((word_extent w).at + (word_extent w).size) ws o.1)

-- where its parts end, and how many they are

module _ (b : Buffers) (d : ℕ) where
  low_end_lem : word_value (low_word b d) ≡ 0 → low_end b d ≡ word_offset (low_word b d) + (word_suffix (low_word b d) + word_value (low_word b d))
  low_end_lem v = rw (v, add-zero)

  pub leaf_end_lem : (end : ℕ) → word_value (low_word b d) ≡ 0 → leaf_end b d ≡ end_of end (map word_extent (leaf_words b d))
  leaf_end_lem end v = end_after_lem (low_end b d) (slot_words b d) ∙ ap (λ (x : ℕ). end_of x (map word_extent (slot_words b d))) (low_end_lem v)

  low_inside : {pool : ℕ} → LowOk b pool d → WordInside b.arena (low_word b d)
  low_inside o = rw (low_end_lem o.no_value) at o.inside

  low_long : WordInside b.arena (low_word b d) → length (low_at b d) ≡ word_suffix (low_word b d)
  unfolding low_at
  low_long i = suffix-length b.arena (low_word b d) i

  pub low_length : {pool : ℕ} → LowOk b pool d → length (low_at b d) ≡ word_suffix (low_word b d)
  low_length o = low_long (low_inside o)

  words_count : (pool : ℕ) → length b.slots ≡ b.fanout * pool → word_leaf d < pool → word_count d < b.fanout → length (slot_words b d) ≡ word_count d
  unfolding slot_words
  words_count pool s i c = length-part b.slots (first_slot b.fanout (word_leaf d)) (word_count d) (omega (arith, region_in b.fanout pool (word_leaf d) i))

module _ (b : Buffers) (upper : Option Bytes) (d : ℕ) where
  prefix_long : length (take (prefix_at b upper d) (low_at b d)) ≡ prefix_at b upper d
  prefix_long = length-take-le (prefix_at b upper d) (low_at b d) (prefix_low (low_at b d) upper)

  pairs_count : length (node_of b upper d).pairs ≡ length (slot_words b d)
  pairs_count = length-map (slot_words b d) (pair_at b.arena (take (prefix_at b upper d) (low_at b d)))

  module _ (pool end : ℕ) (s : length b.slots ≡ b.fanout * pool) where
    pub leaf_good : LeafOk b pool end d upper → LeafGood b pool end d upper
    leaf_good o =
        let n : length (node_of b upper d).pairs ≡ word_count d = pairs_count ∙ words_count b d pool s o.low.in_pool o.count in
        let p = prefix_at b upper d in
        let low = low_at b d in
        let g : PairsGood b.arena (take p low) b.fanout (low_end b d) low upper (slot_words b d) =
        rw (take-append-drop p low, upper_whole low upper) at (pairs_good b.arena (take p low) p prefix_long b.fanout (low_end b d) (drop p low) (behind p upper) (slot_words b d) o.low.inside o.pairs) in
        record {
          lays = record { number_is = refl; count_is = sym n; low_is = refl; no_value = o.low.no_value; pairs_are = refl };
          good = record {
            low_within = rw (low_length b d o.low) o.low.short;
            low_under = o.under;
            rises = g.rises;
            spanned = g.spanned;
            within = g.within;
          };
          has_room = rw n o.count;
          in_pool = o.low.in_pool;
          filled = rw n o.not_empty;
          ordered = (o.after, rw (low_end_lem b d o.low.no_value) at g.ordered);
        }

    pub leaf_ok : LeafGood b pool end d upper → LeafOk b pool end d upper
    leaf_ok g =
        let p = prefix_at b upper d in
        let low = low_at b d in
        let v = g.lays.no_value in
        let i : WordInside b.arena (low_word b d) = order_top _ (map word_extent (slot_words b d)) (length b.arena) g.ordered.1 in
        let q : PairsGood b.arena (take p low) b.fanout (low_end b d) low upper (slot_words b d) =
        record { ordered = rw (low_end_lem b d v) g.ordered.1; rises = g.good.rises; spanned = g.good.spanned; within = g.good.within } in
        record {
          low = record { in_pool = g.in_pool; no_value = v; short = rw (low_long b d i) at g.good.low_within; inside = rw (low_end_lem b d v) i };
          after = g.ordered.0;
          under = g.good.low_under;
          count = rw g.lays.count_is g.has_room;
          not_empty = rw g.lays.count_is g.filled;
          pairs = pairs_ok b.arena (take p low) p prefix_long b.fanout (low_end b d) (drop p low) (behind p upper) (slot_words b d) (rw (take-append-drop p low, upper_whole low upper) q);
        }

    -- its charge
    pub leaf_charge_lem : LeafGood b pool end d upper → leaf_charge b d upper ≡ length (node_of b upper d).low + weight (node_of b upper d).pairs
    leaf_charge_lem g =
        let a = words_inside b.arena end (leaf_words b d) g.ordered in
        let p = prefix_at b upper d in
        rw (low_long b d a.0, words_charge_lem b.arena (take p (low_at b d)) p prefix_long (slot_words b d) a.1)
