-- One leaf put together: its low key as the code reads it, the tests on it, and its words.
-- Assumes nothing.
use Rattle.std.proofs.Common.{Option}
use Rattle.std.specs.Prelude.{Some, None}
use Prim.Native.Nat.{◌+◌, ◌<◌, ◌^◌, ◌≤◌, ℕ}
use mathlib.Core.List.{List}
use mathlib.Core.Path.{ap, ◌∙◌, ◌≡◌, refl, sym}
use native.Mathlib.Omega.{arith}
use lib.Dec.{ltb}
use lib.ListN.{drop}
use Rattle.lists.specs.Exact.{Exact, exact_ltb}
use Rattle.layout.specs.Buffers.{low_at, slot_words, suffix_at}
use Rattle.leaf.specs.KeyLaws.{key_part_lem}
use Rattle.leaf.specs.Keys.{PrefixOf, UpperAt, key_at, key_part, upper_at, upper_part}
use Rattle.lists.specs.Part.{part}
use Rattle.model.specs.Leaves.{Under, prefix_length}
use Rattle.tree_read.specs.Check.{NotEmpty, behind, low_end}
use Rattle.tree_read.specs.CheckCode.{LeafAt, LeafRest, LeafSum, PairsOkAt, PairsSum, lent}
use Rattle.tree_read.specs.declared.check.Sum.{Sum}
use Rattle.words.specs.Words.{first_slot, word_count, word_leaf}
use Rattle.words.specs.declared.LowKey.{LowKey}

-- not_empty

pub empty_inner : {upper : Option LowKey} {u : LowKey} (count : ℕ) → upper ≡ Some u → (arena : List ℕ) → Exact (ltb 0 count) (NotEmpty (upper_at arena upper) count)
empty_inner count e arena = rw e (exact_ltb 0 count)

-- the upper key behind the prefix length

upper_behind : (arena : List ℕ) (prefix : ℕ) (upper : Option LowKey) → UpperAt arena prefix upper → behind prefix (upper_at arena upper) ≡ upper_part arena prefix upper
upper_behind arena prefix (Some u) k = rw (key_part_lem arena prefix u k.long)
upper_behind arena prefix None k = refl

-- check_leaf

module _ (fanout : ℕ) (slots arena : List ℕ) (d : ℕ) (low : LowKey) (upper : Option LowKey) (end : ℕ) (l : LeafAt fanout slots arena d low upper) where
  low_is_key : low_at (lent fanout slots arena) d ≡ key_at arena low
  unfolding low_at suffix_at
  low_is_key = sym (rw (l.low_is.offset_is, l.low_is.length_is))

  pub leaf_after : low.offset.0 < end → LeafRest (lent fanout slots arena) end d (upper_at arena upper) → ⊥
  leaf_after h o = omega (arith, o.after, l.low_is.offset_is)

  pub leaf_under : (Under (upper_at arena upper) (key_at arena low) → ⊥) → LeafRest (lent fanout slots arena) end d (upper_at arena upper) → ⊥
  leaf_under n o = n (rw low_is_key at o.under)

  pub leaf_count : (n : ℕ) → n ≡ word_count d → fanout ≤ n → LeafRest (lent fanout slots arena) end d (upper_at arena upper) → ⊥
  leaf_count n e h o = omega (arith, o.count)

  pub leaf_empty : (n : ℕ) → n ≡ word_count d → (NotEmpty (upper_at arena upper) n → ⊥) → LeafRest (lent fanout slots arena) end d (upper_at arena upper) → ⊥
  leaf_empty n e f o = f (rw e o.not_empty)

  module _ (prefix first count : ℕ) (p : PrefixOf arena low upper prefix) (f : first ≡ first_slot fanout (word_leaf d)) (n : count ≡ word_count d) where
    words_are : slot_words (lent fanout slots arena) d ≡ part slots first count
    unfolding slot_words
    words_are = rw (f, n)

    prefix_is : prefix_length (low_at (lent fanout slots arena) d) (upper_at arena upper) ≡ prefix
    prefix_is = rw low_is_key (sym p.is)

    end_is : low_end (lent fanout slots arena) d ≡ low.offset.0 + low.length
    end_is = omega (arith, l.low_is.offset_is, l.low_is.length_is)

    low_part : drop prefix (low_at (lent fanout slots arena) d) ≡ key_part arena prefix low
    low_part = rw low_is_key (key_part_lem arena prefix low p.in_low.long)

    pub leaf_pairs : (PairsOkAt slots arena first count prefix low upper → ⊥) → LeafRest (lent fanout slots arena) end d (upper_at arena upper) → ⊥
    leaf_pairs g o = g (rw (prefix_is, low_part, end_is, upper_behind arena prefix upper p.in_upper, words_are) at o.pairs)

    pub leaf_all : (s : Sum) (t : ℕ) → end ≤ low.offset.0 → Under (upper_at arena upper) (key_at arena low) → count < fanout → NotEmpty (upper_at arena upper) count
        → PairsOkAt slots arena first count prefix low upper → PairsSum slots first count prefix low s → count < 2 ^ 20 → t ≡ s.charge + low.length
        → LeafRest (lent fanout slots arena) end d (upper_at arena upper) × LeafSum (lent fanout slots arena) d (upper_at arena upper) (record { end = s.end; charge = t })
    leaf_all s t a u c e o m k q = (
      record {
        after = omega (arith, l.low_is.offset_is);
        under = rw low_is_key u;
        count = omega arith;
        not_empty = rw (← n) e;
        pairs = rw (prefix_is, low_part, end_is, upper_behind arena prefix upper p.in_upper, words_are) o;
      },
      record {
        end_is = m.end_is ∙ sym (rw (end_is, words_are));
        charge_is = q ∙ sym (rw (prefix_is, words_are) (omega (arith, m.charge_is, l.low_is.length_is)));
        charge_few = omega (arith, m.charge_few, p.in_low.fits);
      },
    )

pub first_is : (fanout n x d : ℕ) → x ≡ first_slot fanout n → n ≡ word_leaf d → x ≡ first_slot fanout (word_leaf d)
first_is fanout n x d e f = e ∙ ap (first_slot fanout) f
