-- The steps of the test of W, over plain lists and numbers.
-- Assumes nothing.
use Rattle.std.proofs.Common.{Option}
use Rattle.std.specs.Prelude.{Some}
use Prim.Native.Nat.{◌+◌, ◌<◌, ℕ}
use mathlib.Core.Bool.{Bool, false, not}
use mathlib.Core.List.{List}
use mathlib.Core.Path.{◌∙◌, ◌≡◌, ap}
use native.Mathlib.Omega.{arith}
use lib.ListN.{get_or, length}
use Rattle.layout.specs.Buffers.{suffix_at, low_word}
use Rattle.leaf.specs.Keys.{key_part, upper_part}
use Rattle.lists.specs.Exact.{exact_not, Exact, exact_iff, refuted}
use Rattle.lists.specs.Part.{part}
use Rattle.model.specs.Leaves.{Under}
use Rattle.order.specs.Bytes.{◌≺◌}
use Rattle.tree_read.specs.Check.{word_end, LowOk, WordOk}
use Rattle.tree_read.specs.CheckCode.{FirstOk, Follows, LowWordOk, lent}
use Rattle.words.specs.Words.{LowKeyUnpacked, Unpacked, low_key_slot, word_leaf}
use Rattle.words.specs.declared.LowKey.{LowKey}
use Rattle.words.specs.declared.Slot.{Slot}

-- read_low

module _ (fanout pool : ℕ) (slots arena : List ℕ) (d n i : ℕ) (e : n ≡ word_leaf d) (f : i ≡ low_key_slot fanout n) where
  low_word_is : get_or slots i 0 ≡ low_word (lent fanout slots arena) d
  unfolding low_word
  low_word_is = ap (λ (x : ℕ). get_or slots x 0) (f ∙ ap (low_key_slot fanout) e)

  pub low_read_no : {r : Bool} → r ≡ false → Exact r (LowWordOk (length arena) (get_or slots i 0)) → LowOk (lent fanout slots arena) pool d → ⊥
  low_read_no t x o =
      refuted t x (record { no_value = rw low_word_is o.no_value; short = rw low_word_is o.short; inside = rw low_word_is o.inside })

  pub low_read_yes : {k : LowKey} → n < pool → LowWordOk (length arena) (get_or slots i 0) → LowKeyUnpacked (get_or slots i 0) k
      → LowOk (lent fanout slots arena) pool d × LowKeyUnpacked (low_word (lent fanout slots arena) d) k
  low_read_yes h o u = (
    record {
      in_pool = omega arith;
      no_value = rw (← low_word_is) o.no_value;
      short = rw (← low_word_is) o.short;
      inside = rw (← low_word_is) o.inside;
    },
    rw (← low_word_is) u,
  )

-- next_ok

module _ (arena : List ℕ) (prefix p w end : ℕ) {x : Slot} (u : Unpacked p x) (e : end ≡ x.offset.0 + x.suffix + x.value) where
  end_is : end ≡ word_end p
  end_is = omega (arith, u.offset_is, u.suffix_is, u.value_is)

  pub next_below : {r : Bool} {y : Slot} → WordOk (length arena) end prefix w → Unpacked w y → Exact r (part arena x.offset.0 x.suffix ≺ part arena y.offset.0 y.suffix)
      → Exact r (Follows arena prefix p w)
  unfolding suffix_at
  next_below {r} o v b =
      let q : Exact r (suffix_at arena p ≺ suffix_at arena w) = rw (u.offset_is, u.suffix_is, v.offset_is, v.suffix_is) at b in
      exact_iff q (λ l. (rw end_is at o, l)) (λ g. g.1)

-- first_ok

module _ (arena : List ℕ) (prefix w end : ℕ) (low : LowKey) (e : end ≡ low.offset.0 + low.length) where
  pub first_not_below : {r : Bool} {s : Slot} → WordOk (length arena) end prefix w → Unpacked w s → Exact r (part arena s.offset.0 s.suffix ≺ key_part arena prefix low)
      → Exact (not r) (FirstOk arena prefix low w)
  unfolding suffix_at
  first_not_below {r} o u b =
      let q : Exact r (suffix_at arena w ≺ key_part arena prefix low) = rw (u.offset_is, u.suffix_is) at b in
      exact_iff (exact_not r q) (λ l. (rw e at o, l)) (λ g. g.1)

-- last_ok

module _ (arena : List ℕ) (prefix w : ℕ) {upper : Option LowKey} where
  pub last_below : {r : Bool} {s : Slot} {u : LowKey} → upper ≡ Some u → Unpacked w s → Exact r (part arena s.offset.0 s.suffix ≺ key_part arena prefix u)
      → Exact r (Under (upper_part arena prefix upper) (suffix_at arena w))
  unfolding suffix_at
  last_below e v b = rw e (rw (v.offset_is, v.suffix_is) at b)
