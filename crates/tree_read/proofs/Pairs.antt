-- The words of one leaf put together: the first, the rest and the last.
-- Assumes nothing.
use Rattle.std.proofs.Common.{Option}
use Prim.Native.Nat.{◌+◌, ◌-◌, ◌<◌, ◌≤◌, suc, zero, ℕ}
use mathlib.Core.List.{List, ◌∷◌}
use mathlib.Core.Path.{◌∙◌, ◌≡◌, sym}
use native.Mathlib.Nat.{add-zero}
use native.Mathlib.Omega.{arith}
use lib.ListN.{get_or, length}
use Rattle.layout.specs.Buffers.{suffix_at}
use Rattle.leaf.specs.Keys.{upper_part}
use Rattle.lists.specs.Part.{part}
use Rattle.model.specs.Leaves.{Under}
use Rattle.tree_read.proofs.Rest.{rest_cons}
use Rattle.tree_read.specs.Check.{RunPairs, last_suffix, word_end}
use Rattle.tree_read.specs.CheckCode.{FirstOk, PairsAt, PairsOkAt, PairsSum, RestOk, RestSum, rest_of}
use Rattle.tree_read.specs.declared.check.Sum.{Sum}
use Rattle.words.specs.declared.LowKey.{LowKey}

-- the last word of a run

pub last_suffix_lem : (slots arena : List ℕ) (i n : ℕ) → i + n < length slots → last_suffix arena (suffix_at arena (get_or slots i 0)) (part slots (i + 1) n) ≡ suffix_at arena (get_or slots (i + n) 0)
last_suffix_lem slots arena i zero h = rw add-zero
last_suffix_lem slots arena i (suc n) h =
    let e : i + suc n ≡ i + 1 + n = omega arith in
    rw (rest_cons slots (i + 1) n (suc n) (omega arith) (omega arith), e) (last_suffix_lem slots arena (i + 1) n (omega arith))

pub last_inside : (slots arena : List ℕ) (prefix i n : ℕ) → i + n < length slots → word_end (get_or slots i 0) ≤ length arena
    → RunPairs arena prefix (word_end (get_or slots i 0)) (suffix_at arena (get_or slots i 0)) (part slots (i + 1) n) → word_end (get_or slots (i + n) 0) ≤ length arena
last_inside slots arena prefix i zero h w r = rw add-zero w
last_inside slots arena prefix i (suc n) h w r =
    let e : i + suc n ≡ i + 1 + n = omega arith in
    let t = rw (rest_cons slots (i + 1) n (suc n) (omega arith) (omega arith)) at r in
    rw e (last_inside slots arena prefix (i + 1) n (omega arith) t.0.0.inside t.1)

module _ (slots arena : List ℕ) (first count prefix : ℕ) (low : LowKey) (upper : Option LowKey) (p : PairsAt slots arena first count prefix low upper) where
  module _ (h : 0 < count) where
    all_words : part slots first count ≡ get_or slots first 0 ∷ rest_of slots first count
    all_words = rest_cons slots first (count - 1) count (omega arith) (omega (arith, p.in_slots))

    pub pairs_first : (FirstOk arena prefix low (get_or slots first 0) → ⊥) → PairsOkAt slots arena first count prefix low upper → ⊥
    pairs_first n o = n (rw all_words at o).0

    pub pairs_rest : (RestOk slots arena first count prefix → ⊥) → PairsOkAt slots arena first count prefix low upper → ⊥
    pairs_rest n o = n (rw all_words at o).1.0

    last_is : last_suffix arena (suffix_at arena (get_or slots first 0)) (rest_of slots first count) ≡ suffix_at arena (get_or slots (first + count - 1) 0)
    last_is =
        let e : first + (count - 1) ≡ first + count - 1 = omega arith in
        rw e at (last_suffix_lem slots arena first (count - 1) (omega (arith, p.in_slots)))

    pub pairs_end : FirstOk arena prefix low (get_or slots first 0) → RestOk slots arena first count prefix → word_end (get_or slots (first + count - 1) 0) ≤ length arena
    pairs_end f o =
        let e : first + (count - 1) ≡ first + count - 1 = omega arith in
        rw e at (last_inside slots arena prefix first (count - 1) (omega (arith, p.in_slots)) f.0.inside o)

    pub pairs_last : (Under (upper_part arena prefix upper) (suffix_at arena (get_or slots (first + count - 1) 0)) → ⊥) → PairsOkAt slots arena first count prefix low upper → ⊥
    pairs_last n o = n (rw last_is at (rw all_words at o).1.1)

    pub pairs_all : (s : Sum) → FirstOk arena prefix low (get_or slots first 0) → RestOk slots arena first count prefix → RestSum slots first count prefix s
        → Under (upper_part arena prefix upper) (suffix_at arena (get_or slots (first + count - 1) 0))
        → PairsOkAt slots arena first count prefix low upper × PairsSum slots first count prefix low s
    pairs_all s f o m u = (
      rw all_words (f, (o, rw last_is u)),
      record { end_is = m.end_is ∙ sym (rw all_words); charge_is = m.charge_is; charge_few = m.charge_few },
    )
