-- The steps of the functions on one part, over plain lists and numbers.
-- Assumes nothing.
use Prim.Native.Nat.{ℕ, zero, suc, ◌+◌, ◌-◌, ◌^◌, ◌<◌}
use mathlib.Core.List.{List}
use mathlib.Core.Path.{◌≡◌, ◌∙◌, ap, refl, subst, sym}
use native.Mathlib.Omega.{arith}
use lib.ListN.{length}
use Rattle.arena.specs.Slides.{CanSlideLow, CanSlidePair, SlidLow, SlidPair}
use Rattle.room.specs.PartLaws.{can_slide_low, can_slide_pair, low_slid, pair_slid}
use Rattle.room.specs.Parts.{CanSlidePart, CanPlacePart, CanSizePart, SlidPart, part_slot}
use Rattle.words.specs.Words.{first_slot, low_key_slot, word_leaf}

less_one : (i : ℕ) → i ≡ suc i - 1
less_one i = omega arith

-- part_slot

pub low_place : {fanout d k leaf : ℕ} → CanPlacePart fanout d k → leaf ≡ word_leaf d → (0 < fanout) × (low_key_slot fanout leaf < 2 ^ 64)
low_place h e = rw e (omega (arith, h.count_fits), omega (arith, h.count_fits, h.inside))

pub first_place : {fanout d k leaf : ℕ} → CanPlacePart fanout d k → leaf ≡ word_leaf d → first_slot fanout leaf < 2 ^ 64
first_place h e = rw e (omega (arith, h.inside))

pub low_is : {fanout d k leaf r : ℕ} → CanPlacePart fanout d k → k ≡ 0 → leaf ≡ word_leaf d → r ≡ low_key_slot fanout leaf → r ≡ part_slot fanout d k
low_is {fanout} {d} h z e f = rw z (f ∙ ap (low_key_slot fanout) e)

pub pair_is : {fanout d leaf first : ℕ} (k : ℕ) → CanPlacePart fanout d k → (k ≡ 0 → ⊥) → leaf ≡ word_leaf d → first ≡ first_slot fanout leaf → first + (k - 1) ≡ part_slot fanout d k
pair_is zero h z e f = absurd (z refl)
pair_is {fanout} {d} (suc i) h z e f = rw (f, e, ← less_one i)

-- part_at

pub slot_inside : {fanout : ℕ} {slots : List ℕ} {d : ℕ} (k : ℕ) {r : ℕ} → CanSizePart fanout slots d k → r ≡ part_slot fanout d k → r < length slots
slot_inside zero h e = rw e (omega (arith, h.inside, h.count_fits))
slot_inside (suc i) h e = rw e (omega (arith, h.inside, h.count_fits, h.stored))

-- slide_part

module _ {fanout : ℕ} {slots arena : List ℕ} {d to : ℕ} where
  pub low_asked : {k : ℕ} → CanSlidePart fanout slots arena d k to → k ≡ 0 → CanSlideLow fanout slots arena d to
  low_asked g z = can_slide_low (rw z at g)

  pub pair_asked : (k : ℕ) → CanSlidePart fanout slots arena d k to → (k ≡ 0 → ⊥) → CanSlidePair fanout slots arena d (k - 1) to
  pair_asked zero g z = absurd (z refl)
  pair_asked (suc i) g z = subst (λ (x : ℕ). CanSlidePair fanout slots arena d x to) (less_one i) (can_slide_pair g)

  pub low_done : {k : ℕ} {exit_slots exit_arena : List ℕ} → k ≡ 0 → SlidLow fanout slots arena d to exit_slots exit_arena → SlidPart fanout slots arena d k to exit_slots exit_arena
  low_done z t = rw z (record { slid = λ h s b. low_slid h to b t })

  pub pair_done : (k : ℕ) {exit_slots exit_arena : List ℕ} → (k ≡ 0 → ⊥) → SlidPair fanout slots arena d (k - 1) to exit_slots exit_arena
      → SlidPart fanout slots arena d k to exit_slots exit_arena
  pair_done zero z t = absurd (z refl)
  pair_done (suc i) {exit_slots} {exit_arena} z u =
      let t = subst (λ (x : ℕ). SlidPair fanout slots arena d x to exit_slots exit_arena) (sym (less_one i)) u in
      record { slid = λ h s b. pair_slid h to i s b t }
