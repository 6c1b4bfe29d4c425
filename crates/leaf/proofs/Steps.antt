-- The steps of the search in a leaf, over plain lists and numbers.
-- Assumes nothing.
use Rattle.std.specs.Prelude.{Ok, Err, Some, Bool, false}
use Rattle.std.specs.Ordering.{is_le, nat_cmp}
use Rattle.std.specs.Range.{range_inclusive_contains}
use Rattle.std.specs.declared.ops.RangeInclusive.{RangeInclusive}
use Rattle.std.proofs.lemmas.Cmp.{by_ranked, ranked}
use Rattle.std.proofs.lemmas.Map.Keys.{le_from_is_le}
use Rattle.lists.specs.Exact.{Exact, exact_and}
use Prim.Native.Nat.{ℕ, ◌+◌, ◌-◌, ◌≤◌, ◌<◌}
use mathlib.Core.List.{List, []}
use mathlib.Core.Path.{◌≡◌, ◌∙◌, ap, refl, sym}
use native.Mathlib.Numerals.{add-one}
use native.Mathlib.Omega.{arith}
use lib.ListN.{get_or-map, drop, get_or, length, length-map, take}
use lib.Seq.{take_all, take-suc}
use Rattle.lists.specs.All.{All, all_append, all_at}
use Rattle.lists.proofs.PartLaws.{get_or-part, length-part}
use Rattle.lists.specs.Part.{part}
use Rattle.order.specs.Bytes.{Bytes}
use Rattle.order.specs.Compared.{Compared, compared_equal, compared_greater, compared_less}
use Rattle.std.specs.declared.cmp.Ordering.{Ordering}
use Rattle.std.specs.declared.cmp.Ordering.TheVariants.{Less, Equal, Greater}
use Rattle.words.specs.Words.{Unpacked, first_slot}
use Rattle.words.specs.declared.Slot.{Slot}
use Rattle.model.specs.Map.{Below, Pair}
use Rattle.model.specs.Place.{Place, place, place_at, place_end, place_gap}
use Rattle.model.specs.Place.Place.{at, gap}
use Rattle.layout.specs.Buffers.{pair_at, suffix_at}
use Rattle.layout.specs.LaysParts.{WordInside}
use Rattle.leaf.specs.Finds.{Suffixes, find_told, leaf_slots, suffixes_of}
use Rattle.leaf.specs.declared.Leaf.{Leaf}

-- fanout_met: what `contains` tells of `a..=b`

is_le_exact : (a b : ℕ) → Exact (is_le (nat_cmp a b)) (a ≤ b)
is_le_exact a b = record {
  sound = le_from_is_le a b;
  complete = λ l. by_ranked (a < b) (a ≡ b) (b < a) (nat_cmp a b) (ranked a b _ refl) (λ e _. ap is_le e) (λ e _. ap is_le e) (λ _ g. absurd (omega arith));
}

pub within_exact : {s : RangeInclusive ℕ} {a b x : ℕ} {r : Bool} → s.start ≡ a → s.end ≡ b → s.exhausted ≡ false
    → r ≡ range_inclusive_contains (λ m n. Some (nat_cmp m n)) s x → Exact r ((a ≤ x) × (x ≤ b))
within_exact {a = a} {b = b} {x = x} e f g v = rw (v, e, f, g) (exact_and (is_le_exact a x) (is_le_exact x b))

-- compare_suffix

pub suffix_compared : (arena : List ℕ) {suffix : Bytes} {r : Ordering} {w : ℕ} (s : Slot) → Unpacked w s
    → Compared suffix (take (s.offset.0 + s.suffix - s.offset.0) (drop s.offset.0 arena)) r → Compared suffix (suffix_at arena w) r
unfolding suffix_at
suffix_compared arena s u c =
    let e : s.offset.0 + s.suffix - s.offset.0 ≡ s.suffix = omega arith in
    rw (e, u.offset_is, u.suffix_is) at c

-- find: the slots from first on, n of them, of which i are passed

pub slot_inside : {slots arena : List ℕ} {leaf : Leaf} (first i : ℕ) → Suffixes slots arena leaf → first ≡ first_slot leaf.fanout leaf.number.0 → i < leaf.pairs
    → (first + i < length slots) × WordInside arena (get_or slots (first + i) 0)
unfolding leaf_slots
slot_inside {slots} {arena} {leaf} first i t e h =
    let m : i < length (leaf_slots slots leaf) = rw (length-part slots (first_slot leaf.fanout leaf.number.0) leaf.pairs t.room) h in (
      omega (arith, e, t.room),
      rw (e, ← get_or-part slots (first_slot leaf.fanout leaf.number.0) leaf.pairs i 0 h)
          (all_at (WordInside arena) (leaf_slots slots leaf) i 0 m t.inside),
    )

pub record Passed (slots arena : List ℕ) (suffix : Bytes) (first n i : ℕ) : Type 0 where
  pub within : i ≤ n
  pub below : All (Below suffix) (take i (suffixes_of arena (part slots first n)))

pub passed_none : (slots arena : List ℕ) (suffix : Bytes) (first n : ℕ) → Passed slots arena suffix first n 0
passed_none slots arena suffix first n = record { within = omega arith; below = tt }

module _ {slots arena : List ℕ} {suffix : Bytes} {first n i : ℕ} (g : Passed slots arena suffix first n i) (room : first + n ≤ length slots) where
  suffixes_length : length (suffixes_of arena (part slots first n)) ≡ n
  suffixes_length = length-map (part slots first n) (pair_at arena []) ∙ length-part slots first n room

  -- the i-th pair's key
  key_at : i < n → (get_or (suffixes_of arena (part slots first n)) i (pair_at arena [] 0)).key ≡ suffix_at arena (get_or slots (first + i) 0)
  unfolding pair_at
  key_at h = ap (λ (q : Pair). q.key) (get_or-map (pair_at arena []) (part slots first n) i 0) ∙ ap (suffix_at arena) (get_or-part slots first n i 0 h)

  passed_more : {r : Ordering} → i < n → Compared suffix (suffix_at arena (get_or slots (first + i) 0)) r → r ≡ Greater → Passed slots arena suffix first n (i + 1)
  passed_more h c e = record {
    within = omega arith;
    below =
        rw (add-one, take-suc (suffixes_of arena (part slots first n)) i (pair_at arena [] 0) (rw suffixes_length h))
        (all_append (Below suffix) (take i (suffixes_of arena (part slots first n))) _ g.below (rw (key_at h) (compared_greater c e), tt));
  }

  place_less : {r : Ordering} → i < n → Compared suffix (suffix_at arena (get_or slots (first + i) 0)) r → r ≡ Less
      → place suffix (suffixes_of arena (part slots first n)) ≡ gap i
  place_less h c e =
      place_gap (pair_at arena [] 0) suffix (suffixes_of arena (part slots first n)) i (rw suffixes_length h) g.below (rw (key_at h) (compared_less c e))

  place_equal : {r : Ordering} → i < n → Compared suffix (suffix_at arena (get_or slots (first + i) 0)) r → r ≡ Equal
      → place suffix (suffixes_of arena (part slots first n)) ≡ at i
  place_equal h c e =
      place_at (pair_at arena [] 0) suffix (suffixes_of arena (part slots first n)) i (rw suffixes_length h) g.below (compared_equal c e ∙ sym (key_at h))

  place_past : n ≤ i → place suffix (suffixes_of arena (part slots first n)) ≡ gap n
  place_past h =
      let m : length (suffixes_of arena (part slots first n)) ≤ i = rw suffixes_length h in
      place_end suffix (suffixes_of arena (part slots first n)) (rw (take_all i (suffixes_of arena (part slots first n)) m) at g.below)
      ∙ ap gap suffixes_length

-- the place among the leaf's own slots, told
told : (slots arena : List ℕ) (leaf : Leaf) (suffix : Bytes) (first : ℕ) (x : Place) → first ≡ first_slot leaf.fanout leaf.number.0
    → place suffix (suffixes_of arena (part slots first leaf.pairs)) ≡ x → find_told x ≡ find_told (place suffix (suffixes_of arena (leaf_slots slots leaf)))
unfolding leaf_slots
told slots arena leaf suffix first x e p = ap find_told (sym (rw e at p))

module _ {slots arena : List ℕ} {leaf : Leaf} {suffix : Bytes} {first i : ℕ} (t : Suffixes slots arena leaf) (e : first ≡ first_slot leaf.fanout leaf.number.0) (g : Passed slots arena suffix first leaf.pairs i) where
  pub passed_next : {r : Ordering} → i < leaf.pairs → Compared suffix (suffix_at arena (get_or slots (first + i) 0)) r → r ≡ Greater
      → Passed slots arena suffix first leaf.pairs (i + 1)
  passed_next h c o = passed_more g (rw e t.room) h c o

  pub found_gap : {r : Ordering} → i < leaf.pairs → Compared suffix (suffix_at arena (get_or slots (first + i) 0)) r → r ≡ Less
      → Err i ≡ find_told (place suffix (suffixes_of arena (leaf_slots slots leaf)))
  found_gap h c o = told slots arena leaf suffix first (gap i) e (place_less g (rw e t.room) h c o)

  pub found_at : {r : Ordering} → i < leaf.pairs → Compared suffix (suffix_at arena (get_or slots (first + i) 0)) r → r ≡ Equal
      → Ok i ≡ find_told (place suffix (suffixes_of arena (leaf_slots slots leaf)))
  found_at h c o = told slots arena leaf suffix first (at i) e (place_equal g (rw e t.room) h c o)

  pub found_end : leaf.pairs ≤ i → Err leaf.pairs ≡ find_told (place suffix (suffixes_of arena (leaf_slots slots leaf)))
  found_end h = told slots arena leaf suffix first (gap leaf.pairs) e (place_past g (rw e t.room) h)
