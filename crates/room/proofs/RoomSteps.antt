-- The steps of `pack_around`, over plain lists and numbers: the leaves before the place down, its own leaf's parts before it down, the leaves behind
-- up, its own leaf's other parts up.
-- Assumes nothing.
use Prim.Native.Nat.{ℕ, suc, ◌+◌, ◌≤◌, ◌<◌}
use mathlib.Core.List.{List}
use mathlib.Core.Path.{◌≡◌, ◌∙◌, subst, sym}
use native.Mathlib.Numerals.{add-one}
use native.Mathlib.Omega.{arith}
use lib.ListN.{drop, get_or, length, take}
use Rattle.arena.specs.Slides.{lent}
use Rattle.room.specs.GapLaws.{place_used, place_word}
use Rattle.room.specs.Leaf.{CanLeafDown, CanLeafUp, Down, LeafDown, LeafUp}
use Rattle.room.specs.Pack.{AllDown, AllUp, CanPackDown, CanPackUp, PackDown, PackUp, Repacked, Whole}
use Rattle.room.specs.PackLaws.{laid_at, owns_all, repacked_by, repacked_trans, whole_repacked}
use Rattle.room.specs.Parts.{Tight, parts_before}
use Rattle.room.specs.RoomLaws.{gap_inside, gap_made, kept_by_all, kept_by_leaf}
use Rattle.room.specs.Rooms.{PackedAround, RoomPlace}
use Rattle.slots.specs.Edits.{Gap}

module _ {fanout leaves : ℕ} {dir slots arena : List ℕ} {j i : ℕ} (g : RoomPlace fanout leaves dir slots arena j i) where
  place : j < length (take leaves dir)
  place = place_used g

  word : get_or (take leaves dir) j 0 ≡ get_or dir j 0
  word = place_word g

  pub first_asked : CanPackDown fanout dir slots arena j
  first_asked = record { leaves = leaves; used = omega (arith, g.used); inside = g.inside; whole = g.whole; arena_fits = g.arena_fits }

  module _ {slots1 arena1 : List ℕ} {end : ℕ} (p : PackDown fanout dir slots arena slots1 arena1 j end) where
    first_down : AllDown (lent fanout slots arena) (lent fanout slots1 arena1) (take leaves dir) j end
    first_down = p.down leaves (omega (arith, g.used)) g.inside g.whole

    whole1 : Whole (lent fanout slots1 arena1) (take leaves dir)
    whole1 = whole_repacked g.whole first_down.repacked

    pub second_asked : length arena1 ≡ length arena → CanLeafDown fanout slots1 arena1 (get_or dir j 0) (i + 1) end
    second_asked long =
        record {
          fs = take j (take leaves dir);
          bs = drop (suc j) (take leaves dir);
          laid = rw word at (laid_at whole1 j place);
          stored = omega (arith, g.slot);
          packed = first_down.tight;
          arena_fits = omega (arith, g.arena_fits);
        }

    module _ {slots2 arena2 : List ℕ} {at : ℕ} (q : LeafDown fanout slots1 arena1 (get_or dir j 0) end slots2 arena2 (i + 1) at) (same2 : length slots2 ≡ length slots1) where
      second_down : Down (lent fanout slots1 arena1) (lent fanout slots2 arena2) (take j (take leaves dir)) (get_or (take leaves dir) j 0) (drop (suc j) (take leaves dir)) (suc i) at
      second_down =
          let l : LeafDown fanout slots1 arena1 (get_or (take leaves dir) j 0) end slots2 arena2 (suc i) at = rw (word, ← add-one i) q in
          l.down (laid_at whole1 j place) first_down.tight

      repacked2 : Repacked (lent fanout slots arena) (lent fanout slots2 arena2) (take leaves dir)
      repacked2 =
          repacked_trans first_down.repacked
          (repacked_by (take leaves dir) j place second_down.moved (owns_all fanout slots1 arena1 (take leaves dir) slots2 arena2 same2 whole1.owns))

      whole2 : Whole (lent fanout slots2 arena2) (take leaves dir)
      whole2 = whole_repacked g.whole repacked2

      pub third_asked : length arena2 ≡ length arena → CanPackUp fanout leaves dir slots2 arena2 (j + 1)
      third_asked long = record { used = omega (arith, g.used); inside = g.inside; whole = whole2; arena_fits = omega (arith, g.arena_fits) }

      module _ {slots3 arena3 : List ℕ} {start : ℕ} (r : PackUp fanout leaves dir slots2 arena2 slots3 arena3 (j + 1) start) where
        third_up : AllUp (lent fanout slots2 arena2) (lent fanout slots3 arena3) (take leaves dir) (suc j) start
        third_up = rw add-one at r

        whole3 : Whole (lent fanout slots3 arena3) (take leaves dir)
        whole3 = whole_repacked whole2 third_up.repacked

        pub fourth_asked : length arena3 ≡ length arena → CanLeafUp fanout slots3 arena3 (get_or dir j 0) (i + 1) start
        fourth_asked long =
            record {
              fs = take j (take leaves dir);
              bs = drop (suc j) (take leaves dir);
              laid = rw word at (laid_at whole3 j place);
              stored = omega (arith, g.slot);
              packed = third_up.tight;
              arena_fits = omega (arith, g.arena_fits);
            }

        pub all_packed : {slots4 arena4 : List ℕ} {top : ℕ} → LeafUp fanout slots3 arena3 (get_or dir j 0) start slots4 arena4 (i + 1) top → length slots4 ≡ length slots3
            → length slots4 ≡ length slots → length arena4 ≡ length arena → PackedAround fanout leaves dir slots arena j i at slots4 arena4
        all_packed {slots4} {arena4} {top} u same4 same long =
            let ds = take leaves dir in
            let b4 = lent fanout slots4 arena4 in
            let l : LeafUp fanout slots3 arena3 (get_or ds j 0) start slots4 arena4 (suc i) top = rw (word, ← add-one i) u in
            let up = l.up (laid_at whole3 j place) third_up.tight in
            let repacked : Repacked (lent fanout slots arena) b4 ds =
            repacked_trans repacked2 (repacked_trans third_up.repacked
            (repacked_by ds j place up.moved (owns_all fanout slots3 arena3 ds slots4 arena4 same4 whole3.owns))) in
            let before : parts_before b4 (take j ds) (get_or ds j 0) (suc i) ≡ parts_before (lent fanout slots2 arena2) (take j ds) (get_or ds j 0) (suc i) =
            kept_by_leaf up ∙ kept_by_all ds j (suc i) place third_up in
            let low : Tight 0 (parts_before b4 (take j ds) (get_or ds j 0) (suc i)) at = subst (λ (z : List ℕ). Tight 0 z at) (sym before) second_down.tight in
            record {
              made = λ need spare.
                  let gap : Gap b4 (take j ds) (get_or ds j 0) (drop (suc j) ds) i at need =
                  gap_made ds j i need place low up.tight (free need repacked.same_size long spare) in
                  record { same_slots = same; same_arena = long; kept = λ a. repacked.kept a; gap = rw word at gap; inside = omega (arith, gap_inside gap) };
            }
          where
            free : {x y m n : ℕ} (need : ℕ) → x ≡ y → m ≡ n → y + need ≤ n → x + need ≤ m
            free need e f h = omega arith
