-- The steps of `pack_down` and `pack_up`, over plain lists and numbers.
-- Assumes nothing.
use Prim.Native.Nat.{ℕ, suc, ◌+◌, ◌≤◌, ◌<◌}
use mathlib.Core.List.{List}
use mathlib.Core.Path.{◌≡◌, subst, sym}
use native.Mathlib.Numerals.{add-one}
use native.Mathlib.Omega.{arith}
use lib.ListN.{drop, get_or, length, take}
use lib.Seq.{get_or-take, length-take-le}
use Rattle.arena.specs.Slides.{lent}
use Rattle.room.specs.Leaf.{CanLeafDown, CanLeafUp, LeafDown, LeafUp}
use Rattle.room.specs.Pack.{AllDown, CanPackDown, CanPackUp, PackDown, PackUp, Whole}
use Rattle.room.specs.PackLaws.{all_down_start, all_down_step, all_up_start, all_up_step, laid_at, owns_all, whole_repacked}
use Rattle.words.specs.Words.{word_count}

-- a used place of the directory
used_place : (dir : List ℕ) (leaves i : ℕ) → i < leaves → leaves ≤ length dir → i < length (take leaves dir)
used_place dir leaves i h k = omega (arith, length-take-le leaves dir k)

-- pack_down

pub pack_down_start : {fanout : ℕ} {dir slots arena : List ℕ} → PackDown fanout dir slots arena slots arena 0 0
pack_down_start = record { down = λ leaves u k w. all_down_start w }

module _ {fanout : ℕ} {dir slots arena : List ℕ} {j : ℕ} {now_slots now_arena : List ℕ} {i end : ℕ} (g : CanPackDown fanout dir slots arena j)
    (a : PackDown fanout dir slots arena now_slots now_arena i end) (turn : i < length (take j dir)) where
  less : i < j
  less = omega (arith, length-take-le j dir (omega (arith, g.used, g.inside)))

  down_here : AllDown (lent fanout slots arena) (lent fanout now_slots now_arena) (take g.leaves dir) i end
  down_here = a.down g.leaves (omega (arith, less, g.used)) g.inside g.whole

  pub pack_down_asked : {n : ℕ} → n ≡ word_count (get_or (take j dir) i 0) → length now_arena ≡ length arena
      → CanLeafDown fanout now_slots now_arena (get_or (take j dir) i 0) (n + 1) end
  pack_down_asked {n} e long =
      let ds = take g.leaves dir in
      let e₁ : n ≡ word_count (get_or dir i 0) = rw (get_or-take j dir i 0 less) at e in
      let laid = laid_at (whole_repacked g.whole down_here.repacked) i (used_place dir g.leaves i (omega (arith, less, g.used)) g.inside) in
      rw (get_or-take j dir i 0 less) record {
        fs = take i ds;
        bs = drop (suc i) ds;
        laid = rw (get_or-take g.leaves dir i 0 (omega (arith, less, g.used))) at laid;
        stored = omega arith;
        packed = down_here.tight;
        arena_fits = omega (arith, g.arena_fits);
      }

  pub pack_down_turn : {n : ℕ} {next_slots next_arena : List ℕ} {next : ℕ} → n ≡ word_count (get_or (take j dir) i 0)
      → LeafDown fanout now_slots now_arena (get_or (take j dir) i 0) end next_slots next_arena (n + 1) next → length next_slots ≡ length now_slots
      → PackDown fanout dir slots arena next_slots next_arena (i + 1) next
  pack_down_turn {n} {next_slots} {next_arena} {next} e₀ l₀ long =
      let e = rw (get_or-take j dir i 0 less) at e₀ in
      let l = rw (get_or-take j dir i 0 less) at l₀ in
      let one : n + 1 ≡ suc (word_count (get_or dir i 0)) = omega arith in
      record {
        down = λ leaves u k w.
            let ds = take leaves dir in
            let inside : i < leaves = omega arith in
            let place = used_place dir leaves i inside k in
            let x = a.down leaves (omega arith) k w in
            let now = whole_repacked w x.repacked in
            let y : LeafDown fanout now_slots now_arena (get_or ds i 0) end next_slots next_arena (suc (word_count (get_or ds i 0))) next =
            subst (λ (z : ℕ). LeafDown fanout now_slots now_arena z end next_slots next_arena (suc (word_count z)) next) (sym (get_or-take leaves dir i 0 inside)) (rw one at l) in
            rw add-one
            (all_down_step ds i w place x (y.down (laid_at now i place) x.tight) (owns_all fanout now_slots now_arena ds next_slots next_arena long now.owns));
      }

-- pack_up

pub pack_up_start : {fanout leaves : ℕ} {dir slots arena : List ℕ} {j : ℕ} → CanPackUp fanout leaves dir slots arena j → PackUp fanout leaves dir slots arena slots arena leaves (length arena)
pack_up_start {leaves = leaves} {dir = dir} g = all_up_start leaves g.whole (omega (arith, length-take-le leaves dir g.inside))

module _ {fanout leaves : ℕ} {dir slots arena : List ℕ} {j : ℕ} {now_slots now_arena : List ℕ} {i start : ℕ} (g : CanPackUp fanout leaves dir slots arena j)
    (a : PackUp fanout leaves dir slots arena now_slots now_arena i start) (m : ℕ) (is : i ≡ suc m) (bound : i ≤ leaves) where
  abbrev whole_up : Whole (lent fanout now_slots now_arena) (take leaves dir)
  whole_up = whole_repacked g.whole a.repacked

  place_up : m < length (take leaves dir)
  place_up = used_place dir leaves m (omega arith) g.inside

  pub pack_up_asked : length now_arena ≡ length arena → CanLeafUp fanout now_slots now_arena (get_or dir m 0) 0 start
  pack_up_asked long =
      let ds = take leaves dir in
      record {
        fs = take m ds;
        bs = drop (suc m) ds;
        laid = rw (get_or-take leaves dir m 0 (omega arith)) at (laid_at whole_up m place_up);
        stored = omega arith;
        packed = (rw is at a).tight;
        arena_fits = omega (arith, g.arena_fits);
      }

  pub pack_up_turn : {next_slots next_arena : List ℕ} {next : ℕ} → LeafUp fanout now_slots now_arena (get_or dir m 0) start next_slots next_arena 0 next
      → length next_slots ≡ length now_slots → PackUp fanout leaves dir slots arena next_slots next_arena m next
  pack_up_turn {next_slots} {next_arena} {next} l long =
      let ds = take leaves dir in
      let x : PackUp fanout leaves dir slots arena now_slots now_arena (suc m) start = rw is at a in
      let y : LeafUp fanout now_slots now_arena (get_or ds m 0) start next_slots next_arena 0 next =
      subst (λ (z : ℕ). LeafUp fanout now_slots now_arena z start next_slots next_arena 0 next) (sym (get_or-take leaves dir m 0 (omega arith))) l in
      all_up_step ds m place_up x (y.up (laid_at whole_up m place_up) x.tight) (owns_all fanout now_slots now_arena ds next_slots next_arena long whole_up.owns)
