-- The steps of `leaf_down` and `leaf_up`, over plain lists and numbers.
-- Assumes nothing.
use Prim.Native.Nat.{ℕ, suc, ◌+◌, ◌-◌, ◌≤◌, ◌<◌}
use mathlib.Core.List.{List}
use mathlib.Core.Path.{◌≡◌, ◌∙◌, ap, sym}
use native.Mathlib.Numerals.{add-one}
use native.Mathlib.Omega.{arith}
use lib.ListN.{get_or, length}
use Rattle.arena.specs.Slides.{lent}
use Rattle.layout.specs.Order.{leaf_words}
use Rattle.room.specs.Leaf.{CanLeafDown, CanLeafUp, LeafDown, LeafUp, Up}
use Rattle.room.specs.LeafLaws.{between_top, down_between, down_start, down_step, laid_moved, up_between, up_size, up_start, up_step}
use Rattle.room.specs.PartLaws.{part_word_lem}
use Rattle.room.specs.Parts.{CanSlidePart, Laid, PartSize, SlidPart, Tight, parts_from, size_of}
use Rattle.words.specs.Words.{word_count}

size_here : {fanout : ℕ} {slots : List ℕ} {d k size : ℕ} (arena : List ℕ) → k ≤ word_count d → PartSize fanout slots d k size → size ≡ size_of (get_or (leaf_words (lent fanout slots arena) d) k 0)
size_here {fanout} {slots} {d} {k} arena s p = p.size_is ∙ ap size_of (sym (part_word_lem (lent fanout slots arena) d k s))

-- leaf_down

pub leaf_down_start : {fanout : ℕ} {slots arena : List ℕ} {d start : ℕ} → LeafDown fanout slots arena d start slots arena 0 start
leaf_down_start = record { down = λ h t. down_start h t }

module _ {fanout : ℕ} {slots arena : List ℕ} {d n start : ℕ} {now_slots now_arena : List ℕ} {k end : ℕ} (g : CanLeafDown fanout slots arena d n start)
    (i : LeafDown fanout slots arena d start now_slots now_arena k end) (less : k < n) where
  stored_down : k ≤ word_count d
  stored_down = omega (arith, g.stored)

  laid_down : Laid (lent fanout now_slots now_arena) g.fs d g.bs
  laid_down = laid_moved g.laid (i.down g.laid g.packed).moved

  pub down_fits : {size : ℕ} → PartSize fanout now_slots d k size → end + size ≤ length now_arena
  down_fits p = rw (size_here now_arena stored_down p) (between_top k end laid_down (down_between laid_down stored_down (i.down g.laid g.packed).tight))

  pub down_asked : {size : ℕ} → PartSize fanout now_slots d k size → length now_arena ≡ length arena → CanSlidePart fanout now_slots now_arena d k end
  down_asked p e =
      record {
        fs = g.fs;
        bs = g.bs;
        laid = laid_down;
        stored = stored_down;
        between = down_between laid_down stored_down (i.down g.laid g.packed).tight;
        fits = omega (arith, down_fits p, g.arena_fits);
      }

  pub down_turn : {size : ℕ} {next_slots next_arena : List ℕ} → PartSize fanout now_slots d k size → SlidPart fanout now_slots now_arena d k end next_slots next_arena
      → LeafDown fanout slots arena d start next_slots next_arena (k + 1) (end + size)
  down_turn p s =
      record {
        down = λ h t.
            let x = i.down h t in
            let now = laid_moved h x.moved in
            rw add-one (down_step h stored_down x (s.slid now stored_down (down_between now stored_down x.tight)) (size_here now_arena stored_down p));
      }

-- leaf_up

pub leaf_up_start : {fanout : ℕ} {slots arena : List ℕ} {d top k : ℕ} → k ≡ word_count d → LeafUp fanout slots arena d top slots arena (k + 1) top
leaf_up_start e = rw (add-one, e) (record { up = λ h t. up_start h t })

module _ {fanout : ℕ} {slots arena : List ℕ} {d n top : ℕ} {now_slots now_arena : List ℕ} {k start : ℕ} (g : CanLeafUp fanout slots arena d n top)
    (i : LeafUp fanout slots arena d top now_slots now_arena k start) (m : ℕ) (is : k ≡ suc m) (bound : k ≤ suc (word_count d)) where
  stored_up : m ≤ word_count d
  stored_up = omega arith

  laid_up : Laid (lent fanout now_slots now_arena) g.fs d g.bs
  laid_up = laid_moved g.laid (i.up g.laid g.packed).moved

  tight_up : Tight start (parts_from (lent fanout now_slots now_arena) d g.bs (suc m)) (length now_arena)
  tight_up = rw is at (i.up g.laid g.packed).tight

  pub up_fits : {size : ℕ} → PartSize fanout now_slots d m size → size ≤ start
  up_fits p = rw (size_here now_arena stored_up p) (up_size laid_up stored_up tight_up)

  pub up_asked : {size : ℕ} → PartSize fanout now_slots d m size → length now_arena ≡ length arena → CanSlidePart fanout now_slots now_arena d m (start - size)
  up_asked {size} p e =
      let b = up_between (start - size) laid_up stored_up tight_up (back (size_here now_arena stored_up p) (up_fits p)) in
      record {
        fs = g.fs;
        bs = g.bs;
        laid = laid_up;
        stored = stored_up;
        between = b;
        fits = omega (arith, between_top m (start - size) laid_up b, g.arena_fits);
      }
    where
      back : {x : ℕ} → size ≡ x → size ≤ start → start - size + x ≡ start
      back f h = omega arith

  pub up_turn : {size : ℕ} {next_slots next_arena : List ℕ} → PartSize fanout now_slots d m size → SlidPart fanout now_slots now_arena d m (start - size) next_slots next_arena
      → length next_arena ≡ length now_arena → LeafUp fanout slots arena d top next_slots next_arena m (start - size)
  up_turn {size} p s long =
      record {
        up = λ h t.
            let x = i.up h t in
            let now = laid_moved h x.moved in
            let y : Up _ _ _ _ _ (suc m) start = rw is at x in
            let f = back (size_here now_arena stored_up p) (up_fits p) in
            up_step h stored_up y (s.slid now stored_up (up_between (start - size) now stored_up y.tight f)) f long;
      }
    where
      back : {x : ℕ} → size ≡ x → size ≤ start → start - size + x ≡ start
      back f h = omega arith
