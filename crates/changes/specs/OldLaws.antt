-- The value of the pair read at a spot: where it lies in the arena, and the output with it at the front.
-- Assumes nothing.
use Rattle.std.specs.Prelude.{◌+◌, ◌-◌, ◌<◌, ◌^◌, ◌≤◌, ℕ, List, ◌≡◌, drop, length, take}
use Rattle.std.proofs.Common.{◌∙◌, ap, arith}
use Rattle.changes.specs.Outcomes.{CanWriteOld, WroteOld}
use Rattle.layout.specs.Viewed.{leaves_of}
use Rattle.layout.specs.declared.lent.View.{View}
use Rattle.lists.proofs.PartLaws.{length-part}
use Rattle.lists.specs.Part.{put}
use Rattle.spots.specs.Spots.{PairAt}
use Rattle.spots.specs.declared.Pieced.{Pieced}
use Rattle.spots.specs.declared.Spot.{Spot}

module _ {v : View} {t : Spot} {out : List ℕ} {r : Pieced} (c : CanWriteOld v t out) (s : PairAt v t r) where
  -- suffix and value inside the arena, and the value not longer than the output
  pub record OldInside : Type 0 where
    pub arena_fits : length v.arena.now < 2 ^ 28
    pub parts_in : r.slot.offset.0 + r.slot.suffix + r.slot.value ≤ length v.arena.now
    pub out_holds : r.slot.value ≤ length out

  pub old_inside : OldInside
  old_inside = record { arena_fits = s.pieces.arena_fits; parts_in = s.pieces.parts_in; out_holds = omega (arith, s.pieces.value_length, c.fits) }

  -- (the part as `&arena[start..end]` gives it)

  pub old_fits : 0 + length (take (r.slot.offset.0 + r.slot.suffix + r.slot.value - (r.slot.offset.0 + r.slot.suffix)) (drop (r.slot.offset.0 + r.slot.suffix) v.arena.now)) ≤ length out
  old_fits =
      let a = r.slot.offset.0 + r.slot.suffix in
      let l : a + r.slot.value - a ≡ r.slot.value = omega arith in
      rw (l, length-part v.arena.now a r.slot.value old_inside.parts_in) (omega (arith, old_inside.out_holds))

  pub old_written : {now_out : List ℕ}
      → now_out ≡ put out 0 (take (r.slot.offset.0 + r.slot.suffix + r.slot.value - (r.slot.offset.0 + r.slot.suffix)) (drop (r.slot.offset.0 + r.slot.suffix) v.arena.now))
      → WroteOld t out r.slot.value now_out (leaves_of v)
  old_written e =
      let l : r.slot.offset.0 + r.slot.suffix + r.slot.value - (r.slot.offset.0 + r.slot.suffix) ≡ r.slot.value = omega arith in
      record { size = s.pieces.value_length; written = rw l at e ∙ ap (put out 0) s.pieces.value_is }
