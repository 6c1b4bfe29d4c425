-- What a changing call's outcome is made of: nothing touched where it is refused, an old value and a step to the next index where it is
-- accepted.
-- Assumes nothing.
use Rattle.std.specs.Prelude.{ℕ, List, ◌≡◌, refl, length, Err, Ok, Some}
use Rattle.std.proofs.Math.Option.{Option, some}
use Rattle.std.proofs.Common.{◌∙◌, ap, sym}
use Rattle.layout.specs.Lays.{W}
use Rattle.layout.specs.Presumed.{Inner, Presumed}
use Rattle.layout.specs.Steps.{Step}
use Rattle.layout.specs.Viewed.{Views, leaves_of, view_held}
use Rattle.layout.specs.declared.Header.{Header}
use Rattle.layout.specs.declared.lent.View.{View}
use Rattle.lists.specs.Part.{put}
use Rattle.model.specs.Leaves.{Node}
use Rattle.model.specs.declared.Refusal.{Refusal}
use Rattle.order.specs.Bytes.{Bytes}
use Rattle.changes.specs.Outcomes.{Kept, Lent, Made, WroteOld, lent, old_bytes, old_told}
use Rattle.changes.specs.declared.Changed.{Changed}
use Rattle.spots.specs.declared.Spot.{Spot}

-- refused

pub kept_all : (x : Refusal) (h : Header) (l : Lent) → Kept x h l (record { header = h; old = Err x }) l
kept_all x h l = record { answer = record { answer_is = refl; code_is = refl }; header_is = refl; dir_is = refl; slots_are = refl; arena_is = refl; out_is = refl }

pub kept_w : {x : Refusal} {h : Header} {before after : Lent} {r : Changed} → Kept x h before r after → W h before.dir before.slots before.arena
    → W r.header after.dir after.slots after.arena
kept_w k w = rw (k.header_is, k.dir_is, k.slots_are, k.arena_is) w

-- accepted, for a key that had a value

pub made_old : {h : Header} {dir slots arena : List ℕ} {asked : List Node → Type 0} {after : List Node → List Node} {r : Header} {now_dir now_slots now_arena : List ℕ}
    → Step h dir slots arena asked after r now_dir now_slots now_arena → {ns : List Node} → Presumed h dir slots arena ns → asked ns
    → {old : Option Bytes} (v : Bytes) → old ≡ some v → {n : ℕ} → n ≡ length v → {out now_out : List ℕ} → now_out ≡ put out 0 v
    → Made (record { old = old; nodes = after ns }) h (lent dir slots arena out) (record { header = r; old = Ok (Some n) }) (lent now_dir now_slots now_arena now_out)
made_old s {ns} x a v f e {out} w = record {
  answer = record { answer_is = ap (λ (i : ℕ). Ok (Some i)) e ∙ ap old_told (sym f); code_is = refl };
  fanout_is = s.fanout_is;
  holds = (s.index ns x a).holds;
  out_is = w ∙ ap (λ (o : Option Bytes). put out 0 (old_bytes o)) (sym f);
  same_dir = s.same_dir;
  same_slots = s.same_slots;
  same_arena = s.same_arena;
}

-- an old value written, told of the header and the buffers that were viewed
pub wrote_told : {h : Header} {dir slots arena : List ℕ} (v : View) → Views v h dir slots arena → {t : Spot} {out : List ℕ} {n : ℕ} {now_out : List ℕ}
    → WroteOld t out n now_out (leaves_of v) → Inner h dir slots arena (WroteOld t out n now_out)
wrote_told v u {t} {out} {n} {now_out} w = view_held (λ h dir slots arena ns. WroteOld t out n now_out ns) v u w
