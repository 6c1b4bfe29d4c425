-- What `insert` and `remove` hand back and leave, by the model's answer: the old value's length or none, the header, every lent buffer.
use Rattle.std.proofs.Common.{Option, Result}
use Rattle.std.specs.Prelude.{ℕ, ◌≤◌, List, [], ◌≡◌, length, Err, None, Ok, Some}
use Rattle.std.proofs.Math.Option.{none, some}
use Rattle.std.proofs.Math.Option as math
use Rattle.layout.specs.Lays.{Holds}
use Rattle.layout.specs.Pieces.{pair_in}
use Rattle.layout.specs.Viewed.{leaves_of}
use Rattle.layout.specs.declared.Header.{Header}
use Rattle.layout.specs.declared.lent.View.{View}
use Rattle.lists.specs.Part.{put}
use Rattle.model.specs.Answers.{Answer, Gives, accepted, code_of, no_refusal, refused, result_code}
use Rattle.model.specs.Answers as model
use Rattle.model.specs.Leaves.{Node}
use Rattle.model.specs.declared.Refusal.{Refusal}
use Rattle.order.specs.Bytes.{Bytes}
use Rattle.changes.specs.declared.Changed.{Changed}
use Rattle.spots.specs.Spots.{SpotIn}
use Rattle.spots.specs.declared.Spot.{Spot}

-- the four lent buffers: directory, slots, arena, output
pub record Lent : Type 0 where
  pub dir : List ℕ
  pub slots : List ℕ
  pub arena : List ℕ
  pub out : List ℕ

abbrev pub lent : (dir slots arena out : List ℕ) → Lent
lent dir slots arena out = record { dir = dir; slots = slots; arena = arena; out = out }

-- an accepted call's answer: the old value's length or none
abbrev pub old_told : math.Option Bytes → Result (Option ℕ) Refusal
old_told none = Ok None
old_told (some v) = Ok (Some (length v))

-- the bytes written to the output
abbrev pub old_bytes : math.Option Bytes → Bytes
old_bytes none = []
old_bytes (some v) = v

-- refused: the header handed back as it came, every lent byte as it was
pub record Kept (x : Refusal) (h : Header) (before : Lent) (r : Changed) (after : Lent) : Type 0 where
  pub answer : Gives result_code (Err x) (code_of x) r.old
  pub header_is : r.header ≡ h
  pub dir_is : after.dir ≡ before.dir
  pub slots_are : after.slots ≡ before.slots
  pub arena_is : after.arena ≡ before.arena
  pub out_is : after.out ≡ before.out

-- accepted: the buffers hold the leaf list, the old value is at the output's front, the rest of the output and the lengths of the other buffers are as they were
pub record Made (c : model.Changed) (h : Header) (before : Lent) (r : Changed) (after : Lent) : Type 0 where
  pub answer : Gives result_code (old_told c.old) no_refusal r.old
  pub fanout_is : r.header.fanout ≡ h.fanout
  pub holds : Holds r.header after.dir after.slots after.arena c.nodes
  pub out_is : after.out ≡ put before.out 0 (old_bytes c.old)
  pub same_dir : length after.dir ≡ length before.dir
  pub same_slots : length after.slots ≡ length before.slots
  pub same_arena : length after.arena ≡ length before.arena

abbrev pub ChangedBy : Answer model.Changed → Header → Lent → Changed → Lent → Type 0
ChangedBy (refused x) h before r after = Kept x h before r after
ChangedBy (accepted c) h before r after = Made c h before r after

-- the value of the pair at a spot written to the output's front

abbrev pub value_in : List Node → Spot → Bytes
value_in ns t = (pair_in ns t.leaf t.slot).value

pub record CanWriteOld (v : View) (t : Spot) (out : List ℕ) : Type 0 where
  pub spot : SpotIn v.header v.dir.now v.slots.now v.arena.now t
  pub fits : length (value_in (leaves_of v) t) ≤ length out

pub record WroteOld (t : Spot) (out : List ℕ) (r : ℕ) (now_out : List ℕ) (ns : List Node) : Type 0 where
  pub size : r ≡ length (value_in ns t)
  pub written : now_out ≡ put out 0 (value_in ns t)
