-- What the functions under `reply` ask and leave: on an index that has all of the lent buffers, what the turn of the line says.
use Rattle.std.specs.Prelude.{ℕ, ◌+◌, ◌*◌, ◌≤◌, None, Some, Ok, Err, List, ◌≡◌, length, take}
use Rattle.std.proofs.Common as rust
use Rattle.std.proofs.Math.Option.{Option, none, some}
use Rattle.answers.specs.Answers.{Wrote, answered}
use Rattle.answers.specs.Answers as said
use Rattle.layout.specs.Lays.{Holds}
use Rattle.layout.specs.declared.Header.{Header}
use Rattle.lines.specs.Grammar.{Command}
use Rattle.lines.specs.Grammar.Command.{dels, gets, makes, nexts, puts, shows}
use Rattle.lines.specs.declared.Line.{Line}
use Rattle.lines.specs.declared.Line.TheVariants.{Del, Get, Leaves, New, Next, Put}
use Rattle.model.specs.Good.{Good, limits}
use Rattle.model.specs.Leaves.{Node}
use Rattle.model.specs.declared.Refusal.{Refusal}
use Rattle.order.specs.Bytes.{Bytes}
use Rattle.session.specs.Session.{Carries, Untouched, answer_limit}
use Rattle.replies.specs.Texts.{refusal_text}
use Rattle.session.specs.Turns.{Idle, State, Turn, arena_ceiling, fanout_ceiling, line_turn, output_room, pool_ceiling}
use Rattle.session.specs.Turns.State.{closed, opened}
use Rattle.session.specs.declared.Open.{Open}
use Rattle.session.specs.declared.Replied.{Replied}
use Rattle.session.specs.declared.Served.{Served}
use Rattle.session.specs.declared.Session.{Session}

abbrev pub holding : Open → Session
holding s = record { index = Some s }

abbrev pub has_index : Header → (pool arena : ℕ) → Session
has_index h p a = holding (record { header = h; pool = p; arena = a })

-- the index has all of the lent buffers, within the ceilings
pub record Stands (f p a : ℕ) (ns : List Node) (h : Header) (dir slots arena : List ℕ) : Type 0 where
  pub fanout_is : h.fanout ≡ f
  pub pool_is : length dir ≡ p
  pub arena_is : length arena ≡ a
  pub fanout_most : f ≤ fanout_ceiling
  pub pool_most : p ≤ pool_ceiling
  pub arena_most : a ≤ arena_ceiling
  pub holds : Holds h dir slots arena ns
  pub good : Good (limits f) p a ns

abbrev pub StandsIn : State → Header → (dir slots arena : List ℕ) → Type 0
StandsIn closed h dir slots arena = ⊥
StandsIn (opened f p a ns) h dir slots arena = Stands f p a ns h dir slots arena

pub record Standing (h : Header) (dir slots arena : List ℕ) : Type 0 where
  pub nodes : List Node
  pub stands : Stands h.fanout (length dir) (length arena) nodes h dir slots arena

-- the output has room for any answer, `old` is the program's buffer for an old value or a found key
pub record ServeAsked (h : Header) (dir slots arena old out : List ℕ) (at : ℕ) : Type 0 where
  pub standing : Standing h dir slots arena
  pub old_long : length old ≡ output_room
  pub room : at + answer_limit ≤ length out

-- header and buffers as they were
pub record Unmoved (h : Header) (dir slots arena : List ℕ) (r : Header) (now_dir now_slots now_arena : List ℕ) : Type 0 where
  pub header_is : r ≡ h
  pub dir_is : now_dir ≡ dir
  pub slots_are : now_slots ≡ slots
  pub arena_is : now_arena ≡ arena

pub record Serves (t : Turn) (idle : Type 0) (h : Header) (dir slots arena : List ℕ) (out : Bytes) (at : ℕ) (r : Served) (now_dir now_slots now_arena now_out : List ℕ) : Type 0 where
  pub wrote : Wrote out now_out at t.text r.at
  pub stands : StandsIn t.state r.header now_dir now_slots now_arena
  pub kept : idle → Unmoved h dir slots arena r.header now_dir now_slots now_arena

-- the turn of a command, or of none, on whatever index stands
abbrev pub ServedBy : Option Command → Header → (dir slots arena : List ℕ) (out : Bytes) (at : ℕ) → Served → (now_dir now_slots now_arena now_out : List ℕ) → Type 0
ServedBy c h dir slots arena out at r now_dir now_slots now_arena now_out =
    (f p a : ℕ) (ns : List Node) → Stands f p a ns h dir slots arena
    → Serves (line_turn (opened f p a ns) c) (Idle (opened f p a ns) c) h dir slots arena out at r now_dir now_slots now_arena now_out

-- what a changing call handed back, its bytes at the front of a buffer

abbrev pub old_said : rust.Result (rust.Option ℕ) Refusal → Bytes → Bytes
old_said (Ok (Some n)) old = answered (said.old (take n old))
old_said (Ok None) old = answered said.none
old_said (Err x) old = refusal_text x

abbrev pub OldWithin : rust.Result (rust.Option ℕ) Refusal → Bytes → Type 0
OldWithin (Ok (Some n)) old = n ≤ length old
OldWithin (Ok None) old = Unit {0}
OldWithin (Err x) old = Unit {0}

pub record ChangeAsked (x : rust.Result (rust.Option ℕ) Refusal) (old out : Bytes) (at : ℕ) : Type 0 where
  pub within : OldWithin x old
  pub room : at + length (old_said x old) ≤ length out

-- the command that `parse` told, its bytes at the front of its buffers

abbrev pub told_command : rust.Option Line → (key value : Bytes) → Option Command
told_command (Some (New s)) key value = some (makes s.fanout s.pool s.arena)
told_command (Some (Put n m)) key value = some (puts (take n key) (take m value))
told_command (Some (Get n)) key value = some (gets (take n key))
told_command (Some (Del n)) key value = some (dels (take n key))
told_command (Some (Next n)) key value = some (nexts (take n key))
told_command (Some Leaves) key value = some shows
told_command None key value = none

abbrev pub LineWithin : Line → (key value : Bytes) → Type 0
LineWithin (New s) key value = Unit {0}
LineWithin (Put n m) key value = (n ≤ length key) × (m ≤ length value)
LineWithin (Get n) key value = n ≤ length key
LineWithin (Del n) key value = n ≤ length key
LineWithin (Next n) key value = n ≤ length key
LineWithin Leaves key value = Unit {0}

-- a line other than `new`
abbrev pub Ordinary : Line → Type 0
Ordinary (New s) = ⊥
Ordinary (Put n m) = Unit {0}
Ordinary (Get n) = Unit {0}
Ordinary (Del n) = Unit {0}
Ordinary (Next n) = Unit {0}
Ordinary Leaves = Unit {0}

pub record LineAsked (h : Header) (dir slots arena : List ℕ) (line : Line) (key value old out : List ℕ) (at : ℕ) : Type 0 where
  pub asked : ServeAsked h dir slots arena old out at
  pub ordinary : Ordinary line
  pub within : LineWithin line key value

-- on the program's own buffers

pub record Replies (t : Turn) (idle : Type 0) (s : Session) (dir slots arena : List ℕ) (out : Bytes) (at : ℕ) (r : Replied) (now_dir now_slots now_arena now_out : List ℕ) : Type 0 where
  pub wrote : Wrote out now_out at t.text r.at
  pub carries : Carries t.state r.session now_dir now_slots now_arena
  pub kept : idle → Untouched s dir slots arena r.session now_dir now_slots now_arena

-- the turn that each state has, for whichever stands, and whether it touches nothing
abbrev pub RepliedBy : (State → Turn) → (State → Type 0) → Session → (dir slots arena : List ℕ) (out : Bytes) (at : ℕ) → Replied → (now_dir now_slots now_arena now_out : List ℕ) → Type 0
RepliedBy t idle s dir slots arena out at r now_dir now_slots now_arena now_out =
    (z : State) → Carries z s dir slots arena → Replies (t z) (idle z) s dir slots arena out at r now_dir now_slots now_arena now_out

-- the buffers that an index has fronts of are as large as the ceilings ask
pub record Ample (dir slots arena : List ℕ) : Type 0 where
  pub dir_long : length dir ≡ pool_ceiling
  pub slots_long : length slots ≡ fanout_ceiling * pool_ceiling
  pub arena_long : length arena ≡ arena_ceiling

pub record NewAsked (dir slots arena out : List ℕ) (at : ℕ) : Type 0 where
  pub ample : Ample dir slots arena
  pub room : at + answer_limit ≤ length out

pub record OpenAsked (s : Open) (dir slots arena : List ℕ) (line : Line) (key value old out : List ℕ) (at : ℕ) : Type 0 where
  pub ample : Ample dir slots arena
  pub state : State
  pub carries : Carries state (holding s) dir slots arena
  pub ordinary : Ordinary line
  pub within : LineWithin line key value
  pub old_long : length old ≡ output_room
  pub room : at + answer_limit ≤ length out

-- `bad line` was answered, and the session is as it was
pub record BadReplied (s : Session) (out : Bytes) (at : ℕ) (r : Replied) (now_out : Bytes) : Type 0 where
  pub session_is : r.session ≡ s
  pub wrote : Wrote out now_out at (answered said.bad) r.at
