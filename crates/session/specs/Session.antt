-- What one line's answer asks and leaves in the program's buffers.
use Rattle.std.specs.Prelude.{ℕ, ◌+◌, ◌*◌, ◌≤◌, None, Some, List, ◌≡◌, length, take}
use Rattle.std.proofs.Common as rust
use Rattle.std.proofs.Math.Option.{Option, none, some}
use Rattle.answers.specs.Answers.{Wrote}
use Rattle.layout.specs.Lays.{Holds}
use Rattle.lines.specs.Grammar.{Command, Says}
use Rattle.model.specs.Good.{Good, limits}
use Rattle.model.specs.Leaves.{Node}
use Rattle.order.specs.Bytes.{Bytes}
use Rattle.session.specs.Turns.{Idle, State, arena_ceiling, closed, fanout_ceiling, line_turn, opened, output_room, pool_ceiling}
use Rattle.session.specs.declared.Open.{Open}
use Rattle.session.specs.declared.Replied.{Replied}
use Rattle.session.specs.declared.Session.{Session}

-- the line says the command, or says none
abbrev pub Tells : (line : Bytes) → Option Command → Type 0
Tells line none = (c : Command) → Says line c → ⊥
Tells line (some c) = Says line c

-- the index has the fronts of the buffers, at its own sizes
pub record Fronts (f p a : ℕ) (ns : List Node) (s : Open) (dir slots arena : List ℕ) : Type 0 where
  pub fanout_is : s.header.fanout ≡ f
  pub pool_is : s.pool ≡ p
  pub arena_is : s.arena ≡ a
  pub fanout_most : f ≤ fanout_ceiling
  pub pool_most : p ≤ pool_ceiling
  pub arena_most : a ≤ arena_ceiling
  pub holds : Holds s.header (take p dir) (take (f * p) slots) (take a arena) ns
  pub good : Good (limits f) p a ns

-- before the first accepted `new`
abbrev pub no_index : Session
no_index = record { index = None }

abbrev pub FrontsIn : (f p a : ℕ) → List Node → rust.Option Open → (dir slots arena : List ℕ) → Type 0
FrontsIn f p a ns (Some s) dir slots arena = Fronts f p a ns s dir slots arena
FrontsIn f p a ns None dir slots arena = ⊥

abbrev pub Carries : State → Session → (dir slots arena : List ℕ) → Type 0
Carries closed s dir slots arena = s ≡ no_index
Carries (opened f p a ns) s dir slots arena = FrontsIn f p a ns s.index dir slots arena

-- the program's buffers: as large as its ceilings ask
pub record Sized (dir slots arena key value old : List ℕ) : Type 0 where
  pub dir_long : length dir ≡ pool_ceiling
  pub slots_long : length slots ≡ fanout_ceiling * pool_ceiling
  pub arena_long : length arena ≡ arena_ceiling
  pub key_long : length key ≡ 2048
  pub value_long : length value ≡ 2048
  pub old_long : length old ≡ output_room

-- the most that one line's answer takes
unfoldable pub answer_limit : ℕ
answer_limit = 133120

pub record ReplyAsked (s : Session) (dir slots arena key value old out : List ℕ) (at : ℕ) : Type 0 where
  pub sized : Sized dir slots arena key value old
  pub state : State
  pub carries : Carries state s dir slots arena
  pub room : at + answer_limit ≤ length out

-- session and buffers as they were
pub record Untouched (s : Session) (dir slots arena : List ℕ) (r : Session) (now_dir now_slots now_arena : List ℕ) : Type 0 where
  pub session_is : r ≡ s
  pub dir_is : now_dir ≡ dir
  pub slots_are : now_slots ≡ slots
  pub arena_is : now_arena ≡ arena

-- for whatever stood, and whatever the line says: that text, and that stands then
pub record ReplyMade (s : Session) (dir slots arena line out : List ℕ) (at : ℕ) (r : Replied) (now_dir now_slots now_arena now_out : List ℕ) : Type 0 where
  pub answered : (z : State) (c : Option Command) → Carries z s dir slots arena → Tells line c → Wrote out now_out at (line_turn z c).text r.at
  pub carried : (z : State) (c : Option Command) → Carries z s dir slots arena → Tells line c → Carries (line_turn z c).state r.session now_dir now_slots now_arena
  pub kept : (z : State) (c : Option Command) → Carries z s dir slots arena → Tells line c → Idle z c
      → Untouched s dir slots arena r.session now_dir now_slots now_arena
  pub behind : r.at ≤ at + answer_limit
  pub said : Option Command
  pub tells : Tells line said
  pub sizes : (key value old : List ℕ) → Sized dir slots arena key value old → Sized now_dir now_slots now_arena key value old
