-- A whole run of the script program, and what goes on from one piece of input to the next. Which bytes the system gives and takes no contract says.
use Rattle.std.specs.Prelude.{ℕ, suc, zero, min, ◌≤◌, ◌<◌, Bool, false, not, true, List, [], ◌∷◌, ◌++◌, ◌≡◌, length, take, Result, Ok, Err}
use Rattle.std.proofs.Math.Option.{Option}
use Rattle.std.specs.Io.{ReadsAtMost}
use Rattle.std.specs.declared.io.Error.{Error}
use Rattle.feed.specs.Feeds.{Keeps}
use Rattle.lines.specs.Grammar.{Command}
use Rattle.lists.specs.Part.{put}
use Rattle.order.specs.Bytes.{Bytes}
use Rattle.session.specs.Session.{Carries, Sized, Tells}
use Rattle.session.specs.Takes.{Feeds, LinesAsked, LinesTaken, line_room}
use Rattle.session.specs.Turns.{State, closed, line_turn}
use Rattle.session.specs.declared.take.Fed.{Fed}
use Rattle.script.specs.declared.Carried.{Carried}
use Rattle.script.specs.declared.Input.{Input}
use Rattle.script.specs.declared.Input.TheVariants.{Ended, Failed, More}
use Rattle.script.specs.declared.Reads.{Reads}

-- a last line without a newline counts as a line; an input that ends behind a newline has none

pub record LastLine (z : State) (line text : Bytes) : Type 0 where
  pub said : Option Command
  pub tells : Tells line said
  pub text_is : text ≡ (line_turn z said).text

abbrev pub Ending : State → (rest text : Bytes) → Type 0
Ending z [] text = text ≡ []
Ending z (b ∷ rest) text = LastLine z (b ∷ rest) text

-- What `main` ought to do: the input is fed from nothing on, and then its last line is answered. No contract can say that it does, since none says
-- which bytes are read and written: the functions below say it of the bytes that they are handed.
pub record Runs (input text : Bytes) : Type 0 where
  pub lines : Bytes
  pub state : State
  pub rest : Bytes
  pub feeds : Feeds closed [] input lines state rest
  pub last : Bytes
  pub ending : Ending state rest last
  pub text_is : text ≡ lines ++ last

-- what a write may be handed: the text of some input, from whatever stood and whatever the line was so far
pub record Due (text : Bytes) : Type 0 where
  pub before : State
  pub held : Bytes
  pub fed : Bytes
  pub after : State
  pub rest : Bytes
  pub feeds : Feeds before held fed text after rest

-- a session that takes a piece from `next` on, with an empty output
abbrev pub begun : Carried → ℕ → Fed
begun c next = record { session = c.session; next = next; held = c.held; at = 0 }

-- what `take_lines` left of a piece of which there was more: the output's first `at` bytes are the text of what it took
pub record Filled (f : Fed) (out : List ℕ) : Type 0 where
  pub c : Carried
  pub next : ℕ
  pub piece : Bytes
  pub more : next < length piece
  pub dir : List ℕ
  pub slots : List ℕ
  pub arena : List ℕ
  pub line : List ℕ
  pub key : List ℕ
  pub value : List ℕ
  pub old : List ℕ
  pub before : List ℕ
  pub now_dir : List ℕ
  pub now_slots : List ℕ
  pub now_arena : List ℕ
  pub now_line : List ℕ
  pub asked : LinesAsked (begun c next) dir slots arena piece line key value old before
  pub taken : LinesTaken (begun c next) dir slots arena piece line before f now_dir now_slots now_arena now_line out

-- more input may come

abbrev pub is_more : Input → Bool
is_more More = true
is_more Ended = false
is_more Failed = false

-- none does, since a read or a write failed
abbrev pub has_failed : Input → Bool
has_failed More = false
has_failed Ended = false
has_failed Failed = true

-- no more input comes

abbrev pub stopped : (failed : Bool) → Input
stopped false = Ended
stopped true = Failed

abbrev pub ended : Carried → (failed : Bool) → Carried
ended c failed = record { session = c.session; held = c.held; input = stopped failed }

-- the input ends here exactly where a write is said to have failed
pub record Kept (f : Fed) (r : Carried) : Type 0 where
  pub session_is : r.session ≡ f.session
  pub held_is : r.held ≡ f.held
  pub failed_is : has_failed r.input ≡ not (is_more r.input)

-- the output buffer: the room for an answer, twice
unfoldable pub output_length : ℕ
output_length = 266240

pub record Room (dir slots arena line key value old out : List ℕ) : Type 0 where
  pub sized : Sized dir slots arena key value old
  pub line_long : length line ≡ line_room
  pub out_long : length out ≡ output_length

pub record Ready (c : Carried) (dir slots arena line key value old out : List ℕ) : Type 0 where
  pub room : Room dir slots arena line key value old out
  pub state : State
  pub carries : Carries state c.session dir slots arena
  pub bytes : Bytes
  pub keeps : Keeps line c.held bytes

-- the piece was fed, or, where the answers could not be written, a part of it
pub record Went (z : State) (held piece : Bytes) (r : Carried) (now_dir now_slots now_arena now_line : List ℕ) : Type 0 where
  pub taken : ℕ
  pub text : Bytes
  pub state : State
  pub rest : Bytes
  pub within : taken ≤ length piece
  pub whole : is_more r.input ≡ true → taken ≡ length piece
  pub feeds : Feeds z held (take taken piece) text state rest
  pub carries : Carries state r.session now_dir now_slots now_arena
  pub keeps : Keeps now_line r.held rest

pub record Answered (c : Carried) (dir slots arena line piece : List ℕ) (r : Carried) (now_dir now_slots now_arena now_line : List ℕ) : Type 0 where
  pub went : (z : State) (held : Bytes) → Carries z c.session dir slots arena → Keeps line c.held held
      → Went z held piece r now_dir now_slots now_arena now_line
  pub failed_is : is_more c.input ≡ true → has_failed c.input ≡ false → has_failed r.input ≡ not (is_more r.input)

-- what stands and what is held are as they were, and no more input comes
pub record Over (c : Carried) (failed : Bool) (dir slots arena line : List ℕ) (r : Carried) (now_dir now_slots now_arena now_line : List ℕ) : Type 0 where
  pub is : r ≡ ended c failed
  pub dir_is : now_dir ≡ dir
  pub slots_are : now_slots ≡ slots
  pub arena_is : now_arena ≡ arena
  pub line_is : now_line ≡ line

-- what a read answered: no bytes at the input's end, an error for a failure, else how many bytes are at the input buffer's front
abbrev pub Got : Result ℕ Error → Carried → (dir slots arena line input : List ℕ) → Carried → (now_dir now_slots now_arena now_line : List ℕ) → Type 0
Got (Ok zero) c dir slots arena line input r now_dir now_slots now_arena now_line = Over c false dir slots arena line r now_dir now_slots now_arena now_line
Got (Ok (suc n)) c dir slots arena line input r now_dir now_slots now_arena now_line =
    Answered c dir slots arena line (take (min (suc n) (length input)) input) r now_dir now_slots now_arena now_line
Got (Err e) c dir slots arena line input r now_dir now_slots now_arena now_line = Over c true dir slots arena line r now_dir now_slots now_arena now_line

-- whatever the read answered, and left in the input buffer
pub record Stepped (c : Carried) (dir slots arena line input : List ℕ) (r : Carried) (now_dir now_slots now_arena now_line now_input : List ℕ) : Type 0 where
  pub got : Result ℕ Error
  pub moved : ReadsAtMost got input
  pub answered : Got got c dir slots arena line now_input r now_dir now_slots now_arena now_line

-- what some input leads to, fed from nothing on
pub record Led (c : Carried) (dir slots arena line key value old out : List ℕ) : Type 0 where
  pub room : Room dir slots arena line key value old out
  pub fed : Bytes
  pub text : Bytes
  pub state : State
  pub rest : Bytes
  pub feeds : Feeds closed [] fed text state rest
  pub carries : Carries state c.session dir slots arena
  pub keeps : Keeps line c.held rest
  pub unfailed : is_more c.input ≡ true → has_failed c.input ≡ false

-- usize::MAX
unfoldable pub turn_limit : ℕ
turn_limit = 18446744073709551615

-- no more comes, unless the turns ran out
pub record AllRead (r : Reads) (dir slots arena line key value old out : List ℕ) : Type 0 where
  pub led : Led r.carried dir slots arena line key value old out
  pub all : is_more r.carried.input ≡ true → r.turns ≡ turn_limit

-- the answer to a last line without a newline is at the output's front; where a read or a write failed, there is none
pub record Last (c : Carried) (dir slots arena line out now_out : List ℕ) : Type 0 where
  pub none_held : c.held ≡ 0 → now_out ≡ out
  pub failed : has_failed c.input ≡ true → now_out ≡ out
  pub answered : (z : State) (held : Bytes) (said : Option Command) → Carries z c.session dir slots arena → Keeps line c.held held → Tells held said
      → (c.held ≡ 0 → ⊥) → has_failed c.input ≡ false → now_out ≡ put out 0 (line_turn z said).text
