-- The script program, byte by byte: what stands between two bytes, and what the lines of a piece of input leave in the program's buffers.
use Rattle.std.specs.Prelude.{ℕ, ◌+◌, ◌-◌, ◌≤◌, ◌<◌, List, [], ◌∷◌, ◌++◌, ◌≡◌, length}
use Rattle.std.proofs.Math.Option.{Option}
use Rattle.answers.specs.Answers.{Wrote}
use Rattle.feed.specs.Feeds.{Keeps}
use Rattle.lines.specs.Grammar.{Command}
use Rattle.lists.specs.Part.{part}
use Rattle.order.specs.Bytes.{Bytes}
use Rattle.session.specs.Session.{Carries, Sized, Tells, answer_limit}
use Rattle.session.specs.Turns.{State, line_turn}
use Rattle.session.specs.declared.take.Fed.{Fed}

-- The input's bytes, with `held` the bytes of the present line so far, give the text; then `state` stands, and `rest` is the present line so far.
-- At a newline (10) the line is answered; any other byte is one more of the line.
pub data Feeds : (z : State) (held input text : Bytes) (state : State) (rest : Bytes) → Type 0 where
  done : {z : State} {held : Bytes} → Feeds z held [] [] z held
  byte : {z state : State} {held input text rest : Bytes} {b : ℕ} → (b ≡ 10 → ⊥)
      → Feeds z (held ++ (b ∷ [])) input text state rest → Feeds z held (b ∷ input) text state rest
  newline : {z state : State} {held input text rest : Bytes} {b : ℕ} (c : Option Command) → b ≡ 10 → Tells held c
      → Feeds (line_turn z c).state [] input text state rest → Feeds z held (b ∷ input) ((line_turn z c).text ++ text) state rest

-- the input was fed: its text is behind `at`, and the buffers are as it leaves them
pub record Takes (z : State) (held input : Bytes) (out : List ℕ) (at : ℕ) (r : Fed) (now_dir now_slots now_arena now_line now_out : List ℕ) : Type 0 where
  pub text : Bytes
  pub state : State
  pub rest : Bytes
  pub feeds : Feeds z held input text state rest
  pub wrote : Wrote out now_out at text r.at
  pub carries : Carries state r.session now_dir now_slots now_arena
  pub keeps : Keeps now_line r.held rest

-- the line buffer: a byte more than the longest line
unfoldable pub line_room : ℕ
line_room = 4097

pub record Asked (f : Fed) (dir slots arena line key value old out : List ℕ) : Type 0 where
  pub sized : Sized dir slots arena key value old
  pub line_long : length line ≡ line_room
  pub state : State
  pub carries : Carries state f.session dir slots arena
  pub bytes : Bytes
  pub keeps : Keeps line f.held bytes
  pub written : f.at ≤ length out

-- for whatever stood, and whatever the line was so far
pub record Taken (f : Fed) (dir slots arena piece line out : List ℕ) (r : Fed) (now_dir now_slots now_arena now_line now_out : List ℕ) : Type 0 where
  pub onward : f.next ≤ r.next
  pub within : r.next ≤ length piece
  pub took : (z : State) (held : Bytes) → Carries z f.session dir slots arena → Keeps line f.held held
      → Takes z held (part piece f.next (r.next - f.next)) out f.at r now_dir now_slots now_arena now_line now_out
  pub written : r.at ≤ length out
  pub sizes : (key value old : List ℕ) → Sized dir slots arena key value old → Sized now_dir now_slots now_arena key value old

-- one line, or what the piece has of it

pub record LineAsked (f : Fed) (dir slots arena piece line key value old out : List ℕ) : Type 0 where
  pub asked : Asked f dir slots arena line key value old out
  pub more : f.next < length piece
  pub room : f.at + answer_limit ≤ length out

pub record LineTaken (f : Fed) (dir slots arena piece line out : List ℕ) (r : Fed) (now_dir now_slots now_arena now_line now_out : List ℕ) : Type 0 where
  pub taken : Taken f dir slots arena piece line out r now_dir now_slots now_arena now_line now_out
  pub further : f.next < r.next

-- as many lines as there is room for

pub record LinesAsked (f : Fed) (dir slots arena piece line key value old out : List ℕ) : Type 0 where
  pub asked : Asked f dir slots arena line key value old out
  pub within : f.next ≤ length piece

pub record LinesTaken (f : Fed) (dir slots arena piece line out : List ℕ) (r : Fed) (now_dir now_slots now_arena now_line now_out : List ℕ) : Type 0 where
  pub taken : Taken f dir slots arena piece line out r now_dir now_slots now_arena now_line now_out
  pub further : f.next < length piece → f.at + answer_limit ≤ length out → f.next < r.next
  pub stopped : r.next < length piece → length out < r.at + answer_limit
