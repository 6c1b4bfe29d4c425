-- The script program, line by line: what stands between two lines, and what a line does.
use Rattle.std.specs.Prelude.{ℕ, ◌*◌, Bool, cond, true, List, ◌⊎◌, ◌≡◌, ltb}
use Rattle.std.proofs.Math.Option.{Option, none, some}
use Rattle.answers.specs.Answers.{answered, bad}
use Rattle.lines.specs.Grammar.{Command, dels, gets, makes, nexts, puts, shows}
use Rattle.model.specs.Answers.{Answer, Changed, accepted, create_answer, get_answer, get_gt_answer, insert_answer, refused, remove_answer}
use Rattle.model.specs.Leaves.{Node, pairs_of}
use Rattle.model.specs.Map.{lookup}
use Rattle.model.specs.declared.Refusal.TheVariants.{Shape}
use Rattle.order.specs.Bytes.{Bytes}
use Rattle.replies.specs.Texts.{changed_text, get_text, leaves_text, new_text, next_text, refusal_text}

-- the program's own ceilings, and its buffer for an old value or a found key

unfoldable pub fanout_ceiling : ℕ
fanout_ceiling = 64

unfoldable pub pool_ceiling : ℕ
pool_ceiling = 64

unfoldable pub arena_ceiling : ℕ
arena_ceiling = 16384

unfoldable pub output_room : ℕ
output_room = 65536

-- no index yet, or one of these sizes with this leaf list
pub data State : Type 0 where
  closed : State
  opened : (fanout pool arena : ℕ) (ns : List Node) → State

-- what a line gives: the text of its answer, and what stands then
pub record Turn : Type 0 where
  pub text : Bytes
  pub state : State

abbrev pub turn : Bytes → State → Turn
turn t s = record { text = t; state = s }

-- `new`: above a ceiling it is refused as 1; refused, it leaves what stands

abbrev pub above : (fanout pool arena : ℕ) → Bool
above f p a = cond (ltb fanout_ceiling f) true (cond (ltb pool_ceiling p) true (ltb arena_ceiling a))

abbrev pub open_turn : State → (fanout pool arena : ℕ) → Answer (List Node) → Turn
open_turn s f p a (refused x) = turn (refusal_text x) s
open_turn s f p a (accepted ns) = turn (new_text (accepted ns)) (opened f p a ns)

abbrev pub new_turn : State → (fanout pool arena : ℕ) → Turn
new_turn s f p a = cond (above f p a) (turn (refusal_text Shape) s) (open_turn s f p a (create_answer f p (f * p) a))

-- `put` and `del`

abbrev pub nodes_after : List Node → Answer Changed → List Node
nodes_after ns (refused x) = ns
nodes_after ns (accepted c) = c.nodes

abbrev pub change_turn : (fanout pool arena : ℕ) → List Node → Answer Changed → Turn
change_turn f p a ns m = turn (changed_text m) (opened f p a (nodes_after ns m))

-- a command other than `new`, on an index
abbrev pub serve_turn : (fanout pool arena : ℕ) → List Node → Command → Turn
serve_turn f p a ns (makes g q b) = new_turn (opened f p a ns) g q b
serve_turn f p a ns (puts k v) = change_turn f p a ns (insert_answer f p a k v output_room ns)
serve_turn f p a ns (gets k) = turn (get_text (get_answer k ns)) (opened f p a ns)
serve_turn f p a ns (dels k) = change_turn f p a ns (remove_answer true k output_room ns)
serve_turn f p a ns (nexts k) = turn (next_text (get_gt_answer k output_room ns)) (opened f p a ns)
serve_turn f p a ns shows = turn (leaves_text ns) (opened f p a ns)

abbrev pub closed_turn : Command → Turn
closed_turn (makes g q b) = new_turn closed g q b
closed_turn (puts k v) = turn (answered bad) closed
closed_turn (gets k) = turn (answered bad) closed
closed_turn (dels k) = turn (answered bad) closed
closed_turn (nexts k) = turn (answered bad) closed
closed_turn shows = turn (answered bad) closed

-- a line that says a command, or none
abbrev pub line_turn : State → Option Command → Turn
line_turn s none = turn (answered bad) s
line_turn closed (some c) = closed_turn c
line_turn (opened f p a ns) (some c) = serve_turn f p a ns c

-- A line that touches nothing: it says no command, or one that reads, or one that is refused, or a `del` of a key that is not there; and, where
-- there is no index, any but an accepted `new`.

abbrev pub Refuses : {A : Type 0} → Answer A → Type 0
Refuses (refused x) = Unit {0}
Refuses (accepted y) = ⊥

abbrev pub NewIdle : (fanout pool arena : ℕ) → Type 0
NewIdle f p a = (above f p a ≡ true) ⊎ Refuses (create_answer f p (f * p) a)

abbrev pub serve_idle : (fanout pool arena : ℕ) → List Node → Command → Type 0
serve_idle f p a ns (makes g q b) = NewIdle g q b
serve_idle f p a ns (puts k v) = Refuses (insert_answer f p a k v output_room ns)
serve_idle f p a ns (gets k) = Unit {0}
serve_idle f p a ns (dels k) = Refuses (remove_answer true k output_room ns) ⊎ (lookup k (pairs_of ns) ≡ none)
serve_idle f p a ns (nexts k) = Unit {0}
serve_idle f p a ns shows = Unit {0}

abbrev pub closed_idle : Command → Type 0
closed_idle (makes g q b) = NewIdle g q b
closed_idle (puts k v) = Unit {0}
closed_idle (gets k) = Unit {0}
closed_idle (dels k) = Unit {0}
closed_idle (nexts k) = Unit {0}
closed_idle shows = Unit {0}

abbrev pub Idle : State → Option Command → Type 0
Idle s none = Unit {0}
Idle closed (some c) = closed_idle c
Idle (opened f p a ns) (some c) = serve_idle f p a ns c
