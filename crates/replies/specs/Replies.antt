-- What the replies ask and write: on an index, the text that the model's answer is told by, from a place of the output on.
use Rattle.std.specs.Prelude.{ℕ, ◌+◌, ◌≤◌, None, Some, List, ◌≡◌, length}
use Rattle.answers.specs.Answers.{Wrote}
use Rattle.layout.specs.Lays.{Holds, W}
use Rattle.layout.specs.declared.Header.{Header}
use Rattle.lists.specs.Part.{put}
use Rattle.model.specs.Answers.{Answer, accepted, create_answer, get_answer, get_gt_answer, refused}
use Rattle.model.specs.Leaves.{Node}
use Rattle.order.specs.Bytes.{Bytes}
use Rattle.replies.specs.Texts.{get_text, new_text, next_text}
use Rattle.replies.specs.declared.Opened.{Opened}
use Rattle.tree_create.specs.Outcomes.{MadeFresh}
use Rattle.tree_range.specs.Outcomes.{key_told}

-- a reply that reads: there is an index, and the output has room for the text
pub record ReadAsked (h : Header) (dir slots arena : List ℕ) (text : List Node → Bytes) (out : Bytes) (at : ℕ) : Type 0 where
  pub index : W h dir slots arena
  pub room : at + length (text index.nodes) ≤ length out

abbrev pub ReadReply : Header → (dir slots arena : List ℕ) → (text : List Node → Bytes) → (out : Bytes) → (at : ℕ) → (now_out : Bytes) → (r : ℕ) → Type 0
ReadReply h dir slots arena text out at now_out r = (w : W h dir slots arena) → Wrote out now_out at (text w.nodes) r

abbrev pub get_said : Bytes → List Node → Bytes
get_said k ns = get_text (get_answer k ns)

-- with a buffer of so many bytes for the found key, which is at its front then
abbrev pub next_said : Bytes → (found : ℕ) → List Node → Bytes
next_said k found ns = next_text (get_gt_answer k found ns)

pub record NextReply (h : Header) (dir slots arena : List ℕ) (k found out : Bytes) (at : ℕ) (now_found now_out : Bytes) (r : ℕ) : Type 0 where
  pub said : ReadReply h dir slots arena (next_said k (length found)) out at now_out r
  pub found_is : (w : W h dir slots arena) → now_found ≡ put found 0 (key_told (get_gt_answer k (length found) w.nodes))

-- `new`: a fresh index, or the buffers as they were

abbrev pub made : Header → (place : ℕ) → Opened
made h place = record { header = Some h; at = place }

abbrev pub kept : (place : ℕ) → Opened
kept place = record { header = None; at = place }

abbrev pub new_said : (fanout : ℕ) (dir slots arena : List ℕ) → Bytes
new_said fanout dir slots arena = new_text (create_answer fanout (length dir) (length slots) (length arena))

pub record Fresh (fanout : ℕ) (dir slots arena out : List ℕ) (at : ℕ) (ns : List Node) (now_dir now_slots now_out : List ℕ) (r : Opened) : Type 0 where
  pub header : Header
  pub place : ℕ
  pub is : r ≡ made header place
  pub wrote : Wrote out now_out at (new_said fanout dir slots arena) place
  pub fresh : MadeFresh fanout dir slots now_dir now_slots header
  pub holds : Holds header now_dir now_slots arena ns

pub record Unopened (fanout : ℕ) (dir slots arena out : List ℕ) (at : ℕ) (now_dir now_slots now_out : List ℕ) (r : Opened) : Type 0 where
  pub place : ℕ
  pub is : r ≡ kept place
  pub wrote : Wrote out now_out at (new_said fanout dir slots arena) place
  pub dir_is : now_dir ≡ dir
  pub slots_are : now_slots ≡ slots

abbrev pub NewReply : Answer (List Node) → (fanout : ℕ) (dir slots arena out : List ℕ) (at : ℕ) (now_dir now_slots now_out : List ℕ) → Opened → Type 0
NewReply (refused x) fanout dir slots arena out at now_dir now_slots now_out r = Unopened fanout dir slots arena out at now_dir now_slots now_out r
NewReply (accepted ns) fanout dir slots arena out at now_dir now_slots now_out r = Fresh fanout dir slots arena out at ns now_dir now_slots now_out r
