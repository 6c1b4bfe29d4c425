-- What `create`, `clear` and `len` answer and leave: the model's answer, told in the calls' own types.
use Rattle.std.proofs.Common.{Result}
use Rattle.std.specs.Prelude.{ℕ, List, [], ◌∷◌, ◌≡◌, length, Ok, Err}
use Rattle.layout.specs.Entry.{Entry}
use Rattle.layout.specs.Examples.{header}
use Rattle.layout.specs.Lays.{Holds}
use Rattle.layout.specs.declared.Header.{Header}
use Rattle.lists.specs.Part.{put}
use Rattle.model.specs.Answers.{Answer, Gives, accepted, answer_code, clear_answer, code_of, create_answer, len_answer, no_refusal, refused, result_code, told}
use Rattle.model.specs.Leaves.{Node}
use Rattle.model.specs.declared.Refusal.{Refusal}
use Rattle.model.specs.declared.Refusal.TheVariants.{Damaged}
use Rattle.tree_create.specs.declared.Answered.{Answered}
use Rattle.words.specs.Words.{directory_word, low_key_slot, low_key_word}

-- L8 in the buffers: the first directory word and the low-key word of leaf 0; every other word as it was
pub record MadeFresh (fanout : ℕ) (dir slots now_dir now_slots : List ℕ) (h : Header) : Type 0 where
  pub header_is : h ≡ header fanout 1 0 0
  pub dir_is : now_dir ≡ put dir 0 (directory_word 0 0 ∷ [])
  pub slots_are : now_slots ≡ put slots (low_key_slot fanout 0) (low_key_word 0 0 ∷ [])

-- refused: the header as said, every lent word as it was
pub record Untouched (x : Refusal) (h : Header) (dir slots now_dir now_slots : List ℕ) (r : Answered) : Type 0 where
  pub answer_is : r.answer ≡ Err x
  pub code_is : result_code r.answer ≡ code_of x
  pub header_is : r.header ≡ h
  pub dir_is : now_dir ≡ dir
  pub slots_are : now_slots ≡ slots

-- accepted: fresh buffers, and they hold the leaf list
pub record Freshened (fanout : ℕ) (dir slots arena now_dir now_slots : List ℕ) (ns : List Node) (r : Answered) : Type 0 where
  pub answer_is : r.answer ≡ Ok tt
  pub code_is : result_code r.answer ≡ no_refusal
  pub fresh : MadeFresh fanout dir slots now_dir now_slots r.header
  pub holds : Holds r.header now_dir now_slots arena ns

-- by the model's answer; h is what a refusal hands back
abbrev pub FreshBy : Answer (List Node) → (fanout : ℕ) → Header → (dir slots arena now_dir now_slots : List ℕ) → Answered → Type 0
FreshBy (refused x) fanout h dir slots arena now_dir now_slots r = Untouched x h dir slots now_dir now_slots r
FreshBy (accepted ns) fanout h dir slots arena now_dir now_slots r = Freshened fanout dir slots arena now_dir now_slots ns r

-- refused as 1, creation hands back a header of zeros
abbrev pub CreateOutcome : (fanout : ℕ) (dir slots arena now_dir now_slots : List ℕ) → Answered → Type 0
CreateOutcome fanout dir slots arena now_dir now_slots r =
    FreshBy (create_answer fanout (length dir) (length slots) (length arena)) fanout (header 0 0 0 0) dir slots arena now_dir now_slots r

abbrev pub ClearOutcome : Header → (dir slots arena now_dir now_slots : List ℕ) → Answered → Type 0
ClearOutcome h dir slots arena now_dir now_slots r =
    Entry h dir slots arena (Untouched Damaged h dir slots now_dir now_slots r)
    (λ ns. FreshBy (clear_answer ns) h.fanout h dir slots arena now_dir now_slots r)

abbrev pub LenOutcome : Header → (dir slots arena : List ℕ) → Result ℕ Refusal → Type 0
LenOutcome h dir slots arena r =
    Entry h dir slots arena (Gives result_code (Err Damaged) (code_of Damaged) r) (λ ns. Gives result_code (told (λ n. n) (len_answer ns)) (answer_code (len_answer ns)) r)
