-- A leaf takes over the next one's slot words: what is asked, the whole buffers at exit, and the leaf list they lay out then.
use Rattle.std.specs.Prelude.{ℕ, ◌+◌, ◌-◌, ◌≤◌, ◌<◌, suc, List, ◌∷◌, ◌++◌, ◌≡◌, length, take}
use Rattle.directory.specs.Used.{lent, used_from, used_to, word_at}
use Rattle.layout.specs.Around.{LaysAround}
use Rattle.layout.specs.Regions.{Owns}
use Rattle.lists.specs.Part.{part, put}
use Rattle.model.specs.Leaves.{Node, with_pairs}
use Rattle.words.specs.Words.{directory_word, first_slot, word_count, word_leaf}

-- the leaf list seen from its j-th leaf n: the next, m, has its pairs behind a prefix of n's low key
pub record Takes (fanout leaves : ℕ) (dir slots arena : List ℕ) (j : ℕ) (qs : List ℕ) (p q : ℕ) (rs : List ℕ) (l : List Node) (n m : Node) (r : List Node) : Type 0 where
  pub used : leaves ≤ length dir
  pub next : suc j < leaves
  pub lays : LaysAround (lent fanout slots arena) (used_to dir leaves j) (word_at dir j) (word_at dir (suc j) ∷ used_from dir leaves (suc (suc j))) qs p (q ∷ rs) l n (m ∷ r)
  pub owns : Owns (lent fanout slots arena) (used_to dir leaves j) (word_at dir j) (word_at dir (suc j) ∷ used_from dir leaves (suc (suc j)))
  pub next_inside : first_slot fanout (word_leaf (word_at dir (suc j))) + fanout ≤ length slots
  pub prefix : take q n.low ≡ take q m.low

pub record CanTakeOver (fanout leaves : ℕ) (dir slots : List ℕ) (j : ℕ) : Type 0 where
  pub arena : List ℕ
  pub qs : List ℕ
  pub p : ℕ
  pub q : ℕ
  pub rs : List ℕ
  pub l : List Node
  pub n : Node
  pub m : Node
  pub r : List Node
  pub takes : Takes fanout leaves dir slots arena j qs p q rs l n m r

-- the j-th leaf's word then: its number, the next one's count
abbrev pub taken_word : (dir : List ℕ) (j : ℕ) → ℕ
taken_word dir j = directory_word (word_leaf (word_at dir j)) (word_count (word_at dir (suc j)))

-- the used words, one fewer; and the leaf list seen from the leaf that took over
pub record TakenList (fanout leaves : ℕ) (dir : List ℕ) (j : ℕ) (exit_dir exit_slots arena qs : List ℕ) (q : ℕ) (rs : List ℕ) (l : List Node) (n m : Node) (r : List Node) : Type 0 where
  pub used : take (leaves - 1) exit_dir ≡ used_to dir leaves j ++ (taken_word dir j ∷ used_from dir leaves (suc (suc j)))
  pub lays : LaysAround (lent fanout exit_slots arena) (used_to dir leaves j) (taken_word dir j) (used_from dir leaves (suc (suc j))) qs q rs l (with_pairs n m.pairs) r
  pub owns : Owns (lent fanout exit_slots arena) (used_to dir leaves j) (taken_word dir j) (used_from dir leaves (suc (suc j)))

pub record TakenOver (fanout leaves : ℕ) (dir slots : List ℕ) (j : ℕ) (exit_dir exit_slots : List ℕ) : Type 0 where
  pub dir_is : exit_dir ≡ put dir j (taken_word dir j ∷ part dir (j + 2) (leaves - (j + 2)))
  pub slots_are :
      exit_slots
      ≡ put slots (first_slot fanout (word_leaf (word_at dir j)))
      (part slots (first_slot fanout (word_leaf (word_at dir (suc j)))) (word_count (word_at dir (suc j))))
  pub taken : {arena qs : List ℕ} {p q : ℕ} {rs : List ℕ} {l : List Node} {n m : Node} {r : List Node} → Takes fanout leaves dir slots arena j qs p q rs l n m r
      → TakenList fanout leaves dir j exit_dir exit_slots arena qs q rs l n m r
