-- L7: an empty leaf takes over the next one's pairs, whose suffixes regain what the shorter prefix no longer covers. What is asked of the buffers, the
-- whole buffers at exit, and the leaf list they lay out then.
use Rattle.std.specs.Prelude.{ℕ, ◌+◌, ◌-◌, ◌*◌, ◌^◌, ◌≤◌, ◌<◌, suc, List, [], ◌∷◌, ◌++◌, ◌≡◌, length, take}
use Rattle.directory.specs.Takes.{TakenList, taken_word}
use Rattle.directory.specs.Used.{lent, used_from, used_to, word_at}
use Rattle.layout.specs.Around.{LaysAround}
use Rattle.layout.specs.Frames.{WordsIn}
use Rattle.layout.specs.Order.{leaf_words, words_of}
use Rattle.layout.specs.Regions.{Owns}
use Rattle.lists.specs.All.{All}
use Rattle.lists.specs.Part.{part, put}
use Rattle.model.specs.Leaves.{Node}
use Rattle.regrow.specs.Regrow.{low_word_at, regrown_arena, regrown_slots, regrown_words, words_at}
use Rattle.words.specs.Words.{first_slot, word_count, word_leaf, word_offset, word_suffix}

-- where the low key of the directory word d's leaf goes on after its first `kept` bytes
abbrev pub low_from : (fanout : ℕ) (slots : List ℕ) (d kept : ℕ) → ℕ
low_from fanout slots d kept = word_offset (low_word_at fanout slots d) + kept

-- the leaf list seen from its j-th leaf n, which is empty. The next, m, has its pairs behind q bytes of its low key; the first `kept` of these are n's too.
-- Its last part ends at or before `top`, and behind that is room for the other q - kept bytes to each of its pairs
pub record Merges (fanout leaves : ℕ) (dir slots arena : List ℕ) (j q kept top : ℕ) (qs : List ℕ) (p : ℕ) (rs : List ℕ) (l : List Node) (n m : Node) (r : List Node) : Type 0 where
  pub used : leaves ≤ length dir
  pub next : suc j < leaves
  pub empty : word_count (word_at dir j) ≡ 0
  pub lays : LaysAround (lent fanout slots arena) (used_to dir leaves j) (word_at dir j) (word_at dir (suc j) ∷ used_from dir leaves (suc (suc j))) qs p (q ∷ rs) l n (m ∷ r)
  pub owns : Owns (lent fanout slots arena) (used_to dir leaves j) (word_at dir j) (word_at dir (suc j) ∷ used_from dir leaves (suc (suc j)))
  pub next_owns : Owns (lent fanout slots arena) (used_to dir leaves j ++ (word_at dir j ∷ [])) (word_at dir (suc j)) (used_from dir leaves (suc (suc j)))
  pub shorter : kept ≤ q
  pub low_long : q ≤ length m.low
  pub prefix : take kept n.low ≡ take kept m.low
  pub ends :
      WordsIn 0 (words_of (lent fanout slots arena) (used_to dir leaves j ++ (word_at dir j ∷ [])) ++ leaf_words (lent fanout slots arena) (word_at dir (suc j))) top
  pub room :
      WordsIn (top + word_count (word_at dir (suc j)) * (q - kept)) (words_of (lent fanout slots arena) (used_from dir leaves (suc (suc j)))) (length arena)
  pub arena_fits : length arena < 2 ^ 28
  pub suffixes_fit : All (λ w. word_suffix w + (q - kept) < 2 ^ 12) (words_at fanout slots (word_at dir (suc j)))

pub record CanMerge (fanout leaves : ℕ) (dir slots arena : List ℕ) (j q kept : ℕ) : Type 0 where
  pub top : ℕ
  pub qs : List ℕ
  pub p : ℕ
  pub rs : List ℕ
  pub l : List Node
  pub n : Node
  pub m : Node
  pub r : List Node
  pub merges : Merges fanout leaves dir slots arena j q kept top qs p rs l n m r

-- the j-th leaf has the next one's words, regrown; these stay in the next one's region too, which is free then
pub record Merged (fanout leaves : ℕ) (dir slots arena : List ℕ) (j q kept : ℕ) (exit_dir exit_slots exit_arena : List ℕ) : Type 0 where
  pub dir_is : exit_dir ≡ put dir j (taken_word dir j ∷ part dir (j + 2) (leaves - (j + 2)))
  pub slots_are :
      exit_slots
      ≡ put (regrown_slots fanout slots (word_at dir (suc j)) (q - kept)) (first_slot fanout (word_leaf (word_at dir j)))
      (regrown_words (q - kept) 0 (words_at fanout slots (word_at dir (suc j))))
  pub arena_is :
      exit_arena
      ≡ regrown_arena arena (part arena (low_from fanout slots (word_at dir (suc j)) kept) (q - kept)) (q - kept) 0 (words_at fanout slots (word_at dir (suc j)))
  pub merged : {top : ℕ} {qs : List ℕ} {p : ℕ} {rs : List ℕ} {l : List Node} {n m : Node} {r : List Node}
      → Merges fanout leaves dir slots arena j q kept top qs p rs l n m r → TakenList fanout leaves dir j exit_dir exit_slots exit_arena qs kept rs l n m r
