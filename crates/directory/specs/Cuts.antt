-- A leaf cut in two: what is asked, the whole buffers at exit, and the leaf list they lay out then.
use Rattle.std.specs.Prelude.{ℕ, ◌+◌, ◌-◌, ◌^◌, ◌≤◌, ◌<◌, suc, List, [], ◌∷◌, ◌++◌, ◌≡◌, drop, length, take}
use Rattle.directory.specs.Used.{lent, used_from, used_to, word_at}
use Rattle.layout.specs.Around.{LaysAround, words_before, words_behind}
use Rattle.layout.specs.Frames.{WordsIn}
use Rattle.layout.specs.Regions.{Owns}
use Rattle.lists.specs.Part.{part, put}
use Rattle.model.specs.Leaves.{Node, node, with_pairs}
use Rattle.order.specs.Bytes.{Bytes}
use Rattle.words.specs.Words.{LowKeyFits, directory_word, first_slot, low_key_slot, low_key_word, word_count, word_leaf}
use Rattle.words.specs.declared.LowKey.{LowKey}

-- the two halves' directory words: the j-th leaf's number with i pairs, the free number with the others
abbrev pub left_word : (dir : List ℕ) (j i : ℕ) → ℕ
left_word dir j i = directory_word (word_leaf (word_at dir j)) i

abbrev pub right_word : (dir : List ℕ) (j i free : ℕ) → ℕ
right_word dir j i free = directory_word free (word_count (word_at dir j) - i)

-- the leaf list seen from its j-th leaf n; the key k of the arena is `low`, starts with n's prefix, and lies between n's first i pairs and the others;
-- the region of the leaf `free` is no other leaf's, and the directory has room for a word
pub record Cuts (fanout leaves : ℕ) (dir slots arena : List ℕ) (j i free : ℕ) (k : LowKey) (low : Bytes) (qs : List ℕ) (p : ℕ) (rs : List ℕ) (l : List Node) (n : Node) (r : List Node) : Type 0 where
  pub room : leaves < length dir
  pub used : j < leaves
  pub stored : i ≤ word_count (word_at dir j)
  pub lays : LaysAround (lent fanout slots arena) (used_to dir leaves j) (word_at dir j) (used_from dir leaves (suc j)) qs p rs l n r
  pub owns : Owns (lent fanout slots arena) (used_to dir leaves j) (word_at dir j) (used_from dir leaves (suc j))
  pub free_fits : free < 2 ^ 12
  pub free_owns : Owns (lent fanout slots arena) (used_to dir leaves j ++ (word_at dir j ∷ [])) (right_word dir j i free) (used_from dir leaves (suc j))
  pub low_fits : LowKeyFits k
  pub low_is : part arena k.offset.0 k.length ≡ low
  pub prefix : take p low ≡ take p n.low
  pub under : WordsIn 0 (words_before (lent fanout slots arena) (used_to dir leaves j) (word_at dir j) i) k.offset.0
  pub over : WordsIn (k.offset.0 + k.length) (words_behind (lent fanout slots arena) (word_at dir j) (used_from dir leaves (suc j)) i) (length arena)

pub record CanCut (fanout leaves : ℕ) (dir slots : List ℕ) (j i free : ℕ) (k : LowKey) : Type 0 where
  pub arena : List ℕ
  pub low : Bytes
  pub qs : List ℕ
  pub p : ℕ
  pub rs : List ℕ
  pub l : List Node
  pub n : Node
  pub r : List Node
  pub cuts : Cuts fanout leaves dir slots arena j i free k low qs p rs l n r

-- the used words, one more; the leaf list seen from the left half; and each half owns its region
pub record CutList (fanout leaves : ℕ) (dir : List ℕ) (j i free : ℕ) (exit_dir exit_slots arena : List ℕ) (low : Bytes) (qs : List ℕ) (p : ℕ) (rs : List ℕ) (l : List Node) (n : Node) (r : List Node) : Type 0 where
  pub used : take (leaves + 1) exit_dir ≡ used_to dir leaves j ++ (left_word dir j i ∷ right_word dir j i free ∷ used_from dir leaves (suc j))
  pub lays :
      LaysAround (lent fanout exit_slots arena) (used_to dir leaves j) (left_word dir j i) (right_word dir j i free ∷ used_from dir leaves (suc j)) qs p (p ∷ rs)
      l (with_pairs n (take i n.pairs)) (node free low (drop i n.pairs) ∷ r)
  pub owns_left : Owns (lent fanout exit_slots arena) (used_to dir leaves j) (left_word dir j i) (right_word dir j i free ∷ used_from dir leaves (suc j))
  pub owns_right : Owns (lent fanout exit_slots arena) (used_to dir leaves j ++ (left_word dir j i ∷ [])) (right_word dir j i free) (used_from dir leaves (suc j))

pub record CutLeaf (fanout leaves : ℕ) (dir slots : List ℕ) (j i free : ℕ) (k : LowKey) (exit_dir exit_slots : List ℕ) : Type 0 where
  pub dir_is : exit_dir ≡ put dir j (left_word dir j i ∷ right_word dir j i free ∷ part dir (j + 1) (leaves - (j + 1)))
  pub slots_are :
      exit_slots
      ≡ put
      (put slots (first_slot fanout free) (part slots (first_slot fanout (word_leaf (word_at dir j)) + i) (word_count (word_at dir j) - i)))
      (low_key_slot fanout free) (low_key_word k.offset.0 k.length ∷ [])
  pub cut : {arena : List ℕ} {low : Bytes} {qs : List ℕ} {p : ℕ} {rs : List ℕ} {l : List Node} {n : Node} {r : List Node}
      → Cuts fanout leaves dir slots arena j i free k low qs p rs l n r → CutList fanout leaves dir j i free exit_dir exit_slots arena low qs p rs l n r
