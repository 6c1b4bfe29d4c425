-- The steps of `take_over`, over plain lists and numbers.
-- Assumes nothing.
use Prim.Native.Nat.{◌+◌, ◌-◌, ◌<◌, ◌≤◌, suc, ℕ}
use mathlib.Core.List.{List, [], ◌∷◌}
use mathlib.Core.Path.{◌∙◌, ◌≡◌, ap}
use native.Mathlib.Numerals.{add-one}
use native.Mathlib.Omega.{arith}
use lib.ListN.{get_or, length, length-set, set}
use Rattle.directory.specs.TakeLaws.{taken_count, taken_leaf}
use Rattle.directory.specs.Takes.{CanTakeOver, TakenList, TakenOver, Takes, taken_word}
use Rattle.directory.specs.Used.{lent, used_from, used_to, word_at}
use Rattle.layout.proofs.DirectoryLaws.{take_over}
use Rattle.layout.specs.Regions.{Owns}
use Rattle.layout.proofs.RegionLaws.{owns_kept}
use Rattle.layout.specs.UsedLaws.{used_remove}
use Rattle.lists.specs.Part.{put, part}
use Rattle.lists.proofs.PartLaws.{length-put, length-part, part-put_after, put-append, put_one}
use Rattle.model.specs.Leaves.{Node}
use Rattle.words.specs.Words.{directory_word, first_slot, word_count, word_leaf}

-- the directory: one word replaced, the words behind the next moved down over it
dir_shrunk : (dir exit : List ℕ) (j k f : ℕ) → j < length dir → exit ≡ put (set dir j f) (j + 1) (part (set dir j f) (j + 2) k) → exit ≡ put dir j (f ∷ part dir (j + 2) k)
dir_shrunk dir exit j k f h is =
    is
    ∙ rw (put_one dir j f h, part-put_after dir j (f ∷ []) (j + 2) k (omega arith) (omega arith)) (put-append dir j (f ∷ []) (part dir (j + 2) k) (omega arith))

pub entries_room : (dir : List ℕ) (leaves j f : ℕ) → suc j < leaves → leaves ≤ length dir
    → (j + 2 + (leaves - (j + 2)) ≤ length (set dir j f)) × (j + 1 + (leaves - (j + 2)) ≤ length (set dir j f))
entries_room dir leaves j f h k = rw (length-set dir j f) (omega arith, omega arith)

next_word : (dir : List ℕ) (j : ℕ) → get_or dir (j + 1) 0 ≡ word_at dir (suc j)
next_word dir j = rw add-one

module _ {fanout leaves : ℕ} {dir slots : List ℕ} {j : ℕ} (h : CanTakeOver fanout leaves dir slots j) where
  pub taker_room : {leaf : ℕ} → leaf ≡ word_leaf (word_at dir j) → first_slot fanout leaf + fanout ≤ length slots
  taker_room e = rw e h.takes.owns.inside

  pub next_room : {leaf : ℕ} → leaf ≡ word_leaf (get_or dir (j + 1) 0) → first_slot fanout leaf + fanout ≤ length slots
  next_room e = rw (e, next_word dir j) h.takes.next_inside

  pub words_room : {leaf to next from pairs : ℕ} → leaf ≡ word_leaf (word_at dir j) → to ≡ first_slot fanout leaf → next ≡ word_leaf (get_or dir (j + 1) 0)
      → from ≡ first_slot fanout next → pairs ≡ word_count (get_or dir (j + 1) 0) → (from + pairs ≤ length slots) × (to + pairs ≤ length slots)
  words_room {leaf} {to} {next} {from} {pairs} a b c d e =
      let few : pairs < fanout = rw (e, next_word dir j) h.takes.owns.others_behind.0.fits in
      (omega (arith, next_room c, d), omega (arith, taker_room a, b))

-- the leaf list by the edit law
pub taken_list : {fanout leaves : ℕ} {dir slots : List ℕ} {j : ℕ} (exit_dir exit_slots : List ℕ)
    → exit_dir ≡ put dir j (taken_word dir j ∷ part dir (j + 2) (leaves - (j + 2)))
    → exit_slots ≡ put slots (first_slot fanout (word_leaf (word_at dir j))) (part slots (first_slot fanout (word_leaf (word_at dir (suc j)))) (word_count (word_at dir (suc j))))
    → {arena qs : List ℕ} {p q : ℕ} {rs : List ℕ} {l : List Node} {n m : Node} {r : List Node} → Takes fanout leaves dir slots arena j qs p q rs l n m r
    → TakenList fanout leaves dir j exit_dir exit_slots arena qs q rs l n m r
taken_list {fanout} {leaves} {dir} {slots} {j} exit_dir exit_slots a b {arena} t =
    let e = word_at dir (suc j) in
    let o = t.owns in
    let few : word_count e < fanout = o.others_behind.0.fits in
    let own : Owns (lent fanout slots arena) (used_to dir leaves j) (word_at dir j) (used_from dir leaves (suc (suc j))) =
    record { inside = o.inside; count_fits = o.count_fits; others_ahead = o.others_ahead; others_behind = o.others_behind.1 } in
    let long : length (part slots (first_slot fanout (word_leaf e)) (word_count e)) ≡ word_count e =
    length-part slots (first_slot fanout (word_leaf e)) (word_count e) (omega (arith, t.next_inside, few)) in
    record {
      used = used_remove dir exit_dir leaves j (leaves - (j + 2)) t.used (taken_word dir j) (leaves - 1) (omega (arith, t.next)) (omega (arith, t.next)) a;
      lays = take_over exit_slots (taken_word dir j) t.lays o (taken_leaf dir j) (taken_count dir j) b t.prefix;
      owns =
          owns_kept exit_slots arena (taken_word dir j) own
          (ap length b ∙ length-put slots (first_slot fanout (word_leaf (word_at dir j))) (part slots (first_slot fanout (word_leaf e)) (word_count e)) (omega (arith, o.inside, few, long)))
          (taken_leaf dir j) (rw (taken_count dir j) few);
    }

pub taken_over : {fanout leaves : ℕ} {dir slots : List ℕ} {j leaf to next from pairs f : ℕ} {exit_dir exit_slots : List ℕ} → CanTakeOver fanout leaves dir slots j
    → leaf ≡ word_leaf (word_at dir j) → to ≡ first_slot fanout leaf → next ≡ word_leaf (get_or dir (j + 1) 0)
    → from ≡ first_slot fanout next → pairs ≡ word_count (get_or dir (j + 1) 0) → exit_slots ≡ put slots to (part slots from pairs)
    → f ≡ directory_word leaf pairs → exit_dir ≡ put (set dir j f) (j + 1) (part (set dir j f) (j + 2) (leaves - (j + 2)))
    → TakenOver fanout leaves dir slots j exit_dir exit_slots
taken_over {fanout} {leaves} {dir} {slots} {j} {leaf} {to} {next} {from} {pairs} {f} {exit_dir} {exit_slots} h a b c d e is g moved =
    let e' : pairs ≡ word_count (word_at dir (suc j)) = e ∙ ap word_count (next_word dir j) in
    let from_is : from ≡ first_slot fanout (word_leaf (word_at dir (suc j))) = d ∙ ap (first_slot fanout) (c ∙ ap word_leaf (next_word dir j)) in
    let word : f ≡ taken_word dir j = g ∙ rw (a, e') in
    let one : exit_dir ≡ put dir j (taken_word dir j ∷ part dir (j + 2) (leaves - (j + 2))) =
    dir_shrunk dir exit_dir j (leaves - (j + 2)) f (omega (arith, h.takes.next, h.takes.used)) moved ∙ rw word in
    let two : exit_slots ≡ put slots (first_slot fanout (word_leaf (word_at dir j))) (part slots (first_slot fanout (word_leaf (word_at dir (suc j)))) (word_count (word_at dir (suc j)))) =
    is ∙ rw (b, a, from_is, e') in
    record { dir_is = one; slots_are = two; taken = taken_list exit_dir exit_slots one two }
