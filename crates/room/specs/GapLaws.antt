-- The gap behind a part, as it lies: where the next part starts, and that the bytes up to there are free.
-- Assumes nothing.
use Rattle.std.specs.Prelude.{ℕ, suc, ◌+◌, ◌≤◌, ◌<◌, List, [], ◌∷◌, ◌++◌, map, ◌≡◌, refl, drop, get_or, length, take}
use Rattle.std.proofs.Common.{append_assoc, ◌∙◌, ap, subst, sym, add-one, arith, drop_of_length-le, drop-cons, get_or-take, length-take-le, take-suc}
use Rattle.std.proofs.lemmas.List.{map-append}
use Rattle.directory.specs.Used.{lent, used_from, used_to, word_at}
use Rattle.layout.proofs.AroundLaws.{behind_cons}
use Rattle.layout.specs.Around.{words_behind}
use Rattle.layout.specs.Buffers.{Buffers, slot_words}
use Rattle.layout.proofs.EditLaws.{words_long}
use Rattle.layout.specs.Frames.{WordsIn}
use Rattle.layout.proofs.LaysWords.{slot_at}
use Rattle.layout.specs.Order.{leaf_words, word_extent, words_of}
use Rattle.layout.proofs.OrderLaws.{order_append, order_top}
use Rattle.slots.specs.Edits.{Gap}
use Rattle.words.specs.Words.{word_count, word_offset}
use Rattle.room.specs.PackLaws.{laid_at}
use Rattle.room.specs.PartLaws.{part_neighbours, part_sized, part_word_lem, parts_long}
use Rattle.room.specs.Parts.{CanSizePart, Laid, part_end, part_word, parts_before}
use Rattle.room.specs.RoomLaws.{gap_inside}
use Rattle.room.specs.Rooms.{MadeRoom, RoomPlace, next_start, start_of}

-- parts that lie in order, and from further up on if the first starts there
from_start : (a b : ℕ) (ws : List ℕ) (top : ℕ) → WordsIn a ws top → b ≤ start_of ws top → WordsIn b ws top
from_start a b [] top o h = h
from_start a b (w ∷ ws) top o h = (h, o.1)

-- one more part behind others
upto_end : (ws : List ℕ) (w : ℕ) → WordsIn 0 ws (word_offset w) → WordsIn 0 (ws ++ (w ∷ [])) (part_end w)
upto_end ws w o =
    rw (map-append word_extent ws (w ∷ [])) (order_append 0 (map word_extent ws) (word_extent w ∷ []) (word_offset w) (part_end w) o (same (word_offset w), same (part_end w)))
  where
    same : (x : ℕ) → x ≤ x
    same x = omega arith

module _ {fanout leaves : ℕ} {dir slots arena : List ℕ} {j i : ℕ} (g : RoomPlace fanout leaves dir slots arena j i) where
  abbrev b : Buffers
  b = lent fanout slots arena

  pub place_read : j < length dir
  place_read = omega (arith, g.used, g.inside)

  pub place_used : j < length (take leaves dir)
  place_used = omega (arith, length-take-le leaves dir g.inside, g.used)

  pub place_word : get_or (take leaves dir) j 0 ≡ word_at dir j
  place_word = get_or-take leaves dir j 0 g.used

  pub place_laid : Laid b (used_to dir leaves j) (word_at dir j) (used_from dir leaves (suc j))
  place_laid = rw place_word at (laid_at g.whole j place_used)

  pub place_sized : CanSizePart fanout slots (word_at dir j) i
  place_sized = part_sized place_laid g.slot

  -- where the next part starts

  pub next_in_leaf : i < word_count (word_at dir j) → word_offset (part_word fanout slots (word_at dir j) (i + 1)) ≡ next_start fanout leaves dir slots arena j i
  next_in_leaf h =
      let bs = used_from dir leaves (suc j) in
      ap (λ (k : ℕ). word_offset (part_word fanout slots (word_at dir j) k)) (add-one i) ∙ ap word_offset (sym (slot_at b (word_at dir j) i h))
      ∙ ap (λ (ws : List ℕ). start_of ws (length arena)) (sym (behind_cons b (word_at dir j) bs i (omega (arith, words_long place_laid.lays.here))))

  -- behind the leaf's last part
  last_part : word_count (word_at dir j) ≤ i → words_behind b (word_at dir j) (used_from dir leaves (suc j)) i ≡ words_of b (used_from dir leaves (suc j))
  last_part h =
      ap (λ (ws : List ℕ). ws ++ words_of b (used_from dir leaves (suc j)))
      (drop_of_length-le (slot_words b (word_at dir j)) {i = i} (omega (arith, words_long place_laid.lays.here)))

  pub next_sized : j + 1 < leaves → CanSizePart fanout slots (word_at dir (j + 1)) 0
  next_sized k =
      let place : j + 1 < length (take leaves dir) = omega (arith, length-take-le leaves dir g.inside) in
      part_sized (rw (get_or-take leaves dir (j + 1) 0 k) at (laid_at g.whole (j + 1) place)) (omega arith)

  next_leaf : word_count (word_at dir j) ≤ i → suc j < leaves → word_offset (part_word fanout slots (word_at dir (suc j)) 0) ≡ next_start fanout leaves dir slots arena j i
  next_leaf h k =
      let ds = take leaves dir in
      let e = word_at dir (suc j) in
      let place : suc j < length ds = omega (arith, length-take-le leaves dir g.inside) in
      let behind : words_of b (drop (suc j) ds) ≡ leaf_words b e ++ words_of b (drop (suc (suc j)) ds) =
      ap (words_of b) (drop-cons ds (suc j) 0 place) ∙ ap (λ (d : ℕ). leaf_words b d ++ words_of b (drop (suc (suc j)) ds)) (get_or-take leaves dir (suc j) 0 k) in
      ap word_offset (sym (part_word_lem b e 0 (omega arith))) ∙ ap (λ (ws : List ℕ). start_of ws (length arena)) (sym (last_part h ∙ behind))

  pub next_in_next : word_count (word_at dir j) ≤ i → j + 1 < leaves → word_offset (part_word fanout slots (word_at dir (j + 1)) 0) ≡ next_start fanout leaves dir slots arena j i
  next_in_next h k = ap (λ (x : ℕ). word_offset (part_word fanout slots (word_at dir x) 0)) (add-one j) ∙ next_leaf h (omega arith)

  pub next_none : word_count (word_at dir j) ≤ i → leaves ≤ j + 1 → length arena ≡ next_start fanout leaves dir slots arena j i
  next_none h k =
      let none : drop (suc j) (take leaves dir) ≡ [] = drop_of_length-le (take leaves dir) {i = suc j} (omega (arith, length-take-le leaves dir g.inside)) in
      ap (λ (ws : List ℕ). start_of ws (length arena)) (sym (last_part h ∙ ap (words_of b) none))

  -- where the part before it ends

  abbrev here : ℕ
  here = get_or (leaf_words b (word_at dir j)) i 0

  pub end_inside : {end : ℕ} → end ≡ part_end (part_word fanout slots (word_at dir j) i) → end ≤ length arena
  end_inside e =
      rw (e, ← part_word_lem b (word_at dir j) i g.slot)
      (order_top (part_end here) (map word_extent (words_behind b (word_at dir j) (used_from dir leaves (suc j)) i)) (length arena) (part_neighbours place_laid i g.slot).1)

  -- room that is there already
  pub room_found : {end next need : ℕ} → end ≡ part_end (part_word fanout slots (word_at dir j) i) → next ≡ next_start fanout leaves dir slots arena j i → end + need ≤ next
      → MadeRoom fanout leaves dir slots arena j i need end slots arena
  room_found {end} {next} {need} e f h =
      let d = word_at dir j in
      let fs = used_to dir leaves j in
      let bs = used_from dir leaves (suc j) in
      let near = part_neighbours place_laid i g.slot in
      let is : end ≡ part_end here = rw (part_word_lem b d i g.slot) e in
      let words : parts_before b fs d (suc i) ≡ parts_before b fs d i ++ (here ∷ []) =
      ap (λ (ws : List ℕ). words_of b fs ++ ws) (take-suc (leaf_words b d) i 0 (omega (arith, parts_long place_laid, g.slot)))
      ∙ sym (append_assoc (words_of b fs) (take i (leaf_words b d)) (here ∷ [])) in
      let gap : Gap b fs d bs i end need =
      record {
        after = subst (λ (x : ℕ). WordsIn 0 (parts_before b fs d (suc i)) x) (sym is) (subst (λ (ws : List ℕ). WordsIn 0 ws (part_end here)) (sym words) (upto_end (parts_before b fs d i) here near.0));
        before = from_start (part_end here) (end + need) (words_behind b d bs i) (length arena) near.1 (rw f at h);
      } in
      record { same_slots = refl; same_arena = refl; kept = λ a. a; gap = gap; inside = gap_inside gap }
