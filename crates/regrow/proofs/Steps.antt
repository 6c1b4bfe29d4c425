-- The steps of `regain` and `regrow`, over plain lists and numbers.
-- Assumes nothing.
use Prim.Native.Nat.{ℕ, zero, suc, ◌+◌, ◌*◌, ◌^◌, ◌≤◌, ◌<◌}
use mathlib.Core.List.{List, [], ◌∷◌, ◌++◌, append_assoc, map}
use mathlib.Core.Path.{◌≡◌, ◌∙◌, ap, refl, sym}
use native.Mathlib.Nat.{add-zero, le_of_suc-le-suc}
use native.Mathlib.Omega.{arith}
use lib.ListN.{drop, get_or, length, length-append, length-drop, set, take}
use lib.Seq.{drop-cons, drop-length}
use Rattle.layout.specs.Frames.{WordsIn}
use Rattle.layout.specs.Order.{word_extent}
use Rattle.layout.proofs.OrderLaws.{order_top}
use Rattle.lists.specs.All.{all_at}
use Rattle.lists.proofs.PartLaws.{drop-put, get_or-part, get_or-put_before, length-part, part-put_before, put-cons, put-nil, put_one, take-put_le}
use Rattle.lists.specs.Part.{part, put}
use Rattle.regrow.specs.Regrow.{CanRegain, CanRegrow, Regained, Regrown, low_word_at, part_of, regrown_arena, regrown_word, regrown_words, words_at}
use Rattle.regrow.specs.RegrowLaws.{count_long, from_ahead, from_long, pairs_ordered, place_in, regrown_before, regrown_lays, room_fits}
use Rattle.words.specs.Words.{Unpacked, first_slot, slot_word, word_count, word_leaf, word_offset, word_suffix, word_value}
use Rattle.words.specs.declared.Slot.{Slot}

-- regain

-- t written, then s right before it
put_ahead : (l : List ℕ) (a n : ℕ) (s t : List ℕ) → length s ≡ n → a + n ≤ length l → put (put l (a + n) t) a s ≡ put l a (s ++ t)
unfolding put
put_ahead l a n s t e h =
    let one : take a (put l (a + n) t) ≡ take a l = take-put_le l (a + n) t a h (omega arith) in
    let two : drop (a + n) (put l (a + n) t) ≡ t ++ drop (a + n + length t) l = drop-put l (a + n) t h in
    let size : a + length (s ++ t) ≡ a + n + length t = omega (arith, length-append s t) in
    rw (e, one, two, size) (simp append_assoc)

module _ {slots arena : List ℕ} {at i g from : ℕ} {s : Slot} (h : CanRegain slots arena at i g from) (u : Unpacked (get_or slots at 0) s) where
  pub part_room : (s.offset.0 + (s.suffix + s.value) ≤ length arena) × (s.offset.0 + i * g + g + (s.suffix + s.value) ≤ length arena)
  part_room =
      let w = get_or slots at 0 in
      rw (u.offset_is, u.suffix_is, u.value_is) (less (word_offset w) (word_suffix w + word_value w) (i * g) h.room, same (word_offset w) (word_suffix w + word_value w) (i * g) h.room)
    where
      less : (o n y : ℕ) → o + y + (g + n) ≤ length arena → o + n ≤ length arena
      less o n y k = omega arith

      same : (o n y : ℕ) → o + y + (g + n) ≤ length arena → o + y + g + n ≤ length arena
      same o n y k = omega arith

  pub from_room : {size : ℕ} → size ≡ length arena → (from + g ≤ size) × (s.offset.0 + i * g + g ≤ size)
  from_room e = rw (e, u.offset_is) (less (word_offset w) (word_suffix w + word_value w) (i * g) h.ahead h.room)
    where
      w : ℕ
      w = get_or slots at 0

      less : (o n y : ℕ) → from + g ≤ o → o + y + (g + n) ≤ length arena → (from + g ≤ length arena) × (o + y + g ≤ length arena)
      less o n y j k = (omega arith, omega arith)

  pub regained : {moved now : List ℕ} {w : ℕ} → moved ≡ put arena (s.offset.0 + i * g + g) (part arena s.offset.0 (s.suffix + s.value))
      → now ≡ put moved (s.offset.0 + i * g) (part moved from g) → w ≡ slot_word (s.offset.0 + i * g) (s.suffix + g) s.value
      → Regained slots arena at i g from (set slots at w) now
  regained {moved} {now} {w} e f is =
      let v = get_or slots at 0 in
      let to = word_offset v + i * g in
      let bytes = part_of arena v in
      let e₁ : moved ≡ put arena (to + g) bytes = rw (u.offset_is, u.suffix_is, u.value_is) at e in
      let f₁ : now ≡ put moved to (part moved from g) = rw u.offset_is at f in
      let low : to + g ≤ length arena = less (word_offset v) (word_suffix v + word_value v) (i * g) h.room in
      let same : part moved from g ≡ part arena from g =
      rw e₁ (part-put_before arena (to + g) bytes from g low (before (word_offset v) (i * g) h.ahead)) in
      record {
        slots_are = put_one slots at w h.word ∙ rw (is, u.offset_is, u.suffix_is, u.value_is);
        arena_is = f₁ ∙ rw (same, e₁) (put_ahead arena to g (part arena from g) bytes
            (length-part arena from g (inside (word_offset v) (word_suffix v + word_value v) (i * g) h.ahead h.room)) low);
      }
    where
      less : (o n y : ℕ) → o + y + (g + n) ≤ length arena → o + y + g ≤ length arena
      less o n y k = omega arith

      before : (o y : ℕ) → from + g ≤ o → from + g ≤ o + y + g
      before o y k = omega arith

      inside : (o n y : ℕ) → from + g ≤ o → o + y + (g + n) ≤ length arena → from + g ≤ length arena
      inside o n y j k = omega arith

-- regrow

order_at : (a top : ℕ) (ws : List ℕ) (k : ℕ) → k < length ws → WordsIn a ws top
    → (a ≤ word_offset (get_or ws k 0)) × WordsIn (word_offset (get_or ws k 0) + (word_suffix (get_or ws k 0) + word_value (get_or ws k 0))) (drop (suc k) ws) top
order_at a top [] k h o = absurd (omega arith)
order_at a top (w ∷ ws) zero h o = o
order_at a top (w ∷ ws) (suc k) h o =
    let r = order_at (word_offset w + (word_suffix w + word_value w)) top ws k (le_of_suc-le-suc h) o.1 in
    (up (word_offset w) (word_suffix w + word_value w) (word_offset (get_or ws k 0)) o.0 r.0, r.1)
  where
    up : (o n p : ℕ) → a ≤ o → o + n ≤ p → a ≤ p
    up o n p h k = omega arith

-- the pairs from the i-th on are regrown
pub record Regrowing (fanout : ℕ) (slots arena : List ℕ) (d g from : ℕ) (now_slots now_arena : List ℕ) (i : ℕ) : Type 0 where
  pub few : i ≤ word_count d
  pub slots_are : now_slots ≡ put slots (first_slot fanout (word_leaf d) + i) (regrown_words g i (drop i (words_at fanout slots d)))
  pub arena_is : now_arena ≡ regrown_arena arena (part arena from g) g i (drop i (words_at fanout slots d))
  pub slots_long : length now_slots ≡ length slots
  pub arena_long : length now_arena ≡ length arena

module _ {fanout : ℕ} {slots arena : List ℕ} {d g from : ℕ} (h : CanRegrow fanout slots arena d g from) where
  pub first_room : {leaf : ℕ} → leaf ≡ word_leaf d → first_slot fanout leaf ≤ length slots
  first_room e = rw e (less (first_slot fanout (word_leaf d)) h.regrows.owns.inside)
    where
      less : (x : ℕ) → x + fanout ≤ length slots → x ≤ length slots
      less x k = omega arith

  pub word_room : {leaf first : ℕ} (k : ℕ) → leaf ≡ word_leaf d → first ≡ first_slot fanout leaf → k < word_count d → first + k < length slots
  word_room k e f m = rw (f, e) (less (first_slot fanout (word_leaf d)) (word_count d) h.regrows.owns.inside h.regrows.owns.count_fits m)
    where
      less : (x c : ℕ) → x + fanout ≤ length slots → c < fanout → k < c → x + k < length slots
      less x c i j m = omega arith

  pub place_of_lem : {leaf first : ℕ} (k : ℕ) → leaf ≡ word_leaf d → first ≡ first_slot fanout leaf → first + k ≡ first_slot fanout (word_leaf d) + k
  place_of_lem k e f = ap (λ (x : ℕ). x + k) (f ∙ ap (first_slot fanout) e)

  pub regrow_starts : (i : ℕ) → i ≡ word_count d → Regrowing fanout slots arena d g from slots arena i
  regrow_starts i e =
      let ws = words_at fanout slots d in
      let none : drop i ws ≡ [] = ap (λ (x : ℕ). drop x ws) (e ∙ sym (count_long h.regrows)) ∙ drop-length ws in
      record {
        few = omega arith;
        slots_are = sym (rw none (put-nil slots (first_slot fanout (word_leaf d) + i)));
        arena_is = rw none;
        slots_long = refl;
        arena_long = refl;
      }

  -- the k-th pair, those behind it regrown
  module _ {now_slots now_arena : List ℕ} {i : ℕ} (s : Regrowing fanout slots arena d g from now_slots now_arena i) (k : ℕ) (e : i ≡ suc k) where
    inside_count : k < word_count d
    inside_count = omega (arith, s.few)

    inside_words : k < length (words_at fanout slots d)
    inside_words = rw (count_long h.regrows) inside_count

    place_inside : first_slot fanout (word_leaf d) + k < length slots
    place_inside = word_room k refl refl inside_count

    word_is : get_or now_slots (first_slot fanout (word_leaf d) + k) 0 ≡ get_or (words_at fanout slots d) k 0
    word_is =
        ap (λ (l : List ℕ). get_or l (first_slot fanout (word_leaf d) + k) 0) s.slots_are
        ∙ get_or-put_before slots (first_slot fanout (word_leaf d) + i) (regrown_words g i (drop i (words_at fanout slots d))) (first_slot fanout (word_leaf d) + k) 0
        (less (first_slot fanout (word_leaf d)) place_inside) (omega arith)
        ∙ sym (get_or-part slots (first_slot fanout (word_leaf d)) (word_count d) k 0 inside_count)
      where
        less : (x : ℕ) → x + k < length slots → x + i ≤ length slots
        less x m = omega arith

    near : (word_offset (low_word_at fanout slots d) + (word_suffix (low_word_at fanout slots d) + word_value (low_word_at fanout slots d)) ≤ word_offset (get_or (words_at fanout slots d) k 0))
        × WordsIn (word_offset (get_or (words_at fanout slots d) k 0) + (word_suffix (get_or (words_at fanout slots d) k 0) + word_value (get_or (words_at fanout slots d) k 0)))
        (drop (suc k) (words_at fanout slots d)) h.top
    near = order_at _ h.top (words_at fanout slots d) k inside_words (pairs_ordered h.regrows)

    ahead : from + g ≤ word_offset (get_or (words_at fanout slots d) k 0)
    ahead = both (word_offset (low_word_at fanout slots d) + (word_suffix (low_word_at fanout slots d) + word_value (low_word_at fanout slots d))) (word_offset (get_or (words_at fanout slots d) k 0))
        (from_ahead h.regrows) near.0
      where
        both : (x y : ℕ) → from + g ≤ x → x ≤ y → from + g ≤ y
        both x y i j = omega arith

    room : word_offset (get_or (words_at fanout slots d) k 0) + k * g + (g + (word_suffix (get_or (words_at fanout slots d) k 0) + word_value (get_or (words_at fanout slots d) k 0))) ≤ length arena
    room =
        let w = get_or (words_at fanout slots d) k 0 in
        place_in k (word_count d) g (word_offset w) (word_suffix w + word_value w) h.top (length arena) inside_count
        (order_top _ (map word_extent (drop (suc k) (words_at fanout slots d))) h.top near.1) (room_fits h.regrows)

    pub can_regain : (at : ℕ) → at ≡ first_slot fanout (word_leaf d) + k → CanRegain now_slots now_arena at k g from
    can_regain at f =
        rw f (record {
          word = rw s.slots_long place_inside;
          ahead = rw word_is ahead;
          room = rw (word_is, s.arena_long) room;
          suffix_fits = rw word_is (all_at (λ w. word_suffix w + g < 2 ^ 12) (words_at fanout slots d) k 0 inside_words h.regrows.suffixes_fit);
          arena_fits = rw s.arena_long h.regrows.arena_fits;
        })

    -- the bytes before the end of the k-th pair are as they were
    kept : (x n : ℕ) → x + n ≤ word_offset (get_or (words_at fanout slots d) k 0) + (word_suffix (get_or (words_at fanout slots d) k 0) + word_value (get_or (words_at fanout slots d) k 0))
        → part now_arena x n ≡ part arena x n
    kept x n low =
        let ws = words_at fanout slots d in
        let w = get_or ws k 0 in
        let many : suc k + length (drop (suc k) ws) ≡ word_count d = omega (arith, length-drop (suc k) ws, count_long h.regrows, inside_count) in
        ap (λ (l : List ℕ). part l x n) (s.arena_is ∙ ap (λ (j : ℕ). regrown_arena arena (part arena from g) g j (drop j ws)) e)
        ∙ regrown_before arena (part arena from g) g (word_count d) h.top (from_long h.regrows) (room_fits h.regrows) (suc k)
        (word_offset w + (word_suffix w + word_value w)) (drop (suc k) ws) many near.1 x n (more (word_offset w + (word_suffix w + word_value w)) (suc k * g) low)
      where
        more : (y z : ℕ) → x + n ≤ y → x + n ≤ y + z
        more y z h = omega arith

    pub regrow_goes_on : (at : ℕ) → at ≡ first_slot fanout (word_leaf d) + k → {then_slots then_arena : List ℕ} → Regained now_slots now_arena at k g from then_slots then_arena
        → length then_slots ≡ length now_slots → length then_arena ≡ length now_arena → Regrowing fanout slots arena d g from then_slots then_arena k
    regrow_goes_on at f {then_slots} {then_arena} t ls la =
        let ws = words_at fanout slots d in
        let w = get_or ws k 0 in
        let first = first_slot fanout (word_leaf d) in
        let us = regrown_words g (suc k) (drop (suc k) ws) in
        let v : get_or now_slots at 0 ≡ w = rw f word_is in
        let back : drop k ws ≡ w ∷ drop (suc k) ws = drop-cons ws k 0 inside_words in
        let was : now_slots ≡ put slots (suc (first + k)) us =
        s.slots_are ∙ ap (λ (j : ℕ). put slots (first + j) (regrown_words g j (drop j ws))) e ∙ ap (λ (j : ℕ). put slots j us) (let q : first + suc k ≡ suc (first + k) = omega arith in q) in
        let bytes : part now_arena from g ≡ part arena from g = kept from g (under (word_offset w) (word_suffix w + word_value w) ahead) in
        let pair : part_of now_arena w ≡ part_of arena w = kept (word_offset w) (word_suffix w + word_value w) (omega arith) in
        record {
          few = omega (arith, inside_count);
          slots_are = t.slots_are ∙ rw (v, f, back)
              (sym (put_one now_slots (first + k) (regrown_word g k w) (rw s.slots_long place_inside)) ∙ rw was (put-cons slots (first + k) us (regrown_word g k w) place_inside));
          arena_is = t.arena_is ∙ rw (v, back, bytes, pair) (ap (λ (l : List ℕ). put l (word_offset w + k * g) (part arena from g ++ part_of arena w))
              (s.arena_is ∙ ap (λ (j : ℕ). regrown_arena arena (part arena from g) g j (drop j ws)) e));
          slots_long = ls ∙ s.slots_long;
          arena_long = la ∙ s.arena_long;
        }
      where
        under : (o n : ℕ) → from + g ≤ o → from + g ≤ o + n
        under o n m = omega arith

  pub regrow_done : {now_slots now_arena : List ℕ} (i : ℕ) → i ≡ 0 → Regrowing fanout slots arena d g from now_slots now_arena i → Regrown fanout slots arena d g from now_slots now_arena
  regrow_done {now_slots} {now_arena} i z s =
      let ws = words_at fanout slots d in
      let first = first_slot fanout (word_leaf d) in
      let is : now_slots ≡ put slots first (regrown_words g 0 ws) =
      s.slots_are ∙ ap (λ (j : ℕ). put slots (first + j) (regrown_words g j (drop j ws))) z ∙ ap (λ (x : ℕ). put slots x (regrown_words g 0 ws)) (add-zero first) in
      let are : now_arena ≡ regrown_arena arena (part arena from g) g 0 ws =
      s.arena_is ∙ ap (λ (j : ℕ). regrown_arena arena (part arena from g) g j (drop j ws)) z in
      record { slots_are = is; arena_is = are; regrown = λ t. regrown_lays t now_arena are now_slots is }
