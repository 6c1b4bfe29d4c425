-- The arena with a leaf's pairs regrown: its length, the bytes before and behind them, the pairs of their words; and the leaf list laid out then.
-- Assumes nothing.
use Rattle.std.specs.Prelude.{ℕ, suc, ◌+◌, ◌-◌, ◌*◌, ◌^◌, ◌≤◌, ◌<◌, ◌≡◌, refl, drop, take}
use mathlib.Core.List.{List, [], ◌∷◌, ◌++◌, append_assoc, append-nil, map, map-append}
use Rattle.std.proofs.Common.{◌∙◌, mul-le-mul_right, suc-mul, add-zero, zero-add, arith, length-append, drop_at, take_at, take-take, take-add}
use Rattle.std.proofs.Math.Path.{ap, subst, sym}
use Rattle.std.proofs.Math.Nat.{zero-mul}
use Rattle.std.proofs.Math.ListN.{length}
use Rattle.directory.specs.Used.{lent}
use Rattle.layout.specs.Buffers.{low_at, low_word, pair_at, slot_words, suffix_at, value_at}
use Rattle.layout.proofs.EditLaws.{edit_words, words_long}
use Rattle.layout.specs.Frames.{SameBytes, WordsIn}
use Rattle.layout.proofs.FrameLaws.{all_words}
use Rattle.layout.specs.Order.{InOrder, extents, word_extent, words_of, end_of}
use Rattle.layout.proofs.OrderLaws.{order_after, order_append, order_before, order_insert, order_left, order_right, order_top, order_widen}
use Rattle.layout.proofs.RegionLaws.{owns_kept, region_words}
use Rattle.lists.specs.All.{All, all_mono}
use Rattle.lists.proofs.PartLaws.{length-part, length-put, part-add, part-part, part-put, part-put_after, part-put_before}
use Rattle.lists.specs.Part.{part, put}
use Rattle.model.specs.Leaves.{Node}
use Rattle.regrow.specs.Regrow.{RegrownList, Regrows, low_word_at, part_of, regrown_arena, regrown_word, regrown_words, words_at}
use Rattle.words.specs.Laws.{offset_of_slot, suffix_of_slot, value_of_slot, value_small}
use Rattle.words.specs.Words.{first_slot, word_count, word_leaf, word_offset, word_suffix, word_value}

-- the fields of a regrown word
module _ (g i w : ℕ) (fits : word_suffix w + g < 2 ^ 12) where
  pub regrown_offset : word_offset (regrown_word g i w) ≡ word_offset w + i * g
  regrown_offset = offset_of_slot (word_offset w + i * g) (word_suffix w + g) (word_value w) fits (value_small w)

  pub regrown_suffix : word_suffix (regrown_word g i w) ≡ word_suffix w + g
  regrown_suffix = suffix_of_slot (word_offset w + i * g) (word_suffix w + g) (word_value w) fits (value_small w)

  pub regrown_value : word_value (regrown_word g i w) ≡ word_value w
  regrown_value = value_of_slot (word_offset w + i * g) (word_suffix w + g) (word_value w) fits (value_small w)

-- the place of the i-th of k pairs: its part ends before the room does
pub place_in : (i k g o n top size : ℕ) → i < k → o + n ≤ top → top + k * g ≤ size → o + i * g + (g + n) ≤ size
place_in i k g o n top size h e m = omega (arith, mul-le-mul_right {m = suc i} {n = k} g h, suc-mul i g)

module _ (arena bytes : List ℕ) (g k top : ℕ) (long : length bytes ≡ g) (fits : top + k * g ≤ length arena) where
  -- the bytes written for a pair
  written_long : (w : ℕ) → word_offset w + (word_suffix w + word_value w) ≤ length arena → length (bytes ++ part_of arena w) ≡ g + (word_suffix w + word_value w)
  written_long w h = rw (length-append, long, length-part arena (word_offset w) (word_suffix w + word_value w) h)

  inside : (x : ℕ) → x ≤ top → x ≤ length arena
  inside x h = omega arith

  pub regrown_long : (i a : ℕ) (ws : List ℕ) → i + length ws ≡ k → WordsIn a ws top → length (regrown_arena arena bytes g i ws) ≡ length arena
  regrown_long i a [] e h = refl
  regrown_long i a (w ∷ ws) e h =
      let n = word_suffix w + word_value w in
      let end : word_offset w + n ≤ top = order_top (word_offset w + n) (map word_extent ws) top h.1 in
      let m = regrown_long (suc i) (word_offset w + n) ws (omega arith) h.1 in
      let room : word_offset w + i * g + (g + n) ≤ length arena = place_in i k g (word_offset w) n top (length arena) (omega arith) end fits in
      length-put (regrown_arena arena bytes g (suc i) ws) (word_offset w + i * g) (bytes ++ part_of arena w)
      (rw (m, written_long w (inside (word_offset w + n) end)) room) ∙ m

  -- where the i-th pair goes is inside the arena, the pairs behind it written
  place_low : (i a w : ℕ) (ws : List ℕ) → i + suc (length ws) ≡ k → WordsIn a (w ∷ ws) top → word_offset w + i * g ≤ length (regrown_arena arena bytes g (suc i) ws)
  place_low i a w ws e h =
      let n = word_suffix w + word_value w in
      let end : word_offset w + n ≤ top = order_top (word_offset w + n) (map word_extent ws) top h.1 in
      rw (regrown_long (suc i) (word_offset w + n) ws (omega arith) h.1) (less (word_offset w + i * g) (g + n) (place_in i k g (word_offset w) n top (length arena) (omega arith) end fits))
    where
      less : (x y : ℕ) → x + y ≤ length arena → x ≤ length arena
      less x y h = omega arith

  -- the bytes before the pairs, and those behind
  pub regrown_before : (i a : ℕ) (ws : List ℕ) → i + length ws ≡ k → WordsIn a ws top → (x n : ℕ) → x + n ≤ a + i * g → part (regrown_arena arena bytes g i ws) x n ≡ part arena x n
  regrown_before i a [] e h x n low = refl
  regrown_before i a (w ∷ ws) e h x n low =
      part-put_before (regrown_arena arena bytes g (suc i) ws) (word_offset w + i * g) (bytes ++ part_of arena w) x n (place_low i a w ws e h) (over (i * g) (word_offset w) low h.0)
      ∙ regrown_before (suc i) (word_offset w + (word_suffix w + word_value w)) ws (omega arith) h.1 x n
      (up (i * g) (suc i * g) (word_offset w) (word_suffix w + word_value w) low (suc-mul i g) h.0)
    where
      over : (y o : ℕ) → x + n ≤ a + y → a ≤ o → x + n ≤ o + y
      over y o l f = omega arith

      up : (y z o s : ℕ) → x + n ≤ a + y → z ≡ y + g → a ≤ o → x + n ≤ o + s + z
      up y z o s l e f = omega arith

  pub regrown_after : (i a : ℕ) (ws : List ℕ) → i + length ws ≡ k → WordsIn a ws top → (x n : ℕ) → top + k * g ≤ x → part (regrown_arena arena bytes g i ws) x n ≡ part arena x n
  regrown_after i a [] e h x n high = refl
  regrown_after i a (w ∷ ws) e h x n high =
      let s = word_suffix w + word_value w in
      let end : word_offset w + s ≤ top = order_top (word_offset w + s) (map word_extent ws) top h.1 in
      part-put_after (regrown_arena arena bytes g (suc i) ws) (word_offset w + i * g) (bytes ++ part_of arena w) x n (place_low i a w ws e h)
      (rw (written_long w (inside (word_offset w + s) end)) (place_in i k g (word_offset w) s top x (omega arith) end high))
      ∙ regrown_after (suc i) (word_offset w + s) ws (omega arith) h.1 x n high

-- the pair of a word whose part stands there, behind the regained bytes
pub pair_regrown : (arena now prefix bytes : List ℕ) (g i w : ℕ) → length bytes ≡ g → word_suffix w + g < 2 ^ 12 → word_offset w + (word_suffix w + word_value w) ≤ length arena
    → part now (word_offset w + i * g) (g + (word_suffix w + word_value w)) ≡ bytes ++ part_of arena w
    → pair_at now prefix (regrown_word g i w) ≡ pair_at arena (prefix ++ bytes) w
unfolding pair_at suffix_at value_at
pair_regrown arena now prefix bytes g i w long fits inside is =
    let o = word_offset w in
    let s = word_suffix w in
    let v = word_value w in
    let cut : part arena o (s + v) ≡ part arena o s ++ part arena (o + s) v = part-add arena o s v in
    let whole : part now (o + i * g) (s + g + v) ≡ (bytes ++ part arena o s) ++ part arena (o + s) v =
    ap (part now (o + i * g)) (order s g v) ∙ is ∙ ap (λ (x : List ℕ). bytes ++ x) cut ∙ sym (append_assoc bytes (part arena o s) (part arena (o + s) v)) in
    let size : length (bytes ++ part arena o s) ≡ s + g = rw (length-append, long, length-part arena o s (less o s v inside)) (swap g s) in
    let one : part now (o + i * g) (s + g) ≡ bytes ++ part arena o s =
    sym (take-take (s + g) (s + g + v) (drop (o + i * g) now) (more (s + g) v)) ∙ ap (take (s + g)) whole ∙ take_at (bytes ++ part arena o s) (part arena (o + s) v) (s + g) size in
    let two : part now (o + i * g + (s + g)) v ≡ part arena (o + s) v =
    sym (part-part now (o + i * g) (s + g + v) (s + g) v (same (s + g + v)))
    ∙ ap (λ (x : List ℕ). part x (s + g) v) whole ∙ ap (take v) (drop_at (bytes ++ part arena o s) (part arena (o + s) v) (s + g) size)
    ∙ take-take v v (drop (o + s) arena) (same v) in
    rw (regrown_offset g i w fits, regrown_suffix g i w fits, regrown_value g i w fits, one, two, append_assoc prefix bytes (part arena o s))
  where
    order : (s g v : ℕ) → s + g + v ≡ g + (s + v)
    order s g v = omega arith

    swap : (g s : ℕ) → g + s ≡ s + g
    swap g s = omega arith

    less : (o s v : ℕ) → o + (s + v) ≤ length arena → o + s ≤ length arena
    less o s v h = omega arith

    more : (x y : ℕ) → x ≤ x + y
    more x y = omega arith

    same : (x : ℕ) → x ≤ x
    same x = omega arith

module _ (arena now prefix bytes : List ℕ) (g k top : ℕ) (long : length bytes ≡ g) (fits : top + k * g ≤ length arena) where
  pub pairs_regrown : (i a : ℕ) (ws : List ℕ) → i + length ws ≡ k → WordsIn a ws top → All (λ w. word_suffix w + g < 2 ^ 12) ws
      → ((x n : ℕ) → a + i * g ≤ x → part now x n ≡ part (regrown_arena arena bytes g i ws) x n)
      → map (pair_at now prefix) (regrown_words g i ws) ≡ map (pair_at arena (prefix ++ bytes)) ws
  pairs_regrown i a [] e h small as_now = refl
  pairs_regrown i a (w ∷ ws) e h small as_now =
      let o = word_offset w in
      let n = word_suffix w + word_value w in
      let rest = regrown_arena arena bytes g (suc i) ws in
      let s = bytes ++ part_of arena w in
      let end : o + n ≤ top = order_top (o + n) (map word_extent ws) top h.1 in
      let in_arena : o + n ≤ length arena = inside arena bytes g k top long fits (o + n) end in
      let size : length s ≡ g + n = written_long arena bytes g k top long fits w in_arena in
      let low : o + i * g ≤ length rest = place_low arena bytes g k top long fits i a w ws e h in
      let here : part now (o + i * g) (g + n) ≡ s =
      as_now (o + i * g) (g + n) (up o (i * g) h.0) ∙ subst (λ (z : ℕ). part (put rest (o + i * g) s) (o + i * g) z ≡ s) size (part-put rest (o + i * g) s low) in
      let one : pair_at now prefix (regrown_word g i w) ≡ pair_at arena (prefix ++ bytes) w = pair_regrown arena now prefix bytes g i w long small.0 in_arena here in
      let more = pairs_regrown (suc i) (o + n) ws (omega arith) h.1 small.1
      (λ x m q. as_now x m (past o n (i * g) (suc i * g) x (suc-mul i g) h.0 q)
      ∙ part-put_after rest (o + i * g) s x m low (rw size (behind o n (i * g) (suc i * g) x (suc-mul i g) q))) in
      rw (one, more)
    where
      up : (o y : ℕ) → a ≤ o → a + y ≤ o + y
      up o y h = omega arith

      past : (o n y z x : ℕ) → z ≡ y + g → a ≤ o → o + n + z ≤ x → a + y ≤ x
      past o n y z x e h q = omega arith

      behind : (o n y z x : ℕ) → z ≡ y + g → o + n + z ≤ x → o + y + (g + n) ≤ x
      behind o n y z x e q = omega arith

-- the regrown words' parts lie in order
pub order_regrown : (g k top i a : ℕ) (ws : List ℕ) → i + length ws ≡ k → WordsIn a ws top → All (λ w. word_suffix w + g < 2 ^ 12) ws
    → WordsIn (a + i * g) (regrown_words g i ws) (top + k * g)
order_regrown g k top i a [] e h small =
    let q : i ≡ k = omega arith in
    rw q (up (k * g) h)
  where
    up : (y : ℕ) → a ≤ top → a + y ≤ top + y
    up y h = omega arith
order_regrown g k top i a (w ∷ ws) e h small =
    let o = word_offset w in
    let s = word_suffix w in
    let v = word_value w in
    let rest = order_regrown g k top (suc i) (o + (s + v)) ws (omega arith) h.1 small.1 in
    rw (regrown_offset g i w small.0, regrown_suffix g i w small.0, regrown_value g i w small.0)
    (up o (i * g) h.0, subst (λ (z : ℕ). WordsIn z (regrown_words g (suc i) ws) (top + k * g)) (same o s v (i * g) (suc i * g) (suc-mul i g)) rest)
  where
    up : (o y : ℕ) → a ≤ o → a + y ≤ o + y
    up o y h = omega arith

    same : (o s v y z : ℕ) → z ≡ y + g → o + (s + v) + z ≡ o + y + (s + g + v)
    same o s v y z e = omega arith

pub regrown_count : (g i : ℕ) (ws : List ℕ) → length (regrown_words g i ws) ≡ length ws
regrown_count g i [] = refl
regrown_count g i (w ∷ ws) = rw (regrown_count g (suc i) ws)

-- the leaf list

module _ {fanout : ℕ} {slots arena : List ℕ} {d g from top : ℕ} {fs bs qs : List ℕ} {p : ℕ} {rs : List ℕ} {l : List Node} {n : Node} {r : List Node}
    (t : Regrows fanout slots arena d g from top fs bs qs p rs l n r) where
  -- the parts of the leaves ahead, the low key's and the pairs'
  parts : WordsIn 0 (words_of (lent fanout slots arena) fs) (word_offset (low_word (lent fanout slots arena) d))
      × WordsIn (word_offset (low_word (lent fanout slots arena) d) + (word_suffix (low_word (lent fanout slots arena) d) + word_value (low_word (lent fanout slots arena) d)))
      (slot_words (lent fanout slots arena) d) top
  parts =
      let b = lent fanout slots arena in
      let ahead = extents b fs in
      let low = word_extent (low_word b d) in
      let pairs = map word_extent (slot_words b d) in
      let all : InOrder 0 (ahead ++ (low ∷ pairs)) top = rw map-append at t.ends in
      let rest = order_right 0 ahead (low ∷ pairs) top all in
      (order_widen 0 0 ahead (end_of 0 ahead) low.at (omega arith) rest.0 (order_left 0 ahead (low ∷ pairs) top all), rest.1)

  pub pairs_ordered : WordsIn (word_offset (low_word_at fanout slots d) + (word_suffix (low_word_at fanout slots d) + word_value (low_word_at fanout slots d))) (words_at fanout slots d) top
  unfolding low_word slot_words
  pairs_ordered = parts.1

  pub count_long : length (words_at fanout slots d) ≡ word_count d
  unfolding slot_words
  count_long = words_long t.lays.here

  pub room_fits : top + word_count d * g ≤ length arena
  room_fits = order_top (top + word_count d * g) (extents (lent fanout slots arena) bs) (length arena) t.room

  -- the low key's length; the regained bytes are inside it
  low_size : length n.low ≡ word_suffix (low_word_at fanout slots d)
  unfolding low_at low_word suffix_at
  low_size =
      let w = low_word_at fanout slots d in
      let end : word_offset w + (word_suffix w + word_value w) ≤ top = order_top _ (map word_extent (words_at fanout slots d)) top pairs_ordered in
      ap length (sym t.lays.here.low_is) ∙ length-part arena (word_offset w) (word_suffix w) (less (word_offset w) (word_suffix w) (word_value w) end)
    where
      less : (o s v : ℕ) → o + (s + v) ≤ top → o + s ≤ length arena
      less o s v h = omega (arith, room_fits)

  pub from_ahead : from + g ≤ word_offset (low_word_at fanout slots d) + (word_suffix (low_word_at fanout slots d) + word_value (low_word_at fanout slots d))
  from_ahead = less (word_offset (low_word_at fanout slots d)) (word_suffix (low_word_at fanout slots d)) (word_value (low_word_at fanout slots d)) t.from_is low_size
    where
      less : (o s v : ℕ) → from ≡ o + (p - g) → length n.low ≡ s → from + g ≤ o + (s + v)
      less o s v e f = omega (arith, t.shorter, t.low_long)

  pub from_long : length (part arena from g) ≡ g
  from_long = length-part arena from g (omega (arith, from_ahead, room_fits, order_top _ (map word_extent (words_at fanout slots d)) top pairs_ordered))

  low_bytes : part arena from g ≡ part n.low (p - g) g
  unfolding low_at low_word suffix_at
  low_bytes =
      let w = low_word_at fanout slots d in
      sym (ap (λ (x : List ℕ). part x (p - g) g) (sym t.lays.here.low_is)
      ∙ part-part arena (word_offset w) (word_suffix w) (p - g) g (less (word_suffix w) low_size) ∙ ap (λ (x : ℕ). part arena x g) (sym t.from_is))
    where
      less : (s : ℕ) → length n.low ≡ s → p - g + g ≤ s
      less s f = omega (arith, t.shorter, t.low_long)

  prefix_is : take (p - g) n.low ++ part arena from g ≡ take p n.low
  prefix_is =
      let q : p - g + g ≡ p = omega (arith, t.shorter) in
      rw low_bytes (sym (take-add (p - g) g n.low) ∙ ap (λ (x : ℕ). take x n.low) q)

  from_none : 0 + length (words_at fanout slots d) ≡ word_count d
  from_none = zero-add (length (words_at fanout slots d)) ∙ count_long

  module _ (now : List ℕ) (is : now ≡ regrown_arena arena (part arena from g) g 0 (words_at fanout slots d)) where
    now_long : length now ≡ length arena
    now_long = rw is (regrown_long arena (part arena from g) g (word_count d) top from_long room_fits 0 _ (words_at fanout slots d) from_none pairs_ordered)

    kept_low : (x m : ℕ) → x + m ≤ word_offset (low_word_at fanout slots d) + (word_suffix (low_word_at fanout slots d) + word_value (low_word_at fanout slots d)) → part now x m ≡ part arena x m
    kept_low x m h =
        rw is (regrown_before arena (part arena from g) g (word_count d) top from_long room_fits 0
        (word_offset (low_word_at fanout slots d) + (word_suffix (low_word_at fanout slots d) + word_value (low_word_at fanout slots d)))
        (words_at fanout slots d) from_none pairs_ordered x m (omega (arith, h, zero-mul g)))

    kept_high : (x m : ℕ) → top + word_count d * g ≤ x → part now x m ≡ part arena x m
    kept_high x m h =
        rw is (regrown_after arena (part arena from g) g (word_count d) top from_long room_fits 0
        (word_offset (low_word_at fanout slots d) + (word_suffix (low_word_at fanout slots d) + word_value (low_word_at fanout slots d)))
        (words_at fanout slots d) from_none pairs_ordered x m h)

    same_ahead : All (SameBytes arena now) (words_of (lent fanout slots arena) fs)
    unfolding low_word
    same_ahead =
        let b = lent fanout slots arena in
        let w = low_word_at fanout slots d in
        all_mono (words_of b fs) (λ v q. kept_low (word_offset v) (word_suffix v + word_value v) (omega (arith, q)))
        (all_words (λ e. e.at + e.size ≤ word_offset w) (words_of b fs) (order_before 0 (extents b fs) (word_offset w) parts.0))

    same_low : SameBytes arena now (low_word (lent fanout slots arena) d)
    unfolding low_word
    same_low =
        let w = low_word_at fanout slots d in
        kept_low (word_offset w) (word_suffix w + word_value w) (omega arith)

    same_behind : All (SameBytes arena now) (words_of (lent fanout slots arena) bs)
    same_behind =
        let b = lent fanout slots arena in
        all_mono (words_of b bs) (λ v q. kept_high (word_offset v) (word_suffix v + word_value v) q)
        (all_words (λ e. top + word_count d * g ≤ e.at) (words_of b bs) (order_after (top + word_count d * g) (extents b bs) (length arena) t.room))

    pairs_are : map (pair_at now (take (p - g) n.low)) (regrown_words g 0 (words_at fanout slots d)) ≡ n.pairs
    unfolding slot_words
    pairs_are =
        pairs_regrown arena now (take (p - g) n.low) (part arena from g) g (word_count d) top from_long room_fits 0 _ (words_at fanout slots d) from_none pairs_ordered
        t.suffixes_fit (λ x m q. ap (λ (y : List ℕ). part y x m) is)
        ∙ rw prefix_is t.lays.here.pairs_are

    ordered_now : WordsIn 0 (words_of (lent fanout slots arena) fs ++ (low_word (lent fanout slots arena) d ∷ (regrown_words g 0 (words_at fanout slots d) ++ words_of (lent fanout slots arena) bs)))
        (length now)
    unfolding low_word
    ordered_now =
        let b = lent fanout slots arena in
        let w = low_word_at fanout slots d in
        let end = word_offset w + (word_suffix w + word_value w) in
        let us = regrown_words g 0 (words_at fanout slots d) in
        let base : end + 0 * g ≡ end = rw zero-mul (add-zero end) in
        let mid : WordsIn end us (top + word_count d * g) =
        subst (λ (x : ℕ). WordsIn x us (top + word_count d * g)) base (order_regrown g (word_count d) top 0 end (words_at fanout slots d) from_none pairs_ordered t.suffixes_fit) in
        let back : WordsIn end (us ++ words_of b bs) (length arena) =
        rw (map-append word_extent us (words_of b bs)) (order_append end (map word_extent us) (extents b bs) (top + word_count d * g) (length arena) mid t.room) in
        rw (now_long, map-append word_extent (words_of b fs) (w ∷ (us ++ words_of b bs)))
        (order_insert 0 (extents b fs) (map word_extent (us ++ words_of b bs)) (word_extent w) (length arena) parts.0 back)

    pub regrown_lays : (now_slots : List ℕ) → now_slots ≡ put slots (first_slot fanout (word_leaf d)) (regrown_words g 0 (words_at fanout slots d))
        → RegrownList fanout d g now_slots now fs bs qs p rs l n r
    regrown_lays now_slots e =
        let b = lent fanout slots arena in
        let us = regrown_words g 0 (words_at fanout slots d) in
        let many : length us ≡ word_count d = regrown_count g 0 (words_at fanout slots d) ∙ count_long in
        let start : now_slots ≡ put slots (first_slot fanout (word_leaf d) + 0) us = rw add-zero e in
        record {
          lays = edit_words now_slots now 0 us d (p - g) us n.pairs t.lays t.owns start (omega (arith, many, t.owns.count_fits)) same_ahead same_low same_behind
              refl t.lays.here.count_is
              (region_words t.owns now_slots now 0 us start d 0 refl (omega (arith, many)) (omega arith) ∙ append-nil us) pairs_are ordered_now;
          owns = owns_kept now_slots now d t.owns (ap length e ∙ length-put slots (first_slot fanout (word_leaf d)) us (omega (arith, many, t.owns.inside, t.owns.count_fits))) refl
              t.owns.count_fits;
        }
