-- A slot word of a leaf put in, taken out and replaced; and the pair of a word whose bytes were written.
-- Assumes nothing.
use Rattle.std.specs.Prelude.{◌-◌, ◌≤◌, ◌<◌, suc, ℕ, ◌+◌, List, [], ◌++◌, ◌∷◌, map, ◌≡◌, refl, drop, get_or, length, take}
use Rattle.std.proofs.Common.{append-nil, ap, ◌∙◌, sym, arith, length-append, length-drop, take-take}
use Rattle.std.proofs.lemmas.List.{map-append}
use Rattle.std.proofs.Math.Seq.{drop-append_seam, take-length, take-append_seam}
use Rattle.layout.proofs.AroundLaws.{within_neighbours, behind_cons, ordered_at}
use Rattle.layout.specs.Around.{LaysAround, words_before, words_behind}
use Rattle.layout.specs.Buffers.{suffix_at, value_at, value_place, Buffers, pair_at, slot_words}
use Rattle.layout.proofs.EditLaws.{pair_here, edit_tail, map-drop, words_long}
use Rattle.layout.proofs.FrameLaws.{bytes_frame, same_pairs, all_of}
use Rattle.layout.specs.Frames.{SameBytes, WordsIn, first_of, rewritten}
use Rattle.layout.specs.Order.{word_extent, words_of}
use Rattle.layout.proofs.OrderLaws.{order_top, order_insert, order_remove}
use Rattle.layout.specs.Regions.{Owns}
use Rattle.layout.proofs.RegionLaws.{region_words, words_from}
use Rattle.lists.specs.All.{all_left, all_right, All}
use Rattle.lists.proofs.PartLaws.{part-part, part-put, part-put_before, length-part, length-put}
use Rattle.lists.specs.Part.{part, put}
use Rattle.model.specs.Leaves.{Node, with_pairs}
use Rattle.model.specs.Map.{Pair, pair}
use Rattle.order.specs.Bytes.{Bytes}
use Rattle.words.specs.Words.{word_count, word_leaf, word_offset, word_suffix, word_value}

-- the pair of a word whose suffix and value were written at its place
pub pair_written : (arena now : List ℕ) (w : ℕ) (prefix suffix value : Bytes) → now ≡ put arena (word_offset w) (suffix ++ value) → word_suffix w ≡ length suffix
    → word_value w ≡ length value → word_offset w ≤ length arena → pair_at now prefix w ≡ pair (prefix ++ suffix) value
unfolding pair_at suffix_at value_at
pair_written arena now w prefix suffix value is e f h =
    let whole : part now (word_offset w) (length suffix + length value) ≡ suffix ++ value =
    rw (is, ← length-append suffix value) (part-put arena (word_offset w) (suffix ++ value) h) in
    let one : part now (word_offset w) (word_suffix w) ≡ suffix =
    rw e (sym (take-take (length suffix) (length suffix + length value) (drop (word_offset w) now) (omega arith)) ∙ ap (take (length suffix)) whole ∙ take-append_seam suffix value) in
    let two : part now (value_place w) (word_value w) ≡ value =
    rw (e, f) (sym (part-part now (word_offset w) (length suffix + length value) (length suffix) (length value) (omega arith))
    ∙ ap (λ (r : List ℕ). part r (length suffix) (length value)) whole ∙ ap (take (length value)) (drop-append_seam suffix value) ∙ take-length value) in
    rw (one, two)

-- the word w put in before the j-th, the k words from there on moved up by one

module _ {b : Buffers} {fs : List ℕ} {d : ℕ} {bs qs : List ℕ} {p : ℕ} {rs : List ℕ} {l : List Node} {n : Node} {r : List Node} (slots arena : List ℕ) (e j k w : ℕ)
    (h : LaysAround b fs d bs qs p rs l n r) (o : Owns b fs d bs) (whole : j + k ≡ word_count d) (fits : word_count d + 1 < b.fanout)
    (is : slots ≡ put b.slots (first_of b d + j) (w ∷ part b.slots (first_of b d + j) k))
    (leaf : word_leaf e ≡ word_leaf d) (count : word_count e ≡ word_count d + 1) where
  moved_long : length (part b.slots (first_of b d + j) k) ≡ k
  moved_long = length-part b.slots (first_of b d + j) k (omega (arith, o.inside))

  pub put_in_words : slot_words (rewritten b slots arena) e ≡ take j (slot_words b d) ++ (w ∷ drop j (slot_words b d))
  put_in_words =
      region_words o slots arena j (w ∷ part b.slots (first_of b d + j) k) is e 0 leaf (omega (arith, moved_long)) (omega arith)
      ∙ rw (append-nil, words_from b d (first_of b d + j) j k refl whole)

  pub put_in : All (SameBytes b.arena arena) (words_before b fs d j) → All (SameBytes b.arena arena) (words_behind b d bs j)
      → WordsIn 0 (words_before b fs d j) (word_offset w) → WordsIn (word_offset w + (word_suffix w + word_value w)) (words_behind b d bs j) (length arena)
      → LaysAround (rewritten b slots arena) fs e bs qs p rs l (with_pairs n (take j n.pairs ++ (pair_at arena (take p n.low) w ∷ drop j n.pairs))) r
  put_in kb kr x y =
      let ws = slot_words b d in
      edit_tail slots arena j _ e (w ∷ drop j ws) _ h o is (omega (arith, moved_long)) (omega arith)
      kb (all_right (SameBytes b.arena arena) (drop j ws) (words_of b bs) kr) leaf
      (rw length-drop (omega (arith, words_long h.here))) put_in_words
      (rw (
        same_pairs b.arena arena (take p n.low) (drop j ws) (all_left (SameBytes b.arena arena) (drop j ws) (words_of b bs) kr),
        map-drop (pair_at b.arena (take p n.low)) j ws,
        h.here.pairs_are,
      ))
      (rw (map-append word_extent (words_before b fs d j) (w ∷ words_behind b d bs j))
      (order_insert 0 (map word_extent (words_before b fs d j)) (map word_extent (words_behind b d bs j)) (word_extent w) (length arena) x y))

  -- its suffix and value written too
  pub put_in_written : (suffix value : Bytes) → arena ≡ put b.arena (word_offset w) (suffix ++ value) → word_suffix w ≡ length suffix → word_value w ≡ length value
      → WordsIn 0 (words_before b fs d j) (word_offset w) → WordsIn (word_offset w + (word_suffix w + word_value w)) (words_behind b d bs j) (length b.arena)
      → LaysAround (rewritten b slots arena) fs e bs qs p rs l (with_pairs n (take j n.pairs ++ (pair (take p n.low ++ suffix) value ∷ drop j n.pairs))) r
  put_in_written suffix value as_put ws wv x y =
      let end : word_offset w + (word_suffix w + word_value w) ≤ length b.arena = order_top _ (map word_extent (words_behind b d bs j)) _ y in
      let sum : length (suffix ++ value) ≡ word_suffix w + word_value w = rw length-append (omega arith) in
      let same : length arena ≡ length b.arena = ap length as_put ∙ length-put b.arena (word_offset w) (suffix ++ value) (rw sum end) in
      let k = bytes_frame b.arena arena (word_offset w) (suffix ++ value) (words_before b fs d j) (words_behind b d bs j) as_put x (rw sum y) in
      rw (pair_written b.arena arena w (take p n.low) suffix value as_put ws wv (omega arith)) at
      (put_in (all_left (SameBytes b.arena arena) (words_before b fs d j) (words_behind b d bs j) k)
      (all_right (SameBytes b.arena arena) (words_before b fs d j) (words_behind b d bs j) k) x (rw same y))

-- the j-th word taken out, the k words behind it moved down by one

module _ {b : Buffers} {fs : List ℕ} {d : ℕ} {bs qs : List ℕ} {p : ℕ} {rs : List ℕ} {l : List Node} {n : Node} {r : List Node} (slots : List ℕ) (e j k : ℕ)
    (h : LaysAround b fs d bs qs p rs l n r) (o : Owns b fs d bs) (whole : j + 1 + k ≡ word_count d)
    (is : slots ≡ put b.slots (first_of b d + j) (part b.slots (first_of b d + j + 1) k))
    (leaf : word_leaf e ≡ word_leaf d) (count : word_count e + 1 ≡ word_count d) where
  rest_long : length (part b.slots (first_of b d + j + 1) k) ≡ k
  rest_long = length-part b.slots (first_of b d + j + 1) k (omega (arith, o.inside, o.count_fits))

  pub take_out_words : slot_words (rewritten b slots b.arena) e ≡ take j (slot_words b d) ++ drop (suc j) (slot_words b d)
  take_out_words =
      region_words o slots b.arena j _ is e 0 leaf (omega (arith, rest_long)) (omega arith)
      ∙ rw (append-nil, words_from b d (first_of b d + j + 1) (suc j) k (omega arith) (omega arith))

  pub take_out : LaysAround (rewritten b slots b.arena) fs e bs qs p rs l (with_pairs n (take j n.pairs ++ drop (suc j) n.pairs)) r
  take_out =
      edit_tail slots b.arena j _ e (drop (suc j) (slot_words b d)) _ h o is (omega (arith, rest_long, o.count_fits)) (omega arith)
      (all_of (λ v. refl) (words_before b fs d j)) (all_of (λ v. refl) (words_of b bs)) leaf
      (rw length-drop (omega (arith, words_long h.here))) take_out_words
      (rw (map-drop (pair_at b.arena (take p n.low)) (suc j) (slot_words b d), h.here.pairs_are))
      (rw (map-append word_extent (words_before b fs d j) (words_behind b d bs (suc j)))
      (order_remove 0 (map word_extent (words_before b fs d j)) (word_extent (get_or (slot_words b d) j 0) ∷ []) (map word_extent (words_behind b d bs (suc j))) (length b.arena)
      (rw (behind_cons b d bs j (omega (arith, words_long h.here))) at (ordered_at h j))))

-- the j-th word replaced by w, bytes written that no other part holds

module _ {b : Buffers} {fs : List ℕ} {d : ℕ} {bs qs : List ℕ} {p : ℕ} {rs : List ℕ} {l : List Node} {n : Node} {r : List Node} (slots arena : List ℕ) (j w : ℕ)
    (h : LaysAround b fs d bs qs p rs l n r) (o : Owns b fs d bs) (few : j < word_count d) (is : slots ≡ put b.slots (first_of b d + j) (w ∷ [])) where
  pub replace_words : slot_words (rewritten b slots arena) d ≡ take j (slot_words b d) ++ (w ∷ drop (suc j) (slot_words b d))
  replace_words =
      let k : j + (1 + (word_count d - (j + 1))) ≡ word_count d = omega arith in
      region_words o slots arena j (w ∷ []) is d (word_count d - (j + 1)) refl (sym k) (omega arith)
      ∙ rw (words_from b d (first_of b d + j + 1) (suc j) (word_count d - (j + 1)) (omega arith) (omega arith))

  pub replace_word : All (SameBytes b.arena arena) (words_before b fs d j) → All (SameBytes b.arena arena) (words_behind b d bs (suc j))
      → WordsIn 0 (words_before b fs d j) (word_offset w) → WordsIn (word_offset w + (word_suffix w + word_value w)) (words_behind b d bs (suc j)) (length arena)
      → LaysAround (rewritten b slots arena) fs d bs qs p rs l (with_pairs n (take j n.pairs ++ (pair_at arena (take p n.low) w ∷ drop (suc j) n.pairs))) r
  replace_word kb kr x y =
      let g = pair_at b.arena (take p n.low) in
      let ws = slot_words b d in
      edit_tail slots arena j _ d (w ∷ drop (suc j) ws) _ h o is (omega (arith, o.count_fits)) (omega arith)
      kb (all_right (SameBytes b.arena arena) (drop (suc j) ws) (words_of b bs) kr) refl
      (rw length-drop (omega (arith, words_long h.here))) replace_words
      (rw (same_pairs b.arena arena (take p n.low) (drop (suc j) ws) (all_left (SameBytes b.arena arena) (drop (suc j) ws) (words_of b bs) kr), map-drop g (suc j) ws, h.here.pairs_are))
      (rw (map-append word_extent (words_before b fs d j) (w ∷ words_behind b d bs (suc j)))
      (order_insert 0 (map word_extent (words_before b fs d j)) (map word_extent (words_behind b d bs (suc j))) (word_extent w) (length arena) x y))

  -- bytes written at x
  pub replace_written : (x : ℕ) (bytes : List ℕ) → arena ≡ put b.arena x bytes
      → WordsIn 0 (words_before b fs d j) x → WordsIn (x + length bytes) (words_behind b d bs (suc j)) (length b.arena)
      → WordsIn 0 (words_before b fs d j) (word_offset w) → WordsIn (word_offset w + (word_suffix w + word_value w)) (words_behind b d bs (suc j)) (length b.arena)
      → LaysAround (rewritten b slots arena) fs d bs qs p rs l (with_pairs n (take j n.pairs ++ (pair_at arena (take p n.low) w ∷ drop (suc j) n.pairs))) r
  replace_written x bytes as_put xb xr wb wr =
      let k = bytes_frame b.arena arena x bytes (words_before b fs d j) (words_behind b d bs (suc j)) as_put xb xr in
      let long : length arena ≡ length b.arena = ap length as_put ∙ length-put b.arena x bytes (order_top _ (map word_extent (words_behind b d bs (suc j))) _ xr) in
      replace_word (all_left (SameBytes b.arena arena) (words_before b fs d j) (words_behind b d bs (suc j)) k)
      (all_right (SameBytes b.arena arena) (words_before b fs d j) (words_behind b d bs (suc j)) k) wb (rw long wr)

-- a value not longer than the old one, written in its place

value_pair : (arena : List ℕ) (v w : ℕ) (prefix value : Bytes) → word_offset w ≡ word_offset v → word_suffix w ≡ word_suffix v → word_value w ≡ length value
    → value_place v ≤ length arena → pair_at (put arena (value_place v) value) prefix w ≡ pair (pair_at arena prefix v).key value
unfolding pair_at suffix_at value_at
value_pair arena v w prefix value e f g h =
    rw (e, f, g, part-put_before arena (value_place v) value (word_offset v) (word_suffix v) h (omega arith), part-put arena (value_place v) value h)

module _ {b : Buffers} {fs : List ℕ} {d : ℕ} {bs qs : List ℕ} {p : ℕ} {rs : List ℕ} {l : List Node} {n : Node} {r : List Node} (slots arena : List ℕ) (j v w : ℕ)
    (value : Bytes) (h : LaysAround b fs d bs qs p rs l n r) (o : Owns b fs d bs) (few : j < word_count d) (old : v ≡ get_or (slot_words b d) j 0)
    (same_offset : word_offset w ≡ word_offset v) (same_length : word_suffix w ≡ word_suffix v) (long : word_value w ≡ length value) (fits : length value ≤ word_value v)
    (is : slots ≡ put b.slots (first_of b d + j) (w ∷ [])) (as_put : arena ≡ put b.arena (value_place v) value) where
  pub replace_value : (x : Pair)
      → LaysAround (rewritten b slots arena) fs d bs qs p rs l (with_pairs n (take j n.pairs ++ (pair (get_or n.pairs j x).key value ∷ drop (suc j) n.pairs))) r
  replace_value x =
      let k : j < length (slot_words b d) = omega (arith, words_long h.here) in
      let bytes = within_neighbours h j v (value_place v) (value_place v + length value) k old (omega arith) (omega arith) in
      let word = within_neighbours h j v (word_offset w) (word_offset w + (word_suffix w + word_value w)) k old (omega arith) (omega arith) in
      let inside : value_place v + length value ≤ length b.arena = order_top _ (map word_extent (words_behind b d bs (suc j))) _ bytes.1 in
      let is_pair : pair_at arena (take p n.low) w ≡ pair (get_or n.pairs j x).key value =
      rw (as_put, pair_here h.here x j few, ← old) (value_pair b.arena v w (take p n.low) value same_offset same_length long (omega arith)) in
      rw is_pair at (replace_written slots arena j w h o few is (value_place v) value as_put bytes.0 bytes.1 word.0 word.1)
