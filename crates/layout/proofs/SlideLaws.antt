-- One part of a leaf slid between its two neighbours, over its own old place or not: the leaf list laid out is the same.
-- Assumes nothing.
use Rattle.std.specs.Prelude.{◌-◌, ◌<◌, suc, ℕ, ◌+◌, ◌≤◌, ◌++◌, map, List, [], ◌∷◌, refl, ◌≡◌, drop, take, get_or, length}
use Rattle.std.proofs.lemmas.List.{map-append}
use Rattle.std.proofs.Common.{◌∙◌, ap, subst, sym, arith}
use Rattle.std.proofs.Math.Seq.{split_at}
use Rattle.layout.proofs.AroundLaws.{low_neighbours, neighbours}
use Rattle.layout.specs.Around.{LaysAround, words_before, words_behind}
use Rattle.layout.specs.Buffers.{suffix_at, low_at, pair_at, Buffers, low_word, slot_words}
use Rattle.layout.proofs.EditLaws.{edit_leaf, pair_here, words_long}
use Rattle.layout.specs.Frames.{SameBytes, WordsIn, first_of, rewritten}
use Rattle.layout.proofs.FrameLaws.{bytes_frame, moved_suffix, same_leaves, same_pairs, moved_pair}
use Rattle.layout.specs.Order.{extents, word_extent, words_of}
use Rattle.layout.proofs.OrderLaws.{order_insert, order_top}
use Rattle.layout.specs.Regions.{Owns}
use Rattle.layout.proofs.RegionLaws.{low_words, low_written, region_ahead, region_behind}
use Rattle.layout.proofs.SlotLaws.{replace_written}
use Rattle.lists.specs.All.{All, all_left, all_right}
use Rattle.lists.proofs.PartLaws.{length-part, part-put, length-put}
use Rattle.lists.specs.Part.{part, put}
use Rattle.model.specs.Leaves.{Node}
use Rattle.model.specs.Map.{Pair}
use Rattle.words.specs.Words.{low_key_slot, word_count, word_leaf, word_offset, word_suffix, word_value}

-- the part of v moved to w's place is there
module _ (arena now : List ℕ) (v w : ℕ) (inside : word_offset v + (word_suffix v + word_value v) ≤ length arena) (below : word_offset w ≤ length arena)
    (is : now ≡ put arena (word_offset w) (part arena (word_offset v) (word_suffix v + word_value v))) where
  slid_long : length (part arena (word_offset v) (word_suffix v + word_value v)) ≡ word_suffix v + word_value v
  slid_long = length-part arena (word_offset v) (word_suffix v + word_value v) inside

  slid_bytes : part now (word_offset w) (word_suffix v + word_value v) ≡ part arena (word_offset v) (word_suffix v + word_value v)
  slid_bytes =
      let s = part arena (word_offset v) (word_suffix v + word_value v) in
      rw is (subst (λ (i : ℕ). part (put arena (word_offset w) s) (word_offset w) i ≡ s) slid_long (part-put arena (word_offset w) s below))

-- the j-th slot word v becomes w, the bytes of its part moved there
pub slide_word : {b : Buffers} {fs : List ℕ} {d : ℕ} {bs qs : List ℕ} {p : ℕ} {rs : List ℕ} {l : List Node} {n : Node} {r : List Node} (slots arena : List ℕ) (j v w : ℕ)
    → LaysAround b fs d bs qs p rs l n r → Owns b fs d bs → j < word_count d → v ≡ get_or (slot_words b d) j 0 → word_suffix w ≡ word_suffix v → word_value w ≡ word_value v
    → slots ≡ put b.slots (first_of b d + j) (w ∷ [])
    → arena ≡ put b.arena (word_offset w) (part b.arena (word_offset v) (word_suffix v + word_value v))
    → WordsIn 0 (words_before b fs d j) (word_offset w) → WordsIn (word_offset w + (word_suffix w + word_value w)) (words_behind b d bs (suc j)) (length b.arena)
    → LaysAround (rewritten b slots arena) fs d bs qs p rs l n r
slide_word {b} {fs} {d} {bs} {qs} {p} {rs} {l} {n} {r} slots arena j v w h o few old e f is as_put wb wr =
    let prefix = take p n.low in
    let x = pair_at arena prefix w in
    let size = word_suffix v + word_value v in
    let upper = map word_extent (words_behind b d bs (suc j)) in
    let near = neighbours h j v (omega (arith, words_long h.here)) old in
    let inside : word_offset v + size ≤ length b.arena = order_top (word_offset v + size) upper (length b.arena) near.1 in
    let below : word_offset w ≤ length b.arena = omega (arith, order_top (word_offset w + (word_suffix w + word_value w)) upper (length b.arena) wr) in
    let long : length (part b.arena (word_offset v) size) ≡ word_suffix w + word_value w = omega (arith, slid_long b.arena arena v w inside below as_put) in
    let same : x ≡ pair_at b.arena prefix v = moved_pair b.arena arena v w e f (slid_bytes b.arena arena v w inside below as_put) prefix in
    let all : take j n.pairs ++ (x ∷ drop (suc j) n.pairs) ≡ n.pairs =
    ap (λ (y : Pair). take j n.pairs ++ (y ∷ drop (suc j) n.pairs)) (same ∙ ap (pair_at b.arena prefix) old ∙ sym (pair_here h.here x j few))
    ∙ sym (split_at n.pairs j x (omega (arith, h.here.count_is))) in
    rw all at (replace_written slots arena j w h o few is (word_offset w) (part b.arena (word_offset v) size) as_put wb (rw long wr) wb wr)

-- the low-key word v becomes w, the bytes of the low key moved there
pub slide_low : {b : Buffers} {fs : List ℕ} {d : ℕ} {bs qs : List ℕ} {p : ℕ} {rs : List ℕ} {l : List Node} {n : Node} {r : List Node} (slots arena : List ℕ) (v w : ℕ)
    → LaysAround b fs d bs qs p rs l n r → Owns b fs d bs → v ≡ low_word b d → word_suffix w ≡ word_suffix v → word_value w ≡ word_value v
    → slots ≡ put b.slots (low_key_slot b.fanout (word_leaf d)) (w ∷ [])
    → arena ≡ put b.arena (word_offset w) (part b.arena (word_offset v) (word_suffix v + word_value v))
    → WordsIn 0 (words_of b fs) (word_offset w) → WordsIn (word_offset w + (word_suffix w + word_value w)) (words_behind b d bs 0) (length b.arena)
    → LaysAround (rewritten b slots arena) fs d bs qs p rs l n r
unfolding low_at
slide_low {b} {fs} {d} {bs} {qs} {p} {rs} {l} {n} {r} slots arena v w h o old e f is as_put wb wr =
    let c = rewritten b slots arena in
    let Same = SameBytes b.arena arena in
    let size = word_suffix v + word_value v in
    let upper = map word_extent (words_behind b d bs 0) in
    let near = low_neighbours h v old in
    let inside : word_offset v + size ≤ length b.arena = order_top (word_offset v + size) upper (length b.arena) near.1 in
    let below : word_offset w + (word_suffix w + word_value w) ≤ length b.arena = order_top (word_offset w + (word_suffix w + word_value w)) upper (length b.arena) wr in
    let long : length (part b.arena (word_offset v) size) ≡ word_suffix w + word_value w = omega (arith, slid_long b.arena arena v w inside (omega arith) as_put) in
    let kept : All Same (words_of b fs ++ words_behind b d bs 0) =
    bytes_frame b.arena arena (word_offset w) (part b.arena (word_offset v) size) (words_of b fs) (words_behind b d bs 0) as_put wb (rw long wr) in
    let rest : All Same (slot_words b d ++ words_of b bs) = all_right Same (words_of b fs) (words_behind b d bs 0) kept in
    let sized : length arena ≡ length b.arena =
    ap length as_put ∙ length-put b.arena (word_offset w) (part b.arena (word_offset v) size) (rw long below) in
    edit_leaf d p w (slot_words b d) n.pairs h
    (same_leaves b c fs (region_ahead o slots arena (b.fanout - 1) (w ∷ []) is (omega (arith, o.count_fits))) (all_left Same (words_of b fs) (words_behind b d bs 0) kept))
    (same_leaves b c bs (region_behind o slots arena (b.fanout - 1) (w ∷ []) is (omega (arith, o.count_fits))) (all_right Same (slot_words b d) (words_of b bs) rest))
    refl (low_written o slots arena w is)
    (moved_suffix b.arena arena v w e f (slid_bytes b.arena arena v w inside (omega arith) as_put) ∙ ap (suffix_at b.arena) old ∙ h.here.low_is)
    (f ∙ ap (λ (u : ℕ). word_value u) old ∙ h.here.no_value) (low_words o slots arena w is)
    (same_pairs b.arena arena (take p n.low) (slot_words b d) (all_left Same (slot_words b d) (words_of b bs) rest) ∙ h.here.pairs_are) h.here.count_is
    (rw (sized, map-append word_extent (words_of b fs) (w ∷ words_behind b d bs 0)) (order_insert 0 (extents b fs) upper (word_extent w) (length b.arena) wb wr))
