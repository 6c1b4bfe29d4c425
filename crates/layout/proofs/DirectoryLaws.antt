-- A leaf cut in two, the right half in the region of a free leaf; and a leaf that takes over the slot words of the next one, which is dropped.
-- Assumes nothing.
use Rattle.std.specs.Prelude.{◌-◌, ℕ, ◌+◌, ◌≤◌, [], ◌++◌, map, List, ◌∷◌, ◌≡◌, refl, drop, length, take}
use Rattle.std.proofs.Common.{append-nil, append_assoc, ◌∙◌, ap, sym, add-zero, arith, take-take}
use Rattle.std.proofs.lemmas.List.{map-append}
use Rattle.std.proofs.Math.ListN.{length-drop, length-take}
use Rattle.layout.proofs.AroundLaws.{before_kept, behind_kept, write_around}
use Rattle.layout.specs.Around.{LaysAround, words_before, words_behind}
use Rattle.layout.specs.Buffers.{Buffers, low_at, low_word, pair_at, slot_words, suffix_at}
use Rattle.layout.proofs.EditLaws.{edit_all, words_long, map-drop, map-take}
use Rattle.layout.specs.Frames.{Elsewhere, rewritten, SameLeaf, SameWords, WordsIn, first_of}
use Rattle.layout.proofs.FrameLaws.{same_words, all_of, same_each, same_leaves}
use Rattle.layout.specs.Lays.{LaysLeaf}
use Rattle.layout.specs.Order.{leaf_words, word_extent, words_of}
use Rattle.layout.proofs.OrderLaws.{order_top, order_remove, order_insert}
use Rattle.layout.proofs.RegionLaws.{owns_kept, low_words, low_written, region_ahead, region_behind, region_words, words_from}
use Rattle.layout.specs.Regions.{Owns}
use Rattle.lists.specs.All.{all_append, all_both, all_left, all_mono, all_right, All}
use Rattle.lists.proofs.PartLaws.{part-put, length-part, length-put}
use Rattle.lists.specs.Part.{part, put}
use Rattle.model.specs.Leaves.{Node, node, with_pairs}
use Rattle.order.specs.Bytes.{Bytes}
use Rattle.words.specs.Words.{low_key_slot, word_count, word_leaf, word_offset, word_suffix, word_value}

-- fewer words of the same leaf
words_fewer : (b : Buffers) (d e : ℕ) → word_leaf e ≡ word_leaf d → word_count e ≤ word_count d → slot_words b e ≡ take (word_count e) (slot_words b d)
unfolding slot_words
words_fewer b d e i h = rw i (sym (take-take (word_count e) (word_count d) (drop (first_of b d) b.slots) h))

low_same : (b : Buffers) (d e : ℕ) → word_leaf e ≡ word_leaf d → low_word b e ≡ low_word b d
unfolding low_word
low_same b d e i = rw i

same_through : (a b c : Buffers) (ds : List ℕ) → All (SameWords a b) ds → All (SameWords b c) ds → All (SameWords a c) ds
same_through a b c ds s t =
    all_mono ds (λ d q. record { low_word_eq = q.1.low_word_eq ∙ q.0.low_word_eq; words = q.1.words ∙ q.0.words }) (all_both (SameWords a b) (SameWords b c) ds s t)

-- all words of the two halves known, all other leaves as they were
module _ {b c : Buffers} {fs : List ℕ} {d : ℕ} {bs qs : List ℕ} {p : ℕ} {rs : List ℕ} {l : List Node} {n : Node} {r : List Node} (d₁ d₂ j k w : ℕ) (low : Bytes)
    (h : LaysAround b fs d bs qs p rs l n r) (arena : c.arena ≡ b.arena) (ahead : All (SameWords b c) fs) (here : SameWords b c d) (behind : All (SameWords b c) bs)
    (whole : j + k ≡ word_count d) (leaf : word_leaf d₁ ≡ word_leaf d) (left : word_count d₁ ≡ j) (right : word_count d₂ ≡ k)
    (words : slot_words c d₂ ≡ drop j (slot_words b d)) (low_is : low_word c d₂ ≡ w) (no_value : word_value w ≡ 0) (bytes : suffix_at b.arena w ≡ low)
    (prefix : take p low ≡ take p n.low)
    (under : WordsIn 0 (words_before b fs d j) (word_offset w)) (over : WordsIn (word_offset w + (word_suffix w + word_value w)) (words_behind b d bs j) (length b.arena)) where
  same_of : (ds : List ℕ) → All (SameWords b c) ds → All (SameLeaf b c) ds
  same_of ds s = same_leaves b c ds s (all_of (λ v. rw arena) (words_of b ds))

  left_words : slot_words c d₁ ≡ take j (slot_words b d)
  left_words = rw left at (words_fewer c d d₁ leaf (omega arith)) ∙ ap (take j) here.words

  left_low : low_word c d₁ ≡ low_word b d
  left_low = low_same c d d₁ leaf ∙ here.low_word_eq

  left_leaf : LaysLeaf c p d₁ (with_pairs n (take j n.pairs))
  unfolding low_at
  left_leaf =
      record {
        number_is = leaf ∙ h.here.number_is;
        count_is = left ∙ rw length-take (omega (arith, h.here.count_is));
        low_is = rw (left_low, arena) h.here.low_is;
        no_value = rw left_low h.here.no_value;
        pairs_are = rw (left_words, arena, map-take (pair_at b.arena (take p n.low)) j (slot_words b d), h.here.pairs_are);
      }

  right_leaf : LaysLeaf c p d₂ (node (word_leaf d₂) low (drop j n.pairs))
  unfolding low_at
  right_leaf =
      record {
        number_is = refl;
        count_is = right ∙ rw length-drop (omega (arith, h.here.count_is));
        low_is = rw (low_is, arena) bytes;
        no_value = rw low_is no_value;
        pairs_are = rw (words, arena, prefix, map-drop (pair_at b.arena (take p n.low)) j (slot_words b d), h.here.pairs_are);
      }

  pub cut_known : LaysAround c fs d₁ (d₂ ∷ bs) qs p (p ∷ rs) l (with_pairs n (take j n.pairs)) (node (word_leaf d₂) low (drop j n.pairs) ∷ r)
  cut_known =
      record {
        ahead = same_each b c qs fs l (same_of fs ahead) h.ahead;
        here = left_leaf;
        behind = (right_leaf, same_each b c rs bs r (same_of bs behind) h.behind);
        ordered =
            rw (
              left_low,
              left_words,
              low_is,
              words,
              same_words b c fs (same_of fs ahead),
              same_words b c bs (same_of bs behind),
              arena,
              ← append_assoc (words_of b fs) (low_word b d ∷ take j (slot_words b d)) (w ∷ words_behind b d bs j),
              map-append word_extent (words_before b fs d j) (w ∷ words_behind b d bs j),
            )
            (order_insert 0 (map word_extent (words_before b fs d j)) (map word_extent (words_behind b d bs j)) (word_extent w) (length b.arena) under over);
      }

-- the words from the j-th on copied to the region of a leaf that no directory word names, its low-key word written
module _ {b : Buffers} {fs : List ℕ} {d : ℕ} {bs qs : List ℕ} {p : ℕ} {rs : List ℕ} {l : List Node} {n : Node} {r : List Node} (slots : List ℕ) (d₁ d₂ j k w : ℕ)
    (h : LaysAround b fs d bs qs p rs l n r) (o : Owns b fs d bs) (free : Owns b (fs ++ (d ∷ [])) d₂ bs)
    (whole : j + k ≡ word_count d) (leaf : word_leaf d₁ ≡ word_leaf d) (left : word_count d₁ ≡ j) (right : word_count d₂ ≡ k)
    (is : slots ≡ put (put b.slots (first_of b d₂) (part b.slots (first_of b d + j) k)) (low_key_slot b.fanout (word_leaf d₂)) (w ∷ [])) where
  pub cut_leaf : (low : Bytes) → word_value w ≡ 0 → suffix_at b.arena w ≡ low → take p low ≡ take p n.low
      → WordsIn 0 (words_before b fs d j) (word_offset w) → WordsIn (word_offset w + (word_suffix w + word_value w)) (words_behind b d bs j) (length b.arena)
      → LaysAround (rewritten b slots b.arena) fs d₁ (d₂ ∷ bs) qs p (p ∷ rs) l (with_pairs n (take j n.pairs)) (node (word_leaf d₂) low (drop j n.pairs) ∷ r)
  cut_leaf low no_value bytes prefix under over =
      let ws = part b.slots (first_of b d + j) k in
      let copied = put b.slots (first_of b d₂) ws in
      let b₁ = rewritten b copied b.arena in
      let c = rewritten b slots b.arena in
      let long : length ws ≡ k = length-part b.slots (first_of b d + j) k (omega (arith, o.inside, o.count_fits)) in
      let start : copied ≡ put b.slots (first_of b d₂ + 0) ws = rw add-zero in
      let own : Owns b₁ (fs ++ (d ∷ [])) d₂ bs =
      owns_kept copied b.arena d₂ free (length-put b.slots (first_of b d₂) ws (omega (arith, free.inside, free.count_fits))) refl free.count_fits in
      let sa : All (SameWords b c) (fs ++ (d ∷ [])) =
      same_through b b₁ c (fs ++ (d ∷ [])) (region_ahead free copied b.arena 0 ws start (omega (arith, free.count_fits)))
      (region_ahead own slots b.arena (b.fanout - 1) (w ∷ []) is (omega (arith, free.count_fits))) in
      let sb : All (SameWords b c) bs =
      same_through b b₁ c bs (region_behind free copied b.arena 0 ws start (omega (arith, free.count_fits)))
      (region_behind own slots b.arena (b.fanout - 1) (w ∷ []) is (omega (arith, free.count_fits))) in
      cut_known d₁ d₂ j k w low h refl (all_left (SameWords b c) fs (d ∷ []) sa) (all_right (SameWords b c) fs (d ∷ []) sa).0 sb whole leaf left right
      (low_words own slots b.arena w is ∙ region_words free copied b.arena 0 ws start d₂ 0 refl (omega arith) (omega arith)
      ∙ append-nil ws ∙ words_from b d (first_of b d + j) j k refl whole)
      (low_written own slots b.arena w is) no_value bytes prefix under over

  -- each half owns its region
  module _ (long : length slots ≡ length b.slots) where
    pub cut_owns_left : Owns (rewritten b slots b.arena) fs d₁ (d₂ ∷ bs)
    cut_owns_left =
        let t = owns_kept slots b.arena d₁ o long leaf (omega (arith, o.count_fits)) in
        let e = all_right (Elsewhere b.fanout (word_leaf d₂)) fs (d ∷ []) free.others_ahead in
        record {
          inside = t.inside;
          count_fits = t.count_fits;
          others_ahead = t.others_ahead;
          others_behind = (record { other = λ q. e.0.other (sym (q ∙ leaf)); fits = free.count_fits }, t.others_behind);
        }

    pub cut_owns_right : Owns (rewritten b slots b.arena) (fs ++ (d₁ ∷ [])) d₂ bs
    cut_owns_right =
        let P = Elsewhere b.fanout (word_leaf d₂) in
        let e = all_right P fs (d ∷ []) free.others_ahead in
        record {
          inside = rw long free.inside;
          count_fits = free.count_fits;
          others_ahead =
              all_append P fs (d₁ ∷ []) (all_left P fs (d ∷ []) free.others_ahead) (record { other = λ q. e.0.other (sym leaf ∙ q); fits = omega (arith, o.count_fits) }, tt);
          others_behind = free.others_behind;
        }

-- the new leaf's low key written too, where its part is to be
pub cut_written : {b : Buffers} {fs : List ℕ} {d : ℕ} {bs qs : List ℕ} {p : ℕ} {rs : List ℕ} {l : List Node} {n : Node} {r : List Node} (slots arena : List ℕ)
    (d₁ d₂ j k w : ℕ) (low : Bytes) → LaysAround b fs d bs qs p rs l n r → Owns b fs d bs → Owns b (fs ++ (d ∷ [])) d₂ bs
    → j + k ≡ word_count d → word_leaf d₁ ≡ word_leaf d → word_count d₁ ≡ j → word_count d₂ ≡ k
    → slots ≡ put (put b.slots (first_of b d₂) (part b.slots (first_of b d + j) k)) (low_key_slot b.fanout (word_leaf d₂)) (w ∷ [])
    → arena ≡ put b.arena (word_offset w) low → word_suffix w ≡ length low → word_value w ≡ 0 → take p low ≡ take p n.low
    → WordsIn 0 (words_before b fs d j) (word_offset w) → WordsIn (word_offset w + length low) (words_behind b d bs j) (length b.arena)
    → LaysAround (rewritten b slots arena) fs d₁ (d₂ ∷ bs) qs p (p ∷ rs) l (with_pairs n (take j n.pairs)) (node (word_leaf d₂) low (drop j n.pairs) ∷ r)
unfolding suffix_at
cut_written {b} {fs} {d} {bs} {qs} {p} {rs} {l} {n} {r} slots arena d₁ d₂ j k w low h o free whole leaf left right is as_put long no_value prefix under over =
    let top : word_offset w + length low ≤ length b.arena = order_top (word_offset w + length low) (map word_extent (words_behind b d bs j)) (length b.arena) over in
    let same : length arena ≡ length b.arena = ap length as_put ∙ length-put b.arena (word_offset w) low top in
    let end : word_offset w + (word_suffix w + word_value w) ≡ word_offset w + length low = omega arith in
    cut_leaf slots d₁ d₂ j k w (write_around arena j (word_offset w) low h as_put under over) (owns_kept b.slots arena d o refl refl o.count_fits)
    (owns_kept b.slots arena d₂ free refl refl free.count_fits) whole leaf left right is low no_value
    (rw (as_put, long) (part-put b.arena (word_offset w) low (omega arith))) prefix
    (rw (before_kept b arena fs d j) under) (rw (behind_kept b arena d bs j, same, end) over)

-- words left out
words_out : (x y z : List ℕ) (top : ℕ) → WordsIn 0 (x ++ (y ++ z)) top → WordsIn 0 (x ++ z) top
words_out x y z top h =
    rw (map-append word_extent x z) (order_remove 0 (map word_extent x) (map word_extent y) (map word_extent z) top (rw (map-append word_extent x (y ++ z), map-append word_extent y z) at h))

-- the next leaf dropped from the directory
pub forget_next : {b : Buffers} {fs : List ℕ} {d e : ℕ} {bs qs : List ℕ} {p q : ℕ} {rs : List ℕ} {l : List Node} {n m : Node} {r : List Node}
    → LaysAround b fs d (e ∷ bs) qs p (q ∷ rs) l n (m ∷ r) → LaysAround b fs d bs qs p rs l n r
forget_next {b} {fs} {d} {e} {bs} h =
    record {
      ahead = h.ahead;
      here = h.here;
      behind = h.behind.1;
      ordered =
          rw (← append_assoc (words_of b fs) (leaf_words b d) (words_of b bs)) (words_out (words_of b fs ++ leaf_words b d) (leaf_words b e) (words_of b bs) (length b.arena)
          (rw (← append_assoc (words_of b fs) (leaf_words b d) (leaf_words b e ++ words_of b bs)) at h.ordered));
    }

-- the next leaf's slot words copied into this leaf's region, its low key dropped: they are this leaf's, whose low key stays
pub take_over : {b : Buffers} {fs : List ℕ} {d e : ℕ} {bs qs : List ℕ} {p q : ℕ} {rs : List ℕ} {l : List Node} {n m : Node} {r : List Node} (slots : List ℕ) (f : ℕ)
    → LaysAround b fs d (e ∷ bs) qs p (q ∷ rs) l n (m ∷ r) → Owns b fs d (e ∷ bs) → word_leaf f ≡ word_leaf d → word_count f ≡ word_count e
    → slots ≡ put b.slots (first_of b d) (part b.slots (first_of b e) (word_count e)) → take q n.low ≡ take q m.low
    → LaysAround (rewritten b slots b.arena) fs f bs qs q rs l (with_pairs n m.pairs) r
unfolding slot_words
take_over {b} {fs} {d} {e} {bs} {qs} {p} {q} {rs} {l} {n} {m} {r} slots f h o leaf count is prefix =
    let lw = low_word b d in
    let ws = slot_words b e in
    let long : length ws ≡ word_count e = words_long h.behind.0 in
    let own : Owns b fs d bs = record { inside = o.inside; count_fits = o.count_fits; others_ahead = o.others_ahead; others_behind = o.others_behind.1 } in
    edit_all slots f q ws m.pairs (forget_next h) own is (omega (arith, long, o.others_behind.0.fits)) leaf (count ∙ sym long)
    (rw prefix h.behind.0.pairs_are)
    (rw (append_assoc (words_of b fs) (lw ∷ []) (ws ++ words_of b bs)) at
    (words_out (words_of b fs ++ (lw ∷ [])) (slot_words b d ++ (low_word b e ∷ [])) (ws ++ words_of b bs) (length b.arena)
    (rw (append_assoc (slot_words b d) (low_word b e ∷ []) (ws ++ words_of b bs), append_assoc (words_of b fs) (lw ∷ []) (slot_words b d ++ (low_word b e ∷ (ws ++ words_of b bs)))) h.ordered)))
