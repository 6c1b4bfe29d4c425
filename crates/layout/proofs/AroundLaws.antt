-- A leaf list laid out, seen from one of its leaves: to and from `LaysAt`, the words before and behind a place in that leaf and their order,
-- bytes written into the gap there.
-- Assumes nothing.
use Rattle.std.specs.Prelude.{◌<◌, suc, ℕ, ◌+◌, ◌≤◌, map, List, [], ◌++◌, ◌∷◌, ◌≡◌, refl, drop, get_or, length, take}
use Rattle.std.proofs.lemmas.List.{map-append}
use Rattle.std.proofs.Common.{append-nil, append_assoc, ◌∙◌, ap, subst, sym, arith, take-append-drop, drop-cons}
use Rattle.std.proofs.Math.Seq.{split_at}
use Rattle.layout.specs.Buffers.{Buffers, low_word, slot_words}
use Rattle.layout.proofs.FrameLaws.{all_words, write_gap}
use Rattle.layout.specs.Frames.{rewritten, WordsIn}
use Rattle.layout.specs.Lays.{LaysAt}
use Rattle.layout.specs.LaysLaws.{each_prefixes, each_append, each_at, each_cut, each_split, each_words}
use Rattle.layout.specs.Order.{extents, word_extent, leaf_words, words_of, Extent, InOrder, end_of}
use Rattle.layout.proofs.OrderLaws.{order_before, order_left, order_right, order_widen}
use Rattle.lists.specs.All.{all_left, all_right, All}
use Rattle.lists.specs.Part.{put}
use Rattle.model.specs.Leaves.{Node}
use Rattle.words.specs.Words.{word_offset, word_suffix, word_value}
use Rattle.layout.specs.Around.{LaysAround, words_before, words_behind}

words_append : (b : Buffers) (ds es : List ℕ) → words_of b (ds ++ es) ≡ words_of b ds ++ words_of b es
words_append b [] es = refl
words_append b (d ∷ ds) es = rw (words_append b ds es) (sym (append_assoc (leaf_words b d) (words_of b ds) (words_of b es)))

-- to and from `LaysAt`

pub lays_of : {b : Buffers} {fs : List ℕ} {d : ℕ} {bs qs : List ℕ} {p : ℕ} {rs : List ℕ} {l : List Node} {n : Node} {r : List Node}
    → LaysAround b fs d bs qs p rs l n r → LaysAt b (fs ++ (d ∷ bs)) (qs ++ (p ∷ rs)) (l ++ (n ∷ r))
lays_of {b} {fs} {d} {bs} {qs} {p} {rs} {l} {n} {r} h =
    record {
      leaves = each_append b qs (p ∷ rs) fs (d ∷ bs) l (n ∷ r) h.ahead (h.here, h.behind);
      ordered = rw (words_append b fs (d ∷ bs)) h.ordered;
    }

pub around_of : (b : Buffers) (fs : List ℕ) (d : ℕ) (bs qs : List ℕ) (p : ℕ) (rs : List ℕ) (l : List Node) (n : Node) (r : List Node)
    → length qs ≡ length l → length fs ≡ length l → LaysAt b (fs ++ (d ∷ bs)) (qs ++ (p ∷ rs)) (l ++ (n ∷ r)) → LaysAround b fs d bs qs p rs l n r
around_of b fs d bs qs p rs l n r i j h =
    let s = each_split b qs (p ∷ rs) fs (d ∷ bs) l (n ∷ r) i j h.leaves in
    record { ahead = s.0; here = s.1.0; behind = s.1.1; ordered = rw (words_append b fs (d ∷ bs)) at h.ordered }

pub around_at : {b : Buffers} {ds ps : List ℕ} {ns : List Node} → LaysAt b ds ps ns → (x : Node) (j : ℕ) → j < length ns
    → LaysAround b (take j ds) (get_or ds j 0) (drop (suc j) ds) (take j ps) (get_or ps j 0) (drop (suc j) ps) (take j ns) (get_or ns j x) (drop (suc j) ns)
around_at {b} {ds} {ps} {ns} h x j k =
    let n = each_words b ps ds ns h.leaves in
    record {
      ahead = (each_cut b j ps ds ns h.leaves).0;
      here = each_at b x j ps ds ns k h.leaves;
      behind = (each_cut b (suc j) ps ds ns h.leaves).1;
      ordered = rw (words_append b (take j ds) (get_or ds j 0 ∷ drop (suc j) ds)) at
          (subst (λ (z : List ℕ). WordsIn 0 (words_of b z) (length b.arena)) (split_at ds j 0 (omega arith)) h.ordered);
    }

pub lays_back : {c : Buffers} (ds ps : List ℕ) (ns : List Node) (x : Node) (j : ℕ) → j < length ds → j < length ps → j < length ns
    → LaysAround c (take j ds) (get_or ds j 0) (drop (suc j) ds) (take j ps) (get_or ps j 0) (drop (suc j) ps) (take j ns) (get_or ns j x) (drop (suc j) ns) → LaysAt c ds ps ns
lays_back ds ps ns x j hd hp hn l = rw (← split_at ds j 0 hd, ← split_at ps j 0 hp, ← split_at ns j x hn) at (lays_of l)

-- seen from the next leaf, and back
pub around_next : {b : Buffers} {fs : List ℕ} {d e : ℕ} {bs qs : List ℕ} {p q : ℕ} {rs : List ℕ} {l : List Node} {n m : Node} {r : List Node}
    → LaysAround b fs d (e ∷ bs) qs p (q ∷ rs) l n (m ∷ r) → LaysAround b (fs ++ (d ∷ [])) e bs (qs ++ (p ∷ [])) q rs (l ++ (n ∷ [])) m r
around_next {b} {fs} {d} {e} {bs} {qs} {p} {q} {rs} {l} {n} {m} {r} h =
    record {
      ahead = each_append b qs (p ∷ []) fs (d ∷ []) l (n ∷ []) h.ahead (h.here, tt);
      here = h.behind.0;
      behind = h.behind.1;
      ordered = simp (words_append b fs (d ∷ []), append-nil, append_assoc) h.ordered;
    }

pub around_prev : {b : Buffers} {fs : List ℕ} {d e : ℕ} {bs qs : List ℕ} {p q : ℕ} {rs : List ℕ} {l : List Node} {n m : Node} {r : List Node}
    → length qs ≡ length l → length fs ≡ length l
    → LaysAround b (fs ++ (d ∷ [])) e bs (qs ++ (p ∷ [])) q rs (l ++ (n ∷ [])) m r → LaysAround b fs d (e ∷ bs) qs p (q ∷ rs) l n (m ∷ r)
around_prev {b} {fs} {d} {e} {bs} {qs} {p} {q} {rs} {l} {n} {m} {r} i j h =
    let s = each_split b qs (p ∷ []) fs (d ∷ []) l (n ∷ []) i j h.ahead in
    record { ahead = s.0; here = s.1.0; behind = (h.here, h.behind); ordered = simp (words_append b fs (d ∷ []), append-nil, append_assoc) at h.ordered }

pub words_cut : (f : List ℕ) (w : ℕ) (x y r : List ℕ) → f ++ (w ∷ ((x ++ y) ++ r)) ≡ (f ++ (w ∷ x)) ++ (y ++ r)
words_cut f w x y r = simp append_assoc

pub words_here : (b : Buffers) (fs : List ℕ) (d : ℕ) (bs : List ℕ) (j : ℕ)
    → words_of b fs ++ (leaf_words b d ++ words_of b bs) ≡ words_before b fs d j ++ words_behind b d bs j
words_here b fs d bs j =
    ap (λ (ws : List ℕ). words_of b fs ++ (low_word b d ∷ (ws ++ words_of b bs))) (sym (take-append-drop j (slot_words b d)))
    ∙ words_cut (words_of b fs) (low_word b d) (take j (slot_words b d)) (drop j (slot_words b d)) (words_of b bs)

pub words_around : (b : Buffers) (fs : List ℕ) (d : ℕ) (bs : List ℕ) (j : ℕ) → words_of b (fs ++ (d ∷ bs)) ≡ words_before b fs d j ++ words_behind b d bs j
words_around b fs d bs j = words_append b fs (d ∷ bs) ∙ words_here b fs d bs j

pub behind_cons : (b : Buffers) (d : ℕ) (bs : List ℕ) (j : ℕ) → j < length (slot_words b d)
    → words_behind b d bs j ≡ get_or (slot_words b d) j 0 ∷ words_behind b d bs (suc j)
behind_cons b d bs j h = rw (drop-cons (slot_words b d) j 0 h)

-- the order there
pub ordered_at : {b : Buffers} {fs : List ℕ} {d : ℕ} {bs qs : List ℕ} {p : ℕ} {rs : List ℕ} {l : List Node} {n : Node} {r : List Node}
    → LaysAround b fs d bs qs p rs l n r → (j : ℕ) → InOrder 0 (map word_extent (words_before b fs d j) ++ map word_extent (words_behind b d bs j)) (length b.arena)
ordered_at {b} {fs} {d} {bs} h j =
    rw map-append at (rw (words_here b fs d bs j) at h.ordered)

-- a part between its neighbours: the j-th slot word's, the low key's

order_around : (a : ℕ) (l : List Extent) (e : Extent) (r : List Extent) (top : ℕ) → InOrder a (l ++ (e ∷ r)) top → InOrder a l e.at × InOrder (e.at + e.size) r top
order_around a l e r top h =
    let u = order_right a l (e ∷ r) top h in
    (order_widen a a l (end_of a l) e.at (omega arith) u.0 (order_left a l (e ∷ r) top h), u.1)

pub neighbours : {b : Buffers} {fs : List ℕ} {d : ℕ} {bs qs : List ℕ} {p : ℕ} {rs : List ℕ} {l : List Node} {n : Node} {r : List Node}
    → LaysAround b fs d bs qs p rs l n r → (j w : ℕ) → j < length (slot_words b d) → w ≡ get_or (slot_words b d) j 0
    → WordsIn 0 (words_before b fs d j) (word_offset w) × WordsIn (word_offset w + (word_suffix w + word_value w)) (words_behind b d bs (suc j)) (length b.arena)
neighbours {b} {fs} {d} {bs} h j w k e =
    order_around 0 (map word_extent (words_before b fs d j)) (word_extent w) (map word_extent (words_behind b d bs (suc j))) (length b.arena)
    (rw (behind_cons b d bs j k, ← e) at (ordered_at h j))

-- so is a part inside the old one
pub within_neighbours : {b : Buffers} {fs : List ℕ} {d : ℕ} {bs qs : List ℕ} {p : ℕ} {rs : List ℕ} {l : List Node} {n : Node} {r : List Node}
    → LaysAround b fs d bs qs p rs l n r → (j v a z : ℕ) → j < length (slot_words b d) → v ≡ get_or (slot_words b d) j 0
    → word_offset v ≤ a → z ≤ word_offset v + (word_suffix v + word_value v) → WordsIn 0 (words_before b fs d j) a × WordsIn z (words_behind b d bs (suc j)) (length b.arena)
within_neighbours {b} {fs} {d} {bs} h j v a z k e f g =
    let near = neighbours h j v k e in (
      order_widen 0 0 (map word_extent (words_before b fs d j)) (word_offset v) a (omega arith) f near.0,
      order_widen (word_offset v + (word_suffix v + word_value v)) z (map word_extent (words_behind b d bs (suc j))) (length b.arena) (length b.arena) g (omega arith) near.1,
    )

pub low_neighbours : {b : Buffers} {fs : List ℕ} {d : ℕ} {bs qs : List ℕ} {p : ℕ} {rs : List ℕ} {l : List Node} {n : Node} {r : List Node}
    → LaysAround b fs d bs qs p rs l n r → (w : ℕ) → w ≡ low_word b d
    → WordsIn 0 (words_of b fs) (word_offset w) × WordsIn (word_offset w + (word_suffix w + word_value w)) (words_behind b d bs 0) (length b.arena)
low_neighbours {b} {fs} {d} {bs} h w e =
    order_around 0 (extents b fs) (word_extent w) (map word_extent (words_behind b d bs 0)) (length b.arena)
    (rw (map-append word_extent (words_of b fs) (leaf_words b d ++ words_of b bs), ← e) at h.ordered)

-- the parts of the leaf are inside the arena
pub inside_here : {b : Buffers} {fs : List ℕ} {d : ℕ} {bs qs : List ℕ} {p : ℕ} {rs : List ℕ} {l : List Node} {n : Node} {r : List Node}
    → LaysAround b fs d bs qs p rs l n r → All (λ w. word_offset w + (word_suffix w + word_value w) ≤ length b.arena) (leaf_words b d)
inside_here {b} {fs} {d} {bs} h =
    let P : ℕ → Type 0 = λ w. word_offset w + (word_suffix w + word_value w) ≤ length b.arena in
    all_left P (leaf_words b d) (words_of b bs) (all_right P (words_of b fs) (leaf_words b d ++ words_of b bs)
    (all_words (λ e. e.at + e.size ≤ length b.arena) (words_of b fs ++ (leaf_words b d ++ words_of b bs))
    (order_before 0 (map word_extent (words_of b fs ++ (leaf_words b d ++ words_of b bs))) (length b.arena) h.ordered)))

-- they go by the slots alone

words_kept : (b : Buffers) (arena ds : List ℕ) → words_of (rewritten b b.slots arena) ds ≡ words_of b ds
unfolding low_word slot_words
words_kept b arena [] = refl
words_kept b arena (d ∷ ds) = rw (words_kept b arena ds)

pub before_kept : (b : Buffers) (arena fs : List ℕ) (d j : ℕ) → words_before (rewritten b b.slots arena) fs d j ≡ words_before b fs d j
unfolding low_word slot_words
before_kept b arena fs d j = rw (words_kept b arena fs)

pub behind_kept : (b : Buffers) (arena : List ℕ) (d : ℕ) (bs : List ℕ) (j : ℕ) → words_behind (rewritten b b.slots arena) d bs j ≡ words_behind b d bs j
unfolding slot_words
behind_kept b arena d bs j = rw (words_kept b arena bs)

-- a write of bytes into the gap there
pub write_around : {b : Buffers} {fs : List ℕ} {d : ℕ} {bs qs : List ℕ} {p : ℕ} {rs : List ℕ} {l : List Node} {n : Node} {r : List Node}
    (arena : List ℕ) (j x : ℕ) (bytes : List ℕ) → LaysAround b fs d bs qs p rs l n r → arena ≡ put b.arena x bytes
    → WordsIn 0 (words_before b fs d j) x → WordsIn (x + length bytes) (words_behind b d bs j) (length b.arena)
    → LaysAround (rewritten b b.slots arena) fs d bs qs p rs l n r
write_around {b} {fs} {d} {bs} {qs} {p} {rs} {l} {n} {r} arena j x bytes h is k m =
    around_of (rewritten b b.slots arena) fs d bs qs p rs l n r (each_prefixes b qs fs l h.ahead) (each_words b qs fs l h.ahead)
    (write_gap arena x bytes (words_before b fs d j) (words_behind b d bs j) (lays_of h) is (words_around b fs d bs j) k m)
