-- The slot words of a leaf under a longer or a shorter prefix: each suffix loses its first g bytes to the prefix, or gets them back. No byte of
-- the arena changes.
-- Assumes nothing.
use Rattle.std.specs.Prelude.{◌<◌, ◌-◌, ◌^◌, ℕ, ◌+◌, ◌≤◌, List, [], ◌++◌, ◌∷◌, map, refl, ◌≡◌, length, drop, take}
use Rattle.std.proofs.Common.{append_assoc, ◌∙◌, ap, sym, le-add_left, arith, length-take, take-append-drop, take-take, drop_at, length-take-le, take-add, drop-drop}
use Rattle.std.proofs.lemmas.List.{length-map}
use Rattle.std.proofs.Math.Seq.{take-append-add}
use Rattle.layout.proofs.AroundLaws.{inside_here}
use Rattle.layout.specs.Around.{LaysAround}
use Rattle.layout.specs.Buffers.{low_word, Buffers, pair_at, slot_words, suffix_at, value_at}
use Rattle.layout.proofs.EditLaws.{edit_all, words_long}
use Rattle.layout.specs.Frames.{WordsIn, first_of, rewritten}
use Rattle.layout.specs.Order.{words_of}
use Rattle.layout.specs.Regions.{Owns}
use Rattle.lists.specs.All.{all_mono, All}
use Rattle.lists.proofs.PartLaws.{length-part, take-drop}
use Rattle.lists.specs.Part.{part, put}
use Rattle.model.specs.Leaves.{Node}
use Rattle.order.specs.Bytes.{Bytes}
use Rattle.words.specs.Words.{word_count, word_offset, word_suffix, word_value}
use Rattle.layout.specs.Shifted.{shifted, Leads, lowered, Preceded}

module _ (g w : ℕ) (h : g ≤ word_suffix w) where
  pub offset_shifted : word_offset (shifted g w) ≡ word_offset w + g
  offset_shifted = omega arith

  pub suffix_shifted : word_suffix (shifted g w) ≡ word_suffix w - g
  suffix_shifted = omega arith

  pub value_shifted : word_value (shifted g w) ≡ word_value w
  value_shifted = omega arith

  -- its part begins later and ends where it did

  later : (a : ℕ) → a ≤ word_offset w → a ≤ word_offset (shifted g w)
  later a k = rw offset_shifted (more a (word_offset w) k)
    where
      more : (a o : ℕ) → a ≤ o → a ≤ o + g
      more a o k = omega arith

  same_end : word_offset (shifted g w) + (word_suffix (shifted g w) + word_value (shifted g w)) ≡ word_offset w + (word_suffix w + word_value w)
  same_end = rw (offset_shifted, suffix_shifted, value_shifted) (regroup (word_offset w) (word_suffix w) (word_value w) h)
    where
      regroup : (o s v : ℕ) → g ≤ s → o + g + (s - g + v) ≡ o + (s + v)
      regroup o s v h = omega arith

-- the pair of a shifted word
pair_shifted : (arena prefix : List ℕ) (g w : ℕ) → g ≤ word_suffix w → pair_at arena (prefix ++ take g (suffix_at arena w)) (shifted g w) ≡ pair_at arena prefix w
unfolding pair_at suffix_at value_at
pair_shifted arena prefix g w h =
    let x = part arena (word_offset w) (word_suffix w) in
    let s : part arena (word_offset w + g) (word_suffix w - g) ≡ drop g x =
    ap (take (word_suffix w - g)) (sym (drop-drop g (word_offset w) arena)) ∙ take-drop (drop (word_offset w) arena) g (word_suffix w - g)
    ∙ ap (λ (i : ℕ). drop g (part arena (word_offset w) i)) (let q : g + (word_suffix w - g) ≡ word_suffix w = omega arith in q) in
    let q : word_offset w + g + (word_suffix w - g) ≡ word_offset w + word_suffix w = omega arith in
    rw (offset_shifted g w h, suffix_shifted g w h, value_shifted g w h, q, s, append_assoc prefix (take g x) (drop g x), take-append-drop g x)

pairs_shifted : (arena prefix bytes : List ℕ) (g : ℕ) (ws : List ℕ) → All (Leads arena g bytes) ws
    → map (pair_at arena (prefix ++ bytes)) (map (shifted g) ws) ≡ map (pair_at arena prefix) ws
pairs_shifted arena prefix bytes g [] h = refl
pairs_shifted arena prefix bytes g (w ∷ ws) h =
    let q : pair_at arena (prefix ++ bytes) (shifted g w) ≡ pair_at arena prefix w = rw h.0.1 at (pair_shifted arena prefix g w h.0.0) in
    rw (q, pairs_shifted arena prefix bytes g ws h.1)

order_shifted : (a g : ℕ) (ws vs : List ℕ) (top : ℕ) → All (λ w. g ≤ word_suffix w) ws → WordsIn a (ws ++ vs) top → WordsIn a (map (shifted g) ws ++ vs) top
order_shifted a g [] vs top h o = o
order_shifted a g (w ∷ ws) vs top h o =
    (later g w h.0 a o.0, rw (same_end g w h.0) (order_shifted (word_offset w + (word_suffix w + word_value w)) g ws vs top h.1 o.1))

order_under : (a : ℕ) (f : List ℕ) (w : ℕ) (x y : List ℕ) (top : ℕ) → ((i : ℕ) → WordsIn i x top → WordsIn i y top) → WordsIn a (f ++ (w ∷ x)) top → WordsIn a (f ++ (w ∷ y)) top
order_under a [] w x y top k h = (h.0, k (word_offset w + (word_suffix w + word_value w)) h.1)
order_under a (u ∷ f) w x y top k h = (h.0, order_under (word_offset u + (word_suffix u + word_value u)) f w x y top k h.1)

-- L6: the prefix longer by g, all slot words shifted by g
pub shift_leaf : {b : Buffers} {fs : List ℕ} {d : ℕ} {bs qs : List ℕ} {p : ℕ} {rs : List ℕ} {l : List Node} {n : Node} {r : List Node} (slots : List ℕ) (g : ℕ)
    → LaysAround b fs d bs qs p rs l n r → Owns b fs d bs
    → slots ≡ put b.slots (first_of b d) (map (shifted g) (part b.slots (first_of b d) (word_count d)))
    → All (Leads b.arena g (part n.low p g)) (slot_words b d)
    → LaysAround (rewritten b slots b.arena) fs d bs qs (p + g) rs l n r
unfolding slot_words
shift_leaf {b} {fs} {d} {bs} {qs} {p} {rs} {l} {n} {r} slots g h o is k =
    let ws = slot_words b d in
    let long : length (map (shifted g) ws) ≡ word_count d = length-map ws (shifted g) ∙ words_long h.here in
    edit_all slots d (p + g) (map (shifted g) ws) n.pairs h o is (omega (arith, long, o.count_fits)) refl (sym long)
    (rw (take-add p g n.low) (pairs_shifted b.arena (take p n.low) (part n.low p g) g ws k ∙ h.here.pairs_are))
    (order_under 0 (words_of b fs) (low_word b d) (ws ++ words_of b bs) (map (shifted g) ws ++ words_of b bs) (length b.arena)
    (λ i. order_shifted i g ws (words_of b bs) (length b.arena) (all_mono ws (λ w q. q.0) k)) h.ordered)

-- where every key shares its first p + g bytes with the low key, the words are ready to be shifted

module _ (low s : Bytes) (p g : ℕ) (long : p + g ≤ length low) (shares : take (p + g) (take p low ++ s) ≡ take (p + g) low) where
  cut_shared : take g s ≡ part low p g
  cut_shared =
      let n : length (take p low) ≡ p = length-take-le p low (omega arith) in
      let e : take p low ++ take g s ≡ take p low ++ part low p g =
      sym (ap (λ (i : ℕ). take (i + g) (take p low ++ s)) (sym n) ∙ take-append-add (take p low) s g) ∙ shares ∙ take-add p g low in
      sym (drop_at (take p low) (take g s) p n) ∙ ap (drop p) e ∙ drop_at (take p low) (part low p g) p n

  long_shared : g ≤ length s
  long_shared = omega (arith, ap length cut_shared ∙ length-part low p g long, length-take g s)

words_ready : (arena : List ℕ) (low : Bytes) (p g : ℕ) → p + g ≤ length low → (ws : List ℕ) → All (λ w. word_offset w + (word_suffix w + word_value w) ≤ length arena) ws
    → All (λ x. take (p + g) x.key ≡ take (p + g) low) (map (pair_at arena (take p low)) ws) → All (Leads arena g (part low p g)) ws
unfolding pair_at suffix_at
words_ready arena low p g long [] i k = tt
words_ready arena low p g long (w ∷ ws) i k =
    let n : length (suffix_at arena w) ≡ word_suffix w = length-part arena (word_offset w) (word_suffix w) (omega (arith, i.0)) in
    ((rw n at (long_shared low (suffix_at arena w) p g long k.0), cut_shared low (suffix_at arena w) p g long k.0), words_ready arena low p g long ws i.1 k.1)

pub shift_ready : {b : Buffers} {fs : List ℕ} {d : ℕ} {bs qs : List ℕ} {p : ℕ} {rs : List ℕ} {l : List Node} {n : Node} {r : List Node} (g : ℕ)
    → LaysAround b fs d bs qs p rs l n r → p + g ≤ length n.low → All (λ x. take (p + g) x.key ≡ take (p + g) n.low) n.pairs
    → All (Leads b.arena g (part n.low p g)) (slot_words b d)
shift_ready {b} {fs} {d} {bs} {qs} {p} {rs} {l} {n} {r} g h long k =
    words_ready b.arena n.low p g long (slot_words b d) (inside_here h).1 (rw h.here.pairs_are k)

module _ (g w : ℕ) (h : g ≤ word_offset w) where
  pub shifted_lowered : shifted g (lowered g w) ≡ w
  shifted_lowered = omega arith

  module _ (k : word_suffix w + g < 2 ^ 12) where
    pub offset_lowered : word_offset (lowered g w) ≡ word_offset w - g
    offset_lowered = omega arith

    pub suffix_lowered : word_suffix (lowered g w) ≡ word_suffix w + g
    suffix_lowered = omega arith

    pub value_lowered : word_value (lowered g w) ≡ word_value w
    value_lowered = omega arith

lowered_leads : (arena : List ℕ) (g : ℕ) (bytes : Bytes) (w : ℕ) → Preceded arena g bytes w → Leads arena g bytes (lowered g w)
unfolding suffix_at
lowered_leads arena g bytes w h =
    rw (offset_lowered g w h.offset_high h.suffix_low, suffix_lowered g w h.offset_high h.suffix_low)
    (le-add_left g (word_suffix w), take-take g (word_suffix w + g) (drop (word_offset w - g) arena) (le-add_left g (word_suffix w)) ∙ h.bytes_are)

words_leads : (arena : List ℕ) (g : ℕ) (bytes : Bytes) (ws : List ℕ) → All (Preceded arena g bytes) ws → All (Leads arena g bytes) (map (lowered g) ws)
words_leads arena g bytes [] h = tt
words_leads arena g bytes (w ∷ ws) h = (lowered_leads arena g bytes w h.0, words_leads arena g bytes ws h.1)

words_back : (arena : List ℕ) (g : ℕ) (bytes : Bytes) (ws : List ℕ) → All (Preceded arena g bytes) ws → map (shifted g) (map (lowered g) ws) ≡ ws
words_back arena g bytes [] h = refl
words_back arena g bytes (w ∷ ws) h = rw (shifted_lowered g w h.0.offset_high, words_back arena g bytes ws h.1)

-- L7: the prefix shorter by g, all slot words lowered by g
pub grow_leaf : {b : Buffers} {fs : List ℕ} {d : ℕ} {bs qs : List ℕ} {p : ℕ} {rs : List ℕ} {l : List Node} {n : Node} {r : List Node} (slots : List ℕ) (q g : ℕ)
    → LaysAround b fs d bs qs p rs l n r → Owns b fs d bs → q + g ≡ p
    → slots ≡ put b.slots (first_of b d) (map (lowered g) (part b.slots (first_of b d) (word_count d)))
    → All (Preceded b.arena g (part n.low q g)) (slot_words b d)
    → WordsIn 0 (words_of b fs ++ (low_word b d ∷ (map (lowered g) (slot_words b d) ++ words_of b bs))) (length b.arena)
    → LaysAround (rewritten b slots b.arena) fs d bs qs q rs l n r
unfolding slot_words
grow_leaf {b} {fs} {d} {bs} {qs} {p} {rs} {l} {n} {r} slots q g h o e is k ord =
    let ws = slot_words b d in
    let bytes = part n.low q g in
    let long : length (map (lowered g) ws) ≡ word_count d = length-map ws (lowered g) ∙ words_long h.here in
    edit_all slots d q (map (lowered g) ws) n.pairs h o is (omega (arith, long, o.count_fits)) refl (sym long)
    (sym (pairs_shifted b.arena (take q n.low) bytes g (map (lowered g) ws) (words_leads b.arena g bytes ws k))
    ∙ rw (words_back b.arena g bytes ws k, ← take-add q g n.low, e) h.here.pairs_are) ord
