-- One part slid: from the slide of a pair and of a low key to the slide of the k-th part; and parts that lie tight.
-- Assumes nothing.
use Rattle.std.specs.Prelude.{ℕ, zero, suc, ◌+◌, ◌-◌, ◌≤◌, ◌<◌, List, [], ◌∷◌, ◌++◌, map, ◌≡◌, refl, drop, get_or, length, take}
use Rattle.std.proofs.Common.{append-nil, ◌∙◌, sym, arith}
use Rattle.std.proofs.lemmas.List.{map-append}
use Rattle.std.proofs.Math.Path.{ap}
use Rattle.std.proofs.Math.Seq.{split_at}
use Rattle.arena.specs.Slides.{CanSlideLow, CanSlidePair, LowBetween, PairBetween, SlidLow, SlidPair, lent, low_word_at}
use Rattle.layout.proofs.AroundLaws.{low_neighbours, neighbours}
use Rattle.layout.specs.Buffers.{Buffers, low_word, slot_words}
use Rattle.layout.proofs.EditLaws.{words_long}
use Rattle.layout.specs.Frames.{WordsIn, first_of}
use Rattle.layout.proofs.LaysParts.{total_append}
use Rattle.layout.proofs.LaysWords.{slot_at}
use Rattle.layout.specs.Order.{leaf_words, word_extent, words_of}
use Rattle.layout.proofs.OrderLaws.{order_append}
use Rattle.layout.proofs.RegionLaws.{low_words, low_written, region_ahead, region_behind, region_low}
use Rattle.layout.proofs.SlotLaws.{replace_words}
use Rattle.lists.specs.Part.{put}
use Rattle.words.specs.Laws.{offset_of_slot, suffix_of_slot, suffix_small, value_of_slot, value_small}
use Rattle.words.specs.Words.{low_key_slot, low_key_word, slot_word, word_count, word_leaf, word_offset, word_suffix, word_value}
use Rattle.room.specs.Parts.{CanSizePart, CanSlidePart, Laid, PartBetween, PartMoved, Tight, part_slot, parts_before, parts_from, size_of, sizes, word_to}

-- a word with its part elsewhere

pub to_offset : (w to : ℕ) → word_offset (word_to w to) ≡ to
to_offset w to = offset_of_slot to (word_suffix w) (word_value w) (suffix_small w) (value_small w)

pub to_size : (w to : ℕ) → size_of (word_to w to) ≡ size_of w
to_size w to =
    rw (suffix_of_slot to (word_suffix w) (word_value w) (suffix_small w) (value_small w), value_of_slot to (word_suffix w) (word_value w) (suffix_small w) (value_small w))

-- sizes

pub sizes_append : (ws vs : List ℕ) → sizes (ws ++ vs) ≡ sizes ws + sizes vs
sizes_append ws vs = rw (map-append word_extent ws vs) (total_append (map word_extent ws) (map word_extent vs))

one_changed : (x a b c : ℕ) → a ≡ b → x + (a + c) ≡ x + (b + c)
one_changed x a b c e = rw e

pub sizes_replaced : (ws : List ℕ) (k to : ℕ) → k < length ws → sizes (take k ws ++ (word_to (get_or ws k 0) to ∷ drop (suc k) ws)) ≡ sizes ws
sizes_replaced ws k to h =
    let w = get_or ws k 0 in
    sizes_append (take k ws) (word_to w to ∷ drop (suc k) ws) ∙ one_changed (sizes (take k ws)) (size_of (word_to w to)) (size_of w) (sizes (drop (suc k) ws)) (to_size w to)
    ∙ sym (sizes_append (take k ws) (w ∷ drop (suc k) ws)) ∙ ap sizes (sym (split_at ws k 0 h))

-- the word of the k-th part

pub part_word_lem : (b : Buffers) (d k : ℕ) → k ≤ word_count d → get_or (leaf_words b d) k 0 ≡ get_or b.slots (part_slot b.fanout d k) 0
unfolding low_word
part_word_lem b d zero h = refl
part_word_lem b d (suc i) h = slot_at b d i h

pub parts_long : {b : Buffers} {fs : List ℕ} {d : ℕ} {bs : List ℕ} → Laid b fs d bs → length (leaf_words b d) ≡ suc (word_count d)
parts_long h = ap suc (words_long h.lays.here)

pub part_neighbours : {b : Buffers} {fs : List ℕ} {d : ℕ} {bs : List ℕ} (h : Laid b fs d bs) (k : ℕ) → k ≤ word_count d
    → WordsIn 0 (parts_before b fs d k) (word_offset (get_or (leaf_words b d) k 0))
    × WordsIn (word_offset (get_or (leaf_words b d) k 0) + size_of (get_or (leaf_words b d) k 0)) (parts_from b d bs (suc k)) (length b.arena)
part_neighbours {b} {fs} {d} {bs} h zero s = rw (append-nil (words_of b fs)) (low_neighbours h.lays (low_word b d) refl)
part_neighbours {b} {fs} {d} {bs} h (suc i) s = neighbours h.lays i (get_or (slot_words b d) i 0) (rw (words_long h.lays.here) s) refl

pub part_sized : {fanout : ℕ} {slots arena fs : List ℕ} {d : ℕ} {bs : List ℕ} {k : ℕ} → Laid (lent fanout slots arena) fs d bs → k ≤ word_count d → CanSizePart fanout slots d k
part_sized h s = record { stored = s; count_fits = h.owns.count_fits; inside = h.owns.inside }

-- the i-th pair slid

module _ {fanout : ℕ} {slots arena : List ℕ} {fs : List ℕ} {d : ℕ} {bs : List ℕ} (h : Laid (lent fanout slots arena) fs d bs) (to : ℕ) where
  pair_between : (i : ℕ) → i < word_count d → PartBetween (lent fanout slots arena) fs d bs (suc i) to → PairBetween fanout slots arena fs d bs i to
  pair_between i s k = rw (← slot_at (lent fanout slots arena) d i s) k

  low_between : PartBetween (lent fanout slots arena) fs d bs 0 to → LowBetween fanout slots arena fs d bs to
  unfolding low_word
  low_between k = record { under = rw (append-nil (words_of (lent fanout slots arena) fs)) at k.under; over = k.over }

  pub pair_slid : {exit_slots exit_arena : List ℕ} (i : ℕ) → i < word_count d → PartBetween (lent fanout slots arena) fs d bs (suc i) to
      → SlidPair fanout slots arena d i to exit_slots exit_arena → PartMoved (lent fanout slots arena) (lent fanout exit_slots exit_arena) fs d bs (suc i) to
  pair_slid {exit_slots} {exit_arena} i s k t =
      let o = h.owns in
      let v = get_or (slot_words (lent fanout slots arena) d) i 0 in
      let w = word_to v to in
      let is : exit_slots ≡ put slots (first_of (lent fanout slots arena) d + i) (w ∷ []) = rw (slot_at (lent fanout slots arena) d i s) t.slots_are in
      let low = region_low o exit_slots exit_arena i (w ∷ []) is d (omega (arith, o.count_fits)) refl in
      let words = replace_words exit_slots exit_arena i w h.lays o s is in
      let all : leaf_words (lent fanout exit_slots exit_arena) d ≡ take (suc i) (leaf_words (lent fanout slots arena) d) ++ (w ∷ drop (suc (suc i)) (leaf_words (lent fanout slots arena) d)) = rw (low, words) in
      record {
        moved = record {
          kept = λ a. (t.kept a o s (pair_between i s k)).0;
          owned = (t.kept h.lays o s (pair_between i s k)).1;
          ahead = region_ahead o exit_slots exit_arena i (w ∷ []) is (omega (arith, o.count_fits));
          behind = region_behind o exit_slots exit_arena i (w ∷ []) is (omega (arith, o.count_fits));
          same_size = ap sizes all ∙ sizes_replaced (leaf_words (lent fanout slots arena) d) (suc i) to (omega (arith, parts_long h));
        };
        words = all;
      }

  -- the low key
  pub low_slid : {exit_slots exit_arena : List ℕ} → PartBetween (lent fanout slots arena) fs d bs 0 to → SlidLow fanout slots arena d to exit_slots exit_arena
      → PartMoved (lent fanout slots arena) (lent fanout exit_slots exit_arena) fs d bs 0 to
  unfolding low_word
  low_slid {exit_slots} {exit_arena} k t =
      let o = h.owns in
      let v = low_word_at fanout slots d in
      let w = word_to v to in
      let bare : word_value v ≡ 0 = h.lays.here.no_value in
      let same : low_key_word to (word_suffix v) ≡ w = ap (λ (z : ℕ). slot_word to (word_suffix v) z) (sym bare) in
      let is : exit_slots ≡ put slots (low_key_slot fanout (word_leaf d)) (w ∷ []) = rw same at t.slots_are in
      let all : leaf_words (lent fanout exit_slots exit_arena) d ≡ w ∷ slot_words (lent fanout slots arena) d = rw (low_written o exit_slots exit_arena w is, low_words o exit_slots exit_arena w is) in
      record {
        moved = record {
          kept = λ a. (t.kept a o (low_between k)).0;
          owned = (t.kept h.lays o (low_between k)).1;
          ahead = region_ahead o exit_slots exit_arena (fanout - 1) (w ∷ []) is (omega (arith, o.count_fits));
          behind = region_behind o exit_slots exit_arena (fanout - 1) (w ∷ []) is (omega (arith, o.count_fits));
          same_size = ap sizes all ∙ sizes_replaced (leaf_words (lent fanout slots arena) d) 0 to (omega (arith, parts_long h));
        };
        words = all;
      }

-- what the slides ask

pub can_slide_pair : {fanout : ℕ} {slots arena : List ℕ} {d i to : ℕ} → CanSlidePart fanout slots arena d (suc i) to → CanSlidePair fanout slots arena d i to
can_slide_pair {fanout} {slots} {arena} {d} {i} {to} g =
    let h = g.laid in
    record {
      fs = g.fs;
      bs = g.bs;
      qs = h.qs;
      p = h.p;
      rs = h.rs;
      l = h.l;
      n = h.n;
      r = h.r;
      lays = h.lays;
      owns = h.owns;
      stored = g.stored;
      between = pair_between h to i g.stored g.between;
      fits = g.fits;
    }

pub can_slide_low : {fanout : ℕ} {slots arena : List ℕ} {d to : ℕ} → CanSlidePart fanout slots arena d 0 to → CanSlideLow fanout slots arena d to
can_slide_low {to = to} g =
    let h = g.laid in
    record {
      fs = g.fs;
      bs = g.bs;
      qs = h.qs;
      p = h.p;
      rs = h.rs;
      l = h.l;
      n = h.n;
      r = h.r;
      lays = h.lays;
      owns = h.owns;
      between = low_between h to g.between;
      fits = g.fits;
    }

-- parts that lie tight

pub tight_snoc : {a : ℕ} {ws : List ℕ} {e : ℕ} (w : ℕ) → Tight a ws e → word_offset w ≡ e → Tight a (ws ++ (w ∷ [])) (e + size_of w)
tight_snoc {a} {ws} {e} w t is =
    record {
      ordered = rw (map-append word_extent ws (w ∷ [])) (order_append a (map word_extent ws) (word_extent w ∷ []) e (e + size_of w) t.ordered (ends e (word_offset w) (size_of w) is));
      full = sums a (sizes ws) (size_of w) t.full (sizes_append ws (w ∷ []));
    }
  where
    ends : (e x s : ℕ) → x ≡ e → (e ≤ x) × (x + s ≤ e + s)
    ends e x s is = (omega arith, omega arith)

    sums : (a t s : ℕ) {e u : ℕ} → a + t ≡ e → u ≡ t + (s + 0) → a + u ≡ e + s
    sums a t s h k = omega arith

pub tight_cons : {x : ℕ} {ws : List ℕ} {top : ℕ} (w : ℕ) → Tight x ws top → word_offset w + size_of w ≡ x → Tight (word_offset w) (w ∷ ws) top
tight_cons {x} {ws} {top} w t is =
    record {
      ordered = (same (word_offset w), rw is t.ordered);
      full = sums (word_offset w) (size_of w) (sizes ws) is t.full;
    }
  where
    same : (x : ℕ) → x ≤ x
    same x = omega arith

    sums : (o s t : ℕ) {x top : ℕ} → o + s ≡ x → x + t ≡ top → o + (s + t) ≡ top
    sums o s t h k = omega arith
