-- The steps of `slide_pair` and `slide_low`, over plain lists and numbers.
-- Assumes nothing.
use Prim.Native.Nat.{ℕ, ◌+◌, ◌≤◌, ◌<◌, suc}
use mathlib.Core.List.{List, [], ◌∷◌, map}
use mathlib.Core.Path.{◌∙◌, ◌≡◌, ap, refl, subst, sym}
use native.Mathlib.Omega.{arith}
use lib.ListN.{get_or, length, set}
use Rattle.arena.specs.Slides.{Between, CanSlideLow, CanSlidePair, LowBetween, PairBetween, SlidLow, SlidPair, lent, low_word_at, slot_word_at}
use Rattle.layout.specs.Around.{LaysAround, words_behind}
use Rattle.layout.proofs.AroundLaws.{low_neighbours, neighbours}
use Rattle.layout.specs.Buffers.{Buffers, low_word, slot_words}
use Rattle.layout.proofs.EditLaws.{words_long}
use Rattle.layout.specs.Frames.{first_of}
use Rattle.layout.specs.Order.{word_extent}
use Rattle.layout.proofs.OrderLaws.{order_top}
use Rattle.layout.specs.Regions.{Owns}
use Rattle.layout.proofs.RegionLaws.{owns_kept}
use Rattle.layout.proofs.SlideLaws.{slide_low, slide_word}
use Rattle.lists.proofs.PartLaws.{get_or-part, length-put, put_one}
use Rattle.lists.specs.Part.{part, put}
use Rattle.model.specs.Leaves.{Node}
use Rattle.words.specs.Laws.{offset_of_slot, suffix_of_slot, suffix_small, value_of_slot, value_small}
use Rattle.words.specs.Words.{LowKeyUnpacked, Unpacked, first_slot, low_key_slot, low_key_word, slot_word, word_count, word_leaf, word_offset, word_suffix, word_value}
use Rattle.words.specs.declared.LowKey.{LowKey}
use Rattle.words.specs.declared.Slot.{Slot}

-- room for the word at its place, and for its part where it is and where it goes
pub record Room (slots arena : List ℕ) (spot to : ℕ) : Type 0 where
  pub word : spot < length slots
  pub old : word_offset (get_or slots spot 0) + (word_suffix (get_or slots spot 0) + word_value (get_or slots spot 0)) ≤ length arena
  pub new : to + (word_suffix (get_or slots spot 0) + word_value (get_or slots spot 0)) ≤ length arena

-- the new word: the old lengths, at the new place
module _ (v to : ℕ) where
  slid_offset : word_offset (slot_word to (word_suffix v) (word_value v)) ≡ to
  slid_offset = offset_of_slot to (word_suffix v) (word_value v) (suffix_small v) (value_small v)

  slid_suffix : word_suffix (slot_word to (word_suffix v) (word_value v)) ≡ word_suffix v
  slid_suffix = suffix_of_slot to (word_suffix v) (word_value v) (suffix_small v) (value_small v)

  slid_value : word_value (slot_word to (word_suffix v) (word_value v)) ≡ word_value v
  slid_value = value_of_slot to (word_suffix v) (word_value v) (suffix_small v) (value_small v)

top_over : {ws vs : List ℕ} {w to top : ℕ} → Between ws vs w to top → to + (word_suffix w + word_value w) ≤ top
top_over {ws} {vs} {w} {to} {top} k = order_top (to + (word_suffix w + word_value w)) (map word_extent vs) top k.over

-- slide_pair

slot_here : (b : Buffers) (d i : ℕ) → i < word_count d → get_or b.slots (first_of b d + i) 0 ≡ get_or (slot_words b d) i 0
unfolding slot_words
slot_here b d i h = sym (get_or-part b.slots (first_of b d) (word_count d) i 0 h)

module _ {fanout : ℕ} {slots arena : List ℕ} {d i to : ℕ} where
  pub pair_room : CanSlidePair fanout slots arena d i to → {leaf first : ℕ} → leaf ≡ word_leaf d → first ≡ first_slot fanout leaf → Room slots arena (first + i) to
  pair_room h e f =
      let b = lent fanout slots arena in
      let k = slot_here b d i h.stored in
      let near = neighbours h.lays i (slot_word_at fanout slots d i) (rw (words_long h.lays.here) h.stored) k in
      rw (f, e)
      (record {
        word = omega (arith, h.owns.inside, h.owns.count_fits, h.stored);
        old = order_top _ (map word_extent (words_behind b d h.bs (suc i))) (length arena) near.1;
        new = top_over h.between;
      })

  pub first_room : CanSlidePair fanout slots arena d i to → {leaf : ℕ} → leaf ≡ word_leaf d → first_slot fanout leaf ≤ length slots
  first_room h e = rw e (omega (arith, h.owns.inside))

  pub pair_kept : (exit_slots exit_arena : List ℕ)
      → exit_slots ≡ put slots (first_slot fanout (word_leaf d) + i) (slot_word to (word_suffix (slot_word_at fanout slots d i)) (word_value (slot_word_at fanout slots d i)) ∷ [])
      → exit_arena ≡ put arena to (part arena (word_offset (slot_word_at fanout slots d i)) (word_suffix (slot_word_at fanout slots d i) + word_value (slot_word_at fanout slots d i)))
      → {fs bs qs : List ℕ} {p : ℕ} {rs : List ℕ} {l : List Node} {n : Node} {r : List Node} → LaysAround (lent fanout slots arena) fs d bs qs p rs l n r
      → Owns (lent fanout slots arena) fs d bs → i < word_count d → PairBetween fanout slots arena fs d bs i to
      → LaysAround (lent fanout exit_slots exit_arena) fs d bs qs p rs l n r × Owns (lent fanout exit_slots exit_arena) fs d bs
  pair_kept exit_slots exit_arena is as_put h o few k =
      let v = slot_word_at fanout slots d i in
      let w = slot_word to (word_suffix v) (word_value v) in (
        slide_word exit_slots exit_arena i v w h o few (slot_here (lent fanout slots arena) d i few) (slid_suffix v to) (slid_value v to) is
            (rw (slid_offset v to) as_put) (rw (slid_offset v to) k.under) (rw (slid_offset v to, slid_suffix v to, slid_value v to) k.over),
        owns_kept exit_slots exit_arena d o
            (ap length is ∙ length-put slots (first_slot fanout (word_leaf d) + i) (w ∷ []) (omega (arith, o.inside, o.count_fits))) refl o.count_fits,
      )

pub slid_pair : {fanout : ℕ} {slots arena : List ℕ} {d i to leaf first w : ℕ} {exit_arena : List ℕ} {s : Slot} → CanSlidePair fanout slots arena d i to
    → leaf ≡ word_leaf d → first ≡ first_slot fanout leaf → Unpacked (get_or slots (first + i) 0) s → w ≡ slot_word to s.suffix s.value
    → exit_arena ≡ put arena to (part arena s.offset.0 (s.suffix + s.value)) → SlidPair fanout slots arena d i to (set slots (first + i) w) exit_arena
slid_pair {fanout} {slots} {arena} {d} {i} {to} {leaf} {first} {w} {exit_arena} {s} h e f u g as_put =
    let v = slot_word_at fanout slots d i in
    let place : first ≡ first_slot fanout (word_leaf d) = f ∙ ap (first_slot fanout) e in
    let o : Unpacked v s = subst (λ (x : ℕ). Unpacked (get_or slots (x + i) 0) s) place u in
    let is : set slots (first + i) w ≡ put slots (first_slot fanout (word_leaf d) + i) (slot_word to (word_suffix v) (word_value v) ∷ []) =
    rw (place, g, o.suffix_is, o.value_is) (put_one slots (first_slot fanout (word_leaf d) + i) (slot_word to (word_suffix v) (word_value v)) (rw place at (pair_room h e f).word)) in
    let moved : exit_arena ≡ put arena to (part arena (word_offset v) (word_suffix v + word_value v)) = as_put ∙ rw (o.offset_is, o.suffix_is, o.value_is) in
    record { slots_are = is; arena_is = moved; kept = pair_kept (set slots (first + i) w) exit_arena is moved }

pub pair_move : {slots arena : List ℕ} {spot to : ℕ} {s : Slot} → Room slots arena spot to → Unpacked (get_or slots spot 0) s
    → (s.offset.0 + (s.suffix + s.value) ≤ length arena) × (to + (s.suffix + s.value) ≤ length arena)
pair_move r u = rw (u.offset_is, u.suffix_is, u.value_is) (r.old, r.new)

-- slide_low

less : (x y z top : ℕ) → x + (y + z) ≤ top → x + y ≤ top
less x y z top h = omega arith

low_here : (b : Buffers) (d : ℕ) → get_or b.slots (low_key_slot b.fanout (word_leaf d)) 0 ≡ low_word b d
unfolding low_word
low_here b d = refl

module _ {fanout : ℕ} {slots arena : List ℕ} {d to : ℕ} where
  pub low_room : CanSlideLow fanout slots arena d to → {leaf spot : ℕ} → leaf ≡ word_leaf d → spot ≡ low_key_slot fanout leaf → Room slots arena spot to
  low_room h e f =
      let b = lent fanout slots arena in
      let near = low_neighbours h.lays (low_word_at fanout slots d) (low_here b d) in
      rw (f, e)
      (record {
        word = omega (arith, h.owns.inside, h.owns.count_fits);
        old = order_top _ (map word_extent (words_behind b d h.bs 0)) (length arena) near.1;
        new = top_over h.between;
      })

  pub low_place : CanSlideLow fanout slots arena d to → {leaf : ℕ} → leaf ≡ word_leaf d → (0 < fanout) × (low_key_slot fanout leaf < length slots)
  low_place h e = (omega (arith, h.owns.count_fits), (low_room h e refl).word)

  pub low_kept : (exit_slots exit_arena : List ℕ)
      → exit_slots ≡ put slots (low_key_slot fanout (word_leaf d)) (low_key_word to (word_suffix (low_word_at fanout slots d)) ∷ [])
      → exit_arena ≡ put arena to (part arena (word_offset (low_word_at fanout slots d)) (word_suffix (low_word_at fanout slots d)))
      → {fs bs qs : List ℕ} {p : ℕ} {rs : List ℕ} {l : List Node} {n : Node} {r : List Node} → LaysAround (lent fanout slots arena) fs d bs qs p rs l n r
      → Owns (lent fanout slots arena) fs d bs → LowBetween fanout slots arena fs d bs to
      → LaysAround (lent fanout exit_slots exit_arena) fs d bs qs p rs l n r × Owns (lent fanout exit_slots exit_arena) fs d bs
  low_kept exit_slots exit_arena is as_put h o k =
      let b = lent fanout slots arena in
      let v = low_word_at fanout slots d in
      let bare : word_value v ≡ 0 = rw (low_here b d) h.here.no_value in
      let whole : word_suffix v ≡ word_suffix v + word_value v = omega (arith, bare) in
      let w = slot_word to (word_suffix v) (word_value v) in
      let same : low_key_word to (word_suffix v) ≡ w = rw bare in (
        slide_low exit_slots exit_arena v w h o (low_here b d) (slid_suffix v to) (slid_value v to) (rw same at is)
            (rw (slid_offset v to) (as_put ∙ ap (λ (z : ℕ). put arena to (part arena (word_offset v) z)) whole))
            (rw (slid_offset v to) k.under) (rw (slid_offset v to, slid_suffix v to, slid_value v to) k.over),
        owns_kept exit_slots exit_arena d o
            (ap length is ∙ length-put slots (low_key_slot fanout (word_leaf d)) (low_key_word to (word_suffix v) ∷ []) (omega (arith, o.inside, o.count_fits))) refl o.count_fits,
      )

pub slid_low : {fanout : ℕ} {slots arena : List ℕ} {d to leaf spot w : ℕ} {exit_arena : List ℕ} {s : LowKey} → CanSlideLow fanout slots arena d to
    → leaf ≡ word_leaf d → spot ≡ low_key_slot fanout leaf → LowKeyUnpacked (get_or slots spot 0) s → w ≡ low_key_word to s.length
    → exit_arena ≡ put arena to (part arena s.offset.0 s.length) → SlidLow fanout slots arena d to (set slots spot w) exit_arena
slid_low {fanout} {slots} {arena} {d} {to} {leaf} {spot} {w} {exit_arena} {s} h e f u g as_put =
    let v = low_word_at fanout slots d in
    let place : spot ≡ low_key_slot fanout (word_leaf d) = f ∙ ap (low_key_slot fanout) e in
    let o : LowKeyUnpacked v s = subst (λ (x : ℕ). LowKeyUnpacked (get_or slots x 0) s) place u in
    let is : set slots spot w ≡ put slots (low_key_slot fanout (word_leaf d)) (low_key_word to (word_suffix v) ∷ []) =
    rw (place, g, o.length_is) (put_one slots (low_key_slot fanout (word_leaf d)) (low_key_word to (word_suffix v)) (rw place at (low_room h e f).word)) in
    let moved : exit_arena ≡ put arena to (part arena (word_offset v) (word_suffix v)) = as_put ∙ rw (o.offset_is, o.length_is) in
    record { slots_are = is; arena_is = moved; kept = low_kept (set slots spot w) exit_arena is moved }

pub low_move : {slots arena : List ℕ} {spot to : ℕ} {s : LowKey} → Room slots arena spot to → LowKeyUnpacked (get_or slots spot 0) s
    → (s.offset.0 + s.length ≤ length arena) × (to + s.length ≤ length arena)
low_move {slots} {arena} {spot} {to} r u =
    let w = get_or slots spot 0 in
    rw (u.offset_is, u.length_is) (less (word_offset w) (word_suffix w) (word_value w) (length arena) r.old, less to (word_suffix w) (word_value w) (length arena) r.new)
