-- The steps of `cut_leaf`, over plain lists and numbers.
-- Assumes nothing.
use Prim.Native.Nat.{◌+◌, ◌-◌, ◌<◌, ◌≤◌, suc, ℕ}
use mathlib.Core.List.{List, [], ◌∷◌}
use mathlib.Core.Path.{◌∙◌, ◌≡◌, ap, refl, subst}
use native.Mathlib.Nat.{add-zero}
use native.Mathlib.Numerals.{add-one, add-two}
use native.Mathlib.Omega.{arith}
use lib.ListN.{drop, length, length-set, set, take}
use Rattle.directory.specs.CutLaws.{left_count, left_leaf, right_count, right_leaf}
use Rattle.directory.specs.Cuts.{CanCut, CutLeaf, CutList, Cuts, left_word, right_word}
use Rattle.directory.specs.Used.{lent, used_from, used_to, word_at}
use Rattle.layout.specs.Around.{LaysAround}
use Rattle.layout.specs.Buffers.{suffix_at}
use Rattle.layout.proofs.DirectoryLaws.{cut_leaf, cut_owns_left, cut_owns_right}
use Rattle.layout.specs.UsedLaws.{used_insert}
use Rattle.lists.specs.Part.{put, part}
use Rattle.lists.proofs.PartLaws.{length-put, length-part, put-cons, put_one}
use Rattle.model.specs.Leaves.{Node, node, with_pairs}
use Rattle.order.specs.Bytes.{Bytes}
use Rattle.words.specs.Laws.{offset_of_slot, suffix_of_slot, value_of_slot}
use Rattle.words.specs.Words.{directory_word, first_slot, low_key_slot, low_key_word, word_count, word_leaf, word_offset, word_suffix, word_value}
use Rattle.words.specs.declared.LowKey.{LowKey}

-- the directory: the words behind the j-th moved up, two words written before them
dir_grown : (dir moved : List ℕ) (j k x y : ℕ) → j + 2 + k ≤ length dir → moved ≡ put dir (j + 2) (part dir (j + 1) k)
    → set (set moved (j + 1) y) j x ≡ put dir j (x ∷ y ∷ part dir (j + 1) k)
dir_grown dir moved j k x y h is =
    rw (is, add-two, add-one)
    (ap (λ (r : List ℕ). set r j x) (put-cons dir (suc j) (part dir (suc j) k) y (omega arith)) ∙ put-cons dir j (y ∷ part dir (suc j) k) x (omega arith))

-- room

module _ {fanout leaves : ℕ} {dir slots : List ℕ} {j i free : ℕ} {k : LowKey} (h : CanCut fanout leaves dir slots j i free k) where
  pub number_room : {leaf : ℕ} → leaf ≡ word_leaf (word_at dir j) → first_slot fanout leaf + fanout ≤ length slots
  number_room e = rw e h.cuts.owns.inside

  pub free_room : first_slot fanout free + fanout ≤ length slots
  free_room = rw (right_leaf dir j i free) at h.cuts.free_owns.inside

  pub some_fanout : 0 < fanout
  some_fanout = omega (arith, h.cuts.owns.count_fits)

  pub place_room : {spot : ℕ} (now : List ℕ) → length now ≡ length slots → spot ≡ low_key_slot fanout free → spot < length now
  place_room now long e = rw (e, long) (omega (arith, free_room, some_fanout))

  pub here_room : j < length dir
  here_room = omega (arith, h.cuts.used, h.cuts.room)

  pub write_room : (now : List ℕ) (y : ℕ) → length now ≡ length dir → j < length (set now (j + 1) y)
  write_room now y long = rw (length-set now (j + 1) y, long) here_room

  pub cut_room : {leaf from to pairs : ℕ} → leaf ≡ word_leaf (word_at dir j) → from ≡ first_slot fanout leaf → to ≡ first_slot fanout free → pairs ≡ word_count (word_at dir j)
      → (from + i + (pairs - i) ≤ length slots) × (to + (pairs - i) ≤ length slots)
  cut_room {leaf} {from} {to} {pairs} a b d e =
      let few : pairs < fanout = rw e h.cuts.owns.count_fits in
      let all : i ≤ pairs = rw e h.cuts.stored in
      (omega (arith, number_room a, b), omega (arith, free_room, d))

-- the leaf list by the edit law

module _ {fanout leaves : ℕ} {dir slots : List ℕ} {j i free : ℕ} {k : LowKey} (exit_dir exit_slots : List ℕ)
    (a : exit_dir ≡ put dir j (left_word dir j i ∷ right_word dir j i free ∷ part dir (j + 1) (leaves - (j + 1))))
    (b : exit_slots ≡ put (put slots (first_slot fanout free) (part slots (first_slot fanout (word_leaf (word_at dir j)) + i) (word_count (word_at dir j) - i)))
    (low_key_slot fanout free) (low_key_word k.offset.0 k.length ∷ [])) where
  pub cut_list : {arena : List ℕ} {low : Bytes} {qs : List ℕ} {p : ℕ} {rs : List ℕ} {l : List Node} {n : Node} {r : List Node}
      → Cuts fanout leaves dir slots arena j i free k low qs p rs l n r → CutList fanout leaves dir j i free exit_dir exit_slots arena low qs p rs l n r
  unfolding suffix_at
  cut_list {arena} {low} {qs} {p} {rs} {l} {n} {r} t =
      let d = word_at dir j in
      let d₁ = left_word dir j i in
      let d₂ = right_word dir j i free in
      let c = word_count d - i in
      let w = low_key_word k.offset.0 k.length in
      let at_is : word_offset w ≡ k.offset.0 = offset_of_slot k.offset.0 k.length 0 t.low_fits.length_fits (omega arith) in
      let long_is : word_suffix w ≡ k.length = suffix_of_slot k.offset.0 k.length 0 t.low_fits.length_fits (omega arith) in
      let bare : word_value w ≡ 0 = value_of_slot k.offset.0 k.length 0 t.low_fits.length_fits (omega arith) in
      let inside : first_slot fanout free + fanout ≤ length slots = rw (right_leaf dir j i free) at t.free_owns.inside in
      let whole : i + c ≡ word_count d = omega (arith, t.stored) in
      let few : c < fanout = omega (arith, t.owns.count_fits) in
      let ws = part slots (first_slot fanout (word_leaf d) + i) c in
      let words : length ws ≡ c = length-part slots (first_slot fanout (word_leaf d) + i) c (omega (arith, t.owns.inside, t.owns.count_fits, whole)) in
      let copied : length (put slots (first_slot fanout free) ws) ≡ length slots = length-put slots (first_slot fanout free) ws (omega (arith, inside, few, words)) in
      let long : length exit_slots ≡ length slots =
      ap length b ∙ length-put (put slots (first_slot fanout free) ws) (low_key_slot fanout free) (w ∷ []) (omega (arith, copied, inside, few)) ∙ copied in
      let is : exit_slots ≡ put (put slots (first_slot fanout (word_leaf d₂)) ws) (low_key_slot fanout (word_leaf d₂)) (w ∷ []) = rw (right_leaf dir j i free) b in
      let e = left_leaf dir j i free t.stored in
      let f = left_count dir j i free t.stored in
      let g = right_count dir j i free in
      record {
        used = used_insert dir exit_dir leaves j (leaves - (j + 1)) (omega (arith, t.room)) d₁ d₂ (leaves + 1) (omega (arith, t.used)) refl a;
        lays =
            subst (λ (x : ℕ). LaysAround (lent fanout exit_slots arena) (used_to dir leaves j) d₁ (d₂ ∷ used_from dir leaves (suc j)) qs p (p ∷ rs) l (with_pairs n (take i n.pairs)) (node x low (drop i n.pairs) ∷ r))
            (right_leaf dir j i free)
            (cut_leaf exit_slots d₁ d₂ i c w t.lays t.owns t.free_owns whole e f g is low bare (rw (at_is, long_is) t.low_is) t.prefix
            (rw at_is t.under) (rw (at_is, long_is, bare, add-zero) t.over));
        owns_left = cut_owns_left exit_slots d₁ d₂ i c w t.lays t.owns t.free_owns whole e f g is long;
        owns_right = cut_owns_right exit_slots d₁ d₂ i c w t.lays t.owns t.free_owns whole e f g is long;
      }

pub cut_done : {fanout leaves : ℕ} {dir slots : List ℕ} {j i free : ℕ} {k : LowKey} {leaf pairs from to spot w x y : ℕ} {moved_dir moved_slots : List ℕ}
    → CanCut fanout leaves dir slots j i free k → leaf ≡ word_leaf (word_at dir j) → pairs ≡ word_count (word_at dir j) → from ≡ first_slot fanout leaf → to ≡ first_slot fanout free
    → moved_slots ≡ put slots to (part slots (from + i) (pairs - i)) → length moved_slots ≡ length slots → spot ≡ low_key_slot fanout free → w ≡ low_key_word k.offset.0 k.length
    → moved_dir ≡ put dir (j + 2) (part dir (j + 1) (leaves - (j + 1))) → y ≡ directory_word free (pairs - i) → x ≡ directory_word leaf i
    → CutLeaf fanout leaves dir slots j i free k (set (set moved_dir (j + 1) y) j x) (set moved_slots spot w)
cut_done {fanout} {leaves} {dir} {slots} {j} {i} {free} {k} {leaf} {pairs} {from} {to} {spot} {w} {x} {y} {moved_dir} {moved_slots} h a b c d m long s v q y_is x_is =
    let exit_dir = set (set moved_dir (j + 1) y) j x in
    let exit_slots = set moved_slots spot w in
    let left : x ≡ left_word dir j i = x_is ∙ rw a in
    let right : y ≡ right_word dir j i free = y_is ∙ rw b in
    let one : exit_dir ≡ put dir j (left_word dir j i ∷ right_word dir j i free ∷ part dir (j + 1) (leaves - (j + 1))) =
    dir_grown dir moved_dir j (leaves - (j + 1)) x y (omega (arith, h.cuts.room, h.cuts.used)) q ∙ rw (left, right) in
    let two : exit_slots ≡ put (put slots (first_slot fanout free) (part slots (first_slot fanout (word_leaf (word_at dir j)) + i) (word_count (word_at dir j) - i))) (low_key_slot fanout free) (low_key_word k.offset.0 k.length ∷ []) =
    put_one moved_slots spot w (place_room h moved_slots long s) ∙ rw (m, s, v, d, c, a, b) in
    record { dir_is = one; slots_are = two; cut = cut_list exit_dir exit_slots one two }
