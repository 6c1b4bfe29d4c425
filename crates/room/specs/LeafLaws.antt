-- The turns of the loops over the parts of one leaf.
-- Assumes nothing.
use Rattle.std.specs.Prelude.{ℕ, suc, ◌+◌, ◌≤◌, List, [], ◌∷◌, ◌++◌, map, ◌≡◌, refl, drop, get_or, length, take}
use Rattle.std.proofs.Common.{append_assoc, append-nil, ◌∙◌, ap, subst, sym, add-one, arith, drop_of_length-le, length-append, drop_at, drop-drop, length-take-le, take_at, take-take}
use Rattle.layout.specs.Buffers.{Buffers}
use Rattle.layout.specs.Frames.{SameWords, WordsIn}
use Rattle.layout.proofs.FrameLaws.{all_of}
use Rattle.layout.specs.Order.{leaf_words, word_extent, words_of}
use Rattle.layout.proofs.OrderLaws.{order_top, order_total, order_widen}
use Rattle.lists.specs.All.{All}
use Rattle.words.specs.Words.{word_count, word_offset}
use Rattle.room.specs.Leaf.{Down, Up}
use Rattle.room.specs.PartLaws.{part_neighbours, parts_long, tight_cons, tight_snoc, to_offset, to_size}
use Rattle.room.specs.Parts.{Laid, Moved, PartBetween, PartMoved, Tight, parts_before, parts_from, size_of, sizes, word_to}

-- words kept

pub same_trans : {b c e : Buffers} {d : ℕ} → SameWords b c d → SameWords c e d → SameWords b e d
same_trans s t = record { low_word_eq = t.low_word_eq ∙ s.low_word_eq; words = t.words ∙ s.words }

pub all_same_trans : (b c e : Buffers) (ds : List ℕ) → All (SameWords b c) ds → All (SameWords c e) ds → All (SameWords b e) ds
all_same_trans b c e [] s t = tt
all_same_trans b c e (d ∷ ds) s t = (same_trans s.0 t.0, all_same_trans b c e ds s.1 t.1)

pub words_same : (b c : Buffers) (ds : List ℕ) → All (SameWords b c) ds → words_of c ds ≡ words_of b ds
words_same b c [] s = refl
words_same b c (d ∷ ds) s = rw (s.0.low_word_eq, s.0.words, words_same b c ds s.1)

-- moves one after the other

pub laid_moved : {b c : Buffers} {fs : List ℕ} {d : ℕ} {bs : List ℕ} → Laid b fs d bs → Moved b c fs d bs → Laid c fs d bs
laid_moved h m = record { qs = h.qs; p = h.p; rs = h.rs; l = h.l; n = h.n; r = h.r; lays = m.kept h.lays; owns = m.owned }

pub moved_none : {b : Buffers} {fs : List ℕ} {d : ℕ} {bs : List ℕ} → Laid b fs d bs → Moved b b fs d bs
moved_none {b} {fs} {d} {bs} h =
    record {
      kept = λ a. a;
      owned = h.owns;
      ahead = all_of (λ e. record { low_word_eq = refl; words = refl }) fs;
      behind = all_of (λ e. record { low_word_eq = refl; words = refl }) bs;
      same_size = refl;
    }

pub moved_trans : {b c e : Buffers} {fs : List ℕ} {d : ℕ} {bs : List ℕ} → Moved b c fs d bs → Moved c e fs d bs → Moved b e fs d bs
moved_trans {b} {c} {e} {fs} {d} {bs} m k =
    record {
      kept = λ a. k.kept (m.kept a);
      owned = k.owned;
      ahead = all_same_trans b c e fs m.ahead k.ahead;
      behind = all_same_trans b c e bs m.behind k.behind;
      same_size = k.same_size ∙ m.same_size;
    }

-- lists at a place

next_drop : (k : ℕ) (l : List ℕ) → drop (suc k) l ≡ drop 1 (drop k l)
next_drop k l = ap (λ (x : ℕ). drop x l) (sym (add-one k)) ∙ sym (drop-drop 1 k l)

next_take : (p q : List ℕ) (w k : ℕ) → length p ≡ k → take (suc k) (p ++ (w ∷ q)) ≡ p ++ (w ∷ [])
next_take p q w k e = ap (take (suc k)) (sym (append_assoc p (w ∷ []) q)) ∙ take_at (p ++ (w ∷ [])) q (suc k) (rw length-append (omega arith))

-- one part moved

module _ {b c : Buffers} {fs : List ℕ} {d : ℕ} {bs : List ℕ} {k to : ℕ} (h : Laid b fs d bs) (s : k ≤ word_count d) (m : PartMoved b c fs d bs k to) where
  abbrev old : ℕ
  old = get_or (leaf_words b d) k 0

  short : length (take k (leaf_words b d)) ≡ k
  short = length-take-le k (leaf_words b d) (omega (arith, parts_long h))

  pub before_moved : take k (leaf_words c d) ≡ take k (leaf_words b d)
  before_moved = ap (take k) m.words ∙ take_at (take k (leaf_words b d)) (word_to old to ∷ drop (suc k) (leaf_words b d)) k short

  pub from_moved : drop k (leaf_words c d) ≡ word_to old to ∷ drop (suc k) (leaf_words b d)
  from_moved = ap (drop k) m.words ∙ drop_at (take k (leaf_words b d)) (word_to old to ∷ drop (suc k) (leaf_words b d)) k short

  pub behind_moved : drop (suc k) (leaf_words c d) ≡ drop (suc k) (leaf_words b d)
  behind_moved = next_drop k (leaf_words c d) ∙ ap (drop 1) from_moved

  pub upto_moved : take (suc k) (leaf_words c d) ≡ take k (leaf_words b d) ++ (word_to old to ∷ [])
  upto_moved = ap (take (suc k)) m.words ∙ next_take (take k (leaf_words b d)) (drop (suc k) (leaf_words b d)) (word_to old to) k short

-- down: the next part goes to where those before it end

pub down_start : {b : Buffers} {fs : List ℕ} {d : ℕ} {bs : List ℕ} {start : ℕ} → Laid b fs d bs → Tight 0 (words_of b fs) start → Down b b fs d bs 0 start
down_start {b} {fs} h t = record { moved = moved_none h; rest = refl; tight = rw (append-nil (words_of b fs)) t }

below : (o s e t : ℕ) → e ≡ 0 + t → 0 + t ≤ o → (e ≤ o) × (e + s ≤ o + s)
below o s e t f h = (omega arith, omega arith)

pub down_between : {c : Buffers} {fs : List ℕ} {d : ℕ} {bs : List ℕ} {k e : ℕ} → Laid c fs d bs → k ≤ word_count d → Tight 0 (parts_before c fs d k) e → PartBetween c fs d bs k e
down_between {c} {fs} {d} {bs} {k} {e} h s t =
    let w = get_or (leaf_words c d) k 0 in
    let near = part_neighbours h k s in
    let before = map word_extent (parts_before c fs d k) in
    let low = below (word_offset w) (size_of w) e (sizes (parts_before c fs d k)) (sym t.full) (order_total 0 before (word_offset w) near.0) in
    record {
      under = t.ordered;
      over = order_widen (word_offset w + size_of w) (e + size_of w) (map word_extent (parts_from c d bs (suc k))) (length c.arena) (length c.arena) low.1 (omega arith) near.1;
    }

pub between_top : {c : Buffers} {fs : List ℕ} {d : ℕ} {bs : List ℕ} (k to : ℕ) → Laid c fs d bs → PartBetween c fs d bs k to → to + size_of (get_or (leaf_words c d) k 0) ≤ length c.arena
between_top {c} {fs} {d} {bs} k to h g = order_top (to + size_of (get_or (leaf_words c d) k 0)) (map word_extent (parts_from c d bs (suc k))) (length c.arena) g.over

pub down_step : {b c e : Buffers} {fs : List ℕ} {d : ℕ} {bs : List ℕ} {k end size : ℕ} → Laid b fs d bs → k ≤ word_count d → Down b c fs d bs k end
    → PartMoved c e fs d bs k end → size ≡ size_of (get_or (leaf_words c d) k 0) → Down b e fs d bs (suc k) (end + size)
down_step {b} {c} {e} {fs} {d} {bs} {k} {end} {size} h s g m is =
    let now = laid_moved h g.moved in
    let w = word_to (get_or (leaf_words c d) k 0) end in
    let words : parts_before e fs d (suc k) ≡ parts_before c fs d k ++ (w ∷ []) =
    rw (words_same c e fs m.moved.ahead, upto_moved now s m) (sym (append_assoc (words_of c fs) (take k (leaf_words c d)) (w ∷ []))) in
    let long : size_of w ≡ size = to_size (get_or (leaf_words c d) k 0) end ∙ sym is in
    record {
      moved = moved_trans g.moved m.moved;
      rest = behind_moved now s m ∙ next_drop k (leaf_words c d) ∙ ap (drop 1) g.rest ∙ sym (next_drop k (leaf_words b d));
      tight = subst (λ (z : List ℕ). Tight 0 z (end + size)) (sym words) (rw long at (tight_snoc w g.tight (to_offset (get_or (leaf_words c d) k 0) end)));
    }

-- up: the next part goes right before those behind it

pub up_start : {b : Buffers} {fs : List ℕ} {d : ℕ} {bs : List ℕ} {top : ℕ} → Laid b fs d bs → Tight top (words_of b bs) (length b.arena) → Up b b fs d bs (suc (word_count d)) top
up_start {b} {fs} {d} {bs} {top} h t =
    record {
      moved = moved_none h;
      rest = refl;
      tight = subst (λ (z : List ℕ). Tight top (z ++ words_of b bs) (length b.arena)) (sym (drop_of_length-le (leaf_words b d) {i = suc (word_count d)} (omega (arith, parts_long h)))) t;
    }

above : (o s x z t top : ℕ) → x + t ≡ top → o + s + t ≤ top → z + s ≡ x → o ≤ z
above o s x z t top f h k = omega arith

pub up_size : {c : Buffers} {fs : List ℕ} {d : ℕ} {bs : List ℕ} {k x : ℕ} → Laid c fs d bs → k ≤ word_count d → Tight x (parts_from c d bs (suc k)) (length c.arena)
    → size_of (get_or (leaf_words c d) k 0) ≤ x
up_size {c} {fs} {d} {bs} {k} {x} h s t =
    let w = get_or (leaf_words c d) k 0 in
    fits (word_offset w) (size_of w) (sizes (parts_from c d bs (suc k))) t.full
    (order_total (word_offset w + size_of w) (map word_extent (parts_from c d bs (suc k))) (length c.arena) (part_neighbours h k s).1)
  where
    fits : (o s t : ℕ) {x top : ℕ} → x + t ≡ top → o + s + t ≤ top → s ≤ x
    fits o s t f h = omega arith

pub up_between : {c : Buffers} {fs : List ℕ} {d : ℕ} {bs : List ℕ} {k x : ℕ} (z : ℕ) → Laid c fs d bs → k ≤ word_count d → Tight x (parts_from c d bs (suc k)) (length c.arena)
    → z + size_of (get_or (leaf_words c d) k 0) ≡ x → PartBetween c fs d bs k z
up_between {c} {fs} {d} {bs} {k} {x} z h s t is =
    let w = get_or (leaf_words c d) k 0 in
    let near = part_neighbours h k s in
    let behind = map word_extent (parts_from c d bs (suc k)) in
    let high = above (word_offset w) (size_of w) x z (sizes (parts_from c d bs (suc k))) (length c.arena) t.full (order_total (word_offset w + size_of w) behind (length c.arena) near.1) is in
    record {
      under = order_widen 0 0 (map word_extent (parts_before c fs d k)) (word_offset w) z (omega arith) high near.0;
      over = subst (λ (y : ℕ). WordsIn y (parts_from c d bs (suc k)) (length c.arena)) (sym is) t.ordered;
    }

pub up_step : {b c e : Buffers} {fs : List ℕ} {d : ℕ} {bs : List ℕ} {k x z : ℕ} → Laid b fs d bs → k ≤ word_count d → Up b c fs d bs (suc k) x
    → PartMoved c e fs d bs k z → z + size_of (get_or (leaf_words c d) k 0) ≡ x → length e.arena ≡ length c.arena → Up b e fs d bs k z
up_step {b} {c} {e} {fs} {d} {bs} {k} {x} {z} h s g m is long =
    let now = laid_moved h g.moved in
    let v = get_or (leaf_words c d) k 0 in
    let w = word_to v z in
    let words : parts_from e d bs k ≡ w ∷ parts_from c d bs (suc k) = rw (words_same c e bs m.moved.behind, from_moved now s m) in
    let ends : word_offset w + size_of w ≡ x = rw (to_offset v z, to_size v z) is in
    let t : Tight z (w ∷ parts_from c d bs (suc k)) (length c.arena) = rw (to_offset v z) at (tight_cons w g.tight ends) in
    record {
      moved = moved_trans g.moved m.moved;
      rest = before_moved now s m ∙ sym (take-take k (suc k) (leaf_words c d) (omega arith)) ∙ ap (take k) g.rest ∙ take-take k (suc k) (leaf_words b d) (omega arith);
      tight = subst (λ (y : ℕ). Tight z (parts_from e d bs k) y) (sym long) (subst (λ (y : List ℕ). Tight z y (length c.arena)) (sym words) t);
    }
