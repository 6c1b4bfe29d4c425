-- Loops that move n elements of l from one place to another, and loops that change n elements in place, one element a turn, over any
-- element type. The invariant is `Backing` or `Filling` of the part that is moved.
-- Assumes nothing.
use Rattle.std.specs.Prelude.{◌≡◌, refl, List, map, ℕ, ◌+◌, ◌≤◌, ◌<◌, length, get_or, set}
use Rattle.std.proofs.Common.{sym, ap, ◌∙◌, arith}
use Rattle.std.proofs.lemmas.List.{length-map}
use Rattle.std.proofs.Math.ListN.{get_or-map}
use Rattle.lists.specs.Part.{part, put}
use Rattle.lists.proofs.PartLaws.{length-part, get_or-part}
use Rattle.lists.specs.Fill.{Filling, Backing}
use Rattle.lists.proofs.FillLaws.{fill_read, fill_step, fill_done, back_start, back_read, back_step}

module _ {A : Type 0} (l : List A) (from n to : ℕ) where
  -- up, from the back

  module _ (h : from ≤ to) (m : to + n ≤ length l) where
    pub up_start : Backing l to (part l from n) n l
    up_start = back_start l to _ n (sym (length-part l from n (omega arith)))

    pub up_turn : (i k : ℕ) (a : List A) (d : A) → i ≡ k + 1 → i ≤ n → Backing l to (part l from n) i a
        → Backing l to (part l from n) k (set a (to + k) (get_or a (from + k) d))
    up_turn i k a d e j u =
        let len : length (part l from n) ≡ n = length-part l from n (omega arith) in
        back_step l to (part l from n) i k a (to + k) _ d (omega arith) (omega arith) e refl
        (back_read l to _ i a (from + k) d (omega arith) (omega arith) u ∙ sym (get_or-part l from n k d (omega arith)))
        u

  -- down, from the front

  module _ (h : to ≤ from) (m : from + n ≤ length l) where
    pub down_turn : (i k : ℕ) (a : List A) (d : A) → k ≡ i + 1 → i < n → Filling l to (part l from n) i a
        → Filling l to (part l from n) k (set a (to + i) (get_or a (from + i) d))
    down_turn i k a d e j u =
        let len : length (part l from n) ≡ n = length-part l from n (omega arith) in
        fill_step l to (part l from n) i k a (to + i) _ d (omega arith) (omega arith) e refl
        (fill_read l to _ i a (from + i) d (omega arith) (omega arith) (omega arith) u ∙ sym (get_or-part l from n i d (omega arith)))
        u

    pub down_done : (i : ℕ) (a : List A) → n ≤ i → Filling l to (part l from n) i a → a ≡ put l to (part l from n)
    down_done i a j u = fill_done l to _ i a (rw (length-part l from n m) j) u

-- changed by f in place

module _ {A : Type 0} (l : List A) (from n : ℕ) (f : A → A) (m : from + n ≤ length l) where
  changed_length : length (map f (part l from n)) ≡ n
  changed_length = length-map (part l from n) f ∙ length-part l from n m

  pub each_read : (i : ℕ) (a : List A) (d : A) → i < n → Filling l from (map f (part l from n)) i a → get_or a (from + i) d ≡ get_or l (from + i) d
  each_read i a d h u = fill_read l from _ i a (from + i) d (omega arith) (rw changed_length (omega arith)) (omega arith) u

  pub each_turn : (i k : ℕ) (a : List A) (d : A) → k ≡ i + 1 → i < n → Filling l from (map f (part l from n)) i a
      → Filling l from (map f (part l from n)) k (set a (from + i) (f (get_or a (from + i) d)))
  each_turn i k a d e h u =
      fill_step l from (map f (part l from n)) i k a (from + i) _ (f d) (rw changed_length m) (rw changed_length h) e refl
      (ap f (each_read i a d h u ∙ sym (get_or-part l from n i d h)) ∙ sym (get_or-map f (part l from n) i d))
      u

  pub each_done : (i : ℕ) (a : List A) → n ≤ i → Filling l from (map f (part l from n)) i a → a ≡ put l from (map f (part l from n))
  each_done i a h u = fill_done l from _ i a (rw changed_length h) u
