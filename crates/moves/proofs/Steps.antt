-- What std says of a list after a copy, in this repository's words `part` and `put`, and a turn of `raise`'s loop.
-- Assumes nothing.
use Rattle.std.specs.Prelude.{◌≡◌, List, map, ℕ, ◌+◌, ◌-◌, ◌≤◌, ◌<◌, length, get_or, set}
use Rattle.std.specs.List.{copy_within}
use Rattle.std.proofs.Common.{sym, arith}
use borrow.Rule.Slice.PartMut.{put_mid}
use mathlib.Core.List.{append_assoc}
use Rattle.std.proofs.Math.Seq.{drop-drop}
use Rattle.lists.specs.Part.{part, put}
use Rattle.lists.specs.Fill.{Filling}
use Rattle.lists.proofs.PartLaws.{length-part, put-part}
use Rattle.lists.proofs.Shift.{each_turn}

module _ {A : Type 0} (l : List A) where
  pub moved-put : (from n to : ℕ) → from + n ≤ length l → copy_within l from (from + n) to ≡ put l to (part l from n)
  unfolding put
  moved-put from n to h = let e : from + n - from ≡ n = omega arith in rw (e, length-part l from n h)

  pub stays : (from n to : ℕ) → from ≡ to → from + n ≤ length l → l ≡ put l to (part l from n)
  stays from n to e h = rw (← e) (sym (put-part l from n h))

  pub copied-put : (to : ℕ) (s : List A) → put_mid to (to + length s - to) l s ≡ put l to s
  unfolding put
  copied-put to s = let e : to + length s - to ≡ length s = omega arith in rw (e, drop-drop, append_assoc)

  pub raised : (from n i k : ℕ) (f : A → A) (a : List A) (d : A) → from + n ≤ length l → from ≤ i → i < from + n → k ≡ i + 1
      → Filling l from (map f (part l from n)) (i - from) a → Filling l from (map f (part l from n)) (k - from) (set a i (f (get_or a i d)))
  raised from n i k f a d m g h e u =
      let at : from + (i - from) ≡ i = omega arith in
      rw at at (each_turn l from n f m (i - from) (k - from) a d (omega arith) (omega arith) u)
