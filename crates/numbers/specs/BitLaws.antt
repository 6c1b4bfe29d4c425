-- Bits of a word by shifts, and the numbers in a set after one more is marked.
-- Assumes nothing.
use Rattle.std.specs.Prelude.{◌%◌, ◌*◌, ◌+◌, ◌-◌, ◌/◌, ◌<◌, ◌^◌, ◌≤◌, max, suc, ℕ, List, ◌≡◌, eqb, get_or, length, set}
use Rattle.std.proofs.Common.{◌∙◌, ap, sym, mul-div_cancel, one-mul, pow-suc, arith, pow-add, pow_pos, shl_exact, get_or-set_other, get_or-set_same}
use Rattle.std.proofs.Math.Nat.{div-eq_of_lt, max-eq_right, max-le, max-zero}
use Rattle.std.specs.Int.Bits.{bit_or, or_step}
use Rattle.std.proofs.lemmas.Nat.{or_shr, shl-shr}
use Rattle.std.proofs.Math.Pow.{pow-lt}
use Rattle.lists.specs.Exact.{Exact, exact_eqb}
use Rattle.numbers.specs.Bits.{FirstUnmarked, Marked, Sets, bit_of}
use Rattle.order.specs.CommonLaws.{apart, even, leveled}
use Rattle.order.specs.OrderLaws.{heads, level, lower, upper}

pub bit_read : (w b : ℕ) → Exact (eqb (w / 2 ^ b % 2) 1) (bit_of w b ≡ 1)
unfolding bit_of
bit_read w b = exact_eqb (w / 2 ^ b % 2) 1

pub bit_zero : (b : ℕ) → bit_of 0 b ≡ 0
unfolding bit_of
bit_zero b =
    let e : 0 / 2 ^ b ≡ 0 = div-eq_of_lt (pow_pos b) in
    omega (arith, e)

bit_small : (w b : ℕ) → bit_of w b ≤ 1
unfolding bit_of
bit_small w b = omega arith

-- a bit of two words joined, and of a word with one bit set

last : (high low : ℕ) → low < 2 → (high * 2 + low) % 2 ≡ low
last high low h = omega arith

or_bit : (a b k : ℕ) → bit_of (bit_or a b) k ≡ max (bit_of a k) (bit_of b k)
unfolding bit_of
or_bit a b k =
    let m : max (a / 2 ^ k % 2) (b / 2 ^ k % 2) ≤ 1 = max-le (omega arith) (omega arith) in
    ap (λ (x : ℕ). x % 2) (or_shr a b k ∙ or_step (a / 2 ^ k) (b / 2 ^ k)) ∙ last _ _ (omega arith)

one_here : (b : ℕ) → bit_of (1 * 2 ^ b) b ≡ 1
unfolding bit_of
one_here b = ap (λ (x : ℕ). x % 2) (shl-shr 1 b)

one_above : (d k : ℕ) → bit_of (1 * 2 ^ (suc d + k)) k ≡ 0
unfolding bit_of
one_above d k =
    let e : 1 * 2 ^ (suc d + k) / 2 ^ k ≡ 2 ^ d * 2 =
    ap (λ (x : ℕ). x / 2 ^ k) (one-mul (2 ^ (suc d + k)) ∙ pow-add 2 (suc d) k) ∙ mul-div_cancel (2 ^ suc d) (pow_pos k) ∙ pow-suc 2 d in
    omega (arith, e)

one_below : (b k : ℕ) → b < k → bit_of (1 * 2 ^ b) k ≡ 0
unfolding bit_of
one_below b k h =
    let e : 1 * 2 ^ b / 2 ^ k ≡ 0 = div-eq_of_lt (rw (one-mul (2 ^ b)) (pow-lt h)) in
    omega (arith, e)

one_other : (b k : ℕ) → (k ≡ b → ⊥) → bit_of (1 * 2 ^ b) k ≡ 0
one_other b k n =
    elim (heads b k) [
      | lower h ↦ one_below b k h
      | level e ↦ absurd (n (sym e))
      | upper h ↦ let e : suc (b - k - 1) + k ≡ b = omega arith in rw e at (one_above (b - k - 1) k)
    ]

pub set_bit : (w b : ℕ) → b < 64 → Sets w b (bit_or w ((1 * 2 ^ b) % 2 ^ 64))
set_bit w b h =
    rw (shl_exact {a = 1} 1 b 64 (omega arith) (omega arith)) (record {
      itself = or_bit w (1 * 2 ^ b) b ∙ ap (max (bit_of w b)) (one_here b) ∙ max-eq_right (bit_small w b);
      others = λ k n. or_bit w (1 * 2 ^ b) k ∙ ap (max (bit_of w k)) (one_other b k n) ∙ max-zero (bit_of w k);
    })

-- the number n marked, by bit b of the word at its place

module _ (seen : List ℕ) (n at b w : ℕ) (l : length seen ≡ 64) (small : n < 2 ^ 12) (a : at ≡ n / 64) (e : b ≡ n % 64) (s : Sets (get_or seen at 0) b w) where
  pub marked_itself : Marked (set seen at w) n
  marked_itself = rw (← a, ← e, get_or-set_same seen at w 0 (omega arith)) s.itself

  pub marked_others : (i : ℕ) → (i ≡ n → ⊥) → bit_of (get_or (set seen at w) (i / 64) 0) (i % 64) ≡ bit_of (get_or seen (i / 64) 0) (i % 64)
  marked_others i d =
      elim (leveled (i / 64) at) [
        | even q ↦ rw (q, get_or-set_same seen at w 0 (omega arith)) (s.others (i % 64) (λ p. d (omega arith)))
        | apart q ↦ rw (get_or-set_other seen at (i / 64) w 0 q)
      ]

-- the walk up to the first number not marked

pub record AllMarked (seen : List ℕ) (i : ℕ) : Type 0 where
  pub below : (k : ℕ) → k < i → Marked seen k

pub walk_start : (seen : List ℕ) → AllMarked seen 0
walk_start seen = record { below = λ k h. absurd (omega arith) }

module _ {seen : List ℕ} {i : ℕ} (a : AllMarked seen i) where
  pub walk_step : {k : ℕ} → Marked seen i → k ≡ i + 1 → AllMarked seen k
  walk_step m e = record { below = λ n h. elim (leveled n i) [ even q ↦ rw q m | apart q ↦ a.below n (omega arith) ] }

  pub walk_found : i < 2 ^ 12 → (Marked seen i → ⊥) → FirstUnmarked seen i
  walk_found h n = record { below = a.below; near = omega arith; itself = λ _. n }

  pub walk_end : i ≤ 2 ^ 12 → 2 ^ 12 ≤ i → FirstUnmarked seen i
  walk_end h n = record { below = a.below; near = h; itself = λ q. absurd (omega arith) }
