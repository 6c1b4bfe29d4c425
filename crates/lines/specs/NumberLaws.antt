-- Numbers in decimal: what their digits are, and that a word of 1 to 9 digits that does not start with 0 is the text of its number.
-- Assumes nothing.
use Rattle.std.specs.Prelude.{ℕ, zero, suc, ◌+◌, ◌*◌, ◌/◌, ◌%◌, ◌^◌, ◌≤◌, ◌<◌, None, Some, [], ◌++◌, ◌∷◌, ◌≡◌, refl, get_or, length, take}
use Rattle.std.proofs.Common.{sym, ap, ◌∙◌, pow-suc, arith, lt-ltb, le-ltb, length-append, take-suc, take_all}
use Rattle.std.proofs.Math.Nat.{pow-le-pow_right}
use Rattle.std.proofs.Math.ListN.{get_or-append}
use Rattle.lists.specs.All.{All, all_append, all_at}
use Rattle.order.specs.Bytes.{Bytes}
use Rattle.lines.specs.Grammar.{Number, digits_of, number_text}
use Rattle.lines.specs.HexLaws.{ten}
use Rattle.lines.specs.HexLaws.Ten.{low, high}
use Rattle.lines.specs.Pieces.{Numbered, Spaceless, TenValue}

-- the two clauses, and that more digits than there are change nothing

pub digits_small : (d n : ℕ) → n < 10 → digits_of d n ≡ (48 + n) ∷ []
unfolding digits_of
digits_small zero n h = refl
digits_small (suc d) n h = rw (lt-ltb n 10 h)

pub digits_step : (d n : ℕ) → 10 ≤ n → digits_of (suc d) n ≡ digits_of d (n / 10) ++ ((48 + n % 10) ∷ [])
unfolding digits_of
digits_step d n h = rw (le-ltb n 10 h)

tenth : (d n : ℕ) → n < 10 ^ suc d → n / 10 < 10 ^ d
tenth d n h = let e = pow-suc 10 d in omega arith

digits_fuel : (d n : ℕ) → n < 10 ^ suc d → digits_of (suc d) n ≡ digits_of d n
digits_fuel zero n h = digits_small 1 n (omega arith) ∙ sym (digits_small 0 n (omega arith))
digits_fuel (suc d) n h =
    elim (ten n) [
      | low x ↦ digits_small (suc (suc d)) n x ∙ sym (digits_small (suc d) n x)
      | high x ↦ cc (digits_step (suc d) n x, digits_step d n x, digits_fuel d (n / 10) (tenth (suc d) n h))
    ]

pub number_small : (n : ℕ) → n < 10 → number_text n ≡ (48 + n) ∷ []
unfolding number_text
number_small n h = digits_small 8 n h

pub number_step : (n : ℕ) → 10 ≤ n → Number n → number_text n ≡ number_text (n / 10) ++ ((48 + n % 10) ∷ [])
unfolding number_text
number_step n h k = digits_step 7 n h ∙ ap (λ (s : Bytes). s ++ ((48 + n % 10) ∷ [])) (sym (digits_fuel 7 (n / 10) (omega arith)))

-- how long, and which bytes

digits_most : (d n : ℕ) → length (digits_of d n) ≤ suc d
unfolding digits_of
digits_most zero n = omega arith
digits_most (suc d) n =
    elim (ten n) [
      | low x ↦ rw (lt-ltb n 10 x) (omega arith)
      | high x ↦ rw (le-ltb n 10 x) (omega (arith, digits_most d (n / 10), length-append (digits_of d (n / 10)) ((48 + n % 10) ∷ [])))
    ]

digits_some : (d n : ℕ) → 0 < length (digits_of d n)
unfolding digits_of
digits_some zero n = omega arith
digits_some (suc d) n =
    elim (ten n) [
      | low x ↦ rw (lt-ltb n 10 x) (omega arith)
      | high x ↦ rw (le-ltb n 10 x) (omega (arith, length-append (digits_of d (n / 10)) ((48 + n % 10) ∷ [])))
    ]

digits_head : (d n : ℕ) → 0 < n → get_or (digits_of d n) 0 0 ≡ 48 → ⊥
unfolding digits_of
digits_head zero n h e = omega arith
digits_head (suc d) n h e =
    elim (ten n) [
      | low x ↦ (let y : 48 + n ≡ 48 = ap (λ (s : Bytes). get_or s 0 0) (sym (digits_small (suc d) n x)) ∙ e in omega arith)
      | high x ↦ digits_head d (n / 10) (omega arith)
          (sym (get_or-append (digits_of d (n / 10)) _ 0 0 (digits_some d (n / 10))) ∙ ap (λ (s : Bytes). get_or s 0 0) (sym (digits_step d n x)) ∙ e)
    ]

digits_clear : (d n : ℕ) → Spaceless (digits_of d n)
unfolding digits_of
digits_clear zero n = ((λ e. omega arith), tt)
digits_clear (suc d) n =
    elim (ten n) [
      | low x ↦ rw (lt-ltb n 10 x) ((λ e. omega arith), tt)
      | high x ↦ rw (le-ltb n 10 x) (all_append (λ b. b ≡ 32 → ⊥) (digits_of d (n / 10)) _ (digits_clear d (n / 10)) ((λ e. omega arith), tt))
    ]

abbrev Ranged : Bytes → Type 0
Ranged s = All (λ b. (48 ≤ b) × (b < 58)) s

digits_ranged : (d n : ℕ) → n < 10 ^ suc d → Ranged (digits_of d n)
unfolding digits_of
digits_ranged zero n h = ((omega arith, omega arith), tt)
digits_ranged (suc d) n h =
    elim (ten n) [
      | low x ↦ rw (lt-ltb n 10 x) ((omega arith, omega arith), tt)
      | high x ↦ rw (le-ltb n 10 x) (all_append (λ b. (48 ≤ b) × (b < 58)) (digits_of d (n / 10)) _ (digits_ranged d (n / 10) (tenth (suc d) n h)) ((omega arith, omega arith), tt))
    ]

pub number_most : (n : ℕ) → length (number_text n) ≤ 9
unfolding number_text
number_most n = digits_most 8 n

pub number_some : (n : ℕ) → 0 < length (number_text n)
unfolding number_text
number_some n = digits_some 8 n

pub number_clear : (n : ℕ) → Spaceless (number_text n)
unfolding number_text
number_clear n = digits_clear 8 n

number_ranged : (n : ℕ) → Number n → Ranged (number_text n)
unfolding number_text
number_ranged n h = digits_ranged 8 n h

number_head : (n : ℕ) → 0 < n → get_or (number_text n) 0 0 ≡ 48 → ⊥
unfolding number_text
number_head n h e = digits_head 8 n h e

-- words that are no number's text

pub none_empty : (word : Bytes) → length word ≡ 0 → Numbered word None
none_empty word e v k t = omega (arith, number_some v, ap length t)

pub none_long : (word : Bytes) → 9 < length word → Numbered word None
none_long word e v k t = omega (arith, number_most v, ap length t)

pub none_zero : (word : Bytes) → get_or word 0 0 ≡ 48 → 1 < length word → Numbered word None
none_zero word e h zero k t = omega (arith, ap length (number_small 0 (omega arith)), ap length t)
none_zero word e h (suc v) k t = number_head (suc v) (omega arith) (ap (λ (s : Bytes). get_or s 0 0) t ∙ e)

pub none_byte : (word : Bytes) (i : ℕ) → i < length word → TenValue (get_or word i 0) None → Numbered word None
none_byte word i h x v k t =
    let y = all_at (λ b. (48 ≤ b) × (b < 58)) (number_text v) i 0 (omega (arith, ap length t)) (number_ranged v k) in
    let u : get_or (number_text v) i 0 ≡ get_or word i 0 = ap (λ (s : Bytes). get_or s i 0) t in
    x (omega (arith, y.0)) (omega (arith, y.1))

pub is_zero : (word : Bytes) → get_or word 0 0 ≡ 48 → length word ≡ 1 → Numbered word (Some 0)
is_zero word e h = (omega arith, number_small 0 (omega arith) ∙ one word e h)
  where
    one : (w : Bytes) → get_or w 0 0 ≡ 48 → length w ≡ 1 → 48 ∷ [] ≡ w
    one [] e h = absurd (omega arith)
    one (x ∷ []) e h = cc
    one (x ∷ y ∷ w) e h = absurd (omega arith)

pub ten_small : {b r : ℕ} → TenValue b (Some r) → r < 10
ten_small v = v.0

-- the loop of `counted`: the number of the first i digits

pub record Counting (word : Bytes) (i v : ℕ) : Type 0 where
  pub seen : 0 < v
  pub small : v < 10 ^ i
  pub text : number_text v ≡ take i word

pub count_start : (word : Bytes) (v : ℕ) → 0 < length word → (get_or word 0 0 ≡ 48 → ⊥) → TenValue (get_or word 0 0) (Some v) → Counting word 1 v
count_start word v h n x = record { seen = pos v x.1; small = omega (arith, x.0); text = number_small v x.0 ∙ one word h x.1 }
  where
    pos : (m : ℕ) → 48 + m ≡ get_or word 0 0 → 0 < m
    pos zero e = absurd (n (sym e))
    pos (suc m) e = omega arith

    one : (w : Bytes) → 0 < length w → 48 + v ≡ get_or w 0 0 → (48 + v) ∷ [] ≡ take 1 w
    one [] h e = absurd (omega arith)
    one (x ∷ w) h e = cc

pub count_fits : (i v : ℕ) → i ≤ 9 → v < 10 ^ i → Number v
count_fits i v h k = let e = pow-le-pow_right {n = 10} (omega arith) {i = i} {j = 9} h in omega arith

pub count_turn : (word : Bytes) (i k v d : ℕ) → i < length word → length word ≤ 9 → k ≡ i + 1 → TenValue (get_or word i 0) (Some d)
    → Counting word i v → Counting word k (v * 10 + d)
count_turn word i k v d h m e x c =
    let l : d < 10 = x.0 in
    let o : k ≡ suc i = omega arith in
    let p : v * 10 + d < 10 ^ k = rw o (let q = pow-suc 10 i in omega (arith, c.small)) in
    let n : Number (v * 10 + d) = count_fits k _ (omega arith) p in
    let a : (v * 10 + d) / 10 ≡ v = omega arith in
    let b : (v * 10 + d) % 10 ≡ d = omega arith in
    let s = number_step (v * 10 + d) (omega (arith, c.seen)) n in
    record {
      seen = omega (arith, c.seen);
      small = p;
      text = cc (s, a, b, x.1, c.text, o, take-suc word i 0 h);
    }

pub count_done : (word : Bytes) (i v : ℕ) → length word ≡ i → i ≤ 9 → Counting word i v → Numbered word (Some v)
count_done word i v e h c = (count_fits i v h c.small, c.text ∙ take_all i word (omega arith))
