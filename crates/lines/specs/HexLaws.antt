-- Bytes as hexadecimal digits: a digit has one value, and a word of an even number of digits is the text of its bytes.
-- Assumes nothing.
use Rattle.std.specs.Prelude.{ℕ, zero, suc, ◌+◌, ◌-◌, ◌*◌, ◌/◌, ◌%◌, ◌≤◌, ◌<◌, None, Some, true, false, [], ◌∷◌, ◌≡◌, refl, is_some, unwrap_or, eqb, get_or, length, set}
use Rattle.std.specs.List.{AllWithin, HoldsAt}
use Rattle.std.proofs.Common.{Bool, MatchBool, Option, IsSome, sym, ap, ◌∙◌, arith, lt-ltb, le-ltb}
use Rattle.lists.specs.All.{all_at}
use Rattle.lists.specs.Exact.{Exact, exact_eqb, exact_iff, exact_no, exact_yes, no_way}
use Rattle.lists.specs.Fill.{Filling}
use Rattle.lists.proofs.FillLaws.{fill_done, fill_step}
use Rattle.order.specs.Bytes.{Bytes}
use Rattle.order.specs.OrderLaws.{heads}
use Rattle.order.specs.OrderLaws.Heads.{lower, level, upper}
use Rattle.lines.specs.Grammar.{AllBytes, bytes_text, digit_of, hex_of}
use Rattle.lines.specs.Pieces.{AllDigits, Decoded, HexValue, IsBytes, IsDigit, Spaceless}

-- below ten or from ten on
pub data Ten (d : ℕ) : Type 0 where
  low : d < 10 → Ten d
  high : 10 ≤ d → Ten d

pub ten : (d : ℕ) → Ten d
ten d = elim (heads d 10) [ lower h ↦ low h | level h ↦ high (omega arith) | upper h ↦ high (omega arith) ]

pub digit_low : (d : ℕ) → d < 10 → digit_of d ≡ 48 + d
unfolding digit_of
digit_low d h = rw (lt-ltb d 10 h)

pub digit_high : (d : ℕ) → 10 ≤ d → digit_of d ≡ 87 + d
unfolding digit_of
digit_high d h = rw (le-ltb d 10 h)

pub digit_one : (d e : ℕ) → d < 16 → e < 16 → digit_of d ≡ digit_of e → d ≡ e
digit_one d e h k p =
    elim (ten d) [
      | low x ↦ elim (ten e) [ low y ↦ omega (arith, digit_low d x, digit_low e y) | high y ↦ absurd (omega (arith, digit_low d x, digit_high e y)) ]
      | high x ↦ elim (ten e) [ low y ↦ absurd (omega (arith, digit_high d x, digit_low e y)) | high y ↦ omega (arith, digit_high d x, digit_high e y) ]
    ]

digit_large : (d : ℕ) → 48 ≤ digit_of d
digit_large d = elim (ten d) [ low x ↦ omega (arith, digit_low d x) | high x ↦ omega (arith, digit_high d x) ]

-- the value of a byte

pub hex_none : (b : ℕ) → ((d : ℕ) → d < 10 → 48 + d ≡ b → ⊥) → ((d : ℕ) → 10 ≤ d → d < 16 → 87 + d ≡ b → ⊥) → HexValue b None
hex_none b f g t =
    elim (ten t.digit) [
      | low x ↦ f t.digit x (sym (digit_low t.digit x) ∙ t.text)
      | high x ↦ g t.digit x t.fits (sym (digit_high t.digit x) ∙ t.text)
    ]

pub hex_low : (b : ℕ) → 48 ≤ b → b < 58 → HexValue b (Some (b - 48))
hex_low b h k = (omega arith, omega (arith, digit_low (b - 48) (omega arith)))

pub hex_high : (b : ℕ) → 97 ≤ b → b < 103 → HexValue b (Some (b - 97 + 10))
hex_high b h k = (omega arith, omega (arith, digit_high (b - 97 + 10) (omega arith)))

-- a digit has a value
pub value_some : {b : ℕ} (r : Option ℕ) → HexValue b r → IsDigit b → IsSome r
value_some (Some d) v t = refl
value_some None v t = absurd (v t)

pub value_or : {b h : ℕ} (r : Option ℕ) → h ≡ unwrap_or r 0 → HexValue b r → IsDigit b → HexValue b (Some h)
value_or (Some d) e v t = rw e v
value_or None e v t = absurd (v t)

pub value_digit : {b : ℕ} (r : Option ℕ) → HexValue b r → is_some r ≡ true → IsDigit b
value_digit (Some d) v e = record { digit = d; fits = v.0; text = v.1 }
value_digit None v e = no_way e

pub value_none : {b : ℕ} (r : Option ℕ) → HexValue b r → is_some r ≡ false → IsDigit b → ⊥
value_none (Some d) v e = no_way (sym e)
value_none None v e = v

pub value_small : {b r : ℕ} → HexValue b (Some r) → r < 16
value_small v = v.0

-- digits, one byte more
pub digits_more : (word : Bytes) (i k : ℕ) → k ≡ i + 1 → AllDigits word i → IsDigit (get_or word i 0) → AllDigits word k
digits_more word i k e f d j h =
    elim (heads j i) [ lower x ↦ f j x | level x ↦ rw x d | upper x ↦ absurd (omega arith) ]

pub digits_all : (word : Bytes) (i : ℕ) → length word ≤ i → AllDigits word i → AllDigits word (length word)
digits_all word i h f j k = f j (omega arith)

-- what a look at every byte shows
pub exact_digits : (r : Bool) (word : Bytes) → MatchBool r (AllWithin IsDigit word 0 (length word)) ((k : ℕ) × (k < length word) × HoldsAt (λ b. IsDigit b → ⊥) word k)
    → Exact r (AllDigits word (length word))
exact_digits true word f = exact_yes (λ j h. f j 0 (omega arith) h)
exact_digits false word f = exact_no (λ g. f.2 0 (g f.0 f.1))

-- text of bytes

pub hex_length : (s : Bytes) → length (hex_of s) ≡ 2 * length s
unfolding hex_of
hex_length [] = refl
hex_length (b ∷ s) = omega (arith, hex_length s)

pub bytes_length : (s : Bytes) → 0 < length s → length (bytes_text s) ≡ 2 * length s
unfolding bytes_text
bytes_length [] h = absurd (omega arith)
bytes_length (b ∷ s) h = hex_length (b ∷ s)

pub bytes_some : (s : Bytes) → 0 < length (bytes_text s)
unfolding bytes_text
bytes_some [] = omega arith
bytes_some (b ∷ s) = omega (arith, hex_length (b ∷ s))

pub bytes_half : (s : Bytes) → length (bytes_text s) / 2 ≡ length s
unfolding bytes_text
bytes_half [] = omega arith
bytes_half (b ∷ s) = omega (arith, hex_length (b ∷ s))

hex_clear : (s : Bytes) → Spaceless (hex_of s)
unfolding hex_of
hex_clear [] = tt
hex_clear (b ∷ s) =
    ((λ e. omega (arith, digit_large (b / 16))), ((λ e. omega (arith, digit_large (b % 16))), hex_clear s))

pub bytes_clear : (s : Bytes) → Spaceless (bytes_text s)
unfolding bytes_text
bytes_clear [] = ((λ e. omega arith), tt)
bytes_clear (b ∷ s) = hex_clear (b ∷ s)

-- digits of bytes, and bytes of digits

hex_digits : (s : Bytes) → AllBytes s → (j : ℕ) → j < length (hex_of s) → IsDigit (get_or (hex_of s) j 0)
unfolding hex_of
hex_digits [] a j h = absurd (omega arith)
hex_digits (b ∷ s) a zero h = record { digit = b / 16; fits = omega (arith, a.0); text = refl }
hex_digits (b ∷ s) a (suc zero) h = record { digit = b % 16; fits = omega arith; text = refl }
hex_digits (b ∷ s) a (suc (suc j)) h = hex_digits s a.1 j (omega arith)

record Built (word : Bytes) : Type 0 where
  bytes : Bytes
  fits : AllBytes bytes
  text : hex_of bytes ≡ word

built : (word : Bytes) → length word % 2 ≡ 0 → AllDigits word (length word) → Built word
unfolding hex_of
built [] e f = record { bytes = []; fits = tt; text = refl }
built (x ∷ []) e f = absurd (omega arith)
built (x ∷ y ∷ w) e f =
    let p = f 0 (omega arith) in
    let q = f 1 (omega arith) in
    let r = built w (omega arith) (λ j h. f (suc (suc j)) (omega arith)) in
    let n : ℕ = p.digit * 16 + q.digit in
    let u : n / 16 ≡ p.digit = omega (arith, p.fits, q.fits) in
    let v : n % 16 ≡ q.digit = omega (arith, p.fits, q.fits) in
    record { bytes = n ∷ r.bytes; fits = (omega (arith, p.fits, q.fits), r.fits); text = cc (ap digit_of u, ap digit_of v, p.text, q.text, r.text) }

pub no_bytes : (word : Bytes) → length word ≡ 0 → IsBytes word → ⊥
no_bytes word e b = omega (arith, bytes_some b.bytes, ap length b.text)

pub odd_bytes : (word : Bytes) → 1 < length word → length word % 2 ≡ 1 → IsBytes word → ⊥
odd_bytes word h e b = omega (arith, bytes_half b.bytes, bytes_length b.bytes (omega (arith, bytes_half b.bytes, ap length b.text)), ap length b.text)

pub dash : (word : Bytes) → length word ≡ 1 → Exact (eqb (get_or word 0 0) 45) (IsBytes word)
unfolding bytes_text
dash word e = exact_iff (exact_eqb (get_or word 0 0) 45) (λ h. to word e h) (λ b. from b.bytes b.text)
  where
    to : (w : Bytes) → length w ≡ 1 → get_or w 0 0 ≡ 45 → IsBytes w
    to [] e h = absurd (omega arith)
    to (x ∷ []) e h = record { bytes = []; fits = tt; text = cc }
    to (x ∷ y ∷ w) e h = absurd (omega arith)

    from : (s : Bytes) → bytes_text s ≡ word → get_or word 0 0 ≡ 45
    from [] t = rw (← t)
    from (x ∷ s) t = absurd (omega (arith, hex_length (x ∷ s), ap length t))

pub digits_bytes : (word : Bytes) → 1 < length word → length word % 2 ≡ 0 → AllDigits word (length word) → IsBytes word
unfolding bytes_text
digits_bytes word h e f = let b = built word e f in record { bytes = b.bytes; fits = b.fits; text = go b.bytes b.text }
  where
    go : (s : Bytes) → hex_of s ≡ word → bytes_text s ≡ word
    go [] t = absurd (omega (arith, hex_length [], ap length t))
    go (x ∷ s) t = t

pub bytes_digits : (word : Bytes) → 1 < length word → IsBytes word → AllDigits word (length word)
unfolding bytes_text
bytes_digits word h b = go b.bytes b.fits b.text
  where
    go : (s : Bytes) → AllBytes s → bytes_text s ≡ word → AllDigits word (length word)
    go [] a t = absurd (omega (arith, ap length t))
    go (x ∷ s) a t = rw (← t) (hex_digits (x ∷ s) a)

-- the loop of `decode`

pub digit_read : {word : Bytes} (j : ℕ) → IsBytes word → j < 2 * (length word / 2) → IsDigit (get_or word j 0)
digit_read {word} j b h = bytes_digits word (omega arith) b j (omega arith)

pub hex_first : (s : Bytes) (i j : ℕ) → j ≡ 2 * i → i < length s → get_or (hex_of s) j 0 ≡ digit_of (get_or s i 0 / 16)
unfolding hex_of
hex_first [] i j e h = absurd (omega arith)
hex_first (b ∷ s) zero j e h = rw e
hex_first (b ∷ s) (suc i) j e h =
    let f : j ≡ suc (suc (2 * i)) = omega arith in rw f (hex_first s i (2 * i) refl (omega arith))

pub hex_second : (s : Bytes) (i j : ℕ) → j ≡ 2 * i + 1 → i < length s → get_or (hex_of s) j 0 ≡ digit_of (get_or s i 0 % 16)
unfolding hex_of
hex_second [] i j e h = absurd (omega arith)
hex_second (b ∷ s) zero j e h = rw e
hex_second (b ∷ s) (suc i) j e h =
    let f : j ≡ suc (suc (2 * i + 1)) = omega arith in rw f (hex_second s i (2 * i + 1) refl (omega arith))

pub hexed : (s : Bytes) → 0 < length s → hex_of s ≡ bytes_text s
unfolding bytes_text
hexed [] h = absurd (omega arith)
hexed (b ∷ s) h = refl

-- every byte string of which the word is the text is written up to i
abbrev pub Decoding : (word was now_is : Bytes) → ℕ → Type 0
Decoding word was now_is i = (s : Bytes) → AllBytes s → bytes_text s ≡ word → Filling was 0 s i now_is

pub decode_turn : (word was now_is : Bytes) (i k x y : ℕ) → length word / 2 ≤ length was → i < length word / 2 → k ≡ i + 1 → IsBytes word
    → HexValue (get_or word (2 * i) 0) (Some x) → HexValue (get_or word (2 * i + 1) 0) (Some y) → Decoding word was now_is i
    → Decoding word was (set now_is i (x * 16 + y)) k
decode_turn word was now_is i k x y m h e b p q d s a t =
    let n : length word / 2 ≡ length s = sym (ap (λ (w : Bytes). length w / 2) t) ∙ bytes_half s in
    let o : get_or s i 0 < 256 = all_at (λ b. b < 256) s i 0 (omega arith) a in
    let u : x < 16 = p.0 in
    let v : y < 16 = q.0 in
    let w : hex_of s ≡ word = hexed s (omega arith) ∙ t in
    let f : x ≡ get_or s i 0 / 16 =
    digit_one _ _ u (omega arith) (p.1 ∙ ap (λ (w : Bytes). get_or w (2 * i) 0) (sym w) ∙ hex_first s i (2 * i) refl (omega arith)) in
    let g : y ≡ get_or s i 0 % 16 =
    digit_one _ _ v (omega arith) (q.1 ∙ ap (λ (w : Bytes). get_or w (2 * i + 1) 0) (sym w) ∙ hex_second s i (2 * i + 1) refl (omega arith)) in
    fill_step was 0 s i k now_is i (x * 16 + y) 0 (omega arith) (omega arith) e (omega arith) (omega arith) (d s a t)

pub decode_done : (word was now_is : Bytes) (i n : ℕ) → n ≡ length word / 2 → i ≡ n → Decoding word was now_is i → Decoded word was now_is n
decode_done word was now_is i n e h d s a t =
    let m : length word / 2 ≡ length s = sym (ap (λ (w : Bytes). length w / 2) t) ∙ bytes_half s in
    (e ∙ m, fill_done was 0 s i now_is (omega arith) (d s a t))
