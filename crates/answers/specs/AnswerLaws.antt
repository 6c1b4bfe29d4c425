-- Texts written one behind the other, and the texts of the answers put together from their words.
-- Assumes nothing.
use Rattle.std.specs.Prelude.{ℕ, ◌+◌, ◌*◌, ◌/◌, ◌%◌, ◌≤◌, ◌<◌, [], ◌++◌, ◌∷◌, ◌≡◌, refl, drop, get_or, length, set, take}
use Rattle.std.proofs.Common.{append_assoc, sym, ap, subst, ◌∙◌, arith, length-append, length-set}
use Rattle.lists.specs.Fill.{Filling}
use Rattle.lists.proofs.FillLaws.{fill_done, fill_step}
use Rattle.lists.proofs.PartLaws.{length-put, put-append, put_one}
use Rattle.lists.specs.Part.{put}
use Rattle.std.proofs.lemmas.List.{drop-drop}
use borrow.Rule.Slice.PartMut.{put_mid}
use Rattle.order.specs.Bytes.{Bytes}
use Rattle.lines.specs.Grammar.{Number, ◌␣◌, bytes_text, digit_of, hex_of, number_text}
use Rattle.lines.specs.HexLaws.{hex_first, hex_length, hex_second, hexed}
use Rattle.lines.specs.NumberLaws.{number_step}
use Rattle.answers.specs.Answers.{Room, Wrote, bad_word, counts_text, line_word, lined}

pub wrote_byte : (out : Bytes) (at b : ℕ) → at + 1 ≤ length out → Wrote out (set out at b) at (b ∷ []) (at + 1)
wrote_byte out at b h = record { is = put_one out at b (omega arith); behind = refl; long = length-set out at b }

pub wrote_word : (out word copied : Bytes) (at k : ℕ) → at + length word ≤ length out → copied ≡ word → k ≡ length word → Wrote out (put_mid at k out copied) at word (at + length word)
unfolding put
wrote_word out word copied at k h e n =
    let is : put_mid at k out copied ≡ put out at word =
    ap (λ (z : Bytes). put_mid at k out z) e
    ∙ ap (λ (z : Bytes). take at out ++ (word ++ z)) (drop-drop k at out ∙ ap (λ (i : ℕ). drop (at + i) out) n)
    ∙ sym (append_assoc (take at out) word (drop (at + length word) out)) in
    record { is = is; behind = refl; long = ap length is ∙ length-put out at word h }

pub wrote_is : {out out' : Bytes} {at r : ℕ} {t u : Bytes} → Wrote out out' at t r → t ≡ u → Wrote out out' at u r
wrote_is {out} {out'} {at} {r} w e = subst (λ (s : Bytes). Wrote out out' at s r) e w

pub wrote_more : {out one two : Bytes} {at a b : ℕ} {s t : Bytes} → at ≤ length out → Wrote out one at s a → Wrote one two a t b → Wrote out two at (s ++ t) b
wrote_more {out} {one} {two} {at} {a} {b} {s} {t} h v w =
    record {
      is = cc (w.is, v.is, v.behind, put-append out at s t h);
      behind = omega (arith, v.behind, w.behind, length-append s t);
      long = w.long ∙ v.long;
    }

-- the loop of `write_hex`

pub hex_turn : (out now_is s : Bytes) (at i n m j k x y : ℕ) → Room out at (hex_of s) → i < length s → n ≡ 2 * i → m ≡ 2 * (i + 1) → j ≡ at + 2 * i → k ≡ j + 1
    → x ≡ digit_of (get_or s i 0 / 16) → y ≡ digit_of (get_or s i 0 % 16) → Filling out at (hex_of s) n now_is → Filling out at (hex_of s) m (set (set now_is j x) k y)
hex_turn out now_is s at i n m j k x y h l en em ej ek ex ey f =
    let z = hex_length s in
    fill_step out at (hex_of s) (n + 1) m (set now_is j x) k y 0 h (omega arith) (omega arith) (omega arith) (ey ∙ sym (hex_second s i (n + 1) (omega arith) l))
    (fill_step out at (hex_of s) n (n + 1) now_is j x 0 h (omega arith) refl (omega arith) (ex ∙ sym (hex_first s i n en l)) f)

pub hex_done : (out now_is s : Bytes) (at i n r : ℕ) → i ≡ length s → n ≡ 2 * i → r ≡ at + 2 * i → Filling out at (hex_of s) n now_is → Wrote out now_is at (hex_of s) r
hex_done out now_is s at i n r e en er f =
    let z = hex_length s in
    record { is = fill_done out at (hex_of s) n now_is (omega arith) f; behind = omega arith; long = f.long }

-- words

pub dash_text : (s : Bytes) → length s ≡ 0 → bytes_text s ≡ 45 ∷ []
unfolding bytes_text
dash_text [] e = refl
dash_text (b ∷ s) e = absurd (omega arith)

pub hex_text : (s : Bytes) → (length s ≡ 0 → ⊥) → hex_of s ≡ bytes_text s
hex_text s n = hexed s (omega arith)

pub tenth_text : (n : ℕ) → 10 ≤ n → Number n → length (number_text n) ≡ length (number_text (n / 10)) + 1
tenth_text n h k = ap length (number_step n h k) ∙ length-append (number_text (n / 10)) ((48 + n % 10) ∷ [])

-- a line's length, and its parts

pub line_length : (s : Bytes) → length (lined s) ≡ length s + 1
unfolding lined
line_length s = length-append s (10 ∷ [])

pub line_end : (s : Bytes) → s ++ (10 ∷ []) ≡ lined s
unfolding lined
line_end s = refl

pub join_length : (s t : Bytes) → length (s ␣ t) ≡ length s + 1 + length t
unfolding ◌␣◌
join_length s t = omega (arith, length-append s (32 ∷ t))

pub two_length : (s t : Bytes) → length (lined (s ␣ t)) ≡ length s + length t + 2
two_length s t = omega (arith, line_length (s ␣ t), join_length s t)

pub three_length : (s t u : Bytes) → length (lined (s ␣ t ␣ u)) ≡ length s + length t + length u + 3
three_length s t u = omega (arith, line_length (s ␣ t ␣ u), join_length s (t ␣ u), join_length t u)

pub counts_length : (p n : ℕ) → length (counts_text p n) ≡ length (number_text p) + length (number_text n) + 3
unfolding counts_text
counts_length p n = omega (arith, two_length (number_text p) (number_text n))

pub five_length : (s t u : Bytes) (p n : ℕ) → length (lined (s ␣ t ␣ u ␣ number_text p ␣ number_text n)) ≡ length s + length t + length u + 2 + length (counts_text p n)
five_length s t u p n =
    omega (
      arith,
      line_length (s ␣ t ␣ u ␣ number_text p ␣ number_text n),
      join_length s (t ␣ u ␣ number_text p ␣ number_text n),
      join_length t (u ␣ number_text p ␣ number_text n),
      join_length u (number_text p ␣ number_text n),
      join_length (number_text p) (number_text n),
      counts_length p n,
    )

pub two_text : (s t : Bytes) → (s ++ (32 ∷ t)) ++ (10 ∷ []) ≡ lined (s ␣ t)
unfolding lined ◌␣◌
two_text s t = refl

pub three_text : (s t u : Bytes) → ((s ++ (32 ∷ t)) ++ (32 ∷ u)) ++ (10 ∷ []) ≡ lined (s ␣ t ␣ u)
unfolding lined ◌␣◌
three_text s t u = simp append_assoc

pub counts_text_lem : (p n : ℕ) → ((32 ∷ number_text p) ++ (32 ∷ number_text n)) ++ (10 ∷ []) ≡ counts_text p n
unfolding counts_text lined ◌␣◌
counts_text_lem p n = refl

pub five_text : (s t u : Bytes) (p n : ℕ) → ((s ++ (32 ∷ t)) ++ (32 ∷ u)) ++ counts_text p n ≡ lined (s ␣ t ␣ u ␣ number_text p ␣ number_text n)
unfolding counts_text lined ◌␣◌
five_text s t u p n = simp append_assoc

pub bad_text : 98 ∷ 97 ∷ 100 ∷ 32 ∷ 108 ∷ 105 ∷ 110 ∷ 101 ∷ [] ≡ bad_word ␣ line_word
unfolding ◌␣◌
bad_text = refl
