-- A line says one command at most: a text of bytes, of a number, of a command is the text of one only.
-- Assumes nothing.
use Rattle.std.specs.Prelude.{ℕ, zero, suc, ◌+◌, ◌-◌, ◌*◌, ◌/◌, ◌%◌, [], ◌++◌, ◌∷◌, ◌≡◌, refl, length}
use Rattle.std.proofs.Common.{sym, ap, ◌∙◌, arith}
use Rattle.order.specs.Bytes.{Bytes}
use Rattle.lines.specs.CutLaws.{no_side, sides}
use Rattle.lines.specs.Grammar.{AllBytes, Command, Sayable, Says, bytes_text, del_word, digits_of, get_word, hex_of, leaves_word, new_word, next_word, number_text, put_word, written}
use Rattle.lines.specs.Grammar.Command.{dels, gets, makes, nexts, puts, shows}
use Rattle.lines.specs.HexLaws.{bytes_clear, bytes_half, digit_one, hexed, ten}
use Rattle.lines.specs.HexLaws.Ten.{high, low}
use Rattle.lines.specs.NumberLaws.{digits_small, digits_step, number_clear}
use Rattle.lines.specs.ParseLaws.{behind, del_clear, differ, get_clear, leaves_clear, new_clear, next_clear, put_clear}

-- the number that digits say
value_of : ℕ → Bytes → ℕ
value_of n [] = n
value_of n (b ∷ s) = value_of (n * 10 + (b - 48)) s

value_more : (n : ℕ) (s : Bytes) (b : ℕ) → value_of n (s ++ (b ∷ [])) ≡ value_of n s * 10 + (b - 48)
unfolding value_of
value_more n [] b = refl
value_more n (x ∷ s) b = value_more (n * 10 + (x - 48)) s b

digits_value : (d n : ℕ) → value_of 0 (digits_of d n) ≡ n
unfolding digits_of value_of
digits_value zero n = let z : 0 * 10 + (48 + n - 48) ≡ n = omega arith in z
digits_value (suc d) n =
    elim (ten n) [
      | low x ↦ ap (value_of 0) (digits_small (suc d) n x) ∙ (let z : 0 * 10 + (48 + n - 48) ≡ n = omega arith in z)
      | high x ↦ ap (value_of 0) (digits_step d n x) ∙ value_more 0 (digits_of d (n / 10)) (48 + n % 10)
          ∙ (let y = digits_value d (n / 10) in let z : value_of 0 (digits_of d (n / 10)) * 10 + (48 + n % 10 - 48) ≡ n = omega arith in z)
    ]

pub one_number : (n m : ℕ) → number_text n ≡ number_text m → n ≡ m
unfolding number_text
one_number n m e = sym (digits_value 8 n) ∙ ap (value_of 0) e ∙ digits_value 8 m

one_hex : (s t : Bytes) → AllBytes s → AllBytes t → hex_of s ≡ hex_of t → s ≡ t
unfolding hex_of
one_hex [] [] a b e = refl
one_hex [] (y ∷ t) a b e = absurd (omega (arith, ap length e))
one_hex (x ∷ s) [] a b e = absurd (omega (arith, ap length e))
one_hex (x ∷ s) (y ∷ t) a b e =
    let p : x / 16 ≡ y / 16 = digit_one (x / 16) (y / 16) (omega (arith, a.0)) (omega (arith, b.0)) (cc) in
    let q : x % 16 ≡ y % 16 = digit_one (x % 16) (y % 16) (omega arith) (omega arith) (cc) in
    let z : x ≡ y = omega arith in
    let r : hex_of s ≡ hex_of t = cc in
    cc (z, one_hex s t a.1 b.1 r)

pub one_bytes : (s t : Bytes) → AllBytes s → AllBytes t → bytes_text s ≡ bytes_text t → s ≡ t
one_bytes s t a b e = go s t a b e (sym (bytes_half s) ∙ ap (λ (w : Bytes). length w / 2) e ∙ bytes_half t)
  where
    go : (s t : Bytes) → AllBytes s → AllBytes t → bytes_text s ≡ bytes_text t → length s ≡ length t → s ≡ t
    go [] [] a b e l = refl
    go [] (y ∷ t) a b e l = absurd (omega arith)
    go (x ∷ s) [] a b e l = absurd (omega arith)
    go (x ∷ s) (y ∷ t) a b e l = one_hex (x ∷ s) (y ∷ t) a b (hexed (x ∷ s) (omega arith) ∙ e ∙ sym (hexed (y ∷ t) (omega arith)))

pub one_command : (c d : Command) → Sayable c → Sayable d → written c ≡ written d → c ≡ d
one_command (makes f p a) (makes f' p' a') s t e = (let x = (behind new_word _ new_clear (makes f' p' a') (sym e)).rests in
    let y = sides _ _ _ _ (number_clear f') (number_clear f) x in
    let z = sides _ _ _ _ (number_clear p') (number_clear p) y.rests in
    cc (one_number f' f y.words, one_number p' p z.words, one_number a' a z.rests))
one_command (makes f p a) (puts k' v') s t e = absurd (differ 0 (λ x. omega arith) (behind new_word _ new_clear (puts k' v') (sym e)).words)
one_command (makes f p a) (gets k') s t e = absurd (differ 0 (λ x. omega arith) (behind new_word _ new_clear (gets k') (sym e)).words)
one_command (makes f p a) (dels k') s t e = absurd (differ 0 (λ x. omega arith) (behind new_word _ new_clear (dels k') (sym e)).words)
one_command (makes f p a) (nexts k') s t e = absurd (differ 2 (λ x. omega arith) (behind new_word _ new_clear (nexts k') (sym e)).words)
one_command (makes f p a) shows s t e = absurd (behind new_word _ new_clear shows (sym e))
one_command (puts k v) (makes f' p' a') s t e = absurd (differ 0 (λ x. omega arith) (behind put_word _ put_clear (makes f' p' a') (sym e)).words)
one_command (puts k v) (puts k' v') s t e = (let x = (behind put_word _ put_clear (puts k' v') (sym e)).rests in
    let y = sides _ _ _ _ (bytes_clear k') (bytes_clear k) x in
    cc (one_bytes k' k t.0 s.0 y.words, one_bytes v' v t.1 s.1 y.rests))
one_command (puts k v) (gets k') s t e = absurd (differ 0 (λ x. omega arith) (behind put_word _ put_clear (gets k') (sym e)).words)
one_command (puts k v) (dels k') s t e = absurd (differ 0 (λ x. omega arith) (behind put_word _ put_clear (dels k') (sym e)).words)
one_command (puts k v) (nexts k') s t e = absurd (differ 0 (λ x. omega arith) (behind put_word _ put_clear (nexts k') (sym e)).words)
one_command (puts k v) shows s t e = absurd (behind put_word _ put_clear shows (sym e))
one_command (gets k) (makes f' p' a') s t e = absurd (differ 0 (λ x. omega arith) (behind get_word _ get_clear (makes f' p' a') (sym e)).words)
one_command (gets k) (puts k' v') s t e = absurd (differ 0 (λ x. omega arith) (behind get_word _ get_clear (puts k' v') (sym e)).words)
one_command (gets k) (gets k') s t e = cc (one_bytes k' k t s (behind get_word _ get_clear (gets k') (sym e)).rests)
one_command (gets k) (dels k') s t e = absurd (differ 0 (λ x. omega arith) (behind get_word _ get_clear (dels k') (sym e)).words)
one_command (gets k) (nexts k') s t e = absurd (differ 0 (λ x. omega arith) (behind get_word _ get_clear (nexts k') (sym e)).words)
one_command (gets k) shows s t e = absurd (behind get_word _ get_clear shows (sym e))
one_command (dels k) (makes f' p' a') s t e = absurd (differ 0 (λ x. omega arith) (behind del_word _ del_clear (makes f' p' a') (sym e)).words)
one_command (dels k) (puts k' v') s t e = absurd (differ 0 (λ x. omega arith) (behind del_word _ del_clear (puts k' v') (sym e)).words)
one_command (dels k) (gets k') s t e = absurd (differ 0 (λ x. omega arith) (behind del_word _ del_clear (gets k') (sym e)).words)
one_command (dels k) (dels k') s t e = cc (one_bytes k' k t s (behind del_word _ del_clear (dels k') (sym e)).rests)
one_command (dels k) (nexts k') s t e = absurd (differ 0 (λ x. omega arith) (behind del_word _ del_clear (nexts k') (sym e)).words)
one_command (dels k) shows s t e = absurd (behind del_word _ del_clear shows (sym e))
one_command (nexts k) (makes f' p' a') s t e = absurd (differ 2 (λ x. omega arith) (behind next_word _ next_clear (makes f' p' a') (sym e)).words)
one_command (nexts k) (puts k' v') s t e = absurd (differ 0 (λ x. omega arith) (behind next_word _ next_clear (puts k' v') (sym e)).words)
one_command (nexts k) (gets k') s t e = absurd (differ 0 (λ x. omega arith) (behind next_word _ next_clear (gets k') (sym e)).words)
one_command (nexts k) (dels k') s t e = absurd (differ 0 (λ x. omega arith) (behind next_word _ next_clear (dels k') (sym e)).words)
one_command (nexts k) (nexts k') s t e = cc (one_bytes k' k t s (behind next_word _ next_clear (nexts k') (sym e)).rests)
one_command (nexts k) shows s t e = absurd (behind next_word _ next_clear shows (sym e))
one_command shows (makes f' p' a') s t e = absurd (no_side _ _ leaves_word leaves_clear (sym e))
one_command shows (puts k' v') s t e = absurd (no_side _ _ leaves_word leaves_clear (sym e))
one_command shows (gets k') s t e = absurd (no_side _ _ leaves_word leaves_clear (sym e))
one_command shows (dels k') s t e = absurd (no_side _ _ leaves_word leaves_clear (sym e))
one_command shows (nexts k') s t e = absurd (no_side _ _ leaves_word leaves_clear (sym e))
one_command shows shows s t e = refl

pub says_one : {line : Bytes} {c d : Command} → Says line c → Says line d → c ≡ d
says_one {line} {c} {d} x y = one_command c d x.sayable y.sayable (x.text ∙ sym y.text)
