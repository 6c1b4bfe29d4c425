-- Words one space apart: where the first word ends, and that a line falls into its words in one way only.
-- Assumes nothing.
use Rattle.std.specs.Prelude.{ℕ, suc, ◌+◌, ◌<◌, Bool, [], ◌∷◌, ◌≡◌, refl, false, true, drop, eqb, get_or, length, take}
use Rattle.std.proofs.Common.{Decides, ◌∙◌, sym, add-one, arith, take_all, take-suc}
use Rattle.std.proofs.Math.Seq.{split_at}
use Rattle.std.proofs.lemmas.Bool.Decides.{Decides-eqb}
use Rattle.std.proofs.lemmas.Slice.Eq.{slice_eq-Decides}
use Rattle.std.specs.Cmp.Lexicographic.{pointwise}
use Rattle.std.specs.declared.cmp.Ordering.{Ordering}
use Rattle.std.specs.declared.cmp.Ordering.TheVariants.{Equal, Greater, Less}
use Rattle.lists.specs.All.{all_append, all_right}
use Rattle.lists.specs.Exact.{Exact, exact_no, exact_yes}
use Rattle.order.specs.Bytes.{Bytes}
use Rattle.order.specs.Compared.{Compared, compared_equal, compared_greater, compared_less}
use Rattle.order.specs.OrderLaws.{upto_of_eq}
use Rattle.lines.specs.Grammar.{◌␣◌}
use Rattle.lines.specs.Pieces.{Cut, Spaceless}

pub clear_more : (line : Bytes) (i k : ℕ) → i < length line → k ≡ i + 1 → (get_or line i 0 ≡ 32 → ⊥) → Spaceless (take i line) → Spaceless (take k line)
clear_more line i k h e n s =
    let o : k ≡ suc i = omega arith in rw (o, take-suc line i 0 h) (all_append (λ b. b ≡ 32 → ⊥) (take i line) _ s (n, tt))

-- both words and both rests
pub record Sides (a x b y : Bytes) : Type 0 where
  pub words : a ≡ b
  pub rests : x ≡ y

pub sides : (a x b y : Bytes) → Spaceless a → Spaceless b → a ␣ x ≡ b ␣ y → Sides a x b y
unfolding ◌␣◌
sides [] x [] y f g e = record { words = refl; rests = cc }
sides [] x (b ∷ bs) y f g e = absurd (g.0 (cc))
sides (a ∷ as') x [] y f g e = absurd (f.0 (cc))
sides (a ∷ as') x (b ∷ bs) y f g e =
    let h : a ≡ b = cc in
    let t : as' ␣ x ≡ bs ␣ y = cc in
    let r = sides as' x bs y f.1 g.1 t in
    record { words = cc (h, r.words); rests = r.rests }

pub no_side : (a x line : Bytes) → Spaceless line → a ␣ x ≡ line → ⊥
unfolding ◌␣◌
no_side a x line s e = (all_right (λ b. b ≡ 32 → ⊥) a (32 ∷ x) (rw e s)).0 refl

pub cut_whole : {line : Bytes} {e : ℕ} → Cut line e → e ≡ length line → Spaceless line
cut_whole {line} {e} c h = rw (take_all e line (omega arith)) at c.clear

pub cut_join : {line : Bytes} {e : ℕ} → Cut line e → e < length line → take e line ␣ drop (e + 1) line ≡ line
unfolding ◌␣◌
cut_join {line} {e} c h = cc (split_at line e 0 h, c.stop h, add-one e)

-- two words the same, by how they compare

pub same_equal : {a b : Bytes} {r : Ordering} → Compared a b r → r ≡ Equal → Exact true (a ≡ b)
same_equal c e = exact_yes (compared_equal c e)

pub same_less : {a b : Bytes} {r : Ordering} → Compared a b r → r ≡ Less → Exact false (a ≡ b)
same_less c e = exact_no (λ p. upto_of_eq (sym p) (compared_less c e))

pub same_greater : {a b : Bytes} {r : Ordering} → Compared a b r → r ≡ Greater → Exact false (a ≡ b)
same_greater c e = exact_no (λ p. upto_of_eq p (compared_greater c e))

-- what `==` of two words shows, where the second is spelled out
pub equal_words : {a b w : Bytes} {r : Bool} → r ≡ pointwise eqb a b → b ≡ w → Exact r (a ≡ w)
equal_words {a} {b} {w} {r} e f =
    let d : Decides r (a ≡ b) = slice_eq-Decides Decides-eqb a b r e in
    record { sound = λ t. d.0 t ∙ f; complete = λ p. d.1 (p ∙ sym f) }
