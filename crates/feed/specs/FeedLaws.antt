-- Where a line ends, and what a buffer holds of it.
-- Assumes nothing.
use Rattle.std.specs.Prelude.{ℕ, zero, suc, ◌+◌, ◌-◌, ◌≤◌, ◌<◌, None, Some, List, [], ◌∷◌, ◌++◌, ◌⊎◌, ◌≡◌, refl, drop, get_or, length, take}
use Rattle.std.proofs.Common.{append_assoc, inl, inr, sym, ap, subst, ◌∙◌, eq-or-lt_of_le, arith, length-append, length-drop, length-take, length-take-le, take_all}
use Rattle.std.proofs.Math.Seq.{take-append-add, take-nil}
use Rattle.std.proofs.lemmas.Bool.{cases_lt}
use Rattle.std.proofs.lemmas.List.{drop-drop, get_or-drop}
use borrow.Rule.Slice.PartMut.{put_mid}
use Rattle.lists.specs.All.{All}
use Rattle.lists.specs.Part.{part, put}
use Rattle.lists.proofs.PartLaws.{get_or-part, length-part, part-snoc, drop-put_all, length-put, take-put_all}
use Rattle.feed.specs.Feeds.{Ends, FirstNewline, Gathers, Holds, Keeps}

-- the bytes from a place on, none of them a newline: where they end

pub record Clear (piece : List ℕ) (from i : ℕ) : Type 0 where
  pub onward : from ≤ i
  pub within : i ≤ length piece
  pub clear : (j : ℕ) → from ≤ j → j < i → get_or piece j 0 ≡ 10 → ⊥

pub clear_none : (piece : List ℕ) (from : ℕ) → from ≤ length piece → Clear piece from from
clear_none piece from h = record { onward = omega arith; within = h; clear = λ j f b e. omega arith }

pub clear_more : {piece : List ℕ} {from i : ℕ} (k : ℕ) → k ≡ i + 1 → i < length piece → (get_or piece i 0 ≡ 10 → ⊥) → Clear piece from i → Clear piece from k
clear_more {piece} {from} {i} k e h n c =
    record {
      onward = omega (arith, c.onward);
      within = omega arith;
      clear = λ j f b. go j f (eq-or-lt_of_le (let x : j ≤ i = omega arith in x));
    }
  where
    go : (j : ℕ) → from ≤ j → (j ≡ i) ⊎ (j < i) → get_or piece j 0 ≡ 10 → ⊥
    go j f (inl d) = rw d n
    go j f (inr b) = c.clear j f b

pub ends_at : {piece : List ℕ} {from i : ℕ} → Clear piece from i → get_or piece i 0 ≡ 10 → Ends piece from i
ends_at c e = record { onward = c.onward; within = c.within; clear = c.clear; newline = λ _. e }

pub ends_last : {piece : List ℕ} {from i : ℕ} → Clear piece from i → length piece ≤ i → Ends piece from i
ends_last c h = record { onward = c.onward; within = c.within; clear = c.clear; newline = λ b. absurd (omega arith) }

-- what `hold` leaves

-- the smaller of two numbers
pub record Least (m a b : ℕ) : Type 0 where
  pub first : m ≤ a
  pub second : m ≤ b
  pub lower : b < a → m ≡ b
  pub upper : a ≤ b → m ≡ a

pub holds_put : {line line' text : List ℕ} {held m n : ℕ} → line' ≡ put line held (take m text) → held ≤ length line → n ≡ held + m
    → Least m (length text) (length line - held) → Holds line held text line' n
holds_put {line} {line'} {text} {held} {m} {n} e h q p =
    let t : length (take m text) ≡ m = length-take-le m text p.first in
    let f : length (take held line) ≡ held = length-take-le held line h in
    let a : held + length (take m text) ≡ n = omega arith in
    let b : length (take held line) + (length line - held) ≡ length line = omega arith in
    let w : take (length line) (take held line ++ text) ≡ take held line ++ take m text =
    ap (λ (j : ℕ). take j (take held line ++ text)) (sym b) ∙ take-append-add (take held line) text (length line - held) ∙ ap (λ (s : List ℕ). take held line ++ s) (shorter text m (length line - held) p) in
    record {
      front = ap (λ (j : ℕ). take j line') (sym a) ∙ ap (take (held + length (take m text))) e ∙ take-put_all line held (take m text) h ∙ sym w;
      count = sym a ∙ ap (λ (j : ℕ). j + length (take m text)) (sym f) ∙ sym (length-append (take held line) (take m text)) ∙ ap length (sym w);
      rest = ap (λ (j : ℕ). drop j line') (sym a) ∙ ap (drop (held + length (take m text))) e ∙ drop-put_all line held (take m text) h ∙ ap (λ (j : ℕ). drop j line) a;
      long = ap length e ∙ length-put line held (take m text) (omega (arith, p.second));
    }
  where
    shorter : (text : List ℕ) (m k : ℕ) → Least m (length text) k → take k text ≡ take m text
    shorter text m k p = elim (cases_lt k (length text)) [ inl l ↦ ap (λ (j : ℕ). take j text) (let e : k ≡ m = omega (arith, p.lower l) in e) | inr g ↦ take_all k text g ∙ sym (take_all m text (omega (arith, p.upper g))) ]

-- a part written over
pub written_over : (line ys s : List ℕ) (a k : ℕ) → ys ≡ s → length s ≡ k → put_mid a k line ys ≡ put line a s
unfolding put
written_over line ys s a k e n =
    ap (λ (z : List ℕ). put_mid a k line z) e
    ∙ ap (λ (z : List ℕ). take a line ++ (s ++ z)) (drop-drop k a line ∙ ap (λ (i : ℕ). drop (a + i) line) (sym n))
    ∙ sym (append_assoc (take a line) s (drop (a + length s) line))

pub holds_copied : {line text copied : List ℕ} {held m j k n : ℕ} → copied ≡ take k text → j ≡ m → k ≡ m → held ≤ length line → n ≡ held + m
    → Least m (length text) (length line - held) → Holds line held text (put_mid held j line copied) n
holds_copied {line} {text} {copied} {held} {m} {j} {k} {n} e p q h r l =
    holds_put (written_over line copied (take m text) held j (e ∙ ap (λ (i : ℕ). take i text) q) (length-take-le m text l.first ∙ sym p)) h r l

pub holds_all : {line line' text : List ℕ} {held : ℕ} → held + length text ≤ length line → line' ≡ put line held text → Holds line held text line' (held + length text)
holds_all {line} {line'} {text} {held} h e =
    let n : length (take held line ++ text) ≡ held + length text = length-append (take held line) text ∙ ap (λ (k : ℕ). k + length text) (length-take-le held line (omega arith)) in
    let w : take (length line) (take held line ++ text) ≡ take held line ++ text = take_all (length line) (take held line ++ text) (omega arith) in
    record {
      front = ap (take (held + length text)) e ∙ take-put_all line held text (omega arith) ∙ sym w;
      count = sym n ∙ sym (ap length w);
      rest = ap (drop (held + length text)) e ∙ drop-put_all line held text (omega arith);
      long = ap length e ∙ length-put line held text h;
    }

pub holds_some : {line line' text : List ℕ} {held m n : ℕ} → line' ≡ put line held (take m text) → held ≤ length line → length line ≤ held + length text → m ≡ length line - held → n ≡ length line → Holds line held text line' n
holds_some {line} {line'} {text} {held} {m} {n} e h k p q =
    let t : length (take m text) ≡ m = length-take-le m text (omega arith) in
    let f : length (take held line) ≡ held = length-take-le held line h in
    let a : held + length (take m text) ≡ n = omega arith in
    let b : length (take held line) + m ≡ length line = omega arith in
    let w : take (length line) (take held line ++ text) ≡ take held line ++ take m text =
    ap (λ (j : ℕ). take j (take held line ++ text)) (sym b) ∙ take-append-add (take held line) text m in
    record {
      front = ap (λ (j : ℕ). take j line') (sym a) ∙ ap (take (held + length (take m text))) e ∙ take-put_all line held (take m text) h ∙ sym w;
      count = sym a ∙ ap (λ (j : ℕ). j + length (take m text)) (sym f) ∙ sym (length-append (take held line) (take m text)) ∙ ap length (sym w);
      rest = ap (λ (j : ℕ). drop j line') (sym a) ∙ ap (drop (held + length (take m text))) e ∙ drop-put_all line held (take m text) h ∙ ap (λ (j : ℕ). drop j line) a;
      long = ap length e ∙ length-put line held (take m text) (omega arith);
    }

-- what does not fit is dropped, sooner or later

pub take_joined : (n : ℕ) (b t : List ℕ) → take n (take n b ++ t) ≡ take n (b ++ t)
take_joined zero b t = refl
take_joined (suc n) [] t = refl
take_joined (suc n) (x ∷ b) t = ap (λ (r : List ℕ). x ∷ r) (take_joined n b t)

pub keeps_more : {line line' bytes text : List ℕ} {held r : ℕ} → Keeps line held bytes → Holds line held text line' r → Keeps line' r (bytes ++ text)
keeps_more {line} {line'} {bytes} {text} {held} {r} k h =
    let e : take (length line) (take held line ++ text) ≡ take (length line') (bytes ++ text) =
    ap (λ (f : List ℕ). take (length line) (f ++ text)) k.front ∙ take_joined (length line) bytes text ∙ ap (λ (n : ℕ). take n (bytes ++ text)) (sym h.long) in
    record { front = h.front ∙ e; count = h.count ∙ ap length e }

pub keeps_none : (line : List ℕ) → Keeps line 0 []
keeps_none line = record { front = sym (take-nil (length line)); count = ap length (sym (take-nil (length line))) }

-- the number that is held fits
pub keeps_fits : {line bytes : List ℕ} {held : ℕ} → Keeps line held bytes → held ≤ length line
keeps_fits {line} {bytes} {held} k = omega (arith, k.count, length-take (length line) bytes)

pub holds_fits : {line line' text : List ℕ} {held r : ℕ} → Holds line held text line' r → r ≤ length line
holds_fits {line} {line'} {text} {held} {r} h = omega (arith, h.count, length-take (length line) (take held line ++ text))

-- what `gather` answers

-- the first newline of what is left of a piece is the first from there on
at_rest : (piece : List ℕ) (from i : ℕ) → from ≤ i → get_or (drop from piece) (i - from) 0 ≡ get_or piece i 0
at_rest piece from i h = get_or-drop from piece (i - from) 0 ∙ ap (λ (k : ℕ). get_or piece k 0) (let e : from + (i - from) ≡ i = omega arith in e)

pub ends_found : {piece : List ℕ} {from n : ℕ} → from ≤ length piece → FirstNewline (drop from piece) (Some n) → Ends piece from (from + n)
ends_found {piece} {from} {n} h f =
    record {
      onward = omega arith;
      within = omega (arith, f.0, length-drop from piece);
      clear = λ i j k. subst (λ (b : ℕ). b ≡ 10 → ⊥) (at_rest piece from i j) (f.2 (i - from) (omega arith));
      newline = λ _. sym (get_or-drop from piece n 0) ∙ f.1;
    }

pub ends_none : {piece : List ℕ} {from : ℕ} → from ≤ length piece → FirstNewline (drop from piece) None → Ends piece from (length piece)
ends_none {piece} {from} h f =
    record {
      onward = h;
      within = omega arith;
      clear = λ i j k. subst (λ (b : ℕ). b ≡ 10 → ⊥) (at_rest piece from i j) (f (i - from) (omega (arith, length-drop from piece)));
      newline = λ k. absurd (omega arith);
    }

pub rest_is : (piece : List ℕ) (from : ℕ) → take (length piece - from) (drop from piece) ≡ drop from piece
rest_is piece from = take_all (length piece - from) (drop from piece) (omega (arith, length-drop from piece))

pub gathers_last : {piece line line' : List ℕ} {from held e n : ℕ} → Ends piece from e → Holds line held (part piece from (e - from)) line' n → e ≡ length piece
    → Gathers piece from line held (record { held = n; next = None }) line'
gathers_last {e = e} i h l = record { end = e; ends = i; holds = h; behind = λ b. absurd (omega arith); last = λ _. refl }

pub gathers_line : {piece line line' : List ℕ} {from held e n : ℕ} → Ends piece from e → Holds line held (part piece from (e - from)) line' n → (e ≡ length piece → ⊥)
    → Gathers piece from line held (record { held = n; next = Some (e + 1) }) line'
gathers_line {e = e} i h l = record { end = e; ends = i; holds = h; behind = λ _. refl; last = λ d. absurd (l d) }

-- the same from the search for the first newline of what is left of the piece

pub gathers_found : {piece line line' : List ℕ} {from held n k : ℕ} → from ≤ length piece → FirstNewline (take (length piece - from) (drop from piece)) (Some n)
    → Holds line held (take n (take (length piece - from) (drop from piece))) line' k → Gathers piece from line held (record { held = k; next = Some (from + n + 1) }) line'
gathers_found {piece} {line} {line'} {from} {held} {n} {k} h f x =
    let r = rest_is piece from in
    let g : FirstNewline (drop from piece) (Some n) = subst (λ (s : List ℕ). FirstNewline s (Some n)) r f in
    let m : from + n - from ≡ n = omega arith in
    gathers_line (ends_found h g) (subst (λ (s : List ℕ). Holds line held s line' k) (ap (take n) r ∙ ap (λ (i : ℕ). part piece from i) (sym m)) x)
    (λ e. absurd (omega (arith, g.0, length-drop from piece)))

pub gathers_none : {piece line line' : List ℕ} {from held k : ℕ} → from ≤ length piece → FirstNewline (take (length piece - from) (drop from piece)) None
    → Holds line held (take (length piece - from) (drop from piece)) line' k → Gathers piece from line held (record { held = k; next = None }) line'
gathers_none {piece} {line} {line'} {from} {held} {k} h f x =
    gathers_last (ends_none h (subst (λ (s : List ℕ). FirstNewline s None) (rest_is piece from) f)) x refl

-- the bytes of a piece that belong to the line

pub no_newline : (text : List ℕ) → ((i : ℕ) → i < length text → get_or text i 0 ≡ 10 → ⊥) → All (λ (b : ℕ). b ≡ 10 → ⊥) text
no_newline [] f = tt
no_newline (b ∷ text) f = (f 0 (omega arith), no_newline text (λ i h. f (suc i) (omega arith)))

pub ends_clear : {piece : List ℕ} {from e : ℕ} → Ends piece from e → All (λ (b : ℕ). b ≡ 10 → ⊥) (part piece from (e - from))
ends_clear {piece} {from} {e} x =
    let n : length (part piece from (e - from)) ≡ e - from = length-part piece from (e - from) (omega (arith, x.onward, x.within)) in
    no_newline (part piece from (e - from)) (λ i h. subst (λ (b : ℕ). b ≡ 10 → ⊥) (sym (get_or-part piece from (e - from) i 0 (omega arith))) (x.clear (from + i) (omega arith) (omega arith)))

pub ends_line : {piece : List ℕ} {from e k : ℕ} → Ends piece from e → e < length piece → k ≡ e + 1 → part piece from (k - from) ≡ part piece from (e - from) ++ (10 ∷ [])
ends_line {piece} {from} {e} {k} x h d =
    let m : k - from ≡ suc (e - from) = omega (arith, x.onward) in
    let a : from + (e - from) ≡ e = omega (arith, x.onward) in
    ap (λ (j : ℕ). part piece from j) m ∙ part-snoc piece from (e - from) 0 (omega arith)
    ∙ ap (λ (b : ℕ). part piece from (e - from) ++ (b ∷ [])) (ap (λ (j : ℕ). get_or piece j 0) a ∙ x.newline h)
