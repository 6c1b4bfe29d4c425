-- The line's laws: its digits are read from the front, its words stand at fixed places, and it asks for one job only.
-- Assumes nothing.
use Rattle.std.specs.Prelude.{ℕ, zero, suc, ◌+◌, ◌-◌, ◌*◌, ◌≤◌, ◌<◌, Bool, None, Some, cond, false, true, [], ◌∷◌, ◌≡◌, refl, eqb, drop, get_or, length, take}
use Rattle.std.proofs.Common.{Option, ◌∙◌, ap, subst, sym, mod-lt, arith, eq-eqb, ne_eqb, length-take, drop-cons, take_all, take-suc}
use Rattle.lists.specs.All.{All, all_append, all_at}
use Rattle.order.specs.Bytes.{Bytes}
use Rattle.bulk.specs.Job.{Asks, Lettered, Numbered, Numbers, Parsed, call_count, decimal, key_at, letter_of, line_end, most_pairs}
use Rattle.bulk.specs.declared.job.Job.{Job}
use Rattle.bulk.specs.declared.job.Order.{Order}
use Rattle.bulk.specs.declared.job.Order.TheVariants.{Falling, Nothing, Rising, Shuffled}

-- the calls

call_most : (o : Order) (n : ℕ) → call_count o n ≤ n
call_most Rising n = omega arith
call_most Falling n = omega arith
call_most Shuffled n = omega arith
call_most Nothing n = omega arith

pub calls_most : (o : Order) {r n : ℕ} → r ≡ call_count o n → n ≤ most_pairs → r ≤ most_pairs
calls_most o {r} {n} e h = omega (arith, call_most o n)

pub key_below : (o : Order) (i n : ℕ) → i < n → key_at o i n < n
key_below Rising i n h = h
key_below Falling i n h = omega arith
key_below Shuffled i n h = mod-lt _ (omega arith)
key_below Nothing i n h = h

-- letters

pub other_letter : (b : ℕ) → (b ≡ 114 → ⊥) → (b ≡ 102 → ⊥) → (b ≡ 115 → ⊥) → (b ≡ 110 → ⊥) → Lettered b None
other_letter b r f s n Rising e = r (sym e)
other_letter b r f s n Falling e = f (sym e)
other_letter b r f s n Shuffled e = s (sym e)
other_letter b r f s n Nothing e = n (sym e)

ordered : ℕ → Order
ordered b = cond (eqb b 114) Rising (cond (eqb b 102) Falling (cond (eqb b 115) Shuffled Nothing))

ordered_letter : (o : Order) → ordered (letter_of o) ≡ o
unfolding ordered
ordered_letter Rising = refl
ordered_letter Falling = refl
ordered_letter Shuffled = refl
ordered_letter Nothing = refl

letter_one : (o p : Order) (b : ℕ) → letter_of o ≡ b → letter_of p ≡ b → o ≡ p
letter_one o p b e f = sym (ordered_letter o) ∙ ap ordered (e ∙ sym f) ∙ ordered_letter p

-- digits

decimal_most : (n : ℕ) (s : Bytes) → n ≤ decimal n s
unfolding decimal
decimal_most n [] = omega arith
decimal_most n (b ∷ s) = omega (arith, decimal_most (n * 10 + (b - 48)) s)

decimal_step : (n b : ℕ) (s : Bytes) → decimal n (b ∷ s) ≡ decimal (n * 10 + (b - 48)) s
unfolding decimal
decimal_step n b s = refl

decimal_end : (n : ℕ) → decimal n [] ≡ n
unfolding decimal
decimal_end n = refl

pub none_empty : (word : Bytes) → length word ≡ 0 → Numbered word None
none_empty word e n x = omega (arith, x.some)

pub none_below : (word : Bytes) (i : ℕ) → i < length word → get_or word i 0 < 48 → Numbered word None
none_below word i h l n x = omega (arith, (all_at (λ b. (48 ≤ b) × (b ≤ 57)) word i 0 h x.digits).0)

pub none_above : (word : Bytes) (i : ℕ) → i < length word → 57 < get_or word i 0 → Numbered word None
none_above word i h l n x = omega (arith, (all_at (λ b. (48 ≤ b) × (b ≤ 57)) word i 0 h x.digits).1)

-- the loop of `number`: n is the number of the first i bytes

pub record Counting (word : Bytes) (i n : ℕ) : Type 0 where
  pub digits : All (λ b. (48 ≤ b) × (b ≤ 57)) (take i word)
  pub number : decimal 0 word ≡ decimal n (drop i word)
  pub most : n ≤ most_pairs

pub count_start : (word : Bytes) → Counting word 0 0
count_start word = record { digits = tt; number = refl; most = omega arith }

count_next : (word : Bytes) (i n : ℕ) → i < length word → Counting word i n → decimal 0 word ≡ decimal (n * 10 + (get_or word i 0 - 48)) (drop (suc i) word)
count_next word i n h c = c.number ∙ ap (decimal n) (drop-cons word i 0 h) ∙ decimal_step n _ _

pub count_over : (word : Bytes) (i n : ℕ) → i < length word → most_pairs < n * 10 + (get_or word i 0 - 48) → Counting word i n → Numbered word None
count_over word i n h m c k x = omega (arith, x.number, x.most, count_next word i n h c, decimal_most (n * 10 + (get_or word i 0 - 48)) (drop (suc i) word))

pub count_turn : (word : Bytes) (i k n : ℕ) → i < length word → k ≡ i + 1 → 48 ≤ get_or word i 0 → get_or word i 0 ≤ 57 → n * 10 + (get_or word i 0 - 48) ≤ most_pairs → Counting word i n
    → Counting word k (n * 10 + (get_or word i 0 - 48))
count_turn word i k n h e l u m c =
    let o : k ≡ suc i = omega arith in
    record {
      digits = rw (o, take-suc word i 0 h) (all_append (λ b. (48 ≤ b) × (b ≤ 57)) (take i word) (get_or word i 0 ∷ []) c.digits ((l, u), tt));
      number = rw o (count_next word i n h c);
      most = m;
    }

pub count_done : (word : Bytes) (i n : ℕ) → (length word ≡ 0 → ⊥) → length word ≡ i → Counting word i n → Numbers word n
count_done word i n s e c = record { some = omega arith; digits = rw (take_all i word (omega arith)) at c.digits; number = c.number ∙ end; most = c.most }
  where
    none : (s : Bytes) (i : ℕ) → length s ≡ i → drop i s ≡ []
    none [] zero e = refl
    none [] (suc i) e = refl
    none (x ∷ s) zero e = absurd (omega arith)
    none (x ∷ s) (suc i) e = none s i (omega arith)

    end : decimal n (drop i word) ≡ n
    end = ap (decimal n) (none word i e) ∙ decimal_end n

-- the line's end

pub end_most : (text : Bytes) → line_end text ≤ length text
unfolding line_end
end_most text = go (eqb (get_or text (length text - 1) 0) 10)
  where
    go : (b : Bool) → cond b (length text - 1) (length text) ≤ length text
    go true = omega arith
    go false = omega arith

pub end_empty : (text : Bytes) → length text ≡ 0 → 0 ≡ line_end text
end_empty text e = omega (arith, end_most text)

pub end_newline : (text : Bytes) (n : ℕ) → n ≡ length text → get_or text (n - 1) 0 ≡ 10 → n - 1 ≡ line_end text
unfolding line_end
end_newline text n e h = rw (← e, eq-eqb (get_or text (n - 1) 0) 10 h)

pub end_none : (text : Bytes) (n : ℕ) → n ≡ length text → (get_or text (n - 1) 0 ≡ 10 → ⊥) → n ≡ line_end text
unfolding line_end
end_none text n e h = rw (← e, ne_eqb (get_or text (n - 1) 0) 10 h)

-- the line's parts

front : (text : Bytes) (e : ℕ) → 4 ≤ e → e ≤ length text
    → take e text ≡ get_or text 0 0 ∷ get_or text 1 0 ∷ get_or text 2 0 ∷ get_or text 3 0 ∷ take (e - 4) (drop 4 text)
front [] e h l = absurd (omega arith)
front (a ∷ []) e h l = absurd (omega arith)
front (a ∷ b ∷ []) e h l = absurd (omega arith)
front (a ∷ b ∷ c ∷ []) e h l = absurd (omega arith)
front (a ∷ b ∷ c ∷ d ∷ s) zero h l = absurd (omega arith)
front (a ∷ b ∷ c ∷ d ∷ s) (suc zero) h l = absurd (omega arith)
front (a ∷ b ∷ c ∷ d ∷ s) (suc (suc zero)) h l = absurd (omega arith)
front (a ∷ b ∷ c ∷ d ∷ s) (suc (suc (suc zero))) h l = absurd (omega arith)
front (a ∷ b ∷ c ∷ d ∷ s) (suc (suc (suc (suc e)))) h l = let q : suc (suc (suc (suc e))) - 4 ≡ e = omega arith in rw q

-- the places of a line's words
pub record Spelled (text : Bytes) (j : Job) : Type 0 where
  pub long : 4 ≤ line_end text
  pub first : letter_of j.inserts ≡ get_or text 0 0
  pub gap : get_or text 1 0 ≡ 32
  pub second : letter_of j.deletes ≡ get_or text 2 0
  pub gap_2 : get_or text 3 0 ≡ 32
  pub pairs_are : Numbers (take (line_end text - 4) (drop 4 text)) j.pairs

spelled : {text : Bytes} {j : Job} → Asks text j → Spelled text j
spelled {text} {j} a =
    let l : length (take (line_end text) text) ≡ length (letter_of j.inserts ∷ 32 ∷ letter_of j.deletes ∷ 32 ∷ a.digits) = ap length a.line in
    let m : 4 ≤ line_end text = omega (arith, length-take (line_end text) text) in
    let f : letter_of j.inserts ∷ 32 ∷ letter_of j.deletes ∷ 32 ∷ a.digits
    ≡ get_or text 0 0 ∷ get_or text 1 0 ∷ get_or text 2 0 ∷ get_or text 3 0 ∷ take (line_end text - 4) (drop 4 text) = sym a.line ∙ front text (line_end text) m (end_most text) in
    let d : a.digits ≡ take (line_end text - 4) (drop 4 text) = cc in
    record { long = m; first = cc; gap = cc; second = cc; gap_2 = cc; pairs_are = rw d at a.pairs_are }

asks : {text : Bytes} {j : Job} → Spelled text j → Asks text j
asks {text} {j} s =
    record {
      digits = take (line_end text - 4) (drop 4 text);
      line = cc (front text (line_end text) s.long (end_most text), s.first, s.gap, s.second, s.gap_2);
      pairs_are = s.pairs_are;
    }

-- one job only
pub asks_one : {text : Bytes} {i j : Job} → Asks text i → Asks text j → i ≡ j
asks_one {text} {i} {j} a b =
    let x = spelled a in
    let y = spelled b in
    λ k. record {
      inserts = letter_one i.inserts j.inserts (get_or text 0 0) x.first y.first k;
      deletes = letter_one i.deletes j.deletes (get_or text 2 0) x.second y.second k;
      pairs = (sym x.pairs_are.number ∙ y.pairs_are.number) k;
    }

-- what a text asks for, and why it asks for nothing, by what is told of its parts

-- a line of fewer than four bytes, or without its spaces, asks for nothing
pub no_form : {text line : Bytes} → line ≡ take (line_end text) text → ((o p : Order) (digits : Bytes) → line ≡ letter_of o ∷ 32 ∷ letter_of p ∷ 32 ∷ digits → ⊥) → Parsed text None
no_form e n j a = n j.inserts j.deletes a.digits (e ∙ a.line)

module _ (text : Bytes) where
  pub short_line : (e : ℕ) → e ≡ line_end text → e < 4 → Parsed text None
  short_line e p h j a = omega (arith, (spelled a).long)

  pub no_gap : (get_or text 1 0 ≡ 32 → ⊥) → Parsed text None
  no_gap n j a = n (spelled a).gap

  pub no_gap_2 : (get_or text 3 0 ≡ 32 → ⊥) → Parsed text None
  no_gap_2 n j a = n (spelled a).gap_2

  pub no_first : {l : Option Order} → l ≡ None → Lettered (get_or text 0 0) l → Parsed text None
  no_first p n j a = (rw p at n) j.inserts (spelled a).first

  pub no_second : {l : Option Order} → l ≡ None → Lettered (get_or text 2 0) l → Parsed text None
  no_second p n j a = (rw p at n) j.deletes (spelled a).second

  pub no_number : {d : Option ℕ} (e : ℕ) → e ≡ line_end text → d ≡ None → Numbered (take (e - 4) (drop 4 text)) d → Parsed text None
  no_number e p q n j a = (rw (q, p) at n) j.pairs (spelled a).pairs_are

  pub asked : {l m : Option Order} {d : Option ℕ} {o p : Order} {n : ℕ} (e : ℕ) → e ≡ line_end text → 4 ≤ e → get_or text 1 0 ≡ 32 → get_or text 3 0 ≡ 32
      → l ≡ Some o → Lettered (get_or text 0 0) l → m ≡ Some p → Lettered (get_or text 2 0) m → d ≡ Some n → Numbered (take (e - 4) (drop 4 text)) d
      → Asks text (record { inserts = o; deletes = p; pairs = n })
  asked e q h g k a x b y c z = asks (record { long = omega arith; first = rw a at x; gap = g; second = rw b at y; gap_2 = k; pairs_are = rw (c, q) at z })

pub asked_most : (text : Bytes) {r : Option Job} {j : Job} → r ≡ Some j → Parsed text r → j.pairs ≤ most_pairs
asked_most text e x = (subst (λ (l : Option Job). Parsed text l) e x).pairs_are.most
