-- How tight the contract of `parse` is: any two outcomes allowed for one input coincide, answer and every byte of the lent buffers.
-- Assumes nothing.
use Rattle.std.specs.Prelude.{ℕ, None, Some, ◌≡◌, refl, length, take}
use Rattle.std.proofs.Common.{Option, sym, ap, ◌∙◌, arith, take-append-drop, length-take-le}
use Rattle.order.specs.Bytes.{Bytes}
use Rattle.lines.specs.Grammar.{Front, Parsed}
use Rattle.lines.specs.OneLaws.{says_one}
use Rattle.lines.specs.declared.Line.{Line}
use Rattle.lines.specs.declared.Line.TheVariants.{Del, Get, Leaves, New, Next, Put}
use Rattle.lines.specs.declared.Sizes.{Sizes}

-- two outcomes with what they leave
pub record Same (key value : Bytes) (r : Option Line) (key' value' : Bytes) (q : Option Line) : Type 0 where
  pub answers : r ≡ q
  pub keys : key ≡ key'
  pub values : value ≡ value'

sizes : (s t : Sizes) → s.fanout ≡ t.fanout → s.pool ≡ t.pool → s.arena ≡ t.arena → s ≡ t
sizes s t f p a = λ i. record { fanout = f i; pool = p i; arena = a i }

record SameFront (a b : Bytes) (n m : ℕ) : Type 0 where
  counts : n ≡ m
  wholes : a ≡ b

same_front : {was a b : Bytes} {n m : ℕ} → Front was a n → Front was b m → take n a ≡ take m b → SameFront a b n m
same_front {was} {a} {b} {n} {m} f g e =
    let x : length (take n a) ≡ n = length-take-le n a (omega (arith, f.within, f.long)) in
    let y : length (take m b) ≡ m = length-take-le m b (omega (arith, g.within, g.long)) in
    let c : n ≡ m = sym x ∙ ap length e ∙ y in
    record { counts = c; wholes = cc (c, e, f.rest, g.rest, take-append-drop n a, take-append-drop m b) }

pub parse_coincides : (line k₁ k₂ v₁ v₂ key value : Bytes) (r q : Option Line) → Parsed line key k₁ value v₁ r → Parsed line key k₂ value v₂ q
    → Same k₁ v₁ r k₂ v₂ q
parse_coincides line k₁ k₂ v₁ v₂ key value (Some (New s)) (Some (New s')) x y = (let e = says_one x.0 y.0 in record { answers = ap (λ (z : Sizes). Some (New z)) (sizes s s' (cc (e)) (cc (e)) (cc (e))); keys = x.1 ∙ sym y.1; values = x.2 ∙ sym y.2 })
parse_coincides line k₁ k₂ v₁ v₂ key value (Some (New s)) (Some (Put n' m')) x y = absurd (let e = says_one x.0 y.0 in let z : ◌≡◌ {A = ℕ} 0 1 = cc (e) in omega arith)
parse_coincides line k₁ k₂ v₁ v₂ key value (Some (New s)) (Some (Get n')) x y = absurd (let e = says_one x.0 y.0 in let z : ◌≡◌ {A = ℕ} 0 1 = cc (e) in omega arith)
parse_coincides line k₁ k₂ v₁ v₂ key value (Some (New s)) (Some (Del n')) x y = absurd (let e = says_one x.0 y.0 in let z : ◌≡◌ {A = ℕ} 0 1 = cc (e) in omega arith)
parse_coincides line k₁ k₂ v₁ v₂ key value (Some (New s)) (Some (Next n')) x y = absurd (let e = says_one x.0 y.0 in let z : ◌≡◌ {A = ℕ} 0 1 = cc (e) in omega arith)
parse_coincides line k₁ k₂ v₁ v₂ key value (Some (New s)) (Some Leaves) x y = absurd (let e = says_one x.0 y.0 in let z : ◌≡◌ {A = ℕ} 0 1 = cc (e) in omega arith)
parse_coincides line k₁ k₂ v₁ v₂ key value (Some (New s)) None x y = absurd (y.0 _ x.0)
parse_coincides line k₁ k₂ v₁ v₂ key value (Some (Put n m)) (Some (New s')) x y = absurd (let e = says_one x.0 y.0 in let z : ◌≡◌ {A = ℕ} 0 1 = cc (e) in omega arith)
parse_coincides line k₁ k₂ v₁ v₂ key value (Some (Put n m)) (Some (Put n' m')) x y = (let e = says_one x.0 y.0 in
    let k = same_front x.1 y.1 (cc (e)) in
    let v = same_front x.2 y.2 (cc (e)) in
    record { answers = cc (k.counts, v.counts); keys = k.wholes; values = v.wholes })
parse_coincides line k₁ k₂ v₁ v₂ key value (Some (Put n m)) (Some (Get n')) x y = absurd (let e = says_one x.0 y.0 in let z : ◌≡◌ {A = ℕ} 0 1 = cc (e) in omega arith)
parse_coincides line k₁ k₂ v₁ v₂ key value (Some (Put n m)) (Some (Del n')) x y = absurd (let e = says_one x.0 y.0 in let z : ◌≡◌ {A = ℕ} 0 1 = cc (e) in omega arith)
parse_coincides line k₁ k₂ v₁ v₂ key value (Some (Put n m)) (Some (Next n')) x y = absurd (let e = says_one x.0 y.0 in let z : ◌≡◌ {A = ℕ} 0 1 = cc (e) in omega arith)
parse_coincides line k₁ k₂ v₁ v₂ key value (Some (Put n m)) (Some Leaves) x y = absurd (let e = says_one x.0 y.0 in let z : ◌≡◌ {A = ℕ} 0 1 = cc (e) in omega arith)
parse_coincides line k₁ k₂ v₁ v₂ key value (Some (Put n m)) None x y = absurd (y.0 _ x.0)
parse_coincides line k₁ k₂ v₁ v₂ key value (Some (Get n)) (Some (New s')) x y = absurd (let e = says_one x.0 y.0 in let z : ◌≡◌ {A = ℕ} 0 1 = cc (e) in omega arith)
parse_coincides line k₁ k₂ v₁ v₂ key value (Some (Get n)) (Some (Put n' m')) x y = absurd (let e = says_one x.0 y.0 in let z : ◌≡◌ {A = ℕ} 0 1 = cc (e) in omega arith)
parse_coincides line k₁ k₂ v₁ v₂ key value (Some (Get n)) (Some (Get n')) x y = (let e = says_one x.0 y.0 in
    let k = same_front x.1 y.1 (cc (e)) in
    record { answers = cc k.counts; keys = k.wholes; values = x.2 ∙ sym y.2 })
parse_coincides line k₁ k₂ v₁ v₂ key value (Some (Get n)) (Some (Del n')) x y = absurd (let e = says_one x.0 y.0 in let z : ◌≡◌ {A = ℕ} 0 1 = cc (e) in omega arith)
parse_coincides line k₁ k₂ v₁ v₂ key value (Some (Get n)) (Some (Next n')) x y = absurd (let e = says_one x.0 y.0 in let z : ◌≡◌ {A = ℕ} 0 1 = cc (e) in omega arith)
parse_coincides line k₁ k₂ v₁ v₂ key value (Some (Get n)) (Some Leaves) x y = absurd (let e = says_one x.0 y.0 in let z : ◌≡◌ {A = ℕ} 0 1 = cc (e) in omega arith)
parse_coincides line k₁ k₂ v₁ v₂ key value (Some (Get n)) None x y = absurd (y.0 _ x.0)
parse_coincides line k₁ k₂ v₁ v₂ key value (Some (Del n)) (Some (New s')) x y = absurd (let e = says_one x.0 y.0 in let z : ◌≡◌ {A = ℕ} 0 1 = cc (e) in omega arith)
parse_coincides line k₁ k₂ v₁ v₂ key value (Some (Del n)) (Some (Put n' m')) x y = absurd (let e = says_one x.0 y.0 in let z : ◌≡◌ {A = ℕ} 0 1 = cc (e) in omega arith)
parse_coincides line k₁ k₂ v₁ v₂ key value (Some (Del n)) (Some (Get n')) x y = absurd (let e = says_one x.0 y.0 in let z : ◌≡◌ {A = ℕ} 0 1 = cc (e) in omega arith)
parse_coincides line k₁ k₂ v₁ v₂ key value (Some (Del n)) (Some (Del n')) x y = (let e = says_one x.0 y.0 in
    let k = same_front x.1 y.1 (cc (e)) in
    record { answers = cc k.counts; keys = k.wholes; values = x.2 ∙ sym y.2 })
parse_coincides line k₁ k₂ v₁ v₂ key value (Some (Del n)) (Some (Next n')) x y = absurd (let e = says_one x.0 y.0 in let z : ◌≡◌ {A = ℕ} 0 1 = cc (e) in omega arith)
parse_coincides line k₁ k₂ v₁ v₂ key value (Some (Del n)) (Some Leaves) x y = absurd (let e = says_one x.0 y.0 in let z : ◌≡◌ {A = ℕ} 0 1 = cc (e) in omega arith)
parse_coincides line k₁ k₂ v₁ v₂ key value (Some (Del n)) None x y = absurd (y.0 _ x.0)
parse_coincides line k₁ k₂ v₁ v₂ key value (Some (Next n)) (Some (New s')) x y = absurd (let e = says_one x.0 y.0 in let z : ◌≡◌ {A = ℕ} 0 1 = cc (e) in omega arith)
parse_coincides line k₁ k₂ v₁ v₂ key value (Some (Next n)) (Some (Put n' m')) x y = absurd (let e = says_one x.0 y.0 in let z : ◌≡◌ {A = ℕ} 0 1 = cc (e) in omega arith)
parse_coincides line k₁ k₂ v₁ v₂ key value (Some (Next n)) (Some (Get n')) x y = absurd (let e = says_one x.0 y.0 in let z : ◌≡◌ {A = ℕ} 0 1 = cc (e) in omega arith)
parse_coincides line k₁ k₂ v₁ v₂ key value (Some (Next n)) (Some (Del n')) x y = absurd (let e = says_one x.0 y.0 in let z : ◌≡◌ {A = ℕ} 0 1 = cc (e) in omega arith)
parse_coincides line k₁ k₂ v₁ v₂ key value (Some (Next n)) (Some (Next n')) x y = (let e = says_one x.0 y.0 in
    let k = same_front x.1 y.1 (cc (e)) in
    record { answers = cc k.counts; keys = k.wholes; values = x.2 ∙ sym y.2 })
parse_coincides line k₁ k₂ v₁ v₂ key value (Some (Next n)) (Some Leaves) x y = absurd (let e = says_one x.0 y.0 in let z : ◌≡◌ {A = ℕ} 0 1 = cc (e) in omega arith)
parse_coincides line k₁ k₂ v₁ v₂ key value (Some (Next n)) None x y = absurd (y.0 _ x.0)
parse_coincides line k₁ k₂ v₁ v₂ key value (Some Leaves) (Some (New s')) x y = absurd (let e = says_one x.0 y.0 in let z : ◌≡◌ {A = ℕ} 0 1 = cc (e) in omega arith)
parse_coincides line k₁ k₂ v₁ v₂ key value (Some Leaves) (Some (Put n' m')) x y = absurd (let e = says_one x.0 y.0 in let z : ◌≡◌ {A = ℕ} 0 1 = cc (e) in omega arith)
parse_coincides line k₁ k₂ v₁ v₂ key value (Some Leaves) (Some (Get n')) x y = absurd (let e = says_one x.0 y.0 in let z : ◌≡◌ {A = ℕ} 0 1 = cc (e) in omega arith)
parse_coincides line k₁ k₂ v₁ v₂ key value (Some Leaves) (Some (Del n')) x y = absurd (let e = says_one x.0 y.0 in let z : ◌≡◌ {A = ℕ} 0 1 = cc (e) in omega arith)
parse_coincides line k₁ k₂ v₁ v₂ key value (Some Leaves) (Some (Next n')) x y = absurd (let e = says_one x.0 y.0 in let z : ◌≡◌ {A = ℕ} 0 1 = cc (e) in omega arith)
parse_coincides line k₁ k₂ v₁ v₂ key value (Some Leaves) (Some Leaves) x y = record { answers = refl; keys = x.1 ∙ sym y.1; values = x.2 ∙ sym y.2 }
parse_coincides line k₁ k₂ v₁ v₂ key value (Some Leaves) None x y = absurd (y.0 _ x.0)
parse_coincides line k₁ k₂ v₁ v₂ key value None (Some (New s')) x y = absurd (x.0 _ y.0)
parse_coincides line k₁ k₂ v₁ v₂ key value None (Some (Put n' m')) x y = absurd (x.0 _ y.0)
parse_coincides line k₁ k₂ v₁ v₂ key value None (Some (Get n')) x y = absurd (x.0 _ y.0)
parse_coincides line k₁ k₂ v₁ v₂ key value None (Some (Del n')) x y = absurd (x.0 _ y.0)
parse_coincides line k₁ k₂ v₁ v₂ key value None (Some (Next n')) x y = absurd (x.0 _ y.0)
parse_coincides line k₁ k₂ v₁ v₂ key value None (Some Leaves) x y = absurd (x.0 _ y.0)
parse_coincides line k₁ k₂ v₁ v₂ key value None None x y = record { answers = refl; keys = x.1 ∙ sym y.1; values = x.2 ∙ sym y.2 }
