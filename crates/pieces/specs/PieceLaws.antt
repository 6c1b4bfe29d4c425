-- Two pieces against a whole key: the first decides, unless the key begins with it.
-- Assumes nothing.
use Rattle.std.specs.Prelude.{◌+◌, ◌-◌, ◌<◌, ◌≤◌, ℕ, [], ◌++◌, ◌∷◌, ◌≡◌, refl, drop, length, take}
use Rattle.std.proofs.Common.{◌∙◌, ap, sym, arith, length-drop, take-append-drop, take_all}
use Rattle.lists.proofs.PartLaws.{length-put, put-append, put_lent}
use Rattle.lists.specs.Part.{put}
use Rattle.order.specs.Bytes.{Bytes, cmp}
use Rattle.order.specs.Compared.{Compared}
use Rattle.order.specs.OrderLaws.{cmp_front, cmp_level, cmp_lower, cmp_same, cmp_upper, heads, level, lower, upper}
use Rattle.std.specs.declared.cmp.Ordering.{Ordering}
use Rattle.std.specs.declared.cmp.Ordering.TheVariants.{Equal, Greater, Less}

-- a key shorter than the first piece

cmp_shorter : (p s k : Bytes) → length k < length p → cmp (p ++ s) k ≡ cmp p k
unfolding cmp
cmp_shorter [] s k h = absurd (omega arith)
cmp_shorter (x ∷ p) s [] h = refl
cmp_shorter (x ∷ p) s (y ∷ k) h =
    elim (heads x y) [
      | lower l ↦ cmp_lower x y (p ++ s) k l ∙ sym (cmp_lower x y p k l)
      | level e ↦ cmp_level x y (p ++ s) k e ∙ cmp_shorter p s k (omega arith) ∙ sym (cmp_level x y p k e)
      | upper u ↦ cmp_upper x y (p ++ s) k u ∙ sym (cmp_upper x y p k u)
    ]

pub pieces_shorter : {p k : Bytes} {r : Ordering} (s : Bytes) → length k < length p → Compared p k r → Compared (p ++ s) k r
pieces_shorter {p} {k} s h c = record { is = c.is ∙ sym (cmp_shorter p s k h) }

-- a key that differs within the first piece

abbrev Apart : Ordering → Type 0
Apart Less = Unit {0}
Apart Equal = ⊥
Apart Greater = Unit {0}

cmp-within : (p s k : Bytes) → length p ≤ length k → Apart (cmp p (take (length p) k)) → cmp (p ++ s) k ≡ cmp p (take (length p) k)
unfolding cmp
cmp-within [] s k h = λ (a : ⊥). absurd a
cmp-within (x ∷ p) s [] h = λ a. absurd (omega (arith, h))
cmp-within (x ∷ p) s (y ∷ k) h =
    elim (heads x y) [
      | lower l ↦ λ a. cmp_lower x y (p ++ s) k l ∙ sym (cmp_lower x y p (take (length p) k) l)
      | level e ↦ rw (cmp_level x y p (take (length p) k) e) (λ a. cmp_level x y (p ++ s) k e ∙ cmp-within p s k (omega arith) a)
      | upper u ↦ λ a. cmp_upper x y (p ++ s) k u ∙ sym (cmp_upper x y p (take (length p) k) u)
    ]

-- (the parts as `&key[0..p]` and `&key[p..]` give them)

front_is : (p k : Bytes) → take (length p - 0) (drop 0 k) ≡ take (length p) k
front_is p k = ap (λ (n : ℕ). take n k) (let e : length p - 0 ≡ length p = omega arith in e)

pub pieces_apart : {p k : Bytes} {r : Ordering} (s : Bytes) (o : Ordering) → Apart o → length p ≤ length k → Compared p (take (length p - 0) (drop 0 k)) r → r ≡ o → Compared (p ++ s) k o
pieces_apart {p} {k} s o a h c f =
    let g : cmp p (take (length p) k) ≡ o = ap (cmp p) (sym (front_is p k)) ∙ sym c.is ∙ f in
    record { is = sym (cmp-within p s k h (rw g a) ∙ g) }

-- a key that begins with it

pub pieces_front : {p s k : Bytes} {r q : Ordering} → Compared p (take (length p - 0) (drop 0 k)) r → r ≡ Equal → Compared s (take (length k - length p) (drop (length p) k)) q → Compared (p ++ s) k q
pieces_front {p} {s} {k} c f d =
    let g : p ≡ take (length p) k = cmp_same p (take (length p - 0) (drop 0 k)) (sym c.is ∙ f) ∙ front_is p k in
    let v : take (length k - length p) (drop (length p) k) ≡ drop (length p) k = take_all (length k - length p) (drop (length p) k) (omega (arith, length-drop (length p) k)) in
    let w : cmp (p ++ s) k ≡ cmp s (drop (length p) k) =
    ap (cmp (p ++ s)) (sym (take-append-drop (length p) k)) ∙ ap (λ (b : Bytes). cmp (p ++ s) (b ++ drop (length p) k)) (sym g) ∙ cmp_front p s (drop (length p) k) in
    record { is = d.is ∙ ap (cmp s) v ∙ sym w }

-- written behind one another: the second over what the borrow checker leaves of the output's part behind the first

pub pieces_put : (p s out one lent two : Bytes) → length p + length s ≤ length out → one ≡ put out 0 p → lent ≡ put (take (length one - length p) (drop (length p) one)) 0 s
    → two ≡ take (length p) one ++ (lent ++ drop (length one - length p) (drop (length p) one)) → two ≡ put out 0 (p ++ s)
pieces_put p s out one lent two h e f g =
    let l : length one ≡ length out = ap length e ∙ length-put out 0 p (omega arith) in
    g ∙ ap (λ (x : Bytes). take (length p) one ++ (x ++ drop (length one - length p) (drop (length p) one))) f
    ∙ put_lent one (length p) (length one - length p) 0 s (omega arith) (omega arith)
    ∙ ap (λ (x : Bytes). put x (length p + 0) s) e ∙ ap (λ (n : ℕ). put (put out 0 p) n s) (let z : length p + 0 ≡ 0 + length p = omega arith in z) ∙ put-append out 0 p s (omega arith)
