-- The order of byte strings is total, and its laws: `≺` is irreflexive, asymmetric and transitive, `≼` antisymmetric and transitive, two
-- strings are Equal exactly where they are the same bytes, and an equal front does not count. Other crates cite these and open nothing.
-- Assumes nothing.
use Rattle.std.specs.Prelude.{ℕ, ◌<◌, [], ◌∷◌, ◌++◌, ◌≡◌, refl, ◌⊎◌, take, drop}
use Rattle.std.proofs.Common.{sym, ap, ◌∙◌, inl, inr, arith, lt-ltb, le-ltb, take-append-drop}
use Rattle.std.proofs.Math.Decide.{dec_lt}
use Rattle.std.specs.declared.cmp.Ordering.{Ordering}
use Rattle.std.specs.declared.cmp.Ordering.TheVariants.{Less, Equal, Greater}
use Rattle.order.specs.Bytes.{Bytes, cmp, ◌≺◌, ◌≼◌}

-- two numbers, one of three ways
pub data Heads (x y : ℕ) : Type 0 where
  lower : x < y → Heads x y
  level : x ≡ y → Heads x y
  upper : y < x → Heads x y

pub heads : (x y : ℕ) → Heads x y
heads x y =
    elim (dec_lt x y) [
      | yes h ↦ lower h
      | no h ↦ elim (dec_lt y x) [ yes k ↦ upper k | no k ↦ level (omega arith) ]
    ]

-- cmp's last clause, by the three ways

pub cmp_lower : (x y : ℕ) (xs ys : Bytes) → x < y → cmp (x ∷ xs) (y ∷ ys) ≡ Less
unfolding cmp
cmp_lower x y xs ys h = rw (lt-ltb x y h)

pub cmp_upper : (x y : ℕ) (xs ys : Bytes) → y < x → cmp (x ∷ xs) (y ∷ ys) ≡ Greater
unfolding cmp
cmp_upper x y xs ys h = rw (le-ltb x y (omega arith), lt-ltb y x h)

pub cmp_level : (x y : ℕ) (xs ys : Bytes) → x ≡ y → cmp (x ∷ xs) (y ∷ ys) ≡ cmp xs ys
unfolding cmp
cmp_level x y xs ys e = rw (le-ltb x y (omega arith), le-ltb y x (omega arith))

-- the other way round

unfoldable pub flip : Ordering → Ordering
flip Less = Greater
flip Equal = Equal
flip Greater = Less

pub cmp-flip : (a b : Bytes) → cmp b a ≡ flip (cmp a b)
unfolding cmp flip
cmp-flip [] [] = refl
cmp-flip [] (y ∷ ys) = refl
cmp-flip (x ∷ xs) [] = refl
cmp-flip (x ∷ xs) (y ∷ ys) =
    elim (heads x y) [
      | lower h ↦ rw (cmp_lower x y xs ys h, cmp_upper y x ys xs h)
      | level e ↦ rw (cmp_level x y xs ys e, cmp_level y x ys xs (sym e)) (cmp-flip xs ys)
      | upper h ↦ rw (cmp_upper x y xs ys h, cmp_lower y x ys xs h)
    ]

-- Equal exactly where the bytes are the same

pub cmp_refl : (a : Bytes) → cmp a a ≡ Equal
unfolding cmp
cmp_refl [] = refl
cmp_refl (x ∷ xs) = cmp_level x x xs xs refl ∙ cmp_refl xs

pub cmp_same : (a b : Bytes) → cmp a b ≡ Equal → a ≡ b
unfolding cmp
cmp_same [] [] e = refl
cmp_same [] (y ∷ ys) e = cc
cmp_same (x ∷ xs) [] e = cc
cmp_same (x ∷ xs) (y ∷ ys) e =
    elim (heads x y) [
      | lower h ↦ cc (cmp_lower x y xs ys h)
      | level q ↦ rw (q, cmp_same xs ys (sym (cmp_level x y xs ys q) ∙ e))
      | upper h ↦ cc (cmp_upper x y xs ys h)
    ]

-- below, by the first bytes

pub below_nil : (y : ℕ) (ys : Bytes) → [] ≺ y ∷ ys
unfolding cmp
below_nil y ys = record { below = refl }

pub not_below_nil : (a : Bytes) → a ≺ [] → ⊥
unfolding cmp
not_below_nil [] h = let z : ◌≡◌ {A = ℕ} 0 1 = cc h.below in omega arith
not_below_nil (x ∷ xs) h = let z : ◌≡◌ {A = ℕ} 0 1 = cc h.below in omega arith

pub below_lower : (x y : ℕ) (xs ys : Bytes) → x < y → x ∷ xs ≺ y ∷ ys
below_lower x y xs ys h = record { below = cmp_lower x y xs ys h }

pub below_level : (x y : ℕ) (xs ys : Bytes) → x ≡ y → xs ≺ ys → x ∷ xs ≺ y ∷ ys
below_level x y xs ys e h = record { below = cmp_level x y xs ys e ∙ h.below }

pub below_cons : (x y : ℕ) (xs ys : Bytes) → x ∷ xs ≺ y ∷ ys → (x < y) ⊎ ((x ≡ y) × (xs ≺ ys))
below_cons x y xs ys h =
    elim (heads x y) [
      | lower l ↦ inl l
      | level e ↦ inr (e, record { below = sym (cmp_level x y xs ys e) ∙ h.below })
      | upper u ↦ absurd (let z : ◌≡◌ {A = ℕ} 0 1 = cc (h.below, cmp_upper x y xs ys u) in omega arith)
    ]

-- irreflexive, asymmetric, transitive, total

pub below_irrefl : {a : Bytes} → a ≼ a
below_irrefl {a} h = let z : ◌≡◌ {A = ℕ} 0 1 = cc (h.below, cmp_refl a) in omega arith

pub below_asym : {a b : Bytes} → a ≺ b → a ≼ b
unfolding flip
below_asym {a} {b} h k = let z : ◌≡◌ {A = ℕ} 0 1 = cc (h.below, k.below, cmp-flip a b) in omega arith

below_chain : (a b c : Bytes) → a ≺ b → b ≺ c → a ≺ c
below_chain a [] c h k = absurd (not_below_nil a h)
below_chain a (y ∷ b) [] h k = absurd (not_below_nil (y ∷ b) k)
below_chain [] (y ∷ b) (z ∷ c) h k = below_nil z c
below_chain (x ∷ a) (y ∷ b) (z ∷ c) h k =
    elim (below_cons x y a b h) [
      | inl l ↦ elim (below_cons y z b c k) [
        | inl m ↦ below_lower x z a c (omega arith)
        | inr m ↦ below_lower x z a c (omega arith)
      ]
      | inr l ↦ elim (below_cons y z b c k) [
        | inl m ↦ below_lower x z a c (omega arith)
        | inr m ↦ below_level x z a c (l.0 ∙ m.0) (below_chain a b c l.1 m.1)
      ]
    ]

pub below_trans : {a b c : Bytes} → a ≺ b → b ≺ c → a ≺ c
below_trans {a} {b} {c} h k = below_chain a b c h k

pub data Tri (a b : Bytes) : Type 0 where
  before : a ≺ b → Tri a b
  equal : a ≡ b → Tri a b
  after : b ≺ a → Tri a b

pub tri : (a b : Bytes) → Tri a b
unfolding flip
tri a b = go (cmp a b) refl
  where
    go : (o : Ordering) → cmp a b ≡ o → Tri a b
    go Less e = before (record { below = e })
    go Equal e = equal (cmp_same a b e)
    go Greater e = after (record { below = cmp-flip a b ∙ ap flip e })

-- cmp's value from the way that holds

pub cmp_before : {a b : Bytes} → a ≺ b → cmp a b ≡ Less
cmp_before h = h.below

pub cmp_equal : {a b : Bytes} → a ≡ b → cmp a b ≡ Equal
cmp_equal {a} {b} e = rw e (cmp_refl b)

pub cmp_after : {a b : Bytes} → b ≺ a → cmp a b ≡ Greater
unfolding flip
cmp_after {a} {b} h = cmp-flip b a ∙ ap flip h.below

-- not above

pub upto_of_eq : {a b : Bytes} → a ≡ b → a ≼ b
upto_of_eq {a} {b} e h = below_irrefl {a = b} (rw e at h)

pub below_upto_trans : {a b c : Bytes} → a ≺ b → b ≼ c → a ≺ c
below_upto_trans {a} {b} {c} h k =
    elim (tri b c) [
      | before l ↦ below_trans h l
      | equal e ↦ rw (← e) h
      | after l ↦ absurd (k l)
    ]

pub upto_below_trans : {a b c : Bytes} → a ≼ b → b ≺ c → a ≺ c
upto_below_trans {a} {b} {c} h k =
    elim (tri a b) [
      | before l ↦ below_trans l k
      | equal e ↦ rw e k
      | after l ↦ absurd (h l)
    ]

pub upto_trans : {a b c : Bytes} → a ≼ b → b ≼ c → a ≼ c
upto_trans h k l = k (below_upto_trans l h)

pub upto_antisym : {a b : Bytes} → a ≼ b → b ≼ a → a ≡ b
upto_antisym {a} {b} h k =
    elim (tri a b) [
      | before l ↦ absurd (k l)
      | equal e ↦ e
      | after l ↦ absurd (h l)
    ]

pub nil_upto : {a : Bytes} → [] ≼ a
nil_upto {a} h = not_below_nil a h

-- an equal front does not count

pub cmp_front : (p a b : Bytes) → cmp (p ++ a) (p ++ b) ≡ cmp a b
cmp_front [] a b = refl
cmp_front (x ∷ p) a b = cmp_level x x (p ++ a) (p ++ b) refl ∙ cmp_front p a b

-- strings with the same first c bytes compare as what comes after
pub cmp-drop : (c : ℕ) (a b : Bytes) → take c a ≡ take c b → cmp (drop c a) (drop c b) ≡ cmp a b
cmp-drop c a b e =
    sym (cmp_front (take c a) (drop c a) (drop c b))
    ∙ ap (λ (t : Bytes). cmp t (take c a ++ drop c b)) (take-append-drop c a)
    ∙ ap (λ (t : Bytes). cmp a t) (ap (λ (t : Bytes). t ++ drop c b) e ∙ take-append-drop c b)

-- a front is not above

pub front_upto : (p a : Bytes) → p ≼ p ++ a
front_upto [] a h = not_below_nil a h
front_upto (x ∷ p) a h =
    elim (below_cons x x (p ++ a) p h) [ inl l ↦ absurd (omega arith) | inr l ↦ front_upto p a l.1 ]

pub take_upto : (n : ℕ) (a : Bytes) → take n a ≼ a
take_upto n a h = front_upto (take n a) (drop n a) (rw (take-append-drop n a) h)
