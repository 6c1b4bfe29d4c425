-- What holds of each element of a list.
-- Assumes nothing.
use Rattle.std.specs.Prelude.{List, [], ◌∷◌, ◌++◌, ℕ, zero, suc, ◌<◌, length, get_or, take, drop}
use Rattle.std.proofs.Common.{le_of_suc-le-suc, arith}

abbrev pub All {ℓ} : {A : Type ℓ} → (A → Type 0) → List A → Type 0
All P [] = Unit {0}
All P (x ∷ l) = P x × All P l

module _ {A : Type 0} where
  pub all_mono : {P Q : A → Type 0} (l : List A) → ((x : A) → P x → Q x) → All P l → All Q l
  all_mono [] f h = tt
  all_mono (x ∷ l) f h = (f x h.0, all_mono l f h.1)

  pub all_append : (P : A → Type 0) (l m : List A) → All P l → All P m → All P (l ++ m)
  all_append P [] m h k = k
  all_append P (x ∷ l) m h k = (h.0, all_append P l m h.1 k)

  pub all_left : (P : A → Type 0) (l m : List A) → All P (l ++ m) → All P l
  all_left P [] m h = tt
  all_left P (x ∷ l) m h = (h.0, all_left P l m h.1)

  pub all_right : (P : A → Type 0) (l m : List A) → All P (l ++ m) → All P m
  all_right P [] m h = h
  all_right P (x ∷ l) m h = all_right P l m h.1

  pub all_take : (P : A → Type 0) (n : ℕ) (l : List A) → All P l → All P (take n l)
  all_take P zero l h = tt
  all_take P (suc n) [] h = tt
  all_take P (suc n) (x ∷ l) h = (h.0, all_take P n l h.1)

  pub all_drop : (P : A → Type 0) (n : ℕ) (l : List A) → All P l → All P (drop n l)
  all_drop P zero l h = h
  all_drop P (suc n) [] h = tt
  all_drop P (suc n) (x ∷ l) h = all_drop P n l h.1

  pub all_at : (P : A → Type 0) (l : List A) (i : ℕ) (d : A) → i < length l → All P l → P (get_or l i d)
  all_at P [] i d h a = absurd (omega arith)
  all_at P (x ∷ l) zero d h a = a.0
  all_at P (x ∷ l) (suc i) d h a = all_at P l i d (le_of_suc-le-suc h) a.1

  pub all_both : (P Q : A → Type 0) (l : List A) → All P l → All Q l → All (λ x. P x × Q x) l
  all_both P Q [] h k = tt
  all_both P Q (x ∷ l) h k = ((h.0, k.0), all_both P Q l h.1 k.1)
