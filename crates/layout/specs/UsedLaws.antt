-- The used words of the directory after a write into the directory buffer: one word made two, two words made one.
-- Assumes nothing.
use Rattle.std.specs.Prelude.{◌<◌, suc, ℕ, ◌+◌, ◌≤◌, List, ◌++◌, ◌∷◌, ◌≡◌, drop, length, take}
use Rattle.std.proofs.Common.{◌∙◌, ap, add-one, arith, length-append, length-drop, length-take, take-take}
use Rattle.std.proofs.Math.Numerals.{add-two}
use Rattle.lists.proofs.PartLaws.{length-part, take-drop, take-put_all}
use Rattle.lists.specs.Part.{part, put}
use Rattle.model.specs.Leaves.{Node}

-- the first m words after a write of s at j
used_put : (dir now : List ℕ) (m u j : ℕ) (s : List ℕ) → j ≤ u → u ≤ length dir → now ≡ put dir j s → m ≡ j + length s → take m now ≡ take j (take u dir) ++ s
used_put dir now m u j s h k is e =
    rw (e, is, take-take j u dir h) (take-put_all dir j s (omega arith))

-- the used words from i on
used_from : (dir : List ℕ) (u i k : ℕ) → i + k ≡ u → part dir i k ≡ drop i (take u dir)
used_from dir u i k e = take-drop dir i k ∙ ap (λ (x : ℕ). drop i (take x dir)) e

module _ (dir now : List ℕ) (u j k : ℕ) (inside : u ≤ length dir) where
  pub used_insert : (d e m : ℕ) → j + 1 + k ≡ u → m ≡ u + 1 → now ≡ put dir j (d ∷ e ∷ part dir (j + 1) k)
      → take m now ≡ take j (take u dir) ++ (d ∷ e ∷ drop (suc j) (take u dir))
  used_insert d e m w q is =
      used_put dir now m u j (d ∷ e ∷ part dir (j + 1) k) (omega arith) inside is (omega (arith, length-part dir (j + 1) k (omega arith)))
      ∙ ap (λ (r : List ℕ). take j (take u dir) ++ (d ∷ e ∷ r)) (rw add-one (used_from dir u (suc j) k (omega arith)))

  pub used_remove : (e m : ℕ) → j + 2 + k ≡ u → m + 1 ≡ u → now ≡ put dir j (e ∷ part dir (j + 2) k)
      → take m now ≡ take j (take u dir) ++ (e ∷ drop (suc (suc j)) (take u dir))
  used_remove e m w q is =
      used_put dir now m u j (e ∷ part dir (j + 2) k) (omega arith) inside is (omega (arith, length-part dir (j + 2) k (omega arith)))
      ∙ ap (λ (r : List ℕ). take j (take u dir) ++ (e ∷ r)) (rw add-two (used_from dir u (suc (suc j)) k (omega arith)))

-- as many leaves as before, where one is replaced
module _ (ns : List Node) (j : ℕ) where
  pub length_same : (n : Node) → j < length ns → length (take j ns ++ (n ∷ drop (suc j) ns)) ≡ length ns
  length_same n h = simp (length-append, length-take, length-drop) (omega arith)
