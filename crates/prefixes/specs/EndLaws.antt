-- The model's end of a prefix from the prefix without its trailing FF bytes: the last byte left raised by one; open where none is left.
-- Assumes nothing.
use Rattle.std.specs.Prelude.{ℕ, suc, ◌-◌, ◌<◌, [], ◌++◌, ◌∷◌, ◌≡◌, refl, drop, get_or, length, take}
use Rattle.std.proofs.Math.Option.{none, some}
use Rattle.std.proofs.Common.{◌∙◌, ap, arith, eq-eqb, ne_eqb, length-append, length-take-le}
use Rattle.std.proofs.Math.Seq.{split_at}
use Rattle.lists.specs.All.{All}
use Rattle.model.specs.Prefix.{prefix_end}
use Rattle.order.specs.Bytes.{Bytes}
use Rattle.prefixes.specs.End.{Full, Stripped, raised_at}

pub end_open : (p : Bytes) → All Full p → prefix_end p ≡ none
unfolding prefix_end
end_open [] a = refl
end_open (x ∷ p) a = rw (end_open p a.1, eq-eqb x 0xff a.0)

pub end_raised : (q : Bytes) (x : ℕ) (f : Bytes) → (Full x → ⊥) → All Full f → prefix_end (q ++ x ∷ f) ≡ some (q ++ (suc x ∷ []))
unfolding prefix_end
end_raised [] x f n a = rw (end_open f a, ne_eqb x 0xff n)
end_raised (y ∷ q) x f n a = rw (end_raised q x f n a)

module _ {p : Bytes} {n : ℕ} (s : Stripped p n) where
  pub stripped_open : n ≡ 0 → prefix_end p ≡ none
  stripped_open e = end_open p (rw e at s.full)

  pub stripped_end : 0 < n → prefix_end p ≡ some (raised_at p n)
  stripped_end h =
      let e : suc (n - 1) ≡ n = omega arith in
      ap prefix_end (split_at p (n - 1) 0 (omega (arith, s.within)))
      ∙ end_raised (take (n - 1) p) (get_or p (n - 1) 0) (drop (suc (n - 1)) p) (s.stops h) (rw e s.full)

  pub length_raised : 0 < n → length (raised_at p n) ≡ n
  length_raised h = simp length-append (rw (length-take-le (n - 1) p (omega (arith, s.within))) (omega arith))
