-- The two keys at a split's cut, on the pairs with the new one at its place: both stored, or one of them the new key. So the separator's
-- length is one more than `cut_common`, and L4's offset goes by the low key's length.
-- Assumes nothing.
use Prim.Native.Nat.{◌-◌, ◌<◌, ◌≤◌, suc, zero, ℕ}
use Rattle.std.specs.Prelude.{List, [], ◌++◌, ◌∷◌, ◌≡◌, refl, drop, get_or, length, take, Some, None}
use Rattle.std.proofs.Common.{◌∙◌, subst, sym, arith, le-ltb, lt-ltb, Option}
use Rattle.std.proofs.Math.Path.{ap}
use Rattle.std.proofs.Math.Decide.{dec_lt}
use Rattle.leaf.specs.Keys.{upper_at}
use Rattle.model.specs.CutLaws.{Cut, cut_order}
use Rattle.model.specs.Map.{Pair, Rising, pair, put}
use Rattle.model.specs.MapLaws.{rising_put}
use Rattle.model.specs.Place.{LookupBy, PutBy, lookup_by, place, put_by}
use Rattle.model.specs.Place.Place.{gap}
use Rattle.model.specs.Rules.{cut_key, first_key, last_key, split_offset}
use Rattle.order.specs.Bytes.{Bytes, common}
use Rattle.order.specs.CommonLaws.{common_comm}
use Rattle.order.proofs.SeparatorLaws.{length-separator}
use Rattle.judge.specs.Judges.{cut_common, key_in, offset_by}
use Rattle.words.specs.declared.LowKey.{LowKey}

-- a list with one element put in before place i

module _ {A : Type 0} (x d : A) where
  put_in_before : (m : List A) (i a : ℕ) → a < i → i ≤ length m → get_or (take i m ++ (x ∷ drop i m)) a d ≡ get_or m a d
  put_in_before [] i a h l = absurd (omega arith)
  put_in_before (y ∷ m) zero a h l = absurd (omega arith)
  put_in_before (y ∷ m) (suc i) zero h l = refl
  put_in_before (y ∷ m) (suc i) (suc a) h l = put_in_before m i a (omega arith) (omega arith)

  put_in_at : (m : List A) (i : ℕ) → i ≤ length m → get_or (take i m ++ (x ∷ drop i m)) i d ≡ x
  put_in_at m zero l = refl
  put_in_at [] (suc i) l = absurd (omega arith)
  put_in_at (y ∷ m) (suc i) l = put_in_at m i (omega arith)

  put_in_after : (m : List A) (i a : ℕ) → i ≤ a → i ≤ length m → get_or (take i m ++ (x ∷ drop i m)) (suc a) d ≡ get_or m a d
  put_in_after m zero a h l = refl
  put_in_after [] (suc i) a h l = absurd (omega arith)
  put_in_after (y ∷ m) (suc i) zero h l = absurd (omega arith)
  put_in_after (y ∷ m) (suc i) (suc a) h l = put_in_after m i a (omega arith) (omega arith)

-- the keys beside a cut

pub last_at : (l : List Pair) (a : ℕ) → a < length l → last_key (take (suc a) l) ≡ key_in l a
last_at [] a h = absurd (omega arith)
last_at (p ∷ l) zero h = refl
last_at (p ∷ []) (suc a) h = absurd (omega arith)
last_at (p ∷ q ∷ l) (suc a) h = last_at (q ∷ l) a (omega arith)

pub first_at : (l : List Pair) (a : ℕ) → first_key (drop a l) ≡ key_in l a
first_at [] zero = refl
first_at [] (suc a) = refl
first_at (p ∷ l) zero = refl
first_at (p ∷ l) (suc a) = first_at l a

module _ (k v : Bytes) (m : List Pair) (i : ℕ) (e : place k m ≡ gap i) where
  pub gap_within : i ≤ length m
  gap_within = (subst (LookupBy (pair [] []) k m) e (lookup_by (pair [] []) k m)).0

  put_is : put k v m ≡ take i m ++ (pair k v ∷ drop i m)
  put_is = subst (PutBy k v m) e (put_by k v m)

  pub key_before : (a : ℕ) → a < i → key_in (put k v m) a ≡ key_in m a
  key_before a h = ap (λ (l : List Pair). key_in l a) put_is ∙ ap (λ (p : Pair). p.key) (put_in_before (pair k v) (pair [] []) m i a h gap_within)

  pub key_here : key_in (put k v m) i ≡ k
  key_here = ap (λ (l : List Pair). key_in l i) put_is ∙ ap (λ (p : Pair). p.key) (put_in_at (pair k v) (pair [] []) m i gap_within)

  pub key_after : (a : ℕ) → i ≤ a → key_in (put k v m) (suc a) ≡ key_in m a
  key_after a h = ap (λ (l : List Pair). key_in l (suc a)) put_is ∙ ap (λ (p : Pair). p.key) (put_in_after (pair k v) (pair [] []) m i a h gap_within)

  -- in front of the (a + 1)-th
  beside : (a : ℕ) → common (key_in (put k v m) a) (key_in (put k v m) (suc a)) ≡ cut_common k m i (suc a)
  beside a =
      let one : suc a - 1 ≡ a = omega arith in
      let two : suc a - 2 ≡ a - 1 = omega arith in
      rw (one, two)
      (elim (dec_lt (suc i) (suc a)) [
        | yes h ↦ rw (lt-ltb (suc i) (suc a) h) (both_after a (omega arith))
        | no h ↦ rw (le-ltb (suc i) (suc a) (omega arith)) (elim (dec_lt (suc a) i) [
          | yes g ↦ rw (lt-ltb (suc a) i g) (rw (key_before a (omega arith), key_before (suc a) g))
          | no g ↦ rw (le-ltb (suc a) i (omega arith)) (elim (dec_lt a i) [
            | yes f ↦
                (let q : i ≡ suc a = omega arith in
                rw (key_before a f, sym q, key_here) (common_comm (key_in m a) k))
            | no f ↦
                (let q : i ≡ a = omega arith in
                rw (key_after a (omega arith), sym q, key_here))
          ])
        ])
      ])
    where
      both_after : (a : ℕ) → i < a → common (key_in (put k v m) a) (key_in (put k v m) (suc a)) ≡ common (key_in m (a - 1)) (key_in m a)
      both_after zero h = absurd (omega arith)
      both_after (suc a) h = rw (key_after a (omega arith), key_after (suc a) (omega arith)) (ap (λ (b : ℕ). common (key_in m b) (key_in m (suc a))) (omega arith))

  pub cut_length : Rising m → (s : ℕ) → Cut s (put k v m) → length (cut_key s (put k v m)) ≡ suc (cut_common k m i s)
  unfolding cut_key
  cut_length r zero c = absurd (omega (arith, c.left))
  cut_length r (suc a) c =
      length-separator _ _ (cut_order c (rising_put k v m r))
      ∙ ap suc (rw (last_at (put k v m) a (omega (arith, c.right)), first_at (put k v m) (suc a)) (beside a))

-- L4 by the low key's length
pub offset_is : (arena : List ℕ) (n l : ℕ) (low : Bytes) (upper : Option LowKey) → l ≡ length low → offset_by n l upper ≡ split_offset n low (upper_at arena upper)
offset_is arena n zero [] upper e = refl
offset_is arena n zero (x ∷ low) upper e = absurd (omega arith)
offset_is arena n (suc l) [] upper e = absurd (omega arith)
offset_is arena n (suc l) (x ∷ low) None e = refl
offset_is arena n (suc l) (x ∷ low) (Some u) e = refl
