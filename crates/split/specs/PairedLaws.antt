-- A list in which one element became two: what stands at the two places, ahead of them and behind them; and prefix lengths so, changed one after
-- the other.
-- Assumes nothing.
use Rattle.std.specs.Prelude.{◌<◌, suc, ℕ, List, [], ◌++◌, ◌∷◌, ◌≡◌, drop, get_or, length, take}
use Rattle.std.proofs.Math.Option.{some}
use Rattle.std.proofs.Common.{◌∙◌, ap, sym, arith, length-append, drop_at, length-take-le, take_at}
use Rattle.std.proofs.Math.Seq.{append_snoc, split_at}
use Rattle.std.proofs.lemmas.List.{get_or_at}
use Rattle.layout.specs.Lays.{prefixes_of}
use Rattle.layout.specs.LaysLaws.{prefixes_append, prefixes_to_length, prefixes_to}
use Rattle.model.specs.Leaves.{Node, low_of, node, prefix_length}
use Rattle.route.specs.Routes.{leaf_at, prefix_at}
use Rattle.split.specs.Splits.{twice}

module _ {A : Type 0} (l : List A) (a b : A) (r : List A) {j : ℕ} (e : length l ≡ j) where
  in_parts : l ++ (a ∷ []) ++ (b ∷ r) ≡ l ++ (a ∷ b ∷ r)
  in_parts = append_snoc l a (b ∷ r)

  long : length (l ++ (a ∷ [])) ≡ suc j
  long = length-append l (a ∷ []) ∙ omega (arith, e)

  pub at_first : (d : A) → get_or (l ++ (a ∷ b ∷ r)) j d ≡ a
  at_first d = get_or_at l a (b ∷ r) d j e

  pub at_second : (d : A) → get_or (l ++ (a ∷ b ∷ r)) (suc j) d ≡ b
  at_second d = ap (λ (m : List A). get_or m (suc j) d) (sym in_parts) ∙ get_or_at (l ++ (a ∷ [])) b r d (suc j) long

  pub ahead_first : take j (l ++ (a ∷ b ∷ r)) ≡ l
  ahead_first = take_at l (a ∷ b ∷ r) j e

  pub ahead_second : take (suc j) (l ++ (a ∷ b ∷ r)) ≡ l ++ (a ∷ [])
  ahead_second = ap (take (suc j)) (sym in_parts) ∙ take_at (l ++ (a ∷ [])) (b ∷ r) (suc j) long

  pub behind_first : drop (suc j) (l ++ (a ∷ b ∷ r)) ≡ b ∷ r
  behind_first = ap (drop (suc j)) (sym in_parts) ∙ drop_at (l ++ (a ∷ [])) (b ∷ r) (suc j) long

  pub behind_second : drop (suc (suc j)) (l ++ (a ∷ b ∷ r)) ≡ r
  behind_second =
      ap (drop (suc (suc j))) (sym in_parts ∙ sym (append_snoc (l ++ (a ∷ [])) b r))
      ∙ drop_at (l ++ (a ∷ []) ++ (b ∷ [])) r (suc (suc j)) (length-append (l ++ (a ∷ [])) (b ∷ []) ∙ omega (arith, long))

-- prefix lengths

module _ (l : List ℕ) (c : ℕ) (r : List ℕ) {j : ℕ} (e : length l ≡ j) where
  twice_is : twice j (l ++ (c ∷ r)) ≡ l ++ (c ∷ c ∷ r)
  twice_is =
      let t : take j (l ++ (c ∷ r)) ≡ l = take_at l (c ∷ r) j e in
      let q : get_or (l ++ (c ∷ r)) j 0 ≡ c = get_or_at l c r 0 j e in
      let d : drop (suc j) (l ++ (c ∷ r)) ≡ r =
      ap (drop (suc j)) (sym (append_snoc l c r)) ∙ drop_at (l ++ (c ∷ [])) r (suc j) (length-append l (c ∷ []) ∙ omega (arith, e)) in
      rw (t, q, d)

  first_set : (m : ℕ) → take j (l ++ (c ∷ c ∷ r)) ++ (m ∷ drop (suc j) (l ++ (c ∷ c ∷ r))) ≡ l ++ (m ∷ c ∷ r)
  first_set m = rw (ahead_first l c c r e, behind_first l c c r e)

  second_set : (m n : ℕ) → take (suc j) (l ++ (m ∷ c ∷ r)) ++ (n ∷ drop (suc (suc j)) (l ++ (m ∷ c ∷ r))) ≡ l ++ (m ∷ n ∷ r)
  second_set m n = rw (ahead_second l m c r e, behind_second l m c r e) (append_snoc l m (n ∷ r))

-- L2's of a leaf list: the j-th leaf's twice, then one after the other as the new leaves have them

module _ (ns : List Node) {j : ℕ} (h : j < length ns) where
  abbrev ahead : List ℕ
  ahead = prefixes_to (take j ns) (some (leaf_at ns j).low)

  abbrev behind : List ℕ
  behind = prefixes_of (drop (suc j) ns)

  ahead_long : length ahead ≡ j
  ahead_long = prefixes_to_length (take j ns) (some (leaf_at ns j).low) ∙ length-take-le j ns (omega (arith, h))

  prefixes_are : prefixes_of ns ≡ ahead ++ (prefix_at ns j ∷ behind)
  prefixes_are = ap prefixes_of (split_at ns j (node 0 [] []) h) ∙ prefixes_append (take j ns) (leaf_at ns j ∷ drop (suc j) ns)

  pub prefixes_twice : twice j (prefixes_of ns) ≡ ahead ++ (prefix_at ns j ∷ prefix_at ns j ∷ behind)
  prefixes_twice = ap (twice j) prefixes_are ∙ twice_is ahead (prefix_at ns j) behind ahead_long

  pub prefixes_first : (m : ℕ) → take j (twice j (prefixes_of ns)) ++ (m ∷ drop (suc j) (twice j (prefixes_of ns))) ≡ ahead ++ (m ∷ prefix_at ns j ∷ behind)
  prefixes_first m = rw prefixes_twice (first_set ahead (prefix_at ns j) behind ahead_long m)

  pub prefixes_second : (m n : ℕ) → take (suc j) (ahead ++ (m ∷ prefix_at ns j ∷ behind)) ++ (n ∷ drop (suc (suc j)) (ahead ++ (m ∷ prefix_at ns j ∷ behind)))
      ≡ ahead ++ (m ∷ n ∷ behind)
  prefixes_second m n = second_set ahead (prefix_at ns j) behind ahead_long m n

  pub twice_at : get_or (twice j (prefixes_of ns)) j 0 ≡ prefix_at ns j
  twice_at = rw prefixes_twice (at_first ahead (prefix_at ns j) (prefix_at ns j) behind ahead_long 0)

  pub first_at : (m : ℕ) → get_or (ahead ++ (m ∷ prefix_at ns j ∷ behind)) (suc j) 0 ≡ prefix_at ns j
  first_at m = at_second ahead m (prefix_at ns j) behind ahead_long 0

  -- the two leaves have the low key of the one, and a key of their own

  module _ (a b : Node) (e : a.low ≡ (leaf_at ns j).low) where
    abbrev both : List Node
    both = take j ns ++ (a ∷ b ∷ drop (suc j) ns)

    front_long : length (take j ns) ≡ j
    front_long = length-take-le j ns (omega (arith, h))

    pub prefix_first : prefix_at both j ≡ prefix_length (leaf_at ns j).low (some b.low)
    prefix_first = rw (at_first (take j ns) a b (drop (suc j) ns) front_long (node 0 [] []), behind_first (take j ns) a b (drop (suc j) ns) front_long, e)

    pub prefix_second : prefix_at both (suc j) ≡ prefix_length b.low (low_of (drop (suc j) ns))
    prefix_second = rw (at_second (take j ns) a b (drop (suc j) ns) front_long (node 0 [] []), behind_second (take j ns) a b (drop (suc j) ns) front_long)

    pub prefixes_both : prefixes_of both ≡ ahead ++ (prefix_at both j ∷ prefix_at both (suc j) ∷ behind)
    prefixes_both =
        prefixes_append (take j ns) (a ∷ b ∷ drop (suc j) ns)
        ∙ rw (prefix_first, prefix_second, e)
