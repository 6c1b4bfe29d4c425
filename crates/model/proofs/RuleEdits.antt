-- An insert, and a remove, as an edit of the leaf that owns its key. Where an insert's key is new and that leaf stays below F pairs: one pair
-- more there, its size in the charge, and nothing else.
-- Assumes nothing.
use Rattle.std.specs.Prelude.{◌+◌, ◌<◌, ◌≤◌, suc, ℕ, Bool, ◌≡◌, get_or, length}
use mathlib.Core.List.{List, [], ◌++◌, ◌∷◌}
use Rattle.std.proofs.Math.Option.{none}
use Rattle.std.proofs.Common.{◌∙◌, subst, sym, arith, le-ltb, ne_eqb}
use Rattle.std.proofs.Math.Path.{ap}
use Rattle.std.proofs.Math.ListN.{drop, take}
use Rattle.model.specs.Charge.{charge}
use Rattle.model.proofs.FitsLaws.{insert_fits}
use Rattle.model.specs.Good.{Bounds, Fits, Tiles}
use Rattle.model.specs.LeafViews.{full, settled, slack}
use Rattle.model.specs.Leaves.{Node, low_of, node, owned, owner, pairs_of, with_pairs}
use Rattle.model.specs.Map.{Pair, lookup, pair, put}
use Rattle.model.specs.MapParts.{length-put}
use Rattle.model.proofs.OwnerLaws.{owned_at, owner_edit, tiles_first}
use Rattle.model.proofs.PairLaws.{insert_pairs, lookup-owned}
use Rattle.model.specs.Place.{gap, gap_lookup, place, PutBy, put_by}
use Rattle.model.specs.Rules.{insert_here, insert_rule, lowest_free, remove_here, remove_rule}
use Rattle.model.specs.LeafCuts.{cuts, insert_cut, uncut}
use Rattle.model.proofs.SizeLaws.{cutting, insert_charge}
use Rattle.order.specs.Bytes.{Bytes}

-- the rule at the leaf that owns the key
pub insert_edit : {B : Bounds} (F : ℕ) (k v : Bytes) (ns : List Node) → Tiles B ns
    → insert_rule F k v ns ≡ take (owner k ns) ns ++ insert_here F (lowest_free ns) k v (get_or ns (owner k ns) (node 0 [] [])) (drop (suc (owner k ns)) ns)
unfolding insert_rule
insert_edit F k v ns t =
    tiles_first (λ ms. insert_rule F k v ms ≡ take (owner k ms) ms ++ insert_here F (lowest_free ms) k v (get_or ms (owner k ms) (node 0 [] [])) (drop (suc (owner k ms)) ms))
    (λ n ms h u. owner_edit k (node 0 [] []) (insert_here F (lowest_free (n ∷ ms)) k v) n ms) ns t

pub remove_edit : {B : Bounds} (merging : Bool) (k : Bytes) (ns : List Node) → Tiles B ns
    → remove_rule merging k ns ≡ take (owner k ns) ns ++ remove_here merging k (get_or ns (owner k ns) (node 0 [] [])) (drop (suc (owner k ns)) ns)
unfolding remove_rule
remove_edit merging k ns t =
    tiles_first (λ ms. remove_rule merging k ms ≡ take (owner k ms) ms ++ remove_here merging k (get_or ms (owner k ms) (node 0 [] [])) (drop (suc (owner k ms)) ms))
    (λ n ms h u. owner_edit k (node 0 [] []) (remove_here merging k) n ms) ns t

module _ {B : Bounds} (F : ℕ) (k v : Bytes) (ns : List Node) (t : Tiles B ns) {j : ℕ} (o : j ≡ owner k ns) where
  abbrev leaf : Node
  leaf = get_or ns j (node 0 [] [])

  abbrev m : List Pair
  m = leaf.pairs

  pub owned_is : owned k ns ≡ m
  owned_is = rw o (tiles_first (λ ms. owned k ms ≡ (get_or ms (owner k ms) (node 0 [] [])).pairs) (λ n ms h u. owned_at k (node 0 [] []) n ms) ns t)

  -- no split
  pub insert_slack : (length (put k v m) ≡ F → ⊥) → insert_rule F k v ns ≡ take j ns ++ (with_pairs leaf (put k v m) ∷ drop (suc j) ns)
  unfolding insert_here
  insert_slack h =
      elim (settled F (lowest_free ns) (with_pairs leaf (put k v m)) (low_of (drop (suc j) ns))) [
        | full e q w ↦ absurd (h e)
        | slack e q w ↦ (rw (sym o) at (insert_edit F k v ns t)) ∙ ap (λ (z : List Node). take j ns ++ (z ++ drop (suc j) ns)) q
      ]

  module _ {i : ℕ} (p : place k m ≡ gap i) (f : suc (length m) < F) where
    absent : lookup k (owned k ns) ≡ none
    absent = ap (lookup k) owned_is ∙ gap_lookup k m i p

    pub put_at : put k v m ≡ take i m ++ (pair k v ∷ drop i m)
    put_at = subst (PutBy k v m) p (put_by k v m)

    below : length (put k v m) ≡ F → ⊥
    below e = let q = rw (gap_lookup k m i p) at (length-put k v m) in omega (arith, q, e)

    below_owned : length (put k v (owned k ns)) ≡ F → ⊥
    below_owned = rw owned_is below

    uncut_rule : insert_cut F k v ns ≡ none
    uncut_rule =
        tiles_first (λ ms. (length (put k v (owned k ms)) ≡ F → ⊥) → insert_cut F k v ms ≡ none)
        (λ n ms h u g. elim (cutting F k v n ms) [ cuts e s q ↦ absurd (g e) | uncut e q ↦ q ]) ns t below_owned

    pub inserted_charge : charge (insert_rule F k v ns) ≡ charge ns + (length k + length v)
    inserted_charge =
        let e = tiles_first (λ ms. lookup k (owned k ms) ≡ none → insert_cut F k v ms ≡ none → charge (insert_rule F k v ms) ≡ charge ms + (length k + length v))
        (λ n ms h u a c. let q = rw (a, c) at (insert_charge F k v n ms) in omega (arith, q)) ns t in
        e absent uncut_rule

    pub inserted_pairs : length (pairs_of (insert_rule F k v ns)) ≡ length (pairs_of ns) + 1
    inserted_pairs =
        let e = rw (sym (lookup-owned k ns t), absent) at (length-put k v (pairs_of ns)) in
        ap length (insert_pairs F k v ns t) ∙ (let q : length (put k v (pairs_of ns)) ≡ length (pairs_of ns) + 1 = omega (arith, e) in q)

    pub inserted_is : insert_rule F k v ns ≡ take j ns ++ (with_pairs leaf (take i m ++ (pair k v ∷ drop i m)) ∷ drop (suc j) ns)
    inserted_is = insert_slack below ∙ ap (λ (l : List Pair). take j ns ++ (with_pairs leaf l ∷ drop (suc j) ns)) put_at

    pub inserted_fits : (pool arena : ℕ) → charge ns + (length k + length v) ≤ arena → Fits pool arena ns → Fits pool arena (insert_rule F k v ns)
    inserted_fits pool arena c g =
        insert_fits F pool arena k v ns (rw (ne_eqb (length (put k v (owned k ns))) F below_owned)) (le-ltb arena (charge (insert_rule F k v ns)) (omega (arith, inserted_charge))) g
