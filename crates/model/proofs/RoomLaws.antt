-- A replacement splits no leaf, and meets no refusal for want of a leaf, nor one for want of room where its value is not longer; and where
-- the charge is within the arena's length, there is room for the bytes that a merge regains.
-- Assumes nothing.
use Rattle.std.specs.Prelude.{◌*◌, ◌+◌, ◌<◌, ◌≤◌, ℕ, false, List, [], ◌++◌, ◌∷◌, ◌≡◌, refl, length}
use Rattle.std.proofs.Math.Option.{none, some}
use Rattle.std.proofs.Common.{arith, le-ltb, ne_eqb}
use Rattle.model.specs.Answers.{no_leaf, no_room}
use Rattle.model.specs.Charge.{charge, stored}
use Rattle.model.specs.Good.{Bounds, Tiled, Tiles}
use Rattle.model.specs.LeafViews.{on, side, stay}
use Rattle.model.specs.Leaves.{Node, owned}
use Rattle.model.specs.Map.{lookup, put}
use Rattle.model.specs.MapParts.{length-put}
use Rattle.model.proofs.OwnerLaws.{tiles_first}
use Rattle.model.specs.Rules.{insert_rule, merge_from}
use Rattle.model.specs.LeafCuts.{uncut, cuts, insert_cut}
use Rattle.model.proofs.SizeLaws.{cutting, insert_charge}
use Rattle.model.proofs.StoredLaws.{charge_ahead, merge_stored_behind, regained, stored_charge}
use Rattle.order.specs.Bytes.{Bytes}

-- the owner has room for one pair more (L3)
pub owned_room : {B : Bounds} (k : Bytes) (ns : List Node) → Tiles B ns → length (owned k ns) < B.fanout
unfolding owned
owned_room {B} k ns t = tiles_first (λ ms. length (owned k ms) < B.fanout) (λ n ms h u. go n ms u) ns t
  where
    go : (n : Node) (ms : List Node) → Tiled B (n ∷ ms) → length (owned k (n ∷ ms)) < B.fanout
    go n [] u = u.0.1
    go n (m ∷ ms) u = elim (side k m ms) [ on e l ↦ rw e (go m ms u.1) | stay e b ↦ rw e u.0.1 ]

-- so a replacement splits no leaf
pub replace_no_split : (F : ℕ) (k v old : Bytes) (ns : List Node) → length (owned k ns) < F → lookup k (owned k ns) ≡ some old
    → insert_cut F k v ns ≡ none
unfolding insert_cut
replace_no_split F k v old [] h e = refl
replace_no_split F k v old (n ∷ ns) h e =
    elim (cutting F k v n ns) [
      | cuts l s q ↦ absurd (omega (arith, rw e at (length-put k v (owned k (n ∷ ns)))))
      | uncut l q ↦ q
    ]

-- and never meets 7; one that is not longer never meets 8

pub replace_not_seven : {B : Bounds} (pool : ℕ) (k v old : Bytes) (ns : List Node) → Tiles B ns → lookup k (owned k ns) ≡ some old → no_leaf B.fanout pool k v ns ≡ false
replace_not_seven {B} pool k v old ns t e =
    rw (ne_eqb (length (put k v (owned k ns))) B.fanout (λ q. omega (arith, q, rw e at (length-put k v (owned k ns)), owned_room k ns t)))

pub replace_not_eight : {B : Bounds} (arena : ℕ) (k v old : Bytes) (ns : List Node) → Tiles B ns → lookup k (owned k ns) ≡ some old → length v ≤ length old → charge ns ≤ arena
    → no_room B.fanout arena k v ns ≡ false
replace_not_eight arena k v old [] t e l c = absurd (let z : ◌≡◌ {A = ℕ} 0 1 = cc t.starts in omega arith)
replace_not_eight {B} arena k v old (n ∷ ns) t e l c =
    let q = rw (e, replace_no_split B.fanout k v old (n ∷ ns) (owned_room k (n ∷ ns) t) e) at (insert_charge B.fanout k v n ns) in
    le-ltb arena (charge (insert_rule B.fanout k v (n ∷ ns))) (omega (arith, q, l, c))

-- any empty leaf with a right neighbour: there is room for what the neighbour's pairs regain
pub merge_room : (B : Bounds) (ahead : List Node) (n m : Node) (ns : List Node) → Tiled B (ahead ++ (n ∷ m ∷ ns)) → n.pairs ≡ []
    → stored (ahead ++ (n ∷ m ∷ ns)) + length m.pairs * regained n m ns ≤ charge (ahead ++ (n ∷ m ∷ ns))
unfolding merge_from charge
merge_room B ahead n m ns t e =
    omega (
      arith,
      merge_stored_behind B ahead n m ns t e,
      stored_charge (ahead ++ merge_from n (m ∷ ns)),
      charge_ahead ahead (merge_from n (m ∷ ns)),
      charge_ahead ahead (n ∷ m ∷ ns),
    )
