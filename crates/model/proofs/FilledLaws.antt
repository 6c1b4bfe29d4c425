-- In merge mode the rules keep "only the last leaf may be empty", and so leaves outnumber pairs by one at most (demand 3).
-- Assumes nothing.
use Rattle.std.specs.Prelude.{◌<◌, ◌≤◌, suc, ℕ, false, true, List, [], ◌++◌, ◌∷◌, ◌≡◌, refl, drop, length}
use Rattle.std.proofs.Common.{arith, length-append}
use Rattle.model.specs.CutLaws.{cut_left, cut_right, offset_cut}
use Rattle.model.specs.Good.{Filled}
use Rattle.model.specs.LeafViews.{full, merges, offset_of, on, removal, settled, side, slack, stay, stays}
use Rattle.model.specs.Leaves.{Node, at_owner, low_of, node, pairs_of, with_pairs}
use Rattle.model.specs.Map.{Pair, put, remove}
use Rattle.model.specs.Rules.{cut_key, halves, insert_here, insert_rule, is_last, lowest_free, merge_from, remove_here, remove_rule, split_if_full}
use Rattle.order.specs.Bytes.{Bytes}
use Rattle.order.specs.OrderLaws.{after, before, cmp_after, cmp_before, cmp_equal, equal, tri}

filled_cons : (n : Node) (ns : List Node) → 0 < length n.pairs → Filled ns → Filled (n ∷ ns)
filled_cons n [] h f = tt
filled_cons n (m ∷ ns) h f = (h, f)

filled_tail : (n : Node) (ns : List Node) → Filled (n ∷ ns) → Filled ns
filled_tail n [] f = tt
filled_tail n (m ∷ ns) f = f.1

-- only the pairs of a leaf matter
filled_same : (n m : Node) (ns : List Node) → n.pairs ≡ m.pairs → Filled (m ∷ ns) → Filled (n ∷ ns)
filled_same n m [] e f = tt
filled_same n m (x ∷ ns) e f = (rw e f.0, f.1)

put_filled : (k v : Bytes) (m : List Pair) → 0 < length (put k v m)
unfolding put
put_filled k v [] = omega arith
put_filled k v (p ∷ m) =
    elim (tri k p.key) [
      | before h ↦ rw (cmp_before h) (omega arith)
      | equal h ↦ rw (cmp_equal h) (omega arith)
      | after h ↦ rw (cmp_after h) (omega arith)
    ]

-- a remove empties a leaf only by its last pair
remove_leaves : (k : Bytes) (m : List Pair) → 0 < length m → is_last k m ≡ false → 0 < length (remove k m)
unfolding remove
remove_leaves k [] h e = absurd (omega arith)
remove_leaves k (p ∷ []) h e =
    elim (tri k p.key) [
      | before b ↦ rw (cmp_before b) (omega arith)
      | equal q ↦ absurd (let z : ◌≡◌ {A = ℕ} 0 1 = cc (rw (cmp_equal q) at e) in omega arith)
      | after b ↦ rw (cmp_after b) (omega arith)
    ]
remove_leaves k (p ∷ q ∷ m) h e =
    elim (tri k p.key) [
      | before b ↦ rw (cmp_before b) (omega arith)
      | equal x ↦ rw (cmp_equal x) (omega arith)
      | after b ↦ rw (cmp_after b) (omega arith)
    ]

split_filled : (F free : ℕ) (n : Node) (ns : List Node) → 3 ≤ F → 0 < length n.pairs → Filled ns → Filled (split_if_full F free n (low_of ns) ++ ns)
unfolding halves
split_filled F free n ns three h f =
    elim (settled F free n (low_of ns)) [
      | full e q w ↦
          (let c = offset_cut n.low (low_of ns) n.pairs (omega arith) in
          rw q (cut_left c, filled_cons (node free (cut_key (offset_of n (low_of ns)) n.pairs) (drop (offset_of n (low_of ns)) n.pairs)) ns (cut_right c) f))
      | slack e q w ↦ rw q (filled_cons n ns h f)
    ]

merge_filled : (n : Node) (ns : List Node) → Filled ns → Filled (merge_from n ns)
unfolding merge_from
merge_filled n [] f = tt
merge_filled n (m ∷ ns) f = filled_same (with_pairs n m.pairs) m ns refl f

remove_here_filled : (k : Bytes) (n : Node) (ns : List Node) → Filled (n ∷ ns) → Filled (remove_here true k n ns)
remove_here_filled k n ns f =
    elim (removal true k n ns) [
      | merges on' p e g q ↦ rw q (merge_filled (with_pairs n []) ns (filled_tail n ns f))
      | stays t q ↦ rw q (kept ns f (t refl))
    ]
  where
    kept : (ns : List Node) → Filled (n ∷ ns) → is_last k n.pairs ≡ false → Filled (with_pairs n (remove k n.pairs) ∷ ns)
    kept [] f t = tt
    kept (m ∷ ns) f t = (remove_leaves k n.pairs f.0 t, f.1)

owner_filled : (k : Bytes) (f : Node → List Node → List Node) → ((n : Node) (ns : List Node) → Filled (n ∷ ns) → Filled (f n ns))
    → (ns : List Node) → Filled ns → Filled (at_owner f k ns)
unfolding at_owner
owner_filled k f here [] g = tt
owner_filled k f here (n ∷ []) g = here n [] g
owner_filled k f here (n ∷ m ∷ ns) g =
    elim (side k m ns) [
      | on e u ↦ rw e (filled_cons n (at_owner f k (m ∷ ns)) g.0 (owner_filled k f here (m ∷ ns) g.1))
      | stay e b ↦ rw e (here n (m ∷ ns) g)
    ]

-- the theorems

pub insert_filled : (F : ℕ) (k v : Bytes) (ns : List Node) → 3 ≤ F → Filled ns → Filled (insert_rule F k v ns)
unfolding insert_rule insert_here
insert_filled F k v ns three f =
    owner_filled k (insert_here F (lowest_free ns) k v)
    (λ n ms g. split_filled F (lowest_free ns) (with_pairs n (put k v n.pairs)) ms three (put_filled k v n.pairs) (filled_tail n ms g))
    ns f

pub remove_filled : (k : Bytes) (ns : List Node) → Filled ns → Filled (remove_rule true k ns)
unfolding remove_rule
remove_filled k ns f = owner_filled k (remove_here true k) (remove_here_filled k) ns f

pub leaves_pairs : (ns : List Node) → Filled ns → length ns ≤ suc (length (pairs_of ns))
leaves_pairs [] f = omega arith
leaves_pairs (n ∷ []) f = omega arith
leaves_pairs (n ∷ m ∷ ns) f = rw length-append (omega (arith, leaves_pairs (m ∷ ns) f.1, f.0))
