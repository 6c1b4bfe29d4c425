-- The charge and the count of leaves after an insert and a remove, by formula and without subtraction.
-- Assumes nothing.
use Rattle.std.specs.Prelude.{◌+◌, suc, ℕ, Bool, ◌&&◌, cond, false, true, List, [], ◌++◌, ◌∷◌, ◌≡◌, refl, drop, length, take}
use Rattle.std.proofs.Math.Option.{Option, none, some}
use Rattle.std.proofs.Common.{◌∙◌, ap, sym, arith, take-append-drop}
use Rattle.model.specs.Answers.{size_of}
use Rattle.model.specs.Charge.{charge, weight}
use Rattle.model.specs.LeafViews.{full, last, lasting, new_low, offset_of, on, others, settled, side, slack, stay}
use Rattle.model.specs.Leaves.{Node, at_owner, low_of, owned, reaches, with_pairs}
use Rattle.model.specs.Map.{Pair, lookup, put, remove}
use Rattle.model.specs.MapParts.{cost, tally, weight-append, weight-put, weight-remove}
use Rattle.model.specs.Rules.{cut_key, halves, insert_here, insert_rule, is_last, lowest_free, merge_from, remove_here, remove_rule, split_if_full}
use Rattle.order.specs.Bytes.{Bytes}
use Rattle.order.specs.OrderLaws.{cmp_equal}
use Rattle.model.specs.LeafCuts.{insert_cut, remove_cut, Cutting, cuts, uncut}

cutting_here : (F : ℕ) (k v : Bytes) (n : Node) (ns : List Node) → reaches k ns ≡ false → Cutting F k v (n ∷ ns)
unfolding insert_cut owned
cutting_here F k v n ns r =
    let x = with_pairs n (put k v n.pairs) in
    elim (settled F 0 x (low_of ns)) [
      | full e q w ↦ cuts (rw r e) (cut_key (offset_of x (low_of ns)) x.pairs) (rw r w)
      | slack e q w ↦ uncut (rw r e) (rw r w)
    ]

pub cutting : (F : ℕ) (k v : Bytes) (n : Node) (ns : List Node) → Cutting F k v (n ∷ ns)
unfolding insert_cut owned
cutting F k v n [] = cutting_here F k v n [] refl
cutting F k v n (m ∷ ns) =
    elim (side k m ns) [
      | on e u ↦ elim (cutting F k v m ns) [
        | cuts h s q ↦ cuts (rw e h) s (rw e q)
        | uncut h q ↦ uncut (rw e h) (rw e q)
      ]
      | stay e b ↦ cutting_here F k v n (m ∷ ns) e
    ]

weight_parts : (at : ℕ) (m : List Pair) → weight (take at m) + weight (drop at m) ≡ weight m
weight_parts at m = sym (weight-append (take at m) (drop at m)) ∙ ap weight (take-append-drop at m)

-- a split adds its separator to the charge, and one leaf
split_charge : (F free : ℕ) (n : Node) (u : Option Bytes) (ns : List Node)
    → charge (split_if_full F free n u ++ ns) ≡ length n.low + weight n.pairs + size_of (new_low F n u) + charge ns
unfolding halves charge
split_charge F free n u ns =
    elim (settled F free n u) [
      | full e q w ↦ rw (q, w) (omega (arith, weight_parts (offset_of n u) n.pairs))
      | slack e q w ↦ rw (q, w) (omega arith)
    ]

split_count : (F free : ℕ) (n : Node) (u : Option Bytes) (ns : List Node)
    → length (split_if_full F free n u ++ ns) ≡ suc (length ns) + tally (new_low F n u)
unfolding halves
split_count F free n u ns =
    elim (settled F free n u) [ full e q w ↦ rw (q, w) (omega arith) | slack e q w ↦ rw (q, w) (omega arith) ]

insert_at-charge : (F free : ℕ) (k v : Bytes) (n : Node) (ns : List Node)
    → charge (at_owner (insert_here F free k v) k (n ∷ ns)) + cost k (lookup k (owned k (n ∷ ns)))
    ≡ charge (n ∷ ns) + (length k + length v) + size_of (insert_cut F k v (n ∷ ns))
unfolding insert_here at_owner owned insert_cut charge
insert_at-charge F free k v n [] =
    omega (arith, split_charge F free (with_pairs n (put k v n.pairs)) none [], weight-put k v n.pairs)
insert_at-charge F free k v n (m ∷ ns) =
    elim (side k m ns) [
      | on e u ↦ rw e (omega (arith, insert_at-charge F free k v m ns))
      | stay e b ↦ rw e (omega (arith, split_charge F free (with_pairs n (put k v n.pairs)) (some m.low) (m ∷ ns), weight-put k v n.pairs))
    ]

pub insert_charge : (F : ℕ) (k v : Bytes) (n : Node) (ns : List Node)
    → charge (insert_rule F k v (n ∷ ns)) + cost k (lookup k (owned k (n ∷ ns)))
    ≡ charge (n ∷ ns) + (length k + length v) + size_of (insert_cut F k v (n ∷ ns))
unfolding insert_rule
insert_charge F k v n ns = insert_at-charge F (lowest_free (n ∷ ns)) k v n ns

insert_at_count : (F free : ℕ) (k v : Bytes) (n : Node) (ns : List Node)
    → length (at_owner (insert_here F free k v) k (n ∷ ns)) ≡ length (n ∷ ns) + tally (insert_cut F k v (n ∷ ns))
unfolding insert_here at_owner insert_cut
insert_at_count F free k v n [] = omega (arith, split_count F free (with_pairs n (put k v n.pairs)) none [])
insert_at_count F free k v n (m ∷ ns) =
    elim (side k m ns) [
      | on e u ↦ rw e (omega (arith, insert_at_count F free k v m ns))
      | stay e b ↦ rw e (omega (arith, split_count F free (with_pairs n (put k v n.pairs)) (some m.low) (m ∷ ns)))
    ]

pub insert_count : (F : ℕ) (k v : Bytes) (n : Node) (ns : List Node)
    → length (insert_rule F k v (n ∷ ns)) ≡ length (n ∷ ns) + tally (insert_cut F k v (n ∷ ns))
unfolding insert_rule
insert_count F k v n ns = insert_at_count F (lowest_free (n ∷ ns)) k v n ns

-- a merge takes the neighbour's low key from the charge, and one leaf
merge_charge : (n : Node) (ns : List Node)
    → charge (merge_from (with_pairs n []) ns) + size_of (low_of ns) ≡ length n.low + charge ns
unfolding merge_from charge weight
merge_charge n [] = omega arith
merge_charge n (m ∷ ns) = omega arith

merge_count : (n : Node) (ns : List Node) → length (merge_from n ns) + tally (low_of ns) ≡ suc (length ns)
unfolding merge_from
merge_count n [] = omega arith
merge_count n (m ∷ ns) = omega arith

remove_last : (k : Bytes) (m : List Pair) (p : Pair) → m ≡ p ∷ [] → k ≡ p.key → remove k m ≡ []
unfolding remove
remove_last k m p e f = rw (e, cmp_equal f)

remove_here-charge : (merging : Bool) (k : Bytes) (n : Node) (ns : List Node)
    → charge (remove_here merging k n ns) + cost k (lookup k n.pairs) + size_of (cond (merging && is_last k n.pairs) (low_of ns) none)
    ≡ charge (n ∷ ns)
unfolding remove_here charge weight
remove_here-charge false k n ns = omega (arith, weight-remove k n.pairs)
remove_here-charge true k n ns =
    elim (lasting k n.pairs) [
      | last p e f t ↦ rw t (omega (arith, merge_charge n ns, weight-remove k n.pairs, ap weight (remove_last k n.pairs p e f)))
      | others t ↦ rw t (omega (arith, weight-remove k n.pairs))
    ]

remove_here_count : (merging : Bool) (k : Bytes) (n : Node) (ns : List Node)
    → length (remove_here merging k n ns) + tally (cond (merging && is_last k n.pairs) (low_of ns) none) ≡ suc (length ns)
unfolding remove_here
remove_here_count false k n ns = omega arith
remove_here_count true k n ns =
    elim (lasting k n.pairs) [
      | last p e f t ↦ rw t (merge_count (with_pairs n []) ns)
      | others t ↦ rw t (omega arith)
    ]

pub remove-charge : (merging : Bool) (k : Bytes) (n : Node) (ns : List Node)
    → charge (remove_rule merging k (n ∷ ns)) + cost k (lookup k (owned k (n ∷ ns))) + size_of (remove_cut merging k (n ∷ ns))
    ≡ charge (n ∷ ns)
unfolding remove_rule at_owner owned remove_cut charge
remove-charge merging k n [] = remove_here-charge merging k n []
remove-charge merging k n (m ∷ ns) =
    elim (side k m ns) [
      | on e u ↦ rw e (omega (arith, remove-charge merging k m ns))
      | stay e b ↦ rw e (remove_here-charge merging k n (m ∷ ns))
    ]

pub remove_count : (merging : Bool) (k : Bytes) (n : Node) (ns : List Node)
    → length (remove_rule merging k (n ∷ ns)) + tally (remove_cut merging k (n ∷ ns)) ≡ length (n ∷ ns)
unfolding remove_rule at_owner remove_cut
remove_count merging k n [] = remove_here_count merging k n []
remove_count merging k n (m ∷ ns) =
    elim (side k m ns) [
      | on e u ↦ rw e (omega (arith, remove_count merging k m ns))
      | stay e b ↦ rw e (remove_here_count merging k n (m ∷ ns))
    ]
