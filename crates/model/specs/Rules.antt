-- The leaf rules L3 to L8 as functions on the leaf list, and nothing else.
use Rattle.std.specs.Prelude.{ℕ, zero, suc, ◌-◌, ◌/◌, Bool, true, false, cond, ◌&&◌, ◌||◌, List, [], ◌∷◌, ◌++◌, eqb, length, take, drop}
use Rattle.std.proofs.Math.Option.{Option, none, some}
use Rattle.order.specs.Bytes.{Bytes, cmp, separator}
use Rattle.model.specs.Map.{Pair, by, put, remove}
use Rattle.model.specs.Leaves.{Node, node, with_pairs, low_of, at_owner}

-- L4: for n pairs, 1 if the low key is empty; else n - 2 if there is no upper key; else n / 2 rounded down
abbrev pub split_offset : ℕ → Bytes → Option Bytes → ℕ
split_offset n [] upper = 1
split_offset n (x ∷ low) none = n - 2
split_offset n (x ∷ low) (some upper) = n / 2

abbrev pub first_key : List Pair → Bytes
first_key [] = []
first_key (p ∷ m) = p.key

abbrev pub last_key : List Pair → Bytes
last_key [] = []
last_key (p ∷ []) = p.key
last_key (p ∷ q ∷ m) = last_key (q ∷ m)

-- L5: the separator where a leaf's pairs are cut, from the largest left and the smallest right key
unfoldable pub cut_key : ℕ → List Pair → Bytes
cut_key at m = separator (last_key (take at m)) (first_key (drop at m))

-- L6: the left half keeps number and low key; the right half is a new leaf, with the separator as low key. (The left half's upper key is
-- then the separator, and the right half's the old one.)
unfoldable pub halves : ℕ → ℕ → Node → List Node
halves free at n =
    with_pairs n (take at n.pairs)
    ∷ node free (cut_key at n.pairs) (drop at n.pairs)
    ∷ []

-- L3: a leaf that holds exactly F pairs is split
unfoldable pub split_if_full : (fanout free : ℕ) → Node → Option Bytes → List Node
split_if_full fanout free n upper =
    cond (eqb (length n.pairs) fanout)
    (halves free (split_offset (length n.pairs) n.low upper) n)
    (n ∷ [])

-- L6: the lowest free pool number, counting up; among the first numbers, one more than there are leaves, one is free
unfoldable pub used : ℕ → List Node → Bool
used i [] = false
used i (n ∷ ns) = eqb i n.number || used i ns

unfoldable pub free_from : (steps i : ℕ) → List Node → ℕ
free_from zero i ns = i
free_from (suc steps) i ns = cond (used i ns) (free_from steps (suc i) ns) i

unfoldable pub lowest_free : List Node → ℕ
lowest_free ns = free_from (length ns) 0 ns

-- insert first, then split
unfoldable pub insert_here : (fanout free : ℕ) → Bytes → Bytes → Node → List Node → List Node
insert_here fanout free k v n ns = split_if_full fanout free (with_pairs n (put k v n.pairs)) (low_of ns) ++ ns

unfoldable pub insert_rule : (fanout : ℕ) → Bytes → Bytes → List Node → List Node
insert_rule fanout k v ns = at_owner (insert_here fanout (lowest_free ns) k v) k ns

-- L7: an emptied leaf keeps its low key and takes its right neighbour's pairs, and with them its upper key; the neighbour is freed. A
-- leaf without an upper key stays empty
unfoldable pub merge_from : Node → List Node → List Node
merge_from n [] = n ∷ []
merge_from n (m ∷ ns) = with_pairs n m.pairs ∷ ns

-- k is the key of the leaf's only pair
abbrev pub is_last : Bytes → List Pair → Bool
is_last k [] = false
is_last k (p ∷ []) = by (cmp k p.key) false true false
is_last k (p ∷ q ∷ m) = false

-- merging is a parameter: true in all of document 01
unfoldable pub remove_here : (merging : Bool) → Bytes → Node → List Node → List Node
remove_here merging k n ns =
    cond (merging && is_last k n.pairs)
    (merge_from (with_pairs n []) ns)
    (with_pairs n (remove k n.pairs) ∷ ns)

unfoldable pub remove_rule : (merging : Bool) → Bytes → List Node → List Node
remove_rule merging k ns = at_owner (remove_here merging k) k ns

-- L8: one leaf, pool number 0, low key empty, no upper key, no pairs
abbrev pub fresh : List Node
fresh = node 0 [] [] ∷ []

abbrev pub clear_rule : List Node → List Node
clear_rule ns = fresh
