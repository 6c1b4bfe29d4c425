-- Why demand 3's K must bind the keys of the past: two runs, computed on the leaf list.
-- Assumes nothing.
use Rattle.std.specs.Prelude.{ℕ, ◌||◌, cond, true, List, [], ◌∷◌, ◌≡◌, refl, length}
use Rattle.std.proofs.Math.Option.{Option, none, some}
use Rattle.model.specs.Answers.{no_leaf, no_room}
use Rattle.model.specs.Charge.{charge, weight}
use Rattle.model.specs.Leaves.{owned, Node, at_owner, node, pairs_of}
use Rattle.model.specs.Map.{pair, put, remove}
use Rattle.model.specs.Rules.{cut_key, free_from, fresh, halves, insert_here, insert_rule, lowest_free, merge_from, remove_here, remove_rule, split_if_full, used}
use Rattle.order.specs.Bytes.{Bytes, cmp, common, separator}

-- X is seven bytes 78. X30, X31, X32 are put, then 61; X31, X32, X30 are removed; all values are empty
x : ℕ → Bytes
x b = 0x78 ∷ 0x78 ∷ 0x78 ∷ 0x78 ∷ 0x78 ∷ 0x78 ∷ 0x78 ∷ b ∷ []

kept : List Node
kept =
    remove_rule true (x 0x30) (remove_rule true (x 0x32) (remove_rule true (x 0x31)
    (insert_rule 3 (0x61 ∷ []) [] (insert_rule 3 (x 0x32) [] (insert_rule 3 (x 0x31) [] (insert_rule 3 (x 0x30) [] fresh))))))

kept_is : kept ≡ node 0 [] (pair (0x61 ∷ []) [] ∷ []) ∷ node 1 (x 0x31) [] ∷ []
unfolding x kept insert_rule lowest_free free_from used at_owner insert_here split_if_full halves cut_key separator common put cmp remove_rule remove_here merge_from remove
kept_is = refl

-- so a sizing over present lengths (P = 1, K = 1, V = 0: 2 bytes) would be false
kept_pairs : length (pairs_of kept) ≡ 1
kept_pairs = rw kept_is

kept_charge : charge kept ≡ 9
unfolding charge weight x
kept_charge = rw kept_is

-- The same in one arena, where no insert of the past is refused. F 3, pool 6, arena 10: by present lengths (K = 1, V = 0) enough for P = 5
-- pairs. 787830, 787831 and 79 are put, 79 and 787831 removed, 61 put, 787830 removed, 62, 63 and 64 put. Then 65, the fifth pair, is
-- refused 8
puts : Bytes → Option (List Node) → Option (List Node)
puts k none = none
puts k (some ns) = cond (no_leaf 3 6 k [] ns || no_room 3 10 k [] ns) none (some (insert_rule 3 k [] ns))

removes : Bytes → Option (List Node) → Option (List Node)
removes k none = none
removes k (some ns) = some (remove_rule true k ns)

y : ℕ → Bytes
y b = 0x78 ∷ 0x78 ∷ b ∷ []

four : List Node
four =
    node 0 [] (pair (0x61 ∷ []) [] ∷ [])
    ∷ node 2 (0x62 ∷ []) (pair (0x62 ∷ []) [] ∷ [])
    ∷ node 3 (0x63 ∷ []) (pair (0x63 ∷ []) [] ∷ pair (0x64 ∷ []) [] ∷ [])
    ∷ node 1 (y 0x31) []
    ∷ []

past : puts (0x64 ∷ []) (puts (0x63 ∷ []) (puts (0x62 ∷ []) (removes (y 0x30) (puts (0x61 ∷ []) (removes (y 0x31) (removes (0x79 ∷ [])
    (puts (0x79 ∷ []) (puts (y 0x31) (puts (y 0x30) (some fresh)))))))))) ≡ some four
unfolding puts removes y four charge weight insert_rule lowest_free free_from used at_owner owned insert_here split_if_full halves cut_key separator common put cmp remove_rule remove_here merge_from remove
past = refl

fifth : no_room 3 10 (0x65 ∷ []) [] four ≡ true
unfolding y four charge weight insert_rule lowest_free free_from used at_owner insert_here split_if_full halves cut_key separator common put cmp
fifth = refl
