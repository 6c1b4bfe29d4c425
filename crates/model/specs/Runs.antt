-- Document 01's whole run and A4 to A10, as far as leaf lists tell them, computed on the definitions.
-- Assumes nothing.
use Rattle.std.specs.Prelude.{ℕ, false, true, List, [], ◌∷◌, ◌≡◌, refl, replicate}
use Rattle.std.proofs.Math.Option.{Option, none, some}
use Rattle.model.specs.Answers.{Answer, Changed, Shown, accepted, contains_answer, first_answer, get_answer, get_gt_answer, insert_answer, leaf_at, long_key, long_value, prefix_answer, range_answer, refused, remove_answer, shown}
use Rattle.model.specs.Charge.{charge, weight}
use Rattle.model.specs.Leaves.{Node, at_owner, low_of, owned}
use Rattle.model.specs.Limits.{key_limit, value_limit}
use Rattle.model.specs.Map.{first_in, lookup, pair, put, remove}
use Rattle.model.specs.Prefix.{prefix_end}
use Rattle.model.specs.Rules.{cut_key, free_from, fresh, halves, insert_here, insert_rule, lowest_free, merge_from, remove_here, remove_rule, split_if_full, used}
use Rattle.model.specs.declared.Bound.TheVariants.{Excluded, Included, Open}
use Rattle.model.specs.declared.Refusal.TheVariants.{InvertedRange, LongKey, NoLeaf, NoRoom, ShortOutput}
use Rattle.order.specs.Bytes.{Bytes, cmp, common, separator}

-- one byte, as a string
abbrev byte : ℕ → Bytes
byte x = x ∷ []

-- the leaf list as document 01 shows it
abbrev pub leaf_list : List Node → List Shown
leaf_list [] = []
leaf_list (n ∷ ns) = shown n (low_of ns) ∷ leaf_list ns

abbrev line : Bytes → Option Bytes → ℕ → ℕ → Shown
line low upper prefix pairs = record { low = low; upper = upper; prefix = prefix; pairs = pairs }

two : List Node
two = insert_rule 3 (byte 0x62) (byte 0x02) (insert_rule 3 (byte 0x61) (byte 0x01) fresh)

three : List Node
three = insert_rule 3 (byte 0x63) (byte 0x03) two

run_leaves : leaf_list three ≡ line [] (some (byte 0x62)) 0 1 ∷ line (byte 0x62) none 0 2 ∷ []
unfolding three two insert_rule lowest_free free_from used insert_here split_if_full halves cut_key at_owner put cmp separator common
run_leaves = refl

run_get : get_answer (byte 0x62) three ≡ accepted (some (byte 0x02))
unfolding three two insert_rule lowest_free free_from used insert_here split_if_full halves cut_key at_owner put lookup cmp separator common key_limit
run_get = refl

-- A5

last_two : List Node
last_two = remove_rule true (byte 0x63) (remove_rule true (byte 0x62) three)

a5_leaves : leaf_list last_two ≡ line [] (some (byte 0x62)) 0 1 ∷ line (byte 0x62) none 0 0 ∷ []
unfolding last_two three two insert_rule lowest_free free_from used insert_here split_if_full halves cut_key at_owner put remove remove_rule remove_here merge_from cmp separator common
a5_leaves = refl

a5_end : leaf_list (remove_rule true (byte 0x61) last_two) ≡ line [] none 0 0 ∷ []
unfolding last_two three two insert_rule lowest_free free_from used insert_here split_if_full halves cut_key at_owner put remove remove_rule remove_here merge_from cmp separator common
a5_end = refl

-- A6: the third put, by pool and arena

abbrev third : (pool arena : ℕ) → Answer Changed
third pool arena = insert_answer 3 pool arena (byte 0x63) (byte 0x03) 0 two

a6_charge : charge three ≡ 7
unfolding three two charge weight insert_rule lowest_free free_from used insert_here split_if_full halves cut_key at_owner put cmp separator common
a6_charge = refl

a6_accepted : third 4 7 ≡ accepted (record { old = none; nodes = three })
unfolding three two charge weight insert_rule lowest_free free_from used insert_here split_if_full halves cut_key at_owner owned put lookup cmp separator common key_limit value_limit
a6_accepted = refl

a6_no_room : third 4 6 ≡ refused NoRoom
unfolding three two charge weight insert_rule lowest_free free_from used insert_here split_if_full halves cut_key at_owner owned put lookup cmp separator common key_limit value_limit
a6_no_room = refl

a6_no_leaf : third 1 7 ≡ refused NoLeaf
unfolding three two charge weight insert_rule lowest_free free_from used insert_here split_if_full halves cut_key at_owner owned put lookup cmp separator common key_limit value_limit
a6_no_leaf = refl

a6_no_leaf_first : third 1 6 ≡ refused NoLeaf
unfolding three two charge weight insert_rule lowest_free free_from used insert_here split_if_full halves cut_key at_owner owned put lookup cmp separator common key_limit value_limit
a6_no_leaf_first = refl

-- the run's and A5's answers, as calls

run_first : insert_answer 3 4 64 (byte 0x61) (byte 0x01) 0 fresh ≡ accepted (record { old = none; nodes = insert_rule 3 (byte 0x61) (byte 0x01) fresh })
unfolding charge weight insert_rule lowest_free free_from used insert_here split_if_full halves cut_key at_owner owned put lookup cmp separator common key_limit value_limit
run_first = refl

a5_old : remove_answer true (byte 0x62) 1 three ≡ accepted (record { old = some (byte 0x02); nodes = remove_rule true (byte 0x62) three })
unfolding three two insert_rule lowest_free free_from used insert_here split_if_full halves cut_key at_owner put remove remove_rule remove_here merge_from lookup cmp separator common key_limit
a5_old = refl

-- A7, on the lengths

a7_key : (long_key (replicate 512 0) ≡ false) × (long_key (replicate 513 0) ≡ true)
unfolding key_limit
a7_key = (refl, refl)

a7_value : (long_value (replicate 65535 0) ≡ false) × (long_value (replicate 65536 0) ≡ true)
unfolding value_limit
a7_value = (refl, refl)

a7_first : insert_answer 3 4 64 (replicate 513 0) (replicate 65536 0) 0 fresh ≡ refused LongKey
unfolding key_limit
a7_first = refl

-- A8

a8_short : insert_answer 3 4 64 (byte 0x61) (byte 0x03) 1 (insert_rule 3 (byte 0x61) (0x01 ∷ 0x02 ∷ []) fresh) ≡ refused (ShortOutput 2)
unfolding insert_rule lowest_free free_from used insert_here split_if_full at_owner owned put lookup cmp key_limit value_limit
a8_short = refl

-- A9

a9_inverted : range_answer (record { start = Included; end = Included }) (byte 0x62) (byte 0x61) 0 three ≡ refused InvertedRange
unfolding cmp key_limit
a9_inverted = refl

a9_excluded : range_answer (record { start = Excluded; end = Excluded }) (byte 0x62) (byte 0x61) 0 three ≡ refused InvertedRange
unfolding cmp key_limit
a9_excluded = refl

a9_end : range_answer (record { start = Excluded; end = Excluded }) (byte 0x62) (byte 0x62) 0 three ≡ accepted none
unfolding three two insert_rule lowest_free free_from used insert_here split_if_full halves cut_key at_owner put first_in cmp separator common key_limit
a9_end = refl

a9_one : range_answer (record { start = Included; end = Included }) (byte 0x62) (byte 0x62) 1 three ≡ accepted (some (pair (byte 0x62) (byte 0x02)))
unfolding three two insert_rule lowest_free free_from used insert_here split_if_full halves cut_key at_owner put first_in cmp separator common key_limit
a9_one = refl

a9_short : range_answer (record { start = Included; end = Included }) (byte 0x62) (byte 0x62) 0 three ≡ refused (ShortOutput 1)
unfolding three two insert_rule lowest_free free_from used insert_here split_if_full halves cut_key at_owner put first_in cmp separator common key_limit
a9_short = refl

-- A4 as a call: 61ff fits one byte

a4_call : prefix_answer (0x61 ∷ 0xff ∷ []) 1 ≡ accepted (record { range = record { start = Included; end = Excluded }; end = some (byte 0x62) })
unfolding prefix_end key_limit
a4_call = refl

a4_open : prefix_answer (byte 0xff) 0 ≡ accepted (record { range = record { start = Included; end = Open }; end = none })
unfolding prefix_end key_limit
a4_open = refl

-- A10's leaf: prefix length 1

a10_leaf : leaf_at 1 (insert_rule 3 (0x61 ∷ 0x64 ∷ []) [] (insert_rule 3 (0x61 ∷ 0x63 ∷ []) [] (insert_rule 3 (0x61 ∷ 0x61 ∷ 0x61 ∷ []) [] (insert_rule 3 (0x61 ∷ 0x60 ∷ []) [] fresh)))) ≡ some (line (0x61 ∷ 0x61 ∷ []) (some (0x61 ∷ 0x63 ∷ [])) 1 1)
unfolding insert_rule lowest_free free_from used insert_here split_if_full halves cut_key at_owner put cmp separator common
a10_leaf = refl

-- a replacement: the old value comes back; 5 is tested before 8

one : List Node
one = insert_rule 3 (byte 0x61) (byte 0x01) fresh

replaced : insert_answer 3 4 64 (byte 0x61) (byte 0x02) 1 one ≡ accepted (record { old = some (byte 0x01); nodes = insert_rule 3 (byte 0x61) (byte 0x02) one })
unfolding one charge weight insert_rule lowest_free free_from used insert_here split_if_full at_owner owned put lookup cmp key_limit value_limit
replaced = refl

short_before_room : insert_answer 3 4 2 (byte 0x61) (0x01 ∷ 0x02 ∷ []) 0 one ≡ refused (ShortOutput 1)
unfolding one charge weight insert_rule lowest_free free_from used insert_here split_if_full at_owner owned put lookup cmp key_limit value_limit
short_before_room = refl

-- reading calls

found : (contains_answer (byte 0x61) one ≡ accepted true) × (contains_answer (byte 0x62) one ≡ accepted false)
unfolding one insert_rule lowest_free free_from used insert_here split_if_full at_owner put lookup cmp key_limit
found = (refl, refl)

empty_key : (first_answer 0 (insert_rule 3 [] [] fresh) ≡ accepted (some (pair [] []))) × (get_gt_answer [] 9 (insert_rule 3 [] [] fresh) ≡ accepted none)
unfolding insert_rule lowest_free free_from used insert_here split_if_full at_owner put first_in cmp key_limit
empty_key = (refl, refl)

long_get : get_answer (replicate 513 0) fresh ≡ refused LongKey
unfolding key_limit
long_get = refl
