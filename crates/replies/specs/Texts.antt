-- The script program's answers, by the model's: the text that each call's answer is told by.
use Rattle.std.specs.Prelude.{List, [], ◌∷◌, ◌++◌}
use Rattle.std.proofs.Math.Option.{Option, none, some}
use Rattle.answers.specs.Answers.{answered}
use Rattle.answers.specs.Answers as said
use Rattle.model.specs.Answers.{Answer, Changed, Shown, accepted, number_of, refused, shown}
use Rattle.model.specs.Leaves.{Node, low_of}
use Rattle.model.specs.Map.{Pair}
use Rattle.model.specs.declared.Refusal.{Refusal}
use Rattle.order.specs.Bytes.{Bytes}

abbrev pub refusal_text : Refusal → Bytes
refusal_text x = answered (said.refused (number_of x))

abbrev pub new_text : Answer (List Node) → Bytes
new_text (refused x) = refusal_text x
new_text (accepted ns) = answered said.made

abbrev pub get_text : Answer (Option Bytes) → Bytes
get_text (refused x) = refusal_text x
get_text (accepted none) = answered said.none
get_text (accepted (some v)) = answered (said.value v)

abbrev pub next_text : Answer (Option Pair) → Bytes
next_text (refused x) = refusal_text x
next_text (accepted none) = answered said.end
next_text (accepted (some p)) = answered (said.pair p.key p.value)

-- `put` and `del`: the old value, or none
abbrev pub old_text : Option Bytes → Bytes
old_text none = answered said.none
old_text (some v) = answered (said.old v)

abbrev pub changed_text : Answer Changed → Bytes
changed_text (refused x) = refusal_text x
changed_text (accepted c) = old_text c.old

-- a line for each leaf of the leaf list
abbrev pub upper_text : Shown → Option Bytes → Bytes
upper_text s none = answered (said.last s.low s.prefix s.pairs)
upper_text s (some u) = answered (said.leaf s.low u s.prefix s.pairs)

abbrev pub leaf_text : Shown → Bytes
leaf_text s = upper_text s s.upper

abbrev pub leaves_text : List Node → Bytes
leaves_text [] = []
leaves_text (n ∷ ns) = leaf_text (shown n (low_of ns)) ++ leaves_text ns
