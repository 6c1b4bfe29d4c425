-- The model's answer that a Rust `Answer` stands for.
use Rattle.std.specs.Prelude.{None, Some, ℕ, List}
use Rattle.std.proofs.Common.{Bor, Option}
use Rattle.order.specs.Bytes.{Bytes}
use Rattle.lines.specs.Grammar.{Number, bytes_text}
use Rattle.answers.specs.Answers as model
use Rattle.answers.specs.Answers.{star}
use Rattle.answers.specs.declared.Answer.{Answer}
use Rattle.answers.specs.declared.Answer.TheVariants.{Bad, End, Leaf, Made, Nothing, Old, Pair, Refused, Value}
use Rattle.answers.specs.declared.Leaf as rust

-- a leaf has an upper key, or is the last
abbrev pub leaf_with : Bytes → Option (Bor (List ℕ)) → ℕ → ℕ → model.Answer
leaf_with low (Some upper) p n = model.leaf low upper.now p n
leaf_with low None p n = model.last low p n

abbrev pub leaf_said : rust.Leaf → model.Answer
leaf_said l = leaf_with l.low.now l.upper l.prefix l.pairs

abbrev pub said : Answer → model.Answer
said Nothing = model.none
said (Old v) = model.old v.now
said (Value v) = model.value v.now
said (Pair k v) = model.pair k.now v.now
said End = model.end
said (Leaf l) = leaf_said l
said Made = model.made
said (Refused n) = model.refused n
said Bad = model.bad

-- its numbers are those that a line can say
abbrev pub Countable : Answer → Type 0
Countable Nothing = Unit {0}
Countable (Old v) = Unit {0}
Countable (Value v) = Unit {0}
Countable (Pair k v) = Unit {0}
Countable End = Unit {0}
Countable (Leaf l) = Number l.prefix × Number l.pairs
Countable Made = Unit {0}
Countable (Refused n) = Number n
Countable Bad = Unit {0}

-- what a leaf's line has in its third place
abbrev pub upper_text : Option (Bor (List ℕ)) → Bytes
upper_text (Some k) = bytes_text k.now
upper_text None = star
