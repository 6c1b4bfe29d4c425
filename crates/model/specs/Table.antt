-- The bench examples A1 to A4 of document 01, and rows that tell the cases of L4 apart: one table, one claim about its rows.
use Rattle.std.specs.Prelude.{ℕ, map, List, [], ◌∷◌, ◌≡◌, refl}
use Rattle.std.proofs.Math.Option.{Option, none, some}
use Rattle.lists.specs.All.{All}
use Rattle.model.specs.Answers.{length_of, number_of}
use Rattle.model.specs.Leaves.{prefix_length}
use Rattle.model.specs.Prefix.{prefix_end}
use Rattle.model.specs.Rules.{split_offset}
use Rattle.model.specs.declared.Refusal.TheVariants.{Damaged, InvertedRange, LongKey, LongValue, NoLeaf, NoRoom, Shape, ShortOutput}
use Rattle.order.specs.Bytes.{Bytes, common, separator}

pub data Row : Type 0 where
  separators : (left right separator : Bytes) → Row
  offsets : (n : ℕ) (low : Bytes) (upper : Option Bytes) (offset : ℕ) → Row
  prefixes : (low : Bytes) (upper : Option Bytes) (prefix : ℕ) → Row
  ends : (prefix : Bytes) (end : Option Bytes) → Row

abbrev pub Claims : Row → Type 0
Claims (separators l r s) = separator l r ≡ s
Claims (offsets n low upper o) = split_offset n low upper ≡ o
Claims (prefixes low upper c) = prefix_length low upper ≡ c
Claims (ends p e) = prefix_end p ≡ e

abbrev pub table : List Row
table =
    separators (0x61 ∷ 0x62 ∷ []) (0x61 ∷ 0x63 ∷ []) (0x61 ∷ 0x63 ∷ [])
    ∷ separators (0x61 ∷ []) (0x61 ∷ 0x00 ∷ []) (0x61 ∷ 0x00 ∷ [])
    ∷ separators (0x61 ∷ 0xff ∷ 0xff ∷ []) (0x62 ∷ []) (0x62 ∷ [])
    ∷ separators [] (0x61 ∷ 0x62 ∷ []) (0x61 ∷ [])
    ∷ offsets 3 [] none 1
    ∷ offsets 3 (0x61 ∷ []) none 1
    ∷ offsets 5 (0x61 ∷ []) (some (0x62 ∷ [])) 2
    ∷ offsets 5 (0x61 ∷ []) none 3
    ∷ offsets 64 (0x61 ∷ []) none 62
    ∷ offsets 64 (0x61 ∷ []) (some (0x62 ∷ [])) 32
    ∷ offsets 5 [] none 1
    ∷ offsets 5 [] (some (0x62 ∷ [])) 1
    ∷ prefixes (0x61 ∷ 0x61 ∷ []) (some (0x61 ∷ 0x63 ∷ [])) 1
    ∷ prefixes (0x61 ∷ []) (some (0x61 ∷ 0x62 ∷ [])) 1
    ∷ prefixes (0x61 ∷ 0x61 ∷ []) none 0
    ∷ ends (0x61 ∷ 0xff ∷ []) (some (0x62 ∷ []))
    ∷ ends (0xff ∷ []) none
    ∷ ends [] none
    ∷ ends (0xff ∷ 0xff ∷ []) none
    ∷ ends (0x00 ∷ []) (some (0x01 ∷ []))
    ∷ ends (0xfe ∷ []) (some (0xff ∷ []))
    ∷ ends (0x61 ∷ 0x62 ∷ 0xff ∷ 0xff ∷ []) (some (0x61 ∷ 0x63 ∷ []))
    ∷ []

pub examples : All Claims table
unfolding separator common prefix_end
examples =
    (refl, (refl, (refl, (refl, (refl, (refl, (refl, (refl, (refl, (refl, (refl, (refl, (refl, (refl, (refl, (refl, (refl, (refl, (refl, (refl, (refl, (refl, tt))))))))))))))))))))))

-- the refusals in the order of document 01's table, with their numbers and what else they return

pub refusal_numbers : map number_of (Shape ∷ Damaged ∷ LongKey ∷ LongValue ∷ ShortOutput 9 ∷ InvertedRange ∷ NoLeaf ∷ NoRoom ∷ []) ≡ 1 ∷ 2 ∷ 3 ∷ 4 ∷ 5 ∷ 6 ∷ 7 ∷ 8 ∷ []
refusal_numbers = refl

pub refusal_lengths : map length_of (Shape ∷ Damaged ∷ LongKey ∷ LongValue ∷ ShortOutput 9 ∷ InvertedRange ∷ NoLeaf ∷ NoRoom ∷ [])
    ≡ none ∷ none ∷ none ∷ none ∷ some 9 ∷ none ∷ none ∷ none ∷ []
refusal_lengths = refl
