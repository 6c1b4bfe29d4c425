-- The text of a leaf's line, with or without an upper key.
-- Assumes nothing.
use Rattle.std.specs.Prelude.{None, Some, ℕ, ◌+◌, ◌≡◌, refl, length, List}
use Rattle.std.proofs.Common.{Bor, Option}
use Rattle.order.specs.Bytes.{Bytes}
use Rattle.lines.specs.Grammar.{◌␣◌, bytes_text, number_text}
use Rattle.answers.specs.AnswerLaws.{five_length}
use Rattle.answers.specs.Answers.{answered, counts_text, leaf_word, lined}
use Rattle.answers.specs.Said.{leaf_with, upper_text}

pub leaf_line : (low : Bytes) (upper : Option (Bor (List ℕ))) (p n : ℕ) → lined (leaf_word ␣ bytes_text low ␣ upper_text upper ␣ number_text p ␣ number_text n) ≡ answered (leaf_with low upper p n)
leaf_line low (Some k) p n = refl
leaf_line low None p n = refl

pub leaf_length : (low : Bytes) (upper : Option (Bor (List ℕ))) (p n : ℕ)
    → length (answered (leaf_with low upper p n)) ≡ length leaf_word + length (bytes_text low) + length (upper_text upper) + 2 + length (counts_text p n)
leaf_length low (Some k) p n = five_length leaf_word (bytes_text low) (bytes_text k.now) p n
leaf_length low None p n = five_length leaf_word (bytes_text low) (upper_text None) p n
