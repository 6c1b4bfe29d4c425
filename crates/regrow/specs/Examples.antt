-- Two pairs regrown by one byte. The arena holds the low key 97 98, then the suffix 1 with the value 9, then the suffix 2 with the value 8, and two bytes of
-- room. The prefix 97 98 becomes 97.
-- Assumes nothing.
use Rattle.std.specs.Prelude.{[], ◌∷◌, ◌≡◌, refl}
use Rattle.lists.specs.Part.{put}
use Rattle.regrow.specs.Regrow.{regrown_arena, regrown_words}
use Rattle.words.specs.Words.{slot_word}

words_regrown : regrown_words 1 0 (slot_word 2 1 1 ∷ slot_word 4 1 1 ∷ []) ≡ slot_word 2 2 1 ∷ slot_word 5 2 1 ∷ []
words_regrown = refl

arena_regrown : regrown_arena (97 ∷ 98 ∷ 1 ∷ 9 ∷ 2 ∷ 8 ∷ 0 ∷ 0 ∷ []) (98 ∷ []) 1 0 (slot_word 2 1 1 ∷ slot_word 4 1 1 ∷ []) ≡ 97 ∷ 98 ∷ 98 ∷ 1 ∷ 9 ∷ 98 ∷ 2 ∷ 8 ∷ []
unfolding put
arena_regrown = refl
