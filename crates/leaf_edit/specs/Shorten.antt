-- Keys shortened after a split: what is asked, the slot words left, and the leaf list that they lay out then.
use Rattle.std.proofs.Common.{Option}
use Rattle.std.specs.Prelude.{ℕ, ◌-◌, ◌^◌, ◌≤◌, ◌<◌, List, map, ◌≡◌, length}
use Rattle.layout.specs.Shifted.{shifted}
use Rattle.leaf.specs.Keys.{KeyAt, UpperAt, key_at, upper_at}
use Rattle.lists.specs.All.{All}
use Rattle.lists.specs.Part.{put}
use Rattle.model.specs.Leaves.{Spans, prefix_length}
use Rattle.slots.specs.Around.{Around, Becomes, over}
use Rattle.slots.specs.Edits.{words_at}
use Rattle.words.specs.Words.{first_slot, word_leaf}
use Rattle.words.specs.declared.LowKey.{LowKey}

-- the leaf of the directory word d, stored at the prefix length `old`, which its new span's prefix is not shorter than: its low key and its
-- upper key lie in the arena, and its pairs are between them
pub record Halved (fanout : ℕ) (slots arena : List ℕ) (d old : ℕ) (low : LowKey) (upper : Option LowKey) (a : Around (over fanout slots arena) d) : Type 0 where
  pub old_is : a.prefix ≡ old
  pub low_is : key_at arena low ≡ a.leaf.low
  pub longer : old ≤ prefix_length a.leaf.low (upper_at arena upper)
  pub spanned : All (λ x. Spans a.leaf.low (upper_at arena upper) x.key) a.leaf.pairs

pub record CanShorten (fanout : ℕ) (slots arena : List ℕ) (d old : ℕ) (low : LowKey) (upper : Option LowKey) : Type 0 where
  pub low_stands : KeyAt arena 0 low
  pub upper_stands : UpperAt arena 0 upper
  pub arena_fits : length arena < 2 ^ 28
  pub around : Around (over fanout slots arena) d
  pub halved : Halved fanout slots arena d old low upper around

-- r is the new prefix length, and each suffix is shorter by what the prefix grew
pub record ShortenedKeys (fanout : ℕ) (slots arena : List ℕ) (d old : ℕ) (low : LowKey) (upper : Option LowKey) (r : ℕ) (exit_slots : List ℕ) : Type 0 where
  pub length_is : r ≡ prefix_length (key_at arena low) (upper_at arena upper)
  pub slots_are : exit_slots ≡ put slots (first_slot fanout (word_leaf d)) (map (shifted (r - old)) (words_at fanout slots d))
  pub leaves : (a : Around (over fanout slots arena) d) → Halved fanout slots arena d old low upper a
      → Becomes (over fanout slots arena) d a (over fanout exit_slots arena) d r a.leaf
