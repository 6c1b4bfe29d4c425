-- Low keys and upper keys as they lie in the arena, whole and from a prefix length on.
use Rattle.std.proofs.Common.{Option}
use Rattle.std.specs.Prelude.{ℕ, ◌+◌, ◌-◌, ◌^◌, ◌≤◌, ◌<◌, List, ◌≡◌, length, Some, None}
use Rattle.std.proofs.Math.Option as math
use Rattle.std.proofs.Math.Option.{none, some}
use Rattle.lists.specs.Part.{part}
use Rattle.order.specs.Bytes.{Bytes}
use Rattle.words.specs.declared.LowKey.{LowKey}
use Rattle.model.specs.Leaves.{prefix_length}

-- a key inside the arena, at least as long as the prefix
pub record KeyAt (arena : List ℕ) (prefix : ℕ) (k : LowKey) : Type 0 where
  pub inside : k.offset.0 + k.length ≤ length arena
  pub fits : k.length < 2 ^ 12
  pub long : prefix ≤ k.length

abbrev pub key_at : (arena : List ℕ) → LowKey → Bytes
key_at arena k = part arena k.offset.0 k.length

abbrev pub key_part : (arena : List ℕ) (prefix : ℕ) → LowKey → Bytes
key_part arena prefix k = part arena (k.offset.0 + prefix) (k.length - prefix)

-- an upper key or none

abbrev pub UpperAt : (arena : List ℕ) (prefix : ℕ) → Option LowKey → Type 0
UpperAt arena prefix (Some u) = KeyAt arena prefix u
UpperAt arena prefix None = Unit {0}

abbrev pub upper_at : (arena : List ℕ) → Option LowKey → math.Option Bytes
upper_at arena (Some u) = some (key_at arena u)
upper_at arena None = none

abbrev pub upper_part : (arena : List ℕ) (prefix : ℕ) → Option LowKey → math.Option Bytes
upper_part arena prefix (Some u) = some (key_part arena prefix u)
upper_part arena prefix None = none

-- r is the prefix length (L2), within both keys
pub record PrefixOf (arena : List ℕ) (low : LowKey) (upper : Option LowKey) (r : ℕ) : Type 0 where
  pub is : r ≡ prefix_length (key_at arena low) (upper_at arena upper)
  pub in_low : KeyAt arena r low
  pub in_upper : UpperAt arena r upper
