-- A prefix without its trailing FF bytes, the bytes of an end, and the keys that begin with a prefix.
use Rattle.std.specs.Prelude.{ℕ, suc, ◌-◌, ◌<◌, ◌≤◌, [], ◌++◌, ◌∷◌, ◌≡◌, drop, get_or, length, take}
use Rattle.std.proofs.Math.Option.{Option, none, some}
use Rattle.lists.specs.All.{All}
use Rattle.order.specs.Bytes.{Bytes}

abbrev pub Full : ℕ → Type 0
Full x = x ≡ 0xff

-- n bytes are left: every byte from n on is FF, the one before n is not
pub record Stripped (p : Bytes) (n : ℕ) : Type 0 where
  pub within : n ≤ length p
  pub full : All Full (drop n p)
  pub stops : 0 < n → Full (get_or p (n - 1) 0) → ⊥

-- the first n bytes of p, the last of them raised by one
abbrev pub raised_at : Bytes → ℕ → Bytes
raised_at p n = take (n - 1) p ++ (suc (get_or p (n - 1) 0) ∷ [])

-- the bytes of an end: no bytes where it is open
abbrev pub end_bytes : Option Bytes → Bytes
end_bytes none = []
end_bytes (some e) = e

-- k begins with p
abbrev pub Begins : Bytes → Bytes → Type 0
Begins p k = take (length p) k ≡ p

abbrev pub Byte : ℕ → Type 0
Byte x = x < 256
