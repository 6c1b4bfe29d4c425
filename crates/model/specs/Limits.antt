-- Document 01, "Sizes". Each limit stands here and nowhere else; proofs don't open them.
use Rattle.std.specs.Prelude.{ℕ, ◌*◌, ◌≤◌, ◌≡◌}

unfoldable pub key_limit : ℕ
key_limit = 512

unfoldable pub value_limit : ℕ
value_limit = 65535

unfoldable pub fanout_least : ℕ
fanout_least = 3

unfoldable pub fanout_limit : ℕ
fanout_limit = 64

unfoldable pub pool_least : ℕ
pool_least = 1

unfoldable pub pool_limit : ℕ
pool_limit = 4096

unfoldable pub arena_limit : ℕ
arena_limit = 1048576

-- lent buffers of `pool` directory words, `slots` slot words and `arena` bytes meet the sizes
pub record Sizes (fanout pool slots arena : ℕ) : Type 0 where
  pub fanout_enough : fanout_least ≤ fanout
  pub fanout_most : fanout ≤ fanout_limit
  pub pool_enough : pool_least ≤ pool
  pub pool_most : pool ≤ pool_limit
  pub slots_are : slots ≡ fanout * pool
  pub arena_most : arena ≤ arena_limit
