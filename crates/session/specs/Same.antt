-- Buffers lent together, which stay the caller's own.
use Rattle.std.specs.Prelude.{ℕ, List, ◌≡◌, length}
use Rattle.std.specs.Borrow.{MutBor}
use Rattle.session.specs.declared.Buffers.{Buffers}

-- the same buffer, at its length
pub record Same (before after : MutBor (List ℕ)) : Type 0 where
  pub is : after.ghost_name ≡ before.ghost_name
  pub long : length after.now ≡ length before.now

pub record SameBuffers (before after : Buffers) : Type 0 where
  pub dir : Same before.dir after.dir
  pub slots : Same before.slots after.slots
  pub arena : Same before.arena after.arena
  pub key : Same before.key after.key
  pub value : Same before.value after.value
  pub found : Same before.found after.found
  pub out : Same before.out after.out
