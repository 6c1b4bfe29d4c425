-- `write_end` meets its contract.
-- Assumes nothing.
use mathlib.Core.Path.{refl, sym}
use Prim.Native.Nat.{◌-◌}
use Rattle.prefixes.proofs.Steps.{end_written, front_length}
use native.Mathlib.Omega.{arith}
use Rattle.prefixes.proofs.write_end.Goals as goal

pub slice_bounds-copy_into-end : goal.slice_bounds-copy_into-end
slice_bounds-copy_into-end c = sym (front_length c.requires.2)

pub copy_into-requires : goal.copy_into-requires
copy_into-requires c = omega (arith, front_length c.requires.2)

pub overflow_add-out : goal.overflow_add-out
overflow_add-out c =
    omega (arith, c.shared_slice_known-2-1.given (c.args.n - 1), c.requires.2.stops (omega arith))

pub returns : goal.returns
returns c = end_written _ _ _ _ _ c.requires.2 (omega arith) (omega arith) refl c.copy_into.ensures
