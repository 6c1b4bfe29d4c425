-- `main` is safe and ends: the buffers are lent whole.
-- Assumes nothing.
use Rattle.std.proofs.Common.{ℕ, sym}
use Rattle.std.proofs.lemmas.List.{length-replicate}
use Rattle.bulk.proofs.main.Goals as goal

pub slice_bounds-answer-end : goal.slice_bounds-answer-end
slice_bounds-answer-end c = sym (length-replicate {A = ℕ} 1024 0)

pub slice_bounds-answer-end-2 : goal.slice_bounds-answer-end-2
slice_bounds-answer-end-2 c = sym (length-replicate {A = ℕ} 65536 0)

pub slice_bounds-answer-end-3 : goal.slice_bounds-answer-end-3
slice_bounds-answer-end-3 c = sym (length-replicate {A = ℕ} 1048576 0)
