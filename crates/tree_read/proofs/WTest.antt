-- `holds_index` put together: each test that fails refutes W, and all of them together are W (WCheck).
-- Assumes nothing.
use Prim.Native.Nat.{◌≤◌, ℕ}
use mathlib.Core.Bool.{Bool, false}
use mathlib.Core.List.{List, ◌∷◌}
use mathlib.Core.Path.{◌∙◌, ◌≡◌, sym}
use native.Mathlib.Omega.{arith}
use lib.ListN.{drop, get_or, length, take}
use Rattle.layout.specs.Buffers.{low_word}
use Rattle.layout.specs.Lays.{W}
use Rattle.layout.specs.declared.Header.{Header}
use Rattle.lists.specs.Exact.{Exact, exact_iff, exact_no}
use Rattle.model.specs.LimitLaws.{fanout_three, pool_limit_fits}
use Rattle.model.specs.Limits.{Sizes}
use Rattle.tree_read.proofs.Run.{drop_next}
use Rattle.tree_read.specs.Check.{LowOk, Passes, RunLeaves}
use Rattle.tree_read.specs.CheckCode.{LeavesAt, LeavesSum, Shaped, lent}
use Rattle.tree_read.specs.WCheck.{passes_w, w_passes}
use Rattle.tree_read.specs.declared.check.State.{State}
use Rattle.words.specs.Words.{LowKeyUnpacked}
use Rattle.words.specs.declared.LowKey.{LowKey}

module _ (h : Header) (dir slots arena : List ℕ) where
  not_w : (Passes h dir slots arena → ⊥) → Exact false (W h dir slots arena)
  not_w n = exact_no (λ w. n (w_passes h dir slots arena w))

  pub w_shaped : Sizes h.fanout (length dir) (length slots) (length arena) → Shaped h.fanout (length dir) slots
  w_shaped s = record { some_slot = omega (arith, fanout_three s.fanout_enough); slots_are = s.slots_are }

  module _ (s : Sizes h.fanout (length dir) (length slots) (length arena)) (one : 1 ≤ h.leaves) (in_dir : h.leaves ≤ length dir) where
    first_leaf : take h.leaves dir ≡ get_or dir 0 0 ∷ drop 1 (take h.leaves dir)
    first_leaf = drop_next h.fanout h.leaves dir slots arena 0 one in_dir

    pub w_low : (LowOk (lent h.fanout slots arena) (length dir) (get_or dir 0 0) → ⊥) → Exact false (W h dir slots arena)
    w_low n = not_w (λ p. n (rw first_leaf at p.leaves).0.low)

    pub w_first : {k : LowKey} → LowKeyUnpacked (low_word (lent h.fanout slots arena) (get_or dir 0 0)) k → (k.length ≡ 0 → ⊥) → Exact false (W h dir slots arena)
    w_first u n = not_w (λ p. n (u.length_is ∙ p.first_low))

    pub w_leaves_at : {k : LowKey} → LowOk (lent h.fanout slots arena) (length dir) (get_or dir 0 0) × LowKeyUnpacked (low_word (lent h.fanout slots arena) (get_or dir 0 0)) k
        → LeavesAt h.fanout h.leaves dir slots arena k
    w_leaves_at o = record {
      shaped = w_shaped s;
      in_directory = in_dir;
      few = omega (arith, s.pool_most, pool_limit_fits);
      low_known = record { ok = o.0; is = o.1 };
    }

    pub w_leaves : (RunLeaves (lent h.fanout slots arena) (length dir) 0 (take h.leaves dir) → ⊥) → Exact false (W h dir slots arena)
    w_leaves n = not_w (λ p. n p.leaves)

    pub w_all : (t : State) → LeavesSum h.fanout h.leaves dir slots arena t → {r : Bool} {k : LowKey}
        → LowKeyUnpacked (low_word (lent h.fanout slots arena) (get_or dir 0 0)) k → k.length ≡ 0
        → RunLeaves (lent h.fanout slots arena) (length dir) 0 (take h.leaves dir)
        → Exact r ((h.pairs ≡ t.pairs) × (h.charge ≡ t.charge) × (t.charge ≤ length arena)) → Exact r (W h dir slots arena)
    w_all t m u z o e =
        exact_iff e
        (λ f. passes_w h dir slots arena (record {
          sizes = s;
          some_leaf = one;
          in_directory = in_dir;
          first_low = sym u.length_is ∙ z;
          leaves = o;
          pairs_are = f.0 ∙ m.pairs_are;
          charge_is = f.1 ∙ m.charge_is;
          charge_fits = omega arith;
        }))
        (λ w.
        let p = w_passes h dir slots arena w in
        let c : h.charge ≡ t.charge = p.charge_is ∙ sym m.charge_is in
        (p.pairs_are ∙ sym m.pairs_are, c, omega (arith, p.charge_fits)))
