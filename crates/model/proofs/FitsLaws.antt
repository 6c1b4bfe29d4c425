-- The rules keep `Fits`: a fresh list, an insert that is refused neither 7 nor 8, any remove, a clear.
-- Assumes nothing.
use Rattle.std.specs.Prelude.{◌<◌, ◌≤◌, ℕ, Bool, false, List, [], ◌∷◌, ◌≡◌, length}
use Rattle.std.proofs.Common.{arith, eq-eqb, leb-false, ltb-false}
use Rattle.model.specs.Answers.{no_leaf, no_room}
use Rattle.model.specs.Charge.{charge, weight}
use Rattle.model.specs.Good.{Fits}
use Rattle.model.specs.Leaves.{Node, at_owner, owned}
use Rattle.model.specs.Map.{put}
use Rattle.model.proofs.Numbers.{insert_distinct, insert_numbers, lowest_below, remove_distinct, remove_numbers}
use Rattle.model.specs.Rules.{fresh, insert_rule, remove_rule}
use Rattle.model.specs.LeafCuts.{uncut, cuts}
use Rattle.model.proofs.SizeLaws.{cutting, insert_count, remove-charge, remove_count}
use Rattle.order.specs.Bytes.{Bytes}

pub fresh_fits : (pool arena : ℕ) → 1 ≤ pool → Fits pool arena fresh
unfolding charge weight
fresh_fits pool arena h = record { counted = h; in_pool = (h, tt); distinct = (tt, tt); charged = omega arith }

-- not refused 7: where the insert makes F pairs, a leaf is free
pub free_leaf : (F pool : ℕ) (k v : Bytes) (ns : List Node) → no_leaf F pool k v ns ≡ false → length (put k v (owned k ns)) ≡ F
    → length ns < pool
free_leaf F pool k v ns h e = leb-false pool (length ns) (rw (eq-eqb (length (put k v (owned k ns))) F e) at h)

insert_counted : (F pool : ℕ) (k v : Bytes) (ns : List Node) → no_leaf F pool k v ns ≡ false → length ns ≤ pool
    → length (insert_rule F k v ns) ≤ pool
unfolding insert_rule at_owner
insert_counted F pool k v [] h c = c
insert_counted F pool k v (n ∷ ns) h c =
    elim (cutting F k v n ns) [
      | cuts e s q ↦ omega (arith, rw q at (insert_count F k v n ns), free_leaf F pool k v (n ∷ ns) h e)
      | uncut e q ↦ omega (arith, rw q at (insert_count F k v n ns))
    ]

pub insert_fits : (F pool arena : ℕ) (k v : Bytes) (ns : List Node) → no_leaf F pool k v ns ≡ false → no_room F arena k v ns ≡ false
    → Fits pool arena ns → Fits pool arena (insert_rule F k v ns)
insert_fits F pool arena k v ns l r f = record {
  counted = insert_counted F pool k v ns l f.counted;
  in_pool = insert_numbers (λ i. i < pool) F k v ns (λ e. lowest_below pool ns (free_leaf F pool k v ns l e)) f.in_pool;
  distinct = insert_distinct F k v ns f.distinct;
  charged = ltb-false arena (charge (insert_rule F k v ns)) r;
}

pub remove_fits : (pool arena : ℕ) (merging : Bool) (k : Bytes) (ns : List Node) → Fits pool arena ns → Fits pool arena (remove_rule merging k ns)
unfolding remove_rule at_owner
remove_fits pool arena merging k [] f = f
remove_fits pool arena merging k (n ∷ ns) f = record {
  counted = omega (arith, remove_count merging k n ns, f.counted);
  in_pool = remove_numbers (λ i. i < pool) merging k (n ∷ ns) f.in_pool;
  distinct = remove_distinct merging k (n ∷ ns) f.distinct;
  charged = omega (arith, remove-charge merging k n ns, f.charged);
}
