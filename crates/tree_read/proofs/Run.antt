-- One leaf after another: the size of a product, the upper key, the step from a leaf to the next.
-- Assumes nothing.
use Rattle.std.proofs.Common.{Option}
use Rattle.std.specs.Prelude.{Some, None}
use Rattle.std.specs.Option.{unwrap_or}
use Prim.Native.Nat.{◌*◌, ◌+◌, ◌<◌, ◌^◌, ◌≤◌, suc, ℕ}
use mathlib.Core.List.{List, [], ◌∷◌}
use mathlib.Core.Path.{◌∙◌, ◌≡◌, ap, sym}
use native.Mathlib.Nat.{mul-le-mul}
use native.Mathlib.Numerals.{add-one}
use native.Mathlib.Omega.{arith}
use lib.ListN.{drop, drop_of_length-le, get_or, length, take}
use lib.Seq.{drop-cons, get_or-take, length-take-le}
use Rattle.layout.specs.Buffers.{low_at, low_word, suffix_at}
use Rattle.layout.proofs.LaysWords.{region_in}
use Rattle.leaf.specs.Keys.{KeyAt, UpperAt, key_at, upper_at}
use Rattle.model.specs.LimitLaws.{fanout_limit_fits, pool_limit_fits}
use Rattle.model.specs.Limits.{fanout_limit, pool_limit}
use Rattle.tree_read.specs.Check.{charge_of, count_of, LowOk, RunLeaves, upper_of}
use Rattle.tree_read.specs.CheckCode.{LeavesAt, LeafAt, LeafRest, LeafSum, LowKnown, NextRead, StepAt, Stepped, lent}
use Rattle.tree_read.specs.declared.check.State.{State}
use Rattle.tree_read.specs.declared.check.Sum.{Sum}
use Rattle.words.specs.Laws.{count_small}
use Rattle.words.specs.Words.{LowKeyUnpacked, word_count, word_leaf}
use Rattle.words.specs.declared.LowKey.{LowKey}

-- sizes_met

pub product_fits : (fanout pool : ℕ) → fanout ≤ fanout_limit → pool ≤ pool_limit → fanout * pool ≤ 2 ^ 20 * 2 ^ 12
product_fits fanout pool f p =
    let x : fanout ≤ 2 ^ 20 = omega (arith, fanout_limit_fits) in
    let y : pool ≤ 2 ^ 12 = omega (arith, pool_limit_fits) in
    mul-le-mul x y

-- a low key that is read, as the code sees it

pub known_key : (fanout pool : ℕ) (slots arena : List ℕ) (d : ℕ) {k : LowKey} → LowOk (lent fanout slots arena) pool d
    → LowKeyUnpacked (low_word (lent fanout slots arena) d) k → KeyAt arena 0 k
known_key fanout pool slots arena d o u =
    record { inside = omega (arith, o.inside, u.offset_is, u.length_is); fits = u.fits.length_fits; long = omega arith }

known_bytes : (fanout : ℕ) (slots arena : List ℕ) (d : ℕ) {k : LowKey} → LowKeyUnpacked (low_word (lent fanout slots arena) d) k → low_at (lent fanout slots arena) d ≡ key_at arena k
unfolding low_at suffix_at
known_bytes fanout slots arena d u = sym (rw (u.offset_is, u.length_is))

-- check_next

module _ (fanout leaves : ℕ) (dir slots arena : List ℕ) where
  pub drop_next : (j : ℕ) → j < leaves → leaves ≤ length dir → drop j (take leaves dir) ≡ get_or dir j 0 ∷ drop (j + 1) (take leaves dir)
  drop_next j h m =
      rw add-one (drop-cons (take leaves dir) j 0 (rw (length-take-le leaves dir m) h)
      ∙ ap (λ (x : ℕ). x ∷ drop (suc j) (take leaves dir)) (get_or-take leaves dir j 0 h))

  drop_last : (j : ℕ) → leaves ≤ j → leaves ≤ length dir → drop j (take leaves dir) ≡ []
  drop_last j h m = drop_of_length-le (take leaves dir) {i = j} (rw (length-take-le leaves dir m) h)

  pub upper_is : (k : ℕ) (upper : Option LowKey) → leaves ≤ length dir → NextRead fanout leaves dir slots arena k (Some upper)
      → upper_of (lent fanout slots arena) (drop k (take leaves dir)) ≡ upper_at arena upper
  upper_is k None m n = rw (drop_last k n m)
  upper_is k (Some u) m n = rw (drop_next k n.0 m, known_bytes fanout slots arena (get_or dir k 0) n.1.1)

  pub upper_inside : (k : ℕ) (upper : Option LowKey) → NextRead fanout leaves dir slots arena k (Some upper) → UpperAt arena 0 upper
  upper_inside k None n = tt
  upper_inside k (Some u) n = known_key fanout (length dir) slots arena (get_or dir k 0) n.1.0 n.1.1

  pub next_low : (k : ℕ) (upper : Option LowKey) (last : LowKey) → NextRead fanout leaves dir slots arena k (Some upper) → k < leaves
      → LowKnown fanout (length dir) slots arena (get_or dir k 0) (unwrap_or upper last)
  next_low k None last n h = absurd (omega arith)
  next_low k (Some u) last n h = record { ok = n.1.0; is = n.1.1 }

  module _ (j : ℕ) (s : State) (a : StepAt fanout leaves dir slots arena j s) where
    run_next : drop j (take leaves dir) ≡ get_or dir j 0 ∷ drop (j + 1) (take leaves dir)
    run_next = drop_next j a.more a.in_directory

    pub next_unread : NextRead fanout leaves dir slots arena (j + 1) None → RunLeaves (lent fanout slots arena) (length dir) s.end (drop j (take leaves dir)) → ⊥
    next_unread n o =
        let t = rw run_next at o in
        n.1 (rw (drop_next (j + 1) n.0 a.in_directory) at t.1).0.low

    module _ (upper : Option LowKey) (n : NextRead fanout leaves dir slots arena (j + 1) (Some upper)) where
      up : upper_of (lent fanout slots arena) (drop (j + 1) (take leaves dir)) ≡ upper_at arena upper
      up = upper_is (j + 1) upper a.in_directory n

      pub step_leaf : LeafAt fanout slots arena (get_or dir j 0) s.low upper
      step_leaf = record {
        in_slots = rw a.shaped.slots_are (region_in fanout (length dir) (word_leaf (get_or dir j 0)) a.low_known.ok.in_pool);
        low_is = a.low_known.is;
        low_stands = known_key fanout (length dir) slots arena (get_or dir j 0) a.low_known.ok a.low_known.is;
        upper_stands = upper_inside (j + 1) upper n;
      }

      pub step_fails : (LeafRest (lent fanout slots arena) s.end (get_or dir j 0) (upper_at arena upper) → ⊥)
          → RunLeaves (lent fanout slots arena) (length dir) s.end (drop j (take leaves dir)) → ⊥
      step_fails g o =
          let t = rw (run_next, up) at o in
          g (record { after = t.0.after; under = t.0.under; count = t.0.count; not_empty = t.0.not_empty; pairs = t.0.pairs })

      pub step_goes : (t : State) {m : Sum} → LeafRest (lent fanout slots arena) s.end (get_or dir j 0) (upper_at arena upper)
          → LeafSum (lent fanout slots arena) (get_or dir j 0) (upper_at arena upper) m → t.low ≡ unwrap_or upper s.low → t.end ≡ m.end
          → t.pairs ≡ s.pairs + word_count (get_or dir j 0) → t.charge ≡ s.charge + m.charge → Stepped fanout leaves dir slots arena j s t
      step_goes t o m l e p c = record {
        leaf = rw up (record { low = a.low_known.ok; after = o.after; under = o.under; count = o.count; not_empty = o.not_empty; pairs = o.pairs });
        end_is = e ∙ m.end_is;
        pairs_are = p;
        charge_is = rw up (c ∙ ap (λ (x : ℕ). s.charge + x) m.charge_is);
        charge_few = omega (arith, m.charge_few);
        next_known = λ h. rw l (next_low (j + 1) upper s.low n h);
      }

-- check_leaves: at j the leaves before it are sound, and those from j on say what all say
pub record Going (fanout leaves : ℕ) (dir slots arena : List ℕ) (j : ℕ) (s : State) : Type 0 where
  pub upto : j ≤ leaves
  pub to : RunLeaves (lent fanout slots arena) (length dir) 0 (take leaves dir) → RunLeaves (lent fanout slots arena) (length dir) s.end (drop j (take leaves dir))
  pub from : RunLeaves (lent fanout slots arena) (length dir) s.end (drop j (take leaves dir)) → RunLeaves (lent fanout slots arena) (length dir) 0 (take leaves dir)
  pub low_known : j < leaves → LowKnown fanout (length dir) slots arena (get_or dir j 0) s.low
  pub pairs_same : count_of (take leaves dir) ≡ s.pairs + count_of (drop j (take leaves dir))
  pub charge_same : charge_of (lent fanout slots arena) (take leaves dir) ≡ s.charge + charge_of (lent fanout slots arena) (drop j (take leaves dir))
  pub pairs_few : s.pairs ≤ j * 2 ^ 20
  pub charge_few : s.charge ≤ j * 2 ^ 46

module _ (fanout leaves : ℕ) (dir slots arena : List ℕ) {low : LowKey} (l : LeavesAt fanout leaves dir slots arena low) where
  pub going_turn : (j k : ℕ) (s t : State) → Going fanout leaves dir slots arena j s → j < leaves → k ≡ j + 1 → Stepped fanout leaves dir slots arena j s t
      → Going fanout leaves dir slots arena k t
  going_turn j k s t g h e p =
      let n = drop_next fanout leaves dir slots arena j h l.in_directory in
      record {
        upto = omega arith;
        to = λ o. rw (e, p.end_is) (rw n at (g.to o)).1;
        from = λ o. g.from (rw n (p.leaf, rw (e, p.end_is) at o));
        low_known = λ m. rw e (p.next_known (omega arith));
        pairs_same = g.pairs_same ∙ rw (n, e) (omega (arith, p.pairs_are));
        charge_same = g.charge_same ∙ rw (n, e) (omega (arith, p.charge_is));
        pairs_few = omega (arith, g.pairs_few, p.pairs_are, count_small (get_or dir j 0));
        charge_few = omega (arith, g.charge_few, p.charge_few);
      }
