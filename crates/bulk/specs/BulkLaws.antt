-- Calls counted, the row that a loop makes, and both rows.
-- Assumes nothing.
use Rattle.std.specs.Prelude.{ℕ, suc, ◌+◌, ◌≤◌, ◌<◌, ◌≡◌, refl, None, Some, Ok, Err, length, replicate}
use Rattle.std.proofs.Common.{Option, Result, ◌∙◌, subst, arith}
use Rattle.changes.specs.declared.Changed.{Changed}
use Rattle.layout.specs.declared.Header.{Header}
use Rattle.model.specs.declared.Refusal.{Refusal}
use Rattle.order.specs.Bytes.{Bytes}
use Rattle.bulk.specs.Bulk.{Call, Calls, Counted, InsertOne, Inserts, RemoveOne, Removes, Rows, Store, begun, finds, four_bytes, lends, refusals}
use Rattle.bulk.specs.Bulk.Calls.{more, start}
use Rattle.bulk.specs.Job.{call_count, most_pairs}
use Rattle.bulk.specs.declared.Tally.{Tally}
use Rattle.bulk.specs.declared.job.Job.{Job}
use Rattle.tree_insert.specs.Outcomes.{InsertInner}
use Rattle.tree_remove.specs.Outcomes.{RemoveInner}

refusals_most : (o : Result (Option ℕ) Refusal) → refusals o ≤ 1
refusals_most (Ok (Some n)) = omega arith
refusals_most (Ok None) = omega arith
refusals_most (Err x) = omega arith

finds_most : (o : Result (Option ℕ) Refusal) → finds o ≤ 1
finds_most (Ok (Some n)) = omega arith
finds_most (Ok None) = omega arith
finds_most (Err x) = omega arith

pub counted : {t r : Tally} {c : Changed} {o : Result (Option ℕ) Refusal} → c.old ≡ o → r.header ≡ c.header → r.refused ≡ t.refused + refusals o → r.found ≡ t.found + finds o → Counted t c r
counted e h r f = record { header_is = h; refused_is = rw e r; found_is = rw e f }

-- one call

pub insert_made : {h : Header} {s s' : Store} {r : Changed} (k v : Bytes) {key value : ℕ} (out : Bytes) → k ≡ four_bytes key → v ≡ four_bytes value
    → InsertInner h k v (lends s (replicate 4 0)) r (lends s' out) → InsertOne key value h s r s'
insert_made k v out e f x = record { out = out; made = rw (e, f) at x }

pub remove_made : {h : Header} {s s' : Store} {r : Changed} (k : Bytes) {key : ℕ} (out : Bytes) → k ≡ four_bytes key
    → RemoveInner h k (lends s (replicate 4 0)) r (lends s' out) → RemoveOne key h s r s'
remove_made k out e x = record { out = out; made = rw e at x }

pub insert_key : {key key' value : ℕ} {h : Header} {s s' : Store} {r : Changed} → key ≡ key' → InsertOne key value h s r s' → InsertOne key' value h s r s'
insert_key e x = rw e at x

pub remove_key : {key key' : ℕ} {h : Header} {s s' : Store} {r : Changed} → key ≡ key' → RemoveOne key h s r s' → RemoveOne key' h s r s'
remove_key e x = rw e at x

-- a row of calls counts no call twice

refused_most : {one : Call} {t₀ : Tally} {s₀ : Store} {t : Tally} {s : Store} {i : ℕ} → Calls one t₀ s₀ i t s → t.refused ≤ t₀.refused + i
refused_most start = omega arith
refused_most (more {c = c} a o n) = omega (arith, refused_most a, n.refused_is, refusals_most c.old)

found_most : {one : Call} {t₀ : Tally} {s₀ : Store} {t : Tally} {s : Store} {i : ℕ} → Calls one t₀ s₀ i t s → t.found ≤ t₀.found + i
found_most start = omega arith
found_most (more {c = c} a o n) = omega (arith, found_most a, n.found_is, finds_most c.old)

pub count_fits : {one : Call} {h : Header} {t : Tally} {s₀ s : Store} {i n : ℕ} → i < n → n ≤ most_pairs → Calls one (begun h) s₀ i t s → (t.refused < most_pairs) × (t.found < most_pairs)
count_fits k l a = (omega (arith, refused_most a), omega (arith, found_most a))

-- the loops: the calls so far, in buffers of the same lengths

pub record Along (one : Call) (t₀ : Tally) (s₀ : Store) (i : ℕ) (t : Tally) (s : Store) : Type 0 where
  pub calls : Calls one t₀ s₀ i t s
  pub dir_kept : length s.dir ≡ length s₀.dir
  pub slots_kept : length s.slots ≡ length s₀.slots
  pub arena_kept : length s.arena ≡ length s₀.arena

pub along_start : {one : Call} {t₀ : Tally} {s₀ : Store} → Along one t₀ s₀ 0 t₀ s₀
along_start = record { calls = start; dir_kept = refl; slots_kept = refl; arena_kept = refl }

pub along_turn : {one : Call} {t₀ t t' : Tally} {s₀ s s' : Store} {c : Changed} {i k : ℕ} → k ≡ i + 1 → Along one t₀ s₀ i t s → one i t.header s c s' → Counted t c t'
    → length s'.dir ≡ length s.dir → length s'.slots ≡ length s.slots → length s'.arena ≡ length s.arena → Along one t₀ s₀ k t' s'
along_turn {i = i} {k} e a o n d l m =
    let q : k ≡ suc i = omega arith in
    record { calls = rw q (more a.calls o n); dir_kept = d ∙ a.dir_kept; slots_kept = l ∙ a.slots_kept; arena_kept = m ∙ a.arena_kept }

pub along_done : {one : Call} {t₀ t : Tally} {s₀ s : Store} {i n : ℕ} → i ≡ n → Along one t₀ s₀ i t s → Calls one t₀ s₀ n t s
along_done e a = rw e at a.calls

-- both rows

pub rows : {j : Job} {h : Header} {a b c : Store} {t u : Tally} {n m : ℕ} → n ≡ call_count j.inserts j.pairs → Inserts j.inserts n h a t b
    → m ≡ call_count j.deletes j.pairs → Removes j.deletes m t.header b u c → Rows j h a c
rows {j} {h} {a} {b} {c} {t} {u} e x f y =
    record {
      full = t;
      between = b;
      left = u;
      filled = subst (λ (k : ℕ). Inserts j.inserts k h a t b) e x;
      emptied = subst (λ (k : ℕ). Removes j.deletes k t.header b u c) f y;
    }
