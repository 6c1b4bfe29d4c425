-- A row of calls gives the leaf list and the tally that the model's answers give in that order; so an index stands after each call.
-- Assumes nothing.
use Rattle.std.specs.Prelude.{ℕ, zero, suc, ◌+◌, true, List, ◌≡◌, refl, length, replicate}
use Rattle.std.proofs.Math.Option.{Option, none, some}
use Rattle.std.proofs.Common.{◌∙◌, ap, subst, arith}
use Rattle.changes.specs.Outcomes.{ChangedBy, old_told}
use Rattle.changes.specs.declared.Changed.{Changed}
use Rattle.layout.specs.Presumed.{Index, Presumed}
use Rattle.layout.specs.declared.Header.{Header}
use Rattle.model.specs.Answers.{Answer, accepted, insert_answer, refused, remove_answer}
use Rattle.model.specs.Answers as model
use Rattle.model.specs.Leaves.{Node}
use Rattle.order.specs.Bytes.{Bytes}
use Rattle.tree_insert.specs.Kept.{insert_keeps}
use Rattle.tree_remove.specs.Kept.{remove_keeps}
use Rattle.bulk.specs.Bulk.{Call, CallOne, Calls, Counted, InsertOne, RemoveOne, Store, begun, finds, four_bytes, lends, refusals}
use Rattle.bulk.specs.Bulk.Calls.{more, start}
use Rattle.bulk.specs.Job.{key_at}
use Rattle.bulk.specs.declared.Kind.{Kind}
use Rattle.bulk.specs.declared.Kind.TheVariants.{Insert, Remove}
use Rattle.bulk.specs.declared.Tally.{Tally}
use Rattle.bulk.specs.declared.job.Order.{Order}

-- what the model tells of a row: the leaf list, how many calls were refused, and how many found their key
pub record Told : Type 0 where
  pub nodes : List Node
  pub refused : ℕ
  pub found : ℕ

abbrev pub tell : Answer model.Changed → Told → Told
tell (refused x) w = record { nodes = w.nodes; refused = w.refused + 1; found = w.found }
tell (accepted c) w = record { nodes = c.nodes; refused = w.refused; found = w.found + finds (old_told c.old) }

-- the first i calls, where the j-th has the answer `answer j`
unfoldable pub told_by : (ℕ → List Node → Answer model.Changed) → List Node → ℕ → Told
told_by answer ns zero = record { nodes = ns; refused = 0; found = 0 }
told_by answer ns (suc i) = tell (answer i (told_by answer ns i).nodes) (told_by answer ns i)

abbrev pub insert_at : (fanout pool arena : ℕ) → Order → (n : ℕ) → ℕ → List Node → Answer model.Changed
insert_at fanout pool arena o n i ns = insert_answer fanout pool arena (four_bytes (key_at o i n)) (four_bytes i) 4 ns

abbrev pub remove_at : Order → (n : ℕ) → ℕ → List Node → Answer model.Changed
remove_at o n i ns = remove_answer true (four_bytes (key_at o i n)) 4 ns

-- tally and buffers are as told; fanout and lengths stay
pub record Agrees (fanout pool room : ℕ) (w : Told) (t : Tally) (s : Store) : Type 0 where
  pub presumed : Presumed t.header s.dir s.slots s.arena w.nodes
  pub refused_is : t.refused ≡ w.refused
  pub found_is : t.found ≡ w.found
  pub fanout_is : t.header.fanout ≡ fanout
  pub pool_is : length s.dir ≡ pool
  pub room_is : length s.arena ≡ room

-- one call

none_refused : (o : Option Bytes) → refusals (old_told o) ≡ 0
none_refused none = refl
none_refused (some v) = refl

module _ {f p a : ℕ} {w : Told} {t t' : Tally} {s s' : Store} {c : Changed} (g : Agrees f p a w t s) (n : Counted t c t') where
  agrees_next : (out : Bytes) (x : Answer model.Changed) → ((d : model.Changed) → x ≡ accepted d → Presumed c.header s'.dir s'.slots s'.arena d.nodes)
      → ChangedBy x t.header (lends s (replicate 4 0)) c (lends s' out) → Agrees f p a (tell x w) t' s'
  agrees_next out (refused e) q k =
      record {
        presumed = rw (n.header_is, k.header_is, k.dir_is, k.slots_are, k.arena_is) g.presumed;
        refused_is = omega (arith, g.refused_is, rw k.answer.answer_is at n.refused_is);
        found_is = omega (arith, g.found_is, rw k.answer.answer_is at n.found_is);
        fanout_is = ap (λ (h : Header). h.fanout) (n.header_is ∙ k.header_is) ∙ g.fanout_is;
        pool_is = ap length k.dir_is ∙ g.pool_is;
        room_is = ap length k.arena_is ∙ g.room_is;
      }
  agrees_next out (accepted d) q m =
      record {
        presumed = rw n.header_is (q d refl);
        refused_is = omega (arith, g.refused_is, none_refused d.old, rw m.answer.answer_is at n.refused_is);
        found_is = omega (arith, g.found_is, rw m.answer.answer_is at n.found_is);
        fanout_is = ap (λ (h : Header). h.fanout) n.header_is ∙ m.fanout_is ∙ g.fanout_is;
        pool_is = m.same_dir ∙ g.pool_is;
        room_is = m.same_arena ∙ g.room_is;
      }

  insert_agrees : (key value : ℕ) → InsertOne key value t.header s c s' → Agrees f p a (tell (insert_answer f p a (four_bytes key) (four_bytes value) 4 w.nodes) w) t' s'
  insert_agrees key value o =
      let k : Bytes = four_bytes key in
      let v : Bytes = four_bytes value in
      let b = o.made w.nodes g.presumed in
      let same : insert_answer t.header.fanout (length s.dir) (length s.arena) k v 4 w.nodes ≡ insert_answer f p a k v 4 w.nodes = rw (g.fanout_is, g.pool_is, g.room_is) in
      subst (λ (x : Answer model.Changed). Agrees f p a (tell x w) t' s') same
      (agrees_next o.out _ (λ d e. insert_keeps k v (lends s (replicate 4 0)) c (lends s' o.out) g.presumed e b) b)

  remove_agrees : (key : ℕ) → RemoveOne key t.header s c s' → Agrees f p a (tell (remove_answer true (four_bytes key) 4 w.nodes) w) t' s'
  remove_agrees key o =
      let b = o.made w.nodes g.presumed in
      agrees_next o.out _ (λ d e. remove_keeps (four_bytes key) (lends s (replicate 4 0)) c (lends s' o.out) g.presumed e b) b.changed

-- a row of calls

module _ {one : Call} (answer : ℕ → List Node → Answer model.Changed) (f p a : ℕ) (ns : List Node) {t₀ : Tally} {s₀ : Store}
    (step : (j : ℕ) (w : Told) (t t' : Tally) (s s' : Store) (c : Changed) → Agrees f p a w t s → Counted t c t' → one j t.header s c s' → Agrees f p a (tell (answer j w.nodes) w) t' s') where
  calls_agree : {i : ℕ} {t : Tally} {s : Store} → Agrees f p a (told_by answer ns 0) t₀ s₀ → Calls one t₀ s₀ i t s → Agrees f p a (told_by answer ns i) t s
  unfolding told_by
  calls_agree g start = g
  calls_agree g (more x o n) = step _ _ _ _ _ _ _ (calls_agree g x) n o

starts : {h : Header} {s : Store} {ns : List Node} (answer : ℕ → List Node → Answer model.Changed) → Presumed h s.dir s.slots s.arena ns
    → Agrees h.fanout (length s.dir) (length s.arena) (told_by answer ns 0) (begun h) s
unfolding told_by
starts answer x = record { presumed = x; refused_is = refl; found_is = refl; fanout_is = refl; pool_is = refl; room_is = refl }

module _ (o : Order) (n : ℕ) {h : Header} {t : Tally} {s₀ s : Store} {i : ℕ} where
  pub inserts_told : {ns : List Node} → Presumed h s₀.dir s₀.slots s₀.arena ns → Calls (λ j. InsertOne (key_at o j n) j) (begun h) s₀ i t s
      → Agrees h.fanout (length s₀.dir) (length s₀.arena) (told_by (insert_at h.fanout (length s₀.dir) (length s₀.arena) o n) ns i) t s
  inserts_told {ns} x a =
      calls_agree (insert_at h.fanout (length s₀.dir) (length s₀.arena) o n) h.fanout (length s₀.dir) (length s₀.arena) ns
      (λ j w t t' s s' c g m y. insert_agrees g m (key_at o j n) j y) (starts _ x) a

  pub removes_told : {ns : List Node} → Presumed h s₀.dir s₀.slots s₀.arena ns → Calls (λ j. RemoveOne (key_at o j n)) (begun h) s₀ i t s
      → Agrees h.fanout (length s₀.dir) (length s₀.arena) (told_by (remove_at o n) ns i) t s
  removes_told {ns} x a =
      calls_agree (remove_at o n) h.fanout (length s₀.dir) (length s₀.arena) ns (λ j w t t' s s' c g m y. remove_agrees g m (key_at o j n) y) (starts _ x) a

  pub inserts_stand : Index h s₀.dir s₀.slots s₀.arena → Calls (λ j. InsertOne (key_at o j n) j) (begun h) s₀ i t s → Index t.header s.dir s.slots s.arena
  inserts_stand x a = record { nodes = _; presumed = (inserts_told x.presumed a).presumed }

  pub removes_stand : Index h s₀.dir s₀.slots s₀.arena → Calls (λ j. RemoveOne (key_at o j n)) (begun h) s₀ i t s → Index t.header s.dir s.slots s.arena
  removes_stand x a = record { nodes = _; presumed = (removes_told x.presumed a).presumed }

  pub calls_stand : (kind : Kind) → Index h s₀.dir s₀.slots s₀.arena → Calls (λ j. CallOne kind (key_at o j n) j) (begun h) s₀ i t s → Index t.header s.dir s.slots s.arena
  calls_stand Insert = inserts_stand
  calls_stand Remove = removes_stand
