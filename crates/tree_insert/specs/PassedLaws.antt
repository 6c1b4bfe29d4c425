-- What an accepted insert has passed: each refusal of document 01's table, and what it then hands out and leaves.
-- Assumes nothing.
use Rattle.model.specs.PassedLaws.{passed_if, same_accepted}
use Rattle.std.specs.Prelude.{ℕ, ◌≤◌, false, List, ◌≡◌, length}
use Rattle.std.proofs.Common.{ltb-false}
use Rattle.judge.specs.Judges.{Adds, Replaces, Splits}
use Rattle.judge.specs.declared.Plan.{Plan}
use Rattle.layout.specs.declared.Header.{Header}
use Rattle.model.specs.Answers.{Changed, accepted, insert_answer, long_key, long_value, no_leaf, no_room, short, size_of}
use Rattle.model.specs.Charge.{charge}
use Rattle.model.specs.Leaves.{Node, pairs_of}
use Rattle.model.specs.Limits.{key_limit, value_limit}
use Rattle.model.specs.Map.{lookup}
use Rattle.model.specs.Rules.{insert_rule}
use Rattle.model.specs.declared.Refusal.TheVariants.{LongKey, LongValue, NoLeaf, NoRoom, ShortOutput}
use Rattle.order.specs.Bytes.{Bytes}
use Rattle.spots.specs.declared.Spot.{Spot}

pub record Passed (fanout pool arena : ℕ) (k v : Bytes) (out : ℕ) (ns : List Node) (c : Changed) : Type 0 where
  pub key_short : length k ≤ key_limit
  pub value_short : length v ≤ value_limit
  pub output : short out (lookup k (pairs_of ns)) ≡ false
  pub leaf_free : no_leaf fanout pool k v ns ≡ false
  pub room : no_room fanout arena k v ns ≡ false
  pub changed : record { old = lookup k (pairs_of ns); nodes = insert_rule fanout k v ns } ≡ c

module _ (fanout pool arena : ℕ) (k v : Bytes) (out : ℕ) (ns : List Node) (c : Changed) where
  pub passed : insert_answer fanout pool arena k v out ns ≡ accepted c → Passed fanout pool arena k v out ns c
  passed e =
      let p = passed_if (long_key k) LongKey _ e in
      let q = passed_if (long_value v) LongValue _ p.1 in
      let s = passed_if (short out (lookup k (pairs_of ns))) (ShortOutput (size_of (lookup k (pairs_of ns)))) _ q.1 in
      let l = passed_if (no_leaf fanout pool k v ns) NoLeaf _ s.1 in
      let r = passed_if (no_room fanout arena k v ns) NoRoom _ l.1 in
      record {
        key_short = ltb-false key_limit (length k) p.0;
        value_short = ltb-false value_limit (length v) q.0;
        output = s.0;
        leaf_free = l.0;
        room = r.0;
        changed = same_accepted r.1;
      }

pub passed_charge : {fanout pool arena : ℕ} {k v : Bytes} {out : ℕ} {ns : List Node} {c : Changed} → Passed fanout pool arena k v out ns c → charge (insert_rule fanout k v ns) ≤ arena
passed_charge {fanout} {arena = arena} {k = k} {v} {ns = ns} p = ltb-false arena (charge (insert_rule fanout k v ns)) p.room

-- in each of `judge`'s three ways

abbrev pub changed_by : (fanout : ℕ) → Bytes → Bytes → List Node → Changed
changed_by fanout k v ns = record { old = lookup k (pairs_of ns); nodes = insert_rule fanout k v ns }

module _ {h : Header} {pool arena : ℕ} {k v : Bytes} {out : ℕ} {ns : List Node} where
  pub replaces_passed : {t : Spot} → Replaces h pool arena k v out ns t → Passed h.fanout pool arena k v out ns (changed_by h.fanout k v ns)
  replaces_passed a = passed h.fanout pool arena k v out ns (changed_by h.fanout k v ns) a.accepts

  pub adds_passed : {t : Spot} → Adds h pool arena k v out ns t → Passed h.fanout pool arena k v out ns (changed_by h.fanout k v ns)
  adds_passed a = passed h.fanout pool arena k v out ns (changed_by h.fanout k v ns) a.accepts

  pub splits_passed : {p : Plan} → Splits h pool arena k v out ns p → Passed h.fanout pool arena k v out ns (changed_by h.fanout k v ns)
  splits_passed a = passed h.fanout pool arena k v out ns (changed_by h.fanout k v ns) a.accepts
