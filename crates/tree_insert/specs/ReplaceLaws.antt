-- What `replace_old` has to show: a value that is not longer goes in the old one's place; for a longer one the pair is taken out, and put in again.
-- Assumes nothing.
use Rattle.std.specs.Prelude.{ℕ, ◌<◌, ◌≤◌, suc, false, List, [], ◌≡◌, refl, length}
use Rattle.std.proofs.Common.{ap, sym, ◌∙◌, subst, arith}
use Rattle.judge.specs.AnswerLaws.{below_fanout, slack_charge}
use Rattle.layout.specs.Presumed.{Presumed}
use Rattle.layout.specs.declared.Header.{Header}
use Rattle.model.specs.Answers.{Changed}
use Rattle.model.specs.Charge.{charge}
use Rattle.model.specs.Leaves.{Node, with_pairs}
use Rattle.model.specs.Map.{pair, remove}
use Rattle.model.proofs.OwnerLaws.{tiled_at}
use Rattle.model.specs.Place.{gap_lookup, place-lookup}
use Rattle.model.specs.Rules.{insert_rule, remove_rule}
use Rattle.order.specs.Bytes.{Bytes}
use Rattle.pair_edit.specs.PairEdits.{CanInsert, CanRemove, CanReplace, InsertedPair, Inserts, RemovedPair, ReplacedPair}
use Rattle.route.specs.RouteLaws.{place_in, routed}
use Rattle.route.specs.Routes.{leaf_at}
use Rattle.spots.specs.KeySpots.{AtSpot, InGap}
use Rattle.spots.specs.declared.Spot.{Spot}
use Rattle.tree_insert.specs.Outcomes.{CanReplaceOld, OldAsked, ReplacedOld}
use Rattle.tree_insert.specs.PassedLaws.{Passed, passed_charge, replaces_passed}
use Rattle.tree_insert.specs.TakenOutLaws.{count_removed, gap_removed, taken_out}

-- `insert_pair` accepts the new pair in an index whose insert gives what an accepted one gives
pub accepted_inserts : {r : Header} {F pool arena out : ℕ} {now_dir now_slots now_arena : List ℕ} {k v : Bytes} {ns ms : List Node} {c : Changed} {t : Spot}
    → Passed F pool arena k v out ns c → r.fanout ≡ F → length now_arena ≡ arena → Presumed r now_dir now_slots now_arena ms
    → InGap k ms t → suc (length (leaf_at ms t.leaf).pairs) < F → insert_rule F k v ms ≡ insert_rule F k v ns
    → Inserts r (length now_arena) k v t ms
accepted_inserts {r} {F} {k = k} {v} {ns} {ms} {t = t} p f l x g s e =
    let q = slack_charge x k v g.owns (gap_lookup k (leaf_at ms t.leaf).pairs t.slot g.stands) (omega (arith, s, f)) in
    let c : charge (insert_rule r.fanout k v ms) ≡ charge (insert_rule F k v ns) = ap (λ (n : ℕ). charge (insert_rule n k v ms)) f ∙ ap charge e in
    record {
      spot = g;
      slack = omega (arith, s, f);
      key_short = p.key_short;
      value_short = p.value_short;
      room = omega (arith, passed_charge p, q, c, l);
    }

-- the pair taken out of an index, as the model does

module _ {h : Header} {dir slots arena : List ℕ} {ns : List Node} (x : Presumed h dir slots arena ns) {k : Bytes} (v : Bytes) {t : Spot} (a : AtSpot k ns t) where
  taken_leaf : leaf_at (remove_rule false k ns) t.leaf ≡ with_pairs (leaf_at ns t.leaf) (remove k (leaf_at ns t.leaf).pairs)
  taken_leaf = rw a.owns (taken_out h.fanout k v ns x.tiles).leaf_is

  taken_gap : InGap k (remove_rule false k ns) t
  taken_gap = record {
    owns = a.owns ∙ sym (taken_out h.fanout k v ns x.tiles).owner_is;
    stands = rw taken_leaf
        (gap_removed k (leaf_at ns t.leaf).pairs t.slot (tiled_at ns t.leaf x.tiles.tiled (place_in x (routed x k a.owns).within)).rises a.stands);
  }

  taken_slack : suc (length (leaf_at (remove_rule false k ns) t.leaf).pairs) < h.fanout
  taken_slack =
      rw taken_leaf
      (omega (arith, count_removed k (leaf_at ns t.leaf).pairs (place-lookup (pair [] []) k (leaf_at ns t.leaf).pairs t.slot a.stands), below_fanout x k v a.owns))

module _ {h : Header} {dir slots arena : List ℕ} {k v : Bytes} {t : Spot} {old : ℕ} where
  -- not longer

  pub short_asked : CanReplaceOld h dir slots arena k v t old → length v ≤ old → CanReplace h dir slots arena v t
  short_asked a l =
      let s = a.step in
      record {
        key = k;
        step = record { nodes = s.nodes; presumed = s.presumed; asks = record { spot = s.asks.replaces.spot; not_longer = omega (arith, l, s.asks.old_is) } };
      }

  pub short_replaced : {r : Header} {now_slots now_arena : List ℕ} → length v ≤ old → ReplacedPair h dir slots arena v t r now_slots now_arena
      → ReplacedOld h dir slots arena k v t old r dir now_slots now_arena
  short_replaced l p = λ out.
      let s = p k in
      record {
        fanout_is = s.fanout_is;
        same_dir = s.same_dir;
        same_slots = s.same_slots;
        same_arena = s.same_arena;
        index = λ ns x a. s.index ns x (record { spot = a.replaces.spot; not_longer = omega (arith, l, a.old_is) });
      }

  -- longer

  pub longer_asked : CanReplaceOld h dir slots arena k v t old → CanRemove h dir slots arena t
  longer_asked a =
      let s = a.step in
      record { key = k; step = record { nodes = s.nodes; presumed = s.presumed; asks = s.asks.replaces.spot } }

  module _ {r : Header} {mid_dir mid_slots : List ℕ} (p : RemovedPair h dir slots arena t r mid_dir mid_slots) where
    longer_inserts : {out : ℕ} {ns : List Node} → Presumed h dir slots arena ns → OldAsked h dir arena k v out t old ns → Inserts r (length arena) k v t (remove_rule false k ns)
    longer_inserts {ns = ns} x a =
        let s = a.replaces.spot in
        accepted_inserts (replaces_passed a.replaces) (p k).fanout_is refl ((p k).index ns x s) (taken_gap x v s) (taken_slack x v s) (taken_out h.fanout k v ns x.tiles).rule

    pub again_asked : CanReplaceOld h dir slots arena k v t old → CanInsert r mid_dir mid_slots arena k v t
    again_asked a =
        let s = a.step in
        record { nodes = remove_rule false k s.nodes; presumed = (p k).index s.nodes s.presumed s.asks.replaces.spot; asks = longer_inserts s.presumed s.asks }

    pub longer_replaced : {q : Header} {now_dir now_slots now_arena : List ℕ} → InsertedPair r mid_dir mid_slots arena k v t q now_dir now_slots now_arena
        → ReplacedOld h dir slots arena k v t old q now_dir now_slots now_arena
    longer_replaced {q} {now_dir} {now_slots} {now_arena} i = λ out.
        record {
          fanout_is = i.fanout_is ∙ (p k).fanout_is;
          same_dir = i.same_dir ∙ (p k).same_dir;
          same_slots = i.same_slots ∙ (p k).same_slots;
          same_arena = i.same_arena;
          index = λ ns x a.
              subst (Presumed q now_dir now_slots now_arena) (ap (λ (n : ℕ). insert_rule n k v (remove_rule false k ns)) (p k).fanout_is ∙ (taken_out h.fanout k v ns x.tiles).rule)
              (i.index (remove_rule false k ns) ((p k).index ns x a.replaces.spot) (longer_inserts x a));
        }
