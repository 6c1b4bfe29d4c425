-- `remove` keeps an index, and W: accepted, the buffers hold the model's leaf list, which is again an index's; refused, nothing was touched.
-- Assumes nothing.
use Rattle.std.specs.Prelude.{ℕ, true, List, ◌≡◌, refl, length}
use Rattle.std.proofs.Common.{ap, subst, sym}
use Rattle.changes.specs.MadeLaws.{kept_w}
use Rattle.model.specs.PassedLaws.{passed_if, same_accepted}
use Rattle.changes.specs.Outcomes.{ChangedBy, Lent, Made}
use Rattle.changes.specs.declared.Changed.{Changed}
use Rattle.layout.specs.Lays.{W}
use Rattle.layout.specs.Presumed.{Presumed}
use Rattle.layout.specs.declared.Header.{Header}
use Rattle.model.specs.Answers.{Answer, accepted, long_key, refused, remove_answer, short, size_of}
use Rattle.model.specs.Answers as model
use Rattle.model.proofs.FitsLaws.{remove_fits}
use Rattle.model.specs.Good.{limits}
use Rattle.model.proofs.GoodLaws.{remove_good}
use Rattle.model.specs.Leaves.{Node, pairs_of}
use Rattle.model.specs.Map.{lookup}
use Rattle.model.specs.Rules.{remove_rule}
use Rattle.model.proofs.TileLaws.{remove_tiles}
use Rattle.model.specs.declared.Refusal.TheVariants.{LongKey, ShortOutput}
use Rattle.order.specs.Bytes.{Bytes}
use Rattle.tree_remove.specs.Outcomes.{RemoveBy, RemoveOutcome}

-- what an accepted remove leaves
pub removed_nodes : (k : Bytes) (out : ℕ) (ns : List Node) (c : model.Changed) → remove_answer true k out ns ≡ accepted c → remove_rule true k ns ≡ c.nodes
removed_nodes k out ns c e =
    let p = passed_if (long_key k) LongKey _ e in
    let q = passed_if (short out (lookup k (pairs_of ns))) (ShortOutput (size_of (lookup k (pairs_of ns)))) _ p.1 in
    ap (λ (o : model.Changed). o.nodes) (same_accepted q.1)

module _ {h : Header} (k : Bytes) (before : Lent) (r : Changed) (after : Lent) where
  pub remove_keeps : {ns : List Node} {c : model.Changed} → Presumed h before.dir before.slots before.arena ns
      → remove_answer true k (length before.out) ns ≡ accepted c → RemoveBy h k before r after ns → Presumed r.header after.dir after.slots after.arena c.nodes
  remove_keeps {ns} {c} x e b =
      let m : Made c h before r after = subst (λ (a : Answer model.Changed). ChangedBy a h before r after) e b.changed in
      let p = removed_nodes k (length before.out) ns c e in
      record {
        holds = m.holds;
        tiles = rw (m.fanout_is, sym p) (remove_tiles (limits h.fanout) true k ns x.tiles);
        fits = rw (m.same_dir, m.same_arena, sym p) (remove_fits (length before.dir) (length before.arena) true k ns x.fits);
      }

  pub remove_keeps_w : W h before.dir before.slots before.arena → RemoveOutcome h k before r after → W r.header after.dir after.slots after.arena
  remove_keeps_w w o = go (remove_answer true k (length before.out) w.nodes) refl (o.held w).changed
    where
      go : (a : Answer model.Changed) → remove_answer true k (length before.out) w.nodes ≡ a → ChangedBy a h before r after → W r.header after.dir after.slots after.arena
      go (refused x) e b = kept_w b w
      go (accepted c) e m = record {
        nodes = c.nodes;
        holds = m.holds;
        good = rw (m.fanout_is, m.same_dir, m.same_arena, sym (removed_nodes k (length before.out) w.nodes c e))
            (remove_good (limits h.fanout) (length before.dir) (length before.arena) k w.nodes w.good);
      }
