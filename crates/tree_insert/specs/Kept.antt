-- `insert` keeps an index, and W: accepted, the buffers hold the model's leaf list, which is again an index's; refused, nothing was touched.
-- Assumes nothing.
use Rattle.changes.specs.MadeLaws.{kept_w}
use Rattle.std.specs.Prelude.{List, ◌≡◌, refl, length}
use Rattle.std.proofs.Common.{subst, sym}
use Rattle.changes.specs.Outcomes.{ChangedBy, Lent, Made}
use Rattle.changes.specs.declared.Changed.{Changed}
use Rattle.layout.specs.Lays.{W}
use Rattle.layout.specs.Presumed.{Presumed}
use Rattle.layout.specs.declared.Header.{Header}
use Rattle.model.specs.Answers.{Answer, accepted, insert_answer, refused}
use Rattle.model.specs.Answers as model
use Rattle.model.proofs.FitsLaws.{insert_fits}
use Rattle.model.specs.Good.{limits}
use Rattle.model.proofs.GoodLaws.{insert_good}
use Rattle.model.specs.Leaves.{Node}
use Rattle.model.specs.LimitLaws.{fanout_three}
use Rattle.model.proofs.TileLaws.{insert_tiles}
use Rattle.order.specs.Bytes.{Bytes}
use Rattle.tree_insert.specs.Outcomes.{InsertBy, InsertOutcome}
use Rattle.tree_insert.specs.PassedLaws.{passed}

-- accepted

module _ {h : Header} (k v : Bytes) (before : Lent) (r : Changed) (after : Lent) where
  pub insert_keeps : {ns : List Node} {c : model.Changed} → Presumed h before.dir before.slots before.arena ns
      → insert_answer h.fanout (length before.dir) (length before.arena) k v (length before.out) ns ≡ accepted c
      → InsertBy h k v before r after ns → Presumed r.header after.dir after.slots after.arena c.nodes
  insert_keeps {ns} {c} x e b =
      let m : Made c h before r after = subst (λ (a : Answer model.Changed). ChangedBy a h before r after) e b in
      let p = passed h.fanout (length before.dir) (length before.arena) k v (length before.out) ns c e in
      record {
        holds = m.holds;
        tiles = rw (m.fanout_is, sym p.changed) (insert_tiles (limits h.fanout) (fanout_three x.holds.sizes.fanout_enough) k v (p.key_short, p.value_short) ns x.tiles);
        fits = rw (m.same_dir, m.same_arena, sym p.changed) (insert_fits h.fanout (length before.dir) (length before.arena) k v ns p.leaf_free p.room x.fits);
      }

  pub insert_keeps_w : W h before.dir before.slots before.arena → InsertOutcome h k v before r after → W r.header after.dir after.slots after.arena
  insert_keeps_w w o = go (insert_answer h.fanout (length before.dir) (length before.arena) k v (length before.out) w.nodes) refl (o.held w)
    where
      go : (a : Answer model.Changed) → insert_answer h.fanout (length before.dir) (length before.arena) k v (length before.out) w.nodes ≡ a
          → ChangedBy a h before r after → W r.header after.dir after.slots after.arena
      go (refused x) e b = kept_w b w
      go (accepted c) e m =
          let p = passed h.fanout (length before.dir) (length before.arena) k v (length before.out) w.nodes c e in
          record {
            nodes = c.nodes;
            holds = m.holds;
            good = rw (m.fanout_is, m.same_dir, m.same_arena, sym p.changed)
                (insert_good (limits h.fanout) (length before.dir) (length before.arena) (fanout_three w.holds.sizes.fanout_enough) k v (p.key_short, p.value_short)
                w.nodes p.leaf_free p.room w.good);
          }
