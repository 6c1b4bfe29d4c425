-- How tight the contract is: any two outcomes allowed for one input coincide, but for what docs/EXCEPTIONS.md leaves open.
-- Assumes nothing.
use Rattle.std.specs.Prelude.{length}
use Rattle.changes.specs.Coincide.{Same, changed_coincides}
use Rattle.changes.specs.Outcomes.{Lent}
use Rattle.changes.specs.declared.Changed.{Changed}
use Rattle.layout.specs.declared.Header.{Header}
use Rattle.model.specs.Answers.{insert_answer, refused}
use Rattle.model.specs.declared.Refusal.TheVariants.{Damaged}
use Rattle.order.specs.Bytes.{Bytes}
use Rattle.tree_insert.specs.Outcomes.{InsertOutcome}
use Rattle.tree_read.specs.Decided.{dec_w}

pub insert_coincides : (h : Header) (k v : Bytes) (before : Lent) {r q : Changed} {l m : Lent} → InsertOutcome h k v before r l → InsertOutcome h k v before q m → Same r l q m
insert_coincides h k v before a b =
    elim (dec_w h before.dir before.slots before.arena) [
      | yes w ↦ changed_coincides (insert_answer h.fanout (length before.dir) (length before.arena) k v (length before.out) w.nodes) h before (a.held w) (b.held w)
      | no n ↦ changed_coincides (refused Damaged) h before (a.damaged n) (b.damaged n)
    ]
