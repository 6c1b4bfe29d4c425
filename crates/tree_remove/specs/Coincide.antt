-- How tight the contract is: any two outcomes allowed for one input coincide, but for what docs/EXCEPTIONS.md leaves open; and where the key
-- is absent they leave every lent byte the same.
-- Assumes nothing.
use Rattle.std.specs.Prelude.{true, ◌≡◌, length}
use Rattle.std.proofs.Math.Option.{none}
use Rattle.std.proofs.Common.{◌∙◌, sym}
use Rattle.changes.specs.Coincide.{Same, changed_coincides}
use Rattle.changes.specs.Outcomes.{Lent}
use Rattle.changes.specs.declared.Changed.{Changed}
use Rattle.layout.specs.Lays.{W}
use Rattle.layout.specs.declared.Header.{Header}
use Rattle.model.specs.Answers.{refused, remove_answer}
use Rattle.model.specs.Leaves.{pairs_of}
use Rattle.model.specs.Map.{lookup}
use Rattle.model.specs.declared.Refusal.TheVariants.{Damaged}
use Rattle.order.specs.Bytes.{Bytes}
use Rattle.tree_read.specs.Decided.{dec_w}
use Rattle.tree_remove.specs.Outcomes.{RemoveOutcome}

module _ (h : Header) (k : Bytes) (before : Lent) {r q : Changed} {l m : Lent} (a : RemoveOutcome h k before r l) (b : RemoveOutcome h k before q m) where
  pub remove_coincides : Same r l q m
  remove_coincides =
      elim (dec_w h before.dir before.slots before.arena) [
        | yes w ↦ changed_coincides (remove_answer true k (length before.out) w.nodes) h before (a.held w).changed (b.held w).changed
        | no n ↦ changed_coincides (refused Damaged) h before (a.damaged n) (b.damaged n)
      ]

  pub absent_coincides : (w : W h before.dir before.slots before.arena) → lookup k (pairs_of w.nodes) ≡ none → l ≡ m
  absent_coincides w e = (a.held w).absent e ∙ sym ((b.held w).absent e)
