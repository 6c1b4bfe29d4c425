-- Refused, an entry leaves the lent header as it came, and every lent word and byte as it was; and so does `remove` of an absent key.
-- Assumes nothing.
use Rattle.std.specs.Prelude.{ℕ, true, List, ◌≡◌, refl, length, Err, Ok}
use Rattle.std.proofs.Math.Option.{none, some}
use Rattle.std.proofs.Math.Option as math
use Rattle.std.proofs.Common.{◌∙◌, ap, subst, sym, Option, Result}
use Rattle.changes.specs.Outcomes.{ChangedBy, Lent, old_told}
use Rattle.kernel.specs.Coincide.{answered, changed}
use Rattle.layout.specs.Lays.{W}
use Rattle.layout.specs.declared.Header.{Header}
use Rattle.model.specs.Answers.{Answer, accepted, clear_answer, insert_answer, refused, remove_answer}
use Rattle.model.specs.Answers as model
use Rattle.model.specs.Charge.{charge}
use Rattle.model.specs.Leaves.{Node, pairs_of}
use Rattle.model.specs.Map.{lookup}
use Rattle.model.proofs.PairLaws.{lookup-owned, remove_absent}
use Rattle.model.specs.declared.Refusal.{Refusal}
use Rattle.model.specs.declared.Refusal.TheVariants.{Damaged}
use Rattle.order.specs.Bytes.{Bytes}
use Rattle.tree_create.specs.Outcomes.{ClearOutcome, FreshBy}
use Rattle.tree_insert.specs.Outcomes.{InsertOutcome}
use Rattle.tree_read.specs.Decided.{dec_w}
use Rattle.tree_remove.specs.Kept.{removed_nodes}
use Rattle.tree_remove.specs.Outcomes.{RemoveOutcome}

-- no accepted answer is told as a refusal

abbrev IsRefusal : {A : Type 0} → Result A Refusal → Type 0
IsRefusal (Ok a) = ⊥
IsRefusal (Err x) = Unit {0}

told_accepted : (o : math.Option Bytes) → IsRefusal (old_told o) → ⊥
told_accepted none r = r
told_accepted (some v) r = r

-- by the model's answer

by_changed : (m : Answer model.Changed) (h : Header) (before : Lent) (x : Refusal) {g : Header} {l : Lent} → ChangedBy m h before (changed g (Err x)) l → (g ≡ h) × (l ≡ before)
by_changed (refused y) h before x a = (a.header_is, λ i. record { dir = a.dir_is i; slots = a.slots_are i; arena = a.arena_is i; out = a.out_is i })
by_changed (accepted c) h before x a = absurd (told_accepted c.old (subst IsRefusal a.answer.answer_is tt))

by_fresh : (m : Answer (List Node)) (fanout : ℕ) (h : Header) (dir slots arena : List ℕ) (x : Refusal) {d s : List ℕ} {g : Header}
    → FreshBy m fanout h dir slots arena d s (answered g (Err x)) → (g ≡ h) × ((d ≡ dir) × (s ≡ slots))
by_fresh (refused y) fanout h dir slots arena x a = (a.header_is, (a.dir_is, a.slots_are))
by_fresh (accepted ns) fanout h dir slots arena x a = absurd (subst IsRefusal a.answer_is tt)

-- of each entry

pub insert_refused : (h : Header) (k v : Bytes) (before : Lent) (x : Refusal) {g : Header} {l : Lent} → InsertOutcome h k v before (changed g (Err x)) l → (g ≡ h) × (l ≡ before)
insert_refused h k v before x o =
    elim (dec_w h before.dir before.slots before.arena) [
      | yes w ↦ by_changed (insert_answer h.fanout (length before.dir) (length before.arena) k v (length before.out) w.nodes) h before x (o.held w)
      | no n ↦ by_changed (refused Damaged) h before x (o.damaged n)
    ]

pub remove_refused : (h : Header) (k : Bytes) (before : Lent) (x : Refusal) {g : Header} {l : Lent} → RemoveOutcome h k before (changed g (Err x)) l → (g ≡ h) × (l ≡ before)
remove_refused h k before x o =
    elim (dec_w h before.dir before.slots before.arena) [
      | yes w ↦ by_changed (remove_answer true k (length before.out) w.nodes) h before x (o.held w).changed
      | no n ↦ by_changed (refused Damaged) h before x (o.damaged n)
    ]

pub clear_refused : (h : Header) (dir slots arena : List ℕ) (x : Refusal) {d s : List ℕ} {g : Header} → ClearOutcome h dir slots arena d s (answered g (Err x)) → (g ≡ h) × ((d ≡ dir) × (s ≡ slots))
clear_refused h dir slots arena x o =
    elim (dec_w h dir slots arena) [
      | yes w ↦ by_fresh (clear_answer w.nodes) h.fanout h dir slots arena x (o.held w)
      | no n ↦ by_fresh (refused Damaged) h.fanout h dir slots arena x (o.damaged n)
    ]

-- and where the key to remove is absent

absent_header : (h : Header) (k : Bytes) (before : Lent) (w : W h before.dir before.slots before.arena) → lookup k (pairs_of w.nodes) ≡ none
    → (m : Answer model.Changed) → remove_answer true k (length before.out) w.nodes ≡ m → (g : Header) (a : Result (Option ℕ) Refusal) (l : Lent) → ChangedBy m h before (changed g a) l → g ≡ h
absent_header h k before w e (refused x) q g a l b = b.header_is
absent_header h k before w e (accepted c) q g a l b =
    let n : c.nodes ≡ w.nodes =
    sym (removed_nodes k (length before.out) w.nodes c q) ∙ remove_absent true k w.nodes (lookup-owned k w.nodes w.good.tiles ∙ e) in
    λ i. record {
      fanout = b.fanout_is i;
      leaves = (b.holds.leaves_are ∙ ap length n ∙ sym w.holds.leaves_are) i;
      pairs = (b.holds.pairs_are ∙ ap (λ (ns : List Node). length (pairs_of ns)) n ∙ sym w.holds.pairs_are) i;
      charge = (b.holds.charge_is ∙ ap charge n ∙ sym w.holds.charge_is) i;
    }

pub absent_kept : (h : Header) (k : Bytes) (before : Lent) (w : W h before.dir before.slots before.arena) → lookup k (pairs_of w.nodes) ≡ none
    → {g : Header} {a : Result (Option ℕ) Refusal} {l : Lent} → RemoveOutcome h k before (changed g a) l → (g ≡ h) × (l ≡ before)
absent_kept h k before w e {g} {a} {l} o =
    (absent_header h k before w e (remove_answer true k (length before.out) w.nodes) refl g a l (o.held w).changed, (o.held w).absent e)
