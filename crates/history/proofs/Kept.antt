-- What calls keep: from call to call the three buffers have the lengths that the history began with, and the index its fanout, unless a creation
-- sets another; a call that reads or is refused, and a remove that answers none, leave header and buffers as they were.
-- Assumes nothing.
use Rattle.std.specs.Prelude.{ℕ, ◌*◌, Bool, false, not, true, List, [], ◌∷◌, ◌≡◌, refl, length, Err, None, Ok, Some}
use Rattle.std.proofs.Math.Option.{none}
use Rattle.std.proofs.Common.{Option, Result, ◌∙◌, ap, subst, sym, arith}
use Rattle.changes.specs.Outcomes.{ChangedBy, Lent}
use Rattle.changes.specs.declared.Changed.{Changed}
use Rattle.history.specs.Answers.{answers}
use Rattle.history.specs.Histories.{Call, History, Idle, NoValue, State, begin, clear, create, found, handed, if_not_done, if_refused, insert, lending, made_with, map_of, measured, measures_after, measures_of, on, read, remove, state}
use Rattle.history.specs.Stands.{stands, state_path}
use Rattle.kernel.specs.Coincide.{changed}
use Rattle.kernel.specs.Refused.{absent_kept, insert_refused, remove_refused}
use Rattle.layout.specs.Examples.{header}
use Rattle.layout.specs.Lays.{W}
use Rattle.layout.specs.declared.Header.{Header}
use Rattle.lists.proofs.PartLaws.{length-put}
use Rattle.model.specs.Answers.{Answer, accepted, create_answer, insert_answer, meets_sizes, refused, remove_answer}
use Rattle.model.specs.Answers as model
use Rattle.model.specs.Leaves.{Node, pairs_of}
use Rattle.model.specs.LimitLaws.{meets_sizes_lem, pool_one}
use Rattle.model.specs.Limits.{Sizes}
use Rattle.model.specs.Map.{lookup}
use Rattle.model.specs.PassedLaws.{passed_if}
use Rattle.model.specs.Rules.{fresh}
use Rattle.model.specs.declared.Refusal.{Refusal}
use Rattle.model.specs.declared.Refusal.TheVariants.{Shape}
use Rattle.order.specs.Bytes.{Bytes}
use Rattle.tree_create.specs.Outcomes.{FreshBy, Freshened}
use Rattle.tree_create.specs.declared.Answered.{Answered}
use Rattle.tree_insert.specs.Outcomes.{InsertOutcome}
use Rattle.tree_remove.specs.Outcomes.{RemoveOutcome}

-- a changing call, by the model's answer

changed_measures : (a : Answer model.Changed) (h : Header) (before : Lent) (r : Changed) (after : Lent) → ChangedBy a h before r after
    → measures_of (handed r after) ≡ measured h.fanout before.dir before.slots before.arena
changed_measures (refused x) h before r after b =
    λ i. measured (b.header_is i).fanout (b.dir_is i) (b.slots_are i) (b.arena_is i)
changed_measures (accepted c) h before r after b =
    λ i. record { fanout = b.fanout_is i; pool = b.same_dir i; slots_words = b.same_slots i; arena_bytes = b.same_arena i }

-- creation and `clear` write one word of the directory; the slots are as many as the sizes say

module _ {fanout : ℕ} {dir slots arena now_dir now_slots : List ℕ} {ns : List Node} {r : Answered} (z : Sizes fanout (length dir) (length slots) (length arena))
    (f : Freshened fanout dir slots arena now_dir now_slots ns r) where
  same_dir : length now_dir ≡ length dir
  same_dir = ap length f.fresh.dir_is ∙ length-put dir 0 (0 ∷ []) (omega (arith, pool_one z.pool_enough))

  same_slots : length now_slots ≡ length slots
  same_slots =
      f.holds.sizes.slots_are ∙ ap (λ (g : Header). g.fanout * length now_dir) f.fresh.header_is ∙ ap (λ (n : ℕ). fanout * n) same_dir ∙ sym z.slots_are

  fresh_measures : measures_of (state r.header now_dir now_slots arena) ≡ measured fanout dir slots arena
  fresh_measures = λ i. record { fanout = (f.fresh.header_is i).fanout; pool = same_dir i; slots_words = same_slots i; arena_bytes = length arena }

not_false : (b : Bool) → not b ≡ false → b ≡ true
not_false true e = refl
not_false false e = sym e

created_sizes : (fanout : ℕ) (dir slots arena : List ℕ) {ms : List Node} → create_answer fanout (length dir) (length slots) (length arena) ≡ accepted ms
    → Sizes fanout (length dir) (length slots) (length arena)
created_sizes fanout dir slots arena e =
    let b = meets_sizes fanout (length dir) (length slots) (length arena) in
    (meets_sizes_lem fanout (length dir) (length slots) (length arena)).sound (not_false b (passed_if (not b) Shape (accepted fresh) e).0)

begun_measures : (fanout : ℕ) (dir slots arena now_dir now_slots : List ℕ) (r : Answered) (a : Answer (List Node)) → create_answer fanout (length dir) (length slots) (length arena) ≡ a
    → FreshBy a fanout (header 0 0 0 0) dir slots arena now_dir now_slots r → r.answer ≡ Ok tt
    → measures_of (state r.header now_dir now_slots arena) ≡ measured fanout dir slots arena
begun_measures fanout dir slots arena now_dir now_slots r (refused y) e b d =
    cc (b.answer_is, d)
begun_measures fanout dir slots arena now_dir now_slots r (accepted ms) e b d = fresh_measures (created_sizes fanout dir slots arena e) b

module _ (s : State) (fanout : ℕ) (dir slots : List ℕ) (r : Answered) where
  abbrev Left : Result (Unit {0}) Refusal → Type 0
  Left a =
      measures_of (state (if_not_done a s.header r.header) dir slots s.arena)
      ≡ if_not_done a (measures_of s) (measured fanout s.dir s.slots s.arena)

  create_measures : (a : Answer (List Node)) → create_answer fanout (length s.dir) (length s.slots) (length s.arena) ≡ a
      → FreshBy a fanout (header 0 0 0 0) s.dir s.slots s.arena dir slots r → Left r.answer
  create_measures (refused y) e b = subst Left (sym b.answer_is) (λ i. measured s.header.fanout (b.dir_is i) (b.slots_are i) s.arena)
  create_measures (accepted ms) e b = subst Left (sym b.answer_is) (fresh_measures (created_sizes fanout s.dir s.slots s.arena e) b)

  -- refused, it leaves the buffers, and the caller its header
  abbrev Idles : Result (Unit {0}) Refusal → Type 0
  Idles a = if_not_done a (Unit {0}) ⊥ → state (if_not_done a s.header r.header) dir slots s.arena ≡ s

  create_same : (a : Answer (List Node)) → FreshBy a fanout (header 0 0 0 0) s.dir s.slots s.arena dir slots r → Idles r.answer
  create_same (refused y) b = subst Idles (sym b.answer_is) (λ i. state_path (state s.header dir slots s.arena) s refl b.dir_is b.slots_are refl)
  create_same (accepted ms) b = subst Idles (sym b.answer_is) (λ i. absurd i)

-- all together

module _ {s : State} (h : History s) where
  abbrev index : W s.header s.dir s.slots s.arena
  index = (stands h).index

  abbrev inserting : (k v out : Bytes) → Answer model.Changed
  inserting k v out = insert_answer s.header.fanout (length s.dir) (length s.arena) k v (length out) index.nodes

  abbrev removing : (k out : Bytes) → Answer model.Changed
  removing k out = remove_answer true k (length out) index.nodes

  abbrev creating : (fanout : ℕ) → Answer (List Node)
  creating fanout = create_answer fanout (length s.dir) (length s.slots) (length s.arena)

  -- a changing call that is refused, and the remove of an absent key

  left_same : (g : Header) (after : Lent) (out : Bytes) → (g ≡ s.header) × (after ≡ lending s out) → state g after.dir after.slots after.arena ≡ s
  left_same g after out p =
      state_path (state g after.dir after.slots after.arena) s p.0 (ap (λ (l : Lent). l.dir) p.1) (ap (λ (l : Lent). l.slots) p.1) (ap (λ (l : Lent). l.arena) p.1)

  insert_same : (k v out : Bytes) (g : Header) (a : Result (Option ℕ) Refusal) (after : Lent) → InsertOutcome s.header k v (lending s out) (changed g a) after → if_refused a (Unit {0}) ⊥
      → state g after.dir after.slots after.arena ≡ s
  insert_same k v out g (Err x) after o i = left_same g after out (insert_refused s.header k v (lending s out) x o)
  insert_same k v out g (Ok u) after o i = absurd i

  absent : (k : Bytes) → lookup k (map_of h) ≡ none → lookup k (pairs_of index.nodes) ≡ none
  absent k e = ap (λ (l : List Node). lookup k (pairs_of l)) (stands h).leaves_are ∙ ap (lookup k) (stands h).pairs_are ∙ e

  remove_same : (k out : Bytes) (g : Header) (a : Result (Option ℕ) Refusal) (after : Lent) → RemoveOutcome s.header k (lending s out) (changed g a) after → NoValue a
      → state g after.dir after.slots after.arena ≡ s
  remove_same k out g (Err x) after o i = left_same g after out (remove_refused s.header k (lending s out) x o)
  remove_same k out g (Ok None) after o i =
      left_same g after out (absent_kept s.header k (lending s out) index (absent k (answers h (remove k out (changed g (Ok None)) after o)).0) o)
  remove_same k out g (Ok (Some n)) after o i = absurd i

  -- the lengths of the three buffers and the fanout, from call to call
  pub call_kept : {t : State} (c : Call s t) → measures_of t ≡ measures_after c (measures_of s)
  call_kept (read c) = refl
  call_kept (insert k v out r after o) = changed_measures (inserting k v out) s.header (lending s out) r after (o.held index)
  call_kept (remove k out r after o) = changed_measures (removing k out) s.header (lending s out) r after (o.held index).changed
  call_kept (clear dir slots r o) = fresh_measures index.holds.sizes (o.held index)
  call_kept (create fanout dir slots r o) = create_measures s fanout dir slots r (creating fanout) refl o

  -- a call that reads or is refused, and a remove that answers none, leave header and buffers as they were
  pub idle_kept : {t : State} (c : Call s t) → Idle c → t ≡ s
  idle_kept (read c) i = refl
  idle_kept (insert k v out r after o) i = insert_same k v out r.header r.old after o i
  idle_kept (remove k out r after o) i = remove_same k out r.header r.old after o i
  idle_kept (clear dir slots r o) i = absurd (subst (λ (a : Result (Unit {0}) Refusal). if_not_done a (Unit {0}) ⊥) (o.held index).answer_is i)
  idle_kept (create fanout dir slots r o) i = create_same s fanout dir slots r (creating fanout) o i

-- so after any history they are what it began with, the fanout as the last accepted creation set it
pub measures_kept : {s : State} (h : History s) → measures_of s ≡ made_with h
measures_kept (begin fanout dir slots arena now_dir now_slots r o d) =
    begun_measures fanout dir slots arena now_dir now_slots r (create_answer fanout (length dir) (length slots) (length arena)) refl o d
measures_kept (found y) = refl
measures_kept (on h c) = call_kept h c ∙ ap (measures_after c) (measures_kept h)
