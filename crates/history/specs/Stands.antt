-- After any history the buffers hold an index: a leaf list whose pairs are the ordered map's, and that the leaf rules made from the fresh one.
-- Assumes nothing.
use Rattle.std.specs.Prelude.{◌≤◌, ℕ, not, true, List, [], ◌≡◌, refl, length, Ok}
use Rattle.std.proofs.Math.Option as math
use Rattle.std.proofs.Math.Option.{none, some}
use Rattle.std.proofs.Common.{Option, Result, ◌∙◌, ap, subst, sym}
use Rattle.changes.specs.Outcomes.{ChangedBy, Lent, old_told}
use Rattle.changes.specs.declared.Changed.{Changed}
use Rattle.history.specs.Histories.{History, State, Within, begin, clear, create, found, handed, if_not_done, if_refused, insert, leaves_of, lending, map_of, on, read, remove, state}
use Rattle.layout.specs.Entry.{Entry}
use Rattle.layout.proofs.Examples.{fresh_good}
use Rattle.layout.specs.Examples.{header}
use Rattle.layout.specs.Lays.{Holds, W}
use Rattle.layout.specs.LaysUnique.{holds_unique}
use Rattle.layout.specs.Presumed.{Presumed, w_presumed}
use Rattle.model.specs.Answers.{Answer, accepted, create_answer, insert_answer, meets_sizes, refused, remove_answer}
use Rattle.model.specs.Answers as model
use Rattle.model.specs.Leaves.{Node, pairs_of}
use Rattle.model.specs.Map.{Pair}
use Rattle.model.specs.Map as map
use Rattle.model.proofs.PairLaws.{insert_pairs, remove_pairs}
use Rattle.model.specs.PassedLaws.{passed_if, same_accepted}
use Rattle.model.specs.Rules.{fresh, insert_rule, remove_rule}
use Rattle.model.specs.Reached.{Reached, created, inserted, removed}
use Rattle.model.specs.declared.Refusal.{Refusal}
use Rattle.model.specs.declared.Refusal.TheVariants.{Shape}
use Rattle.order.specs.Bytes.{Bytes}
use Rattle.tree_create.specs.Coincide.{freshened_w}
use Rattle.tree_create.specs.Outcomes.{ClearOutcome, FreshBy, Freshened}
use Rattle.tree_create.specs.declared.Answered.{Answered}
use Rattle.tree_insert.specs.Kept.{insert_keeps_w}
use Rattle.tree_insert.specs.Outcomes.{InsertBy, InsertOutcome}
use Rattle.tree_insert.specs.PassedLaws.{passed}
use Rattle.tree_remove.specs.Kept.{remove_keeps_w, removed_nodes}
use Rattle.tree_remove.specs.Outcomes.{RemoveBy, RemoveOutcome}

-- a state holds the leaf list ns, an index's, whose pairs are m; where the inserts so far are within kmost and vmost, so is the way that it was made
pub record Stands (s : State) (ns : List Node) (m : List Pair) (within : (kmost vmost : ℕ) → Type 0) : Type 0 where
  pub index : W s.header s.dir s.slots s.arena
  pub leaves_are : index.nodes ≡ ns
  pub pairs_are : pairs_of ns ≡ m
  pub reached : (kmost vmost : ℕ) → within kmost vmost → Reached s.header.fanout kmost vmost ns

module _ {s : State} {ns : List Node} {m : List Pair} {within : (kmost vmost : ℕ) → Type 0} (x : Stands s ns m within) where
  pub presumed : Presumed s.header s.dir s.slots s.arena ns
  presumed = subst (Presumed s.header s.dir s.slots s.arena) x.leaves_are (w_presumed x.index)

  -- an entry point's answer is for that list
  pub answered : {refusal : Type 0} (answer : List Node → Type 0) → Entry s.header s.dir s.slots s.arena refusal answer → answer ns
  answered answer o = subst answer x.leaves_are (o.held x.index)

-- a refused call leaves what stood

pub state_path : (s t : State) → s.header ≡ t.header → s.dir ≡ t.dir → s.slots ≡ t.slots → s.arena ≡ t.arena → s ≡ t
state_path s t h d l a = λ i. record { header = h i; dir = d i; slots = l i; arena = a i }

-- an accepted one leaves the list that its rule gives

told : {A : Type 0} (o : math.Option Bytes) (a b : A) → if_refused (old_told o) a b ≡ b
told none a b = refl
told (some v) a b = refl

told_type : (o : math.Option Bytes) (a b : Type 0) → if_refused (old_told o) a b → b
told_type none a b x = x
told_type (some v) a b x = x

rule_stands : {t : State} {m : List Pair} {within : (kmost vmost : ℕ) → Type 0} (ms : List Node) → W t.header t.dir t.slots t.arena
    → Holds t.header t.dir t.slots t.arena ms → pairs_of ms ≡ m → ((kmost vmost : ℕ) → within kmost vmost → Reached t.header.fanout kmost vmost ms) → Stands t ms m within
rule_stands ms w h p f = record { index = w; leaves_are = holds_unique w.holds h; pairs_are = p; reached = f }

fresh_stands : {fanout : ℕ} {dir slots arena now_dir now_slots : List ℕ} {r : Answered}
    → Freshened fanout dir slots arena now_dir now_slots fresh r → Stands (state r.header now_dir now_slots arena) fresh [] (λ kmost vmost. Unit {0})
fresh_stands f = rule_stands fresh (freshened_w f) f.holds refl (λ kmost vmost i. created)

pub created_fresh : (fanout : ℕ) (dir slots arena : List ℕ) {ms : List Node} → create_answer fanout (length dir) (length slots) (length arena) ≡ accepted ms → fresh ≡ ms
created_fresh fanout dir slots arena e = same_accepted (passed_if (not (meets_sizes fanout (length dir) (length slots) (length arena))) Shape (accepted fresh) e).1

module _ {s : State} {ns : List Node} {m : List Pair} {within : (kmost vmost : ℕ) → Type 0} (x : Stands s ns m within) where
  abbrev F : ℕ
  F = s.header.fanout

  -- insert

  abbrev InsertLeft : State → (k v : Bytes) → Result (Option ℕ) Refusal → Type 0
  InsertLeft t k v o =
      Stands t (if_refused o ns (insert_rule F k v ns)) (if_refused o m (map.put k v m))
      (λ kmost vmost. if_refused o (within kmost vmost) (((length k ≤ kmost) × (length v ≤ vmost)) × within kmost vmost))

  module _ (k v out : Bytes) (r : Changed) (after : Lent) (o : InsertOutcome s.header k v (lending s out) r after) where
    insert_by : (a : Answer model.Changed) → insert_answer F (length s.dir) (length s.arena) k v (length out) ns ≡ a → ChangedBy a s.header (lending s out) r after
        → InsertLeft (handed r after) k v r.old
    insert_by (refused y) e b =
        subst (InsertLeft (handed r after) k v) (sym b.answer.answer_is)
        (subst (λ (t : State). Stands t ns m within) (sym (state_path (handed r after) s b.header_is b.dir_is b.slots_are b.arena_is)) x)
    insert_by (accepted c) e b =
        let p = passed F (length s.dir) (length s.arena) k v (length out) ns c e in
        let q : c.nodes ≡ insert_rule F k v ns = ap (λ (z : model.Changed). z.nodes) (sym p.changed) in
        subst (InsertLeft (handed r after) k v) (sym b.answer.answer_is)
        (rw (told c.old ns (insert_rule F k v ns), told c.old m (map.put k v m))
        (rule_stands (insert_rule F k v ns) (insert_keeps_w k v (lending s out) r after x.index o) (subst (Holds r.header after.dir after.slots after.arena) q b.holds)
        (insert_pairs F k v ns (presumed x).tiles ∙ ap (map.put k v) x.pairs_are)
        (λ kmost vmost i.
        let l = told_type c.old (within kmost vmost) (((length k ≤ kmost) × (length v ≤ vmost)) × within kmost vmost) i in
        subst (λ (n : ℕ). Reached n kmost vmost (insert_rule F k v ns)) (sym b.fanout_is) (inserted k v l.0.0 l.0.1 (x.reached kmost vmost l.1)))))

    insert_stands : InsertLeft (handed r after) k v r.old
    insert_stands = insert_by (insert_answer F (length s.dir) (length s.arena) k v (length out) ns) refl (answered x (InsertBy s.header k v (lending s out) r after) o)

  -- remove

  abbrev RemoveLeft : State → (k : Bytes) → Result (Option ℕ) Refusal → Type 0
  RemoveLeft t k o = Stands t (if_refused o ns (remove_rule true k ns)) (if_refused o m (map.remove k m)) within

  module _ (k out : Bytes) (r : Changed) (after : Lent) (o : RemoveOutcome s.header k (lending s out) r after) where
    remove_by : (a : Answer model.Changed) → remove_answer true k (length out) ns ≡ a → ChangedBy a s.header (lending s out) r after → RemoveLeft (handed r after) k r.old
    remove_by (refused y) e b =
        subst (RemoveLeft (handed r after) k) (sym b.answer.answer_is)
        (subst (λ (t : State). Stands t ns m within) (sym (state_path (handed r after) s b.header_is b.dir_is b.slots_are b.arena_is)) x)
    remove_by (accepted c) e b =
        let q : c.nodes ≡ remove_rule true k ns = sym (removed_nodes k (length out) ns c e) in
        subst (RemoveLeft (handed r after) k) (sym b.answer.answer_is)
        (rw (told c.old ns (remove_rule true k ns), told c.old m (map.remove k m))
        (rule_stands (remove_rule true k ns) (remove_keeps_w k (lending s out) r after x.index o) (subst (Holds r.header after.dir after.slots after.arena) q b.holds)
        (remove_pairs true k ns (presumed x).tiles ∙ ap (map.remove k) x.pairs_are)
        (λ kmost vmost i. subst (λ (n : ℕ). Reached n kmost vmost (remove_rule true k ns)) (sym b.fanout_is) (removed k (x.reached kmost vmost i)))))

    remove_stands : RemoveLeft (handed r after) k r.old
    remove_stands = remove_by (remove_answer true k (length out) ns) refl (answered x (RemoveBy s.header k (lending s out) r after) o).changed

  -- clear, and a creation in the same buffers

  abbrev FreshLeft : State → Result (Unit {0}) Refusal → Type 0
  FreshLeft t a = Stands t (if_not_done a ns fresh) (if_not_done a m []) (λ kmost vmost. if_not_done a (within kmost vmost) (Unit {0}))

  clear_stands : (dir slots : List ℕ) (r : Answered) → ClearOutcome s.header s.dir s.slots s.arena dir slots r → FreshLeft (state r.header dir slots s.arena) r.answer
  clear_stands dir slots r o =
      let f = o.held x.index in
      subst (FreshLeft (state r.header dir slots s.arena)) (sym f.answer_is) (fresh_stands f)

  module _ (fanout : ℕ) (dir slots : List ℕ) (r : Answered) where
    create_by : (a : Answer (List Node)) → create_answer fanout (length s.dir) (length s.slots) (length s.arena) ≡ a
        → FreshBy a fanout (header 0 0 0 0) s.dir s.slots s.arena dir slots r → FreshLeft (state (if_not_done r.answer s.header r.header) dir slots s.arena) r.answer
    create_by (refused y) e b =
        subst (λ (a : Result (Unit {0}) Refusal). FreshLeft (state (if_not_done a s.header r.header) dir slots s.arena) a) (sym b.answer_is)
        (subst (λ (t : State). Stands t ns m within) (sym (state_path (state s.header dir slots s.arena) s refl b.dir_is b.slots_are refl)) x)
    create_by (accepted ms) e b =
        let q : fresh ≡ ms = created_fresh fanout s.dir s.slots s.arena e in
        subst (λ (a : Result (Unit {0}) Refusal). FreshLeft (state (if_not_done a s.header r.header) dir slots s.arena) a) (sym b.answer_is)
        (fresh_stands (subst (λ (l : List Node). Freshened fanout s.dir s.slots s.arena dir slots l r) (sym q) b))

-- all together

begun : (fanout : ℕ) (dir slots arena now_dir now_slots : List ℕ) (r : Answered) (a : Answer (List Node)) → create_answer fanout (length dir) (length slots) (length arena) ≡ a
    → FreshBy a fanout (header 0 0 0 0) dir slots arena now_dir now_slots r → r.answer ≡ Ok tt → Stands (state r.header now_dir now_slots arena) fresh [] (λ kmost vmost. Unit {0})
begun fanout dir slots arena now_dir now_slots r (refused y) e b d = cc (b.answer_is, d)
begun fanout dir slots arena now_dir now_slots r (accepted ms) e b d =
    fresh_stands (subst (λ (l : List Node). Freshened fanout dir slots arena now_dir now_slots l r) (sym (created_fresh fanout dir slots arena e)) b)

found_stands : (s : State) → Holds s.header s.dir s.slots s.arena fresh → Stands s fresh [] (λ kmost vmost. Unit {0})
found_stands s y =
    let good = fresh_good s.header.fanout (length s.dir) (length s.slots) (length s.arena) y.sizes in
    rule_stands fresh (record { nodes = fresh; holds = y; good = good }) y refl (λ kmost vmost i. created)

pub stands : {s : State} (h : History s) → Stands s (leaves_of h) (map_of h) (λ kmost vmost. Within kmost vmost h)
stands (begin fanout dir slots arena now_dir now_slots r o d) =
    begun fanout dir slots arena now_dir now_slots r (create_answer fanout (length dir) (length slots) (length arena)) refl o d
stands (found {s} y) = found_stands s y
stands (on h (read c)) = stands h
stands (on h (insert k v out r after o)) = insert_stands (stands h) k v out r after o
stands (on h (remove k out r after o)) = remove_stands (stands h) k out r after o
stands (on h (clear dir slots r o)) = clear_stands (stands h) dir slots r o
stands (on {s} h (create fanout dir slots r o)) =
    create_by (stands h) fanout dir slots r (create_answer fanout (length s.dir) (length s.slots) (length s.arena)) refl o
