-- From what the calls answer and leave to the turn of a line: on an index that has all of the lent buffers.
-- Assumes nothing.
use Rattle.std.specs.Prelude.{ℕ, ◌+◌, ◌≤◌, ◌<◌, ltb, Some, Ok, true, List, ◌≡◌, refl, length}
use Rattle.std.proofs.Common.{arith, inl, inr, sym, ap, subst, ◌∙◌}
use borrow.Author.Tests.{le-ltb, lt-ltb}
use Rattle.std.proofs.Common as rust
use Rattle.std.proofs.Math.Option.{Option, none, some}
use Rattle.answers.specs.AnswerLaws.{wrote_is}
use Rattle.answers.specs.Answers.{Wrote, answered}
use Rattle.answers.specs.Answers as said
use Rattle.changes.specs.Outcomes.{ChangedBy, Lent, old_bytes, old_told}
use Rattle.changes.specs.declared.Changed.{Changed}
use Rattle.layout.specs.Lays.{Holds, W}
use Rattle.layout.specs.LaysUnique.{holds_unique}
use Rattle.layout.specs.declared.Header.{Header}
use Rattle.lines.specs.Grammar.{Command}
use Rattle.lines.specs.Grammar.Command.{dels, gets, nexts, puts, shows}
use Rattle.lines.specs.declared.Line.{Line}
use Rattle.lines.specs.declared.Line.TheVariants.{Del, Get, Next, Put}
use Rattle.lists.proofs.PartLaws.{length-put, part-put}
use Rattle.lists.specs.Part.{put}
use Rattle.model.specs.Answers.{Answer, accepted, insert_answer, long_key, refused, remove_answer, short, size_of}
use Rattle.model.specs.Answers as model
use Rattle.model.specs.Good.{Good, limits}
use Rattle.model.specs.Leaves.{Node, pairs_of}
use Rattle.model.specs.Map.{lookup}
use Rattle.model.proofs.PairLaws.{lookup-owned, remove_absent}
use Rattle.model.specs.PassedLaws.{passed_if, same_accepted}
use Rattle.model.specs.Rules.{remove_rule}
use Rattle.model.specs.declared.Refusal.{Refusal}
use Rattle.model.specs.declared.Refusal.TheVariants.{LongKey, ShortOutput}
use Rattle.order.specs.Bytes.{Bytes}
use Rattle.session.specs.BoundLaws.{OldFits, Small, bad_most, get_most, insert_most, insert_old_fits, leaves_most, next_most, remove_most, remove_old_fits}
use Rattle.replies.specs.Replies.{NextReply, ReadAsked, ReadReply, get_said, next_said}
use Rattle.session.specs.Serving.{ChangeAsked, LineAsked, LineWithin, OldWithin, ServeAsked, ServedBy, Serves, Stands, Unmoved, old_said, told_command}
use Rattle.session.specs.Session.{answer_limit}
use Rattle.replies.specs.Texts.{changed_text, leaves_text, old_text}
use Rattle.session.specs.Turns.{Idle, Refuses, Turn, above, arena_ceiling, fanout_ceiling, line_turn, nodes_after, output_room, pool_ceiling, turn}
use Rattle.session.specs.Turns.State.{opened}
use Rattle.session.specs.declared.Served.{Served}
use Rattle.tree_insert.specs.Kept.{insert_keeps_w}
use Rattle.tree_insert.specs.Outcomes.{InsertOutcome}
use Rattle.tree_remove.specs.Kept.{remove_keeps_w}
use Rattle.tree_remove.specs.Outcomes.{RemoveOutcome}

-- an index that stands is one by W, and small

module _ {f p a : ℕ} {ns : List Node} {h : Header} {dir slots arena : List ℕ} (s : Stands f p a ns h dir slots arena) where
  abbrev pub stands_w : W h dir slots arena
  stands_w = record { nodes = ns; holds = s.holds; good = rw (s.fanout_is, s.pool_is, s.arena_is) s.good }

  pub stands_small : Small f p a ns
  stands_small = record { pool_most = s.pool_most; arena_most = s.arena_most; good = s.good }

  -- a reply that reads
  pub read_said : (text : List Node → Bytes) {out now_out : Bytes} {at r : ℕ} → ReadReply h dir slots arena text out at now_out r → Wrote out now_out at (text ns) r
  read_said text x = x stands_w

pub read_asked : {h : Header} {dir slots arena old out : List ℕ} {at : ℕ} (text : List Node → Bytes) → ServeAsked h dir slots arena old out at
    → ((f p a : ℕ) (ns : List Node) → Small f p a ns → length (text ns) ≤ answer_limit) → ReadAsked h dir slots arena text out at
read_asked {h} {dir} {arena = arena} text x most = record {
  index = stands_w x.standing.stands;
  room = omega (arith, most h.fanout (length dir) (length arena) x.standing.nodes (stands_small x.standing.stands), x.room);
}

-- what a changing call hands back, told

old_front : (old : Bytes) (o : Option Bytes) (x : rust.Result (rust.Option ℕ) Refusal) → size_of o ≤ length old → x ≡ old_told o → old_said x (put old 0 (old_bytes o)) ≡ old_text o
old_front old none x h e = rw e
old_front old (some v) x h e = rw e (ap (λ (w : Bytes). answered (said.old w)) (part-put old 0 v (omega arith)))

old_inside : (old : Bytes) (o : Option Bytes) (x : rust.Result (rust.Option ℕ) Refusal) → size_of o ≤ length old → x ≡ old_told o → OldWithin x (put old 0 (old_bytes o))
old_inside old none x h e = rw e tt
old_inside old (some v) x h e = rw e (omega (arith, length-put old 0 v (omega arith)))

header_path : {r q : Header} → r.fanout ≡ q.fanout → r.leaves ≡ q.leaves → r.pairs ≡ q.pairs → r.charge ≡ q.charge → r ≡ q
header_path f l p c = λ i. record { fanout = f i; leaves = l i; pairs = p i; charge = c i }

module _ (h : Header) (before : Lent) (r : Changed) (after : Lent) where
  -- what it leaves
  changed_stands : {f p a : ℕ} {ns : List Node} (m : Answer model.Changed) → ChangedBy m h before r after
      → Stands f p a ns h before.dir before.slots before.arena → W r.header after.dir after.slots after.arena
      → Stands f p a (nodes_after ns m) r.header after.dir after.slots after.arena
  changed_stands (refused x) k s w = rw (k.header_is, k.dir_is, k.slots_are, k.arena_is) s
  changed_stands {f} {p} {a} (accepted c) m s w =
      let fan : r.header.fanout ≡ f = m.fanout_is ∙ s.fanout_is in
      let pool : length after.dir ≡ p = m.same_dir ∙ s.pool_is in
      let are : length after.arena ≡ a = m.same_arena ∙ s.arena_is in
      let same : w.nodes ≡ c.nodes = holds_unique w.holds m.holds in
      record {
        fanout_is = fan;
        pool_is = pool;
        arena_is = are;
        fanout_most = s.fanout_most;
        pool_most = s.pool_most;
        arena_most = s.arena_most;
        holds = m.holds;
        good = subst (λ (xs : List Node). Good (limits f) p a xs) same (rw (fan, pool, are) at w.good);
      }

  changed_kept : (m : Answer model.Changed) → ChangedBy m h before r after → Refuses m
      → Unmoved h before.dir before.slots before.arena r.header after.dir after.slots after.arena
  changed_kept (refused x) k t = record { header_is = k.header_is; dir_is = k.dir_is; slots_are = k.slots_are; arena_is = k.arena_is }
  changed_kept (accepted c) m t = absurd t

  module _ (long : length before.out ≡ output_room) where
    changed_told : (m : Answer model.Changed) → OldFits m → ChangedBy m h before r after → old_said r.old after.out ≡ changed_text m
    changed_told (refused x) t k = rw k.answer.answer_is
    changed_told (accepted c) t m = rw m.out_is (old_front before.out c.old r.old (rw long t) m.answer.answer_is)

    changed_within : (m : Answer model.Changed) → OldFits m → ChangedBy m h before r after → OldWithin r.old after.out
    changed_within (refused x) t k = rw k.answer.answer_is tt
    changed_within (accepted c) t m = rw m.out_is (old_inside before.out c.old r.old (rw long t) m.answer.answer_is)

  -- `put`
  same_answer : {g q b n f p a t : ℕ} (k v : Bytes) (ns : List Node) → g ≡ f → q ≡ p → b ≡ a → n ≡ t → insert_answer g q b k v n ns ≡ insert_answer f p a k v t ns
  same_answer k v ns e i j l = rw (e, i, j, l)

  module _ (k v : Bytes) {out : Bytes} {at : ℕ} (o : InsertOutcome h k v before r after) where
    pub put_asked : ServeAsked h before.dir before.slots before.arena before.out out at → ChangeAsked r.old after.out out at
    put_asked x =
        let s = x.standing.stands in
        let w : W h before.dir before.slots before.arena = stands_w s in
        let m : Answer model.Changed = insert_answer h.fanout (length before.dir) (length before.arena) k v (length before.out) w.nodes in
        let fits : OldFits m = insert_old_fits (stands_small s) h.fanout (length before.dir) (length before.arena) k v (length before.out) in
        let told : old_said r.old after.out ≡ changed_text m = changed_told x.old_long m fits (o.held w) in
        let most : length (changed_text m) ≤ answer_limit = insert_most (stands_small s) h.fanout (length before.dir) (length before.arena) k v (length before.out) in
        record {
          within = changed_within x.old_long m fits (o.held w);
          room = rw told (omega (arith, most, x.room));
        }

    pub put_served : {now_out : Bytes} {e : ℕ} → length before.out ≡ output_room → Wrote out now_out at (old_said r.old after.out) e
        → ServedBy (some (puts k v)) h before.dir before.slots before.arena out at (record { header = r.header; at = e }) after.dir after.slots after.arena now_out
    put_served {now_out} {e} long y f p a ns s =
        let w : W h before.dir before.slots before.arena = stands_w s in
        let m : Answer model.Changed = insert_answer f p a k v output_room ns in
        let same : insert_answer h.fanout (length before.dir) (length before.arena) k v (length before.out) ns ≡ m = same_answer k v ns s.fanout_is s.pool_is s.arena_is long in
        let by : ChangedBy m h before r after = subst (λ (x : Answer model.Changed). ChangedBy x h before r after) same (o.held (stands_w s)) in
        record {
          wrote = wrote_is y (changed_told long m (insert_old_fits (stands_small s) f p a k v output_room) by);
          stands = changed_stands m by s (insert_keeps_w k v before r after w o);
          kept = changed_kept m by;
        }

  -- `del`
  absent_header : {f p a : ℕ} {ns : List Node} (k : Bytes) (n : ℕ) (m : Answer model.Changed) → remove_answer true k n ns ≡ m → ChangedBy m h before r after
      → Stands f p a ns h before.dir before.slots before.arena → lookup k (pairs_of ns) ≡ none → r.header ≡ h
  absent_header k n (refused x) e by s l = by.header_is
  absent_header {ns = ns} k n (accepted c) e by s l =
      let old = lookup k (pairs_of ns) in
      let done : accepted (record { old = old; nodes = remove_rule true k ns }) ≡ accepted c =
      (passed_if (short n old) (ShortOutput (size_of old)) _ (passed_if (long_key k) LongKey _ e).1).1 in
      let same : c.nodes ≡ ns = ap (λ (x : model.Changed). x.nodes) (sym (same_accepted done)) ∙ remove_absent true k ns (lookup-owned k ns s.good.tiles ∙ l) in
      let y : Holds r.header after.dir after.slots after.arena ns = subst (λ (xs : List Node). Holds r.header after.dir after.slots after.arena xs) same by.holds in
      header_path by.fanout_is (y.leaves_are ∙ sym s.holds.leaves_are) (y.pairs_are ∙ sym s.holds.pairs_are) (y.charge_is ∙ sym s.holds.charge_is)

  module _ (k : Bytes) {out : Bytes} {at : ℕ} (o : RemoveOutcome h k before r after) where
    pub del_asked : ServeAsked h before.dir before.slots before.arena before.out out at → ChangeAsked r.old after.out out at
    del_asked x =
        let s = x.standing.stands in
        let w : W h before.dir before.slots before.arena = stands_w s in
        let m : Answer model.Changed = remove_answer true k (length before.out) w.nodes in
        let fits : OldFits m = remove_old_fits (stands_small s) k (length before.out) in
        let told : old_said r.old after.out ≡ changed_text m = changed_told x.old_long m fits (o.held w).changed in
        let most : length (changed_text m) ≤ answer_limit = remove_most (stands_small s) k (length before.out) in
        record {
          within = changed_within x.old_long m fits (o.held w).changed;
          room = rw told (omega (arith, most, x.room));
        }

    pub del_served : {now_out : Bytes} {e : ℕ} → length before.out ≡ output_room → Wrote out now_out at (old_said r.old after.out) e
        → ServedBy (some (dels k)) h before.dir before.slots before.arena out at (record { header = r.header; at = e }) after.dir after.slots after.arena now_out
    del_served {now_out} {e} long y f p a ns s =
        let w : W h before.dir before.slots before.arena = stands_w s in
        let m : Answer model.Changed = remove_answer true k output_room ns in
        let by : ChangedBy m h before r after = rw long at (o.held (stands_w s)).changed in
        record {
          wrote = wrote_is y (changed_told long m (remove_old_fits (stands_small s) k output_room) by);
          stands = changed_stands m by s (remove_keeps_w k before r after w o);
          kept = λ t. elim t [
            | inl x ↦ changed_kept m by x
            | inr l ↦ record {
              header_is = absent_header k output_room m refl by s l;
              dir_is = ap (λ (x : Lent). x.dir) ((o.held w).absent l);
              slots_are = ap (λ (x : Lent). x.slots) ((o.held w).absent l);
              arena_is = ap (λ (x : Lent). x.arena) ((o.held w).absent l);
            }
          ];
        }

-- the lines

unmoved : (h : Header) (dir slots arena : List ℕ) → Unmoved h dir slots arena h dir slots arena
unmoved h dir slots arena = record { header_is = refl; dir_is = refl; slots_are = refl; arena_is = refl }

module _ {h : Header} {dir slots arena : List ℕ} {line : Line} {key value old out : List ℕ} {at : ℕ} (w : LineAsked h dir slots arena line key value old out at) where
  within_at : (other : Line) → line ≡ other → LineWithin other key value
  within_at other e = subst (λ (l : Line). LineWithin l key value) e w.within

  pub put-within : {n m : ℕ} → line ≡ Put n m → (n ≤ length key) × (m ≤ length value)
  put-within {n} {m} e = within_at (Put n m) e

  pub get_within : {n : ℕ} → line ≡ Get n → n ≤ length key
  get_within {n} e = within_at (Get n) e

  pub del_within : {n : ℕ} → line ≡ Del n → n ≤ length key
  del_within {n} e = within_at (Del n) e

  pub next_within : {n : ℕ} → line ≡ Next n → n ≤ length key
  next_within {n} e = within_at (Next n) e

module _ {h : Header} {dir slots arena out : List ℕ} {at : ℕ} where
  -- a line serves as the command that it is told by
  pub told_served : {now_dir now_slots now_arena now_out : List ℕ} {r : Served} (line other : Line) (key value : Bytes) → line ≡ other
      → ServedBy (told_command (Some other) key value) h dir slots arena out at r now_dir now_slots now_arena now_out
      → ServedBy (told_command (Some line) key value) h dir slots arena out at r now_dir now_slots now_arena now_out
  told_served {now_dir} {now_slots} {now_arena} {now_out} {r} line other key value e x =
      subst (λ (l : Line). ServedBy (told_command (Some l) key value) h dir slots arena out at r now_dir now_slots now_arena now_out) (sym e) x

  -- those that read
  module _ {now_out : List ℕ} {r : ℕ} where
    read_served : (c : Option Command) (text : List Node → Bytes) → ((f p a : ℕ) (ns : List Node) → line_turn (opened f p a ns) c ≡ turn (text ns) (opened f p a ns))
        → ReadReply h dir slots arena text out at now_out r → ServedBy c h dir slots arena out at (record { header = h; at = r }) dir slots arena now_out
    read_served c text e x f p a ns s =
        subst (λ (t : Turn). Serves t (Idle (opened f p a ns) c) h dir slots arena out at (record { header = h; at = r }) dir slots arena now_out) (sym (e f p a ns))
        (record { wrote = read_said s text x; stands = s; kept = λ _. unmoved h dir slots arena })

    pub get_served : (k : Bytes) → ReadReply h dir slots arena (get_said k) out at now_out r
        → ServedBy (some (gets k)) h dir slots arena out at (record { header = h; at = r }) dir slots arena now_out
    get_served k x = read_served (some (gets k)) (get_said k) (λ f p a ns. refl) x

    pub next_served : (k old now_old : Bytes) → length old ≡ output_room → NextReply h dir slots arena k old out at now_old now_out r
        → ServedBy (some (nexts k)) h dir slots arena out at (record { header = h; at = r }) dir slots arena now_out
    next_served k old now_old l x = read_served (some (nexts k)) (next_said k (length old)) (λ f p a ns. rw l) x.said

    pub leaves_served : ReadReply h dir slots arena leaves_text out at now_out r
        → ServedBy (some shows) h dir slots arena out at (record { header = h; at = r }) dir slots arena now_out
    leaves_served x = read_served (some shows) leaves_text (λ f p a ns. refl) x

    pub bad_served : Wrote out now_out at (answered said.bad) r → ServedBy none h dir slots arena out at (record { header = h; at = r }) dir slots arena now_out
    bad_served x f p a ns s = record { wrote = x; stands = s; kept = λ _. unmoved h dir slots arena }

  module _ {old : List ℕ} (x : ServeAsked h dir slots arena old out at) where
    pub get_asked : (k : Bytes) → ReadAsked h dir slots arena (get_said k) out at
    get_asked k = read_asked (get_said k) x (λ f p a ns s. get_most s k)

    pub leaves_asked : ReadAsked h dir slots arena leaves_text out at
    leaves_asked = read_asked leaves_text x (λ f p a ns s. leaves_most s)

    pub next_asked : (k : Bytes) → ReadAsked h dir slots arena (next_said k (length old)) out at
    next_asked k = read_asked (next_said k (length old)) x (λ f p a ns s. next_most s k (length old))

    pub bad_asked : at + length (answered said.bad) ≤ length out
    bad_asked = omega (arith, bad_most, x.room)

-- what is told of a change, by its cases

module _ {x : rust.Result (rust.Option ℕ) Refusal} {old out : Bytes} {at : ℕ} (q : ChangeAsked x old out at) where
  pub value_within : {n : ℕ} → x ≡ Ok (Some n) → n ≤ length old
  value_within {n} e = go (Ok (Some n)) e
    where
      go : (y : rust.Result (rust.Option ℕ) Refusal) → x ≡ y → OldWithin y old
      go y e = subst (λ (y : rust.Result (rust.Option ℕ) Refusal). OldWithin y old) e q.within

  pub old_room : (y : rust.Result (rust.Option ℕ) Refusal) → x ≡ y → at + length (old_said y old) ≤ length out
  old_room y e = subst (λ (y : rust.Result (rust.Option ℕ) Refusal). at + length (old_said y old) ≤ length out) e q.room

pub old_wrote : {out now_out : Bytes} {at r : ℕ} (x y : rust.Result (rust.Option ℕ) Refusal) (old : Bytes) → x ≡ y → Wrote out now_out at (old_said y old) r → Wrote out now_out at (old_said x old) r
old_wrote {out} {now_out} {at} {r} x y old e w = subst (λ (y : rust.Result (rust.Option ℕ) Refusal). Wrote out now_out at (old_said y old) r) (sym e) w

-- which sizes are above a ceiling, at the numbers themselves

module _ (f p a : ℕ) where
  pub above_fanout : 64 < f → true ≡ above f p a
  unfolding fanout_ceiling
  above_fanout h = rw (lt-ltb 64 f h)

  pub above_pool : f ≤ 64 → 64 < p → true ≡ above f p a
  unfolding fanout_ceiling pool_ceiling
  above_pool g h = rw (le-ltb 64 f g, lt-ltb 64 p h)

  pub above_arena : f ≤ 64 → p ≤ 64 → ltb 16384 a ≡ above f p a
  unfolding fanout_ceiling pool_ceiling arena_ceiling
  above_arena g h = rw (le-ltb 64 f g, le-ltb 64 p h)
