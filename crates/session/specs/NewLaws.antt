-- `new`: above a ceiling it is refused, and what stood stands; else a fresh index has the fronts of the buffers, or it is refused by its sizes.
-- Assumes nothing.
use Rattle.std.specs.Prelude.{ℕ, ◌+◌, ◌*◌, ◌≤◌, Bool, None, Some, cond, false, not, true, List, ◌++◌, ◌≡◌, refl, drop, length, take}
use Rattle.std.proofs.Common.{arith, inl, inr, sym, ap, subst, ◌∙◌, take-append-drop, length-take-le}
use Rattle.answers.specs.AnswerLaws.{wrote_is}
use Rattle.answers.specs.Answers.{Wrote}
use Rattle.model.specs.PassedLaws.{passed_if, same_accepted}
use Rattle.layout.proofs.Examples.{fresh_good}
use Rattle.layout.specs.declared.Header.{Header}
use Rattle.model.specs.Answers.{Answer, accepted, create_answer, meets_sizes, refused}
use Rattle.model.specs.Good.{Good, limits}
use Rattle.model.specs.Leaves.{Node}
use Rattle.model.specs.Rules.{fresh}
use Rattle.model.specs.declared.Refusal.TheVariants.{Shape}
use Rattle.replies.specs.Replies.{NewReply, kept, made, new_said}
use Rattle.replies.specs.Texts.{new_text, refusal_text}
use Rattle.replies.specs.declared.Opened.{Opened}
use Rattle.session.specs.BoundLaws.{opens_most, refusal_most}
use Rattle.session.specs.FrontLaws.{Parts, Within, ample_parts, back_carries, not_above}
use Rattle.session.specs.Serving.{NewAsked, Replies, RepliedBy, Stands, has_index}
use Rattle.session.specs.Session.{Carries}
use Rattle.session.specs.Turns.{NewIdle, Refuses, State, above, new_turn, open_turn, turn}
use Rattle.session.specs.Turns.State.{opened}
use Rattle.session.specs.declared.Session.{Session}

module _ {dir slots arena out : List ℕ} {at : ℕ} (x : NewAsked dir slots arena out at) where
  pub refuse_asked : at + length (refusal_text Shape) ≤ length out
  refuse_asked = omega (arith, refusal_most Shape, x.room)

  pub new_parts : {f p a : ℕ} {b : Bool} → b ≡ above f p a → b ≡ false → Parts f p a dir slots arena
  new_parts e l = ample_parts x.ample (not_above (sym e ∙ l))

  pub new_asked : (f p a : ℕ) → at + length (new_said f (take p dir) (take (f * p) slots) (take a arena)) ≤ length out
  new_asked f p a = omega (arith, opens_most (create_answer f (length (take p dir)) (length (take (f * p) slots)) (length (take a arena))), x.room)

module _ {dir slots arena out : List ℕ} {at : ℕ} (s : Session) (f p a : ℕ) where
  -- above a ceiling
  pub above_replied : {now_out : List ℕ} {e : ℕ} → above f p a ≡ true → Wrote out now_out at (refusal_text Shape) e
      → RepliedBy (λ z. new_turn z f p a) (λ _. NewIdle f p a) s dir slots arena out at (record { session = s; at = e }) dir slots arena now_out
  above_replied {now_out} {e} t y z w =
      subst (λ (b : Bool). Replies (cond b (turn (refusal_text Shape) z) (open_turn z f p a (create_answer f p (f * p) a))) (NewIdle f p a) s dir slots arena out at (record { session = s; at = e }) dir slots arena now_out) (sym t)
      (record { wrote = y; carries = w; kept = λ _. record { session_is = refl; dir_is = refl; slots_are = refl; arena_is = refl } })

-- within them

-- the same answer, of the fronts and of the numbers
same_create : {f p a : ℕ} {dir slots arena : List ℕ} → Parts f p a dir slots arena
    → create_answer f p (f * p) a ≡ create_answer f (length (take p dir)) (length (take (f * p) slots)) (length (take a arena))
same_create {f} {p} {a} {dir} {slots} {arena} q =
    rw (length-take-le p dir q.pool_in, length-take-le (f * p) slots q.words_in, length-take-le a arena q.arena_in)

-- an accepted creation leaves the fresh list
fresh_accepted : (f p w a : ℕ) (ns : List Node) → create_answer f p w a ≡ accepted ns → fresh ≡ ns
fresh_accepted f p w a ns e = same_accepted (passed_if (not (meets_sizes f p w a)) Shape (accepted fresh) e).1

not_idle : (f p a : ℕ) (ns : List Node) → above f p a ≡ false → create_answer f p (f * p) a ≡ accepted ns → NewIdle f p a → ⊥
not_idle f p a ns u e (inl t) = let z : ◌≡◌ {A = ℕ} 0 1 = cc (t, u) in omega (arith, z)
not_idle f p a ns u e (inr t) = subst Refuses e t

pub made_is : (r : Opened) {h : Header} → r.header ≡ Some h → r ≡ made h r.at
made_is r e = λ i. record { header = e i; at = r.at }

pub kept_is : (r : Opened) → r.header ≡ None → r ≡ kept r.at
kept_is r e = λ i. record { header = e i; at = r.at }

kept_place : {m n : ℕ} → kept m ≡ kept n → m ≡ n
kept_place e = ap (λ (r : Opened). r.at) e

kept_made : {A : Type 0} {m n : ℕ} {h : Header} → kept m ≡ made h n → A
kept_made e = let f = ap (λ (r : Opened). r.header) e in absurd (let z : ◌≡◌ {A = ℕ} 0 1 = cc (f) in omega (arith, z))

record SameMade (h g : Header) (m n : ℕ) : Type 0 where
  headers : h ≡ g
  places : m ≡ n

made_parts : {h g : Header} {m n : ℕ} → made h m ≡ made g n → SameMade h g m n
made_parts e = let f = ap (λ (r : Opened). r.header) e in record { headers = cc (f); places = ap (λ (r : Opened). r.at) e }

module _ {dir slots arena : List ℕ} (out : List ℕ) (at : ℕ) (s : Session) (f p a : ℕ) (m : Within f p a) (q : Parts f p a dir slots arena) (u : above f p a ≡ false) (now_dir now_slots now_out : List ℕ) (r : Opened)
    (i : length now_dir ≡ length (take p dir)) (j : length now_slots ≡ length (take (f * p) slots)) where
  dir_long : length now_dir ≡ p
  dir_long = i ∙ length-take-le p dir q.pool_in

  slots_long : length now_slots ≡ f * p
  slots_long = j ∙ length-take-le (f * p) slots q.words_in

  by_open : (t : Session) (e : ℕ) (o : Answer (List Node)) → create_answer f p (f * p) a ≡ o
      → ((z : State) → Carries z s dir slots arena → Replies (open_turn z f p a o) (NewIdle f p a) s dir slots arena out at (record { session = t; at = e }) (now_dir ++ drop p dir) (now_slots ++ drop (f * p) slots) arena now_out)
      → RepliedBy (λ z. new_turn z f p a) (λ _. NewIdle f p a) s dir slots arena out at (record { session = t; at = e }) (now_dir ++ drop p dir) (now_slots ++ drop (f * p) slots) arena now_out
  by_open t e o y h z w =
      subst (λ (b : Bool). Replies (cond b (turn (refusal_text Shape) z) (open_turn z f p a (create_answer f p (f * p) a))) (NewIdle f p a) s dir slots arena out at (record { session = t; at = e }) (now_dir ++ drop p dir) (now_slots ++ drop (f * p) slots) arena now_out) (sym u)
      (subst (λ (b : Answer (List Node)). Replies (open_turn z f p a b) (NewIdle f p a) s dir slots arena out at (record { session = t; at = e }) (now_dir ++ drop p dir) (now_slots ++ drop (f * p) slots) arena now_out) (sym y) (h z w))

  abbrev Came : Answer (List Node) → Type 0
  Came o = NewReply o f (take p dir) (take (f * p) slots) (take a arena) out at now_dir now_slots now_out r

  pub kept_replied : {e : ℕ} → Came (create_answer f (length (take p dir)) (length (take (f * p) slots)) (length (take a arena))) → r ≡ kept e
      → RepliedBy (λ z. new_turn z f p a) (λ _. NewIdle f p a) s dir slots arena out at (record { session = s; at = e }) (now_dir ++ drop p dir) (now_slots ++ drop (f * p) slots) arena now_out
  kept_replied {e} y g = go (create_answer f (length (take p dir)) (length (take (f * p) slots)) (length (take a arena))) refl y
    where
      go : (o : Answer (List Node)) → create_answer f (length (take p dir)) (length (take (f * p) slots)) (length (take a arena)) ≡ o → Came o
          → RepliedBy (λ z. new_turn z f p a) (λ _. NewIdle f p a) s dir slots arena out at (record { session = s; at = e }) (now_dir ++ drop p dir) (now_slots ++ drop (f * p) slots) arena now_out
      go (accepted ns) b v = kept_made (sym g ∙ v.is)
      go (refused x) b v =
          let place : v.place ≡ e = kept_place (sym v.is ∙ g) in
          let dirs : dir ≡ now_dir ++ drop p dir = sym (take-append-drop p dir) ∙ ap (λ (t : List ℕ). t ++ drop p dir) (sym v.dir_is) in
          let words : slots ≡ now_slots ++ drop (f * p) slots = sym (take-append-drop (f * p) slots) ∙ ap (λ (t : List ℕ). t ++ drop (f * p) slots) (sym v.slots_are) in
          by_open s e (refused x) (same_create q ∙ b) (λ z w. record {
            wrote = subst (λ (n : ℕ). Wrote out now_out at (refusal_text x) n) place (wrote_is v.wrote (ap new_text b));
            carries = subst (λ (d : List ℕ). Carries z s d (now_slots ++ drop (f * p) slots) arena) dirs (subst (λ (d : List ℕ). Carries z s dir d arena) words w);
            kept = λ _. record { session_is = refl; dir_is = sym dirs; slots_are = sym words; arena_is = refl };
          })

  pub made_replied : {h : Header} {e : ℕ} {t : Session} → Came (create_answer f (length (take p dir)) (length (take (f * p) slots)) (length (take a arena))) → r ≡ made h e → t ≡ has_index h p a
      → RepliedBy (λ z. new_turn z f p a) (λ _. NewIdle f p a) s dir slots arena out at (record { session = t; at = e }) (now_dir ++ drop p dir) (now_slots ++ drop (f * p) slots) arena now_out
  made_replied {h} {e} {t} y g c = go (create_answer f (length (take p dir)) (length (take (f * p) slots)) (length (take a arena))) refl y
    where
      go : (o : Answer (List Node)) → create_answer f (length (take p dir)) (length (take (f * p) slots)) (length (take a arena)) ≡ o → Came o
          → RepliedBy (λ z. new_turn z f p a) (λ _. NewIdle f p a) s dir slots arena out at (record { session = t; at = e }) (now_dir ++ drop p dir) (now_slots ++ drop (f * p) slots) arena now_out
      go (refused x) b v = kept_made (sym v.is ∙ g)
      go (accepted ns) b v =
          let same = made_parts (sym v.is ∙ g) in
          let bytes : length (take a arena) ≡ a = length-take-le a arena q.arena_in in
          let fan : v.header.fanout ≡ f = ap (λ (g : Header). g.fanout) v.fresh.header_is in
          let good : Good (limits v.header.fanout) (length now_dir) (length (take a arena)) fresh = fresh_good v.header.fanout (length now_dir) (length now_slots) (length (take a arena)) v.holds.sizes in
          let stands : Stands f p a ns v.header now_dir now_slots (take a arena) = record {
            fanout_is = fan;
            pool_is = dir_long;
            arena_is = bytes;
            fanout_most = m.fanout_most;
            pool_most = m.pool_most;
            arena_most = m.arena_most;
            holds = v.holds;
            good = subst (λ (xs : List Node). Good (limits f) p a xs) (fresh_accepted f _ _ _ ns b) (rw (fan, dir_long, bytes) at good);
          } in
          by_open t e (accepted ns) (same_create q ∙ b) (λ z w. record {
            wrote = subst (λ (n : ℕ). Wrote out now_out at (new_text (accepted ns)) n) same.places (wrote_is v.wrote (ap new_text b));
            carries =
                subst (λ (d : Session). Carries (opened f p a ns) d (now_dir ++ drop p dir) (now_slots ++ drop (f * p) slots) arena) (sym c)
                (subst (λ (g : Header). Carries (opened f p a ns) (has_index g p a) (now_dir ++ drop p dir) (now_slots ++ drop (f * p) slots) arena) same.headers
                (subst (λ (d : List ℕ). Carries (opened f p a ns) (has_index v.header p a) (now_dir ++ drop p dir) (now_slots ++ drop (f * p) slots) d) (take-append-drop a arena)
                (back_carries (opened f p a ns) v.header dir slots arena now_dir now_slots (take a arena) p (f * p) a dir_long slots_long bytes stands)));
            kept = λ d. absurd (not_idle f p a ns u (same_create q ∙ b) d);
          })
