-- From what `parse` told of a line, and the turn that was taken, to the contract of `reply`.
-- Assumes nothing.
use Rattle.std.specs.Prelude.{ℕ, ◌+◌, ◌≤◌, None, Some, List, ◌≡◌, refl, length}
use Rattle.std.proofs.Common.{arith, sym, ap, subst, ◌∙◌}
use Rattle.std.proofs.Common as rust
use Rattle.std.proofs.Math.Option.{Option, none, some}
use Rattle.answers.specs.Answers.{Wrote, answered}
use Rattle.answers.specs.Answers as said
use Rattle.lines.specs.Grammar.{Command, Front, Parsed, Says}
use Rattle.lines.specs.OneLaws.{says_one}
use Rattle.lines.specs.declared.Line.{Line}
use Rattle.lines.specs.declared.Line.TheVariants.{Del, Get, Leaves, New, Next, Put}
use Rattle.lines.specs.declared.Sizes.{Sizes}
use Rattle.order.specs.Bytes.{Bytes}
use Rattle.session.specs.BoundLaws.{SmallState, bad_most, turn_most}
use Rattle.session.specs.Serving.{Ample, BadReplied, LineWithin, NewAsked, OpenAsked, Ordinary, Replies, RepliedBy, holding, told_command}
use Rattle.session.specs.Session.{Carries, FrontsIn, ReplyAsked, ReplyMade, Tells}
use Rattle.session.specs.Turns.{Idle, NewIdle, State, Turn, line_turn, new_turn, turn}
use Rattle.session.specs.Turns.State.{closed, opened}
use Rattle.session.specs.declared.Open.{Open}
use Rattle.session.specs.declared.Replied.{Replied}
use Rattle.session.specs.declared.Session.{Session}

-- a line says what `parse` told, and nothing else

one_told : (line : Bytes) (c : Option Command) (d : Command) → Says line d → Tells line c → c ≡ some d
one_told line none d x t = absurd (t d x)
one_told line (some e) d x t = ap some (says_one t x)

no_told : (line : Bytes) (c : Option Command) → ((d : Command) → Says line d → ⊥) → Tells line c → c ≡ none
no_told line none n t = refl
no_told line (some e) n t = absurd (n e t)

-- its bytes are inside the buffers
front_in : {was now_is : Bytes} {n : ℕ} → Front was now_is n → n ≤ length now_is
front_in f = omega (arith, f.within, f.long)

module _ (line key key' value value' : Bytes) where
  told_one : (q : rust.Option Line) (c : Option Command) → Parsed line key key' value value' q → Tells line c → c ≡ told_command q key' value'
  told_one (Some (New s)) c x t = one_told line c _ x.0 t
  told_one (Some (Put n m)) c x t = one_told line c _ x.0 t
  told_one (Some (Get n)) c x t = one_told line c _ x.0 t
  told_one (Some (Del n)) c x t = one_told line c _ x.0 t
  told_one (Some (Next n)) c x t = one_told line c _ x.0 t
  told_one (Some Leaves) c x t = one_told line c _ x.0 t
  told_one None c x t = no_told line c x.0 t

  told_tells : (q : rust.Option Line) → Parsed line key key' value value' q → Tells line (told_command q key' value')
  told_tells (Some (New s)) x = x.0
  told_tells (Some (Put n m)) x = x.0
  told_tells (Some (Get n)) x = x.0
  told_tells (Some (Del n)) x = x.0
  told_tells (Some (Next n)) x = x.0
  told_tells (Some Leaves) x = x.0
  told_tells None x = x.0

  told_within : (q : Line) → Parsed line key key' value value' (Some q) → LineWithin q key' value'
  told_within (New s) x = tt
  told_within (Put n m) x = (front_in x.1, front_in x.2)
  told_within (Get n) x = front_in x.1
  told_within (Del n) x = front_in x.1
  told_within (Next n) x = front_in x.1
  told_within Leaves x = tt

-- a session that holds an index
held : {s : Session} {o : Open} → s.index ≡ Some o → s ≡ holding o
held e = λ i. record { index = e i }

-- what carries a state is small

small_state : (z : State) (s : Session) (dir slots arena : List ℕ) → Carries z s dir slots arena → SmallState z
small_state closed s dir slots arena w = tt
small_state (opened f p a ns) s dir slots arena w = go s.index w
  where
    go : (o : rust.Option Open) → FrontsIn f p a ns o dir slots arena → SmallState (opened f p a ns)
    go (Some o) w = record { pool_most = w.pool_most; arena_most = w.arena_most; good = w.good }
    go None w = absurd w

module _ {s : Session} {dir slots arena key value old out : List ℕ} {at : ℕ} (x : ReplyAsked s dir slots arena key value old out at) where
  pub reply_ample : Ample dir slots arena
  reply_ample = record { dir_long = x.sized.dir_long; slots_long = x.sized.slots_long; arena_long = x.sized.arena_long }

  pub reply_new_asked : NewAsked dir slots arena out at
  reply_new_asked = record { ample = reply_ample; room = x.room }

  pub reply_bad_asked : at + length (answered said.bad) ≤ length out
  reply_bad_asked = omega (arith, bad_most, x.room)

  pub reply_open_asked : (line key' value' : Bytes) (q : Line) {open_is : Open} → Parsed line key key' value value' (Some q) → Ordinary q → s.index ≡ Some open_is
      → OpenAsked open_is dir slots arena q key' value' old out at
  reply_open_asked line key' value' q y o e = record {
    ample = reply_ample;
    state = x.state;
    carries = subst (λ (t : Session). Carries x.state t dir slots arena) (held e) x.carries;
    ordinary = o;
    within = told_within line key key' value value' q y;
    old_long = x.sized.old_long;
    room = x.room;
  }

  -- the turn that was taken is the line's
  pub reply_made : (line key' value' : Bytes) (q : rust.Option Line) {r : Replied} {now_dir now_slots now_arena now_out : List ℕ} → Parsed line key key' value value' q
      → length now_dir ≡ length dir → length now_slots ≡ length slots → length now_arena ≡ length arena
      → RepliedBy (λ z. line_turn z (told_command q key' value')) (λ z. Idle z (told_command q key' value')) s dir slots arena out at r now_dir now_slots now_arena now_out
      → ReplyMade s dir slots arena line out at r now_dir now_slots now_arena now_out
  reply_made line key' value' q {r} {now_dir} {now_slots} {now_arena} {now_out} y i j k v = record {
    answered = λ z c w t. subst (λ (d : Option Command). Wrote out now_out at (line_turn z d).text r.at) (sym (told_one line key key' value value' q c y t)) (v z w).wrote;
    carried = λ z c w t. subst (λ (d : Option Command). Carries (line_turn z d).state r.session now_dir now_slots now_arena) (sym (told_one line key key' value value' q c y t)) (v z w).carries;
    kept = λ z c w t i. (v z w).kept (subst (λ (d : Option Command). Idle z d) (told_one line key key' value value' q c y t) i);
    behind =
        omega (
          arith,
          (v x.state x.carries).wrote.behind,
          turn_most x.state (told_command q key' value') (small_state x.state s dir slots arena x.carries),
        );
    said = told_command q key' value';
    tells = told_tells line key key' value value' q y;
    sizes = λ k₂ v₂ o₂ z. record {
      dir_long = i ∙ z.dir_long;
      slots_long = j ∙ z.slots_long;
      arena_long = k ∙ z.arena_long;
      key_long = z.key_long;
      value_long = z.value_long;
      old_long = z.old_long;
    };
  }

-- `new`, whatever stands

pub new_line : {s : Session} {dir slots arena out : List ℕ} {at : ℕ} {r : Replied} {now_dir now_slots now_arena now_out : List ℕ} (n : Sizes) (key value : Bytes)
    → RepliedBy (λ z. new_turn z n.fanout n.pool n.arena) (λ _. NewIdle n.fanout n.pool n.arena) s dir slots arena out at r now_dir now_slots now_arena now_out
    → RepliedBy (λ z. line_turn z (told_command (Some (New n)) key value)) (λ z. Idle z (told_command (Some (New n)) key value)) s dir slots arena out at r now_dir now_slots now_arena now_out
new_line {s} {dir} {slots} {arena} {out} {at} {r} {now_dir} {now_slots} {now_arena} {now_out} n key value v z w = go z (v z w)
  where
    go : (y : State) → Replies (new_turn y n.fanout n.pool n.arena) (NewIdle n.fanout n.pool n.arena) s dir slots arena out at r now_dir now_slots now_arena now_out
        → Replies (line_turn y (told_command (Some (New n)) key value)) (Idle y (told_command (Some (New n)) key value)) s dir slots arena out at r now_dir now_slots now_arena now_out
    go closed x = x
    go (opened g p b ns) x = x

-- any other line, where there is no index, and a line that says nothing

closed_turn : (q : Line) (key value : Bytes) → Ordinary q → line_turn closed (told_command (Some q) key value) ≡ turn (answered said.bad) closed
closed_turn (New n) key value o = absurd o
closed_turn (Put n m) key value o = refl
closed_turn (Get n) key value o = refl
closed_turn (Del n) key value o = refl
closed_turn (Next n) key value o = refl
closed_turn Leaves key value o = refl

module _ {s : Session} {dir slots arena out now_out : List ℕ} {at : ℕ} {r : Replied} (y : BadReplied s out at r now_out) where
  bad_turn : (z : State) (t : Turn) (idle : Type 0) → t ≡ turn (answered said.bad) z → Carries z s dir slots arena
      → Replies t idle s dir slots arena out at r dir slots arena now_out
  bad_turn z t idle e w =
      subst (λ (u : Turn). Replies u idle s dir slots arena out at r dir slots arena now_out) (sym e)
      (record {
        wrote = y.wrote;
        carries = subst (λ (k : Session). Carries z k dir slots arena) (sym y.session_is) w;
        kept = λ _. record { session_is = y.session_is; dir_is = refl; slots_are = refl; arena_is = refl };
      })

  pub closed_line : (q : Line) (key value : Bytes) → Ordinary q → s.index ≡ None
      → RepliedBy (λ z. line_turn z (told_command (Some q) key value)) (λ z. Idle z (told_command (Some q) key value)) s dir slots arena out at r dir slots arena now_out
  closed_line q key value o i closed w = bad_turn closed _ _ (closed_turn q key value o) w
  closed_line q key value o i (opened f p a ns) w = absurd (subst (λ (k : rust.Option Open). FrontsIn f p a ns k dir slots arena) i w)

  pub bad_line : (key value : Bytes) → RepliedBy (λ z. line_turn z (told_command None key value)) (λ z. Idle z (told_command None key value)) s dir slots arena out at r dir slots arena now_out
  bad_line key value closed w = bad_turn closed _ _ refl w
  bad_line key value (opened f p a ns) w = bad_turn (opened f p a ns) _ _ refl w

-- an index that a session holds

pub open_line : {s : Session} {o : Open} {t : State → Turn} {idle : State → Type 0} {dir slots arena out : List ℕ} {at : ℕ} {r : Replied} {now_dir now_slots now_arena now_out : List ℕ}
    → s.index ≡ Some o → RepliedBy t idle (holding o) dir slots arena out at r now_dir now_slots now_arena now_out
    → RepliedBy t idle s dir slots arena out at r now_dir now_slots now_arena now_out
open_line {t = t} {idle} {dir} {slots} {arena} {out} {at} {r} {now_dir} {now_slots} {now_arena} {now_out} e y =
    subst (λ (k : Session). RepliedBy t idle k dir slots arena out at r now_dir now_slots now_arena now_out) (sym (held e)) y
