-- The fronts of the program's buffers, lent and come back: from what stands in the buffers to an index that has all of its own, and back.
-- Assumes nothing.
use Rattle.std.specs.Prelude.{ℕ, ◌*◌, ◌≤◌, None, Some, Bool, cond, false, true, List, ◌++◌, ◌≡◌, refl, ltb, drop, length, take}
use Rattle.std.proofs.Common.{mul-le-mul, arith, ltb-false, sym, ap, subst, ◌∙◌, take-append-drop, length-take-le, take_at}
use Rattle.std.proofs.Math.Option.{Option}
use Rattle.layout.specs.Lays.{Holds}
use Rattle.layout.specs.declared.Header.{Header}
use Rattle.lines.specs.Grammar.{Command}
use Rattle.lines.specs.declared.Line.{Line}
use Rattle.model.specs.Leaves.{Node}
use Rattle.session.specs.Serving.{Ample, LineAsked, OpenAsked, RepliedBy, ServedBy, Standing, Stands, StandsIn, has_index, holding}
use Rattle.session.specs.Session.{Carries, Fronts, no_index}
use Rattle.session.specs.Turns.{Idle, State, above, arena_ceiling, fanout_ceiling, line_turn, pool_ceiling}
use Rattle.session.specs.Turns.State.{closed, opened}
use Rattle.session.specs.declared.Open.{Open}
use Rattle.session.specs.declared.Served.{Served}
use Rattle.session.specs.declared.Session.{Session}

-- sizes within the ceilings
pub record Within (f p a : ℕ) : Type 0 where
  pub fanout_most : f ≤ fanout_ceiling
  pub pool_most : p ≤ pool_ceiling
  pub arena_most : a ≤ arena_ceiling

-- such fronts are there
pub record Parts (f p a : ℕ) (dir slots arena : List ℕ) : Type 0 where
  pub pool_in : p ≤ length dir
  pub words_in : f * p ≤ length slots
  pub arena_in : a ≤ length arena
  pub words_most : f * p ≤ 4096

pub ample_parts : {f p a : ℕ} {dir slots arena : List ℕ} → Ample dir slots arena → Within f p a → Parts f p a dir slots arena
unfolding fanout_ceiling pool_ceiling
ample_parts {f} {p} m w =
    let words : f * p ≤ fanout_ceiling * pool_ceiling = mul-le-mul w.fanout_most w.pool_most in
    record {
      pool_in = omega (arith, w.pool_most, m.dir_long);
      words_in = omega (arith, words, m.slots_long);
      arena_in = omega (arith, w.arena_most, m.arena_long);
      words_most = words;
    }

pub not_above : {f p a : ℕ} → above f p a ≡ false → Within f p a
not_above {f} {p} {a} e = go (ltb fanout_ceiling f) (ltb pool_ceiling p) refl refl e
  where
    go : (b d : Bool) → ltb fanout_ceiling f ≡ b → ltb pool_ceiling p ≡ d → cond b true (cond d true (ltb arena_ceiling a)) ≡ false → Within f p a
    go true d i j e = absurd (let z : ◌≡◌ {A = ℕ} 0 1 = cc in omega arith)
    go false true i j e = absurd (let z : ◌≡◌ {A = ℕ} 0 1 = cc in omega arith)
    go false false i j e = record {
      fanout_most = ltb-false fanout_ceiling f i;
      pool_most = ltb-false pool_ceiling p j;
      arena_most = ltb-false arena_ceiling a e;
    }

-- an index in the fronts, as one that has all of its buffers

fronts_within : {f p a : ℕ} {ns : List Node} {s : Open} {dir slots arena : List ℕ} → Fronts f p a ns s dir slots arena → Within f p a
fronts_within x = record { fanout_most = x.fanout_most; pool_most = x.pool_most; arena_most = x.arena_most }

module _ {f p a : ℕ} {ns : List Node} {s : Open} {dir slots arena : List ℕ} (m : Ample dir slots arena) (x : Fronts f p a ns s dir slots arena) where
  fronts_stand : Stands f p a ns s.header (take p dir) (take (f * p) slots) (take a arena)
  fronts_stand =
      let q = ample_parts m (fronts_within x) in
      record {
        fanout_is = x.fanout_is;
        pool_is = length-take-le p dir q.pool_in;
        arena_is = length-take-le a arena q.arena_in;
        fanout_most = x.fanout_most;
        pool_most = x.pool_most;
        arena_most = x.arena_most;
        holds = x.holds;
        good = x.good;
      }

  -- at the index's own sizes
  pub own_stand : Stands f p a ns s.header (take s.pool dir) (take (s.header.fanout * s.pool) slots) (take s.arena arena)
  own_stand =
      let words : f * p ≡ s.header.fanout * s.pool = ap (λ (n : ℕ). n * p) (sym x.fanout_is) ∙ ap (λ (n : ℕ). s.header.fanout * n) (sym x.pool_is) in
      subst (λ (n : ℕ). Stands f p a ns s.header (take n dir) (take (s.header.fanout * s.pool) slots) (take s.arena arena)) (sym x.pool_is)
      (subst (λ (n : ℕ). Stands f p a ns s.header (take p dir) (take n slots) (take s.arena arena)) words
      (subst (λ (n : ℕ). Stands f p a ns s.header (take p dir) (take (f * p) slots) (take n arena)) (sym x.arena_is) fronts_stand))

  pub own_within : Within s.header.fanout s.pool s.arena
  own_within = record {
    fanout_most = omega (arith, x.fanout_is, x.fanout_most);
    pool_most = omega (arith, x.pool_is, x.pool_most);
    arena_most = omega (arith, x.arena_is, x.arena_most);
  }

standing_of : {f p a : ℕ} {ns : List Node} {h : Header} {dir slots arena : List ℕ} → Stands f p a ns h dir slots arena → Standing h dir slots arena
standing_of {f} {p} {a} {ns} {h} {dir} {slots} {arena} x = record {
  nodes = ns;
  stands =
      subst (λ (g : ℕ). Stands g (length dir) (length arena) ns h dir slots arena) (sym x.fanout_is)
      (subst (λ (q : ℕ). Stands f q (length arena) ns h dir slots arena) (sym x.pool_is)
      (subst (λ (b : ℕ). Stands f p b ns h dir slots arena) (sym x.arena_is) x));
}

-- a part of a buffer come back: what it then is stands at the front
back_front : (l now_is : List ℕ) (n m : ℕ) → length now_is ≡ n → m ≡ n → take m (now_is ++ drop n l) ≡ now_is
back_front l now_is n m e f = ap (λ (k : ℕ). take k (now_is ++ drop n l)) f ∙ take_at now_is (drop n l) n e

-- from the fronts that come back to the buffers
pub back_carries : (z : State) (h : Header) (dir slots arena now_dir now_slots now_arena : List ℕ) (p w a : ℕ)
    → length now_dir ≡ p → length now_slots ≡ w → length now_arena ≡ a → StandsIn z h now_dir now_slots now_arena
    → Carries z (has_index h p a) (now_dir ++ drop p dir) (now_slots ++ drop w slots) (now_arena ++ drop a arena)
back_carries closed h dir slots arena now_dir now_slots now_arena p w a i j k x = absurd x
back_carries (opened f' p' a' ns) h dir slots arena now_dir now_slots now_arena p w a i j k x =
    let pool : p' ≡ p = sym x.pool_is ∙ i in
    let byte : a' ≡ a = sym x.arena_is ∙ k in
    let word : f' * p' ≡ w = ap (λ (n : ℕ). n * p') (sym x.fanout_is) ∙ ap (λ (n : ℕ). h.fanout * n) (sym x.pool_is) ∙ sym x.holds.sizes.slots_are ∙ j in
    record {
      fanout_is = x.fanout_is;
      pool_is = sym pool;
      arena_is = sym byte;
      fanout_most = x.fanout_most;
      pool_most = x.pool_most;
      arena_most = x.arena_most;
      holds =
          subst (λ (l : List ℕ). Holds h l (take (f' * p') (now_slots ++ drop w slots)) (take a' (now_arena ++ drop a arena)) ns) (sym (back_front dir now_dir p p' i pool))
          (subst (λ (l : List ℕ). Holds h now_dir l (take a' (now_arena ++ drop a arena)) ns) (sym (back_front slots now_slots w (f' * p') j word))
          (subst (λ (l : List ℕ). Holds h now_dir now_slots l ns) (sym (back_front arena now_arena a a' k byte)) x.holds));
      good = x.good;
    }

-- a line other than `new` on an open session

pub closed_open : {A : Type 0} (s : Session) {o : Open} → s.index ≡ None → s.index ≡ Some o → A
closed_open s e f = absurd (let z : ◌≡◌ {A = ℕ} 0 1 = cc (e, f) in omega (arith, z))

-- a session that holds an index is its own parts
own_session : (s : Session) {o : Open} → s.index ≡ Some o → has_index o.header o.pool o.arena ≡ s
own_session s e = λ i. record { index = sym e i }

none_open : {A : Type 0} {s : Open} → holding s ≡ no_index → A
none_open e = let f = ap (λ (i : Session). i.index) e in absurd (let z : ◌≡◌ {A = ℕ} 0 1 = cc (f) in omega (arith, z))

module _ {s : Open} {dir slots arena : List ℕ} {line : Line} {key value old out : List ℕ} {at : ℕ} (x : OpenAsked s dir slots arena line key value old out at) where
  pub open_within : Within s.header.fanout s.pool s.arena
  open_within = go x.state x.carries
    where
      go : (z : State) → Carries z (holding s) dir slots arena → Within s.header.fanout s.pool s.arena
      go closed e = none_open e
      go (opened f p a ns) w = own_within x.ample w

  pub open_parts : Parts s.header.fanout s.pool s.arena dir slots arena
  open_parts = ample_parts x.ample open_within

  pub open_line : LineAsked s.header (take s.pool dir) (take (s.header.fanout * s.pool) slots) (take s.arena arena) line key value old out at
  open_line = record {
    asked = record { standing = go x.state x.carries; old_long = x.old_long; room = x.room };
    ordinary = x.ordinary;
    within = x.within;
  }
    where
      go : (z : State) → Carries z (holding s) dir slots arena → Standing s.header (take s.pool dir) (take (s.header.fanout * s.pool) slots) (take s.arena arena)
      go closed e = none_open e
      go (opened f p a ns) w = standing_of (own_stand x.ample w)

  pub open_served : (c : Option Command) {now_dir now_slots now_arena now_out : List ℕ} {r : Served} {q : Session}
      → length now_dir ≡ length (take s.pool dir) → length now_slots ≡ length (take (s.header.fanout * s.pool) slots) → length now_arena ≡ length (take s.arena arena)
      → ServedBy c s.header (take s.pool dir) (take (s.header.fanout * s.pool) slots) (take s.arena arena) out at r now_dir now_slots now_arena now_out
      → q ≡ has_index r.header s.pool s.arena
      → RepliedBy (λ z. line_turn z c) (λ z. Idle z c) (holding s) dir slots arena out at (record { session = q; at = r.at })
      (now_dir ++ drop s.pool dir) (now_slots ++ drop (s.header.fanout * s.pool) slots) (now_arena ++ drop s.arena arena) now_out
  open_served c {now_dir} {now_slots} {now_arena} {now_out} {r} {q} i j k y e closed w = none_open w
  open_served c {now_dir} {now_slots} {now_arena} {now_out} {r} {q} i j k y e (opened f p a ns) w =
      let v = y f p a ns (own_stand x.ample w) in
      let pool : length now_dir ≡ s.pool = i ∙ length-take-le s.pool dir open_parts.pool_in in
      let words : length now_slots ≡ s.header.fanout * s.pool = j ∙ length-take-le (s.header.fanout * s.pool) slots open_parts.words_in in
      let bytes : length now_arena ≡ s.arena = k ∙ length-take-le s.arena arena open_parts.arena_in in
      let z : State = (line_turn (opened f p a ns) c).state in
      record {
        wrote = v.wrote;
        carries =
            subst (λ (t : Session). Carries z t (now_dir ++ drop s.pool dir) (now_slots ++ drop (s.header.fanout * s.pool) slots) (now_arena ++ drop s.arena arena)) (sym e)
            (back_carries z r.header dir slots arena now_dir now_slots now_arena s.pool (s.header.fanout * s.pool) s.arena pool words bytes v.stands);
        kept = λ t.
            let k = v.kept t in
            record {
              session_is = e ∙ ap (λ (h : Header). has_index h s.pool s.arena) k.header_is;
              dir_is = ap (λ (l : List ℕ). l ++ drop s.pool dir) k.dir_is ∙ take-append-drop s.pool dir;
              slots_are = ap (λ (l : List ℕ). l ++ drop (s.header.fanout * s.pool) slots) k.slots_are ∙ take-append-drop (s.header.fanout * s.pool) slots;
              arena_is = ap (λ (l : List ℕ). l ++ drop s.arena arena) k.arena_is ∙ take-append-drop s.arena arena;
            };
      }
