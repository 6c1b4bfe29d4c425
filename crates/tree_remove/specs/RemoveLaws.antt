-- What `remove_found` and `inner::remove` have to show: what they ask of the functions under them, and each of their answers.
-- Assumes nothing.
use Rattle.std.specs.Prelude.{◌<◌, ◌≤◌, ℕ, true, List, ◌≡◌, refl, length, Err, None, Ok, Some}
use Rattle.std.proofs.Math.Option.{Option, none, some}
use Rattle.std.proofs.Common.{◌∙◌, ap, subst, sym, arith, le-ltb, lt-ltb}
use Rattle.changes.specs.MadeLaws.{kept_all, made_old}
use Rattle.changes.specs.Outcomes.{CanWriteOld, ChangedBy, Lent, Made, WroteOld, lent, old_bytes, old_told, value_in}
use Rattle.changes.specs.declared.Changed.{Changed}
use Rattle.pair_edit.specs.PairEdits.{CanRemove}
use Rattle.layout.specs.Lays.{Holds}
use Rattle.layout.specs.Presumed.{Index, Inner, Presumed}
use Rattle.layout.specs.declared.Header.{Header}
use Rattle.layout.specs.declared.lent.View.{View}
use Rattle.lists.specs.Part.{put}
use Rattle.lists.proofs.PartLaws.{put-nil}
use Rattle.model.specs.Answers.{Answer, accepted, refused, remove_answer}
use Rattle.model.specs.Answers as model
use Rattle.model.specs.Leaves.{Node, pairs_of}
use Rattle.model.specs.Limits.{key_limit}
use Rattle.model.specs.Map.{lookup}
use Rattle.model.proofs.PairLaws.{lookup-owned, remove_absent}
use Rattle.model.specs.Rules.{remove_rule}
use Rattle.model.specs.declared.Refusal.{Refusal}
use Rattle.model.specs.declared.Refusal.TheVariants.{LongKey, ShortOutput}
use Rattle.order.specs.Bytes.{Bytes}
use Rattle.route.specs.Lookups.{at_value, gap_none}
use Rattle.spots.specs.KeySpots.{AtSpot, InGap}
use Rattle.spots.specs.SeekLaws.{at_spot_in}
use Rattle.spots.specs.Spots.{PairAt, SpotIn, SpotRead}
use Rattle.spots.specs.declared.Pieced.{Pieced}
use Rattle.spots.specs.declared.Spot.{Spot}
use Rattle.tree_remove.specs.Outcomes.{FoundAsked, RemoveBy, RemoveInner, TakesOut}

some_none : {A B : Type 0} {v : A} {o : Option A} → o ≡ some v → o ≡ none → B
some_none {A} e f = absurd (let z : ◌≡◌ {A = ℕ} 0 1 = ap (λ (o : Option A). elim o [ none ↦ 0 | some a ↦ 1 ]) (sym f ∙ e) in omega (arith, z))

-- an outcome by the model's answer

answered : {h : Header} {k : Bytes} {before : Lent} {r : Changed} {after : Lent} {ns : List Node} (a : Answer model.Changed)
    → remove_answer true k (length before.out) ns ≡ a → ChangedBy a h before r after → (lookup k (pairs_of ns) ≡ none → after ≡ before) → RemoveBy h k before r after ns
answered {h} {before = before} {r} {after} a e c s = record { changed = subst (λ (b : Answer model.Changed). ChangedBy b h before r after) (sym e) c; absent = s }

-- refused: nothing was touched
refuses : {h : Header} {k : Bytes} (l : Lent) {ns : List Node} (x : Refusal) → remove_answer true k (length l.out) ns ≡ refused x → RemoveBy h k l (record { header = h; old = Err x }) l ns
refuses {h} l x e = answered (refused x) e (kept_all x h l) (λ f. refl)

-- 3
pub remove_long : {h : Header} {dir slots arena : List ℕ} (k : Bytes) (out : List ℕ) → key_limit < length k
    → RemoveInner h k (lent dir slots arena out) (record { header = h; old = Err LongKey }) (lent dir slots arena out)
remove_long {h} {dir} {slots} {arena} k out l = λ ns x. refuses (lent dir slots arena out) LongKey (rw (lt-ltb key_limit (length k) l))

-- the key has no pair: every byte stays

module _ {h : Header} {dir slots arena : List ℕ} {ns : List Node} (x : Presumed h dir slots arena ns) (k : Bytes) (out : List ℕ) (f : lookup k (pairs_of ns) ≡ none) where
  stays_held : Holds h dir slots arena (remove_rule true k ns)
  stays_held = subst (Holds h dir slots arena) (sym (remove_absent true k ns (lookup-owned k ns x.tiles ∙ f))) x.holds

  stays_made : Made (record { old = lookup k (pairs_of ns); nodes = remove_rule true k ns }) h (lent dir slots arena out) (record { header = h; old = Ok None }) (lent dir slots arena out)
  stays_made = record {
    answer = record { answer_is = ap old_told (sym f); code_is = refl };
    fanout_is = refl;
    holds = stays_held;
    out_is = sym (ap (λ (o : Option Bytes). put out 0 (old_bytes o)) f ∙ put-nil out 0);
    same_dir = refl;
    same_slots = refl;
    same_arena = refl;
  }

pub remove_none : {h : Header} {dir slots arena : List ℕ} (k : Bytes) (out : List ℕ) {t : Spot} → length k ≤ key_limit → Inner h dir slots arena (λ ns. InGap k ns t)
    → RemoveInner h k (lent dir slots arena out) (record { header = h; old = Ok None }) (lent dir slots arena out)
remove_none {h} {dir} {slots} {arena} k out {t} l g = λ ns x.
    let f = gap_none x k (g ns x).owns t.slot (g ns x).stands in
    answered (accepted (record { old = lookup k (pairs_of ns); nodes = remove_rule true k ns })) (rw (le-ltb key_limit (length k) l, f))
    (stays_made x k out f) (λ e. refl)

-- the key has a pair

-- (its value as it is read on a view)
pub found_writes : (v : View) {t : Spot} {p : Pieced} (out : List ℕ) → SpotIn v.header v.dir.now v.slots.now v.arena.now t → PairAt v t p → p.slot.value ≤ length out → CanWriteOld v t out
found_writes v out i s l = record { spot = i; fits = omega (arith, l, s.pieces.value_length) }

pub found_asked : {h : Header} {dir slots arena : List ℕ} {k : Bytes} {t : Spot} → Index h dir slots arena → Inner h dir slots arena (λ ns. AtSpot k ns t) → length k ≤ key_limit → FoundAsked h dir slots arena k t
found_asked i a l = record { index = i; at_spot = a; key_short = l }

module _ {h : Header} {dir slots arena : List ℕ} {k : Bytes} {t : Spot} (c : FoundAsked h dir slots arena k t) where
  found_value : {ns : List Node} → Presumed h dir slots arena ns → lookup k (pairs_of ns) ≡ some (value_in ns t)
  found_value {ns} x = at_value x k (c.at_spot ns x).owns t.slot (c.at_spot ns x).stands

  pub found_spot : SpotIn h dir slots arena t
  found_spot = at_spot_in c.index.presumed k (c.at_spot c.index.nodes c.index.presumed)

  pub found_takes : CanRemove h dir slots arena t
  found_takes = record { key = k; step = record { nodes = c.index.nodes; presumed = c.index.presumed; asks = c.at_spot c.index.nodes c.index.presumed } }

  module _ {p : Pieced} (s : SpotRead h dir slots arena t p) (out : List ℕ) where
    value_size : {ns : List Node} → Presumed h dir slots arena ns → p.slot.value ≡ length (value_in ns t)
    value_size {ns} x = (s ns x).pieces.value_length

    -- 5
    pub found_short : length out < p.slot.value → RemoveInner h k (lent dir slots arena out) (record { header = h; old = Err (ShortOutput p.slot.value) }) (lent dir slots arena out)
    found_short l = λ ns x.
        let v = value_in ns t in
        refuses (lent dir slots arena out) (ShortOutput p.slot.value)
        (rw (le-ltb key_limit (length k) c.key_short, found_value x, lt-ltb (length out) (length v) (omega (arith, l, value_size x))) (ap (λ (i : ℕ). refused (ShortOutput i)) (sym (value_size x))))

    module _ (l : p.slot.value ≤ length out) where
      pub found_taken : {n : ℕ} {now_out : List ℕ} → Inner h dir slots arena (WroteOld t out n now_out) → {r : Header} {now_dir now_slots now_arena : List ℕ}
          → ((j : Bytes) → TakesOut h dir slots arena j t r now_dir now_slots now_arena)
          → RemoveInner h k (lent dir slots arena out) (record { header = r; old = Ok (Some n) }) (lent now_dir now_slots now_arena now_out)
      found_taken w g = λ ns x.
          let f = found_value x in
          let v = value_in ns t in
          answered (accepted (record { old = lookup k (pairs_of ns); nodes = remove_rule true k ns }))
          (rw (le-ltb key_limit (length k) c.key_short, f, le-ltb (length out) (length v) (omega (arith, l, value_size x))))
          (made_old (g k) x (c.at_spot ns x) v f (w ns x).size (w ns x).written) (some_none f)
