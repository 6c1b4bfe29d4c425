-- What `inner::insert` has to show: what it asks of the functions under it, and its three answers, all from what `judge` told.
-- Assumes nothing.
use Rattle.changes.specs.MadeLaws.{kept_all, made_old, wrote_told}
use Rattle.spots.specs.SeekLaws.{at_spot_in}
use Rattle.std.specs.Prelude.{ℕ, ◌≤◌, List, ◌≡◌, refl, length, Err, None, Ok, Some}
use Rattle.std.proofs.Math.Option.{Option, none, some}
use Rattle.std.proofs.Common.{ap, subst, sym, ◌∙◌, ltb-false, Result}
use Rattle.changes.specs.Outcomes.{CanWriteOld, ChangedBy, WroteOld, lent, old_bytes, old_told, value_in}
use Rattle.judge.specs.Judges.{Accepts, Judges, JudgesOn, Replaces}
use Rattle.judge.specs.declared.Fit.{Fit}
use Rattle.judge.specs.declared.Fit.TheVariants.{Full, Slack}
use Rattle.judge.specs.declared.Judged.{Judged}
use Rattle.judge.specs.declared.Judged.TheVariants.{Insert, Replace}
use Rattle.layout.specs.Lays.{Holds}
use Rattle.layout.specs.Presumed.{Index, Inner, Presumed}
use Rattle.layout.specs.Viewed.{Views, leaves_of, view_held}
use Rattle.layout.specs.declared.Header.{Header}
use Rattle.layout.specs.declared.lent.View.{View}
use Rattle.lists.specs.Part.{put}
use Rattle.lists.proofs.PartLaws.{put-nil}
use Rattle.model.specs.Answers.{Answer, refused, short}
use Rattle.model.specs.Answers as model
use Rattle.model.specs.Leaves.{Node, pairs_of}
use Rattle.model.specs.Map.{lookup}
use Rattle.model.specs.Rules.{insert_rule}
use Rattle.model.specs.declared.Refusal.{Refusal}
use Rattle.order.specs.Bytes.{Bytes}
use Rattle.pair_edit.specs.PairEdits.{CanInsert, InsertedPair}
use Rattle.route.specs.Lookups.{at_value, gap_none}
use Rattle.spots.specs.Spots.{SpotIn}
use Rattle.spots.specs.declared.Spot.{Spot}
use Rattle.tree_insert.specs.Outcomes.{CanFit, CanReplaceOld, InsertInner, ReplacedOld, SplitIfFull}
use Rattle.tree_insert.specs.PassedLaws.{replaces_passed}
use Rattle.tree_insert.specs.declared.inner.Placed.{Placed}

-- the pair that is there, or that none is

module _ {h : Header} {dir slots arena : List ℕ} {ns : List Node} (x : Presumed h dir slots arena ns) {pool room : ℕ} {k v : Bytes} {out : ℕ} where
  pub replaces_found : {t : Spot} → Replaces h pool room k v out ns t → lookup k (pairs_of ns) ≡ some (value_in ns t)
  replaces_found {t} a = at_value x k a.spot.owns t.slot a.spot.stands

  pub replaces_fits : {t : Spot} → Replaces h pool room k v out ns t → length (value_in ns t) ≤ out
  replaces_fits {t} a = ltb-false out (length (value_in ns t)) (sym (ap (short out) (replaces_found a)) ∙ (replaces_passed a).output)

  pub replaces_spot : {t : Spot} → Replaces h pool room k v out ns t → SpotIn h dir slots arena t
  replaces_spot a = at_spot_in x k a.spot

-- a new pair, whether or not its leaf is split

record Added (h : Header) (pool arena : ℕ) (k v : Bytes) (out : ℕ) (ns : List Node) : Type 0 where
  accepts : Accepts h pool arena k v out ns
  absent : lookup k (pairs_of ns) ≡ none

added : {h : Header} {dir slots arena : List ℕ} {ns : List Node} {k v : Bytes} {out : ℕ} (f : Fit) → Presumed h dir slots arena ns → Judges h dir slots arena k v out ns (Ok (Insert f))
    → Added h (length dir) (length arena) k v out ns
added {k = k} (Slack t) x a = record { accepts = a.accepts; absent = gap_none x k a.spot.owns t.slot a.spot.stands }
added {k = k} (Full p) x a = record { accepts = a.accepts; absent = gap_none x k a.spot.owns a.at_gap.slot a.spot.stands }

-- what `judge` told, in one arm

abbrev Told : Header → (dir slots arena : List ℕ) → (k v : Bytes) → (out : ℕ) → Result Judged Refusal → Type 0
Told h dir slots arena k v out j = Inner h dir slots arena (λ ns. Judges h dir slots arena k v out ns j)

module _ {h : Header} {dir slots arena : List ℕ} (k v : Bytes) (out : List ℕ) {w : View} (u : Views w h dir slots arena) {j : Result Judged Refusal}
    (told : JudgesOn w k v (length out) j) where
  arm : {i : Result Judged Refusal} → j ≡ i → Told h dir slots arena k v (length out) i
  arm {i} e = view_held (λ h dir slots arena ns. Judges h dir slots arena k v (length out) ns i) w u (subst (JudgesOn w k v (length out)) e told)

  -- refused: nothing was touched
  pub insert_refused : {x : Refusal} → j ≡ Err x → InsertInner h k v (lent dir slots arena out) (record { header = h; old = Err x }) (lent dir slots arena out)
  insert_refused {x} e = λ ns p.
      subst (λ (a : Answer model.Changed). ChangedBy a h (lent dir slots arena out) (record { header = h; old = Err x }) (lent dir slots arena out)) (sym (arm e ns p))
      (kept_all x h (lent dir slots arena out))

  -- a new value for a key that has one

  module _ {t : Spot} (e : j ≡ Ok (Replace t)) where
    pub write_asked : CanWriteOld w t out
    write_asked =
        let x = w.index.presumed in
        let a : Replaces w.header (length w.dir.now) (length w.arena.now) k v (length out) (leaves_of w) t = subst (JudgesOn w k v (length out)) e told in
        record { spot = replaces_spot x a; fits = replaces_fits x a }

    module _ {n : ℕ} {now_out : List ℕ} (o : WroteOld t out n now_out (leaves_of w)) where
      wrote : Inner h dir slots arena (WroteOld t out n now_out)
      wrote = wrote_told w u o

      pub replace_asked : Index h dir slots arena → CanReplaceOld h dir slots arena k v t n
      replace_asked i = record {
        out = length out;
        step = record { nodes = i.nodes; presumed = i.presumed; asks = record { replaces = arm e i.nodes i.presumed; old_is = (wrote i.nodes i.presumed).size } };
      }

      pub insert_replaced : {r : Header} {now_dir now_slots now_arena : List ℕ} → ReplacedOld h dir slots arena k v t n r now_dir now_slots now_arena
          → InsertInner h k v (lent dir slots arena out) (record { header = r; old = Ok (Some n) }) (lent now_dir now_slots now_arena now_out)
      insert_replaced {r} {now_dir} {now_slots} {now_arena} q = λ ns x.
          let a = arm e ns x in
          subst (λ (b : Answer model.Changed). ChangedBy b h (lent dir slots arena out) (record { header = r; old = Ok (Some n) }) (lent now_dir now_slots now_arena now_out)) (sym a.accepts)
          (made_old (q (length out)) x (record { replaces = a; old_is = (wrote ns x).size }) (value_in ns t) (replaces_found x a) (wrote ns x).size (wrote ns x).written)

  -- a new pair

  module _ {f : Fit} (e : j ≡ Ok (Insert f)) where
    pub fit_asked : Index h dir slots arena → CanFit h dir slots arena k f
    fit_asked i = record { value = v; out = length out; step = record { nodes = i.nodes; presumed = i.presumed; asks = arm e i.nodes i.presumed } }

    module _ {p : Placed} {mid_dir mid_slots mid_arena : List ℕ} (s : SplitIfFull h dir slots arena k f p mid_dir mid_slots mid_arena) where
      pub insert_asked : Index h dir slots arena → CanInsert p.header mid_dir mid_slots mid_arena k v p.spot
      insert_asked i =
          let y = s.ready i.nodes i.presumed v (length out) (arm e i.nodes i.presumed) in
          record { nodes = y.nodes; presumed = y.presumed; asks = y.asks }

      pub insert_added : {r : Header} {now_dir now_slots now_arena : List ℕ} → InsertedPair p.header mid_dir mid_slots mid_arena k v p.spot r now_dir now_slots now_arena
          → InsertInner h k v (lent dir slots arena out) (record { header = r; old = Ok None }) (lent now_dir now_slots now_arena out)
      insert_added {r} {now_dir} {now_slots} {now_arena} q = λ ns x.
          let a = arm e ns x in
          let y = s.ready ns x v (length out) a in
          let b = added f x a in
          subst (λ (b : Answer model.Changed). ChangedBy b h (lent dir slots arena out) (record { header = r; old = Ok None }) (lent now_dir now_slots now_arena out)) (sym b.accepts)
          (record {
            answer = record { answer_is = ap old_told (sym b.absent); code_is = refl };
            fanout_is = q.fanout_is ∙ s.fanout_is;
            holds = subst (λ (ms : List Node). Holds r now_dir now_slots now_arena ms) (ap (λ (n : ℕ). insert_rule n k v y.nodes) s.fanout_is ∙ y.rule) (q.index y.nodes y.presumed y.asks).holds;
            out_is = sym (ap (λ (o : Option Bytes). put out 0 (old_bytes o)) b.absent ∙ put-nil out 0);
            same_dir = q.same_dir ∙ s.same_dir;
            same_slots = q.same_slots ∙ s.same_slots;
            same_arena = q.same_arena ∙ s.same_arena;
          })
