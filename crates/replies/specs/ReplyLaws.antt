-- What `new`, `get` and `next` write, from what the calls under them answered: the text of the model's answer.
-- Assumes nothing.
use Rattle.std.specs.Prelude.{◌≤◌, None, Some, Ok, Err, ℕ, List, [], ◌≡◌, refl, ltb, length, take}
use Rattle.std.proofs.Common as rust
use Rattle.std.proofs.Common.{Result}
use Rattle.std.proofs.Math.Option.{Option, none, some}
use Rattle.std.proofs.Common.{◌∙◌, ap, subst, sym, arith, ltb-false}
use Rattle.answers.specs.AnswerLaws.{wrote_is}
use Rattle.answers.specs.Answers.{Room, Wrote, answered}
use Rattle.answers.specs.Answers as said
use Rattle.layout.specs.Examples.{header}
use Rattle.layout.specs.Lays.{W}
use Rattle.layout.specs.Places.{place_of}
use Rattle.layout.specs.declared.Header.{Header}
use Rattle.lines.specs.Grammar.{Number}
use Rattle.lists.proofs.PartLaws.{length-put, part-put}
use Rattle.lists.specs.Part.{put}
use Rattle.model.specs.Answers.{Answer, accepted, beyond, create_answer, get_answer, get_gt_answer, key_written, number_of, range_found, refused, told}
use Rattle.model.specs.LeafViews.{fails, holds, truth}
use Rattle.model.specs.Leaves.{Node}
use Rattle.model.specs.Map.{Pair}
use Rattle.model.proofs.ScanLaws.{found_open_end}
use Rattle.model.specs.declared.Refusal.{Refusal}
use Rattle.model.specs.declared.Refusal.TheVariants as refusal
use Rattle.order.specs.Bytes.{Bytes}
use Rattle.replies.specs.Replies.{NewReply, ReadAsked, ReadReply, get_said, kept, made, new_said, next_said}
use Rattle.replies.specs.Texts.{get_text, new_text, next_text, refusal_text}
use Rattle.tree_create.specs.Outcomes.{CreateOutcome, FreshBy}
use Rattle.tree_create.specs.declared.Answered.{Answered}
use Rattle.tree_get.specs.Outcomes.{GetOutcome, ValueOutcome}
use Rattle.tree_get.specs.Outcomes as got
use Rattle.tree_get.specs.declared.Found.{Found}
use Rattle.tree_range.specs.Outcomes.{GtOutcome, RangeValueOutcome, key_told}
use Rattle.tree_range.specs.Outcomes as scanned
use Rattle.tree_range.specs.declared.Seen.{Seen}

-- a refusal's number can be written

refusal_number : (x : Refusal) → Number (number_of x)
refusal_number refusal.Shape = omega arith
refusal_number refusal.Damaged = omega arith
refusal_number refusal.LongKey = omega arith
refusal_number refusal.LongValue = omega arith
refusal_number (refusal.ShortOutput n) = omega arith
refusal_number refusal.InvertedRange = omega arith
refusal_number refusal.NoLeaf = omega arith
refusal_number refusal.NoRoom = omega arith

pub refusal_room : (out : Bytes) (at : ℕ) {n : ℕ} (x : Refusal) → n ≡ number_of x → Room out at (refusal_text x) → Number n × Room out at (answered (said.refused n))
refusal_room out at x e r = (rw e (refusal_number x), rw e r)

pub refusal_wrote : {out out' : Bytes} {at n r : ℕ} (x : Refusal) → n ≡ number_of x → Wrote out out' at (answered (said.refused n)) r → Wrote out out' at (refusal_text x) r
refusal_wrote x e w = wrote_is w (ap (λ (n : ℕ). answered (said.refused n)) e)

-- the text of the list that is there

pub asked_room : {h : Header} {dir slots arena : List ℕ} {text : List Node → Bytes} {out : Bytes} {at : ℕ} {t : Bytes}
    → (q : ReadAsked h dir slots arena text out at) → ((w : W h dir slots arena) → text w.nodes ≡ t) → Room out at t
asked_room {out = out} {at} q e = subst (Room out at) (e q.index) q.room

pub replied : {h : Header} {dir slots arena : List ℕ} (text : List Node → Bytes) {out : Bytes} {at : ℕ} {now_out : Bytes} {r : ℕ} {t : Bytes}
    → ((w : W h dir slots arena) → text w.nodes ≡ t) → Wrote out now_out at t r → ReadReply h dir slots arena text out at now_out r
replied text e x = λ w. wrote_is x (sym (e w))

-- `get`, by the cases of its answer

abbrev FoundText : Answer (Option Bytes) → Result (rust.Option Found) Refusal → Type 0
FoundText a (Ok (Some x)) = get_text a ≡ answered (said.value (got.value_told a))
FoundText a (Ok None) = get_text a ≡ answered said.none
FoundText a (Err x) = get_text a ≡ refusal_text x

found_text : (place : ℕ) (a : Answer (Option Bytes)) → FoundText a (told (got.found place) a)
found_text place (refused x) = refl
found_text place (accepted none) = refl
found_text place (accepted (some v)) = refl

module _ {h : Header} {dir slots arena : List ℕ} (k : Bytes) {f : Result (rust.Option Found) Refusal} (g : GetOutcome h dir slots arena k f) where
  get_text_lem : {q : Result (rust.Option Found) Refusal} → f ≡ q → (w : W h dir slots arena) → FoundText (get_answer k w.nodes) q
  get_text_lem e w = subst (FoundText (get_answer k w.nodes)) (sym (g.held w).answer_is ∙ e) (found_text (place_of h dir slots arena w.nodes k) (get_answer k w.nodes))

  pub get_value_said : {x : Found} {v : Bytes} → f ≡ Ok (Some x) → ValueOutcome h dir slots arena k v → (w : W h dir slots arena) → get_said k w.nodes ≡ answered (said.value v)
  get_value_said e o w = get_text_lem e w ∙ ap (λ (v : Bytes). answered (said.value v)) (sym (o.held w))

  pub get_none_said : f ≡ Ok None → (w : W h dir slots arena) → get_said k w.nodes ≡ answered said.none
  get_none_said e w = get_text_lem e w

  pub get_refused_said : {x : Refusal} → f ≡ Err x → (w : W h dir slots arena) → get_said k w.nodes ≡ refusal_text x
  get_refused_said e w = get_text_lem e w

-- `next`, by the cases of its answer: a found key stands at the front of its buffer

pub record PairText (now_found : Bytes) (n : ℕ) (a : Answer (Option Pair)) (v : Bytes) : Type 0 where
  pub inside : n ≤ length now_found
  pub text_is : next_text a ≡ answered (said.pair (take n now_found) v)

abbrev ScanText : (now_found : Bytes) → Answer (Option Pair) → (v : Bytes) → Result (rust.Option Seen) Refusal → Type 0
ScanText now_found a v (Ok (Some x)) = PairText now_found x.key a v
ScanText now_found a v (Ok None) = next_text a ≡ answered said.end
ScanText now_found a v (Err x) = next_text a ≡ refusal_text x

pair_text : (found : Bytes) (p : Pair) → length p.key ≤ length found → PairText (put found 0 p.key) (length p.key) (accepted (some p)) p.value
pair_text found p l = record {
  inside = omega (arith, length-put found 0 p.key (omega arith));
  text_is = rw (part-put found 0 p.key (omega arith));
}

scan_text : (place : Bytes → ℕ) (found : Bytes) (b : Answer (Option Pair))
    → ScanText (put found 0 (key_told (key_written (length found) b))) (key_written (length found) b) (scanned.value_told b) (told (scanned.seen place) (key_written (length found) b))
scan_text place found (refused x) = refl
scan_text place found (accepted none) = refl
scan_text place found (accepted (some p)) =
    elim (truth (ltb (length found) (length p.key))) [
      | holds t ↦ rw t refl
      | fails t ↦ rw t (pair_text found p (ltb-false (length found) (length p.key) t))
    ]

module _ {h : Header} {dir slots arena : List ℕ} (k : Bytes) {found now_found : Bytes} {f : Result (rust.Option Seen) Refusal} (g : GtOutcome h dir slots arena k found now_found f) where
  next_text_lem : {q : Result (rust.Option Seen) Refusal} → f ≡ q → (w : W h dir slots arena) → ScanText now_found (get_gt_answer k (length found) w.nodes) (scanned.value_told (range_found beyond k [] w.nodes)) q
  next_text_lem e w =
      let s = g.held w in
      let a = get_gt_answer k (length found) w.nodes in
      let v = scanned.value_told (range_found beyond k [] w.nodes) in
      subst (λ (r : Result (rust.Option Seen) Refusal). ScanText now_found a v r) (sym s.answer_is ∙ e)
      (subst (λ (b : Bytes). ScanText b a v (told (scanned.seen (place_of h dir slots arena w.nodes)) a)) (sym s.out_is)
      (scan_text (place_of h dir slots arena w.nodes) found (range_found beyond k [] w.nodes)))

  pub next_found : (w : W h dir slots arena) → now_found ≡ put found 0 (key_told (get_gt_answer k (length found) w.nodes))
  next_found w = (g.held w).out_is

  pub next_inside : {x : Seen} → f ≡ Ok (Some x) → W h dir slots arena → x.key ≤ length now_found
  next_inside e w = (next_text_lem e w).inside

  -- (no key is read beside the open end)
  pub next_pair_said : {x : Seen} {v : Bytes} → f ≡ Ok (Some x) → RangeValueOutcome h dir slots arena beyond k k v → (w : W h dir slots arena)
      → next_said k (length found) w.nodes ≡ answered (said.pair (take x.key now_found) v)
  next_pair_said {x} e o w =
      let v_is = o.held w ∙ ap scanned.value_told (found_open_end beyond k k [] w.nodes refl) in
      (next_text_lem e w).text_is ∙ ap (λ (u : Bytes). answered (said.pair (take x.key now_found) u)) (sym v_is)

  pub next_end_said : f ≡ Ok None → (w : W h dir slots arena) → next_said k (length found) w.nodes ≡ answered said.end
  next_end_said e w = next_text_lem e w

  pub next_refused_said : {x : Refusal} → f ≡ Err x → (w : W h dir slots arena) → next_said k (length found) w.nodes ≡ refusal_text x
  next_refused_said e w = next_text_lem e w

-- `new`, by the cases of the model's answer

done_refused : {B : Type 0} {c : Result (Unit {0}) Refusal} {x : Refusal} → c ≡ Ok tt → c ≡ Err x → B
done_refused e f = absurd (let z : ◌≡◌ {A = ℕ} 0 1 = cc (e, f) in omega (arith, z))

refused_same : {c : Result (Unit {0}) Refusal} {x y : Refusal} → c ≡ Err x → c ≡ Err y → x ≡ y
refused_same e f = cc (e, f)

module _ (fanout : ℕ) (h : Header) (dir slots arena now_dir now_slots : List ℕ) (a : Answered) where
  made_text : (m : Answer (List Node)) → FreshBy m fanout h dir slots arena now_dir now_slots a → a.answer ≡ Ok tt → new_text m ≡ answered said.made
  made_text (refused x) f e = done_refused e f.answer_is
  made_text (accepted ns) f e = refl

  kept_text : (m : Answer (List Node)) (x : Refusal) → FreshBy m fanout h dir slots arena now_dir now_slots a → a.answer ≡ Err x → new_text m ≡ refusal_text x
  kept_text (refused y) x f e = ap refusal_text (refused_same f.answer_is e)
  kept_text (accepted ns) x f e = done_refused f.answer_is e

  module _ (out : Bytes) (at : ℕ) (now_out : Bytes) (place : ℕ) where
    made_reply : (m : Answer (List Node)) → FreshBy m fanout h dir slots arena now_dir now_slots a → a.answer ≡ Ok tt → Wrote out now_out at (new_said fanout dir slots arena) place
        → NewReply m fanout dir slots arena out at now_dir now_slots now_out (made a.header place)
    made_reply (refused x) f e w = done_refused e f.answer_is
    made_reply (accepted ns) f e w = record { header = a.header; place = place; is = refl; wrote = w; fresh = f.fresh; holds = f.holds }

    kept_reply : (m : Answer (List Node)) (x : Refusal) → FreshBy m fanout h dir slots arena now_dir now_slots a → a.answer ≡ Err x → Wrote out now_out at (new_said fanout dir slots arena) place
        → NewReply m fanout dir slots arena out at now_dir now_slots now_out (kept place)
    kept_reply (refused y) x f e w = record { place = place; is = refl; wrote = w; dir_is = f.dir_is; slots_are = f.slots_are }
    kept_reply (accepted ns) x f e w = done_refused f.answer_is e

abbrev sized : (fanout : ℕ) (dir slots arena : List ℕ) → Answer (List Node)
sized fanout dir slots arena = create_answer fanout (length dir) (length slots) (length arena)

module _ (fanout : ℕ) (dir slots arena now_dir now_slots : List ℕ) (a : Answered) (f : CreateOutcome fanout dir slots arena now_dir now_slots a) (out : Bytes) (at : ℕ) where
  pub new_made_room : a.answer ≡ Ok tt → Room out at (new_said fanout dir slots arena) → Room out at (answered said.made)
  new_made_room e r = subst (Room out at) (made_text fanout (header 0 0 0 0) dir slots arena now_dir now_slots a (sized fanout dir slots arena) f e) r

  pub new_kept_room : (x : Refusal) → a.answer ≡ Err x → Room out at (new_said fanout dir slots arena) → Room out at (refusal_text x)
  new_kept_room x e r = subst (Room out at) (kept_text fanout (header 0 0 0 0) dir slots arena now_dir now_slots a (sized fanout dir slots arena) x f e) r

  pub new_made : (now_out : Bytes) (place : ℕ) → a.answer ≡ Ok tt → Wrote out now_out at (answered said.made) place
      → NewReply (sized fanout dir slots arena) fanout dir slots arena out at now_dir now_slots now_out (made a.header place)
  new_made now_out place e w =
      let t = made_text fanout (header 0 0 0 0) dir slots arena now_dir now_slots a (sized fanout dir slots arena) f e in
      made_reply fanout (header 0 0 0 0) dir slots arena now_dir now_slots a out at now_out place (sized fanout dir slots arena) f e (wrote_is w (sym t))

  pub new_kept : (now_out : Bytes) (place : ℕ) (x : Refusal) → a.answer ≡ Err x → Wrote out now_out at (refusal_text x) place
      → NewReply (sized fanout dir slots arena) fanout dir slots arena out at now_dir now_slots now_out (kept place)
  new_kept now_out place x e w =
      let t = kept_text fanout (header 0 0 0 0) dir slots arena now_dir now_slots a (sized fanout dir slots arena) x f e in
      kept_reply fanout (header 0 0 0 0) dir slots arena now_dir now_slots a out at now_out place (sized fanout dir slots arena) x f e (wrote_is w (sym t))
