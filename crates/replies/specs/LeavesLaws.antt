-- What `leaf_at` shows of an index can be written, and is the line of the leaf at that place; lines written one behind the other.
-- Assumes nothing.
use Rattle.std.specs.Prelude.{ℕ, suc, zero, ◌+◌, ◌<◌, ◌≤◌, ◌-◌, None, Some, Ok, Err, List, [], ◌∷◌, ◌++◌, ◌≡◌, refl, drop, get_or, length, take}
use Rattle.std.proofs.Common.{append_assoc, append-nil, ◌∙◌, ap, sym, subst, arith, length-append, length-take}
use Rattle.std.proofs.Math.Option.{Option, none, some}
use Rattle.std.proofs.Common as rust
use Rattle.std.proofs.Common.{Bor}
use Rattle.answers.specs.AnswerLaws.{wrote_is, wrote_more}
use Rattle.answers.specs.Answers.{Room, Wrote, answered}
use Rattle.answers.specs.Answers as said
use Rattle.answers.specs.Said.{leaf_with}
use Rattle.layout.specs.Lays.{Holds, W}
use Rattle.layout.proofs.LaysWords.{holds_at, holds_inside}
use Rattle.layout.specs.declared.Header.{Header}
use Rattle.leaf.specs.Keys.{KeyAt, UpperAt, key_at, upper_at}
use Rattle.lines.specs.Grammar.{Number}
use Rattle.lists.proofs.PartLaws.{put-nil}
use Rattle.model.specs.Answers.{leaf_at, shown}
use Rattle.model.specs.Answers as model
use Rattle.model.specs.Leaves.{Node, low_of, node, prefix_length}
use Rattle.model.specs.declared.Refusal.{Refusal}
use Rattle.order.specs.Bytes.{Bytes}
use Rattle.order.specs.CommonLaws.{common_left}
use Rattle.replies.specs.Leaves.{ViewAsked, bytes_of, line_said, line_text, lines_upto, viewed}
use Rattle.replies.specs.Replies.{ReadAsked, ReadReply}
use Rattle.replies.specs.Texts.{leaf_text, leaves_text}
use Rattle.tree_get.specs.Outcomes.{LeafOutcome, ShownBy, Views, low_place, upper_place}
use Rattle.tree_get.specs.declared.Shown as tree
use Rattle.words.specs.declared.LowKey.{LowKey}

-- the leaf at a place of a list

place-within : (j : ℕ) (ns : List Node) (s : model.Shown) → leaf_at j ns ≡ some s → j < length ns
place-within j [] s e = absurd (let z : ◌≡◌ {A = ℕ} 0 1 = cc in omega arith)
place-within zero (n ∷ ns) s e = omega arith
place-within (suc j) (n ∷ ns) s e = omega (arith, place-within j ns s e)

next_within : (j : ℕ) (ns : List Node) (s : model.Shown) (u : Bytes) → leaf_at j ns ≡ some s → s.upper ≡ some u → suc j < length ns
next_within j [] s u e f = absurd (let z : ◌≡◌ {A = ℕ} 0 1 = cc in omega arith)
next_within zero (n ∷ []) s u e f = absurd (let z : ◌≡◌ {A = ℕ} 0 1 = cc in omega arith)
next_within zero (n ∷ m ∷ ns) s u e f = omega arith
next_within (suc j) (n ∷ ns) s u e f = omega (arith, next_within j ns s u e f)

some_path : {a b : model.Shown} → some a ≡ some b → a ≡ b
some_path e = cc

pairs_there : (y : Node) (j : ℕ) (ns : List Node) (s : model.Shown) → leaf_at j ns ≡ some s → s.pairs ≡ length (get_or ns j y).pairs
pairs_there y j [] s e = absurd (let z : ◌≡◌ {A = ℕ} 0 1 = cc in omega arith)
pairs_there y zero (n ∷ ns) s e = ap (λ (t : model.Shown). t.pairs) (sym (some_path e))
pairs_there y (suc j) (n ∷ ns) s e = pairs_there y j ns s e

prefix_short : (low : Bytes) (u : Option Bytes) → prefix_length low u ≤ length low
prefix_short low none = omega arith
prefix_short low (some u) = common_left low u

prefix_there : (j : ℕ) (ns : List Node) (s : model.Shown) → leaf_at j ns ≡ some s → s.prefix ≤ length s.low
prefix_there j [] s e = absurd (let z : ◌≡◌ {A = ℕ} 0 1 = cc in omega arith)
prefix_there zero (n ∷ ns) s e = subst (λ (t : model.Shown). t.prefix ≤ length t.low) (some_path e) (prefix_short n.low (low_of ns))
prefix_there (suc j) (n ∷ ns) s e = prefix_there j ns s e

-- a leaf that `leaf_at` shows

abbrev View : Type 0
View = tree.Shown

abbrev Told : Type 0
Told = rust.Result (rust.Option View) Refusal

ok_same : {a b : rust.Option View} → ◌≡◌ {A = Told} (Ok a) (Ok b) → a ≡ b
ok_same e = cc (e)

ok_err : {a : rust.Option View} {x : Refusal} → ◌≡◌ {A = Told} (Ok a) (Err x) → ⊥
ok_err e = let z : ◌≡◌ {A = ℕ} 0 1 = cc (e) in omega (arith, z)

pub record Read (h : Header) (dir slots arena : List ℕ) (j : ℕ) (o : Option model.Shown) (v : View) : Type 0 where
  pub leaf : model.Shown
  pub leaf_is : o ≡ some leaf
  pub views : Views h dir slots arena j leaf v

module _ (h : Header) (dir slots arena : List ℕ) (j : ℕ) where
  leaf_read : (o : Option model.Shown) (v : View) → ShownBy h dir slots arena j o (Some v) → Read h dir slots arena j o v
  leaf_read none v e = absurd e
  leaf_read (some s) v e = record { leaf = s; leaf_is = refl; views = e }

  end_read : (o : Option model.Shown) → ShownBy h dir slots arena j o None → o ≡ none
  end_read none e = refl
  end_read (some s) e = absurd e

  viewed_path : (s : model.Shown) (v : View) → Views h dir slots arena j s v → s ≡ viewed arena v
  viewed_path s v q = λ i. record { low = sym q.low_is i; upper = sym q.upper_is i; prefix = sym q.prefix_is i; pairs = sym q.pairs_are i }

  read_is : {o : Option model.Shown} {v : View} → Read h dir slots arena j o v → line_text o ≡ leaf_text (viewed arena v)
  read_is {v = v} r = ap line_text r.leaf_is ∙ ap leaf_text (viewed_path r.leaf v r.views)

-- its keys lie inside the arena, and its numbers are small

module _ {h : Header} {dir slots arena : List ℕ} {ns : List Node} (x : Holds h dir slots arena ns) where
  low_inside : (j : ℕ) → j < length ns → KeyAt arena 0 (low_place h dir slots arena j)
  low_inside j k = record { inside = omega (arith, (holds_inside x j k).0); fits = omega arith; long = omega arith }

  upper_inside : (j : ℕ) (s : model.Shown) (o : Option Bytes) → leaf_at j ns ≡ some s → s.upper ≡ o → UpperAt arena 0 (upper_place h dir slots arena j o)
  upper_inside j s none e f = tt
  upper_inside j s (some u) e f = low_inside (suc j) (next_within j ns s u e f)

  pairs_small : (j : ℕ) (s : model.Shown) → leaf_at j ns ≡ some s → Number s.pairs
  pairs_small j s e = omega (arith, pairs_there (node 0 [] []) j ns s e, (holds_at x (node 0 [] []) j (place-within j ns s e)).count_is)

key_short : (arena : List ℕ) (k : LowKey) → length (key_at arena k) ≤ k.length
key_short arena k = omega (arith, length-take k.length (drop k.offset.0 arena))

module _ {h : Header} {dir slots arena : List ℕ} (j : ℕ) where
  -- what an answer that is Ok shows
  shows_as : {r : Told} (o : rust.Option View) (w : W h dir slots arena) → LeafOutcome h dir slots arena j r → r ≡ Ok o → ShownBy h dir slots arena j (leaf_at j w.nodes) o
  shows_as o w l e =
      let x = l.held w in
      let same : x.shown ≡ o = ok_same (sym x.answer_is ∙ e) in
      subst (λ (t : rust.Option View). ShownBy h dir slots arena j (leaf_at j w.nodes) t) same x.shows

  shown_read : {r : Told} (v : View) (w : W h dir slots arena) → LeafOutcome h dir slots arena j r → r ≡ Ok (Some v) → Read h dir slots arena j (leaf_at j w.nodes) v
  shown_read v w l e = leaf_read h dir slots arena j (leaf_at j w.nodes) v (shows_as (Some v) w l e)

  pub not_refused : {r : Told} {x : Refusal} → W h dir slots arena → LeafOutcome h dir slots arena j r → r ≡ Err x → ⊥
  not_refused w l e = ok_err (sym (l.held w).answer_is ∙ e)

module _ {h : Header} {dir slots arena : List ℕ} (j : ℕ) {out : Bytes} {at : ℕ} where
  pub view_asked : {t : Told} (v : View) → ReadAsked h dir slots arena (line_said j) out at → LeafOutcome h dir slots arena j t → t ≡ Ok (Some v) → ViewAsked arena v out at
  view_asked v a l e =
      let x = a.index.holds in
      let r = shown_read j v a.index l e in
      let s = r.leaf in
      let q = r.views in
      let in_list = place-within j a.index.nodes s r.leaf_is in
      let low : KeyAt arena 0 v.low = subst (λ (k : LowKey). KeyAt arena 0 k) (sym q.low_stands) (low_inside x j in_list) in
      record {
        low_stands = low;
        upper_stands = subst (λ (u : rust.Option LowKey). UpperAt arena 0 u) (sym q.upper_stands) (upper_inside x j s s.upper r.leaf_is refl);
        prefix_small = omega (arith, q.prefix_is, prefix_there j a.index.nodes s r.leaf_is, ap length q.low_is, key_short arena v.low, low.fits);
        pairs_few = omega (arith, q.pairs_are, pairs_small x j s r.leaf_is);
        room = subst (λ (t : Bytes). Room out at t) (read_is h dir slots arena j r) a.room;
      }

  pub view_said : {t : Told} (v : View) {out' : Bytes} {r : ℕ} → LeafOutcome h dir slots arena j t → t ≡ Ok (Some v) → Wrote out out' at (leaf_text (viewed arena v)) r
      → ReadReply h dir slots arena (line_said j) out at out' r
  view_said v l e g = λ w. wrote_is g (sym (read_is h dir slots arena j (shown_read j v w l e)))

  pub end_said : {t : Told} → LeafOutcome h dir slots arena j t → t ≡ Ok None → ReadReply h dir slots arena (line_said j) out at out at
  end_said l e = λ w.
      let none_there = end_read h dir slots arena j (leaf_at j w.nodes) (shows_as j None w l e) in
      wrote_is (record { is = sym (put-nil out at); behind = omega arith; long = refl }) (sym (ap line_text none_there))

-- a view's line, from the parts of the arena that its keys are

with_line : (low : Bytes) (upper : rust.Option (Bor (List ℕ))) (p n : ℕ) → answered (leaf_with low upper p n) ≡ leaf_text (record { low = low; upper = bytes_of upper; prefix = p; pairs = n })
with_line low (Some k) p n = refl
with_line low None p n = refl

view_line : (arena : List ℕ) (v : View) {low : Bytes} (upper : rust.Option (Bor (List ℕ))) → low ≡ key_at arena v.low → bytes_of upper ≡ upper_at arena v.upper
    → answered (leaf_with low upper v.prefix_length v.pairs) ≡ leaf_text (viewed arena v)
view_line arena v {low} upper e f = with_line low upper v.prefix_length v.pairs ∙ rw (e, f)

-- a key as it is cut out of the arena
abbrev cut_key : (arena : List ℕ) → LowKey → Bytes
cut_key arena k = take (k.offset.0 + k.length - k.offset.0) (drop k.offset.0 arena)

cut_is : (arena : List ℕ) (k : LowKey) → cut_key arena k ≡ key_at arena k
cut_is arena k = let e : k.offset.0 + k.length - k.offset.0 ≡ k.length = omega arith in rw e

module _ (arena : List ℕ) (v : View) where
  leaf_line : {k : LowKey} → v.upper ≡ Some k → answered (said.leaf (cut_key arena v.low) (cut_key arena k) v.prefix_length v.pairs) ≡ leaf_text (viewed arena v)
  leaf_line {k} e = rw (e, cut_is arena v.low, cut_is arena k)

  last_line : v.upper ≡ None → answered (said.last (cut_key arena v.low) v.prefix_length v.pairs) ≡ leaf_text (viewed arena v)
  last_line e = rw (e, cut_is arena v.low)

module _ {arena : List ℕ} {v : View} {out : Bytes} {at : ℕ} (a : ViewAsked arena v out at) (e : v.upper ≡ None) where
  pub last_room : Room out at (answered (said.last (cut_key arena v.low) v.prefix_length v.pairs))
  last_room = subst (λ (t : Bytes). Room out at t) (sym (last_line arena v e)) a.room

  pub last_written : {out' : Bytes} {r : ℕ} → Wrote out out' at (answered (said.last (cut_key arena v.low) v.prefix_length v.pairs)) r
      → Wrote out out' at (leaf_text (viewed arena v)) r
  last_written g = wrote_is g (last_line arena v e)

-- and both parts as they are handed to the writer

module _ {arena : List ℕ} {v : View} {out : Bytes} {at : ℕ} (a : ViewAsked arena v out at) {low : Bytes} (upper : rust.Option (Bor (List ℕ))) (e : low ≡ key_at arena v.low) (f : bytes_of upper ≡ upper_at arena v.upper) where
  pub leaf_room : Room out at (answered (leaf_with low upper v.prefix_length v.pairs))
  leaf_room = subst (λ (t : Bytes). Room out at t) (sym (view_line arena v upper e f)) a.room

  pub leaf_written : {out' : Bytes} {r : ℕ} → Wrote out out' at (answered (leaf_with low upper v.prefix_length v.pairs)) r → Wrote out out' at (leaf_text (viewed arena v)) r
  leaf_written g = wrote_is g (view_line arena v upper e f)

-- lines one behind the other

upto_step : (j : ℕ) (ns : List Node) → lines_upto (suc j) ns ≡ lines_upto j ns ++ line_said j ns
upto_step zero [] = refl
upto_step (suc j) [] = refl
upto_step zero (n ∷ ns) = append-nil (leaf_text (shown n (low_of ns)))
upto_step (suc j) (n ∷ ns) =
    ap (λ (t : Bytes). leaf_text (shown n (low_of ns)) ++ t) (upto_step j ns) ∙ sym (append_assoc (leaf_text (shown n (low_of ns))) (lines_upto j ns) (line_said j ns))

upto_all : (j : ℕ) (ns : List Node) → length ns ≤ j → lines_upto j ns ≡ leaves_text ns
upto_all zero [] h = refl
upto_all (suc j) [] h = refl
upto_all zero (n ∷ ns) h = absurd (omega arith)
upto_all (suc j) (n ∷ ns) h = ap (λ (t : Bytes). leaf_text (shown n (low_of ns)) ++ t) (upto_all j ns (omega arith))

upto_room : (j : ℕ) (ns : List Node) → length (lines_upto j ns) ≤ length (leaves_text ns)
upto_room zero ns = omega arith
upto_room (suc j) [] = omega arith
upto_room (suc j) (n ∷ ns) =
    let t = leaf_text (shown n (low_of ns)) in
    omega (arith, length-append t (lines_upto j ns), length-append t (leaves_text ns), upto_room j ns)

module _ {h : Header} {dir slots arena : List ℕ} {out : Bytes} {at : ℕ} (a : ReadAsked h dir slots arena leaves_text out at) where
  pub lines_start : ReadReply h dir slots arena (lines_upto 0) out at out at
  lines_start = λ w. record { is = sym (put-nil out at); behind = omega arith; long = refl }

  module _ (j : ℕ) {now_out : Bytes} {e : ℕ} (g : ReadReply h dir slots arena (lines_upto j) out at now_out e) where
    pub line_asked : ReadAsked h dir slots arena (line_said j) now_out e
    line_asked =
        let ns = a.index.nodes in
        let q = g a.index in
        record {
          index = a.index;
          room = omega (arith, a.room, q.behind, q.long, upto_room (suc j) ns, ap length (upto_step j ns), length-append (lines_upto j ns) (line_said j ns));
        }

    pub line_more : (k : ℕ) {then_out : Bytes} {e' : ℕ} → k ≡ j + 1 → ReadReply h dir slots arena (line_said j) now_out e then_out e'
        → ReadReply h dir slots arena (lines_upto k) out at then_out e'
    line_more k is s = λ w.
        let next : suc j ≡ k = omega arith in
        wrote_is (wrote_more (omega (arith, a.room)) (g w) (s w)) (sym (upto_step j w.nodes) ∙ ap (λ (i : ℕ). lines_upto i w.nodes) next)

    pub lines_done : h.leaves ≤ j → ReadReply h dir slots arena leaves_text out at now_out e
    lines_done l = λ w. wrote_is (g w) (upto_all j w.nodes (omega (arith, l, w.holds.leaves_are)))
