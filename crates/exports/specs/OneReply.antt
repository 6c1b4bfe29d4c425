-- How tight the exported contracts are: any two replies allowed for one input coincide, with every word and byte left behind (after an
-- accepted insert or remove, but for what docs/EXCEPTIONS.md leaves open). And 0 is no refusal's number.
-- Assumes nothing.
use Rattle.std.specs.Prelude.{◌<◌, ◌≤◌, suc, zero, ℕ, List, ◌≡◌, refl}
use Rattle.std.proofs.Math.Option.{none}
use Rattle.std.proofs.Common.{Option, Result, ◌∙◌, ap, sym, arith}
use Rattle.changes.specs.Coincide as changes
use Rattle.changes.specs.Outcomes.{Lent}
use Rattle.changes.specs.declared.Changed.{Changed}
use Rattle.exports.specs.Replies.{ClearReply, ContainsReply, CreateReply, FirstReply, GetReply, GtReply, InsertReply, LeafReply, LenReply, PrefixReply, RangeReply, RemoveReply, Tells, bound_read, bound_told, refusal_told, scan_told, with_header, with_header_old}
use Rattle.exports.specs.declared.Reply.{Reply}
use Rattle.exports.specs.declared.Told.{Told}
use Rattle.exports.specs.declared.reads.Place.{Place}
use Rattle.exports.specs.declared.reads.Shown.{Shown}
use Rattle.exports.specs.declared.scans.Scanned.{Scanned}
use Rattle.exports.specs.declared.scans.Span.{Span}
use Rattle.exports.specs.declared.writes.OldPart.{OldPart}
use Rattle.exports.specs.declared.writes.OldReply.{OldReply}
use Rattle.layout.specs.Lays.{W}
use Rattle.layout.specs.declared.Header.{Header}
use Rattle.model.specs.Leaves.{pairs_of}
use Rattle.model.specs.Map.{lookup}
use Rattle.model.specs.declared.Bound.{Bound}
use Rattle.model.specs.declared.Bound.TheVariants.{Excluded, Included, Open}
use Rattle.model.specs.declared.Refusal.{Refusal}
use Rattle.model.specs.declared.Refusal.TheVariants.{Damaged, InvertedRange, LongKey, LongValue, NoLeaf, NoRoom, Shape, ShortOutput}
use Rattle.order.specs.Bytes.{Bytes}
use Rattle.prefixes.specs.Coincide as prefixes
use Rattle.tree_create.specs.Coincide as below
use Rattle.tree_get.specs.Coincide as reads
use Rattle.tree_insert.specs.Coincide as inserts
use Rattle.tree_range.specs.Coincide as scans
use Rattle.tree_range.specs.Outcomes.{RangeOutcome}
use Rattle.tree_range.specs.declared.Seen.{Seen}
use Rattle.tree_remove.specs.Coincide as removes

-- two answers that coincide are told alike
told_alike : {A R : Type 0} {tell : A → R} {P Q : A → Type 0} {r q : R} → (a : Tells tell P r) (b : Tells tell Q q) → a.answer ≡ b.answer → r ≡ q
told_alike {tell = tell} a b e = a.told ∙ ap tell e ∙ sym b.told

pub create_coincides : (fanout : ℕ) (dir slots arena : List ℕ) {d₁ s₁ d₂ s₂ : List ℕ} {r q : Reply}
    → CreateReply fanout dir slots arena d₁ s₁ r → CreateReply fanout dir slots arena d₂ s₂ q → (r ≡ q) × ((d₁ ≡ d₂) × (s₁ ≡ s₂))
create_coincides fanout dir slots arena a b =
    let s = below.create_coincides fanout dir slots arena a.allowed b.allowed in
    (told_alike a b s.answers, (s.dirs, s.slots_words))

pub clear_coincides : (h : Header) (dir slots arena : List ℕ) {d₁ s₁ d₂ s₂ : List ℕ} {r q : Reply}
    → ClearReply h dir slots arena d₁ s₁ r → ClearReply h dir slots arena d₂ s₂ q → (r ≡ q) × ((d₁ ≡ d₂) × (s₁ ≡ s₂))
clear_coincides h dir slots arena a b =
    let s = below.clear_coincides h dir slots arena a.allowed b.allowed in
    (told_alike a b s.answers, (s.dirs, s.slots_words))

pub len_coincides : (h : Header) (dir slots arena : List ℕ) {r q : Told} → LenReply h dir slots arena r → LenReply h dir slots arena q → r ≡ q
len_coincides h dir slots arena a b = told_alike a b (below.len_coincides h dir slots arena a.allowed b.allowed)

module _ (h : Header) (dir slots arena : List ℕ) where
  pub contains_coincides : (k : Bytes) {r q : Told} → ContainsReply h dir slots arena k r → ContainsReply h dir slots arena k q → r ≡ q
  contains_coincides k a b = told_alike a b (reads.contains_coincides h dir slots arena k a.allowed b.allowed)

  pub get_coincides : (k : Bytes) {r q : Place} → GetReply h dir slots arena k r → GetReply h dir slots arena k q → r ≡ q
  get_coincides k a b = told_alike a b (reads.get_coincides h dir slots arena k a.allowed b.allowed)

  pub leaf_coincides : (place : ℕ) {r q : Shown} → LeafReply h dir slots arena place r → LeafReply h dir slots arena place q → r ≡ q
  leaf_coincides place a b = told_alike a b (reads.leaf_coincides h dir slots arena place a.allowed b.allowed)

  pub range_coincides : (from to : ℕ) (s e out : Bytes) {o₁ o₂ : Bytes} {r q : Scanned}
      → RangeReply h dir slots arena from to s e out o₁ r → RangeReply h dir slots arena from to s e out o₂ q → (r ≡ q) × (o₁ ≡ o₂)
  range_coincides from to s e out a b =
      let x = scans.range_coincides h dir slots arena (record { start = bound_read from; end = bound_read to }) s e out a.allowed b.allowed in
      (told_alike a b x.0, x.1)

  pub gt_coincides : (k out : Bytes) {o₁ o₂ : Bytes} {r q : Scanned} → GtReply h dir slots arena k out o₁ r → GtReply h dir slots arena k out o₂ q → (r ≡ q) × (o₁ ≡ o₂)
  gt_coincides k out a b =
      let x = scans.gt_coincides h dir slots arena k out a.allowed b.allowed in
      (told_alike a b x.0, x.1)

  pub first_coincides : (out : Bytes) {o₁ o₂ : Bytes} {r q : Scanned} → FirstReply h dir slots arena out o₁ r → FirstReply h dir slots arena out o₂ q → (r ≡ q) × (o₁ ≡ o₂)
  first_coincides out a b =
      let x = scans.first_coincides h dir slots arena out a.allowed b.allowed in
      (told_alike a b x.0, x.1)

pub prefix_coincides : (prefix out : Bytes) {o₁ o₂ : Bytes} {r q : Span} → PrefixReply prefix out o₁ r → PrefixReply prefix out o₂ q → (r ≡ q) × (o₁ ≡ o₂)
prefix_coincides prefix out a b =
    let s = prefixes.prefix_coincides prefix out a.allowed b.allowed in
    (told_alike a b s.answers, s.outs)

changed_path : (a b : Changed) → a.header ≡ b.header → a.old ≡ b.old → a ≡ b
changed_path a b h o = λ i. record { header = h i; old = o i }

-- what is left coincides as far as it does below: all but where a part lies in the arena, and what is out of use
pub insert_coincides : (h : Header) (k v : Bytes) (before : Lent) {l m : Lent} {r q : OldReply} → (a : InsertReply h k v before l r) (b : InsertReply h k v before m q)
    → (r ≡ q) × changes.Same a.answer l b.answer m
insert_coincides h k v before a b =
    let s = inserts.insert_coincides h k v before a.allowed b.allowed in
    (told_alike a b (changed_path a.answer b.answer s.headers s.answers), s)

module _ (h : Header) (k : Bytes) (before : Lent) {l m : Lent} {r q : OldReply} (a : RemoveReply h k before l r) (b : RemoveReply h k before m q) where
  pub remove_coincides : (r ≡ q) × changes.Same a.answer l b.answer m
  remove_coincides =
      let s = removes.remove_coincides h k before a.allowed b.allowed in
      (told_alike a b (changed_path a.answer b.answer s.headers s.answers), s)

  -- where the key has no pair, every word and byte
  pub absent_coincides : (w : W h before.dir before.slots before.arena) → lookup k (pairs_of w.nodes) ≡ none → l ≡ m
  absent_coincides w e = removes.absent_coincides h k before a.allowed b.allowed w e

-- where the header is lent: replies that coincide with the header put in coincide, and so do the headers

pub told_apart : (r q : Told) (g f : Header) → with_header r g ≡ with_header q f → (r ≡ q) × (g ≡ f)
told_apart r q g f e = ((λ i. record { refusal = (e i).refusal; length = (e i).length }), (λ i. (e i).header))

pub old_apart : (r q : OldPart) (g f : Header) → with_header_old r g ≡ with_header_old q f → (r ≡ q) × (g ≡ f)
old_apart r q g f e = ((λ i. record { refusal = (e i).refusal; length = (e i).length; found = (e i).found }), (λ i. (e i).header))

-- each bound kind is read back from its number
pub bound_read_lem : (b : Bound) → bound_read (bound_told b) ≡ b
bound_read_lem Included = refl
bound_read_lem Excluded = refl
bound_read_lem Open = refl

pub bound_open : (n : ℕ) → 2 ≤ n → Open ≡ bound_read n
bound_open zero h = absurd (omega arith)
bound_open (suc zero) h = absurd (omega arith)
bound_open (suc (suc n)) h = refl

-- a range whose kinds are read from numbers
pub range_told : {h : Header} {dir slots arena : List ℕ} (from to : ℕ) (s e : Bytes) {out now_out : Bytes} {b c : Bound} (a : Result (Option Seen) Refusal) {r : Scanned} → b ≡ bound_read from → c ≡ bound_read to
    → RangeOutcome h dir slots arena (record { start = b; end = c }) s e out now_out a → r ≡ scan_told a → RangeReply h dir slots arena from to s e out now_out r
range_told from to s e a f g o t = record { answer = a; allowed = rw (f, g) at o; told = t }

pub refused_above_zero : (x : Refusal) → 0 < (refusal_told x).refusal
refused_above_zero Shape = omega arith
refused_above_zero Damaged = omega arith
refused_above_zero LongKey = omega arith
refused_above_zero LongValue = omega arith
refused_above_zero (ShortOutput n) = omega arith
refused_above_zero InvertedRange = omega arith
refused_above_zero NoLeaf = omega arith
refused_above_zero NoRoom = omega arith
