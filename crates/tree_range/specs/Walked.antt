-- A whole walk through the entry point: the first call for the range as given, each later one for "excluded, last key", the key taken from
-- the caller's output. On an index it lists exactly the pairs in the range, each once, in key order.
-- Assumes nothing.
use Prim.Native.Nat.{◌≤◌, suc, zero, ℕ}
use Rattle.std.specs.Prelude.{List, [], ◌∷◌, ◌≡◌, length, take, None, Some, Ok, Err}
use Rattle.std.proofs.Math.Option.{Option, none, some}
use Rattle.std.proofs.Common as rust
use Rattle.std.proofs.Common.{Result, ◌∙◌, ap, subst, arith, le-ltb, take_all}
use Rattle.std.proofs.Math.Path.{refl}
use Rattle.layout.specs.Lays.{W}
use Rattle.layout.specs.Places.{place_of}
use Rattle.layout.specs.Presumed.{w_presumed}
use Rattle.layout.specs.declared.Header.{Header}
use Rattle.lists.specs.Part.{part, put}
use Rattle.lists.proofs.PartLaws.{part-put}
use Rattle.model.specs.Answers.{Answer, accepted, range_answer, told}
use Rattle.model.specs.Good.{Within, limits}
use Rattle.model.specs.Leaves.{Node, pairs_of}
use Rattle.model.specs.Limits.{key_limit}
use Rattle.model.specs.Map.{Pair, first_in, pair}
use Rattle.model.specs.MapSame.{pair_path}
use Rattle.model.proofs.PairLaws.{pairs_within, rising_pairs}
use Rattle.model.proofs.ScanLaws.{first_found, first_lookup}
use Rattle.model.specs.Walk.{length-within, listed, onward, onward_not_inverted, walk, walk_take, within}
use Rattle.model.specs.declared.Range.{Range}
use Rattle.model.specs.declared.Refusal.{Refusal}
use Rattle.order.specs.Bytes.{Bytes}
use Rattle.route.specs.Lookups.{value_lies}
use Rattle.tree_range.specs.Scans.{Allowed}
use Rattle.tree_range.specs.Outcomes.{RangeOutcome, Scans, key_told, seen}
use Rattle.tree_range.specs.declared.Seen.{Seen}

-- the pair that a call gives: its key in the output, its value in the arena
abbrev pub pair_seen : (arena now_out : Bytes) → Seen → Pair
pair_seen arena now_out x = pair (take x.key now_out) (part arena x.place.0 x.value)

-- a call gave a pair, and the walk goes on behind its key
pub record GoesOn (arena now_out : Bytes) (next : Bytes → List Pair → Type 0) (x : Seen) (ps : List Pair) : Type 0 where
  pub rest : List Pair
  pub listed : ps ≡ pair_seen arena now_out x ∷ rest
  pub later : next (take x.key now_out) rest

-- else it ends
abbrev pub Goes : (arena now_out : Bytes) (next : Bytes → List Pair → Type 0) → Result (rust.Option Seen) Refusal → List Pair → Type 0
Goes arena now_out next (Ok (Some x)) ps = GoesOn arena now_out next x ps
Goes arena now_out next (Ok None) ps = ps ≡ []
Goes arena now_out next (Err y) ps = ps ≡ []

-- one call, with an output that any key fits
pub record Step (h : Header) (dir slots arena : List ℕ) (range : Range) (s e : Bytes) (next : Bytes → List Pair → Type 0) (ps : List Pair) : Type 0 where
  pub out : Bytes
  pub now_out : Bytes
  pub answer : Result (rust.Option Seen) Refusal
  pub room : key_limit ≤ length out
  pub called : RangeOutcome h dir slots arena range s e out now_out answer
  pub goes : Goes arena now_out next answer ps

-- at most n calls gave the pairs ps
abbrev pub Walked : Header → (dir slots arena : List ℕ) → (n : ℕ) → Range → (s e : Bytes) → List Pair → Type 0
Walked h dir slots arena zero range s e ps = ps ≡ []
Walked h dir slots arena (suc n) range s e ps = Step h dir slots arena range s e (λ k qs. Walked h dir slots arena n (onward range) k e qs) ps

module _ {h : Header} {dir slots arena : List ℕ} (w : W h dir slots arena) where
  abbrev ns : List Node
  ns = w.nodes

  abbrev place : Bytes → ℕ
  place = place_of h dir slots arena ns

  found_short : (range : Range) (s e : Bytes) (p : Pair) → first_in range s e (pairs_of ns) ≡ some p → length p.key ≤ key_limit
  found_short range s e p f = (first_found range s e (Within (limits h.fanout)) (pairs_of ns) p (pairs_within (limits h.fanout) ns w.good.tiles.tiled) f).0.0

  -- with room for any key, the answer is the model's first pair
  abbrev Answered : (range : Range) (s e : Bytes) (out now_out : Bytes) (answer : Result (rust.Option Seen) Refusal) (o : Option Pair) → Type 0
  Answered range s e out now_out answer o = (answer ≡ told (seen place) (accepted o)) × (now_out ≡ put out 0 (key_told (accepted o)))

  answered : (range : Range) (s e out now_out : Bytes) (answer : Result (rust.Option Seen) Refusal) (o : Option Pair) → Allowed range s e → key_limit ≤ length out
      → RangeOutcome h dir slots arena range s e out now_out answer → first_in range s e (pairs_of ns) ≡ o → Answered range s e out now_out answer o
  answered range s e out now_out answer none t r c f =
      let a : range_answer range s e (length out) ns ≡ accepted none = rw (t.start_short, t.end_short, t.upright, f) in
      let q = subst (λ (x : Answer (Option Pair)). Scans h dir slots arena ns x out now_out answer) a (c.held w) in
      (q.answer_is, q.out_is)
  answered range s e out now_out answer (some p) t r c f =
      let a : range_answer range s e (length out) ns ≡ accepted (some p) = rw (t.start_short, t.end_short, t.upright, f, le-ltb (length out) (length p.key) (omega (arith, r, found_short range s e p f))) in
      let q = subst (λ (x : Answer (Option Pair)). Scans h dir slots arena ns x out now_out answer) a (c.held w) in
      (q.answer_is, q.out_is)

  -- the pair that the caller reads is the model's
  seen_is : (range : Range) (s e out now_out : Bytes) (p : Pair) → key_limit ≤ length out → first_in range s e (pairs_of ns) ≡ some p → now_out ≡ put out 0 p.key
      → pair_seen arena now_out (record { key = length p.key; place = record { 0 = place p.key }; value = length p.value }) ≡ p
  seen_is range s e out now_out p r f q =
      let l = value_lies (w_presumed w) p.key p.value (first_lookup range s e (pairs_of ns) p (rising_pairs (limits h.fanout) ns w.good.tiles.tiled) f) in
      pair_path _ p (ap (take (length p.key)) q ∙ part-put out 0 p.key (omega arith)) l.is

  later_allowed : (range : Range) (s e : Bytes) (p : Pair) → Allowed range s e → first_in range s e (pairs_of ns) ≡ some p → Allowed (onward range) p.key e
  later_allowed range s e p t f = record {
    start_short = le-ltb key_limit (length p.key) (found_short range s e p f);
    end_short = t.end_short;
    upright = onward_not_inverted range s e p.key (first_found range s e (Within (limits h.fanout)) (pairs_of ns) p (pairs_within (limits h.fanout) ns w.good.tiles.tiled) f).1;
  }

  -- a call and the walk behind it
  step_is : (range : Range) (s e : Bytes) (ps : List Pair) (next : Bytes → List Pair → Type 0) (onto : Bytes → List Pair) → Allowed range s e
      → ((k : Bytes) (qs : List Pair) → Allowed (onward range) k e → next k qs → qs ≡ onto k) → (q : Step h dir slots arena range s e next ps)
      → (o : Option Pair) → first_in range s e (pairs_of ns) ≡ o → ps ≡ listed o (λ p. onto p.key)
  step_is range s e ps next onto t rec q none f =
      let a = answered range s e q.out q.now_out q.answer none t q.room q.called f in
      subst (λ (r : Result (rust.Option Seen) Refusal). Goes arena q.now_out next r ps) a.0 q.goes
  step_is range s e ps next onto t rec q (some p) f =
      let a = answered range s e q.out q.now_out q.answer (some p) t q.room q.called f in
      let g = subst (λ (r : Result (rust.Option Seen) Refusal). Goes arena q.now_out next r ps) a.0 q.goes in
      let y = seen_is range s e q.out q.now_out p q.room f a.1 in
      let k = ap (λ (x : Pair). x.key) y in
      let z = rec p.key g.rest (later_allowed range s e p t f) (subst (λ (b : Bytes). next b g.rest) k g.later) in
      g.listed ∙ ap (λ (x : Pair). x ∷ g.rest) y ∙ ap (λ (x : List Pair). p ∷ x) z

  walked_is : (n : ℕ) (range : Range) (s e : Bytes) (ps : List Pair) → Allowed range s e → Walked h dir slots arena n range s e ps → ps ≡ walk n range s e (pairs_of ns)
  unfolding walk
  walked_is zero range s e ps t q = q
  walked_is (suc n) range s e ps t q =
      step_is range s e ps (λ k qs. Walked h dir slots arena n (onward range) k e qs) (λ k. walk n (onward range) k e (pairs_of ns)) t
      (λ k qs u v. walked_is n (onward range) k e qs u v) q (first_in range s e (pairs_of ns)) refl

  -- n calls list the first n pairs in the range
  pub walked : (n : ℕ) (range : Range) (s e : Bytes) (ps : List Pair) → Allowed range s e → Walked h dir slots arena n range s e ps → ps ≡ take n (within range s e (pairs_of w.nodes))
  walked n range s e ps t q = walked_is n range s e ps t q ∙ walk_take n range s e (pairs_of ns) (rising_pairs (limits h.fanout) ns w.good.tiles.tiled)

  -- as many calls as there are pairs list all of them
  pub walked_all : (n : ℕ) (range : Range) (s e : Bytes) (ps : List Pair) → Allowed range s e → length (pairs_of w.nodes) ≤ n → Walked h dir slots arena n range s e ps
      → ps ≡ within range s e (pairs_of w.nodes)
  walked_all n range s e ps t l q = walked n range s e ps t q ∙ take_all n (within range s e (pairs_of ns)) (omega (arith, l, length-within range s e (pairs_of ns)))
