-- The first pair in a range: by parts and by leaves, from the leaf that owns the start, up to the first key past the end; and the key
-- beside an open bound plays no part.
-- Assumes nothing.
use Rattle.std.specs.Prelude.{ℕ, false, true, drop}
use Rattle.std.proofs.Math.Bool.{and-false}
use Rattle.std.proofs.Common.{true≢false, ◌∙◌, ap, sym, arith}
use mathlib.Core.List.{List, [], ◌++◌, ◌∷◌}
use Rattle.std.proofs.Math.Option.{none, some}
use Rattle.std.proofs.Math.Path.{◌≡◌, refl}
use Rattle.lists.specs.All.{All, all_mono}
use Rattle.model.specs.Answers.{both_keyed, key_written, range_answer, range_found}
use Rattle.model.specs.Good.{Bounds, Tiled}
use Rattle.model.specs.LeafViews.{fails, holds, on, side, stay, truth}
use Rattle.model.specs.Leaves.{Node, owner, pairs_of}
use Rattle.model.specs.Map.{Above, Below, Pair, Rising, before_end, first_in, in_range, lookup, past_start}
use Rattle.model.specs.declared.Bound.{Bound}
use Rattle.model.specs.declared.Bound.TheVariants.{Excluded, Included, Open}
use Rattle.model.specs.declared.Range.{Range}
use Rattle.order.specs.Bytes.{Bytes, ◌≺◌, ◌≼◌}
use Rattle.lists.specs.Exact.{Exact, exact_no, exact_yes}
use Rattle.order.specs.OrderLaws.{after, before, below_asym, below_upto_trans, cmp_after, cmp_before, cmp_equal, cmp_refl, equal, tri, upto_below_trans, upto_of_eq}
use Rattle.model.specs.Scans.{Out, or_else, Closed}

module _ (r : Range) (s e : Bytes) where
  -- by parts
  pub first_append : (l m : List Pair) → first_in r s e (l ++ m) ≡ or_else (first_in r s e l) (first_in r s e m)
  unfolding first_in
  first_append [] m = refl
  first_append (p ∷ l) m =
      elim (truth (in_range r s e p.key)) [
        | holds h ↦ rw h
        | fails h ↦ rw h (first_append l m)
      ]

  pub first_none : (l m : List Pair) → first_in r s e l ≡ none → first_in r s e (l ++ m) ≡ first_in r s e m
  first_none l m h = first_append l m ∙ rw h

  -- none where every key is out of the range
  pub first_out : (l : List Pair) → All (Out r s e) l → first_in r s e l ≡ none
  unfolding first_in
  first_out [] a = refl
  first_out (p ∷ l) a = rw a.0 (first_out l a.1)

  -- the pair found is one of them, and in the range
  pub first_found : (P : Pair → Type 0) (m : List Pair) (p : Pair) → All P m → first_in r s e m ≡ some p → P p × (in_range r s e p.key ≡ true)
  unfolding first_in
  first_found P [] p a = λ (f : none ≡ some p). absurd (let z : ◌≡◌ {A = ℕ} 0 1 = cc f in omega (arith, z))
  first_found P (q ∷ m) p a =
      elim (truth (in_range r s e q.key)) [
        | holds h ↦ rw h
            (λ (f : some q ≡ some p).
            let g : q ≡ p = cc f in
            (rw g at a.0, rw g at h))
        | fails h ↦ rw h (λ f. first_found P m p a.1 f)
      ]

  pub first_lookup : (m : List Pair) (p : Pair) → Rising m → first_in r s e m ≡ some p → lookup p.key m ≡ some p.value
  unfolding first_in lookup
  first_lookup [] p a = λ (f : none ≡ some p). absurd (let z : ◌≡◌ {A = ℕ} 0 1 = cc f in omega (arith, z))
  first_lookup (q ∷ m) p a =
      elim (truth (in_range r s e q.key)) [
        | holds h ↦ rw h
            (λ (f : some q ≡ some p).
            let g : q ≡ p = cc f in
            rw g (rw (cmp_refl p.key)))
        | fails h ↦ rw h (λ f. rw (cmp_after (first_found (Above q.key) m p a.0 f).0) (first_lookup m p a.1 f))
      ]

  -- by leaves: a leaf without a pair in the range is passed over
  pub first_leaves : (n : Node) (ns : List Node) → first_in r s e (pairs_of (n ∷ ns)) ≡ or_else (first_in r s e n.pairs) (first_in r s e (pairs_of ns))
  first_leaves n ns = first_append n.pairs (pairs_of ns)

pub before_start : (b : Bound) (s k : Bytes) → Closed b → k ≺ s → past_start b s k ≡ false
before_start Included s k c h = rw (cmp_after h)
before_start Excluded s k c h = rw (cmp_after h)
before_start Open s k c h = absurd c

pub out_before : (r : Range) (s e : Bytes) (l : List Pair) → Closed r.start → All (Below s) l → All (Out r s e) l
out_before r s e l c a = all_mono l (λ p h. rw (before_start r.start s p.key c h)) a

-- the search may begin at the leaf that owns the start
pub first_owner : (B : Bounds) (r : Range) (s e : Bytes) → Closed r.start → (n : Node) (ns : List Node) → Tiled B (n ∷ ns)
    → first_in r s e (pairs_of (n ∷ ns)) ≡ first_in r s e (pairs_of (drop (owner s (n ∷ ns)) (n ∷ ns)))
unfolding owner
first_owner B r s e c n [] t = refl
first_owner B r s e c n (m ∷ ns) t =
    elim (side s m ns) [
      | on h u ↦ rw h
          (first_none r s e n.pairs (pairs_of (m ∷ ns))
          (first_out r s e n.pairs (out_before r s e n.pairs c (all_mono n.pairs (λ p w. below_upto_trans w.1 u) t.0.0.spanned)))
          ∙ first_owner B r s e c m ns t.1)
      | stay h b ↦ rw h
    ]

-- keys above one that is past the end are past it too, so the search may stop there
pub past_end : (b : Bound) (e j k : Bytes) → before_end b e j ≡ false → j ≺ k → before_end b e k ≡ false
past_end Included e j k h l = rw (cmp_after {a = k} {b = e} (upto_below_trans (λ (i : j ≺ e). true≢false (rw (cmp_before i) at h)) l))
past_end Excluded e j k h l = rw (cmp_after {a = k} {b = e} (upto_below_trans (λ (i : j ≺ e). true≢false (rw (cmp_before i) at h)) l))
past_end Open e j k h l = h

pub first_past : (r : Range) (s e : Bytes) (p : Pair) (m : List Pair) → before_end r.end e p.key ≡ false → Rising (p ∷ m) → first_in r s e (p ∷ m) ≡ none
first_past r s e p m h a =
    first_out r s e (p ∷ m) (
      rw h (and-false (past_start r.start s p.key)),
      all_mono m (λ q j. rw (past_end r.end e p.key q.key h j) (and-false (past_start r.start s q.key))) a.0,
    )

-- the key beside an open bound
pub open_start : (r : Range) (s s' e : Bytes) (m : List Pair) → r.start ≡ Open → first_in r s e m ≡ first_in r s' e m
unfolding first_in
open_start r s s' e [] h = refl
open_start r s s' e (p ∷ m) h =
    let i : past_start r.start s p.key ≡ past_start r.start s' p.key = rw h in rw (i, open_start r s s' e m h)

pub open_end : (r : Range) (s e e' : Bytes) (m : List Pair) → r.end ≡ Open → first_in r s e m ≡ first_in r s e' m
unfolding first_in
open_end r s e e' [] h = refl
open_end r s e e' (p ∷ m) h =
    let i : before_end r.end e p.key ≡ before_end r.end e' p.key = rw h in rw (i, open_end r s e e' m h)

pub found_open_start : (r : Range) (s s' e : Bytes) (ns : List Node) → r.start ≡ Open → range_found r s e ns ≡ range_found r s' e ns
found_open_start r s s' e ns h = rw (open_start r s s' e (pairs_of ns) h, h)

pub range_open_start : (r : Range) (s s' e : Bytes) (out : ℕ) (ns : List Node) → r.start ≡ Open → range_answer r s e out ns ≡ range_answer r s' e out ns
range_open_start r s s' e out ns h = ap (key_written out) (found_open_start r s s' e ns h)

not_keyed : (b : Bound) → both_keyed b Open ≡ false
not_keyed Included = refl
not_keyed Excluded = refl
not_keyed Open = refl

pub found_open_end : (r : Range) (s e e' : Bytes) (ns : List Node) → r.end ≡ Open → range_found r s e ns ≡ range_found r s e' ns
found_open_end r s e e' ns h = rw (open_end r s e e' (pairs_of ns) h, h, not_keyed r.start)

pub range_open_end : (r : Range) (s e e' : Bytes) (out : ℕ) (ns : List Node) → r.end ≡ Open → range_answer r s e out ns ≡ range_answer r s e' out ns
range_open_end r s e e' out ns h = ap (key_written out) (found_open_end r s e e' ns h)

-- what each kind of bound takes in, as document 01 names it
pub start_included : (s k : Bytes) → Exact (past_start Included s k) (s ≼ k)
start_included s k = elim (tri s k) [ before l ↦ rw (cmp_before l) (exact_yes (below_asym l)) | equal e ↦ rw (cmp_equal e) (exact_yes (upto_of_eq e)) | after l ↦ rw (cmp_after l) (exact_no (λ h. h l)) ]

pub start_excluded : (s k : Bytes) → Exact (past_start Excluded s k) (s ≺ k)
start_excluded s k = elim (tri s k) [ before l ↦ rw (cmp_before l) (exact_yes l) | equal e ↦ rw (cmp_equal e) (exact_no (λ h. upto_of_eq (sym e) h)) | after l ↦ rw (cmp_after l) (exact_no (λ h. below_asym l h)) ]

pub end_included : (e k : Bytes) → Exact (before_end Included e k) (k ≼ e)
end_included e k = start_included k e

pub end_excluded : (e k : Bytes) → Exact (before_end Excluded e k) (k ≺ e)
end_excluded e k = start_excluded k e
