-- The range is the right one: of the strings of bytes below 256, exactly those that begin with the prefix are in it.
-- Assumes nothing.
use Rattle.std.specs.Prelude.{ℕ, suc, ◌<◌, ◌≤◌, [], ◌∷◌, ◌≡◌, refl, length, take, Ok, Err}
use Rattle.std.proofs.Common.{inl, inr, ap, sym, arith, eq-eqb, ne_eqb, take_all}
use Rattle.std.proofs.Math.Option.{Option, none, some}
use Rattle.lists.specs.All.{All}
use Rattle.lists.specs.Exact.{Exact, exact_and, exact_iff, exact_yes}
use Rattle.lists.proofs.PartLaws.{part-put}
use Rattle.model.specs.Answers.{long_key, short, size_of}
use Rattle.model.specs.LeafViews.{fails, holds, truth}
use Rattle.model.specs.Leaves.{Spans, Under}
use Rattle.model.specs.Map.{in_range}
use Rattle.model.specs.Prefix.{prefix_end, prefix_range, raised}
use Rattle.model.proofs.ScanLaws.{end_excluded, start_included}
use Rattle.model.specs.declared.Refusal.{Refusal}
use Rattle.order.specs.Bytes.{Bytes, ◌≼◌}
use Rattle.order.specs.CommonLaws.{apart, even, leveled}
use Rattle.order.specs.OrderLaws.{below_cons, below_level, below_lower, below_nil, heads, level, lower, nil_upto, not_below_nil, upper}
use Rattle.prefixes.specs.End.{Begins, Byte, end_bytes}
use Rattle.prefixes.specs.Outcome.{PrefixOutcome, Written}
use Rattle.prefixes.specs.declared.Span.{Span}

-- one byte more in front

raised_under : (o : Option Bytes) (x y : ℕ) (k : Bytes) → x ≡ y → Under o k → Under (raised x o) (y ∷ k)
raised_under (some e) x y k q h = below_level y x k e (sym q) h
raised_under none x y k q h =
    elim (leveled x 0xff) [
      | even p ↦ rw (eq-eqb x 0xff p) tt
      | apart p ↦ rw (ne_eqb x 0xff p) (below_lower y (suc x) k [] (omega arith))
    ]

not_raised_under : (o : Option Bytes) (x y : ℕ) (k : Bytes) → x < y → Byte y → Under (raised x o) (y ∷ k) → ⊥
not_raised_under (some e) x y k q b h = elim (below_cons y x k e h) [ inl l ↦ omega arith | inr l ↦ omega (arith, l.0) ]
not_raised_under none x y k q b h =
    elim (leveled x 0xff) [
      | even p ↦ omega arith
      | apart p ↦ elim (below_cons y (suc x) k [] (rw (ne_eqb x 0xff p) at h)) [
        | inl l ↦ omega arith
        | inr l ↦ not_below_nil k l.1
      ]
    ]

under_raised : (o : Option Bytes) (x y : ℕ) (k : Bytes) → x ≡ y → Under (raised x o) (y ∷ k) → Under o k
under_raised none x y k q h = tt
under_raised (some e) x y k q h = elim (below_cons y x k e h) [ inl l ↦ absurd (omega arith) | inr l ↦ l.1 ]

-- what begins with p lies between p and the end, and nothing else does

begins_spans : (p k : Bytes) → Begins p k → Spans p (prefix_end p) k
unfolding prefix_end
begins_spans [] k b = (nil_upto, tt)
begins_spans (x ∷ p) [] b = absurd (let z : ◌≡◌ {A = ℕ} 0 1 = cc in omega arith)
begins_spans (x ∷ p) (y ∷ k) b =
    let q : x ≡ y = cc in
    let t : take (length p) k ≡ p = cc in
    let i = begins_spans p k t in (
      λ h. elim (below_cons y x k p h) [ inl l ↦ omega arith | inr l ↦ i.0 l.1 ],
      raised_under (prefix_end p) x y k q i.1,
    )

spans_begins : (p k : Bytes) → All Byte k → p ≼ k → Under (prefix_end p) k → Begins p k
unfolding prefix_end
spans_begins [] k a h u = refl
spans_begins (x ∷ p) [] a h u = absurd (h (below_nil x p))
spans_begins (x ∷ p) (y ∷ k) a h u =
    elim (heads x y) [
      | lower l ↦ absurd (not_raised_under (prefix_end p) x y k l a.0 u)
      | level q ↦ rw (sym q, spans_begins p k a.1 (λ j. h (below_level y x k p (sym q) j)) (under_raised (prefix_end p) x y k q u))
      | upper l ↦ absurd (h (below_lower y x k p l))
    ]

range_spans : (p k : Bytes) (o : Option Bytes) → Exact (in_range (prefix_range o) p (end_bytes o) k) (Spans p o k)
range_spans p k none = exact_and (start_included p k) (exact_yes tt)
range_spans p k (some e) = exact_and (start_included p k) (end_excluded e k)

pub range_exact : (p k : Bytes) → All Byte k → Exact (in_range (prefix_range (prefix_end p)) p (end_bytes (prefix_end p)) k) (Begins p k)
range_exact p k a = exact_iff (range_spans p k (prefix_end p)) (λ s. spans_begins p k a s.0 s.1) (λ b. begins_spans p k b)

-- the end is above the prefix and not longer, so the range is refused neither as 6 nor as 3

pub end_above : (p : Bytes) → Under (prefix_end p) p
end_above p = (begins_spans p p (take_all (length p) p (omega arith))).1

pub end_not_longer : (p e : Bytes) → prefix_end p ≡ some e → length e ≤ length p
unfolding prefix_end
end_not_longer [] e h = absurd (let z : ◌≡◌ {A = ℕ} 0 1 = cc in omega arith)
end_not_longer (x ∷ p) e h = go (prefix_end p) (λ f i. end_not_longer p f i) h
  where
    go : (o : Option Bytes) → ((f : Bytes) → o ≡ some f → length f ≤ length p) → raised x o ≡ some e → length e ≤ suc (length p)
    go (some f) r i = let q : x ∷ f ≡ e = cc in omega (arith, r f refl, ap length q)
    go none r i =
        elim (leveled x 0xff) [
          | even j ↦ absurd (let k : none ≡ some e = rw (eq-eqb x 0xff j) at i in let z : ◌≡◌ {A = ℕ} 0 1 = cc in omega arith)
          | apart j ↦ (let k : some (suc x ∷ []) ≡ some e = rw (ne_eqb x 0xff j) at i in let q : suc x ∷ [] ≡ e = cc in omega (arith, ap length q))
        ]

-- so it is for a caller, who finds the end key at the front of the output

size_bytes : (o : Option Bytes) → size_of o ≡ length (end_bytes o)
size_bytes none = refl
size_bytes (some e) = refl

not_made : {s : Span} {x : Refusal} → Ok s ≡ Err x → ⊥
not_made h = let z : ◌≡◌ {A = ℕ} 0 1 = cc in omega arith

written_exact : (p out now_out : Bytes) (s : Span) (k : Bytes) → All Byte k → Written (record { range = prefix_range (prefix_end p); end = prefix_end p }) out now_out (Ok s)
    → Exact (in_range s.range p (take s.end now_out) k) (Begins p k)
written_exact p out now_out s k a w =
    let end : Option Bytes = prefix_end p in
    let r : s.range ≡ prefix_range end = cc w.answer_is in
    let n : s.end ≡ length (end_bytes end) = cc (w.answer_is, size_bytes end) in
    let t : take s.end now_out ≡ end_bytes end = rw (n, w.out_is) (part-put out 0 (end_bytes end) (omega arith)) in
    rw (r, t) (range_exact p k a)

pub made_exact : (p out now_out : Bytes) (s : Span) (k : Bytes) → All Byte k → PrefixOutcome p out now_out (Ok s)
    → Exact (in_range s.range p (take s.end now_out) k) (Begins p k)
made_exact p out now_out s k a o =
    elim (truth (long_key p)) [
      | holds h ↦ absurd (not_made (rw h at o).answer_is)
      | fails h ↦ elim (truth (short (length out) (prefix_end p))) [
        | holds i ↦ absurd (not_made (rw (h, i) at o).answer_is)
        | fails i ↦ written_exact p out now_out s k a (rw (h, i) at o)
      ]
    ]
