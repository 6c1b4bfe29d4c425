-- A directory's numbers marked one by one; the first number not marked is the lowest free one of each leaf list with these numbers.
-- Assumes nothing.
use Rattle.std.specs.Prelude.{◌%◌, ◌+◌, ◌/◌, ◌<◌, ◌^◌, ◌≤◌, suc, zero, ℕ, true, List, [], ◌∷◌, ◌≡◌, refl, get_or, length, replicate, set}
use Rattle.std.proofs.Common.{◌∙◌, sym, arith, eq-eqb, ne_eqb, length-set}
use Rattle.std.proofs.lemmas.List.{get_or-replicate, length-replicate}
use Rattle.layout.proofs.LaysWords.{holds_at}
use Rattle.layout.specs.Presumed.{Presumed}
use Rattle.layout.specs.declared.Header.{Header}
use Rattle.model.specs.Leaves.{Node, node}
use Rattle.model.proofs.Numbers.{lowest_free_lem, lowest_least}
use Rattle.model.specs.Rules.{lowest_free, used}
use Rattle.numbers.specs.BitLaws.{bit_zero, marked_itself, marked_others}
use Rattle.numbers.specs.Bits.{FirstUnmarked, Marked, Sets, bit_of}
use Rattle.numbers.specs.Free.{FreeRead, Numbered}
use Rattle.order.specs.CommonLaws.{apart, even, leveled}
use Rattle.order.specs.OrderLaws.{heads, level, lower, upper}
use Rattle.words.specs.Words.{word_leaf}

-- one of the first words has the number i
pub record Taken (leaves : ℕ) (dir : List ℕ) (i : ℕ) : Type 0 where
  pub place : ℕ
  pub place_in : place < leaves
  pub number_is : word_leaf (get_or dir place 0) ≡ i

-- the words have 12-bit numbers, and `seen` is the set of them
pub record Marks (leaves : ℕ) (dir seen : List ℕ) : Type 0 where
  pub long : length seen ≡ 64
  pub small : (i : ℕ) → Taken leaves dir i → i < 2 ^ 12
  pub marked : (i : ℕ) → Taken leaves dir i → Marked seen i
  pub taken : (i : ℕ) → i < 2 ^ 12 → Marked seen i → Taken leaves dir i

-- the numbers marked, one word more a turn

none_marked : (i : ℕ) → i < 2 ^ 12 → Marked (replicate 64 0) i → ⊥
none_marked i h m =
    let e : bit_of 0 (i % 64) ≡ 1 = rw (get_or-replicate {A = ℕ} 64 (i / 64) 0 0 (omega arith)) at m in
    omega (arith, e, bit_zero (i % 64))

pub marks_start : (dir : List ℕ) → Marks 0 dir (replicate 64 0)
marks_start dir = record {
  long = length-replicate {A = ℕ} 64 0;
  small = λ i t. absurd (omega (arith, t.place_in));
  marked = λ i t. absurd (omega (arith, t.place_in));
  taken = λ i h m. absurd (none_marked i h m);
}

taken_more : {j k i : ℕ} {dir : List ℕ} → k ≡ j + 1 → Taken j dir i → Taken k dir i
taken_more e t = record { place = t.place; place_in = omega (arith, e, t.place_in); number_is = t.number_is }

taken_less : {j k i : ℕ} {dir : List ℕ} → k ≡ j + 1 → (i ≡ word_leaf (get_or dir j 0) → ⊥) → Taken k dir i → Taken j dir i
taken_less {j} e d t =
    elim (leveled t.place j) [
      | even q ↦ absurd (d (sym t.number_is ∙ rw q refl))
      | apart q ↦ record { place = t.place; place_in = omega (arith, e, t.place_in); number_is = t.number_is }
    ]

module _ {j : ℕ} {dir seen : List ℕ} (m : Marks j dir seen) where
  pub marks_step : {k n at b w : ℕ} → n ≡ word_leaf (get_or dir j 0) → n < 2 ^ 12 → at ≡ n / 64 → b ≡ n % 64 → Sets (get_or seen at 0) b w → k ≡ j + 1
      → Marks k dir (set seen at w)
  marks_step {k} {n} {at} {b} {w} q h a e s f = record {
    long = simp length-set m.long;
    small = λ i t. elim (leveled i n) [
      | even p ↦ rw p h
      | apart p ↦ m.small i (taken_less f (λ r. p (r ∙ sym q)) t)
    ];
    marked = λ i t. elim (leveled i n) [
      | even p ↦ rw p (marked_itself seen n at b w m.long h a e s)
      | apart p ↦ marked_others seen n at b w m.long h a e s i p ∙ m.marked i (taken_less f (λ r. p (r ∙ sym q)) t)
    ];
    taken = λ i g x. elim (leveled i n) [
      | even p ↦ record { place = j; place_in = omega arith; number_is = sym q ∙ sym p }
      | apart p ↦ taken_more f (m.taken i g (sym (marked_others seen n at b w m.long h a e s i p) ∙ x))
    ];
  }

-- a leaf list uses the numbers that its words have

used_at : (i j : ℕ) (ns : List Node) → j < length ns → i ≡ (get_or ns j (node 0 [] [])).number → used i ns ≡ true
unfolding used
used_at i j [] h e = absurd (omega arith)
used_at i zero (n ∷ ns) h e = rw (eq-eqb i n.number e)
used_at i (suc j) (n ∷ ns) h e =
    elim (leveled i n.number) [
      | even p ↦ rw (eq-eqb i n.number p)
      | apart p ↦ rw (ne_eqb i n.number p) (used_at i j ns (omega arith) e)
    ]

record UsedAt (i : ℕ) (ns : List Node) : Type 0 where
  place : ℕ
  place_in : place < length ns
  number_is : i ≡ (get_or ns place (node 0 [] [])).number

at_used : (i : ℕ) (ns : List Node) → used i ns ≡ true → UsedAt i ns
unfolding used
at_used i [] h = absurd (let z : ◌≡◌ {A = ℕ} 0 1 = cc in omega arith)
at_used i (n ∷ ns) h =
    elim (leveled i n.number) [
      | even p ↦ record { place = 0; place_in = omega arith; number_is = p }
      | apart p ↦
          (let u = at_used i ns (rw (ne_eqb i n.number p) at h) in
          record { place = suc u.place; place_in = omega (arith, u.place_in); number_is = u.number_is })
    ]

module _ {leaves : ℕ} {dir : List ℕ} {ns : List Node} (x : Numbered leaves dir ns) where
  pub taken_used : (i : ℕ) → Taken leaves dir i → used i ns ≡ true
  taken_used i t = used_at i t.place ns (omega (arith, x.leaves_are, t.place_in)) (sym t.number_is ∙ x.numbers_are t.place t.place_in)

  pub used_taken : (i : ℕ) → used i ns ≡ true → Taken leaves dir i
  used_taken i h =
      let u = at_used i ns h in
      let p : u.place < leaves = omega (arith, x.leaves_are, u.place_in) in
      record { place = u.place; place_in = p; number_is = x.numbers_are u.place p ∙ sym u.number_is }

module _ {leaves : ℕ} {dir seen : List ℕ} {r : ℕ} (m : Marks leaves dir seen) (f : FirstUnmarked seen r) where
  first_free : Taken leaves dir r → ⊥
  first_free t = f.itself (m.small r t) (m.marked r t)

  first_least : (i : ℕ) → i < r → Taken leaves dir i
  first_least i h = m.taken i (omega (arith, f.near)) (f.below i h)

  pub free_read : FreeRead leaves dir r
  free_read = record {
    lowest = λ ns x. elim (heads r (lowest_free ns)) [
      | lower h ↦ absurd (first_free (used_taken x r (lowest_least ns r h)))
      | level e ↦ e
      | upper h ↦ absurd (let z : ◌≡◌ {A = ℕ} 0 1 = cc (lowest_free_lem ns, taken_used x (lowest_free ns) (first_least (lowest_free ns) h)) in omega arith)
    ];
  }

pub free_end : {leaves j : ℕ} {dir seen : List ℕ} {r : ℕ} → Marks j dir seen → j ≤ leaves → leaves ≤ j → FirstUnmarked seen r → FreeRead leaves dir r
free_end {leaves} {j} m h k f = let e : j ≡ leaves = omega arith in free_read (rw e at m) f

-- of a leaf list that is presumed, the directory has the numbers
pub presumed_numbered : {h : Header} {dir slots arena : List ℕ} {ns : List Node} → Presumed h dir slots arena ns → Numbered h.leaves dir ns
presumed_numbered x = record {
  leaves_are = x.holds.leaves_are;
  numbers_are = λ j k. (holds_at x.holds (node 0 [] []) j (omega (arith, x.holds.leaves_are))).number_is;
}
