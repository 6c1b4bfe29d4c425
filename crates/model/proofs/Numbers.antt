-- The pool's numbers (L6): the lowest free one is free, every lower one is used, and it is at most the count of the leaves; and the rules
-- keep numbers different, and keep what holds of each.
-- Assumes nothing.
use Rattle.std.specs.Prelude.{◌+◌, ◌<◌, ◌≤◌, suc, zero, ℕ, Bool, cond, false, true, ◌≡◌, eqb, length}
use mathlib.Core.List.{List, [], ◌++◌, ◌∷◌}
use Rattle.std.proofs.Math.Option.{Option}
use Rattle.std.proofs.Common.{◌∙◌, ap, sym, arith, eq-eqb, ne_eqb}
use Rattle.lists.specs.All.{All}
use Rattle.model.specs.Good.{Distinct}
use Rattle.model.specs.LeafViews.{fails, full, holds, merges, removal, settled, slack, stays, truth}
use Rattle.model.specs.Leaves.{Node, at_owner, low_of, owned, reaches, with_pairs}
use Rattle.model.specs.Map.{put}
use Rattle.model.specs.Rules.{free_from, halves, insert_here, insert_rule, lowest_free, merge_from, remove_rule, split_if_full, used}
use Rattle.order.specs.Bytes.{Bytes}
use Rattle.order.specs.CommonLaws.{apart, even, leveled}

-- the first leaf with a number, taken out
without : ℕ → List Node → List Node
without i [] = []
without i (n ∷ ns) = cond (eqb i n.number) ns (n ∷ without i ns)

used_here : (i : ℕ) (n : Node) (ns : List Node) → i ≡ n.number → used i (n ∷ ns) ≡ true
unfolding used
used_here i n ns e = rw (eq-eqb i n.number e)

used_there : (i : ℕ) (n : Node) (ns : List Node) → (i ≡ n.number → ⊥) → used i (n ∷ ns) ≡ used i ns
unfolding used
used_there i n ns h = rw (ne_eqb i n.number h)

without_length : (i : ℕ) (ns : List Node) → used i ns ≡ true → suc (length (without i ns)) ≡ length ns
unfolding used without
without_length i [] h = absurd (let z : ◌≡◌ {A = ℕ} 0 1 = cc in omega arith)
without_length i (n ∷ ns) h =
    elim (leveled i n.number) [
      | even e ↦ rw (eq-eqb i n.number e)
      | apart e ↦ rw (ne_eqb i n.number e) (ap suc (without_length i ns (sym (used_there i n ns e) ∙ h)))
    ]

without_used : (i j : ℕ) (ns : List Node) → (j ≡ i → ⊥) → used j ns ≡ true → used j (without i ns) ≡ true
unfolding without
without_used i j [] d h = h
without_used i j (n ∷ ns) d h =
    elim (leveled i n.number) [
      | even e ↦ rw (eq-eqb i n.number e) (sym (used_there j n ns (λ q. d (q ∙ sym e))) ∙ h)
      | apart e ↦ rw (ne_eqb i n.number e)
          (elim (leveled j n.number) [
            | even q ↦ used_here j n (without i ns) q
            | apart q ↦ used_there j n (without i ns) q ∙ without_used i j ns d (sym (used_there j n ns q) ∙ h)
          ])
    ]

-- there are as many leaves as there are numbers used from 0 on
pub pigeons : (m : ℕ) (ns : List Node) → ((j : ℕ) → j < m → used j ns ≡ true) → m ≤ length ns
pigeons zero ns h = omega arith
pigeons (suc m) ns h =
    omega (
      arith,
      without_length m ns (h m (omega arith)),
      pigeons m (without m ns) (λ j q. without_used m j ns (omega arith) (h j (omega arith))),
    )

-- what the search finds, `steps` numbers from i on
record Found (steps i : ℕ) (ns : List Node) (r : ℕ) : Type 0 where
  below : (j : ℕ) → j < r → used j ns ≡ true
  near : r ≤ steps + i
  itself : r < steps + i → used r ns ≡ false

found : (steps i : ℕ) (ns : List Node) → ((j : ℕ) → j < i → used j ns ≡ true) → Found steps i ns (free_from steps i ns)
unfolding free_from
found zero i ns h = record { below = h; near = omega arith; itself = λ q. absurd (omega arith) }
found (suc steps) i ns h =
    elim (truth (used i ns)) [
      | holds e ↦
          (let f = found steps (suc i) ns (λ j q. elim (leveled j i) [ even p ↦ rw p e | apart p ↦ h j (omega arith) ]) in
          rw e (record { below = f.below; near = omega (arith, f.near); itself = λ q. f.itself (omega arith) }))
      | fails e ↦ rw e (record { below = h; near = omega arith; itself = λ q. e })
    ]

lowest : (ns : List Node) → Found (length ns) 0 ns (lowest_free ns)
unfolding lowest_free
lowest ns = found (length ns) 0 ns (λ j q. absurd (omega arith))

pub lowest_least : (ns : List Node) (j : ℕ) → j < lowest_free ns → used j ns ≡ true
lowest_least ns j h = (lowest ns).below j h

pub lowest_near : (ns : List Node) → lowest_free ns ≤ length ns
lowest_near ns = omega (arith, (lowest ns).near)

pub lowest_free_lem : (ns : List Node) → used (lowest_free ns) ns ≡ false
lowest_free_lem ns =
    elim (truth (used (lowest_free ns) ns)) [
      | holds e ↦ elim (leveled (lowest_free ns) (length ns)) [
        | even p ↦ absurd (omega (
          arith,
          pigeons (suc (length ns)) ns (λ j q. elim (leveled j (length ns)) [
            | even r ↦ rw (r ∙ sym p) e
            | apart r ↦ (lowest ns).below j (omega arith)
          ]),
        ))
        | apart p ↦ (lowest ns).itself (omega (arith, (lowest ns).near))
      ]
      | fails e ↦ e
    ]

-- it is below the pool where a leaf is free
pub lowest_below : (pool : ℕ) (ns : List Node) → length ns < pool → lowest_free ns < pool
lowest_below pool ns h = omega (arith, lowest_near ns)

-- what holds of each leaf's number; and a number that no leaf has
abbrev pub AllNumbers : (ℕ → Type 0) → List Node → Type 0
AllNumbers R ns = All (λ n. R n.number) ns

abbrev pub Unused : ℕ → List Node → Type 0
Unused j ns = AllNumbers (λ i. j ≡ i → ⊥) ns

pub unused : (j : ℕ) (ns : List Node) → used j ns ≡ false → Unused j ns
unused j [] h = tt
unused j (n ∷ ns) h =
    elim (leveled j n.number) [
      | even e ↦ absurd (let z : ◌≡◌ {A = ℕ} 0 1 = cc (used_here j n ns e) in omega arith)
      | apart e ↦ (e, unused j ns (sym (used_there j n ns e) ∙ h))
    ]

-- the rules move numbers about; an insert that makes a leaf takes one new number
module _ (R : ℕ → Type 0) where
  split_numbers : (F free : ℕ) (n : Node) (u : Option Bytes) (ns : List Node) → (length n.pairs ≡ F → R free) → AllNumbers R (n ∷ ns)
      → AllNumbers R (split_if_full F free n u ++ ns)
  unfolding halves
  split_numbers F free n u ns r a =
      elim (settled F free n u) [ full e q w ↦ rw q (a.0, (r e, a.1)) | slack e q w ↦ rw q a ]

  insert_at_numbers : (F free : ℕ) (k v : Bytes) (ns : List Node) → (length (put k v (owned k ns)) ≡ F → R free) → AllNumbers R ns
      → AllNumbers R (at_owner (insert_here F free k v) k ns)
  unfolding at_owner owned insert_here
  insert_at_numbers F free k v [] r a = tt
  insert_at_numbers F free k v (n ∷ ns) r a =
      elim (truth (reaches k ns)) [
        | holds e ↦ rw e (a.0, insert_at_numbers F free k v ns (rw e at r) a.1)
        | fails e ↦ rw e (split_numbers F free (with_pairs n (put k v n.pairs)) (low_of ns) ns (rw e at r) a)
      ]

  pub insert_numbers : (F : ℕ) (k v : Bytes) (ns : List Node) → (length (put k v (owned k ns)) ≡ F → R (lowest_free ns)) → AllNumbers R ns
      → AllNumbers R (insert_rule F k v ns)
  unfolding insert_rule
  insert_numbers F k v ns r a = insert_at_numbers F (lowest_free ns) k v ns r a

  merge_numbers : (n : Node) (ns : List Node) → AllNumbers R (n ∷ ns) → AllNumbers R (merge_from n ns)
  unfolding merge_from
  merge_numbers n [] a = a
  merge_numbers n (m ∷ ns) a = (a.0, a.1.1)

  pub remove_numbers : (merging : Bool) (k : Bytes) (ns : List Node) → AllNumbers R ns → AllNumbers R (remove_rule merging k ns)
  unfolding remove_rule at_owner
  remove_numbers merging k [] a = tt
  remove_numbers merging k (n ∷ ns) a =
      elim (truth (reaches k ns)) [
        | holds e ↦ rw e (a.0, remove_numbers merging k ns a.1)
        | fails e ↦ rw e (elim (removal merging k n ns) [
          | merges t p f g q ↦ rw q (merge_numbers (with_pairs n []) ns a)
          | stays t q ↦ rw q a
        ])
      ]

split_distinct : (F free : ℕ) (n : Node) (u : Option Bytes) (ns : List Node) → Unused free (n ∷ ns) → Distinct (n ∷ ns)
    → Distinct (split_if_full F free n u ++ ns)
unfolding halves
split_distinct F free n u ns r a =
    elim (settled F free n u) [ full e q w ↦ rw q (((λ p. r.0 (sym p)), a.0), (r.1, a.1)) | slack e q w ↦ rw q a ]

insert_at_distinct : (F free : ℕ) (k v : Bytes) (ns : List Node) → Unused free ns → Distinct ns → Distinct (at_owner (insert_here F free k v) k ns)
unfolding at_owner insert_here
insert_at_distinct F free k v [] r a = tt
insert_at_distinct F free k v (n ∷ ns) r a =
    elim (truth (reaches k ns)) [
      | holds e ↦ rw e (
        insert_at_numbers (λ i. n.number ≡ i → ⊥) F free k v ns (λ f p. r.0 (sym p)) a.0,
        insert_at_distinct F free k v ns r.1 a.1,
      )
      | fails e ↦ rw e (split_distinct F free (with_pairs n (put k v n.pairs)) (low_of ns) ns r a)
    ]

pub insert_distinct : (F : ℕ) (k v : Bytes) (ns : List Node) → Distinct ns → Distinct (insert_rule F k v ns)
unfolding insert_rule
insert_distinct F k v ns a = insert_at_distinct F (lowest_free ns) k v ns (unused (lowest_free ns) ns (lowest_free_lem ns)) a

merge_distinct : (n : Node) (ns : List Node) → Distinct (n ∷ ns) → Distinct (merge_from n ns)
unfolding merge_from
merge_distinct n [] a = a
merge_distinct n (m ∷ ns) a = (a.0.1, a.1.1)

pub remove_distinct : (merging : Bool) (k : Bytes) (ns : List Node) → Distinct ns → Distinct (remove_rule merging k ns)
unfolding remove_rule at_owner
remove_distinct merging k [] a = tt
remove_distinct merging k (n ∷ ns) a =
    elim (truth (reaches k ns)) [
      | holds e ↦ rw e (remove_numbers (λ i. n.number ≡ i → ⊥) merging k ns a.0, remove_distinct merging k ns a.1)
      | fails e ↦ rw e (elim (removal merging k n ns) [
        | merges t p f g q ↦ rw q (merge_distinct (with_pairs n []) ns a)
        | stays t q ↦ rw q a
      ])
    ]
