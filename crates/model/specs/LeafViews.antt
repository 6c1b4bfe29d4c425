-- The tests of the leaf rules, each taken apart in one place: does a key go on to the next leaf, is a leaf full, does a remove merge.
-- Every other law goes through these.
-- Assumes nothing.
use Rattle.std.specs.Prelude.{ℕ, Bool, cond, false, true, List, [], ◌∷◌, ◌≡◌, refl, eqb, length}
use Rattle.std.proofs.Math.Option.{Option, none, some}
use Rattle.std.proofs.Common.{ap, sym, arith, eq-eqb, ne_eqb}
use Rattle.model.specs.Leaves.{Node, reaches, with_pairs}
use Rattle.model.specs.Map.{Pair, remove}
use Rattle.model.specs.Rules.{cut_key, halves, is_last, merge_from, remove_here, split_if_full, split_offset}
use Rattle.order.specs.Bytes.{Bytes, ◌≺◌, ◌≼◌}
use Rattle.order.specs.CommonLaws.{apart, even, leveled}
use Rattle.order.specs.OrderLaws.{after, before, below_asym, cmp_after, cmp_before, cmp_equal, equal, tri, upto_of_eq}

-- a Bool, with its value kept
pub data Truth (b : Bool) : Type 0 where
  holds : b ≡ true → Truth b
  fails : b ≡ false → Truth b

pub truth : (b : Bool) → Truth b
truth true = holds refl
truth false = fails refl

-- whether a key goes on to the leaf n
pub data Side (k : Bytes) (n : Node) (ns : List Node) : Type 0 where
  on : reaches k (n ∷ ns) ≡ true → n.low ≼ k → Side k n ns
  stay : reaches k (n ∷ ns) ≡ false → k ≺ n.low → Side k n ns

pub side : (k : Bytes) (n : Node) (ns : List Node) → Side k n ns
side k n ns =
    elim (tri k n.low) [
      | before h ↦ stay (rw (cmp_before h)) h
      | equal e ↦ on (rw (cmp_equal e)) (upto_of_eq (sym e))
      | after h ↦ on (rw (cmp_after h)) (below_asym h)
    ]

-- where a full leaf is cut
abbrev pub offset_of : Node → Option Bytes → ℕ
offset_of n u = split_offset (length n.pairs) n.low u

-- the low key of the new leaf, where a leaf is full
unfoldable pub new_low : (fanout : ℕ) → Node → Option Bytes → Option Bytes
new_low fanout n u = cond (eqb (length n.pairs) fanout) (some (cut_key (offset_of n u) n.pairs)) none

-- whether a leaf is split
pub data Settled (F free : ℕ) (n : Node) (u : Option Bytes) : Type 0 where
  full : length n.pairs ≡ F → split_if_full F free n u ≡ halves free (offset_of n u) n → new_low F n u ≡ some (cut_key (offset_of n u) n.pairs) → Settled F free n u
  slack : (length n.pairs ≡ F → ⊥) → split_if_full F free n u ≡ n ∷ [] → new_low F n u ≡ none → Settled F free n u

pub settled : (F free : ℕ) (n : Node) (u : Option Bytes) → Settled F free n u
unfolding split_if_full new_low
settled F free n u =
    elim (leveled (length n.pairs) F) [
      | even e ↦ full e (split_by true (eq-eqb (length n.pairs) F e)) (rw (eq-eqb (length n.pairs) F e))
      | apart e ↦ slack e (split_by false (ne_eqb (length n.pairs) F e)) (rw (ne_eqb (length n.pairs) F e))
    ]
  where
    -- by whether the leaf, the new pair in it, has F pairs
    split_by : (b : Bool) → eqb (length n.pairs) F ≡ b → split_if_full F free n u ≡ cond b (halves free (offset_of n u) n) (n ∷ [])
    split_by b e = ap (λ (c : Bool). cond c (halves free (offset_of n u) n) (n ∷ [])) e

-- k is the key of a leaf's only pair, or it is not
pub data Lasting (k : Bytes) (m : List Pair) : Type 0 where
  last : (p : Pair) → m ≡ p ∷ [] → k ≡ p.key → is_last k m ≡ true → Lasting k m
  others : is_last k m ≡ false → Lasting k m

pub lasting : (k : Bytes) (m : List Pair) → Lasting k m
lasting k [] = others refl
lasting k (p ∷ []) =
    elim (tri k p.key) [
      | before h ↦ others (rw (cmp_before h))
      | equal e ↦ last p refl e (rw (cmp_equal e))
      | after h ↦ others (rw (cmp_after h))
    ]
lasting k (p ∷ q ∷ m) = others refl

-- whether a remove merges
pub data Removal (merging : Bool) (k : Bytes) (n : Node) (ns : List Node) : Type 0 where
  merges : merging ≡ true → (p : Pair) → n.pairs ≡ p ∷ [] → k ≡ p.key → remove_here merging k n ns ≡ merge_from (with_pairs n []) ns → Removal merging k n ns
  stays : (merging ≡ true → is_last k n.pairs ≡ false) → remove_here merging k n ns ≡ with_pairs n (remove k n.pairs) ∷ ns → Removal merging k n ns

pub removal : (merging : Bool) (k : Bytes) (n : Node) (ns : List Node) → Removal merging k n ns
unfolding remove_here
removal false k n ns = stays (λ e. absurd (let z : ◌≡◌ {A = ℕ} 0 1 = cc in omega arith)) refl
removal true k n ns =
    elim (lasting k n.pairs) [
      | last p e f t ↦ merges refl p e f (rw t)
      | others t ↦ stays (λ e. t) (rw t)
    ]
