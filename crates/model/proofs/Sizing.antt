-- Demand 3's sizing: in merge mode, with F at least 3, a pool of P + 1 leaves and an arena of P x (2K + V) bytes, an insert that leaves at
-- most P pairs is refused neither 7 nor 8. K and V (here kmost and vmost) bind this insert and every insert of the past: a low key is cut
-- from an inserted key, and outlives it.
-- Assumes nothing.
use Rattle.std.specs.Prelude.{◌*◌, ◌+◌, ◌≤◌, ℕ, Bool, false, true, List, [], ◌∷◌, ◌≡◌, length}
use Rattle.std.proofs.Common.{ap, mul-le-mul_right, arith, eq-eqb, le-ltb, ne_eqb, length-append}
use Rattle.std.proofs.lemmas.Bool.{lt-leb}
use Rattle.lists.specs.All.{All}
use Rattle.model.specs.Answers.{long_key, long_value, short, size_of, Changed, accepted, insert_answer, refuse_if, refused, no_leaf, no_room}
use Rattle.model.specs.Charge.{charge, weight}
use Rattle.model.proofs.FilledLaws.{insert_filled, leaves_pairs, remove_filled}
use Rattle.model.specs.Good.{Bounds, Filled, Tiled, Tiles, Within}
use Rattle.model.specs.Leaves.{Node, owned, pairs_of}
use Rattle.model.specs.Map.{lookup, Pair, put}
use Rattle.model.proofs.OwnerLaws.{tiles_first}
use Rattle.model.proofs.PairLaws.{insert_pairs}
use Rattle.model.specs.Rules.{insert_rule}
use Rattle.model.specs.LeafCuts.{cuts, uncut}
use Rattle.model.proofs.SizeLaws.{cutting, insert_count}
use Rattle.model.proofs.TileLaws.{fresh_tiles, insert_tiles, remove_tiles}
use Rattle.model.specs.declared.Refusal.{Refusal}
use Rattle.model.specs.declared.Refusal.TheVariants.{LongKey, LongValue, NoLeaf, NoRoom, ShortOutput}
use Rattle.order.specs.Bytes.{Bytes}
use Rattle.model.specs.Reached.{bounds, Reached, created, inserted, removed, cleared}

module _ (F kmost vmost : ℕ) (three : 3 ≤ F) where
  pub reached_tiles : {ns : List Node} → Reached F kmost vmost ns → Tiles (bounds F kmost vmost) ns
  reached_tiles created = fresh_tiles (bounds F kmost vmost) three
  reached_tiles (inserted {ns} k v hk hv r) = insert_tiles (bounds F kmost vmost) three k v (hk, hv) ns (reached_tiles r)
  reached_tiles (removed {ns} k r) = remove_tiles (bounds F kmost vmost) true k ns (reached_tiles r)
  reached_tiles (cleared r) = fresh_tiles (bounds F kmost vmost) three

  pub reached_filled : {ns : List Node} → Reached F kmost vmost ns → Filled ns
  reached_filled created = tt
  reached_filled (inserted {ns} k v hk hv r) = insert_filled F k v ns three (reached_filled r)
  reached_filled (removed {ns} k r) = remove_filled k ns (reached_filled r)
  reached_filled (cleared r) = tt

-- the charge of a tiled list of at most P pairs

weight_bound : (B : Bounds) (m : List Pair) → All (Within B) m → weight m ≤ length m * (B.key_most + B.value_most)
unfolding weight
weight_bound B [] a = omega arith
weight_bound B (p ∷ m) a = omega (arith, weight_bound B m a.1, a.0.0, a.0.1)

charge_bound : (B : Bounds) (n : Node) (ns : List Node) → Tiled B (n ∷ ns)
    → charge (n ∷ ns) ≤ length n.low + length (pairs_of (n ∷ ns)) * (B.key_most + B.value_most) + length ns * B.key_most
unfolding charge
charge_bound B n [] t = rw length-append (omega (arith, weight_bound B n.pairs t.0.0.within))
charge_bound B n (m ∷ ns) t =
    rw length-append (omega (arith, weight_bound B n.pairs t.0.0.within, charge_bound B m ns t.1, t.1.0.0.low_within))

pub filled_charge : (B : Bounds) (P : ℕ) (ns : List Node) → Tiles B ns → Filled ns → length (pairs_of ns) ≤ P
    → charge ns ≤ P * (2 * B.key_most + B.value_most)
filled_charge B P [] t f h = absurd (let z : ◌≡◌ {A = ℕ} 0 1 = cc t.starts in omega arith)
filled_charge B P (n ∷ ns) t f h =
    let e : n.low ≡ [] = cc t.starts in
    let others : length ns ≤ P = omega (arith, leaves_pairs (n ∷ ns) f) in
    omega (
      arith,
      charge_bound B n ns t.tiled,
      ap length e,
      mul-le-mul_right (B.key_most + B.value_most) h,
      mul-le-mul_right B.key_most others,
    )

-- where the list after the insert is within the pool, 7 is not given
has_leaf : (F pool : ℕ) (k v : Bytes) (n : Node) (ns : List Node) → length (insert_rule F k v (n ∷ ns)) ≤ pool → no_leaf F pool k v (n ∷ ns) ≡ false
has_leaf F pool k v n ns h =
    elim (cutting F k v n ns) [
      | cuts e s q ↦ rw (eq-eqb (length (put k v (owned k (n ∷ ns)))) F e) (lt-leb pool (length (n ∷ ns)) (omega (arith, rw q at (insert_count F k v n ns))))
      | uncut e q ↦ rw (ne_eqb (length (put k v (owned k (n ∷ ns)))) F e)
    ]

pub sizing : (F kmost vmost P pool arena : ℕ) → 3 ≤ F → P + 1 ≤ pool → P * (2 * kmost + vmost) ≤ arena
    → (ns : List Node) → Reached F kmost vmost ns → (k v : Bytes) → length k ≤ kmost → length v ≤ vmost → length (put k v (pairs_of ns)) ≤ P
    → (no_leaf F pool k v ns ≡ false) × (no_room F arena k v ns ≡ false)
sizing F kmost vmost P pool arena three leaves room ns r k v hk hv few =
    let B = bounds F kmost vmost in
    let ms = insert_rule F k v ns in
    let q : Reached F kmost vmost ms = inserted k v hk hv r in
    let was : Tiles B ns = reached_tiles F kmost vmost three r in
    let tiles : Tiles B ms = reached_tiles F kmost vmost three q in
    let filled : Filled ms = reached_filled F kmost vmost three q in
    let few_now : length (pairs_of ms) ≤ P = rw (insert_pairs F k v ns was) few in (
      tiles_first (λ xs. length (insert_rule F k v xs) ≤ pool → no_leaf F pool k v xs ≡ false) (λ n xs h u. has_leaf F pool k v n xs) ns was
          (omega (arith, leaves_pairs ms filled)),
      le-ltb arena (charge ms) (omega (arith, filled_charge B P ms tiles filled few_now)),
    )

-- so the insert's answer is neither 7 nor 8

refused_earlier : (a b c : Bool) (n : ℕ) (x : Changed) (r : Refusal) → refuse_if a LongKey (refuse_if b LongValue (refuse_if c (ShortOutput n) (accepted x))) ≡ refused r
    → (r ≡ NoLeaf → ⊥) × (r ≡ NoRoom → ⊥)
refused_earlier true b c n x r e = ((λ f. let z : ◌≡◌ {A = ℕ} 0 1 = cc in omega arith), λ f. let z : ◌≡◌ {A = ℕ} 0 1 = cc in omega arith)
refused_earlier false true c n x r e = ((λ f. let z : ◌≡◌ {A = ℕ} 0 1 = cc in omega arith), λ f. let z : ◌≡◌ {A = ℕ} 0 1 = cc in omega arith)
refused_earlier false false true n x r e = ((λ f. let z : ◌≡◌ {A = ℕ} 0 1 = cc in omega arith), λ f. let z : ◌≡◌ {A = ℕ} 0 1 = cc in omega arith)
refused_earlier false false false n x r e = let z : ◌≡◌ {A = ℕ} 0 1 = cc in absurd (omega arith)

pub sizing_answer : (F kmost vmost P pool arena : ℕ) → 3 ≤ F → P + 1 ≤ pool → P * (2 * kmost + vmost) ≤ arena
    → (ns : List Node) → Reached F kmost vmost ns → (k v : Bytes) → length k ≤ kmost → length v ≤ vmost → length (put k v (pairs_of ns)) ≤ P
    → (out : ℕ) (r : Refusal) → insert_answer F pool arena k v out ns ≡ refused r → (r ≡ NoLeaf → ⊥) × (r ≡ NoRoom → ⊥)
sizing_answer F kmost vmost P pool arena three leaves room ns reached k v hk hv few out r e =
    let s = sizing F kmost vmost P pool arena three leaves room ns reached k v hk hv few in
    let old = lookup k (pairs_of ns) in
    refused_earlier (long_key k) (long_value v) (short out old) (size_of old) (record { old = old; nodes = insert_rule F k v ns }) r (rw (s.0, s.1) at e)
