-- A key's pair, by its place in the leaf that owns it: the map's answer, and that the value lies at the place `place_of`.
-- Assumes nothing.
use Rattle.std.specs.Prelude.{◌+◌, ◌≤◌, ℕ, List, [], ◌≡◌, refl, length}
use Rattle.std.proofs.Math.Option.{Option, none, some}
use Rattle.std.proofs.Common.{◌∙◌, ap, sym, arith}
use Rattle.layout.specs.Pieces.{InList, pair_in}
use Rattle.layout.proofs.Pieces.{pieces_of}
use Rattle.layout.specs.Places.{place_of}
use Rattle.layout.specs.Presumed.{Presumed}
use Rattle.layout.specs.declared.Header.{Header}
use Rattle.lists.specs.Part.{part}
use Rattle.model.specs.Leaves.{Node, owner, pairs_of}
use Rattle.model.specs.Map.{lookup, pair}
use Rattle.model.proofs.PairLaws.{lookup-owned}
use Rattle.model.specs.Place.{Place, at, gap, gap_lookup, place, place_key, place-lookup}
use Rattle.order.specs.Bytes.{Bytes}
use Rattle.route.specs.RouteLaws.{owner_pairs, place_in, routed}
use Rattle.route.specs.Routes.{leaf_at}

module _ {h : Header} {dir slots arena : List ℕ} {ns : List Node} (x : Presumed h dir slots arena ns) (k : Bytes) {j : ℕ} (o : j ≡ owner k ns) where
  owner-lookup : lookup k (leaf_at ns j).pairs ≡ lookup k (pairs_of ns)
  owner-lookup = ap (lookup k) (sym (owner_pairs x k o)) ∙ lookup-owned k ns x.tiles

  pub gap_none : (i : ℕ) → place k (leaf_at ns j).pairs ≡ gap i → lookup k (pairs_of ns) ≡ none
  gap_none i p = sym owner-lookup ∙ gap_lookup k (leaf_at ns j).pairs i p

  pub at_in_list : (i : ℕ) → place k (leaf_at ns j).pairs ≡ at i → InList ns j i
  at_in_list i p = record { leaf_in = place_in x (routed x k o).within; slot_in = (place_key (pair [] []) k (leaf_at ns j).pairs i p).0 }

  pub at_key : (i : ℕ) → place k (leaf_at ns j).pairs ≡ at i → (pair_in ns j i).key ≡ k
  at_key i p = (place_key (pair [] []) k (leaf_at ns j).pairs i p).1

  pub at_value : (i : ℕ) → place k (leaf_at ns j).pairs ≡ at i → lookup k (pairs_of ns) ≡ some (pair_in ns j i).value
  at_value i p = sym owner-lookup ∙ place-lookup (pair [] []) k (leaf_at ns j).pairs i p

-- the value lies at its place

pub record Lies (arena : List ℕ) (place : ℕ) (v : Bytes) : Type 0 where
  pub inside : place + length v ≤ length arena
  pub is : part arena place (length v) ≡ v

none_some : {A B : Type 0} {v : A} → ◌≡◌ {A = Option A} none (some v) → B
none_some {A} e = absurd (let z : ◌≡◌ {A = ℕ} 0 1 = ap (λ (o : Option A). elim o [ none ↦ 0 | some a ↦ 1 ]) e in omega (arith, z))

module _ {h : Header} {dir slots arena : List ℕ} {ns : List Node} (x : Presumed h dir slots arena ns) (k : Bytes) where
  lies_at : (p : Place) → place k (leaf_at ns (owner k ns)).pairs ≡ p → (v : Bytes) → lookup k (pairs_of ns) ≡ some v → Lies arena (place_of h dir slots arena ns k) v
  lies_at (at i) e v l =
      let q = pieces_of x (at_in_list x k refl i e) in
      let y : (pair_in ns (owner k ns) i).value ≡ v = cc (at_value x k refl i e, l) in
      let z = q.place_is ∙ ap (place_of h dir slots arena ns) (at_key x k refl i e) in
      let n = q.value_length ∙ ap length y in
      record { inside = omega (arith, q.parts_in, n, z); is = rw (sym z, sym n) (q.value_is ∙ y) }
  lies_at (gap i) e v l = none_some (sym (gap_none x k refl i e) ∙ l)

  pub value_lies : (v : Bytes) → lookup k (pairs_of ns) ≡ some v → Lies arena (place_of h dir slots arena ns k) v
  value_lies v l = lies_at (place k (leaf_at ns (owner k ns)).pairs) refl v l
