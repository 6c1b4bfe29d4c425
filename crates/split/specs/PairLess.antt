-- A leaf list and the same with a new pair in the leaf that spans its key: what holds of the longer one's leaves and numbers holds of the
-- shorter one's, and an insert into the shorter one gives the longer one.
-- Assumes nothing.
use Prim.Native.Nat.{◌<◌, suc, ℕ}
use mathlib.Core.List.{List, [], ◌++◌, ◌∷◌}
use Rattle.std.proofs.Math.Option.{Option, none}
use Rattle.std.proofs.Common.{◌∙◌, subst, arith, length-append}
use Rattle.std.specs.Prelude.{◌≡◌, refl, drop}
use Rattle.std.proofs.Math.Path.{ap, sym}
use Rattle.std.proofs.Math.ListN.{length}
use Rattle.model.specs.Good.{Bounds, Distinct, GoodLeaf, Tiled, Tiles}
use Rattle.model.specs.LeafViews.{fails, full, holds, settled, slack, truth}
use Rattle.model.specs.Leaves.{Node, Spans, at_owner, low_of, owner, reaches, with_pairs}
use Rattle.model.specs.Map.{Pair, lookup, put, remove}
use Rattle.model.specs.MapParts.{length-put}
use Rattle.model.proofs.Numbers.{AllNumbers}
use Rattle.model.proofs.OwnerLaws.{no_other_owner}
use Rattle.model.specs.Place.{gap, gap_lookup, place}
use Rattle.model.specs.Rules.{insert_here, insert_rule, lowest_free}
use Rattle.model.proofs.TileLaws.{leaf_remove}
use Rattle.order.specs.Bytes.{Bytes}
use Rattle.order.specs.OrderLaws.{after, before, cmp_after, cmp_before, cmp_equal, cmp_refl, equal, tri}
use Rattle.route.specs.Routes.{leaf_at}

-- the i-th pair of the o-th leaf is the new one
pub record PairLess (k v : Bytes) (o i : ℕ) (less more : List Node) : Type 0 where
  pub ahead : List Node
  pub leaf : Node
  pub behind : List Node
  pub less_is : less ≡ ahead ++ (leaf ∷ behind)
  pub more_is : more ≡ ahead ++ (with_pairs leaf (put k v leaf.pairs) ∷ behind)
  pub place_is : length ahead ≡ o
  pub stands : place k leaf.pairs ≡ gap i
  pub spans : Spans leaf.low (low_of behind) k

remove-put : (k v : Bytes) (m : List Pair) → lookup k m ≡ none → remove k (put k v m) ≡ m
unfolding lookup put remove
remove-put k v [] h = rw (cmp_refl k)
remove-put k v (p ∷ m) h =
    elim (tri k p.key) [
      | before b ↦ rw (cmp_before b) (rw (cmp_refl k))
      | equal e ↦ absurd (let z : ◌≡◌ {A = ℕ} 0 1 = cc (rw (cmp_equal e) at h) in omega arith)
      | after b ↦ rw (cmp_after b) (rw (cmp_after b) (rw (remove-put k v m (rw (cmp_after b) at h))))
    ]

-- the leaf list in parts

leaf_there : (l : List Node) (n : Node) (r : List Node) → leaf_at (l ++ (n ∷ r)) (length l) ≡ n
leaf_there [] n r = refl
leaf_there (x ∷ l) n r = leaf_there l n r

behind_there : (l : List Node) (n : Node) (r : List Node) → drop (suc (length l)) (l ++ (n ∷ r)) ≡ r
behind_there [] n r = refl
behind_there (x ∷ l) n r = behind_there l n r

owner_there : (f : Node → List Node → List Node) (k : Bytes) (l : List Node) (n : Node) (r : List Node) → length l ≡ owner k (l ++ (n ∷ r))
    → at_owner f k (l ++ (n ∷ r)) ≡ l ++ f n r
unfolding owner at_owner
owner_there f k [] n r o =
    elim (truth (reaches k r)) [
      | holds e ↦ absurd (let z : 0 ≡ suc (owner k r) = rw e at o in omega (arith, z))
      | fails e ↦ rw e
    ]
owner_there f k (x ∷ l) n r o =
    elim (truth (reaches k (l ++ (n ∷ r)))) [
      | holds e ↦ (let z : suc (length l) ≡ suc (owner k (l ++ (n ∷ r))) = rw e at o in rw e (rw (owner_there f k l n r (omega (arith, z)))))
      | fails e ↦ absurd (let z : suc (length l) ≡ 0 = rw e at o in omega (arith, z))
    ]

low_same : (l : List Node) (n : Node) (m : List Pair) (r : List Node) → low_of (l ++ (with_pairs n m ∷ r)) ≡ low_of (l ++ (n ∷ r))
low_same [] n m r = refl
low_same (x ∷ l) n m r = refl

numbers_same : (R : ℕ → Type 0) (l : List Node) (n : Node) (m : List Pair) (r : List Node) → AllNumbers R (l ++ (with_pairs n m ∷ r)) → AllNumbers R (l ++ (n ∷ r))
numbers_same R [] n m r a = a
numbers_same R (x ∷ l) n m r a = (a.0, numbers_same R l n m r a.1)

distinct_same : (l : List Node) (n : Node) (m : List Pair) (r : List Node) → Distinct (l ++ (with_pairs n m ∷ r)) → Distinct (l ++ (n ∷ r))
distinct_same [] n m r d = d
distinct_same (x ∷ l) n m r d = (numbers_same (λ i. x.number ≡ i → ⊥) l n m r d.0, distinct_same l n m r d.1)

put_longer : (k v : Bytes) (m : List Pair) → lookup k m ≡ none → length (put k v m) ≡ suc (length m)
put_longer k v m h = omega (arith, rw h at (length-put k v m))

module _ (B : Bounds) (k v : Bytes) (n : Node) (h : lookup k n.pairs ≡ none) (r : List Node) where
  abbrev n+ : Node
  n+ = with_pairs n (put k v n.pairs)

  tiled_less : (l : List Node) → Tiled B (l ++ (n+ ∷ r)) → Tiled B (l ++ (n ∷ r))
  tiled_less [] t = (
    (
      subst (λ (m : List Pair). GoodLeaf B (with_pairs n m) (low_of r)) (remove-put k v n.pairs h) (leaf_remove B k n+ (low_of r) t.0.0),
      omega (arith, put_longer k v n.pairs h, t.0.1),
    ),
    t.1,
  )
  tiled_less (x ∷ l) t =
      ((subst (λ (u : Option Bytes). GoodLeaf B x u) (low_same l n (put k v n.pairs) r) t.0.0, t.0.1), tiled_less l t.1)

  tiles_less : (l : List Node) → Tiles B (l ++ (n+ ∷ r)) → Tiles B (l ++ (n ∷ r))
  tiles_less l t = record { starts = sym (low_same l n (put k v n.pairs) r) ∙ t.starts; tiled = tiled_less l t.tiled }

  tiled_bound : (l : List Node) → Tiled B (l ++ (n+ ∷ r)) → suc (length n.pairs) < B.fanout
  tiled_bound [] t = omega (arith, put_longer k v n.pairs h, t.0.1)
  tiled_bound (x ∷ l) t = tiled_bound l t.1

-- the laws

module _ {k v : Bytes} {o i : ℕ} {less more : List Node} (w : PairLess k v o i less more) where
  absent : lookup k w.leaf.pairs ≡ none
  absent = gap_lookup k w.leaf.pairs i w.stands

  pub less_tiles : {B : Bounds} → Tiles B more → Tiles B less
  less_tiles {B} t =
      subst (Tiles B) (sym w.less_is) (tiles_less B k v w.leaf absent w.behind w.ahead (subst (Tiles B) w.more_is t))

  pub less_numbers : (R : ℕ → Type 0) → AllNumbers R more → AllNumbers R less
  less_numbers R a =
      subst (AllNumbers R) (sym w.less_is) (numbers_same R w.ahead w.leaf (put k v w.leaf.pairs) w.behind (subst (AllNumbers R) w.more_is a))

  pub less_distinct : Distinct more → Distinct less
  less_distinct d =
      subst Distinct (sym w.less_is) (distinct_same w.ahead w.leaf (put k v w.leaf.pairs) w.behind (subst Distinct w.more_is d))

  pub less_leaf : leaf_at less o ≡ w.leaf
  less_leaf = rw (w.less_is, sym w.place_is) (leaf_there w.ahead w.leaf w.behind)

  pub less_stands : place k (leaf_at less o).pairs ≡ gap i
  less_stands = rw less_leaf w.stands

  pub less_slack : {B : Bounds} → Tiles B more → suc (length (leaf_at less o).pairs) < B.fanout
  less_slack {B} t = rw less_leaf (tiled_bound B k v w.leaf absent w.behind w.ahead (rw w.more_is at t.tiled))

  pub less_owner : {B : Bounds} → Tiles B more → o ≡ owner k less
  less_owner t =
      no_other_owner k less o (less_tiles t)
      (record {
        within = rw w.less_is (omega (arith, w.place_is, length-append w.ahead (w.leaf ∷ w.behind)));
        spans = rw less_leaf (w.spans.0, rw (w.less_is, sym w.place_is, behind_there w.ahead w.leaf w.behind) w.spans.1);
      })

  slack_insert : (F free : ℕ) → suc (length w.leaf.pairs) < F
      → insert_here F free k v w.leaf w.behind ≡ with_pairs w.leaf (put k v w.leaf.pairs) ∷ w.behind
  unfolding insert_here
  slack_insert F free l =
      elim (settled F free (with_pairs w.leaf (put k v w.leaf.pairs)) (low_of w.behind)) [
        | full e q u ↦ absurd (omega (arith, l, e, put_longer k v w.leaf.pairs absent))
        | slack e q u ↦ rw q
      ]

  pub less_rule : {B : Bounds} → Tiles B more → insert_rule B.fanout k v less ≡ more
  unfolding insert_rule
  less_rule {B} t =
      let o_is : length w.ahead ≡ owner k (w.ahead ++ (w.leaf ∷ w.behind)) = w.place_is ∙ less_owner t ∙ ap (owner k) w.less_is in
      let l : suc (length w.leaf.pairs) < B.fanout = rw less_leaf at (less_slack t) in
      ap (at_owner (insert_here B.fanout (lowest_free less) k v) k) w.less_is
      ∙ owner_there (insert_here B.fanout (lowest_free less) k v) k w.ahead w.leaf w.behind o_is
      ∙ ap (λ (z : List Node). w.ahead ++ z) (slack_insert B.fanout (lowest_free less) l)
      ∙ sym w.more_is
