-- Which leaf owns a key: every key has exactly one, by place in the list; and a rule at the owner is an edit at that place (L1).
-- Assumes nothing.
use Prim.Native.Nat.{◌<◌, suc, zero, ℕ}
use mathlib.Core.List.{List, [], ◌++◌, ◌∷◌}
use Rattle.std.specs.Prelude.{◌≡◌, drop, get_or, length, take}
use Rattle.std.proofs.Common.{ap}
use Rattle.std.proofs.Math.Path.{refl}
use native.Mathlib.Omega.{arith}
use Rattle.model.specs.Good.{Bounds, GoodLeaf, Tiled, Tiles}
use Rattle.model.specs.LeafViews.{on, side, stay}
use Rattle.model.specs.Leaves.{node, Node, Under, at_owner, low_of, owned, owner}
use Rattle.order.specs.Bytes.{Bytes, ◌≼◌}
use Rattle.order.specs.OrderLaws.{below_asym, below_irrefl, nil_upto, upto_trans}
use Rattle.model.specs.SpansAt.{SpansAt}

module _ (k : Bytes) (d : Node) where
  -- the rule at the owner, as an edit at a place
  pub owner_edit : (f : Node → List Node → List Node) (n : Node) (ns : List Node)
      → at_owner f k (n ∷ ns) ≡ take (owner k (n ∷ ns)) (n ∷ ns) ++ f (get_or (n ∷ ns) (owner k (n ∷ ns)) d) (drop (suc (owner k (n ∷ ns))) (n ∷ ns))
  unfolding at_owner owner
  owner_edit f n [] = refl
  owner_edit f n (m ∷ ns) =
      elim (side k m ns) [
        | on e u ↦ rw e (rw (owner_edit f m ns))
        | stay e b ↦ rw e
      ]

  pub owned_at : (n : Node) (ns : List Node) → owned k (n ∷ ns) ≡ (get_or (n ∷ ns) (owner k (n ∷ ns)) d).pairs
  unfolding owned owner
  owned_at n [] = refl
  owned_at n (m ∷ ns) =
      elim (side k m ns) [
        | on e u ↦ rw e (owned_at m ns)
        | stay e b ↦ rw e
      ]

  pub owner-within : (n : Node) (ns : List Node) → owner k (n ∷ ns) < length (n ∷ ns)
  unfolding owner
  owner-within n [] = omega arith
  owner-within n (m ∷ ns) =
      elim (side k m ns) [
        | on e u ↦ rw e (omega (arith, owner-within m ns))
        | stay e b ↦ rw e (omega arith)
      ]

  -- L1: k lies in its owner's span

  pub owner_low : (n : Node) (ns : List Node) → n.low ≼ k → (get_or (n ∷ ns) (owner k (n ∷ ns)) d).low ≼ k
  unfolding owner
  owner_low n [] h = h
  owner_low n (m ∷ ns) h =
      elim (side k m ns) [
        | on e u ↦ rw e (owner_low m ns u)
        | stay e b ↦ rw e h
      ]

  pub owner_under : (n : Node) (ns : List Node) → Under (low_of (drop (suc (owner k (n ∷ ns))) (n ∷ ns))) k
  unfolding owner
  owner_under n [] = tt
  owner_under n (m ∷ ns) =
      elim (side k m ns) [
        | on e u ↦ rw e (owner_under m ns)
        | stay e b ↦ rw e b
      ]

  -- and in no other's

  lows_from : (B : Bounds) (n : Node) (ns : List Node) (j : ℕ) → Tiled B (n ∷ ns) → j < length (n ∷ ns) → n.low ≼ (get_or (n ∷ ns) j d).low
  lows_from B n ns zero t h = below_irrefl
  lows_from B n [] (suc j) t h = absurd (omega arith)
  lows_from B n (m ∷ ns) (suc j) t h = upto_trans (below_asym t.0.0.low_under) (lows_from B m ns j t.1 (omega arith))

  pub owner_unique : (B : Bounds) (n : Node) (ns : List Node) (j : ℕ) → Tiled B (n ∷ ns) → j < length (n ∷ ns)
      → (get_or (n ∷ ns) j d).low ≼ k → Under (low_of (drop (suc j) (n ∷ ns))) k → j ≡ owner k (n ∷ ns)
  unfolding owner
  owner_unique B n [] zero t h l u = refl
  owner_unique B n [] (suc j) t h l u = absurd (omega arith)
  owner_unique B n (m ∷ ns) zero t h l u =
      elim (side k m ns) [
        | on e v ↦ absurd (v u)
        | stay e b ↦ rw e
      ]
  owner_unique B n (m ∷ ns) (suc j) t h l u =
      elim (side k m ns) [
        | on e v ↦ rw e (ap suc (owner_unique B m ns j t.1 (omega arith) l u))
        | stay e b ↦ absurd (upto_trans (lows_from B m ns j t.1 (omega arith)) l b)
      ]

-- the leaf at a place
pub tiled_at : {B : Bounds} (ns : List Node) (j : ℕ) → Tiled B ns → j < length ns → GoodLeaf B (get_or ns j (node 0 [] [])) (low_of (drop (suc j) ns))
tiled_at [] j t h = absurd (omega arith)
tiled_at (n ∷ ns) zero t h = t.0.0
tiled_at (n ∷ ns) (suc j) t h = tiled_at ns j t.1 (omega arith)

-- a tiling's first leaf, from which every key is at or above the low key
pub tiles_first : {B : Bounds} (P : List Node → Type 0) → ((n : Node) (ns : List Node) → ((k : Bytes) → n.low ≼ k) → Tiled B (n ∷ ns) → P (n ∷ ns))
    → (ns : List Node) → Tiles B ns → P ns
tiles_first P f [] t = absurd (let z : ◌≡◌ {A = ℕ} 0 1 = cc t.starts in omega arith)
tiles_first P f (n ∷ ns) t =
    let e : n.low ≡ [] = cc t.starts in
    f n ns (λ k. rw e nil_upto) t.tiled

-- every key has exactly one owner: demand 3's "without gap or overlap"

pub one_owner : {B : Bounds} (k : Bytes) (ns : List Node) → Tiles B ns → SpansAt ns k (owner k ns)
one_owner k ns t =
    tiles_first (λ ms. SpansAt ms k (owner k ms))
    (λ n ms h u. record {
      within = owner-within k (node 0 [] []) n ms;
      spans = (owner_low k (node 0 [] []) n ms (h k), owner_under k (node 0 [] []) n ms);
    })
    ns t

pub no_other_owner : {B : Bounds} (k : Bytes) (ns : List Node) (j : ℕ) → Tiles B ns → SpansAt ns k j → j ≡ owner k ns
no_other_owner {B} k ns j t s =
    tiles_first (λ ms. SpansAt ms k j → j ≡ owner k ms)
    (λ n ms h u r. owner_unique k (node 0 [] []) B n ms j u r.within r.spans.0 r.spans.1)
    ns t s
