-- The model's answer to an insert, by numbers: where the key stands in the leaf that owns it, how many pairs that leaf has, the charge.
-- Assumes nothing.
use Rattle.std.specs.Prelude.{◌+◌, ◌-◌, ◌<◌, ◌≤◌, suc, zero, ℕ, true, List, [], ◌∷◌, ◌≡◌, refl, length}
use Rattle.std.proofs.Math.Option.{none, some}
use Rattle.std.proofs.Common.{◌∙◌, ap, sym, arith}
use Rattle.layout.specs.Presumed.{Presumed}
use Rattle.layout.specs.declared.Header.{Header}
use Rattle.model.specs.Answers.{size_of}
use Rattle.model.specs.Charge.{charge}
use Rattle.model.specs.Good.{Bounds, Tiled, Tiles, limits}
use Rattle.model.specs.LeafViews.{full, new_low, on, settled, side, slack, stay}
use Rattle.model.specs.Leaves.{Node, owned, owner, with_pairs}
use Rattle.model.specs.Map.{Pair, lookup, put}
use Rattle.model.specs.MapParts.{cost, length-put}
use Rattle.model.proofs.OwnerLaws.{tiles_first}
use Rattle.model.specs.Rules.{cut_key, insert_rule, split_offset}
use Rattle.model.proofs.SizeLaws.{insert_charge, remove-charge}
use Rattle.model.specs.LeafCuts.{insert_cut}
use Rattle.order.specs.Bytes.{Bytes}
use Rattle.route.specs.RouteLaws.{owner_pairs, routed}
use Rattle.route.specs.Routes.{leaf_at, upper_of}
use Rattle.judge.specs.Judges.{offset_at}

-- the new leaf's low key, by the leaf that owns the key
cut_at : (F : ℕ) (k v : Bytes) (n : Node) (ns : List Node)
    → insert_cut F k v (n ∷ ns)
    ≡ new_low F (with_pairs (leaf_at (n ∷ ns) (owner k (n ∷ ns))) (put k v (leaf_at (n ∷ ns) (owner k (n ∷ ns))).pairs)) (upper_of (n ∷ ns) (owner k (n ∷ ns)))
unfolding insert_cut owner
cut_at F k v n [] = refl
cut_at F k v n (m ∷ ns) =
    elim (side k m ns) [
      | on e u ↦ rw e (cut_at F k v m ns)
      | stay e b ↦ rw e
    ]

pub insert_cut_lem : {B : Bounds} (F : ℕ) (k v : Bytes) (ns : List Node) → Tiles B ns
    → insert_cut F k v ns ≡ new_low F (with_pairs (leaf_at ns (owner k ns)) (put k v (leaf_at ns (owner k ns)).pairs)) (upper_of ns (owner k ns))
insert_cut_lem F k v ns t =
    tiles_first (λ ms. insert_cut F k v ms ≡ new_low F (with_pairs (leaf_at ms (owner k ms)) (put k v (leaf_at ms (owner k ms)).pairs)) (upper_of ms (owner k ms)))
    (λ n ms h u. cut_at F k v n ms) ns t

tiled_count : (B : Bounds) (ns : List Node) (j : ℕ) → Tiled B ns → j < length ns → length (leaf_at ns j).pairs < B.fanout
tiled_count B [] j t h = absurd (omega arith)
tiled_count B (n ∷ ns) zero t h = t.0.1
tiled_count B (n ∷ ns) (suc j) t h = tiled_count B ns j t.1 (omega arith)

removed_charge : {B : Bounds} (k : Bytes) (ns : List Node) → Tiles B ns → cost k (lookup k (owned k ns)) ≤ charge ns
removed_charge k ns t =
    tiles_first (λ ms. cost k (lookup k (owned k ms)) ≤ charge ms) (λ n ms h u. omega (arith, remove-charge true k n ms)) ns t

pub charge_after : {B : Bounds} (F : ℕ) (k v : Bytes) (ns : List Node) → Tiles B ns
    → charge (insert_rule F k v ns) + cost k (lookup k (owned k ns)) ≡ charge ns + (length k + length v) + size_of (insert_cut F k v ns)
charge_after F k v ns t =
    tiles_first (λ ms. charge (insert_rule F k v ms) + cost k (lookup k (owned k ms)) ≡ charge ms + (length k + length v) + size_of (insert_cut F k v ms))
    (λ n ms h u. insert_charge F k v n ms) ns t

-- the leaf that owns the key, with the new pair: below F pairs no leaf is made, at F pairs one, whose low key is L5's separator

module _ {h : Header} {dir slots arena : List ℕ} {ns : List Node} (x : Presumed h dir slots arena ns) (k v : Bytes) {j : ℕ} (o : j ≡ owner k ns) where
  abbrev m : List Pair
  m = (leaf_at ns j).pairs

  pub below_fanout : length m < h.fanout
  below_fanout = tiled_count (limits h.fanout) ns j x.tiles.tiled (omega (arith, (routed x k o).within, x.holds.leaves_are))

  no_cut : (length (put k v m) ≡ h.fanout → ⊥) → insert_cut h.fanout k v ns ≡ none
  no_cut n =
      elim (settled h.fanout 0 (with_pairs (leaf_at ns j) (put k v m)) (upper_of ns j)) [
        | full e q w ↦ absurd (n e)
        | slack e q w ↦ (rw (sym o) at (insert_cut_lem h.fanout k v ns x.tiles)) ∙ w
      ]

  one_cut : length (put k v m) ≡ h.fanout → insert_cut h.fanout k v ns ≡ some (cut_key (offset_at h.fanout ns j) (put k v m))
  one_cut e =
      elim (settled h.fanout 0 (with_pairs (leaf_at ns j) (put k v m)) (upper_of ns j)) [
        | full f q w ↦ (rw (sym o) at (insert_cut_lem h.fanout k v ns x.tiles)) ∙ w
            ∙ ap (λ (n : ℕ). some (cut_key (split_offset n (leaf_at ns j).low (upper_of ns j)) (put k v m))) f
        | slack f q w ↦ absurd (f e)
      ]

  -- the key is in the list
  module _ (b : Bytes) (l : lookup k m ≡ some b) where
    pub old_count : length (put k v m) ≡ length m
    old_count = let e = rw l at (length-put k v m) in omega (arith, e)

    pub old_charged : length b ≤ h.charge
    old_charged =
        let e = rw (owner_pairs x k o, l) at (removed_charge k ns x.tiles) in
        omega (arith, e, x.holds.charge_is)

    pub old_charge : charge (insert_rule h.fanout k v ns) ≡ h.charge - length b + length v
    old_charge =
        let e = rw (owner_pairs x k o, l, no_cut (λ q. omega (arith, q, old_count, below_fanout))) at (charge_after h.fanout k v ns x.tiles) in
        omega (arith, e, x.holds.charge_is, old_charged)

  -- the key is new
  module _ (l : lookup k m ≡ none) where
    pub new_count : length (put k v m) ≡ suc (length m)
    new_count = let e = rw l at (length-put k v m) in omega (arith, e)

    pub slack_charge : suc (length m) < h.fanout → charge (insert_rule h.fanout k v ns) ≡ h.charge + length k + length v
    slack_charge n =
        let e = rw (owner_pairs x k o, l, no_cut (λ q. omega (arith, q, new_count, n))) at (charge_after h.fanout k v ns x.tiles) in
        omega (arith, e, x.holds.charge_is)

    pub full_charge : suc (length m) ≡ h.fanout
        → charge (insert_rule h.fanout k v ns) ≡ h.charge + length k + length v + length (cut_key (offset_at h.fanout ns j) (put k v m))
    full_charge n =
        let e = rw (owner_pairs x k o, l, one_cut (omega (arith, new_count, n))) at (charge_after h.fanout k v ns x.tiles) in
        omega (arith, e, x.holds.charge_is)
