-- A scan by its two ends: the pairs from the first past the start on, and whether the first of them is before the end. Where they begin:
-- in the leaf that owns the start, at the start's place there.
-- Assumes nothing.
use Rattle.std.specs.Prelude.{◌<◌, ◌≤◌, suc, zero, ℕ, false, true, ◌≡◌, drop, get_or, length}
use mathlib.Core.List.{List, [], ◌++◌, ◌∷◌}
use Rattle.std.proofs.Common.{◌∙◌, ap, sym, arith, drop-cons}
use Rattle.std.proofs.Math.Path.{refl}
use Rattle.lists.specs.All.{All, all_mono}
use Rattle.model.specs.Good.{Bounds, Tiled, Tiles}
use Rattle.model.specs.LeafViews.{fails, holds, on, side, stay, truth}
use Rattle.model.specs.Leaves.{Node, node, owner, pairs_of}
use Rattle.model.specs.Map.{Above, Below, Pair, Rising, before_end, first_in, past_start}
use Rattle.model.proofs.OwnerLaws.{tiles_first}
use Rattle.model.proofs.PairLaws.{above_rest, below_next}
use Rattle.model.specs.Place.{Place, at, gap, next, place}
use Rattle.model.specs.Scans.{Closed}
use Rattle.model.proofs.ScanLaws.{before_start, first_past}
use Rattle.model.specs.declared.Bound.{Bound}
use Rattle.model.specs.declared.Bound.TheVariants.{Excluded, Included, Open}
use Rattle.model.specs.declared.Range.{Range}
use Rattle.order.specs.Bytes.{Bytes, ◌≺◌}
use Rattle.order.specs.OrderLaws.{after, before, cmp_after, cmp_before, cmp_equal, equal, tri}
use Rattle.model.specs.Start.{from_start, first_before, slot_from, rest_of}

pub first_from : (r : Range) (s e : Bytes) (m : List Pair) → Rising m → first_in r s e m ≡ first_before r.end e (from_start r.start s m)
unfolding first_in from_start
first_from r s e [] a = refl
first_from r s e (p ∷ m) a =
    elim (truth (past_start r.start s p.key)) [
      | holds h ↦
          elim (truth (before_end r.end e p.key)) [
            | holds b ↦ rw (h, b)
            | fails b ↦ first_past r s e p m b a ∙ sym (rw (h, b))
          ]
      | fails h ↦ rw h (first_from r s e m a.1)
    ]

-- by parts

module _ (b : Bound) (s : Bytes) where
  abbrev pub Past : Pair → Type 0
  Past p = past_start b s p.key ≡ true

  abbrev pub Short : Pair → Type 0
  Short p = past_start b s p.key ≡ false

  pub start_beyond : (l m : List Pair) → All Short l → from_start b s (l ++ m) ≡ from_start b s m
  unfolding from_start
  start_beyond [] m a = refl
  start_beyond (p ∷ l) m a = rw a.0 (start_beyond l m a.1)

  pub start_past : (m : List Pair) → All Past m → from_start b s m ≡ m
  unfolding from_start
  start_past [] a = refl
  start_past (p ∷ m) a = rw a.0

  pub start_within : (l m : List Pair) → All Past m → from_start b s (l ++ m) ≡ from_start b s l ++ m
  unfolding from_start
  start_within [] m a = start_past m a
  start_within (p ∷ l) m a =
      elim (truth (past_start b s p.key)) [
        | holds h ↦ rw h
        | fails h ↦ rw h (start_within l m a)
      ]

past_above : (b : Bound) (s k : Bytes) → s ≺ k → past_start b s k ≡ true
past_above Included s k h = rw (cmp_before h)
past_above Excluded s k h = rw (cmp_before h)
past_above Open s k h = refl

pub all_past : (b : Bound) (s : Bytes) (m : List Pair) → All (Above s) m → All (Past b s) m
all_past b s m a = all_mono m (λ p h. past_above b s p.key h) a

pub all_short : (b : Bound) (s : Bytes) (m : List Pair) → Closed b → All (Below s) m → All (Short b s) m
all_short b s m c a = all_mono m (λ p h. before_start b s p.key c h) a

-- in a leaf: at the start's place

module _ (s : Bytes) where
  from_next : (b : Bound) (p : Pair) (m : List Pair) (x : Place) → Closed b → from_start b s m ≡ drop (slot_from b x) m → from_start b s m ≡ drop (slot_from b (next x)) (p ∷ m)
  from_next Included p m (at i) c e = e
  from_next Included p m (gap i) c e = e
  from_next Excluded p m (at i) c e = e
  from_next Excluded p m (gap i) c e = e
  from_next Open p m x c e = absurd c

  from_gap : (b : Bound) (p : Pair) (m : List Pair) → Closed b → s ≺ p.key → from_start b s (p ∷ m) ≡ drop (slot_from b (gap 0)) (p ∷ m)
  unfolding from_start
  from_gap Included p m c h = rw (cmp_before h)
  from_gap Excluded p m c h = rw (cmp_before h)
  from_gap Open p m c h = absurd c

  from_equal : (b : Bound) (p : Pair) (m : List Pair) → Closed b → s ≡ p.key → All (Above p.key) m → from_start b s (p ∷ m) ≡ drop (slot_from b (at 0)) (p ∷ m)
  unfolding from_start
  from_equal Included p m c e a = rw (cmp_equal e)
  from_equal Excluded p m c e a = rw (cmp_equal e) (start_past Excluded s m (all_past Excluded s m (rw e a)))
  from_equal Open p m c e a = absurd c

  pub from_place : (b : Bound) (m : List Pair) → Closed b → Rising m → from_start b s m ≡ drop (slot_from b (place s m)) m
  unfolding from_start place
  from_place Included [] c a = refl
  from_place Excluded [] c a = refl
  from_place Open [] c a = refl
  from_place b (p ∷ m) c a =
      elim (tri s p.key) [
        | before h ↦ rw (cmp_before h) (from_gap b p m c h)
        | equal e ↦ rw (cmp_equal e) (from_equal b p m c e a.0)
        | after h ↦ rw (cmp_after h) (rw (before_start b s p.key c h) (from_next b p m (place s m) c (from_place b m c a.1)))
      ]

-- in the leaf list: from the owner on

from_owner : (B : Bounds) (b : Bound) (s : Bytes) → Closed b → (n : Node) (ns : List Node) → Tiled B (n ∷ ns)
    → from_start b s (pairs_of (n ∷ ns)) ≡ from_start b s (get_or (n ∷ ns) (owner s (n ∷ ns)) (node 0 [] [])).pairs ++ pairs_of (drop (suc (owner s (n ∷ ns))) (n ∷ ns))
unfolding owner
from_owner B b s c n [] t = start_within b s n.pairs [] tt
from_owner B b s c n (m ∷ ns) t =
    elim (side s m ns) [
      | on h u ↦ rw h (start_beyond b s n.pairs (pairs_of (m ∷ ns)) (all_short b s n.pairs c (below_next B s n m ns t u)) ∙ from_owner B b s c m ns t.1)
      | stay h u ↦ rw h (start_within b s n.pairs (pairs_of (m ∷ ns)) (all_past b s (pairs_of (m ∷ ns)) (above_rest B s (m ∷ ns) t.1 u)))
    ]

owner_rises : (B : Bounds) (s : Bytes) (n : Node) (ns : List Node) → Tiled B (n ∷ ns) → Rising (get_or (n ∷ ns) (owner s (n ∷ ns)) (node 0 [] [])).pairs
unfolding owner
owner_rises B s n [] t = t.0.0.rises
owner_rises B s n (m ∷ ns) t =
    elim (side s m ns) [
      | on h u ↦ rw h (owner_rises B s m ns t.1)
      | stay h u ↦ rw h t.0.0.rises
    ]

pub start_owner : {B : Bounds} (b : Bound) (s : Bytes) (ns : List Node) → Closed b → Tiles B ns
    → from_start b s (pairs_of ns) ≡ rest_of ns (owner s ns) (slot_from b (place s (get_or ns (owner s ns) (node 0 [] [])).pairs))
start_owner {B} b s ns c t =
    tiles_first (λ ms. from_start b s (pairs_of ms) ≡ rest_of ms (owner s ms) (slot_from b (place s (get_or ms (owner s ms) (node 0 [] [])).pairs)))
    (λ n ms h u. from_owner B b s c n ms u ∙ ap (λ (l : List Pair). l ++ pairs_of (drop (suc (owner s (n ∷ ms))) (n ∷ ms))) (from_place s b (get_or (n ∷ ms) (owner s (n ∷ ms)) (node 0 [] [])).pairs c (owner_rises B s n ms u)))
    ns t

pub start_open : {B : Bounds} (s : Bytes) (ns : List Node) → Tiles B ns → from_start Open s (pairs_of ns) ≡ rest_of ns 0 0
start_open {B} s ns t =
    tiles_first (λ ms. from_start Open s (pairs_of ms) ≡ rest_of ms 0 0) (λ n ms h u. start_past Open s (pairs_of (n ∷ ms)) (open_past (pairs_of (n ∷ ms)))) ns t
  where
    open_past : (m : List Pair) → All (Past Open s) m
    open_past [] = tt
    open_past (p ∷ m) = (refl, open_past m)

-- on to the next leaf, and the end of the list

drop_all : (i : ℕ) (l : List Pair) → length l ≤ i → drop i l ≡ []
drop_all zero [] h = refl
drop_all (suc i) [] h = refl
drop_all zero (p ∷ l) h = absurd (omega arith)
drop_all (suc i) (p ∷ l) h = drop_all i l (omega arith)

pub rest_past : (ns : List Node) (j i : ℕ) → length ns ≤ j → rest_of ns j i ≡ []
rest_past [] j i h = ap (λ (x : List Pair). x ++ []) (drop_all i [] (omega arith))
rest_past (n ∷ ns) zero i h = absurd (omega arith)
rest_past (n ∷ ns) (suc j) i h = rest_past ns j i (omega arith)

pub rest_step : (ns : List Node) (j i : ℕ) → length (get_or ns j (node 0 [] [])).pairs ≤ i → rest_of ns j i ≡ rest_of ns (suc j) 0
rest_step [] j i l = rest_past [] j i (omega arith) ∙ sym (rest_past [] (suc j) 0 (omega arith))
rest_step (n ∷ []) zero i l = ap (λ (x : List Pair). x ++ []) (drop_all i n.pairs l)
rest_step (n ∷ m ∷ ns) zero i l = ap (λ (x : List Pair). x ++ pairs_of (m ∷ ns)) (drop_all i n.pairs l)
rest_step (n ∷ ns) (suc j) i l = rest_step ns j i l

pub rest_head : (ns : List Node) (j i : ℕ) (x : Pair) → i < length (get_or ns j (node 0 [] [])).pairs
    → rest_of ns j i ≡ get_or (get_or ns j (node 0 [] [])).pairs i x ∷ (drop (suc i) (get_or ns j (node 0 [] [])).pairs ++ pairs_of (drop (suc j) ns))
rest_head ns j i x h = ap (λ (l : List Pair). l ++ pairs_of (drop (suc j) ns)) (drop-cons (get_or ns j (node 0 [] [])).pairs i x h)
