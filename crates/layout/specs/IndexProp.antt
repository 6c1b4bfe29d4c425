-- An index holds one leaf list, and it is known in one way: `Index` has at most one proof. So a type can have it as its own fact.
-- Assumes nothing.
use Rattle.std.specs.Prelude.{ℕ, List, [], ◌∷◌, ◌≡◌, length, take}
use Rattle.std.proofs.Math.Option.{Option, none, some}
use Rattle.std.proofs.Common.{ap}
use Rattle.std.specs.Coded.{Coded-set, Unit-prop, coded_ℕ, le_prop, Π_prop, ×_prop}
use mathlib.Core.List.{is_set}
use mathlib.Core.Option as option
use mathlib.Core.Path.{PathP, to_path_p}
use Rattle.layout.specs.Buffers.{Buffers}
use Rattle.layout.specs.Lays.{Holds, LaysAt, LaysEach, LaysLeaf, prefixes_of}
use Rattle.layout.specs.LaysUnique.{holds_unique}
use Rattle.layout.specs.Order.{Extent, InOrder}
use Rattle.layout.specs.Presumed.{Index, Presumed}
use Rattle.layout.specs.declared.Header.{Header}
use Rattle.lists.specs.All.{All}
use Rattle.model.specs.Good.{Bounds, Distinct, Fits, GoodLeaf, Tiled, Tiles}
use Rattle.model.specs.Leaves.{Node, Under}
use Rattle.model.specs.Limits.{Sizes}
use Rattle.model.specs.Map.{Pair, Rising}
use Rattle.order.specs.Bytes.{Bytes, ◌≺◌}
use Rattle.std.specs.Ordering.{Ordering-set}

-- equations

ℕ-set : IsSet ℕ
ℕ-set = Coded-set coded_ℕ

Bytes-set : IsSet Bytes
Bytes-set = is_set ℕ-set

low_set : IsSet (Option Bytes)
low_set = option.is_set Bytes-set

Pair-set : IsSet Pair
Pair-set a b p q = λ i j. record {
  key = Bytes-set a.key b.key (ap (λ (v : Pair). v.key) p) (ap (λ (v : Pair). v.key) q) i j;
  value = Bytes-set a.value b.value (ap (λ (v : Pair). v.value) p) (ap (λ (v : Pair). v.value) q) i j;
}

-- the order of byte strings

no_prop : {A : Type 0} → IsProp (A → ⊥)
no_prop = Π_prop (λ a. absurd_prop)
  where
    absurd_prop : IsProp ⊥
    absurd_prop x y = absurd x

below_prop : {a b : Bytes} → IsProp (a ≺ b)
below_prop x y = λ i. record { below = Ordering-set _ _ x.below y.below i }

under_prop : (upper : Option Bytes) (k : Bytes) → IsProp (Under upper k)
under_prop none k = Unit-prop
under_prop (some u) k = below_prop

all_prop : {A : Type 0} {P : A → Type 0} → ((x : A) → IsProp (P x)) → (l : List A) → IsProp (All P l)
all_prop f [] = Unit-prop
all_prop f (x ∷ l) = ×_prop (f x) (all_prop f l)

-- a leaf list that tiles, and fits

rising_prop : (m : List Pair) → IsProp (Rising m)
rising_prop [] = Unit-prop
rising_prop (p ∷ m) = ×_prop (all_prop (λ q. below_prop) m) (rising_prop m)

leaf_prop : {B : Bounds} {n : Node} {upper : Option Bytes} → IsProp (GoodLeaf B n upper)
leaf_prop {B} {n} {upper} x y = λ i. record {
  low_within = le_prop x.low_within y.low_within i;
  low_under = under_prop upper n.low x.low_under y.low_under i;
  rises = rising_prop n.pairs x.rises y.rises i;
  spanned = all_prop (λ p. ×_prop no_prop (under_prop upper p.key)) n.pairs x.spanned y.spanned i;
  within = all_prop (λ p. ×_prop le_prop le_prop) n.pairs x.within y.within i;
}

tiled_prop : (B : Bounds) (ns : List Node) → IsProp (Tiled B ns)
tiled_prop B [] = Unit-prop
tiled_prop B (n ∷ ns) = ×_prop (×_prop leaf_prop le_prop) (tiled_prop B ns)

tiles_prop : {B : Bounds} (ns : List Node) → IsProp (Tiles B ns)
tiles_prop ns x y = λ i. record { starts = low_set _ _ x.starts y.starts i; tiled = tiled_prop _ ns x.tiled y.tiled i }

distinct_prop : (ns : List Node) → IsProp (Distinct ns)
distinct_prop [] = Unit-prop
distinct_prop (n ∷ ns) = ×_prop (all_prop (λ m. no_prop) ns) (distinct_prop ns)

fits_prop : {pool room : ℕ} (ns : List Node) → IsProp (Fits pool room ns)
fits_prop ns x y = λ i. record {
  counted = le_prop x.counted y.counted i;
  in_pool = all_prop (λ n. le_prop) ns x.in_pool y.in_pool i;
  distinct = distinct_prop ns x.distinct y.distinct i;
  charged = le_prop x.charged y.charged i;
}

-- buffers that lay it out

lays_leaf_prop : {b : Buffers} {p d : ℕ} {n : Node} → IsProp (LaysLeaf b p d n)
lays_leaf_prop x y = λ i. record {
  number_is = ℕ-set _ _ x.number_is y.number_is i;
  count_is = ℕ-set _ _ x.count_is y.count_is i;
  low_is = Bytes-set _ _ x.low_is y.low_is i;
  no_value = ℕ-set _ _ x.no_value y.no_value i;
  pairs_are = is_set Pair-set _ _ x.pairs_are y.pairs_are i;
}

lays_each_prop : (b : Buffers) (ps ds : List ℕ) (ns : List Node) → IsProp (LaysEach b ps ds ns)
lays_each_prop b [] [] [] = Unit-prop
lays_each_prop b (p ∷ ps) (d ∷ ds) (n ∷ ns) = ×_prop lays_leaf_prop (lays_each_prop b ps ds ns)
lays_each_prop b [] [] (n ∷ ns) = λ x y. absurd x
lays_each_prop b [] (d ∷ ds) ns = λ x y. absurd x
lays_each_prop b (p ∷ ps) [] ns = λ x y. absurd x
lays_each_prop b (p ∷ ps) (d ∷ ds) [] = λ x y. absurd x

order_prop : (es : List Extent) (a top : ℕ) → IsProp (InOrder a es top)
order_prop [] a top = le_prop
order_prop (e ∷ es) a top = ×_prop le_prop (order_prop es _ top)

lays_at_prop : {b : Buffers} (ds ps : List ℕ) (ns : List Node) → IsProp (LaysAt b ds ps ns)
lays_at_prop ds ps ns x y = λ i. record { leaves = lays_each_prop _ ps ds ns x.leaves y.leaves i; ordered = order_prop _ _ _ x.ordered y.ordered i }

sizes_prop : {fanout pool slots arena : ℕ} → IsProp (Sizes fanout pool slots arena)
sizes_prop x y = λ i. record {
  fanout_enough = le_prop x.fanout_enough y.fanout_enough i;
  fanout_most = le_prop x.fanout_most y.fanout_most i;
  pool_enough = le_prop x.pool_enough y.pool_enough i;
  pool_most = le_prop x.pool_most y.pool_most i;
  slots_are = ℕ-set _ _ x.slots_are y.slots_are i;
  arena_most = le_prop x.arena_most y.arena_most i;
}

holds_prop : {h : Header} {dir slots arena : List ℕ} (ns : List Node) → IsProp (Holds h dir slots arena ns)
holds_prop {h} {dir} ns x y = λ i. record {
  sizes = sizes_prop x.sizes y.sizes i;
  leaves_are = ℕ-set _ _ x.leaves_are y.leaves_are i;
  pairs_are = ℕ-set _ _ x.pairs_are y.pairs_are i;
  charge_is = ℕ-set _ _ x.charge_is y.charge_is i;
  lays = lays_at_prop (take (length ns) dir) (prefixes_of ns) ns x.lays y.lays i;
}

presumed_prop : {h : Header} {dir slots arena : List ℕ} (ns : List Node) → IsProp (Presumed h dir slots arena ns)
presumed_prop ns x y = λ i. record {
  holds = holds_prop ns x.holds y.holds i;
  tiles = tiles_prop ns x.tiles y.tiles i;
  fits = fits_prop ns x.fits y.fits i;
}

pub Index-prop : (h : Header) (dir slots arena : List ℕ) → IsProp (Index h dir slots arena)
Index-prop h dir slots arena x y =
    let e : x.nodes ≡ y.nodes = holds_unique x.presumed.holds y.presumed.holds in
    let f : PathP (λ i. Presumed h dir slots arena (e i)) x.presumed y.presumed = to_path_p (λ i. Presumed h dir slots arena (e i)) (presumed_prop y.nodes (coe 0 1 (k. Presumed h dir slots arena (e k)) x.presumed) y.presumed) in
    λ i. record { nodes = e i; presumed = f i }
