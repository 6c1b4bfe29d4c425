-- Stored bytes never exceed the charge (L9). A merge (L7) changes them exactly so: the neighbour's low key goes, and each of its pairs
-- regains the bytes that the shorter prefix no longer covers.
-- Assumes nothing.
use Rattle.std.specs.Prelude.{◌*◌, ◌+◌, ◌-◌, ◌≤◌, ℕ, List, [], ◌++◌, ◌∷◌, ◌≡◌, refl, length}
use Rattle.std.proofs.Math.Option.{Option, none, some}
use Rattle.std.proofs.Common.{◌∙◌, arith}
use Rattle.lists.specs.All.{All, all_mono}
use Rattle.model.specs.Charge.{charge, stored, stored_pairs, weight}
use Rattle.model.specs.Good.{Bounds, GoodLeaf, Tiled}
use Rattle.model.specs.Leaves.{Node, Under, low_of, prefix_length}
use Rattle.model.specs.Map.{Pair}
use Rattle.model.specs.PrefixLaws.{span_long}
use Rattle.model.specs.Rules.{merge_from}
use Rattle.order.specs.Bytes.{Bytes, ◌≺◌, ◌≼◌, common}
use Rattle.order.specs.CommonLaws.{common_most, common_right, common-take, squeeze, squeeze_long}
use Rattle.order.specs.OrderLaws.{below_asym}

stored_weight : (c : ℕ) (m : List Pair) → stored_pairs c m ≤ weight m
unfolding stored_pairs weight
stored_weight c [] = omega arith
stored_weight c (p ∷ m) = omega (arith, stored_weight c m)

-- L9
pub stored_charge : (ns : List Node) → stored ns ≤ charge ns
unfolding stored charge
stored_charge [] = omega arith
stored_charge (n ∷ ns) = omega (arith, stored_weight (prefix_length n.low (low_of ns)) n.pairs, stored_charge ns)

-- the higher of two low keys has no fewer bytes in common with a key above both
pub common_grows : (a b upper : Bytes) → a ≼ b → b ≺ upper → common a upper ≤ common b upper
common_grows a b upper h u =
    common_most (common a upper) b upper (squeeze_long a b upper h u) (common_right a upper) (squeeze a b upper h u ∙ common-take a upper)

pub prefix_grows : (a b : Bytes) (upper : Option Bytes) → a ≼ b → Under upper b → prefix_length a upper ≤ prefix_length b upper
prefix_grows a b none h u = omega arith
prefix_grows a b (some upper) h u = common_grows a b upper h u

-- under a shorter prefix each pair stores the difference more
pub stored_shorter : (a b : ℕ) (m : List Pair) → a ≤ b → All (λ p. b ≤ length p.key) m
    → stored_pairs a m ≡ stored_pairs b m + length m * (b - a)
unfolding stored_pairs
stored_shorter a b [] h l = omega arith
stored_shorter a b (p ∷ m) h l = omega (arith, stored_shorter a b m h l.1, l.0)

-- the prefix length that the neighbour m of an empty leaf n loses when n takes its pairs
abbrev pub regained : Node → Node → List Node → ℕ
regained n m ns = prefix_length m.low (low_of ns) - prefix_length n.low (low_of ns)

pub merge_stored : (B : Bounds) (n m : Node) (ns : List Node) → n.low ≺ m.low → GoodLeaf B m (low_of ns) → n.pairs ≡ []
    → stored (merge_from n (m ∷ ns)) + length m.low ≡ stored (n ∷ m ∷ ns) + length m.pairs * regained n m ns
unfolding merge_from stored stored_pairs
merge_stored B n m ns h g e =
    rw e (omega (
      arith,
      stored_shorter (prefix_length n.low (low_of ns)) (prefix_length m.low (low_of ns)) m.pairs
          (prefix_grows n.low m.low (low_of ns) (below_asym h) g.low_under)
          (all_mono m.pairs (λ p s. span_long m.low (low_of ns) p.key s) g.spanned),
    ))

-- leaves ahead see only the first low key behind them
pub stored_ahead : (ahead ns ms : List Node) → low_of ns ≡ low_of ms → stored (ahead ++ ns) + stored ms ≡ stored (ahead ++ ms) + stored ns
unfolding stored
stored_ahead [] ns ms e = omega arith
stored_ahead (x ∷ []) ns ms e = rw e (omega arith)
stored_ahead (x ∷ y ∷ ahead) ns ms e = omega (arith, stored_ahead (y ∷ ahead) ns ms e)

pub charge_ahead : (ahead ns : List Node) → charge (ahead ++ ns) ≡ charge ahead + charge ns
unfolding charge
charge_ahead [] ns = omega arith
charge_ahead (x ∷ ahead) ns = omega (arith, charge_ahead ahead ns)

pub tiled_behind : (B : Bounds) (ahead ns : List Node) → Tiled B (ahead ++ ns) → Tiled B ns
tiled_behind B [] ns t = t
tiled_behind B (x ∷ ahead) ns t = tiled_behind B ahead ns t.1

merge_low : (n : Node) (ns : List Node) → low_of (merge_from n ns) ≡ some n.low
unfolding merge_from
merge_low n [] = refl
merge_low n (m ∷ ns) = refl

-- so it is with any leaves ahead
pub merge_stored_behind : (B : Bounds) (ahead : List Node) (n m : Node) (ns : List Node) → Tiled B (ahead ++ (n ∷ m ∷ ns)) → n.pairs ≡ []
    → stored (ahead ++ merge_from n (m ∷ ns)) + length m.low ≡ stored (ahead ++ (n ∷ m ∷ ns)) + length m.pairs * regained n m ns
merge_stored_behind B ahead n m ns t e =
    let s = tiled_behind B ahead (n ∷ m ∷ ns) t in
    omega (
      arith,
      stored_ahead ahead (merge_from n (m ∷ ns)) (n ∷ m ∷ ns) (merge_low n (m ∷ ns)),
      merge_stored B n m ns s.0.0.low_under s.1.0.0 e,
    )
