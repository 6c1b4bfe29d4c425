-- A rising list of pairs, cut in two nonempty parts: the cut's key (L5) is above every left key and above no right key, and no shorter
-- string is; L4's offset is such a cut, for at least three pairs.
-- Assumes nothing.
use Rattle.std.specs.Prelude.{◌<◌, ◌≤◌, suc, zero, ℕ, List, [], ◌∷◌, drop, length, take}
use Rattle.std.proofs.Math.Option.{Option, none, some}
use Rattle.std.proofs.Common.{arith, length-drop, length-take}
use Rattle.lists.specs.All.{All, all_drop, all_mono}
use Rattle.model.specs.Map.{Above, Below, From, Pair, Rising}
use Rattle.model.specs.MapLaws.{rising_drop, rising_take}
use Rattle.model.specs.Rules.{cut_key, first_key, last_key, split_offset}
use Rattle.order.specs.Bytes.{Bytes, ◌≺◌, ◌≼◌, separator}
use Rattle.order.specs.OrderLaws.{below_asym, below_irrefl, upto_below_trans, upto_trans}
use Rattle.order.proofs.SeparatorLaws.{separator_above, separator_shortest, separator_upto}

-- what holds of all keys holds of the last and of the first

pub last_key_lem : (P : Bytes → Type 0) (l : List Pair) → 0 < length l → All (λ p. P p.key) l → P (last_key l)
last_key_lem P [] h a = absurd (omega arith)
last_key_lem P (p ∷ []) h a = a.0
last_key_lem P (p ∷ q ∷ l) h a = last_key_lem P (q ∷ l) (omega arith) a.1

pub first_key_lem : (P : Bytes → Type 0) (l : List Pair) → 0 < length l → All (λ p. P p.key) l → P (first_key l)
first_key_lem P [] h a = absurd (omega arith)
first_key_lem P (p ∷ l) h a = a.0

-- no key is above the last, none is below the first

upto_last : (l : List Pair) → Rising l → All (λ p. p.key ≼ last_key l) l
upto_last [] r = tt
upto_last (p ∷ []) r = (below_irrefl, tt)
upto_last (p ∷ q ∷ l) r =
    let i : All (λ x. x.key ≼ last_key (q ∷ l)) (q ∷ l) = upto_last (q ∷ l) r.1 in
    (upto_trans (below_asym r.0.0) i.0, i)

from_first : (l : List Pair) → Rising l → All (λ p. first_key l ≼ p.key) l
from_first [] r = tt
from_first (p ∷ l) r = (below_irrefl, all_mono l (λ q h. below_asym h) r.0)

-- each key of the left part is below each key of the right
parts_below : (at : ℕ) (m : List Pair) → Rising m → All (λ p. All (Above p.key) (drop at m)) (take at m)
parts_below zero m r = tt
parts_below (suc at) [] r = tt
parts_below (suc at) (p ∷ m) r = (all_drop (Above p.key) at m r.0, parts_below at m r.1)

-- a cut leaves a pair on either side
pub record Cut (at : ℕ) (m : List Pair) : Type 0 where
  pub left : 0 < at
  pub right : at < length m

pub cut_left : {at : ℕ} {m : List Pair} → Cut at m → 0 < length (take at m)
cut_left {at} {m} c = rw length-take (omega arith)

pub cut_right : {at : ℕ} {m : List Pair} → Cut at m → 0 < length (drop at m)
cut_right {at} {m} c = rw length-drop (omega arith)

pub cut_order : {at : ℕ} {m : List Pair} → Cut at m → Rising m → last_key (take at m) ≺ first_key (drop at m)
cut_order {at} {m} c r =
    last_key_lem (λ x. x ≺ first_key (drop at m)) (take at m) (cut_left c)
    (all_mono (take at m) (λ p a. first_key_lem (λ y. p.key ≺ y) (drop at m) (cut_right c) a) (parts_below at m r))

-- L5

pub cut_below : {at : ℕ} {m : List Pair} → Cut at m → Rising m → All (Below (cut_key at m)) (take at m)
unfolding cut_key
cut_below {at} {m} c r =
    all_mono (take at m) (λ p h. upto_below_trans h (separator_above _ _ (cut_order c r))) (upto_last (take at m) (rising_take at m r))

pub cut_upto : (at : ℕ) (m : List Pair) → cut_key at m ≼ first_key (drop at m)
unfolding cut_key
cut_upto at m = separator_upto (last_key (take at m)) (first_key (drop at m))

pub cut_from : (at : ℕ) (m : List Pair) → Rising m → All (From (cut_key at m)) (drop at m)
cut_from at m r = all_mono (drop at m) (λ p h. upto_trans (cut_upto at m) h) (from_first (drop at m) (rising_drop at m r))

pub cut_shortest : {at : ℕ} {m : List Pair} (s : Bytes) → Cut at m → Rising m → All (Below s) (take at m) → All (From s) (drop at m)
    → length (cut_key at m) ≤ length s
unfolding cut_key
cut_shortest {at} {m} s c r a b =
    separator_shortest _ _ s (cut_order c r) (last_key_lem (λ x. x ≺ s) (take at m) (cut_left c) a) (first_key_lem (λ y. s ≼ y) (drop at m) (cut_right c) b)

pub cut_long : (at : ℕ) (m : List Pair) → length (cut_key at m) ≤ length (first_key (drop at m))
unfolding cut_key separator
cut_long at m = rw length-take (omega arith)

-- L4
pub offset_cut : (low : Bytes) (upper : Option Bytes) (m : List Pair) → 3 ≤ length m → Cut (split_offset (length m) low upper) m
offset_cut [] upper m h = record { left = omega arith; right = omega arith }
offset_cut (x ∷ low) none m h = record { left = omega arith; right = omega arith }
offset_cut (x ∷ low) (some u) m h = record { left = omega arith; right = omega arith }
