-- A key in a leaf's span begins with the leaf's prefix and is at least as long; two such keys compare as their suffixes (L1, L2).
-- Assumes nothing.
use Rattle.std.specs.Prelude.{◌≤◌, ◌≡◌, refl, drop, length, take}
use Rattle.std.proofs.Math.Option.{Option, none, some}
use Rattle.std.proofs.Common.{arith}
use Rattle.model.specs.Leaves.{Spans, prefix_length}
use Rattle.order.specs.Bytes.{Bytes, cmp}
use Rattle.order.specs.CommonLaws.{cmp_suffixes, common_left, squeeze, squeeze_long}

module _ (low : Bytes) where
  pub span_prefix : (upper : Option Bytes) (k : Bytes) → Spans low upper k → take (prefix_length low upper) k ≡ take (prefix_length low upper) low
  span_prefix none k s = refl
  span_prefix (some u) k s = squeeze low k u s.0 s.1

  pub span_long : (upper : Option Bytes) (k : Bytes) → Spans low upper k → prefix_length low upper ≤ length k
  span_long none k s = omega arith
  span_long (some u) k s = squeeze_long low k u s.0 s.1

  pub prefix_low : (upper : Option Bytes) → prefix_length low upper ≤ length low
  prefix_low none = omega arith
  prefix_low (some u) = common_left low u

  pub span_suffixes : (upper : Option Bytes) (j k : Bytes) → Spans low upper j → Spans low upper k
      → cmp (drop (prefix_length low upper) j) (drop (prefix_length low upper) k) ≡ cmp j k
  span_suffixes none j k s t = refl
  span_suffixes (some u) j k s t = cmp_suffixes low u j k s.0 s.1 t.0 t.1
