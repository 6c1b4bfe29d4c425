-- The test of a leaf's slot words is exact: they pass exactly where their parts lie in order inside the arena, and their pairs rise within
-- the span and the limits. The words end where their parts do, and weigh what their pairs do.
-- Assumes nothing.
use Rattle.std.specs.Prelude.{◌+◌, ◌≤◌, ℕ, ◌≡◌, length}
use mathlib.Core.List.{List, [], ◌++◌, ◌∷◌, map}
use Rattle.std.proofs.Math.Option.{Option, none, some}
use Rattle.std.proofs.Common.{ap, ◌∙◌, sym, add_assoc, length-append}
use Rattle.std.proofs.Math.Path.{refl}
use Rattle.layout.specs.Buffers.{pair_at, suffix_at}
use Rattle.layout.specs.LaysParts.{WordInside}
use Rattle.layout.proofs.LaysParts.{suffix-length, value_length}
use Rattle.layout.specs.Order.{InOrder, word_extent, end_of}
use Rattle.layout.proofs.OrderLaws.{order_top}
use Rattle.lists.specs.All.{all_both, all_mono, All}
use Rattle.model.specs.Charge.{weight}
use Rattle.model.specs.Good.{Within, limits}
use Rattle.model.specs.Leaves.{Spans, Under}
use Rattle.model.specs.Map.{Above, From, Rising}
use Rattle.order.specs.Bytes.{◌≼◌, Bytes, ◌≺◌}
use Rattle.order.specs.OrderLaws.{below_asym, below_irrefl, upto_below_trans, upto_trans, below_trans, cmp_front}
use Rattle.tree_read.specs.Check.{PairsOk, RunPairs, last_suffix, WordOk, end_after, word_end, words_charge}
use Rattle.words.specs.Words.{word_offset, word_suffix, word_value}

-- what the slot words ws of a leaf, with prefix P and parts from `end` on, are to be
pub record PairsGood (arena P : List ℕ) (fanout end : ℕ) (low : Bytes) (upper : Option Bytes) (ws : List ℕ) : Type 0 where
  pub ordered : InOrder end (map word_extent ws) (length arena)
  pub rises : Rising (map (pair_at arena P) ws)
  pub spanned : All (λ p. Spans low upper p.key) (map (pair_at arena P) ws)
  pub within : All (Within (limits fanout)) (map (pair_at arena P) ws)

-- an upper key with the prefix put back
abbrev pub ahead : Bytes → Option Bytes → Option Bytes
ahead P none = none
ahead P (some u) = some (P ++ u)

-- the order of whole keys is that of suffixes

module _ (P : Bytes) where
  below_ahead : {a b : Bytes} → a ≺ b → P ++ a ≺ P ++ b
  below_ahead {a} {b} h = record { below = cmp_front P a b ∙ h.below }

  below_behind : (a b : Bytes) → P ++ a ≺ P ++ b → a ≺ b
  below_behind a b h = record { below = sym (cmp_front P a b) ∙ h.below }

  under_ahead : (u : Option Bytes) (k : Bytes) → Under u k → Under (ahead P u) (P ++ k)
  under_ahead none k h = tt
  under_ahead (some u) k h = below_ahead h

  under_behind : (u : Option Bytes) (k : Bytes) → Under (ahead P u) (P ++ k) → Under u k
  under_behind none k h = tt
  under_behind (some u) k h = below_behind k u h

under_below : (u : Option Bytes) {j k : Bytes} → j ≺ k → Under u k → Under u j
under_below none h i = tt
under_below (some u) h i = below_trans h i

-- a word, and where its part ends

end_is : (w : ℕ) → word_end w ≡ word_offset w + (word_suffix w + word_value w)
end_is w = add_assoc (word_offset w) (word_suffix w) (word_value w)

word_inside : {top end prefix w : ℕ} → WordOk top end prefix w → word_offset w + (word_suffix w + word_value w) ≤ top
word_inside {top} {end} {prefix} {w} o = rw (end_is w) at o.inside

pub end_after_lem : (end : ℕ) (ws : List ℕ) → end_after end ws ≡ end_of end (map word_extent ws)
end_after_lem end [] = refl
end_after_lem end (w ∷ ws) = end_after_lem (word_end w) ws ∙ ap (λ (x : ℕ). end_of x (map word_extent ws)) (end_is w)

module _ (arena P : List ℕ) (prefix : ℕ) (e : length P ≡ prefix) where
  key_length : (w : ℕ) → WordInside arena w → length (P ++ suffix_at arena w) ≡ prefix + word_suffix w
  key_length w i = rw (length-append P (suffix_at arena w), suffix-length arena w i, e)

  pub words_charge_lem : (ws : List ℕ) → All (WordInside arena) ws → words_charge prefix ws ≡ weight (map (pair_at arena P) ws)
  unfolding weight pair_at
  words_charge_lem [] a = refl
  words_charge_lem (w ∷ ws) a = rw (key_length w a.0, value_length arena w a.0, words_charge_lem ws a.1)

  -- the words that pass: in order, rising, within limits, and under an upper key where the last is

  run_ordered : (end : ℕ) (prev : Bytes) (ws : List ℕ) → end ≤ length arena → RunPairs arena prefix end prev ws → InOrder end (map word_extent ws) (length arena)
  run_ordered end prev [] h r = h
  run_ordered end prev (w ∷ ws) h r = (r.0.0.after, rw (end_is w) at (run_ordered (word_end w) (suffix_at arena w) ws r.0.0.inside r.1))

  run_above : (k : Bytes) (end : ℕ) (prev : Bytes) (ws : List ℕ) → k ≼ prev → RunPairs arena prefix end prev ws → All (Above (P ++ k)) (map (pair_at arena P) ws)
  unfolding pair_at
  run_above k end prev [] h r = tt
  run_above k end prev (w ∷ ws) h r =
      let b : k ≺ suffix_at arena w = upto_below_trans h r.0.1 in
      (below_ahead P b, run_above k (word_end w) (suffix_at arena w) ws (below_asym b) r.1)

  run_rising : (end : ℕ) (prev : Bytes) (ws : List ℕ) → RunPairs arena prefix end prev ws → Rising (map (pair_at arena P) ws)
  unfolding pair_at
  run_rising end prev [] r = tt
  run_rising end prev (w ∷ ws) r =
      (run_above (suffix_at arena w) (word_end w) (suffix_at arena w) ws below_irrefl r.1, run_rising (word_end w) (suffix_at arena w) ws r.1)

  word_within : (fanout end w : ℕ) → WordOk (length arena) end prefix w → Within (limits fanout) (pair_at arena P w)
  unfolding pair_at
  word_within fanout end w o = (rw (key_length w (word_inside o)) o.key, rw (value_length arena w (word_inside o)) o.value)

  run_within : (fanout end : ℕ) (prev : Bytes) (ws : List ℕ) → RunPairs arena prefix end prev ws → All (Within (limits fanout)) (map (pair_at arena P) ws)
  run_within fanout end prev [] r = tt
  run_within fanout end prev (w ∷ ws) r = (word_within fanout end w r.0.0, run_within fanout (word_end w) (suffix_at arena w) ws r.1)

  run_under : (u : Option Bytes) (end : ℕ) (prev : Bytes) (ws : List ℕ) → RunPairs arena prefix end prev ws → Under u (last_suffix arena prev ws)
      → Under u prev × All (λ p. Under (ahead P u) p.key) (map (pair_at arena P) ws)
  unfolding pair_at
  run_under u end prev [] r h = (h, tt)
  run_under u end prev (w ∷ ws) r h =
      let s = run_under u (word_end w) (suffix_at arena w) ws r.1 h in
      (under_below u r.0.1 s.0, (under_ahead P u (suffix_at arena w) s.0, s.1))

  pub pairs_good : (fanout end : ℕ) (low : Bytes) (u : Option Bytes) (ws : List ℕ) → end ≤ length arena → PairsOk arena prefix end low u ws
      → PairsGood arena P fanout end (P ++ low) (ahead P u) ws
  unfolding pair_at
  pairs_good fanout end low u [] h r = record { ordered = h; rises = tt; spanned = tt; within = tt }
  pairs_good fanout end low u (w ∷ ws) h r =
      let s = suffix_at arena w in
      let l = run_under u (word_end w) s ws r.1.0 r.1.1 in
      let a = run_above s (word_end w) s ws below_irrefl r.1.0 in
      let f : P ++ low ≼ P ++ s = λ k. r.0.1 (below_behind P s low k) in
      record {
        ordered = (r.0.0.after, rw (end_is w) at (run_ordered (word_end w) s ws r.0.0.inside r.1.0));
        rises = (a, run_rising (word_end w) s ws r.1.0);
        spanned = (
          (f, under_ahead P u s l.0),
          all_both (From (P ++ low)) (λ p. Under (ahead P u) p.key) (map (pair_at arena P) ws) (all_mono (map (pair_at arena P) ws) (λ p k. upto_trans f (below_asym k)) a) l.1,
        );
        within = (word_within fanout end w r.0.0, run_within fanout (word_end w) s ws r.1.0);
      }

  -- the words that are good pass

  word_ok : (fanout end w : ℕ) → end ≤ word_offset w → WordInside arena w → Within (limits fanout) (pair_at arena P w) → WordOk (length arena) end prefix w
  unfolding pair_at
  word_ok fanout end w h i l = record {
    after = h;
    inside = rw (end_is w) i;
    key = rw (key_length w i) at l.0;
    value = rw (value_length arena w i) at l.1;
  }

  good_run : (fanout end : ℕ) (prev : Bytes) (ws : List ℕ) → InOrder end (map word_extent ws) (length arena) → All (Above (P ++ prev)) (map (pair_at arena P) ws)
      → Rising (map (pair_at arena P) ws) → All (Within (limits fanout)) (map (pair_at arena P) ws) → RunPairs arena prefix end prev ws
  unfolding pair_at
  good_run fanout end prev [] o a r l = tt
  good_run fanout end prev (w ∷ ws) o a r l = (
    (word_ok fanout end w o.0 (order_top _ (map word_extent ws) (length arena) o.1) l.0, below_behind P prev (suffix_at arena w) a.0),
    good_run fanout (word_end w) (suffix_at arena w) ws (rw (end_is w) o.1) r.0 r.1 l.1,
  )

  good_under : (u : Option Bytes) (prev : Bytes) (ws : List ℕ) → Under u prev → All (λ p. Under (ahead P u) p.key) (map (pair_at arena P) ws) → Under u (last_suffix arena prev ws)
  unfolding pair_at
  good_under u prev [] h a = h
  good_under u prev (w ∷ ws) h a = good_under u (suffix_at arena w) ws (under_behind P u (suffix_at arena w) a.0) a.1

  pub pairs_ok : (fanout end : ℕ) (low : Bytes) (u : Option Bytes) (ws : List ℕ) → PairsGood arena P fanout end (P ++ low) (ahead P u) ws → PairsOk arena prefix end low u ws
  unfolding pair_at
  pairs_ok fanout end low u [] g = tt
  pairs_ok fanout end low u (w ∷ ws) g =
      let s = suffix_at arena w in
      let o = g.ordered in
      let l = g.within in (
        (word_ok fanout end w o.0 (order_top _ (map word_extent ws) (length arena) o.1) l.0, λ k. g.spanned.0.0 (below_ahead P k)),
        (
          good_run fanout (word_end w) s ws (rw (end_is w) o.1) g.rises.0 g.rises.1 l.1,
          good_under u s ws (under_behind P u s g.spanned.0.1) (all_mono (map (pair_at arena P) ws) (λ p k. k.1) g.spanned.1),
        ),
      )
