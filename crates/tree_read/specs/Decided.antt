-- Each part of the test of W can be decided, so W can: of any buffers and header, they meet W or they don't.
-- Assumes nothing.
use Rattle.std.specs.Prelude.{◌*◌, ◌+◌, ℕ, List, [], ◌∷◌, drop, get_or, length, take}
use Rattle.std.proofs.Math.Logic.Dec
use Rattle.std.proofs.Math.Option.{Option, none, some}
use Rattle.std.proofs.Common.{sym}
use Rattle.std.proofs.Math.Decide.{dec_le, dec_lt, ℕ_discrete}
use Rattle.layout.specs.Buffers.{Buffers, low_at, low_word, slot_words, suffix_at}
use Rattle.layout.specs.Lays.{W, buffers}
use Rattle.layout.specs.declared.Header.{Header}
use Rattle.model.specs.Leaves.{Under, prefix_length}
use Rattle.model.specs.Limits.{Sizes, arena_limit, fanout_least, fanout_limit, key_limit, pool_least, pool_limit, value_limit}
use Rattle.order.specs.Bytes.{Bytes, ◌≺◌}
use Rattle.order.specs.OrderLaws.{after, before, below_asym, equal, tri, upto_of_eq}
use Rattle.tree_read.specs.Check.{LeafOk, LowOk, NotEmpty, PairsOk, Passes, RunLeaves, RunPairs, WordOk, behind, charge_of, count_of, last_suffix, leaf_end, low_end, upper_of, word_end}
use Rattle.tree_read.specs.WCheck.{passes_w, w_passes}
use Rattle.words.specs.Words.{word_count, word_leaf, word_offset, word_suffix, word_value}

-- the order of byte strings

dec_below : (a b : Bytes) → Dec (a ≺ b)
dec_below a b =
    elim (tri a b) [
      | before h ↦ yes h
      | equal e ↦ no (upto_of_eq (sym e))
      | after h ↦ no (below_asym h)
    ]

dec_under : (upper : Option Bytes) (k : Bytes) → Dec (Under upper k)
dec_under none k = yes tt
dec_under (some u) k = dec_below k u

-- the slot words of a leaf

dec_word : (top end prefix w : ℕ) → Dec (WordOk top end prefix w)
dec_word top end prefix w =
    Dec.of_iff (
      (λ t. record { after = t.0; inside = t.1.0; key = t.1.1.0; value = t.1.1.1 }),
      (λ o. (o.after, (o.inside, (o.key, o.value)))),
    )
    (Dec.and (dec_le end (word_offset w))
    (Dec.and (dec_le (word_end w) top)
    (Dec.and (dec_le (prefix + word_suffix w) key_limit)
    (dec_le (word_value w) value_limit))))

dec_run : (arena : List ℕ) (prefix end : ℕ) (prev : Bytes) (ws : List ℕ) → Dec (RunPairs arena prefix end prev ws)
dec_run arena prefix end prev [] = yes tt
dec_run arena prefix end prev (w ∷ ws) =
    Dec.and (Dec.and (dec_word (length arena) end prefix w) (dec_below prev (suffix_at arena w)))
    (dec_run arena prefix (word_end w) (suffix_at arena w) ws)

dec_pairs : (arena : List ℕ) (prefix end : ℕ) (low : Bytes) (upper : Option Bytes) (ws : List ℕ) → Dec (PairsOk arena prefix end low upper ws)
dec_pairs arena prefix end low upper [] = yes tt
dec_pairs arena prefix end low upper (w ∷ ws) =
    Dec.and (Dec.and (dec_word (length arena) end prefix w) (Dec.not (dec_below (suffix_at arena w) low)))
    (Dec.and (dec_run arena prefix (word_end w) (suffix_at arena w) ws) (dec_under upper (last_suffix arena (suffix_at arena w) ws)))

-- the leaves

dec_not_empty : (upper : Option Bytes) (count : ℕ) → Dec (NotEmpty upper count)
dec_not_empty none count = yes tt
dec_not_empty (some u) count = dec_lt 0 count

module _ (b : Buffers) (pool : ℕ) where
  dec_low : (d : ℕ) → Dec (LowOk b pool d)
  dec_low d =
      Dec.of_iff (
        (λ t. record { in_pool = t.0; no_value = t.1.0; short = t.1.1.0; inside = t.1.1.1 }),
        (λ o. (o.in_pool, (o.no_value, (o.short, o.inside)))),
      )
      (Dec.and (dec_lt (word_leaf d) pool)
      (Dec.and (ℕ_discrete (word_value (low_word b d)) 0)
      (Dec.and (dec_le (word_suffix (low_word b d)) key_limit)
      (dec_le (low_end b d) (length b.arena)))))

  dec_leaf : (end d : ℕ) (upper : Option Bytes) → Dec (LeafOk b pool end d upper)
  dec_leaf end d upper =
      let prefix = prefix_length (low_at b d) upper in
      Dec.of_iff (
        (λ t. record { low = t.0; after = t.1.0; under = t.1.1.0; count = t.1.1.1.0; not_empty = t.1.1.1.1.0; pairs = t.1.1.1.1.1 }),
        (λ o. (o.low, (o.after, (o.under, (o.count, (o.not_empty, o.pairs)))))),
      )
      (Dec.and (dec_low d)
      (Dec.and (dec_le end (word_offset (low_word b d)))
      (Dec.and (dec_under upper (low_at b d))
      (Dec.and (dec_lt (word_count d) b.fanout)
      (Dec.and (dec_not_empty upper (word_count d))
      (dec_pairs b.arena prefix (low_end b d) (drop prefix (low_at b d)) (behind prefix upper) (slot_words b d)))))))

  dec_leaves : (end : ℕ) (ds : List ℕ) → Dec (RunLeaves b pool end ds)
  dec_leaves end [] = yes tt
  dec_leaves end (d ∷ ds) = Dec.and (dec_leaf end d (upper_of b ds)) (dec_leaves (leaf_end b d) ds)

-- sizes and header

dec_sizes : (fanout pool slots arena : ℕ) → Dec (Sizes fanout pool slots arena)
dec_sizes fanout pool slots arena =
    Dec.of_iff (
      (λ t. record { fanout_enough = t.0; fanout_most = t.1.0; pool_enough = t.1.1.0; pool_most = t.1.1.1.0; slots_are = t.1.1.1.1.0; arena_most = t.1.1.1.1.1 }),
      (λ s. (s.fanout_enough, (s.fanout_most, (s.pool_enough, (s.pool_most, (s.slots_are, s.arena_most)))))),
    )
    (Dec.and (dec_le fanout_least fanout)
    (Dec.and (dec_le fanout fanout_limit)
    (Dec.and (dec_le pool_least pool)
    (Dec.and (dec_le pool pool_limit)
    (Dec.and (ℕ_discrete slots (fanout * pool))
    (dec_le arena arena_limit))))))

-- all of it, and W

pub dec_passes : (h : Header) (dir slots arena : List ℕ) → Dec (Passes h dir slots arena)
dec_passes h dir slots arena =
    let b = buffers h slots arena in
    let ds = take h.leaves dir in
    Dec.of_iff (
      (λ t. record {
        sizes = t.0;
        some_leaf = t.1.0;
        in_directory = t.1.1.0;
        first_low = t.1.1.1.0;
        leaves = t.1.1.1.1.0;
        pairs_are = t.1.1.1.1.1.0;
        charge_is = t.1.1.1.1.1.1.0;
        charge_fits = t.1.1.1.1.1.1.1;
      }),
      (λ p. (p.sizes, (p.some_leaf, (p.in_directory, (p.first_low, (p.leaves, (p.pairs_are, (p.charge_is, p.charge_fits)))))))),
    )
    (Dec.and (dec_sizes h.fanout (length dir) (length slots) (length arena))
    (Dec.and (dec_le 1 h.leaves)
    (Dec.and (dec_le h.leaves (length dir))
    (Dec.and (ℕ_discrete (word_suffix (low_word b (get_or dir 0 0))) 0)
    (Dec.and (dec_leaves b (length dir) 0 ds)
    (Dec.and (ℕ_discrete h.pairs (count_of ds))
    (Dec.and (ℕ_discrete h.charge (charge_of b ds))
    (dec_le h.charge (length arena)))))))))

pub dec_w : (h : Header) (dir slots arena : List ℕ) → Dec (W h dir slots arena)
dec_w h dir slots arena = Dec.of_iff (passes_w h dir slots arena, w_passes h dir slots arena) (dec_passes h dir slots arena)
