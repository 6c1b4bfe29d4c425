-- Steps from spot to spot, and the pair at one.
-- Assumes nothing.
use Rattle.std.specs.Prelude.{◌+◌, ◌<◌, ◌≤◌, suc, ℕ, List, [], ◌≡◌, get_or, length, Some, None}
use Rattle.std.proofs.Common.{◌∙◌, ap, sym, arith}
use Rattle.layout.specs.Buffers.{low_word}
use Rattle.layout.specs.Pieces.{InList, word_at_slot}
use Rattle.layout.proofs.Pieces.{pieces_of}
use Rattle.layout.specs.Presumed.{Presumed}
use Rattle.layout.specs.Viewed.{Views, view_held}
use Rattle.layout.specs.declared.Header.{Header}
use Rattle.layout.specs.declared.lent.View.{View}
use Rattle.leaf.specs.declared.Leaf.{Leaf}
use Rattle.model.specs.Leaves.{Node, node}
use Rattle.model.proofs.StartLaws.{rest_past, rest_step}
use Rattle.model.specs.Start.{rest_of}
use Rattle.route.specs.RouteLaws.{directed, leaf_lays, leaf_word, place_in}
use Rattle.route.specs.Routes.{LeafIs, low_place}
use Rattle.spots.specs.Spots.{Counted, NextRead, PairAt, PairRead, SpotIn, SpotRead}
use Rattle.spots.specs.declared.Pieced.{Pieced}
use Rattle.spots.specs.declared.Spot.{Spot}
use Rattle.words.specs.Words.{LowKeyUnpacked, Unpacked, first_slot, word_count, word_leaf}
use Rattle.words.specs.declared.LowKey.{LowKey}
use Rattle.words.specs.declared.Slot.{Slot}

-- no pair between the spots (j₀, i₀) and (j, i)
pub record Level (leaves : ℕ) (dir : List ℕ) (j₀ i₀ j i : ℕ) : Type 0 where
  pub same : (ns : List Node) → Counted leaves dir ns → rest_of ns j i ≡ rest_of ns j₀ i₀

module _ {leaves : ℕ} {dir : List ℕ} {j₀ i₀ j i : ℕ} (l : Level leaves dir j₀ i₀ j i) where
  pub level_on : {k z n : ℕ} → j < leaves → n ≡ word_count (get_or dir j 0) → n ≤ i → k ≡ j + 1 → z ≡ 0 → Level leaves dir j₀ i₀ k z
  level_on {k} {z} {n} h e m f g = record {
    same = λ ns c.
        let q : length (get_or ns j (node 0 [] [])).pairs ≤ i = omega (arith, m, e, c.counts_are j h) in
        let s : k ≡ suc j = omega (arith, f) in
        ap (λ (a : ℕ). rest_of ns a z) s ∙ ap (rest_of ns (suc j)) g ∙ sym (rest_step ns j i q) ∙ l.same ns c;
  }

  pub level_at : {n : ℕ} → j < leaves → n ≡ word_count (get_or dir j 0) → i < n → NextRead leaves dir (record { leaf = j₀; slot = i₀ }) (Some (record { leaf = j; slot = i }))
  level_at h e m =
      record { next = λ ns c. (record { leaf_in = omega (arith, h, c.leaves_are); slot_in = omega (arith, m, e, c.counts_are j h) }, l.same ns c) }

  pub level_past : leaves ≤ j → NextRead leaves dir (record { leaf = j₀; slot = i₀ }) None
  level_past h = record { next = λ ns c. sym (l.same ns c) ∙ rest_past ns j i (omega (arith, h, c.leaves_are)) }

-- the pair at a spot

module _ {h : Header} {dir slots arena : List ℕ} {ns : List Node} {t : Spot} (x : Presumed h dir slots arena ns) (i : SpotIn h dir slots arena t) where
  pub spot_in_list : InList ns t.leaf t.slot
  spot_in_list = record { leaf_in = place_in x i.leaf_in; slot_in = omega (arith, i.slot_in, (leaf_lays x t.leaf i.leaf_in).count_is) }

  pub spot_pieces : {low : LowKey} {leaf : Leaf} {a : ℕ} {s : Slot} → LowKeyUnpacked (get_or slots (low_place h dir t.leaf) 0) low
      → LeafIs h dir ns t.leaf leaf → a ≡ first_slot h.fanout (word_leaf (get_or dir t.leaf 0)) + t.slot → Unpacked (get_or slots a 0) s
      → PairRead h dir slots arena ns t (record { low = low.offset; prefix = leaf.prefix_length; slot = s })
  unfolding low_word
  spot_pieces {a = a} {s = s} u l e v =
      let w : Unpacked (word_at_slot h.fanout slots (get_or dir t.leaf 0) t.slot) s = rw e at v in
      record {
        low_is = u.offset_is;
        prefix_is = l.prefix_is;
        slot_is = w;
        pieces = rw (u.offset_is, l.prefix_is, w.offset_is, w.suffix_is, w.value_is) (pieces_of x spot_in_list);
      }

  -- its words are in the slot buffer

  pub spot_low : (0 < h.fanout) × (low_place h dir t.leaf < length slots)
  spot_low =
      let d = directed x in
      (d.some_slot, d.lows_in t.leaf i.leaf_in)

  pub spot_first : {n : ℕ} → n ≡ word_leaf (get_or dir t.leaf 0) → first_slot h.fanout n + t.slot < length slots
  spot_first e = rw e (omega (arith, i.slot_in, (leaf_word x t.leaf i.leaf_in).slots_in))

  pub spot_word : {n f : ℕ} → n ≡ word_leaf (get_or dir t.leaf 0) → f ≡ first_slot h.fanout n → f + t.slot < length slots
  spot_word e g = rw g (spot_first e)

pub spot_word_is : (h : Header) (dir : List ℕ) (t : Spot) {n f : ℕ} → n ≡ word_leaf (get_or dir t.leaf 0) → f ≡ first_slot h.fanout n
    → f + t.slot ≡ first_slot h.fanout (word_leaf (get_or dir t.leaf 0)) + t.slot
spot_word_is h dir t e g = rw (g, e)

-- a spot asked of a view, and the pair read there, told of the header and the buffers that it views

module _ {h : Header} {dir slots arena : List ℕ} (v : View) (u : Views v h dir slots arena) where
  pub spot_asked : {t : Spot} → SpotIn h dir slots arena t → SpotIn v.header v.dir.now v.slots.now v.arena.now t
  spot_asked i = rw (u.header_is, u.dir_is, u.slots_are, u.arena_is) i

  pub spot_told : {t : Spot} {r : Pieced} → PairAt v t r → SpotRead h dir slots arena t r
  spot_told {t} {r} e = view_held (λ h dir slots arena ns. PairRead h dir slots arena ns t r) v u e

-- of a leaf list that is presumed, the directory counts the pairs
pub presumed_counted : {h : Header} {dir slots arena : List ℕ} {ns : List Node} → Presumed h dir slots arena ns → Counted h.leaves dir ns
presumed_counted x = record { leaves_are = x.holds.leaves_are; counts_are = λ j k. (leaf_lays x j k).count_is }
