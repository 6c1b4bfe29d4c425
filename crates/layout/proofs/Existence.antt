-- Rule G loses no leaf list: every good list of byte strings has a layout in buffers of the lengths that it is good for, its words, bytes
-- and header counts within their types. (Document 01 asks that of a layout rule that is added to W.)
-- Assumes nothing.
use Rattle.std.specs.Prelude.{◌*◌, ◌++◌, ◌-◌, ◌<◌, ◌^◌, ◌≤◌, ℕ, [], ◌∷◌, List, map, refl, ◌≡◌, drop, take, length, replicate}
use Rattle.std.proofs.Common.{mul-le-mul, arith, length-append, take_at}
use Rattle.std.proofs.lemmas.List.{length-map, length-replicate}
use Rattle.std.proofs.Math.Seq.{take-append_seam}
use Rattle.layout.specs.Buffers.{Buffers, low_at, low_word, pair_at, slot_words, suffix_at, value_at, value_place}
use Rattle.layout.specs.Encode.{Lies, directory_of}
use Rattle.layout.proofs.Encoded.{list_laid, list_ordered, regions_written, slots_long}
use Rattle.layout.specs.Encoded.{bytes_of, slots_of}
use Rattle.layout.proofs.EncodedFits.{slots_words, all_replicate, bytes_octets, directory_words, bytes_stored}
use Rattle.layout.specs.EncodedFits.{OctetNode, Octets}
use Rattle.layout.specs.Lays.{LaysEach, LaysAt, W, buffers, prefixes_of, Holds}
use Rattle.layout.specs.LaysLaws.{each_induct}
use Rattle.lists.specs.All.{all_drop, all_take, all_append, All}
use Rattle.lists.specs.Part.{part}
use Rattle.model.specs.Charge.{charge}
use Rattle.model.specs.Good.{Fits, Tiled, Good, limits}
use Rattle.model.specs.Leaves.{Node, pairs_of}
use Rattle.model.specs.LimitLaws.{arena_limit_fits, fanout_limit_fits, pool_limit_fits}
use Rattle.model.specs.Limits.{Sizes}
use Rattle.model.proofs.PairLaws.{pairs_most}
use Rattle.model.proofs.StoredLaws.{stored_charge}
use Rattle.words.specs.Words.{word_offset, word_suffix, word_value}
use Rattle.layout.specs.Existence.{header_of, Layout}

abbrev dir_of : (pool : ℕ) → List Node → List ℕ
dir_of pool ns = map directory_of ns ++ replicate (pool - length ns) 0

abbrev slot_buffer : (fanout pool : ℕ) → List Node → List ℕ
slot_buffer fanout pool ns = slots_of fanout (replicate (fanout * pool) 0) 0 ns

abbrev arena_of : (room : ℕ) → List Node → List ℕ
arena_of room ns = bytes_of ns ++ replicate (room - length (bytes_of ns)) 0

octets_part : (l : List ℕ) (a n : ℕ) → Octets l → Octets (part l a n)
octets_part l a n h = all_take (λ x. x < 256) n (drop a l) (all_drop (λ x. x < 256) a l h)

-- the encoder's buffers, with zeros wherever nothing is written

module _ (fanout pool room : ℕ) (ns : List Node) (z : Sizes fanout pool (fanout * pool) room) (t : Tiled (limits fanout) ns) (f : Fits pool room ns) where
  few_pairs : fanout ≤ 2 ^ 20
  few_pairs = omega (arith, z.fanout_most, fanout_limit_fits)

  few_leaves : pool ≤ 2 ^ 12
  few_leaves = omega (arith, z.pool_most, pool_limit_fits)

  few_bytes : room < 2 ^ 28
  few_bytes = omega (arith, z.arena_most, arena_limit_fits)

  bytes_in : length (bytes_of ns) ≤ room
  bytes_in = omega (arith, bytes_stored ns, stored_charge ns, f.charged)

  dir_long : length (dir_of pool ns) ≡ pool
  dir_long = simp (length-append, length-map, length-replicate) (omega (arith, f.counted))

  arena_long : length (arena_of room ns) ≡ room
  arena_long = simp (length-append, length-replicate) (omega (arith, bytes_in))

  slot_long : length (slot_buffer fanout pool ns) ≡ fanout * pool
  slot_long = slots_long fanout pool (replicate (fanout * pool) 0) (length-replicate (fanout * pool) 0) 0 ns f.in_pool t

  list_lays : LaysAt (buffers (header_of fanout ns) (slot_buffer fanout pool ns) (arena_of room ns)) (map directory_of ns) (prefixes_of ns) ns
  list_lays =
      let b = buffers (header_of fanout ns) (slot_buffer fanout pool ns) (arena_of room ns) in
      let s : Lies (arena_of room ns) 0 (bytes_of ns) = record { reads = take-append_seam (bytes_of ns) (replicate (room - length (bytes_of ns)) 0) } in
      let r = regions_written fanout pool (replicate (fanout * pool) 0) (length-replicate (fanout * pool) 0) 0 ns f.in_pool t f.distinct in
      record {
        leaves = list_laid b few_pairs 0 ns t s r;
        ordered = list_ordered b few_pairs 0 ns (length b.arena) t s r (rw arena_long (omega (arith, bytes_in)));
      }

  list_holds : Holds (header_of fanout ns) (dir_of pool ns) (slot_buffer fanout pool ns) (arena_of room ns) ns
  list_holds = record {
    sizes = rw (dir_long, slot_long, arena_long) z;
    leaves_are = refl;
    pairs_are = refl;
    charge_is = refl;
    lays = rw (take_at (map directory_of ns) (replicate (pool - length ns) 0) (length ns) (length-map ns directory_of)) list_lays;
  }

  counts : (length ns < 2 ^ 64) × (length (pairs_of ns) < 2 ^ 64) × (charge ns < 2 ^ 64)
  counts =
      let l : length ns ≤ 2 ^ 12 = omega (arith, f.counted, few_leaves) in
      let m : length ns * fanout ≤ 2 ^ 12 * 2 ^ 20 = mul-le-mul l few_pairs in (
        omega (arith, l),
        omega (arith, m, pairs_most (limits fanout) ns t),
        omega (arith, f.charged, few_bytes),
      )

-- the theorem: `Filled` is not needed
pub layout_exists : (fanout pool room : ℕ) (ns : List Node) → Sizes fanout pool (fanout * pool) room → Tiled (limits fanout) ns → Fits pool room ns
    → All OctetNode ns → Layout fanout pool room ns
layout_exists fanout pool room ns z t f o = record {
  dir = dir_of pool ns;
  slots = slot_buffer fanout pool ns;
  arena = arena_of room ns;
  pool_is = dir_long fanout pool room ns z t f;
  slots_are = slot_long fanout pool room ns z t f;
  room_is = arena_long fanout pool room ns z t f;
  dir_small =
      all_append (λ w. w < 2 ^ 32) (map directory_of ns) (replicate (pool - length ns) 0)
      (directory_words fanout pool ns (few_pairs fanout pool room ns z t f) (few_leaves fanout pool room ns z t f) t f.in_pool)
      (all_replicate (λ w. w < 2 ^ 32) (pool - length ns) 0 (omega arith));
  slots_small =
      slots_words fanout (replicate (fanout * pool) 0) 0 ns t (all_replicate (λ w. w < 2 ^ 64) (fanout * pool) 0 (omega arith))
      (omega (arith, bytes_in fanout pool room ns z t f, few_bytes fanout pool room ns z t f));
  octets =
      all_append (λ x. x < 256) (bytes_of ns) (replicate (room - length (bytes_of ns)) 0) (bytes_octets ns o)
      (all_replicate (λ x. x < 256) (room - length (bytes_of ns)) 0 (omega arith));
  counts_small = counts fanout pool room ns z t f;
  holds = list_holds fanout pool room ns z t f;
}

-- so every good list is the leaf list of buffers that meet W
pub good_layout : (fanout pool room : ℕ) (ns : List Node) → Sizes fanout pool (fanout * pool) room → Good (limits fanout) pool room ns → All OctetNode ns
    → (x : Layout fanout pool room ns) × W (header_of fanout ns) x.dir x.slots x.arena
good_layout fanout pool room ns z g o =
    let x : Layout fanout pool room ns = layout_exists fanout pool room ns z g.tiles.tiled g.fits o in
    (x, record { nodes = ns; holds = x.holds; good = rw (x.pool_is, x.room_is) g })

-- and byte strings are all that an arena of bytes can hold

pairs_octet : (arena prefix ws : List ℕ) → Octets arena → Octets prefix → All (λ q. Octets q.key × Octets q.value) (map (pair_at arena prefix) ws)
unfolding pair_at suffix_at value_at
pairs_octet arena prefix [] h k = tt
pairs_octet arena prefix (w ∷ ws) h k = (
  (all_append (λ x. x < 256) prefix (part arena (word_offset w) (word_suffix w)) k (octets_part arena (word_offset w) (word_suffix w) h), octets_part arena (value_place w) (word_value w) h),
  pairs_octet arena prefix ws h k,
)

pub lays_octets : (b : Buffers) → Octets b.arena → (ps ds : List ℕ) (ns : List Node) → LaysEach b ps ds ns → All OctetNode ns
unfolding low_at suffix_at
lays_octets b h =
    each_induct b (λ ps ds ns. All OctetNode ns) tt
    (λ p d n ps ds ns l e r.
    let low : Octets n.low = rw l.low_is at (octets_part b.arena (word_offset (low_word b d)) (word_suffix (low_word b d)) h) in (
      record {
        low_octets = low;
        pair_octets = rw l.pairs_are at (pairs_octet b.arena (take p n.low) (slot_words b d) h (all_take (λ x. x < 256) p n.low low));
      },
      r,
    ))
