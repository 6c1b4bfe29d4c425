-- The directory words of laid-out leaves: each names a leaf of the pool, that leaf's slot words and low-key word lie inside the slot buffer
-- of fanout x pool words, and the parts that those name inside the arena. The j-th leaf, and its i-th pair, by place.
-- Assumes nothing.
use Rattle.std.specs.Prelude.{◌*◌, ◌+◌, ◌<◌, ◌≤◌, suc, ℕ, List, ◌≡◌, refl, drop, get_or, length, take}
use Rattle.std.proofs.Common.{◌∙◌, ap, sym, mul_comm, mul-le-mul_right, suc-mul, arith, length-take, get_or-take}
use Rattle.std.proofs.lemmas.List.{length-map}
use Rattle.layout.specs.Buffers.{Buffers, pair_at, slot_words}
use Rattle.layout.specs.Lays.{Holds, LaysEach, LaysLeaf, buffers, prefixes_of}
use Rattle.layout.specs.LaysLaws.{each_at, each_induct, each_words, prefixes_at}
use Rattle.layout.specs.LaysParts.{WordInside}
use Rattle.layout.proofs.LaysParts.{lays_words_inside, words_at}
use Rattle.layout.specs.Order.{leaf_words}
use Rattle.layout.specs.declared.Header.{Header}
use Rattle.lists.specs.All.{All, all_at}
use Rattle.lists.specs.Map.{get_or-map_lt}
use Rattle.lists.proofs.PartLaws.{get_or-part}
use Rattle.model.specs.Good.{Bounds, Tiled, limits}
use Rattle.model.specs.Leaves.{Node, low_of, prefix_length}
use Rattle.model.specs.Map.{Pair}
use Rattle.words.specs.Words.{first_slot, word_count, word_leaf}
use Rattle.layout.specs.LaysWords.{WordGood}

-- all words of a leaf of the pool
pub region_in : (fanout pool i : ℕ) → i < pool → first_slot fanout i + fanout ≤ fanout * pool
region_in fanout pool i h = omega (arith, mul-le-mul_right fanout h, suc-mul i fanout, mul_comm fanout pool)

pub leaf_slots : (b : Buffers) (p d : ℕ) (n : Node) → LaysLeaf b p d n → length (slot_words b d) ≡ length n.pairs
leaf_slots b p d n l = sym (length-map (slot_words b d) (pair_at b.arena (take p n.low))) ∙ ap length l.pairs_are

leaf_word : (b : Buffers) (pool p d : ℕ) (n : Node) → length b.slots ≡ b.fanout * pool → LaysLeaf b p d n → n.number < pool → length n.pairs < b.fanout
    → WordGood b pool d
leaf_word b pool p d n s l h k =
    let i : word_leaf d < pool = rw l.number_is h in
    let c : word_count d < b.fanout = rw l.count_is k in
    record {
      leaf_in = i;
      count_in = c;
      slots_in = omega (arith, region_in b.fanout pool (word_leaf d) i);
      low_in = omega (arith, region_in b.fanout pool (word_leaf d) i);
      words_are = leaf_slots b p d n l ∙ sym l.count_is;
    }

pub each_words_good : (B : Bounds) (b : Buffers) (pool : ℕ) → B.fanout ≡ b.fanout → length b.slots ≡ b.fanout * pool → (ps ds : List ℕ) (ns : List Node)
    → LaysEach b ps ds ns → Tiled B ns → All (λ n. n.number < pool) ns → All (WordGood b pool) ds
each_words_good B b pool f s ps ds ns e =
    each_induct b (λ ps ds ns. Tiled B ns → All (λ n. n.number < pool) ns → All (WordGood b pool) ds) (λ t a. tt)
    (λ p d n ps ds ns l e h t a. (leaf_word b pool p d n s l a.0 (omega (arith, t.0.1, f)), h t.1 a.1))
    ps ds ns e

-- of what buffers and header hold: all used words, and the j-th

module _ (h : Header) (dir slots arena : List ℕ) (ns : List Node) (x : Holds h dir slots arena ns) (t : Tiled (limits h.fanout) ns)
    (f : All (λ n. n.number < length dir) ns) where
  pub words_good : All (WordGood (buffers h slots arena) (length dir)) (take (length ns) dir)
  words_good =
      each_words_good (limits h.fanout) (buffers h slots arena) (length dir) refl x.sizes.slots_are (prefixes_of ns) (take (length ns) dir) ns x.lays.leaves t f

  pub word_good : (j : ℕ) → j < length ns → WordGood (buffers h slots arena) (length dir) (get_or dir j 0)
  word_good j k =
      let w = each_words (buffers h slots arena) (prefixes_of ns) (take (length ns) dir) ns x.lays.leaves in
      rw (get_or-take (length ns) dir j 0 k) at (all_at (WordGood (buffers h slots arena) (length dir)) (take (length ns) dir) j 0 (omega arith) words_good)

-- the j-th leaf of what they hold
pub holds_at : {h : Header} {dir slots arena : List ℕ} {ns : List Node} → Holds h dir slots arena ns → (y : Node) (j : ℕ) → j < length ns
    → LaysLeaf (buffers h slots arena) (prefix_length (get_or ns j y).low (low_of (drop (suc j) ns))) (get_or dir j 0) (get_or ns j y)
holds_at {h} {dir} {slots} {arena} {ns} x y j k =
    rw (prefixes_at y j ns k, get_or-take (length ns) dir j 0 k) at (each_at (buffers h slots arena) y j (prefixes_of ns) (take (length ns) dir) ns k x.lays.leaves)

pub holds_inside : {h : Header} {dir slots arena : List ℕ} {ns : List Node} → Holds h dir slots arena ns → (j : ℕ) → j < length ns
    → All (WordInside arena) (leaf_words (buffers h slots arena) (get_or dir j 0))
holds_inside {h} {dir} {slots} {arena} {ns} x j k =
    let b = buffers h slots arena in
    let w = each_words b (prefixes_of ns) (take (length ns) dir) ns x.lays.leaves in
    rw (get_or-take (length ns) dir j 0 k) at
    (words_at b (WordInside arena) j (take (length ns) dir) (omega arith) (lays_words_inside b (take (length ns) dir) (prefixes_of ns) ns x.lays))

-- a slot word, and its pair

pub slot_at : (b : Buffers) (d i : ℕ) → i < word_count d → get_or (slot_words b d) i 0 ≡ get_or b.slots (first_slot b.fanout (word_leaf d) + i) 0
unfolding slot_words
slot_at b d i h = get_or-part b.slots (first_slot b.fanout (word_leaf d)) (word_count d) i 0 h

pub pair_at_lem : (b : Buffers) (p d : ℕ) (n : Node) (x : Pair) (i : ℕ) → LaysLeaf b p d n → i < length n.pairs
    → get_or n.pairs i x ≡ pair_at b.arena (take p n.low) (get_or b.slots (first_slot b.fanout (word_leaf d) + i) 0)
pair_at_lem b p d n x i l h =
    let f = pair_at b.arena (take p n.low) in
    ap (λ (m : List Pair). get_or m i x) (sym l.pairs_are) ∙ get_or-map_lt f (slot_words b d) i 0 x (rw (leaf_slots b p d n l) h) ∙ ap f (slot_at b d i (rw l.count_is h))

-- as many directory words as leaves
pub holds_long : {h : Header} {dir slots arena : List ℕ} {ns : List Node} → Holds h dir slots arena ns → length ns ≤ length dir
holds_long {h} {dir} {slots} {arena} {ns} x =
    omega (arith, each_words (buffers h slots arena) (prefixes_of ns) (take (length ns) dir) ns x.lays.leaves, length-take (length ns) dir)
