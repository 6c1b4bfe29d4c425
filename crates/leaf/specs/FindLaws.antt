-- The search in a leaf by its directory word: the suffixes sought among are those of the leaf's pairs, and a key's part from the prefix
-- length on stands among them where the key stands among the pairs.
-- Assumes nothing.
use Rattle.std.specs.Prelude.{ℕ, ◌≤◌, ◌≡◌, drop, length, take}
use mathlib.Core.List.{List, [], ◌∷◌, ◌++◌, map}
use Rattle.std.proofs.Common.{◌∙◌, ap, sym, drop_at, length-take-le, take_at}
use Rattle.std.proofs.Math.Path.{refl}
use Rattle.lists.specs.All.{All}
use Rattle.order.specs.Bytes.{Bytes}
use Rattle.order.specs.OrderLaws.{cmp_front}
use Rattle.words.specs.Words.{word_count, word_leaf}
use Rattle.model.specs.Leaves.{Node}
use Rattle.model.specs.Map.{Above, Rising}
use Rattle.model.specs.Place.{cut_pair, place, place_cut}
use Rattle.layout.specs.Buffers.{Buffers, pair_at, slot_words, suffix_at}
use Rattle.layout.specs.Lays.{LaysLeaf}
use Rattle.leaf.specs.Finds.{leaf_slots, suffixes_of}
use Rattle.leaf.specs.declared.Leaf.{Leaf}

pub leaf_slots_are : (b : Buffers) (d : ℕ) (leaf : Leaf) → leaf.number.0 ≡ word_leaf d → leaf.fanout ≡ b.fanout → leaf.pairs ≡ word_count d
    → leaf_slots b.slots leaf ≡ slot_words b d
unfolding leaf_slots slot_words
leaf_slots_are b d leaf n f c = rw (n, f, c)

-- pairs behind a prefix share it, and without it are pairs of suffixes
module _ (arena prefix : List ℕ) (p : ℕ) (e : length prefix ≡ p) where
  prefix_shared : (words : List ℕ) → All (λ q. prefix ≡ take p q.key) (map (pair_at arena prefix) words)
  unfolding pair_at
  prefix_shared [] = tt
  prefix_shared (w ∷ words) = (sym (take_at prefix (suffix_at arena w) p e), prefix_shared words)

  prefix_cut : (words : List ℕ) → map (cut_pair p) (map (pair_at arena prefix) words) ≡ suffixes_of arena words
  unfolding pair_at
  prefix_cut [] = refl
  prefix_cut (w ∷ words) = rw (drop_at prefix (suffix_at arena w) p e, prefix_cut words)

pub suffix-place : (b : Buffers) (p d : ℕ) (n : Node) (k : Bytes) → LaysLeaf b p d n → p ≤ length n.low → take p k ≡ take p n.low
    → place (drop p k) (suffixes_of b.arena (slot_words b d)) ≡ place k n.pairs
suffix-place b p d n k l h e =
    let m = length-take-le p n.low h in
    let a : All (λ q. take p n.low ≡ take p q.key) n.pairs = rw l.pairs_are at (prefix_shared b.arena (take p n.low) p m (slot_words b d)) in
    let c : map (cut_pair p) n.pairs ≡ suffixes_of b.arena (slot_words b d) = rw l.pairs_are at (prefix_cut b.arena (take p n.low) p m (slot_words b d)) in
    ap (place (drop p k)) (sym c) ∙ place_cut p k n.pairs (rw e a)

-- without their prefix the keys still rise

above_cut : (arena prefix : List ℕ) (v : ℕ) (words : List ℕ) → All (Above (prefix ++ suffix_at arena v)) (map (pair_at arena prefix) words)
    → All (Above (suffix_at arena v)) (suffixes_of arena words)
unfolding pair_at
above_cut arena prefix v [] a = tt
above_cut arena prefix v (w ∷ words) a =
    (record { below = sym (cmp_front prefix (suffix_at arena v) (suffix_at arena w)) ∙ a.0.below }, above_cut arena prefix v words a.1)

rising_cut : (arena prefix words : List ℕ) → Rising (map (pair_at arena prefix) words) → Rising (suffixes_of arena words)
unfolding pair_at
rising_cut arena prefix [] r = tt
rising_cut arena prefix (w ∷ words) r = (above_cut arena prefix w words r.0, rising_cut arena prefix words r.1)

pub suffix_rising : (b : Buffers) (p d : ℕ) (n : Node) → LaysLeaf b p d n → Rising n.pairs → Rising (suffixes_of b.arena (slot_words b d))
suffix_rising b p d n l r = rising_cut b.arena (take p n.low) (slot_words b d) (rw l.pairs_are r)
