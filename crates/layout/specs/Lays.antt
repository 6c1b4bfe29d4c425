-- Buffers that lay out a leaf list; buffers and header that hold one; and W.
use Rattle.std.specs.Prelude.{ℕ, List, [], ◌∷◌, map, ◌≡◌, length, take}
use Rattle.words.specs.Words.{word_value, word_leaf, word_count}
use Rattle.model.specs.Leaves.{Node, low_of, pairs_of, prefix_length}
use Rattle.model.specs.Charge.{charge}
use Rattle.model.specs.Limits.{Sizes}
use Rattle.model.specs.Good.{Good, limits}
use Rattle.layout.specs.declared.Header.{Header}
use Rattle.layout.specs.Buffers.{Buffers, pair_at, slot_words, low_word, low_at}
use Rattle.layout.specs.Order.{InOrder, extents}

-- the directory word d, at a prefix length, lays out the leaf n
pub record LaysLeaf (b : Buffers) (prefix d : ℕ) (n : Node) : Type 0 where
  pub number_is : word_leaf d ≡ n.number
  pub count_is : word_count d ≡ length n.pairs
  pub low_is : low_at b d ≡ n.low
  pub no_value : word_value (low_word b d) ≡ 0
  pub pairs_are : map (pair_at b.arena (take prefix n.low)) (slot_words b d) ≡ n.pairs

-- each directory word its leaf, at a prefix length each
abbrev pub LaysEach : Buffers → (prefixes ds : List ℕ) → List Node → Type 0
LaysEach b [] [] [] = Unit {0}
LaysEach b (p ∷ ps) (d ∷ ds) (n ∷ ns) = LaysLeaf b p d n × LaysEach b ps ds ns
LaysEach b [] [] (n ∷ ns) = ⊥
LaysEach b [] (d ∷ ds) ns = ⊥
LaysEach b (p ∷ ps) [] ns = ⊥
LaysEach b (p ∷ ps) (d ∷ ds) [] = ⊥

-- the directory words ds lay out the leaf list, and all parts lie in order inside the arena
pub record LaysAt (b : Buffers) (ds prefixes : List ℕ) (ns : List Node) : Type 0 where
  pub leaves : LaysEach b prefixes ds ns
  pub ordered : InOrder 0 (extents b ds) (length b.arena)

-- L2's prefix lengths
abbrev pub prefixes_of : List Node → List ℕ
prefixes_of [] = []
prefixes_of (n ∷ ns) = prefix_length n.low (low_of ns) ∷ prefixes_of ns

-- the directory's first words, one for each leaf
abbrev pub Lays : Buffers → (dir : List ℕ) → List Node → Type 0
Lays b dir ns = LaysAt b (take (length ns) dir) (prefixes_of ns) ns

abbrev pub buffers : Header → (slots arena : List ℕ) → Buffers
buffers h slots arena = record { fanout = h.fanout; slots = slots; arena = arena }

-- buffers and header hold a leaf list: the lent lengths meet the sizes, and the header's counts are true
pub record Holds (h : Header) (dir slots arena : List ℕ) (ns : List Node) : Type 0 where
  pub sizes : Sizes h.fanout (length dir) (length slots) (length arena)
  pub leaves_are : h.leaves ≡ length ns
  pub pairs_are : h.pairs ≡ length (pairs_of ns)
  pub charge_is : h.charge ≡ charge ns
  pub lays : Lays (buffers h slots arena) dir ns

-- W: they hold a good leaf list
pub record W (h : Header) (dir slots arena : List ℕ) : Type 0 where
  pub nodes : List Node
  pub holds : Holds h dir slots arena nodes
  pub good : Good (limits h.fanout) (length dir) (length arena) nodes
