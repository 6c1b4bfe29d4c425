-- Spots in an index: the pairs from a spot on, and the next spot that has a pair.
use Rattle.std.proofs.Common.{Option}
use Rattle.std.specs.Prelude.{◌<◌, ℕ, List, [], ◌≡◌, get_or, length, Some, None}
use Rattle.layout.specs.Pieces.{InList, Pieces, pair_in, word_at_slot}
use Rattle.layout.specs.Presumed.{Index, Inner}
use Rattle.layout.specs.Viewed.{leaves_of}
use Rattle.layout.specs.declared.Header.{Header}
use Rattle.layout.specs.declared.lent.View.{View}
use Rattle.model.specs.Leaves.{Node, node}
use Rattle.model.specs.Map.{Pair}
use Rattle.model.specs.Start.{rest_of}
use Rattle.route.specs.Routes.{low_place, prefix_at}
use Rattle.spots.specs.declared.Pieced.{Pieced}
use Rattle.spots.specs.declared.Spot.{Spot}
use Rattle.words.specs.Words.{Unpacked, word_count, word_offset}

-- the first words of the directory count the pairs of a leaf list
pub record Counted (leaves : ℕ) (dir : List ℕ) (ns : List Node) : Type 0 where
  pub leaves_are : leaves ≡ length ns
  pub counts_are : (j : ℕ) → j < leaves → word_count (get_or dir j 0) ≡ length (get_or ns j (node 0 [] [])).pairs

-- the pairs from a spot on
abbrev pub rest_at : List Node → Spot → List Pair
rest_at ns s = rest_of ns s.leaf s.slot

-- a spot with a pair, and no pair lies between; or no pair is left
abbrev pub NextOf : List Node → Spot → Option Spot → Type 0
NextOf ns s (Some t) = InList ns t.leaf t.slot × (rest_at ns t ≡ rest_at ns s)
NextOf ns s None = rest_at ns s ≡ []

pub record NextRead (leaves : ℕ) (dir : List ℕ) (s : Spot) (r : Option Spot) : Type 0 where
  pub next : (ns : List Node) → Counted leaves dir ns → NextOf ns s r

-- a spot of an index that has a pair
pub record SpotIn (h : Header) (dir slots arena : List ℕ) (t : Spot) : Type 0 where
  pub index : Index h dir slots arena
  pub leaf_in : t.leaf < h.leaves
  pub slot_in : t.slot < word_count (get_or dir t.leaf 0)

-- the pair there: its leaf's low key and prefix length, and its own slot word, whose pieces are the pair
pub record PairRead (h : Header) (dir slots arena : List ℕ) (ns : List Node) (t : Spot) (r : Pieced) : Type 0 where
  pub low_is : r.low.0 ≡ word_offset (get_or slots (low_place h dir t.leaf) 0)
  pub prefix_is : r.prefix ≡ prefix_at ns t.leaf
  pub slot_is : Unpacked (word_at_slot h.fanout slots (get_or dir t.leaf 0) t.slot) r.slot
  pub pieces : Pieces h dir slots arena ns (pair_in ns t.leaf t.slot) r.low.0 r.prefix r.slot.offset.0 r.slot.suffix r.slot.value

-- on a view, and of what was lent

abbrev pub PairAt : View → Spot → Pieced → Type 0
PairAt v t r = PairRead v.header v.dir.now v.slots.now v.arena.now (leaves_of v) t r

abbrev pub SpotRead : Header → (dir slots arena : List ℕ) → Spot → Pieced → Type 0
SpotRead h dir slots arena t r = Inner h dir slots arena (λ ns. PairRead h dir slots arena ns t r)
