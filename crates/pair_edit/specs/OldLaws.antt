-- A pair that stands at a key's spot: it is read there, the map has it; and the directory's leaf list with that leaf's pairs changed.
-- Assumes nothing.
use Rattle.spots.specs.SeekLaws.{at_spot_in}
use Rattle.std.specs.Prelude.{◌<◌, suc, zero, ℕ, List, [], ◌++◌, ◌∷◌, ◌≡◌, drop, get_or, length, take}
use Rattle.std.proofs.Math.Option.{some}
use Rattle.std.proofs.Common.{◌∙◌, ap, arith}
use Rattle.std.proofs.Math.Seq.{split_at}
use Rattle.layout.specs.Buffers.{Buffers}
use Rattle.layout.specs.Lays.{Lays, LaysAt, buffers, prefixes_of}
use Rattle.layout.specs.LaysLaws.{lows_of, prefixes_length, prefixes_same}
use Rattle.layout.proofs.LaysWords.{holds_long, region_in}
use Rattle.layout.specs.Pieces.{InList, pair_in}
use Rattle.layout.specs.Presumed.{Presumed}
use Rattle.layout.specs.UsedLaws.{length_same}
use Rattle.layout.specs.declared.Header.{Header}
use Rattle.model.specs.Leaves.{Node, node, owned, pairs_of}
use Rattle.model.specs.Map.{lookup}
use Rattle.model.proofs.PairLaws.{lookup-owned}
use Rattle.order.specs.Bytes.{Bytes}
use Rattle.room.specs.RoomMet.{presumed_apart}
use Rattle.route.specs.Lookups.{at_in_list, at_key, at_value}
use Rattle.route.specs.RouteLaws.{leaf_word, routed}
use Rattle.slots.specs.Around.{Around, Region, over}
use Rattle.slots.specs.Whole.{around_place}
use Rattle.spots.specs.KeySpots.{AtSpot}
use Rattle.spots.specs.Spots.{SpotIn}
use Rattle.spots.specs.declared.Spot.{Spot}
use Rattle.words.specs.Words.{word_count, word_leaf}

-- L2's prefix lengths go by the low keys, and those stay where a leaf's pairs alone are changed

lows_edited : (j : ℕ) (ns : List Node) (y n : Node) → j < length ns → n.low ≡ (get_or ns j y).low → lows_of (take j ns ++ (n ∷ drop (suc j) ns)) ≡ lows_of ns
lows_edited j [] y n h e = absurd (omega arith)
lows_edited zero (m ∷ ns) y n h e = ap (λ (l : Bytes). l ∷ lows_of ns) e
lows_edited (suc j) (m ∷ ns) y n h e = ap (λ (l : List Bytes). m.low ∷ l) (lows_edited j ns y n (omega arith) e)

pub edited_lays : {c : Buffers} (now_dir : List ℕ) (ns : List Node) (j : ℕ) (y n : Node) → j < length ns → n.low ≡ (get_or ns j y).low
    → LaysAt c (take (length ns) now_dir) (take j (prefixes_of ns) ++ (get_or (prefixes_of ns) j 0 ∷ drop (suc j) (prefixes_of ns))) (take j ns ++ (n ∷ drop (suc j) ns))
    → Lays c now_dir (take j ns ++ (n ∷ drop (suc j) ns))
edited_lays now_dir ns j y n h e l =
    let k : j < length (prefixes_of ns) = rw (prefixes_length ns) h in
    rw (length_same ns j n h, prefixes_same (take j ns ++ (n ∷ drop (suc j) ns)) ns (lows_edited j ns y n h e)) (rw (← split_at (prefixes_of ns) j 0 k) at l)

module _ {h : Header} {dir slots arena : List ℕ} {ns : List Node} (x : Presumed h dir slots arena ns) where
  -- the leaf list around the leaf at a place
  abbrev pub around_leaf : (j : ℕ) → j < length ns → Around (over h.fanout slots arena) (get_or dir j 0)
  around_leaf j m = around_place (buffers h slots arena) dir (length ns) (prefixes_of ns) ns (node 0 [] []) (length dir) j x.holds.lays (presumed_apart x) m m

  pub leaf_region : (j : ℕ) → j < h.leaves → Region h.fanout slots (get_or dir j 0)
  leaf_region j m =
      let w = leaf_word x j m in
      record { inside = omega (arith, region_in h.fanout (length dir) (word_leaf (get_or dir j 0)) w.leaf_in, x.holds.sizes.slots_are); count_fits = w.count_in }

  -- the pair at a spot

  module _ {k : Bytes} {t : Spot} (s : AtSpot k ns t) where
    pub spot_listed : InList ns t.leaf t.slot
    spot_listed = at_in_list x k s.owns t.slot s.stands

    pub spot_leaf : t.leaf < h.leaves
    spot_leaf = (routed x k s.owns).within

    pub spot_in : SpotIn h dir slots arena t
    spot_in = at_spot_in x k s

    pub spot_slot : t.slot < word_count (get_or dir t.leaf 0)
    spot_slot = spot_in.slot_in

    pub spot_key : (pair_in ns t.leaf t.slot).key ≡ k
    spot_key = at_key x k s.owns t.slot s.stands

    pub spot_found : lookup k (pairs_of ns) ≡ some (pair_in ns t.leaf t.slot).value
    spot_found = at_value x k s.owns t.slot s.stands

    pub spot_owned : lookup k (owned k ns) ≡ some (pair_in ns t.leaf t.slot).value
    spot_owned = lookup-owned k ns x.tiles ∙ spot_found

    pub spot_listed_dir : t.leaf < length dir
    spot_listed_dir = omega (arith, spot_listed.leaf_in, holds_long x.holds)
