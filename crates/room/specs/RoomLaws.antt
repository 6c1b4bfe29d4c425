-- Parts packed down before a place and up from it on: the gap between them has all the free bytes.
-- Assumes nothing.
use Rattle.std.specs.Prelude.{ℕ, suc, ◌+◌, ◌≤◌, ◌<◌, List, [], ◌∷◌, ◌++◌, map, ◌≡◌, drop, get_or, length, take}
use Rattle.std.proofs.Common.{append_assoc, ◌∙◌, ap, sym, arith, take-append-drop, take-suc}
use Rattle.std.proofs.Math.Seq.{split_at}
use Rattle.directory.specs.Used.{lent}
use Rattle.layout.specs.Buffers.{Buffers}
use Rattle.layout.specs.Frames.{SameWords}
use Rattle.layout.specs.LaysLaws.{each_words}
use Rattle.layout.proofs.LaysParts.{words_append}
use Rattle.layout.specs.Order.{leaf_words, word_extent, words_of}
use Rattle.layout.proofs.OrderLaws.{order_total, order_widen}
use Rattle.layout.proofs.RegionLaws.{owns_at}
use Rattle.lists.specs.All.{All, all_left, all_right}
use Rattle.model.specs.Leaves.{node}
use Rattle.slots.specs.Edits.{Gap}
use Rattle.room.specs.Leaf.{Up}
use Rattle.room.specs.LeafLaws.{words_same}
use Rattle.room.specs.Pack.{AllUp, Whole}
use Rattle.room.specs.PartLaws.{sizes_append}
use Rattle.room.specs.Parts.{Tight, parts_before, parts_from, sizes}
use Rattle.room.specs.Rooms.{CanMakeRoom, RoomPlace}

-- the leaves asked for
whole_asked : {fanout leaves : ℕ} {dir slots arena : List ℕ} {j i need : ℕ} → CanMakeRoom fanout leaves dir slots arena j i need → Whole (lent fanout slots arena) (take leaves dir)
whole_asked {fanout} {leaves} {dir} {slots} {arena} g =
    let s = g.apart in
    record {
      ps = g.ps;
      ns = g.ns;
      lays = g.lays;
      owns = λ k h.
          owns_at g.pool g.lays (node 0 [] []) k (omega (arith, each_words (lent fanout slots arena) g.ps (take leaves dir) g.ns g.lays.leaves))
          s.slots_are s.numbers s.distinct s.few;
    }

pub place_asked : {fanout leaves : ℕ} {dir slots arena : List ℕ} {j i need : ℕ} → CanMakeRoom fanout leaves dir slots arena j i need → RoomPlace fanout leaves dir slots arena j i
place_asked g = record { inside = g.inside; used = g.used; slot = g.slot; whole = whole_asked g; arena_fits = g.arena_fits }

-- the bytes of all parts are those before the k-th part of the j-th leaf and those from it on
parts_cut : (b : Buffers) (ds : List ℕ) (j k : ℕ) → j < length ds → words_of b ds ≡ parts_before b (take j ds) (get_or ds j 0) k ++ parts_from b (get_or ds j 0) (drop (suc j) ds) k
parts_cut b ds j k h =
    let f = words_of b (take j ds) in
    let ws = leaf_words b (get_or ds j 0) in
    let r = words_of b (drop (suc j) ds) in
    ap (words_of b) (split_at ds j 0 h) ∙ words_append b (take j ds) (get_or ds j 0 ∷ drop (suc j) ds)
    ∙ ap (λ (z : List ℕ). f ++ (z ++ r)) (sym (take-append-drop k ws)) ∙ regroup f (take k ws) (drop k ws) r
  where
    regroup : (f x y r : List ℕ) → f ++ ((x ++ y) ++ r) ≡ (f ++ x) ++ (y ++ r)
    regroup f x y r = simp append_assoc

pub sizes_cut : (b : Buffers) (ds : List ℕ) (j k : ℕ) → j < length ds
    → sizes (words_of b ds) ≡ sizes (parts_before b (take j ds) (get_or ds j 0) k) + sizes (parts_from b (get_or ds j 0) (drop (suc j) ds) k)
sizes_cut b ds j k h =
    ap sizes (parts_cut b ds j k h) ∙ sizes_append (parts_before b (take j ds) (get_or ds j 0) k) (parts_from b (get_or ds j 0) (drop (suc j) ds) k)

-- the words before the place are kept by the moves behind it

pub kept_by_all : {c e : Buffers} (ds : List ℕ) (j k : ℕ) {start : ℕ} → j < length ds → AllUp c e ds (suc j) start
    → parts_before e (take j ds) (get_or ds j 0) k ≡ parts_before c (take j ds) (get_or ds j 0) k
kept_by_all {c} {e} ds j k h u =
    let rest : All (SameWords c e) (take j ds ++ (get_or ds j 0 ∷ [])) = rw (take-suc ds j 0 h) at u.rest in
    let here = all_right (SameWords c e) (take j ds) (get_or ds j 0 ∷ []) rest in
    rw (words_same c e (take j ds) (all_left (SameWords c e) (take j ds) (get_or ds j 0 ∷ []) rest), here.0.low_word_eq, here.0.words)

pub kept_by_leaf : {c e : Buffers} {fs : List ℕ} {d : ℕ} {bs : List ℕ} {k start : ℕ} → Up c e fs d bs k start → parts_before e fs d k ≡ parts_before c fs d k
kept_by_leaf {c} {e} {fs} u = rw (words_same c e fs u.moved.ahead, u.rest)

-- the gap

pub gap_made : {c : Buffers} (ds : List ℕ) (j i need : ℕ) {end start : ℕ} → j < length ds → Tight 0 (parts_before c (take j ds) (get_or ds j 0) (suc i)) end
    → Tight start (parts_from c (get_or ds j 0) (drop (suc j) ds) (suc i)) (length c.arena) → sizes (words_of c ds) + need ≤ length c.arena
    → Gap c (take j ds) (get_or ds j 0) (drop (suc j) ds) i end need
gap_made {c} ds j i need {end} {start} h low high free =
    let d = get_or ds j 0 in
    let behind = parts_from c d (drop (suc j) ds) (suc i) in
    record {
      after = low.ordered;
      before = order_widen start (end + need) (map word_extent behind) (length c.arena) (length c.arena)
          (room (sizes (parts_before c (take j ds) d (suc i))) (sizes behind) low.full high.full (sizes_cut c ds j (suc i) h) free) (omega arith) high.ordered;
    }
  where
    room : (x y : ℕ) {s end start top : ℕ} → 0 + x ≡ end → start + y ≡ top → s ≡ x + y → s + need ≤ top → end + need ≤ start
    room x y a b c d = omega arith

pub gap_inside : {c : Buffers} {fs : List ℕ} {d : ℕ} {bs : List ℕ} {i at need : ℕ} → Gap c fs d bs i at need → at + need ≤ length c.arena
gap_inside {c} {fs} {d} {bs} {i} {at} {need} g =
    let ws = map word_extent (parts_from c d bs (suc i)) in
    omega (arith, order_total (at + need) ws (length c.arena) g.before)
