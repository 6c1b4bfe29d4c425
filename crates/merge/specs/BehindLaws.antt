-- Room behind the last pair of a leaf: what is asked of it in an index with that many bytes free, the gap there is that room, and none is needed
-- where nothing is to be regained.
-- Assumes nothing.
use Rattle.std.specs.Prelude.{ℕ, suc, ◌+◌, ◌*◌, List, [], ◌++◌, map, ◌≡◌, refl, length, take}
use Rattle.std.proofs.Common.{◌∙◌, sym, add-zero, mul-zero, arith, get_or-take}
use Rattle.std.proofs.Math.Seq.{drop-length, take-length}
use Rattle.directory.specs.Used.{lent, used_from, used_to, word_at}
use Rattle.layout.proofs.AroundLaws.{around_at, ordered_at}
use Rattle.layout.specs.Around.{words_before, words_behind}
use Rattle.layout.specs.Buffers.{Buffers, slot_words}
use Rattle.layout.specs.Lays.{LaysAt, prefixes_of}
use Rattle.layout.proofs.LaysWords.{leaf_slots}
use Rattle.layout.specs.Order.{leaf_words, word_extent, words_of, end_of}
use Rattle.layout.proofs.OrderLaws.{order_left, order_right}
use Rattle.layout.specs.Presumed.{Presumed}
use Rattle.layout.specs.declared.Header.{Header}
use Rattle.model.specs.Leaves.{Node, node}
use Rattle.room.specs.RoomMet.{room_met, room_presumed}
use Rattle.room.specs.Rooms.{CanMakeRoom, MadeRoom}
use Rattle.route.specs.RouteLaws.{leaf_lays, place_in}
use Rattle.route.specs.Routes.{leaf_at}
use Rattle.slots.specs.Edits.{Gap}
use Rattle.merge.specs.Behind.{CanRoomBehind, RoomBehind}

-- behind the last word of a leaf

before_all : (b : Buffers) (fs : List ℕ) (d i : ℕ) → i ≡ length (slot_words b d) → words_before b fs d i ≡ words_of b fs ++ leaf_words b d
before_all b fs d i e = rw (e, take-length (slot_words b d))

behind_all : (b : Buffers) (d : ℕ) (bs : List ℕ) (i : ℕ) → i ≡ length (slot_words b d) → words_behind b d bs i ≡ words_of b bs
behind_all b d bs i e = rw (e, drop-length (slot_words b d))

module _ {h : Header} {dir slots arena : List ℕ} {j pairs g : ℕ} (a : CanRoomBehind h dir slots arena j pairs g) where
  pub behind_can : CanMakeRoom h.fanout h.leaves dir slots arena j pairs (pairs * g)
  behind_can = room_met a.presumed (node 0 [] []) j pairs (pairs * g) (place_in a.presumed a.leaf_in) (omega (arith, a.pairs_are)) a.free

  -- the index after it, and the gap there
  behind_gap : {at : ℕ} (now_slots now_arena : List ℕ) → length now_slots ≡ length slots → length now_arena ≡ length arena
      → ((ns : List Node) → Presumed h dir slots arena ns → Presumed h dir now_slots now_arena ns)
      → Gap (lent h.fanout now_slots now_arena) (used_to dir h.leaves j) (word_at dir j) (used_from dir h.leaves (suc j)) pairs at (pairs * g)
      → RoomBehind h dir slots arena j pairs g now_slots now_arena
  behind_gap {at} now_slots now_arena same_slots same_arena keeps gap =
      let b = lent h.fanout now_slots now_arena in
      let all : pairs ≡ length (slot_words b (word_at dir j)) = a.pairs_are ∙ sym (leaf_slots b _ (word_at dir j) (leaf_at a.nodes j) (leaf_lays (keeps a.nodes a.presumed) j a.leaf_in)) in
      record {
        same_slots = same_slots;
        same_arena = same_arena;
        index = keeps;
        top = at;
        ends = rw (before_all b (used_to dir h.leaves j) (word_at dir j) pairs all) at gap.after;
        room = rw (behind_all b (word_at dir j) (used_from dir h.leaves (suc j)) pairs all) at gap.before;
      }

  pub behind_made : {at : ℕ} {now_slots now_arena : List ℕ} → MadeRoom h.fanout h.leaves dir slots arena j pairs (pairs * g) at now_slots now_arena
      → RoomBehind h dir slots arena j pairs g now_slots now_arena
  behind_made {at} {now_slots} {now_arena} m = behind_gap now_slots now_arena m.same_slots m.same_arena (λ ns x. room_presumed x m) m.gap

  -- no bytes: the end of the leaf's last part
  gap_none : g ≡ 0
      → Gap (lent h.fanout slots arena) (used_to dir h.leaves j) (word_at dir j) (used_from dir h.leaves (suc j)) pairs
      (end_of 0 (map word_extent (words_before (lent h.fanout slots arena) (used_to dir h.leaves j) (word_at dir j) pairs))) (pairs * g)
  gap_none e =
      let b = lent h.fanout slots arena in
      let fs = used_to dir h.leaves j in
      let d = word_at dir j in
      let bs = used_from dir h.leaves (suc j) in
      let count = a.presumed.holds.leaves_are in
      let laid : LaysAt b (take h.leaves dir) (prefixes_of a.nodes) a.nodes = rw count a.presumed.holds.lays in
      let seen = rw (get_or-take h.leaves dir j 0 a.leaf_in) at (around_at laid (node 0 [] []) j (place_in a.presumed a.leaf_in)) in
      let parts = ordered_at seen pairs in
      let none : end_of 0 (map word_extent (words_before b fs d pairs)) + pairs * g ≡ end_of 0 (map word_extent (words_before b fs d pairs)) =
      rw (e, mul-zero pairs) (add-zero _) in
      record {
        after = order_left 0 (map word_extent (words_before b fs d pairs)) (map word_extent (words_behind b d bs pairs)) (length arena) parts;
        before = rw none (order_right 0 (map word_extent (words_before b fs d pairs)) (map word_extent (words_behind b d bs pairs)) (length arena) parts);
      }

  pub behind_none : g ≡ 0 → RoomBehind h dir slots arena j pairs g slots arena
  behind_none e = behind_gap slots arena refl refl (λ ns x. x) (gap_none e)
