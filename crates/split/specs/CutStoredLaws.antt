-- A leaf's stored pairs cut: an index has the room for the right half's low key, that key written into the gap leaves all that a cut asks, and the
-- leaf list laid out then.
-- Assumes nothing.
use Rattle.std.specs.Prelude.{◌+◌, ◌<◌, ◌^◌, ◌≤◌, suc, ℕ, List, [], ◌++◌, ◌∷◌, ◌≡◌, refl, drop, get_or, length, take}
use Rattle.std.proofs.Common.{◌∙◌, ap, subst, arith, get_or-take}
use Rattle.std.proofs.Math.Seq.{split_at}
use Rattle.directory.specs.CutLaws.{right_count, right_leaf}
use Rattle.directory.specs.Cuts.{CanCut, CutLeaf, Cuts, right_word}
use Rattle.directory.specs.Used.{lent, used_from, used_to, word_at}
use Rattle.layout.specs.Around.{LaysAround}
use Rattle.layout.proofs.AroundLaws.{around_at, before_kept, behind_kept, lays_of, write_around}
use Rattle.layout.specs.Lays.{LaysAt, prefixes_of}
use Rattle.layout.specs.LaysLaws.{prefixes_at}
use Rattle.layout.specs.Presumed.{Presumed}
use Rattle.layout.specs.Regions.{Owns}
use Rattle.layout.proofs.RegionLaws.{owns_at, owns_free, owns_kept}
use Rattle.layout.specs.declared.Header.{Header}
use Rattle.lists.specs.All.{All}
use Rattle.lists.proofs.PartLaws.{length-put, part-put}
use Rattle.lists.specs.Part.{put}
use Rattle.model.specs.Charge.{stored}
use Rattle.model.specs.Leaves.{Node, node}
use Rattle.model.specs.LimitLaws.{arena_limit_fits, key_limit_fits, pool_limit_fits}
use Rattle.model.proofs.StoredLaws.{stored_charge}
use Rattle.order.specs.Bytes.{Bytes}
use Rattle.room.specs.RoomMet.{presumed_apart, room_apart, room_met}
use Rattle.room.specs.Rooms.{CanMakeRoom, MadeRoom}
use Rattle.route.specs.Routes.{leaf_at}
use Rattle.slots.specs.Whole.{Apart}
use Rattle.split.specs.Splits.{CanCutStored, CutAsked, CutStored, cut_at, twice}
use Rattle.words.specs.Words.{word_count, word_leaf}
use Rattle.words.specs.declared.LowKey.{LowKey}

-- an index with a leaf to cut: the bytes that it stores are no more than its charge, so the low key has room

module _ {h : Header} {dir slots arena : List ℕ} {j i free : ℕ} {low : Bytes} {ns : List Node}
    (x : Presumed h dir slots arena ns) (a : CutAsked h (length dir) (length arena) j i free low ns) where
  used : j < h.leaves
  used = omega (arith, a.leaf_in, x.holds.leaves_are)

  stored_room : stored ns + length low ≤ length arena
  stored_room = omega (arith, stored_charge ns, x.holds.charge_is, a.room)

  pub room_asked : CanMakeRoom h.fanout h.leaves dir slots arena j i (length low)
  room_asked = room_met x (node 0 [] []) j i (length low) a.leaf_in a.slot stored_room

  -- the room made
  module _ {at : ℕ} {moved_slots moved_arena : List ℕ} (m : MadeRoom h.fanout h.leaves dir slots arena j i (length low) at moved_slots moved_arena) where
    laid : LaysAt (lent h.fanout moved_slots moved_arena) (take h.leaves dir) (prefixes_of ns) ns
    laid = m.kept (rw x.holds.leaves_are x.holds.lays)

    apart : Apart (lent h.fanout moved_slots moved_arena) (length dir) ns
    apart = room_apart m (presumed_apart x)

    word : get_or (take h.leaves dir) j 0 ≡ word_at dir j
    word = get_or-take h.leaves dir j 0 used

    around : LaysAround (lent h.fanout moved_slots moved_arena) (used_to dir h.leaves j) (word_at dir j) (used_from dir h.leaves (suc j))
        (take j (prefixes_of ns)) (get_or (prefixes_of ns) j 0) (drop (suc j) (prefixes_of ns)) (take j ns) (leaf_at ns j) (drop (suc j) ns)
    around = rw word at (around_at laid (node 0 [] []) j a.leaf_in)

    owned_here : Owns (lent h.fanout moved_slots moved_arena) (used_to dir h.leaves j) (word_at dir j) (used_from dir h.leaves (suc j))
    owned_here = rw word at (owns_at (length dir) laid (node 0 [] []) j a.leaf_in apart.slots_are apart.numbers apart.distinct apart.few)

    owned_free : Owns (lent h.fanout moved_slots moved_arena) (used_to dir h.leaves j ++ (word_at dir j ∷ [])) (right_word dir j i free) (used_from dir h.leaves (suc j))
    owned_free =
        let Few : Node → Type 0 = λ n. length n.pairs < h.fanout in
        let e = right_word dir j i free in
        let whole = split_at ns j (node 0 [] []) a.leaf_in in
        let fewer : word_count e < h.fanout = rw (right_count dir j i free) (omega (arith, owned_here.count_fits)) in
        let absent : All (λ n. n.number ≡ word_leaf e → ⊥) ns = rw (right_leaf dir j i free) a.number_free in
        owns_free (length dir) e around apart.slots_are (rw (right_leaf dir j i free) a.number_in) fewer
        (subst (All (λ n. n.number ≡ word_leaf e → ⊥)) whole absent) (subst (All Few) whole apart.few)

    pub low_inside : at + length low ≤ length moved_arena
    low_inside = rw m.same_arena m.inside

    -- the low key written there
    module _ {written : List ℕ} (is : written ≡ put moved_arena at low) (k : LowKey) (e : k.offset.0 ≡ at) (f : k.length ≡ length low) where
      written_long : length written ≡ length moved_arena
      written_long = ap length is ∙ length-put moved_arena at low low_inside

      at_fits : at < 2 ^ 28
      at_fits = omega (arith, m.inside, x.holds.sizes.arena_most, arena_limit_fits)

      low_short : length low < 2 ^ 12
      low_short = omega (arith, a.low_short, key_limit_fits)

      begins : take (get_or (prefixes_of ns) j 0) low ≡ take (get_or (prefixes_of ns) j 0) (leaf_at ns j).low
      begins = rw (prefixes_at (node 0 [] []) j ns a.leaf_in) a.prefix_is

      cuts : Cuts h.fanout h.leaves dir moved_slots written j i free k low (take j (prefixes_of ns)) (get_or (prefixes_of ns) j 0) (drop (suc j) (prefixes_of ns))
          (take j ns) (leaf_at ns j) (drop (suc j) ns)
      cuts =
          let b = lent h.fanout moved_slots moved_arena in
          let d = word_at dir j in
          record {
            room = a.leaf_free;
            used = used;
            stored = rw around.here.count_is a.slot;
            lays = write_around written i at low around is m.gap.after m.gap.before;
            owns = owns_kept moved_slots written d owned_here refl refl owned_here.count_fits;
            free_fits = omega (arith, a.number_in, x.holds.sizes.pool_most, pool_limit_fits);
            free_owns = owns_kept moved_slots written (right_word dir j i free) owned_free refl refl owned_free.count_fits;
            low_fits = record { offset_fits = rw e at_fits; length_fits = rw f low_short };
            low_is = rw (e, f, is) (part-put moved_arena at low (omega (arith, low_inside)));
            prefix = begins;
            under = rw (e, before_kept b written (used_to dir h.leaves j) d i) m.gap.after;
            over = rw (e, f, behind_kept b written d (used_from dir h.leaves (suc j)) i, written_long) m.gap.before;
          }

      pub cut_asked : CanCut h.fanout h.leaves dir moved_slots j i free k
      cut_asked = record {
        arena = written;
        low = low;
        qs = take j (prefixes_of ns);
        p = get_or (prefixes_of ns) j 0;
        rs = drop (suc j) (prefixes_of ns);
        l = take j ns;
        n = leaf_at ns j;
        r = drop (suc j) ns;
        cuts = cuts;
      }

      cut_laid : {now_dir now_slots : List ℕ} → CutLeaf h.fanout h.leaves dir moved_slots j i free k now_dir now_slots
          → LaysAt (lent h.fanout now_slots written) (take (h.leaves + 1) now_dir) (twice j (prefixes_of ns)) (cut_at free low j i ns)
      cut_laid c = let t = c.cut cuts in rw t.used (lays_of t.lays)

-- `cut_stored`, call by call

module _ {h : Header} {dir slots arena : List ℕ} {j i free : ℕ} {low : Bytes} (s : CanCutStored h dir slots arena j i free low) where
  pub can_make_room : CanMakeRoom h.fanout h.leaves dir slots arena j i (length low)
  can_make_room = room_asked s.presumed s.asks

  module _ {at : ℕ} {moved_slots moved_arena : List ℕ} (m : MadeRoom h.fanout h.leaves dir slots arena j i (length low) at moved_slots moved_arena) where
    pub can_write_low : at + length low ≤ length moved_arena
    can_write_low = low_inside s.presumed s.asks m

    module _ {written : List ℕ} (is : written ≡ put moved_arena at low) (k : LowKey) (e : k.offset.0 ≡ at) (f : k.length ≡ length low) where
      pub can_cut : CanCut h.fanout h.leaves dir moved_slots j i free k
      can_cut = cut_asked s.presumed s.asks m is k e f

      pub cut_done : {now_dir now_slots : List ℕ} → CutLeaf h.fanout h.leaves dir moved_slots j i free k now_dir now_slots → length now_dir ≡ length dir
          → length now_slots ≡ length moved_slots → CutStored h dir slots arena j i free low now_dir now_slots written
      cut_done c same_dir same_slots =
          record {
            same_dir = same_dir;
            same_slots = same_slots ∙ m.same_slots;
            same_arena = written_long s.presumed s.asks m is k e f ∙ m.same_arena;
            laid = λ ns x a. cut_laid x a m is k e f c;
          }
