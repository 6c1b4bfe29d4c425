-- No bytes regained: all stays. A leaf list ready for the merge is ready for its two steps; and one laid out is ready, where there is room.
-- Assumes nothing.
use Rattle.order.specs.Bytes.{Bytes}
use Rattle.model.specs.Good.{Distinct}
use Rattle.lists.specs.All.{All}
use Rattle.layout.specs.Lays.{LaysAt}
use Rattle.layout.specs.Buffers.{pair_at, slot_words, suffix_at}
use Rattle.directory.specs.TakeLaws.{next_cons}
use Rattle.std.specs.Prelude.{ℕ, suc, ◌+◌, ◌-◌, ◌*◌, ◌≤◌, ◌<◌, ◌^◌, List, [], ◌∷◌, ◌++◌, map, ◌≡◌, refl, drop}
use Rattle.std.proofs.Common.{◌∙◌, subst, sym, add-zero, mul-zero, arith, length-append}
use Rattle.std.proofs.Math.Path.{ap}
use Rattle.std.proofs.Math.ListN.{length, get_or, take}
use Rattle.std.proofs.Math.Seq.{drop-cons, get_or-take, length-take-le, take-suc}
use Rattle.directory.specs.Takes.{CanTakeOver, TakenOver, Takes}
use Rattle.directory.specs.Used.{lent, used_from, used_to, word_at}
use Rattle.layout.proofs.AroundLaws.{around_next, around_prev, around_at, inside_here}
use Rattle.layout.specs.Frames.{WordsIn}
use Rattle.layout.specs.LaysLaws.{each_prefixes, each_words}
use Rattle.layout.specs.Order.{word_extent, leaf_words, words_of}
use Rattle.layout.proofs.OrderLaws.{order_top}
use Rattle.layout.proofs.RegionLaws.{owns_kept, owns_at}
use Rattle.lists.proofs.PartLaws.{length-part, part-put, put-part}
use Rattle.lists.specs.Part.{part}
use Rattle.model.specs.Leaves.{Node}
use Rattle.regrow.specs.Merge.{CanMerge, Merged, Merges, low_from}
use Rattle.regrow.specs.Regrow.{CanRegrow, Regrown, RegrownList, Regrows, regrown_arena, regrown_slots, regrown_word, regrown_words, words_at}
use Rattle.regrow.specs.RegrowLaws.{count_long, pairs_ordered, regrown_count, room_fits}
use Rattle.words.specs.Laws.{slot_of_fields}
use Rattle.words.specs.Words.{first_slot, word_count, word_leaf, word_offset, word_suffix, word_value}

-- none regained

same_word : (i w : ℕ) → regrown_word 0 i w ≡ w
same_word i w = rw (mul-zero i, add-zero (word_offset w), add-zero (word_suffix w)) (slot_of_fields w)

same_words : (i : ℕ) (ws : List ℕ) → regrown_words 0 i ws ≡ ws
same_words i [] = refl
same_words i (w ∷ ws) = rw (same_word i w, same_words (suc i) ws)

same_arena : (arena : List ℕ) (i a : ℕ) (ws : List ℕ) (top : ℕ) → top ≤ length arena → WordsIn a ws top → regrown_arena arena [] 0 i ws ≡ arena
same_arena arena i a [] top fits h = refl
same_arena arena i a (w ∷ ws) top fits h =
    let n = word_suffix w + word_value w in
    let end : word_offset w + n ≤ top = order_top (word_offset w + n) (map word_extent ws) top h.1 in
    rw (same_arena arena (suc i) (word_offset w + n) ws top fits h.1, mul-zero i, add-zero (word_offset w)) (put-part arena (word_offset w) n (below (word_offset w + n) end))
  where
    below : (x : ℕ) → x ≤ top → x ≤ length arena
    below x k = omega arith

list_none : {fanout : ℕ} {slots arena : List ℕ} {d from top : ℕ} {fs bs qs : List ℕ} {p : ℕ} {rs : List ℕ} {l : List Node} {n : Node} {r : List Node}
    → Regrows fanout slots arena d 0 from top fs bs qs p rs l n r → RegrownList fanout d 0 slots arena fs bs qs p rs l n r
list_none {p = p} u =
    let e : p - 0 ≡ p = omega arith in
    record { lays = rw e u.lays; owns = u.owns }

none : {fanout : ℕ} {slots arena : List ℕ} {d from : ℕ} → CanRegrow fanout slots arena d 0 from → Regrown fanout slots arena d 0 from slots arena
none {fanout} {slots} {arena} {d} {from} h =
    let t = h.regrows in
    let ws = words_at fanout slots d in
    record {
      slots_are = sym (rw (same_words 0 ws) (put-part slots (first_slot fanout (word_leaf d)) (word_count d) (inside (first_slot fanout (word_leaf d)) (word_count d) t.owns.inside t.owns.count_fits)));
      arena_is = sym (same_arena arena 0 _ ws h.top (low (word_count d * 0) (room_fits t)) (pairs_ordered t));
      regrown = list_none;
    }
  where
    inside : (x c : ℕ) → x + fanout ≤ length slots → c < fanout → x + c ≤ length slots
    inside x c i j = omega arith

    low : (y : ℕ) → h.top + y ≤ length arena → h.top ≤ length arena
    low y k = omega arith

pub regrown_none : {fanout : ℕ} {slots arena : List ℕ} {d g from : ℕ} → g ≡ 0 → CanRegrow fanout slots arena d g from → Regrown fanout slots arena d g from slots arena
regrown_none {fanout} {slots} {arena} {d} {g} {from} e h =
    subst (λ (x : ℕ). Regrown fanout slots arena d x from slots arena) (sym e) (none (subst (λ (x : ℕ). CanRegrow fanout slots arena d x from) e h))

-- the two steps of a merge

module _ {fanout leaves : ℕ} {dir slots arena : List ℕ} {j q kept top : ℕ} {qs : List ℕ} {p : ℕ} {rs : List ℕ} {l : List Node} {n m : Node} {r : List Node}
    (t : Merges fanout leaves dir slots arena j q kept top qs p rs l n m r) where
  back : q - (q - kept) ≡ kept
  back = omega (arith, t.shorter)

  pub merge_regrows : Regrows fanout slots arena (word_at dir (suc j)) (q - kept) (low_from fanout slots (word_at dir (suc j)) kept) top
      (used_to dir leaves j ++ (word_at dir j ∷ [])) (used_from dir leaves (suc (suc j))) (qs ++ (p ∷ [])) q rs (l ++ (n ∷ [])) m r
  merge_regrows =
      record {
        lays = around_next t.lays;
        owns = t.next_owns;
        shorter = omega arith;
        low_long = t.low_long;
        from_is = ap (low_from fanout slots (word_at dir (suc j))) (sym back);
        ends = t.ends;
        room = t.room;
        arena_fits = t.arena_fits;
        suffixes_fit = t.suffixes_fit;
      }

  pub merge_takes : (now_slots now_arena : List ℕ) → length now_slots ≡ length slots
      → RegrownList fanout (word_at dir (suc j)) (q - kept) now_slots now_arena
      (used_to dir leaves j ++ (word_at dir j ∷ [])) (used_from dir leaves (suc (suc j))) (qs ++ (p ∷ [])) q rs (l ++ (n ∷ [])) m r
      → Takes fanout leaves dir now_slots now_arena j qs p kept rs l n m r
  merge_takes now_slots now_arena long u =
      let b = lent fanout slots arena in
      record {
        used = t.used;
        next = t.next;
        lays = around_prev (each_prefixes b qs (used_to dir leaves j) l t.lays.ahead) (each_words b qs (used_to dir leaves j) l t.lays.ahead) (rw back at u.lays);
        owns = owns_kept now_slots now_arena (word_at dir j) t.owns long refl t.owns.count_fits;
        next_inside = rw long t.next_owns.inside;
        prefix = t.prefix;
      }

module _ {fanout leaves : ℕ} {dir slots arena : List ℕ} {j q kept : ℕ} (h : CanMerge fanout leaves dir slots arena j q kept) where
  pub merge_can_regrow : CanRegrow fanout slots arena (word_at dir (suc j)) (q - kept) (low_from fanout slots (word_at dir (suc j)) kept)
  merge_can_regrow = record {
    top = h.top;
    fs = used_to dir leaves j ++ (word_at dir j ∷ []);
    bs = used_from dir leaves (suc (suc j));
    qs = h.qs ++ (h.p ∷ []);
    p = q;
    rs = h.rs;
    l = h.l ++ (h.n ∷ []);
    n = h.m;
    r = h.r;
    regrows = merge_regrows h.merges;
  }

  module _ {now_slots now_arena : List ℕ}
      (u : Regrown fanout slots arena (word_at dir (suc j)) (q - kept) (low_from fanout slots (word_at dir (suc j)) kept) now_slots now_arena)
      (long : length now_slots ≡ length slots) where
    pub merge_can_take : CanTakeOver fanout leaves dir now_slots j
    merge_can_take =
        record {
          arena = now_arena;
          qs = h.qs;
          p = h.p;
          q = kept;
          rs = h.rs;
          l = h.l;
          n = h.n;
          m = h.m;
          r = h.r;
          takes = merge_takes h.merges now_slots now_arena long (u.regrown (merge_regrows h.merges));
        }

    pub merge_done : {exit_dir exit_slots : List ℕ} → TakenOver fanout leaves dir now_slots j exit_dir exit_slots
        → Merged fanout leaves dir slots arena j q kept exit_dir exit_slots now_arena
    merge_done {exit_dir} {exit_slots} v =
        let d = word_at dir (suc j) in
        let us = regrown_words (q - kept) 0 (words_at fanout slots d) in
        let many : length us ≡ word_count d = regrown_count (q - kept) 0 (words_at fanout slots d) ∙ count_long (merge_regrows h.merges) in
        let read : part now_slots (first_slot fanout (word_leaf d)) (word_count d) ≡ us =
        rw u.slots_are (subst (λ (x : ℕ). part (regrown_slots fanout slots d (q - kept)) (first_slot fanout (word_leaf d)) x ≡ us) many
        (part-put slots (first_slot fanout (word_leaf d)) us (low (first_slot fanout (word_leaf d)) h.merges.next_owns.inside))) in
        record {
          dir_is = v.dir_is;
          slots_are = v.slots_are ∙ rw (read, u.slots_are);
          arena_is = u.arena_is;
          merged = λ t. v.taken (merge_takes t now_slots now_arena long (u.regrown (merge_regrows t)));
        }
      where
        low : (x : ℕ) → x + fanout ≤ length slots → x ≤ length slots
        low x k = omega arith

-- a leaf list laid out is ready for the merge, where the j-th leaf is empty and there is room

short_words : (arena : List ℕ) (low : Bytes) (q g : ℕ) → q ≤ length low → g ≤ q → (ws : List ℕ) → All (λ w. word_offset w + (word_suffix w + word_value w) ≤ length arena) ws
    → All (λ x. length x.key < 2 ^ 12) (map (pair_at arena (take q low)) ws) → All (λ w. word_suffix w + g < 2 ^ 12) ws
unfolding pair_at suffix_at
short_words arena low q g long part_of [] i k = tt
short_words arena low q g long part_of (w ∷ ws) i k =
    let n : length (part arena (word_offset w) (word_suffix w)) ≡ word_suffix w = length-part arena (word_offset w) (word_suffix w) (omega (arith, i.0)) in
    let all : length (take q low ++ part arena (word_offset w) (word_suffix w)) ≡ q + word_suffix w = rw (length-append, length-take-le q low long, n) in
    (less (word_suffix w) (rw all at k.0), short_words arena low q g long part_of ws i.1 k.1)
  where
    less : (s : ℕ) → q + s < 2 ^ 12 → s + g < 2 ^ 12
    less s h = omega arith

module _ (fanout leaves : ℕ) (dir slots arena ps : List ℕ) (ns : List Node) (x : Node) (pool j : ℕ) (laid : LaysAt (lent fanout slots arena) (take leaves dir) ps ns)
    (count : leaves ≡ length ns) (used : leaves ≤ length dir) (next : suc j < leaves) (size : length slots ≡ fanout * pool) (below : All (λ m. m.number < pool) ns)
    (apart : Distinct ns) (few : All (λ m. length m.pairs < fanout) ns) (arena_fits : length arena < 2 ^ 28) (empty : (get_or ns j x).pairs ≡ [])
    (short : All (λ y. length y.key < 2 ^ 12) (get_or ns (suc j) x).pairs) (long : get_or ps (suc j) 0 ≤ length (get_or ns (suc j) x).low) where
  pub merges_at : (kept top : ℕ) → kept ≤ get_or ps (suc j) 0 → take kept (get_or ns j x).low ≡ take kept (get_or ns (suc j) x).low
      → WordsIn 0 (words_of (lent fanout slots arena) (used_to dir leaves (suc j)) ++ leaf_words (lent fanout slots arena) (word_at dir (suc j))) top
      → WordsIn (top + length (get_or ns (suc j) x).pairs * (get_or ps (suc j) 0 - kept)) (words_of (lent fanout slots arena) (used_from dir leaves (suc (suc j)))) (length arena)
      → Merges fanout leaves dir slots arena j (get_or ps (suc j) 0) kept top (take j ps) (get_or ps j 0) (drop (suc (suc j)) ps) (take j ns) (get_or ns j x) (get_or ns (suc j) x)
      (drop (suc (suc j)) ns)
  unfolding slot_words
  merges_at kept top shorter prefix ends room =
      let b = lent fanout slots arena in
      let ds = take leaves dir in
      let m = get_or ns (suc j) x in
      let word : get_or ds j 0 ≡ word_at dir j = get_or-take leaves dir j 0 (omega arith) in
      let word₂ : get_or ds (suc j) 0 ≡ word_at dir (suc j) = get_or-take leaves dir (suc j) 0 next in
      let many : length ps ≡ length ns = each_prefixes b ps ds ns laid.leaves in
      let rest = next_cons dir leaves (suc j) next used in
      let front : used_to dir leaves (suc j) ≡ used_to dir leaves j ++ (word_at dir j ∷ []) =
      take-suc ds j 0 (omega (arith, length-take-le leaves dir used)) ∙ ap (λ (z : ℕ). used_to dir leaves j ++ (z ∷ [])) word in
      let here = around_at laid x j (omega arith) in
      let there = around_at laid x (suc j) (omega arith) in
      record {
        used = used;
        next = next;
        empty = rw word at here.here.count_is ∙ ap length empty;
        lays = rw (word, rest, drop-cons ps (suc j) 0 (omega arith), drop-cons ns (suc j) x (omega arith)) at here;
        owns = rw (word, rest) at (owns_at pool laid x j (omega arith) size below apart few);
        next_owns = rw (word₂, front) at (owns_at pool laid x (suc j) (omega arith) size below apart few);
        shorter = shorter;
        low_long = long;
        prefix = prefix;
        ends = rw front at ends;
        room = rw (rw word₂ at there.here.count_is) room;
        arena_fits = arena_fits;
        suffixes_fit = rw word₂ at (short_words arena m.low (get_or ps (suc j) 0) (get_or ps (suc j) 0 - kept) long (omega arith) (slot_words b (get_or ds (suc j) 0))
            (inside_here there).1 (rw there.here.pairs_are short));
      }
