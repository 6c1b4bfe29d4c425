-- The words that each edit leaves lay out the leaf list that it says.
-- Assumes nothing.
use Rattle.std.specs.Prelude.{ℕ, suc, ◌+◌, ◌-◌, ◌^◌, ◌≤◌, ◌<◌, List, [], ◌∷◌, ◌++◌, map, ◌≡◌, refl, get_or, length, take, drop}
use Rattle.std.proofs.Common.{◌∙◌, ap, sym, arith}
use Rattle.std.proofs.lemmas.List.{length-map}
use Rattle.layout.specs.Around.{LaysAround}
use Rattle.layout.proofs.AroundLaws.{inside_here}
use Rattle.layout.specs.Buffers.{low_word, value_place, Buffers, low_at, slot_words, suffix_at}
use Rattle.layout.proofs.RegionLaws.{owns_kept}
use Rattle.layout.specs.Shifted.{Leads, shifted}
use Rattle.layout.proofs.ShiftLaws.{shift_leaf, shift_ready}
use Rattle.layout.proofs.SlotLaws.{put_in_written, replace_value, take_out}
use Rattle.lists.specs.All.{All}
use Rattle.lists.proofs.PartLaws.{get_or-part, length-part, length-put}
use Rattle.lists.specs.Part.{part, put}
use Rattle.model.specs.Leaves.{with_pairs}
use Rattle.model.specs.Map.{pair}
use Rattle.order.specs.Bytes.{Bytes}
use Rattle.slots.specs.Around.{Around, Region, over}
use Rattle.slots.specs.Edits.{Gap, PutIn, Puts, Replaced, Replaces, valued, Shortened, Shortens, TakenOut, Takes, counted, slot_of, words_at}
use Rattle.words.specs.Laws.{offset_of_slot, suffix_of_slot, suffix_small, value_of_slot, value_small, count_of_directory, count_small, leaf_of_directory}
use Rattle.words.specs.Words.{slot_word, word_suffix, word_value, first_slot, word_count, word_leaf, word_offset}

pub region_of : (b : Buffers) (d : ℕ) (a : Around b d) → Region b.fanout b.slots d
region_of b d a = record { inside = a.owns.inside; count_fits = a.owns.count_fits }

-- a directory word with another count

module _ (d count : ℕ) (h : count < 2 ^ 20) where
  pub counted_leaf : word_leaf (counted d count) ≡ word_leaf d
  counted_leaf = leaf_of_directory (word_leaf d) count h

  pub counted_count : word_count (counted d count) ≡ count
  counted_count = count_of_directory (word_leaf d) count h

-- a pair taken out

pub taken_out : {fanout : ℕ} {dir slots : List ℕ} {j i : ℕ} {now_dir now_slots : List ℕ} → Takes fanout dir slots j i
    → now_dir ≡ put dir j (counted (get_or dir j 0) (word_count (get_or dir j 0) - 1) ∷ [])
    → now_slots ≡ put slots (slot_of fanout (get_or dir j 0) i) (part slots (slot_of fanout (get_or dir j 0) i + 1) (word_count (get_or dir j 0) - (i + 1)))
    → TakenOut fanout dir slots j i now_dir now_slots
taken_out {fanout} {dir} {slots} {j} {i} {now_dir} {now_slots} t e s =
    let d = get_or dir j 0 in
    let k = word_count d - (i + 1) in
    let n : word_count d - 1 < 2 ^ 20 = less (word_count d) (count_small d) in
    let leaf = counted_leaf d (word_count d - 1) n in
    let count = counted_count d (word_count d - 1) n in
    record {
      dir_is = e;
      slots_are = s;
      leaves = λ arena a. record {
        lays = take_out now_slots (counted d (word_count d - 1)) i k a.lays a.owns (whole (word_count d) i t.slot) s leaf (one_less (word_count d) i t.slot count);
        owns = owns_kept now_slots arena (counted d (word_count d - 1)) a.owns
            (ap length s ∙ length-put slots (slot_of fanout d i) (part slots (slot_of fanout d i + 1) k) (fits (first_slot fanout (word_leaf d)) (word_count d) t.region.inside t.region.count_fits t.slot))
            leaf (rw count (below (word_count d) fanout t.region.count_fits));
      };
    }
  where
    less : (c : ℕ) → c < 2 ^ 20 → c - 1 < 2 ^ 20
    less c h = omega arith

    below : (c f : ℕ) → c < f → c - 1 < f
    below c f h = omega arith

    whole : (c i : ℕ) → i < c → i + 1 + (c - (i + 1)) ≡ c
    whole c i h = omega arith

    one_less : (c i : ℕ) {x : ℕ} → i < c → x ≡ c - 1 → x + 1 ≡ c
    one_less c i h e = omega arith

    fits : (first c : ℕ) → first + fanout ≤ length slots → c < fanout → i < c → first + i + length (part slots (first + i + 1) (c - (i + 1))) ≤ length slots
    fits first c h k m =
        let n : length (part slots (first + i + 1) (c - (i + 1))) ≡ c - (i + 1) = length-part slots (first + i + 1) (c - (i + 1)) (omega arith) in
        omega arith

-- L6

pub shortened : {fanout : ℕ} {slots : List ℕ} {d g : ℕ} {now_slots : List ℕ} → Shortens fanout slots d g
    → now_slots ≡ put slots (first_slot fanout (word_leaf d)) (map (shifted g) (words_at fanout slots d)) → Shortened fanout slots d g now_slots
shortened {fanout} {slots} {d} {g} {now_slots} t s =
    record {
      slots_are = s;
      leaves = λ arena a long shares. record {
        lays = shift_leaf now_slots g a.lays a.owns s (shift_ready g a.lays long shares);
        owns = owns_kept now_slots arena d a.owns (ap length s ∙ length-put slots first (map (shifted g) ws) fits) refl t.region.count_fits;
      };
    }
  where
    first : ℕ
    first = first_slot fanout (word_leaf d)

    ws : List ℕ
    ws = words_at fanout slots d

    fits : first + length (map (shifted g) ws) ≤ length slots
    fits =
        let n : length (map (shifted g) ws) ≡ word_count d =
        length-map ws (shifted g) ∙ length-part slots first (word_count d) (omega (arith, t.region.inside, t.region.count_fits)) in
        omega (arith, n, t.region.inside, t.region.count_fits)

pub shortens_of : (fanout : ℕ) (slots arena : List ℕ) (d g : ℕ) (a : Around (over fanout slots arena) d) → length arena < 2 ^ 28 → a.prefix + g ≤ length a.leaf.low
    → All (λ x. take (a.prefix + g) x.key ≡ take (a.prefix + g) a.leaf.low) a.leaf.pairs → Shortens fanout slots d g
unfolding slot_words low_at suffix_at
shortens_of fanout slots arena d g a top long shares =
    let w = low_word (over fanout slots arena) d in
    let inside = inside_here a.lays in
    let n : length a.leaf.low ≡ word_suffix w =
    ap length (sym a.lays.here.low_is) ∙ length-part arena (word_offset w) (word_suffix w) (within (word_offset w) (word_suffix w) (word_value w) inside.0) in
    record {
      region = region_of (over fanout slots arena) d a;
      small = shorter a.prefix (word_offset w) (word_suffix w) (word_value w) (rw n at long) inside.0;
      offsets = under (words_at fanout slots d) (shift_ready g a.lays long shares) inside.1;
    }
  where
    within : (o s v : ℕ) → o + (s + v) ≤ length arena → o + s ≤ length arena
    within o s v h = omega arith

    shorter : (p o s v : ℕ) → p + g ≤ s → o + (s + v) ≤ length arena → g < 2 ^ 28
    shorter p o s v h k = omega arith

    below : (o s v : ℕ) → g ≤ s → o + (s + v) ≤ length arena → o + g < 2 ^ 28
    below o s v h k = omega arith

    under : (ws : List ℕ) → All (Leads arena g (part a.leaf.low a.prefix g)) ws → All (λ w. word_offset w + (word_suffix w + word_value w) ≤ length arena) ws
        → All (λ w. word_offset w + g < 2 ^ 28) ws
    under [] h k = tt
    under (w ∷ ws) h k = (below (word_offset w) (word_suffix w) (word_value w) h.0.0 k.0, under ws h.1 k.1)

-- a value replaced

-- the word at a slot
pub word_here : (fanout : ℕ) (slots arena : List ℕ) (d i : ℕ) → i < word_count d → get_or slots (slot_of fanout d i) 0 ≡ get_or (slot_words (over fanout slots arena) d) i 0
unfolding slot_words
word_here fanout slots arena d i h = sym (get_or-part slots (first_slot fanout (word_leaf d)) (word_count d) i 0 h)

pub replaced : {fanout : ℕ} {slots arena : List ℕ} {d i : ℕ} {value : Bytes} {now_slots now_arena : List ℕ} → Replaces fanout slots arena d i value
    → now_slots ≡ put slots (slot_of fanout d i) (valued (get_or slots (slot_of fanout d i) 0) (length value) ∷ [])
    → now_arena ≡ put arena (value_place (get_or slots (slot_of fanout d i) 0)) value → Replaced fanout slots arena d i value now_slots now_arena
replaced {fanout} {slots} {arena} {d} {i} {value} {now_slots} {now_arena} t s m =
    let v = get_or slots (slot_of fanout d i) 0 in
    let small : length value < 2 ^ 24 = below (word_value v) t.not_longer (value_small v) in
    record {
      slots_are = s;
      arena_is = m;
      leaves = λ a x. record {
        lays = replace_value now_slots now_arena i v (valued v (length value)) value a.lays a.owns t.slot (word_here fanout slots arena d i t.slot)
            (offset_of_slot (word_offset v) (word_suffix v) (length value) (suffix_small v) small)
            (suffix_of_slot (word_offset v) (word_suffix v) (length value) (suffix_small v) small)
            (value_of_slot (word_offset v) (word_suffix v) (length value) (suffix_small v) small) t.not_longer s m x;
        owns = owns_kept now_slots now_arena d a.owns
            (ap length s ∙ length-put slots (slot_of fanout d i) (valued v (length value) ∷ []) (one (first_slot fanout (word_leaf d)) (word_count d) t.region.inside t.region.count_fits t.slot))
            refl t.region.count_fits;
      };
    }
  where
    below : (v : ℕ) → length value ≤ v → v < 2 ^ 24 → length value < 2 ^ 24
    below v h k = omega arith

    one : (first c : ℕ) → first + fanout ≤ length slots → c < fanout → i < c → first + i + 1 ≤ length slots
    one first c h k m = omega arith

-- a pair put in

put_in_lays : {fanout : ℕ} {slots arena : List ℕ} {d : ℕ} (i at w : ℕ) (suffix value : Bytes) (now_slots now_arena : List ℕ) (a : Around (over fanout slots arena) d)
    → i ≤ word_count d → word_count d + 1 < fanout → word_count d + 1 < 2 ^ 20
    → word_offset w ≡ at → word_suffix w ≡ length suffix → word_value w ≡ length value
    → now_slots ≡ put slots (slot_of fanout d i) (w ∷ part slots (slot_of fanout d i) (word_count d - i)) → now_arena ≡ put arena at (suffix ++ value)
    → Gap (over fanout slots arena) a.ahead d a.behind i at (length suffix + length value)
    → LaysAround (over fanout now_slots now_arena) a.ahead (counted d (word_count d + 1)) a.behind a.prefixes_ahead a.prefix a.prefixes_behind a.leaves_ahead
    (with_pairs a.leaf (take i a.leaf.pairs ++ (pair (take a.prefix a.leaf.low ++ suffix) value ∷ drop i a.leaf.pairs))) a.leaves_behind
put_in_lays {fanout} {slots} {arena} {d} i at w suffix value now_slots now_arena a h few small eo es ev s m g =
    put_in_written now_slots now_arena (counted d (word_count d + 1)) i (word_count d - i) w a.lays a.owns (whole (word_count d) h) few s
    (counted_leaf d (word_count d + 1) small) (counted_count d (word_count d + 1) small) suffix value (rw eo m) es ev (rw eo g.after) (rw (eo, es, ev) g.before)
  where
    whole : (c : ℕ) → i ≤ c → i + (c - i) ≡ c
    whole c h = omega arith

pub put_in_is : {fanout : ℕ} {dir slots arena : List ℕ} {j i at : ℕ} {suffix value : Bytes} {now_dir now_slots now_arena : List ℕ} → Puts fanout dir slots arena j i at suffix value
    → now_dir ≡ put dir j (counted (get_or dir j 0) (word_count (get_or dir j 0) + 1) ∷ [])
    → now_slots
    ≡ put slots (slot_of fanout (get_or dir j 0) i) (slot_word at (length suffix) (length value) ∷ part slots (slot_of fanout (get_or dir j 0) i) (word_count (get_or dir j 0) - i))
    → now_arena ≡ put arena at (suffix ++ value) → PutIn fanout dir slots arena j i at suffix value now_dir now_slots now_arena
put_in_is {fanout} {dir} {slots} {arena} {j} {i} {at} {suffix} {value} {now_dir} {now_slots} {now_arena} t e s m =
    let d = get_or dir j 0 in
    let w = slot_word at (length suffix) (length value) in
    record {
      dir_is = e;
      slots_are = s;
      arena_is = m;
      leaves = λ a g. record {
        lays = put_in_lays i at w suffix value now_slots now_arena a t.slot t.room t.count_fits
            (offset_of_slot at (length suffix) (length value) t.suffix_fits t.value_fits)
            (suffix_of_slot at (length suffix) (length value) t.suffix_fits t.value_fits)
            (value_of_slot at (length suffix) (length value) t.suffix_fits t.value_fits) s m g;
        owns = owns_kept now_slots now_arena (counted d (word_count d + 1)) a.owns
            (ap length s ∙ length-put slots (slot_of fanout d i) (w ∷ part slots (slot_of fanout d i) (word_count d - i)) (fits (first_slot fanout (word_leaf d)) (word_count d) t.region.inside t.room t.slot))
            (counted_leaf d (word_count d + 1) t.count_fits) (rw (counted_count d (word_count d + 1) t.count_fits) t.room);
      };
    }
  where
    fits : (first c : ℕ) → first + fanout ≤ length slots → c + 1 < fanout → i ≤ c → first + i + suc (length (part slots (first + i) (c - i))) ≤ length slots
    fits first c h k m =
        let n : length (part slots (first + i) (c - i)) ≡ c - i = length-part slots (first + i) (c - i) (omega arith) in
        omega arith
