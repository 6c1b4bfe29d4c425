-- The steps of the edits, over plain lists and numbers.
-- Assumes nothing.
use Prim.Native.Nat.{ℕ, ◌+◌, ◌-◌, ◌*◌, ◌^◌, ◌≤◌, ◌<◌}
use mathlib.Core.List.{◌++◌, List, [], ◌∷◌, map}
use mathlib.Core.Path.{◌≡◌, ◌∙◌, ap}
use native.Mathlib.Numerals.{add-one}
use native.Mathlib.Omega.{arith}
use lib.ListN.{get_or, length, set}
use Rattle.lists.specs.All.{all_at}
use Rattle.lists.proofs.PartLaws.{put-append, put-cons, get_or-part, length-part, put_one}
use Rattle.lists.specs.Part.{part, put}
use Rattle.order.specs.Bytes.{Bytes}
use Rattle.slots.specs.Edits.{PutIn, Puts, Replaced, Replaces, Shortened, Shortens, TakenOut, Takes, slot_of, words_at}
use Rattle.slots.specs.EditsLaws.{put_in_is, replaced, shortened, taken_out}
use Rattle.words.specs.Words.{Unpacked, slot_word, directory_word, first_slot, word_count, word_leaf, word_offset}
use Rattle.words.specs.declared.Slot.{Slot}

pub first_of : (fanout d : ℕ) {n : ℕ} → n ≡ word_leaf d → first_slot fanout n ≡ first_slot fanout (word_leaf d)
first_of fanout d e = ap (first_slot fanout) e

pub slot_of_lem : (fanout d i : ℕ) {n r : ℕ} → n ≡ word_leaf d → r ≡ first_slot fanout n → r + i ≡ slot_of fanout d i
slot_of_lem fanout d i e f = ap (λ (x : ℕ). x + i) (f ∙ first_of fanout d e)

-- take_out

pub take_out_met : {fanout j i : ℕ} {dir slots now_slots : List ℕ} (leaf count at v : ℕ) → Takes fanout dir slots j i → leaf ≡ word_leaf (get_or dir j 0) → count ≡ word_count (get_or dir j 0)
    → at ≡ slot_of fanout (get_or dir j 0) i → now_slots ≡ put slots at (part slots (at + 1) (count - (i + 1))) → v ≡ directory_word leaf (count - 1)
    → TakenOut fanout dir slots j i (set dir j v) now_slots
take_out_met {fanout} {j} {i} {dir} {slots} leaf count at v t l c a s w =
    taken_out t (put_one dir j v t.place ∙ ap (λ (x : ℕ). put dir j (x ∷ [])) (w ∙ rw (l, c))) (rw (a, c) at s)

-- shorten_keys

raised_fits : (g w : ℕ) → word_offset w + g < 2 ^ 28 → w + g * (2 ^ 36 - 2 ^ 24) < 2 ^ 64
raised_fits g w h = omega arith

pub words_fit : {fanout : ℕ} {slots : List ℕ} {d g : ℕ} (first count k : ℕ) → Shortens fanout slots d g → first ≡ slot_of fanout d 0 → count ≡ word_count d → k ≡ g * (2 ^ 36 - 2 ^ 24)
    → (j : ℕ) → first ≤ j → j < first + count → get_or slots j 0 + k < 2 ^ 64
words_fit {fanout} {slots} {d} {g} first count k t f c e j h m =
    let a = first_slot fanout (word_leaf d) in
    let x : j - a < word_count d = omega arith in
    let y : a + (j - a) ≡ j = omega arith in
    let n : length (words_at fanout slots d) ≡ word_count d = length-part slots a (word_count d) (omega (arith, t.region.inside, t.region.count_fits)) in
    let w : get_or (words_at fanout slots d) (j - a) 0 ≡ get_or slots j 0 = get_or-part slots a (word_count d) (j - a) 0 x ∙ ap (λ (z : ℕ). get_or slots z 0) y in
    rw e (raised_fits g (get_or slots j 0) (rw w at (all_at (λ v. word_offset v + g < 2 ^ 28) (words_at fanout slots d) (j - a) 0 (rw n x) t.offsets)))

pub shorten_keys_met : {fanout : ℕ} {slots : List ℕ} {d g : ℕ} {now_slots : List ℕ} (first count k : ℕ) → Shortens fanout slots d g → first ≡ slot_of fanout d 0 → count ≡ word_count d
    → k ≡ g * (2 ^ 36 - 2 ^ 24) → now_slots ≡ put slots first (map (λ (x : ℕ). x + k) (part slots first count)) → Shortened fanout slots d g now_slots
shorten_keys_met {fanout} {slots} {d} {g} first count k t f c e s =
    let z : first ≡ first_slot fanout (word_leaf d) = omega arith in
    shortened t (rw (z, c, e) at s)

-- replace_value

pub place_inside : {fanout : ℕ} {slots arena : List ℕ} {d i : ℕ} {value : Bytes} (k : ℕ) (s : Slot) → Replaces fanout slots arena d i value → k ≡ slot_of fanout d i
    → Unpacked (get_or slots k 0) s → s.offset.0 + s.suffix + length value ≤ length arena
place_inside k s t e u = rw (u.offset_is, u.suffix_is, e) t.inside

pub replace_value_met : {fanout : ℕ} {slots arena : List ℕ} {d i : ℕ} {value : Bytes} {now_arena : List ℕ} (k v : ℕ) (s : Slot) → Replaces fanout slots arena d i value → k ≡ slot_of fanout d i
    → Unpacked (get_or slots k 0) s → now_arena ≡ put arena (s.offset.0 + s.suffix) value → v ≡ slot_word s.offset.0 s.suffix (length value)
    → Replaced fanout slots arena d i value (set slots k v) now_arena
replace_value_met {fanout} {slots} {arena} {d} {i} {value} k v s t e u m w =
    replaced t
    (put_one slots k v (omega (arith, e, t.region.inside, t.region.count_fits, t.slot)) ∙ rw (w, u.offset_is, u.suffix_is, e))
    (m ∙ rw (u.offset_is, u.suffix_is, e))

-- write_pair

pub pair_put : (arena : List ℕ) {mid now_arena : List ℕ} (at : ℕ) (suffix value : Bytes) → at + (length suffix + length value) ≤ length arena → mid ≡ put arena at suffix
    → now_arena ≡ put mid (at + length suffix) value → now_arena ≡ put arena at (suffix ++ value)
pair_put arena at suffix value h e f = rw e at f ∙ put-append arena at suffix value (omega arith)

-- open_word

pub word_opened : (slots : List ℕ) {mid : List ℕ} (k n w : ℕ) → k + n + 1 ≤ length slots → mid ≡ put slots (k + 1) (part slots k n) → set mid k w ≡ put slots k (w ∷ part slots k n)
word_opened slots k n w h e =
    ap (λ (l : List ℕ). set l k w) (e ∙ ap (λ (x : ℕ). put slots x (part slots k n)) (add-one k)) ∙ put-cons slots k (part slots k n) w (omega arith)

-- put_in

pub put_in_met : {fanout : ℕ} {dir slots arena : List ℕ} {j i at : ℕ} {suffix value : Bytes} {now_slots now_arena : List ℕ} (leaf count k w v : ℕ)
    → Puts fanout dir slots arena j i at suffix value → leaf ≡ word_leaf (get_or dir j 0) → count ≡ word_count (get_or dir j 0) → k ≡ slot_of fanout (get_or dir j 0) i
    → w ≡ slot_word at (length suffix) (length value) → now_arena ≡ put arena at (suffix ++ value) → now_slots ≡ put slots k (w ∷ part slots k (count - i))
    → v ≡ directory_word leaf (count + 1) → PutIn fanout dir slots arena j i at suffix value (set dir j v) now_slots now_arena
put_in_met {fanout} {dir} {slots} {arena} {j} leaf count k w v t l c a q m s e =
    put_in_is t (put_one dir j v t.place ∙ ap (λ (x : ℕ). put dir j (x ∷ [])) (e ∙ rw (l, c))) (rw (a, c, q) at s) m
