-- The words of one leaf edited: what that does to the leaf list laid out, all other leaves as they were. One law for every such edit, then its
-- forms for a write into the leaf's slot words.
-- Assumes nothing.
use Rattle.std.specs.Prelude.{◌<◌, suc, zero, ℕ, ◌+◌, ◌≤◌, [], List, ◌++◌, ◌∷◌, map, refl, ◌≡◌, get_or, drop, length, take}
use Rattle.std.proofs.Common.{append-nil, ap, sym, ◌∙◌, add-zero, arith, length-append, length-take}
use Rattle.std.proofs.lemmas.List.{map-append, length-map}
use Rattle.layout.proofs.AroundLaws.{words_cut}
use Rattle.layout.specs.Around.{words_before, LaysAround}
use Rattle.layout.specs.Buffers.{Buffers, low_at, low_word, pair_at, slot_words, suffix_at}
use Rattle.layout.proofs.FrameLaws.{all_of, same_pairs, same_leaves, same_suffix, same_each, same_words}
use Rattle.layout.specs.Frames.{first_of, SameBytes, SameLeaf, WordsIn, rewritten}
use Rattle.layout.specs.Lays.{LaysLeaf}
use Rattle.layout.specs.Order.{words_of}
use Rattle.layout.proofs.RegionLaws.{region_ahead, region_behind, region_low, region_words}
use Rattle.layout.specs.Regions.{Owns}
use Rattle.lists.specs.All.{all_left, all_right, All}
use Rattle.lists.specs.Map.{get_or-map_lt}
use Rattle.lists.specs.Part.{put}
use Rattle.model.specs.Leaves.{Node, with_pairs}
use Rattle.model.specs.Map.{Pair}
use Rattle.words.specs.Words.{word_count, word_leaf, word_value}

pub edit_leaf : {b c : Buffers} {fs : List ℕ} {d : ℕ} {bs qs : List ℕ} {p : ℕ} {rs : List ℕ} {l : List Node} {n : Node} {r : List Node}
    (e q w : ℕ) (ws : List ℕ) (m : List Pair) → LaysAround b fs d bs qs p rs l n r → All (SameLeaf b c) fs → All (SameLeaf b c) bs → word_leaf e ≡ word_leaf d
    → low_word c e ≡ w → suffix_at c.arena w ≡ n.low → word_value w ≡ 0
    → slot_words c e ≡ ws → map (pair_at c.arena (take q n.low)) ws ≡ m → word_count e ≡ length m
    → WordsIn 0 (words_of b fs ++ (w ∷ (ws ++ words_of b bs))) (length c.arena)
    → LaysAround c fs e bs qs q rs l (with_pairs n m) r
unfolding low_at
edit_leaf {b} {c} {fs} {d} {bs} {qs} {p} {rs} {l} {n} {r} e q w ws m h sa sb i lw low nv sw pairs count o =
    record {
      ahead = same_each b c qs fs l sa h.ahead;
      here = record { number_is = i ∙ h.here.number_is; count_is = count; low_is = rw lw low; no_value = rw lw nv; pairs_are = rw sw pairs };
      behind = same_each b c rs bs r sb h.behind;
      ordered = rw (lw, sw, same_words b c fs sa, same_words b c bs sb) o;
    }

-- only the words of the leaf d edited, from the j-th on; bytes written that none of the other parts holds
pub edit_words : {b : Buffers} {fs : List ℕ} {d : ℕ} {bs qs : List ℕ} {p : ℕ} {rs : List ℕ} {l : List Node} {n : Node} {r : List Node}
    (slots arena : List ℕ) (j : ℕ) (s : List ℕ) (e q : ℕ) (ws : List ℕ) (m : List Pair) → LaysAround b fs d bs qs p rs l n r → Owns b fs d bs
    → slots ≡ put b.slots (first_of b d + j) s → j + length s < b.fanout
    → All (SameBytes b.arena arena) (words_of b fs) → SameBytes b.arena arena (low_word b d) → All (SameBytes b.arena arena) (words_of b bs)
    → word_leaf e ≡ word_leaf d → word_count e ≡ length m
    → slot_words (rewritten b slots arena) e ≡ ws → map (pair_at arena (take q n.low)) ws ≡ m
    → WordsIn 0 (words_of b fs ++ (low_word b d ∷ (ws ++ words_of b bs))) (length arena)
    → LaysAround (rewritten b slots arena) fs e bs qs q rs l (with_pairs n m) r
unfolding low_at
edit_words {b} {fs} {d} {bs} {qs} {p} {rs} {l} {n} {r} slots arena j s e q ws m h o is fits ba bl bb i count sw pairs ord =
    let c = rewritten b slots arena in
    edit_leaf e q (low_word b d) ws m h
    (same_leaves b c fs (region_ahead o slots arena j s is (omega arith)) ba)
    (same_leaves b c bs (region_behind o slots arena j s is (omega arith)) bb) i
    (region_low o slots arena j s is e fits i)
    (same_suffix b.arena arena (low_word b d) bl ∙ h.here.low_is) h.here.no_value sw pairs count ord

pub words_long : {b : Buffers} {p d : ℕ} {n : Node} → LaysLeaf b p d n → length (slot_words b d) ≡ word_count d
words_long {b} {p} {d} {n} h = sym (length-map (slot_words b d) (pair_at b.arena (take p n.low))) ∙ ap length h.pairs_are ∙ sym h.count_is

-- the pair of the j-th slot word
pub pair_here : {b : Buffers} {p d : ℕ} {n : Node} → LaysLeaf b p d n → (x : Pair) (j : ℕ) → j < word_count d
    → get_or n.pairs j x ≡ pair_at b.arena (take p n.low) (get_or (slot_words b d) j 0)
pair_here {b} {p} {d} {n} h x j k =
    ap (λ (m : List Pair). get_or m j x) (sym h.pairs_are) ∙ get_or-map_lt (pair_at b.arena (take p n.low)) (slot_words b d) j 0 x (omega (arith, words_long h))

module _ {A B : Type 0} (f : A → B) where
  pub map-take : (j : ℕ) (l : List A) → map f (take j l) ≡ take j (map f l)
  map-take zero l = refl
  map-take (suc j) [] = refl
  map-take (suc j) (x ∷ l) = rw (map-take j l)

  pub map-drop : (j : ℕ) (l : List A) → map f (drop j l) ≡ drop j (map f l)
  map-drop zero l = refl
  map-drop (suc j) [] = refl
  map-drop (suc j) (x ∷ l) = map-drop j l

-- the slot words from the j-th on become us, the others and their bytes stay
pub edit_tail : {b : Buffers} {fs : List ℕ} {d : ℕ} {bs qs : List ℕ} {p : ℕ} {rs : List ℕ} {l : List Node} {n : Node} {r : List Node}
    (slots arena : List ℕ) (j : ℕ) (s : List ℕ) (e : ℕ) (us : List ℕ) (ms : List Pair) → LaysAround b fs d bs qs p rs l n r → Owns b fs d bs
    → slots ≡ put b.slots (first_of b d + j) s → j + length s < b.fanout → j ≤ word_count d
    → All (SameBytes b.arena arena) (words_before b fs d j) → All (SameBytes b.arena arena) (words_of b bs)
    → word_leaf e ≡ word_leaf d → word_count e ≡ j + length us
    → slot_words (rewritten b slots arena) e ≡ take j (slot_words b d) ++ us → map (pair_at arena (take p n.low)) us ≡ ms
    → WordsIn 0 (words_before b fs d j ++ (us ++ words_of b bs)) (length arena)
    → LaysAround (rewritten b slots arena) fs e bs qs p rs l (with_pairs n (take j n.pairs ++ ms)) r
edit_tail {b} {fs} {d} {bs} {qs} {p} {rs} {l} {n} {r} slots arena j s e us ms h o is fits few kb kr i count sw pairs ord =
    let ws = slot_words b d in
    let g = pair_at arena (take p n.low) in
    let kl : All (SameBytes b.arena arena) (low_word b d ∷ take j ws) = all_right (SameBytes b.arena arena) (words_of b fs) (low_word b d ∷ take j ws) kb in
    let front : map g (take j ws) ≡ take j n.pairs =
    same_pairs b.arena arena (take p n.low) (take j ws) kl.1 ∙ map-take (pair_at b.arena (take p n.low)) j ws ∙ ap (take j) h.here.pairs_are in
    let long : length ms ≡ length us = ap length (sym pairs) ∙ length-map us g in
    edit_words slots arena j s e p (take j ws ++ us) (take j n.pairs ++ ms) h o is fits
    (all_left (SameBytes b.arena arena) (words_of b fs) (low_word b d ∷ take j ws) kb) kl.0 kr i
    (simp (length-append, length-take) (omega (arith, h.here.count_is))) sw
    (rw (map-append g (take j ws) us, front, pairs)) (rw (words_cut (words_of b fs) (low_word b d) (take j ws) us (words_of b bs)) ord)

-- all slot words become ws, under any prefix length q; no bytes written
pub edit_all : {b : Buffers} {fs : List ℕ} {d : ℕ} {bs qs : List ℕ} {p : ℕ} {rs : List ℕ} {l : List Node} {n : Node} {r : List Node}
    (slots : List ℕ) (e q : ℕ) (ws : List ℕ) (m : List Pair) → LaysAround b fs d bs qs p rs l n r → Owns b fs d bs
    → slots ≡ put b.slots (first_of b d) ws → length ws < b.fanout → word_leaf e ≡ word_leaf d → word_count e ≡ length ws
    → map (pair_at b.arena (take q n.low)) ws ≡ m → WordsIn 0 (words_of b fs ++ (low_word b d ∷ (ws ++ words_of b bs))) (length b.arena)
    → LaysAround (rewritten b slots b.arena) fs e bs qs q rs l (with_pairs n m) r
edit_all {b} {fs} {d} {bs} {qs} {p} {rs} {l} {n} {r} slots e q ws m h o is fits i count pairs ord =
    let g = pair_at b.arena (take q n.low) in
    let start : slots ≡ put b.slots (first_of b d + 0) ws = rw add-zero is in
    edit_words slots b.arena 0 ws e q ws m h o start (omega arith) (all_of (λ v. refl) (words_of b fs)) refl (all_of (λ v. refl) (words_of b bs)) i
    (count ∙ sym (length-map ws g) ∙ ap length pairs)
    (region_words o slots b.arena 0 ws start e 0 i (omega arith) (omega arith) ∙ append-nil ws) pairs ord
