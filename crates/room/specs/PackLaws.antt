-- From the parts of one leaf to those of all leaves: the turns of the loops over the leaves.
-- Assumes nothing.
use Rattle.std.specs.Prelude.{ℕ, suc, ◌+◌, ◌≤◌, ◌<◌, List, [], ◌∷◌, ◌++◌, ◌≡◌, refl, drop, get_or, length, take}
use Rattle.std.proofs.Common.{append-nil, ◌∙◌, ap, subst, sym, arith, drop_of_length-le, take-append-drop, drop-cons, take-suc, take-take}
use Rattle.std.proofs.Math.Seq.{split_at}
use Rattle.arena.specs.Slides.{lent}
use Rattle.layout.proofs.AroundLaws.{around_at, lays_back}
use Rattle.layout.specs.Buffers.{Buffers}
use Rattle.layout.specs.Frames.{SameWords}
use Rattle.layout.proofs.FrameLaws.{all_of}
use Rattle.layout.specs.Lays.{LaysAt}
use Rattle.layout.specs.LaysLaws.{each_prefixes, each_words}
use Rattle.layout.proofs.LaysParts.{words_append}
use Rattle.layout.specs.Order.{leaf_words, words_of}
use Rattle.layout.specs.Regions.{Owns}
use Rattle.layout.proofs.RegionLaws.{owns_kept}
use Rattle.lists.specs.All.{All, all_take}
use Rattle.model.specs.Leaves.{Node}
use Rattle.words.specs.Words.{word_count}
use Rattle.room.specs.Leaf.{Down, Up}
use Rattle.room.specs.LeafLaws.{all_same_trans, laid_moved, words_same}
use Rattle.room.specs.Pack.{AllDown, AllUp, Repacked, Whole}
use Rattle.room.specs.PartLaws.{parts_long, sizes_append}
use Rattle.room.specs.Parts.{Laid, Moved, Tight, parts_before, sizes}

-- any leaf, where a list has none at a place
no_node : Node
no_node = record { number = 0; low = []; pairs = [] }

nodes_long : {b : Buffers} {ds ps : List ℕ} {ns : List Node} → LaysAt b ds ps ns → length ds ≡ length ns
nodes_long {b} {ds} {ps} {ns} h = each_words b ps ds ns h.leaves

-- a leaf of the list

pub laid_at : {b : Buffers} {ds : List ℕ} → Whole b ds → (j : ℕ) → j < length ds → Laid b (take j ds) (get_or ds j 0) (drop (suc j) ds)
laid_at {b} {ds} w j h =
    record {
      qs = take j w.ps;
      p = get_or w.ps j 0;
      rs = drop (suc j) w.ps;
      l = take j w.ns;
      n = get_or w.ns j no_node;
      r = drop (suc j) w.ns;
      lays = around_at w.lays no_node j (omega (arith, nodes_long w.lays));
      owns = w.owns j h;
    }

words_split : (b : Buffers) (ds : List ℕ) (j : ℕ) → j < length ds → words_of b ds ≡ words_of b (take j ds) ++ (leaf_words b (get_or ds j 0) ++ words_of b (drop (suc j) ds))
words_split b ds j h = ap (words_of b) (split_at ds j 0 h) ∙ words_append b (take j ds) (get_or ds j 0 ∷ drop (suc j) ds)

sizes_split : (b : Buffers) (ds : List ℕ) (j : ℕ) → j < length ds
    → sizes (words_of b ds) ≡ sizes (words_of b (take j ds)) + (sizes (leaf_words b (get_or ds j 0)) + sizes (words_of b (drop (suc j) ds)))
sizes_split b ds j h =
    ap sizes (words_split b ds j h) ∙ sizes_append (words_of b (take j ds)) (leaf_words b (get_or ds j 0) ++ words_of b (drop (suc j) ds))
    ∙ ap (λ (x : ℕ). sizes (words_of b (take j ds)) + x) (sizes_append (leaf_words b (get_or ds j 0)) (words_of b (drop (suc j) ds)))

-- other buffers of the same sizes
pub owns_all : (fanout : ℕ) (slots arena ds now_slots now_arena : List ℕ) → length now_slots ≡ length slots
    → ((j : ℕ) → j < length ds → Owns (lent fanout slots arena) (take j ds) (get_or ds j 0) (drop (suc j) ds))
    → (j : ℕ) → j < length ds → Owns (lent fanout now_slots now_arena) (take j ds) (get_or ds j 0) (drop (suc j) ds)
owns_all fanout slots arena ds now_slots now_arena e o j h = owns_kept now_slots now_arena (get_or ds j 0) (o j h) e refl (o j h).count_fits

-- the whole list after moves

pub whole_repacked : {b c : Buffers} {ds : List ℕ} → Whole b ds → Repacked b c ds → Whole c ds
whole_repacked w r = record { ps = w.ps; ns = w.ns; lays = r.kept w.lays; owns = r.owned }

pub repacked_none : {b : Buffers} {ds : List ℕ} → Whole b ds → Repacked b b ds
repacked_none w = record { kept = λ a. a; owned = w.owns; same_size = refl }

pub repacked_trans : {b c e : Buffers} {ds : List ℕ} → Repacked b c ds → Repacked c e ds → Repacked b e ds
repacked_trans r s = record { kept = λ a. s.kept (r.kept a); owned = s.owned; same_size = s.same_size ∙ r.same_size }

-- moves in one leaf
pub repacked_by : {b c : Buffers} (ds : List ℕ) (j : ℕ) → j < length ds → Moved b c (take j ds) (get_or ds j 0) (drop (suc j) ds)
    → ((i : ℕ) → i < length ds → Owns c (take i ds) (get_or ds i 0) (drop (suc i) ds)) → Repacked b c ds
repacked_by {b} {c} ds j h m o =
    record {
      kept = λ {ps} {ns} a.
          let long = nodes_long a in
          let wide = each_prefixes b ps ds ns a.leaves in
          lays_back ds ps ns no_node j h (omega arith) (omega arith) (m.kept (around_at a no_node j (omega arith)));
      owned = o;
      same_size =
          sizes_split c ds j h
          ∙ sums (ap sizes (words_same b c (take j ds) m.ahead)) m.same_size (ap sizes (words_same b c (drop (suc j) ds) m.behind))
          ∙ sym (sizes_split b ds j h);
    }
  where
    sums : {x y z u v w : ℕ} → x ≡ u → y ≡ v → z ≡ w → x + (y + z) ≡ u + (v + w)
    sums f g h = omega arith

-- down

pub all_down_start : {b : Buffers} {ds : List ℕ} → Whole b ds → AllDown b b ds 0 0
all_down_start {b} {ds} w =
    record { repacked = repacked_none w; rest = all_of (λ d. record { low_word_eq = refl; words = refl }) ds; tight = record { ordered = omega arith; full = refl } }

all_taken : (l : List ℕ) (n : ℕ) → length l ≤ n → take n l ≡ l
all_taken l n h = sym (append-nil (take n l)) ∙ ap (λ (r : List ℕ). take n l ++ r) (sym (drop_of_length-le l {i = n} h)) ∙ take-append-drop n l

pub all_down_step : {b c e : Buffers} (ds : List ℕ) (j : ℕ) {end next : ℕ} → Whole b ds → j < length ds → AllDown b c ds j end
    → Down c e (take j ds) (get_or ds j 0) (drop (suc j) ds) (suc (word_count (get_or ds j 0))) next
    → ((i : ℕ) → i < length ds → Owns e (take i ds) (get_or ds i 0) (drop (suc i) ds)) → AllDown b e ds (suc j) next
all_down_step {b} {c} {e} ds j {end} {next} w h a m o =
    let d = get_or ds j 0 in
    let laid = laid_moved (laid_at (whole_repacked w a.repacked) j h) m.moved in
    let rest : All (SameWords b c) (d ∷ drop (suc j) ds) = rw (drop-cons ds j 0 h) at a.rest in
    let words : parts_before e (take j ds) d (suc (word_count d)) ≡ words_of e (take (suc j) ds) =
    ap (λ (z : List ℕ). words_of e (take j ds) ++ z) (all_taken (leaf_words e d) (suc (word_count d)) (omega (arith, parts_long laid)))
    ∙ ap (λ (z : List ℕ). words_of e (take j ds) ++ z) (sym (append-nil (leaf_words e d)))
    ∙ sym (words_append e (take j ds) (d ∷ [])) ∙ ap (words_of e) (sym (take-suc ds j 0 h)) in
    record {
      repacked = repacked_trans a.repacked (repacked_by ds j h m.moved o);
      rest = all_same_trans b c e (drop (suc j) ds) rest.1 m.moved.behind;
      tight = subst (λ (z : List ℕ). Tight 0 z next) words m.tight;
    }

-- up

pub all_up_start : {b : Buffers} {ds : List ℕ} (j : ℕ) → Whole b ds → length ds ≤ j → AllUp b b ds j (length b.arena)
all_up_start {b} {ds} j w h =
    record {
      repacked = repacked_none w;
      rest = all_of (λ d. record { low_word_eq = refl; words = refl }) (take j ds);
      tight = rw (drop_of_length-le ds {i = j} h) (record { ordered = omega arith; full = omega arith });
    }

pub all_up_step : {b c e : Buffers} (ds : List ℕ) (j : ℕ) {start next : ℕ} → j < length ds → AllUp b c ds (suc j) start
    → Up c e (take j ds) (get_or ds j 0) (drop (suc j) ds) 0 next
    → ((i : ℕ) → i < length ds → Owns e (take i ds) (get_or ds i 0) (drop (suc i) ds)) → AllUp b e ds j next
all_up_step {b} {c} {e} ds j {start} {next} h a m o =
    let d = get_or ds j 0 in
    let rest : All (SameWords b c) (take j ds) = rw (take-take j (suc j) ds (omega arith)) at (all_take (SameWords b c) j (take (suc j) ds) a.rest) in
    record {
      repacked = repacked_trans a.repacked (repacked_by ds j h m.moved o);
      rest = all_same_trans b c e (take j ds) rest m.moved.ahead;
      tight = subst (λ (z : List ℕ). Tight next (words_of e z) (length e.arena)) (sym (drop-cons ds j 0 h)) m.tight;
    }
