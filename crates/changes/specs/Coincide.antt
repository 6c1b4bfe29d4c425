-- How tight the contract of a changing call is: any two outcomes allowed for one input coincide. Answers, headers, outputs and lent lengths are
-- equal; of the used words all is equal but where a part lies in the arena, and so are the bytes of each part; a refused call leaves every
-- lent byte the same.
-- Assumes nothing.
use Rattle.std.specs.Prelude.{◌+◌, ◌<◌, suc, ℕ, List, [], ◌++◌, ◌≡◌, refl, drop, get_or, take, Err, Ok}
use Rattle.std.proofs.Math.Option.{Option, none, some}
use Rattle.std.proofs.Common.{◌∙◌, subst, arith, drop_at, Result}
use Rattle.std.proofs.Common as rust
use Rattle.std.proofs.Math.Path.{ap, ap₂, sym}
use Rattle.std.proofs.Math.ListN.{length}
use Rattle.changes.specs.Outcomes.{ChangedBy, Lent, Made, old_told}
use Rattle.changes.specs.declared.Changed.{Changed}
use Rattle.layout.specs.Buffers.{low_at, low_word, pair_at, slot_words, suffix_at, value_at, value_place}
use Rattle.layout.specs.Lays.{Holds, LaysLeaf, buffers}
use Rattle.layout.specs.LaysParts.{WordInside}
use Rattle.layout.proofs.LaysParts.{suffix-length, value_length}
use Rattle.layout.proofs.LaysWords.{holds_at, holds_inside, leaf_slots, pair_at_lem, slot_at}
use Rattle.layout.specs.declared.Header.{Header}
use Rattle.lists.specs.All.{all_at}
use Rattle.lists.specs.Part.{part}
use Rattle.lists.proofs.PartLaws.{part-add}
use Rattle.model.specs.Answers.{Answer, accepted, refused}
use Rattle.model.specs.Answers as model
use Rattle.model.specs.Leaves.{Node, low_of, node, prefix_length}
use Rattle.model.specs.Map.{Pair, pair}
use Rattle.model.specs.declared.Refusal.{Refusal}
use Rattle.order.specs.Bytes.{Bytes}
use Rattle.words.specs.Words.{first_slot, low_key_slot, word_count, word_leaf, word_offset, word_suffix, word_value}

-- two slot words, or two low-key words, each in its arena: the same but for the offset, and the same bytes
pub record SamePart (arena : List ℕ) (w : ℕ) (arena' : List ℕ) (w' : ℕ) : Type 0 where
  pub suffixes : word_suffix w ≡ word_suffix w'
  pub values : word_value w ≡ word_value w'
  pub bytes : part arena (word_offset w) (word_suffix w + word_value w) ≡ part arena' (word_offset w') (word_suffix w' + word_value w')

-- the low-key word and the i-th slot word of the leaf at the directory's place j

abbrev pub low_of_leaf : (fanout : ℕ) → Lent → (j : ℕ) → ℕ
low_of_leaf fanout l j = get_or l.slots (low_key_slot fanout (word_leaf (get_or l.dir j 0))) 0

abbrev pub slot_of_leaf : (fanout : ℕ) → Lent → (j i : ℕ) → ℕ
slot_of_leaf fanout l j i = get_or l.slots (first_slot fanout (word_leaf (get_or l.dir j 0)) + i) 0

-- that leaf's words: the directory word whole, its other words but for the offsets
pub record SameLeaf (fanout : ℕ) (l m : Lent) (j : ℕ) : Type 0 where
  pub words : get_or l.dir j 0 ≡ get_or m.dir j 0
  pub lows : SamePart l.arena (low_of_leaf fanout l j) m.arena (low_of_leaf fanout m j)
  pub slots : (i : ℕ) → i < word_count (get_or l.dir j 0) → SamePart l.arena (slot_of_leaf fanout l j i) m.arena (slot_of_leaf fanout m j i)

-- two outcomes with what they leave; refused, every lent byte is the same
pub record Same (r : Changed) (l : Lent) (q : Changed) (m : Lent) : Type 0 where
  pub answers : r.old ≡ q.old
  pub headers : r.header ≡ q.header
  pub outs : l.out ≡ m.out
  pub dir_lengths : length l.dir ≡ length m.dir
  pub slot_lengths : length l.slots ≡ length m.slots
  pub arena_lengths : length l.arena ≡ length m.arena
  pub leaves : (j : ℕ) → j < r.header.leaves → SameLeaf r.header.fanout l m j
  pub kept : (x : Refusal) → r.old ≡ Err x → l ≡ m

-- one part in two arenas

append_same : (p a b : Bytes) → p ++ a ≡ p ++ b → a ≡ b
append_same p a b e = sym (drop_at p a (length p) refl) ∙ ap (drop (length p)) e ∙ drop_at p b (length p) refl

module _ (arena : List ℕ) (w : ℕ) (arena' : List ℕ) (w' : ℕ) (i : WordInside arena w) (i' : WordInside arena' w') where
  part_same : suffix_at arena w ≡ suffix_at arena' w' → value_at arena w ≡ value_at arena' w' → SamePart arena w arena' w'
  unfolding suffix_at value_at
  part_same e f = record {
    suffixes = sym (suffix-length arena w i) ∙ ap length e ∙ suffix-length arena' w' i';
    values = sym (value_length arena w i) ∙ ap length f ∙ value_length arena' w' i';
    bytes = part-add arena (word_offset w) (word_suffix w) (word_value w) ∙ ap₂ (λ (a b : Bytes). a ++ b) e f ∙ sym (part-add arena' (word_offset w') (word_suffix w') (word_value w'));
  }

  low_part_same : suffix_at arena w ≡ suffix_at arena' w' → word_value w ≡ 0 → word_value w' ≡ 0 → SamePart arena w arena' w'
  unfolding value_at
  low_part_same e n n' = part_same e (ap (λ (k : ℕ). part arena (value_place w) k) n ∙ sym (ap (λ (k : ℕ). part arena' (value_place w') k) n'))

  pair_part_same : (p : Bytes) → pair_at arena p w ≡ pair_at arena' p w' → SamePart arena w arena' w'
  unfolding pair_at
  pair_part_same p e =
      part_same (append_same p (suffix_at arena w) (suffix_at arena' w') (ap (λ (x : Pair). x.key) e)) (ap (λ (x : Pair). x.value) e)

-- one leaf list in two sets of buffers

module _ {h : Header} (l m : Lent) {ns : List Node} (x : Holds h l.dir l.slots l.arena ns) (y : Holds h m.dir m.slots m.arena ns) (j : ℕ) (s : j < length ns) where
  abbrev n : Node
  n = get_or ns j (node 0 [] [])

  abbrev p : ℕ
  p = prefix_length n.low (low_of (drop (suc j) ns))

  abbrev d : ℕ
  d = get_or l.dir j 0

  abbrev e : ℕ
  e = get_or m.dir j 0

  laid : LaysLeaf (buffers h l.slots l.arena) p d n
  laid = holds_at x (node 0 [] []) j s

  laid' : LaysLeaf (buffers h m.slots m.arena) p e n
  laid' = holds_at y (node 0 [] []) j s

  low_same : SamePart l.arena (low_of_leaf h.fanout l j) m.arena (low_of_leaf h.fanout m j)
  unfolding low_at low_word
  low_same =
      low_part_same l.arena _ m.arena _ (holds_inside x j s).0 (holds_inside y j s).0
      (laid.low_is ∙ sym laid'.low_is) laid.no_value laid'.no_value

  slot_same : (i : ℕ) → i < word_count d → i < word_count e → SamePart l.arena (slot_of_leaf h.fanout l j i) m.arena (slot_of_leaf h.fanout m j i)
  slot_same i c c' =
      let z = pair [] [] in
      let u = rw (slot_at (buffers h l.slots l.arena) d i c) at (all_at (WordInside l.arena) (slot_words (buffers h l.slots l.arena) d) i 0
      (omega (arith, c, laid.count_is, leaf_slots (buffers h l.slots l.arena) p d n laid)) (holds_inside x j s).1) in
      let u' = rw (slot_at (buffers h m.slots m.arena) e i c') at (all_at (WordInside m.arena) (slot_words (buffers h m.slots m.arena) e) i 0
      (omega (arith, c', laid'.count_is, leaf_slots (buffers h m.slots m.arena) p e n laid')) (holds_inside y j s).1) in
      pair_part_same l.arena _ m.arena _ u u' (take p n.low)
      (sym (pair_at_lem (buffers h l.slots l.arena) p d n z i laid (omega (arith, c, laid.count_is)))
      ∙ pair_at_lem (buffers h m.slots m.arena) p e n z i laid' (omega (arith, c', laid'.count_is)))

  pub leaf_same : SameLeaf h.fanout l m j
  leaf_same = record {
    words = omega (arith, laid.number_is, laid.count_is, laid'.number_is, laid'.count_is);
    lows = low_same;
    slots = λ i c. slot_same i c (omega (arith, c, laid.count_is, laid'.count_is));
  }

-- the theorem

header_path : (r q : Header) → r.fanout ≡ q.fanout → r.leaves ≡ q.leaves → r.pairs ≡ q.pairs → r.charge ≡ q.charge → r ≡ q
header_path r q f l p c = λ i. record { fanout = f i; leaves = l i; pairs = p i; charge = c i }

lent_path : (l m : Lent) → l.dir ≡ m.dir → l.slots ≡ m.slots → l.arena ≡ m.arena → l.out ≡ m.out → l ≡ m
lent_path l m d s a o = λ i. record { dir = d i; slots = s i; arena = a i; out = o i }

own_leaf : (fanout : ℕ) (l : Lent) (j : ℕ) → SameLeaf fanout l l j
own_leaf fanout l j = record {
  words = refl;
  lows = record { suffixes = refl; values = refl; bytes = refl };
  slots = λ i c. record { suffixes = refl; values = refl; bytes = refl };
}

abbrev refused_as : Result (rust.Option ℕ) Refusal → ℕ
refused_as (Ok o) = 0
refused_as (Err x) = 1

told_not_refused : (o : Option Bytes) (x : Refusal) → old_told o ≡ Err x → ⊥
told_not_refused o x e = let z : refused_as (old_told o) ≡ 1 = ap refused_as e in go o z
  where
    go : (o : Option Bytes) → refused_as (old_told o) ≡ 1 → ⊥
    go none z = omega (arith, z)
    go (some v) z = omega (arith, z)

made_same : {c : model.Changed} {h : Header} {before : Lent} {r : Changed} {l : Lent} {q : Changed} {m : Lent}
    → Made c h before r l → Made c h before q m → Same r l q m
made_same {c} {h} {before} {r} {l} {q} {m} a b =
    let e = header_path r.header q.header (a.fanout_is ∙ sym b.fanout_is) (a.holds.leaves_are ∙ sym b.holds.leaves_are)
    (a.holds.pairs_are ∙ sym b.holds.pairs_are) (a.holds.charge_is ∙ sym b.holds.charge_is) in
    record {
      answers = a.answer.answer_is ∙ sym b.answer.answer_is;
      headers = e;
      outs = a.out_is ∙ sym b.out_is;
      dir_lengths = a.same_dir ∙ sym b.same_dir;
      slot_lengths = a.same_slots ∙ sym b.same_slots;
      arena_lengths = a.same_arena ∙ sym b.same_arena;
      leaves = λ j s. leaf_same l m a.holds (subst (λ (g : Header). Holds g m.dir m.slots m.arena c.nodes) (sym e) b.holds) j (omega (arith, s, a.holds.leaves_are));
      kept = λ x f. absurd (told_not_refused c.old x (sym a.answer.answer_is ∙ f));
    }

pub changed_coincides : (a : Answer model.Changed) (h : Header) (before : Lent) {r : Changed} {l : Lent} {q : Changed} {m : Lent}
    → ChangedBy a h before r l → ChangedBy a h before q m → Same r l q m
changed_coincides (accepted c) h before a b = made_same a b
changed_coincides (refused x) h before {r} {l} {q} {m} a b =
    let e = lent_path l m (a.dir_is ∙ sym b.dir_is) (a.slots_are ∙ sym b.slots_are) (a.arena_is ∙ sym b.arena_is) (a.out_is ∙ sym b.out_is) in
    record {
      answers = a.answer.answer_is ∙ sym b.answer.answer_is;
      headers = a.header_is ∙ sym b.header_is;
      outs = ap (λ (z : Lent). z.out) e;
      dir_lengths = ap (λ (z : Lent). length z.dir) e;
      slot_lengths = ap (λ (z : Lent). length z.slots) e;
      arena_lengths = ap (λ (z : Lent). length z.arena) e;
      leaves = λ j s. subst (λ (z : Lent). SameLeaf r.header.fanout l z j) e (own_leaf r.header.fanout l j);
      kept = λ y f. e;
    }
