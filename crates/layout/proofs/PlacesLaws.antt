-- The slot word of a key is the one at its place in the leaf that owns it.
-- Assumes nothing.
use Rattle.std.specs.Prelude.{suc, ℕ, ◌≡◌, refl, get_or, length, take}
use mathlib.Core.List.{List, [], ◌++◌, ◌∷◌}
use Rattle.std.proofs.Common.{◌∙◌, ap, sym, arith, get_or-take}
use Rattle.layout.specs.Buffers.{Buffers, slot_words}
use Rattle.layout.specs.Lays.{LaysEach, buffers, prefixes_of}
use Rattle.layout.proofs.LaysWords.{leaf_slots}
use Rattle.layout.specs.Places.{slots_of, word_of}
use Rattle.layout.specs.Presumed.{Presumed}
use Rattle.layout.specs.declared.Header.{Header}
use Rattle.lists.specs.All.{All}
use Rattle.model.specs.Good.{Bounds, Tiled, limits}
use Rattle.model.specs.LeafViews.{on, side, stay}
use Rattle.model.specs.Leaves.{Node, node, owner, pairs_of}
use Rattle.model.specs.Map.{Below, Pair}
use Rattle.model.proofs.OwnerLaws.{owner-within, tiles_first}
use Rattle.model.proofs.PairLaws.{below_next}
use Rattle.model.specs.Place.{Place, at, gap, next, place}
use Rattle.order.specs.Bytes.{Bytes}
use Rattle.order.specs.OrderLaws.{after, before, cmp_after, cmp_before, cmp_equal, equal, tri}

-- a list's place cut off its front

abbrev Is_at : Place → Type 0
Is_at (at i) = Unit {0}
Is_at (gap i) = ⊥

abbrev slot_in : Place → ℕ
slot_in (at i) = i
slot_in (gap i) = i

next_slot : (x : Place) → slot_in (next x) ≡ suc (slot_in x)
next_slot (at i) = refl
next_slot (gap i) = refl

next_at : (x : Place) → Is_at (next x) → Is_at x
next_at (at i) h = tt
next_at (gap i) h = h

word_in : (k : Bytes) (l m : List Pair) (vs ws : List ℕ) → length vs ≡ length l → Is_at (place k l) → word_of k (l ++ m) (vs ++ ws) ≡ get_or vs (slot_in (place k l)) 0
unfolding word_of place
word_in k [] m vs ws e = λ (h : ⊥). absurd h
word_in k (p ∷ l) m [] ws e = λ h. absurd (omega (arith, e))
word_in k (p ∷ l) m (v ∷ vs) ws e =
    elim (tri k p.key) [
      | before b ↦ rw (cmp_before b) (λ (h : Is_at (gap 0)). absurd h)
      | equal q ↦ rw (cmp_equal q) (λ (h : Is_at (at 0)). refl)
      | after a ↦ rw (cmp_after a) (λ (h : Is_at (next (place k l))). word_in k l m vs ws (omega arith) (next_at (place k l) h) ∙ sym (ap (λ (i : ℕ). get_or (v ∷ vs) i 0) (next_slot (place k l))))
    ]

pub word_here : (k : Bytes) (l m : List Pair) (vs ws : List ℕ) (i : ℕ) → length vs ≡ length l → place k l ≡ at i → word_of k (l ++ m) (vs ++ ws) ≡ get_or vs i 0
word_here k l m vs ws i e h = word_in k l m vs ws e (rw h tt) ∙ rw h

pub word_beyond : (k : Bytes) (l m : List Pair) (vs ws : List ℕ) → length vs ≡ length l → All (Below k) l → word_of k (l ++ m) (vs ++ ws) ≡ word_of k m ws
unfolding word_of
word_beyond k [] m [] ws e a = refl
word_beyond k [] m (v ∷ vs) ws e a = absurd (omega arith)
word_beyond k (p ∷ l) m [] ws e a = absurd (omega arith)
word_beyond k (p ∷ l) m (v ∷ vs) ws e a = rw (cmp_after a.0) (word_beyond k l m vs ws (omega arith) a.1)

-- in the leaf list

module _ (B : Bounds) (b : Buffers) (k : Bytes) (i : ℕ) where
  word_owned : (ps ds : List ℕ) (n : Node) (ns : List Node) → LaysEach b ps ds (n ∷ ns) → Tiled B (n ∷ ns)
      → place k (get_or (n ∷ ns) (owner k (n ∷ ns)) (node 0 [] [])).pairs ≡ at i
      → word_of k (pairs_of (n ∷ ns)) (slots_of b ds) ≡ get_or (slot_words b (get_or ds (owner k (n ∷ ns)) 0)) i 0
  unfolding owner
  word_owned [] [] n ns e t = absurd e
  word_owned [] (d ∷ ds) n ns e t = absurd e
  word_owned (p ∷ ps) [] n ns e t = absurd e
  word_owned (p ∷ ps) (d ∷ ds) n [] e t = λ h. word_here k n.pairs [] (slot_words b d) (slots_of b ds) i (leaf_slots b p d n e.0) h
  word_owned (p ∷ ps) (d ∷ ds) n (m ∷ ns) e t =
      elim (side k m ns) [
        | on r u ↦ rw r
            (λ h.
            word_beyond k n.pairs (pairs_of (m ∷ ns)) (slot_words b d) (slots_of b ds) (leaf_slots b p d n e.0) (below_next B k n m ns t u)
            ∙ word_owned ps ds m ns e.1 t.1 h)
        | stay r u ↦ rw r (λ h. word_here k n.pairs (pairs_of (m ∷ ns)) (slot_words b d) (slots_of b ds) i (leaf_slots b p d n e.0) h)
      ]

pub holds_word : {h : Header} {dir slots arena : List ℕ} {ns : List Node} → Presumed h dir slots arena ns → (k : Bytes) (i : ℕ)
    → place k (get_or ns (owner k ns) (node 0 [] [])).pairs ≡ at i
    → word_of k (pairs_of ns) (slots_of (buffers h slots arena) (take (length ns) dir)) ≡ get_or (slot_words (buffers h slots arena) (get_or dir (owner k ns) 0)) i 0
holds_word {h} {dir} {slots} {arena} {ns} x k i =
    tiles_first (λ ms. LaysEach (buffers h slots arena) (prefixes_of ms) (take (length ms) dir) ms → place k (get_or ms (owner k ms) (node 0 [] [])).pairs ≡ at i
    → word_of k (pairs_of ms) (slots_of (buffers h slots arena) (take (length ms) dir)) ≡ get_or (slot_words (buffers h slots arena) (get_or dir (owner k ms) 0)) i 0)
    (λ n ms q t e p.
    word_owned (limits h.fanout) (buffers h slots arena) k i (prefixes_of (n ∷ ms)) (take (length (n ∷ ms)) dir) n ms e t p
    ∙ ap (λ (d : ℕ). get_or (slot_words (buffers h slots arena) d) i 0) (get_or-take (length (n ∷ ms)) dir (owner k (n ∷ ms)) 0 (owner-within k n n ms)))
    ns x.tiles x.holds.lays.leaves
