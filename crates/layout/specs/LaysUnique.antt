-- Buffers lay out one leaf list at most: words and bytes settle it, and with the header what `Holds` and W speak of. And "every used leaf
-- once in the directory" of document 01's W: rising low keys give different numbers, for a number settles the low-key word.
-- Assumes nothing.
use Rattle.std.specs.Prelude.{ℕ, List, [], ◌∷◌, ◌≡◌, refl, length, take}
use Rattle.std.proofs.Common.{◌∙◌, sym}
use Rattle.layout.specs.Buffers.{Buffers, low_at, low_word}
use Rattle.layout.specs.Lays.{Holds, LaysEach, LaysLeaf, W, buffers, prefixes_of}
use Rattle.layout.specs.LaysLaws.{each_induct, each_lows, prefixes_same}
use Rattle.layout.specs.declared.Header.{Header}
use Rattle.lists.specs.All.{All, all_both, all_mono}
use Rattle.model.specs.Good.{Bounds, Distinct, Tiled}
use Rattle.model.specs.Leaves.{Node}
use Rattle.order.specs.Bytes.{◌≺◌}
use Rattle.order.specs.OrderLaws.{below_irrefl, below_trans}
use Rattle.words.specs.Words.{word_leaf}

node_path : (n m : Node) → n.number ≡ m.number → n.low ≡ m.low → n.pairs ≡ m.pairs → n ≡ m
node_path n m i l p = λ x. record { number = i x; low = l x; pairs = p x }

leaf_unique : (b : Buffers) (p d : ℕ) (n m : Node) → LaysLeaf b p d n → LaysLeaf b p d m → n ≡ m
leaf_unique b p d n m x y =
    let l : n.low ≡ m.low = cc in
    node_path n m (cc) l (sym x.pairs_are ∙ rw l y.pairs_are)

module _ (b : Buffers) where
  each_unique : (ps ds : List ℕ) (ns ms : List Node) → LaysEach b ps ds ns → LaysEach b ps ds ms → ns ≡ ms
  each_unique [] [] [] [] e f = refl
  each_unique (p ∷ ps) (d ∷ ds) (n ∷ ns) (m ∷ ms) e f = cc (leaf_unique b p d n m e.0 f.0, each_unique ps ds ns ms e.1 f.1)
  each_unique [] [] (n ∷ ns) ms e f = absurd e
  each_unique [] [] [] (m ∷ ms) e f = absurd f
  each_unique [] (d ∷ ds) ns ms e f = absurd e
  each_unique (p ∷ ps) [] ns ms e f = absurd e
  each_unique (p ∷ ps) (d ∷ ds) [] ms e f = absurd e
  each_unique (p ∷ ps) (d ∷ ds) (n ∷ ns) [] e f = absurd f

  pub lays_unique : (ds : List ℕ) (ns ms : List Node) → LaysEach b (prefixes_of ns) ds ns → LaysEach b (prefixes_of ms) ds ms → ns ≡ ms
  lays_unique ds ns ms e f =
      let s : prefixes_of ns ≡ prefixes_of ms =
      prefixes_same ns ms (each_lows b (prefixes_of ns) ds ns e ∙ sym (each_lows b (prefixes_of ms) ds ms f)) in
      each_unique (prefixes_of ms) ds ns ms (rw s at e) f

pub holds_unique : {h : Header} {dir slots arena : List ℕ} {ns ms : List Node} → Holds h dir slots arena ns → Holds h dir slots arena ms → ns ≡ ms
holds_unique {h} {dir} {slots} {arena} {ns} {ms} x y =
    let s : length ns ≡ length ms = cc in
    lays_unique (buffers h slots arena) (take (length ms) dir) ns ms (rw s at x.lays.leaves) y.lays.leaves

pub w_unique : {h : Header} {dir slots arena : List ℕ} (v w : W h dir slots arena) → v.nodes ≡ w.nodes
w_unique v w = holds_unique v.holds w.holds

-- a leaf's number settles its low key
pub low_by_number : (b : Buffers) (d e : ℕ) → word_leaf d ≡ word_leaf e → low_at b d ≡ low_at b e
unfolding low_at low_word
low_by_number b d e h = rw h

-- low keys rise: each is below all that follow
pub lows_rise : {B : Bounds} (n : Node) (ns : List Node) → Tiled B (n ∷ ns) → All (λ m. n.low ≺ m.low) ns
lows_rise n [] t = tt
lows_rise n (m ∷ ns) t = (t.0.0.low_under, all_mono ns (λ x h. below_trans t.0.0.low_under h) (lows_rise m ns t.1))

module _ (B : Bounds) (b : Buffers) where
  by_number : (d : ℕ) (ps ds : List ℕ) (ns : List Node) → LaysEach b ps ds ns → All (λ m. word_leaf d ≡ m.number → low_at b d ≡ m.low) ns
  by_number d =
      each_induct b (λ ps ds ns. All (λ m. word_leaf d ≡ m.number → low_at b d ≡ m.low) ns) tt
      (λ p e n ps ds ns l x h. (λ q. low_by_number b d e (q ∙ sym l.number_is) ∙ l.low_is, h))

  pub lays_distinct : (ps ds : List ℕ) (ns : List Node) → Tiled B ns → LaysEach b ps ds ns → Distinct ns
  lays_distinct ps ds ns t e =
      each_induct b (λ ps ds ns. Tiled B ns → Distinct ns) (λ t. tt)
      (λ p d n ps ds ns l x h t. (
        all_mono ns (λ m k q. below_irrefl (rw (sym l.low_is ∙ k.1 (l.number_is ∙ q)) at k.0))
            (all_both (λ m. n.low ≺ m.low) (λ m. word_leaf d ≡ m.number → low_at b d ≡ m.low) ns (lows_rise n ns t) (by_number d ps ds ns x)),
        h t.1,
      ))
      ps ds ns e t
