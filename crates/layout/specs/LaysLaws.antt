-- Directory words and the leaf list that they lay out: equal lengths, split and joined at a place, the j-th leaf, the low keys; and L2's
-- prefix lengths: they go by the low keys alone, and leaves ahead of a place see of the rest only its first low key.
-- Assumes nothing.
use Rattle.std.specs.Prelude.{◌<◌, zero, suc, ℕ, map, List, [], ◌++◌, ◌∷◌, ◌≡◌, refl, drop, get_or, length, take}
use Rattle.std.proofs.Math.Option.{Option, some}
use Rattle.std.proofs.Common.{ap, arith}
use Rattle.layout.specs.Buffers.{low_at, Buffers}
use Rattle.layout.specs.Lays.{prefixes_of, LaysEach, LaysLeaf}
use Rattle.model.specs.Leaves.{low_of, prefix_length, Node, with_pairs}
use Rattle.model.specs.Map.{Pair}
use Rattle.order.specs.Bytes.{Bytes}

abbrev pub lows_of : List Node → List Bytes
lows_of ns = map (λ n. n.low) ns

module _ (b : Buffers) where
  -- induction over the three lists at once
  pub each_induct : (P : List ℕ → List ℕ → List Node → Type 0) → P [] [] []
      → ((p d : ℕ) (n : Node) (ps ds : List ℕ) (ns : List Node) → LaysLeaf b p d n → LaysEach b ps ds ns → P ps ds ns → P (p ∷ ps) (d ∷ ds) (n ∷ ns))
      → (ps ds : List ℕ) (ns : List Node) → LaysEach b ps ds ns → P ps ds ns
  each_induct P base step [] [] [] e = base
  each_induct P base step (p ∷ ps) (d ∷ ds) (n ∷ ns) e = step p d n ps ds ns e.0 e.1 (each_induct P base step ps ds ns e.1)
  each_induct P base step [] [] (n ∷ ns) e = absurd e
  each_induct P base step [] (d ∷ ds) ns e = absurd e
  each_induct P base step (p ∷ ps) [] ns e = absurd e
  each_induct P base step (p ∷ ps) (d ∷ ds) [] e = absurd e

  -- lengths

  pub each_words : (ps ds : List ℕ) (ns : List Node) → LaysEach b ps ds ns → length ds ≡ length ns
  each_words = each_induct (λ ps ds ns. length ds ≡ length ns) refl (λ p d n ps ds ns l e h. ap suc h)

  pub each_prefixes : (ps ds : List ℕ) (ns : List Node) → LaysEach b ps ds ns → length ps ≡ length ns
  each_prefixes = each_induct (λ ps ds ns. length ps ≡ length ns) refl (λ p d n ps ds ns l e h. ap suc h)

  -- joined, and split

  pub each_append : (ps qs ds es : List ℕ) (ns ms : List Node) → LaysEach b ps ds ns → LaysEach b qs es ms → LaysEach b (ps ++ qs) (ds ++ es) (ns ++ ms)
  each_append ps qs ds es ns ms e f =
      each_induct (λ ps ds ns. LaysEach b (ps ++ qs) (ds ++ es) (ns ++ ms)) f (λ p d n ps ds ns l e h. (l, h)) ps ds ns e

  pub each_split : (ps qs ds es : List ℕ) (ns ms : List Node) → length ps ≡ length ns → length ds ≡ length ns → LaysEach b (ps ++ qs) (ds ++ es) (ns ++ ms)
      → LaysEach b ps ds ns × LaysEach b qs es ms
  each_split [] qs [] es [] ms h k e = (tt, e)
  each_split (p ∷ ps) qs (d ∷ ds) es (n ∷ ns) ms h k e =
      let s = each_split ps qs ds es ns ms (omega arith) (omega arith) e.1 in
      ((e.0, s.0), s.1)
  each_split [] qs [] es (n ∷ ns) ms h k e = absurd (omega arith)
  each_split [] qs (d ∷ ds) es [] ms h k e = absurd (omega arith)
  each_split [] qs (d ∷ ds) es (n ∷ ns) ms h k e = absurd (omega arith)
  each_split (p ∷ ps) qs [] es [] ms h k e = absurd (omega arith)
  each_split (p ∷ ps) qs [] es (n ∷ ns) ms h k e = absurd (omega arith)
  each_split (p ∷ ps) qs (d ∷ ds) es [] ms h k e = absurd (omega arith)

  pub each_cut : (j : ℕ) (ps ds : List ℕ) (ns : List Node) → LaysEach b ps ds ns
      → LaysEach b (take j ps) (take j ds) (take j ns) × LaysEach b (drop j ps) (drop j ds) (drop j ns)
  each_cut zero ps ds ns e = (tt, e)
  each_cut (suc j) ps ds ns e =
      each_induct (λ ps ds ns. LaysEach b (take (suc j) ps) (take (suc j) ds) (take (suc j) ns) × LaysEach b (drop (suc j) ps) (drop (suc j) ds) (drop (suc j) ns))
      (tt, tt) (λ p d n ps ds ns l e h. let c = each_cut j ps ds ns e in ((l, c.0), c.1)) ps ds ns e

  -- the j-th leaf
  pub each_at : (x : Node) (j : ℕ) (ps ds : List ℕ) (ns : List Node) → j < length ns → LaysEach b ps ds ns → LaysLeaf b (get_or ps j 0) (get_or ds j 0) (get_or ns j x)
  each_at x zero ps ds ns h e =
      each_induct (λ ps ds ns. 0 < length ns → LaysLeaf b (get_or ps 0 0) (get_or ds 0 0) (get_or ns 0 x)) (λ h. absurd (omega arith)) (λ p d n ps ds ns l e r h. l) ps ds ns e h
  each_at x (suc j) ps ds ns h e =
      each_induct (λ ps ds ns. suc j < length ns → LaysLeaf b (get_or ps (suc j) 0) (get_or ds (suc j) 0) (get_or ns (suc j) x)) (λ h. absurd (omega arith))
      (λ p d n ps ds ns l e r h. each_at x j ps ds ns (omega arith) e) ps ds ns e h

  -- the low keys
  pub each_lows : (ps ds : List ℕ) (ns : List Node) → LaysEach b ps ds ns → lows_of ns ≡ map (low_at b) ds
  each_lows = each_induct (λ ps ds ns. lows_of ns ≡ map (low_at b) ds) refl (λ p d n ps ds ns l e h. cc (l.low_is, h))

-- L2's prefix lengths

pub prefixes_length : (ns : List Node) → length (prefixes_of ns) ≡ length ns
prefixes_length [] = refl
prefixes_length (n ∷ ns) = ap suc (prefixes_length ns)

pub prefixes_at : (x : Node) (j : ℕ) (ns : List Node) → j < length ns → get_or (prefixes_of ns) j 0 ≡ prefix_length (get_or ns j x).low (low_of (drop (suc j) ns))
prefixes_at x j [] h = absurd (omega arith)
prefixes_at x zero (n ∷ ns) h = refl
prefixes_at x (suc j) (n ∷ ns) h = prefixes_at x j ns (omega arith)

-- they go by the low keys

pub lows_first : (ns ms : List Node) → lows_of ns ≡ lows_of ms → low_of ns ≡ low_of ms
lows_first [] [] e = refl
lows_first [] (m ∷ ms) e = absurd (let z : ◌≡◌ {A = ℕ} 0 1 = cc in omega arith)
lows_first (n ∷ ns) [] e = absurd (let z : ◌≡◌ {A = ℕ} 0 1 = cc in omega arith)
lows_first (n ∷ ns) (m ∷ ms) e = cc

pub prefixes_same : (ns ms : List Node) → lows_of ns ≡ lows_of ms → prefixes_of ns ≡ prefixes_of ms
prefixes_same [] [] e = refl
prefixes_same [] (m ∷ ms) e = absurd (let z : ◌≡◌ {A = ℕ} 0 1 = cc in omega arith)
prefixes_same (n ∷ ns) [] e = absurd (let z : ◌≡◌ {A = ℕ} 0 1 = cc in omega arith)
prefixes_same (n ∷ ns) (m ∷ ms) e =
    let r : lows_of ns ≡ lows_of ms = cc in
    let l : n.low ≡ m.low = cc in
    cc (lows_first ns ms r, prefixes_same ns ms r)

-- another list of pairs in one leaf
module _ (x : Node) where
  lows_kept : (ns : List Node) (j : ℕ) (m : List Pair) → j < length ns → lows_of (take j ns ++ (with_pairs (get_or ns j x) m ∷ drop (suc j) ns)) ≡ lows_of ns
  lows_kept [] j m h = absurd (omega arith)
  lows_kept (n ∷ ns) zero m h = refl
  lows_kept (n ∷ ns) (suc j) m h = ap (λ (l : List Bytes). n.low ∷ l) (lows_kept ns j m (omega arith))

  pub prefixes_kept : (ns : List Node) (j : ℕ) (m : List Pair) → j < length ns → prefixes_of (take j ns ++ (with_pairs (get_or ns j x) m ∷ drop (suc j) ns)) ≡ prefixes_of ns
  prefixes_kept ns j m h = prefixes_same (take j ns ++ (with_pairs (get_or ns j x) m ∷ drop (suc j) ns)) ns (lows_kept ns j m h)

-- of leaves with an upper key
abbrev pub prefixes_to : List Node → Option Bytes → List ℕ
prefixes_to [] u = []
prefixes_to (n ∷ []) u = prefix_length n.low u ∷ []
prefixes_to (n ∷ m ∷ ns) u = prefix_length n.low (some m.low) ∷ prefixes_to (m ∷ ns) u

pub prefixes_append : (ns ms : List Node) → prefixes_of (ns ++ ms) ≡ prefixes_to ns (low_of ms) ++ prefixes_of ms
prefixes_append [] ms = refl
prefixes_append (n ∷ []) ms = refl
prefixes_append (n ∷ m ∷ ns) ms = rw (prefixes_append (m ∷ ns) ms)

pub prefixes_to_length : (ns : List Node) (u : Option Bytes) → length (prefixes_to ns u) ≡ length ns
prefixes_to_length [] u = refl
prefixes_to_length (n ∷ []) u = refl
prefixes_to_length (n ∷ m ∷ ns) u = ap suc (prefixes_to_length (m ∷ ns) u)
