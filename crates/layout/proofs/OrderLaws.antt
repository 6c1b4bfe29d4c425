-- Parts in order: they are inside, none overlaps another, their bytes add up to no more than the room; parts put in, taken out and changed
-- between two neighbours; and a write into a gap leaves the bytes of every part alone.
-- Assumes nothing.
use Rattle.std.specs.Prelude.{◌+◌, ◌≤◌, ℕ, List, [], ◌++◌, ◌∷◌, ◌≡◌, length}
use Rattle.std.proofs.Common.{arith}
use Rattle.layout.specs.Order.{Extent, InOrder, end_of, total, Apart}
use Rattle.lists.specs.All.{All, all_append, all_mono}
use Rattle.lists.specs.Part.{part, put}
use Rattle.lists.proofs.PartLaws.{part-put_after, part-put_before}

pub order_total : (a : ℕ) (es : List Extent) (top : ℕ) → InOrder a es top → a + total es ≤ top
order_total a [] top h = omega arith
order_total a (e ∷ es) top h = omega (arith, order_total (e.at + e.size) es top h.1)

pub order_top : (a : ℕ) (es : List Extent) (top : ℕ) → InOrder a es top → a ≤ top
order_top a es top h = omega (arith, order_total a es top h)

-- a lower bottom, a higher top

pub order_widen : (a b : ℕ) (es : List Extent) (top : ℕ) (higher : ℕ) → b ≤ a → top ≤ higher → InOrder a es top → InOrder b es higher
order_widen a b [] top higher l h o = omega arith
order_widen a b (e ∷ es) top higher l h o = (omega arith, order_widen (e.at + e.size) (e.at + e.size) es top higher (omega arith) h o.1)

-- two lists of parts, one after the other

pub order_append : (a : ℕ) (l r : List Extent) (x top : ℕ) → InOrder a l x → InOrder x r top → InOrder a (l ++ r) top
order_append a [] r x top h k = order_widen x a r top top h (omega arith) k
order_append a (e ∷ l) r x top h k = (h.0, order_append (e.at + e.size) l r x top h.1 k)

pub order_left : (a : ℕ) (l r : List Extent) (top : ℕ) → InOrder a (l ++ r) top → InOrder a l (end_of a l)
order_left a [] r top h = omega arith
order_left a (e ∷ l) r top h = (h.0, order_left (e.at + e.size) l r top h.1)

pub order_right : (a : ℕ) (l r : List Extent) (top : ℕ) → InOrder a (l ++ r) top → InOrder (end_of a l) r top
order_right a [] r top h = h
order_right a (e ∷ l) r top h = order_right (e.at + e.size) l r top h.1

pub order_end : (a : ℕ) (es : List Extent) (top : ℕ) → InOrder a es top → end_of a es ≤ top
order_end a [] top h = h
order_end a (e ∷ es) top h = order_end (e.at + e.size) es top h.1

-- inside

pub order_before : (a : ℕ) (es : List Extent) (top : ℕ) → InOrder a es top → All (λ e. e.at + e.size ≤ top) es
order_before a [] top h = tt
order_before a (e ∷ es) top h = (order_top (e.at + e.size) es top h.1, order_before (e.at + e.size) es top h.1)

pub order_after : (a : ℕ) (es : List Extent) (top : ℕ) → InOrder a es top → All (λ e. a ≤ e.at) es
order_after a [] top h = tt
order_after a (e ∷ es) top h = (h.0, all_mono es (λ q k. omega (arith, k, h.0)) (order_after (e.at + e.size) es top h.1))

pub order_apart : (a : ℕ) (es : List Extent) (top : ℕ) → InOrder a es top → Apart es
order_apart a [] top h = tt
order_apart a (e ∷ es) top h = (order_after (e.at + e.size) es top h.1, order_apart (e.at + e.size) es top h.1)

-- a part put into a gap, and parts taken out

pub order_insert : (a : ℕ) (l r : List Extent) (e : Extent) (top : ℕ) → InOrder a l e.at → InOrder (e.at + e.size) r top → InOrder a (l ++ (e ∷ r)) top
order_insert a l r e top h k = order_append a l (e ∷ r) e.at top h (omega arith, k)

pub order_remove : (a : ℕ) (l m r : List Extent) (top : ℕ) → InOrder a (l ++ (m ++ r)) top → InOrder a (l ++ r) top
order_remove a l m r top h =
    let u = order_right a l (m ++ r) top h in
    order_append a l r (end_of a l) top (order_left a l (m ++ r) top h)
    (order_widen (end_of (end_of a l) m) (end_of a l) r top top (order_top (end_of a l) m (end_of (end_of a l) m) (order_left (end_of a l) m r top u)) (omega arith) (order_right (end_of a l) m r top u))

-- a write into a gap, at x, after the parts l and before the parts r
pub gap_frame : (arena : List ℕ) (x : ℕ) (bytes : List ℕ) (l r : List Extent) (top : ℕ) → InOrder 0 l x → InOrder (x + length bytes) r top → top ≤ length arena
    → All (λ e. part (put arena x bytes) e.at e.size ≡ part arena e.at e.size) (l ++ r)
gap_frame arena x bytes l r top h k t =
    let b : x + length bytes ≤ length arena = omega (arith, order_top (x + length bytes) r top k) in
    all_append (λ e. part (put arena x bytes) e.at e.size ≡ part arena e.at e.size) l r
    (all_mono l (λ e q. part-put_before arena x bytes e.at e.size (omega arith) q) (order_before 0 l x h))
    (all_mono r (λ e q. part-put_after arena x bytes e.at e.size (omega arith) q) (order_after (x + length bytes) r top k))
