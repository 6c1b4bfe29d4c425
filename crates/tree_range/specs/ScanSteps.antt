-- A scan's steps met: what the bounds decide by themselves, the slot from which it begins, the spot, and the pair there against the end.
-- Assumes nothing.
use Rattle.std.specs.Prelude.{◌+◌, ◌-◌, ◌<◌, ◌^◌, ◌≤◌, ℕ, Bool, ◌&&◌, false, true, List, [], ◌++◌, ◌≡◌, refl, ltb, drop, length, take, Ok, Err}
use Rattle.std.specs.declared.cmp.Ordering.{Ordering}
use Rattle.std.proofs.Math.Bool.{and-false}
use Rattle.std.proofs.Common.{◌∙◌, ap, sym, arith, Result}
use Rattle.layout.specs.Pieces.{Pieces}
use Rattle.layout.specs.Presumed.{Presumed}
use Rattle.layout.specs.declared.Header.{Header}
use Rattle.leaf.specs.Finds.{find_told}
use Rattle.leaf.specs.declared.Leaf.{Leaf}
use Rattle.lists.specs.Exact.{Exact, exact_ltb, exact_same}
use Rattle.lists.specs.Part.{part}
use Rattle.model.specs.Answers.{both_keyed, inverted, long_bound}
use Rattle.model.specs.Leaves.{Node, owner, pairs_of}
use Rattle.model.specs.Limits.{key_limit}
use Rattle.model.specs.Map.{Pair, before_end, by, pair}
use Rattle.model.specs.Place.{LookupBy, Place, lookup_by, place}
use Rattle.model.specs.Place.Place.{at, gap}
use Rattle.model.specs.Scans.{Closed}
use Rattle.model.specs.Start.{from_start, rest_of, slot_from}
use Rattle.model.proofs.StartLaws.{start_open, start_owner}
use Rattle.model.specs.declared.Bound.{Bound}
use Rattle.model.specs.declared.Bound.TheVariants.{Excluded, Included, Open}
use Rattle.model.specs.declared.Range.{Range}
use Rattle.order.specs.Bytes.{Bytes, cmp}
use Rattle.order.specs.Compared.{Compared}
use Rattle.route.specs.RouteLaws.{leaf_lays, routed}
use Rattle.route.specs.Routes.{LeafIs, leaf_at}
use Rattle.spots.specs.Spots.{PairRead}
use Rattle.spots.specs.declared.Pieced.{Pieced}
use Rattle.spots.specs.declared.Spot.{Spot}
use Rattle.tree_range.specs.Scans.{slot_at}

-- the bounds: refusal 3

pub long_included : {b : Bound} {r : Bool} (k : Bytes) → b ≡ Included → Exact r (key_limit < length k) → r ≡ long_bound b k
long_included {r = r} k e x = rw e (exact_same r (ltb key_limit (length k)) x (exact_ltb key_limit (length k)))

pub long_excluded : {b : Bound} {r : Bool} (k : Bytes) → b ≡ Excluded → Exact r (key_limit < length k) → r ≡ long_bound b k
long_excluded {r = r} k e x = rw e (exact_same r (ltb key_limit (length k)) x (exact_ltb key_limit (length k)))

pub long_open : {b : Bound} (k : Bytes) → b ≡ Open → false ≡ long_bound b k
long_open k e = rw e

-- and refusal 6: each bound is asked by itself whether it has a key

both_keyed_lem : (a b : Bound) → both_keyed a b ≡ (both_keyed a Included && both_keyed b Included)
both_keyed_lem Included Included = refl
both_keyed_lem Included Excluded = refl
both_keyed_lem Included Open = refl
both_keyed_lem Excluded Included = refl
both_keyed_lem Excluded Excluded = refl
both_keyed_lem Excluded Open = refl
both_keyed_lem Open b = refl

module _ (r : Range) (s e : Bytes) where
  pub open_start : {p : Bool} → p ≡ both_keyed r.start Included → p ≡ false → false ≡ inverted r s e
  open_start k f =
      let g : both_keyed r.start Included ≡ false = sym k ∙ f in
      rw (both_keyed_lem r.start r.end, g)

  pub open_end : {q : Bool} → q ≡ both_keyed r.end Included → q ≡ false → false ≡ inverted r s e
  open_end k f =
      let g : both_keyed r.end Included ≡ false = sym k ∙ f in
      rw (both_keyed_lem r.start r.end, g, and-false)

  pub both_compared : {p q : Bool} {x : Ordering} (o : Ordering) → p ≡ both_keyed r.start Included → p ≡ true → q ≡ both_keyed r.end Included → q ≡ true → Compared s e x → x ≡ o
      → by o false false true ≡ inverted r s e
  both_compared o k f l g c t =
      let a : both_keyed r.start Included ≡ true = sym k ∙ f in
      let b : both_keyed r.end Included ≡ true = sym l ∙ g in
      let d : cmp s e ≡ o = sym c.is ∙ t in
      rw (both_keyed_lem r.start r.end, a, b, d)

-- the slot from which a scan begins

pub slot_gap : (b : Bound) {f : Result ℕ ℕ} {i : ℕ} → f ≡ Err i → i ≡ slot_at b f
slot_gap Included e = rw e
slot_gap Excluded e = rw e
slot_gap Open e = rw e

pub slot_included : {b : Bound} {f : Result ℕ ℕ} {i : ℕ} → b ≡ Included → f ≡ Ok i → i ≡ slot_at b f
slot_included e g = rw (e, g)

pub slot_excluded : {b : Bound} {f : Result ℕ ℕ} {i : ℕ} → b ≡ Excluded → f ≡ Ok i → i + 1 ≡ slot_at b f
slot_excluded e g = rw (e, g) (omega arith)

pub slot_open : {b : Bound} {f : Result ℕ ℕ} {i : ℕ} → b ≡ Open → f ≡ Ok i → 0 ≡ slot_at b f
slot_open e g = rw (e, g)

pub slot_told : (b : Bound) (x : Place) → Closed b → slot_at b (find_told x) ≡ slot_from b x
slot_told Included (at i) c = refl
slot_told Included (gap i) c = refl
slot_told Excluded (at i) c = refl
slot_told Excluded (gap i) c = refl
slot_told Open x c = absurd c

slot_within : (b : Bound) (k : Bytes) (m : List Pair) (x : Place) → LookupBy (pair [] []) k m x → slot_at b (find_told x) ≤ length m
slot_within Included k m (at i) l = omega arith
slot_within Excluded k m (at i) l = omega arith
slot_within Open k m (at i) l = omega arith
slot_within Included k m (gap i) l = omega arith
slot_within Excluded k m (gap i) l = omega arith
slot_within Open k m (gap i) l = omega arith

-- the spot where it begins

module _ {h : Header} {dir slots arena : List ℕ} {ns : List Node} {j : ℕ} (x : Presumed h dir slots arena ns) (s : Bytes) (o : j ≡ owner s ns) where
  pub slot_fits : {leaf : Leaf} {f : Result ℕ ℕ} (b : Bound) → LeafIs h dir ns j leaf → f ≡ find_told (place s (leaf_at ns j).pairs) → slot_at b f < 2 ^ 64
  slot_fits b l e =
      let m = (leaf_at ns j).pairs in
      let w = slot_within b s m (place s m) (lookup_by (pair [] []) s m) in
      let c = (leaf_lays x j (routed x s o).within).count_is in
      rw e (omega (arith, w, c, l.pairs_are, l.pairs_fit))

  pub keyed_begins : (b : Bound) {f : Result ℕ ℕ} {i : ℕ} → Closed b → f ≡ find_told (place s (leaf_at ns j).pairs) → i ≡ slot_at b f → rest_of ns j i ≡ from_start b s (pairs_of ns)
  keyed_begins b {f} {i} c e g =
      let p = place s (leaf_at ns j).pairs in
      let q : i ≡ slot_from b p = g ∙ ap (slot_at b) e ∙ slot_told b p c in
      ap (rest_of ns j) q ∙ ap (λ (y : ℕ). rest_of ns y (slot_from b (place s (leaf_at ns y).pairs))) o ∙ sym (start_owner b s ns c x.tiles)

pub begins_as : {b c : Bound} {l : List Pair} (s : Bytes) (m : List Pair) → b ≡ c → l ≡ from_start c s m → l ≡ from_start b s m
begins_as s m e f = rw e f

pub open_begins : {h : Header} {dir slots arena : List ℕ} {ns : List Node} {b : Bound} (s : Bytes) → b ≡ Open → Presumed h dir slots arena ns → rest_of ns 0 0 ≡ from_start b s (pairs_of ns)
open_begins {ns = ns} s e x = rw e (sym (start_open s ns x.tiles))

-- the pair at a spot, and the end

module _ {h : Header} {dir slots arena : List ℕ} {ns : List Node} {t : Spot} {r : Pieced} (d : PairRead h dir slots arena ns t r) where
  pub prefix_in : r.low.0 + r.prefix ≤ length arena
  prefix_in = d.pieces.low_in

  pub parts_in : r.slot.offset.0 + r.slot.suffix + r.slot.value ≤ length arena
  parts_in = d.pieces.parts_in

-- (the pieces as `&arena[low..low + prefix]` and `&arena[offset..offset + suffix]` give them)
pub pieces_compared : {h : Header} {dir slots arena : List ℕ} {ns : List Node} {x : Pair} {low prefix offset suffix value : ℕ} {k : Bytes} {o : Ordering}
    → Pieces h dir slots arena ns x low prefix offset suffix value
    → Compared (take (low + prefix - low) (drop low arena) ++ take (offset + suffix - offset) (drop offset arena)) k o → Compared x.key k o
pieces_compared {arena = arena} {low = low} {prefix = prefix} {offset = offset} {suffix = suffix} {k = k} p c =
    let a : low + prefix - low ≡ prefix = omega arith in
    let b : offset + suffix - offset ≡ suffix = omega arith in
    let e : take (low + prefix - low) (drop low arena) ++ take (offset + suffix - offset) (drop offset arena) ≡ part arena low prefix ++ part arena offset suffix = rw (a, b) in
    record { is = c.is ∙ ap (λ (y : Bytes). cmp y k) (e ∙ p.key_is) }

pub end_included : {b : Bound} {k e : Bytes} {x : Ordering} (o : Ordering) → b ≡ Included → Compared k e x → x ≡ o → by o true true false ≡ before_end b e k
end_included {k = k} {e = e} o q c t =
    let d : cmp k e ≡ o = sym c.is ∙ t in
    rw (q, d)

pub end_excluded : {b : Bound} {k e : Bytes} {x : Ordering} (o : Ordering) → b ≡ Excluded → Compared k e x → x ≡ o → by o true false false ≡ before_end b e k
end_excluded {k = k} {e = e} o q c t =
    let d : cmp k e ≡ o = sym c.is ∙ t in
    rw (q, d)

pub end_open : {b : Bound} (k e : Bytes) → b ≡ Open → true ≡ before_end b e k
end_open k e q = rw q
