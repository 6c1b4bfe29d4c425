-- What the functions that read for a plan have to show: L4's offset of a leaf, and the equal leading bytes of two keys of one leaf, which share
-- its prefix.
-- Assumes nothing.
use Rattle.std.specs.Prelude.{◌+◌, ◌-◌, ◌/◌, ◌^◌, ◌<◌, ◌≤◌, suc, zero, ℕ, List, [], ◌++◌, ◌≡◌, refl, drop, get_or, length, take, Some, None, Ok, Err}
use Rattle.std.proofs.Common.{◌∙◌, ap, sym, arith, le-ltb, lt-ltb, length-drop, length-take, take-append-drop, drop_at, length-take-le, take_all, Option}
use Rattle.layout.specs.Pieces.{Pieces, pair_in}
use Rattle.layout.specs.Viewed.{leaves_of}
use Rattle.layout.specs.declared.Header.{Header}
use Rattle.layout.specs.declared.lent.View.{View}
use Rattle.leaf.specs.KeyLaws.{key_length}
use Rattle.lists.specs.All.{all_at}
use Rattle.lists.proofs.PartLaws.{length-part}
use Rattle.lists.specs.Part.{part}
use Rattle.model.specs.Leaves.{Node, Spans}
use Rattle.model.specs.Map.{Pair, pair}
use Rattle.model.proofs.OwnerLaws.{tiled_at}
use Rattle.model.specs.PrefixLaws.{span_prefix}
use Rattle.model.specs.Rules.{split_offset}
use Rattle.model.specs.declared.Refusal.TheVariants.{NoRoom, ShortOutput}
use Rattle.order.specs.Bytes.{Bytes, common}
use Rattle.order.specs.CommonLaws.{common_front, common_right}
use Rattle.route.specs.RouteLaws.{low_key_at, low_key_is, routed, upper_is}
use Rattle.route.specs.Routes.{UpperRead, leaf_at, low_place, upper_of}
use Rattle.spots.specs.SpotLaws.{spot_in_list}
use Rattle.spots.specs.Spots.{PairAt, PairRead}
use Rattle.spots.specs.declared.Pieced.{Pieced}
use Rattle.spots.specs.declared.Spot.{Spot}
use Rattle.words.specs.Words.{LowKeyUnpacked}
use Rattle.words.specs.declared.LowKey.{LowKey}
use Rattle.judge.specs.CutsAt.{offset_is}
use Rattle.judge.specs.Judges.{BesideSpot, CommonAsked, KeySpot, cut_common, offset_at, offset_by, old_judged}
use Rattle.judge.specs.declared.Judged.TheVariants.{Replace}

-- `judge_old`, by its tests

pub old_short : (charge room value out old : ℕ) (t : Spot) → out < old → Err (ShortOutput old) ≡ old_judged charge room value out old t
old_short charge room value out old t h = rw (lt-ltb out old h)

pub old_no_room : (charge room value out old : ℕ) (t : Spot) → old ≤ out → room < charge - old + value → Err NoRoom ≡ old_judged charge room value out old t
old_no_room charge room value out old t h g = rw (le-ltb out old h, lt-ltb room (charge - old + value) g)

pub old_replace : (charge room value out old : ℕ) (t : Spot) → old ≤ out → charge - old + value ≤ room → Ok (Replace t) ≡ old_judged charge room value out old t
old_replace charge room value out old t h g = rw (le-ltb out old h, le-ltb room (charge - old + value) g)

-- L4

pub offset_last : (n low : ℕ) {upper : Option LowKey} → (low ≡ 0 → ⊥) → upper ≡ None → n - 2 ≡ offset_by n low upper
offset_last n zero h e = absurd (h refl)
offset_last n (suc low) h e = rw e

pub offset_middle : (n low : ℕ) {upper : Option LowKey} {u : LowKey} → (low ≡ 0 → ⊥) → upper ≡ Some u → n / 2 ≡ offset_by n low upper
offset_middle n zero h e = absurd (h refl)
offset_middle n (suc low) h e = rw e

pub offset_read : (v : View) (j : ℕ) {r : ℕ} {low : LowKey} (upper : Option LowKey)
    → j < v.header.leaves → LowKeyUnpacked (get_or v.slots.now (low_place v.header v.dir.now j) 0) low → UpperRead v.header v.dir.now v.slots.now j upper
    → r ≡ offset_by v.header.fanout low.length upper → r ≡ offset_at v.header.fanout (leaves_of v) j
offset_read v j {low = low} upper k l u e =
    let x = v.index.presumed in
    let n : low.length ≡ length (leaf_at (leaves_of v) j).low = sym (key_length (low_key_at x j k l)) ∙ ap length (low_key_is x j k l) in
    e ∙ offset_is v.arena.now v.header.fanout low.length (leaf_at (leaves_of v) j).low upper n ∙ ap (split_offset v.header.fanout (leaf_at (leaves_of v) j).low) (upper_is x j upper u)

-- two byte strings with an equal front
shared_common : (p : ℕ) (a b : Bytes) → take p a ≡ take p b → p ≤ length a → common a b ≡ p + common (drop p a) (drop p b)
shared_common p a b e l =
    ap (λ (c : Bytes). common c b) (sym (take-append-drop p a))
    ∙ ap (λ (c : Bytes). common (take p a ++ drop p a) c) (sym (take-append-drop p b) ∙ ap (λ (c : Bytes). c ++ drop p b) (sym e))
    ∙ common_front (take p a) (drop p a) (drop p b)
    ∙ ap (λ (n : ℕ). n + common (drop p a) (drop p b)) (length-take-le p a l)

-- a pair that was read: its key without the prefix is its suffix
suffix_is : {h : Header} {dir slots arena : List ℕ} {ns : List Node} {y : Pair} {low p offset suffix value : ℕ} → Pieces h dir slots arena ns y low p offset suffix value
    → drop p y.key ≡ part arena offset suffix
suffix_is {arena = arena} {low = low} {p = p} {offset = offset} {suffix = suffix} q =
    ap (drop p) (sym q.key_is) ∙ drop_at (part arena low p) (part arena offset suffix) p (length-part arena low p q.low_in)

-- the bounds that reading a pair gives
pub record Reach (arena : List ℕ) (r : Pieced) : Type 0 where
  pub arena_fits : length arena < 2 ^ 28
  pub prefix_in : r.prefix ≤ length arena
  pub suffix_in : r.slot.offset.0 + r.slot.suffix ≤ length arena

pub reach : {h : Header} {dir slots arena : List ℕ} {ns : List Node} {t : Spot} {r : Pieced} → PairRead h dir slots arena ns t r → Reach arena r
reach s = record { arena_fits = s.pieces.arena_fits; prefix_in = omega (arith, s.pieces.low_in); suffix_in = omega (arith, s.pieces.parts_in) }

pub common-within : (a : Bytes) (arena : List ℕ) (n o : ℕ) → common a (take n (drop o arena)) ≤ length arena
common-within a arena n o = omega (arith, common_right a (take n (drop o arena)), length-take n (drop o arena), length-drop o arena)

module _ {v : View} {k : Bytes} {t : Spot} (i : KeySpot v k t) {r : Pieced} (s : PairAt v t r) where
  pub with_long : r.prefix ≤ length k
  with_long = omega (arith, s.prefix_is, (routed v.index.presumed k i.owns).long)

  pub with_fits : {c : ℕ}
      → c ≡ common (take (length k - r.prefix) (drop r.prefix k)) (take (r.slot.offset.0 + r.slot.suffix - r.slot.offset.0) (drop r.slot.offset.0 v.arena.now))
      → r.prefix + c < 2 ^ 32
  with_fits e = omega (arith, e, reach s, common-within (take (length k - r.prefix) (drop r.prefix k)) v.arena.now (r.slot.offset.0 + r.slot.suffix - r.slot.offset.0) r.slot.offset.0)

  -- (the parts as `&key[p..]` and `&arena[start..end]` give them)
  pub with_common : {c : ℕ}
      → c ≡ common (take (length k - r.prefix) (drop r.prefix k)) (take (r.slot.offset.0 + r.slot.suffix - r.slot.offset.0) (drop r.slot.offset.0 v.arena.now))
      → r.prefix + c ≡ common k (pair_in (leaves_of v) t.leaf t.slot).key
  with_common {c} e =
      let ns = leaves_of v in
      let x = v.index.presumed in
      let p = r.prefix in
      let y = pair_in ns t.leaf t.slot in
      let m = spot_in_list x i.spot in
      let g = tiled_at ns t.leaf x.tiles.tiled m.leaf_in in
      let low = (leaf_at ns t.leaf).low in
      let sp : Spans low (upper_of ns t.leaf) y.key = all_at (λ z. Spans low (upper_of ns t.leaf) z.key) (leaf_at ns t.leaf).pairs t.slot (pair [] []) m.slot_in g.spanned in
      let f : take p k ≡ take p y.key = rw s.prefix_is ((routed x k i.owns).begins ∙ sym (span_prefix low (upper_of ns t.leaf) y.key sp)) in
      let a : take (length k - p) (drop p k) ≡ drop p k = take_all (length k - p) (drop p k) (omega (arith, length-drop p k)) in
      let b : r.slot.offset.0 + r.slot.suffix - r.slot.offset.0 ≡ r.slot.suffix = omega arith in
      let d : c ≡ common (drop p k) (part v.arena.now r.slot.offset.0 r.slot.suffix) = rw (a, b) at e in
      ap (λ (n : ℕ). p + n) (d ∙ ap (common (drop p k)) (sym (suffix_is s.pieces))) ∙ sym (shared_common p k y.key f with_long)

module _ {v : View} {t : Spot} (i : BesideSpot v t) where
  pub beside_fits : {x y : Pieced} {u : Spot} {c : ℕ} → PairAt v t x → PairAt v u y
      → c ≡ common (take (x.slot.offset.0 + x.slot.suffix - x.slot.offset.0) (drop x.slot.offset.0 v.arena.now)) (take (y.slot.offset.0 + y.slot.suffix - y.slot.offset.0) (drop y.slot.offset.0 v.arena.now))
      → x.prefix + c < 2 ^ 32
  beside_fits {x} {y} rx ry e = omega (arith, e, reach rx, common-within (take (x.slot.offset.0 + x.slot.suffix - x.slot.offset.0) (drop x.slot.offset.0 v.arena.now)) v.arena.now (y.slot.offset.0 + y.slot.suffix - y.slot.offset.0) y.slot.offset.0)

  pub beside_common : {x y : Pieced} {n c : ℕ} → n ≡ t.slot + 1 → PairAt v t x → PairAt v (record { leaf = t.leaf; slot = n }) y
      → c ≡ common (take (x.slot.offset.0 + x.slot.suffix - x.slot.offset.0) (drop x.slot.offset.0 v.arena.now)) (take (y.slot.offset.0 + y.slot.suffix - y.slot.offset.0) (drop y.slot.offset.0 v.arena.now))
      → x.prefix + c ≡ common (pair_in (leaves_of v) t.leaf t.slot).key (pair_in (leaves_of v) t.leaf (suc t.slot)).key
  beside_common {x} {y} {n} {c} e q w f =
      let ns = leaves_of v in
      let arena = v.arena.now in
      let s : n ≡ suc t.slot = omega (arith, e) in
      let a : x.slot.offset.0 + x.slot.suffix - x.slot.offset.0 ≡ x.slot.suffix = omega arith in
      let b : y.slot.offset.0 + y.slot.suffix - y.slot.offset.0 ≡ y.slot.suffix = omega arith in
      let g : c ≡ common (part arena x.slot.offset.0 x.slot.suffix) (part arena y.slot.offset.0 y.slot.suffix) = rw (a, b) at f in
      let front = part arena x.low.0 x.prefix in
      let same : part arena y.low.0 y.prefix ≡ front = rw (q.low_is, w.low_is, q.prefix_is, w.prefix_is) in
      let l : length front ≡ x.prefix = length-part arena x.low.0 x.prefix q.pieces.low_in in
      let u : front ++ part arena y.slot.offset.0 y.slot.suffix ≡ (pair_in ns t.leaf n).key = ap (λ (z : Bytes). z ++ part arena y.slot.offset.0 y.slot.suffix) (sym same) ∙ w.pieces.key_is in
      ap (λ (z : ℕ). x.prefix + z) g
      ∙ ap (λ (z : ℕ). z + common (part arena x.slot.offset.0 x.slot.suffix) (part arena y.slot.offset.0 y.slot.suffix)) (sym l)
      ∙ sym (common_front front (part arena x.slot.offset.0 x.slot.suffix) (part arena y.slot.offset.0 y.slot.suffix))
      ∙ ap (λ (z : Bytes). common z (front ++ part arena y.slot.offset.0 y.slot.suffix)) q.pieces.key_is
      ∙ ap (common (pair_in ns t.leaf t.slot).key) u
      ∙ ap (λ (z : ℕ). common (pair_in ns t.leaf t.slot).key (pair_in ns t.leaf z).key) s

-- which of them are at the cut

module _ {v : View} {k : Bytes} {t : Spot} {s : ℕ} (p : CommonAsked v k t s) {r : ℕ} where
  pub at_right : t.slot + 1 < s → r ≡ common (pair_in (leaves_of v) t.leaf (s - 2)).key (pair_in (leaves_of v) t.leaf (suc (s - 2))).key
      → r ≡ cut_common k (leaf_at (leaves_of v) t.leaf).pairs t.slot s
  at_right g e =
      let a : suc (s - 2) ≡ s - 1 = omega arith in
      rw (lt-ltb (suc t.slot) s (omega arith)) (rw a at e)

  pub at_left : s < t.slot → r ≡ common (pair_in (leaves_of v) t.leaf (s - 1)).key (pair_in (leaves_of v) t.leaf (suc (s - 1))).key
      → r ≡ cut_common k (leaf_at (leaves_of v) t.leaf).pairs t.slot s
  at_left g e =
      let a : suc (s - 1) ≡ s = omega (arith, p.cut_left) in
      rw (le-ltb (suc t.slot) s (omega arith), lt-ltb s t.slot g) (rw a at e)

  pub at_new : s ≤ t.slot + 1 → t.slot ≤ s → r ≡ common k (pair_in (leaves_of v) t.leaf (s - 1)).key → r ≡ cut_common k (leaf_at (leaves_of v) t.leaf).pairs t.slot s
  at_new g f e = rw (le-ltb (suc t.slot) s (omega arith), le-ltb s t.slot f) e

module _ {v : View} {k : Bytes} {t : Spot} {s : ℕ} (p : CommonAsked v k t s) where
  pub with_asked : KeySpot v k (record { leaf = t.leaf; slot = s - 1 })
  with_asked = record { spot = record { index = v.index; leaf_in = p.leaf_in; slot_in = omega (arith, p.cut_left, p.cut_right) }; owns = p.owns }

  pub right_asked : t.slot + 1 < s → BesideSpot v (record { leaf = t.leaf; slot = s - 2 })
  right_asked g = record { leaf_in = p.leaf_in; next_in = omega (arith, p.cut_right, g) }

  pub left_asked : s < t.slot → BesideSpot v (record { leaf = t.leaf; slot = s - 1 })
  left_asked g = record { leaf_in = p.leaf_in; next_in = omega (arith, p.cut_left, p.slot_upto, g) }
