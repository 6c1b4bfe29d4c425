-- The steps of a scan put together: the pair found, shown in two pieces, its value handed back.
-- Assumes nothing.
use Rattle.std.specs.Prelude.{◌+◌, ◌-◌, ◌^◌, ◌<◌, ◌≤◌, suc, ℕ, Bool, false, true, List, [], ◌++◌, ◌∷◌, ◌≡◌, refl, drop, get_or, length, take, Some, None, Ok, Err}
use Rattle.std.proofs.Math.Option as math
use Rattle.std.proofs.Math.Option.{none, some}
use Rattle.std.proofs.Common.{◌∙◌, ap, subst, sym, arith, le-ltb, lt-ltb, Option, Result}
use Rattle.layout.specs.Pieces.{InList, Pieces, pair_in}
use Rattle.layout.specs.Lays.{W}
use Rattle.layout.specs.Presumed.{Presumed, entry_held}
use Rattle.layout.specs.Viewed.{Views, leaves_of, view_held}
use Rattle.layout.specs.declared.Header.{Header}
use Rattle.layout.specs.declared.lent.View.{View}
use Rattle.lists.proofs.PartLaws.{put-nil, length-part}
use Rattle.model.specs.Answers.{Answer, accepted, code_of, inverted, key_written, long_bound, range_found, refused, beyond, everything}
use Rattle.lists.specs.Part.{put}
use Rattle.model.specs.Leaves.{Node, node, pairs_of}
use Rattle.model.specs.Map.{Pair, before_end, pair}
use Rattle.model.proofs.PairLaws.{rising_pairs}
use Rattle.model.proofs.ScanLaws.{range_open_end, range_open_start}
use Rattle.model.proofs.StartLaws.{first_from, rest_head}
use Rattle.model.specs.Start.{first_before, from_start}
use Rattle.model.specs.declared.Range.{Range}
use Rattle.model.specs.declared.Refusal.{Refusal}
use Rattle.model.specs.declared.Refusal.TheVariants.{InvertedRange, LongKey, ShortOutput}
use Rattle.order.specs.Bytes.{Bytes}
use Rattle.route.specs.RouteLaws.{leaf_lays}
use Rattle.spots.specs.SpotLaws.{presumed_counted}
use Rattle.spots.specs.Spots.{NextOf, NextRead, SpotIn, rest_at}
use Rattle.spots.specs.declared.Spot.{Spot}
use Rattle.tree_range.specs.Outcomes.{HitBy, Hits, RangeValueOutcome, Scans, value_told, FirstOutcome, GtOutcome, RangeOutcome}
use Rattle.tree_range.specs.Scans.{Allowed}
use Rattle.tree_range.specs.declared.Seen.{Seen}

-- refusals 3 and 6

module _ (range : Range) (s e : Bytes) (ns : List Node) where
  pub hit_start : {b : Bool} → b ≡ long_bound range.start s → b ≡ true → Hits ns (range_found range s e ns) (Err LongKey)
  hit_start f t = record { hit = rw (sym f ∙ t) refl }

  pub hit_end : {b c : Bool} → b ≡ long_bound range.start s → b ≡ false → c ≡ long_bound range.end e → c ≡ true → Hits ns (range_found range s e ns) (Err LongKey)
  hit_end f t g u = record { hit = rw (sym f ∙ t, sym g ∙ u) refl }

  pub hit_inverted : {b c d : Bool} → b ≡ long_bound range.start s → b ≡ false → c ≡ long_bound range.end e → c ≡ false → d ≡ inverted range s e → d ≡ true
      → Hits ns (range_found range s e ns) (Err InvertedRange)
  hit_inverted f t g u i v = record { hit = rw (sym f ∙ t, sym g ∙ u, sym i ∙ v) refl }

-- no refusal: what the bounds' tests gave

pub allowed : (range : Range) (s e : Bytes) {b c d : Bool} → b ≡ long_bound range.start s → b ≡ false → c ≡ long_bound range.end e → c ≡ false → d ≡ inverted range s e → d ≡ false
    → Allowed range s e
allowed range s e f t g u i v = record { start_short = sym f ∙ t; end_short = sym g ∙ u; upright = sym i ∙ v }

-- the spot after the start

module _ {h : Header} {dir slots arena : List ℕ} {ns : List Node} (x : Presumed h dir slots arena ns) {sp : Spot} {f : Option Spot} (n : NextRead h.leaves dir sp f) where
  next_of : NextOf ns sp f
  next_of = n.next ns (presumed_counted x)

  pub next_in : {t : Spot} → f ≡ Some t → InList ns t.leaf t.slot
  next_in q = (subst (NextOf ns sp) q next_of).0

  next_rest : {t : Spot} → f ≡ Some t → rest_at ns t ≡ rest_at ns sp
  next_rest q = (subst (NextOf ns sp) q next_of).1

  next_past : f ≡ None → rest_at ns sp ≡ []
  next_past q = subst (NextOf ns sp) q next_of

  module _ {range : Range} {s : Bytes} (e : Bytes) (a : Allowed range s e) (b : rest_at ns sp ≡ from_start range.start s (pairs_of ns)) where
    found_is : range_found range s e ns ≡ accepted (first_before range.end e (rest_at ns sp))
    found_is =
        rw (a.start_short, a.end_short, a.upright)
        (ap accepted (first_from range s e (pairs_of ns) (rising_pairs _ ns x.tiles.tiled) ∙ ap (first_before range.end e) (sym b)))

    pub found_past : f ≡ None → Hits ns (range_found range s e ns) (Ok None)
    found_past q = record { hit = rw (found_is, next_past q) refl }

    rest_is : {t : Spot} → f ≡ Some t
        → rest_at ns sp ≡ pair_in ns t.leaf t.slot ∷ (drop (suc t.slot) (get_or ns t.leaf (node 0 [] [])).pairs ++ pairs_of (drop (suc t.leaf) ns))
    rest_is {t} q = sym (next_rest q) ∙ rest_head ns t.leaf t.slot (pair [] []) (next_in q).slot_in

    pub found_out : {t : Spot} {d : Bool} → f ≡ Some t → d ≡ before_end range.end e (pair_in ns t.leaf t.slot).key → d ≡ false → Hits ns (range_found range s e ns) (Ok None)
    found_out q g u = record { hit = rw (found_is, rest_is q, sym g ∙ u) refl }

    pub found_at : {t : Spot} {d : Bool} → f ≡ Some t → d ≡ before_end range.end e (pair_in ns t.leaf t.slot).key → d ≡ true → Hits ns (range_found range s e ns) (Ok (Some t))
    found_at {t} q g u = record { hit = rw (found_is, rest_is q, sym g ∙ u) (record { spot = t; answer_is = refl; in_list = next_in q; pair_is = refl }) }

pub spot_of : {h : Header} {dir slots arena : List ℕ} {ns : List Node} {t : Spot} → Presumed h dir slots arena ns → InList ns t.leaf t.slot → SpotIn h dir slots arena t
spot_of {h = h} {ns = ns} {t = t} x i =
    let l : t.leaf < h.leaves = omega (arith, i.leaf_in, x.holds.leaves_are) in
    record { index = record { nodes = ns; presumed = x }; leaf_in = l; slot_in = omega (arith, i.slot_in, (leaf_lays x t.leaf l).count_is) }

-- what an answer of `found` tells of the model's

refused_in : (ns : List Node) (a : Answer (math.Option Pair)) {y : Refusal} → HitBy ns a (Err y) → a ≡ refused y
refused_in ns (refused z) q = ap refused (sym (cc q))
refused_in ns (accepted none) q = cc q
refused_in ns (accepted (some p)) q = cc q.answer_is

end_in : (ns : List Node) (a : Answer (math.Option Pair)) → HitBy ns a (Ok None) → a ≡ accepted none
end_in ns (refused z) q = cc q
end_in ns (accepted none) q = refl
end_in ns (accepted (some p)) q = cc q.answer_is

pub record Stands (ns : List Node) (a : Answer (math.Option Pair)) (t : Spot) : Type 0 where
  pub in_list : InList ns t.leaf t.slot
  pub is : a ≡ accepted (some (pair_in ns t.leaf t.slot))

at_in : (ns : List Node) (a : Answer (math.Option Pair)) {t : Spot} → HitBy ns a (Ok (Some t)) → Stands ns a t
at_in ns (refused z) q = cc q
at_in ns (accepted none) q = cc q
at_in ns (accepted (some p)) {t} q =
    let e : q.spot ≡ t = sym (cc q.answer_is) in
    record {
      in_list = subst (λ (u : Spot). InList ns u.leaf u.slot) e q.in_list;
      is = ap (λ (y : Pair). accepted (some y)) (sym q.pair_is ∙ ap (λ (u : Spot). pair_in ns u.leaf u.slot) e);
    }

module _ {ns : List Node} {a : Answer (math.Option Pair)} {f : Result (Option Spot) Refusal} (g : Hits ns a f) where
  pub hit_refused : {y : Refusal} → f ≡ Err y → a ≡ refused y
  hit_refused q = refused_in ns a (subst (HitBy ns a) q g.hit)

  pub hit_none : f ≡ (Ok None) → a ≡ accepted none
  hit_none q = end_in ns a (subst (HitBy ns a) q g.hit)

  pub hit_stands : {t : Spot} → f ≡ Ok (Some t) → Stands ns a t
  hit_stands q = at_in ns a (subst (HitBy ns a) q g.hit)

-- shown, or refused as 5

module _ {h : Header} {dir slots arena : List ℕ} {ns : List Node} {p : Pair} {low prefix offset suffix value : ℕ} (q : Pieces h dir slots arena ns p low prefix offset suffix value) where
  pub show_short : (out : Bytes) {n : ℕ} → n ≡ prefix + suffix → length out < n → Scans h dir slots arena ns (key_written (length out) (accepted (some p))) out out (Err (ShortOutput n))
  show_short out e l =
      let m = e ∙ q.key_length in
      rw (lt-ltb (length out) (length p.key) (omega (arith, l, m))) (record { answer_is = ap (λ (k : ℕ). Err (ShortOutput k)) m; code_is = ap (λ (k : ℕ). code_of (ShortOutput k)) m; out_is = sym (put-nil out 0) })

  -- (the pieces as `&arena[low..prefix_end]` and `&arena[from..end]` give them)
  pub show_pair : (out : Bytes) {now_out : Bytes} {n : ℕ} → n ≡ prefix + suffix → n ≤ length out
      → now_out ≡ put out 0 (take (low + prefix - low) (drop low arena) ++ take (offset + suffix - offset) (drop offset arena))
      → Scans h dir slots arena ns (key_written (length out) (accepted (some p))) out now_out (Ok (Some (record { key = n; place = record { 0 = offset + suffix }; value = value })))
  show_pair out e l w =
      let m = e ∙ q.key_length in
      let a : low + prefix - low ≡ prefix = omega arith in
      let b : offset + suffix - offset ≡ suffix = omega arith in
      let k : take (low + prefix - low) (drop low arena) ++ take (offset + suffix - offset) (drop offset arena) ≡ p.key = rw (a, b) q.key_is in
      rw (le-ltb (length out) (length p.key) (omega (arith, l, m)))
      (record { answer_is = rw (m, q.place_is, q.value_length); code_is = refl; out_is = w ∙ ap (put out 0) k })

  pub pieces_fit : prefix + suffix < 2 ^ 64
  pieces_fit = omega (arith, q.low_in, q.parts_in, q.arena_fits)

  pub write_fits : (out : Bytes) {n : ℕ} → n ≡ prefix + suffix → n ≤ length out
      → length (take (low + prefix - low) (drop low arena)) + length (take (offset + suffix - offset) (drop offset arena)) ≤ length out
  write_fits out e l =
      let a : low + prefix - low ≡ prefix = omega arith in
      let b : offset + suffix - offset ≡ suffix = omega arith in
      rw (a, b) (omega (arith, l, e, length-part arena low prefix q.low_in, length-part arena offset suffix (omega (arith, q.parts_in))))

  -- (the value as `&arena[from..end]` gives it)
  pub value_shown : take (offset + suffix + value - (offset + suffix)) (drop (offset + suffix) arena) ≡ p.value
  value_shown =
      let a : offset + suffix + value - (offset + suffix) ≡ value = omega arith in
      rw a q.value_is

-- the call: the pair found, then shown

module _ {h : Header} {dir slots arena : List ℕ} {ns : List Node} {a : Answer (math.Option Pair)} (out : Bytes) where
  pub scan_refused : {y : Refusal} → a ≡ refused y → Scans h dir slots arena ns (key_written (length out) a) out out (Err y)
  scan_refused e = rw e (record { answer_is = refl; code_is = refl; out_is = sym (put-nil out 0) })

  pub scan_none : a ≡ accepted none → Scans h dir slots arena ns (key_written (length out) a) out out (Ok None)
  scan_none e = rw e (record { answer_is = refl; code_is = refl; out_is = sym (put-nil out 0) })

  pub scan_shown : {t : Spot} {now_out : Bytes} {r : Result (Option Seen) Refusal} → Stands ns a t → Scans h dir slots arena ns (key_written (length out) (accepted (some (pair_in ns t.leaf t.slot)))) out now_out r
      → Scans h dir slots arena ns (key_written (length out) a) out now_out r
  scan_shown s q = rw s.is q

-- the value's call

module _ {a : Answer (math.Option Pair)} where
  pub value_stands : {ns : List Node} {t : Spot} {v : Bytes} → Stands ns a t → v ≡ (pair_in ns t.leaf t.slot).value → v ≡ value_told a
  value_stands s q = rw s.is q

  pub value_none : a ≡ accepted none → [] ≡ value_told a
  value_none e = rw e refl

  pub value_refused : {y : Refusal} → a ≡ refused y → [] ≡ value_told a
  value_refused e = rw e refl

pub range_value_held : {h : Header} {dir slots arena : List ℕ} (range : Range) (s e : Bytes) (v : View) {b : Bytes} → W h dir slots arena → Views v h dir slots arena
    → b ≡ value_told (range_found range s e (leaves_of v)) → RangeValueOutcome h dir slots arena range s e b
range_value_held range s e v {b} w u q = entry_held w (view_held (λ h dir slots arena ns. b ≡ value_told (range_found range s e ns)) v u q)

-- the calls with open bounds: the keys beside them play no part

module _ {h : Header} {dir slots arena : List ℕ} (s e : Bytes) {out now_out : Bytes} {r : Result (Option Seen) Refusal} where
  pub gt_by : RangeOutcome h dir slots arena beyond s e out now_out r → GtOutcome h dir slots arena s out now_out r
  gt_by o = record {
    damaged = o.damaged;
    held = λ w. subst (λ (a : Answer (math.Option Pair)). Scans h dir slots arena w.nodes a out now_out r) (range_open_end beyond s e [] (length out) w.nodes refl) (o.held w);
  }

  pub first_by : RangeOutcome h dir slots arena everything s e out now_out r → FirstOutcome h dir slots arena out now_out r
  first_by o = record {
    damaged = o.damaged;
    held = λ w.
        subst (λ (a : Answer (math.Option Pair)). Scans h dir slots arena w.nodes a out now_out r)
        (range_open_start everything s [] e (length out) w.nodes refl ∙ range_open_end everything [] e [] (length out) w.nodes refl) (o.held w);
  }
