-- The separator at the front of a buffer (L5): the plan's bytes are the front of the new key or of a stored one, which is in the leaf and fits.
-- Assumes nothing.
use Rattle.std.specs.Prelude.{◌+◌, ◌-◌, ◌<◌, ◌^◌, ◌≤◌, suc, zero, ℕ, false, true, List, [], ◌++◌, ◌∷◌, ◌≡◌, refl, drop, length, take}
use Rattle.std.proofs.Common.{◌∙◌, ap, subst, sym, arith, drop_of_length-le, length-append, length-take}
use Rattle.std.proofs.Math.Decide.{dec_lt}
use Rattle.std.proofs.Math.Seq.{take-nil}
use Rattle.judge.specs.Judges.{half_slot, key_in, right_half}
use Rattle.judge.specs.declared.Half.{Half}
use Rattle.judge.specs.declared.Half.TheVariants.{Left, Right}
use Rattle.judge.specs.declared.Plan.{Plan}
use Rattle.layout.specs.Presumed.{Presumed}
use Rattle.layout.specs.Viewed.{Views}
use Rattle.layout.specs.declared.Header.{Header}
use Rattle.layout.specs.declared.lent.View.{View}
use Rattle.lists.specs.All.{all_at}
use Rattle.lists.proofs.PartLaws.{length-part, length-put, part-put_in}
use Rattle.lists.specs.Part.{part, put}
use Rattle.model.specs.Good.{Within, limits}
use Rattle.model.specs.Leaves.{Node}
use Rattle.model.specs.Map.{Pair, pair}
use Rattle.model.proofs.OwnerLaws.{tiled_at}
use Rattle.model.specs.Place.{gap, place}
use Rattle.order.specs.Bytes.{Bytes, ◌≺◌}
use Rattle.order.specs.OrderLaws.{not_below_nil}
use Rattle.route.specs.RouteLaws.{leaf_lays}
use Rattle.route.specs.Routes.{leaf_at}
use Rattle.spots.specs.Spots.{SpotIn, SpotRead}
use Rattle.spots.specs.declared.Pieced.{Pieced}
use Rattle.spots.specs.declared.Spot.{Spot}
use Rattle.split.specs.Splits.{CanWriteSeparator, SeparatorWritten, SplitAsked}

-- the smallest right key is a stored one
pub data StoredFirst (p : Plan) : Type 0 where
  new_left : right_half p.half ≡ false → StoredFirst p
  new_later : right_half p.half ≡ true → (half_slot p.half ≡ 0 → ⊥) → StoredFirst p

pub stored_first : (p : Plan) → (p.half ≡ Right 0 → ⊥) → StoredFirst p
stored_first p n = go p.half refl
  where
    go : (q : Half) → p.half ≡ q → StoredFirst p
    go (Left i) e = new_left (ap right_half e)
    go (Right i) e = new_later (ap right_half e) (λ z. n (e ∙ ap Right (sym (ap half_slot e) ∙ z)))

-- the spot of the stored pair in front of which the plan cuts
abbrev pub cut_spot : Plan → Spot
cut_spot p = record { leaf = p.leaf; slot = p.cut }

-- past the end

no_key : (m : List Pair) (i : ℕ) → length m ≤ i → key_in m i ≡ []
no_key [] i h = refl
no_key (x ∷ m) zero h = absurd (omega arith)
no_key (x ∷ m) (suc i) h = no_key m i (omega arith)

no_pairs : (ns : List Node) (j : ℕ) → length ns ≤ j → length (leaf_at ns j).pairs ≡ 0
no_pairs [] j h = refl
no_pairs (n ∷ ns) zero h = absurd (omega arith)
no_pairs (n ∷ ns) (suc j) h = no_pairs ns j (omega arith)

no_gap : (k : Bytes) (m : List Pair) (i j : ℕ) → place k (drop i m) ≡ gap j → length m ≤ i → j ≡ 0
unfolding place
no_gap k m i j e h =
    let z : gap j ≡ gap 0 = sym e ∙ ap (place k) (drop_of_length-le m h) in
    cc

module _ {h : Header} {pool arena : ℕ} {k v : Bytes} {p : Plan} {ns : List Node} (a : SplitAsked h pool arena k v p ns) where
  abbrev m : List Pair
  m = (leaf_at ns p.leaf).pairs

  -- the bytes of a stored key

  pub stored_bytes : StoredFirst p → a.plan.separator ≡ take p.separator (key_in m p.cut)
  stored_bytes (new_left e) = (a.plan.left e).bytes
  stored_bytes (new_later e n) = (a.plan.right e).bytes n

  pub stored_in : StoredFirst p → p.cut < length m
  stored_in s =
      elim (dec_lt p.cut (length m)) [
        | yes l ↦ l
        | no l ↦ absurd (past s (omega (arith, l)))
      ]
    where
      past : StoredFirst p → length m ≤ p.cut → ⊥
      past (new_left e) l =
          let g = a.plan.left e in
          not_below_nil k (subst (λ (b : Bytes). k ≺ b) (g.bytes ∙ ap (take p.separator) (no_key m p.cut l) ∙ take-nil p.separator) g.below)
      past (new_later e n) l = n (no_gap k m p.cut (half_slot p.half) (a.plan.right e).stands l)

  pub stored_leaf_in : StoredFirst p → p.leaf < length ns
  stored_leaf_in s =
      elim (dec_lt p.leaf (length ns)) [
        | yes l ↦ l
        | no l ↦ absurd (omega (arith, no_pairs ns p.leaf (omega (arith, l)), stored_in s))
      ]

  -- the separator is no longer than the key whose front it is
  pub front_long : (b : Bytes) → a.plan.separator ≡ take p.separator b → p.separator ≤ length b
  front_long b e =
      let l : p.separator ≡ length (take p.separator b) = sym a.plan.long ∙ ap length e in
      omega (arith, l, length-take p.separator b)

-- a part as `&arena[a..a + n]` gives it

abbrev pub piece_of : (arena : List ℕ) (a n : ℕ) → List ℕ
piece_of arena a n = take (a + n - a) (drop a arena)

piece_part : (arena : List ℕ) (a n : ℕ) → piece_of arena a n ≡ part arena a n
piece_part arena a n = let e : a + n - a ≡ n = omega arith in ap (λ (i : ℕ). take i (drop a arena)) e

piece_long : (arena : List ℕ) (a n : ℕ) → a + n ≤ length arena → length (piece_of arena a n) ≡ n
piece_long arena a n h = ap length (piece_part arena a n) ∙ length-part arena a n h

pieces_key : (arena : List ℕ) (a n b m : ℕ) → piece_of arena a n ++ piece_of arena b m ≡ part arena a n ++ part arena b m
pieces_key arena a n b m = rw (piece_part arena a n, piece_part arena b m)

-- the bounds that reading a pair gives
pub record Reach (arena out : List ℕ) (r : Pieced) : Type 0 where
  pub arena_fits : length arena < 2 ^ 28
  pub low_in : r.low.0 + r.prefix ≤ length arena
  pub suffix_in : r.slot.offset.0 + r.slot.suffix ≤ length arena
  pub key_inside : r.prefix + r.slot.suffix ≤ length out

front_put : (out s : Bytes) (n : ℕ) → length s ≤ length out → n ≤ length s → take n (put out 0 s) ≡ take n s
front_put out s n h l = part-put_in out 0 s 0 n (omega arith) (omega arith)

module _ {h : Header} {dir slots arena : List ℕ} {k : Bytes} {p : Plan} {out : List ℕ} (a : CanWriteSeparator h dir slots arena k p out) where
  -- the new key

  pub new_fits : length k ≤ length out
  new_fits = omega (arith, a.asked.step.asks.key_short, a.holds_keys)

  pub new_written : {now_out : List ℕ} → p.half ≡ Right 0 → now_out ≡ put out 0 k → SeparatorWritten h dir slots arena k p out now_out
  new_written e w = record {
    same_out = ap length w ∙ length-put out 0 k (omega (arith, new_fits));
    bytes = λ ns x v b.
        let q = (b.plan.right (ap right_half e)).new_bytes (ap half_slot e) in
        ap (take p.separator) w ∙ front_put out k p.separator new_fits (front_long b k q) ∙ sym q;
  }

  -- a stored key

  module _ (s : StoredFirst p) where
    pub spot_asked : SpotIn h dir slots arena (cut_spot p)
    spot_asked =
        let x = a.asked.step.presumed in
        let b = a.asked.step.asks in
        let l : p.leaf < h.leaves = omega (arith, stored_leaf_in b s, x.holds.leaves_are) in
        record { index = record { nodes = a.asked.step.nodes; presumed = x }; leaf_in = l; slot_in = rw (leaf_lays x p.leaf l).count_is (stored_in b s) }

    key_short : {ns : List Node} {v : Bytes} → Presumed h dir slots arena ns → SplitAsked h (length dir) (length arena) k v p ns
        → length (key_in (leaf_at ns p.leaf).pairs p.cut) ≤ length out
    key_short {ns} x b =
        let g = tiled_at ns p.leaf x.tiles.tiled (stored_leaf_in b s) in
        omega (arith, (all_at (Within (limits h.fanout)) (leaf_at ns p.leaf).pairs p.cut (pair [] []) (stored_in b s) g.within).0, a.holds_keys)

    module _ {r : Pieced} (t : SpotRead h dir slots arena (cut_spot p) r) where
      pub reach : Reach arena out r
      reach =
          let x = a.asked.step.presumed in
          let q = (t a.asked.step.nodes x).pieces in
          record {
            arena_fits = q.arena_fits;
            low_in = q.low_in;
            suffix_in = omega (arith, q.parts_in);
            key_inside = omega (arith, q.key_length, key_short x a.asked.step.asks);
          }

      pub pieces_fit : length (piece_of arena r.low.0 r.prefix) + length (piece_of arena r.slot.offset.0 r.slot.suffix) ≤ length out
      pieces_fit = omega (arith, piece_long arena r.low.0 r.prefix reach.low_in, piece_long arena r.slot.offset.0 r.slot.suffix reach.suffix_in, reach.key_inside)

      pub stored_written : {now_out : List ℕ} → now_out ≡ put out 0 (piece_of arena r.low.0 r.prefix ++ piece_of arena r.slot.offset.0 r.slot.suffix)
          → SeparatorWritten h dir slots arena k p out now_out
      stored_written w =
          let fits : length (piece_of arena r.low.0 r.prefix ++ piece_of arena r.slot.offset.0 r.slot.suffix) ≤ length out =
          rw (length-append (piece_of arena r.low.0 r.prefix) (piece_of arena r.slot.offset.0 r.slot.suffix)) pieces_fit in
          record {
            same_out = ap length w ∙ length-put out 0 (piece_of arena r.low.0 r.prefix ++ piece_of arena r.slot.offset.0 r.slot.suffix) (omega (arith, fits));
            bytes = λ ns x v b.
                let q = stored_bytes b s in
                let e : piece_of arena r.low.0 r.prefix ++ piece_of arena r.slot.offset.0 r.slot.suffix ≡ key_in (leaf_at ns p.leaf).pairs p.cut =
                pieces_key arena r.low.0 r.prefix r.slot.offset.0 r.slot.suffix ∙ (t ns x).pieces.key_is in
                ap (take p.separator) (w ∙ ap (put out 0) e)
                ∙ front_put out (key_in (leaf_at ns p.leaf).pairs p.cut) p.separator (key_short x b) (front_long b (key_in (leaf_at ns p.leaf).pairs p.cut) q) ∙ sym q;
          }

-- asked and written on a view of what was lent

module _ {w : View} {h : Header} {dir slots arena : List ℕ} (u : Views w h dir slots arena) {k : Bytes} {p : Plan} {out : List ℕ} where
  pub asked_there : CanWriteSeparator h dir slots arena k p out → CanWriteSeparator w.header w.dir.now w.slots.now w.arena.now k p out
  asked_there a = rw (u.header_is, u.dir_is, u.slots_are, u.arena_is) a

  pub written_there : {now_out : List ℕ} → SeparatorWritten w.header w.dir.now w.slots.now w.arena.now k p out now_out → SeparatorWritten h dir slots arena k p out now_out
  written_there b = rw (u.header_is, u.dir_is, u.slots_are, u.arena_is) at b
