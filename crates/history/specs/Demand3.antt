-- Demands 2 and 3 on the leaf list: after any history the buffers hold the list that the leaf rules give; its leaves cover all keys without gap or
-- overlap and outnumber the pairs by one at most; each split cuts the pairs in order into two nonempty halves at a shortest string; and where K
-- and V bound every accepted insert, with P + 1 leaves and P x (2K + V) arena bytes no insert within P, K and V is refused 7 or 8.
-- Assumes nothing.
use Rattle.std.specs.Prelude.{◌*◌, ◌+◌, ◌<◌, ◌≤◌, suc, ℕ, false, true, List, ◌≡◌, refl, eqb, length, Err, Ok}
use Rattle.std.proofs.Math.Option as math
use Rattle.std.proofs.Math.Option.{none, some}
use Rattle.std.proofs.Common.{Option, Result, ◌∙◌, ap, subst, sym, arith, eqb-true, le-ltb}
use Rattle.std.proofs.lemmas.Bool.{eqb-false}
use Rattle.changes.specs.Outcomes.{ChangedBy, Lent, old_told}
use Rattle.changes.specs.declared.Changed.{Changed}
use Rattle.history.specs.Answers.{found_within}
use Rattle.history.specs.Histories.{Call, History, State, Within, clear, create, if_not_done, if_refused, insert, leaves_of, lending, map_of, on, read, remove}
use Rattle.history.specs.Stands.{answered, presumed, stands}
use Rattle.layout.specs.Lays.{Holds}
use Rattle.layout.specs.LaysUnique.{holds_unique}
use Rattle.model.specs.Answers.{Answer, accepted, insert_answer, long_key, long_value, refused, short}
use Rattle.model.specs.Answers as model
use Rattle.model.specs.Charge.{charge, stored}
use Rattle.model.proofs.FilledLaws.{leaves_pairs}
use Rattle.model.specs.Good.{Filled, Tiles, limits}
use Rattle.model.specs.LeafViews.{fails, holds, truth}
use Rattle.model.specs.Leaves.{Node, owned, pairs_of}
use Rattle.model.specs.LimitLaws.{fanout_three}
use Rattle.model.specs.Limits.{key_limit, value_limit}
use Rattle.model.specs.Map.{Pair, Rising, lookup, put}
use Rattle.model.specs.SpansAt.{SpansAt}
use Rattle.model.proofs.OwnerLaws.{no_other_owner, one_owner, tiles_first}
use Rattle.model.proofs.PairLaws.{pairs_within, rising_pairs}
use Rattle.model.specs.Rules.{fresh, insert_rule, lowest_free, remove_rule}
use Rattle.model.proofs.SizeLaws.{remove_count}
use Rattle.model.specs.Reached.{bounds}
use Rattle.model.proofs.Sizing.{reached_tiles, sizing, sizing_answer}
use Rattle.model.specs.SplitOf.{SplitOf}
use Rattle.model.proofs.SplitLaws.{insert_no_split, insert_split}
use Rattle.model.proofs.StoredLaws.{stored_charge}
use Rattle.model.specs.declared.Refusal.{Refusal}
use Rattle.model.specs.declared.Refusal.TheVariants.{NoLeaf, NoRoom}
use Rattle.order.specs.Bytes.{Bytes}
use Rattle.tree_insert.specs.Outcomes.{InsertBy, InsertOutcome}

-- every byte string is in the span of exactly one leaf
pub record OneLeaf (ns : List Node) (k : Bytes) : Type 0 where
  pub place : ℕ
  pub spans : SpansAt ns k place
  pub only : (j : ℕ) → SpansAt ns k j → j ≡ place

-- only an insert adds a leaf, and where it does it has split one: the owner's pairs with the new one are cut in order into two nonempty halves, at
-- a string above every left key and above no right key, and no shorter byte string is (`SplitOf`, `Divided`)
abbrev pub SplitBy : {s t : State} → Call s t → (ns ms : List Node) → Type 0
SplitBy (read c) ns ms = ⊥
SplitBy (insert k v out r after o) ns ms = SplitOf k v (lowest_free ns) ns ms
SplitBy (remove k out r after o) ns ms = ⊥
SplitBy (clear now_dir now_slots r o) ns ms = ⊥
SplitBy (create fanout now_dir now_slots r o) ns ms = ⊥

module _ {s : State} (h : History s) where
  abbrev ns : List Node
  ns = leaves_of h

  abbrev F : ℕ
  F = s.header.fanout

  tiles : Tiles (limits F) ns
  tiles = (presumed (stands h)).tiles

  filled : Filled ns
  filled = subst Filled (stands h).leaves_are (stands h).index.good.filled

  three : 3 ≤ F
  three = fanout_three (stands h).index.holds.sizes.fanout_enough

  -- demand 2: the buffers hold the list that the rules give, and no other
  pub leaves_held : Holds s.header s.dir s.slots s.arena (leaves_of h)
  leaves_held = (presumed (stands h)).holds

  pub leaves_only : (ms : List Node) → Holds s.header s.dir s.slots s.arena ms → ms ≡ leaves_of h
  leaves_only ms y = holds_unique y leaves_held

  -- its pairs are the map's, in key order
  pub leaves_pairs_are : pairs_of (leaves_of h) ≡ map_of h
  leaves_pairs_are = (stands h).pairs_are

  pub map_rises : Rising (map_of h)
  map_rises = subst Rising (stands h).pairs_are (rising_pairs (limits F) ns tiles.tiled)

  pub cover : (k : Bytes) → OneLeaf (leaves_of h) k
  cover k = record { place = _; spans = one_owner k ns tiles; only = λ j q. no_other_owner k ns j tiles q }

  -- on the list and the map, and as the header counts them
  pub outnumber : length (leaves_of h) ≤ suc (length (map_of h))
  outnumber = omega (arith, leaves_pairs ns filled, ap length (stands h).pairs_are)

  pub counted : (s.header.leaves ≡ length (leaves_of h)) × (s.header.pairs ≡ length (map_of h))
  counted = (leaves_held.leaves_are, leaves_held.pairs_are ∙ ap length (stands h).pairs_are)

  -- L9: the charge never exceeds the arena's length, nor stored bytes the charge
  pub charged : (charge (leaves_of h) ≤ length s.arena) × (stored (leaves_of h) ≤ charge (leaves_of h))
  charged = ((presumed (stands h)).fits.charged, stored_charge ns)

  -- splits

  insert_splits : (k v : Bytes) → length ns < length (insert_rule F k v ns) → SplitOf k v (lowest_free ns) ns (insert_rule F k v ns)
  insert_splits k v l =
      elim (truth (eqb (length (put k v (owned k ns))) F)) [
        | holds t ↦ insert_split (limits F) three k v ns tiles (eqb-true (length (put k v (owned k ns))) F t)
        | fails t ↦ absurd (omega (arith, l, insert_no_split F k v ns (eqb-false (length (put k v (owned k ns))) F t)))
      ]

  inserted_splits : (k v : Bytes) (o : Result (Option ℕ) Refusal) → length ns < length (if_refused o ns (insert_rule F k v ns)) → SplitOf k v (lowest_free ns) ns (if_refused o ns (insert_rule F k v ns))
  inserted_splits k v (Err x) l = absurd (omega (arith, l))
  inserted_splits k v (Ok u) l = insert_splits k v l

  removed_fewer : (k : Bytes) (o : Result (Option ℕ) Refusal) → length (if_refused o ns (remove_rule true k ns)) ≤ length ns
  removed_fewer k (Err x) = omega arith
  removed_fewer k (Ok u) = tiles_first (λ l. length (remove_rule true k l) ≤ length l) (λ n l e t. omega (arith, remove_count true k n l)) ns tiles

  fresh_fewer : (a : Result (Unit {0}) Refusal) → length (if_not_done a ns fresh) ≤ length ns
  fresh_fewer (Err x) = omega arith
  fresh_fewer (Ok u) = tiles_first (λ l. 1 ≤ length l) (λ n l e t. omega arith) ns tiles

  pub each_split : {t : State} (c : Call s t) → length (leaves_of h) < length (leaves_of (on h c)) → SplitBy c (leaves_of h) (leaves_of (on h c))
  each_split (read c) l = omega (arith, l)
  each_split (insert k v out r after o) l = inserted_splits k v r.old l
  each_split (remove k out r after o) l = omega (arith, l, removed_fewer k r.old)
  each_split (clear now_dir now_slots r o) l = omega (arith, l, fresh_fewer r.answer)
  each_split (create fanout now_dir now_slots r o) l = omega (arith, l, fresh_fewer r.answer)

  -- the sizing. Demand 3 also bounds the pairs that earlier inserts left by P; that isn't needed

  refused_is : {x y : Refusal} → ◌≡◌ {A = Result (Option ℕ) Refusal} (Err x) (Err y) → x ≡ y
  refused_is e = cc e

  told_not_refused : {x : Refusal} {q : Result (Option ℕ) Refusal} (o : math.Option Bytes) → q ≡ old_told o → q ≡ Err x → ⊥
  told_not_refused none e f = cc (e, f)
  told_not_refused (some v) e f = cc (e, f)

  module _ (kmost vmost P : ℕ) (a : Within kmost vmost h) (pool : P + 1 ≤ length s.dir) (arena : P * (2 * kmost + vmost) ≤ length s.arena) where
    module _ (k v out : Bytes) (r : Changed) (after : Lent) (hk : length k ≤ kmost) (hv : length v ≤ vmost) (few : length (put k v (map_of h)) ≤ P)
        (o : InsertOutcome s.header k v (lending s out) r after) where
      few_now : length (put k v (pairs_of ns)) ≤ P
      few_now = rw (stands h).pairs_are few

      sized_by : (b : Answer model.Changed) → insert_answer F (length s.dir) (length s.arena) k v (length out) ns ≡ b → ChangedBy b s.header (lending s out) r after
          → (r.old ≡ Err NoLeaf → ⊥) × (r.old ≡ Err NoRoom → ⊥)
      sized_by (refused x) e c =
          let q = sizing_answer F kmost vmost P (length s.dir) (length s.arena) three pool arena ns ((stands h).reached kmost vmost a) k v hk hv few_now (length out) x e in
          ((λ f. q.0 (refused_is (sym c.answer.answer_is ∙ f))), λ f. q.1 (refused_is (sym c.answer.answer_is ∙ f)))
      sized_by (accepted c) e b = (told_not_refused c.old b.answer.answer_is, told_not_refused c.old b.answer.answer_is)

      -- a refusal that the answer is not, the call does not give
      not_given : {x : Refusal} (b : Answer model.Changed) → ((y : Refusal) → b ≡ refused y → y ≡ x → ⊥) → ChangedBy b s.header (lending s out) r after → r.old ≡ Err x → ⊥
      not_given (refused y) n c f = n y refl (refused_is (sym c.answer.answer_is ∙ f))
      not_given (accepted c) n b f = told_not_refused c.old b.answer.answer_is f

      pub sized : (r.old ≡ Err NoLeaf → ⊥) × (r.old ≡ Err NoRoom → ⊥)
      sized =
          let b = insert_answer F (length s.dir) (length s.arena) k v (length out) ns in
          let told : ChangedBy b s.header (lending s out) r after = answered (stands h) (InsertBy s.header k v (lending s out) r after) o in
          let q = sizing_answer F kmost vmost P (length s.dir) (length s.arena) three pool arena ns ((stands h).reached kmost vmost a) k v hk hv few_now (length out) in
          (not_given b (λ x e. (q x e).0) told, not_given b (λ x e. (q x e).1) told)

      -- so with K and V within the limits and an output that old values fit, it is not refused at all

      old_fits : (u : math.Option Bytes) → ((z : Bytes) → u ≡ some z → length z ≤ length out) → short (length out) u ≡ false
      old_fits none f = refl
      old_fits (some z) f = le-ltb (length out) (length z) (f z refl)

      pub sized_accepted : kmost ≤ key_limit → vmost ≤ value_limit → vmost ≤ length out → r.old ≡ old_told (lookup k (map_of h))
      sized_accepted ks vs fits =
          let reached = (stands h).reached kmost vmost a in
          let q = sizing F kmost vmost P (length s.dir) (length s.arena) three pool arena ns reached k v hk hv few_now in
          let l : long_key k ≡ false = le-ltb key_limit (length k) (omega (arith, ks, hk)) in
          let g : long_value v ≡ false = le-ltb value_limit (length v) (omega (arith, vs, hv)) in
          let within = pairs_within (bounds F kmost vmost) ns (reached_tiles F kmost vmost three reached).tiled in
          let t : short (length out) (lookup k (pairs_of ns)) ≡ false = old_fits (lookup k (pairs_of ns)) (λ u e. omega (arith, fits, (found_within (bounds F kmost vmost) k (pairs_of ns) u within e).1)) in
          let e : insert_answer F (length s.dir) (length s.arena) k v (length out) ns ≡ accepted (record { old = lookup k (pairs_of ns); nodes = insert_rule F k v ns }) =
          rw (l, g, t, q.0, q.1) in
          let b = subst (λ (z : Answer model.Changed). ChangedBy z s.header (lending s out) r after) e (answered (stands h) (InsertBy s.header k v (lending s out) r after) o) in
          b.answer.answer_is ∙ ap (λ (m : List Pair). old_told (lookup k m)) (stands h).pairs_are
