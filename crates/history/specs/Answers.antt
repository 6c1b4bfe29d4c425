-- The answers of a history are the ordered map's: each call is answered as the map beside the history says.
-- Assumes nothing.
use Rattle.std.specs.Prelude.{◌≤◌, ℕ, Bool, false, not, true, List, [], ◌∷◌, ◌≡◌, refl, drop, length, take, Ok, Err}
use Rattle.std.proofs.Math.Option.{none, some}
use Rattle.std.proofs.Math.Option as math
use Rattle.std.proofs.Common.{◌∙◌, ap, subst, sym, arith, le-ltb, ltb-false, ltb-true, Option, Result}
use Rattle.changes.specs.Outcomes.{ChangedBy, Kept, Lent, old_bytes, old_told}
use Rattle.changes.specs.Outcomes as changes
use Rattle.changes.specs.declared.Changed.{Changed}
use Rattle.history.specs.Histories.{Call, History, Reading, State, clear, contains_key, create, first, first_in_range, get, get_gt, get_value, holds_index, insert, leaf_at, leaves_of, len, lending, map_of, range_value, read, remove, scan_prefix}
use Rattle.history.specs.Says.{ContainsSays, CreateSays, GetSays, InsertRefused, LenSays, MayInsert, NotLong, OldFits, OldRefused, OldSays, PairNotLong, PrefixLies, PrefixRefused, PrefixSays, RangeValueSays, ReadSays, Says, ScanSays, bytes_of, inverted_range, long_end, key_too_long, long_prefix, long_start, value_too_long, no_free_leaf, no_free_room, old_refused, short_end, short_key, short_output, value_of}
use Rattle.history.specs.Stands.{Stands, answered, presumed, stands}
use Rattle.layout.specs.Examples.{header}
use Rattle.layout.specs.Places.{place_of}
use Rattle.lists.specs.All.{All}
use Rattle.lists.proofs.PartLaws.{drop-put_after, length-put, part-put, put-nil}
use Rattle.lists.specs.Part.{put}
use Rattle.model.specs.Answers.{Gives, accepted, answer_code, beyond, contains_answer, everything, get_answer, inverted, is_some, key_of, key_written, len_answer, long_bound, long_key, long_value, meets_sizes, no_leaf, no_room, range_answer, range_found, refuse_if, result_code, short, size_of, told}
use Rattle.model.specs.Good.{Bounds, Tiled, Within, limits}
use Rattle.model.specs.Leaves.{Node, Under, pairs_of}
use Rattle.model.specs.Limits.{key_limit, value_limit}
use Rattle.model.specs.Map.{Pair, first_in, lookup}
use Rattle.model.specs.MapSame.{pair_path}
use Rattle.model.proofs.PairLaws.{pairs_within, rising_pairs}
use Rattle.model.specs.Prefix.{prefix_end, prefix_range}
use Rattle.model.specs.Rules.{fresh, insert_rule, remove_rule}
use Rattle.model.proofs.ScanLaws.{first_lookup}
use Rattle.model.specs.Walk as walk
use Rattle.model.specs.declared.Range.{Range}
use Rattle.model.specs.declared.Refusal.{Refusal}
use Rattle.model.specs.declared.Refusal.TheVariants.{InvertedRange, LongKey, LongValue, NoLeaf, NoRoom, Shape, ShortOutput}
use Rattle.order.specs.Bytes.{Bytes, ◌≺◌}
use Rattle.order.specs.OrderLaws.{after, before, cmp_after, cmp_before, cmp_equal, equal, tri}
use Rattle.route.specs.Lookups.{Lies, value_lies}
use Rattle.tree_create.specs.Outcomes.{FreshBy, LenOutcome}
use Rattle.tree_create.specs.declared.Answered.{Answered}
use Rattle.tree_get.specs.Outcomes.{ContainsOutcome, GetOutcome, ValueOutcome, found, value_told}
use Rattle.tree_get.specs.Outcomes as reads
use Rattle.tree_get.specs.declared.Found.{Found}
use Rattle.prefixes.specs.End.{end_bytes}
use Rattle.prefixes.specs.Outcome.{PrefixBy, PrefixOutcome}
use Rattle.prefixes.specs.RangeLaws.{end_above, end_not_longer, made_exact}
use Rattle.prefixes.specs.declared.Span.{Span}
use Rattle.tree_insert.specs.Outcomes.{InsertBy, InsertOutcome}
use Rattle.tree_range.specs.Outcomes.{RangeValueOutcome, Scans, key_told, seen}
use Rattle.tree_range.specs.Outcomes as range
use Rattle.tree_range.specs.Scans.{Allowed}
use Rattle.tree_range.specs.Walked.{Walked, pair_seen, walked_all}
use Rattle.tree_range.specs.declared.Seen.{Seen}
use Rattle.tree_remove.specs.Outcomes.{RemoveBy, RemoveOutcome}

-- a key of the map and its value are within the bounds of all pairs

true_false : {A : Type 0} → true ≡ false → A
true_false e = cc e

none_some : {A B : Type 0} {v : A} → ◌≡◌ {A = math.Option A} none (some v) → B
none_some e = cc e

pub found_within : (B : Bounds) (k : Bytes) (m : List Pair) (v : Bytes) → All (Within B) m → lookup k m ≡ some v → (length k ≤ B.key_most) × (length v ≤ B.value_most)
unfolding lookup
found_within B k [] v a e = none_some e
found_within B k (p ∷ m) v a e =
    elim (tri k p.key) [
      | before l ↦ none_some (rw (cmp_before l) at e)
      | equal q ↦
          (let z : some p.value ≡ some v = rw (cmp_equal q) at e in
          let f : p.value ≡ v = cc in
          (rw q a.0.0, rw f at a.0.1))
      | after l ↦ found_within B k m v a.1 (rw (cmp_after l) at e)
    ]

-- the output behind what is written

front : (out : Bytes) {now_out : Bytes} (b : Bytes) → now_out ≡ put out 0 b → take (length b) now_out ≡ b
front out b e = ap (take (length b)) e ∙ part-put out 0 b (omega arith)

lasts : (out : Bytes) {now_out : Bytes} (b : Bytes) → length b ≤ length out → now_out ≡ put out 0 b → length now_out ≡ length out
lasts out b h e = ap length e ∙ length-put out 0 b (omega (arith, h))

behind : (out : Bytes) {now_out : Bytes} (b : Bytes) → now_out ≡ put out 0 b → drop (length b) now_out ≡ drop (length b) out
behind out b e = ap (drop (length b)) e ∙ drop-put_after out 0 b (length b) (omega arith) (omega arith)

module _ {s : State} {ns : List Node} {m : List Pair} {within : (kmost vmost : ℕ) → Type 0} (x : Stands s ns m within) where
  looked : (k : Bytes) {o : math.Option Bytes} → lookup k (pairs_of ns) ≡ o → lookup k m ≡ o
  looked k e = ap (lookup k) (sym x.pairs_are) ∙ e

  tiled : Tiled (limits s.header.fanout) ns
  tiled = (presumed x).tiles.tiled

  -- lookups

  module _ (k : Bytes) where
    get_told : (b : Bool) → long_key k ≡ b → (o : math.Option Bytes) → lookup k (pairs_of ns) ≡ o
        → GetSays s.arena k m (told (found (place_of s.header s.dir s.slots s.arena ns k)) (refuse_if b LongKey (accepted o)))
    get_told true e o l = record { refused = refl; long = ltb-true key_limit (length k) e }
    get_told false e none l = (looked k l, ltb-false key_limit (length k) e)
    get_told false e (some v) l = let q = value_lies (presumed x) k v l in (record { found = looked k l ∙ ap some (sym q.is); inside = q.inside }, ltb-false key_limit (length k) e)

    get_says : (r : Result (Option Found) Refusal) → GetOutcome s.header s.dir s.slots s.arena k r → GetSays s.arena k m r
    get_says r o = subst (GetSays s.arena k m) (sym (answered x (λ l. Gives result_code (told (found (place_of s.header s.dir s.slots s.arena l k)) (get_answer k l)) (answer_code (get_answer k l)) r) o).answer_is) (get_told (long_key k) refl (lookup k (pairs_of ns)) refl)

    contains_told : (b : Bool) → long_key k ≡ b → (o : math.Option Bytes) → lookup k (pairs_of ns) ≡ o → ContainsSays k m (told (λ (q : Bool). q) (refuse_if b LongKey (accepted (is_some o))))
    contains_told true e o l = record { refused = refl; long = ltb-true key_limit (length k) e }
    contains_told false e none l = (looked k l, ltb-false key_limit (length k) e)
    contains_told false e (some v) l = ((λ q. none_some (sym q ∙ looked k l)), ltb-false key_limit (length k) e)

    contains_says : (r : Result Bool Refusal) → ContainsOutcome s.header s.dir s.slots s.arena k r → ContainsSays k m r
    contains_says r o = subst (ContainsSays k m) (sym (answered x (λ l. Gives result_code (told (λ (q : Bool). q) (contains_answer k l)) (answer_code (contains_answer k l)) r) o).answer_is) (contains_told (long_key k) refl (lookup k (pairs_of ns)) refl)

    value_told_lem : (b : Bool) → long_key k ≡ b → (o : math.Option Bytes) → lookup k (pairs_of ns) ≡ o → value_told (refuse_if b LongKey (accepted o)) ≡ bytes_of (lookup k m)
    value_told_lem true e none l = ap bytes_of (sym (looked k l))
    value_told_lem true e (some v) l =
        absurd (omega (arith, ltb-true key_limit (length k) e, (found_within (limits s.header.fanout) k (pairs_of ns) v (pairs_within (limits s.header.fanout) ns tiled) l).0))
    value_told_lem false e none l = ap bytes_of (sym (looked k l))
    value_told_lem false e (some v) l = ap bytes_of (sym (looked k l))

    value_says : (r : Bytes) → ValueOutcome s.header s.dir s.slots s.arena k r → r ≡ bytes_of (lookup k m)
    value_says r o = answered x (λ l. r ≡ value_told (get_answer k l)) o ∙ value_told_lem (long_key k) refl (lookup k (pairs_of ns)) refl

  len_says : (r : Result ℕ Refusal) → LenOutcome s.header s.dir s.slots s.arena r → LenSays m r
  len_says r o = subst (LenSays m) (sym (answered x (λ l. Gives result_code (told (λ (n : ℕ). n) (len_answer l)) (answer_code (len_answer l)) r) o).answer_is) (ap length x.pairs_are)

  -- scans

  module _ (r : Range) (start end : Bytes) where
    scanned : {o : math.Option Pair} → first_in r start end (pairs_of ns) ≡ o → first_in r start end m ≡ o
    scanned e = ap (first_in r start end) (sym x.pairs_are) ∙ e

    abbrev place : Bytes → ℕ
    place = place_of s.header s.dir s.slots s.arena ns

    lies : (p : Pair) → first_in r start end (pairs_of ns) ≡ some p → Lies s.arena (place p.key) p.value
    lies p f = value_lies (presumed x) p.key p.value (first_lookup r start end (pairs_of ns) p (rising_pairs (limits s.header.fanout) ns tiled) f)

    seen_is : (out now_out : Bytes) (p : Pair) → first_in r start end (pairs_of ns) ≡ some p → now_out ≡ put out 0 p.key
        → pair_seen s.arena now_out (record { key = length p.key; place = record { 0 = place p.key }; value = length p.value }) ≡ p
    seen_is out now_out p f e =
        pair_path _ p (front out p.key e) (lies p f).is

    found_told_lem : (out now_out : Bytes) → Allowed r start end → (o : math.Option Pair) → first_in r start end (pairs_of ns) ≡ o → (d : Bool) → short (length out) (key_of o) ≡ d
        → now_out ≡ put out 0 (key_told (refuse_if d (ShortOutput (size_of (key_of o))) (accepted o)))
        → ScanSays s.arena r start end m out now_out (told (seen place) (refuse_if d (ShortOutput (size_of (key_of o))) (accepted o)))
    found_told_lem out now_out a none f true h e = true_false (sym h)
    found_told_lem out now_out a none f false h e = (scanned f, (e ∙ put-nil out 0, a))
    found_told_lem out now_out a (some p) f true h e = (short_key a p (scanned f) (ltb-true (length out) (length p.key) h), e ∙ put-nil out 0)
    found_told_lem out now_out a (some p) f false h e = (
      record {
        found = scanned f ∙ ap some (sym (seen_is out now_out p f e));
        inside = (lies p f).inside;
        fits = ltb-false (length out) (length p.key) h;
        rest = behind out p.key e;
        same_length = lasts out p.key (ltb-false (length out) (length p.key) h) e;
      },
      a,
    )

    scan_told_lem : (out now_out : Bytes) (a b c : Bool) → long_bound r.start start ≡ a → long_bound r.end end ≡ b → inverted r start end ≡ c
        → now_out ≡ put out 0 (key_told (key_written (length out) (refuse_if a LongKey (refuse_if b LongKey (refuse_if c InvertedRange (accepted (first_in r start end (pairs_of ns))))))))
        → ScanSays s.arena r start end m out now_out
        (told (seen place) (key_written (length out) (refuse_if a LongKey (refuse_if b LongKey (refuse_if c InvertedRange (accepted (first_in r start end (pairs_of ns))))))))
    scan_told_lem out now_out true b c i j k e = (long_start i, e ∙ put-nil out 0)
    scan_told_lem out now_out false true c i j k e = (long_end j, e ∙ put-nil out 0)
    scan_told_lem out now_out false false true i j k e = (inverted_range i j k, e ∙ put-nil out 0)
    scan_told_lem out now_out false false false i j k e =
        found_told_lem out now_out (record { start_short = i; end_short = j; upright = k }) (first_in r start end (pairs_of ns)) refl (short (length out) (key_of (first_in r start end (pairs_of ns)))) refl e

    scan_says : (out now_out : Bytes) (q : Result (Option Seen) Refusal) → Scans s.header s.dir s.slots s.arena ns (range_answer r start end (length out) ns) out now_out q
        → ScanSays s.arena r start end m out now_out q
    scan_says out now_out q o =
        subst (ScanSays s.arena r start end m out now_out) (sym o.answer_is)
        (scan_told_lem out now_out (long_bound r.start start) (long_bound r.end end) (inverted r start end) refl refl refl o.out_is)

    range_value_told : (o : math.Option Pair) → range.value_told (accepted o) ≡ bytes_of (value_of o)
    range_value_told none = refl
    range_value_told (some p) = refl

    range_value_by : (a b c : Bool) → long_bound r.start start ≡ a → long_bound r.end end ≡ b → inverted r start end ≡ c
        → RangeValueSays r start end m (range.value_told (refuse_if a LongKey (refuse_if b LongKey (refuse_if c InvertedRange (accepted (first_in r start end (pairs_of ns)))))))
    range_value_by true b c i j k = record { allowed = λ q. true_false (sym i ∙ q.start_short); refused = λ q. refl }
    range_value_by false true c i j k = record { allowed = λ q. true_false (sym j ∙ q.end_short); refused = λ q. refl }
    range_value_by false false true i j k = record { allowed = λ q. true_false (sym k ∙ q.upright); refused = λ q. refl }
    range_value_by false false false i j k = record {
      allowed = λ q. range_value_told (first_in r start end (pairs_of ns)) ∙ ap (λ (l : List Pair). bytes_of (value_of (first_in r start end l))) x.pairs_are;
      refused = λ q. absurd (q (record { start_short = i; end_short = j; upright = k }));
    }

    range_value_says : (v : Bytes) → RangeValueOutcome s.header s.dir s.slots s.arena r start end v → RangeValueSays r start end m v
    range_value_says v o =
        subst (RangeValueSays r start end m) (sym (answered x (λ l. v ≡ range.value_told (range_found r start end l)) o))
        (range_value_by (long_bound r.start start) (long_bound r.end end) (inverted r start end) refl refl refl)

  -- old values

  module _ (k : Bytes) where
    old_told_lem : (out now_out : Bytes) (may : Type 0) (why : Refusal → Type 0) → may → (o : math.Option Bytes) → lookup k (pairs_of ns) ≡ o → short (length out) o ≡ false → now_out ≡ put out 0 (old_bytes o)
        → OldSays k m out now_out may why (old_told o)
    old_told_lem out now_out may why a none l d e = (looked k l, (e ∙ put-nil out 0, a))
    old_told_lem out now_out may why a (some v) l d e =
        let f = ltb-false (length out) (length v) d in
        (record { found = looked k l ∙ ap some (sym (front out v e)); fits = f; rest = behind out v e; same_length = lasts out v f e }, a)

    module _ {r : Changed} {after : Lent} (out : Bytes) (may : Type 0) (why : Refusal → Type 0) where
      kept_says : {y : Refusal} → why y → Kept y s.header (lending s out) r after → OldSays k m out after.out may why r.old
      kept_says w b = subst (OldSays k m out after.out may why) (sym b.answer.answer_is) (w, b.out_is)

      made_says : (ms : List Node) → may → short (length out) (lookup k (pairs_of ns)) ≡ false → changes.Made (record { old = lookup k (pairs_of ns); nodes = ms }) s.header (lending s out) r after → OldSays k m out after.out may why r.old
      made_says ms a d b = subst (OldSays k m out after.out may why) (sym b.answer.answer_is) (old_told_lem out after.out may why a (lookup k (pairs_of ns)) refl d b.out_is)

    short_says : (out : Bytes) (may : Type 0) → may → (o : math.Option Bytes) → lookup k (pairs_of ns) ≡ o → short (length out) o ≡ true → OldRefused k m out may (ShortOutput (size_of o))
    short_says out may a none l h = true_false (sym h)
    short_says out may a (some v) l h = short_output a v (looked k l) (ltb-true (length out) (length v) h)

    fits_says : (out : Bytes) → short (length out) (lookup k (pairs_of ns)) ≡ false → OldFits k m out
    fits_says out h u e = ltb-false (length out) (length u) (rw (ap (lookup k) x.pairs_are ∙ e) at h)

    module _ (v out : Bytes) (r : Changed) (after : Lent) where
      abbrev May : Type 0
      May = MayInsert s.header.fanout (length s.dir) (length s.arena) k v ns

      abbrev Why : Refusal → Type 0
      Why = InsertRefused s.header.fanout (length s.dir) (length s.arena) k v ns m out

      not_long : long_key k ≡ false → long_value v ≡ false → PairNotLong k v
      not_long i j = (ltb-false key_limit (length k) i, ltb-false value_limit (length v) j)

      insert_told : (ms : List Node) (a b c d e : Bool) → long_key k ≡ a → long_value v ≡ b → short (length out) (lookup k (pairs_of ns)) ≡ c
          → no_leaf s.header.fanout (length s.dir) k v ns ≡ d → no_room s.header.fanout (length s.arena) k v ns ≡ e
          → ChangedBy (refuse_if a LongKey (refuse_if b LongValue (refuse_if c (ShortOutput (size_of (lookup k (pairs_of ns)))) (refuse_if d NoLeaf (refuse_if e NoRoom
          (accepted (record { old = lookup k (pairs_of ns); nodes = ms }))))))) s.header (lending s out) r after
          → OldSays k m out after.out May Why r.old
      insert_told ms true b c d e i j l f g o = kept_says out May Why (old_refused (key_too_long (ltb-true key_limit (length k) i))) o
      insert_told ms false true c d e i j l f g o = kept_says out May Why (value_too_long (ltb-false key_limit (length k) i) (ltb-true value_limit (length v) j)) o
      insert_told ms false false true d e i j l f g o = kept_says out May Why (old_refused (short_says out (PairNotLong k v) (not_long i j) (lookup k (pairs_of ns)) refl l)) o
      insert_told ms false false false true e i j l f g o = kept_says out May Why (no_free_leaf (not_long i j) (fits_says out l) f) o
      insert_told ms false false false false true i j l f g o = kept_says out May Why (no_free_room (not_long i j) (fits_says out l) f g) o
      insert_told ms false false false false false i j l f g o = made_says out May Why ms (record { not_long = not_long i j; leaf_free = f; room = g }) l o

      insert_says : InsertOutcome s.header k v (lending s out) r after → OldSays k m out after.out May Why r.old
      insert_says o =
          insert_told (insert_rule s.header.fanout k v ns) (long_key k) (long_value v) (short (length out) (lookup k (pairs_of ns)))
          (no_leaf s.header.fanout (length s.dir) k v ns) (no_room s.header.fanout (length s.arena) k v ns) refl refl refl refl refl
          (answered x (InsertBy s.header k v (lending s out) r after) o)

    module _ (out : Bytes) (r : Changed) (after : Lent) where
      remove_told : (ms : List Node) (a c : Bool) → long_key k ≡ a → short (length out) (lookup k (pairs_of ns)) ≡ c
          → ChangedBy (refuse_if a LongKey (refuse_if c (ShortOutput (size_of (lookup k (pairs_of ns)))) (accepted (record { old = lookup k (pairs_of ns); nodes = ms })))) s.header (lending s out) r after
          → OldSays k m out after.out (NotLong k) (OldRefused k m out (NotLong k)) r.old
      remove_told ms true c i l o = kept_says out (NotLong k) (OldRefused k m out (NotLong k)) (key_too_long (ltb-true key_limit (length k) i)) o
      remove_told ms false true i l o = kept_says out (NotLong k) (OldRefused k m out (NotLong k)) (short_says out (NotLong k) (ltb-false key_limit (length k) i) (lookup k (pairs_of ns)) refl l) o
      remove_told ms false false i l o = made_says out (NotLong k) (OldRefused k m out (NotLong k)) ms (ltb-false key_limit (length k) i) l o

      remove_says : RemoveOutcome s.header k (lending s out) r after → OldSays k m out after.out (NotLong k) (OldRefused k m out (NotLong k)) r.old
      remove_says o = remove_told (remove_rule true k ns) (long_key k) (short (length out) (lookup k (pairs_of ns))) refl refl (answered x (RemoveBy s.header k (lending s out) r after) o).changed

  -- creation

  create_told : (fanout : ℕ) (now_dir now_slots : List ℕ) (r : Answered) (b : Bool) → meets_sizes fanout (length s.dir) (length s.slots) (length s.arena) ≡ b
      → FreshBy (refuse_if (not b) Shape (accepted fresh)) fanout (header 0 0 0 0) s.dir s.slots s.arena now_dir now_slots r
      → CreateSays fanout (length s.dir) (length s.slots) (length s.arena) r.answer
  create_told fanout now_dir now_slots r true e o = subst (CreateSays fanout (length s.dir) (length s.slots) (length s.arena)) (sym o.answer_is) e
  create_told fanout now_dir now_slots r false e o = subst (CreateSays fanout (length s.dir) (length s.slots) (length s.arena)) (sym o.answer_is) (refl, e)

-- scan_prefix

refused_as : {x y : Refusal} → ◌≡◌ {A = Result Span Refusal} (Err x) (Err y) → y ≡ x
refused_as e = sym (cc e)

made_refused : {A : Type 0} {x : Span} {y : Refusal} → Ok x ≡ Err y → A
made_refused e = cc e

made_same : {x y : Span} → ◌≡◌ {A = Result Span Refusal} (Ok x) (Ok y) → x ≡ y
made_same e = cc e

prefix_refused : (p out now_out : Bytes) (y : Refusal) (a c : Bool) (e : math.Option Bytes) → long_key p ≡ a → prefix_end p ≡ e → short (length out) e ≡ c
    → PrefixBy (refuse_if a LongKey (refuse_if c (ShortOutput (size_of e)) (accepted (record { range = prefix_range e; end = e })))) out now_out (Err y)
    → PrefixRefused p out y × (now_out ≡ out)
prefix_refused p out now_out y true c e i j l o = (rw (refused_as (sym o.answer_is)) (long_prefix (ltb-true key_limit (length p) i)), o.out_is)
prefix_refused p out now_out y false true none i j l o = true_false (sym l)
prefix_refused p out now_out y false true (some q) i j l o = (rw (refused_as (sym o.answer_is)) (short_end (ltb-false key_limit (length p) i) q j (ltb-true (length out) (length q) l)), o.out_is)
prefix_refused p out now_out y false false e i j l o =
    made_refused (sym o.answer_is)

-- the end is above the prefix, and not longer
end_allowed : (p e : Bytes) → NotLong p → prefix_end p ≡ some e → Allowed (prefix_range (some e)) p e
end_allowed p e h j =
    let u : p ≺ e = subst (λ (o : math.Option Bytes). Under o p) j (end_above p) in
    record {
      start_short = le-ltb key_limit (length p) h;
      end_short = le-ltb key_limit (length e) (omega (arith, h, end_not_longer p e j));
      upright = rw (cmp_before u);
    }

prefix_made : (p out now_out : Bytes) (x : Span) (a c : Bool) (e : math.Option Bytes) → long_key p ≡ a → prefix_end p ≡ e → short (length out) e ≡ c → PrefixOutcome p out now_out (Ok x)
    → PrefixBy (refuse_if a LongKey (refuse_if c (ShortOutput (size_of e)) (accepted (record { range = prefix_range e; end = e })))) out now_out (Ok x) → PrefixLies p out now_out x
prefix_made p out now_out x true c e i j l q o = made_refused o.answer_is
prefix_made p out now_out x false true e i j l q o = made_refused o.answer_is
prefix_made p out now_out x false false none i j l q o =
    let n : x.end ≡ 0 = ap (λ (y : Span). y.end) (made_same o.answer_is) in
    let f = o.out_is ∙ put-nil out 0 in
    record {
      range_is = ap (λ (y : Span). y.range) (made_same o.answer_is) ∙ ap prefix_range (sym j);
      end_is = rw n (ap end_bytes (sym j));
      exact = λ k b. made_exact p out now_out x k b q;
      allowed = rw (ap (λ (y : Span). y.range) (made_same o.answer_is)) (record { start_short = i; end_short = refl; upright = refl });
      fits = omega (arith, n);
      rest = ap (drop x.end) f;
      same_length = ap length f;
      not_long = ltb-false key_limit (length p) i;
    }
prefix_made p out now_out x false false (some b) i j l q o =
    let n : x.end ≡ length b = ap (λ (y : Span). y.end) (made_same o.answer_is) in
    let f = ltb-false (length out) (length b) l in
    record {
      range_is = ap (λ (y : Span). y.range) (made_same o.answer_is) ∙ ap prefix_range (sym j);
      end_is = rw n (front out b o.out_is ∙ ap end_bytes (sym j));
      exact = λ k y. made_exact p out now_out x k y q;
      allowed = rw (ap (λ (y : Span). y.range) (made_same o.answer_is), n, front out b o.out_is) (end_allowed p b (ltb-false key_limit (length p) i) j);
      fits = omega (arith, n, f);
      rest = rw n (behind out b o.out_is);
      same_length = lasts out b f o.out_is;
      not_long = ltb-false key_limit (length p) i;
    }

prefix_says : (p out now_out : Bytes) (r : Result Span Refusal) → PrefixOutcome p out now_out r → PrefixSays p out now_out r
prefix_says p out now_out (Ok y) o = prefix_made p out now_out y (long_key p) (short (length out) (prefix_end p)) (prefix_end p) refl refl refl o o
prefix_says p out now_out (Err y) o = prefix_refused p out now_out y (long_key p) (short (length out) (prefix_end p)) (prefix_end p) refl refl refl o

-- all together

read_says : {s : State} {ns : List Node} {m : List Pair} {within : (kmost vmost : ℕ) → Type 0} → Stands s ns m within → (c : Reading s) → ReadSays c ns m
read_says x (holds_index r o) = o.complete x.index
read_says x (len r o) = len_says x r o
read_says x (get k r o) = get_says x k r o
read_says x (get_value k r o) = value_says x k r o
read_says x (contains_key k r o) = contains_says x k r o
read_says {s} x (leaf_at place r o) = answered x (λ l. reads.Shows s.header s.dir s.slots s.arena place l r) o
read_says {s} x (first_in_range range start end out now_out r o) =
    scan_says x range start end out now_out r (answered x (λ l. Scans s.header s.dir s.slots s.arena l (range_answer range start end (length out) l) out now_out r) o)
read_says x (range_value range start end r o) = range_value_says x range start end r o
read_says {s} x (get_gt k out now_out r o) =
    scan_says x beyond k [] out now_out r (answered x (λ l. Scans s.header s.dir s.slots s.arena l (range_answer beyond k [] (length out) l) out now_out r) o)
read_says {s} x (first out now_out r o) =
    scan_says x everything [] [] out now_out r (answered x (λ l. Scans s.header s.dir s.slots s.arena l (range_answer everything [] [] (length out) l) out now_out r) o)
read_says x (scan_prefix p out now_out r o) = prefix_says p out now_out r o

pub answers : {s t : State} (h : History s) (c : Call s t) → Says c (leaves_of h) (map_of h)
answers h (read c) = read_says (stands h) c
answers h (insert k v out r l o) = insert_says (stands h) k v out r l o
answers h (remove k out r l o) = remove_says (stands h) k out r l o
answers h (clear now_dir now_slots r o) = (o.held (stands h).index).answer_is
answers {s} h (create fanout now_dir now_slots r o) =
    create_told (stands h) fanout now_dir now_slots r (meets_sizes fanout (length s.dir) (length s.slots) (length s.arena)) refl o

-- and a walk through a range, from call to call with "excluded, last key", lists the map's pairs in it
pub walk_answers : {s : State} (h : History s) (n : ℕ) (r : Range) (start end : Bytes) (ps : List Pair) → Allowed r start end → length (map_of h) ≤ n
    → Walked s.header s.dir s.slots s.arena n r start end ps → ps ≡ walk.within r start end (map_of h)
walk_answers h n r start end ps a l q =
    let x = stands h in
    let e = ap pairs_of x.leaves_are ∙ x.pairs_are in
    walked_all x.index n r start end ps a (rw e l) q ∙ ap (walk.within r start end) e
