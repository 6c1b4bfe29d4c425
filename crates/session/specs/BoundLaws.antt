-- How long a line's answer can be: within the ceilings, and on a good leaf list, at most `answer_limit` bytes.
-- Assumes nothing.
use Rattle.std.specs.Prelude.{ℕ, ◌+◌, ◌*◌, ◌≤◌, Bool, cond, false, true, List, [], ◌∷◌, ◌≡◌, refl, length}
use Rattle.std.proofs.Common.{suc-mul, length-append}
use native.Mathlib.Omega.{arith}
use Rattle.std.proofs.Math.Option.{Option, none, some}
use Rattle.answers.specs.AnswerLaws.{counts_length, five_length, line_length, three_length, two_length}
use Rattle.answers.specs.Answers.{answered, bad_word, end_word, leaf_word, line_word, none_word, old_word, pair_word, refused_word, star, value_word}
use Rattle.answers.specs.Answers as said
use Rattle.lines.specs.Grammar.{Command, bytes_text, new_word, number_text}
use Rattle.lines.specs.Grammar.Command.{dels, gets, makes, nexts, puts, shows}
use Rattle.lines.specs.HexLaws.{hex_length}
use Rattle.lines.specs.NumberLaws.{number_most}
use Rattle.model.specs.Answers.{Answer, Changed, accepted, beyond, create_answer, get_answer, get_gt_answer, insert_answer, key_of, key_written, long_key, long_value, no_leaf, no_room, number_of, refuse_if, refused, remove_answer, short, shown, size_of}
use Rattle.model.specs.Charge.{charge, weight}
use Rattle.model.specs.Good.{Good, Tiled, limits}
use Rattle.model.specs.Leaves.{Node, low_of, pairs_of}
use Rattle.model.specs.Limits.{key_limit}
use Rattle.model.specs.Map.{Pair, first_in, lookup}
use Rattle.model.specs.MapParts.{weight-append, weight-remove}
use Rattle.model.proofs.PairLaws.{rising_pairs}
use Rattle.model.specs.Rules.{insert_rule, remove_rule}
use Rattle.model.proofs.ScanLaws.{first_lookup}
use Rattle.model.specs.declared.Refusal.{Refusal}
use Rattle.model.specs.declared.Refusal.TheVariants.{LongKey, LongValue, NoLeaf, NoRoom, Shape, ShortOutput}
use Rattle.order.specs.Bytes.{Bytes}
use Rattle.session.specs.Session.{answer_limit}
use Rattle.replies.specs.Texts.{changed_text, get_text, leaf_text, leaves_text, new_text, next_text, old_text, refusal_text}
use Rattle.session.specs.Turns.{State, above, turn, arena_ceiling, closed_turn, line_turn, new_turn, open_turn, output_room, pool_ceiling, serve_turn}
use Rattle.session.specs.Turns.State.{closed, opened}

bytes_most : (s : Bytes) → length (bytes_text s) ≤ 2 * length s + 1
unfolding bytes_text
bytes_most [] = omega arith
bytes_most (b ∷ s) = omega (arith, hex_length (b ∷ s))

-- the short answers

pub refusal_most : (x : Refusal) → length (refusal_text x) ≤ answer_limit
unfolding answer_limit
refusal_most x = omega (arith, two_length refused_word (number_text (number_of x)), number_most (number_of x))

pub none_most : length (answered said.none) ≤ answer_limit
unfolding answer_limit
none_most = omega (arith, line_length none_word)

pub end_most : length (answered said.end) ≤ answer_limit
unfolding answer_limit
end_most = omega (arith, line_length end_word)

pub made_most : length (answered said.made) ≤ answer_limit
unfolding answer_limit
made_most = omega (arith, line_length new_word)

pub bad_most : length (answered said.bad) ≤ answer_limit
unfolding answer_limit
bad_most = omega (arith, two_length bad_word line_word)

-- those with a value or a pair of the index

value_most : (v : Bytes) → length v ≤ arena_ceiling → length (answered (said.value v)) ≤ answer_limit
unfolding answer_limit arena_ceiling
value_most v h = omega (arith, two_length value_word (bytes_text v), bytes_most v)

old_most : (v : Bytes) → length v ≤ arena_ceiling → length (answered (said.old v)) ≤ answer_limit
unfolding answer_limit arena_ceiling
old_most v h = omega (arith, two_length old_word (bytes_text v), bytes_most v)

pair_most : (k v : Bytes) → length k + length v ≤ arena_ceiling → length (answered (said.pair k v)) ≤ answer_limit
unfolding answer_limit arena_ceiling
pair_most k v h = omega (arith, three_length pair_word (bytes_text k) (bytes_text v), bytes_most k, bytes_most v)

pairs_charge : (ns : List Node) → weight (pairs_of ns) ≤ charge ns
unfolding charge weight
pairs_charge [] = omega arith
pairs_charge (n ∷ ns) = omega (arith, weight-append n.pairs (pairs_of ns), pairs_charge ns)

lookup-weight : (k v : Bytes) (m : List Pair) → lookup k m ≡ some v → length k + length v ≤ weight m
lookup-weight k v m e = omega (arith, rw e at (weight-remove k m))

pub lookup-charge : (k v : Bytes) (ns : List Node) → lookup k (pairs_of ns) ≡ some v → length k + length v ≤ charge ns
lookup-charge k v ns e = omega (arith, lookup-weight k v (pairs_of ns) e, pairs_charge ns)

-- what holds of every refusal, and of an accepted change, holds of the answer
module _ (P : Answer Changed → Type 0) (each : (x : Refusal) → P (refused x)) where
  changed_if : (b : Bool) (x : Refusal) (m : Answer Changed) → P m → P (refuse_if b x m)
  changed_if true x m h = each x
  changed_if false x m h = h

  insert_every : (g q b : ℕ) (k v : Bytes) (out : ℕ) (ns : List Node) → P (accepted (record { old = lookup k (pairs_of ns); nodes = insert_rule g k v ns })) → P (insert_answer g q b k v out ns)
  insert_every g q b k v out ns h =
      let old : Option Bytes = lookup k (pairs_of ns) in
      let made : Answer Changed = accepted (record { old = old; nodes = insert_rule g k v ns }) in
      let room : Answer Changed = refuse_if (no_room g b k v ns) NoRoom made in
      let leaf : Answer Changed = refuse_if (no_leaf g q k v ns) NoLeaf room in
      let fit : Answer Changed = refuse_if (short out old) (ShortOutput (size_of old)) leaf in
      let long : Answer Changed = refuse_if (long_value v) LongValue fit in
      changed_if (long_key k) LongKey long
      (changed_if (long_value v) LongValue fit
      (changed_if (short out old) (ShortOutput (size_of old)) leaf
      (changed_if (no_leaf g q k v ns) NoLeaf room (changed_if (no_room g b k v ns) NoRoom made h))))

  remove_every : (k : Bytes) (out : ℕ) (ns : List Node) → P (accepted (record { old = lookup k (pairs_of ns); nodes = remove_rule true k ns })) → P (remove_answer true k out ns)
  remove_every k out ns h =
      let old : Option Bytes = lookup k (pairs_of ns) in
      let made : Answer Changed = accepted (record { old = old; nodes = remove_rule true k ns }) in
      changed_if (long_key k) LongKey (refuse_if (short out old) (ShortOutput (size_of old)) made) (changed_if (short out old) (ShortOutput (size_of old)) made h)

-- the old value of an accepted change fits the program's buffer for it
abbrev pub OldFits : Answer Changed → Type 0
OldFits (refused x) = Unit {0}
OldFits (accepted c) = size_of c.old ≤ output_room

-- what is known of an index within the ceilings
pub record Small (f p a : ℕ) (ns : List Node) : Type 0 where
  pub pool_most : p ≤ pool_ceiling
  pub arena_most : a ≤ arena_ceiling
  pub good : Good (limits f) p a ns

module _ {f p a : ℕ} {ns : List Node} (s : Small f p a ns) where
  pub value_small : (k v : Bytes) → lookup k (pairs_of ns) ≡ some v → length v ≤ arena_ceiling
  value_small k v e = omega (arith, lookup-charge k v ns e, s.good.fits.charged, s.arena_most)

  pair_small : (k : Bytes) (q : Pair) → first_in beyond k [] (pairs_of ns) ≡ some q → length q.key + length q.value ≤ arena_ceiling
  pair_small k q e =
      let r = rising_pairs (limits f) ns s.good.tiles.tiled in
      omega (arith, lookup-charge q.key q.value ns (first_lookup beyond k [] (pairs_of ns) q r e), s.good.fits.charged, s.arena_most)

  got_most : (k : Bytes) (o : Option Bytes) → lookup k (pairs_of ns) ≡ o → length (get_text (accepted o)) ≤ answer_limit
  got_most k none e = none_most
  got_most k (some v) e = value_most v (value_small k v e)

  get_if : (b : Bool) (x : Refusal) (m : Answer (Option Bytes)) → length (get_text m) ≤ answer_limit → length (get_text (refuse_if b x m)) ≤ answer_limit
  get_if true x m h = refusal_most x
  get_if false x m h = h

  pub get_most : (k : Bytes) → length (get_text (get_answer k ns)) ≤ answer_limit
  get_most k = get_if (long_key k) LongKey (accepted (lookup k (pairs_of ns))) (got_most k (lookup k (pairs_of ns)) refl)

  pub old_text_most : (k : Bytes) (o : Option Bytes) → lookup k (pairs_of ns) ≡ o → length (old_text o) ≤ answer_limit
  old_text_most k none e = none_most
  old_text_most k (some v) e = old_most v (value_small k v e)

  pub insert_most : (g q b : ℕ) (k v : Bytes) (out : ℕ) → length (changed_text (insert_answer g q b k v out ns)) ≤ answer_limit
  insert_most g q b k v out = insert_every (λ m. length (changed_text m) ≤ answer_limit) refusal_most g q b k v out ns (old_text_most k (lookup k (pairs_of ns)) refl)

  pub remove_most : (k : Bytes) (out : ℕ) → length (changed_text (remove_answer true k out ns)) ≤ answer_limit
  remove_most k out = remove_every (λ m. length (changed_text m) ≤ answer_limit) refusal_most k out ns (old_text_most k (lookup k (pairs_of ns)) refl)

  -- the old value fits the buffer for it

  old_fits : (k : Bytes) (o : Option Bytes) → lookup k (pairs_of ns) ≡ o → size_of o ≤ output_room
  unfolding arena_ceiling output_room
  old_fits k none e = omega arith
  old_fits k (some v) e = omega (arith, value_small k v e)

  pub insert_old_fits : (g q b : ℕ) (k v : Bytes) (out : ℕ) → OldFits (insert_answer g q b k v out ns)
  insert_old_fits g q b k v out = insert_every OldFits (λ x. tt) g q b k v out ns (old_fits k (lookup k (pairs_of ns)) refl)

  pub remove_old_fits : (k : Bytes) (out : ℕ) → OldFits (remove_answer true k out ns)
  remove_old_fits k out = remove_every OldFits (λ x. tt) k out ns (old_fits k (lookup k (pairs_of ns)) refl)

  next_if : (b : Bool) (x : Refusal) (m : Answer (Option Pair)) → length (next_text m) ≤ answer_limit → length (next_text (refuse_if b x m)) ≤ answer_limit
  next_if true x m h = refusal_most x
  next_if false x m h = h

  found_most : (k : Bytes) (o : Option Pair) → first_in beyond k [] (pairs_of ns) ≡ o → length (next_text (accepted o)) ≤ answer_limit
  found_most k none e = end_most
  found_most k (some q) e = pair_most q.key q.value (pair_small k q e)

  pub next_most : (k : Bytes) (out : ℕ) → length (next_text (get_gt_answer k out ns)) ≤ answer_limit
  next_most k out = go (long_key k)
    where
      go : (b : Bool) → length (next_text (key_written out (refuse_if b LongKey (accepted (first_in beyond k [] (pairs_of ns)))))) ≤ answer_limit
      go true = refusal_most LongKey
      go false =
          let found : Option Pair = first_in beyond k [] (pairs_of ns) in
          next_if (short out (key_of found)) (ShortOutput (size_of (key_of found))) (accepted found) (found_most k found refl)

-- `leaves`

leaf_most : (n : Node) (u : Option Bytes) → length n.low ≤ 512 → size_of u ≤ 512 → length (leaf_text (shown n u)) ≤ 2080
leaf_most n none l h =
    omega (
      arith,
      five_length leaf_word (bytes_text n.low) star (shown n none).prefix (shown n none).pairs,
      bytes_most n.low,
      counts_length (shown n none).prefix (shown n none).pairs,
      number_most (shown n none).prefix,
      number_most (shown n none).pairs,
    )
leaf_most n (some u) l h =
    omega (
      arith,
      five_length leaf_word (bytes_text n.low) (bytes_text u) (shown n (some u)).prefix (shown n (some u)).pairs,
      bytes_most n.low,
      bytes_most u,
      counts_length (shown n (some u)).prefix (shown n (some u)).pairs,
      number_most (shown n (some u)).prefix,
      number_most (shown n (some u)).pairs,
    )

low_most : (f : ℕ) (ns : List Node) → Tiled (limits f) ns → size_of (low_of ns) ≤ 512
unfolding key_limit
low_most f [] t = omega arith
low_most f (n ∷ ns) t = t.0.0.low_within

each_most : (f : ℕ) (ns : List Node) → Tiled (limits f) ns → length (leaves_text ns) ≤ length ns * 2080
each_most f [] t = omega arith
each_most f (n ∷ ns) t =
    rw (length-append (leaf_text (shown n (low_of ns))) (leaves_text ns), suc-mul)
    (omega (arith, leaf_most n (low_of ns) (low_most f (n ∷ ns) t) (low_most f ns t.1), each_most f ns t.1))

pub leaves_most : {f p a : ℕ} {ns : List Node} → Small f p a ns → length (leaves_text ns) ≤ answer_limit
unfolding answer_limit pool_ceiling
leaves_most {f} {p} {a} {ns} s = omega (arith, each_most f ns s.good.tiles.tiled, s.good.fits.counted, s.pool_most)

-- `new`

pub opens_most : (m : Answer (List Node)) → length (new_text m) ≤ answer_limit
opens_most (refused x) = refusal_most x
opens_most (accepted ns) = made_most

open_turn_most : (z : State) (f p a : ℕ) (m : Answer (List Node)) → length (open_turn z f p a m).text ≤ answer_limit
open_turn_most z f p a (refused x) = refusal_most x
open_turn_most z f p a (accepted ns) = made_most

pub new_turn_most : (z : State) (f p a : ℕ) → length (new_turn z f p a).text ≤ answer_limit
new_turn_most z f p a = go (above f p a)
  where
    go : (b : Bool) → length (cond b (turn (refusal_text Shape) z) (open_turn z f p a (create_answer f p (f * p) a))).text ≤ answer_limit
    go true = refusal_most Shape
    go false = open_turn_most z f p a (create_answer f p (f * p) a)

-- any line

abbrev pub SmallState : State → Type 0
SmallState closed = Unit {0}
SmallState (opened f p a ns) = Small f p a ns

serve_turn_most : {f p a : ℕ} {ns : List Node} → Small f p a ns → (c : Command) → length (serve_turn f p a ns c).text ≤ answer_limit
serve_turn_most {f} {p} {a} {ns} s (makes g q b) = new_turn_most (opened f p a ns) g q b
serve_turn_most {f} {p} {a} s (puts k v) = insert_most s f p a k v output_room
serve_turn_most s (gets k) = get_most s k
serve_turn_most s (dels k) = remove_most s k output_room
serve_turn_most s (nexts k) = next_most s k output_room
serve_turn_most s shows = leaves_most s

closed_turn_most : (c : Command) → length (closed_turn c).text ≤ answer_limit
closed_turn_most (makes g q b) = new_turn_most closed g q b
closed_turn_most (puts k v) = bad_most
closed_turn_most (gets k) = bad_most
closed_turn_most (dels k) = bad_most
closed_turn_most (nexts k) = bad_most
closed_turn_most shows = bad_most

pub turn_most : (z : State) (c : Option Command) → SmallState z → length (line_turn z c).text ≤ answer_limit
turn_most closed none s = bad_most
turn_most closed (some c) s = closed_turn_most c
turn_most (opened f p a ns) none s = bad_most
turn_most (opened f p a ns) (some c) s = serve_turn_most s c
