-- Histories there are: an index in a pool of two leaves and three arena bytes, made by creation, and 61 put in it with the value 01. The sizes are those
-- of demand 3 for P = K = V = 1, to the byte.
-- Assumes nothing.
use Rattle.std.specs.Prelude.{◌≤◌, [], ◌∷◌, ◌≡◌, refl, length, None, Ok}
use Rattle.std.proofs.Common.{subst, arith}
use Rattle.changes.specs.Outcomes.{Lent, lent}
use Rattle.changes.specs.declared.Changed.{Changed}
use Rattle.history.specs.Demand3.{sized_accepted}
use Rattle.history.specs.Histories.{History, Within, begin, insert, map_of, on, state}
use Rattle.layout.specs.Buffers.{low_at, low_word, pair_at, slot_words, suffix_at, value_at}
use Rattle.layout.specs.Examples.{Blank, header}
use Rattle.layout.proofs.Examples.{blank_holds, blank_w}
use Rattle.layout.specs.Lays.{Holds}
use Rattle.layout.specs.LaysUnique.{holds_unique}
use Rattle.lists.specs.Part.{put}
use Rattle.model.specs.Charge.{charge, weight}
use Rattle.model.specs.Leaves.{at_owner, node, owned}
use Rattle.model.specs.Limits.{arena_limit, fanout_least, fanout_limit, key_limit, pool_least, pool_limit, value_limit}
use Rattle.model.specs.Map.{pair}
use Rattle.model.specs.Map as map
use Rattle.model.specs.Rules.{free_from, fresh, insert_here, insert_rule, lowest_free, split_if_full, used}
use Rattle.order.specs.Bytes.{Bytes}
use Rattle.tree_insert.specs.Outcomes.{InsertBy, InsertOutcome}

blank : Blank 3 (0 ∷ 0 ∷ []) (0 ∷ 0 ∷ 0 ∷ 0 ∷ 0 ∷ 0 ∷ []) (0 ∷ 0 ∷ 0 ∷ [])
unfolding fanout_least fanout_limit pool_least pool_limit arena_limit
blank =
    record {
      sizes = record { fanout_enough = omega arith; fanout_most = omega arith; pool_enough = omega arith; pool_most = omega arith; slots_are = refl; arena_most = omega arith };
      first_word = refl;
      low_word_eq = refl;
    }

begun : History (state (header 3 1 0 0) (0 ∷ 0 ∷ []) (0 ∷ 0 ∷ 0 ∷ 0 ∷ 0 ∷ 0 ∷ []) (0 ∷ 0 ∷ 0 ∷ []))
unfolding put fanout_least fanout_limit pool_least pool_limit arena_limit
begun =
    begin 3 (0 ∷ 0 ∷ []) (0 ∷ 0 ∷ 0 ∷ 0 ∷ 0 ∷ 0 ∷ []) (0 ∷ 0 ∷ 0 ∷ []) (0 ∷ 0 ∷ []) (0 ∷ 0 ∷ 0 ∷ 0 ∷ 0 ∷ 0 ∷ []) (record { header = header 3 1 0 0; answer = Ok tt })
    (record { answer_is = refl; code_is = refl; fresh = record { header_is = refl; dir_is = refl; slots_are = refl }; holds = blank_holds blank }) refl

-- the insert leaves one pair count, one slot word and the pair's two bytes

put_in : Holds (header 3 1 1 2) (1 ∷ 0 ∷ []) (0x1000001 ∷ 0 ∷ 0 ∷ 0 ∷ 0 ∷ 0 ∷ []) (0x61 ∷ 0x01 ∷ 0 ∷ []) (node 0 [] (pair (0x61 ∷ []) (0x01 ∷ []) ∷ []) ∷ [])
unfolding charge weight low_at low_word pair_at slot_words suffix_at value_at
put_in = record {
  sizes = blank.sizes;
  leaves_are = refl;
  pairs_are = refl;
  charge_is = refl;
  lays = record {
    leaves = (record { number_is = refl; count_is = refl; low_is = refl; no_value = refl; pairs_are = refl }, tt);
    ordered = (omega arith, (omega arith, omega arith));
  };
}

abbrev before : Lent
before = lent (0 ∷ 0 ∷ []) (0 ∷ 0 ∷ 0 ∷ 0 ∷ 0 ∷ 0 ∷ []) (0 ∷ 0 ∷ 0 ∷ []) (0 ∷ [])

abbrev after : Lent
after = lent (1 ∷ 0 ∷ []) (0x1000001 ∷ 0 ∷ 0 ∷ 0 ∷ 0 ∷ 0 ∷ []) (0x61 ∷ 0x01 ∷ 0 ∷ []) (0 ∷ [])

abbrev answer : Changed
answer = record { header = header 3 1 1 2; old = Ok None }

answered : InsertBy (header 3 1 0 0) (0x61 ∷ []) (0x01 ∷ []) before answer after fresh
unfolding key_limit value_limit map.lookup map.put charge weight insert_rule lowest_free free_from used at_owner owned insert_here split_if_full put
answered = record {
  answer = record { answer_is = refl; code_is = refl };
  fanout_is = refl;
  holds = put_in;
  out_is = refl;
  same_dir = refl;
  same_slots = refl;
  same_arena = refl;
}

inserts : InsertOutcome (header 3 1 0 0) (0x61 ∷ []) (0x01 ∷ []) before answer after
inserts = record {
  damaged = λ n. absurd (n (blank_w blank));
  held = λ w. subst (InsertBy (header 3 1 0 0) (0x61 ∷ []) (0x01 ∷ []) before answer after) (holds_unique (blank_holds blank) w.holds) answered;
}

pub example : History (state (header 3 1 1 2) (1 ∷ 0 ∷ []) (0x1000001 ∷ 0 ∷ 0 ∷ 0 ∷ 0 ∷ 0 ∷ []) (0x61 ∷ 0x01 ∷ 0 ∷ []))
example = on begun (insert (0x61 ∷ []) (0x01 ∷ []) (0 ∷ []) answer after inserts)

pub example_map : map_of example ≡ pair (0x61 ∷ []) (0x01 ∷ []) ∷ []
unfolding example begun map.put
example_map = refl

pub example_within : Within 1 1 example
unfolding example begun
example_within = ((omega arith, omega arith), tt)

-- the sizing speaks of it: of an insert into the fresh index, key and value of a byte at most and an output of a byte at least, no outcome that the
-- contract allows is a refusal; `inserts` is such an outcome
pub example_sized : (k v out : Bytes) (r : Changed) (l : Lent) → length k ≤ 1 → length v ≤ 1 → 1 ≤ length out
    → InsertOutcome (header 3 1 0 0) k v (lent (0 ∷ 0 ∷ []) (0 ∷ 0 ∷ 0 ∷ 0 ∷ 0 ∷ 0 ∷ []) (0 ∷ 0 ∷ 0 ∷ []) out) r l → r.old ≡ Ok None
unfolding map.put map.lookup begun key_limit value_limit
example_sized k v out r l hk hv ho o = sized_accepted begun 1 1 1 tt (omega arith) (omega arith) k v out r l hk hv (omega arith) o (omega arith) (omega arith) ho
