-- Document 01's whole run: its lines, and that its answers are what `Runs` says.
-- Assumes nothing.
use Rattle.std.specs.Prelude.{ℕ, Bool, cond, false, true, [], ◌∷◌, ◌++◌, ◌≡◌, refl, eqb}
use Rattle.std.proofs.Common.{append-nil, subst, sym, arith, lit<, lit≤}
use Rattle.std.proofs.Math.Option.{some}
use Rattle.std.proofs.lemmas.Bool.{eqb-false}
use Rattle.answers.specs.Answers.{counts_text, lined}
use Rattle.lines.specs.Grammar.{Command, Says, ◌␣◌, bytes_text, digit_of, digits_of, gets, hex_of, makes, number_text, puts, shows}
use Rattle.lists.specs.All.{All}
use Rattle.model.specs.Charge.{charge, weight}
use Rattle.model.specs.Leaves.{at_owner, node, owned, owner}
use Rattle.model.specs.Limits.{arena_limit, fanout_least, fanout_limit, key_limit, pool_least, pool_limit, value_limit}
use Rattle.model.specs.Map.{lookup, pair, put}
use Rattle.model.specs.Rules.{cut_key, free_from, halves, insert_here, insert_rule, lowest_free, split_if_full, used}
use Rattle.order.specs.Bytes.{Bytes, cmp, common, separator}
use Rattle.session.specs.Takes.{Feeds}
use Rattle.session.specs.TakeLaws.{feeds_append, feeds_line}
use Rattle.session.specs.Turns.{State, Turn, arena_ceiling, closed, fanout_ceiling, line_turn, opened, output_room, pool_ceiling, turn}
use Rattle.script.specs.Script.{Runs}

-- a line fed, with its newline

abbrev clear : Bytes → Bool
clear [] = true
clear (b ∷ l) = cond (eqb b 10) false (clear l)

clear_all : (l : Bytes) → clear l ≡ true → All (λ (b : ℕ). b ≡ 10 → ⊥) l
clear_all [] e = tt
clear_all (b ∷ l) e = go (eqb b 10) refl e (clear_all l)
  where
    go : (t : Bool) → eqb b 10 ≡ t → cond t false (clear l) ≡ true → (clear l ≡ true → All (λ (c : ℕ). c ≡ 10 → ⊥) l) → All (λ (c : ℕ). c ≡ 10 → ⊥) (b ∷ l)
    go true i j h = absurd (let z : ◌≡◌ {A = ℕ} 0 1 = cc (j) in omega (arith, z))
    go false i j h = (eqb-false b 10 i, h j)

told : (z : State) (line text : Bytes) (y : State) (c : Command) → clear line ≡ true → Says line c → line_turn z (some c) ≡ turn text y
    → Feeds z [] (line ++ (10 ∷ [])) text y []
told z line text y c e s t = subst (λ (r : Turn). Feeds z [] (line ++ (10 ∷ [])) r.text r.state []) t (feeds_line z [] line (some c) (clear_all line e) s)

-- each line, what it says, and its answer

-- `new 3 4 64` gives `new`
abbrev pub made_line : Bytes
made_line = 0x6e ∷ 0x65 ∷ 0x77 ∷ 0x20 ∷ 0x33 ∷ 0x20 ∷ 0x34 ∷ 0x20 ∷ 0x36 ∷ 0x34 ∷ []

abbrev pub made : Command
made = makes 3 4 64

abbrev pub made_text : Bytes
made_text = 0x6e ∷ 0x65 ∷ 0x77 ∷ 0x0a ∷ []

-- `put 61 01` gives `none`
abbrev pub first_line : Bytes
first_line = 0x70 ∷ 0x75 ∷ 0x74 ∷ 0x20 ∷ 0x36 ∷ 0x31 ∷ 0x20 ∷ 0x30 ∷ 0x31 ∷ []

abbrev pub first : Command
first = puts (0x61 ∷ []) (0x01 ∷ [])

abbrev pub first_text : Bytes
first_text = 0x6e ∷ 0x6f ∷ 0x6e ∷ 0x65 ∷ 0x0a ∷ []

-- `put 62 02` gives `none`
abbrev pub second_line : Bytes
second_line = 0x70 ∷ 0x75 ∷ 0x74 ∷ 0x20 ∷ 0x36 ∷ 0x32 ∷ 0x20 ∷ 0x30 ∷ 0x32 ∷ []

abbrev pub second : Command
second = puts (0x62 ∷ []) (0x02 ∷ [])

abbrev pub second_text : Bytes
second_text = 0x6e ∷ 0x6f ∷ 0x6e ∷ 0x65 ∷ 0x0a ∷ []

-- `put 63 03` gives `none`
abbrev pub third_line : Bytes
third_line = 0x70 ∷ 0x75 ∷ 0x74 ∷ 0x20 ∷ 0x36 ∷ 0x33 ∷ 0x20 ∷ 0x30 ∷ 0x33 ∷ []

abbrev pub third : Command
third = puts (0x63 ∷ []) (0x03 ∷ [])

abbrev pub third_text : Bytes
third_text = 0x6e ∷ 0x6f ∷ 0x6e ∷ 0x65 ∷ 0x0a ∷ []

-- `leaves` gives `leaf - 62 0 1`, `leaf 62 * 0 2`
abbrev pub shown_line : Bytes
shown_line = 0x6c ∷ 0x65 ∷ 0x61 ∷ 0x76 ∷ 0x65 ∷ 0x73 ∷ []

abbrev pub shown : Command
shown = shows

abbrev pub shown_text : Bytes
shown_text = 0x6c ∷ 0x65 ∷ 0x61 ∷ 0x66 ∷ 0x20 ∷ 0x2d ∷ 0x20 ∷ 0x36 ∷ 0x32 ∷ 0x20 ∷ 0x30 ∷ 0x20 ∷ 0x31 ∷ 0x0a ∷ 0x6c ∷ 0x65 ∷ 0x61 ∷ 0x66 ∷ 0x20 ∷ 0x36 ∷ 0x32 ∷ 0x20 ∷ 0x2a ∷ 0x20 ∷ 0x30 ∷ 0x20 ∷ 0x32 ∷ 0x0a ∷ []

-- `get 62` gives `value 02`
abbrev pub got_line : Bytes
got_line = 0x67 ∷ 0x65 ∷ 0x74 ∷ 0x20 ∷ 0x36 ∷ 0x32 ∷ []

abbrev pub got : Command
got = gets (0x62 ∷ [])

abbrev pub got_text : Bytes
got_text = 0x76 ∷ 0x61 ∷ 0x6c ∷ 0x75 ∷ 0x65 ∷ 0x20 ∷ 0x30 ∷ 0x32 ∷ 0x0a ∷ []

-- what stands after them

abbrev pub made_state : State
made_state = opened 3 4 64 (node 0 [] [] ∷ [])

abbrev pub first_state : State
first_state = opened 3 4 64 (node 0 [] (pair (0x61 ∷ []) (0x01 ∷ []) ∷ []) ∷ [])

abbrev pub second_state : State
second_state = opened 3 4 64 (node 0 [] (pair (0x61 ∷ []) (0x01 ∷ []) ∷ pair (0x62 ∷ []) (0x02 ∷ []) ∷ []) ∷ [])

abbrev pub third_state : State
third_state = opened 3 4 64 (node 0 [] (pair (0x61 ∷ []) (0x01 ∷ []) ∷ []) ∷ node 1 (0x62 ∷ []) (pair (0x62 ∷ []) (0x02 ∷ []) ∷ pair (0x63 ∷ []) (0x03 ∷ []) ∷ []) ∷ [])

run_says :
    Says made_line made
    × Says first_line first
    × Says second_line second
    × Says third_line third
    × Says shown_line shown
    × Says got_line got
unfolding digit_of hex_of bytes_text digits_of number_text ◌␣◌
run_says = (
  record { sayable = (lit< tt, lit< tt, lit< tt); text = refl; short = lit≤ tt },
  record { sayable = ((lit< tt, tt), (lit< tt, tt)); text = refl; short = lit≤ tt },
  record { sayable = ((lit< tt, tt), (lit< tt, tt)); text = refl; short = lit≤ tt },
  record { sayable = ((lit< tt, tt), (lit< tt, tt)); text = refl; short = lit≤ tt },
  record { sayable = tt; text = refl; short = lit≤ tt },
  record { sayable = (lit< tt, tt); text = refl; short = lit≤ tt },
)

run_turns :
    (line_turn closed (some made) ≡ turn made_text made_state)
    × (line_turn made_state (some first) ≡ turn first_text first_state)
    × (line_turn first_state (some second) ≡ turn second_text second_state)
    × (line_turn second_state (some third) ≡ turn third_text third_state)
    × (line_turn third_state (some shown) ≡ turn shown_text third_state)
    × (line_turn third_state (some got) ≡ turn got_text third_state)
unfolding counts_text lined digit_of hex_of bytes_text digits_of number_text ◌␣◌ charge weight at_owner owned owner arena_limit fanout_least fanout_limit key_limit pool_least pool_limit value_limit lookup put cut_key free_from halves insert_here insert_rule lowest_free split_if_full used cmp common separator arena_ceiling fanout_ceiling output_room pool_ceiling
run_turns = (refl, refl, refl, refl, refl, refl)

-- the whole run

abbrev pub run_input : Bytes
run_input = (made_line ++ (10 ∷ [])) ++ ((first_line ++ (10 ∷ [])) ++ ((second_line ++ (10 ∷ [])) ++ ((third_line ++ (10 ∷ [])) ++ ((shown_line ++ (10 ∷ [])) ++ ((got_line ++ (10 ∷ [])))))))

abbrev pub run_text : Bytes
run_text = made_text ++ (first_text ++ (second_text ++ (third_text ++ (shown_text ++ got_text))))

run_feeds : Feeds closed [] run_input run_text third_state []
run_feeds =
    feeds_append (told closed made_line made_text made_state made refl run_says.0 run_turns.0)
    (feeds_append (told made_state first_line first_text first_state first refl run_says.1 run_turns.1)
    (feeds_append (told first_state second_line second_text second_state second refl run_says.2 run_turns.2)
    (feeds_append (told second_state third_line third_text third_state third refl run_says.3 run_turns.3)
    (feeds_append (told third_state shown_line shown_text third_state shown refl run_says.4 run_turns.4)
    (told third_state got_line got_text third_state got refl run_says.5 run_turns.5)))))

pub example_run : Runs run_input run_text
example_run = record { lines = run_text; state = third_state; rest = []; feeds = run_feeds; last = []; ending = refl; text_is = sym (append-nil run_text) }
