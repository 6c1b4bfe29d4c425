-- The loop of `check_rest`: what is left decides. The invariant, its start, its turn, and what a return gives.
-- Assumes nothing.
use Prim.Native.Nat.{◌*◌, ◌+◌, ◌-◌, ◌<◌, ◌^◌, ◌≤◌, ℕ}
use mathlib.Core.List.{List, ◌∷◌}
use mathlib.Core.Path.{◌∙◌, ◌≡◌}
use native.Mathlib.Numerals.{add-one}
use native.Mathlib.Omega.{arith}
use lib.ListN.{get_or, length}
use Rattle.layout.specs.Buffers.{suffix_at}
use Rattle.lists.specs.Part.{part}
use Rattle.lists.proofs.PartLaws.{part-cons}
use Rattle.model.specs.Charge.{charge}
use Rattle.tree_read.specs.Check.{RunPairs, end_after, word_end, words_charge}
use Rattle.tree_read.specs.CheckCode.{Follows, RestOk, Rested, rest_of}
use Rattle.words.specs.Words.{word_suffix, word_value}

-- at i the words before it are in place, and the words from i on say what all say
pub record Rest (slots arena : List ℕ) (first count prefix i charge : ℕ) : Type 0 where
  pub past : first < i
  pub upto : i ≤ first + count
  pub inside : word_end (get_or slots (i - 1) 0) ≤ length arena
  pub to : RestOk slots arena first count prefix → RunPairs arena prefix (word_end (get_or slots (i - 1) 0)) (suffix_at arena (get_or slots (i - 1) 0)) (part slots i (first + count - i))
  pub from : RunPairs arena prefix (word_end (get_or slots (i - 1) 0)) (suffix_at arena (get_or slots (i - 1) 0)) (part slots i (first + count - i)) → RestOk slots arena first count prefix
  pub end_same : end_after (word_end (get_or slots first 0)) (rest_of slots first count) ≡ end_after (word_end (get_or slots (i - 1) 0)) (part slots i (first + count - i))
  pub charge_same : words_charge prefix (part slots first count) ≡ charge + words_charge prefix (part slots i (first + count - i))
  pub charge_few : charge ≤ (i - first) * 2 ^ 25

-- a part by its first word
pub rest_cons : (slots : List ℕ) (i m n : ℕ) → n ≡ m + 1 → i < length slots → part slots i n ≡ get_or slots i 0 ∷ part slots (i + 1) m
rest_cons slots i m n e h = rw (e, add-one m, add-one i) (part-cons slots i m 0 h)

module _ (slots arena : List ℕ) (first count prefix : ℕ) (r : Rested slots arena first count prefix) where
  pub rest_start : (i charge : ℕ) → i ≡ first + 1 → charge ≡ prefix + word_suffix (get_or slots first 0) + word_value (get_or slots first 0) → charge < 2 ^ 25
      → Rest slots arena first count prefix i charge
  rest_start i charge e c b =
      let p : i - 1 ≡ first = omega arith in
      let q : first + count - i ≡ count - 1 = omega (arith, r.some_pair) in
      let t : part slots first count ≡ get_or slots first 0 ∷ rest_of slots first count = rest_cons slots first (count - 1) count (omega (arith, r.some_pair)) (omega (arith, r.in_slots, r.some_pair)) in
      record {
        past = omega arith;
        upto = omega (arith, r.some_pair);
        inside = rw p r.first_inside;
        to = λ x. rw (p, q, e) x;
        from = λ x. rw (p, q, e) at x;
        end_same = rw (p, q, e);
        charge_same = rw (t, q, e) (omega arith);
        charge_few = omega arith;
      }

  module _ (i charge : ℕ) (v : Rest slots arena first count prefix i charge) (h : i < first + count) where
    left_cons : part slots i (first + count - i) ≡ get_or slots i 0 ∷ part slots (i + 1) (first + count - (i + 1))
    left_cons = rest_cons slots i (first + count - (i + 1)) (first + count - i) (omega arith) (omega (arith, r.in_slots))

    pub rest_fails : (Follows arena prefix (get_or slots (i - 1) 0) (get_or slots i 0) → ⊥) → RestOk slots arena first count prefix → ⊥
    rest_fails n o = n (rw left_cons at (v.to o)).0

    pub rest_turn : (x k : ℕ) → k ≡ i + 1 → x ≡ charge + (prefix + word_suffix (get_or slots i 0) + word_value (get_or slots i 0))
        → prefix + word_suffix (get_or slots i 0) + word_value (get_or slots i 0) < 2 ^ 25 → Follows arena prefix (get_or slots (i - 1) 0) (get_or slots i 0)
        → Rest slots arena first count prefix k x
    rest_turn x k e s b f =
        let p : k - 1 ≡ i = omega arith in
        record {
          past = omega (arith, v.past);
          upto = omega arith;
          inside = rw p f.0.inside;
          to = λ o. rw (p, e) (rw left_cons at (v.to o)).1;
          from = λ o. v.from (rw left_cons (f, rw (p, e) at o));
          end_same = v.end_same ∙ rw (left_cons, p, e);
          charge_same = v.charge_same ∙ rw (left_cons, e) (omega arith);
          charge_few = omega (arith, v.charge_few, v.past);
        }
