-- The steps of `write_end` and `scan_prefix`, over plain lists and numbers.
-- Assumes nothing.
use Rattle.std.specs.Prelude.{Ok, Err}
use Prim.Native.Nat.{ℕ, suc, ◌+◌, ◌-◌, ◌<◌, ◌≤◌}
use mathlib.Core.Bool.{false}
use mathlib.Core.List.{[], ◌++◌, ◌∷◌}
use mathlib.Core.Option.{Option}
use mathlib.Core.Path.{◌∙◌, ◌≡◌, ap, refl, sym}
use native.Mathlib.Omega.{arith}
use borrow.Author.Tests.{le-ltb, lt-ltb}
use lib.Dec.{ltb}
use lib.ListN.{get_or, length, set, take}
use lib.Seq.{length-take-le}
use Rattle.lists.specs.Part.{put}
use Rattle.lists.proofs.PartLaws.{put-nil, put-snoc}
use Rattle.model.specs.Answers.{code_of}
use Rattle.model.specs.Limits.{key_limit}
use Rattle.model.specs.Prefix.{prefix_end}
use Rattle.model.specs.declared.Bound.TheVariants.{Excluded, Included, Open}
use Rattle.model.specs.declared.Refusal.TheVariants.{LongKey, ShortOutput}
use Rattle.order.specs.Bytes.{Bytes}
use Rattle.prefixes.specs.End.{Stripped, end_bytes, raised_at}
use Rattle.prefixes.specs.EndLaws.{length_raised, stripped_end, stripped_open}
use Rattle.prefixes.specs.Outcome.{PrefixOutcome}

-- write_end

pub front_length : {p : Bytes} {n : ℕ} → Stripped p n → length (take (n - 1) p) ≡ n - 1
front_length {p} {n} s = length-take-le (n - 1) p (omega (arith, s.within))

pub end_written : (p out now_out : Bytes) (n x : ℕ) → Stripped p n → 0 < n → n ≤ length out → x ≡ get_or p (n - 1) 0 + 1
    → now_out ≡ put out 0 (take (n - 1) p) → set now_out (n - 1) x ≡ put out 0 (end_bytes (prefix_end p))
end_written p out now_out n x s h k e w =
    let t : Bytes = take (n - 1) p in
    let l : n - 1 ≡ 0 + length t = omega (arith, front_length s) in
    let y : x ≡ suc (get_or p (n - 1) 0) = omega arith in
    rw (w, stripped_end s h)
    (ap (λ (j : ℕ). set (put out 0 t) j x) l ∙ put-snoc out 0 t x (omega arith) ∙ ap (λ (z : ℕ). put out 0 (t ++ (z ∷ []))) y)

-- scan_prefix

module _ (p out : Bytes) where
  pub scan_long : key_limit < length p → PrefixOutcome p out out (Err LongKey)
  scan_long h = rw (lt-ltb key_limit (length p) h) (record { answer_is = refl; code_is = refl; out_is = refl })

  module _ (n : ℕ) (short : key_limit < length p → ⊥) (s : Stripped p n) where
    passed : ltb key_limit (length p) ≡ false
    passed = le-ltb key_limit (length p) (omega arith)

    pub scan_short : length out < n → PrefixOutcome p out out (Err (ShortOutput n))
    scan_short h =
        let k : 0 < n = omega arith in
        let l : length (raised_at p n) ≡ n = length_raised s k in
        rw (passed, stripped_end s k, lt-ltb (length out) (length (raised_at p n)) (omega arith))
        (record { answer_is = ap (λ (m : ℕ). Err (ShortOutput m)) (sym l); code_is = ap (λ (m : ℕ). code_of (ShortOutput m)) (sym l); out_is = refl })

    pub scan_open : n ≡ 0 → PrefixOutcome p out out (Ok (record { range = record { start = Included; end = Open }; end = 0 }))
    scan_open e = rw (passed, stripped_open s e) (record { answer_is = refl; code_is = refl; out_is = sym (put-nil out 0) })

    pub scan_made : (now_out : Bytes) → 0 < n → n ≤ length out → now_out ≡ put out 0 (end_bytes (prefix_end p))
        → PrefixOutcome p out now_out (Ok (record { range = record { start = Included; end = Excluded }; end = n }))
    scan_made now_out k h w =
        let l : length (raised_at p n) ≡ n = length_raised s k in
        rw (passed, stripped_end s k, le-ltb (length out) (length (raised_at p n)) (omega arith))
        (record {
          answer_is = ap (λ (m : ℕ). Ok (record { range = record { start = Included; end = Excluded }; end = m })) (sym l);
          code_is = refl;
          out_is = w ∙ ap (λ (o : Option Bytes). put out 0 (end_bytes o)) (stripped_end s k);
        })
