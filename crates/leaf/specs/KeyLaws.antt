-- A key's part from the prefix length on is the key without its first bytes; the prefix length is within both keys.
-- Assumes nothing.
use Rattle.std.specs.Prelude.{◌+◌, ◌-◌, ◌≤◌, ℕ, List, ◌≡◌, drop, length, take, Some, None}
use Rattle.std.proofs.Common.{◌∙◌, ap, sym, arith, drop-drop, Option}
use Rattle.leaf.specs.Keys.{KeyAt, PrefixOf, UpperAt, key_at, key_part}
use Rattle.lists.proofs.PartLaws.{length-part, take-drop}
use Rattle.order.specs.Bytes.{common}
use Rattle.order.specs.CommonLaws.{common_left, common_right}
use Rattle.words.specs.declared.LowKey.{LowKey}

pub key_length : {arena : List ℕ} {prefix : ℕ} {k : LowKey} → KeyAt arena prefix k → length (key_at arena k) ≡ k.length
key_length {arena} {prefix} {k} a = length-part arena k.offset.0 k.length a.inside

pub key_part_lem : (arena : List ℕ) (prefix : ℕ) (k : LowKey) → prefix ≤ k.length → drop prefix (key_at arena k) ≡ key_part arena prefix k
key_part_lem arena prefix k h =
    let e : prefix + (k.length - prefix) ≡ k.length = omega arith in
    ap (λ (n : ℕ). drop prefix (take n (drop k.offset.0 arena))) (sym e)
    ∙ sym (take-drop (drop k.offset.0 arena) prefix (k.length - prefix))
    ∙ ap (take (k.length - prefix)) (drop-drop prefix k.offset.0 arena)

-- L2 without an upper key, and with one

pub prefix_none : {arena : List ℕ} {low : LowKey} {upper : Option LowKey} → upper ≡ None → KeyAt arena 0 low → PrefixOf arena low upper 0
prefix_none e a = record { is = rw e; in_low = a; in_upper = rw e tt }

pub prefix_some : {arena : List ℕ} {low u : LowKey} {upper : Option LowKey} (r : ℕ) → upper ≡ Some u → KeyAt arena 0 low → KeyAt arena 0 u
    → r ≡ common (take (low.offset.0 + low.length - low.offset.0) (drop low.offset.0 arena)) (take (u.offset.0 + u.length - u.offset.0) (drop u.offset.0 arena))
    → PrefixOf arena low upper r
prefix_some {arena} {low} {u} r e a b c =
    let p : low.offset.0 + low.length - low.offset.0 ≡ low.length = omega arith in
    let q : u.offset.0 + u.length - u.offset.0 ≡ u.length = omega arith in
    let d : r ≡ common (key_at arena low) (key_at arena u) = rw (p, q) at c in
    record {
      is = d ∙ sym (rw e);
      in_low = record { inside = a.inside; fits = a.fits; long = omega (arith, key_length a, common_left (key_at arena low) (key_at arena u)) };
      in_upper = rw e (record { inside = b.inside; fits = b.fits; long = omega (arith, key_length b, common_right (key_at arena low) (key_at arena u)) });
    }

pub upper_key : {upper : Option LowKey} {u : LowKey} (arena : List ℕ) (prefix : ℕ) → upper ≡ Some u → UpperAt arena prefix upper → KeyAt arena prefix u
upper_key arena prefix e k = rw e at k
