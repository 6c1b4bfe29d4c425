-- The encoder's output is of the right size and type: its bytes are as many as the stored bytes of the leaf list (L9), and bytes where the
-- keys and values are; its slot words fit 64 bits and its directory words 32.
-- Assumes nothing.
use Rattle.std.specs.Prelude.{◌+◌, ◌-◌, ◌<◌, ◌^◌, ◌≤◌, suc, zero, ℕ, List, [], ◌++◌, ◌∷◌, map, ◌≡◌, refl, drop, length, replicate, take}
use Rattle.std.proofs.Math.Option.{Option}
use Rattle.std.proofs.Common.{arith, length-append, length-drop}
use Rattle.layout.specs.Encode.{Storable, directory_of, leaf_bytes, low_word_of, pair_bytes, pair_words, region, region_head}
use Rattle.layout.specs.Encoded.{bytes_of, prefix_before, slots_of}
use Rattle.layout.proofs.Encoded.{leaf_storable}
use Rattle.lists.specs.All.{All, all_append, all_drop, all_take}
use Rattle.lists.specs.Part.{put}
use Rattle.model.specs.Charge.{stored, stored_pairs}
use Rattle.model.specs.Good.{GoodLeaf, Tiled, limits}
use Rattle.model.specs.Leaves.{Node, low_of, prefix_length}
use Rattle.model.specs.LimitLaws.{key_limit_fits}
use Rattle.model.specs.Map.{Pair}
use Rattle.order.specs.Bytes.{Bytes}
use Rattle.words.specs.Laws.{directory_small, slot_small}
use Rattle.words.specs.Words.{first_slot}
use Rattle.layout.specs.EncodedFits.{Octets, OctetNode}

-- bytes

pairs_stored : (p : ℕ) (m : List Pair) → length (pair_bytes p m) ≡ stored_pairs p m
unfolding pair_bytes stored_pairs
pairs_stored p [] = refl
pairs_stored p (q ∷ m) = simp (length-append, length-drop, pairs_stored p m)

pub bytes_stored : (ns : List Node) → length (bytes_of ns) ≡ stored ns
unfolding bytes_of stored
bytes_stored [] = refl
bytes_stored (n ∷ ns) = simp (length-append, pairs_stored (prefix_before n ns) n.pairs, bytes_stored ns)

pairs_octets : (p : ℕ) (m : List Pair) → All (λ q. Octets q.key × Octets q.value) m → Octets (pair_bytes p m)
unfolding pair_bytes
pairs_octets p [] h = tt
pairs_octets p (q ∷ m) h =
    all_append (λ x. x < 256) (drop p q.key ++ q.value) (pair_bytes p m)
    (all_append (λ x. x < 256) (drop p q.key) q.value (all_drop (λ x. x < 256) p q.key h.0.0) h.0.1) (pairs_octets p m h.1)

pub bytes_octets : (ns : List Node) → All OctetNode ns → Octets (bytes_of ns)
unfolding bytes_of
bytes_octets [] h = tt
bytes_octets (n ∷ ns) h =
    let p = prefix_before n ns in
    all_append (λ x. x < 256) (leaf_bytes p n) (bytes_of ns)
    (all_append (λ x. x < 256) n.low (pair_bytes p n.pairs) h.0.low_octets (pairs_octets p n.pairs h.0.pair_octets)) (bytes_octets ns h.1)

pub all_replicate : (P : ℕ → Type 0) (n x : ℕ) → P x → All P (replicate n x)
all_replicate P zero x h = tt
all_replicate P (suc n) x h = (h, all_replicate P n x h)

-- slot words

pairs_small : (prefix : Bytes) (p a : ℕ) (m : List Pair) → All (Storable p prefix) m → a + length (pair_bytes p m) < 2 ^ 28 → All (λ w. w < 2 ^ 64) (pair_words p a m)
unfolding pair_words pair_bytes
pairs_small prefix p a [] f h = tt
pairs_small prefix p a (q ∷ m) f h =
    let x = drop p q.key ++ q.value in
    let k : a + length x + length (pair_bytes p m) < 2 ^ 28 = omega (arith, h, length-append x (pair_bytes p m)) in
    (slot_small a (length (drop p q.key)) (length q.value) f.0.suffix_fits f.0.value_fits (omega (arith, k)), pairs_small prefix p (a + length x) m f.1 k)

region_small : (fanout a : ℕ) (n : Node) (upper : Option Bytes) → GoodLeaf (limits fanout) n upper → a + length (leaf_bytes (prefix_length n.low upper) n) < 2 ^ 28
    → All (λ w. w < 2 ^ 64) (region fanout (prefix_length n.low upper) a n)
unfolding region
region_small fanout a n upper g h =
    let p = prefix_length n.low upper in
    let k : a + length n.low + length (pair_bytes p n.pairs) < 2 ^ 28 = omega (arith, h, length-append n.low (pair_bytes p n.pairs)) in
    all_append (λ w. w < 2 ^ 64) (region_head fanout p a n) (low_word_of a n ∷ [])
    (all_append (λ w. w < 2 ^ 64) (pair_words p (a + length n.low) n.pairs) (replicate (fanout - 1 - length n.pairs) 0)
    (pairs_small (take p n.low) p (a + length n.low) n.pairs (leaf_storable fanout n upper g) k)
    (all_replicate (λ w. w < 2 ^ 64) (fanout - 1 - length n.pairs) 0 (omega arith)))
    (slot_small a (length n.low) 0 (omega (arith, key_limit_fits, g.low_within)) (omega arith) (omega (arith, k)), tt)

all_put : (P : ℕ → Type 0) (l : List ℕ) (a : ℕ) (s : List ℕ) → All P l → All P s → All P (put l a s)
unfolding put
all_put P l a s h k = all_append P (take a l ++ s) (drop (a + length s) l) (all_append P (take a l) s (all_take P a l h) k) (all_drop P (a + length s) l h)

pub slots_words : (fanout : ℕ) (base : List ℕ) (a : ℕ) (ns : List Node) → Tiled (limits fanout) ns → All (λ w. w < 2 ^ 64) base → a + length (bytes_of ns) < 2 ^ 28
    → All (λ w. w < 2 ^ 64) (slots_of fanout base a ns)
unfolding slots_of bytes_of
slots_words fanout base a [] t s h = s
slots_words fanout base a (n ∷ ns) t s h =
    let x = leaf_bytes (prefix_before n ns) n in
    let k : a + length x + length (bytes_of ns) < 2 ^ 28 = omega (arith, h, length-append x (bytes_of ns)) in
    all_put (λ w. w < 2 ^ 64) (slots_of fanout base (a + length x) ns) (first_slot fanout n.number) (region fanout (prefix_before n ns) a n)
    (slots_words fanout base (a + length x) ns t.1 s k) (region_small fanout a n (low_of ns) t.0.0 (omega (arith, k)))

-- directory words

pub directory_words : (fanout pool : ℕ) (ns : List Node) → fanout ≤ 2 ^ 20 → pool ≤ 2 ^ 12 → Tiled (limits fanout) ns → All (λ n. n.number < pool) ns
    → All (λ w. w < 2 ^ 32) (map directory_of ns)
directory_words fanout pool [] f q t i = tt
directory_words fanout pool (n ∷ ns) f q t i =
    (directory_small n.number (length n.pairs) (omega (arith, f, t.0.1)) (omega (arith, q, i.0)), directory_words fanout pool ns f q t.1 i.1)
