-- What `shorten_keys_after_split` asks of `shorten_keys`, and what it leaves.
-- Assumes nothing.
use Rattle.std.specs.Prelude.{ℕ, ◌+◌, ◌-◌, ◌≤◌, List, [], ◌∷◌, map, ◌≡◌, refl, length, take, None}
use Rattle.std.proofs.Common.{◌∙◌, ap, sym, arith, Option}
use Rattle.layout.specs.Shifted.{shifted}
use Rattle.leaf.specs.Keys.{key_at, upper_at}
use Rattle.leaf_edit.specs.Shorten.{CanShorten, Halved, ShortenedKeys}
use Rattle.lists.specs.All.{All, all_mono}
use Rattle.lists.proofs.PartLaws.{put-part}
use Rattle.model.specs.Leaves.{prefix_length}
use Rattle.model.specs.PrefixLaws.{prefix_low, span_prefix}
use Rattle.slots.specs.Around.{Around, over}
use Rattle.slots.specs.Edits.{Shortened, Shortens, words_at}
use Rattle.slots.specs.EditsLaws.{region_of, shortens_of}
use Rattle.words.specs.Words.{first_slot, word_count, word_leaf}
use Rattle.words.specs.declared.LowKey.{LowKey}

map_same : (l : List ℕ) → map (shifted 0) l ≡ l
map_same [] = refl
map_same (w ∷ l) = ap (λ (m : List ℕ). shifted 0 w ∷ m) (map_same l) ∙ ap (λ (x : ℕ). x ∷ l) (let e : shifted 0 w ≡ w = omega arith in e)

module _ {fanout : ℕ} {slots arena : List ℕ} {d old : ℕ} {low : LowKey} {upper : Option LowKey} where
  -- without an upper key nothing changes

  pub short_none : CanShorten fanout slots arena d old low upper → upper ≡ None → ShortenedKeys fanout slots arena d old low upper 0 slots
  short_none t e =
      let h = t.halved in
      let z : old ≡ 0 = omega (arith, rw e at h.longer) in
      let r = region_of (over fanout slots arena) d t.around in
      let y : 0 - old ≡ 0 = omega (arith, z) in
      record {
        length_is = rw e;
        slots_are = sym (rw (y, map_same (words_at fanout slots d)) (put-part slots (first_slot fanout (word_leaf d)) (word_count d) (omega (arith, r.inside, r.count_fits))));
        leaves = λ a k. rw (sym (k.old_is ∙ z)) (record { lays = a.lays; owns = a.owns });
      }

  -- with one, the prefix grows by what `shorten_keys` is given

  module _ (t : CanShorten fanout slots arena d old low upper) {r : ℕ} (e : r ≡ prefix_length (key_at arena low) (upper_at arena upper)) where
    grown_is : (a : Around (over fanout slots arena) d) → Halved fanout slots arena d old low upper a → a.prefix + (r - old) ≡ prefix_length a.leaf.low (upper_at arena upper)
    grown_is a k =
        let q : r ≡ prefix_length a.leaf.low (upper_at arena upper) = e ∙ ap (λ l. prefix_length l (upper_at arena upper)) k.low_is in
        omega (arith, k.old_is, k.longer, q)

    pub not_shorter : old ≤ r
    not_shorter =
        let k = t.halved in
        let q : r ≡ prefix_length t.around.leaf.low (upper_at arena upper) = e ∙ ap (λ l. prefix_length l (upper_at arena upper)) k.low_is in
        omega (arith, k.longer, q)

    grown_long : (a : Around (over fanout slots arena) d) → Halved fanout slots arena d old low upper a → a.prefix + (r - old) ≤ length a.leaf.low
    grown_long a k = omega (arith, grown_is a k, prefix_low a.leaf.low (upper_at arena upper))

    shares : (a : Around (over fanout slots arena) d) → Halved fanout slots arena d old low upper a
        → All (λ x. take (a.prefix + (r - old)) x.key ≡ take (a.prefix + (r - old)) a.leaf.low) a.leaf.pairs
    shares a k = rw (grown_is a k) (all_mono a.leaf.pairs (λ x s. span_prefix a.leaf.low (upper_at arena upper) x.key s) k.spanned)

    pub short_asks : Shortens fanout slots d (r - old)
    short_asks = shortens_of fanout slots arena d (r - old) t.around t.arena_fits (grown_long t.around t.halved) (shares t.around t.halved)

    pub short_done : {exit_slots : List ℕ} → Shortened fanout slots d (r - old) exit_slots → ShortenedKeys fanout slots arena d old low upper r exit_slots
    short_done s = record {
      length_is = e;
      slots_are = s.slots_are;
      leaves = λ a k.
          let q : a.prefix + (r - old) ≡ r = omega (arith, k.old_is, not_shorter) in
          rw q at (s.leaves arena a (grown_long a k) (shares a k));
    }
