-- What `get` and `leaf_at` have to show, from the key's place in the leaf that owns it, and from a leaf that was read.
-- Assumes nothing.
use Rattle.std.specs.Prelude.{Err, List, None, Ok, Some, [], ◌+◌, ◌<◌, ◌≤◌, suc, zero, ℕ, ◌∷◌, ◌≡◌, refl, get_or, length}
use Rattle.std.proofs.Math.Option.{none, some}
use Rattle.std.proofs.Common.{Option, Result, ◌∙◌, ap, arith, le-ltb, lt-ltb}
use Rattle.layout.specs.Buffers.{low_word}
use Rattle.layout.specs.Lays.{W}
use Rattle.layout.specs.Pieces.{Pieces, pair_in}
use Rattle.layout.specs.Places.{place_of}
use Rattle.layout.specs.Presumed.{Inner, entry_held}
use Rattle.layout.specs.Viewed.{leaves_of}
use Rattle.layout.specs.declared.Header.{Header}
use Rattle.layout.specs.declared.lent.View.{View}
use Rattle.leaf.specs.declared.Leaf.{Leaf}
use Rattle.model.proofs.ToldLaws.{code_told}
use Rattle.model.specs.Answers.{Answer, Gives, answer_code, get_answer, leaf_at, result_code, shown}
use Rattle.model.specs.Answers as model
use Rattle.model.specs.Leaves.{Node, node}
use Rattle.model.specs.Limits.{key_limit}
use Rattle.model.specs.declared.Refusal.{Refusal}
use Rattle.model.specs.declared.Refusal.TheVariants.{LongKey}
use Rattle.order.specs.Bytes.{Bytes}
use Rattle.route.specs.Lookups.{at_key, at_value, gap_none}
use Rattle.route.specs.RouteLaws.{leaf_lays, low_from, low_key_is, low_none, place_in, upper_is}
use Rattle.route.specs.Routes.{LeafIs, UpperRead, low_place, upper_of}
use Rattle.route.specs.Routes as routes
use Rattle.spots.specs.KeySpots.{AtSpot, InGap}
use Rattle.spots.specs.declared.Spot.{Spot}
use Rattle.tree_get.specs.Outcomes.{Outcome, Shows, ShownBy}
use Rattle.tree_get.specs.Outcomes as told
use Rattle.tree_get.specs.declared.Found.{Found}
use Rattle.tree_get.specs.declared.Shown.{Shown}
use Rattle.words.specs.Words.{LowKeyUnpacked}
use Rattle.words.specs.declared.LowKey.{LowKey}

-- an entry point where W holds answers what was read of the view

module _ {h : Header} {dir slots arena : List ℕ} where
  pub outcome_held : {A B : Type 0} (f : List Node → A → B) (answer : List Node → Answer A) {r : Result B Refusal} → W h dir slots arena
      → Inner h dir slots arena (λ ns. r ≡ model.told (f ns) (answer ns)) → Outcome h dir slots arena f answer r
  outcome_held f answer w a =
      entry_held w (λ ns x. record { answer_is = a ns x; code_is = ap result_code (a ns x) ∙ code_told (f ns) (answer ns) })

-- an answer told has its number

pub gives_found : {h : Header} {dir slots arena : List ℕ} (k : Bytes) (r : Result (Option Found) Refusal) → Inner h dir slots arena (told.Gets h dir slots arena k r)
    → Inner h dir slots arena (λ ns. Gives result_code (model.told (told.found (place_of h dir slots arena ns k)) (get_answer k ns)) (answer_code (get_answer k ns)) r)
gives_found {h} {dir} {slots} {arena} k r g = λ ns x.
    record { answer_is = g ns x; code_is = ap result_code (g ns x) ∙ code_told (told.found (place_of h dir slots arena ns k)) (get_answer k ns) }

-- refusal 3; none, or a place, by where the key stands

pub get_long : (v : View) (k : Bytes) → key_limit < length k → told.GetRead v k (Err LongKey)
get_long v k l = rw (lt-ltb key_limit (length k) l)

module _ (v : View) {k : Bytes} {t : Spot} where
  pub get_none : InGap k (leaves_of v) t → length k ≤ key_limit → told.GetRead v k (Ok None)
  get_none g short = rw (le-ltb key_limit (length k) short, gap_none v.index.presumed k g.owns t.slot g.stands)

  pub get_found : {low prefix offset suffix value : ℕ} → AtSpot k (leaves_of v) t → length k ≤ key_limit
      → Pieces v.header v.dir.now v.slots.now v.arena.now (leaves_of v) (pair_in (leaves_of v) t.leaf t.slot) low prefix offset suffix value
      → told.GetRead v k (Ok (Some (record { at = record { 0 = offset + suffix }; length = value })))
  get_found a short q =
      let x = v.index.presumed in
      rw (le-ltb key_limit (length k) short, at_value x k a.owns t.slot a.stands, q.place_is, at_key x k a.owns t.slot a.stands, q.value_length)

-- one leaf of the leaf list

leaf_past : (j : ℕ) (ns : List Node) → length ns ≤ j → leaf_at j ns ≡ none
leaf_past j [] h = refl
leaf_past zero (n ∷ ns) h = absurd (omega arith)
leaf_past (suc j) (n ∷ ns) h = leaf_past j ns (omega arith)

leaf_there : (j : ℕ) (ns : List Node) → j < length ns → leaf_at j ns ≡ some (shown (routes.leaf_at ns j) (upper_of ns j))
leaf_there j [] h = absurd (omega arith)
leaf_there zero (n ∷ ns) h = refl
leaf_there (suc j) (n ∷ ns) h = leaf_there j ns (omega arith)

low_key_path : (k l : LowKey) → k.offset.0 ≡ l.offset.0 → k.length ≡ l.length → k ≡ l
low_key_path k l o e = λ i. record { offset = record { 0 = o i }; length = e i }

low_placed : (h : Header) (dir slots arena : List ℕ) (i : ℕ) {low : LowKey} → LowKeyUnpacked (get_or slots (low_place h dir i) 0) low → low ≡ told.low_place h dir slots arena i
unfolding low_word
low_placed h dir slots arena i {low} u = low_key_path low (told.low_place h dir slots arena i) u.offset_is u.length_is

module _ (v : View) (j : ℕ) where
  pub leaf_none : v.header.leaves ≤ j → told.LeafSeen v j None
  leaf_none l = rw (leaf_past j (leaves_of v) (omega (arith, l, v.index.presumed.holds.leaves_are))) tt

  upper_placed : (u : Option LowKey) → UpperRead v.header v.dir.now v.slots.now j u → u ≡ told.upper_place v.header v.dir.now v.slots.now v.arena.now j (upper_of (leaves_of v) j)
  upper_placed (Some k) r =
      rw (low_from (node 0 [] []) (suc j) (leaves_of v) (place_in v.index.presumed r.0)) (ap Some (low_placed v.header v.dir.now v.slots.now v.arena.now (suc j) r.1))
  upper_placed None r = rw (low_none (suc j) (leaves_of v) (omega (arith, r, v.index.presumed.holds.leaves_are)))

  pub leaf_some : {low : LowKey} (u : Option LowKey) {leaf : Leaf} → j < v.header.leaves → LowKeyUnpacked (get_or v.slots.now (low_place v.header v.dir.now j) 0) low
      → UpperRead v.header v.dir.now v.slots.now j u → LeafIs v.header v.dir.now (leaves_of v) j leaf
      → told.LeafSeen v j (Some (record { low = low; upper = u; prefix_length = leaf.prefix_length; pairs = leaf.pairs }))
  leaf_some {low} u {leaf} l k r i =
      let x = v.index.presumed in
      rw (leaf_there j (leaves_of v) (place_in x l)) (record {
        low_stands = low_placed v.header v.dir.now v.slots.now v.arena.now j k;
        low_is = low_key_is x j l k;
        upper_stands = upper_placed u r;
        upper_is = upper_is x j u r;
        prefix_is = i.prefix_is;
        pairs_are = i.pairs_are ∙ (leaf_lays x j l).count_is;
      })

pub gives_shown : {h : Header} {dir slots arena : List ℕ} (j : ℕ) {o : Option Shown} → Inner h dir slots arena (λ ns. ShownBy h dir slots arena j (leaf_at j ns) o)
    → Inner h dir slots arena (λ ns. Shows h dir slots arena j ns (Ok o))
gives_shown j a = λ ns x. record { shown = _; answer_is = refl; shows = a ns x; code_is = refl }
