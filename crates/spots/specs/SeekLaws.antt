-- What `seek` has to show: the search's answer in the owner's leaf is where the key stands. And a key at a spot has a pair there.
-- Assumes nothing.
use Rattle.std.specs.Prelude.{◌-◌, ℕ, List, ◌≡◌, drop, length, take, Ok, Err}
use Rattle.std.proofs.Common.{◌∙◌, ap, subst, sym, arith, Result}
use Rattle.layout.specs.Presumed.{Inner, Presumed}
use Rattle.layout.specs.Viewed.{Views, leaves_of, view_held}
use Rattle.layout.specs.declared.Header.{Header}
use Rattle.layout.specs.declared.lent.View.{View}
use Rattle.leaf.specs.Finds.{find_told, leaf_slots, suffixes_of}
use Rattle.leaf.specs.declared.Leaf.{Leaf}
use Rattle.model.specs.Leaves.{Node, owner}
use Rattle.model.specs.Place.{Place, at, gap, place}
use Rattle.order.specs.Bytes.{Bytes}
use Rattle.route.specs.FindRouted.{find_routed}
use Rattle.route.specs.Lookups.{at_in_list}
use Rattle.route.specs.RouteLaws.{leaf_lays, routed}
use Rattle.route.specs.Routes.{LeafIs, leaf_at}
use Rattle.spots.specs.KeySpots.{AtSpot, InGap, Stands}
use Rattle.spots.specs.Spots.{SpotIn}
use Rattle.spots.specs.declared.Spot.{Spot}

-- the search's answers, told apart

found_place : (x : Place) (i : ℕ) → Ok i ≡ find_told x → x ≡ at i
found_place (at j) i e = ap at (sym (cc e))
found_place (gap j) i e = absurd (let z : ◌≡◌ {A = ℕ} 0 1 = cc e in omega arith)

gap_place : (x : Place) (i : ℕ) → Err i ≡ find_told x → x ≡ gap i
gap_place (at j) i e = absurd (let z : ◌≡◌ {A = ℕ} 0 1 = cc e in omega arith)
gap_place (gap j) i e = ap gap (sym (cc e))

module _ {h : Header} {dir slots arena : List ℕ} {ns : List Node} {j : ℕ} {leaf : Leaf} {f : Result ℕ ℕ} (x : Presumed h dir slots arena ns) (k : Bytes) (o : j ≡ owner k ns) (l : LeafIs h dir ns j leaf)
    (e : f ≡ find_told (place (take (length k - leaf.prefix_length) (drop leaf.prefix_length k)) (suffixes_of arena (leaf_slots slots leaf)))) where
  pub sought_at : (i : ℕ) → f ≡ Ok i → AtSpot k ns (record { leaf = j; slot = i })
  sought_at i g = record { owns = o; stands = found_place (place k (leaf_at ns j).pairs) i (sym g ∙ find_routed x l k o e) }

  pub sought_gap : (i : ℕ) → f ≡ Err i → InGap k ns (record { leaf = j; slot = i })
  sought_gap i g = record { owns = o; stands = gap_place (place k (leaf_at ns j).pairs) i (sym g ∙ find_routed x l k o e) }

pub at_spot_in : {h : Header} {dir slots arena : List ℕ} {ns : List Node} → Presumed h dir slots arena ns → (k : Bytes) {t : Spot} → AtSpot k ns t → SpotIn h dir slots arena t
at_spot_in {ns = ns} x k {t} a =
    let w = (routed x k a.owns).within in
    record {
      index = record { nodes = ns; presumed = x };
      leaf_in = w;
      slot_in = omega (arith, (at_in_list x k a.owns t.slot a.stands).slot_in, (leaf_lays x t.leaf w).count_is);
    }

-- its answer, told apart

pub stands_at : (k : Bytes) {ns : List Node} (r : Result Spot Spot) {t : Spot} → Stands k ns r → r ≡ Ok t → AtSpot k ns t
stands_at k {ns} r s e = subst (Stands k ns) e s

pub stands_gap : (k : Bytes) {ns : List Node} (r : Result Spot Spot) {t : Spot} → Stands k ns r → r ≡ Err t → InGap k ns t
stands_gap k {ns} r s e = subst (Stands k ns) e s

-- and told of the header and the buffers that were viewed
pub stands_told : {h : Header} {dir slots arena : List ℕ} (v : View) → Views v h dir slots arena → (k : Bytes) (r : Result Spot Spot) → Stands k (leaves_of v) r
    → Inner h dir slots arena (λ ns. Stands k ns r)
stands_told v u k r s = view_held (λ h dir slots arena ns. Stands k ns r) v u s
