-- What `split_if_full` has to show: a leaf that stays below F pairs is ready for the new pair as it is, a full one is once it is cut as planned.
-- Assumes nothing.
use Rattle.std.specs.Prelude.{ℕ, ◌+◌, ◌<◌, ◌^◌, suc, List, ◌≡◌, refl, length}
use Rattle.std.proofs.Common.{subst, arith}
use Rattle.judge.specs.Judges.{Splits}
use Rattle.judge.specs.Planned.{planned}
use Rattle.judge.specs.declared.Fit.{Fit}
use Rattle.judge.specs.declared.Fit.TheVariants.{Full, Slack}
use Rattle.judge.specs.declared.Half.TheVariants.{Left, Right}
use Rattle.judge.specs.declared.Plan.{Plan}
use Rattle.layout.specs.Presumed.{Presumed}
use Rattle.layout.specs.declared.Header.{Header}
use Rattle.model.specs.Leaves.{Node}
use Rattle.model.specs.LimitLaws.{pool_limit_fits}
use Rattle.order.specs.Bytes.{Bytes}
use Rattle.route.specs.RouteLaws.{routed}
use Rattle.split.specs.CutReady.{cut_gap, cut_rule, cut_slack}
use Rattle.split.specs.Splits.{CanSplit, SplitAsked, SplitLeaf, cut_nodes, spot_of}
use Rattle.spots.specs.declared.Spot.{Spot}
use Rattle.tree_insert.specs.Outcomes.{CanFit, FitAsked, SplitIfFull}
use Rattle.tree_insert.specs.PassedLaws.{adds_passed, splits_passed}
use Rattle.tree_insert.specs.ReplaceLaws.{accepted_inserts}

arm : (h : Header) (dir slots arena : List ℕ) (k v : Bytes) (out : ℕ) (ns : List Node) {f g : Fit} → f ≡ g
    → FitAsked h dir slots arena k v out f ns → FitAsked h dir slots arena k v out g ns
arm h dir slots arena k v out ns e a = subst (λ (g : Fit). FitAsked h dir slots arena k v out g ns) e a

module _ {h : Header} {dir slots arena : List ℕ} {k : Bytes} {f : Fit} where
  -- below F pairs

  pub slack_placed : {t : Spot} → f ≡ Slack t → SplitIfFull h dir slots arena k f (record { header = h; spot = t }) dir slots arena
  slack_placed e = record {
    fanout_is = refl;
    same_dir = refl;
    same_slots = refl;
    same_arena = refl;
    ready = λ ns x v out a.
        let b = arm h dir slots arena k v out ns e a in
        record { nodes = ns; presumed = x; asks = accepted_inserts (adds_passed b) refl refl x b.spot b.slack refl; rule = refl };
  }

  -- at F pairs

  module _ {p : Plan} (e : f ≡ Full p) where
    split_asks : {v : Bytes} {out : ℕ} {ns : List Node} → Presumed h dir slots arena ns → Splits h (length dir) (length arena) k v out ns p
        → SplitAsked h (length dir) (length arena) k v p ns
    split_asks {v} {out} x a =
        let q = splits_passed a in
        record { plan = planned x k v out a; key_short = q.key_short; value_short = q.value_short }

    pub split_asked : CanFit h dir slots arena k f → CanSplit h dir slots arena k p
    split_asked c =
        let s = c.step in
        record {
          value = c.value;
          step = record { nodes = s.nodes; presumed = s.presumed; asks = split_asks s.presumed (arm h dir slots arena k c.value c.out s.nodes e s.asks) };
        }

    -- (the code counts on to the right half)
    pub leaf_fits : CanFit h dir slots arena k f → p.leaf < 2 ^ 12
    leaf_fits c =
        let s = (split_asked c).step in
        omega (arith, (routed s.presumed k s.asks.plan.owns).within, s.presumed.holds.leaves_are, s.presumed.fits.counted, s.presumed.holds.sizes.pool_most, pool_limit_fits)

    pub split_placed : {r : Header} {t : Spot} {now_dir now_slots now_arena : List ℕ} → SplitLeaf h dir slots arena k p r now_dir now_slots now_arena → spot_of p ≡ t
        → SplitIfFull h dir slots arena k f (record { header = r; spot = t }) now_dir now_slots now_arena
    split_placed {r} {now_dir = now_dir} {now_slots} {now_arena} s g =
        subst (λ (u : Spot). SplitIfFull h dir slots arena k f (record { header = r; spot = u }) now_dir now_slots now_arena) g
        (record {
          fanout_is = s.fanout_is;
          same_dir = s.same_dir;
          same_slots = s.same_slots;
          same_arena = s.same_arena;
          ready = λ ns x v out a.
              let b = arm h dir slots arena k v out ns e a in
              let q = split_asks x b in
              let y = s.index ns x v q in
              record {
                nodes = cut_nodes q.plan.separator p ns;
                presumed = y;
                asks = accepted_inserts (splits_passed b) s.fanout_is s.same_arena y (cut_gap x k v q) (omega (arith, cut_slack x k v q)) (cut_rule x k v q);
                rule = cut_rule x k v q;
              };
        })

-- the half's place, as the code counts it

pub spot_right : (p : Plan) {i : ℕ} → p.half ≡ Right i → spot_of p ≡ record { leaf = p.leaf + 1; slot = i }
spot_right p e =
    let q : suc p.leaf ≡ p.leaf + 1 = omega arith in
    rw (e, q)

pub spot_left : (p : Plan) {i : ℕ} → p.half ≡ Left i → spot_of p ≡ record { leaf = p.leaf; slot = i }
spot_left p e = rw e
