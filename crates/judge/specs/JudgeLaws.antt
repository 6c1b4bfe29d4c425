-- What `judge` has to show at each of its answers: the model's answer, from where the key stands and from the tests on numbers.
-- Assumes nothing.
use Rattle.std.specs.Prelude.{◌+◌, ◌-◌, ◌^◌, ◌<◌, ◌≤◌, suc, ℕ, false, true, List, [], ◌≡◌, refl, get_or, length, Ok, Err}
use Rattle.std.proofs.Math.Option.{Option, none, some}
use Rattle.std.proofs.Common.{◌∙◌, ap, subst, sym, arith, eq-eqb, le-leb, le-ltb, lt-ltb, ne_eqb, Result}
use Rattle.std.proofs.Math.Decide.{dec_lt}
use Rattle.std.proofs.lemmas.Bool.{lt-leb}
use Rattle.layout.specs.Pieces.{pair_in}
use Rattle.layout.specs.Presumed.{Presumed}
use Rattle.layout.specs.Viewed.{leaves_of}
use Rattle.layout.specs.declared.Header.{Header}
use Rattle.layout.specs.declared.lent.View.{View}
use Rattle.model.specs.Answers.{Answer, Changed, accepted, insert_answer, no_leaf, no_room, refuse_if, refused, short}
use Rattle.model.specs.Charge.{charge}
use Rattle.model.specs.Leaves.{Node, pairs_of}
use Rattle.model.specs.LimitLaws.{arena_limit_fits, key_limit_fits, pool_limit_fits, value_limit_fits}
use Rattle.model.specs.Limits.{key_limit, value_limit}
use Rattle.model.specs.Map.{Pair, lookup, pair, put}
use Rattle.model.specs.Place.{gap_lookup, place-lookup}
use Rattle.model.specs.Rules.{insert_rule}
use Rattle.model.specs.declared.Refusal.{Refusal}
use Rattle.model.specs.declared.Refusal.TheVariants.{LongKey, LongValue, NoLeaf, NoRoom, ShortOutput}
use Rattle.order.specs.Bytes.{Bytes}
use Rattle.route.specs.Lookups.{at_value, gap_none}
use Rattle.route.specs.RouteLaws.{directed, leaf_lays, owner_pairs, routed}
use Rattle.route.specs.Routes.{leaf_at}
use Rattle.spots.specs.declared.Spot.{Spot}
use Rattle.words.specs.Words.{word_count}
use Rattle.judge.specs.AnswerLaws.{below_fanout, full_charge, new_count, old_charge, old_charged, old_count, slack_charge}
use Rattle.spots.specs.KeySpots.{AtSpot, InGap}
use Rattle.judge.specs.Judges.{Accepts, GapAsked, Judges, JudgesOn, NewAsked, PlanIs, old_judged}
use Rattle.judge.specs.PlanLaws.{plan_fits}
use Rattle.judge.specs.declared.Fit.TheVariants.{Full, Slack}
use Rattle.judge.specs.declared.Judged.{Judged}
use Rattle.judge.specs.declared.Judged.TheVariants.{Insert}
use Rattle.judge.specs.declared.Plan.{Plan}

module _ {h : Header} {dir slots arena : List ℕ} {ns : List Node} (x : Presumed h dir slots arena ns) (k v : Bytes) (out : ℕ) where
  -- refusals 3 and 4

  pub key_too_long : key_limit < length k → Judges h dir slots arena k v out ns (Err LongKey)
  key_too_long l = rw (lt-ltb key_limit (length k) l)

  pub value_too_long : length k ≤ key_limit → value_limit < length v → Judges h dir slots arena k v out ns (Err LongValue)
  value_too_long s l = rw (le-ltb key_limit (length k) s, lt-ltb value_limit (length v) l)

  module _ (ks : length k ≤ key_limit) (vs : length v ≤ value_limit) where
    -- behind refusal 5

    abbrev rest : Answer Changed
    rest =
        refuse_if (no_leaf h.fanout (length dir) k v ns) NoLeaf
        (refuse_if (no_room h.fanout (length arena) k v ns) NoRoom (accepted (record { old = lookup k (pairs_of ns); nodes = insert_rule h.fanout k v ns })))

    passes : (o : Option Bytes) → lookup k (pairs_of ns) ≡ o → short out o ≡ false → insert_answer h.fanout (length dir) (length arena) k v out ns ≡ rest
    passes o l e =
        let f : short out (lookup k (pairs_of ns)) ≡ false = ap (short out) l ∙ e in
        rw (le-ltb key_limit (length k) ks, le-ltb value_limit (length v) vs, f)

    module _ (p : insert_answer h.fanout (length dir) (length arena) k v out ns ≡ rest) where
      leaf_refused : no_leaf h.fanout (length dir) k v ns ≡ true → Judges h dir slots arena k v out ns (Err NoLeaf)
      leaf_refused n = p ∙ ap (λ b. refuse_if b NoLeaf (refuse_if (no_room h.fanout (length arena) k v ns) NoRoom (accepted (record { old = lookup k (pairs_of ns); nodes = insert_rule h.fanout k v ns })))) n

      module _ (n : no_leaf h.fanout (length dir) k v ns ≡ false) where
        by_room : insert_answer h.fanout (length dir) (length arena) k v out ns
            ≡ refuse_if (no_room h.fanout (length arena) k v ns) NoRoom (accepted (record { old = lookup k (pairs_of ns); nodes = insert_rule h.fanout k v ns }))
        by_room = p ∙ ap (λ b. refuse_if b NoLeaf (refuse_if (no_room h.fanout (length arena) k v ns) NoRoom (accepted (record { old = lookup k (pairs_of ns); nodes = insert_rule h.fanout k v ns })))) n

        room_refused : length arena < charge (insert_rule h.fanout k v ns) → Judges h dir slots arena k v out ns (Err NoRoom)
        room_refused l = by_room ∙ rw (lt-ltb (length arena) (charge (insert_rule h.fanout k v ns)) l)

        taken : charge (insert_rule h.fanout k v ns) ≤ length arena → Accepts h (length dir) (length arena) k v out ns
        taken l = by_room ∙ rw (le-ltb (length arena) (charge (insert_rule h.fanout k v ns)) l)

    -- the key is at a spot
    module _ {t : Spot} (a : AtSpot k ns t) where
      abbrev old : Bytes
      old = (pair_in ns t.leaf t.slot).value

      here : lookup k (leaf_at ns t.leaf).pairs ≡ some old
      here = place-lookup (pair [] []) k (leaf_at ns t.leaf).pairs t.slot a.stands

      no_split : no_leaf h.fanout (length dir) k v ns ≡ false
      no_split =
          let o = a.owns in
          rw (owner_pairs x k o, ne_eqb (length (put k v (leaf_at ns t.leaf).pairs)) h.fanout (λ q. omega (arith, q, old_count x k v o old here, below_fanout x k v o)))

      pub at_judged : {n : ℕ} → n ≡ length old → Judges h dir slots arena k v out ns (old_judged h.charge (length arena) (length v) out n t)
      at_judged {n} e =
          let l = at_value x k a.owns t.slot a.stands in
          let c = old_charge x k v a.owns old here in
          elim (dec_lt out n) [
            | yes g ↦ rw (lt-ltb out n g) (rw (le-ltb key_limit (length k) ks, le-ltb value_limit (length v) vs, l, lt-ltb out (length old) (omega (arith, e, g))) (ap (λ (i : ℕ). refused (ShortOutput i)) (sym e)))
            | no g ↦
                (let p = passes (some old) l (le-ltb out (length old) (omega (arith, e, g))) in
                rw (le-ltb out n (omega arith)) (elim (dec_lt (length arena) (h.charge - n + length v)) [
                  | yes f ↦ rw (lt-ltb (length arena) (h.charge - n + length v) f) (room_refused p no_split (omega (arith, c, e, f)))
                  | no f ↦ rw (le-ltb (length arena) (h.charge - n + length v) (omega arith)) (record { accepts = taken p no_split (omega (arith, c, e, f)); spot = a })
                ]))
          ]

      pub at_told : {n : ℕ} (r : Result Judged Refusal) → n ≡ length old → r ≡ old_judged h.charge (length arena) (length v) out n t → Judges h dir slots arena k v out ns r
      at_told r e q = subst (Judges h dir slots arena k v out ns) (sym q) (at_judged e)

    -- the key is in a gap
    module _ {t : Spot} (g : InGap k ns t) where
      abbrev m : List Pair
      m = (leaf_at ns t.leaf).pairs

      absent : lookup k m ≡ none
      absent = gap_lookup k m t.slot g.stands

      unfound : insert_answer h.fanout (length dir) (length arena) k v out ns ≡ rest
      unfound = passes none (gap_none x k g.owns t.slot g.stands) refl

      module _ (s : suc (length m) < h.fanout) where
        slack_leaf : no_leaf h.fanout (length dir) k v ns ≡ false
        slack_leaf = rw (owner_pairs x k g.owns, ne_eqb (length (put k v m)) h.fanout (λ q. omega (arith, q, s, new_count x k v g.owns absent)))

        pub slack_refused : length arena < h.charge + length k + length v → Judges h dir slots arena k v out ns (Err NoRoom)
        slack_refused l = room_refused unfound slack_leaf (omega (arith, l, slack_charge x k v g.owns absent s))

        pub slack_added : h.charge + length k + length v ≤ length arena → Judges h dir slots arena k v out ns (Ok (Insert (Slack t)))
        slack_added l = record { accepts = taken unfound slack_leaf (omega (arith, l, slack_charge x k v g.owns absent s)); spot = g; slack = s }

      module _ (s : suc (length m) ≡ h.fanout) where
        pub full_no_leaf : length dir ≤ h.leaves → Judges h dir slots arena k v out ns (Err NoLeaf)
        full_no_leaf l =
            leaf_refused unfound
            (rw (owner_pairs x k g.owns, eq-eqb (length (put k v m)) h.fanout (new_count x k v g.owns absent ∙ s), le-leb (length dir) (length ns) (omega (arith, l, x.holds.leaves_are))))

        module _ (l : h.leaves < length dir) {p : Plan} (i : PlanIs h.fanout k ns t p) where
          full_leaf : no_leaf h.fanout (length dir) k v ns ≡ false
          full_leaf =
              rw (owner_pairs x k g.owns, eq-eqb (length (put k v m)) h.fanout (new_count x k v g.owns absent ∙ s), lt-leb (length dir) (length ns) (omega (arith, l, x.holds.leaves_are)))

          pub full_no_room : length arena < h.charge + length k + length v + p.separator → Judges h dir slots arena k v out ns (Err NoRoom)
          full_no_room r = room_refused unfound full_leaf (omega (arith, r, i.separator_is v, full_charge x k v g.owns absent s))

          pub full_split : h.charge + length k + length v + p.separator ≤ length arena → Judges h dir slots arena k v out ns (Ok (Insert (Full p)))
          full_split r = record {
            accepts = taken unfound full_leaf (omega (arith, r, i.separator_is v, full_charge x k v g.owns absent s));
            at_gap = t;
            spot = g;
            full = s;
            plan = i;
          }

-- `judge_new`, from what it asks and its tests

module _ {v : View} {k w : Bytes} {t : Spot} (a : NewAsked v k w t) where
  abbrev x : Presumed v.header v.dir.now v.slots.now v.arena.now (leaves_of v)
  x = v.index.presumed

  abbrev pairs_there : List Pair
  pairs_there = (leaf_at (leaves_of v) t.leaf).pairs

  new_in : t.leaf < v.header.leaves
  new_in = (routed x k a.gap_spot.owns).within

  pub new_word : t.leaf < length v.dir.now
  new_word = omega (arith, new_in, (directed x).listed)

  pub new_small : t.leaf < 2 ^ 12
  new_small = omega (arith, new_word, x.holds.sizes.pool_most, pool_limit_fits)

  pub new_fits : v.header.charge + length k + length w < 2 ^ 32
  new_fits = omega (arith, a.key_short, a.value_short, key_limit_fits, value_limit_fits, x.fits.charged, x.holds.charge_is, x.holds.sizes.arena_most, arena_limit_fits)

  module _ {n : ℕ} (e : n ≡ word_count (get_or v.dir.now t.leaf 0)) where
    new_pairs : n ≡ length pairs_there
    new_pairs = e ∙ (leaf_lays x t.leaf new_in).count_is

    pub add_refused : n + 1 < v.header.fanout → length v.arena.now < v.header.charge + length k + length w → (out : ℕ) → JudgesOn v k w out (Err NoRoom)
    add_refused f l out = slack_refused x k w out a.key_short a.value_short a.gap_spot (omega (arith, f, new_pairs)) l

    pub add_taken : n + 1 < v.header.fanout → v.header.charge + length k + length w ≤ length v.arena.now → (out : ℕ) → JudgesOn v k w out (Ok (Insert (Slack t)))
    add_taken f l out = slack_added x k w out a.key_short a.value_short a.gap_spot (omega (arith, f, new_pairs)) l

    module _ (f : v.header.fanout ≤ n + 1) where
      new_full : suc (length pairs_there) ≡ v.header.fanout
      new_full = omega (arith, f, new_pairs, below_fanout x k w a.gap_spot.owns)

      pub split_asked : GapAsked v k t
      split_asked = record { gap_spot = a.gap_spot; full = omega (arith, e, new_pairs, new_full) }

      pub split_no_leaf : length v.dir.now ≤ v.header.leaves → (out : ℕ) → JudgesOn v k w out (Err NoLeaf)
      split_no_leaf l out = full_no_leaf x k w out a.key_short a.value_short a.gap_spot new_full l

      module _ (l : v.header.leaves < length v.dir.now) {p : Plan} (i : PlanIs v.header.fanout k (leaves_of v) t p) where
        pub split_fits : v.header.charge + length k + length w + p.separator < 2 ^ 33
        split_fits = omega (arith, new_fits, plan_fits split_asked i)

        pub split_refused : length v.arena.now < v.header.charge + length k + length w + p.separator → (out : ℕ) → JudgesOn v k w out (Err NoRoom)
        split_refused r out = full_no_room x k w out a.key_short a.value_short a.gap_spot new_full l i r

        pub split_taken : v.header.charge + length k + length w + p.separator ≤ length v.arena.now → (out : ℕ) → JudgesOn v k w out (Ok (Insert (Full p)))
        split_taken r out = full_split x k w out a.key_short a.value_short a.gap_spot new_full l i r

-- what `judge_old` asks
pub old_asked : {h : Header} {dir slots arena : List ℕ} {ns : List Node} (x : Presumed h dir slots arena ns) (k v : Bytes) {t : Spot} {n : ℕ} → AtSpot k ns t → n ≡ length (pair_in ns t.leaf t.slot).value
    → length v ≤ value_limit → (n ≤ h.charge) × (h.charge + length v < 2 ^ 32)
old_asked {ns = ns} x k v {t} a e s =
    let c = old_charged x k v a.owns (pair_in ns t.leaf t.slot).value (place-lookup (pair [] []) k (leaf_at ns t.leaf).pairs t.slot a.stands) in
    (omega (arith, e, c), omega (arith, s, value_limit_fits, x.fits.charged, x.holds.charge_is, x.holds.sizes.arena_most, arena_limit_fits))
