-- `insert_pair`: what the functions that it calls ask is met, and the index that they leave.
-- Assumes nothing.
use Rattle.std.specs.Prelude.{◌+◌, ◌-◌, ◌<◌, ◌^◌, ◌≤◌, suc, ℕ, List, [], ◌++◌, ◌∷◌, ◌≡◌, refl, drop, get_or, length, take}
use Rattle.std.proofs.Common.{◌∙◌, ap, subst, sym, mul-le-mul, arith, length-drop, take-append-drop, take_all}
use Rattle.std.proofs.Math.Seq.{split_at}
use Rattle.layout.specs.Lays.{LaysAt, prefixes_of}
use Rattle.layout.specs.LaysLaws.{prefixes_at, prefixes_kept, prefixes_length}
use Rattle.layout.proofs.LaysWords.{holds_long}
use Rattle.layout.specs.Presumed.{Index, Presumed}
use Rattle.layout.specs.UsedLaws.{length_same}
use Rattle.layout.specs.declared.Header.{Header}
use Rattle.leaf.specs.declared.Leaf.{Leaf}
use Rattle.model.specs.Charge.{stored}
use Rattle.model.specs.Good.{limits}
use Rattle.model.specs.Leaves.{Node, node, with_pairs}
use Rattle.model.specs.LimitLaws.{arena_limit_fits, fanout_limit_fits, fanout_three, key_limit_fits, pool_limit_fits, value_limit_fits}
use Rattle.model.specs.Map.{Pair, pair}
use Rattle.model.proofs.PairLaws.{pairs_most}
use Rattle.model.specs.Place.{LookupBy, lookup_by}
use Rattle.model.proofs.RuleEdits.{inserted_charge, inserted_fits, inserted_is, inserted_pairs}
use Rattle.model.specs.Rules.{insert_rule}
use Rattle.model.proofs.StoredLaws.{stored_charge}
use Rattle.model.proofs.TileLaws.{insert_tiles}
use Rattle.order.specs.Bytes.{Bytes}
use Rattle.pair_edit.specs.PairEdits.{CanInsert, InsertedPair, Inserts}
use Rattle.room.specs.RoomMet.{presumed_apart, room_met, room_presumed}
use Rattle.room.specs.Rooms.{CanMakeRoom, MadeRoom}
use Rattle.route.specs.RouteLaws.{key_begins, key_long, leaf_lays, place_in, routed}
use Rattle.route.specs.Routes.{LeafIs, Routed, leaf_at}
use Rattle.slots.specs.Around.{Around, over}
use Rattle.slots.specs.Edits.{PutIn, Puts}
use Rattle.slots.specs.EditsLaws.{region_of}
use Rattle.slots.specs.Whole.{around_place, whole_written}
use Rattle.spots.specs.declared.Spot.{Spot}

-- what `&key[p..]` gives
abbrev pub suffix_from : ℕ → Bytes → Bytes
suffix_from p k = take (length k - p) (drop p k)

suffix_is : (p : ℕ) (k : Bytes) → suffix_from p k ≡ drop p k
suffix_is p k = take_all (length k - p) (drop p k) (omega (arith, length-drop p k))

suffix_short : (p : ℕ) (k : Bytes) → length (suffix_from p k) ≤ length k
suffix_short p k = rw (suffix_is p k, length-drop p k) (omega arith)

-- the header after it
abbrev pub inserted_header : Header → (k v : Bytes) → Header
inserted_header h k v = record { fanout = h.fanout; leaves = h.leaves; pairs = h.pairs + 1; charge = h.charge + length k + length v }

module _ {h : Header} {dir slots arena : List ℕ} {k v : Bytes} {t : Spot} where
  module _ {ns : List Node} (x : Presumed h dir slots arena ns) (a : Inserts h (length arena) k v t ns) where
    goes : Routed h ns k t.leaf
    goes = routed x k a.spot.owns

    slot_in : t.slot ≤ length (leaf_at ns t.leaf).pairs
    slot_in = (subst (LookupBy (pair [] []) k (leaf_at ns t.leaf).pairs) a.spot.stands (lookup_by (pair [] []) k (leaf_at ns t.leaf).pairs)).0

    leaf_in : t.leaf < length ns
    leaf_in = place_in x goes.within

    dir_in : t.leaf < length dir
    dir_in = omega (arith, leaf_in, holds_long x.holds)

    free : (need : ℕ) → need ≤ length k + length v → stored ns + need ≤ length arena
    free need s = omega (arith, s, a.room, x.holds.charge_is, stored_charge ns)

    few : h.pairs + 1 < 2 ^ 64
    few =
        let l : length ns ≤ 2 ^ 12 = omega (arith, x.fits.counted, x.holds.sizes.pool_most, pool_limit_fits) in
        let f : h.fanout ≤ 2 ^ 20 = omega (arith, x.holds.sizes.fanout_most, fanout_limit_fits) in
        omega (arith, mul-le-mul l f, pairs_most (limits h.fanout) ns x.tiles.tiled, x.holds.pairs_are)

  -- what is asked of the calls

  module _ (c : CanInsert h dir slots arena k v t) where
    pub can_read_leaf : Index h dir slots arena × (t.leaf < h.leaves)
    can_read_leaf = (record { nodes = c.nodes; presumed = c.presumed }, (goes c.presumed c.asks).within)

    pub pairs_small : h.pairs + 1 < 2 ^ 64
    pairs_small = few c.presumed c.asks

    pub charge_small : h.charge + length k + length v < 2 ^ 28
    charge_small = omega (arith, c.asks.room, c.presumed.holds.sizes.arena_most, arena_limit_fits)

    pub lengths_small : (length k < 2 ^ 12) × (length v < 2 ^ 24)
    lengths_small = (omega (arith, c.asks.key_short, key_limit_fits), omega (arith, c.asks.value_short, value_limit_fits))

    pub need_small : (p : ℕ) → length (suffix_from p k) + length v < 2 ^ 25
    need_small p = omega (arith, suffix_short p k, lengths_small.0, lengths_small.1)

    module _ {leaf : Leaf} (l : (ns : List Node) → Presumed h dir slots arena ns → LeafIs h dir ns t.leaf leaf) where
      abbrev p : ℕ
      p = leaf.prefix_length

      pub key_from_prefix : p ≤ length k
      key_from_prefix = key_long (l c.nodes c.presumed) (goes c.presumed c.asks)

      pub can_make_room : CanMakeRoom h.fanout h.leaves dir slots arena t.leaf t.slot (length (suffix_from p k) + length v)
      can_make_room =
          room_met c.presumed (node 0 [] []) t.leaf t.slot (length (suffix_from p k) + length v) (leaf_in c.presumed c.asks) (slot_in c.presumed c.asks)
          (free c.presumed c.asks (length (suffix_from p k) + length v) (omega (arith, suffix_short p k)))

  -- after the room is made

  module _ {ns : List Node} (x : Presumed h dir slots arena ns) (a : Inserts h (length arena) k v t ns) where
    abbrev here : (slots arena : List ℕ) → Presumed h dir slots arena ns → Around (over h.fanout slots arena) (get_or dir t.leaf 0)
    here s m y =
        around_place (over h.fanout s m) dir h.leaves (prefixes_of ns) ns (node 0 [] []) (length dir) t.leaf (rw x.holds.leaves_are y.holds.lays) (presumed_apart y)
        (goes x a).within (leaf_in x a)

    module _ {leaf : Leaf} (l : LeafIs h dir ns t.leaf leaf) {at : ℕ} {free_slots free_arena : List ℕ}
        (m : MadeRoom h.fanout h.leaves dir slots arena t.leaf t.slot (length (suffix_from leaf.prefix_length k) + length v) at free_slots free_arena) where
      abbrev suffix : Bytes
      suffix = suffix_from leaf.prefix_length k

      abbrev pairs : List Pair
      pairs = (leaf_at ns t.leaf).pairs

      opened : Presumed h dir free_slots free_arena ns
      opened = room_presumed x m

      pub can_put : Puts h.fanout dir free_slots free_arena t.leaf t.slot at suffix v
      can_put =
          let count = (leaf_lays x t.leaf (goes x a).within).count_is in
          record {
            place = dir_in x a;
            region = region_of (over h.fanout free_slots free_arena) (get_or dir t.leaf 0) (here free_slots free_arena opened);
            slot = omega (arith, slot_in x a, count);
            room = omega (arith, a.slack, count);
            count_fits = omega (arith, a.slack, count, x.holds.sizes.fanout_most, fanout_limit_fits);
            inside = omega (arith, m.inside, m.same_arena);
            offset_fits = omega (arith, m.inside, x.holds.sizes.arena_most, arena_limit_fits);
            suffix_fits = omega (arith, suffix_short leaf.prefix_length k, a.key_short, key_limit_fits);
            value_fits = omega (arith, a.value_short, value_limit_fits);
          }

      -- the stored key: the leaf's prefix and the suffix are the key
      key_is : take (get_or (prefixes_of ns) t.leaf 0) (leaf_at ns t.leaf).low ++ suffix ≡ k
      key_is =
          let p = leaf.prefix_length in
          let q : get_or (prefixes_of ns) t.leaf 0 ≡ p = prefixes_at (node 0 [] []) t.leaf ns (leaf_in x a) ∙ sym l.prefix_is in
          rw (q, suffix_is p k, sym (key_begins l (goes x a))) (take-append-drop p k)

      module _ {now_dir now_slots now_arena : List ℕ} (u : PutIn h.fanout dir free_slots free_arena t.leaf t.slot at suffix v now_dir now_slots now_arena) where
        laid : LaysAt (over h.fanout now_slots now_arena) (take h.leaves now_dir) (prefixes_of ns) (insert_rule h.fanout k v ns)
        laid =
            let j = t.leaf in
            let i = t.slot in
            let n = leaf_at ns j in
            let ps = prefixes_of ns in
            let w = whole_written (over h.fanout free_slots free_arena) dir h.leaves ps ns (node 0 [] []) (length dir) j (rw x.holds.leaves_are opened.holds.lays) (presumed_apart opened)
            (goes x a).within (leaf_in x a) (over h.fanout now_slots now_arena) now_dir _ (get_or ps j 0)
            (with_pairs n (take i pairs ++ (pair (take (get_or ps j 0) n.low ++ suffix) v ∷ drop i pairs)))
            (dir_in x a) u.dir_is (u.leaves (here free_slots free_arena opened) m.gap) in
            let e : insert_rule h.fanout k v ns ≡ take j ns ++ (with_pairs n (take i pairs ++ (pair (take (get_or ps j 0) n.low ++ suffix) v ∷ drop i pairs)) ∷ drop (suc j) ns) =
            inserted_is h.fanout k v ns x.tiles a.spot.owns a.spot.stands a.slack
            ∙ ap (λ (key : Bytes). take j ns ++ (with_pairs n (take i pairs ++ (pair key v ∷ drop i pairs)) ∷ drop (suc j) ns)) (sym key_is) in
            subst (λ (z : List ℕ). LaysAt (over h.fanout now_slots now_arena) (take h.leaves now_dir) z (insert_rule h.fanout k v ns))
            (sym (split_at ps j 0 (rw (prefixes_length ns) (leaf_in x a)))) (rw e w)

        same_prefixes : prefixes_of (insert_rule h.fanout k v ns) ≡ prefixes_of ns
        same_prefixes =
            ap prefixes_of (inserted_is h.fanout k v ns x.tiles a.spot.owns a.spot.stands a.slack)
            ∙ prefixes_kept (node 0 [] []) ns t.leaf (take t.slot pairs ++ (pair k v ∷ drop t.slot pairs)) (leaf_in x a)

        same_count : h.leaves ≡ length (insert_rule h.fanout k v ns)
        same_count =
            x.holds.leaves_are
            ∙ sym (ap length (inserted_is h.fanout k v ns x.tiles a.spot.owns a.spot.stands a.slack)
            ∙ length_same ns t.leaf (with_pairs (leaf_at ns t.leaf) (take t.slot pairs ++ (pair k v ∷ drop t.slot pairs))) (leaf_in x a))

        pub inserted : length now_dir ≡ length dir → length now_slots ≡ length slots → length now_arena ≡ length arena
            → Presumed (inserted_header h k v) now_dir now_slots now_arena (insert_rule h.fanout k v ns)
        inserted d s b =
            let rule = insert_rule h.fanout k v ns in
            let c = inserted_charge h.fanout k v ns x.tiles a.spot.owns a.spot.stands a.slack in
            let q = inserted_pairs h.fanout k v ns x.tiles a.spot.owns a.spot.stands a.slack in
            record {
              holds = record {
                sizes = rw (d, s, b) x.holds.sizes;
                leaves_are = same_count;
                pairs_are = omega (arith, q, x.holds.pairs_are);
                charge_is = omega (arith, c, x.holds.charge_is);
                lays = rw (sym same_count, same_prefixes) laid;
              };
              tiles = insert_tiles (limits h.fanout) (fanout_three x.holds.sizes.fanout_enough) k v (a.key_short, a.value_short) ns x.tiles;
              fits = rw (d, b) (inserted_fits h.fanout k v ns x.tiles a.spot.owns a.spot.stands a.slack (length dir) (length arena) (omega (arith, a.room, x.holds.charge_is)) x.fits);
            }

  pub inserted_pair : {leaf : Leaf} {at : ℕ} {free_slots free_arena now_dir now_slots now_arena : List ℕ}
      → ((ns : List Node) → Presumed h dir slots arena ns → LeafIs h dir ns t.leaf leaf)
      → MadeRoom h.fanout h.leaves dir slots arena t.leaf t.slot (length (suffix_from leaf.prefix_length k) + length v) at free_slots free_arena
      → PutIn h.fanout dir free_slots free_arena t.leaf t.slot at (suffix_from leaf.prefix_length k) v now_dir now_slots now_arena
      → length now_dir ≡ length dir → length now_slots ≡ length free_slots → length now_arena ≡ length free_arena
      → InsertedPair h dir slots arena k v t (inserted_header h k v) now_dir now_slots now_arena
  inserted_pair l m u d s b = record {
    fanout_is = refl;
    same_dir = d;
    same_slots = s ∙ m.same_slots;
    same_arena = b ∙ m.same_arena;
    index = λ ns x a. inserted x a (l ns x) m u d (s ∙ m.same_slots) (b ∙ m.same_arena);
  }
