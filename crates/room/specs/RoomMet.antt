-- What `make_room` asks is met in an index with that many bytes free, and the index is still one then.
-- Assumes nothing.
use Rattle.std.specs.Prelude.{ℕ, ◌+◌, ◌≤◌, ◌<◌, List, [], ◌∷◌, get_or, length, take}
use Rattle.std.proofs.Common.{arith}
use Rattle.directory.specs.Used.{lent}
use Rattle.layout.specs.Lays.{LaysAt, buffers, prefixes_of}
use Rattle.layout.proofs.LaysParts.{lays_stored}
use Rattle.layout.proofs.LaysWords.{holds_at, holds_long}
use Rattle.layout.specs.Presumed.{Presumed}
use Rattle.layout.specs.declared.Header.{Header}
use Rattle.lists.specs.All.{All}
use Rattle.model.specs.Charge.{stored}
use Rattle.model.specs.Good.{Bounds, Tiled, limits}
use Rattle.model.specs.Leaves.{Node}
use Rattle.model.specs.LimitLaws.{arena_limit_fits}
use Rattle.slots.specs.Whole.{Apart}
use Rattle.room.specs.Rooms.{CanMakeRoom, MadeRoom}

tiled_few : (B : Bounds) (ns : List Node) → Tiled B ns → All (λ n. length n.pairs < B.fanout) ns
tiled_few B [] t = tt
tiled_few B (n ∷ ns) t = (t.0.1, tiled_few B ns t.1)

pub presumed_apart : {h : Header} {dir slots arena : List ℕ} {ns : List Node} → Presumed h dir slots arena ns → Apart (buffers h slots arena) (length dir) ns
presumed_apart {h} {ns = ns} x =
    record { slots_are = x.holds.sizes.slots_are; numbers = x.fits.in_pool; distinct = x.fits.distinct; few = tiled_few (limits h.fanout) ns x.tiles.tiled }

pub room_met : {h : Header} {dir slots arena : List ℕ} {ns : List Node} → Presumed h dir slots arena ns → (y : Node) (j i need : ℕ) → j < length ns
    → i ≤ length (get_or ns j y).pairs → stored ns + need ≤ length arena → CanMakeRoom h.fanout h.leaves dir slots arena j i need
room_met {h} {dir} {slots} {arena} {ns} x y j i need place slot free =
    let b = buffers h slots arena in
    let count = x.holds.leaves_are in
    let lays : LaysAt b (take h.leaves dir) (prefixes_of ns) ns = rw count x.holds.lays in
    record {
      inside = omega (arith, holds_long x.holds);
      used = omega arith;
      slot = rw (holds_at x.holds y j place).count_is slot;
      pool = length dir;
      ps = prefixes_of ns;
      ns = ns;
      lays = lays;
      apart = presumed_apart x;
      arena_fits = omega (arith, x.holds.sizes.arena_most, arena_limit_fits);
      free = rw (lays_stored b (take h.leaves dir) ns lays) free;
    }

-- the leaves' regions after it
pub room_apart : {fanout leaves : ℕ} {dir slots arena : List ℕ} {j i need at : ℕ} {exit_slots exit_arena : List ℕ} {pool : ℕ} {ns : List Node}
    → MadeRoom fanout leaves dir slots arena j i need at exit_slots exit_arena → Apart (lent fanout slots arena) pool ns → Apart (lent fanout exit_slots exit_arena) pool ns
room_apart m s = record { slots_are = rw m.same_slots s.slots_are; numbers = s.numbers; distinct = s.distinct; few = s.few }

pub room_presumed : {h : Header} {dir slots arena : List ℕ} {ns : List Node} {j i need at : ℕ} {exit_slots exit_arena : List ℕ} → Presumed h dir slots arena ns
    → MadeRoom h.fanout h.leaves dir slots arena j i need at exit_slots exit_arena → Presumed h dir exit_slots exit_arena ns
room_presumed {h} {dir} {slots} {arena} {ns} {exit_slots = exit_slots} {exit_arena = exit_arena} x m =
    let count = x.holds.leaves_are in
    let lays : LaysAt (buffers h slots arena) (take h.leaves dir) (prefixes_of ns) ns = rw count x.holds.lays in
    record {
      holds = record {
        sizes = rw (m.same_slots, m.same_arena) x.holds.sizes;
        leaves_are = count;
        pairs_are = x.holds.pairs_are;
        charge_is = x.holds.charge_is;
        lays = rw count at (m.kept lays);
      };
      tiles = x.tiles;
      fits = rw m.same_arena x.fits;
    }
