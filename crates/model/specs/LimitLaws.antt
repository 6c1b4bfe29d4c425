-- All that is known of the limits: what the rules need of them, and that they fit the fields of the words. The only laws that open them.
-- Assumes nothing.
use Rattle.std.specs.Prelude.{◌*◌, ◌<◌, ◌^◌, ◌≤◌, ℕ}
use Rattle.std.proofs.Common.{arith}
use Rattle.lists.specs.Exact.{Exact, exact_and, exact_eqb, exact_iff, exact_leb}
use Rattle.model.specs.Answers.{meets_sizes}
use Rattle.model.specs.Limits.{Sizes, arena_limit, fanout_least, fanout_limit, key_limit, pool_least, pool_limit, value_limit}

pub fanout_three : {fanout : ℕ} → fanout_least ≤ fanout → 3 ≤ fanout
unfolding fanout_least
fanout_three h = h

pub pool_one : {pool : ℕ} → pool_least ≤ pool → 1 ≤ pool
unfolding pool_least
pool_one h = h

-- a local buffer of 512 bytes holds any key
pub key_limit_small : key_limit ≤ 512
unfolding key_limit
key_limit_small = omega arith

pub key_limit_fits : key_limit < 2 ^ 12
unfolding key_limit
key_limit_fits = omega arith

pub value_limit_fits : value_limit < 2 ^ 24
unfolding value_limit
value_limit_fits = omega arith

pub fanout_limit_fits : fanout_limit ≤ 2 ^ 20
unfolding fanout_limit
fanout_limit_fits = omega arith

pub pool_limit_fits : pool_limit ≤ 2 ^ 12
unfolding pool_limit
pool_limit_fits = omega arith

pub arena_limit_fits : arena_limit < 2 ^ 28
unfolding arena_limit
arena_limit_fits = omega arith

-- refusal 1 is exact
pub meets_sizes_lem : (fanout pool slots arena : ℕ) → Exact (meets_sizes fanout pool slots arena) (Sizes fanout pool slots arena)
meets_sizes_lem fanout pool slots arena =
    exact_iff
    (exact_and (exact_leb fanout_least fanout)
    (exact_and (exact_leb fanout fanout_limit)
    (exact_and (exact_leb pool_least pool)
    (exact_and (exact_leb pool pool_limit)
    (exact_and (exact_eqb slots (fanout * pool)) (exact_leb arena arena_limit))))))
    (λ t. record {
      fanout_enough = t.0;
      fanout_most = t.1.0;
      pool_enough = t.1.1.0;
      pool_most = t.1.1.1.0;
      slots_are = t.1.1.1.1.0;
      arena_most = t.1.1.1.1.1;
    })
    (λ s. (s.fanout_enough, (s.fanout_most, (s.pool_enough, (s.pool_most, (s.slots_are, s.arena_most))))))
