-- Buffers that stay the same stay so.
-- Assumes nothing.
use Rattle.std.specs.Prelude.{ℕ, List, refl}
use Rattle.std.proofs.Common.{◌∙◌}
use Rattle.std.specs.Borrow.{MutBor}
use Rattle.session.specs.Same.{Same, SameBuffers}
use Rattle.session.specs.declared.Buffers.{Buffers}

one : (r : MutBor (List ℕ)) → Same r r
one r = record { is = refl; long = refl }

two : {p q r : MutBor (List ℕ)} → Same p q → Same q r → Same p r
two a b = record { is = b.is ∙ a.is; long = b.long ∙ a.long }

pub same_self : (b : Buffers) → SameBuffers b b
same_self b = record { dir = one b.dir; slots = one b.slots; arena = one b.arena; key = one b.key; value = one b.value; found = one b.found; out = one b.out }

pub same_more : {a b c : Buffers} → SameBuffers a b → SameBuffers b c → SameBuffers a c
same_more x y =
    record {
      dir = two x.dir y.dir;
      slots = two x.slots y.slots;
      arena = two x.arena y.arena;
      key = two x.key y.key;
      value = two x.value y.value;
      found = two x.found y.found;
      out = two x.out y.out;
    }
