-- The leaf list of a view, the one list that its buffers hold; and an answer given on it, told where an index is presumed.
-- Assumes nothing.
use Rattle.std.specs.Prelude.{List, ◌≡◌, ℕ}
use Rattle.std.proofs.Common.{subst}
use Rattle.layout.specs.LaysUnique.{holds_unique}
use Rattle.layout.specs.Presumed.{Inner, Presumed}
use Rattle.layout.specs.declared.Header.{Header}
use Rattle.layout.specs.declared.lent.View.{View}
use Rattle.model.specs.Leaves.{Node}

abbrev pub leaves_of : View → List Node
leaves_of v = v.index.nodes

-- a view of this header and these buffers
pub record Views (v : View) (h : Header) (dir slots arena : List ℕ) : Type 0 where
  pub header_is : v.header ≡ h
  pub dir_is : v.dir.now ≡ dir
  pub slots_are : v.slots.now ≡ slots
  pub arena_is : v.arena.now ≡ arena

-- an answer for the view's leaf list, told of each list that is presumed
pub answered : (v : View) (answer : List Node → Type 0) → answer (leaves_of v) → Inner v.header v.dir.now v.slots.now v.arena.now answer
answered v answer a = λ ns x. subst answer (holds_unique v.index.presumed.holds x.holds) a

-- the same, told of the header and the buffers that were lent
pub view_held : {h : Header} {dir slots arena : List ℕ} (answer : Header → (dir slots arena : List ℕ) → List Node → Type 0) (v : View) → Views v h dir slots arena
    → answer v.header v.dir.now v.slots.now v.arena.now (leaves_of v) → Inner h dir slots arena (answer h dir slots arena)
view_held answer v u a = rw (u.header_is, u.dir_is, u.slots_are, u.arena_is) at (answered v (answer v.header v.dir.now v.slots.now v.arena.now) a)

-- and a fact of what was lent, and of a leaf list that is presumed of it, told of the view
pub view_has : {h : Header} {dir slots arena : List ℕ} {ns : List Node} (fact : Header → (dir slots arena : List ℕ) → List Node → Type 0) (v : View)
    → Views v h dir slots arena → Presumed h dir slots arena ns → fact h dir slots arena ns → fact v.header v.dir.now v.slots.now v.arena.now (leaves_of v)
view_has {ns = ns} fact v u x f =
    let y : Presumed v.header v.dir.now v.slots.now v.arena.now ns = rw (u.header_is, u.dir_is, u.slots_are, u.arena_is) x in
    rw (holds_unique v.index.presumed.holds y.holds, u.header_is, u.dir_is, u.slots_are, u.arena_is) f
