-- Any two outcomes of `gather` on one input coincide.
-- Assumes nothing.
use Rattle.std.specs.Prelude.{ℕ, ◌-◌, ◌+◌, ◌<◌, Some, List, ◌≡◌, ◌⊎◌, length}
use Rattle.std.proofs.Common.{ap, sym, subst, ◌∙◌, eq-or-lt_of_le, arith, inl, inr, take-append-drop}
use Rattle.lists.specs.Part.{part}
use Rattle.feed.specs.Feeds.{Ends, Gathers, Holds}
use Rattle.feed.specs.declared.Gathered.{Gathered}

not_later : {piece : List ℕ} {from e d : ℕ} → Ends piece from e → Ends piece from d → e < d → ⊥
not_later {piece} {from} {e} {d} x y h = y.clear e x.onward h (x.newline (omega (arith, y.within)))

pub ends_one : {piece : List ℕ} {from e d : ℕ} → Ends piece from e → Ends piece from d → e ≡ d
ends_one {piece} {from} {e} {d} x y =
    let f : e < d → ⊥ = not_later x y in
    let g : d < e → ⊥ = not_later y x in
    omega arith

pub holds_count : {line text a b : List ℕ} {held r q : ℕ} → Holds line held text a r → Holds line held text b q → r ≡ q
holds_count x y = x.count ∙ sym y.count

pub holds_one : {line text a b : List ℕ} {held r q : ℕ} → Holds line held text a r → Holds line held text b q → a ≡ b
holds_one {line} {text} {a} {b} {held} {r} {q} x y =
    let e : r ≡ q = holds_count x y in
    sym (take-append-drop r a) ∙ cc (x.front, y.front, x.rest, y.rest, e) ∙ take-append-drop q b

pub record Same (a : List ℕ) (g : Gathered) (b : List ℕ) (k : Gathered) : Type 0 where
  pub buffer : a ≡ b
  pub next_is : g.next ≡ k.next
  pub held_is : g.held ≡ k.held

pub gather_coincides : {piece line a b : List ℕ} {from held : ℕ} {g k : Gathered} → Gathers piece from line held g a → Gathers piece from line held k b → Same a g b k
gather_coincides {piece} {line} {a} {b} {from} {held} {g} {k} x y =
    let e : y.end ≡ x.end = ends_one y.ends x.ends in
    let h : Holds line held (part piece from (x.end - from)) b k.held = subst (λ (i : ℕ). Holds line held (part piece from (i - from)) b k.held) e y.holds in
    record { buffer = holds_one x.holds h; next_is = go e (eq-or-lt_of_le x.ends.within); held_is = holds_count x.holds h }
  where
    go : y.end ≡ x.end → (x.end ≡ length piece) ⊎ (x.end < length piece) → g.next ≡ k.next
    go e (inl l) = x.last l ∙ sym (y.last (e ∙ l))
    go e (inr l) = x.behind l ∙ ap (λ (i : ℕ). Some (i + 1)) (sym e) ∙ sym (y.behind (omega arith))
