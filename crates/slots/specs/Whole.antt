-- From a directory that lays out a leaf list to the leaf at one of its places, and back with that leaf changed.
-- Assumes nothing.
use Rattle.std.specs.Prelude.{ℕ, suc, zero, ◌*◌, ◌<◌, List, [], ◌∷◌, ◌++◌, ◌≡◌, refl, get_or, length, set, take, drop}
use Rattle.std.proofs.Common.{◌∙◌, ap, sym, arith, get_or-take}
use Rattle.std.proofs.Math.Seq.{split_at}
use Rattle.layout.proofs.AroundLaws.{around_at, lays_of}
use Rattle.layout.specs.Buffers.{Buffers}
use Rattle.layout.specs.Lays.{LaysAt}
use Rattle.layout.specs.LaysLaws.{each_words}
use Rattle.layout.proofs.RegionLaws.{owns_at}
use Rattle.lists.specs.All.{All}
use Rattle.lists.proofs.PartLaws.{put_one}
use Rattle.lists.specs.Part.{put}
use Rattle.model.specs.Good.{Distinct}
use Rattle.model.specs.Leaves.{Node}
use Rattle.slots.specs.Around.{Around, Becomes}

-- what a leaf list must meet, so that each leaf's region is its own
pub record Apart (b : Buffers) (pool : ℕ) (ns : List Node) : Type 0 where
  pub slots_are : length b.slots ≡ b.fanout * pool
  pub numbers : All (λ n. n.number < pool) ns
  pub distinct : Distinct ns
  pub few : All (λ n. length n.pairs < b.fanout) ns

word_written : (dir : List ℕ) (k j e : ℕ) → j < k → j < length dir → take k (set dir j e) ≡ take j (take k dir) ++ (e ∷ drop (suc j) (take k dir))
word_written [] k j e h m = absurd (omega arith)
word_written (d ∷ dir) zero j e h m = absurd (omega arith)
word_written (d ∷ dir) (suc k) zero e h m = refl
word_written (d ∷ dir) (suc k) (suc j) e h m = ap (λ (l : List ℕ). d ∷ l) (word_written dir k j e (omega arith) (omega arith))

module _ (b : Buffers) (dir : List ℕ) (k : ℕ) (ps : List ℕ) (ns : List Node) (x : Node) (pool j : ℕ)
    (h : LaysAt b (take k dir) ps ns) (s : Apart b pool ns) (i : j < k) (m : j < length ns) where
  abbrev pub around_place : Around b (get_or dir j 0)
  around_place = record {
    ahead = take j (take k dir);
    behind = drop (suc j) (take k dir);
    prefixes_ahead = take j ps;
    prefix = get_or ps j 0;
    prefixes_behind = drop (suc j) ps;
    leaves_ahead = take j ns;
    leaf = get_or ns j x;
    leaves_behind = drop (suc j) ns;
    lays = rw (get_or-take k dir j 0 i) at (around_at h x j m);
    owns = rw (get_or-take k dir j 0 i) at (owns_at pool h x j m s.slots_are s.numbers s.distinct s.few);
  }

  -- the new directory word at that place
  pub whole_written : (c : Buffers) (now_dir : List ℕ) (e p : ℕ) (n : Node) → j < length dir → now_dir ≡ put dir j (e ∷ []) → Becomes b (get_or dir j 0) around_place c e p n
      → LaysAt c (take k now_dir) (take j ps ++ (p ∷ drop (suc j) ps)) (take j ns ++ (n ∷ drop (suc j) ns))
  whole_written c now_dir e p n room is t =
      let same : take j (take k dir) ++ (e ∷ drop (suc j) (take k dir)) ≡ take k now_dir =
      sym (word_written dir k j e i room) ∙ ap (take k) (put_one dir j e room ∙ sym is) in
      rw same at (lays_of t.lays)

  -- the directory as it was
  pub whole_kept : (c : Buffers) (p : ℕ) (n : Node) → Becomes b (get_or dir j 0) around_place c (get_or dir j 0) p n
      → LaysAt c (take k dir) (take j ps ++ (p ∷ drop (suc j) ps)) (take j ns ++ (n ∷ drop (suc j) ns))
  whole_kept c p n t =
      let same : take j (take k dir) ++ (get_or dir j 0 ∷ drop (suc j) (take k dir)) ≡ take k dir =
      ap (λ (d : ℕ). take j (take k dir) ++ (d ∷ drop (suc j) (take k dir))) (sym (get_or-take k dir j 0 i))
      ∙ sym (split_at (take k dir) j 0 (rw (each_words b ps (take k dir) ns h.leaves) m)) in
      rw same at (lays_of t.lays)
