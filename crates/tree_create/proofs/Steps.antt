-- The steps of `create` and `clear`, over plain lists and numbers.
-- Assumes nothing.
use Rattle.std.specs.Prelude.{Err, Ok}
use Prim.Native.Nat.{◌<◌, ℕ}
use mathlib.Core.List.{List, [], ◌∷◌}
use mathlib.Core.Path.{◌∙◌, ◌≡◌, ap, refl, sym}
use native.Mathlib.Nat.{add-zero}
use native.Mathlib.Omega.{arith}
use lib.ListN.{get_or, length, set}
use Rattle.layout.specs.Examples.{Blank, header}
use Rattle.layout.proofs.Examples.{blank_holds}
use Rattle.layout.specs.Lays.{W}
use Rattle.layout.proofs.LaysWords.{region_in}
use Rattle.layout.specs.declared.Header.{Header}
use Rattle.lists.proofs.PartLaws.{get_or-put_in, put_one, length-put}
use Rattle.lists.specs.Part.{put}
use Rattle.model.specs.Answers.{meets_sizes}
use Rattle.model.specs.LeafViews.{fails, holds, truth}
use Rattle.model.specs.LimitLaws.{meets_sizes_lem, fanout_three, pool_one}
use Rattle.model.specs.Limits.{Sizes}
use Rattle.model.specs.Rules.{fresh}
use Rattle.model.specs.declared.Refusal.TheVariants.{Shape}
use Rattle.tree_create.specs.Outcomes.{ClearOutcome, CreateOutcome, Freshened, MadeFresh}
use Rattle.words.specs.Words.{directory_word, low_key_slot, low_key_word}

-- make_fresh

pub made_fresh : (fanout : ℕ) (dir slots : List ℕ) (n p i d w : ℕ) → n ≡ 0 → p ≡ 0 → i ≡ low_key_slot fanout n → d ≡ directory_word n p → w ≡ low_key_word 0 0
    → 0 < length dir → low_key_slot fanout 0 < length slots → MadeFresh fanout dir slots (set dir 0 d) (set slots i w) (header fanout 1 p 0)
made_fresh fanout dir slots n p i d w e f g h k a b =
    let j : i ≡ low_key_slot fanout 0 = g ∙ ap (low_key_slot fanout) e in
    let q : d ≡ directory_word 0 0 = h ∙ rw (e, f) in
    record {
      header_is = λ x. record { fanout = fanout; leaves = 1; pairs = f x; charge = 0 };
      dir_is = rw q (put_one dir 0 (directory_word 0 0) a);
      slots_are = rw (j, k) (put_one slots (low_key_slot fanout 0) (low_key_word 0 0) b);
    }

-- the sizes leave room for the first leaf

pub sizes_room : {fanout pool slots arena : ℕ} → Sizes fanout pool slots arena → (0 < fanout) × (0 < pool) × (low_key_slot fanout 0 < slots)
sizes_room {fanout} {pool} s =
    let f = fanout_three s.fanout_enough in
    let p = pool_one s.pool_enough in
    (omega arith, omega arith, omega (arith, s.slots_are, region_in fanout pool 0 p))

-- buffers made fresh are blank, so they hold the fresh list

blank_made : {fanout : ℕ} {dir slots now_dir now_slots : List ℕ} {h : Header} (arena : List ℕ) → Sizes fanout (length dir) (length slots) (length arena)
    → MadeFresh fanout dir slots now_dir now_slots h → Blank fanout now_dir now_slots arena
blank_made {fanout} {dir} {slots} arena s m =
    let r = sizes_room s in
    record {
      sizes = rw (m.dir_is, m.slots_are, length-put dir 0 (0 ∷ []) (omega (arith, r.1)), length-put slots (low_key_slot fanout 0) (0 ∷ []) (omega (arith, r.2))) s;
      first_word = rw m.dir_is (get_or-put_in dir 0 (0 ∷ []) 0 0 (omega arith) (omega arith));
      low_word_eq =
          rw m.slots_are
          (ap (λ (x : ℕ). get_or (put slots (low_key_slot fanout 0) (0 ∷ [])) x 0) (sym (add-zero (low_key_slot fanout 0)))
          ∙ get_or-put_in slots (low_key_slot fanout 0) (0 ∷ []) 0 0 (omega (arith, r.2)) (omega arith));
    }

pub freshened : {fanout : ℕ} {dir slots now_dir now_slots : List ℕ} {h : Header} (arena : List ℕ) → Sizes fanout (length dir) (length slots) (length arena)
    → MadeFresh fanout dir slots now_dir now_slots h → Freshened fanout dir slots arena now_dir now_slots fresh (record { header = h; answer = Ok tt })
freshened arena s m = record {
  answer_is = refl;
  code_is = refl;
  fresh = m;
  holds = rw m.header_is (blank_holds (blank_made arena s m));
}

-- create

module _ (fanout : ℕ) (dir slots arena : List ℕ) where
  -- each number of the header has its own equation, so that code which hands back another number fails at that number
  pub create_refused : (Sizes fanout (length dir) (length slots) (length arena) → ⊥) → (given leaves pairs charge : ℕ) → given ≡ 0 → leaves ≡ 0 → pairs ≡ 0 → charge ≡ 0
      → CreateOutcome fanout dir slots arena dir slots (record { header = header given leaves pairs charge; answer = Err Shape })
  create_refused n given leaves pairs charge f l p g =
      elim (truth (meets_sizes fanout (length dir) (length slots) (length arena))) [
        | holds e ↦ absurd (n ((meets_sizes_lem fanout (length dir) (length slots) (length arena)).sound e))
        | fails e ↦ rw (e, f, l, p, g) (record { answer_is = refl; code_is = refl; header_is = refl; dir_is = refl; slots_are = refl })
      ]

  pub create_done : {now_dir now_slots : List ℕ} {h : Header} → Sizes fanout (length dir) (length slots) (length arena)
      → MadeFresh fanout dir slots now_dir now_slots h → CreateOutcome fanout dir slots arena now_dir now_slots (record { header = h; answer = Ok tt })
  create_done s m = rw ((meets_sizes_lem fanout (length dir) (length slots) (length arena)).complete s) (freshened arena s m)

-- clear

module _ (h : Header) (dir slots arena : List ℕ) where
  pub clear_done : {now_dir now_slots : List ℕ} {g : Header} → W h dir slots arena → MadeFresh h.fanout dir slots now_dir now_slots g
      → ClearOutcome h dir slots arena now_dir now_slots (record { header = g; answer = Ok tt })
  clear_done w m = record { damaged = λ n. absurd (n w); held = λ v. freshened arena v.holds.sizes m }
