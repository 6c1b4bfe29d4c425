-- One input has one text; and what goes on from one piece of input to the next, one loop at a time.
-- Assumes nothing.
use Rattle.std.specs.Prelude.{ℕ, suc, zero, min, ◌+◌, ◌-◌, ◌≤◌, ◌<◌, Bool, false, not, true, List, [], ◌∷◌, ◌++◌, ◌≡◌, refl, length, take, Result, Ok, Err, IfOk, is_err}
use Rattle.std.proofs.Common.{append-nil, sym, ap, subst, ◌∙◌, arith, length-take, take-add}
use Rattle.std.proofs.Math.Option.{Option}
use Rattle.std.specs.Io.{ReadsAtMost}
use Rattle.std.specs.declared.io.Error.{Error}
use Rattle.answers.specs.Answers.{Wrote}
use Rattle.feed.specs.Feeds.{Keeps}
use Rattle.feed.specs.FeedLaws.{keeps_none}
use Rattle.lines.specs.Grammar.{Command}
use Rattle.lists.specs.Exact.{Exact, exact_no}
use Rattle.lists.specs.Part.{part, put}
use Rattle.lists.proofs.PartLaws.{part-put}
use Rattle.order.specs.Bytes.{Bytes}
use Rattle.session.specs.Same.{SameBuffers}
use Rattle.session.specs.Session.{Carries, ReplyAsked, ReplyMade, Tells, no_index}
use Rattle.session.specs.Takes.{Feeds, LinesAsked, LinesTaken, Takes, line_room}
use Rattle.session.specs.Takes.Feeds.{done, newline}
use Rattle.session.specs.TakeLaws.{answer_limit_lem, feeds_append, feeds_one, tells_front, tells_one}
use Rattle.session.specs.Turns.{State, arena_ceiling, closed, fanout_ceiling, line_turn, output_room, pool_ceiling}
use Rattle.session.specs.declared.Buffers.{Buffers}
use Rattle.session.specs.declared.Replied.{Replied}
use Rattle.session.specs.declared.Session.{Session}
use Rattle.session.specs.declared.take.Fed.{Fed}
use Rattle.script.specs.Script.{AllRead, Answered, Due, Ending, Filled, Got, Kept, Last, Led, Over, Ready, Room, Runs, Stepped, begun, ended, has_failed, is_more, output_length, stopped, turn_limit}
use Rattle.script.specs.declared.Carried.{Carried}
use Rattle.script.specs.declared.Input.TheVariants.{More}

-- one input, one text

ending_one : (z : State) (rest s t : Bytes) → Ending z rest s → Ending z rest t → s ≡ t
ending_one z [] s t e f = e ∙ sym f
ending_one z (b ∷ l) s t e f =
    e.text_is ∙ ap (λ (i : Option Command). (line_turn z i).text) (tells_one (b ∷ l) e.said f.said e.tells f.tells) ∙ sym f.text_is

pub runs_one : {input s t : Bytes} → Runs input s → Runs input t → s ≡ t
runs_one p q =
    let o = feeds_one p.feeds q.feeds in
    let f : Ending q.state p.rest q.last = subst (λ (l : Bytes). Ending q.state l q.last) (sym o.2) q.ending in
    let g : Ending p.state p.rest q.last = subst (λ (z : State). Ending z p.rest q.last) (sym o.1) f in
    p.text_is ∙ ap (λ (l : Bytes). l ++ p.last) o.0 ∙ ap (λ (l : Bytes). q.lines ++ l) (ending_one p.state p.rest p.last q.last p.ending g) ∙ sym q.text_is

-- the test of the loops

pub true_false : {A : Type 0} → true ≡ false → A
true_false e = absurd (let z : ◌≡◌ {A = ℕ} 0 1 = ap (λ (b : Bool). elim b [ true ↦ 0 | false ↦ 1 ]) e in omega (arith, z))

pub goes_end : (more : Bool) (i end : ℕ) → end ≤ i → Exact false ((more ≡ true) × (i < end))
goes_end more i end h = exact_no (λ p. omega (arith, p.1))

pub goes_more : (more : Bool) (i end : ℕ) → i < end → Exact more ((more ≡ true) × (i < end))
goes_more more i end h = record { sound = λ e. (e, h); complete = λ p. p.0 }

-- the buffers keep their lengths

pub record Lengths (dir slots arena line key value old out dir' slots' arena' line' key' value' old' out' : List ℕ) : Type 0 where
  pub dir_kept : length dir' ≡ length dir
  pub slots_kept : length slots' ≡ length slots
  pub arena_kept : length arena' ≡ length arena
  pub line_kept : length line' ≡ length line
  pub key_kept : length key' ≡ length key
  pub value_kept : length value' ≡ length value
  pub old_kept : length old' ≡ length old
  pub out_kept : length out' ≡ length out

-- (those that stay the caller's own do)
pub same_lengths : {a b : Buffers} {line line' : List ℕ} → SameBuffers a b → length line' ≡ length line
    → Lengths a.dir.now a.slots.now a.arena.now line a.key.now a.value.now a.found.now a.out.now b.dir.now b.slots.now b.arena.now line' b.key.now b.value.now b.found.now b.out.now
same_lengths s l =
    record {
      dir_kept = s.dir.long;
      slots_kept = s.slots.long;
      arena_kept = s.arena.long;
      line_kept = l;
      key_kept = s.key.long;
      value_kept = s.value.long;
      old_kept = s.found.long;
      out_kept = s.out.long;
    }

pub room_kept : {dir slots arena line key value old out dir' slots' arena' line' key' value' old' out' : List ℕ} → Room dir slots arena line key value old out
    → Lengths dir slots arena line key value old out dir' slots' arena' line' key' value' old' out' → Room dir' slots' arena' line' key' value' old' out'
room_kept r l =
    record {
      sized = record {
        dir_long = l.dir_kept ∙ r.sized.dir_long;
        slots_long = l.slots_kept ∙ r.sized.slots_long;
        arena_long = l.arena_kept ∙ r.sized.arena_long;
        key_long = l.key_kept ∙ r.sized.key_long;
        value_long = l.value_kept ∙ r.sized.value_long;
        old_long = l.old_kept ∙ r.sized.old_long;
      };
      line_long = l.line_kept ∙ r.line_long;
      out_long = l.out_kept ∙ r.out_long;
    }

pub rooms_lengths : {dir slots arena line key value old out dir' slots' arena' line' key' value' old' out' : List ℕ} → Room dir slots arena line key value old out
    → Room dir' slots' arena' line' key' value' old' out' → Lengths dir slots arena line key value old out dir' slots' arena' line' key' value' old' out'
rooms_lengths r s =
    record {
      dir_kept = s.sized.dir_long ∙ sym r.sized.dir_long;
      slots_kept = s.sized.slots_long ∙ sym r.sized.slots_long;
      arena_kept = s.sized.arena_long ∙ sym r.sized.arena_long;
      line_kept = s.line_long ∙ sym r.line_long;
      key_kept = s.sized.key_long ∙ sym r.sized.key_long;
      value_kept = s.sized.value_long ∙ sym r.sized.value_long;
      old_kept = s.sized.old_long ∙ sym r.sized.old_long;
      out_kept = s.out_long ∙ sym r.out_long;
    }

pub output_length_lem : output_length ≡ 266240
unfolding output_length
output_length_lem = refl

-- the loop of `answer_piece`

pub record So (z : State) (held piece : Bytes) (next : ℕ) (r : Carried) (dir slots arena line : List ℕ) : Type 0 where
  pub text : Bytes
  pub state : State
  pub rest : Bytes
  pub feeds : Feeds z held (take next piece) text state rest
  pub carries : Carries state r.session dir slots arena
  pub keeps : Keeps line r.held rest

pub record Along (c : Carried) (dir slots arena line piece : List ℕ) (e : Carried) (next : ℕ) (dir' slots' arena' line' key' value' old' out' : List ℕ) : Type 0 where
  pub went : (z : State) (held : Bytes) → Carries z c.session dir slots arena → Keeps line c.held held → So z held piece next e dir' slots' arena' line'
  pub failed_is : is_more c.input ≡ true → has_failed c.input ≡ false → has_failed e.input ≡ not (is_more e.input)
  pub room : Room dir' slots' arena' line' key' value' old' out'
  pub within : next ≤ length piece

pub along_start : {c : Carried} {dir slots arena line key value old out : List ℕ} (piece : List ℕ) → Ready c dir slots arena line key value old out
    → Along c dir slots arena line piece c 0 dir slots arena line key value old out
along_start piece r =
    record {
      went = λ z held k p. record { text = []; state = z; rest = held; feeds = done; carries = k; keeps = p };
      failed_is = λ m f. f ∙ ap not (sym m);
      room = r.room;
      within = omega arith;
    }

pub along_asked : {c e : Carried} {b : Fed} {dir slots arena line key value old out piece d₁ s₁ a₁ l₁ k₁ v₁ o₁ u₁ : List ℕ} {next : ℕ}
    → Ready c dir slots arena line key value old out → Along c dir slots arena line piece e next d₁ s₁ a₁ l₁ k₁ v₁ o₁ u₁ → b ≡ begun e next
    → LinesAsked b d₁ s₁ a₁ piece l₁ k₁ v₁ o₁ u₁
along_asked {c} {e} {b} {dir} {slots} {arena} {line} {key} {value} {old} {out} {piece} {d₁} {s₁} {a₁} {l₁} {k₁} {v₁} {o₁} {u₁} {next} r g q =
    let t = g.went r.state r.bytes r.carries r.keeps in
    subst (λ (x : Fed). LinesAsked x d₁ s₁ a₁ piece l₁ k₁ v₁ o₁ u₁) (sym q)
    (record {
      asked = record {
        sized = g.room.sized;
        line_long = g.room.line_long;
        state = t.state;
        carries = t.carries;
        bytes = t.rest;
        keeps = t.keeps;
        written = omega arith;
      };
      within = g.within;
    })

-- the buffers' own lengths leave room for an answer, so that each turn goes on
pub along_further : {c e : Carried} {b f : Fed} {dir slots arena line piece d₁ s₁ a₁ l₁ k₁ v₁ o₁ u₁ d₂ s₂ a₂ l₂ u₂ : List ℕ} {next : ℕ}
    → Along c dir slots arena line piece e next d₁ s₁ a₁ l₁ k₁ v₁ o₁ u₁ → b ≡ begun e next → LinesTaken b d₁ s₁ a₁ piece l₁ u₁ f d₂ s₂ a₂ l₂ u₂
    → next < length piece → next < f.next
along_further {c} {e} {b} {f} {dir} {slots} {arena} {line} {piece} {d₁} {s₁} {a₁} {l₁} {k₁} {v₁} {o₁} {u₁} {d₂} {s₂} {a₂} {l₂} {u₂} {next} g q t h =
    let m : LinesTaken (begun e next) d₁ s₁ a₁ piece l₁ u₁ f d₂ s₂ a₂ l₂ u₂ = subst (λ (x : Fed). LinesTaken x d₁ s₁ a₁ piece l₁ u₁ f d₂ s₂ a₂ l₂ u₂) q t in
    m.further h (omega (arith, answer_limit_lem, output_length_lem, g.room.out_long))

-- what was written from the output's front on

wrote_front : {out out' : Bytes} {text : Bytes} {r : ℕ} → Wrote out out' 0 text r → take r out' ≡ text
wrote_front {out} {out'} {text} {r} w =
    let n : r ≡ length text = w.behind ∙ (let z : 0 + length text ≡ length text = omega arith in z) in
    ap (λ (j : ℕ). take j out') n ∙ ap (λ (l : Bytes). take (length text) l) w.is ∙ part-put out 0 text (omega arith)

abbrev filled_took : {f : Fed} {out : List ℕ} (y : Filled f out)
    → Takes y.asked.asked.state y.asked.asked.bytes (part y.piece y.next (f.next - y.next)) y.before 0 f y.now_dir y.now_slots y.now_arena y.now_line out
filled_took y = y.taken.taken.took y.asked.asked.state y.asked.asked.bytes y.asked.asked.carries y.asked.asked.keeps

pub filled_fits : {f : Fed} {out : List ℕ} → Filled f out → f.at ≤ length out
filled_fits y = omega (arith, y.taken.taken.written, (filled_took y).wrote.long)

pub filled_due : {f : Fed} {out : List ℕ} → Filled f out → Due (take f.at out)
filled_due {f} {out} y =
    let w = filled_took y in
    let a = y.asked.asked in
    record {
      before = a.state;
      held = a.bytes;
      fed = part y.piece y.next (f.next - y.next);
      after = w.state;
      rest = w.rest;
      feeds =
          subst (λ (i : Bytes). Feeds a.state a.bytes (part y.piece y.next (f.next - y.next)) i w.state w.rest)
          (sym (wrote_front w.wrote)) w.feeds;
    }

pub along_written : {c e : Carried} {b f : Fed} {dir slots arena line key value old out piece d₁ s₁ a₁ l₁ k₁ v₁ o₁ u₁ d₂ s₂ a₂ l₂ u₂ : List ℕ} {next : ℕ}
    → Ready c dir slots arena line key value old out → Along c dir slots arena line piece e next d₁ s₁ a₁ l₁ k₁ v₁ o₁ u₁ → b ≡ begun e next
    → LinesTaken b d₁ s₁ a₁ piece l₁ u₁ f d₂ s₂ a₂ l₂ u₂ → next < length piece → Filled f u₂
along_written {c} {e} {b} {f} {dir} {slots} {arena} {line} {key} {value} {old} {out} {piece} {d₁} {s₁} {a₁} {l₁} {k₁} {v₁} {o₁} {u₁} {d₂} {s₂} {a₂} {l₂} {u₂} {next} r g q t h =
    record {
      c = e;
      next = next;
      piece = piece;
      more = h;
      dir = d₁;
      slots = s₁;
      arena = a₁;
      line = l₁;
      key = k₁;
      value = v₁;
      old = o₁;
      before = u₁;
      now_dir = d₂;
      now_slots = s₂;
      now_arena = a₂;
      now_line = l₂;
      asked = along_asked r g refl;
      taken = subst (λ (x : Fed). LinesTaken x d₁ s₁ a₁ piece l₁ u₁ f d₂ s₂ a₂ l₂ u₂) q t;
    }

taken_on : (l : List ℕ) (a b : ℕ) → a ≤ b → take a l ++ part l a (b - a) ≡ take b l
taken_on l a b h =
    let e : a + (b - a) ≡ b = omega arith in
    sym (take-add a (b - a) l) ∙ ap (λ (j : ℕ). take j l) e

pub along_turn : {c e r : Carried} {b f : Fed} {dir slots arena line piece d₁ s₁ a₁ l₁ k₁ v₁ o₁ u₁ d₂ s₂ a₂ l₂ k₂ v₂ o₂ u₂ : List ℕ} {next : ℕ}
    → Along c dir slots arena line piece e next d₁ s₁ a₁ l₁ k₁ v₁ o₁ u₁ → b ≡ begun e next → LinesTaken b d₁ s₁ a₁ piece l₁ u₁ f d₂ s₂ a₂ l₂ u₂ → Kept f r
    → Lengths d₁ s₁ a₁ l₁ k₁ v₁ o₁ u₁ d₂ s₂ a₂ l₂ k₂ v₂ o₂ u₂ → Along c dir slots arena line piece r f.next d₂ s₂ a₂ l₂ k₂ v₂ o₂ u₂
along_turn {c} {e} {r} {b} {f} {dir} {slots} {arena} {line} {piece} {d₁} {s₁} {a₁} {l₁} {k₁} {v₁} {o₁} {u₁} {d₂} {s₂} {a₂} {l₂} {k₂} {v₂} {o₂} {u₂} {next} g q t j n =
    let m : LinesTaken (begun e next) d₁ s₁ a₁ piece l₁ u₁ f d₂ s₂ a₂ l₂ u₂ = subst (λ (x : Fed). LinesTaken x d₁ s₁ a₁ piece l₁ u₁ f d₂ s₂ a₂ l₂ u₂) q t in
    let joined : take next piece ++ part piece next (f.next - next) ≡ take f.next piece = taken_on piece next f.next m.taken.onward in
    record {
      went = λ z held k p.
          let s = g.went z held k p in
          let w = m.taken.took s.state s.rest s.carries s.keeps in
          record {
            text = s.text ++ w.text;
            state = w.state;
            rest = w.rest;
            feeds = subst (λ (i : Bytes). Feeds z held i (s.text ++ w.text) w.state w.rest) joined (feeds_append s.feeds w.feeds);
            carries = subst (λ (i : Session). Carries w.state i d₂ s₂ a₂) (sym j.session_is) w.carries;
            keeps = subst (λ (i : ℕ). Keeps l₂ i w.rest) (sym j.held_is) w.keeps;
          };
      failed_is = λ _ _. j.failed_is;
      room = room_kept g.room n;
      within = m.taken.within;
    }

pub along_done : {c e : Carried} {dir slots arena line piece d₁ s₁ a₁ l₁ k₁ v₁ o₁ u₁ : List ℕ} {next : ℕ}
    → Along c dir slots arena line piece e next d₁ s₁ a₁ l₁ k₁ v₁ o₁ u₁ → ((is_more e.input ≡ true) × (next < length piece) → ⊥)
    → Answered c dir slots arena line piece e d₁ s₁ a₁ l₁
along_done {c} {e} {dir} {slots} {arena} {line} {piece} {d₁} {s₁} {a₁} {l₁} {k₁} {v₁} {o₁} {u₁} {next} g h =
    record {
      went = λ z held k p.
          let s = g.went z held k p in
          record {
            taken = next;
            text = s.text;
            state = s.state;
            rest = s.rest;
            within = g.within;
            whole = λ m. let n : next < length piece → ⊥ = λ l. h (m, l) in omega (arith, g.within);
            feeds = s.feeds;
            carries = s.carries;
            keeps = s.keeps;
          };
      failed_is = g.failed_is;
    }

-- `answer_got`

over_same : (c : Carried) (failed : Bool) (dir slots arena line : List ℕ) → Over c failed dir slots arena line (ended c failed) dir slots arena line
over_same c failed dir slots arena line = record { is = refl; dir_is = refl; slots_are = refl; arena_is = refl; line_is = refl }

pub got_none : (got : Result ℕ Error) (c : Carried) (dir slots arena line input : List ℕ) → IfOk got (λ n. n ≡ 0)
    → Got got c dir slots arena line input (ended c (is_err got)) dir slots arena line
got_none (Ok zero) c dir slots arena line input h = over_same c false dir slots arena line
got_none (Ok (suc n)) c dir slots arena line input h = absurd (omega (arith, h))
got_none (Err e) c dir slots arena line input h = over_same c true dir slots arena line

pub got_some : (got : Result ℕ Error) (count : ℕ) (input : List ℕ) {n : ℕ} {c r : Carried} {dir slots arena line d₁ s₁ a₁ l₁ : List ℕ} → got ≡ Ok count
    → (count ≡ 0 → ⊥) → n ≡ min count (length input) → Answered c dir slots arena line (take n input) r d₁ s₁ a₁ l₁
    → Got got c dir slots arena line input r d₁ s₁ a₁ l₁
got_some got count input {n} {c} {r} {dir} {slots} {arena} {line} {d₁} {s₁} {a₁} {l₁} e h k p =
    subst (λ (i : Result ℕ Error). Got i c dir slots arena line input r d₁ s₁ a₁ l₁) (sym e) (go count h k)
  where
    go : (i : ℕ) → (i ≡ 0 → ⊥) → n ≡ min i (length input) → Got (Ok i) c dir slots arena line input r d₁ s₁ a₁ l₁
    go zero t u = absurd (t refl)
    go (suc m) t u =
        subst (λ (j : ℕ). Answered c dir slots arena line (take j input) r d₁ s₁ a₁ l₁) u p

-- (a read leaves the buffer as long as it was)
reads_kept : (got : Result ℕ Error) (input now_input : List ℕ) → length now_input ≡ length input → ReadsAtMost got now_input → ReadsAtMost got input
reads_kept (Ok n) input now_input e m =
    let h : n ≤ length input = omega (arith, e, m.0) in
    (h, omega (arith, h, length-take n input))
reads_kept (Err e) input now_input k m = m

pub stepped_by : (got : Result ℕ Error) {c r : Carried} {dir slots arena line input d₁ s₁ a₁ l₁ : List ℕ} (now_input : List ℕ) → length now_input ≡ length input
    → ReadsAtMost got now_input → Got got c dir slots arena line now_input r d₁ s₁ a₁ l₁ → Stepped c dir slots arena line input r d₁ s₁ a₁ l₁ now_input
stepped_by got {input = input} now_input e m g = record { got = got; moved = reads_kept got input now_input e m; answered = g }

-- `answer_last`

pub ready_reply : {c : Carried} {dir slots arena line key value old out : List ℕ} → Ready c dir slots arena line key value old out
    → ReplyAsked c.session dir slots arena key value old out 0
ready_reply r =
    record {
      sized = r.room.sized;
      state = r.state;
      carries = r.carries;
      room = omega (arith, answer_limit_lem, output_length_lem, r.room.out_long);
    }

pub reply_fits : {c : Carried} {r : Replied} {dir slots arena line said key value old out d₁ s₁ a₁ u₁ : List ℕ} → Ready c dir slots arena line key value old out
    → ReplyMade c.session dir slots arena said out 0 r d₁ s₁ a₁ u₁ → r.at ≤ length u₁
reply_fits y m =
    let w = m.answered y.state m.said y.carries m.tells in
    omega (arith, m.behind, w.long, answer_limit_lem, output_length_lem, y.room.out_long)

-- a line is answered as it would be at a newline
pub reply_due : {c : Carried} {r : Replied} {dir slots arena line said key value old out d₁ s₁ a₁ u₁ : List ℕ} → Ready c dir slots arena line key value old out
    → ReplyMade c.session dir slots arena said out 0 r d₁ s₁ a₁ u₁ → Due (take r.at u₁)
reply_due {r = r} {said = said} {u₁ = u₁} y m =
    let z = y.state in
    let w = m.answered z m.said y.carries m.tells in
    let e : take r.at u₁ ≡ (line_turn z m.said).text ++ [] = wrote_front w ∙ sym (append-nil (line_turn z m.said).text) in
    record {
      before = z;
      held = said;
      fed = 10 ∷ [];
      after = (line_turn z m.said).state;
      rest = [];
      feeds = subst (λ (t : Bytes). Feeds z said (10 ∷ []) t (line_turn z m.said).state []) (sym e) (newline m.said refl m.tells done);
    }

pub last_none : (c : Carried) (dir slots arena line out : List ℕ) → c.held ≡ 0 → Last c dir slots arena line out out
last_none c dir slots arena line out e = record { none_held = λ _. refl; failed = λ _. refl; answered = λ z held said k p t n f. absurd (n e) }

pub last_failed : (c : Carried) (dir slots arena line out : List ℕ) → has_failed c.input ≡ true → Last c dir slots arena line out out
last_failed c dir slots arena line out e = record { none_held = λ _. refl; failed = λ _. refl; answered = λ z held said k p t n f. true_false (sym e ∙ f) }

pub last_line : {c : Carried} {r : Replied} {dir slots arena line key value old out d₁ s₁ a₁ u₁ : List ℕ} → Ready c dir slots arena line key value old out → has_failed c.input ≡ false → (c.held ≡ 0 → ⊥)
    → ReplyMade c.session dir slots arena (take c.held line) out 0 r d₁ s₁ a₁ u₁ → Last c dir slots arena line out u₁
last_line {c} {r} {dir} {slots} {arena} {line} {key} {value} {old} {out} {d₁} {s₁} {a₁} {u₁} y g h m =
    record {
      none_held = λ e. absurd (h e);
      failed = λ e. true_false (sym e ∙ g);
      answered = λ z held said k p t n f.
          let kept : take c.held line ≡ take line_room held = p.front ∙ ap (λ (j : ℕ). take j held) y.room.line_long in
          let same : m.said ≡ said =
          tells_one held m.said said (tells_front held m.said (subst (λ (l : Bytes). Tells l m.said) kept m.tells)) t in
          (m.answered z m.said k m.tells).is ∙ ap (λ (i : Option Command). put out 0 (line_turn z i).text) same;
    }

-- `answer_reads`

pub led_start : {s : Session} {dir slots arena line key value old out : List ℕ} → Room dir slots arena line key value old out → s ≡ no_index
    → Led (record { session = s; held = 0; input = More }) dir slots arena line key value old out
led_start {line = line} r e =
    record {
      room = r;
      fed = [];
      text = [];
      state = closed;
      rest = [];
      feeds = done;
      carries = e;
      keeps = keeps_none line;
      unfailed = λ _. refl;
    }

pub led_ready : {c : Carried} {dir slots arena line key value old out : List ℕ} → Led c dir slots arena line key value old out → Ready c dir slots arena line key value old out
led_ready y = record { room = y.room; state = y.state; carries = y.carries; bytes = y.rest; keeps = y.keeps }

none_stopped : (failed : Bool) → is_more (stopped failed) ≡ false
none_stopped true = refl
none_stopped false = refl

module _ {c r : Carried} {dir slots arena line key value old out d₁ s₁ a₁ l₁ k₁ v₁ o₁ u₁ : List ℕ} (y : Led c dir slots arena line key value old out)
    (n : Lengths dir slots arena line key value old out d₁ s₁ a₁ l₁ k₁ v₁ o₁ u₁) where
  led_over : {failed : Bool} → Over c failed dir slots arena line r d₁ s₁ a₁ l₁ → Led r d₁ s₁ a₁ l₁ k₁ v₁ o₁ u₁
  led_over {failed} x =
      let s : r.session ≡ c.session = ap (λ (i : Carried). i.session) x.is in
      let h : r.held ≡ c.held = ap (λ (i : Carried). i.held) x.is in
      record {
        room = room_kept y.room n;
        fed = y.fed;
        text = y.text;
        state = y.state;
        rest = y.rest;
        feeds = y.feeds;
        carries = rw (s, x.dir_is, x.slots_are, x.arena_is) y.carries;
        keeps = rw (h, x.line_is) y.keeps;
        unfailed = λ m. true_false (sym m ∙ ap (λ (i : Carried). is_more i.input) x.is ∙ none_stopped failed);
      }

  led_piece : {piece : List ℕ} → Answered c dir slots arena line piece r d₁ s₁ a₁ l₁ → is_more c.input ≡ true → Led r d₁ s₁ a₁ l₁ k₁ v₁ o₁ u₁
  led_piece {piece} x m =
      let w = x.went y.state y.rest y.carries y.keeps in
      record {
        room = room_kept y.room n;
        fed = y.fed ++ take w.taken piece;
        text = y.text ++ w.text;
        state = w.state;
        rest = w.rest;
        feeds = feeds_append y.feeds w.feeds;
        carries = w.carries;
        keeps = w.keeps;
        unfailed = λ g. x.failed_is m (y.unfailed m) ∙ ap not g;
      }

  led_got : (input : List ℕ) (got : Result ℕ Error) → is_more c.input ≡ true → Got got c dir slots arena line input r d₁ s₁ a₁ l₁ → Led r d₁ s₁ a₁ l₁ k₁ v₁ o₁ u₁
  led_got input (Ok zero) m x = led_over x
  led_got input (Ok (suc i)) m x = led_piece x m
  led_got input (Err e) m x = led_over x

  pub led_step : {input now_input : List ℕ} → is_more c.input ≡ true → Stepped c dir slots arena line input r d₁ s₁ a₁ l₁ now_input → Led r d₁ s₁ a₁ l₁ k₁ v₁ o₁ u₁
  led_step {now_input = input} m x = led_got input x.got m x.answered

pub turn_limit_lem : turn_limit ≡ 18446744073709551615
unfolding turn_limit
turn_limit_lem = refl

pub all_read : {c : Carried} {turns : ℕ} {dir slots arena line key value old out : List ℕ} → Led c dir slots arena line key value old out → turns ≤ 18446744073709551615
    → ((is_more c.input ≡ true) × (turns < 18446744073709551615) → ⊥) → AllRead (record { carried = c; turns = turns }) dir slots arena line key value old out
all_read {turns = turns} y h f =
    record { led = y; all = λ m. let n : turns < 18446744073709551615 → ⊥ = λ l. f (m, l) in omega (arith, turn_limit_lem) }

-- `main`

pub program_room : {dir slots arena line key value old out : List ℕ} → length dir ≡ 64 → length slots ≡ 4096 → length arena ≡ 16384 → length line ≡ 4097
    → length key ≡ 2048 → length value ≡ 2048 → length old ≡ 65536 → length out ≡ 266240 → Room dir slots arena line key value old out
unfolding pool_ceiling fanout_ceiling arena_ceiling output_room line_room output_length
program_room a b c d e f g h =
    record {
      sized = record { dir_long = a; slots_long = b; arena_long = c; key_long = e; value_long = f; old_long = g };
      line_long = d;
      out_long = h;
    }
