-- Pieces of input fed one behind the other, and the lines of a piece.
-- Assumes nothing.
use Rattle.std.specs.Prelude.{ℕ, ◌+◌, ◌-◌, ◌≤◌, ◌<◌, None, Some, false, List, [], ◌∷◌, ◌++◌, ◌⊎◌, ◌≡◌, refl, leb, length, take}
use Rattle.std.proofs.Common.{append_assoc, append-nil, inl, inr, sym, ap, subst, ◌∙◌, eq-or-lt_of_le, arith, take_all, length-take-le}
use Rattle.std.proofs.Common as rust
use Rattle.std.proofs.Math.Option.{Option, none, some}
use Rattle.std.proofs.Math.Decide.{dec_le}
use Rattle.answers.specs.Answers.{Wrote}
use Rattle.answers.specs.AnswerLaws.{wrote_more}
use Rattle.feed.specs.Feeds.{Gathers, Keeps}
use Rattle.feed.specs.FeedLaws.{ends_clear, ends_line, keeps_more, keeps_none}
use Rattle.feed.specs.declared.Gathered.{Gathered}
use Rattle.lines.specs.Grammar.{Command}
use Rattle.lines.specs.OneLaws.{says_one}
use Rattle.lists.specs.All.{All}
use Rattle.lists.specs.Exact.{Exact, exact_iff, exact_leb, exact_no}
use Rattle.lists.specs.Part.{part}
use Rattle.lists.proofs.PartLaws.{part-add, put-nil}
use Rattle.order.specs.Bytes.{Bytes}
use Rattle.session.specs.Session.{ReplyAsked, ReplyMade, Sized, Tells, answer_limit}
use Rattle.session.specs.Takes.{Feeds, LineAsked, LineTaken, LinesAsked, LinesTaken, Taken, Takes, line_room}
use Rattle.session.specs.Takes.Feeds.{byte, done, newline}
use Rattle.session.specs.Turns.{State, line_turn}
use Rattle.session.specs.declared.Replied.{Replied}
use Rattle.session.specs.declared.take.Fed.{Fed}

-- pieces of any size give the same answers
pub feeds_append : {z y x : State} {held a s rest b t last : Bytes} → Feeds z held a s y rest → Feeds y rest b t x last → Feeds z held (a ++ b) (s ++ t) x last
feeds_append done q = q
feeds_append (byte n p) q = byte n (feeds_append p q)
feeds_append {z} {y} {x} {held} {a} {s} {rest} {b} {t} {last} (newline {text = u} c e l p) q =
    subst (λ (w : Bytes). Feeds z held (a ++ b) w x last) (sym (append_assoc (line_turn z c).text u t)) (newline c e l (feeds_append p q))

-- bytes without a newline are so many more of the line
pub feeds_clear : (z : State) (held text : Bytes) → All (λ (b : ℕ). b ≡ 10 → ⊥) text → Feeds z held text [] z (held ++ text)
feeds_clear z held [] a = subst (λ (h : Bytes). Feeds z held [] [] z h) (sym (append-nil held)) done
feeds_clear z held (b ∷ text) a =
    byte a.0 (subst (λ (h : Bytes). Feeds z (held ++ (b ∷ [])) text [] z h) (append_assoc held (b ∷ []) text) (feeds_clear z (held ++ (b ∷ [])) text a.1))

-- and with the newline they are answered
pub feeds_line : (z : State) (held text : Bytes) (c : Option Command) → All (λ (b : ℕ). b ≡ 10 → ⊥) text → Tells (held ++ text) c
    → Feeds z held (text ++ (10 ∷ [])) (line_turn z c).text (line_turn z c).state []
feeds_line z held text c a l =
    subst (λ (t : Bytes). Feeds z held (text ++ (10 ∷ [])) t (line_turn z c).state []) (append-nil (line_turn z c).text)
    (feeds_append (feeds_clear z held text a) (newline c refl l done))

-- a line over 4,096 bytes says no command, and neither do its first 4,097

pub line_room_lem : line_room ≡ 4097
unfolding line_room
line_room_lem = refl

pub tells_front : (line : Bytes) (c : Option Command) → Tells (take line_room line) c → Tells line c
tells_front line c t =
    elim (dec_le (length line) line_room) [
      | yes h ↦ subst (λ (l : Bytes). Tells l c) (take_all line_room line h) t
      | no h ↦ long c (omega arith) t
    ]
  where
    long : (d : Option Command) → line_room < length line → Tells (take line_room line) d → Tells line d
    long none h u = λ d s. omega (arith, line_room_lem, s.short)
    long (some d) h u = absurd (omega (arith, line_room_lem, u.short, length-take-le line_room line (omega arith)))

-- one input, one answer

pub tells_one : (line : Bytes) (c d : Option Command) → Tells line c → Tells line d → c ≡ d
tells_one line none none t u = refl
tells_one line none (some d) t u = absurd (t d u)
tells_one line (some c) none t u = absurd (u c t)
tells_one line (some c) (some d) t u = ap some (says_one t u)

pub feeds_one : {z y x : State} {held input s t rest last : Bytes} → Feeds z held input s y rest → Feeds z held input t x last → (s ≡ t) × (y ≡ x) × (rest ≡ last)
feeds_one done done = (refl, refl, refl)
feeds_one (byte n p) (byte m q) = feeds_one p q
feeds_one (byte n p) (newline c e l q) = absurd (n e)
feeds_one (newline c e l p) (byte n q) = absurd (n e)
feeds_one {z} {x = x} {held = held} {last = last} (newline {text = u} c e l p) (newline {input = i} {text = v} d f m q) =
    let g : d ≡ c = tells_one held d c m l in
    let r = feeds_one {last = last} p (subst (λ (k : Option Command). Feeds (line_turn z k).state [] i v x last) g q) in
    (ap (λ (k : Bytes). (line_turn z c).text ++ k) r.0 ∙ ap (λ (k : Option Command). (line_turn z k).text ++ v) (sym g), r.1, r.2)

-- what `take_line` leaves

pub wrote_nothing : (out : Bytes) (at : ℕ) → Wrote out out at [] at
wrote_nothing out at = record { is = sym (put-nil out at); behind = omega arith; long = refl }

some_none : {A : Type 0} {n : ℕ} → ◌≡◌ {A = rust.Option ℕ} (Some n) None → A
some_none e = absurd (let z : ◌≡◌ {A = ℕ} 0 1 = cc (e) in omega (arith, z))

some_same : {n m : ℕ} → ◌≡◌ {A = rust.Option ℕ} (Some n) (Some m) → n ≡ m
some_same e = cc (e)

pub take_rest : {f : Fed} {g : Gathered} {dir slots arena piece line key value old out line' : List ℕ} → LineAsked f dir slots arena piece line key value old out
    → Gathers piece f.next line f.held g line' → g.next ≡ None
    → LineTaken f dir slots arena piece line out (record { session = f.session; next = length piece; held = g.held; at = f.at }) dir slots arena line' out
take_rest {f} {g} {dir} {slots} {arena} {piece} {line} {key} {value} {old} {out} {line'} a x w =
    let b : x.end < length piece → ⊥ = λ l. some_none (sym (x.behind l) ∙ w) in
    let d : x.end ≡ length piece = omega (arith, x.ends.within) in
    let n : length piece ≡ x.end = sym d in
    record {
      taken = record {
        onward = omega (arith, x.ends.onward);
        within = omega arith;
        took = λ z held k p. record {
          text = [];
          state = z;
          rest = held ++ part piece f.next (x.end - f.next);
          feeds = subst (λ (j : ℕ). Feeds z held (part piece f.next (j - f.next)) [] z (held ++ part piece f.next (x.end - f.next))) (sym n) (feeds_clear z held (part piece f.next (x.end - f.next)) (ends_clear x.ends));
          wrote = wrote_nothing out f.at;
          carries = k;
          keeps = keeps_more p x.holds;
        };
        written = a.asked.written;
        sizes = λ k v o s. s;
      };
      further = omega (arith, a.more);
    }

pub line_reply : {f : Fed} {dir slots arena piece line key value old out : List ℕ} → LineAsked f dir slots arena piece line key value old out
    → ReplyAsked f.session dir slots arena key value old out f.at
line_reply a = record { sized = a.asked.sized; state = a.asked.state; carries = a.asked.carries; room = a.room }

pub take_whole : {f : Fed} {g : Gathered} {next : ℕ} {r : Replied} {dir slots arena piece line key value old out line' dir' slots' arena' out' : List ℕ}
    → LineAsked f dir slots arena piece line key value old out → Gathers piece f.next line f.held g line' → g.next ≡ Some next
    → ReplyMade f.session dir slots arena (take g.held line') out f.at r dir' slots' arena' out'
    → LineTaken f dir slots arena piece line out (record { session = r.session; next = next; held = 0; at = r.at }) dir' slots' arena' line' out'
take_whole {f} {g} {next} {r} {dir} {slots} {arena} {piece} {line} {key} {value} {old} {out} {line'} {dir'} {slots'} {arena'} {out'} a x w m =
    let b : x.end < length piece = before (eq-or-lt_of_le x.ends.within) in
    let n : next ≡ x.end + 1 = some_same (sym w ∙ x.behind b) in
    let text : Bytes = part piece f.next (x.end - f.next) in
    let long : length line' ≡ line_room = x.holds.long ∙ a.asked.line_long in
    let kept : (held : Bytes) → Keeps line f.held held → take g.held line' ≡ take line_room (held ++ text) = λ held p.
    (keeps_more p x.holds).front ∙ ap (λ (j : ℕ). take j (held ++ text)) long in
    let told : (held : Bytes) → Keeps line f.held held → Tells (held ++ text) m.said = λ held p.
    tells_front (held ++ text) m.said (subst (λ (l : Bytes). Tells l m.said) (kept held p) m.tells) in
    record {
      taken = record {
        onward = omega (arith, x.ends.onward);
        within = omega arith;
        took = λ z held k p. record {
          text = (line_turn z m.said).text;
          state = (line_turn z m.said).state;
          rest = [];
          feeds = subst (λ (i : Bytes). Feeds z held i (line_turn z m.said).text (line_turn z m.said).state []) (sym (ends_line x.ends b n))
              (feeds_line z held text m.said (ends_clear x.ends) (told held p));
          wrote = m.answered z m.said k m.tells;
          carries = m.carried z m.said k m.tells;
          keeps = keeps_none line';
        };
        written = omega (arith, m.behind, a.room);
        sizes = m.sizes;
      };
      further = omega (arith, x.ends.onward);
    }
  where
    before : (x.end ≡ length piece) ⊎ (x.end < length piece) → x.end < length piece
    before (inl d) = some_none (sym w ∙ x.last d)
    before (inr l) = l

-- one piece behind the other

pub takes_more : {z : State} {held a b : Bytes} {out : List ℕ} {at : ℕ} {e r : Fed} {d₁ s₁ a₁ l₁ o₁ d₂ s₂ a₂ l₂ o₂ : List ℕ} → at ≤ length out
    → (t : Takes z held a out at e d₁ s₁ a₁ l₁ o₁) → Takes t.state t.rest b o₁ e.at r d₂ s₂ a₂ l₂ o₂ → Takes z held (a ++ b) out at r d₂ s₂ a₂ l₂ o₂
takes_more h t u =
    record {
      text = t.text ++ u.text;
      state = u.state;
      rest = u.rest;
      feeds = feeds_append t.feeds u.feeds;
      wrote = wrote_more h t.wrote u.wrote;
      carries = u.carries;
      keeps = u.keeps;
    }

part_joined : (l : List ℕ) (a b c : ℕ) → a ≤ b → b ≤ c → part l a (b - a) ++ part l b (c - b) ≡ part l a (c - a)
part_joined l a b c h k =
    let m : c - a ≡ (b - a) + (c - b) = omega arith in
    let n : a + (b - a) ≡ b = omega arith in
    sym (ap (λ (j : ℕ). part l a j) m ∙ part-add l a (b - a) (c - b) ∙ ap (λ (j : ℕ). part l a (b - a) ++ part l j (c - b)) n)

-- the loop of `take_lines`

pub answer_limit_lem : answer_limit ≡ 133120
unfolding answer_limit
answer_limit_lem = refl

pub record Going (f : Fed) (dir slots arena piece line out : List ℕ) (e : Fed) (dir' slots' arena' line' key' value' old' out' : List ℕ) : Type 0 where
  pub taken : Taken f dir slots arena piece line out e dir' slots' arena' line' out'
  pub sized : Sized dir' slots' arena' key' value' old'
  pub line_long : length line' ≡ line_room
  pub out_long : length out' ≡ length out
  pub first : e.next ≡ f.next → e.at ≡ f.at

pub going_start : {f : Fed} {dir slots arena piece line key value old out : List ℕ} → LinesAsked f dir slots arena piece line key value old out
    → Going f dir slots arena piece line out f dir slots arena line key value old out
going_start {f} {dir} {slots} {arena} {piece} {line} {key} {value} {old} {out} a =
    let n : f.next - f.next ≡ 0 = omega arith in
    record {
      taken = record {
        onward = omega arith;
        within = a.within;
        took = λ z held k p. record {
          text = [];
          state = z;
          rest = held;
          feeds = subst (λ (j : ℕ). Feeds z held (part piece f.next j) [] z held) (sym n) done;
          wrote = wrote_nothing out f.at;
          carries = k;
          keeps = p;
        };
        written = a.asked.written;
        sizes = λ k v o s. s;
      };
      sized = a.asked.sized;
      line_long = a.asked.line_long;
      out_long = refl;
      first = λ _. refl;
    }

pub going_asked : {f e : Fed} {dir slots arena piece line key value old out dir' slots' arena' line' key' value' old' out' : List ℕ}
    → LinesAsked f dir slots arena piece line key value old out → Going f dir slots arena piece line out e dir' slots' arena' line' key' value' old' out'
    → e.next < length piece → e.at + answer_limit ≤ length out' → LineAsked e dir' slots' arena' piece line' key' value' old' out'
going_asked {f} {e} {dir} {slots} {arena} {piece} {line} {key} {value} {old} {out} a g h r =
    let t = g.taken.took a.asked.state a.asked.bytes a.asked.carries a.asked.keeps in
    record {
      asked = record {
        sized = g.sized;
        line_long = g.line_long;
        state = t.state;
        carries = t.carries;
        bytes = t.rest;
        keeps = t.keeps;
        written = omega arith;
      };
      more = h;
      room = r;
    }

pub sized_kept : {dir slots arena k v o k' v' o' : List ℕ} → Sized dir slots arena k v o → length k' ≡ length k → length v' ≡ length v → length o' ≡ length o → Sized dir slots arena k' v' o'
sized_kept s a b c =
    record {
      dir_long = s.dir_long;
      slots_long = s.slots_long;
      arena_long = s.arena_long;
      key_long = a ∙ s.key_long;
      value_long = b ∙ s.value_long;
      old_long = c ∙ s.old_long;
    }

pub going_turn : {f e r : Fed} {dir slots arena piece line key value old out d₁ s₁ a₁ l₁ k₁ v₁ o₁ u₁ d₂ s₂ a₂ l₂ k₂ v₂ o₂ u₂ : List ℕ}
    → LinesAsked f dir slots arena piece line key value old out → Going f dir slots arena piece line out e d₁ s₁ a₁ l₁ k₁ v₁ o₁ u₁
    → LineTaken e d₁ s₁ a₁ piece l₁ u₁ r d₂ s₂ a₂ l₂ u₂
    → length l₂ ≡ length l₁ → length k₂ ≡ length k₁ → length v₂ ≡ length v₁ → length o₂ ≡ length o₁ → length u₂ ≡ length u₁
    → Going f dir slots arena piece line out r d₂ s₂ a₂ l₂ k₂ v₂ o₂ u₂
going_turn {f} {e} {r} {dir} {slots} {arena} {piece} {line} {key} {value} {old} {out} {d₁} {s₁} {a₁} {l₁} {k₁} {v₁} {o₁} {u₁} {d₂} {s₂} {a₂} {l₂} {k₂} {v₂} {o₂} {u₂} a g m el ek ev eo eu =
    record {
      taken = record {
        onward = omega (arith, g.taken.onward, m.taken.onward);
        within = m.taken.within;
        took = λ z held k p.
            let t = g.taken.took z held k p in
            subst (λ (i : Bytes). Takes z held i out f.at r d₂ s₂ a₂ l₂ u₂) (part_joined piece f.next e.next r.next g.taken.onward m.taken.onward)
            (takes_more a.asked.written t (m.taken.took t.state t.rest t.carries t.keeps));
        written = omega (arith, m.taken.written, g.out_long);
        sizes = λ k v o s. m.taken.sizes k v o (g.taken.sizes k v o s);
      };
      sized = sized_kept (m.taken.sizes k₁ v₁ o₁ g.sized) ek ev eo;
      line_long = el ∙ g.line_long;
      out_long = eu ∙ g.out_long;
      first = λ n. absurd (omega (arith, m.further, g.taken.onward));
    }

pub going_done : {f e : Fed} {dir slots arena piece line key value old out d₁ s₁ a₁ l₁ k₁ v₁ o₁ u₁ : List ℕ}
    → LinesAsked f dir slots arena piece line key value old out → Going f dir slots arena piece line out e d₁ s₁ a₁ l₁ k₁ v₁ o₁ u₁
    → ((e.next < length piece) × (e.at + answer_limit ≤ length u₁) → ⊥) → LinesTaken f dir slots arena piece line out e d₁ s₁ a₁ l₁ u₁
going_done {f} {e} {dir} {slots} {arena} {piece} {line} {key} {value} {old} {out} {d₁} {s₁} {a₁} {l₁} {k₁} {v₁} {o₁} {u₁} a g h =
    record {
      taken = g.taken;
      further = λ m r. go m r (eq-or-lt_of_le g.taken.onward);
      stopped = λ m. let n : e.at + answer_limit ≤ length u₁ → ⊥ = λ r. h (m, r) in omega (arith, g.out_long);
    }
  where
    go : f.next < length piece → f.at + answer_limit ≤ length out → (f.next ≡ e.next) ⊎ (f.next < e.next) → f.next < e.next
    go m r (inl d) = absurd (h (omega arith, omega (arith, g.first (sym d), g.out_long)))
    go m r (inr d) = d

-- the test of the loop

pub goes_end : (next n at room : ℕ) → n ≤ next → Exact false ((next < n) × (at + answer_limit ≤ room))
goes_end next n at room h = exact_no (λ p. omega (arith, p.0))

pub goes_room : (next n at room left : ℕ) → next < n → at ≤ room → left ≡ room - at → Exact (leb 133120 left) ((next < n) × (at + answer_limit ≤ room))
goes_room next n at room left h k e = exact_iff (exact_leb 133120 left) (λ l. (h, omega (arith, answer_limit_lem))) (λ p. omega (arith, p.1, answer_limit_lem))
