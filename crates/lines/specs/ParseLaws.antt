-- From words to lines: each answer of `parse` and of the functions under it, by what was found of the words.
-- Assumes nothing.
use Rattle.std.specs.Prelude.{ℕ, ◌+◌, ◌-◌, ◌/◌, ◌≤◌, ◌<◌, None, Some, ◌∷◌, ◌≡◌, refl, drop, get_or, length, take}
use Rattle.std.proofs.Common.{Option, sym, ap, subst, ◌∙◌, arith, length-append, length-drop, take_all}
use Rattle.lists.proofs.PartLaws.{drop-put_after, length-put, part-put}
use Rattle.lists.specs.Part.{put}
use Rattle.order.specs.Bytes.{Bytes}
use Rattle.lines.specs.CutLaws.{Sides, cut_join, cut_whole, no_side, sides}
use Rattle.lines.specs.Grammar.{AllBytes, Command, Front, Number, Parsed, Says, ◌␣◌, bytes_text, del_word, get_word, leaves_word, new_word, next_word, number_text, put_word, written}
use Rattle.lines.specs.Grammar.Command.{dels, gets, makes, nexts, puts, shows}
use Rattle.lines.specs.HexLaws.{bytes_clear, bytes_half}
use Rattle.lines.specs.NumberLaws.{number_clear}
use Rattle.lines.specs.Pieces.{Cut, Decoded, FirstSpace, IsBytes, Numbered, OneKey, Spaceless}
use Rattle.lines.specs.declared.Line.{Line}
use Rattle.lines.specs.declared.Line.TheVariants.{Del, Get, Leaves, New, Next, Put}

-- a line cut at its first space

pub record Joined (h t line : Bytes) : Type 0 where
  pub clear : Spaceless h
  pub join : h ␣ t ≡ line

pub cut_joined : {line : Bytes} {e : ℕ} → Cut line e → (e ≡ length line → ⊥)
    → Joined (take e line) (take (length line - (e + 1)) (drop (e + 1) line)) line
cut_joined {line} {e} c n =
    let r : take (length line - (e + 1)) (drop (e + 1) line) ≡ drop (e + 1) line = take_all (length line - (e + 1)) (drop (e + 1) line) (omega (arith, length-drop (e + 1) line)) in
    record { clear = c.clear; join = cc (r, cut_join c (let h : e < length line = omega (arith, c.within) in h)) }

pub space_joined : {line : Bytes} {e : ℕ} → FirstSpace line (Some e) → Joined (take e line) (take (length line - (e + 1)) (drop (e + 1) line)) line
space_joined s = cut_joined s.0 (λ q. omega (arith, q, s.1))

join_length : (h t : Bytes) → length (h ␣ t) ≡ length h + 1 + length t
unfolding ◌␣◌
join_length h t = omega (arith, length-append h (32 ∷ t))

pub joined_length : {h t line : Bytes} → Joined h t line → length line ≡ length h + 1 + length t
joined_length {h} {t} j = sym (ap length j.join) ∙ join_length h t

-- the command words

pub new_clear : Spaceless new_word
new_clear = ((λ e. omega arith), ((λ e. omega arith), ((λ e. omega arith), tt)))

pub put_clear : Spaceless put_word
put_clear = ((λ e. omega arith), ((λ e. omega arith), ((λ e. omega arith), tt)))

pub get_clear : Spaceless get_word
get_clear = ((λ e. omega arith), ((λ e. omega arith), ((λ e. omega arith), tt)))

pub del_clear : Spaceless del_word
del_clear = ((λ e. omega arith), ((λ e. omega arith), ((λ e. omega arith), tt)))

pub next_clear : Spaceless next_word
next_clear = ((λ e. omega arith), ((λ e. omega arith), ((λ e. omega arith), ((λ e. omega arith), tt))))

pub leaves_clear : Spaceless leaves_word
leaves_clear =
    ((λ e. omega arith), ((λ e. omega arith), ((λ e. omega arith), ((λ e. omega arith), ((λ e. omega arith), ((λ e. omega arith), tt))))))

pub differ : (i : ℕ) {a b : Bytes} → (get_or a i 0 ≡ get_or b i 0 → ⊥) → a ≡ b → ⊥
differ i n e = n (ap (λ (l : Bytes). get_or l i 0) e)

-- what stands in front of and behind the first space of a command's text
abbrev pub Behind : (w r : Bytes) → Command → Type 0
Behind w r (makes f p a) = Sides new_word (number_text f ␣ number_text p ␣ number_text a) w r
Behind w r (puts k v) = Sides put_word (bytes_text k ␣ bytes_text v) w r
Behind w r (gets k) = Sides get_word (bytes_text k) w r
Behind w r (dels k) = Sides del_word (bytes_text k) w r
Behind w r (nexts k) = Sides next_word (bytes_text k) w r
Behind w r shows = ⊥

pub behind : (w r : Bytes) → Spaceless w → (c : Command) → written c ≡ w ␣ r → Behind w r c
behind w r s (makes f p a) e = sides new_word _ w r new_clear s e
behind w r s (puts k v) e = sides put_word _ w r put_clear s e
behind w r s (gets k) e = sides get_word _ w r get_clear s e
behind w r s (dels k) e = sides del_word _ w r del_clear s e
behind w r s (nexts k) e = sides next_word _ w r next_clear s e
behind w r s shows e = no_side w r leaves_word leaves_clear (sym e)

-- `new`

abbrev NoNew : Bytes → Type 0
NoNew w = (f p a : ℕ) → Number f → Number p → Number a → number_text f ␣ number_text p ␣ number_text a ≡ w → ⊥

no_new : (w : Bytes) → NoNew w → (c : Command) → Says (new_word ␣ w) c → ⊥
no_new w n (makes f p a) s = n f p a s.sayable.0 s.sayable.1 s.sayable.2 (behind new_word w new_clear (makes f p a) s.text).rests
no_new w n (puts k v) s = differ 0 (λ e. omega arith) (behind new_word w new_clear (puts k v) s.text).words
no_new w n (gets k) s = differ 0 (λ e. omega arith) (behind new_word w new_clear (gets k) s.text).words
no_new w n (dels k) s = differ 0 (λ e. omega arith) (behind new_word w new_clear (dels k) s.text).words
no_new w n (nexts k) s = differ 2 (λ e. omega arith) (behind new_word w new_clear (nexts k) s.text).words
no_new w n shows s = behind new_word w new_clear shows s.text

abbrev pub BadNew : Bytes → Type 0
BadNew w = (key value : Bytes) → Parsed (new_word ␣ w) key key value value None

pub new_one : {w : Bytes} {e : ℕ} → Cut w e → e ≡ length w → BadNew w
new_one {w} c h key value = (no_new w (λ f p a _ _ _ t. no_side _ _ w (cut_whole c h) t), refl, refl)

module _ {h t w : Bytes} (j : Joined h t w) where
  new_sides : (f p a : ℕ) → number_text f ␣ number_text p ␣ number_text a ≡ w → Sides (number_text f) (number_text p ␣ number_text a) h t
  new_sides f p a e = sides _ _ h t (number_clear f) j.clear (e ∙ sym j.join)

  pub new_two : {e : ℕ} → Cut t e → e ≡ length t → BadNew w
  new_two c o key value = (no_new w (λ f p a _ _ _ e. no_side _ _ t (cut_whole c o) (new_sides f p a e).rests), refl, refl)

  pub new_first : Numbered h None → BadNew w
  new_first m key value = (no_new w (λ f p a x _ _ e. m f x (new_sides f p a e).words), refl, refl)

  module _ {g s : Bytes} (i : Joined g s t) where
    last_sides : (f p a : ℕ) → number_text f ␣ number_text p ␣ number_text a ≡ w → Sides (number_text p) (number_text a) g s
    last_sides f p a e = sides _ _ g s (number_clear p) i.clear ((new_sides f p a e).rests ∙ sym i.join)

    pub new_second : Numbered g None → BadNew w
    new_second m key value = (no_new w (λ f p a _ x _ e. m p x (last_sides f p a e).words), refl, refl)

    pub new_third : Numbered s None → BadNew w
    new_third m key value = (no_new w (λ f p a _ _ x e. m a x (last_sides f p a e).rests), refl, refl)

    pub new_said : (f p a : ℕ) → 4 + length w ≤ 4096 → Numbered h (Some f) → Numbered g (Some p) → Numbered s (Some a)
        → (key value : Bytes) → Parsed (new_word ␣ w) key key value value (Some (New (record { fanout = f; pool = p; arena = a })))
    new_said f p a l u v o key value = (
      record {
        sayable = (u.0, v.0, o.0);
        text = cc (u.1, v.1, o.1, i.join, j.join);
        short = omega (arith, join_length new_word w);
      },
      refl,
      refl,
    )

-- bytes that were decoded

pub record Taken (word was now_is : Bytes) (n : ℕ) : Type 0 where
  pub fits : AllBytes (take n now_is)
  pub text : bytes_text (take n now_is) ≡ word
  pub front : Front was now_is n

pub taken : {word was now_is : Bytes} {n : ℕ} → IsBytes word → length word / 2 ≤ length was → Decoded word was now_is n → Taken word was now_is n
taken {word} {was} {now_is} {n} b h d =
    let s : Bytes = b.bytes in
    let e : n ≡ length s = (d s b.fits b.text).0 in
    let f : now_is ≡ put was 0 s = (d s b.fits b.text).1 in
    let m : length s ≤ length was = omega (arith, bytes_half s, ap (λ (w : Bytes). length w / 2) b.text) in
    let t : take n now_is ≡ s = cc (e, f, part-put was 0 s (omega arith)) in
    record {
      fits = rw t b.fits;
      text = ap bytes_text t ∙ b.text;
      front = record {
        within = omega arith;
        long = ap length f ∙ length-put was 0 s (omega arith);
        rest = cc (e, f, drop-put_after was 0 s (length s) (omega arith) (omega arith));
      };
    }

-- `put`

abbrev NoPut : Bytes → Type 0
NoPut w = (k v : Bytes) → AllBytes k → AllBytes v → bytes_text k ␣ bytes_text v ≡ w → ⊥

no_put : (w : Bytes) → NoPut w → (c : Command) → Says (put_word ␣ w) c → ⊥
no_put w n (makes f p a) s = differ 0 (λ e. omega arith) (behind put_word w put_clear (makes f p a) s.text).words
no_put w n (puts k v) s = n k v s.sayable.0 s.sayable.1 (behind put_word w put_clear (puts k v) s.text).rests
no_put w n (gets k) s = differ 0 (λ e. omega arith) (behind put_word w put_clear (gets k) s.text).words
no_put w n (dels k) s = differ 0 (λ e. omega arith) (behind put_word w put_clear (dels k) s.text).words
no_put w n (nexts k) s = differ 0 (λ e. omega arith) (behind put_word w put_clear (nexts k) s.text).words
no_put w n shows s = behind put_word w put_clear shows s.text

abbrev pub BadPut : Bytes → Type 0
BadPut w = (key value : Bytes) → Parsed (put_word ␣ w) key key value value None

pub put_one : {w : Bytes} {e : ℕ} → Cut w e → e ≡ length w → BadPut w
put_one {w} c h key value = (no_put w (λ k v _ _ t. no_side _ _ w (cut_whole c h) t), refl, refl)

module _ {h t w : Bytes} (j : Joined h t w) where
  put_sides : (k v : Bytes) → bytes_text k ␣ bytes_text v ≡ w → Sides (bytes_text k) (bytes_text v) h t
  put_sides k v e = sides _ _ h t (bytes_clear k) j.clear (e ∙ sym j.join)

  pub put_first : (IsBytes h → ⊥) → BadPut w
  put_first n key value =
      (no_put w (λ k v x _ e. n (record { bytes = k; fits = x; text = (put_sides k v e).words })), refl, refl)

  pub put_second : (IsBytes t → ⊥) → BadPut w
  put_second n key value =
      (no_put w (λ k v _ x e. n (record { bytes = v; fits = x; text = (put_sides k v e).rests })), refl, refl)

  pub put_said : {key key' value value' : Bytes} {n m : ℕ} → 4 + length w ≤ 4096 → Taken h key key' n → Taken t value value' m
      → Parsed (put_word ␣ w) key key' value value' (Some (Put n m))
  put_said l x y = (
    record {
      sayable = (x.fits, y.fits);
      text = cc (x.text, y.text, j.join);
      short = omega (arith, join_length put_word w);
    },
    x.front,
    y.front,
  )

-- one key

no_key : (d w : Bytes) → OneKey d w → (IsBytes w → (get_word ≡ d → ⊥) × (del_word ≡ d → ⊥) × (next_word ≡ d → ⊥)) → (c : Command) → Says (d ␣ w) c → ⊥
no_key d w o n (makes f p a) s = o.not_new (behind d w o.clear (makes f p a) s.text).words
no_key d w o n (puts k v) s = o.not_put (behind d w o.clear (puts k v) s.text).words
no_key d w o n (gets k) s =
    let b = behind d w o.clear (gets k) s.text in (n (record { bytes = k; fits = s.sayable; text = b.rests })).0 b.words
no_key d w o n (dels k) s =
    let b = behind d w o.clear (dels k) s.text in (n (record { bytes = k; fits = s.sayable; text = b.rests })).1 b.words
no_key d w o n (nexts k) s =
    let b = behind d w o.clear (nexts k) s.text in (n (record { bytes = k; fits = s.sayable; text = b.rests })).2 b.words
no_key d w o n shows s = behind d w o.clear shows s.text

module _ {d w : Bytes} (o : OneKey d w) where
  pub key_bad : (IsBytes w → ⊥) → (key value : Bytes) → Parsed (d ␣ w) key key value value None
  key_bad n key value = (no_key d w o (λ b. absurd (n b)), refl, refl)

  pub key_other : (d ≡ get_word → ⊥) → (d ≡ del_word → ⊥) → (d ≡ next_word → ⊥) → (key value : Bytes) → Parsed (d ␣ w) key key value value None
  key_other x y z key value = (no_key d w o (λ b. ((λ e. x (sym e)), (λ e. y (sym e)), (λ e. z (sym e)))), refl, refl)

  pub key_get : {key key' : Bytes} {n : ℕ} → d ≡ get_word → Taken w key key' n → (value : Bytes) → Parsed (d ␣ w) key key' value value (Some (Get n))
  key_get e x value =
      (record { sayable = x.fits; text = cc (e, x.text); short = omega (arith, join_length d w, o.short) }, x.front, refl)

  pub key_del : {key key' : Bytes} {n : ℕ} → d ≡ del_word → Taken w key key' n → (value : Bytes) → Parsed (d ␣ w) key key' value value (Some (Del n))
  key_del e x value =
      (record { sayable = x.fits; text = cc (e, x.text); short = omega (arith, join_length d w, o.short) }, x.front, refl)

  pub key_next : {key key' : Bytes} {n : ℕ} → d ≡ next_word → Taken w key key' n → (value : Bytes) → Parsed (d ␣ w) key key' value value (Some (Next n))
  key_next e x value =
      (record { sayable = x.fits; text = cc (e, x.text); short = omega (arith, join_length d w, o.short) }, x.front, refl)

-- the whole line

pub leaves_said : {line : Bytes} (key value : Bytes) → line ≡ leaves_word → length line ≤ 4096 → Parsed line key key value value (Some Leaves)
leaves_said key value e h = (record { sayable = tt; text = sym e; short = h }, refl, refl)

pub alone : {line : Bytes} (key value : Bytes) → Spaceless line → (line ≡ leaves_word → ⊥) → Parsed line key key value value None
alone {line} key value s n = (none, refl, refl)
  where
    none : (c : Command) → Says line c → ⊥
    none (makes f p a) x = no_side _ _ line s x.text
    none (puts k v) x = no_side _ _ line s x.text
    none (gets k) x = no_side _ _ line s x.text
    none (dels k) x = no_side _ _ line s x.text
    none (nexts k) x = no_side _ _ line s x.text
    none shows x = n (sym x.text)

module _ {h t line : Bytes} (j : Joined h t line) where
  pub of_word : (key key' value value' w : Bytes) (r : Option Line) → h ≡ w → Parsed (w ␣ t) key key' value value' r
      → Parsed line key key' value value' r
  of_word key key' value value' w r e p =
      subst (λ (l : Bytes). Parsed l key key' value value' r) (cc (e, j.join)) p

  pub one_key : (h ≡ put_word → ⊥) → (h ≡ new_word → ⊥) → length line ≤ 4096 → OneKey h t
  one_key x y l =
      record { clear = j.clear; not_new = λ e. y (sym e); not_put = λ e. x (sym e); short = omega (arith, joined_length j) }

  pub tail_short : (w : Bytes) → h ≡ w → length w ≡ 3 → length line ≤ 4096 → 4 + length t ≤ 4096
  tail_short w e n l = omega (arith, joined_length j, ap length e)

  pub first_half : (n : ℕ) → 4 + length line ≤ 4096 → 2048 ≤ n → length h / 2 ≤ n
  first_half n l k = omega (arith, joined_length j)

  pub second_half : (n : ℕ) → 4 + length line ≤ 4096 → 2048 ≤ n → length t / 2 ≤ n
  second_half n l k = omega (arith, joined_length j)
