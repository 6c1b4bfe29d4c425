-- How pieces of input become lines: a line ends at a newline (10), and a lent buffer holds as many of its bytes as it has room for.
use Rattle.std.specs.Prelude.{ℕ, ◌+◌, ◌-◌, ◌≤◌, ◌<◌, None, Some, List, ◌++◌, ◌≡◌, drop, get_or, length, take}
use Rattle.std.proofs.Common.{Option}
use Rattle.lists.specs.Part.{part}
use Rattle.feed.specs.declared.Gathered.{Gathered}

-- e is the place of the first newline from `from` on, or the length
pub record Ends (piece : List ℕ) (from e : ℕ) : Type 0 where
  pub onward : from ≤ e
  pub within : e ≤ length piece
  pub clear : (i : ℕ) → from ≤ i → i < e → get_or piece i 0 ≡ 10 → ⊥
  pub newline : e < length piece → get_or piece e 0 ≡ 10

-- the place of the first newline, or that there is none
abbrev pub FirstNewline : List ℕ → Option ℕ → Type 0
FirstNewline text (Some n) = (n < length text) × (get_or text n 0 ≡ 10) × ((i : ℕ) → i < n → get_or text i 0 ≡ 10 → ⊥)
FirstNewline text None = (i : ℕ) → i < length text → get_or text i 0 ≡ 10 → ⊥

-- the buffer has the first bytes of a line so far, as many as it has room for
pub record Keeps (line : List ℕ) (held : ℕ) (bytes : List ℕ) : Type 0 where
  pub front : take held line ≡ take (length line) bytes
  pub count : held ≡ length (take (length line) bytes)

-- the buffer had `held` bytes of a line, and has r: those and the text behind them, as many as there is room for
pub record Holds (line : List ℕ) (held : ℕ) (text line' : List ℕ) (r : ℕ) : Type 0 where
  pub front : take r line' ≡ take (length line) (take held line ++ text)
  pub count : r ≡ length (take (length line) (take held line ++ text))
  pub rest : drop r line' ≡ drop r line
  pub long : length line' ≡ length line

-- the piece was taken behind its first newline, or up to its end
pub record Gathers (piece : List ℕ) (from : ℕ) (line : List ℕ) (held : ℕ) (g : Gathered) (line' : List ℕ) : Type 0 where
  pub end : ℕ
  pub ends : Ends piece from end
  pub holds : Holds line held (part piece from (end - from)) line' g.held
  pub behind : end < length piece → g.next ≡ Some (end + 1)
  pub last : end ≡ length piece → g.next ≡ None
