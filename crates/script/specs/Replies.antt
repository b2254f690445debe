-- What the console prints for a line, and what the line leaves behind.
--
--   cannot_read     what is printed for a line that cannot be read
--   reply           what is printed for a line
--   after_line      what a session holds after a line
--   Replied         both, of a call
--   Whole           that a line was carried out whole or not at all
--   Answered        what came of a line, before one that cannot be read is answered
--
-- Made of: `line_feed`, `line_at`, `replied`, `after_reading`.
use Rattle.std.specs.Prelude.{◌≡◌, ℕ, false, cond, ◌⊎◌, List, [], ◌∷◌, ◌++◌, is_some, Some, None, Ok, Err, codes, decimal, Option, Result}
use Rattle.script.specs.Commands.{Said, echo, reading}
use Rattle.script.specs.Operands.{ends_before}
use Rattle.text.specs.declared.outcomes.Unread.{Unread}
use Rattle.text.specs.declared.outcomes.Unread.TheVariants.{Unreadable, Memory}
use Rattle.text.specs.Lines.{line_text, command_part, shown_text}
use Rattle.script.specs.Sessions.{Held, Told, answer_of, answer_text, held_after}

-- a line feed
abbrev pub line_feed : List ℕ
line_feed = 10 ∷ []

-- which line it is
abbrev pub line_at : ℕ → List ℕ
line_at number = codes "line " ++ decimal number

-- the line itself, behind its number
abbrev pub cannot_read : ℕ → List ℕ → List ℕ
cannot_read number line = line_at number ++ (codes ": cannot read: " ++ (shown_text line ++ line_feed))

-- the command and its answer, or that the line cannot be read at this point
abbrev pub answered : ℕ → List ℕ → Said → Option Told → List ℕ
answered number line c None = cannot_read number line
answered number line c (Some a) = echo c ++ (codes ": " ++ (answer_text a ++ line_feed))

-- by what the line was read as
abbrev pub replied : ℕ → List ℕ → Option Held → Option (Option Said) → List ℕ
replied number line m None = cannot_read number line
replied number line m (Some None) = []
replied number line m (Some (Some c)) = answered number line c (answer_of m c)

-- what is printed for a line, where the session holds m
abbrev pub reply : ℕ → List ℕ → Option Held → List ℕ
reply number line m = replied number line m (reading line)

-- by what the line was read as: only a command that is answered changes what is held
abbrev pub after_reading : Option Held → Option (Option Said) → Option Held
after_reading m None = m
after_reading m (Some None) = m
after_reading m (Some (Some c)) = cond (is_some (answer_of m c)) (held_after m c) m

-- what the session holds after a line, where it held m before
abbrev pub after_line : List ℕ → Option Held → Option Held
after_line line m = after_reading m (reading line)

-- the reply stands behind what the list held, and the session holds what it should
pub record Replied (number : ℕ) (line : List ℕ) (m m' : Option Held) (was is : List ℕ) : Type 0 where
  pub text : is ≡ was ++ reply number line m
  pub holds : m' ≡ after_line line m

-- where memory ran out, the line was carried out whole or not at all, and it was not one that asks for nothing
pub record Whole (line : List ℕ) (m m' : Option Held) : Type 0 where
  pub holds : (m' ≡ m) ⊎ (m' ≡ after_line line m)
  pub asks : ends_before (command_part (line_text line)) 0 ≡ false

-- what came of a line, before one that cannot be read is answered: the list is then as it was, and that answer is all that is owed
abbrev pub Answered : Result (Unit {0}) Unread → List ℕ → Option Held → Option Held → List ℕ → List ℕ → Type 0
Answered (Ok _) line m m' was is = ((number : ℕ) → is ≡ was ++ reply number line m) × (m' ≡ after_line line m)
Answered (Err Unreadable) line m m' was is = (is ≡ was) × ((number : ℕ) → reply number line m ≡ cannot_read number line) × (m' ≡ after_line line m)
Answered (Err Memory) line m m' was is = Whole line m m'
