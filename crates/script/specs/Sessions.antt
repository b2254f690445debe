-- What a command does to a session, and what answers it. A session is seen as what a script has set up, if it has set up anything.
--
--   Basis           what a session stands on: a supplied memory, or a machine and its figures
--   Held, held      this, and the words of a journal that are kept
--   Told, told      what an answer says
--   answer_text     an answer as it is printed
--   answer_of       the answer to a command; none where it cannot be read at this point
--   copied_by       the words that a call copies out
--   after_call      what is held after a call
--   held_after      what is held after a command that was answered
--   is_drain        whether a call is a drain
--   is_machined, has_machine   whether there is a machine
--   allocates       whether carrying out a command takes memory
--   has_form        whether the answer to a call is one that the call has
--   Carries         that a call answered a command, and left the session as it should
--
-- Made of: `basis_of`, `frames_of`, `preset_in`, `make_in`, `call_in`, `kept_in`, `playing_told`, `play_answer`, `play_log_in`, `new_memory`,
-- `with_basis`, `with_word`, `with_machine`, `with_call`, `with_kept`.
use Rattle.std.specs.Prelude.{◌≡◌, ℕ, ◌+◌, ◌*◌, Bool, true, false, cond, ◌&&◌, IfOk, List, [], ◌++◌, length, replicate, is_ok, is_some, Some, None, codes, decimal, Option, Result, nat_lt, slice_set, vec_items}
use Rattle.std.specs.Option.{option_and_then, option_map}
use Rattle.memory.specs.Memories.{Beside}
use Rattle.frames.specs.declared.figures.LogFigures.{LogFigures}
use Rattle.frames.specs.declared.kinds.FrameKind.{FrameKind}
use Rattle.frames.specs.declared.kinds.FrameKind.TheVariants as kind
use Rattle.frames.specs.Figures.{figure_number, figure_questions}
use Rattle.frames.specs.Questions.{first_no}
use Rattle.journal.specs.Pictures.{Picture}
use Rattle.journal.specs.Playing.{Outcome, fault_says, picture_from, played, playing, start}
use Rattle.scanner.specs.Rule.{passing}
use Rattle.text.specs.declared.outcomes.Unread.{Unread}
use Rattle.script.specs.declared.commands.ListKind.{ListKind}
use Rattle.script.specs.declared.session.Answer.{Answer}
use Rattle.script.specs.declared.session.Answer.TheVariants as answer
use Rattle.script.specs.declared.session.Setup.{Setup}
use Rattle.script.specs.declared.session.Stage.{Stage}
use Rattle.script.specs.declared.session.Stage.TheVariants as stage
use Rattle.guard.specs.Calls.{Request, drain, count_in, number_in, stopped_in_answer, word_in}
use Rattle.guard.specs.States.{State}
use Rattle.guard.specs.Steps.{is_answer_to}
use Rattle.paging.specs.Addresses.{parts_of}
use Rattle.paging.specs.declared.faults.Stopped.{Stopped}
use Rattle.paging.specs.declared.parts.Split.{Split}
use Rattle.script.specs.Commands.{Said, memory, word, machine, call, scan, split, journal, records, play_log, play}
use Rattle.script.specs.Machines.{Policies, call_after, call_count, call_number, call_stop, call_text, call_word, call_words, copied_text, frames_shown, log_figures, made_text, new_machine, parts_text}
use Rattle.text.specs.Outcomes.{Gives, wants_memory}
use Rattle.script.specs.Listings.{listing}
use Rattle.script.specs.Pictures.{outcome_text, picture_text, played_text}
use Rattle.script.specs.Supplies.{frames_for, supplied_beside, supplied_words, zeros_beside}

-- a memory that was supplied, by its words and what stands beside them, or a machine over it with the figures on which it was made
pub data Basis : Type 0 where
  supplied : List ℕ → Beside → Basis
  machined : LogFigures → State Policies → Basis

-- what a session stands on, and the words of a journal that are kept
pub record Held : Type 0 where
  pub basis : Basis
  pub kept : List ℕ

-- what a setup of the program holds
abbrev pub basis_of : Stage → Basis
basis_of (stage.Supplied list) = supplied (supplied_words list) (supplied_beside list)
basis_of (stage.Machine made) = machined made.figures made.machine

abbrev pub held : Setup → Held
held setup = record { basis = basis_of setup.stage; kept = vec_items setup.journal }

-- how many frames there are
abbrev pub frames_of : Basis → ℕ
frames_of (supplied ws beside) = frames_shown ws
frames_of (machined f s) = f.frames

-- an answer as a value: so many frames or words, nothing to tell, the figures' question that has a no, what is told of a call (the number of its
-- refusal, where its walk ended, its word, and how many words it copied out and which), a verdict, the parts of an address, the words whose
-- records are listed, the records that were played with the words and kinds that they made, or how playing ended otherwise
pub data Told : Type 0 where
  frames : ℕ → Told
  words : ℕ → Told
  done : Told
  making : Option ℕ → Told
  called : Option ℕ → Option Stopped → Option ℕ → Option ℕ → List ℕ → Told
  verdict : Bool → Told
  parts : Split → Told
  listed : List ℕ → Told
  made : ℕ → List ℕ → List FrameKind → Told
  unplayed : Outcome → Told

-- what an answer of the program says
abbrev pub told : Answer → Told
told (answer.Frames n) = frames n
told (answer.Words n) = words n
told answer.Done = done
told (answer.Making bad) = making (option_map figure_number bad)
told (answer.Called a ws) = called (number_in a) (stopped_in_answer a) (word_in a) (count_in a) (vec_items ws)
told (answer.Parts p) = parts p
told answer.Passes = verdict true
told answer.Fails = verdict false
told (answer.Records ws) = listed (vec_items ws)
told (answer.Played p) = made p.records (vec_items p.words) (vec_items p.kinds)
told (answer.Unplayed fault) = unplayed (fault_says fault)

-- what stands behind the colon
abbrev pub answer_text : Told → List ℕ
answer_text (frames n) = decimal n ++ codes " frames"
answer_text (words n) = decimal n ++ codes " words"
answer_text done = codes "ok"
answer_text (making number) = made_text number
answer_text (called number place w n ws) = call_text number place w n ++ copied_text ws
answer_text (parts p) = parts_text p
answer_text (verdict passes) = cond passes (codes "passes") (codes "fails")
answer_text (listed ws) = listing ws
answer_text (made n ws ks) = played_text n (picture_text ws ks)
answer_text (unplayed o) = outcome_text o

-- `word` has its place in a supplied memory where its index is in the frame, and the frame is shown; over a machine it has none
abbrev pub preset_in : Basis → ℕ → ℕ → Option Told
preset_in (supplied ws beside) frame index = cond (nat_lt index 512 && nat_lt (512 * frame + index) (length ws)) (Some done) None
preset_in (machined f s) frame index = None

-- a machine is made over a supplied memory, and tells which of its figures' questions has a no
abbrev pub make_in : Basis → ℕ → ℕ → Option Told
make_in (supplied ws beside) first count = Some (making (first_no (figure_questions (frames_shown ws) first count)))
make_in (machined f s) first count = None

-- a call needs a machine
abbrev pub call_in : Basis → Request → Option Told
call_in (supplied ws beside) q = None
call_in (machined f s) q = Some (called (call_number q s) (call_stop q s) (call_word q s) (call_count q s) (call_words q s))

-- the words that are kept; none where nothing was set up
abbrev pub kept_in : Option Held → List ℕ
kept_in None = []
kept_in (Some h) = h.kept

-- what is told of playing, by what came of it and what it made
abbrev pub playing_told : Outcome → Picture → Told
playing_told (played n) p = made n p.words p.kinds
playing_told other p = unplayed other

-- words are played from zeros, with a word and a kind for each that the frames have
unfoldable pub play_answer : LogFigures → List ℕ → Told
play_answer f ws = playing_told (playing f ws (replicate (512 * f.frames) 0) (replicate f.frames kind.Plain)) (picture_from (start f) ws)

-- words are played on the figures of the machine, where there is one
abbrev pub play_log_in : Basis → List ℕ → Option Told
play_log_in (supplied ws beside) kept = None
play_log_in (machined f s) kept = Some (play_answer f kept)

-- the answer to each command: most of them need something that was set up
abbrev pub answer_of : Option Held → Said → Option Told
answer_of m (memory kind size) = Some (frames (frames_for kind size))
answer_of m (word frame index value) = option_and_then (λ h. preset_in h.basis frame index) m
answer_of m (machine first count) = option_and_then (λ h. make_in h.basis first count) m
answer_of m (call q) = option_and_then (λ h. call_in h.basis q) m
answer_of m (scan bytes) = Some (verdict (passing bytes))
answer_of m (split address) = Some (parts (parts_of address))
answer_of m (journal ws) = option_map (λ h. words (length h.kept + length ws)) m
answer_of m records = Some (listed (kept_in m))
answer_of m play_log = option_and_then (λ h. play_log_in h.basis h.kept) m
answer_of m (play first count) = option_map (λ h. play_answer (log_figures (frames_of h.basis) first count) h.kept) m

-- a new memory over a list of that kind and length, zero throughout, with which no words are kept
abbrev pub new_memory : ListKind → ℕ → Held
new_memory list_kind size = record { basis = supplied (replicate (512 * frames_for list_kind size) 0) (zeros_beside list_kind size); kept = [] }

-- with another basis
abbrev pub with_basis : (Basis → Basis) → Held → Held
with_basis change h = record h { basis = change h.basis }

-- with one word of a supplied memory replaced
abbrev pub with_word : ℕ → ℕ → Basis → Basis
with_word place value (supplied ws beside) = supplied (slice_set ws place value) beside
with_word place value (machined f s) = machined f s

-- with a machine over the supplied memory
abbrev pub with_machine : ℕ → ℕ → Basis → Basis
with_machine first count (supplied ws beside) = machined (log_figures (frames_shown ws) first count) (new_machine ws beside first count)
with_machine first count (machined f s) = machined f s

-- with the machine as it is after a call
abbrev pub with_call : Request → Basis → Basis
with_call q (supplied ws beside) = supplied ws beside
with_call q (machined f s) = machined f (call_after q s)

-- with more words kept
abbrev pub with_kept : List ℕ → Held → Held
with_kept ws h = record h { kept = h.kept ++ ws }

-- the words that a call copies out of what a session stands on
abbrev pub copied_by : Request → Basis → List ℕ
copied_by q (supplied ws beside) = []
copied_by q (machined f s) = call_words q s

-- after a call: the words that it copied out are kept, behind those that were kept
abbrev pub after_call : Request → Held → Held
after_call q h = with_kept (copied_by q h.basis) (with_basis (with_call q) h)

-- `memory`, `word`, `machine`, the calls and `journal` change what is held, and no other command does
abbrev pub held_after : Option Held → Said → Option Held
held_after m (memory kind size) = Some (new_memory kind size)
held_after m (word frame index value) = option_map (with_basis (with_word (512 * frame + index) value)) m
held_after m (machine first count) = option_map (with_basis (with_machine first count)) m
held_after m (call q) = option_map (after_call q) m
held_after m (scan bytes) = m
held_after m (split address) = m
held_after m (journal ws) = option_map (with_kept ws) m
held_after m records = m
held_after m play_log = m
held_after m (play first count) = m

-- whether a call is a drain
abbrev pub is_drain : Request → Bool
is_drain (drain room) = true
is_drain other = false

-- whether there is a machine
abbrev pub is_machined : Basis → Bool
is_machined (supplied ws beside) = false
is_machined (machined f s) = true

-- and over what was set up, if anything was
abbrev pub has_machine : Option Held → Bool
has_machine None = false
has_machine (Some h) = is_machined h.basis

-- whether carrying out a command takes memory: a new list does, and a copy of the words that are kept; and more words, where there is something to keep
-- them beside; a list to drain into, where there is a machine; and lists to play on, where there is one, or where the figures are given and there is a memory
abbrev pub allocates : Option Held → Said → Bool
allocates m (memory kind size) = true
allocates m (word frame index value) = false
allocates m (machine first count) = false
allocates m (call q) = is_drain q && has_machine m
allocates m (scan bytes) = false
allocates m (split address) = false
allocates m (journal ws) = is_some m
allocates m records = true
allocates m play_log = has_machine m
allocates m (play first count) = is_some m

-- the answer to a call is one that the call has: a refusal, and not the fault of an access with the same number, or the other way round
abbrev pub has_form : Said → Answer → Bool
has_form (call q) (answer.Called a ws) = is_answer_to q a
has_form other a = true

-- the answer is that of the command and has its form, only an answered command changes what is held, and memory is wanted only where it is taken
pub record Carries (c : Said) (r : Result Answer Unread) (was is : Option Held) : Type 0 where
  pub answers : Gives told r (answer_of was c)
  pub after : is ≡ cond (is_ok r) (held_after was c) was
  pub wants : wants_memory r ≡ true → allocates was c ≡ true
  pub form : IfOk r (λ a. has_form c a ≡ true)
