-- The guarantee: what holds of a machine after any list of calls, accepted or refused, and of any length.
--
--   Event            a call that was carried out, its answer, and the words that it copied out
--   bytes_of_write   the bytes that a write is supplied with
--   Happens          that an event made of one machine another
--   Run              that events did, one after the other
--   Protection       that stores reach plain frames alone, and fetches code frames alone
--   Unchanged        that an accepted accept made a frame code, and that its words have been the same ever since
--   pieces, journal_of   the drained pieces of a run; and its journal, which is these and the words that are held
--   figures_of       the figures of a machine
--   Replay           that playing the journal of a run gives the frames of the machine
--   releases, was_released   whether a call is a release of a region, and whether an event is one that was accepted
--   byte_at          a byte of a region
--   ClosedBytes      that a byte that was closed is the same later
--   Laws             all of these
--   Guaranteed       that they hold of every run
use Rattle.std.specs.Prelude.{◌≡◌, ℕ, ◌+◌, ◌*◌, ◌<◌, ◌≤◌, Bool, true, false, not, ◌&&◌, List, [], ◌∷◌, ◌++◌, length, flat_map, Some, ◌==◌}
use Rattle.std.specs.List.{list_all}
use Rattle.frames.specs.Kinds.{keeps_words}
use Rattle.frames.specs.declared.figures.LogFigures.{LogFigures}
use Rattle.frames.specs.declared.kinds.FrameKind.{FrameKind}
use Rattle.frames.specs.declared.kinds.FrameKind.TheVariants as kind
use Rattle.frames.specs.declared.regions.RegionState.TheVariants.{Live}
use Rattle.journal.specs.Bytes.{are_bytes, byte_in}
use Rattle.journal.specs.Pictures.{region_of}
use Rattle.journal.specs.Playing.{picture_from, played, playing, start}
use Rattle.paging.specs.Walks.{Translates, page_of}
use Rattle.paging.specs.declared.faults.Access.TheVariants.{Store, Fetch}
use Rattle.policy.specs.Policies.{Meaning}
use Rattle.guard.specs.Calls.{Request, accept, fetch, release, store, write}
use Rattle.guard.specs.Guarding.{held_words}
use Rattle.guard.specs.Orders.{kind_of}
use Rattle.guard.specs.Scans.{frame_words, scanned}
use Rattle.guard.specs.States.{State}
use Rattle.guard.specs.Steps.{Step, accepts, is_accepted, piece}
use Rattle.guard.specs.declared.calls.Answer.{Answer}

-- A call that was carried out: what was asked, what was answered, and the words that it copied out, which are none but for a drain.
pub record Event : Type 0 where
  pub call : Request
  pub answer : Answer
  pub copied : List ℕ

-- The bytes that a write is supplied with; other calls are supplied with none.
abbrev pub bytes_of_write : Request → List ℕ
bytes_of_write (write region offset bytes) = bytes
bytes_of_write other = []

-- An event made of a machine s the machine t, by what the contract of each call says.
pub record Happens {P : Type 0} (means : Meaning P) (e : Event) (s t : State P) : Type 0 where
  pub step : Step means e.call e.answer s t
  pub copies : e.copied ≡ piece e.call e.answer s
  -- A write is supplied with bytes, as every list of bytes of a program is.
  pub bytes : are_bytes (bytes_of_write e.call) ≡ true

-- Events, one after the other, made of s the machine t.
abbrev pub Run : {P : Type 0} → Meaning P → List Event → State P → State P → Type 0
Run means [] s t = t ≡ s
Run {P} means (e ∷ es) s t = (u : State P) × (Happens means e s u × Run means es u t)

-- For every address, canonical or not: where the tables permit a store from the root on, the frame that it reaches is plain; and where they permit a fetch, the frame
-- is code. So the frame that an accepted store reaches is plain, and the one that an accepted fetch reaches is code.
pub record Protection {P : Type 0} (means : Meaning P) (t : State P) : Type 0 where
  pub stores : (root address frame : ℕ) → t.root ≡ Some root → Translates t.guarded.picture.words root address frame Store → kind_of t.guarded frame ≡ Some kind.Plain
  pub fetches : (root address frame : ℕ) → t.root ≡ Some root → Translates t.guarded.picture.words root address frame Fetch → kind_of t.guarded frame ≡ Some kind.Code
  pub stored : (root address value : ℕ) → t.root ≡ Some root → is_accepted means (store address value) t ≡ true → kind_of t.guarded (page_of t.guarded.picture.words root address) ≡ Some kind.Plain
  pub fetched : (root address : ℕ) → t.root ≡ Some root → is_accepted means (fetch address) t ≡ true → kind_of t.guarded (page_of t.guarded.picture.words root address) ≡ Some kind.Code

-- In a run from s to t a frame was made code by an accept that was accepted, and at every moment u from there on it is code and holds the same words.
pub record Unchanged {P : Type 0} (means : Meaning P) (events : List Event) (s t : State P) (frame : ℕ) : Type 0 where
  pub before : List Event
  pub event : Event
  pub since : List Event
  pub after : State P
  pub order : before ++ (event ∷ since) ≡ events
  pub run : Run means (before ++ (event ∷ [])) s after
  pub rest : Run means since after t
  pub call : event.call ≡ accept frame
  pub accepted : accepts event.answer ≡ true
  pub code : (some others : List Event) (u : State P) → some ++ others ≡ since → Run means some after u → Run means others u t → kind_of u.guarded frame ≡ Some kind.Code
  pub words : (some others : List Event) (u : State P) → some ++ others ≡ since → Run means some after u → Run means others u t → frame_words u.guarded.picture.words frame ≡ frame_words t.guarded.picture.words frame

-- The drained pieces: the words that drains copied out, one piece behind the other in their order.
abbrev pub pieces : List Event → List ℕ
pieces events = flat_map (λ e. e.copied) events

-- The journal of a run: its drained pieces, and behind them the words that are held.
abbrev pub journal_of : {P : Type 0} → List Event → State P → List ℕ
journal_of events t = pieces events ++ held_words t.guarded

-- The figures of a machine: how many frames there are, and which of them are the log.
abbrev pub figures_of : {P : Type 0} → State P → LogFigures
figures_of t = record { frames = length t.guarded.picture.kinds; first = t.guarded.first_log; count = t.guarded.logs }

-- The player, given the figures of the machine s with which the run began, plays the journal from zeros to its end, whatever lists it is lent that are long enough; and
-- what it gives agrees with the machine t in the kind of every frame, and in every word of each frame that is a table, a region's or reserve.
pub record Replay {P : Type 0} (events : List Event) (s t : State P) : Type 0 where
  pub records : ℕ
  pub plays : (words : List ℕ) (kinds : List FrameKind) → 512 * length s.guarded.picture.kinds ≤ length words → length s.guarded.picture.kinds ≤ length kinds
      → playing (figures_of s) (journal_of events t) words kinds ≡ played records
  pub kinds : (picture_from (start (figures_of s)) (journal_of events t)).kinds ≡ t.guarded.picture.kinds
  pub words : (frame : ℕ) → keeps_words (kind_of t.guarded frame) ≡ true
      → frame_words (picture_from (start (figures_of s)) (journal_of events t)).words frame ≡ frame_words t.guarded.picture.words frame

-- A call is a release of the region.
abbrev pub releases : ℕ → Request → Bool
releases region (release r) = r == region
releases region other = false

-- An event is such a release, and was accepted.
abbrev pub was_released : ℕ → Event → Bool
was_released region e = releases region e.call && accepts e.answer

-- The byte of a region at an offset, by the region's first frame.
abbrev pub byte_at : {P : Type 0} → State P → ℕ → ℕ → ℕ
byte_at t first offset = byte_in t.guarded.picture.words (4096 * first + offset)

-- Where a region is live at a moment u of a run, an offset below its length is closed then, and no release of the region is accepted between u and the end of the run: the region
-- is live at the end, in the same frames, and the byte there is the same at both.
abbrev pub ClosedBytes : {P : Type 0} → Meaning P → List Event → State P → State P → Type 0
ClosedBytes {P} means events s t =
    (before since : List Event) (u : State P) → before ++ since ≡ events → Run means before s u → Run means since u t
    → (region first size offset : ℕ) → region_of u.guarded.picture region ≡ Some (Live first size) → offset < size → means.opens u.policy region offset ≡ false
    → list_all (λ e. not (was_released region e)) since ≡ true
    → (region_of t.guarded.picture region ≡ Some (Live first size)) × (byte_at u first offset ≡ byte_at t first offset)

-- What holds of a run from s to t.
pub record Laws {P : Type 0} (means : Meaning P) (events : List Event) (s t : State P) : Type 0 where
  pub protection : Protection means t
  -- Each code frame holds the words that it held when it was accepted, and the scanner passes them.
  pub code : (frame : ℕ) → kind_of t.guarded frame ≡ Some kind.Code → Unchanged means events s t frame
  pub scans : (frame : ℕ) → kind_of t.guarded frame ≡ Some kind.Code → scanned t.guarded.picture.words frame ≡ true
  pub replay : Replay events s t
  pub closed : ClosedBytes means events s t

-- They hold of every run from s, whatever its events are.
unfoldable pub Guaranteed : {P : Type 0} → Meaning P → State P → Type 0
Guaranteed {P} means s = (events : List Event) (t : State P) → Run means events s t → Laws means events s t
