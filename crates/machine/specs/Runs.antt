-- Carrying out a list of tasks on a machine.
--
--   task_request   the request of a task
--   event_of       the event of a request, by its answer and the machine that it was asked of
--   drained_in     how many words an answer says were copied out
--   OfTasks        that events are those of tasks, in their order
--   overlaid       a list with its first items replaced
--   RunOf          what came of a list of tasks
use Rattle.std.specs.Prelude.{◌≡◌, ⊤, ℕ, ◌-◌, ◌≤◌, List, [], ◌∷◌, length, map}
use Rattle.policy.specs.Policies.{Meaning}
use Rattle.guard.specs.Calls.{Request, drain, request_of}
use Rattle.guard.specs.States.{State}
use Rattle.guard.specs.Steps.{piece, with_piece}
use Rattle.guard.specs.declared.calls.Answer.{Answer}
use Rattle.guard.specs.declared.calls.Answer.TheVariants.{Drained}
use Rattle.guarantee.specs.Guarantee.{Event, Run, pieces}
use Rattle.machine.specs.declared.run.Task.{Task}
use Rattle.machine.specs.declared.run.Task.TheVariants as task

-- The request of a task, where so many words of the archive are left.
abbrev pub task_request : Task → ℕ → Request
task_request (task.Call call) room = request_of call
task_request task.Drain room = drain room

-- The event of a request.
abbrev pub event_of : {P : Type 0} → Request → Answer → State P → Event
event_of q answer s = record { call = q; answer = answer; copied = piece q answer s }

-- How many words were copied out; none but by a drain that was accepted.
abbrev pub drained_in : Answer → ℕ
drained_in (Drained count) = count
drained_in other = 0

-- Events are those of tasks, one for each and in their order; so many words of the archive are left for the first.
abbrev pub OfTasks : List Task → ℕ → List Event → Type 0
OfTasks [] room [] = ⊤
OfTasks (task ∷ tasks) room (e ∷ events) = (e.call ≡ task_request task room) × OfTasks tasks (room - length e.copied) events
OfTasks tasks room events = ⊥

-- A list with its first items replaced by others, as many as it has room for.
abbrev pub overlaid : {A : Type 0} → List A → List A → List A
overlaid [] items = []
overlaid (x ∷ xs) [] = x ∷ xs
overlaid (x ∷ xs) (item ∷ items) = item ∷ overlaid xs items

-- Tasks made of a machine s the machine t.
pub record RunOf {P : Type 0} (means : Meaning P) (tasks : List Task) (s t : State P) (answers answers' : List Answer) (archive archive' : List ℕ) (drained : ℕ) : Type 0 where
  -- Each task was an event, and the events happened one after the other;
  pub events : List Event
  pub calls : OfTasks tasks (length archive) events
  pub run : Run means events s t
  -- their answers stand in the list for them, as many as it has room for;
  pub told : answers' ≡ overlaid answers (map (λ e. e.answer) events)
  -- and the words that they copied out stand at the front of the archive, one piece behind the other, and its rest is as it was.
  pub filed : archive' ≡ with_piece (pieces events) archive
  pub count : drained ≡ length (pieces events)
  pub within : drained ≤ length archive
