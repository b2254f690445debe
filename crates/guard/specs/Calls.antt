-- Calls on a machine, and their answers.
--
--   Request      a call as a value, with the bytes of a write
--   request_of   the request of a call of the program
--   done_or_refused, done_or_faulted, word_or_faulted, drained_or_refused   the answer of a call, by the type of its result
--   number_in, word_in, count_in, stopped_in_answer   what an answer says
use Rattle.std.specs.Prelude.{⊤, ℕ, List, Ok, Err, Some, None, Option, Result}
use Rattle.paging.specs.Questions.{fault_number, stopped_in}
use Rattle.paging.specs.declared.faults.AccessFault.{AccessFault}
use Rattle.paging.specs.declared.faults.Stopped.{Stopped}
use Rattle.guard.specs.Refusals.{refusal_number}
use Rattle.guard.specs.declared.calls.Answer.{Answer}
use Rattle.guard.specs.declared.calls.Answer.TheVariants.{Done, Word, Drained, Refused, Faulted}
use Rattle.guard.specs.declared.calls.Call.{Call}
use Rattle.guard.specs.declared.calls.Call.TheVariants as call
use Rattle.guard.specs.declared.refusals.Refusal.{Refusal}
use Rattle.guard.specs.declared.registers.Register.{Register}

-- A call as a value. Of the list that a drain is supplied with, it has the length alone.
pub data Request : Type 0 where
  declare : (frame level : ℕ) → Request
  set : (table index entry : ℕ) → Request
  retire : (frame : ℕ) → Request
  take : (region first length : ℕ) → Request
  write : (region offset : ℕ) (bytes : List ℕ) → Request
  release : (region : ℕ) → Request
  accept : (frame : ℕ) → Request
  unaccept : (frame : ℕ) → Request
  load_register : Register → (value : ℕ) → Request
  load_root : (value : ℕ) → Request
  load : (address : ℕ) → Request
  store : (address value : ℕ) → Request
  fetch : (address : ℕ) → Request
  drain : (room : ℕ) → Request

-- The request of a call of the program.
abbrev pub request_of : Call → Request
request_of (call.Declare frame level) = declare frame level
request_of (call.Set table index entry) = set table index entry
request_of (call.Retire frame) = retire frame
request_of (call.Take region first length) = take region first length
request_of (call.Write region offset bytes) = write region offset bytes.now
request_of (call.Release region) = release region
request_of (call.Accept frame) = accept frame
request_of (call.Unaccept frame) = unaccept frame
request_of (call.LoadRegister register value) = load_register register value
request_of (call.LoadRoot value) = load_root value
request_of (call.Load address) = load address
request_of (call.Store address value) = store address value
request_of (call.Fetch address) = fetch address

-- The answer of a guard call or of a load of a register, of a store, of a load or a fetch, and of a drain, by its result.
abbrev pub done_or_refused : Result ⊤ Refusal → Answer
done_or_refused (Ok _) = Done
done_or_refused (Err refusal) = Refused refusal

abbrev pub done_or_faulted : Result ⊤ AccessFault → Answer
done_or_faulted (Ok _) = Done
done_or_faulted (Err fault) = Faulted fault

abbrev pub word_or_faulted : Result ℕ AccessFault → Answer
word_or_faulted (Ok word) = Word word
word_or_faulted (Err fault) = Faulted fault

abbrev pub drained_or_refused : Result ℕ Refusal → Answer
drained_or_refused (Ok count) = Drained count
drained_or_refused (Err refusal) = Refused refusal

-- The number of the question that had a no, if one had.
abbrev pub number_in : Answer → Option ℕ
number_in (Refused refusal) = Some (refusal_number refusal)
number_in (Faulted fault) = Some (fault_number fault)
number_in other = None

-- The word that is answered, if one is.
abbrev pub word_in : Answer → Option ℕ
word_in (Word word) = Some word
word_in other = None

-- How many words were copied out, if a drain was accepted.
abbrev pub count_in : Answer → Option ℕ
count_in (Drained count) = Some count
count_in other = None

-- Where a walk ended, with the address and the access, if one ended at a fault.
abbrev pub stopped_in_answer : Answer → Option Stopped
stopped_in_answer (Faulted fault) = stopped_in fault
stopped_in_answer other = None
