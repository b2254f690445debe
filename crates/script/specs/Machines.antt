-- The machine that a script makes, over the memory that it supplied.
--
--   Policies, policies, new_policies    the policies side by side, what they mean, and new ones
--   log_figures, new_machine            the figures of a machine, and a new one
--   call_number, call_stop, call_word   what is told of a call: the number of its refusal, where its walk ended, its word,
--   call_count, call_words     how many words it copied out, and which
--   call_after                          what a call makes of the machine
--   call_text, copied_text              what is printed of the first four, and of the words
--   made_text, parts_text               and of making a machine, and of the parts of an address
--
-- Made of: `frames_shown`, `means_of`, `refused_text`.
use Rattle.std.specs.Prelude.{⊤, ℕ, ◌/◌, true, cond, List, [], ◌++◌, ◌==◌, length, replicate, Some, None, codes, decimal, Option}
use Rattle.memory.specs.Memories as memory
use Rattle.memory.specs.Memories.{Beside}
use Rattle.frames.specs.Kinds.{level_number}
use Rattle.frames.specs.Questions.{first_no}
use Rattle.frames.specs.declared.figures.LogFigures.{LogFigures}
use Rattle.guard.specs.Calls.{Request}
use Rattle.guard.specs.Orders.{questions}
use Rattle.guard.specs.States.{State, new_state}
use Rattle.guard.specs.Steps.{counted, effect, is_accepted, piece, read, stopped}
use Rattle.guard.specs.declared.calls.Answer.TheVariants.{Done}
use Rattle.paging.specs.declared.faults.Stopped.{Stopped}
use Rattle.paging.specs.declared.parts.Split.{Split}
use Rattle.policy.specs.Kinds.{append_only_close, append_only_openness, free_close, free_openness, kind_means, write_once_close, write_once_openness}
use Rattle.policy.specs.Pairs.{pair_means}
use Rattle.policy.specs.Policies.{Meaning}
use Rattle.policy.specs.declared.append_only.AppendOnly.{AppendOnly}
use Rattle.policy.specs.declared.free.Free.{Free}
use Rattle.policy.specs.declared.write_once.WriteOnce.{WriteOnce}
use Rattle.text.specs.Texts.{hexadecimal}
use Rattle.script.specs.Commands.{set_apart}

-- write-once, append-only and free, side by side
abbrev pub Policies : Type 0
Policies = WriteOnce × (AppendOnly × Free)

-- what they mean: regions 0, 1 and 2
abbrev pub policies : Meaning Policies
policies = pair_means (kind_means write_once_openness write_once_close) (pair_means (kind_means append_only_openness append_only_close) (kind_means free_openness free_close))

-- new ones, of which all is open
unfoldable pub new_policies : Policies
new_policies = (record { fresh = replicate 4096 true }, (record { mark = 0 }, record {}))

-- the figures of n frames, of which `count` frames from `first` on are log frames
abbrev pub log_figures : ℕ → ℕ → ℕ → LogFigures
log_figures n first count = record { frames = n; first = first; count = count }

-- the frames that words make
abbrev pub frames_shown : List ℕ → ℕ
frames_shown ws = length ws / 512

-- the meaning of a memory of these words, and of what stands beside them
abbrev pub means_of : List ℕ → Beside → memory.Meaning ⊤
means_of ws beside = record { words = λ _. ws; size = λ _. frames_shown ws; beside = λ _. beside }

-- a new machine over such a memory
unfoldable pub new_machine : List ℕ → Beside → ℕ → ℕ → State Policies
new_machine ws beside first count = new_state (means_of ws beside) tt first count new_policies

-- the number of the first question that has a no
unfoldable pub call_number : Request → State Policies → Option ℕ
call_number q s = first_no (questions policies q s)

-- where the walk of an access ended
unfoldable pub call_stop : Request → State Policies → Option Stopped
call_stop q s = stopped q s

-- the word that an accepted load or fetch answers
unfoldable pub call_word : Request → State Policies → Option ℕ
call_word q s = cond (is_accepted policies q s) (read q s) None

-- how many words an accepted drain copies out
unfoldable pub call_count : Request → State Policies → Option ℕ
call_count q s = cond (is_accepted policies q s) (counted q s) None

-- the words that a call copies out: a refused one copies none, and an accepted one what it copies where its answer is no refusal
unfoldable pub call_words : Request → State Policies → List ℕ
call_words q s = cond (is_accepted policies q s) (piece q Done s) []

-- the machine after a call: a refused one changes nothing
unfoldable pub call_after : Request → State Policies → State Policies
call_after q s = cond (is_accepted policies q s) (effect policies q s) s

-- a refusal by its number
abbrev pub refused_text : ℕ → List ℕ
refused_text number = codes "refused " ++ decimal number

-- what is printed of a call: its word, how many words it copied out, or `ok` where it has neither; or the number of its refusal, with the place where
-- a walk ended
abbrev pub call_text : Option ℕ → Option Stopped → Option ℕ → Option ℕ → List ℕ
call_text None place None None = codes "ok"
call_text None place None (Some count) = decimal count ++ codes " words"
call_text None place (Some word) count = hexadecimal word
call_text (Some number) None word count = refused_text number
call_text (Some number) (Some s) word count = codes "refused " ++ (decimal number ++ (codes " at level " ++ (decimal (level_number s.fault.level) ++ (codes " in table " ++ decimal s.fault.table))))

-- and of the words that were copied out: where there are any, a line of them below, indented by two blanks
abbrev pub copied_text : List ℕ → List ℕ
copied_text ws = cond (length ws == 0) [] (codes "\n " ++ set_apart hexadecimal ws)

-- and of making a machine, by the figures' question that has a no
abbrev pub made_text : Option ℕ → List ℕ
made_text None = codes "made"
made_text (Some number) = refused_text number

-- the four indices of an address, level 4 first, and its offset
abbrev pub parts_text : Split → List ℕ
parts_text p = decimal p.four ++ (codes " " ++ (decimal p.three ++ (codes " " ++ (decimal p.two ++ (codes " " ++ (decimal p.one ++ (codes " " ++ decimal p.offset)))))))
