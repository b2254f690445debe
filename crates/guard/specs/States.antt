-- A machine as a value.
--
--   State          what a machine is
--   good           whether figures are those that a machine can have
--   new_guarded    what the guard of a new machine keeps
--   new_state      a new machine
use Rattle.std.specs.Prelude.{ℕ, Bool, cond, None, Option, is_none}
use Rattle.journal.specs.Pictures.{new_picture, with_words}
use Rattle.memory.specs.Memories as memory
use Rattle.frames.specs.Figures.{figure_questions}
use Rattle.frames.specs.Questions.{first_no}
use Rattle.guard.specs.Guarding.{Guarded}
use Rattle.guard.specs.Registers.{new_registers}
use Rattle.guard.specs.declared.registers.Registers.{Registers}

-- What a machine is, whatever its memory and its policy are made of: whether it was made on good figures, what its guard keeps, the root if
-- there is one, what its registers hold, and its policy.
pub record State (P : Type 0) : Type 0 where
  pub sound : Bool
  pub guarded : Guarded
  pub root : Option ℕ
  pub registers : Registers
  pub policy : P

-- Figures are good where each of their questions has a yes.
abbrev pub good : ℕ → ℕ → ℕ → Bool
good frames first count = is_none (first_no (figure_questions frames first count))

-- What the guard of a new machine keeps: the words of its memory, none of them touched; its frames, of which the log frames have kind
-- log and all others are plain; no region was taken, and no word of the journal is held.
abbrev pub new_guarded : {M : Type 0} → memory.Meaning M → M → ℕ → ℕ → Guarded
new_guarded means m first count = record {
  picture = with_words (new_picture (means.size m) first count) (means.words m);
  first_log = first;
  logs = count;
  held = 0;
  beside = means.beside m;
}

-- A new machine over a memory, with no root, and with the starting bits alone in its registers. One on figures that are not good has no log.
abbrev pub new_state : {M P : Type 0} → memory.Meaning M → M → ℕ → ℕ → P → State P
new_state means m first count policy = record {
  sound = good (means.size m) first count;
  guarded = cond (good (means.size m) first count) (new_guarded means m first count) (new_guarded means m 0 0);
  root = None;
  registers = new_registers;
  policy = policy;
}
