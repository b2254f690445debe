-- What calls copy out.
use Rattle.std.proofs.Common.{◌≡◌, ℕ, List, [], ◌++◌, length, take, slice_index, Bool, true, false, cond, ap, ◌∙◌}
use Rattle.std.proofs.Math.Seq.{take-append_seam}
use Rattle.std.proofs.lemmas.List.FromFn.{length-map-range_with_len}
use Rattle.guard.specs.Calls.{request_of}
use Rattle.guard.specs.Guarding.{words_from}
use Rattle.guard.specs.States.{State}
use Rattle.guard.specs.Steps.{is_accepted, piece}
use Rattle.guard.specs.declared.calls.Answer.TheVariants.{Done}
use Rattle.guard.specs.declared.calls.Call.{Call}
use Rattle.machine.proofs.Running.{quiet}
use Rattle.script.specs.Machines.{Policies, call_words, policies}

-- of no words there is nothing to copy, whether the call is accepted or not
either : (b : Bool) (ws : List ℕ) → ws ≡ [] → cond b ws [] ≡ []
either true ws e = e
either false ws e = cc

-- so such a call copies none
pub nothing_copied : (c : Call) (s : State Policies) → call_words (request_of c) s ≡ []
unfolding call_words
nothing_copied c s = either (is_accepted policies (request_of c) s) (piece (request_of c) Done s) (quiet c Done s)

-- as many words as are held
pub held_long : (words : List ℕ) (at n : ℕ) → length (words_from words at n) ≡ n
held_long words at n = length-map-range_with_len (slice_index words) at n

-- the first words of a list, as many as they are
pub front : (first rest : List ℕ) (n : ℕ) → n ≡ length first → take n (first ++ rest) ≡ first
front first rest n e = ap (λ k. take k (first ++ rest)) e ∙ take-append_seam first rest
