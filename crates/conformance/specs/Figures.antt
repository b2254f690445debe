-- The marked figures for acceptance: as values, and as one list over the definitions that the calls' contracts use.
--
--   marked                        the figures as values
--   NewWriteOnce, NewAppendOnly   that a policy is a new one of that kind
--   after_write                   an append-only policy that was told of a write
--   refusals_at                   the numbers of accesses to an address
--   Figures                       that the definitions give these values
use Rattle.std.specs.Prelude.{◌≡◌, ℕ, true, false, List, [], ◌∷◌, map, Option, Some}
use Rattle.frames.specs.Regions.{frames_needed}
use Rattle.frames.specs.Questions.{first_no}
use Rattle.journal.specs.Records.{encode}
use Rattle.journal.specs.Records as record_of
use Rattle.paging.specs.Addresses.{parts_of}
use Rattle.paging.specs.Questions.{access_questions}
use Rattle.paging.specs.declared.faults.Access.TheVariants.{Load, Store, Fetch}
use Rattle.policy.specs.Kinds.{alone, append_only_close, append_only_openness, append_only_opens, below, kind_after, write_once_opens}
use Rattle.policy.specs.Policies.{permitted}
use Rattle.policy.specs.declared.append_only.AppendOnly.{AppendOnly}
use Rattle.policy.specs.declared.write_once.WriteOnce.{WriteOnce}
use Rattle.scanner.specs.Rule.{passing}
use Rattle.conformance.specs.declared.figures.Answers.{Answers}

-- The figures as values, by the fields of the program's answers.
abbrev pub marked : Answers
marked = record {
  parts =
      record { four = 255; three = 511; two = 511; one = 511; offset = 4088 }
      ∷ record { four = 256; three = 0; two = 0; one = 0; offset = 0 }
      ∷ record { four = 0; three = 0; two = 1; one = 1; offset = 8 }
      ∷ [];
  refusals = 40 ∷ 40 ∷ 40 ∷ [];
  passes = false ∷ false ∷ true ∷ false ∷ [];
  once = true ∷ false ∷ [];
  appended = false ∷ true ∷ [];
  taken = 0x0000100109000104;
  frames = 2;
  written = 0x0000001000000105 ∷ 3 ∷ 0x636261 ∷ [];
}

-- A new write-once policy: the offsets below 4,096 of its region are open.
abbrev pub NewWriteOnce : WriteOnce → Type 0
NewWriteOnce policy = (region offset : ℕ) → write_once_opens policy region offset ≡ alone (below 4096) region offset

-- A new append-only policy: all offsets of its region are open.
abbrev pub NewAppendOnly : AppendOnly → Type 0
NewAppendOnly policy = (region offset : ℕ) → append_only_opens policy region offset ≡ alone (below 65536) region offset

-- The policy after a write to its region.
abbrev pub after_write : AppendOnly → ℕ → ℕ → AppendOnly
after_write policy offset length = kind_after append_only_openness append_only_close policy 0 offset length

-- The numbers with which a load, a store and a fetch at an address are refused, by their questions.
abbrev pub refusals_at : ℕ → List ℕ → Option ℕ → List (Option ℕ)
refusals_at address words root = map (λ access. first_no (access_questions words root address access)) (Load ∷ Store ∷ Fetch ∷ [])

-- All of the figures: what the definitions say is these values.
pub record Figures : Type 0 where
  -- The parts of three addresses.
  pub parts : parts_of 0x00007FFFFFFFFFF8 ∷ parts_of 0xFFFF800000000000 ∷ parts_of 0x201008 ∷ [] ≡ marked.parts
  -- Accesses to an address that is not canonical, whatever the memory holds and whatever its root is.
  pub refusals : (words : List ℕ) (root : Option ℕ) → refusals_at 0x0000800000000000 words root ≡ map Some marked.refusals
  -- Four runs of bytes and the scanner.
  pub passes : passing (0x0F ∷ 0x0F ∷ 0x30 ∷ []) ∷ passing (0x0F ∷ 0x01 ∷ 0x18 ∷ []) ∷ passing (0x0F ∷ 0x01 ∷ 0xD8 ∷ 0x00 ∷ []) ∷ passing (0x0F ∷ 0x01 ∷ 0x0F ∷ 0x22 ∷ []) ∷ [] ≡ marked.passes
  -- A new write-once policy at offset 4,095, with length 1 and with length 2.
  pub once : (policy : WriteOnce) → NewWriteOnce policy → permitted (write_once_opens policy 0) 4095 1 ∷ permitted (write_once_opens policy 0) 4095 2 ∷ [] ≡ marked.once
  -- A new append-only policy that was told of a write at offset 0 of length 16: offsets 15 and 16, with length 1.
  pub appended : (policy : AppendOnly) → NewAppendOnly policy → permitted (append_only_opens (after_write policy 0 16) 0) 15 1 ∷ permitted (append_only_opens (after_write policy 0 16) 0) 16 1 ∷ [] ≡ marked.appended
  -- Region 1 is taken at frame 9 with 4,097 bytes, so many frames; then 61 62 63 are written at its offset 16.
  pub taken : encode (record_of.taken 1 9 4097) ≡ marked.taken ∷ []
  pub frames : frames_needed 4097 ≡ marked.frames
  pub written : encode (record_of.written 1 16 (0x61 ∷ 0x62 ∷ 0x63 ∷ [])) ≡ marked.written
