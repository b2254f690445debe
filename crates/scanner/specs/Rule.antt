-- The rule for code that cannot change the processor's protection, with no scanner in it.
-- Names: `lead`, `group`, `writes`, `loads` (bytes); `after_group`, `after_lead`, `passing` (runs of bytes);
-- `Outside`, `NoneLoads`, `Clean` (the rule place by place); `bytes_of_words` (words as bytes).
use Rattle.std.specs.Prelude.{◌≡◌, ℕ, suc, ◌≤◌, Bool, true, not, ◌&&◌, ◌||◌, ◌≢◌, List, [], ◌∷◌, length, ◌==◌, slice_index}
use Rattle.memory.specs.ByteOrder.{bytes_of}
use Rattle.std.specs.List.{flat_map}
use Rattle.std.specs.Int.{is_in_range}

-- 0F
abbrev pub lead : ℕ → Bool
lead b = b == 15

-- 01, which after 0F begins a group of instructions
abbrev pub group : ℕ → Bool
group b = b == 1

-- 22 and 30: after 0F, a move into a control register and a write of a model-specific register
abbrev pub writes : ℕ → Bool
writes b = b == 34 || b == 48

-- 18 to 1F, 58 to 5F and 98 to 9F: after 0F 01, a load of the interrupt table register
abbrev pub loads : ℕ → Bool
loads b = is_in_range 24 31 b || (is_in_range 88 95 b || is_in_range 152 159 b)

-- what may not follow 0F 01: the run's end, or a byte that makes it a load
abbrev pub after_group : List ℕ → Bool
after_group [] = true
after_group (b ∷ bs) = loads b

-- what may not follow 0F: the run's end, a byte that makes it a write, or 01 with what may not follow that
abbrev pub after_lead : List ℕ → Bool
after_lead [] = true
after_lead (b ∷ bs) = writes b || (group b && after_group bs)

-- a run passes where no 0F in it has after it what may not follow
abbrev pub passing : List ℕ → Bool
passing [] = true
passing (b ∷ bs) = not (lead b && after_lead bs) && passing bs

-- a byte below `low` or above `high`
abbrev pub Outside : ℕ → ℕ → ℕ → Type 0
Outside low high b = low ≤ b → b ≤ high → ⊥

-- a byte in none of the three ranges 18 to 1F, 58 to 5F and 98 to 9F
abbrev pub NoneLoads : ℕ → Type 0
NoneLoads b = Outside 24 31 b × Outside 88 95 b × Outside 152 159 b

-- the rule of every place k; past the run's end `slice_index` reads 0, which is none of the bytes named here
pub record Clean (bs : List ℕ) : Type 0 where
  -- after 0F stands neither 22 nor 30
  pub no_write : (k : ℕ) → slice_index bs k ≡ 15 → (slice_index bs (suc k) ≢ 34) × (slice_index bs (suc k) ≢ 48)
  -- after 0F 01 stands none of 18 to 1F, 58 to 5F and 98 to 9F
  pub no_load : (k : ℕ) → slice_index bs k ≡ 15 → slice_index bs (suc k) ≡ 1 → NoneLoads (slice_index bs (suc (suc k)))
  -- the last byte is not 0F
  pub end : (k : ℕ) → suc k ≡ length bs → slice_index bs k ≢ 15
  -- the last two bytes are not 0F 01
  pub end01 : (k : ℕ) → suc (suc k) ≡ length bs → slice_index bs k ≡ 15 → slice_index bs (suc k) ≢ 1

-- the bytes of words, word after word, the low byte of each first
unfoldable pub bytes_of_words : List ℕ → List ℕ
bytes_of_words ws = flat_map bytes_of ws
