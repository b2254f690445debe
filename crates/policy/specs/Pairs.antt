-- Any two policies side by side.
--
--   joint_openness   what is open in the regions of two policies, one after the other
--   pair_opens       what is open in a pair
--   pair_count       how many regions it shows
--   pair_after       what a write makes of it
--   pair_means       these three together
--   SideBySide       which regions a pair shows, as what, and where a write goes
use Rattle.std.specs.Prelude.{◌≡◌, ℕ, ◌+◌, ◌-◌, ◌<◌, ◌≤◌, min, Bool, false, if◌then◌else◌, nat_lt}
use Rattle.policy.specs.Policies.{Meaning}

-- The regions of a first policy, `count` in number, then those of a second, up to region 15. From 16 up nothing is open.
abbrev pub joint_openness : ℕ → (ℕ → ℕ → Bool) → (ℕ → ℕ → Bool) → ℕ → ℕ → Bool
joint_openness count first second region =
    if nat_lt region count then first region
    else (if nat_lt region 16 then second (region - count) else (λ _. false))

-- A pair shows the regions of its two policies so.
abbrev pub pair_opens : {A B : Type 0} → Meaning A → Meaning B → A × B → ℕ → ℕ → Bool
pair_opens a b pair = joint_openness (a.count pair.0) (a.opens pair.0) (b.opens pair.1)

-- The regions of both, 16 at most.
abbrev pub pair_count : {A B : Type 0} → Meaning A → Meaning B → A × B → ℕ
pair_count a b pair = min 16 (a.count pair.0 + b.count pair.1)

-- A write is told to the policy whose region it is.
abbrev pub pair_after : {A B : Type 0} → Meaning A → Meaning B → A × B → ℕ → ℕ → ℕ → A × B
pair_after a b pair region offset length =
    if nat_lt region (a.count pair.0) then (a.after pair.0 region offset length, pair.1)
    else (if nat_lt region 16 then (pair.0, b.after pair.1 (region - a.count pair.0) offset length) else pair)

-- What a pair means.
abbrev pub pair_means : {A B : Type 0} → Meaning A → Meaning B → Meaning (A × B)
pair_means a b = record { opens = pair_opens a b; count = pair_count a b; after = pair_after a b }

-- What a pair shows of its two policies. They may have up to 32 regions between them.
pub record SideBySide {A B : Type 0} (a : Meaning A) (b : Meaning B) (pair : A × B) : Type 0 where
  -- It has the regions of both,
  pub fits : a.count pair.0 + b.count pair.1 ≤ 16 → pair_count a b pair ≡ a.count pair.0 + b.count pair.1
  -- or 16 where they have more.
  pub full : 16 ≤ a.count pair.0 + b.count pair.1 → pair_count a b pair ≡ 16
  -- The first's regions keep their numbers,
  pub firsts : (region o : ℕ) → region < a.count pair.0 → pair_opens a b pair region o ≡ a.opens pair.0 region o
  -- and the second's follow them, as many as have a number below 16.
  pub seconds : (region o : ℕ) → a.count pair.0 + region < 16 →
      pair_opens a b pair (a.count pair.0 + region) o ≡ b.opens pair.1 region o
  -- From region 16 up all is closed.
  pub rest : (region o : ℕ) → 16 ≤ region → pair_opens a b pair region o ≡ false
  -- A write to one of the first's regions is told to the first alone,
  pub tells_first : (region offset length : ℕ) → region < a.count pair.0 →
      pair_after a b pair region offset length ≡ (a.after pair.0 region offset length, pair.1)
  -- one to a region of the second's that is shown is told to the second alone, by the number it has there,
  pub tells_second : (region offset length : ℕ) → a.count pair.0 + region < 16 →
      pair_after a b pair (a.count pair.0 + region) offset length ≡ (pair.0, b.after pair.1 region offset length)
  -- and any other is told to neither.
  pub tells_none : (region offset length : ℕ) → 16 ≤ region → pair_after a b pair region offset length ≡ pair
  -- So no write reaches those of the second's regions that are not shown.
  pub hidden : (region offset length r o : ℕ) → 16 ≤ a.count pair.0 + r →
      b.opens (pair_after a b pair region offset length).1 r o ≡ b.opens pair.1 r o
