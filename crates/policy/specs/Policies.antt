-- What every policy means: each offset of each region is open or closed, and closed stays closed.
--
--   all_open     whether the offsets of a stretch are all open
--   permitted    whether a policy says yes
--   Throughout   that each offset of a stretch is open
--   Meaning      what is open in a policy, how many regions it has, and what a write makes of it
--   Lawful       what holds of every policy
use Rattle.std.specs.Prelude.{◌≡◌, ℕ, zero, suc, ◌+◌, ◌<◌, ◌≤◌, Bool, true, false, ◌&&◌, ◌≢◌, ◌↔◌, IsTrue}
use Rattle.policy.specs.Spans.{is_span}

-- Whether the offsets from `offset` on, `length` of them, are all open.
abbrev pub all_open : (ℕ → Bool) → ℕ → ℕ → Bool
all_open opens offset zero = true
all_open opens offset (suc length) = opens (offset + length) && all_open opens offset length

-- Whether a policy says yes: exactly to a span whose offsets are all open.
unfoldable pub permitted : (ℕ → Bool) → ℕ → ℕ → Bool
permitted opens offset length = is_span offset length && all_open opens offset length

-- Each single offset of the stretch is open.
abbrev pub Throughout : (ℕ → Bool) → ℕ → ℕ → Type 0
Throughout opens offset length = (o : ℕ) → offset ≤ o → o < offset + length → opens o ≡ true

-- What a policy means.
pub record Meaning (Self : Type 0) : Type 0 where
  -- Which offsets of which region are open,
  pub opens : Self → ℕ → ℕ → Bool
  -- how many regions it governs,
  pub count : Self → ℕ
  -- and what a write to a region makes of it, by its offset and its length.
  pub after : Self → ℕ → ℕ → ℕ → Self

-- What holds of every policy.
pub record Lawful {Self : Type 0} (m : Meaning Self) : Type 0 where
  -- It governs at most 16 regions,
  pub few : (policy : Self) → m.count policy ≤ 16
  -- all others are closed throughout,
  pub past : (policy : Self) (region offset : ℕ) → m.count policy ≤ region → m.opens policy region offset ≡ false
  -- and so is whatever lies past a region's 65,536 offsets.
  pub wide : (policy : Self) (region offset : ℕ) → 65536 ≤ offset → m.opens policy region offset ≡ false
  -- It says yes exactly to a span each of whose offsets is open.
  pub yes : (policy : Self) (region offset length : ℕ) →
      IsTrue (permitted (m.opens policy region) offset length)
      ↔ (IsTrue (is_span offset length) × Throughout (m.opens policy region) offset length)
  -- A write leaves the count as it was.
  pub same : (policy : Self) (region offset length : ℕ) → m.count (m.after policy region offset length) ≡ m.count policy
  -- A write to which it would have said no alters nothing.
  pub refused : (policy : Self) (region offset length : ℕ) → permitted (m.opens policy region) offset length ≡ false →
      m.after policy region offset length ≡ policy
  -- A write alters no other region.
  pub others : (policy : Self) (region offset length other o : ℕ) → other ≢ region →
      m.opens (m.after policy region offset length) other o ≡ m.opens policy other o
  -- Closed stays closed.
  pub closed : (policy : Self) (region offset length r o : ℕ) → m.opens policy r o ≡ false →
      m.opens (m.after policy region offset length) r o ≡ false
