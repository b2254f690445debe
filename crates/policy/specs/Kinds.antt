-- Kinds, policies of a single region: what makes one, and the three that there are, what each starts with and what a write closes.
--
--   alone                       a kind governs region 0 and no other
--   kind_opens                  what it has open
--   one_region                  how many regions it has
--   kind_after                  what a write makes of it
--   kind_means                  these three together
--   open_after                  what a write leaves open
--   Closes                      that a write closes certain offsets in its region, and no others
--   IsKind                      what holds of every kind
--   below, open_from            the offsets below one, and those from one up
--   is_flagged, flags_without   flags for the offsets, and clearing those of a span
--   write_once_openness, write_once_close, write_once_opens, write_once_means
--                               write-once: what is open in region 0, what a write makes of it, what is open in all
--                               regions, and what it means
--   append_only_openness, append_only_close, append_only_closes, append_only_opens, append_only_means
--                               append-only, and which offsets a write closes
--   free_openness, free_close, free_closes, free_opens, free_means
--                               free
use Rattle.std.specs.Prelude.{◌≡◌, ℕ, zero, suc, ◌+◌, ◌≤◌, Bool, true, false, if◌then◌else◌, ◌&&◌, List, ◌==◌, nat_le, nat_lt, slice_index_or, slice_set}
use Rattle.policy.specs.Policies.{Meaning, permitted}
use Rattle.policy.specs.declared.append_only.AppendOnly.{AppendOnly}
use Rattle.policy.specs.declared.free.Free.{Free}
use Rattle.policy.specs.declared.write_once.WriteOnce.{WriteOnce}

-- In region 0 the offsets are open that `openness` tells, in all other regions none.
abbrev pub alone : (ℕ → Bool) → ℕ → ℕ → Bool
alone openness region offset = region == 0 && openness offset

-- What is open in a kind is open in region 0.
abbrev pub kind_opens : {Self : Type 0} → (Self → ℕ → Bool) → Self → ℕ → ℕ → Bool
kind_opens openness kind = alone (openness kind)

-- Every kind has one region.
abbrev pub one_region : {Self : Type 0} → Self → ℕ
one_region _ = 1

-- A write that is permitted changes a kind as `close` says, any other leaves it as it was.
abbrev pub kind_after : {Self : Type 0} → (Self → ℕ → Bool) → (Self → ℕ → ℕ → Self) → Self → ℕ → ℕ → ℕ → Self
kind_after openness close kind region offset length =
    if permitted (kind_opens openness kind region) offset length then close kind offset length else kind

-- What a kind means.
abbrev pub kind_means : {Self : Type 0} → (Self → ℕ → Bool) → (Self → ℕ → ℕ → Self) → Meaning Self
kind_means openness close = record { opens = kind_opens openness; count = one_region; after = kind_after openness close }

-- What is open after a write: what was, less what a permitted write closes in its region.
abbrev pub open_after : (ℕ → Bool) → (ℕ → ℕ → Bool) → ℕ → ℕ → ℕ → ℕ → ℕ → Bool
open_after closes opens region offset length r o =
    if permitted (opens region) offset length && (r == region && closes o) then false else opens r o

-- Where a write was permitted, it closed in its region what `closes` says of its offset and length, and nothing else anywhere.
abbrev pub Closes : {Self : Type 0} → Meaning Self → (ℕ → ℕ → ℕ → Bool) → Self → Self → ℕ → ℕ → ℕ → Type 0
Closes m closes old new region offset length =
    (r o : ℕ) → m.opens new r o ≡ open_after (closes offset length) (m.opens old) region offset length r o

-- What makes a kind, told by which offsets are open (`openness`), which of them a permitted write closes, by its
-- offset and length (`closes`), and what such a write makes of the kind (`close`).
pub record IsKind {Self : Type 0} (openness : Self → ℕ → Bool) (closes : ℕ → ℕ → ℕ → Bool) (close : Self → ℕ → ℕ → Self) : Type 0 where
  -- What lies past the 65,536 offsets is closed.
  pub ends : (kind : Self) (o : ℕ) → 65536 ≤ o → openness kind o ≡ false
  -- A permitted write leaves open what was, less what it closes.
  pub leaves : (kind : Self) (offset length o : ℕ) → permitted (openness kind) offset length ≡ true →
      openness (close kind offset length) o ≡ (if closes offset length o then false else openness kind o)

-- The offsets below an end.
abbrev pub below : ℕ → ℕ → Bool
below end offset = nat_lt offset end

-- The offsets from a mark up, as far as a region goes.
abbrev pub open_from : ℕ → ℕ → Bool
open_from mark offset = nat_le mark offset && nat_lt offset 65536

-- The offsets below 4,096 whose flag is set.
abbrev pub is_flagged : List Bool → ℕ → Bool
is_flagged flags offset = nat_lt offset 4096 && slice_index_or flags offset false

-- Flags of which those of a stretch are clear, one after the other.
abbrev pub flags_without : List Bool → ℕ → ℕ → List Bool
flags_without flags offset zero = flags
flags_without flags offset (suc length) = slice_set (flags_without flags offset length) (offset + length) false

-- Write-once: an offset is open while it is flagged as fresh,
abbrev pub write_once_openness : WriteOnce → ℕ → Bool
write_once_openness policy = is_flagged policy.fresh

-- and a write clears the flags of its span.
abbrev pub write_once_close : WriteOnce → ℕ → ℕ → WriteOnce
write_once_close policy offset length = record { fresh = flags_without policy.fresh offset length }

-- In all its regions this is open,
abbrev pub write_once_opens : WriteOnce → ℕ → ℕ → Bool
write_once_opens = kind_opens write_once_openness

-- and this it means.
abbrev pub write_once_means : Meaning WriteOnce
write_once_means = kind_means write_once_openness write_once_close

-- Append-only: the offsets from the mark up are open,
abbrev pub append_only_openness : AppendOnly → ℕ → Bool
append_only_openness policy = open_from policy.mark

-- a write moves the mark to its end,
abbrev pub append_only_close : AppendOnly → ℕ → ℕ → AppendOnly
append_only_close _ offset length = record { mark = offset + length }

-- and so closes what lies below that.
abbrev pub append_only_closes : ℕ → ℕ → ℕ → Bool
append_only_closes offset length = below (offset + length)

-- In all its regions this is open,
abbrev pub append_only_opens : AppendOnly → ℕ → ℕ → Bool
append_only_opens = kind_opens append_only_openness

-- and this it means.
abbrev pub append_only_means : Meaning AppendOnly
append_only_means = kind_means append_only_openness append_only_close

-- Free: all offsets are open,
abbrev pub free_openness : Free → ℕ → Bool
free_openness _ = open_from 0

-- a write changes nothing,
abbrev pub free_close : Free → ℕ → ℕ → Free
free_close policy _ _ = policy

-- and closes nothing.
abbrev pub free_closes : ℕ → ℕ → ℕ → Bool
free_closes _ _ _ = false

-- In all its regions this is open,
abbrev pub free_opens : Free → ℕ → ℕ → Bool
free_opens = kind_opens free_openness

-- and this it means.
abbrev pub free_means : Meaning Free
free_means = kind_means free_openness free_close
