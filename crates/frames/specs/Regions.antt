-- Regions: runs of frames that are protected together.
--
--   frames_needed            how many frames so many bytes need
--   never_taken, is_live     what a region can be asked to be
--   ends_inside              whether a write ends inside a live region
use Rattle.std.specs.Prelude.{ℕ, ◌+◌, ◌/◌, Bool, true, false, Some, Option, nat_le}
use Rattle.frames.specs.declared.regions.RegionState.{RegionState}
use Rattle.frames.specs.declared.regions.RegionState.TheVariants as region

-- How many frames so many bytes need.
abbrev pub frames_needed : ℕ → ℕ
frames_needed n = (n + 4095) / 4096

-- What a region can be asked to be; one that there is not is none of these.
abbrev pub never_taken : Option RegionState → Bool
never_taken (Some region.Untaken) = true
never_taken other = false

abbrev pub is_live : Option RegionState → Bool
is_live (Some (region.Live first_frame n)) = true
is_live other = false

-- A write of n bytes at an offset ends inside a live region. The sum is one of whole numbers.
abbrev pub ends_inside : Option RegionState → ℕ → ℕ → Bool
ends_inside (Some (region.Live first_frame size)) offset n = nat_le (offset + n) size
ends_inside other offset n = false
