-- Spans: stretches of the 65,536 offsets of a region.
--
--   is_span   whether an offset and a length make a span
--   span_of   the span that they make, or nothing
--   covers    whether a stretch of offsets has this one
use Rattle.std.specs.Prelude.{ℕ, ◌+◌, Bool, if◌then◌else◌, ◌&&◌, Some, None, Option, nat_le, nat_lt}

-- A span has one offset at least, and ends within the 65,536. The sum is one of whole numbers, which never wraps.
abbrev pub is_span : ℕ → ℕ → Bool
is_span offset length = nat_le 1 length && nat_le (offset + length) 65536

-- The span of an offset and a length, or nothing where they make none.
abbrev pub span_of : ℕ → ℕ → Option (ℕ × ℕ)
span_of offset length = if is_span offset length then Some (offset, length) else None

-- The offsets from `offset` on, `length` of them.
abbrev pub covers : ℕ → ℕ → ℕ → Bool
covers offset length o = nat_le offset o && nat_lt o (offset + length)
