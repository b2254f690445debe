-- What a frame table knows, and what a memory with its frame table is.
--
--   kinds_of       the kind of each record
--   Frames         the words, the kinds, and what stands beside the words
--   over_words, over_kinds   the same with other words, or with other kinds
use Rattle.std.specs.Prelude.{ℕ, List, map}
use Rattle.memory.specs.Memories.{Beside}
use Rattle.frames.specs.declared.kinds.FrameKind.{FrameKind}
use Rattle.guard.specs.declared.table.FrameTable.{FrameTable}

-- The kind in each record.
abbrev pub kinds_of : FrameTable → List FrameKind
kinds_of t = map (λ r. r.kind) t.records

-- The words of a memory, the kind of each of its frames, and what stands beside its words.
pub record Frames : Type 0 where
  pub words : List ℕ
  pub kinds : List FrameKind
  pub beside : Beside

-- The same with other words, or with other kinds.
abbrev pub over_words : Frames → List ℕ → Frames
over_words f ws = record f { words = ws }

abbrev pub over_kinds : Frames → List FrameKind → Frames
over_kinds f ks = record f { kinds = ks }
