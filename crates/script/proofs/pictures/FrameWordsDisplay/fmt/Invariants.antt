use Rattle.std.proofs.Common.{get_or}
use Rattle.std.specs.Fmt.{HasWritten, IsPlainFormatter}
use Rattle.std.specs.List.{filter, range_with_len}
use Rattle.script.specs.Commands.{set_apart}
use Rattle.script.specs.Pictures.{nonzero, word_text}
use Rattle.script.proofs.pictures.FrameWordsDisplay.fmt.Given as goal

-- the words passed are written, where they are not zero
abbrev pub invariant-loop-index : goal.invariant-loop-index
invariant-loop-index g l = IsPlainFormatter l.initial.f → HasWritten g.W.Write.write_str_gives l.initial.f (set_apart (word_text l.word-items) (filter (λ i. nonzero (get_or l.word-items i 0)) (range_with_len 0 l.index-counter))) l.f
