use Rattle.std.proofs.Common.{take}
use Rattle.std.specs.Fmt.{HasWritten, IsPlainFormatter}
use Rattle.script.specs.Commands.{set_apart}
use Rattle.text.specs.Texts.{hexadecimal}
use Rattle.script.proofs.commands.HexWordsDisplay.fmt.Given as goal

-- the words passed are written
abbrev pub invariant-loop-word : goal.invariant-loop-word
invariant-loop-word g l = IsPlainFormatter l.initial.f → HasWritten g.W.Write.write_str_gives l.initial.f (set_apart hexadecimal (take l.word-index l.word-items)) l.f
