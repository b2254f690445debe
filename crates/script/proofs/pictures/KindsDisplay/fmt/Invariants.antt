use Rattle.std.proofs.Common.{take}
use Rattle.std.specs.Fmt.{HasWritten, IsPlainFormatter}
use Rattle.script.specs.Pictures.{kinds_text}
use Rattle.script.proofs.pictures.KindsDisplay.fmt.Given as goal

-- the kinds passed are written
abbrev pub invariant-loop-kind : goal.invariant-loop-kind
invariant-loop-kind g l = IsPlainFormatter l.initial.f → HasWritten g.W.Write.write_str_gives l.initial.f (kinds_text (take l.kind-index l.kind-items)) l.f
