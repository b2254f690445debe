use Rattle.std.proofs.Common.{take, ◌*◌}
use Rattle.std.specs.Fmt.{HasWritten, IsPlainFormatter}
use Rattle.std.specs.List.{flat_map}
use Rattle.text.specs.Texts.{two_digits}
use Rattle.text.proofs.printing.HexBytesDisplay.fmt.Given as goal

-- the digits of the runs passed are written
abbrev pub invariant-loop-run : goal.invariant-loop-run
invariant-loop-run g l = IsPlainFormatter l.initial.f
    → HasWritten g.W.Write.write_str_gives l.initial.f (flat_map two_digits (take (32 * l.run-index) l.self.0.now)) l.f
