use Rattle.std.proofs.Common.{◌≡◌, ◌*◌, drop}
use Rattle.std.specs.Fmt.{HasWritten, IsPlainFormatter}
use Rattle.script.proofs.Places.{below_n}
use Rattle.script.specs.Pictures.{frame_line, is_listed}
use Rattle.script.proofs.pictures.FramesDisplay.fmt.Given as goal

-- the lines of the frames passed are written, and the words of the others are left
abbrev pub invariant-loop-frame : goal.invariant-loop-frame
invariant-loop-frame g l = record {
  left : l.rest ≡ drop (512 * l.frame-counter) l.initial.rest;
  text : IsPlainFormatter l.initial.f → HasWritten g.W.Write.write_str_gives l.initial.f (below_n (frame_line l.initial.rest) (is_listed l.initial.rest l.kinds) l.frame-counter) l.f;
}
