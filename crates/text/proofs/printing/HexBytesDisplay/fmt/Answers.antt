-- One more run is written behind the others, and the bytes that make no whole run behind all of them.
use Rattle.std.proofs.Common.{length, ◌/◌, rules, ap}
use Rattle.std.specs.Result.{is_ok}
use Rattle.text.proofs.Hexadecimals.{more_written, rest_written}
use Rattle.text.proofs.printing.HexBytesDisplay.fmt.Goals as goal

pub loop-run-preserved : goal.loop-run-preserved
loop-run-preserved g c plain =
    let before = c.loop-run.invariant plain in
    let bs = c.args.self.now.0.now in
    more_written _ _ _ _ bs _ (length bs / 32) c.loop-run.run-index (search rules) (search rules) before
    (c.write_pairs.ensures before.plain (ap is_ok c.in_ok-write_pairs.was))

pub returns-clause-writes : goal.returns-clause-writes
returns-clause-writes g c plain ok =
    let before = c.loop-run.invariant plain in
    let bs = c.args.self.now.0.now in
    rest_written _ _ _ _ bs _ (length bs / 32) c.loop-run.run-index (search rules) (search rules) c.as_chunks.ensures.back before
    (c.write_pairs-2.ensures before.plain ok)
