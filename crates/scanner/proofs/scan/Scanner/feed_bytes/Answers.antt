-- The return where a byte completes a sequence.
use Rattle.std.proofs.Common.{rules}
use Rattle.scanner.proofs.Runs.{refusal}
use Rattle.scanner.proofs.scan.Scanner.feed_bytes.Goals as goal

pub returns-in_err-feed : goal.returns-in_err-feed
returns-in_err-feed c =
    refusal _ _ _ _ _ _ _ _ c.loop-byte.invariant c.feed.ensures (search rules) c.loop-byte-test.true (search rules) (search rules)
