-- What is left of the bytes gives what all of them give.
use Rattle.std.proofs.Common.{◌≡◌, drop}
use Rattle.scanner.proofs.scan.Scanner.feed_bytes.Given as goal
use Rattle.scanner.specs.States.{feed_all}

abbrev pub invariant-loop-byte : goal.invariant-loop-byte
invariant-loop-byte l = feed_all l.self (drop l.byte-index l.bytes) ≡ feed_all l.initial.self l.bytes
