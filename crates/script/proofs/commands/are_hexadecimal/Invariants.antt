use Rattle.std.proofs.Common.{◌≡◌}
use Rattle.std.specs.List.{list_all}
use Rattle.script.specs.Commands.{is_hexadecimal}
use Rattle.text.specs.Lines.{words_of}
use Rattle.script.proofs.commands.are_hexadecimal.Given as goal

-- the words left all write numbers exactly where all words do
abbrev pub invariant-loop-word : goal.invariant-loop-word
invariant-loop-word l =
    (goal.iterator-loop-word).can_next l.word-iterator
    × (goal.iterator-loop-word).is_finite l.word-iterator
    × (list_all is_hexadecimal (words_of l.word-iterator) ≡ list_all is_hexadecimal (words_of l.initial.word-iterator))
