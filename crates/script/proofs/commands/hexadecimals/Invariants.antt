use Rattle.std.proofs.Common.{◌≡◌, [], vec_items}
use Rattle.script.specs.Commands.{numbers_behind}
use Rattle.text.specs.Lines.{words_of}
use Rattle.script.proofs.commands.hexadecimals.Given as goal

-- the words left, read behind the numbers so far, give the numbers of all words
abbrev pub invariant-loop-word : goal.invariant-loop-word
invariant-loop-word l =
    (goal.iterator-loop-word).can_next l.word-iterator
    × (goal.iterator-loop-word).is_finite l.word-iterator
    × (numbers_behind (vec_items l.numbers) (words_of l.word-iterator) ≡ numbers_behind [] (words_of l.initial.word-iterator))
