-- Fewer words than a frame has are all its words, and leave none for the others.
use Rattle.std.proofs.Common.{◌≤◌, length, sym, arith}
use Rattle.std.proofs.lemmas.List.{take_all, drop_all}
use Rattle.script.proofs.pictures.split_frame.Goals as goal

pub returns-then-words-lt-FRAME-clause-here : goal.returns-then-words-lt-FRAME-clause-here
returns-then-words-lt-FRAME-clause-here c = let few : length c.args.words.now ≤ 512 = omega arith in sym (take_all 512 c.args.words.now few)

pub returns-then-words-lt-FRAME-clause-behind : goal.returns-then-words-lt-FRAME-clause-behind
returns-then-words-lt-FRAME-clause-behind c = let few : length c.args.words.now ≤ 512 = omega arith in sym (drop_all 512 c.args.words.now few)
