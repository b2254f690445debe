-- The figures of a machine's frames: how many there are, and which of them are the log.
--
--   figure_number      the number of a no to the figures
--   figure_questions   what is asked of figures, in its order
--   figures_text       what is shown of a no: what happened, and what to do
use Rattle.std.specs.Prelude.{ℕ, ◌+◌, ◌&&◌, List, [], ◌∷◌, codes, nat_le}
use Rattle.frames.specs.Questions.{Question}
use Rattle.frames.specs.declared.figures.BadFigures.{BadFigures}
use Rattle.frames.specs.declared.figures.BadFigures.TheVariants.{Frames, LogCount, LogFrames}

-- The number of a no to the figures.
abbrev pub figure_number : BadFigures → ℕ
figure_number Frames = 2
figure_number LogCount = 3
figure_number LogFrames = 4

-- There are 8 to 256 frames; 1 to 16 of them are log frames; and all of these exist. The sum is one of whole numbers.
abbrev pub figure_questions : ℕ → ℕ → ℕ → List Question
figure_questions frames first count =
    (2, nat_le 8 frames && nat_le frames 256)
    ∷ (3, nat_le 1 count && nat_le count 16)
    ∷ (4, nat_le (first + count) frames)
    ∷ []

-- What is shown of figures that no machine can have.
abbrev pub figures_text : BadFigures → List ℕ
figures_text Frames = codes "there are fewer than 8 frames or more than 256: take a memory of 8 to 256 frames"
figures_text LogCount = codes "there is no log frame, or there are more than 16: name 1 to 16 log frames"
figures_text LogFrames = codes "not every log frame is a frame of the memory: let the log begin lower, or make it shorter"
