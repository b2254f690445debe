-- The commands of a script, which line spells which, and how a command is printed.
--
--   Said, said      what a command says: the command with its bytes or words as a list
--   echo            a command as it is printed
--   command_of      the command that a text without comment spells
--   reading         what a whole line comes to
--   asks_for_list   whether a line is to be read as a command with a list
--
-- Made of: `kind_name`, `set_apart`, `kind_of`, `most`, `memory_of`, `word_of`, `machine_of`, `drain_of`, `scan_of`, `split_of`, `numbers_behind`, `is_hexadecimal`,
-- `some_numbers`, `journal_of`, `records_of`, `play_of`, `spelled`, `takes_list`.
use Rattle.std.specs.Prelude.{ℕ, Bool, is_some, cond, ◌||◌, List, [], ◌∷◌, ◌++◌, length, Some, None, vec_items, codes, decimal, Option, ◌==◌, nat_le}
use Rattle.std.specs.Option.{option_and_then, option_map}
use Rattle.std.specs.List.{flat_map}
use Rattle.std.specs.Str.{bytes_eq}
use Rattle.script.specs.declared.commands.Command.{Command}
use Rattle.script.specs.declared.commands.Command.TheVariants as command
use Rattle.script.specs.declared.commands.ListKind.{ListKind}
use Rattle.script.specs.declared.commands.ListKind.TheVariants.{Words, Bytes}
use Rattle.text.specs.Lines.{line_text, command_part, after_word, word_at, words_of}
use Rattle.text.specs.Numbers.{number_of, bytes_of}
use Rattle.text.specs.Texts.{hexadecimal, hex_bytes}
use Rattle.guard.specs.Calls.{Request, drain}
use Rattle.script.specs.Calls.{asked, asked_of, request_text}
use Rattle.script.specs.Operands.{decimal_at, ends_before, one_word, only, place_and_word, two_numbers}

-- a command as a value: its figures, and its bytes or words as a list
pub data Said : Type 0 where
  memory : ListKind → ℕ → Said
  word : ℕ → ℕ → ℕ → Said
  machine : ℕ → ℕ → Said
  call : Request → Said
  scan : List ℕ → Said
  split : ℕ → Said
  journal : List ℕ → Said
  records : Said
  play_log : Said
  play : ℕ → ℕ → Said

-- what a command of the program says
abbrev pub said : Command → Said
said (command.Memory kind size) = memory kind size
said (command.Word frame index value) = word frame index value
said (command.Machine first count) = machine first count
said (command.Call c) = call (asked c)
said (command.Drain room) = call (drain room)
said (command.Scan bytes) = scan (vec_items bytes)
said (command.Split address) = split address
said (command.Journal words) = journal (vec_items words)
said command.Records = records
said command.PlayLog = play_log
said (command.Play first count) = play first count

-- the name of a kind of list, as it is read and printed
abbrev pub kind_name : ListKind → List ℕ
kind_name Words = codes "words"
kind_name Bytes = codes "bytes"

-- what is shown of each item, each behind a blank
abbrev pub set_apart : {A : Type 0} → (A → List ℕ) → List A → List ℕ
set_apart show items = flat_map (λ a. codes " " ++ show a) items

-- the words of the line, in one form
abbrev pub echo : Said → List ℕ
echo (memory kind size) = codes "memory " ++ (kind_name kind ++ (codes " " ++ decimal size))
echo (word frame index value) = codes "word " ++ (decimal frame ++ (codes " " ++ (decimal index ++ (codes " " ++ hexadecimal value))))
echo (machine first count) = codes "machine " ++ (decimal first ++ (codes " " ++ decimal count))
echo (call request) = request_text request
echo (scan bytes) = codes "scan " ++ hex_bytes bytes
echo (split address) = codes "split " ++ hexadecimal address
echo (journal words) = codes "journal" ++ set_apart hexadecimal words
echo records = codes "records"
echo play_log = codes "play"
echo (play first count) = codes "play " ++ (decimal first ++ (codes " " ++ decimal count))

-- what the list is made of, by its name
abbrev pub kind_of : List ℕ → Option ListKind
kind_of w = cond (bytes_eq w (codes "words")) (Some Words) (cond (bytes_eq w (codes "bytes")) (Some Bytes) None)

-- the longest list that can be supplied
abbrev pub most : ListKind → ℕ
most Words = 1048576
most Bytes = 8388608

-- memory words N, memory bytes N: what stands behind the first word
unfoldable pub memory_of : List ℕ → Option Said
memory_of t = option_and_then (λ k. option_and_then (λ n. cond (nat_le n (most k)) (only t 2 (memory k n)) None) (decimal_at t 1)) (kind_of (word_at t 0))

-- word FRAME INDEX WORD
abbrev pub word_of : List ℕ → Option Said
word_of t = option_map (λ p. word p.0 p.1 p.2) (place_and_word t)

-- machine FIRST COUNT
abbrev pub machine_of : List ℕ → Option Said
machine_of t = option_map (λ p. machine p.0 p.1) (two_numbers t)

-- drain LENGTH, which is that of the list that is supplied for the words
unfoldable pub drain_of : List ℕ → Option Said
drain_of t = option_and_then (λ n. cond (nat_le n (most Words)) (only t 1 (call (drain n))) None) (decimal_at t 0)

-- scan BYTES
unfoldable pub scan_of : List ℕ → Option Said
scan_of t = option_and_then (λ bs. only t 1 (scan bs)) (bytes_of (word_at t 0))

-- split ADDRESS
abbrev pub split_of : List ℕ → Option Said
split_of t = option_map split (one_word t)

-- the numbers that words write in hexadecimal, behind others; none where one of them writes no number
unfoldable pub numbers_behind : List ℕ → List (List ℕ) → Option (List ℕ)
numbers_behind ns [] = Some ns
numbers_behind ns (w ∷ ws) = option_and_then (λ n. numbers_behind (ns ++ n ∷ []) ws) (number_of 16 w)

-- a word writes a number in hexadecimal
abbrev pub is_hexadecimal : List ℕ → Bool
is_hexadecimal w = is_some (number_of 16 w)

-- one number or more
abbrev pub some_numbers : List ℕ → Option Said
some_numbers ns = cond (length ns == 0) None (Some (journal ns))

-- journal WORD WORD ..
unfoldable pub journal_of : List ℕ → Option Said
journal_of t = option_and_then some_numbers (numbers_behind [] (words_of t))

-- records
unfoldable pub records_of : List ℕ → Option Said
records_of t = only t 0 records

-- play FIRST COUNT, or play alone
unfoldable pub play_of : List ℕ → Option Said
play_of t = cond (ends_before t 0) (Some play_log) (option_and_then (λ f. option_and_then (λ c. only t 2 (play f c)) (decimal_at t 1)) (decimal_at t 0))

-- the commands by their names, with what stands behind the name
abbrev pub spelled : List ℕ → List ℕ → Option Said
spelled name t =
    cond (bytes_eq name (codes "memory")) (memory_of t)
    (cond (bytes_eq name (codes "word")) (word_of t)
    (cond (bytes_eq name (codes "machine")) (machine_of t)
    (cond (bytes_eq name (codes "drain")) (drain_of t)
    (cond (bytes_eq name (codes "scan")) (scan_of t)
    (cond (bytes_eq name (codes "split")) (split_of t)
    (cond (bytes_eq name (codes "journal")) (journal_of t)
    (cond (bytes_eq name (codes "records")) (records_of t)
    (cond (bytes_eq name (codes "play")) (play_of t)
    (option_map call (asked_of name t))))))))))

-- a text is a command by its first word and those behind it
abbrev pub command_of : List ℕ → Option Said
command_of t = spelled (word_at t 0) (after_word t)

-- nothing to do on a line with no word before its comment, else its command; none where the line cannot be read
abbrev pub reading : List ℕ → Option (Option Said)
reading l = cond (ends_before (command_part (line_text l)) 0) (Some None) (option_map Some (command_of (command_part (line_text l))))

-- whether a command of that name takes a list, and so memory when it is read
abbrev pub takes_list : List ℕ → Bool
takes_list name = bytes_eq name (codes "scan") || (bytes_eq name (codes "journal") || bytes_eq name (codes "write"))

-- whether a line is to be read as such a command
abbrev pub asks_for_list : List ℕ → Bool
asks_for_list l = takes_list (word_at (command_part (line_text l)) 0)
