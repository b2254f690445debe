-- The calls that a script can ask for, which line spells which, and how a call is printed. A drain is a command of its own.
--
--   asked           the request that a line asks for
--   asked_of        the request that a name and the words behind it spell
--   request_text    a request as it is printed
--
-- Made of: `register_of`, `register_name`, `access_of`, `short_call_of`, `write_of`.
use Rattle.std.specs.Prelude.{ℕ, cond, List, ◌++◌, Some, None, vec_items, codes, decimal, Option}
use Rattle.std.specs.Option.{option_and_then, option_map}
use Rattle.std.specs.Str.{bytes_eq}
use Rattle.guard.specs.Calls.{Request, declare, set, retire, take, write, release, accept, unaccept, load_register, load_root, load, store, fetch, drain, request_of}
use Rattle.guard.specs.declared.registers.Register.{Register}
use Rattle.guard.specs.declared.registers.Register.TheVariants.{Cr0, Cr4, Efer}
use Rattle.text.specs.Lines.{word_at}
use Rattle.text.specs.Numbers.{bytes_of}
use Rattle.text.specs.Texts.{hexadecimal, hex_bytes}
use Rattle.script.specs.declared.calls.Asked.{Asked}
use Rattle.script.specs.declared.calls.Asked.TheVariants.{Write, Other}
use Rattle.script.specs.Operands.{decimal_at, one_number, one_word, only, place_and_word, three_numbers, two_numbers, two_words}

-- the request that a line asks for
abbrev pub asked : Asked → Request
asked (Write region offset bytes) = write region offset (vec_items bytes)
asked (Other call) = request_of call

-- the registers by their names, but CR3
abbrev pub register_of : List ℕ → Option Register
register_of name =
    cond (bytes_eq name (codes "cr0")) (Some Cr0)
    (cond (bytes_eq name (codes "cr4")) (Some Cr4)
    (cond (bytes_eq name (codes "efer")) (Some Efer) None))

-- and the name of each
abbrev pub register_name : Register → List ℕ
register_name Cr0 = codes "cr0"
register_name Cr4 = codes "cr4"
register_name Efer = codes "efer"

-- the loads of registers and the accesses, by their names and what stands behind these
unfoldable pub access_of : List ℕ → List ℕ → Option Request
access_of name t =
    cond (bytes_eq name (codes "cr3")) (option_map load_root (one_word t))
    (cond (bytes_eq name (codes "load")) (option_map load (one_word t))
    (cond (bytes_eq name (codes "store")) (option_map (λ p. store p.0 p.1) (two_words t))
    (cond (bytes_eq name (codes "fetch")) (option_map fetch (one_word t))
    (option_and_then (λ r. option_map (load_register r) (one_word t)) (register_of name)))))

-- these, and the calls of the guard but `write`
unfoldable pub short_call_of : List ℕ → List ℕ → Option Request
short_call_of name t =
    cond (bytes_eq name (codes "declare")) (option_map (λ p. declare p.0 p.1) (two_numbers t))
    (cond (bytes_eq name (codes "set")) (option_map (λ p. set p.0 p.1 p.2) (place_and_word t))
    (cond (bytes_eq name (codes "retire")) (option_map retire (one_number t))
    (cond (bytes_eq name (codes "take")) (option_map (λ p. take p.0 p.1 p.2) (three_numbers t))
    (cond (bytes_eq name (codes "release")) (option_map release (one_number t))
    (cond (bytes_eq name (codes "accept")) (option_map accept (one_number t))
    (cond (bytes_eq name (codes "unaccept")) (option_map unaccept (one_number t)) (access_of name t)))))))

-- write REGION OFFSET BYTES
unfoldable pub write_of : List ℕ → Option Request
write_of t = option_and_then (λ r. option_and_then (λ o. option_and_then (λ bs. only t 3 (write r o bs)) (bytes_of (word_at t 2))) (decimal_at t 1)) (decimal_at t 0)

-- all calls but a drain
abbrev pub asked_of : List ℕ → List ℕ → Option Request
asked_of name t = cond (bytes_eq name (codes "write")) (write_of t) (short_call_of name t)

-- a request as it is printed
abbrev pub request_text : Request → List ℕ
request_text (declare frame level) = codes "declare " ++ (decimal frame ++ (codes " " ++ decimal level))
request_text (set table index entry) = codes "set " ++ (decimal table ++ (codes " " ++ (decimal index ++ (codes " " ++ hexadecimal entry))))
request_text (retire frame) = codes "retire " ++ decimal frame
request_text (take region first n) = codes "take " ++ (decimal region ++ (codes " " ++ (decimal first ++ (codes " " ++ decimal n))))
request_text (write region offset bytes) = codes "write " ++ (decimal region ++ (codes " " ++ (decimal offset ++ (codes " " ++ hex_bytes bytes))))
request_text (release region) = codes "release " ++ decimal region
request_text (accept frame) = codes "accept " ++ decimal frame
request_text (unaccept frame) = codes "unaccept " ++ decimal frame
request_text (load_register register value) = register_name register ++ (codes " " ++ hexadecimal value)
request_text (load_root value) = codes "cr3 " ++ hexadecimal value
request_text (load address) = codes "load " ++ hexadecimal address
request_text (store address value) = codes "store " ++ (hexadecimal address ++ (codes " " ++ hexadecimal value))
request_text (fetch address) = codes "fetch " ++ hexadecimal address
request_text (drain room) = codes "drain " ++ decimal room
