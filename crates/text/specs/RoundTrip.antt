-- What is printed is read back as what it was.
--
--   ReadsBack       of every number below 2 ^ 64, in both notations, and of all bytes
use Rattle.std.specs.Prelude.{◌≡◌, ℕ, ◌^◌, ◌<◌, List, Some, decimal}
use Rattle.std.specs.List.{AllByRecursion}
use Rattle.text.specs.Numbers.{number_of, bytes_of}
use Rattle.text.specs.Texts.{hexadecimal, hex_bytes}

-- printing and then reading gives the number, or the bytes, again
pub record ReadsBack : Type 0 where
  pub decimals : (n : ℕ) → n < 2 ^ 64 → number_of 10 (decimal n) ≡ Some n
  pub hexadecimals : (n : ℕ) → n < 2 ^ 64 → number_of 16 (hexadecimal n) ≡ Some n
  pub bytes : (bs : List ℕ) → AllByRecursion (λ b. b < 256) bs → bytes_of (hex_bytes bs) ≡ Some bs
