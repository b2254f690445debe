-- The bytes of a word are those of the list, in their order.
use Rattle.std.proofs.Common.{◌≡◌, ℕ, ◌*◌, ◌/◌, ◌%◌, ◌^◌, ◌<◌, ◌+◌, List, ap, ◌∙◌, arith, lit<, below_none, below_more}
use Rattle.memory.specs.ByteLaws.{length-words_of, word_shown}
use Rattle.memory.specs.ByteOrder.{byte_at, word_of, ByteOrder}

-- Byte j of the word that eight bytes make is the j-th of them.
pub byte_in : (list : List ℕ) (i j : ℕ) → ((m : ℕ) → m < 8 → byte_at list i m < 256) → j < 8 → word_of list i / 256 ^ j % 256 ≡ byte_at list i j
unfolding word_of
byte_in list i j small low =
    let b0 = small 0 (lit< tt) in
    let b1 = small 1 (lit< tt) in
    let b2 = small 2 (lit< tt) in
    let b3 = small 3 (lit< tt) in
    let b4 = small 4 (lit< tt) in
    let b5 = small 5 (lit< tt) in
    let b6 = small 6 (lit< tt) in
    let b7 = small 7 (lit< tt) in
    let P : ℕ → Type 0 = λ m. word_of list i / 256 ^ m % 256 ≡ byte_at list i m in
    below_more P 7 (below_more P 6 (below_more P 5 (below_more P 4 (below_more P 3 (below_more P 2 (below_more P 1 (below_more P 0
    (below_none P) (omega arith)) (omega arith)) (omega arith)) (omega arith)) (omega arith)) (omega arith)) (omega arith)) (omega arith) j low

pub byte_order : ByteOrder
byte_order list each i j inside low =
    let whole = length-words_of list in
    let small : (m : ℕ) → m < 8 → byte_at list i m < 256 = λ m h. each (8 * i + m) (omega arith) in
    ap (λ w. w / 256 ^ j % 256) (word_shown list i 0 (omega arith)) ∙ byte_in list i j small low
