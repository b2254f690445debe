-- A run that is fed byte by byte: what is left of it gives what all of it gives.
use Rattle.std.proofs.Common.{◌≡◌, ℕ, ◌+◌, ◌<◌, ◌≤◌, Bool, true, false, if◌then◌else◌, List, length, drop, get_or, sym, ap, ◌∙◌}
use Rattle.scanner.proofs.Means.{fed}
use Rattle.scanner.specs.Classes.{class_of}
use Rattle.scanner.specs.States.{Fed, step, feed_all}
use Rattle.scanner.specs.declared.scan.State.{State}
use Rattle.scanner.specs.declared.classes.ByteClass.{ByteClass}
use Rattle.std.proofs.lemmas.List.{drop_all, drop_more}

-- what an answer and a state, and then more bytes, come to
abbrev and_then : Bool × State → List ℕ → Bool × State
and_then p bs = if p.0 then feed_all p.1 bs else p

-- one byte of those that are left, and then the others
left_more : (t : State) (all : List ℕ) (i : ℕ) → i < length all → feed_all t (drop i all) ≡ and_then (step t (class_of (get_or all i 0))) (drop (i + 1) all)
unfolding feed_all
left_more t all i low = ap (feed_all t) (drop_more all i 0 low)

-- so it is with that byte's answer and the state after it
fed_on : (t u : State) (all : List ℕ) (i : ℕ) (r : Bool) (c : ByteClass) → (r, u) ≡ step t c → c ≡ class_of (get_or all i 0) → i < length all
    → and_then (r, u) (drop (i + 1) all) ≡ feed_all t (drop i all)
fed_on t u all i r c given is low = ap (λ p. and_then p (drop (i + 1) all)) (given ∙ ap (step t) is) ∙ sym (left_more t all i low)

-- A byte that completes nothing leaves the others,
pub one_more : (s t u : State) (all : List ℕ) (i : ℕ) (r : Bool) (c : ByteClass)
    → feed_all t (drop i all) ≡ feed_all s all → (r, u) ≡ step t c → c ≡ class_of (get_or all i 0) → i < length all → r ≡ true
    → feed_all u (drop (i + 1) all) ≡ feed_all s all
one_more s t u all i r c left given is low passed =
    ap (λ x. and_then (x, u) (drop (i + 1) all)) (sym passed) ∙ fed_on t u all i r c given is low ∙ left

-- one that completes a sequence is the last,
pub refusal : (s t u : State) (all : List ℕ) (i : ℕ) (r answer : Bool) (c : ByteClass)
    → feed_all t (drop i all) ≡ feed_all s all → (r, u) ≡ step t c → c ≡ class_of (get_or all i 0) → i < length all → r ≡ false → answer ≡ false
    → Fed s all answer u
refusal s t u all i r answer c left given is low failed told =
    fed s all answer u (ap (λ x. (x, u)) told ∙ ap (λ x. and_then (x, u) (drop (i + 1) all)) (sym failed) ∙ fed_on t u all i r c given is low ∙ left)

-- and where none is left, all passed.
pub whole : (s t : State) (all : List ℕ) (i : ℕ) → feed_all t (drop i all) ≡ feed_all s all → length all ≤ i → Fed s all true t
unfolding feed_all
whole s t all i left past = fed s all true t (sym (ap (feed_all t) (drop_all i all past)) ∙ left)
