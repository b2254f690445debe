-- A policy's answer to a span, offset by offset.
use Rattle.std.proofs.Common.{◌≡◌, ℕ, zero, suc, ◌+◌, ◌≤◌, Bool, true, false, leb, refl, ap, ◌∙◌, arith}
use Rattle.policy.specs.Kinds.{Closes, IsKind, append_only_closes, append_only_means, kind_after, kind_means, kind_opens, open_from, write_once_means}
use Rattle.policy.specs.Laws.{append_only_facts, permitted_alone, permitted_means, write_once_facts}
use Rattle.policy.specs.Policies.{permitted}
use Rattle.policy.specs.Spans.{covers, is_span}
use Rattle.policy.specs.declared.append_only.AppendOnly.{AppendOnly}
use Rattle.policy.specs.declared.write_once.WriteOnce.{WriteOnce}
use Rattle.std.proofs.Math.Bool.{and-false}
use Rattle.std.proofs.lemmas.Bool.Decides.{same_from_decides, nat_tests}

-- A span is open from a mark up where its first offset is.
pub first_open : (mark offset length : ℕ) → 1 ≤ length → offset + length ≤ 65536 → permitted (open_from mark) offset length ≡ leb mark offset
first_open mark offset length some inside =
    let valid : is_span offset length ≡ true = grind (arith, nat_tests) in
    same_from_decides (permitted (open_from mark) offset length) (leb mark offset) (permitted_means (open_from mark) offset length) (
      λ y. (valid, λ o low high. grind (arith, nat_tests)),
      λ all. let first = all.1 offset (omega arith) (omega arith) in grind (arith, nat_tests),
    )

-- Where nothing is open, nothing is permitted.
pub permitted_none : (offset length : ℕ) → permitted (λ _. false) offset length ≡ false
unfolding permitted
permitted_none offset zero = refl
permitted_none offset (suc n) = and-false (is_span offset (suc n))

-- What a write closes in a kind.
kind_closes : {Self : Type 0} {openness : Self → ℕ → Bool} {closes : ℕ → ℕ → ℕ → Bool} {close : Self → ℕ → ℕ → Self}
    → IsKind openness closes close → (old new : Self) (region offset length : ℕ) → new ≡ kind_after openness close old region offset length
    → Closes (kind_means openness close) closes old new region offset length
kind_closes {openness = openness} {close = close} kind old new region offset length is r o =
    ap (λ x. kind_opens openness x r o) is ∙ grind (arith, nat_tests, permitted_alone, kind.leaves)

pub append_only_told : (old new : AppendOnly) (region offset length : ℕ) → new ≡ append_only_means.after old region offset length
    → Closes append_only_means append_only_closes old new region offset length
append_only_told = kind_closes append_only_facts

pub write_once_told : (old new : WriteOnce) (region offset length : ℕ) → new ≡ write_once_means.after old region offset length
    → Closes write_once_means covers old new region offset length
write_once_told = kind_closes write_once_facts
