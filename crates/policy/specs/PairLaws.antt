-- That a pair of policies is a policy. Like the proofs for kinds, this one is a value that the trait takes.
use Rattle.std.specs.Prelude.{◌≡◌, ◌-◌, ◌≤◌}
use Rattle.std.proofs.Common.{arith}
use Rattle.policy.specs.Laws.{permitted_means}
use Rattle.policy.specs.Pairs.{pair_means, pair_opens}
use Rattle.policy.specs.Policies.{Lawful, Meaning}
use Rattle.std.proofs.lemmas.Bool.Decides.{nat_tests}

-- Where each of two policies keeps the laws, the pair does.
pub pair_laws : {A B : Type 0} {a : Meaning A} {b : Meaning B} → Lawful a → Lawful b → Lawful (pair_means a b)
pair_laws {a} {b} first second = record {
  few = λ pair. omega arith;
  past = λ pair region o from.
      let own = second.past pair.1 (region - a.count pair.0) o in
      grind (arith, nat_tests, first.few pair.0, first.past pair.0 region o, own);
  yes = λ pair region. permitted_means (pair_opens a b pair region);
  wide = λ pair region o from.
      let own = second.wide pair.1 (region - a.count pair.0) o from in
      grind (arith, nat_tests, first.wide pair.0 region o from, own);
  same = λ pair region offset length. grind (arith, nat_tests, first.same, second.same);
  refused = λ pair region offset length e. grind (arith, nat_tests, first.refused, second.refused);
  others = λ pair region offset length other o differs.
      let apart : a.count pair.0 ≤ other → a.count pair.0 ≤ region → other - a.count pair.0 ≡ region - a.count pair.0 → ⊥ = λ low high e. differs (omega arith) in
      let own = second.others pair.1 (region - a.count pair.0) offset length (other - a.count pair.0) o in
      grind (arith, nat_tests, first.same pair.0 region offset length, first.others pair.0 region offset length other o differs, own);
  closed = λ pair region offset length r o shut.
      let own = second.closed pair.1 (region - a.count pair.0) offset length (r - a.count pair.0) o in
      grind (arith, nat_tests, first.same pair.0 region offset length, first.closed pair.0 region offset length r o, own);
}
