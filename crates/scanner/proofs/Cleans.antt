-- A run passes exactly where it is clean at every place.
use Rattle.std.proofs.Common.{◌≡◌, ℕ, zero, suc, true, not, ◌&&◌, ◌≢◌, List, [], ◌∷◌, length, get_or, Decides, refl, ap, arith}
use Rattle.scanner.specs.Rule.{passing, lead, after_lead, Clean, NoneLoads}
use Rattle.std.proofs.lemmas.Bool.{and_parts}
use Rattle.std.proofs.lemmas.Bool.Decides.{nat_tests}

-- what stands after a 0F at the place k of a run that passes
record Place (bs : List ℕ) (k : ℕ) : Type 0 where
  pub no_write : (get_or bs (suc k) 0 ≢ 34) × (get_or bs (suc k) 0 ≢ 48)
  pub no_load : get_or bs (suc k) 0 ≡ 1 → NoneLoads (get_or bs (suc (suc k)) 0)
  pub end : suc k ≢ length bs
  pub end01 : suc (suc k) ≡ length bs → get_or bs (suc k) 0 ≢ 1

place : (bs : List ℕ) (k : ℕ) → passing bs ≡ true → get_or bs k 0 ≡ 15 → Place bs k
place [] k p e = record { no_write = grind arith; no_load = grind arith; end = grind arith; end01 = grind arith }
place (b ∷ []) zero p e =
    record { no_write = grind (arith, nat_tests); no_load = grind (arith, nat_tests); end = grind (arith, nat_tests); end01 = grind (arith, nat_tests) }
place (b ∷ d ∷ []) zero p e =
    record { no_write = grind (arith, nat_tests); no_load = grind (arith, nat_tests); end = grind (arith, nat_tests); end01 = grind (arith, nat_tests) }
place (b ∷ d ∷ f ∷ bs) zero p e =
    record { no_write = grind (arith, nat_tests); no_load = grind (arith, nat_tests); end = grind (arith, nat_tests); end01 = grind (arith, nat_tests) }
place (b ∷ bs) (suc k) p e =
    let q = place bs k (and_parts (not (lead b && after_lead bs)) (passing bs) p).1 e in
    record { no_write = q.no_write; no_load = q.no_load; end = λ h. q.end (omega arith); end01 = λ h. q.end01 (omega arith) }

-- the same of every place after the first
tail : (b : ℕ) (bs : List ℕ) → Clean (b ∷ bs) → Clean bs
tail b bs c =
    record {
      no_write = λ k. c.no_write (suc k);
      no_load = λ k. c.no_load (suc k);
      end = λ k h. c.end (suc k) (ap suc h);
      end01 = λ k h. c.end01 (suc k) (ap suc h);
    }

-- nothing that may not follow stands after a 0F at the front
front : (b : ℕ) (bs : List ℕ) → Clean (b ∷ bs) → not (lead b && after_lead bs) ≡ true
front b [] c = let h = c.end 0 refl in grind (arith, nat_tests)
front b (d ∷ []) c = let w = c.no_write 0 in let h = c.end01 0 refl in grind (arith, nat_tests)
front b (d ∷ f ∷ bs) c = let w = c.no_write 0 in let l = c.no_load 0 in grind (arith, nat_tests)

from_clean : (bs : List ℕ) → Clean bs → passing bs ≡ true
from_clean [] c = refl
from_clean (b ∷ bs) c = let f = front b bs c in let t = from_clean bs (tail b bs c) in grind (arith, nat_tests)

pub passing_decides : (bs : List ℕ) → Decides (passing bs) (Clean bs)
passing_decides bs = (
  λ p. record {
    no_write = λ k e. (place bs k p e).no_write;
    no_load = λ k e. (place bs k p e).no_load;
    end = λ k h e. (place bs k p e).end h;
    end01 = λ k h e. (place bs k p e).end01 h;
  },
  from_clean bs,
)
