-- The scanner's states mean what the rule says: one byte, and a run of bytes.
use Rattle.std.proofs.Common.{◌≡◌, ℕ, ◌<◌, map, get_or, Bool, true, false, if◌then◌else◌, ◌&&◌, List, [], ◌∷◌, ◌++◌, sym, refl, ap, ◌∙◌, arith, subst}
use Rattle.scanner.proofs.Cleans.{passing_decides}
use Rattle.scanner.specs.Classes.{class_of}
use Rattle.scanner.specs.Rule.{passing}
use Rattle.scanner.specs.States.{Stands, Fed, seen, step, feed_all}
use Rattle.scanner.specs.declared.classes.ByteClass.{ByteClass}
use Rattle.scanner.specs.declared.classes.ByteClass.TheVariants.{Other}
use Rattle.scanner.specs.declared.scan.State.{State}
use Rattle.scanner.specs.declared.scan.State.TheVariants.{Nothing, Lead, Group}
use Rattle.std.proofs.lemmas.List.{append-nil}
use Rattle.std.proofs.lemmas.List.FromFn.{get_or-map-range_with_len}
use Rattle.std.specs.List.{range_with_len}
use Rattle.std.proofs.lemmas.Bool.Decides.{nat_tests, Decides-at}

-- one byte
pub step_means : (b : ℕ) → Stands b (class_of b)
step_means b Nothing xs = grind (arith, nat_tests)
step_means b Lead xs = grind (arith, nat_tests)
step_means b Group xs = grind (arith, nat_tests)

-- after one byte that answered p, the rest
go_on :
    (p : Bool × State) (bs xs : List ℕ) →
    passing (seen p.1 ++ (bs ++ xs)) ≡ ((feed_all p.1 bs).0 && passing (seen (feed_all p.1 bs).1 ++ xs)) →
    (p.0 && passing (seen p.1 ++ (bs ++ xs))) ≡
    ((if p.0 then feed_all p.1 bs else p).0 && passing (seen (if p.0 then feed_all p.1 bs else p).1 ++ xs))
go_on (true, s) bs xs h = h
go_on (false, s) bs xs h = refl

-- a run of bytes, whatever follows
pub feed_all_means :
    (s : State) (bs xs : List ℕ) →
    passing (seen s ++ (bs ++ xs)) ≡ ((feed_all s bs).0 && passing (seen (feed_all s bs).1 ++ xs))
unfolding feed_all
feed_all_means s [] xs = refl
feed_all_means s (b ∷ bs) xs =
    step_means b s (bs ++ xs) ∙ go_on (step s (class_of b)) bs xs (feed_all_means (step s (class_of b)).1 bs xs)

-- an answer and a state that are those of a run of bytes
pub fed : (s : State) (bs : List ℕ) (r : Bool) (t : State) → (r, t) ≡ feed_all s bs → Fed s bs r t
fed s bs r t e =
    let m : (xs : List ℕ) → passing (seen s ++ (bs ++ xs)) ≡ (r && passing (seen t ++ xs)) =
    λ xs. feed_all_means s bs xs ∙ ap (λ (p : Bool × State). p.0 && passing (seen p.1 ++ xs)) (sym e) in
    let n : passing (seen s ++ bs) ≡ (r && passing (seen t)) = simp append-nil at (m []) in
    record {
      exact = e;
      means = m;
      ends = n;
      clean = Decides-at (r && passing (seen t)) (passing (seen s ++ bs)) (sym n) (passing_decides (seen s ++ bs));
    }

-- An entry of the table of classes is the class of its place,
pub entry_class : (table : List ByteClass) (i : ℕ) → table ≡ map class_of (range_with_len 0 256) → i < 256 → get_or table i Other ≡ class_of i
entry_class table i is low = ap (λ (t : List ByteClass). get_or t i Other) is ∙ get_or-map-range_with_len class_of 0 256 i i Other (omega arith) (omega arith)

-- and stands for the byte of that number.
pub entry_stands : (table : List ByteClass) (i : ℕ) → table ≡ map class_of (range_with_len 0 256) → i < 256 → Stands i (get_or table i Other)
entry_stands table i is low = subst (Stands i) (sym (entry_class table i is low)) (step_means i)
