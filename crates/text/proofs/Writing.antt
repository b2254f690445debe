-- What is written to a list stands behind what it held.
use Rattle.std.proofs.Common.{◌≡◌, ℕ, List, ◌++◌, Option, Some, None, IfSome}
use Rattle.std.specs.Fmt.{WritesText}
use Rattle.std.proofs.lemmas.Fmt.{contents_after_writes}
use Rattle.text.specs.declared.printing.Tail.{Tail}

pub shown_behind : (old new : Tail) (o : Option (List ℕ))
    → WritesText (λ (a : Tail) text (b : Tail). b.list.items ≡ a.list.items ++ text) old o new
    → IfSome o (λ text. new.list.items ≡ old.list.items ++ text)
shown_behind old new None wrote = tt
shown_behind old new (Some text) wrote = contents_after_writes _ (λ (t : Tail). t.list.items) (λ _ _ _ same. same) old text new wrote
