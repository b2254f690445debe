-- What is known of new policies makes them out.
use Rattle.std.proofs.Common.{◌≡◌, ◌<◌, ℕ, Bool, true, false, ◌&&◌, List, length, replicate, nat_le, nat_lt, slice_index_or, ap, sym, ◌∙◌, arith}
use Rattle.std.proofs.lemmas.List.{ext_get_or, get_or-replicate, length-replicate}
use Rattle.policy.specs.Kinds.{alone, append_only_opens, below, write_once_opens}
use Rattle.policy.specs.declared.append_only.AppendOnly.{AppendOnly}
use Rattle.policy.specs.declared.write_once.WriteOnce.{WriteOnce}

-- a mark below which nothing is closed is 0
unmarked : (mark : ℕ) → (nat_le mark 0 && true) ≡ true → mark ≡ 0
unmarked mark e = grind arith

pub new_append_only : (p : AppendOnly) → ((region offset : ℕ) → append_only_opens p region offset ≡ alone (below 65536) region offset) → p ≡ record { mark = 0 }
new_append_only p opens = ap (λ (m : ℕ). record { mark = m }) (unmarked p.mark (opens 0 0))

-- a flag that is set within so many
flag : (flags : List Bool) (n i : ℕ) → (nat_lt i n && slice_index_or flags i false) ≡ nat_lt i n → i < n → slice_index_or flags i false ≡ true
flag flags n i e inside = grind arith

-- so many flags that are all set
all_set : (flags : List Bool) (n : ℕ) → length flags ≡ n → ((i : ℕ) → (nat_lt i n && slice_index_or flags i false) ≡ nat_lt i n) → flags ≡ replicate n true
all_set flags n long opens = ext_get_or false flags (replicate n true) (long ∙ sym (length-replicate n true)) (λ i inside. flag flags n i (opens i) (omega (arith, long)) ∙ sym (get_or-replicate n i true false (omega (arith, long))))

pub new_write_once : (p : WriteOnce) → length p.fresh ≡ 4096 → ((region offset : ℕ) → write_once_opens p region offset ≡ alone (below 4096) region offset) → p ≡ record { fresh = replicate 4096 true }
new_write_once p long opens = ap (λ (l : List Bool). record { fresh = l }) (all_set p.fresh 4096 long (opens 0))
