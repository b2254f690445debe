-- The marked figures hold.
use Rattle.std.proofs.Common.{◌≡◌, ℕ, zero, suc, ◌+◌, Bool, true, false, ◌&&◌, if◌then◌else◌, [], ◌∷◌, Some, None, is_some, refl, ap, sym, ◌∙◌}
use Rattle.std.proofs.lemmas.Bool.{false≢true}
use Rattle.memory.specs.ByteOrder.{word_of}
use Rattle.journal.specs.Bytes.{bytes_in, packed}
use Rattle.policy.specs.Kinds.{append_only_close, append_only_opens, below, write_once_opens}
use Rattle.policy.specs.Policies.{all_open, permitted}
use Rattle.policy.specs.Spans.{is_span, span_of}
use Rattle.policy.specs.declared.append_only.AppendOnly.{AppendOnly}
use Rattle.policy.specs.declared.write_once.WriteOnce.{WriteOnce}
use Rattle.conformance.specs.Figures.{Figures, NewAppendOnly, NewWriteOnce, after_write}

-- Policies that have the same offsets open permit the same.
permitted_alike : (opens others : ℕ → Bool) (offset length : ℕ) → ((o : ℕ) → opens o ≡ others o) → permitted opens offset length ≡ permitted others offset length
unfolding permitted
permitted_alike opens others offset length same = ap (λ b. is_span offset length && b) (all_alike length)
  where
    all_alike : (n : ℕ) → all_open opens offset n ≡ all_open others offset n
    all_alike zero = refl
    all_alike (suc n) = ap (λ b. b && all_open opens offset n) (same (offset + n)) ∙ ap (λ b. others (offset + n) && b) (all_alike n)

-- What a new write-once policy permits.
once : (policy : WriteOnce) (offset length : ℕ) → NewWriteOnce policy → permitted (write_once_opens policy 0) offset length ≡ permitted (below 4096) offset length
once policy offset length new = permitted_alike (write_once_opens policy 0) (below 4096) offset length (new 0)

-- What an append-only policy is that was told of a write, where it permitted that.
moved : (policy : AppendOnly) (offset length : ℕ) → NewAppendOnly policy → permitted (below 65536) offset length ≡ true → after_write policy offset length ≡ append_only_close policy offset length
moved policy offset length new is = ap (λ b. if b then append_only_close policy offset length else policy) (permitted_alike (append_only_opens policy 0) (below 65536) offset length (new 0) ∙ is)

-- What is none where a test fails.
failed : {A : Type 0} (test : Bool) (x : A) → (if test then Some x else None) ≡ None → test ≡ false
failed true x e = absurd (false≢true (sym (ap is_some e)))
failed false x e = refl

-- Where an offset and a length make no span, a policy is as it was.
pub not_told : (policy : AppendOnly) (offset length : ℕ) → span_of offset length ≡ None → policy ≡ after_write policy offset length
unfolding permitted
not_told policy offset length none = sym (ap (λ b. if b && all_open (append_only_opens policy 0) offset length then append_only_close policy offset length else policy) (failed (is_span offset length) _ none))

pub once_last : (policy : WriteOnce) → NewWriteOnce policy → permitted (write_once_opens policy 0) 4095 1 ≡ true
unfolding permitted
once_last policy new = once policy 4095 1 new

pub once_past : (policy : WriteOnce) → NewWriteOnce policy → permitted (write_once_opens policy 0) 4095 2 ≡ false
unfolding permitted
once_past policy new = once policy 4095 2 new

pub appended_below : (policy : AppendOnly) → NewAppendOnly policy → permitted (append_only_opens (after_write policy 0 16) 0) 15 1 ≡ false
unfolding permitted
appended_below policy new = ap (λ p. permitted (append_only_opens p 0) 15 1) (moved policy 0 16 new refl)

pub appended_next : (policy : AppendOnly) → NewAppendOnly policy → permitted (append_only_opens (after_write policy 0 16) 0) 16 1 ≡ true
unfolding permitted
appended_next policy new = ap (λ p. permitted (append_only_opens p 0) 16 1) (moved policy 0 16 new refl)

-- The data of the written record: 61 62 63 in one word.
pub three_bytes : bytes_in (0x636261 ∷ []) 3 ≡ 0x61 ∷ 0x62 ∷ 0x63 ∷ []
unfolding bytes_in
three_bytes = refl

pub one_word : packed (0x61 ∷ 0x62 ∷ 0x63 ∷ []) ≡ 0x636261 ∷ []
unfolding packed word_of
one_word = refl

pub figures : Figures
unfolding packed word_of
figures = record {
  parts = refl;
  refusals = λ words root. refl;
  passes = refl;
  once = λ policy new. ap (λ b. b ∷ permitted (write_once_opens policy 0) 4095 2 ∷ []) (once_last policy new) ∙ ap (λ b. true ∷ b ∷ []) (once_past policy new);
  appended = λ policy new. ap (λ b. b ∷ permitted (append_only_opens (after_write policy 0 16) 0) 16 1 ∷ []) (appended_below policy new) ∙ ap (λ b. false ∷ b ∷ []) (appended_next policy new);
  taken = refl;
  frames = refl;
  written = refl;
}
