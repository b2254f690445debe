-- Where the walk leads in a machine that is sound.
use Rattle.std.proofs.Common.{◌≡◌, ℕ, ◌<◌, Bool, true, ◌&&◌, List, slice_get, Option, Some, refl, sym, ap, ◌∙◌, arith}
use Rattle.frames.specs.declared.kinds.FrameKind.TheVariants as kind
use Rattle.frames.specs.declared.kinds.Level.{Level}
use Rattle.frames.specs.declared.kinds.Level.TheVariants.{One, Two, Three, Four}
use Rattle.journal.specs.Pictures.{Picture}
use Rattle.paging.specs.Addresses.{index_at}
use Rattle.paging.specs.Entries.{entry_at, present}
use Rattle.paging.specs.Walks.{Leads, Translates, all_executable, all_present, all_writable, permits, entry_on, on_all, page_of, table_at}
use Rattle.paging.specs.declared.faults.Access.{Access}
use Rattle.paging.specs.declared.faults.Access.TheVariants.{Store, Fetch}
use Rattle.guard.proofs.Scanning.{not_not}
use Rattle.guarantee.proofs.Frames.{first_of, second_of}
use Rattle.guarantee.proofs.Sounds.{Names, Sound, below}

-- An index is below 512.
index_low : (level : Level) (address : ℕ) → index_at level address < 512
index_low Four address = omega arith
index_low Three address = omega arith
index_low Two address = omega arith
index_low One address = omega arith

-- What a table of a level leads to.
names : (p : Picture) (root : Option ℕ) (first_log logs address : ℕ) (access : Access) (level : Level) (table frame : ℕ) → Sound p root first_log logs → slice_get p.kinds table ≡ Some (kind.Table level) → Leads p.words address access level table frame → Names p.kinds level (entry_at p.words table (index_at level address))
names p root first_log logs address access level table frame sound is leads = sound.entries table (index_at level address) level is (index_low level address) leads.is_present

leads_down : (p : Picture) (root : Option ℕ) (first_log logs address : ℕ) (access : Access) (level lower : Level) (table frame : ℕ) → Sound p root first_log logs → below level ≡ Some lower → slice_get p.kinds table ≡ Some (kind.Table level) → Leads p.words address access level table frame → slice_get p.kinds frame ≡ Some (kind.Table lower)
leads_down p root first_log logs address access level lower table frame sound down is leads =
    ap (slice_get p.kinds) (sym leads.names) ∙ (names p root first_log logs address access level table frame sound is leads).table lower down

-- Tables that translate an address come to a table of level 1.
last_table : (p : Picture) (r first_log logs address frame : ℕ) (access : Access) → Sound p (Some r) first_log logs → (walk : Translates p.words r address frame access) → slice_get p.kinds walk.first ≡ Some (kind.Table One)
last_table p r first_log logs address frame access sound walk =
    leads_down p _ first_log logs address access Two One walk.second walk.first sound refl
    (leads_down p _ first_log logs address access Three Two walk.third walk.second sound refl
    (leads_down p _ first_log logs address access Four Three r walk.third sound refl (sound.top r refl) walk.from_root)
    walk.from_third)
    walk.from_second

-- So a store reaches a plain frame, and a fetch a code frame.
pub store_plain : (p : Picture) (r first_log logs address frame : ℕ) → Sound p (Some r) first_log logs → Translates p.words r address frame Store → slice_get p.kinds frame ≡ Some kind.Plain
store_plain p r first_log logs address frame sound walk =
    ap (slice_get p.kinds) (sym walk.from_first.names) ∙ (names p _ first_log logs address Store One walk.first frame sound (last_table p r first_log logs address frame Store sound walk) walk.from_first).plain refl walk.from_first.is_permitted

pub fetch_code : (p : Picture) (r first_log logs address frame : ℕ) → Sound p (Some r) first_log logs → Translates p.words r address frame Fetch → slice_get p.kinds frame ≡ Some kind.Code
fetch_code p r first_log logs address frame sound walk =
    ap (slice_get p.kinds) (sym walk.from_first.names) ∙ (names p _ first_log logs address Fetch One walk.first frame sound (last_table p r first_log logs address frame Fetch sound walk) walk.from_first).code refl (not_not _ walk.from_first.is_permitted)

-- What passes at all levels passes at each.
at_level : (test : Level → Bool) → on_all test ≡ true → (level : Level) → test level ≡ true
at_level test e Four = first_of (test Four) (test Three && (test Two && test One)) e
at_level test e Three = first_of (test Three) (test Two && test One) (second_of (test Four) _ e)
at_level test e Two = first_of (test Two) (test One) (second_of (test Three) (test Two && test One) (second_of (test Four) _ e))
at_level test e One = second_of (test Two) (test One) (second_of (test Three) (test Two && test One) (second_of (test Four) _ e))

-- Four entries that are present and permit an access translate an address for it.
translates : (words : List ℕ) (r address : ℕ) (access : Access) → all_present words r address ≡ true → on_all (λ level. permits access (entry_on words r address level)) ≡ true → Translates words r address (page_of words r address) access
translates words r address access here may = record {
  third = table_at words r address Three;
  second = table_at words r address Two;
  first = table_at words r address One;
  from_root = record { is_present = at_level presents here Four; is_permitted = at_level permit may Four; names = refl };
  from_third = record { is_present = at_level presents here Three; is_permitted = at_level permit may Three; names = refl };
  from_second = record { is_present = at_level presents here Two; is_permitted = at_level permit may Two; names = refl };
  from_first = record { is_present = at_level presents here One; is_permitted = at_level permit may One; names = refl };
}
  where
    presents : Level → Bool
    presents = λ level. present (entry_on words r address level)

    permit : Level → Bool
    permit = λ level. permits access (entry_on words r address level)

pub writable_translates : (words : List ℕ) (r address : ℕ) → all_present words r address ≡ true → all_writable words r address ≡ true → Translates words r address (page_of words r address) Store
writable_translates words r address here write = translates words r address Store here write

pub executable_translates : (words : List ℕ) (r address : ℕ) → all_present words r address ≡ true → all_executable words r address ≡ true → Translates words r address (page_of words r address) Fetch
executable_translates words r address here execute = translates words r address Fetch here execute
