-- The class that the rule gives each byte.
--
--   class_of    the class of a byte
--   number_of   the number of a class
use Rattle.std.specs.Prelude.{ℕ, if◌then◌else◌}
use Rattle.scanner.specs.Rule.{lead, group, writes, loads}
use Rattle.scanner.specs.declared.classes.ByteClass.{ByteClass}
use Rattle.scanner.specs.declared.classes.ByteClass.TheVariants.{Other, Lead, Writes, Group, Loads}

-- 0F, a byte that writes after it, 01, a byte that loads after 0F 01, or any other
abbrev pub class_of : ℕ → ByteClass
class_of b =
    if lead b then Lead
    else (if writes b then Writes else (if group b then Group else (if loads b then Loads else Other)))

-- 1 for 0F, 2 for a byte that writes after it, 3 for 01, 4 for a byte that loads after 0F 01, else 0
abbrev pub number_of : ByteClass → ℕ
number_of Other = 0
number_of Lead = 1
number_of Writes = 2
number_of Group = 3
number_of Loads = 4
