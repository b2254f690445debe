-- The registers, and the bits that each of them keeps.
--
--   bit             whether a bit of a value is set
--   starting        whether a value has a register's starting bits
--   new_registers   the registers of a new machine
--   with_register   the registers with a value in one of them
use Rattle.std.specs.Prelude.{ℕ, ◌+◌, ◌/◌, ◌%◌, ◌^◌, Bool, ◌&&◌, ◌==◌}
use Rattle.guard.specs.declared.registers.Register.{Register}
use Rattle.guard.specs.declared.registers.Register.TheVariants as register
use Rattle.guard.specs.declared.registers.Registers.{Registers}

-- A bit of a value is set.
abbrev pub bit : ℕ → ℕ → Bool
bit value place = value / 2 ^ place % 2 == 1

-- A value has each of a register's starting bits set. CR0: protection, write protect, paging. CR4: physical address extension, no
-- supervisor fetch from user pages. EFER: long mode, no-execute.
abbrev pub starting : Register → ℕ → Bool
starting register.Cr0 value = bit value 0 && (bit value 16 && bit value 31)
starting register.Cr4 value = bit value 5 && bit value 20
starting register.Efer value = bit value 8 && bit value 11

-- The registers of a new machine hold their starting bits and no others.
abbrev pub new_registers : Registers
new_registers = record { cr0 = 2 ^ 0 + 2 ^ 16 + 2 ^ 31; cr3 = 0; cr4 = 2 ^ 5 + 2 ^ 20; efer = 2 ^ 8 + 2 ^ 11 }

-- The registers with a value in one of them.
abbrev pub with_register : Registers → Register → ℕ → Registers
with_register r register.Cr0 value = record r { cr0 = value }
with_register r register.Cr4 value = record r { cr4 = value }
with_register r register.Efer value = record r { efer = value }
