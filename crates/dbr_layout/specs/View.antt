-- What a view of a payload shows.
use Rattle.std.specs.Prelude.{ℕ, List, length, nat_le, if◌then◌else◌, ok_or, Result, Ok, Err}
use Rattle.dbr_layout.specs.declared.dbr.Dbr.{Dbr}
use Rattle.dbr_layout.specs.declared.fault.LayoutFault.{LayoutFault}
use Rattle.dbr_layout.specs.declared.fault.LayoutFault.TheVariants.{BadType, Short}
use Rattle.dbr_layout.specs.Dbr.{dbr_of, value_end}
use Rattle.dbr_layout.specs.Fault.{◌>>=◌}
use Rattle.dbr_layout.specs.Parts.{Parts, parts_in}

-- a type, and what a payload of it holds
pub record Shown : Type 0 where
  pub dbr : Dbr
  pub parts : Parts

-- what the bytes show as this many elements of the type with this number
abbrev pub shown : ℕ → ℕ → List ℕ → Result Shown LayoutFault
shown dtype count bytes = do
  dbr ← ok_or (dbr_of dtype) BadType
  if nat_le (value_end dbr count) (length bytes) then Ok (record { dbr = dbr; parts = parts_in dbr count bytes }) else Err Short
