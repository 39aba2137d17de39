-- The image of a wad.
use Rattle.std.specs.Prelude.{ℕ, List, Result}
use Rattle.base_fields.specs.Faults.{first_fault, unless}
use Rattle.wad2_lumps.specs.declared.fault.WadFault.{WadFault}
use Rattle.wad2_lumps.specs.Wads.{tests}

-- the bytes themselves, or their first fault
unfoldable pub image_of : List ℕ → Result (List ℕ) WadFault
image_of bytes = unless (first_fault (tests bytes)) bytes
