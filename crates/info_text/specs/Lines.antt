-- The lines that tell of a resource that was asked for.
use Rattle.std.specs.Prelude.{ℕ, Bool, true, false, List, [], ◌∷◌, ◌++◌, decimal, codes}
use Rattle.reply_pieces.specs.Pieces.{joined}
use Rattle.res_table.specs.declared.answers.Fault.{Fault}
use Rattle.res_table.specs.declared.answers.Fault.TheVariants as fault
use Rattle.res_table.specs.declared.answers.Res.{Res}
use Rattle.res_table.specs.declared.kinds.Kind.{Kind}
use Rattle.res_table.specs.declared.kinds.Kind.TheVariants as kind
use Rattle.info_text.specs.Faults.{fault_text}

-- the word for a kind
abbrev pub kind_text : Kind → List ℕ
kind_text kind.Brush = codes "brush"
kind_text kind.Alias = codes "alias"
kind_text kind.Sprite = codes "sprite"
kind_text kind.Wad = codes "wad"
kind_text kind.Sound = codes "sound"

abbrev pub loaded_text : Bool → List ℕ
loaded_text true = codes "loaded"
loaded_text false = codes "present"

abbrev pub resource_text : (name : List ℕ) → Res → List ℕ
resource_text name res = joined (kind_text res.kind ∷ codes " " ∷ name ∷ codes " " ∷ decimal res.size
    ∷ codes " at " ∷ decimal res.place ∷ codes " " ∷ loaded_text res.loaded ∷ codes "\n" ∷ [])

-- the word for what a file was taken for
abbrev pub fault_word : Fault → List ℕ
fault_word (fault.Brush wrong) = kind_text kind.Brush
fault_word (fault.Alias wrong) = kind_text kind.Alias
fault_word (fault.Sprite wrong) = kind_text kind.Sprite
fault_word (fault.Wad wrong) = kind_text kind.Wad
fault_word (fault.Sound wrong) = kind_text kind.Sound

-- of which resource, and what is wrong
abbrev pub bad_title : (name : List ℕ) → Fault → List ℕ
bad_title name fault = joined (codes "bad " ∷ fault_word fault ∷ codes " " ∷ name ∷ codes ": " ∷ [])

abbrev pub bad_text : (name : List ℕ) → Fault → List ℕ
bad_text name fault = bad_title name fault ++ (fault_text fault ++ codes "\n")
