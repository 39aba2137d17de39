-- Which block a call made, what stands in it, and what becomes of the low hunk.
use Rattle.std.specs.Prelude.{ℕ, ◌≡◌, List, [], ◌∷◌, ◌++◌, Option, Some, Result, Ok, Err}
use Rattle.mem_model.specs.Blocks.{HunkBlock}
use Rattle.mem_model.specs.Memory.{Memory}
use Rattle.res_table.specs.declared.answers.AcquireError.{AcquireError}
use Rattle.res_table.specs.declared.answers.Res.{Res}
use Rattle.res_table.specs.declared.kinds.Kind.{Kind}
use Rattle.res_table.specs.declared.kinds.Kind.TheVariants as kind

-- the user that an image of this kind needs a block for
abbrev pub users_for : Kind → (user : ℕ) → List ℕ
users_for kind.Brush user = []
users_for kind.Alias user = user ∷ []
users_for kind.Sprite user = []
users_for kind.Wad user = []
users_for kind.Sound user = user ∷ []

-- the users whose blocks were made, where they were
abbrev pub made_for : {A E : Type 0} → List ℕ → Result A E → List ℕ
made_for users (Ok made) = users
made_for users (Err refusal) = []

-- the same where a resource was loaded for a user
abbrev pub loaded_for : (user : ℕ) → Result Res AcquireError → List ℕ
loaded_for user (Ok res) = users_for res.kind user
loaded_for user (Err refusal) = []

-- the block begins with the image
abbrev pub BeginsWith : Option (List ℕ) → List ℕ → Type 0
BeginsWith block image = (rest : List ℕ) × (block ≡ Some (image ++ rest))

-- The low blocks stand as they were, and others may lie above them.
abbrev pub GrowsLow : (before after : Memory) → Type 0
GrowsLow before after = (above : List HunkBlock) × (after.low ≡ before.low ++ above)
