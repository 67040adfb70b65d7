-- The members that some nodes have made, and where members stand.
use Rattle.std.specs.Prelude.{ℕ, Bool, false, List, [], Option, Some, None}
use Rattle.c_inits.specs.Made.{Part}
use Rattle.c_senses.specs.Tree.{Source}
use Rattle.c_senses.specs.World.{World}
use Rattle.c_senses.specs.Sense.{Sense}
use Rattle.c_senses.specs.Tags.{is_last_in, declares_members}

abbrev pub parts_or : Option (List Part) → List Part
parts_or None = []
parts_or (Some parts) = parts

-- the last declaration of a list that declares a member, where there is a list
abbrev pub last_declaration : World → Source → (ℕ → Sense) → Option ℕ → ℕ → Bool
last_declaration w s sense None member = false
last_declaration w s sense (Some list) member = is_last_in w s sense (declares_members w s sense) list member
