-- The storage of functions and of objects.
use Rattle.std.specs.Prelude.{ℕ, Bool, ◌&&◌, is_none, if◌then◌else◌}
use Rattle.core_tree.specs.declared.node.Storage.{Storage}
use Rattle.core_tree.specs.declared.node.Storage.TheVariants.{Static, Automatic, FunctionBody, Declared}
use Rattle.c_grammar.specs.Words.{word_extern}
use Rattle.c_senses.specs.Tree.{Source}
use Rattle.c_senses.specs.Sense.{Sense}
use Rattle.c_senses.specs.Entities.{has_storage, initialiser_for, is_static_object}

abbrev pub function_storage : Bool → Storage
function_storage defined = if defined then FunctionBody else Declared

abbrev pub is_only_declared : Source → (ℕ → Sense) → ℕ → Bool
is_only_declared s sense leaf = has_storage s sense word_extern leaf && is_none (initialiser_for s sense leaf)

abbrev pub object_storage : Source → (ℕ → Sense) → ℕ → Storage
object_storage s sense leaf =
    if is_only_declared s sense leaf then Declared
    else if is_static_object s sense leaf then Static
    else Automatic
