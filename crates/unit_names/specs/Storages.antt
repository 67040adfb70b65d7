-- The storage of internal names.
use Rattle.std.specs.Prelude.{Bool, if◌then◌else◌}
use Rattle.core_tree.specs.declared.node.Storage.{Storage}
use Rattle.core_tree.specs.declared.node.Storage.TheVariants.{Static, Declared}

-- what is only declared has its place for the whole run, unless it is a function
abbrev pub internal_storage : Storage → Bool → Storage
internal_storage Declared is_function = if is_function then Declared else Static
internal_storage storage is_function = storage
