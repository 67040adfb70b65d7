-- What is kept of the linkage of earlier declarations while more is made.
use Rattle.std.specs.Prelude.{ℕ, ◌≡◌, ◌<◌, Bool, true, false, ◌&&◌, ◌||◌, List, length, Option, Some, None, get_or}
use Rattle.std.specs.Prelude.{option_and_then}
use Rattle.core_tree.specs.declared.node.Unit.{Unit}
use Rattle.c_scope.specs.declared.kinds.Declared.{Declared}
use Rattle.c_senses.specs.Tree.{Source}
use Rattle.c_senses.specs.World.{World}
use Rattle.c_senses.specs.Sense.{Sense}
use Rattle.c_senses.specs.Declarators.{outermost_of, specs_of}
use Rattle.c_senses.specs.Entities.{is_linked, is_static_at_file, takes_over, is_internal, same_internal, entity_of}
use Rattle.c_results.specs.declared.made.Made.{Made}
use Rattle.tree_reads.specs.declared.syntax.Syntax.{Syntax}
use Rattle.tree_reads.specs.Sources.{source_in}
use Rattle.name_chains.specs.Links.{listed}
use Rattle.c_entities.specs.remembered_names.Remembering.{AreRemembered}
use Rattle.c_meanings.specs.declared.names.Names.{Names}
use Rattle.c_meanings.specs.declared.kept.Linkages.{Linkages}
use Rattle.c_meanings.specs.Statics.{some_static}
use Rattle.c_meanings.specs.Later.{later}
use Rattle.c_meanings.specs.Thinned.{AreThinned}

-- the specifiers of a declaration, by its leaf
abbrev pub specs_at : Source → ℕ → Option ℕ
specs_at s leaf = option_and_then (specs_of s) (outermost_of s leaf)

-- they are one of so many nodes
pub record AreBelow (s : Source) (count leaf : ℕ) : Type 0 where
  pub specs : ℕ
  pub is : specs_at s leaf ≡ Some specs
  pub below : specs < count

-- internal linkage, by whether a declaration that is seen there is `static` at file scope
abbrev pub internal_with : Source → (ℕ → Sense) → Bool → ℕ → Bool
internal_with s sense seen leaf =
    is_linked s sense leaf && (is_static_at_file s sense leaf || (takes_over s sense leaf && seen))

-- whatever more is made, one of some declarations is `static` at file scope, or none is
abbrev pub StaysStatic : Syntax → List Made → List Declared → Bool → Type 0
StaysStatic syntax results ds b =
    (u : Unit) (uses : List (ℕ × ℕ)) (more : List Made)
    → b ≡ some_static (source_in syntax uses) (later u results more) ds

-- a leaf declares a name with internal linkage, or doesn't
abbrev pub StaysInternal : Syntax → List Made → ℕ → Bool → Type 0
StaysInternal syntax results leaf b =
    (u : Unit) (uses : List (ℕ × ℕ)) (more : List Made)
    → b ≡ is_internal (source_in syntax uses) (later u results more) leaf

-- whatever more is made, that is the entity of what a leaf declares
abbrev pub StaysEntity : Syntax → List Made → ℕ → ℕ → Type 0
StaysEntity syntax results leaf entity =
    (u : Unit) (uses : List (ℕ × ℕ)) (more : List Made)
    → entity ≡ entity_of (source_in syntax uses) (later u results more) leaf

-- all of some declarations give their name internal linkage, or none does
abbrev pub StaysOne : Syntax → List Made → List Declared → Bool → Type 0
StaysOne syntax results ds b =
    (u : Unit) (w : World) (uses : List (ℕ × ℕ)) (more : List Made)
    → same_internal w (source_in syntax uses) (later u results more) b ds ≡ true

-- what is kept is so, of the lists that end with links
pub record AreLinkages (syntax : Syntax) (results : List Made) (names : Names) (k : Linkages) : Type 0 where
  pub many_linked : length k.statics.items ≡ length names.chains.links.items
  pub many_own : length k.scopes.items ≡ length names.chains.own.items
  pub statics : (place : ℕ) (b : Bool)
      → get_or k.statics.items place None ≡ Some b
      → StaysStatic syntax results (listed names.chains.links.items (Some place)) b
  pub scopes : (place : ℕ) (b : Bool)
      → get_or k.scopes.items place None ≡ Some b
      → StaysOne syntax results (listed names.chains.own.items (Some place)) b
  pub own : AreThinned syntax results false names.chains.own.items k.own
  pub typing : AreThinned syntax results false names.chains.links.items k.typing
  pub internal : AreThinned syntax results true names.symbols.items k.internal
  pub memory : AreRemembered syntax results k.memory.items
