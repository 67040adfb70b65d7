-- What is known of a list of declarations: whether one of them is `static` at file scope.
use Rattle.std.specs.Prelude.{ℕ, ◌≡◌, Bool, false, List, Option, Some, slice_get}
use Rattle.core_tree.specs.declared.node.Unit.{Unit}
use Rattle.c_scope.specs.declared.kinds.Declared.{Declared}
use Rattle.c_senses.specs.Tree.{Source}
use Rattle.c_senses.specs.Sense.{Sense, sense_in}
use Rattle.c_senses.specs.Entities.{some_such, is_static_at_file}
use Rattle.c_results.specs.declared.made.Made.{Made}
use Rattle.c_results.specs.Standing.{senses_made}
use Rattle.tree_reads.specs.declared.syntax.Syntax.{Syntax}
use Rattle.tree_reads.specs.Sources.{source_in}
use Rattle.name_chains.specs.declared.links.Link.{Link}
use Rattle.name_chains.specs.Links.{listed, IsLinkOf}
use Rattle.c_meanings.specs.declared.names.Names.{Names}
use Rattle.c_meanings.specs.declared.statics.StaticSeen.{StaticSeen}

-- one of some declarations is `static` at file scope
abbrev pub some_static : Source → (ℕ → Sense) → List Declared → Bool
some_static s sense ds = some_such s sense (λ d. is_static_at_file s sense d.node) ds

-- the flag says that of the list that ends with the link
pub record IsStaticSeen (syntax : Syntax) (results : List Made) (names : Names) (seen : StaticSeen) : Type 0 where
  pub last : IsLinkOf names.chains.links.items seen.last
  pub flag : (u : Unit) (uses : List (ℕ × ℕ))
      → seen.is_static
      ≡ some_static (source_in syntax uses) (sense_in (senses_made u results))
      (listed names.chains.links.items seen.last)

-- a list is another without its last declaration, and of that one none is
pub record IsFront (links : List Link) (seen : StaticSeen) (last : Option ℕ) : Type 0 where
  pub link : Link
  pub place : ℕ
  pub known : seen.last ≡ Some place
  pub is : slice_get links place ≡ Some link
  pub front : link.before ≡ last
  pub none : seen.is_static ≡ false
