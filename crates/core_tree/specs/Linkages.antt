-- What a unit's linkages are (C11 6.2.2).
use Rattle.std.specs.Prelude.{ℕ, ◌≡◌, ◌⊎◌, ⊤, List, Option, Some, None}
use Rattle.c_types.specs.Trees.{Ctype, ArrayOf}
use Rattle.c_types.specs.Table.{type_of}
use Rattle.core_tree.specs.declared.node.Node.{Node}
use Rattle.core_tree.specs.declared.node.Entity.{Entity}
use Rattle.core_tree.specs.declared.node.Linkage.{Linkage}
use Rattle.core_tree.specs.declared.node.Linkage.TheVariants.{External, Local}
use Rattle.core_tree.specs.declared.node.Storage.{Storage}
use Rattle.core_tree.specs.declared.node.Storage.TheVariants.{Automatic, Parameter}
use Rattle.core_tree.specs.declared.node.NodeKind.{NodeKind}
use Rattle.core_tree.specs.declared.node.NodeKind.TheVariants.{Named, Literal, FunctionName}
use Rattle.core_tree.specs.Typed.{CoreTrees}
use Rattle.core_tree.specs.Range.{entity_at, EachNode, EachEntity, SomeEntity}

-- an automatic object and a parameter have no linkage
abbrev pub IsUnlinked : Storage → Linkage → Type 0
IsUnlinked Automatic linkage = linkage ≡ Local
IsUnlinked Parameter linkage = linkage ≡ Local
IsUnlinked storage linkage = ⊤

abbrev pub HasNoLinkage : Option Entity → Type 0
HasNoLinkage None = ⊥
HasNoLinkage (Some entity) = entity.linkage ≡ Local

-- the entity of a compound literal has no linkage
abbrev pub MakesUnlinked : CoreTrees → NodeKind → Type 0
MakesUnlinked u (Literal e) = HasNoLinkage (entity_at u e)
MakesUnlinked u kind = ⊤

-- a use has the type of the declaration, or one that lacks the length alone that the declaration has: so it is with
-- an array within its own initialiser, which gives it its length only where it ends (C11 6.7.9p22)
abbrev pub IsOfDeclared : Ctype → Ctype → Type 0
IsOfDeclared d t = (d ≡ t) ⊎ ((of : Ctype) × (n : ℕ) × (d ≡ ArrayOf of (Some n)) × (t ≡ ArrayOf of None))

-- the entity declares that name, with external linkage, as of that type
abbrev pub DeclaresAs : CoreTrees → List ℕ → Ctype → Entity → Type 0
DeclaresAs u name t entity =
    (entity.linkage ≡ External) × (entity.name ≡ name) × IsOfDeclared (type_of u.types entity.ty.0) t

-- some external declaration of the name has the type
pub record IsDeclaredAs (u : CoreTrees) (name : List ℕ) (t : Ctype) : Type 0 where
  pub some : SomeEntity u (λ e entity. DeclaresAs u name t entity)

abbrev pub IsUseIn : CoreTrees → Ctype → Option Entity → Type 0
IsUseIn u t None = ⊥
IsUseIn u t (Some entity) = entity.linkage ≡ External → IsDeclaredAs u entity.name t

-- a use of an entity with external linkage has the type of some external declaration of that name
abbrev pub UsesDeclared : CoreTrees → Ctype → NodeKind → Type 0
UsesDeclared u t (Named e) = IsUseIn u t (entity_at u e)
UsesDeclared u t (FunctionName e) = IsUseIn u t (entity_at u e)
UsesDeclared u t kind = ⊤

pub record NodeLinkage (u : CoreTrees) (node : Node) : Type 0 where
  pub literal : MakesUnlinked u node.kind
  pub declared : UsesDeclared u (type_of u.types node.ty.0) node.kind

abbrev pub EntityLinkage : Entity → Type 0
EntityLinkage entity = IsUnlinked entity.storage entity.linkage

-- what valid units need so that the program of them is valid: declarations of one name in several units are one
-- entity there, and have one type together
pub record Linkages (u : CoreTrees) : Type 0 where
  pub entities : EachEntity u (λ e entity. EntityLinkage entity)
  pub nodes : EachNode u (λ n node. NodeLinkage u node)
