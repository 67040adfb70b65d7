-- Each automatic object is initialised in its owner's body.
use Rattle.std.proofs.Common.{◌≡◌, ℕ, List, Option, Some, None, refl, sym, subst, inl, inr}
use Rattle.std.specs.Prelude.{IfSome}
use Rattle.c_lexer.specs.declared.Tokens.{Tokens}
use Rattle.c_lexer.specs.Cut.{IsTokens}
use Rattle.c_grammar.specs.declared.trees.Tree.{Tree}
use Rattle.c_parser.specs.c_units.Units.{IsUnit}
use Rattle.core_tree.specs.declared.node.Unit.{Unit}
use Rattle.core_tree.specs.declared.node.Entity.{Entity}
use Rattle.core_tree.specs.declared.node.Storage.TheVariants.{Automatic}
use Rattle.core_tree.specs.Typed.{trees_of}
use Rattle.core_tree.specs.Range.{entity_at}
use Rattle.core_tree.specs.Valid.{IsFunctionEntity, IsFunctionIn, IsOwned, UnderBody, InBodyOf, InOwnersBody}
use Rattle.c_senses.specs.Names.{source_of, numbered}
use Rattle.c_senses.specs.Tree.{Source}
use Rattle.c_senses.specs.Right.{IsDeclaredAt}
use Rattle.core_node_laws.specs.built_unit_laws.built_units.Built.{IsBuilt}
use Rattle.declaration_laws.proofs.declared_type_laws.owner_laws.passed.definition_laws.linkage_laws.Unlinked.{Made, made}
use Rattle.declaration_laws.specs.declared_type_laws.owner_laws.Owners.{Forward}
use Rattle.valid_unit_laws.specs.object_initialiser_laws.owned_initialisers.Owned.{HasBodies, OwnersInitialise}
use Rattle.valid_unit_laws.proofs.object_initialiser_laws.owned_initialisers.Names.{Owns, owned, name_owned}
use Rattle.valid_unit_laws.proofs.object_initialiser_laws.owned_initialisers.Literals.{literal_owned}

module _
    (tokens : Tokens) (unit : ℕ) (tree : Tree) (tag_number : ℕ → ℕ) (name : List ℕ) (u : Unit) (cut : IsTokens tokens.text.now tokens.list.items) (is : IsUnit tokens unit tree)
    (built : IsBuilt (numbered tag_number (source_of tokens tree)) name u) (given : HasBodies (trees_of u))
  where
    abbrev s : Source
    s = numbered tag_number (source_of tokens tree)

    abbrev Owned_by : Option ℕ → ℕ → Type 0
    Owned_by owner n = Owns tokens unit tree tag_number name u cut is built given.bodied owner n

    owner_of : (e b : ℕ) (entity : Entity) → entity_at (trees_of u) e ≡ Some entity → entity.storage ≡ Automatic → entity.body ≡ Some b → Owned_by entity.owner b
    owner_of e b entity at auto body = by (made s name u built e entity at)
      where
        by : Made s name u built e entity → Owned_by entity.owner b
        by m = which m.declared
          where
            which : IsDeclaredAt s built.senses m.leaf m.what → Owned_by entity.owner b
            which (inl told) = name_owned tokens unit tree tag_number name u cut is built given.bodied e m.leaf b entity m.what at m.number told m.is auto body
            which (inr (c, literal, told)) = literal_owned tokens unit tree tag_number name u cut is built given.bodied given.rows given.fixed e m.leaf b entity m.what at m.number c literal told m.is auto body

    in_body : (e b : ℕ) (entity : Entity) → entity_at (trees_of u) e ≡ Some entity → Owned_by entity.owner b → InOwnersBody (trees_of u) entity.owner b
    in_body e b entity at owns =
        let stands : IsFunctionIn (trees_of u) (entity_at (trees_of u) owns.function) = subst (λ (o : Option ℕ). IsOwned (trees_of u) entity.storage o) owns.owned_is (owned tokens unit tree tag_number name u cut is built given.bodied e entity at) in
        let function : IsFunctionEntity (trees_of u) owns.entity = subst (IsFunctionIn (trees_of u)) owns.at stands in
        let own : InBodyOf (trees_of u) (Some owns.entity) b = (function, subst (λ (o : Option ℕ). UnderBody (trees_of u) o b) (sym owns.body) owns.under) in
        subst (λ (o : Option ℕ). InOwnersBody (trees_of u) o b) (sym owns.owned_is) (subst (λ (o : Option Entity). InBodyOf (trees_of u) o b) (sym owns.at) own)

    forward : Forward (trees_of u)
    forward e entity at auto = by entity.body refl
      where
        by : (o : Option ℕ) → entity.body ≡ o → IfSome o (λ b. InOwnersBody (trees_of u) entity.owner b)
        by None body = tt
        by (Some b) body = in_body e b entity at (owner_of e b entity at auto body)

pub initialisers_owned : OwnersInitialise
initialisers_owned tokens unit tree tag_number name u cut is built given = forward tokens unit tree tag_number name u cut is built given
