-- What has a body and is no function's is an object, whose own initialiser the body is.
use Rattle.std.proofs.Common.{◌≡◌, ◌≢◌, inl, inr, ℕ, ◌&&◌, Bool, true, false, List, Option, Some, None, slice_get, refl, sym, ap, ◌∙◌, subst}
use Rattle.std.specs.Prelude.{option_map, if◌then◌else◌}
use Rattle.c_lexer.specs.declared.Tokens.{Tokens}
use Rattle.c_lexer.specs.Cut.{IsTokens}
use Rattle.c_types.specs.Trees.{Ctype}
use Rattle.c_types.specs.Table.{type_of}
use Rattle.c_grammar.specs.declared.trees.Tree.{Tree as SyntaxTree}
use Rattle.c_parser.specs.c_units.Units.{IsUnit}
use Rattle.core_tree.specs.declared.node.Node.{Node}
use Rattle.core_tree.specs.declared.node.NodeKind.{NodeKind}
use Rattle.core_tree.specs.declared.node.NodeKind.TheVariants.{Initialise}
use Rattle.core_tree.specs.declared.node.Entity.{Entity}
use Rattle.core_tree.specs.declared.node.Unit.{Unit}
use Rattle.core_tree.specs.declared.node.Storage.TheVariants.{FunctionBody}
use Rattle.core_tree.specs.Typed.{trees_of}
use Rattle.core_tree.specs.Rows.{IsFunction, Initialises, InitialisesIn, InitialisesEntity}
use Rattle.c_consts.specs.Core.{Core, Of, kind_of, ctype_of}
use Rattle.c_senses.specs.Tree.{Source, is_name}
use Rattle.c_senses.specs.Names.{source_of, numbered}
use Rattle.c_senses.specs.Right.{Numbering, Declared as Declares, IsDeclaredAt, IsLiteralOf, IsEntityOf, StandsBy, SameKind, SameBody, declares_entity, declared_as, declared_name, entity_type, is_declaring, literal_as}
use Rattle.core_node_laws.specs.standing_laws.Standing.{IsGrown}
use Rattle.parsed_tree_laws.proofs.grown_parts.Reading.{units_bring}
use Rattle.parsed_tree_laws.proofs.placed_laws.Climbing.{Grown}
use Rattle.declaration_laws.proofs.name_order.Ordered.{units_ordered}
use Rattle.core_node_laws.specs.built_unit_laws.built_units.Built.{IsBuilt}
use Rattle.core_node_laws.specs.built_unit_laws.built_rows.Rows.{types_declared, literal_type}
use Rattle.valid_unit_laws.specs.object_initialiser_laws.internal_name_laws.initialised_rows.PassedOn.{TypesFit}
use Rattle.valid_unit_laws.proofs.object_initialiser_laws.internal_name_laws.initialised_rows.PassedOn.{grown}
use Rattle.valid_unit_laws.proofs.object_initialiser_laws.internal_name_laws.initialised_rows.PassedOn.{types_fit, tree_grown}
use Rattle.declaration_laws.proofs.declared_type_laws.owner_laws.passed.definition_laws.own_initialisers.Standing.{initialisers_stand}
use Rattle.valid_unit_laws.specs.object_initialiser_laws.internal_name_laws.initialised_rows.Rows.{InternalFit}
use Rattle.valid_unit_laws.proofs.object_initialiser_laws.internal_name_laws.initialised_rows.Owning.{linked_fit}
use Rattle.declaration_laws.proofs.declared_type_laws.owner_laws.passed.definition_laws.linkage_laws.Seen.{some_same, none_some}
use Rattle.declaration_laws.proofs.declared_type_laws.owner_laws.passed.definition_laws.linkage_laws.Unlinked.{made, Made}
use Rattle.valid_unit_laws.specs.object_initialiser_laws.initialised_objects.Initialised.{IsOwnLiteral, IsObject}
use Rattle.valid_unit_laws.proofs.object_initialiser_laws.initialised_objects.Literals.{literals_own}
use Rattle.valid_unit_laws.proofs.object_initialiser_laws.initialised_objects.Initials.{initials_are_objects}
use Rattle.valid_unit_laws.specs.object_initialiser_laws.placed_initialisers.PassedOn.{InitialisersPlaced}
use Rattle.valid_unit_laws.proofs.object_initialiser_laws.placed_initialisers.PassedOn.{OwnBody, named_body, body_initialises}
use Rattle.valid_unit_laws.proofs.object_initialiser_laws.placed_initialisers.Whole.{units_place}
use Rattle.valid_unit_laws.specs.object_initialiser_laws.bodies_fit.Bodies.{ObjectFits, BodiesFit}

left : (a b : Bool) → (a && b) ≡ true → a ≡ true
left true b e = refl
left false b e = cc

-- what stands by a core that initialises a literal's object is one of the entity of that number
literal_initialises : (n : Numbering) (u : Unit) (b d e : ℕ) (c : Core) → StandsBy n u b c → InitialisesEntity (kind_of c) d → n d ≡ Some e → Initialises (trees_of u) b e
literal_initialises n u b d e (Of kind place type under) h is number = subst (λ (o : Option Node). InitialisesIn o e) (sym h.1) (by kind h.0.kind is h.2)
  where
    by : (k j : NodeKind) → InitialisesEntity k d → SameKind n k j → InitialisesEntity j e
    by (Initialise o paths) (Initialise other others) own same = some_same (sym same.0 ∙ (ap n own ∙ number))
    by (Initialise o paths) j own same = absurd (let bad : Initialise o paths ≡ j = same in cc)
    by k j own same = absurd own

module _ (tokens : Tokens) (unit : ℕ) (tree : SyntaxTree) (tag_number : ℕ → ℕ) (name : List ℕ) (u : Unit) (cut : IsTokens tokens.text.now tokens.list.items) (is : IsUnit tokens unit tree) (b : IsBuilt (numbered tag_number (source_of tokens tree)) name u)
    (internal : InternalFit (numbered tag_number (source_of tokens tree)) b.senses) where
  abbrev s : Source
  s = numbered tag_number (source_of tokens tree)

  fit : TypesFit s b.senses
  fit =
      let grew : IsGrown s = grown tokens unit tree tag_number cut is in
      let at : Grown s = tree_grown tokens unit tree tag_number is in
      types_fit s b.senses b.are_senses grew at (units_bring tokens unit tree tag_number is) (units_ordered tokens unit tree tag_number cut is)
      (linked_fit s b.senses b.are_senses grew at (units_bring tokens unit tree tag_number is) (initialisers_stand tokens unit tree tag_number cut is) internal)

  placed : InitialisersPlaced s b.senses
  placed = units_place tokens unit tree tag_number b.senses cut is

  module _ (e : ℕ) (entity : Entity) (stored : entity.storage ≢ FunctionBody) (k : ℕ) (body : entity.body ≡ Some k) where
    abbrev BodyFits : Type 0
    BodyFits = (IsFunction (type_of u.types entity.ty.0) → ⊥) × Initialises (trees_of u) k e

    -- of a name
    named_fits : (d : ℕ) (what : Declares) → b.numbering d ≡ Some e → declared_name s b.senses d ≡ Some what → IsEntityOf b.numbering u s.unit what entity → BodyFits
    named_fits d what number told is_one = by (declares_entity s b.senses d) refl (entity_type s b.senses d) refl told
      where
        by : (x : Bool) → declares_entity s b.senses d ≡ x → (o : Option Ctype) → entity_type s b.senses d ≡ o → (if x then option_map (declared_as s b.senses d) o else None) ≡ Some what → BodyFits
        by false g o t h = absurd (none_some h)
        by true g None t h = absurd (none_some h)
        by true g (Some t) typed h =
            let own : OwnBody tokens unit tree tag_number name u cut is b placed d k = named_body tokens unit tree tag_number name u cut is b placed d what entity told is_one stored k body in
            let same : declared_as s b.senses d t ≡ what = some_same h in
            let type : type_of u.types entity.ty.0 ≡ t = is_one.type ∙ sym (ap (λ (x : Declares). x.type) same) in
            let is_leaf : is_name s d ≡ true = left (is_name s d) _ (left (is_declaring s b.senses d) _ g) in
            let declared : types_declared s b.senses d ≡ Some t = ap (λ (x : Bool). if x then entity_type s b.senses d else literal_type s b.senses d) is_leaf ∙ typed in
            let object : IsObject s b.senses d =
            subst (IsObject s b.senses) own.entity (initials_are_objects tokens unit tree tag_number b.senses cut is b.are_senses fit own.init own.above own.starts own.parent own.rest own.own) in
            (λ function. object t declared (subst IsFunction type function), body_initialises tokens unit tree tag_number name u cut is b placed d e k number own)

    -- of a literal
    literal_fits : (d : ℕ) (what : Declares) (c : Core) → b.numbering d ≡ Some e → IsLiteralOf s b.senses d c → what ≡ literal_as s b.senses d c → IsEntityOf b.numbering u s.unit what entity → BodyFits
    literal_fits d what c number literal same is_one =
        let own : IsOwnLiteral d c = literals_own tokens unit tree tag_number b.senses cut is b.are_senses fit d c literal in
        let type : type_of u.types entity.ty.0 ≡ ctype_of c = is_one.type ∙ ap (λ (x : Declares). x.type) same in
        let first : what.body ≡ Some own.initial = ap (λ (x : Declares). x.body) same ∙ own.first in
        let stands : SameBody b.numbering u (Some own.initial) (Some k) = subst (λ (z : Option Core). SameBody b.numbering u z (Some k)) first (subst (λ (z : Option ℕ). SameBody b.numbering u what.body z) body is_one.body) in
        (λ function. own.object (subst IsFunction type function), literal_initialises b.numbering u k d e own.initial stands own.initialises number)

    body_fits : Made s name u b e entity → BodyFits
    body_fits m = by m.declared
      where
        by : IsDeclaredAt s b.senses m.leaf m.what → BodyFits
        by (inl told) = named_fits m.leaf m.what m.number told m.is
        by (inr (c, literal, same)) = literal_fits m.leaf m.what c m.number literal same m.is

  fits : (e : ℕ) (entity : Entity) → slice_get u.entities.items e ≡ Some entity → ObjectFits (trees_of u) e entity
  fits e entity at stored k body = let both = body_fits e entity stored k body (made s name u b e entity at) in record { object = both.0; storage = stored; initialises = both.1 }

pub bodies_fit : BodiesFit
bodies_fit tokens unit tree tag_number name u cut is b internal e entity at = fits tokens unit tree tag_number name u cut is b internal e entity at
