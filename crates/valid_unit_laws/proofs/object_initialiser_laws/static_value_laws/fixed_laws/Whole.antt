-- Each value in the initialiser of an object that lives for the whole run is fixed.
use Rattle.std.proofs.Common.{◌≡◌, ℕ, true, List, Option, Some, None, All, slice_get, refl, sym, ap, ◌∙◌, subst, inl, inr}
use Rattle.std.proofs.lemmas.Bool.{and_parts}
use Rattle.std.proofs.lemmas.List.Elements.{All-cons, All-nil}
use Rattle.pta_base.specs.declared.place.Place.{Place}
use Rattle.c_types.specs.Trees.{Ctype}
use Rattle.c_inits.specs.Shapes.{Path}
use Rattle.core_tree.specs.declared.node.Unit.{Unit}
use Rattle.core_tree.specs.declared.node.Node.{Node}
use Rattle.core_tree.specs.declared.node.Entity.{Entity}
use Rattle.core_tree.specs.declared.node.NodeKind.{NodeKind}
use Rattle.core_tree.specs.declared.node.NodeKind.TheVariants.{Initialise}
use Rattle.core_tree.specs.declared.node.Storage.TheVariants.{Static}
use Rattle.core_tree.specs.Typed.{trees_of}
use Rattle.core_tree.specs.Rows.{InitialisesIn, InitialisesEntity, Initialises}
use Rattle.core_tree.specs.Range.{entity_at}
use Rattle.core_tree.specs.Valid.{InRows, IsFixed, LivesForTheRun, HoldsFixed}
use Rattle.c_consts.specs.Core.{Core, Cores, Of, NoCores, MoreCores}
use Rattle.c_senses.specs.Tree.{Source}
use Rattle.c_senses.specs.Names.{source_of, numbered}
use Rattle.c_senses.specs.Sense.{Sense, sense_in}
use Rattle.c_senses.specs.Initialised.{is_fixed}
use Rattle.c_senses.specs.Entities.{is_linked}
use Rattle.c_senses.specs.Right.{Numbering, SameKind, StandsBy, AllStandBy, SameBody, Declared, declared_name}
use Rattle.declaration_laws.specs.declared_type_laws.passed.built_unit_laws.built_units.Built.{IsBuilt}
use Rattle.parsed_tree_laws.proofs.grown_parts.Reading.{units_bring}
use Rattle.declaration_laws.proofs.name_order.Ordered.{units_ordered}
use Rattle.parsed_tree_laws.proofs.span_laws.Whole.{units_are_spanned}
use Rattle.declaration_laws.proofs.function_laws.passed.definition_laws.initialiser_laws.Found.{initialisers_found}
use Rattle.declaration_laws.proofs.function_laws.body_returns.Built.{grown, placed}
use Rattle.parsed_tree_laws.proofs.member_names.Order.{units_in_order}
use Rattle.parsed_tree_laws.proofs.family_laws.Reading.{units_families}
use Rattle.declaration_laws.proofs.function_laws.passed.definition_laws.Reading.{block_parts}
use Rattle.declaration_laws.proofs.function_laws.passed.definition_laws.function_definitions.Reading.{definitions_declare}
use Rattle.parsed_tree_laws.proofs.sense_laws.fixed_trees.Fixing.{trees_fixed}
use Rattle.declaration_laws.specs.function_laws.passed.definition_laws.linkage_laws.Linked.{StandsLinked}
use Rattle.declaration_laws.proofs.function_laws.passed.definition_laws.linkage_laws.Linked.{stands_linked}
use Rattle.declaration_laws.proofs.function_laws.passed.definition_laws.linkage_laws.Reading.{tree_is}
use Rattle.declaration_laws.proofs.function_laws.passed.definition_laws.linkage_laws.Unlinked.{Made, made}
use Rattle.valid_unit_laws.specs.object_initialiser_laws.static_value_laws.fixed_laws.Fixed.{automatic_by, all_fixed, LiteralsStatic, LiteralValuesFixed, ValuesFixed, FixedWhole}
use Rattle.valid_unit_laws.proofs.object_initialiser_laws.static_value_laws.fixed_laws.Objects.{named_fixed}
use Rattle.valid_unit_laws.proofs.object_initialiser_laws.static_value_laws.fixed_laws.Declarators.{declarators_are}
use Rattle.valid_unit_laws.proofs.object_initialiser_laws.static_value_laws.fixed_laws.Literals.{literals_fixed}
use Rattle.valid_unit_laws.proofs.object_initialiser_laws.static_value_laws.fixed_laws.Standing.{is_static}

some_one : {X : Type 0} → {x y : X} → ◌≡◌ {A = Option X} (Some x) (Some y) → x ≡ y
some_one h = cc

-- a kind that initialises
initialise_of : (n : Numbering) (kind : NodeKind) (e : ℕ) (paths : List Path) → SameKind n kind (Initialise e paths) → (d : ℕ) × (kind ≡ Initialise d paths) × (n d ≡ Some e)
initialise_of n (Initialise d others) e paths h = (d, ap (Initialise d) h.1, h.0)
initialise_of n kind e paths h = cc

module _ (s : Source) (name : List ℕ) (u : Unit) (b : IsBuilt s name u) (each : (leaf : ℕ) → is_linked s (sense_in b.senses) leaf ≡ true → StandsLinked s (sense_in b.senses) leaf) (literals : LiteralsStatic s b.senses) (values : ValuesFixed s b.senses) (rows : InRows (trees_of u)) where
  one_fixed : (c : Core) (i : ℕ) → StandsBy b.numbering u i c → is_fixed (automatic_by s b.senses) c ≡ true → IsFixed (trees_of u) i
  one_fixed c i stands fixed = trees_fixed b.numbering u (automatic_by s b.senses) rows (is_static s name u b each literals) c i stands fixed

  list_fixed : (cs : Cores) (is : List ℕ) → AllStandBy b.numbering u is cs → all_fixed (automatic_by s b.senses) cs ≡ true → All (λ c. IsFixed (trees_of u) c) is
  list_fixed NoCores is stand fixed = subst (All (λ c. IsFixed (trees_of u) c)) (sym stand) (All-nil (λ c. IsFixed (trees_of u) c))
  list_fixed (MoreCores c rest) is (i, more, same, own, others) fixed =
      let two = and_parts (is_fixed (automatic_by s b.senses) c) _ fixed in
      subst (All (λ c. IsFixed (trees_of u) c)) (sym same) (All-cons (λ c. IsFixed (trees_of u) c) i more (one_fixed c i own two.0) (list_fixed rest more others two.1))

  static_fixed : (n e : ℕ) (paths : List Path) (node : Node) (entity : Entity) → slice_get u.nodes.items n ≡ Some node → node.kind ≡ Initialise e paths → entity_at (trees_of u) e ≡ Some entity → entity.body ≡ Some n → entity.storage ≡ Static
      → All (λ c. IsFixed (trees_of u) c) node.children
  static_fixed n e paths node entity at kind there body static =
      let m : Made s name u b e entity = made s name u b e entity there in
      by m m.what.body refl (subst (λ (o : Option ℕ). SameBody b.numbering u m.what.body o) body m.is.body)
    where
      of_core : (m : Made s name u b e entity) (c : Core) → m.what.body ≡ Some c → StandsBy b.numbering u n c → All (λ c. IsFixed (trees_of u) c) node.children
      of_core m (Of own place type under) has (stood, found, same, placed, typed, stand) =
          let one : stood ≡ node = some_one (sym found ∙ at) in
          let alike : SameKind b.numbering own (Initialise e paths) = subst (λ (k : NodeKind). SameKind b.numbering own k) (ap (λ (x : Node). x.kind) one ∙ kind) same in
          let (d, is, number) = initialise_of b.numbering own e paths alike in
          let leaf : d ≡ m.leaf = b.entity_once d m.leaf e number m.number in
          let whole : m.what.body ≡ Some (Of (Initialise m.leaf paths) place type under) = has ∙ ap (λ (k : NodeKind). Some (Of k place type under)) (is ∙ ap (λ (x : ℕ). Initialise x paths) leaf) in
          list_fixed under node.children (subst (λ (x : Node). AllStandBy b.numbering u x.children under) one stand)
          (values m.leaf m.what paths place type under m.declared (sym m.is.storage ∙ static) whole)

      by : (m : Made s name u b e entity) (o : Option Core) → m.what.body ≡ o → SameBody b.numbering u o (Some n) → All (λ c. IsFixed (trees_of u) c) node.children
      by m None has same = absurd same
      by m (Some c) has same = of_core m c has same

  initialises_it : (n e : ℕ) (paths : List Path) (node : Node) → slice_get u.nodes.items n ≡ Some node → node.kind ≡ Initialise e paths → Initialises (trees_of u) n e
  initialises_it n e paths node at kind = subst (λ (o : Option Node). InitialisesIn o e) (sym at) (subst (λ (k : NodeKind). InitialisesEntity k e) (sym kind) refl)

  lives_static : (o : Option Entity) (entity : Entity) → o ≡ Some entity → LivesForTheRun o → entity.storage ≡ Static
  lives_static None entity e h = absurd h
  lives_static (Some x) entity e h = subst (λ (y : Entity). y.storage ≡ Static) (some_one e) h

  node_fixed : (n : ℕ) (node : Node) (kind : NodeKind) → slice_get u.nodes.items n ≡ Some node → node.kind ≡ kind → HoldsFixed (trees_of u) kind node.children
  node_fixed n node (Initialise e paths) at is = λ lasting.
      let (entity, there, body) = b.initialises_once n e (initialises_it n e paths node at is) in
      static_fixed n e paths node entity at is there body (lives_static (entity_at (trees_of u) e) entity there lasting)
  node_fixed n node kind at is = tt

module _ (s : Source) (senses : List Sense) (objects : (leaf d : ℕ) (what : Declared) (paths : List Path) (place : Place) (type : Ctype) (values : Cores) → declared_name s senses leaf ≡ Some what → what.storage ≡ Static
    → what.body ≡ Some (Of (Initialise d paths) place type values) → all_fixed (automatic_by s senses) values ≡ true) (literals : LiteralValuesFixed s senses) where
  all_values : ValuesFixed s senses
  all_values leaf what paths place type values (inl is) static body = objects leaf leaf what paths place type values is static body
  all_values leaf what paths place type values (inr (c, literal, is)) static body =
      literals leaf c paths place type values literal (sym (ap (λ (x : Declared). x.storage) is) ∙ static) (sym (ap (λ (x : Declared). x.body) is) ∙ body)

pub fixed_whole : FixedWhole
fixed_whole tokens unit tree tag_number name u cut is b literals rows n node at =
    let s = numbered tag_number (source_of tokens tree) in
    let each = λ (leaf : ℕ). stands_linked s (tree_is tokens unit tree is tag_number) b.senses b.are_senses b.whole leaf in
    let objects = named_fixed s b.senses b.are_senses b.whole (grown tokens unit tree tag_number cut is) (placed tokens unit tree tag_number is) (units_bring tokens unit tree tag_number is) (units_ordered tokens unit tree tag_number cut is) (units_are_spanned tokens unit tree tag_number is) each (initialisers_found tokens unit tree tag_number cut is)
    (declarators_are s (grown tokens unit tree tag_number cut is) (units_bring tokens unit tree tag_number is)) in
    let values : LiteralValuesFixed s b.senses = literals_fixed s b.senses b.are_senses (units_ordered tokens unit tree tag_number cut is) (units_in_order tokens unit tree tag_number is) (units_families tokens unit tree tag_number cut is)
    (λ i part. block_parts tokens unit tree tag_number i is part) (λ d definition. definitions_declare tokens unit tree tag_number b.senses d cut is b.are_senses b.whole definition) in
    node_fixed s name u b each literals (all_values s b.senses objects values) rows n node node.kind at refl
