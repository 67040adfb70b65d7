-- Uses in the units that are built of texts.
use Rattle.std.proofs.Common.{◌≡◌, ℕ, Bool, true, false, List, Option, Some, None, take, slice_get, refl, sym, ap, ◌∙◌, subst, inl, inr}
use Rattle.std.specs.Prelude.{option_map, if◌then◌else◌}
use Rattle.std.proofs.lemmas.Option.{slice_get_within}
use Rattle.pta_base.specs.declared.place.Place.{Place}
use Rattle.c_types.specs.Trees.{Ctype}
use Rattle.c_types.specs.Table.{type_of}
use Rattle.core_tree.specs.declared.node.Unit.{Unit}
use Rattle.core_tree.specs.declared.node.Node.{Node}
use Rattle.core_tree.specs.declared.node.Entity.{Entity}
use Rattle.core_tree.specs.declared.node.NodeKind.{NodeKind}
use Rattle.core_tree.specs.declared.node.NodeKind.TheVariants.{Named, FunctionName}
use Rattle.core_tree.specs.declared.node.Linkage.TheVariants.{External, Local}
use Rattle.core_tree.specs.Typed.{trees_of}
use Rattle.core_tree.specs.Range.{entity_at}
use Rattle.core_tree.specs.Linkages.{IsOfDeclared, IsDeclaredAs, IsUseIn, UsesDeclared}
use Rattle.c_consts.specs.Core.{Core, Cores, Of}
use Rattle.c_senses.specs.Tree.{Source, spelling_at}
use Rattle.c_senses.specs.Names.{source_of, numbered}
use Rattle.c_senses.specs.Entities.{linkage_of}
use Rattle.c_senses.specs.Sense.{Sense, sense_in}
use Rattle.c_senses.specs.Rows.{world_at}
use Rattle.c_senses.specs.Right.{SameKind, StandsBy, IsDeclaredAt, declared_name, declared_as, declares_entity, entity_type}
use Rattle.c_senses.specs.Right as right
use Rattle.core_node_laws.specs.built_unit_laws.passed.core_node_laws.literal_nodes.Holding.{Holds, OfSense, RowGives}
use Rattle.core_node_laws.proofs.built_unit_laws.passed.core_node_laws.literal_nodes.All.{all_kept}
use Rattle.core_node_laws.proofs.count_laws.passed.parsed_tree_laws.family_laws.Reading.{units_families}
use Rattle.core_node_laws.proofs.count_laws.passed.parsed_tree_laws.member_names.Order.{units_in_order}
use Rattle.declaration_laws.specs.declared_type_laws.owner_laws.passed.definition_laws.scope_laws.Scoped.{Rooted}
use Rattle.declaration_laws.proofs.declared_type_laws.owner_laws.passed.definition_laws.scope_laws.Whole.{names_declared_once}
use Rattle.core_node_laws.proofs.count_laws.passed.parsed_tree_laws.grown_parts.Reading.{units_bring}
use Rattle.core_node_laws.proofs.count_laws.passed.parsed_tree_laws.sign_parts.Reading as sign_parts
use Rattle.core_node_laws.proofs.count_laws.passed.parsed_tree_laws.span_laws.Whole.{units_are_spanned}
use Rattle.declaration_laws.proofs.name_order.Ordered.{units_ordered}
use Rattle.declaration_laws.proofs.declared_type_laws.owner_laws.passed.definition_laws.linkage_laws.Reading.{tree_is}
use Rattle.declaration_laws.proofs.declared_type_laws.owner_laws.internal_laws.Reading.{only}
use Rattle.declaration_laws.proofs.declared_type_laws.known_entities.Known.{declared_at, entities_known}
use Rattle.declaration_laws.proofs.declared_type_laws.seen_onward.Reading.{shape, seen_onward}
use Rattle.core_node_laws.specs.built_unit_laws.built_units.Built.{IsBuilt}
use Rattle.core_node_laws.specs.built_unit_laws.built_laws.Placed.{Stands}
use Rattle.core_node_laws.proofs.built_unit_laws.built_laws.Placed.{IsMade, made, nodes_stand}
use Rattle.core_node_laws.proofs.built_unit_laws.unlinked_laws.Inside.{in_body_holds}
use Rattle.declaration_laws.specs.declared_type_laws.declared_uses.Uses.{UsesAreDeclared}
use Rattle.declaration_laws.proofs.declared_type_laws.declared_uses.Asked.{Text}
use Rattle.declaration_laws.proofs.declared_type_laws.declared_uses.Used.{HasDeclaration, IsUsed, KindUsed, CoreUsed, meaning_used}

some_one : {X : Type 0} → {x y : X} → ◌≡◌ {A = Option X} (Some x) (Some y) → x ≡ y
some_one h = cc

none_some : {X : Type 0} → {x : X} → ◌≡◌ {A = Option X} None (Some x) → ⊥
none_some h = cc

module _ (s : Source) (name : List ℕ) (u : Unit) (b : IsBuilt s name u) (text : Text s b.senses) where
  abbrev senses : List Sense
  senses = b.senses

  row_gives : (n : ℕ) → RowGives (CoreUsed s b.senses) (world_at s (take n b.senses) n) s (sense_in (take n b.senses))
  row_gives n = record {
    names = λ leaf. meaning_used s b.senses text n leaf;
    objects = λ leaf at paths values fixed. tt;
    initials = λ at p paths values over fixed. tt;
    literals = λ p type initial over. tt;
  }

  all : (i : ℕ) → OfSense (CoreUsed s b.senses) (sense_in b.senses i)
  all i = all_kept (CoreUsed s b.senses) s b.senses b.are_senses (λ n lt. row_gives n) i

  -- what is declared by a name
  as_declared : (d : ℕ) (x : Bool) (o : Option Ctype) (what : right.Declared) → (if x then option_map (declared_as s b.senses d) o else None) ≡ Some what → (what.linkage ≡ linkage_of s (sense_in b.senses) d) × (what.name ≡ spelling_at s d)
  as_declared d false o what e = absurd (none_some e)
  as_declared d true None what e = absurd (none_some e)
  as_declared d true (Some t) what e = let same : declared_as s b.senses d t ≡ what = some_one e in (sym (ap (λ (w : right.Declared). w.linkage) same), sym (ap (λ (w : right.Declared). w.name) same))

  use_in : (d e : ℕ) (t : Ctype) → b.numbering d ≡ Some e → IsUsed s b.senses d t → (o : Option Entity) → entity_at (trees_of u) e ≡ o → IsUseIn (trees_of u) t o
  use_in d e t number used None at =
      let (leaf, what, is, numbered) = b.no_other_entity e (b.numbered d e number) in
      let (f, entity, same, there, entered) = b.each_declared leaf what is in
      let one : f ≡ e = some_one (sym same ∙ numbered) in
      absurd (none_some (sym at ∙ (ap (λ (i : ℕ). entity_at (trees_of u) i) (sym one) ∙ there)))
  use_in d e t number used (Some entity) at = λ external. by external (made s name u b e entity at)
    where
      found : (what : right.Declared) → entity.name ≡ what.name → (what.linkage ≡ linkage_of s (sense_in b.senses) d) × (what.name ≡ spelling_at s d) → what.linkage ≡ External → IsDeclaredAs (trees_of u) entity.name t
      found what named told external =
          let h : HasDeclaration s b.senses d t = used (sym told.0 ∙ external) in
          let (f, other, number, there, is) = b.each_declared h.leaf h.what (inl h.declared) in
          record { some = (f, other, there, (is.linkage ∙ h.linkage, is.name ∙ (h.spelling ∙ (sym told.1 ∙ sym named)), subst (λ (x : Ctype). IsOfDeclared x t) (sym is.type) h.type)) }

      by : entity.linkage ≡ External → IsMade s b.senses b.numbering u e entity → IsDeclaredAs (trees_of u) entity.name t
      by external m = pick m.declared
        where
          same : m.leaf ≡ d
          same = b.entity_once m.leaf d e m.number number

          pick : IsDeclaredAt s b.senses m.leaf m.what → IsDeclaredAs (trees_of u) entity.name t
          pick (inl is) =
              found m.what m.is.name (as_declared d (declares_entity s b.senses d) (entity_type s b.senses d) m.what (subst (λ (k : ℕ). declared_name s b.senses k ≡ Some m.what) same is)) (sym m.is.linkage ∙ external)
          pick (inr literal) = absurd (let bad : External ≡ Local = sym external ∙ (m.is.linkage ∙ ap (λ (w : right.Declared). w.linkage) literal.2) in cc)

  kind_used : (kind other : NodeKind) (t : Ctype) → KindUsed s b.senses kind t → SameKind b.numbering kind other → UsesDeclared (trees_of u) t other
  kind_used (Named d) (Named e) t used same = use_in d e t same used (entity_at (trees_of u) e) refl
  kind_used (FunctionName d) (FunctionName e) t used same = use_in d e t same used (entity_at (trees_of u) e) refl
  kind_used kind (Named e) t used same = absurd (cc)
  kind_used kind (FunctionName e) t used same = absurd (cc)
  kind_used kind other t used same = tt

  of_core : (kind : NodeKind) (place : Place) (type : Ctype) (under : Cores) → Holds (CoreUsed s b.senses) (Of kind place type under) → KindUsed s b.senses kind type
  of_core (Named d) place type under h = h.0
  of_core (FunctionName d) place type under h = h.0
  of_core kind place type under h = tt

  pub node_used : (i : ℕ) (node : Node) → slice_get u.nodes.items i ≡ Some node → UsesDeclared (trees_of u) (type_of u.types node.ty.0) node.kind
  node_used i node at =
      let h : Stands s b.senses b.numbering u i = nodes_stand s name u b i (slice_get_within u.nodes.items i node at) in
      by h.tree h.by (in_body_holds (CoreUsed s b.senses) s b.senses all h.tree h.in_body)
    where
      by : (c : Core) → StandsBy b.numbering u i c → Holds (CoreUsed s b.senses) c → UsesDeclared (trees_of u) (type_of u.types node.ty.0) node.kind
      by (Of kind place type under) stands holds =
          let same : stands.0 ≡ node = some_one (sym stands.1 ∙ at) in
          let own : type_of u.types node.ty.0 ≡ type = ap (λ (x : Node). type_of u.types x.ty.0) (sym same) ∙ stands.4 in
          subst (λ (x : Ctype). UsesDeclared (trees_of u) x node.kind) (sym own) (kind_used kind node.kind type (of_core kind place type under holds) (subst (λ (x : Node). SameKind b.numbering kind x.kind) same stands.2))

pub uses_declared : UsesAreDeclared
unfolding source_of
uses_declared tokens unit tree tag_number name u cut is b i node at =
    let s = numbered tag_number (source_of tokens tree) in
    let t = tree_is tokens unit tree is tag_number in
    let families = units_families tokens unit tree tag_number cut is in
    let order = units_in_order tokens unit tree tag_number is in
    let rooted : Rooted s = record { before = t.grown.before; single = t.grown.once; externals = t.nested.externals; units = t.nested.units } in
    node_used s name u b (record {
      are = b.are_senses;
      whole = b.whole;
      tree = t;
      brought = units_bring tokens unit tree tag_number is;
      ordered = units_ordered tokens unit tree tag_number cut is;
      once = names_declared_once tokens tree tag_number rooted;
      sees = seen_onward tokens unit tree tag_number cut is;
      shape = shape s t (units_are_spanned tokens unit tree tag_number is) (sign_parts.units_bring tokens unit tree tag_number is);
      known = λ leaf m k outer le. entities_known tokens unit tree tag_number b.senses cut is leaf m k outer le;
      outer = λ y h linked. declared_at s t families order (λ q k ks which e. only tokens unit tree is q k ks which e) b.senses 0 y h linked;
    }) i node at
