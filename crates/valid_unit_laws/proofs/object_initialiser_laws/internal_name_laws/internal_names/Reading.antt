-- Internal names fit in the units that are read.
use Rattle.std.proofs.Common.{◌≡◌, ◌<◌, ◌&&◌, ◌||◌, ◌⊎◌, inl, inr, ℕ, Bool, true, false, List, ◌∷◌, length, Option, Some, None, eq-eqb, refl, sym, ap, ◌∙◌, subst}
use Rattle.std.specs.Prelude.{option_and_then, if◌then◌else◌}
use Rattle.c_types.specs.Trees.{Ctype, FunctionFrom}
use Rattle.c_types.specs.declared.term.Form.{Form}
use Rattle.core_tree.specs.declared.node.Linkage.{Linkage}
use Rattle.core_tree.specs.declared.node.Linkage.TheVariants.{External, Internal, Local}
use Rattle.c_grammar.specs.Productions.{p_primary}
use Rattle.c_grammar.specs.Terminals.{contains}
use Rattle.c_scope.specs.declared.kinds.Declared.{Declared}
use Rattle.c_senses.specs.Tree.{Source, is_a, is_name, children_at, paired}
use Rattle.c_senses.specs.Names.{source_of, numbered, has_linkage, ordinary_at}
use Rattle.c_senses.specs.World.{Meaning}
use Rattle.c_senses.specs.Entities.{is_linked, is_internal, is_defined, internal_among, first_of, own_type, has_earlier_length, meaning_of, type_behind, entity_of, named_by}
use Rattle.c_senses.specs.Right.{representative}
use Rattle.c_senses.specs.Right as right
use Rattle.c_senses.specs.Sense.{Sense, sense_in}
use Rattle.c_senses.specs.Rows.{AreSenses}
use Rattle.parsed_tree_laws.specs.sense_laws.Sound.{AgreesWith, MeaningFits, IsVariadicOf}
use Rattle.declaration_laws.specs.function_laws.passed.definition_laws.scope_laws.Scoped.{DeclaredOnce}
use Rattle.declaration_laws.proofs.function_laws.passed.definition_laws.scope_laws.Whole.{names_declared_once}
use Rattle.parsed_tree_laws.proofs.placed_laws.Climbing.{Grown}
use Rattle.core_node_laws.specs.standing_laws.Standing.{IsGrown}
use Rattle.parsed_tree_laws.specs.grown_parts.Parts.{IsBrought}
use Rattle.parsed_tree_laws.proofs.grown_parts.Reading.{units_bring}
use Rattle.declaration_laws.specs.name_order.Order.{IsOrdered}
use Rattle.declaration_laws.proofs.name_order.Ordered.{units_ordered}
use Rattle.declaration_laws.proofs.function_laws.body_returns.Built.{grown}
use Rattle.declaration_laws.specs.function_laws.passed.definition_laws.linkage_laws.Linked.{StandsLinked}
use Rattle.declaration_laws.proofs.function_laws.passed.definition_laws.linkage_laws.Linked.{stands_linked}
use Rattle.declaration_laws.proofs.function_laws.passed.definition_laws.linkage_laws.Reading.{tree_is}
use Rattle.declaration_laws.proofs.declared_type_laws.passed.built_unit_laws.run_laws.Times.{known_at, world_of}
use Rattle.declaration_laws.proofs.declared_type_laws.plain_names.Fitting.{SomeFits, meaning_fits, found_node}
use Rattle.declaration_laws.specs.declared_type_laws.passed.built_unit_laws.built_rows.Rows.{types_declared, literal_type}
use Rattle.declaration_laws.specs.declared_type_laws.known_entities.Further.{IsFurther}
use Rattle.declaration_laws.proofs.declared_type_laws.known_entities.Further.{further_found}
use Rattle.declaration_laws.specs.function_laws.passed.definition_laws.Definitions.{is_definition}
use Rattle.declaration_laws.specs.declared_type_laws.declared_once.PassedOn.{AreSettled}
use Rattle.declaration_laws.proofs.declared_type_laws.declared_once.PassedOn.{types_settled}
use Rattle.declaration_laws.specs.declared_type_laws.declared_once.Once.{IsDeclaredOnce}
use Rattle.declaration_laws.proofs.declared_type_laws.declared_once.Knowing.{In, declared_once}
use Rattle.valid_unit_laws.specs.object_initialiser_laws.internal_name_laws.internal_types.PassedOn.{AreAgreed}
use Rattle.valid_unit_laws.proofs.object_initialiser_laws.internal_name_laws.internal_types.PassedOn.{internals_agree}
use Rattle.valid_unit_laws.proofs.object_initialiser_laws.internal_name_laws.internal_types.PassedOn.{found_at, behind_front}
use Rattle.declaration_laws.specs.declared_type_laws.linked_scopes.Scoped.{AreScoped}
use Rattle.declaration_laws.proofs.declared_type_laws.linked_scopes.Reading.{linked_scoped}
use Rattle.valid_unit_laws.specs.object_initialiser_laws.internal_name_laws.internal_types.Internal.{IsEntityType}
use Rattle.valid_unit_laws.proofs.object_initialiser_laws.internal_name_laws.internal_types.Reading.{entity_types_known, internals_initialised, internals_typed}
use Rattle.valid_unit_laws.specs.object_initialiser_laws.internal_name_laws.internal_names.Fitting.{InternalsFit}
use Rattle.valid_unit_laws.proofs.object_initialiser_laws.internal_name_laws.internal_names.Order.{used}
use Rattle.valid_unit_laws.proofs.object_initialiser_laws.internal_name_laws.internal_names.Seen.{Entry, entry, row}
use Rattle.valid_unit_laws.proofs.object_initialiser_laws.internal_name_laws.internal_names.Names.{internal_fits}
use Rattle.valid_unit_laws.proofs.object_initialiser_laws.internal_name_laws.internal_names.Earlier.{earlier_fits}

head_in : (l : List ℕ) (first : ℕ) (rest : List ℕ) → l ≡ first ∷ rest → contains l first ≡ true
head_in l first rest e = ap (λ (k : List ℕ). contains k first) e ∙ ap (λ (b : Bool). b || contains rest first) (eq-eqb first first refl)

module _ (s : Source) (tree : Grown s) (grew : IsGrown s) (brought : IsBrought s) (ordered : IsOrdered s) (settled : AreSettled s) (names_once : DeclaredOnce s) (scoped : AreScoped s) (senses : List Sense) (are : AreSenses s senses) (whole : length senses ≡ length s.nodes)
    (once : IsDeclaredOnce s senses) (stands : (leaf : ℕ) → is_linked s (sense_in senses) leaf ≡ true → StandsLinked s (sense_in senses) leaf) (agreed : AreAgreed s senses) (typed : (leaf : ℕ) → is_internal s (sense_in senses) leaf ≡ true → IsEntityType s senses leaf) where
  abbrev G : ℕ → Sense
  G = sense_in senses

  abbrev F : ℕ → ℕ → Sense
  F n = known_at s senses n

  entry_of_name : (x : ℕ) (o : Option Declared) → ordinary_at s x ≡ o → (elim o as (λ _. Bool) [ None ↦ false | Some d ↦ has_linkage d ]) ≡ true → (d : Declared) × (d.node ≡ x) × Entry s tree names_once scoped senses are whole once stands d
  entry_of_name x None at h = cc
  entry_of_name x (Some d) at h =
      let found = found_at s.declared.ordinary x d at in
      (d, found_node s.declared.ordinary x d at, entry s tree names_once scoped senses are whole once stands d (subst (In d) (sym found.1) (behind_front _ d found.0)) h)

  name_fits : (i first : ℕ) (rest : List ℕ) (d : Declared) (e : Entry s tree names_once scoped senses are whole once stands d) (m : Meaning) → is_a s p_primary i ≡ true → children_at s i ≡ first ∷ rest → paired s.uses first ≡ Some d.node
      → (is_internal s G d.node ≡ true) ⊎ (has_earlier_length s (F i) d.node ≡ true) → meaning_of s (F i) d.node ≡ Some m → MeaningFits (types_declared s senses) m
  name_fits i first rest d e m primary children pair which means =
      subst (SomeFits (types_declared s senses)) means (meaning_fits s (F i) (types_declared s senses) d.node (λ t behind. by (is_internal s G d.node) refl which t behind))
    where
      before : (row s tree names_once scoped senses are whole once stands d e).declarator < i
      before = let r = row s tree names_once scoped senses are whole once stands d e in used s tree brought ordered d.node r.declarator i first d e.at e.links r.one.outermost pair primary (head_in (children_at s i) first rest children)

      by : (b : Bool) → is_internal s G d.node ≡ b → (is_internal s G d.node ≡ true) ⊎ (has_earlier_length s (F i) d.node ≡ true) → (t : Ctype) → type_behind s (F i) d.node ≡ Some t
          → AgreesWith (types_declared s senses (entity_of s (F i) (named_by s (F i) d.node))) t
      by true internal h t behind = internal_fits s tree brought ordered names_once scoped senses are whole once stands agreed typed d e internal i before t behind
      by false external (inl internal) t behind = absurd (let bad : true ≡ false = sym internal ∙ external in cc)
      by false external (inr waits) t behind = earlier_fits s tree grew brought ordered settled names_once scoped senses are whole once stands d e external i before waits t behind

  pub names_fit : (i first : ℕ) (rest : List ℕ) (x : ℕ) (m : Meaning) → is_a s p_primary i ≡ true → children_at s i ≡ first ∷ rest → paired s.uses first ≡ Some x → is_linked s G x ≡ true
      → (is_internal s G x ≡ true) ⊎ (has_earlier_length s (F i) x ≡ true) → (world_of s senses i).meaning first ≡ Some m → MeaningFits (types_declared s senses) m
  names_fit i first rest x m primary children pair linked which means = of (entry_of_name x (ordinary_at s x) refl linked)
    where
      meant : meaning_of s (F i) x ≡ Some m
      meant = sym (ap (option_and_then (meaning_of s (F i))) pair) ∙ means

      of : (d : Declared) × (d.node ≡ x) × Entry s tree names_once scoped senses are whole once stands d → MeaningFits (types_declared s senses) m
      of (d, node, e) =
          name_fits i first rest d e m primary children (pair ∙ ap Some (sym node))
          (subst (λ (k : ℕ). (is_internal s G k ≡ true) ⊎ (has_earlier_length s (F i) k ≡ true)) (sym node) which) (ap (meaning_of s (F i)) node ∙ meant)

-- the entity of a variadic function whose last parameter is found has a variadic type
further_variadic : (s : Source) (senses : List Sense) → ((leaf : ℕ) → is_internal s (sense_in senses) leaf ≡ true → representative s senses (entity_of s (sense_in senses) leaf) ≡ leaf → is_defined s (sense_in senses) leaf ≡ true
    → types_declared s senses (entity_of s (sense_in senses) leaf) ≡ own_type s (sense_in senses) leaf)
    → (at leaf function : ℕ) → IsFurther s senses at leaf function → IsVariadicOf (types_declared s senses function)
further_variadic s senses internals at leaf function x =
    subst IsVariadicOf (sym (ap (types_declared s senses) (sym x.entity) ∙ (own (is_internal s G name) refl ∙ (x.defines.type ∙ ap (λ (form : Form). Some (FunctionFrom x.defines.result x.defines.parameters form)) x.form)))) tt
  where
    G : ℕ → Sense
    G = sense_in senses

    name : ℕ
    name = x.defines.name

    parts : (a b : Bool) → (a && b) ≡ true → a ≡ true
    parts true b e = refl
    parts false b e = cc

    defined : is_defined s G name ≡ true
    defined = ap (λ (o : Option ℕ). elim o as (λ _. Bool) [ None ↦ false | Some p ↦ is_definition s p ]) x.defines.declaration ∙ x.is

    own : (b : Bool) → is_internal s G name ≡ b → types_declared s senses (entity_of s G name) ≡ own_type s G name
    own true internal = internals name internal (x.represents internal) defined
    own false plain =
        ap (types_declared s senses) (ap (λ (b : Bool). if b then first_of s G name (internal_among s G s.declared.ordinary (ordinary_at s name)) else name) plain)
        ∙ (ap (λ (b : Bool). if b then right.entity_type s senses name else literal_type s senses name) (parts (is_name s name) _ x.defines.declaring)
        ∙ ap (λ (l : Linkage). elim l as (λ _. Option Ctype) [ Internal ↦ right.internal_type s senses name | _ ↦ own_type s G name ])
        (ap (λ (b : Bool). if b then Internal else (if is_linked s G name then External else Local)) plain ∙ ap (λ (b : Bool). if b then External else Local) x.defines.linked))

pub internals_fit : InternalsFit
internals_fit tokens unit tree tag_number senses cut is are whole =
    let s : Source = numbered tag_number (source_of tokens tree) in
    let t = tree_is tokens unit tree is tag_number in
    let once = declared_once tokens unit tree tag_number senses cut is are whole in
    record {
      names = λ i first rest x m lt primary children pair linked which means.
          names_fit s t.grown (grown tokens unit tree tag_number cut is) (units_bring tokens unit tree tag_number is) (units_ordered tokens unit tree tag_number cut is) (types_settled tokens unit tree tag_number cut is)
          (names_declared_once tokens tree tag_number (record { before = t.grown.before; single = t.grown.once; externals = t.nested.externals; units = t.nested.units })) (linked_scoped tokens unit tree tag_number cut is) senses are whole once
          (λ k h. stands_linked s t senses are whole k h) (internals_agree tokens unit tree tag_number senses cut is are whole) (λ k h. entity_types_known tokens unit tree tag_number senses cut is are whole k h) i first rest x m primary children pair linked which means;
      further = λ i lt primary leaf function found.
          further_variadic s senses (λ k internal represents defined. internals_typed tokens unit tree tag_number senses cut is are whole k internal represents defined) i leaf function
          (further_found tokens unit tree tag_number senses cut is are whole i leaf function found);
      internals = internals_initialised tokens unit tree tag_number senses cut is are whole;
    }
