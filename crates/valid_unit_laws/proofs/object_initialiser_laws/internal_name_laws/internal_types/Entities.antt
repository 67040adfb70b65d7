-- The entity of an internal name, and its type.
use Rattle.std.proofs.Common.{◌≡◌, inl, inr, nat_eq, ℕ, Bool, true, false, List, [], ◌∷◌, slice_get, Option, Some, None, refl, sym, ap, ◌∙◌, subst}
use Rattle.std.specs.Prelude.{option_map, if◌then◌else◌}
use Rattle.std.proofs.lemmas.Bool.{eqb-true}
use Rattle.c_types.specs.Trees.{Ctype}
use Rattle.core_tree.specs.declared.node.Linkage.{Linkage}
use Rattle.core_tree.specs.declared.node.Linkage.TheVariants.{External, Internal, Local}
use Rattle.c_scope.specs.declared.kinds.Declared.{Declared}
use Rattle.c_senses.specs.Tree.{Source, is_name}
use Rattle.c_senses.specs.Limits.{is_function_type}
use Rattle.c_senses.specs.Entities.{is_linked, is_internal, is_internal_of, is_defined, internal_among, keep, first_of, linkage_of, entity_of, own_type, types_of, all_together}
use Rattle.c_senses.specs.Right.{of_internal, with_one, is_tentative, is_definition_at, representative}
use Rattle.c_senses.specs.Right as right
use Rattle.c_senses.specs.Sense.{Sense, sense_in}
use Rattle.declaration_laws.specs.declared_type_laws.passed.built_unit_laws.built_rows.Rows.{types_declared, literal_type}
use Rattle.declaration_laws.proofs.declared_type_laws.object_types.Typing.{is_named}
use Rattle.declaration_laws.specs.declared_type_laws.agreed_internals.PassedOn.{IsDeclaredOnce}
use Rattle.declaration_laws.proofs.declared_type_laws.agreed_internals.PassedOn.{In, kept_in}
use Rattle.declaration_laws.specs.declared_type_laws.agreed_internals.Agreeing.{AreAgreed}
use Rattle.declaration_laws.proofs.declared_type_laws.agreed_internals.Lists.{split_at}
use Rattle.declaration_laws.proofs.declared_type_laws.agreed_internals.Entities.{both, OfInternal, entry_at}
use Rattle.valid_unit_laws.specs.object_initialiser_laws.internal_name_laws.internal_types.Internal.{IsEntityType}
use Rattle.valid_unit_laws.proofs.object_initialiser_laws.internal_name_laws.internal_types.Belows.{some_whole}
use Rattle.valid_unit_laws.proofs.object_initialiser_laws.internal_name_laws.internal_types.Functions.{IsFunctionName}

some_one : {X : Type 0} → {x y : X} → ◌≡◌ {A = Option X} (Some x) (Some y) → x ≡ y
some_one h = cc

pub kept_from : (s : Source) (f : ℕ → Sense) (test : Declared → Bool) (ds : List Declared) (d : Declared) → In d (keep s f test ds) → In d ds
kept_from s f test ds d h = (kept_in s f test ds d h).0

-- the first of some declarations
pub first_is : (s : Source) (f : ℕ → Sense) (P : ℕ → Type 0) (leaf : ℕ) (ds : List Declared) → P leaf → ((d : Declared) → In d ds → P d.node) → P (first_of s f leaf ds)
first_is s f P leaf [] own each = own
first_is s f P leaf (d ∷ ds) own each = each d (inl refl)

module _ (s : Source) (senses : List Sense) (once : IsDeclaredOnce s senses) where
  abbrev G : ℕ → Sense
  G = sense_in senses

  abbrev ordinary : List Declared
  ordinary = s.declared.ordinary

  -- another name that has the same declarations
  pub record IsSame (leaf other : ℕ) : Type 0 where
    pub internal : is_internal s G other ≡ true
    pub all : of_internal s senses other ≡ of_internal s senses leaf

  -- a declaration of an internal name that has a symbol
  pub same_name : (leaf : ℕ) (of : OfInternal s senses once leaf) (d : Declared) → In d ordinary → is_internal s G d.node ≡ true → d.symbol ≡ of.entry.symbol → IsSame leaf d.node
  same_name leaf of d there internal symbol =
      let among : of_internal s senses leaf ≡ keep s G (is_internal_of s G of.entry.symbol) ordinary = ap (internal_among s G ordinary) of.at in
      let split = split_at ordinary d there in
      let alone = once.alone split.front d split.back split.are (both (is_linked s G d.node) _ internal).0 in
      record { internal = internal; all = ap (internal_among s G ordinary) alone.1 ∙ (ap (λ (k : ℕ). keep s G (is_internal_of s G k) ordinary) symbol ∙ sym among) }

  pub one_of_name : (leaf : ℕ) (of : OfInternal s senses once leaf) (d : Declared) → In d (of_internal s senses leaf) → IsSame leaf d.node
  one_of_name leaf of d h =
      let among : of_internal s senses leaf ≡ keep s G (is_internal_of s G of.entry.symbol) ordinary = ap (internal_among s G ordinary) of.at in
      let found = kept_in s G (is_internal_of s G of.entry.symbol) ordinary d (subst (In d) among h) in
      let parts = both (nat_eq d.symbol of.entry.symbol) (is_internal s G d.node) found.1 in
      same_name leaf of d found.0 parts.1 (eqb-true d.symbol of.entry.symbol parts.0)

  -- names with the same declarations have one entity
  pub same_entity : (leaf other : ℕ) → is_internal s G leaf ≡ true → IsSame leaf other → (k : ℕ) (t : Ctype) → slice_get (types_of s G (of_internal s senses leaf)) k ≡ Some t → entity_of s G other ≡ entity_of s G leaf
  same_entity leaf other internal same k t at = by (of_internal s senses leaf) refl at
    where
      of_leaf : entity_of s G leaf ≡ first_of s G leaf (of_internal s senses leaf)
      of_leaf = ap (λ (b : Bool). if b then first_of s G leaf (of_internal s senses leaf) else leaf) internal

      of_other : entity_of s G other ≡ first_of s G other (of_internal s senses leaf)
      of_other = ap (λ (b : Bool). if b then first_of s G other (of_internal s senses other) else other) same.internal ∙ ap (first_of s G other) same.all

      by : (ds : List Declared) → of_internal s senses leaf ≡ ds → slice_get (types_of s G ds) k ≡ Some t → entity_of s G other ≡ entity_of s G leaf
      by [] e h = cc
      by (d ∷ ds) e h = of_other ∙ (ap (first_of s G other) e ∙ sym (of_leaf ∙ ap (first_of s G leaf) e))

  module _ (agreed : AreAgreed s senses) (function : (leaf : ℕ) → is_linked s (sense_in senses) leaf ≡ true → is_defined s (sense_in senses) leaf ≡ true → IsFunctionName s senses leaf) where
    -- the type of an internal name is one of those that its declarations give
    pub record HasType (leaf : ℕ) : Type 0 where
      pub type : Ctype
      pub own : own_type s G leaf ≡ Some type
      pub place : ℕ
      pub at : slice_get (types_of s G (of_internal s senses leaf)) place ≡ Some type

    pub has_type : (leaf : ℕ) → is_internal s G leaf ≡ true → HasType leaf
    has_type leaf internal =
        let linked = (both (is_linked s G leaf) _ internal).0 in
        let stands = once.stands leaf linked in
        let own = once.own leaf stands.0 stands.3 linked in
        let found = agreed.one_of leaf _ internal own in
        record { type = _; own = own; place = found.0; at = found.1 }

    -- what stands for it is one of its declarations
    represents : (e : ℕ) → is_internal s G e ≡ true → OfInternal s senses once e → IsSame e (representative s senses e)
    represents e internal of =
        let linkage : linkage_of s G e ≡ Internal = ap (λ (b : Bool). if b then Internal else (if is_linked s G e then External else Local)) internal in
        let all : List Declared = of_internal s senses e in
        let tentative : ℕ = first_of s G e (keep s G (is_tentative s senses) (of_internal s senses e)) in
        let same : representative s senses e ≡ first_of s G tentative (keep s G (is_definition_at s senses) (of_internal s senses e)) =
        ap (λ (l : Linkage). elim l as (λ _. ℕ) [ Internal ↦ first_of s G tentative (keep s G (is_definition_at s senses) (of_internal s senses e)) | _ ↦ e ]) linkage in
        let itself : IsSame e e = record { internal = internal; all = refl } in
        let first : IsSame e tentative = first_is s G (IsSame e) e (keep s G (is_tentative s senses) (of_internal s senses e)) itself (λ d h. one_of_name e of d (kept_from s G (is_tentative s senses) (of_internal s senses e) d h)) in
        subst (IsSame e) (sym same)
        (first_is s G (IsSame e) tentative (keep s G (is_definition_at s senses) (of_internal s senses e)) first (λ d h. one_of_name e of d (kept_from s G (is_definition_at s senses) (of_internal s senses e) d h)))

    -- the type by which it is declared
    declared_by : (e : ℕ) → is_internal s G e ≡ true → types_declared s senses e ≡ right.internal_type s senses e
    declared_by e internal =
        let stands = once.stands e (both (is_linked s G e) _ internal).0 in
        let named : is_name s e ≡ true = is_named s stands.0 e stands.3.named in
        let linkage : linkage_of s G e ≡ Internal = ap (λ (b : Bool). if b then Internal else (if is_linked s G e then External else Local)) internal in
        ap (λ (b : Bool). if b then right.entity_type s senses e else literal_type s senses e) named
        ∙ ap (λ (l : Linkage). elim l as (λ _. Option Ctype) [ Internal ↦ right.internal_type s senses e | _ ↦ own_type s G e ]) linkage

    entity_type : (leaf : ℕ) → is_internal s G leaf ≡ true → (e : ℕ) → entity_of s G leaf ≡ e → is_internal s G e ≡ true → of_internal s senses e ≡ of_internal s senses leaf → IsEntityType s senses leaf
    entity_type leaf internal e is own all = by (is_defined s G (representative s senses e)) refl
      where
        given : (w : Ctype) × (all_together None (types_of s G (of_internal s senses leaf)) ≡ Some w)
        given = let h = has_type leaf internal in some_whole (types_of s G (of_internal s senses leaf)) h.place h.type h.at

        told : types_declared s senses (entity_of s G leaf) ≡ right.internal_type s senses e
        told = ap (types_declared s senses) is ∙ declared_by e own

        by : (b : Bool) → is_defined s G (representative s senses e) ≡ b → IsEntityType s senses leaf
        by true defined =
            let same = represents e own (entry_at s senses once e own) in
            let h = has_type (representative s senses e) same.internal in
            let f = function (representative s senses e) (both (is_linked s G (representative s senses e)) _ same.internal).0 defined in
            let type_same : h.type ≡ f.type = some_one (sym h.own ∙ f.own) in
            record {
              whole = given.0;
              all = given.1;
              type = h.type;
              declared = told ∙ (ap (λ (b : Bool). if b then own_type s G (representative s senses e) else option_map (with_one s senses) (all_together None (types_of s G (of_internal s senses e)))) defined ∙ h.own);
              which = inr (h.place, ap (λ (ds : List Declared). slice_get (types_of s G ds) h.place) (sym (same.all ∙ all)) ∙ h.at, ap is_function_type type_same ∙ f.is);
            }
        by false none =
            record {
              whole = given.0;
              all = given.1;
              type = with_one s senses given.0;
              declared = told
                  ∙ (ap (λ (b : Bool). if b then own_type s G (representative s senses e) else option_map (with_one s senses) (all_together None (types_of s G (of_internal s senses e)))) none
                  ∙ (ap (λ (ds : List Declared). option_map (with_one s senses) (all_together None (types_of s G ds))) all ∙ ap (option_map (with_one s senses)) given.1));
              which = inl refl;
            }

    pub entity_typed : (leaf : ℕ) → is_internal s G leaf ≡ true → IsEntityType s senses leaf
    entity_typed leaf internal = let known = agreed.entity leaf internal in entity_type leaf internal (entity_of s G leaf) refl known.0 known.1

    -- an internal function that is known by its definition has the type that this gives it
    pub definition_typed : (leaf : ℕ) → is_internal s G leaf ≡ true → representative s senses (entity_of s G leaf) ≡ leaf → is_defined s G leaf ≡ true → types_declared s senses (entity_of s G leaf) ≡ own_type s G leaf
    definition_typed leaf internal represents defined =
        let e : ℕ = entity_of s G leaf in
        declared_by e (agreed.entity leaf internal).0
        ∙ (ap (λ (k : ℕ). if is_defined s G k then own_type s G k else option_map (with_one s senses) (all_together None (types_of s G (of_internal s senses (entity_of s G leaf))))) represents
        ∙ ap (λ (b : Bool). if b then own_type s G leaf else option_map (with_one s senses) (all_together None (types_of s G (of_internal s senses (entity_of s G leaf))))) defined)
