-- Names with linkage have entities that are declared.
use Rattle.std.proofs.Common.{◌≡◌, ◌∙◌, ℕ, Bool, true, false, List, [], ◌∷◌, length, slice_get, Some, None, refl, sym, ap, subst}
use Rattle.std.specs.Prelude.{option_map, if◌then◌else◌}
use Rattle.c_lexer.specs.declared.Tokens.{Tokens}
use Rattle.c_lexer.specs.Cut.{IsTokens}
use Rattle.c_grammar.specs.declared.trees.Tree.{Tree}
use Rattle.c_scope.specs.declared.kinds.Declared.{Declared as Declaration}
use Rattle.c_parser.specs.c_units.Units.{IsUnit}
use Rattle.c_types.specs.Trees.{Ctype}
use Rattle.core_tree.specs.declared.node.Linkage.TheVariants.{External, Internal, Local}
use Rattle.c_senses.specs.Names.{source_of, numbered, ordinary_at}
use Rattle.c_senses.specs.Tree.{Source, is_name}
use Rattle.c_senses.specs.Sense.{Sense, sense_in}
use Rattle.c_senses.specs.Rows.{AreSenses}
use Rattle.c_senses.specs.Entities.{first_of, internal_among, is_internal, is_linked, is_defined, linkage_of, entity_of, own_type, all_together, together, types_of}
use Rattle.c_senses.specs.Right.{of_internal, with_one, representative, internal_type}
use Rattle.declaration_laws.proofs.function_laws.passed.definition_laws.linkage_laws.Linked as linked
use Rattle.declaration_laws.proofs.function_laws.passed.definition_laws.linkage_laws.Reading.{tree_is}
use Rattle.declaration_laws.proofs.function_laws.passed.definition_laws.linkage_laws.Unlinked.{stands_for}
use Rattle.declaration_laws.specs.declared_type_laws.agreed_internals.PassedOn.{IsDeclaredOnce}
use Rattle.declaration_laws.proofs.declared_type_laws.agreed_internals.PassedOn.{declared_once}
use Rattle.declaration_laws.specs.declared_type_laws.agreed_internals.Agreeing.{AreAgreed}
use Rattle.declaration_laws.proofs.declared_type_laws.agreed_internals.Agreeing.{internals_agree}
use Rattle.valid_unit_laws.specs.body_node_laws.parts_named.Named.{IsDeclared}
use Rattle.valid_unit_laws.proofs.body_node_laws.parts_named.Owners.{both, declared_with, typed, named_name}

-- types together are one where there are any
all_some : (a : Ctype) (ts : List Ctype) → (b : Ctype) × (all_together (Some a) ts ≡ Some b)
all_some a [] = (a, refl)
all_some a (t ∷ ts) = all_some (together a t) ts

any_some : (ts : List Ctype) (k : ℕ) (t : Ctype) → slice_get ts k ≡ Some t → (b : Ctype) × (all_together None ts ≡ Some b)
any_some [] k t e = cc
any_some (x ∷ ts) k t e = all_some x ts

module _ (tokens : Tokens) (unit : ℕ) (tree : Tree) (tag_number : ℕ → ℕ) (senses : List Sense) (cut : IsTokens tokens.text.now tokens.list.items) (read : IsUnit tokens unit tree)
    (are : AreSenses (numbered tag_number (source_of tokens tree)) senses) (whole : length senses ≡ length (numbered tag_number (source_of tokens tree)).nodes)
  where
    abbrev s : Source
    s = numbered tag_number (source_of tokens tree)

    abbrev sense : ℕ → Sense
    sense i = sense_in senses i

    pub once : IsDeclaredOnce s senses
    once = declared_once tokens unit tree tag_number senses cut read are whole

    agreed : AreAgreed s senses
    agreed = internals_agree tokens unit tree tag_number senses cut read are whole

    own_type_there : (d : ℕ) → is_linked s sense d ≡ true → (x : Ctype) × (own_type s sense d ≡ Some x)
    own_type_there d is = let (m, stands, outer, one) = once.stands d is in (_, once.own d m one is)

    -- which is a name
    pub linked_name : (d : ℕ) → is_linked s sense d ≡ true → is_name s d ≡ true
    linked_name d is = let (m, stands, outer, one) = once.stands d is in named_name s m d one.named

    -- an external name is its own entity
    pub external_declared : (d : ℕ) → is_linked s sense d ≡ true → is_internal s sense d ≡ false → IsDeclared s senses d
    external_declared d is off =
        let own : entity_of s sense d ≡ d = ap (λ (a : Bool). if a then first_of s sense d (internal_among s sense s.declared.ordinary (ordinary_at s d)) else d) off in
        let linkage : linkage_of s sense d ≡ External = ap (λ (a : Bool). if a then Internal else (if is_linked s sense d then External else Local)) off ∙ ap (λ (a : Bool). if a then External else Local) is in
        let (x, type) = own_type_there d is in
        declared_with tokens unit tree tag_number senses cut read are whole d x is own (ap (typed tokens unit tree tag_number senses cut read are whole d) linkage ∙ type)

    -- and an internal one that is
    pub internal_declared : (d : ℕ) → is_internal s sense d ≡ true → entity_of s sense d ≡ d → IsDeclared s senses d
    internal_declared d is own = by (is_defined s sense (representative s senses d)) refl
      where
        linked_one : is_linked s sense d ≡ true
        linked_one = (both (is_linked s sense d) _ is).0

        linkage : linkage_of s sense d ≡ Internal
        linkage = ap (λ (a : Bool). if a then Internal else (if is_linked s sense d then External else Local)) is

        finish : (x : Ctype) → internal_type s senses d ≡ Some x → IsDeclared s senses d
        finish x type = declared_with tokens unit tree tag_number senses cut read are whole d x linked_one own (ap (typed tokens unit tree tag_number senses cut read are whole d) linkage ∙ type)

        by : (b : Bool) → is_defined s sense (representative s senses d) ≡ b → IsDeclared s senses d
        by true e =
            let inside = stands_for s senses (λ l h. linked.stands_linked s (tree_is tokens unit tree read tag_number) senses are whole l h) d linkage in
            let (x, type) = own_type_there (representative s senses d) (both (is_linked s sense (representative s senses d)) _ inside).0 in
            finish x (ap (λ (a : Bool). if a then own_type s sense (representative s senses d) else option_map (with_one s senses) (all_together None (types_of s sense (of_internal s senses d)))) e ∙ type)
        by false e =
            let (x, type) = own_type_there d linked_one in
            let (k, at) = agreed.one_of d x is type in
            let (y, all) = any_some (types_of s sense (of_internal s senses d)) k x at in
            finish (with_one s senses y)
            (ap (λ (a : Bool). if a then own_type s sense (representative s senses d) else option_map (with_one s senses) (all_together None (types_of s sense (of_internal s senses d)))) e ∙ ap (option_map (with_one s senses)) all)

    -- an entity is its own
    pub entity_again : (l : ℕ) → entity_of s sense (entity_of s sense l) ≡ entity_of s sense l
    entity_again l = by (is_internal s sense l) refl
      where
        by : (b : Bool) → is_internal s sense l ≡ b → entity_of s sense (entity_of s sense l) ≡ entity_of s sense l
        by false off = ap (entity_of s sense) (ap (λ (a : Bool). if a then first_of s sense l (internal_among s sense s.declared.ordinary (ordinary_at s l)) else l) off)
        by true on =
            let (inside, same) = agreed.entity l on in
            ap (λ (a : Bool). if a then first_of s sense (entity_of s sense l) (of_internal s senses (entity_of s sense l)) else entity_of s sense l) inside
            ∙ (ap (first_of s sense (entity_of s sense l)) same ∙ first (of_internal s senses l) refl on)
          where
            first : (ds : List Declaration) → of_internal s senses l ≡ ds → is_internal s sense l ≡ true → first_of s sense (entity_of s sense l) (of_internal s senses l) ≡ entity_of s sense l
            first [] e on = ap (first_of s sense (entity_of s sense l)) e
            first (d ∷ ds) e on =
                ap (first_of s sense (entity_of s sense l)) e ∙ sym (ap (λ (a : Bool). if a then first_of s sense l (of_internal s senses l) else l) on ∙ ap (first_of s sense l) e)

    -- the entity of a name with linkage is declared
    pub entity_declared : (l : ℕ) → is_linked s sense l ≡ true → IsDeclared s senses (entity_of s sense l)
    entity_declared l is = by (is_internal s sense l) refl
      where
        by : (b : Bool) → is_internal s sense l ≡ b → IsDeclared s senses (entity_of s sense l)
        by false off = subst (IsDeclared s senses) (sym (ap (λ (a : Bool). if a then first_of s sense l (internal_among s sense s.declared.ordinary (ordinary_at s l)) else l) off)) (external_declared l is off)
        by true on = internal_declared (entity_of s sense l) (agreed.entity l on).0 (entity_again l)
