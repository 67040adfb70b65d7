-- What a text defines as a function has a proper type, so with () no parameters.
use Rattle.std.proofs.Common.{◌≡◌, ◌∙◌, ◌&&◌, ℕ, Bool, true, false, List, length, Option, Some, None, refl, sym, ap, subst, slice_get, inl, inr, is_some}
use Rattle.std.specs.Prelude.{is_none, option_map, if◌then◌else◌}
use Rattle.std.proofs.lemmas.Option.{slice_get_within}
use Rattle.c_lexer.specs.declared.Tokens.{Tokens}
use Rattle.c_lexer.specs.Cut.{IsTokens}
use Rattle.c_types.specs.declared.term.Form.TheVariants.{Unspecified}
use Rattle.c_types.specs.Trees.{Ctype, MoreTypes, FunctionFrom}
use Rattle.c_types.specs.Table.{type_of}
use Rattle.c_grammar.specs.declared.trees.Tree.{Tree}
use Rattle.c_grammar.specs.Words.{word_extern}
use Rattle.c_parser.specs.c_units.Units.{IsUnit}
use Rattle.core_tree.specs.declared.node.Entity.{Entity}
use Rattle.core_tree.specs.declared.node.Linkage.{Linkage}
use Rattle.core_tree.specs.declared.node.Linkage.TheVariants.{Internal}
use Rattle.core_tree.specs.declared.node.Storage.{Storage}
use Rattle.core_tree.specs.declared.node.Storage.TheVariants.{Static, Automatic, FunctionBody, Parameter as ParameterStorage, Declared as DeclaredStorage}
use Rattle.core_tree.specs.declared.node.Unit.{Unit}
use Rattle.core_tree.specs.Range.{entity_at}
use Rattle.core_tree.specs.Typed.{trees_of}
use Rattle.c_senses.specs.passed.c_consts.Core.{Core}
use Rattle.c_senses.specs.Names.{source_of, numbered}
use Rattle.c_senses.specs.Tree.{Source}
use Rattle.c_senses.specs.Entities.{all_together, types_of, own_type, is_parameter, is_defined, declares_function, has_storage, initialiser_for, is_static_object, storage_of, linkage_of, function_around}
use Rattle.c_senses.specs.Rows.{world_at}
use Rattle.c_senses.specs.Right.{Right, Declared, IsDeclaredAt, IsLiteralOf, IsEntityOf, declared_as, declares_entity, entity_type, internal_type, literal_as, representative, of_internal, with_one}
use Rattle.c_senses.specs.Sense.{Sense, sense_in}
use Rattle.parsed_tree_laws.specs.sense_laws.Sound.{IsProper}
use Rattle.parsed_tree_laws.proofs.sense_laws.Names.{SomeProper, own_proper}
use Rattle.core_node_laws.specs.built_unit_laws.built_rows.Rows.{types_declared}
use Rattle.linked_laws.specs.alike_laws.Plain.{IsPlain}
use Rattle.valid_unit_laws.specs.plain_functions.Plain.{FunctionsPlain}
use Rattle.valid_unit_laws.proofs.built_valid.Sound.{senses_sound}

some_one : {X : Type 0} → {x y : X} → ◌≡◌ {A = Option X} (Some x) (Some y) → x ≡ y
some_one h = cc

none_some : {X : Type 0} → {x : X} → ◌≡◌ {A = Option X} None (Some x) → ⊥
none_some h = cc

proper_plain : (t : Ctype) → IsProper t → IsPlain t
proper_plain (FunctionFrom r (MoreTypes t ts) Unspecified) h = h.2
proper_plain t h = tt

-- only a definition is stored with its body
defined_if : (p x d e l : Bool) → (if p then ParameterStorage else if x then (if d then FunctionBody else DeclaredStorage) else if e then DeclaredStorage else if l then Static else Automatic) ≡ FunctionBody → d ≡ true
defined_if true x d e l h = cc
defined_if false true true e l h = refl
defined_if false true false e l h = cc
defined_if false false d true l h = cc
defined_if false false d false true h = cc
defined_if false false d false false h = cc

body_if : (x : Storage) (b : Bool) → (elim x as (λ _. Storage) [ DeclaredStorage ↦ if b then DeclaredStorage else Static | other ↦ other ]) ≡ FunctionBody → x ≡ FunctionBody
body_if DeclaredStorage true h = h
body_if DeclaredStorage false h = cc
body_if x b h = h

no_literal : (b : Bool) → (if b then Automatic else Static) ≡ FunctionBody → ⊥
no_literal true h = cc
no_literal false h = cc

module _ (tokens : Tokens) (unit : ℕ) (tree : Tree) (tag_number : ℕ → ℕ) (name : List ℕ) (u : Unit) (cut : IsTokens tokens.text.now tokens.list.items) (is : IsUnit tokens unit tree) (b : Right (numbered tag_number (source_of tokens tree)) name u) where
  abbrev s : Source
  s = numbered tag_number (source_of tokens tree)

  abbrev f : ℕ → Sense
  f = sense_in b.senses

  own : (leaf : ℕ) (t : Ctype) → own_type s f leaf ≡ Some t → IsProper t
  own leaf t e =
      subst SomeProper e (own_proper (world_at s b.senses (length b.senses)) (types_declared s b.senses) s f (senses_sound tokens unit tree tag_number b.senses cut is b.are_senses b.whole) leaf)

  module _ (leaf : ℕ) (t : Ctype) where
    abbrev r : ℕ
    r = representative s b.senses leaf

    abbrev type_by : Linkage → Option Ctype
    type_by l = elim l as (λ _. Option Ctype) [ Internal ↦ internal_type s b.senses leaf | _ ↦ own_type s f leaf ]

    abbrev storage_by : Linkage → Storage
    storage_by l = elim l as (λ _. Storage) [ Internal ↦ (elim (storage_of s f r) as (λ _. Storage) [ DeclaredStorage ↦ if declares_function s f leaf then DeclaredStorage else Static | other ↦ other ]) | _ ↦ storage_of s f leaf ]

    named_proper : (l : Linkage) → type_by l ≡ Some t → storage_by l ≡ FunctionBody → IsProper t
    named_proper Internal typed stored =
        let defined : is_defined s f r ≡ true =
        defined_if (is_parameter s f r) (declares_function s f r) (is_defined s f r) (has_storage s f word_extern r && is_none (initialiser_for s f r)) (is_static_object s f r) (body_if (storage_of s f r) (declares_function s f leaf) stored) in
        own r t (sym (ap (λ (x : Bool). if x then own_type s f r else option_map (with_one s b.senses) (all_together None (types_of s f (of_internal s b.senses leaf)))) defined) ∙ typed)
    named_proper l typed stored = own leaf t typed

  module _ (e : ℕ) (entity : Entity) (at : entity_at (trees_of u) e ≡ Some entity) (body : entity.storage ≡ FunctionBody) where
    -- by what it is declared
    of_name : (leaf : ℕ) (what : Declared) → (if declares_entity s b.senses leaf then option_map (declared_as s b.senses leaf) (entity_type s b.senses leaf) else None) ≡ Some what → IsEntityOf b.numbering u s.unit what entity → IsPlain (type_of u.types entity.ty.0)
    of_name leaf what told its = by (declares_entity s b.senses leaf) (entity_type s b.senses leaf) refl told
      where
        by : (x : Bool) (o : Option Ctype) → entity_type s b.senses leaf ≡ o → (if x then option_map (declared_as s b.senses leaf) o else None) ≡ Some what → IsPlain (type_of u.types entity.ty.0)
        by false o typed k = absurd (none_some k)
        by true None typed k = absurd (none_some k)
        by true (Some t) typed k =
            let same : declared_as s b.senses leaf t ≡ what = some_one k in
            let type : t ≡ type_of u.types entity.ty.0 = ap (λ (d : Declared). d.type) same ∙ sym its.type in
            let stored = ap (λ (d : Declared). d.storage) same ∙ (sym its.storage ∙ body) in
            subst IsPlain type (proper_plain t (named_proper leaf t (linkage_of s f leaf) typed stored))

    of_literal : (leaf : ℕ) (what : Declared) → ((c : Core) × IsLiteralOf s b.senses leaf c × (what ≡ literal_as s b.senses leaf c)) → IsEntityOf b.numbering u s.unit what entity → ⊥
    of_literal leaf what (c, literal, told) its = no_literal (is_some (function_around s f leaf)) (sym (ap (λ (d : Declared). d.storage) told) ∙ (sym its.storage ∙ body))

    function_plain : IsPlain (type_of u.types entity.ty.0)
    function_plain =
        let (leaf, what, declared, number) = b.no_other_entity e (slice_get_within u.entities.items e entity at) in
        by leaf what number declared (b.each_declared leaf what declared)
      where
        by : (leaf : ℕ) (what : Declared) → b.numbering leaf ≡ Some e → IsDeclaredAt s b.senses leaf what
            → (x : ℕ) × (y : Entity) × (b.numbering leaf ≡ Some x) × (entity_at (trees_of u) x ≡ Some y) × IsEntityOf b.numbering u s.unit what y → IsPlain (type_of u.types entity.ty.0)
        by leaf what number declared (x, y, numbered, there, its) =
            let same_number : x ≡ e = some_one (sym numbered ∙ number) in
            let same : y ≡ entity = some_one (sym there ∙ (ap (slice_get u.entities.items) same_number ∙ at)) in
            let own : IsEntityOf b.numbering u s.unit what entity = subst (IsEntityOf b.numbering u s.unit what) same its in
            elim declared [ inl told ↦ of_name leaf what told own | inr literal ↦ absurd (of_literal leaf what literal own) ]

pub functions_plain : FunctionsPlain
functions_plain tokens unit tree tag_number name u cut is right e entity at body = function_plain tokens unit tree tag_number name u cut is right e entity at body
