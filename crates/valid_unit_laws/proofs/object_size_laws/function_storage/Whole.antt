-- The functions of a unit have bodies, or are only declared.
use Rattle.std.proofs.Common.{◌≡◌, ◌⊎◌, inl, inr, ◌==◌, ℕ, zero, suc, Bool, true, false, ◌&&◌, not, List, [], ◌∷◌, Option, Some, None, refl, sym, ap, ◌∙◌, subst, slice_get}
use Rattle.std.specs.Prelude.{option_map, if◌then◌else◌}
use Rattle.std.proofs.lemmas.Option.{slice_get_within}
use Rattle.c_lexer.specs.declared.Tokens.{Tokens}
use Rattle.c_lexer.specs.Cut.{IsTokens}
use Rattle.c_types.specs.Trees.{Ctype}
use Rattle.c_types.specs.Table.{type_of}
use Rattle.c_grammar.specs.declared.trees.Tree.{Tree}
use Rattle.c_parser.specs.c_units.Units.{IsUnit}
use Rattle.type_rules.specs.Kinds.{IsFunction}
use Rattle.core_tree.specs.declared.node.Entity.{Entity}
use Rattle.core_tree.specs.declared.node.NodeKind.{NodeKind}
use Rattle.core_tree.specs.declared.node.NodeKind.TheVariants.{Literal}
use Rattle.core_tree.specs.declared.node.Storage.TheVariants.{FunctionBody, Declared as DeclaredStorage}
use Rattle.core_tree.specs.declared.node.Unit.{Unit}
use Rattle.core_tree.specs.Range.{entity_at}
use Rattle.core_tree.specs.Rows.{LiteralRow, RowOf}
use Rattle.core_tree.specs.Typed.{trees_of}
use Rattle.core_tree.specs.Valid.{HasBody, IsFunctionEntity}
use Rattle.c_consts.specs.Core.{Core, Cores, Of, NoCores, MoreCores, core_in, kind_of}
use Rattle.c_senses.specs.Names.{source_of, numbered}
use Rattle.c_senses.specs.Tree.{Source}
use Rattle.c_senses.specs.Entities.{entity_of, is_linked, is_parameter, is_typedef}
use Rattle.c_senses.specs.Right.{Right, Numbering, SameBody, SameKind, StandsBy, AllStandBy, Declared as Declares, IsDeclaredAt, IsEntityOf, IsLiteralOf, Within, Itself, Below, declared_as, declares_entity, entity_type, is_declaring, stands_in_declaration}
use Rattle.c_senses.specs.Sense.{Sense, sense_in}
use Rattle.parsed_tree_laws.proofs.grown_parts.Reading.{units_bring}
use Rattle.declaration_laws.proofs.function_laws.body_returns.Built.{grown, placed}
use Rattle.declaration_laws.proofs.function_laws.passed.definition_laws.linkage_laws.Linked.{stands_linked}
use Rattle.declaration_laws.proofs.function_laws.passed.definition_laws.linkage_laws.Reading.{tree_is}
use Rattle.valid_unit_laws.proofs.object_size_laws.entity_sizes.Known.{linked_known}
use Rattle.valid_unit_laws.proofs.object_size_laws.function_storage.Functions.{name_stored}
use Rattle.valid_unit_laws.specs.object_size_laws.function_storage.Stored.{FunctionsStored}

some_one : {X : Type 0} → {x y : X} → ◌≡◌ {A = Option X} (Some x) (Some y) → x ≡ y
some_one h = cc

none_some : {X : Type 0} → {x : X} → ◌≡◌ {A = Option X} None (Some x) → ⊥
none_some h = cc

both : (a b : Bool) → (a && b) ≡ true → (a ≡ true) × (b ≡ true)
both true b e = (refl, e)
both false b e = cc

not_true : (b : Bool) → not b ≡ true → b ≡ false
not_true true e = cc
not_true false e = refl

-- ---- what stands for a part of a tree

module _ (n : Numbering) (u : Unit) where
  part_stands : (cs : Cores) (k : ℕ) (part : Core) (is : List ℕ) → AllStandBy n u is cs → core_in cs k ≡ Some part → (i : ℕ) × StandsBy n u i part
  part_stands NoCores k part is h e = absurd (none_some e)
  part_stands (MoreCores c rest) zero part is (i, more, same, stands, others) e = (i, subst (λ (x : Core). StandsBy n u i x) (some_one e) stands)
  part_stands (MoreCores c rest) (suc k) part is (i, more, same, stands, others) e = part_stands rest k part more others e

  within_stands : (s : Source) (senses : List Sense) {c d : Core} → Within s senses c d → (i : ℕ) → StandsBy n u i d → (j : ℕ) × StandsBy n u j c
  within_stands s senses Itself i h = (i, h)
  within_stands s senses (Below {c = Of kind place type under} {part = part} is more) i (node, at, kinds, place_is, type_is, parts) =
      let below = part_stands under is.0 part node.children parts is.1 in
      within_stands s senses more below.0 below.1

  literal_kind : (j : ℕ) (kind : NodeKind) → SameKind n (Literal j) kind → (e : ℕ) × (kind ≡ Literal e) × (n j ≡ Some e)
  literal_kind j (Literal e) h = (e, refl, h)
  literal_kind j kind h = cc

module _ (tokens : Tokens) (unit : ℕ) (tree : Tree) (tag_number : ℕ → ℕ) (name : List ℕ) (u : Unit) (cut : IsTokens tokens.text.now tokens.list.items) (is : IsUnit tokens unit tree) (b : Right (numbered tag_number (source_of tokens tree)) name u) where
  abbrev s : Source
  s = numbered tag_number (source_of tokens tree)

  abbrev f : ℕ → Sense
  f = sense_in b.senses

  plain : (leaf : ℕ) → is_linked s f leaf ≡ true → is_parameter s f leaf ≡ false
  plain leaf h = let st = stands_linked s (tree_is tokens unit tree is tag_number) b.senses b.are_senses b.whole leaf h in st.parameter

  module _ (e : ℕ) (entity : Entity) (at : entity_at (trees_of u) e ≡ Some entity) (function : IsFunctionEntity (trees_of u) entity) where
    abbrev IsStored : Type 0
    IsStored = (entity.storage ≡ FunctionBody) ⊎ (entity.storage ≡ DeclaredStorage)

    -- one that has a body
    of_body : (k : ℕ) → entity.body ≡ Some k → IsStored
    of_body k body = by (subst (HasBody (trees_of u) e entity) body (b.valid.trees.bodied e entity at))
      where
        by : HasBody (trees_of u) e entity (Some k) → IsStored
        by (inl its, only) = inl its.storage
        by (inr its, only) = absurd (its.object function)

    -- a compound literal's object has one
    literal_body : (j : ℕ) (c : Core) → IsLiteralOf s b.senses j c → b.numbering j ≡ Some e → (k : ℕ) × (entity.body ≡ Some k)
    literal_body j c (kind, (d, what, body, declared, has, within)) number = whole (b.each_declared d what (inl declared))
      where
        of_row : (t : Ctype) (children : List ℕ) → LiteralRow (trees_of u) e t children → (k : ℕ) × (entity.body ≡ Some k)
        of_row t [] row = absurd row
        of_row t (k ∷ []) row =
            let (own, there, its) = b.initialises_once k e row.1 in
            let same : own ≡ entity = some_one (sym there ∙ at) in
            (k, ap (λ (x : Entity). x.body) (sym same) ∙ its)
        of_row t (k ∷ l ∷ more) row = absurd row

        of_node : (c : Core) (i : ℕ) → kind_of c ≡ Literal j → StandsBy b.numbering u i c → (k : ℕ) × (entity.body ≡ Some k)
        of_node (Of kind place type under) i is_literal (node, there, kinds, place_is, type_is, parts) =
            let found = literal_kind b.numbering u j node.kind (subst (λ (x : NodeKind). SameKind b.numbering x node.kind) is_literal kinds) in
            let own : found.0 ≡ e = some_one (sym found.2 ∙ number) in
            let kind_is : node.kind ≡ Literal e = found.1 ∙ ap (λ (x : ℕ). Literal x) own in
            let row : RowOf (trees_of u) (Literal e) (type_of u.types node.ty.0) node.children = subst (λ (x : NodeKind). RowOf (trees_of u) x (type_of u.types node.ty.0) node.children) kind_is (b.valid.trees.rows i node there) in
            of_row (type_of u.types node.ty.0) node.children row

        of_stands : (o : Option ℕ) → SameBody b.numbering u (Some body) o → (k : ℕ) × (entity.body ≡ Some k)
        of_stands None h = absurd h
        of_stands (Some i) h = let found = within_stands b.numbering u s b.senses within i h in of_node c found.0 kind found.1

        whole : (x : ℕ) × (y : Entity) × (b.numbering d ≡ Some x) × (entity_at (trees_of u) x ≡ Some y) × IsEntityOf b.numbering u s.unit what y → (k : ℕ) × (entity.body ≡ Some k)
        whole (x, y, numbered, there, its) = of_stands y.body (subst (λ (o : Option Core). SameBody b.numbering u o y.body) has its.body)

    -- one that a name declares
    of_name : (leaf : ℕ) (what : Declares) → (if declares_entity s b.senses leaf then option_map (declared_as s b.senses leaf) (entity_type s b.senses leaf) else None) ≡ Some what → IsEntityOf b.numbering u s.unit what entity → IsStored
    of_name leaf what told its = by (declares_entity s b.senses leaf) (entity_type s b.senses leaf) refl refl told
      where
        stored : (t : Ctype) → declares_entity s b.senses leaf ≡ true → entity_type s b.senses leaf ≡ Some t → declared_as s b.senses leaf t ≡ what → IsStored
        stored t entitled typed same =
            let one = both (is_declaring s b.senses leaf) _ entitled in
            let two = both (stands_in_declaration s b.senses leaf) _ one.1 in
            let three = both (not (is_typedef s f leaf)) (entity_of s f leaf == leaf) two.1 in
            let type_is : type_of u.types entity.ty.0 ≡ t = its.type ∙ ap (λ (x : Declares). x.type) (sym same) in
            let storage_is = its.storage ∙ ap (λ (x : Declares). x.storage) (sym same) in
            let h = name_stored s b.senses (placed tokens unit tree tag_number is) b.are_senses b.whole (grown tokens unit tree tag_number cut is) (units_bring tokens unit tree tag_number is)
            (linked_known tokens unit tree tag_number b.senses cut is b.are_senses b.whole) plain leaf t one.0 two.0 (not_true (is_typedef s f leaf) three.0) (subst IsFunction type_is function) typed in
            elim h [ inl body ↦ inl (storage_is ∙ body) | inr declared ↦ inr (storage_is ∙ declared) ]

        by : (x : Bool) (o : Option Ctype) → declares_entity s b.senses leaf ≡ x → entity_type s b.senses leaf ≡ o → (if x then option_map (declared_as s b.senses leaf) o else None) ≡ Some what → IsStored
        by false o entitled typed k = absurd (none_some k)
        by true None entitled typed k = absurd (none_some k)
        by true (Some t) entitled typed k = stored t entitled typed (some_one k)

    function_stored : (entity.storage ≡ FunctionBody) ⊎ (entity.storage ≡ DeclaredStorage)
    function_stored =
        let (leaf, what, declared, number) = b.no_other_entity e (slice_get_within u.entities.items e entity at) in
        by leaf what number declared (b.each_declared leaf what declared)
      where
        by : (leaf : ℕ) (what : Declares) → b.numbering leaf ≡ Some e → IsDeclaredAt s b.senses leaf what
            → (x : ℕ) × (y : Entity) × (b.numbering leaf ≡ Some x) × (entity_at (trees_of u) x ≡ Some y) × IsEntityOf b.numbering u s.unit what y → IsStored
        by leaf what number (inr (c, literal, told)) own = let found = literal_body leaf c literal number in of_body found.0 found.1
        by leaf what number (inl told) (x, y, numbered, there, its) =
            let same_number : x ≡ e = some_one (sym numbered ∙ number) in
            let same : y ≡ entity = some_one (sym there ∙ (ap (slice_get u.entities.items) same_number ∙ at)) in
            of_name leaf what told (subst (IsEntityOf b.numbering u s.unit what) same its)

pub functions_stored : FunctionsStored
functions_stored tokens unit tree tag_number name u cut is right e entity at function = function_stored tokens unit tree tag_number name u cut is right e entity at function
