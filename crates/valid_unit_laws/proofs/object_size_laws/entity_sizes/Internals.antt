-- The types of names with linkage.
use Rattle.std.proofs.Common.{◌≡◌, ◌⊎◌, inl, inr, ℕ, nat_eq, Bool, true, false, ◌&&◌, ◌||◌, List, length, Option, Some, None, refl, sym, ap, ◌∙◌, subst}
use Rattle.std.specs.Prelude.{is_none, if◌then◌else◌}
use Rattle.std.proofs.lemmas.Bool.{eqb-true, eq-eqb}
use Rattle.c_types.specs.Trees.{Ctype, VoidType, FloatingType, VaListType, StructureOf, UnionOf}
use Rattle.c_types.specs.Table.{Table}
use Rattle.c_grammar.specs.Productions.{p_field}
use Rattle.c_grammar.specs.Words.{word_extern, word_static}
use Rattle.type_rules.specs.Kinds.{IsAggregate}
use Rattle.type_rules.specs.Sizes.{IsObject, HasSize, IsOpenIn, with_one}
use Rattle.core_tree.specs.declared.node.Linkage.TheVariants.{Internal}
use Rattle.core_tree.specs.declared.node.Storage.TheVariants.{Static, Automatic, FunctionBody, Parameter as ParameterStorage, Declared as DeclaredStorage}
use Rattle.core_tree.specs.Rows.{IsFunction}
use Rattle.c_scope.specs.declared.kinds.Declared.{Declared}
use Rattle.c_senses.specs.Tree.{Source, is_a, parent_of}
use Rattle.c_senses.specs.Names.{ordinary_at, has_linkage, linked_along, linked_before, made_before, scopes_at}
use Rattle.c_senses.specs.Entities.{is_linked, is_typedef, is_parameter, declares_function, has_storage, is_at_file, is_static_at_file, takes_over, some_such, is_internal, is_internal_of, internal_among, keep, first_of, own_type, all_together, types_of, is_defined, is_static_object, initialiser_for, storage_of, linkage_of, entity_of}
use Rattle.c_senses.specs.Rows.{AreSenses}
use Rattle.c_senses.specs.Right.{of_internal, representative}
use Rattle.c_senses.specs.Sense.{Sense, sense_in}
use Rattle.parsed_tree_laws.proofs.placed_laws.Climbing.{Grown}
use Rattle.declaration_laws.specs.name_order.Order.{Rises}
use Rattle.declaration_laws.specs.declared_type_laws.declared_leaves.Leaves.{IsDeclaredBy}
use Rattle.declaration_laws.specs.joined_types.Joined.{AllAgree, AllBelow}
use Rattle.declaration_laws.proofs.joined_types.Joining.{types_joined}
use Rattle.valid_unit_laws.specs.object_size_laws.parameter_sizes.PassedOn.{TypeSized, Sized, Complete, Open}
use Rattle.valid_unit_laws.proofs.object_size_laws.parameter_sizes.PassedOn.{has_type}
use Rattle.declaration_laws.specs.declared_type_laws.function_types.Typed.{FunctionsTyped, IsNamedType}
use Rattle.valid_unit_laws.proofs.object_size_laws.entity_sizes.Lists.{In, along_in, made_in, such_in, kept_in, in_kept, earlier_first, entry_is, found_entry}
use Rattle.valid_unit_laws.proofs.object_size_laws.entity_sizes.Known.{Among, LinkedKnown, no_typedef, stands_among}
use Rattle.valid_unit_laws.proofs.object_size_laws.entity_sizes.Words.{not_both}
use Rattle.valid_unit_laws.proofs.object_size_laws.entity_sizes.Types.{type_of_one, below_of, IsOpenKind, below_open, open_plain}

both : (a b : Bool) → (a && b) ≡ true → (a ≡ true) × (b ≡ true)
both true b e = (refl, e)
both false b e = cc

or_two : (a b : Bool) → (a || b) ≡ true → (a ≡ true) ⊎ (b ≡ true)
or_two true b e = inl refl
or_two false b e = inr e

and_both : (a b : Bool) → a ≡ true → b ≡ true → (a && b) ≡ true
and_both true b e h = h
and_both false b e h = cc

or_left : (a b : Bool) → a ≡ true → (a || b) ≡ true
or_left true b e = refl
or_left false b e = cc

-- what its type is, if it isn't a function's
abbrev pub IsClosed : Table → Ctype → Type 0
IsClosed table t = HasSize table (with_one t) ⊎ (IsAggregate t × IsObject table t)

-- a type that specifiers name is a structure or union, or it has a size
pub named_closed : (table : Table) (t : Ctype) → IsNamedType t → IsAggregate t ⊎ HasSize table (with_one t)
named_closed table (StructureOf tag) h = inl tt
named_closed table (UnionOf tag) h = inl tt
named_closed table FloatingType h = inr (refl, refl)
named_closed table VaListType h = inr (refl, refl)
named_closed table t h = inr (subst (λ (x : Ctype). HasSize table (with_one x)) (sym h) (refl, refl))

-- what a declaration says of its type: a function's, closed, given to what is declared as a function, or open and only declared
pub data Outcome (s : Source) (sense : ℕ → Sense) (table : Table) (leaf : ℕ) (t : Ctype) : Type 0 where
  AFunction : IsFunction t → Outcome s sense table leaf t
  Closed : IsClosed table t → Outcome s sense table leaf t
  Given : IsAggregate t → declares_function s sense leaf ≡ true → Outcome s sense table leaf t
  OnlyExtern : IsOpenKind t → has_storage s sense word_extern leaf ≡ true → initialiser_for s sense leaf ≡ None → Outcome s sense table leaf t

aggregate_kind : (t : Ctype) → IsAggregate t → IsOpenKind t
aggregate_kind (StructureOf tag) h = tt
aggregate_kind (UnionOf tag) h = tt
aggregate_kind t h = absurd h

open_kind : (table : Table) (t : Ctype) → IsOpenIn table t → IsOpenKind t
open_kind table VoidType o = tt
open_kind table (StructureOf tag) o = tt
open_kind table (UnionOf tag) o = tt
open_kind table t o = o

module _
    (s : Source) (senses : List Sense) (tree : Grown s) (rises : Rises s 0 (length s.nodes) s.declared.ordinary) (are : AreSenses s senses) (known : LinkedKnown s senses) (functions : FunctionsTyped s senses) (table : Table) (plain : (leaf : ℕ) → is_linked s (sense_in senses) leaf ≡ true → is_parameter s (sense_in senses) leaf ≡ false)
    (sized : (leaf m p : ℕ) (t : Ctype) → IsDeclaredBy s senses m leaf → parent_of s m ≡ Some p → is_a s p_field p ≡ false → is_parameter s (sense_in senses) leaf ≡ false → is_typedef s (sense_in senses) leaf ≡ false → declares_function s (sense_in senses) leaf ≡ false
    → own_type s (sense_in senses) leaf ≡ Some t → TypeSized s (sense_in senses) table leaf t)
  where
    abbrev f : ℕ → Sense
    f = sense_in senses

    abbrev ordinary : List Declared
    ordinary = s.declared.ordinary

    -- the type of a name with linkage
    linked_typed : (leaf : ℕ) (t : Ctype) → is_linked s f leaf ≡ true → own_type s f leaf ≡ Some t → Outcome s f table leaf t
    linked_typed leaf t linked own = by (declares_function s f leaf) refl
      where
        of_named : declares_function s f leaf ≡ true → IsAggregate t ⊎ HasSize table (with_one t) → Outcome s f table leaf t
        of_named e (inl h) = Given h e
        of_named e (inr h) = Closed (inl h)

        of_function : declares_function s f leaf ≡ true → IsFunction t ⊎ IsNamedType t → Outcome s f table leaf t
        of_function e (inl h) = AFunction h
        of_function e (inr h) = of_named e (named_closed table t h)

        of_object : TypeSized s f table leaf t → Outcome s f table leaf t
        of_object (Sized h lacks) = Closed (inl h)
        of_object (Complete g o) = Closed (inr (g, o))
        of_object (Open o extern none) = OnlyExtern (open_kind table t o) extern none

        by : (b : Bool) → declares_function s f leaf ≡ b → Outcome s f table leaf t
        by true e = of_function e (functions leaf t e own)
        by false e = let st = known.stands leaf linked in of_object (sized leaf st.0 st.1 t st.2 st.3 st.4 (plain leaf linked) (no_typedef s f leaf linked) e own)

    at_name : (d : Declared) → In d ordinary → ordinary_at s d.node ≡ Some d
    at_name d i = entry_is s tree 0 (length s.nodes) ordinary d rises i

    module _ (symbol : ℕ) (T : Ctype) (agreed : AllAgree None (types_of s f (keep s f (is_internal_of s f symbol) s.declared.ordinary))) (all : all_together None (types_of s f (keep s f (is_internal_of s f symbol) s.declared.ordinary)) ≡ Some T) where
      abbrev those : List Declared
      those = keep s f (is_internal_of s f symbol) ordinary

      below : AllBelow (types_of s f those) T
      below = types_joined.below (types_of s f those) T agreed all

      linked_of : (d : Declared) → In d those → is_linked s f d.node ≡ true
      linked_of d i =
          let kept = kept_in s f (is_internal_of s f symbol) ordinary d i in
          let internal = (both (nat_eq d.symbol symbol) (is_internal s f d.node) kept.1).1 in
          (both (is_linked s f d.node) _ internal).0

      -- each declaration has that type, where it is void, a structure or a union
      each : (d : Declared) → In d those → IsOpenKind T → Outcome s f table d.node T
      each d i openly =
          let linked = linked_of d i in
          let st = known.stands d.node linked in
          let own = has_type s senses d.node st.0 st.2 (plain d.node linked) in
          let same = below_open _ T openly (below_of s f those T d _ below i own) in
          linked_typed d.node T linked (own ∙ ap (λ (x : Ctype). Some x) same)

      -- what is only declared takes its linkage over from a declaration that gives it by itself
      record Seen (x : Declared) : Type 0 where
        declared : Declared
        before : In declared (made_before x.node ordinary)
        inside : In declared ordinary
        passes : is_internal_of s f symbol declared ≡ true
        static : has_storage s f word_static declared.node ≡ true

      seen : (x : Declared) → In x those → has_storage s f word_extern x.node ≡ true → Seen x
      seen x i extern =
          let kept = kept_in s f (is_internal_of s f symbol) ordinary x i in
          let parts = both (nat_eq x.symbol symbol) (is_internal s f x.node) kept.1 in
          let ways = both (is_linked s f x.node) (is_static_at_file s f x.node || (takes_over s f x.node && some_such s f (λ d. is_static_at_file s f d.node) (linked_before s (ordinary_at s x.node)))) parts.1 in
          by kept.0 parts.0 (or_two (is_static_at_file s f x.node) (takes_over s f x.node && some_such s f (λ d. is_static_at_file s f d.node) (linked_before s (ordinary_at s x.node))) ways.1)
        where
          by : In x ordinary → nat_eq x.symbol symbol ≡ true → (is_static_at_file s f x.node ≡ true) ⊎ ((takes_over s f x.node && some_such s f (λ d. is_static_at_file s f d.node) (linked_before s (ordinary_at s x.node))) ≡ true) → Seen x
          by there sign (inl static) = absurd (not_both s senses are x.node extern (both (is_at_file s f x.node) (has_storage s f word_static x.node) static).1)
          by there sign (inr taken) =
              let such : some_such s f (λ d. is_static_at_file s f d.node) (linked_along (scopes_at s x.node) x.symbol (made_before x.node ordinary)) ≡ true =
              sym (ap (λ (o : Option Declared). some_such s f (λ d. is_static_at_file s f d.node) (linked_before s o)) (at_name x there))
              ∙ (both (takes_over s f x.node) (some_such s f (λ d. is_static_at_file s f d.node) (linked_before s (ordinary_at s x.node))) taken).1 in
              let found = such_in s f (λ d. is_static_at_file s f d.node) (linked_along (scopes_at s x.node) x.symbol (made_before x.node ordinary)) such in
              let d : Declared = found.0 in
              let visible = along_in (scopes_at s x.node) x.symbol (made_before x.node ordinary) found.0 found.1 in
              let inside : In found.0 ordinary = made_in x.node ordinary found.0 visible.0 in
              let linked : is_linked s f d.node ≡ true = ap (λ (o : Option Declared). elim o as (λ _. Bool) [ None ↦ false | Some y ↦ has_linkage y ]) (at_name found.0 inside) ∙ visible.2 in
              let internal : is_internal s f d.node ≡ true = and_both (is_linked s f d.node) _ linked (or_left (is_static_at_file s f d.node) _ found.2) in
              let same : nat_eq d.symbol symbol ≡ true = eq-eqb d.symbol symbol (eqb-true d.symbol x.symbol visible.1 ∙ eqb-true x.symbol symbol sign) in
              record {
                declared = found.0;
                before = visible.0;
                inside = inside;
                passes = and_both (nat_eq d.symbol symbol) (is_internal s f d.node) same internal;
                static = (both (is_at_file s f d.node) (has_storage s f word_static d.node) found.2).1;
              }

      -- the first declaration of the name, and the one that stands for it
      module _ (y r : Declared) (in_y : In y those) (in_r : In r those) (first : first_of s f y.node (keep s f (is_internal_of s f symbol) s.declared.ordinary) ≡ y.node) (undefined : is_defined s f r.node ≡ false) where
        abbrev pub IsGiven : Type 0
        IsGiven = IsAggregate T × (declares_function s f y.node ≡ true) × (storage_of s f r.node ≡ DeclaredStorage)

        stored : Outcome s f table r.node T → IsOpenKind T → IsClosed table T ⊎ (storage_of s f r.node ≡ DeclaredStorage)
        stored (AFunction function) openly = absurd (open_plain T openly function)
        stored (Closed h) openly = inl h
        stored (Given g e) openly = inr (by (is_parameter s f r.node) (declares_function s f r.node) (is_defined s f r.node) (plain r.node (linked_of r in_r)) e undefined)
          where
            by : (p x d : Bool) → p ≡ false → x ≡ true → d ≡ false
                → (if p then ParameterStorage else if x then (if d then FunctionBody else DeclaredStorage) else if has_storage s f word_extern r.node && is_none (initialiser_for s f r.node) then DeclaredStorage else if is_static_object s f r.node then Static else Automatic) ≡ DeclaredStorage
            by true x d ep ex ed = cc
            by false false d ep ex ed = cc
            by false true true ep ex ed = cc
            by false true false ep ex ed = refl
        stored (OnlyExtern o e none) openly = inr (by (is_parameter s f r.node) (declares_function s f r.node) (is_defined s f r.node) (has_storage s f word_extern r.node) (initialiser_for s f r.node) (plain r.node (linked_of r in_r)) undefined e none)
          where
            by : (p x d w : Bool) (i : Option ℕ) → p ≡ false → d ≡ false → w ≡ true → i ≡ None
                → (if p then ParameterStorage else if x then (if d then FunctionBody else DeclaredStorage) else if w && is_none i then DeclaredStorage else if is_static_object s f r.node then Static else Automatic) ≡ DeclaredStorage
            by true x d w i ep ed ew ei = cc
            by false true true w i ep ed ew ei = cc
            by false true false w i ep ed ew ei = refl
            by false false d true None ep ed ew ei = refl
            by false false d false i ep ed ew ei = cc
            by false false d true (Some j) ep ed ew ei = cc

        -- one that is only declared isn't the first
        by_first : IsOpenKind T → Seen y → IsClosed table T
        by_first openly h = by (each h.declared (in_kept s f (is_internal_of s f symbol) ordinary h.declared h.inside h.passes) openly)
          where
            by : Outcome s f table h.declared.node T → IsClosed table T
            by (AFunction function) = absurd (open_plain T openly function)
            by (Closed c) = c
            by (Given g e) = absurd (earlier_first s f (is_internal_of s f symbol) y.node ordinary h.declared h.before h.passes first)
            by (OnlyExtern o e none) = absurd (not_both s senses are h.declared.node e h.static)

        open_typed : IsOpenKind T → IsClosed table T ⊎ IsGiven
        open_typed openly = by (each y in_y openly)
          where
            both_given : IsAggregate T → declares_function s f y.node ≡ true → IsClosed table T ⊎ (storage_of s f r.node ≡ DeclaredStorage) → IsClosed table T ⊎ IsGiven
            both_given g e (inl c) = inl c
            both_given g e (inr d) = inr (g, e, d)

            by : Outcome s f table y.node T → IsClosed table T ⊎ IsGiven
            by (AFunction function) = absurd (open_plain T openly function)
            by (Closed c) = inl c
            by (Given g e) = both_given g e (stored (each r in_r openly) openly)
            by (OnlyExtern o e none) = inl (by_first openly (seen y in_y e))

        -- what all give together is a function's type, or closed, or given to what is declared as a function
        pub together_typed : IsFunction T ⊎ (IsClosed table T ⊎ IsGiven)
        together_typed =
            let one = type_of_one s f those T all in
            by (linked_typed one.0.node T (linked_of one.0 one.1) one.2)
          where
            by : {d : ℕ} → Outcome s f table d T → IsFunction T ⊎ (IsClosed table T ⊎ IsGiven)
            by (AFunction function) = inl function
            by (Closed c) = inr (inl c)
            by (Given g e) = inr (open_typed (aggregate_kind T g))
            by (OnlyExtern o e none) = inr (open_typed o)

    module _ (leaf : ℕ) (T : Ctype) (internal : is_internal s f leaf ≡ true) (linkage : linkage_of s f leaf ≡ Internal) (entity : entity_of s f leaf ≡ leaf) (undefined : is_defined s f (representative s senses leaf) ≡ false) (all : all_together None (types_of s f (of_internal s senses leaf)) ≡ Some T) where
      abbrev pub IsGivenTo : Type 0
      IsGivenTo = IsAggregate T × (declares_function s f leaf ≡ true) × (storage_of s f (representative s senses leaf) ≡ DeclaredStorage)

      module _ (y : Declared) (at : ordinary_at s leaf ≡ Some y) where
        abbrev those_y : List Declared
        those_y = keep s f (is_internal_of s f y.symbol) ordinary

        list_is : of_internal s senses leaf ≡ those_y
        list_is = ap (internal_among s f ordinary) at

        found : In y ordinary × (y.node ≡ leaf)
        found = found_entry leaf ordinary y at

        in_y : In y (keep s f (is_internal_of s f y.symbol) s.declared.ordinary)
        in_y = in_kept s f (is_internal_of s f y.symbol) ordinary y found.0 (and_both (nat_eq y.symbol y.symbol) (is_internal s f y.node) (eq-eqb y.symbol y.symbol refl) (ap (is_internal s f) found.1 ∙ internal))

        first_is : first_of s f leaf (keep s f (is_internal_of s f y.symbol) s.declared.ordinary) ≡ leaf
        first_is =
            ap (first_of s f leaf) (sym list_is)
            ∙ (sym (ap (λ (b : Bool). if b then first_of s f leaf (internal_among s f s.declared.ordinary (ordinary_at s leaf)) else leaf) internal) ∙ entity)

        of_entry : IsFunction T ⊎ (IsClosed table T ⊎ IsGivenTo)
        of_entry =
            let rep = stands_among s senses leaf linkage (subst (λ (ds : List Declared). Among ds leaf) (sym list_is) (y, in_y, found.1)) in
            let in_r : In rep.0 (keep s f (is_internal_of s f y.symbol) s.declared.ordinary) = subst (λ (ds : List Declared). In rep.0 ds) list_is rep.1 in
            let agreed = subst (λ (ds : List Declared). AllAgree None (types_of s f ds)) list_is (known.agree leaf) in
            let whole = ap (λ (ds : List Declared). all_together None (types_of s f ds)) (sym list_is) ∙ all in
            let first = subst (λ (x : ℕ). first_of s f x (keep s f (is_internal_of s f y.symbol) s.declared.ordinary) ≡ x) (sym found.1) first_is in
            by rep.0 rep.2 (together_typed y.symbol T agreed whole y rep.0 in_y in_r first (ap (is_defined s f) rep.2 ∙ undefined))
          where
            by : (r : Declared) → r.node ≡ representative s senses leaf → IsFunction T ⊎ (IsClosed table T ⊎ (IsAggregate T × (declares_function s f y.node ≡ true) × (storage_of s f r.node ≡ DeclaredStorage))) → IsFunction T ⊎ (IsClosed table T ⊎ IsGivenTo)
            by r same (inl h) = inl h
            by r same (inr (inl h)) = inr (inl h)
            by r same (inr (inr h)) = inr (inr (h.0, sym (ap (declares_function s f) found.1) ∙ h.1, sym (ap (storage_of s f) same) ∙ h.2))

      pub internal_typed : IsFunction T ⊎ (IsClosed table T ⊎ (IsAggregate T × (declares_function s f leaf ≡ true) × (storage_of s f (representative s senses leaf) ≡ DeclaredStorage)))
      internal_typed = by (ordinary_at s leaf) refl (both (is_linked s f leaf) _ internal).0
        where
          by : (o : Option Declared) → ordinary_at s leaf ≡ o → (elim o as (λ _. Bool) [ None ↦ false | Some d ↦ has_linkage d ]) ≡ true → IsFunction T ⊎ (IsClosed table T ⊎ IsGivenTo)
          by None at k = cc
          by (Some y) at k = of_entry y at
