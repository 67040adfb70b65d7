-- What a defined function gives has a size.
use Rattle.std.proofs.Common.{arith, ◌≡◌, ◌≤◌, ℕ, nat_eq, Bool, true, false, not, ◌&&◌, ◌||◌, List, Option, Some, None, take, length, slice_get, refl, sym, ap, ◌∙◌, subst, ◌⊎◌, inl, inr}
use Rattle.std.specs.Prelude.{is_some, option_and_then}
use Rattle.std.proofs.lemmas.Bool.{eqb-true}
use Rattle.c_types.specs.declared.term.Form.{Form}
use Rattle.c_types.specs.Trees.{Ctype, Ctypes, VoidType, FunctionFrom}
use Rattle.c_types.specs.Table.{type_of}
use Rattle.type_rules.specs.Conversions as rules
use Rattle.type_rules.specs.Sizes.{HasSize, ResultHasSize}
use Rattle.c_grammar.specs.Productions.{p_external, p_field, p_parameter, p_block}
use Rattle.core_tree.specs.declared.node.Unit.{Unit}
use Rattle.core_tree.specs.declared.node.Entity.{Entity}
use Rattle.core_tree.specs.declared.node.Storage.TheVariants.{FunctionBody}
use Rattle.core_tree.specs.Typed.{trees_of}
use Rattle.core_tree.specs.Range.{entity_at}
use Rattle.core_tree.specs.Rows.{IsFunction}
use Rattle.core_tree.specs.Valid.{Bodied, HasBody, IsFunctionBody, IsObjectBody, OnlyBody}
use Rattle.core_nodes.specs.Standing.{Knows}
use Rattle.c_scope.specs.declared.kinds.Declared.{Declared as Declaration}
use Rattle.c_senses.specs.Names.{ordinary_at, names_type, source_of, numbered}
use Rattle.c_senses.specs.Tree.{Source, production_at, is_a, child_of, parent_of}
use Rattle.c_senses.specs.World.{World, has_size}
use Rattle.c_senses.specs.Limits.{within_limits, all_within_limits}
use Rattle.c_senses.specs.Declarators.{outermost_of, declaration_around, derived, all_derive}
use Rattle.c_senses.specs.Entities.{is_parameter, is_defined, is_void_type, result_of}
use Rattle.c_senses.specs.Rows.{world_at}
use Rattle.c_senses.specs.Sense.{Sense, sense_in}
use Rattle.c_senses.specs.Right.{Numbering}
use Rattle.declaration_laws.specs.passed.core_node_laws.standing_laws.Standing.{IsGrown, IsMade}
use Rattle.declaration_laws.proofs.passed.core_node_laws.standing_laws.Climbing.{child_inside, in_list, parent_holds}
use Rattle.parsed_tree_laws.proofs.placed_laws.Climbing.{IsNamedPart, Grown}
use Rattle.parsed_tree_laws.specs.counted_parts.Counted.{CountedParts}
use Rattle.parsed_tree_laws.proofs.counted_parts.Read.{parts_are_counted}
use Rattle.declaration_laws.proofs.function_laws.body_returns.Naming.{told, sized_told}
use Rattle.declaration_laws.proofs.function_laws.body_returns.Body.{Definition, definition, around_is}
use Rattle.declaration_laws.proofs.function_laws.body_returns.Earlier.{Below, earlier, function_derived}
use Rattle.declaration_laws.proofs.function_laws.body_returns.Built.{grown, made, placed}
use Rattle.declaration_laws.specs.function_laws.result_laws.Results.{ResultsSized}
use Rattle.declaration_laws.proofs.function_laws.result_laws.Sized.{sized_stays}

both : (a b : Bool) → (a && b) ≡ true → (a ≡ true) × (b ≡ true)
both true b e = (refl, e)
both false b e = cc

some_same : {A : Type 0} → {x y : A} → ◌≡◌ {A = Option A} (Some x) (Some y) → x ≡ y
some_same e = cc

function_is : (t : Ctype) → IsFunction t → (r : Ctype) × (ps : Ctypes) × (form : Form) × (t ≡ FunctionFrom r ps form)
function_is (FunctionFrom r ps form) h = (r, ps, form, refl)
function_is t h = absurd h

function_named : (o : Option Declaration) → (elim o as (λ _. Bool) [ None ↦ false | Some d ↦ d.is_function && not (names_type d) ]) ≡ true → (y : Declaration) × (o ≡ Some y) × (y.is_function ≡ true)
function_named None h = cc
function_named (Some y) h = (y, refl, (both y.is_function (not (names_type y)) h).0)

void_is : (w : World) (s : Source) (sense : ℕ → Sense) (t : Ctype) → is_void_type w s sense t ≡ true → t ≡ VoidType
void_is w s sense VoidType e = refl
void_is w s sense t e = cc

module _
    (s : Source) (senses : List Sense) (numbering : Numbering) (u : Unit) (grows : IsGrown s) (makes : IsMade s senses numbering u) (places : Grown s) (counted : CountedParts s) (bodied : Bodied (trees_of u)) (knows : Knows (world_at s senses (length senses)) u)
    (e : ℕ) (entity : Entity) (b : ℕ) (at : entity_at (trees_of u) e ≡ Some entity) (storage : entity.storage ≡ FunctionBody) (body : entity.body ≡ Some b)
  where
    abbrev f : ℕ → Sense
    f = sense_in senses

    def : Definition s senses numbering u grows makes entity b
    def = definition s senses numbering u grows makes e entity b at storage body

    function_type : IsFunction (type_of u.types entity.ty.0)
    function_type = by (subst (λ (o : Option ℕ). HasBody (trees_of u) e entity o) body (bodied e entity at))
      where
        by : (IsFunctionBody (trees_of u) entity b ⊎ IsObjectBody (trees_of u) e entity b) × OnlyBody (trees_of u) e b → IsFunction (type_of u.types entity.ty.0)
        by (inl h, only) = h.function
        by (inr h, only) = absurd (h.storage storage)

    named : IsNamedPart s def.name
    named = let y = function_named (ordinary_at s def.name) def.function in places.named def.name y.0 y.1 y.2

    no_parameter : is_parameter s f def.name ≡ false
    no_parameter = ap (λ (o : Option ℕ). elim o as (λ _. Bool) [ None ↦ false | Some p ↦ is_a s p_parameter p ]) def.declared ∙ ap (λ (q : ℕ). nat_eq q p_parameter) (eqb-true (production_at s def.external) p_external def.is_external)

    off : (q : ℕ) → nat_eq p_external q ≡ false → is_a s q def.external ≡ false
    off q differ = ap (λ (p : ℕ). nat_eq p q) (eqb-true (production_at s def.external) p_external def.is_external) ∙ differ

    defined : (g : ℕ → Sense) → is_defined s g def.name ≡ true
    defined g = ap (λ (o : Option ℕ). elim o as (λ _. Bool) [ None ↦ false | Some p ↦ is_a s p_external p && is_some (child_of s p_block p) ]) def.declared ∙ by (is_a s p_external def.external) (child_of s p_block def.external) def.is_external def.child
      where
        by : (a : Bool) (o : Option ℕ) → a ≡ true → o ≡ Some def.block → (a && is_some o) ≡ true
        by true (Some x) ea eo = refl
        by true None ea eo = cc
        by false o ea eo = cc

    pub result_sized : ResultHasSize u.types (type_of u.types entity.ty.0)
    result_sized = by_outermost (outermost_of s def.name) refl def.declared
      where
        shape : (r : Ctype) × (ps : Ctypes) × (form : Form) × (type_of u.types entity.ty.0 ≡ FunctionFrom r ps form)
        shape = function_is (type_of u.types entity.ty.0) function_type

        at_parent : (o : ℕ) → outermost_of s def.name ≡ Some o → parent_of s o ≡ Some def.external → ResultHasSize u.types (type_of u.types entity.ty.0)
        at_parent o outer parent =
            let row = told s senses places makes.are_senses makes.whole def.name o named outer in
            let shape_is = function_is (type_of u.types entity.ty.0) function_type in
            let r = shape_is.0 in
            let whole = def.type ∙ ap (λ (t : Ctype). Some t) shape_is.3 in
            let below : Below (sense_in (take o senses)) f = λ c. earlier senses o c in
            let type_is : derived row.ds row.base ≡ FunctionFrom r shape_is.1 shape_is.2 =
            function_derived s (sense_in (take o senses)) f below (world_at s (take o senses) o) def.name o row.base row.ds (Some def.name) r shape_is.1 shape_is.2 no_parameter whole outer row.sensed row.base_is in
            let tested = sized_told (world_at s (take o senses) o) s (sense_in (take o senses)) o def.name (derived row.ds row.base) row.adjusted_type row.given (f o) row.placed def.external parent (off p_field refl) (off p_parameter refl) (defined (sense_in (take o senses))) in
            let result_is : result_of (world_at s (take o senses) o) s (sense_in (take o senses)) (derived row.ds row.base) ≡ r = ap (result_of (world_at s (take o senses) o) s (sense_in (take o senses))) type_is in
            let sized : (is_void_type (world_at s (take o senses) o) s (sense_in (take o senses)) r || has_size (world_at s (take o senses) o) r) ≡ true =
            subst (λ (t : Ctype). (is_void_type (world_at s (take o senses) o) s (sense_in (take o senses)) t || has_size (world_at s (take o senses) o) t) ≡ true) result_is tested in
            let limits = (both (all_derive (world_at s (take o senses) o) row.ds row.base) (within_limits (world_at s (take o senses) o) (derived row.ds row.base)) row.fits).1 in
            let limited : within_limits (world_at s (take o senses) o) r ≡ true = (both (within_limits (world_at s (take o senses) o) r) (all_within_limits (world_at s (take o senses) o) shape_is.1) (subst (λ (t : Ctype). within_limits (world_at s (take o senses) o) t ≡ true) type_is limits)).0 in
            let given = ap rules.result_of shape_is.3 in
            by_size (is_void_type (world_at s (take o senses) o) s (sense_in (take o senses)) r) (has_size (world_at s (take o senses) o) r) refl refl sized
            (λ void. inl (given ∙ void_is (world_at s (take o senses) o) s (sense_in (take o senses)) r void))
            (λ size. inr (subst (λ (t : Ctype). HasSize u.types t) (sym given) (sized_stays s grows.first senses o u r (inside o parent) knows limited size)))
          where
            by_size : {A : Type 0} → (x y : Bool) → {a c : Bool} → a ≡ x → c ≡ y → (x || y) ≡ true → (a ≡ true → A) → (c ≡ true → A) → A
            by_size true y ea ec h one two = one ea
            by_size false true ea ec h one two = two ec
            by_size false false ea ec h one two = cc

            inside : (o : ℕ) → parent_of s o ≡ Some def.external → o ≤ length senses
            inside o parent =
                let child = in_list _ o (parent_holds s grows def.external o parent) in
                let lt = grows.first def.external child.0 o child.1 in
                let up = child_inside (slice_get s.nodes def.external) s.nodes def.external def.part.0 def.block refl def.part.1 in
                omega (arith, lt, up, makes.whole)

        by_outermost : (o : Option ℕ) → outermost_of s def.name ≡ o → option_and_then (declaration_around s) (option_and_then (parent_of s) o) ≡ Some def.external → ResultHasSize u.types (type_of u.types entity.ty.0)
        by_outermost None is h = cc
        by_outermost (Some o) is h = by_parent (parent_of s o) refl h
          where
            by_parent : (p : Option ℕ) → parent_of s o ≡ p → option_and_then (declaration_around s) p ≡ Some def.external → ResultHasSize u.types (type_of u.types entity.ty.0)
            by_parent None parent h = cc
            by_parent (Some p) parent h =
                let same = around_is s senses numbering u grows makes counted def.external def.block def.is_external def.child p h in
                at_parent o is (parent ∙ ap (λ (x : ℕ). Some x) same)

pub results_sized : ResultsSized
results_sized tokens unit tree tag_number name u cut is built bodied e entity at storage = by entity.body refl (bodied e entity at)
  where
    by : (o : Option ℕ) → entity.body ≡ o → HasBody (trees_of u) e entity o → ResultHasSize u.types (type_of u.types entity.ty.0)
    by None body h = absurd (h storage)
    by (Some b) body h =
        result_sized (numbered tag_number (source_of tokens tree)) built.senses built.numbering u (grown tokens unit tree tag_number cut is) (made (numbered tag_number (source_of tokens tree)) name u built) (placed tokens unit tree tag_number is)
        (parts_are_counted tokens unit tree tag_number is) bodied built.knows e entity b at storage body
