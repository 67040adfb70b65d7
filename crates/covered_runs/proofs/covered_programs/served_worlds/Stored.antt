-- Functions of linked programs have their bodies, or are only declared.
use Rattle.std.proofs.Common.{◌≡◌, ◌∙◌, ◌⊎◌, inl, inr, ℕ, true, List, Option, Some, None, slice_get, refl, sym, ap, subst}
use Rattle.std.proofs.lemmas.Bool.{false≢true, cases_Bool}
use Rattle.std.proofs.lemmas.Option.{slice_get_within}
use Rattle.c_types.specs.Trees.{Ctype, FunctionFrom}
use Rattle.c_types.specs.Table.{type_of}
use Rattle.type_rules.specs.Kinds.{IsFunction}
use Rattle.core_tree.specs.declared.node.Entity.{Entity}
use Rattle.core_tree.specs.declared.node.Program.{Program}
use Rattle.core_tree.specs.declared.node.Storage.TheVariants.{Automatic, FunctionBody, Declared as DeclaredStorage}
use Rattle.core_tree.specs.declared.node.Unit.{Unit}
use Rattle.core_tree.specs.Typed.{trees_of, trees_in}
use Rattle.core_tree.specs.Valid.{HasBody, IsFunctionEntity}
use Rattle.link_model.specs.declared.item.Item.{Item}
use Rattle.link_model.specs.Renamed.{renamed}
use Rattle.link_names.specs.declared.declared.Declared.{Declared}
use Rattle.link_names.specs.Externals.{Joined, entities_if, entity_at, item_of, is_external, is_function_type, type_in}
use Rattle.link_names.proofs.Ordering.{external_is, is_external_of}
use Rattle.unit_link.specs.Linked.{IsLinkedName, IsLinkedOther, entity_of, joined, LinkedAt}
use Rattle.unit_link.specs.Needs.{AreLinkable}
use Rattle.linked_laws.proofs.link_laws.Wholeness.{maker_found, named_so}
use Rattle.linked_laws.proofs.alike_laws.Entities.{external_keeps}
use Rattle.linked_laws.proofs.alike_laws.Origins.{own_type}
use Rattle.covered_runs.specs.covered_programs.library_names.Names.{AreDeclaredOnly}
use Rattle.valid_unit_laws.specs.object_size_laws.function_storage.Stored.{StoresFunctions}
use Rattle.covered_runs.specs.covered_programs.served_worlds.Stored.{StoreFunctions, FunctionsStored}

some_one : {X : Type 0} → {x y : X} → ◌≡◌ {A = Option X} (Some x) (Some y) → x ≡ y
some_one h = cc

none_some : {X : Type 0} → {x : X} → ◌≡◌ {A = Option X} None (Some x) → ⊥
none_some h = cc

function_true : (t : Ctype) → IsFunction t → is_function_type t ≡ true
function_true (FunctionFrom r ps f) h = refl
function_true t h = absurd h

true_function : (t : Ctype) → is_function_type t ≡ true → IsFunction t
true_function (FunctionFrom r ps f) h = tt
true_function t h = absurd (false≢true h)

renamed_function : (f : ℕ → ℕ) (t : Ctype) → is_function_type (renamed f t) ≡ is_function_type t
renamed_function f (FunctionFrom r ps form) = refl
renamed_function f t = refl

automatic_body : Automatic ≡ FunctionBody → ⊥
automatic_body h = cc

automatic_declared : Automatic ≡ DeclaredStorage → ⊥
automatic_declared h = cc

abbrev IsStored : Entity → Type 0
IsStored x = (x.storage ≡ FunctionBody) ⊎ (x.storage ≡ DeclaredStorage)

stored_as : (x y : Entity) → x.storage ≡ y.storage → IsStored y → IsStored x
stored_as x y same h = elim h [ inl body ↦ inl (same ∙ body) | inr declared ↦ inr (same ∙ declared) ]

module _ (entered : List (List ℕ)) (units : List Unit) (p : Program) (linkable : AreLinkable units) (stores : StoreFunctions units) (h : LinkedAt entered units p) where
  abbrev j : Joined
  j = joined units h.numbers p.types

  abbrev ds : List Declared
  ds = h.declarations

  unit_of : (a : Item) (x : Entity) → entity_at units a ≡ Some x → (of : Unit) × (slice_get units a.unit ≡ Some of) × (slice_get of.entities.items a.number ≡ Some x)
  unit_of a x at = by (slice_get units a.unit) refl at
    where
      by : (o : Option Unit) → slice_get units a.unit ≡ o → slice_get (entities_if o) a.number ≡ Some x → (of : Unit) × (slice_get units a.unit ≡ Some of) × (slice_get of.entities.items a.number ≡ Some x)
      by (Some of) is e = (of, is, e)
      by None is e = absurd (none_some e)

  -- of a unit
  own_stored : (a : Item) (y : Entity) → entity_at units a ≡ Some y → is_function_type (type_in j a) ≡ true → IsStored y
  own_stored a y at function =
      let of = unit_of a y at in
      let own : IsFunction (type_of of.0.types y.ty.0) =
      true_function (type_of of.0.types y.ty.0)
      (sym (renamed_function (h.numbers.tag a.unit) (type_of of.0.types y.ty.0)) ∙ (sym (ap is_function_type (own_type units p linkable h a.unit of.0 a.number y of.1 of.2)) ∙ function)) in
      (stores.each a.unit of.0 of.1) a.number y of.2 own

  -- of an external name
  external_stored : (name : List ℕ) (x : Entity) → IsLinkedName j ds h.entity_numbers name x → IsFunction (type_of p.types x.ty.0) → IsStored x
  external_stored name x linked function =
      let made = maker_found j ds name linked.declared linked.maker in
      let declaration = (h.declared.each linked.declared).0 made.contained in
      let external : is_external linked.entity ≡ true = ap is_external (some_one (sym linked.entity_is ∙ declaration.entity_is)) ∙ is_external_of declaration.entity declaration.external in
      let named : linked.entity.name ≡ name = named_so units name linked.declared linked.entity made.passes linked.entity_is in
      let own_function : is_function_type (type_in j (item_of linked.declared)) ≡ true =
      (external_keeps units p h (item_of linked.declared) linked.entity x linked.entity_is external (subst (λ (n : List ℕ). IsLinkedName j ds h.entity_numbers n x) (sym named) linked)).function ∙ function_true (type_of p.types x.ty.0) function in
      stored_as x linked.entity linked.moved.storage (own_stored (item_of linked.declared) linked.entity linked.entity_is own_function)

  -- of any other entity
  other_stored : (a : Item) (y x : Entity) → entity_at units a ≡ Some y → IsLinkedOther j h.entity_numbers a y x → IsFunction (type_of p.types x.ty.0) → IsStored x
  other_stored a y x at linked function = stored_as x y linked.moved.storage (own_stored a y at (sym (ap is_function_type linked.type) ∙ function_true (type_of p.types x.ty.0) function))

  entity_stored : StoresFunctions (trees_in p)
  entity_stored e x at function = by (h.entities.only e (slice_get_within p.entities.items e x at))
    where
      by : (a : Item) × (y : Entity) × (entity_at units a ≡ Some y) × (entity_of h.entity_numbers a ≡ e) → IsStored x
      by (a, y, there, number) = elim (cases_Bool (is_external y)) [
        | inl its ↦
            let z = h.entities.names a y there (external_is y its) in
            let same : z.0 ≡ x = some_one (sym z.1 ∙ (ap (slice_get p.entities.items) number ∙ at)) in
            external_stored y.name x (subst (IsLinkedName j ds h.entity_numbers y.name) same z.2) function
        | inr not_its ↦
            let z = h.entities.others a y there (λ ex. false≢true (sym not_its ∙ is_external_of y ex)) in
            let same : z.0 ≡ x = some_one (sym z.1 ∙ (ap (slice_get p.entities.items) number ∙ at)) in
            other_stored a y x there (subst (IsLinkedOther j h.entity_numbers a y) same z.2) function
      ]

  automatic_objects : (e : ℕ) (x : Entity) → slice_get p.entities.items e ≡ Some x → x.storage ≡ Automatic → IsFunctionEntity (trees_in p) x → ⊥
  automatic_objects e x at automatic function = elim (entity_stored e x at function) [ inl body ↦ automatic_body (sym automatic ∙ body) | inr declared ↦ automatic_declared (sym automatic ∙ declared) ]

  declared_only : AreDeclaredOnly units
  declared_only = record { each = one }
    where
      one : (u : ℕ) (of : Unit) → slice_get units u ≡ Some of → (e : ℕ) (x : Entity) → slice_get of.entities.items e ≡ Some x → IsFunctionEntity (trees_of of) x → x.body ≡ None → x.storage ≡ DeclaredStorage
      one u of is e x at function bare = elim ((stores.each u of is) e x at function) [
        | inl body ↦ absurd ((subst (HasBody (trees_of of) e x) bare ((linkable.valid u of is).trees.bodied e x at)) body)
        | inr declared ↦ declared
      ]

pub functions_stored : FunctionsStored
functions_stored entered units p linkable stores linked = record {
  functions = entity_stored entered units p linkable stores linked;
  automatic = automatic_objects entered units p linkable stores linked;
  declared = declared_only entered units p linkable stores linked;
}
