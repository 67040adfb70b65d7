-- The types of names in the program.
use Rattle.std.proofs.Common.{◌≡◌, ◌∙◌, ℕ, true, false, List, Contains, Option, Some, None, is_some, refl, sym, ap, subst, inl, inr}
use Rattle.std.specs.List.{slice_get}
use Rattle.std.specs.Option.{option_map, option_map_or}
use Rattle.std.specs.Str.{bytes_eq}
use Rattle.std.specs.Cmp.Lexicographic.{bytes_decides}
use Rattle.c_types.specs.declared.term.Form.TheVariants.{Fixed, Variadic, Unspecified}
use Rattle.c_types.specs.Trees.{Ctype, VoidType, BoolType, IntegerType, FloatingType, VaListType, PointerTo, ArrayOf, FunctionFrom, StructureOf, UnionOf}
use Rattle.c_types.specs.Table.{type_of}
use Rattle.type_rules.specs.Kinds.{IsVariadic}
use Rattle.type_rules.specs.Conversions.{Agree}
use Rattle.core_tree.specs.declared.node.Unit.{Unit}
use Rattle.core_tree.specs.declared.node.Program.{Program}
use Rattle.core_tree.specs.declared.node.Entity.{Entity}
use Rattle.core_tree.specs.declared.node.Linkage.{Linkage}
use Rattle.core_tree.specs.declared.node.Linkage.TheVariants.{External, Local}
use Rattle.core_tree.specs.declared.node.Storage.{Storage}
use Rattle.core_tree.specs.declared.node.Storage.TheVariants.{Static, Automatic, FunctionBody, Parameter, Declared as DeclaredOnly}
use Rattle.core_tree.specs.Typed.{trees_in, trees_of}
use Rattle.core_tree.specs.Rows.{IsEntityIn, IsEntityOf, IsVariadicIn}
use Rattle.core_tree.specs.Linkages.{IsUnlinked, IsOfDeclared, IsUseIn}
use Rattle.core_tree.specs.Valid.{IsLocal}
use Rattle.link_model.specs.Units.{item}
use Rattle.link_model.specs.Renamed.{renamed}
use Rattle.link_model.specs.Merged.{moved}
use Rattle.link_names.specs.declared.declared.Declared.{Declared}
use Rattle.link_names.specs.Externals.{Joined, IsExternal, IsDeclaration, declared_as, item_of, declared_type, is_named, type_in, has_body, is_defined}
use Rattle.link_names.specs.Together.{type_together, maker_of, linked_type}
use Rattle.linked_laws.proofs.link_laws.Wholeness.{maker_found}
use Rattle.unit_link.specs.Linked.{LinkedAt, joined}
use Rattle.unit_link.specs.Needs.{AreLinkable}
use Rattle.linked_laws.proofs.alike_laws.Origins.{own_type}
use Rattle.linked_laws.proofs.embedded_laws.Entities.{IsNameOf, at_item, stands_at}
use Rattle.linked_laws.proofs.embedded_laws.Bodies.{maker_is}
use Rattle.linked_laws.proofs.row_laws.Types.{agree_to, variadic_to}
use Rattle.linked_laws.proofs.row_laws.Agreeing.{Fits, linked_agrees, linked_variadic, all_fit}

-- what has external linkage is no local
external_by : (storage : Storage) (linkage : Linkage) → IsUnlinked storage linkage → linkage ≡ External → IsLocal storage → ⊥
external_by Automatic linkage unlinked e local = let bad : External ≡ Local = sym e ∙ unlinked in cc
external_by Parameter linkage unlinked e local = let bad : External ≡ Local = sym e ∙ unlinked in cc
external_by Static linkage unlinked e local = local
external_by FunctionBody linkage unlinked e local = local
external_by DeclaredOnly linkage unlinked e local = local

-- an array agrees without its length with what it agrees with
without_length : (a t : Ctype) (n : ℕ) → Agree (ArrayOf a (Some n)) t → Agree (ArrayOf a None) t
without_length a (ArrayOf b None) n h = h
without_length a (ArrayOf b (Some m)) n h = let same : a ≡ b = cc in same
without_length a (FunctionFrom r ps Unspecified) n h = absurd (let bad : ⊥ = cc in bad)
without_length a (FunctionFrom r ps Fixed) n h = absurd (let bad : ⊥ = cc in bad)
without_length a (FunctionFrom r ps Variadic) n h = absurd (let bad : ⊥ = cc in bad)
without_length a t n h = absurd (let bad : ⊥ = cc in bad)

-- a type that a use may have agrees with what the declared type agrees with
of_declared_agrees : (f : ℕ → ℕ) (d t other : Ctype) → IsOfDeclared d t → Agree (renamed f d) other → Agree (renamed f t) other
of_declared_agrees f d t other (inl same) h = subst (λ (x : Ctype). Agree (renamed f x) other) same h
of_declared_agrees f d t other (inr (of, n, whole, open_one)) h =
    subst (λ (x : Ctype). Agree (renamed f x) other) (sym open_one) (without_length (renamed f of) other n (subst (λ (x : Ctype). Agree (renamed f x) other) whole h))

module _ {names : List (List ℕ)} (units : List Unit) (p : Program) (linkable : AreLinkable units) (h : LinkedAt names units p) where
  abbrev j : Joined
  j = joined units h.numbers p.types

  pub external_entity : (u e : ℕ) (of : Unit) (x : Entity) → slice_get units u ≡ Some of → slice_get of.entities.items e ≡ Some x → x.linkage ≡ External → IsExternal x
  external_entity u e of x is at linkage = record { linkage = linkage; lasting = external_by x.storage x.linkage ((linkable.valid u of is).linkages.entities e x at) linkage }

  -- a declaration of a name
  pub record IsDeclarationOf (u e : ℕ) (name : List ℕ) : Type 0 where
    pub declared : Declared
    pub among : Contains h.declarations declared
    pub item_is : item_of declared ≡ item u e
    pub named : is_named units name declared ≡ true

  pub declares : (u e : ℕ) (of : Unit) (x : Entity) → slice_get units u ≡ Some of → slice_get of.entities.items e ≡ Some x → IsExternal x → IsDeclarationOf u e x.name
  declares u e of x is at external =
      let d = declared_as u e x in
      let there = at_item units p linkable h u e of x is at in
      let its : IsDeclaration units d = record { entity = x; entity_is = there; external = external; line = refl; column = refl } in
      record {
        declared = d;
        among = (h.declared.each d).1 its;
        item_is = refl;
        named = ap (λ (o : Option Entity). option_map_or (λ other. bytes_eq other x.name) (option_map (λ (y : Entity). y.name) o) false) there ∙ (bytes_decides x.name x.name).1 refl;
      }

  -- the type of each declaration of a name fits the one that all give together
  pub fits_together : (u e : ℕ) (of : Unit) (x : Entity) → slice_get units u ≡ Some of → slice_get of.entities.items e ≡ Some x → IsExternal x → (name : List ℕ) → x.name ≡ name
      → Fits (moved h.numbers u (type_of of.types x.ty.0)) (type_together j name h.declarations)
  fits_together u e of x is at external name named =
      let d = declares u e of x is at external in
      let fits = all_fit j h.declarations x.name h.faultless.clean d.declared d.among d.named in
      subst (λ (n : List ℕ). Fits (moved h.numbers u (type_of of.types x.ty.0)) (type_together j n h.declarations)) named
      (subst (λ (t : Ctype). Fits t (type_together j x.name h.declarations)) (ap (type_in j) d.item_is ∙ own_type units p linkable h u of e x is at) fits)

  -- it agrees with the type of the program's object or function
  pub agrees_made : (d : Declared) (other : Unit) (own y : Entity) → IsNameOf units p linkable h d other own y → (u e : ℕ) (of : Unit) (x : Entity) → slice_get units u ≡ Some of → slice_get of.entities.items e ≡ Some x → IsExternal x → x.name ≡ own.name
      → Agree (moved h.numbers u (type_of of.types x.ty.0)) (type_of p.types y.ty.0)
  agrees_made d other own y n u e of x is at external named =
      let found = maker_found j h.declarations own.name d n.maker in
      let o = all_fit j h.declarations own.name h.faultless.clean d found.contained found.passes in
      subst (λ (t : Ctype). Agree (moved h.numbers u (type_of of.types x.ty.0)) t) (sym n.type)
      (linked_agrees (has_body units (item_of d)) (is_defined j (item_of d)) (moved h.numbers u (type_of of.types x.ty.0)) (declared_type j d) (type_together j own.name h.declarations) o
      (fits_together u e of x is at external own.name named))

  -- a use of an entity agrees with the program's entity
  pub use_agrees : (u e : ℕ) (of : Unit) (t : Ctype) → slice_get units u ≡ Some of → IsEntityOf (trees_of of) e t → IsUseIn (trees_of of) t (slice_get of.entities.items e) → IsEntityOf (trees_in p) (h.entity_numbers u e) (moved h.numbers u t)
  use_agrees u e of t is = by (slice_get of.entities.items e) refl
    where
      by : (o : Option Entity) → slice_get of.entities.items e ≡ o → IsEntityIn (trees_of of) o t → IsUseIn (trees_of of) t o → IsEntityOf (trees_in p) (h.entity_numbers u e) (moved h.numbers u t)
      by None at agrees declared = absurd agrees
      by (Some x) at agrees declared =
          let s = stands_at units p linkable h u e of x is at in
          subst (λ (o : Option Entity). IsEntityIn (trees_in p) o (moved h.numbers u t)) (sym s.there)
          (elim s.which [
            | inl made ↦
                let m = made.1 in
                let (f, z, z_at, its) = (declared made.0.linkage).some in
                let external = external_entity u f of z is z_at its.0 in
                of_declared_agrees (h.numbers.tag u) (type_of of.types z.ty.0) t (type_of p.types s.entity.ty.0) its.2 (agrees_made m.declared m.of m.own s.entity m.name u f of z is z_at external (its.1 ∙ sym m.named))
            | inr other ↦ subst (Agree (moved h.numbers u t)) (sym other.type) (agree_to (h.numbers.tag u) t (type_of of.types x.ty.0) agrees)
          ])

  -- the type of a variadic function with a body is variadic in the program
  pub variadic_made : (u e : ℕ) (of : Unit) (x : Entity) → slice_get units u ≡ Some of → slice_get of.entities.items e ≡ Some x → is_some x.body ≡ true → IsVariadic (type_of of.types x.ty.0) → IsVariadicIn (trees_in p) (slice_get p.entities.items (h.entity_numbers u e))
  variadic_made u e of x is at body variadic =
      let s = stands_at units p linkable h u e of x is at in
      let here : IsVariadic (moved h.numbers u (type_of of.types x.ty.0)) = variadic_to (h.numbers.tag u) (type_of of.types x.ty.0) variadic in
      subst (λ (o : Option Entity). IsVariadicIn (trees_in p) o) (sym s.there)
      (elim s.which [
        | inl made ↦
            let m = made.1 in
            let item_is = maker_is units p h (item u e) x m.declared (at_item units p linkable h u e of x is at) made.0 body (ap (maker_of j h.declarations) (sym m.named) ∙ m.name.maker) in
            let own : declared_type j m.declared ≡ moved h.numbers u (type_of of.types x.ty.0) = ap (type_in j) item_is ∙ own_type units p linkable h u of e x is at in
            let fits = fits_together u e of x is at made.0 m.own.name (sym m.named) in
            subst IsVariadic
            (sym (m.name.type ∙ ap (λ (t : Ctype). linked_type (has_body units (item_of m.declared)) (is_defined j (item_of m.declared)) t (type_together j m.own.name h.declarations)) own))
            (linked_variadic (has_body units (item_of m.declared)) (is_defined j (item_of m.declared)) (moved h.numbers u (type_of of.types x.ty.0)) (type_together j m.own.name h.declarations) here fits)
        | inr other ↦ subst IsVariadic (sym other.type) here
      ])
