-- Sizes and lengths of a linked program's objects.
use Rattle.std.proofs.Common.{◌≡◌, ◌∙◌, ◌⊎◌, ℕ, ◌<◌, Bool, true, false, List, length, Option, Some, None, IsSome, is_some, refl, sym, ap, subst, inl, inr}
use Rattle.std.specs.Prelude.{⊤, ◌||◌, ◌&&◌, not}
use Rattle.std.specs.List.{slice_get}
use Rattle.std.specs.Option.{option_map, option_map_or}
use Rattle.std.proofs.lemmas.Bool.{cases_Bool, false≢true}
use Rattle.c_types.specs.declared.term.MemberTerm.{MemberTerm}
use Rattle.c_types.specs.declared.term.Form.TheVariants.{Fixed, Variadic, Unspecified}
use Rattle.c_types.specs.Trees.{Ctype, VoidType, ArrayOf, FunctionFrom, StructureOf, UnionOf}
use Rattle.c_types.specs.Layout.{of_members, structure_of, union_of}
use Rattle.c_types.specs.Table.{Table, type_of, extent_in, extents_in, members_in}
use Rattle.c_types.specs.Made.{IsMade, AreNamed}
use Rattle.type_rules.specs.Kinds.{IsFunction, LacksLength}
use Rattle.type_rules.specs.Sizes.{HasSize, with_one, IsOpenIn, TagsHaveSizes}
use Rattle.type_rules.specs.Conversions.{result_of}
use Rattle.core_tree.specs.declared.node.Unit.{Unit}
use Rattle.core_tree.specs.declared.node.Program.{Program}
use Rattle.core_tree.specs.declared.node.Entity.{Entity}
use Rattle.core_tree.specs.declared.node.Linkage.TheVariants.{External}
use Rattle.core_tree.specs.declared.node.Storage.{Storage}
use Rattle.core_tree.specs.declared.node.Storage.TheVariants.{Static, Declared as DeclaredOnly}
use Rattle.core_tree.specs.Typed.{sort_of, IsAggregate, trees_in, trees_of}
use Rattle.core_tree.specs.Range.{EachEntity, EachNode}
use Rattle.core_tree.specs.Valid.{Valid, IsLocal, IsFunctionEntity, Sized, EntitySized, ResultSized, ValueSized, Measured, HasLength}
use Rattle.link_model.specs.Units.{types_if}
use Rattle.link_model.specs.Renamed.{renamed}
use Rattle.link_model.specs.Merged.{moved}
use Rattle.link_names.specs.declared.declared.Declared.{Declared}
use Rattle.link_names.specs.Externals.{Joined, item_of, type_in, declared_type, is_function_type, is_declared_only, is_placed, has_body, is_defined}
use Rattle.link_names.specs.Together.{type_together, kept_type, linked_type}
use Rattle.unit_link.specs.Linked.{LinkedAt, joined}
use Rattle.unit_link.specs.Needs.{AreLinkable}
use Rattle.linked_laws.specs.Ranges.{HasTypes}
use Rattle.linked_laws.specs.merged_laws.Merged.{AreTables, AreSizes}
use Rattle.linked_laws.proofs.node_laws.Children.{sort_renamed}
use Rattle.linked_laws.proofs.alike_laws.Origins.{own_type}
use Rattle.linked_laws.specs.sized_laws.Sizes.{AreKeyed}
use Rattle.linked_laws.proofs.sized_laws.Whole.{sizes_kept, merged_sized}
use Rattle.linked_laws.proofs.embedded_laws.Nodes.{each_node}
use Rattle.linked_laws.proofs.embedded_laws.Entities.{IsNameOf, IsOtherOf, at_item, each_entity, each_moved, keeps_type}
use Rattle.linked_laws.proofs.embedded_laws.Trees.{function_to}
use Rattle.linked_laws.proofs.row_laws.Types.{aggregate_back, function_back, lacks_back}
use Rattle.linked_laws.proofs.row_laws.Agreeing.{Fits}
use Rattle.linked_laws.proofs.row_laws.Names.{external_entity, fits_together}
use Rattle.linked_laws.proofs.valid_laws.Together.{giver}

result_renamed : (f : ℕ → ℕ) (t : Ctype) → renamed f (result_of t) ≡ result_of (renamed f t)
result_renamed f (FunctionFrom r ps form) = refl
result_renamed f t = refl

one_renamed : (f : ℕ → ℕ) (t : Ctype) → renamed f (with_one t) ≡ with_one (renamed f t)
one_renamed f (ArrayOf of None) = refl
one_renamed f (ArrayOf of (Some n)) = refl
one_renamed f t = refl

one_twice : (t : Ctype) → with_one (with_one t) ≡ with_one t
one_twice (ArrayOf of None) = refl
one_twice (ArrayOf of (Some n)) = refl
one_twice t = refl

-- the type of an object that isn't defined with () is what its declarations give together
kept_object : (body : Bool) (own t : Ctype) → (IsFunction own → ⊥) → kept_type body own t ≡ t
kept_object true (FunctionFrom r ps Unspecified) t object = absurd (object tt)
kept_object true own t object = refl
kept_object false own t object = refl

made_one : (body defined : Bool) (own t : Ctype) → (IsFunction own → ⊥) → with_one (linked_type body defined own t) ≡ with_one t
made_one body true own t object = one_twice (kept_type body own t) ∙ ap with_one (kept_object body own t object)
made_one body false own t object = ap with_one (kept_object body own t object)

-- void, or a structure or union
abbrev IsBare : Ctype → Type 0
IsBare VoidType = ⊤
IsBare (StructureOf tag) = ⊤
IsBare (UnionOf tag) = ⊤
IsBare t = ⊥

open_bare : (table : Table) (t : Ctype) → IsOpenIn table t → IsBare t
open_bare table VoidType h = tt
open_bare table (StructureOf tag) h = tt
open_bare table (UnionOf tag) h = tt
open_bare table t h = absurd h

bare_to : (f : ℕ → ℕ) (t : Ctype) → IsBare t → IsBare (renamed f t)
bare_to f VoidType h = tt
bare_to f (StructureOf tag) h = tt
bare_to f (UnionOf tag) h = tt
bare_to f t h = absurd h

bare_one : (t : Ctype) → IsBare t → with_one t ≡ t
bare_one VoidType h = refl
bare_one (StructureOf tag) h = refl
bare_one (UnionOf tag) h = refl
bare_one t h = absurd h

-- what fits such a type is that type
fits_void : (d : Ctype) → Fits d VoidType → d ≡ VoidType
fits_void (FunctionFrom r ps Unspecified) k = k
fits_void (FunctionFrom r ps Fixed) k = k
fits_void (FunctionFrom r ps Variadic) k = k
fits_void (ArrayOf a None) k = k
fits_void (ArrayOf a (Some n)) k = k
fits_void d k = k

fits_structure : (d : Ctype) (tag : ℕ) → Fits d (StructureOf tag) → d ≡ StructureOf tag
fits_structure (FunctionFrom r ps Unspecified) tag k = k
fits_structure (FunctionFrom r ps Fixed) tag k = k
fits_structure (FunctionFrom r ps Variadic) tag k = k
fits_structure (ArrayOf a None) tag k = k
fits_structure (ArrayOf a (Some n)) tag k = k
fits_structure d tag k = k

fits_union : (d : Ctype) (tag : ℕ) → Fits d (UnionOf tag) → d ≡ UnionOf tag
fits_union (FunctionFrom r ps Unspecified) tag k = k
fits_union (FunctionFrom r ps Fixed) tag k = k
fits_union (FunctionFrom r ps Variadic) tag k = k
fits_union (ArrayOf a None) tag k = k
fits_union (ArrayOf a (Some n)) tag k = k
fits_union d tag k = k

fits_bare : (d t : Ctype) → IsBare t → Fits d t → d ≡ t
fits_bare d VoidType bare k = fits_void d k
fits_bare d (StructureOf tag) bare k = fits_structure d tag k
fits_bare d (UnionOf tag) bare k = fits_union d tag k
fits_bare d t bare k = absurd bare

lacks_function : (t : Ctype) → IsFunction t → LacksLength t → ⊥
lacks_function (FunctionFrom r ps f) h l = l
lacks_function t h l = h

one_length : (t : Ctype) → LacksLength (with_one t) → ⊥
one_length (ArrayOf of None) l = l
one_length (ArrayOf of (Some n)) l = l
one_length t l = l

true_function : (t : Ctype) → is_function_type t ≡ true → IsFunction t
true_function (FunctionFrom r ps f) h = tt
true_function t h = absurd (false≢true h)

-- a static entity that isn't defined is a function
function_else : (f : Bool) → (not f && true) ≡ false → f ≡ true
function_else true h = refl
function_else false h = absurd (false≢true (sym h))

undefined_function : (t : Ctype) (x : Entity) → x.storage ≡ Static → is_placed t x ≡ false → is_function_type t ≡ true
undefined_function t x static h = by (is_some x.body) h
  where
    by : (b : Bool) → (b || (not (is_function_type t) && not (is_declared_only x.storage))) ≡ false → is_function_type t ≡ true
    by true e = absurd (false≢true (sym e))
    by false e = function_else (is_function_type t) (subst (λ (s : Storage). (not (is_function_type t) && not (is_declared_only s)) ≡ false) static e)

module _ {names : List (List ℕ)} (units : List Unit) (p : Program) (linkable : AreLinkable units) (tables : AreTables units) (h : LinkedAt names units p) (types : HasTypes p) (made : IsMade p.types) (named : AreNamed p.types) where
  abbrev j : Joined
  j = joined units h.numbers p.types

  valid : (u : ℕ) (of : Unit) → slice_get units u ≡ Some of → Valid (trees_of of)
  valid u of is = (linkable.valid u of is).trees

  sizes : AreSizes units
  sizes = record { each = λ u x is. (valid u x is).measured.tags }

  keyed : AreKeyed units
  keyed = record { each = λ u x is. (linkable.valid u x is).keys }

  tags : TagsHaveSizes p.types
  tags = merged_sized units h.numbers p.types tables sizes keyed made named h.types

  sized_to : (u : ℕ) (of : Unit) → slice_get units u ≡ Some of → (t : Ctype) → HasSize of.types t → HasSize p.types (moved h.numbers u t)
  sized_to u of is t s = (sizes_kept units h.numbers p.types tables made h.types u of is).sized t s

  -- what has no members in a unit has none in the program, or it has a size there
  open_or_sized : (id : ℕ) → id < length p.types.terms → (t : Ctype) → type_of p.types id ≡ t → IsBare t → HasSize p.types t ⊎ IsOpenIn p.types t
  open_or_sized id lt VoidType e bare = inr tt
  open_or_sized id lt (StructureOf tag) e bare = by (members_in p.types tag) refl
    where
      by : (o : Option (List MemberTerm)) → members_in p.types tag ≡ o → HasSize p.types (StructureOf tag) ⊎ IsOpenIn p.types (StructureOf tag)
      by None is = inr is
      by (Some ms) is =
          let look = made.laid tag ∙ ap (option_map (extents_in p.types)) is in
          inl (subst (HasSize p.types) e
          (tags id lt (subst IsAggregate (sym e) tt) (subst (λ (t : Ctype). IsSome (extent_in p.types t)) (sym e) (ap is_some (ap (of_members (structure_of (StructureOf tag))) look)))))
  open_or_sized id lt (UnionOf tag) e bare = by (members_in p.types tag) refl
    where
      by : (o : Option (List MemberTerm)) → members_in p.types tag ≡ o → HasSize p.types (UnionOf tag) ⊎ IsOpenIn p.types (UnionOf tag)
      by None is = inr is
      by (Some ms) is =
          let look = made.laid tag ∙ ap (option_map (extents_in p.types)) is in
          inl (subst (HasSize p.types) e
          (tags id lt (subst IsAggregate (sym e) tt) (subst (λ (t : Ctype). IsSome (extent_in p.types t)) (sym e) (ap is_some (ap (of_members (union_of (UnionOf tag))) look)))))
  open_or_sized id lt t e bare = absurd bare

  -- a size, or a declaration alone
  abbrev MayBe : Storage → Ctype → Type 0
  MayBe storage t = HasSize p.types (with_one t) ⊎ ((storage ≡ DeclaredOnly) × IsOpenIn p.types t)

  bare_may : (id : ℕ) → id < length p.types.terms → (t : Ctype) → type_of p.types id ≡ t → IsBare t → (storage : Storage) → storage ≡ DeclaredOnly → MayBe storage t
  bare_may id lt t e bare storage declared = elim (open_or_sized id lt t e bare) [
    | inl sized ↦ inl (subst (HasSize p.types) (sym (bare_one t bare)) sized)
    | inr open_type ↦ inr (declared, open_type)
  ]

  -- ---- what isn't external
  other_sized : (u e : ℕ) (of : Unit) (x y : Entity) → IsOtherOf units p linkable h u e of x y → EntitySized (trees_of of) x → EntitySized (trees_in p) y
  other_sized u e of x y m (inl f) = inl (function_to units p linkable h u e of x y m.of_is m.at m.there f)
  other_sized u e of x y m (inr s) = inr (record {
    measured = elim s.measured [
      | inl sized ↦ inl (subst (HasSize p.types) (one_renamed (h.numbers.tag u) (type_of of.types x.ty.0) ∙ ap with_one (sym m.type)) (sized_to u of m.of_is (with_one (type_of of.types x.ty.0)) sized))
      | inr bare ↦
          bare_may y.ty.0 (types.entities (h.entity_numbers u e) y m.there) (type_of p.types y.ty.0) refl (subst IsBare (sym m.type) (bare_to (h.numbers.tag u) (type_of of.types x.ty.0) (open_bare of.types (type_of of.types x.ty.0) bare.1))) y.storage (m.moves.storage ∙ bare.0)
    ];
    length = λ lacks. m.moves.linkage ∙ s.length (lacks_back (h.numbers.tag u) (type_of of.types x.ty.0) (subst LacksLength m.type lacks));
  })

  -- ---- names
  module _ (d : Declared) (of : Unit) (x y : Entity) (m : IsNameOf units p linkable h d of x y) where
    abbrev own : Ctype
    own = type_of of.types x.ty.0

    abbrev all : Ctype
    all = type_together j x.name h.declarations

    no_function_to : (IsFunctionEntity (trees_of of) x → ⊥) → IsFunction (declared_type j d) → ⊥
    no_function_to object f =
        object (function_back (h.numbers.tag d.unit) own (subst IsFunction (own_type units p linkable h d.unit of d.number x m.of_is m.at) f))

    measured_all : (IsFunctionEntity (trees_of of) x → ⊥) → HasSize p.types (with_one all) → MayBe y.storage (type_of p.types y.ty.0)
    measured_all object sized =
        inl (subst (HasSize p.types) (sym (ap with_one m.type ∙ made_one (has_body units (item_of d)) (is_defined j (item_of d)) (declared_type j d) all (no_function_to object))) sized)

    fits_own : Fits (moved h.numbers d.unit own) all
    fits_own = fits_together units p linkable h d.unit d.number of x m.of_is m.at m.external x.name refl

    -- the type that all give together has no members in its unit
    bare_all : (IsFunctionEntity (trees_of of) x → ⊥) → IsBare all → Sized (trees_of of) x → MayBe y.storage (type_of p.types y.ty.0)
    bare_all object bare s =
        let same : moved h.numbers d.unit own ≡ all = fits_bare (moved h.numbers d.unit own) all bare fits_own in
        elim s.measured [
          | inl sized ↦ measured_all object (subst (HasSize p.types) (one_renamed (h.numbers.tag d.unit) own ∙ ap with_one same) (sized_to d.unit of m.of_is (with_one own) sized))
          | inr open_type ↦
              let one : with_one (type_of p.types y.ty.0) ≡ all =
              ap with_one m.type ∙ (made_one (has_body units (item_of d)) (is_defined j (item_of d)) (declared_type j d) all (no_function_to object) ∙ bare_one all bare) in
              let now : type_of p.types y.ty.0 ≡ all = bare_with_one (type_of p.types y.ty.0) all one bare in
              bare_may y.ty.0 (types.entities (h.entity_numbers d.unit d.number) y m.there) (type_of p.types y.ty.0) refl (subst IsBare (sym now) bare) y.storage (m.moves.storage ∙ open_type.0)
        ]
      where
        bare_with_one : (s t : Ctype) → with_one s ≡ t → IsBare t → s ≡ t
        bare_with_one (ArrayOf a None) t e b = absurd (subst IsBare (sym e) b)
        bare_with_one (ArrayOf a (Some n)) t e b = e
        bare_with_one s t e b = e

    name_sized : EntitySized (trees_of of) x → EntitySized (trees_in p) y
    name_sized (inl f) = inl (function_to units p linkable h d.unit d.number of x y m.of_is m.at m.there f)
    name_sized (inr s) = by_object (cases_Bool (is_function_type own))
      where
        external : y.linkage ≡ External
        external = m.moves.linkage ∙ m.external.linkage

        by_giver : (IsFunctionEntity (trees_of of) x → ⊥) → EntitySized (trees_in p) y
        by_giver object =
            let g = giver units p linkable h d of x y m in
            let theirs = type_of g.of.types g.entity.ty.0 in
            elim ((valid g.declared.unit g.of g.of_is).measured.objects g.declared.number g.entity g.at) [
              | inl f ↦ inl (function_to units p linkable h g.declared.unit g.declared.number g.of g.entity y g.of_is g.at (ap (slice_get p.entities.items) g.number ∙ m.there) f)
              | inr t ↦ inr (record {
                measured = elim t.measured [
                  | inl sized ↦ measured_all object (subst (HasSize p.types) (one_renamed (h.numbers.tag g.declared.unit) theirs ∙ ap with_one g.type) (sized_to g.declared.unit g.of g.of_is (with_one theirs) sized))
                  | inr bare ↦ bare_all object (subst IsBare g.type (bare_to (h.numbers.tag g.declared.unit) theirs (open_bare g.of.types theirs bare.1))) s
                ];
                length = λ lacks. external;
              })
            ]

        by_object : (is_function_type own ≡ true) ⊎ (is_function_type own ≡ false) → EntitySized (trees_in p) y
        by_object (inl f) = inl (function_to units p linkable h d.unit d.number of x y m.of_is m.at m.there (true_function own f))
        by_object (inr no_function) = by_giver (object_else own no_function)
          where
            object_else : (t : Ctype) → is_function_type t ≡ false → IsFunction t → ⊥
            object_else (FunctionFrom r ps f) e i = false≢true (sym e)
            object_else t e i = i

  objects : EachEntity (trees_in p) (λ e entity. EntitySized (trees_in p) entity)
  objects = each_entity units p linkable h (λ e y. EntitySized (trees_in p) y) (λ d of x y m. name_sized d of x y m ((valid d.unit of m.of_is).measured.objects d.number x m.at))
      (λ u e of x y m. other_sized u e of x y m ((valid u of m.of_is).measured.objects e x m.at))

  values : EachNode (trees_in p) (λ n node. ValueSized (trees_in p) node)
  values = each_node units p linkable h (λ n node. ValueSized (trees_in p) node) (λ u i of x m is x_at m_at moves sort aggregate.
      let t = type_of of.types x.ty.0 in
      let type : type_of p.types m.ty.0 ≡ moved h.numbers u t = moves.type ∙ ap (λ (o : Option Unit). moved h.numbers u (type_of (types_if o) x.ty.0)) is in
      let own_sort = sym (sort_renamed (h.entity_numbers u) x.kind) ∙ (ap sort_of (sym moves.kind) ∙ sort) in
      let own = (valid u of is).measured.values i x x_at own_sort (aggregate_back (h.numbers.tag u) t (subst IsAggregate type aggregate)) in
      subst (HasSize p.types) (sym type) (sized_to u of is t own))

  results : EachEntity (trees_in p) (λ e entity. ResultSized (trees_in p) entity)
  results = each_moved units p linkable h (λ e y. ResultSized (trees_in p) y) (λ u e of x y m storage.
      let t = type_of of.types x.ty.0 in
      let result : moved h.numbers u (result_of t) ≡ result_of (type_of p.types y.ty.0) = result_renamed (h.numbers.tag u) t ∙ (keeps_type units p linkable h u e of x y m.of_is m.at m.there).result in
      elim ((valid u of m.of_is).measured.results e x m.at (sym m.moves.storage ∙ storage)) [
        | inl void ↦ inl (sym result ∙ ap (moved h.numbers u) void)
        | inr sized ↦ inr (subst (HasSize p.types) result (sized_to u of m.of_is (result_of t) sized))
      ])

  pub measured : Measured (trees_in p)
  measured = record { objects = objects; tags = tags; values = values; results = results }

  -- ---- lengths
  other_length : (u e : ℕ) (of : Unit) (x y : Entity) → IsOtherOf units p linkable h u e of x y → EntitySized (trees_of of) x → LacksLength (type_of p.types y.ty.0) → ⊥
  other_length u e of x y m (inl f) lacks = lacks_function (type_of of.types x.ty.0) f (lacks_back (h.numbers.tag u) (type_of of.types x.ty.0) (subst LacksLength m.type lacks))
  other_length u e of x y m (inr s) lacks = m.other (external_entity units p linkable h u e of x m.of_is m.at (s.length (lacks_back (h.numbers.tag u) (type_of of.types x.ty.0) (subst LacksLength m.type lacks))))

  name_length : (d : Declared) (of : Unit) (x y : Entity) → IsNameOf units p linkable h d of x y → x.storage ≡ Static → LacksLength (type_of p.types y.ty.0) → ⊥
  name_length d of x y m static lacks = by (is_defined j (item_of d)) refl
    where
      by : (b : Bool) → is_defined j (item_of d) ≡ b → ⊥
      by true e =
          let type : type_of p.types y.ty.0 ≡ with_one (kept_type (has_body units (item_of d)) (declared_type j d) (type_together j x.name h.declarations)) =
          m.type ∙ ap (λ (b : Bool). linked_type (has_body units (item_of d)) b (declared_type j d) (type_together j x.name h.declarations)) e in
          one_length (kept_type (has_body units (item_of d)) (declared_type j d) (type_together j x.name h.declarations)) (subst LacksLength type lacks)
      by false e =
          let at = at_item units p linkable h d.unit d.number of x m.of_is m.at in
          let placed : is_placed (type_in j (item_of d)) x ≡ false = sym (ap (λ o. option_map_or (λ (z : Entity). is_placed (type_in j (item_of d)) z) o false) at) ∙ e in
          let function = undefined_function (type_in j (item_of d)) x static placed in
          let own = ap is_function_type (sym (own_type units p linkable h d.unit of d.number x m.of_is m.at)) ∙ function in
          let keeps = keeps_type units p linkable h d.unit d.number of x y m.of_is m.at m.there in
          lacks_function (type_of p.types y.ty.0) (true_function (type_of p.types y.ty.0) (sym keeps.function ∙ own)) lacks

  pub lengths : EachEntity (trees_in p) (λ e entity. HasLength (trees_in p) entity)
  lengths = each_entity units p linkable h (λ e y. HasLength (trees_in p) y) (λ d of x y m lives lacks. elim lives [
    | inl static ↦ name_length d of x y m (sym m.moves.storage ∙ static) lacks
    | inr automatic ↦ m.external.lasting (subst IsLocal (sym (sym m.moves.storage ∙ automatic)) tt)
  ])
      (λ u e of x y m lives lacks. other_length u e of x y m ((valid u of m.of_is).measured.objects e x m.at) lacks)
