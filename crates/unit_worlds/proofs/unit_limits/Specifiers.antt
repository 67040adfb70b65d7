-- The type that the row of a structure or union gives is that of the tag that its node completes.
use Rattle.std.proofs.Common.{◌≡◌, ℕ, Bool, true, false, List, [], ◌∷◌, Option, Some, None, refl, sym, ap, ◌∙◌, subst}
use Rattle.std.specs.Prelude.{if◌then◌else◌, IfSome}
use Rattle.pta_base.specs.declared.kind.Kind.{Kind}
use Rattle.c_types.specs.declared.term.TypeId.{TypeId}
use Rattle.c_types.specs.Trees.{Ctype, StructureOf, UnionOf}
use Rattle.c_types.specs.Table.{Table, type_of}
use Rattle.core_tree.specs.declared.node.Unit.{Unit}
use Rattle.c_grammar.specs.Productions.{p_struct, p_members}
use Rattle.c_inits.specs.Made.{TagParts}
use Rattle.c_senses.specs.Tree.{Source, is_a, child_of}
use Rattle.c_senses.specs.World.{World}
use Rattle.c_senses.specs.Given.{Given, Fits, given_if}
use Rattle.c_senses.specs.Sense.{Sense, IsType, IsMembers}
use Rattle.c_senses.specs.Tags.{tag_of, is_union, aggregate_type, struct_type, struct_row}
use Rattle.c_results.specs.Parts.{type_in}
use Rattle.c_results.specs.Standing.{TypeSeen}
use Rattle.unit_worlds.specs.Growing.{completed_at}
use Rattle.unit_worlds.specs.unit_limits.Small.{tag_in, IsTypeOf}

if_fits : (b : Bool) (kind : Kind) (node : ℕ) (g : Given Sense) (x : Sense) → given_if b kind node g ≡ Fits x → g ≡ Fits x
if_fits true kind node g x h = h
if_fits false kind node g x h = cc

same_sense : (x y : Sense) → ◌≡◌ {A = Given Sense} (Fits x) (Fits y) → y ≡ x
same_sense x y h = cc

type_fits : (w : World) (s : Source) (sense : ℕ → Sense) (at : ℕ) (o : Option ℕ) (x : Sense) → struct_type w s sense at o ≡ Fits x → x ≡ IsType (aggregate_type s at)
type_fits w s sense at None x h = same_sense (IsType (aggregate_type s at)) x h
type_fits w s sense at (Some list) x h = same_sense (IsType (aggregate_type s at)) x (if_fits _ _ _ (Fits (IsType (aggregate_type s at))) x h)

row_fits : (w : World) (s : Source) (sense : ℕ → Sense) (at : ℕ) (x : Sense) → struct_row w s sense at ≡ Fits x → x ≡ IsType (aggregate_type s at)
row_fits w s sense at x h = type_fits w s sense at (child_of s p_members at) x (if_fits _ _ _ (struct_type w s sense at (child_of s p_members at)) x h)

aggregate_tag : (s : Source) (at : ℕ) → tag_in (aggregate_type s at) ≡ Some (tag_of s at)
aggregate_tag s at = by (is_union s at)
  where
    by : (b : Bool) → tag_in (if b then UnionOf (tag_of s at) else StructureOf (tag_of s at)) ≡ Some (tag_of s at)
    by true = refl
    by false = refl

-- the type that is seen of a sense
seen_is : (u : Unit) (r : Option TypeId) (x : Sense) (t : Ctype) → TypeSeen u r (type_in x) → x ≡ IsType t → (ty : TypeId) × (r ≡ Some ty) × (type_of u.types ty.0 ≡ t)
seen_is u None x t seen e = let never : None ≡ Some t = sym seen ∙ ap type_in e in absurd cc
seen_is u (Some ty) x t seen e = let same : Some (type_of u.types ty.0) ≡ Some t = sym seen ∙ ap type_in e in (ty, refl, cc)

module _ (s : Source) (sense : ℕ → Sense) (at : ℕ) where
  -- what a node completes, by its list of members
  by_list : Option ℕ → List TagParts
  by_list o = elim o as (λ _. List TagParts) [ None ↦ [] | Some list ↦ elim (sense list) as (λ _. List TagParts) [ IsMembers parts ↦ record { tag = tag_of s at; members = parts } ∷ [] | _ ↦ [] ] ]

  is_by_list : completed_at s sense at ≡ by_list (if is_a s p_struct at then child_of s p_members at else None)
  unfolding by_list
  is_by_list = refl

  pub none_without : child_of s p_members at ≡ None → completed_at s sense at ≡ []
  unfolding by_list
  none_without e = is_by_list ∙ by (is_a s p_struct at)
    where
      by : (b : Bool) → by_list (if b then child_of s p_members at else None) ≡ []
      by true = ap by_list e
      by false = refl

  of_type : (types : Table) (ty : TypeId) → tag_in (type_of types ty.0) ≡ Some (tag_of s at) → (o : Option ℕ) → IsTypeOf types (Some ty) (by_list o)
  unfolding by_list
  of_type types ty e None = tt
  of_type types ty e (Some list) = by (sense list)
    where
      by : (x : Sense) → IsTypeOf types (Some ty) (elim x as (λ _. List TagParts) [ IsMembers parts ↦ record { tag = tag_of s at; members = parts } ∷ [] | _ ↦ [] ])
      by (IsMembers parts) = e
      by x = tt

  pub of_row : (u : Unit) (w : World) (r : Option TypeId) (x : Sense) → TypeSeen u r (type_in x) → struct_row w s sense at ≡ Fits x → IsTypeOf u.types r (completed_at s sense at)
  of_row u w r x seen row =
      let found = seen_is u r x (aggregate_type s at) seen (row_fits w s sense at x row) in
      let of_tag : tag_in (type_of u.types found.0.0) ≡ Some (tag_of s at) = ap tag_in found.2 ∙ aggregate_tag s at in
      subst (λ (o : Option TypeId). IsTypeOf u.types o (completed_at s sense at)) (sym found.1)
      (subst (λ (es : List TagParts). IsTypeOf u.types (Some found.0) es) (sym is_by_list) (of_type u.types found.0 of_tag (if is_a s p_struct at then child_of s p_members at else None)))

  -- the type that is seen of a row that fits has the tag of its specifier
  pub tag_of_row : (u : Unit) (w : World) (r : Option TypeId) (x : Sense) → TypeSeen u r (type_in x) → struct_row w s sense at ≡ Fits x → IfSome r (λ ty. tag_in (type_of u.types ty.0) ≡ Some (tag_of s at))
  tag_of_row u w r x seen row =
      let found = seen_is u r x (aggregate_type s at) seen (row_fits w s sense at x row) in
      let of_tag : tag_in (type_of u.types found.0.0) ≡ Some (tag_of s at) = ap tag_in found.2 ∙ aggregate_tag s at in
      subst (λ (o : Option TypeId). IfSome o (λ ty. tag_in (type_of u.types ty.0) ≡ Some (tag_of s at))) (sym found.1) of_tag
