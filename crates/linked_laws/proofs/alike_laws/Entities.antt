-- The type of a program's entity fits those of its declarations.
use Rattle.std.proofs.Common.{ℕ, ◌≡◌, ◌∙◌, Bool, true, false, List, Contains, Option, Some, None, refl, sym, ap, subst, inl, inr}
use Rattle.std.specs.List.{slice_get}
use Rattle.std.specs.Option.{option_map, option_map_or}
use Rattle.std.specs.Str.{bytes_eq}
use Rattle.std.specs.Cmp.Lexicographic.{bytes_decides}
use Rattle.std.proofs.lemmas.Bool.{cases_Bool, false≢true}
use Rattle.c_types.specs.declared.term.Form.TheVariants.{Unspecified}
use Rattle.c_types.specs.Trees.{Ctype, ArrayOf, FunctionFrom}
use Rattle.c_types.specs.Table.{type_of}
use Rattle.type_rules.specs.Sizes.{with_one}
use Rattle.core_tree.specs.declared.node.Unit.{Unit}
use Rattle.core_tree.specs.declared.node.Program.{Program}
use Rattle.core_tree.specs.declared.node.Entity.{Entity}
use Rattle.link_model.specs.declared.item.Item.{Item}
use Rattle.link_names.specs.declared.declared.Declared.{Declared}
use Rattle.link_names.specs.Externals.{Joined, IsDeclaration, declared_as, entity_at, item_of, type_in, declared_type, is_named, is_external, is_function_type, has_body, is_defined}
use Rattle.link_names.specs.Together.{type_together, kept_type, linked_type}
use Rattle.link_names.proofs.Ordering.{external_is, is_external_of}
use Rattle.linked_laws.proofs.link_laws.Wholeness.{maker_found}
use Rattle.unit_link.specs.Linked.{IsLinkedName, LinkedAt, joined, entity_of}
use Rattle.linked_laws.specs.alike_laws.Alike.{IsClosed, Keeps}
use Rattle.linked_laws.proofs.alike_laws.Together.{all_alike}

some_one : {X : Type 0} → {x y : X} → ◌≡◌ {A = Option X} (Some x) (Some y) → x ≡ y
some_one h = cc

closed_no_function : (t : Ctype) → is_function_type t ≡ true → IsClosed t → ⊥
closed_no_function (FunctionFrom r ps f) e c = c
closed_no_function t e c = false≢true e

-- a type with one element
with_one_keeps : (d t : Ctype) → Keeps d t → Keeps d (with_one t)
with_one_keeps d (ArrayOf of None) k = record { function = k.function; result = k.result; closed = λ c. absurd (subst IsClosed (k.closed c) c) }
with_one_keeps d t k = k

-- the type that a body keeps
kept_keeps : (body : Bool) (d own t : Ctype) → Keeps own t → Keeps d t → Keeps d (kept_type body own t)
kept_keeps true d (FunctionFrom r ps Unspecified) t o k =
    record {
      function = k.function ∙ sym o.function;
      result = k.result ∙ sym o.result;
      closed = λ c. absurd (closed_no_function t (sym o.function) (subst IsClosed (k.closed c) c));
    }
kept_keeps true d own t o k = k
kept_keeps false d own t o k = k

linked_keeps : (body defined : Bool) (d own t : Ctype) → Keeps own t → Keeps d t → Keeps d (linked_type body defined own t)
linked_keeps body true d own t o k = with_one_keeps d (kept_type body own t) (kept_keeps body d own t o k)
linked_keeps body false d own t o k = kept_keeps body d own t o k

module _ {names : List (List ℕ)} (units : List Unit) (p : Program) (h : LinkedAt names units p) where
  abbrev j : Joined
  j = joined units h.numbers p.types

  -- an external entity of a unit is a declaration of its name
  declared_at : (a : Item) (x : Entity) → entity_at units a ≡ Some x → is_external x ≡ true → (d : Declared) × Contains h.declarations d × (item_of d ≡ a) × (is_named units x.name d ≡ true)
  declared_at a x at its =
      let d = declared_as a.unit a.number x in
      let is : IsDeclaration units d = record { entity = x; entity_is = at; external = external_is x its; line = refl; column = refl } in (
        d,
        (h.declared.each d).1 is,
        refl,
        ap (λ (o : Option Entity). option_map_or (λ other. bytes_eq other x.name) (option_map (λ (y : Entity). y.name) o) false) at ∙ (bytes_decides x.name x.name).1 refl,
      )

  pub external_keeps : (a : Item) (x entity : Entity) → entity_at units a ≡ Some x → is_external x ≡ true → IsLinkedName j h.declarations h.entity_numbers x.name entity → Keeps (type_in j a) (type_of p.types entity.ty.0)
  external_keeps a x entity at its linked =
      let (d, among, item_is, named) = declared_at a x at its in
      let own = maker_found j h.declarations x.name linked.declared linked.maker in
      let fits = all_alike j h.declarations x.name h.faultless.clean d among named in
      let maker = all_alike j h.declarations x.name h.faultless.clean linked.declared own.contained own.passes in
      let t = type_together j x.name h.declarations in
      let made = linked_keeps (has_body units (item_of linked.declared)) (is_defined j (item_of linked.declared)) (declared_type j d) (declared_type j linked.declared) t maker fits in
      subst (λ (s : Ctype). Keeps s (type_of p.types entity.ty.0)) (ap (type_in j) item_is) (subst (λ (s : Ctype). Keeps (declared_type j d) s) (sym linked.type) made)

pub entity_types : {names : List (List ℕ)} (units : List Unit) (p : Program) (h : LinkedAt names units p) (a : Item) (x entity : Entity) → entity_at units a ≡ Some x → slice_get p.entities.items (entity_of h.entity_numbers a) ≡ Some entity
    → Keeps (type_in (joined units h.numbers p.types) a) (type_of p.types entity.ty.0)
entity_types units p h a x entity at there = elim (cases_Bool (is_external x)) [
  | inl its ↦
      let (y, y_is, linked) = h.entities.names a x at (external_is x its) in
      let same : y ≡ entity = some_one (sym y_is ∙ there) in
      external_keeps units p h a x entity at its (subst (λ (z : Entity). IsLinkedName (joined units h.numbers p.types) h.declarations h.entity_numbers x.name z) same linked)
  | inr not_its ↦
      let (y, y_is, linked) = h.entities.others a x at (λ ex. false≢true (sym not_its ∙ is_external_of x ex)) in
      let same : y ≡ entity = some_one (sym y_is ∙ there) in
      subst (λ (z : Entity). Keeps (type_in (joined units h.numbers p.types) a) (type_of p.types z.ty.0)) same
      (subst (λ (s : Ctype). Keeps (type_in (joined units h.numbers p.types) a) s) (sym linked.type) (record { function = refl; result = refl; closed = λ c. refl }))
]
