-- The type that declarations give together is one of theirs (C11 6.2.7p3).
use Rattle.std.proofs.Common.{◌≡◌, ◌≢◌, ◌∙◌, ◌⊎◌, ℕ, zero, suc, Bool, true, false, cond, List, [], ◌∷◌, Contains, map, Some, None, refl, sym, ap, inl, inr}
use Rattle.std.specs.Prelude.{fold}
use Rattle.std.specs.List.{slice_get, filter}
use Rattle.std.proofs.lemmas.Option.{slice_get_within, slice_get-get_or, get_or_from_slice_get}
use Rattle.c_types.specs.declared.term.Form.TheVariants.{Unspecified}
use Rattle.c_types.specs.Trees.{Ctype, ArrayOf, FunctionFrom}
use Rattle.c_types.specs.Table.{type_of}
use Rattle.core_tree.specs.declared.node.Unit.{Unit}
use Rattle.core_tree.specs.declared.node.Program.{Program}
use Rattle.core_tree.specs.declared.node.Entity.{Entity}
use Rattle.link_model.specs.Merged.{moved}
use Rattle.link_names.specs.declared.declared.Declared.{Declared}
use Rattle.link_names.specs.Externals.{Joined, IsExternal, item_of, declared_type, is_named}
use Rattle.link_names.specs.Together.{composite, together, of_name, type_together}
use Rattle.linked_laws.proofs.link_laws.Wholeness.{maker_found, named_so}
use Rattle.unit_link.specs.Linked.{LinkedAt, joined}
use Rattle.unit_link.specs.Needs.{AreLinkable}
use Rattle.linked_laws.proofs.alike_laws.Origins.{own_type}
use Rattle.linked_laws.proofs.embedded_laws.Lists.{some_one, none_some}
use Rattle.linked_laws.proofs.embedded_laws.Bodies.{filter_has}
use Rattle.linked_laws.proofs.embedded_laws.Entities.{IsNameOf, at_item, in_one}

composite_one : (t x : Ctype) → (composite t x ≡ t) ⊎ (composite t x ≡ x)
composite_one (FunctionFrom r ps Unspecified) x = inr refl
composite_one (ArrayOf of None) x = inr refl
composite_one t x = inl refl

fold_one : (t : Ctype) (rest : List Ctype) → (fold composite t rest ≡ t) ⊎ ((i : ℕ) × (slice_get rest i ≡ Some (fold composite t rest)))
fold_one t [] = inl refl
fold_one t (x ∷ xs) = elim (fold_one (composite t x) xs) [
  | inl e ↦ elim (composite_one t x) [
    | inl one ↦ inl (e ∙ one)
    | inr other ↦ inr (0, ap (λ (y : Ctype). Some y) (sym (e ∙ other)))
  ]
  | inr later ↦ inr (suc later.0, later.1)
]

some_together : (ts : List Ctype) → ts ≢ [] → (i : ℕ) × (slice_get ts i ≡ Some (together ts))
some_together [] some = absurd (some refl)
some_together (t ∷ rest) some = elim (fold_one t rest) [
  | inl e ↦ (0, ap (λ (y : Ctype). Some y) (sym e))
  | inr later ↦ (suc later.0, later.1)
]

mapped : (f : Declared → Ctype) (xs : List Declared) (i : ℕ) (y : Ctype) → slice_get (map f xs) i ≡ Some y → (x : Declared) × (slice_get xs i ≡ Some x) × (f x ≡ y)
mapped f [] i y at = absurd (none_some at)
mapped f (x ∷ xs) zero y at = (x, refl, some_one at)
mapped f (x ∷ xs) (suc i) y at = mapped f xs i y at

-- what a filtered list has stands in the list and passes
filter_step : (q : Declared → Bool) (z : Declared) (xs ys : List Declared) (i : ℕ) (x : Declared) (b : Bool) → q z ≡ b → slice_get (cond b (z ∷ ys) ys) i ≡ Some x → ((j : ℕ) → slice_get ys j ≡ Some x → (k : ℕ) × (slice_get xs k ≡ Some x) × (q x ≡ true))
    → (k : ℕ) × (slice_get (z ∷ xs) k ≡ Some x) × (q x ≡ true)
filter_step q z xs ys zero x true is at f = (0, at, ap q (sym (some_one at)) ∙ is)
filter_step q z xs ys (suc i) x true is at f = let r = f i at in (suc r.0, r.1, r.2)
filter_step q z xs ys i x false is at f = let r = f i at in (suc r.0, r.1, r.2)

filter_back : (q : Declared → Bool) (xs : List Declared) (i : ℕ) (x : Declared) → slice_get (filter q xs) i ≡ Some x → (k : ℕ) × (slice_get xs k ≡ Some x) × (q x ≡ true)
filter_back q [] i x at = absurd (none_some at)
filter_back q (z ∷ xs) i x at = filter_step q z xs (filter q xs) i x (q z) refl at (λ j e. filter_back q xs j x e)

map_some : (f : Declared → Ctype) (xs : List Declared) (i : ℕ) (x : Declared) → slice_get xs i ≡ Some x → map f xs ≢ []
map_some f [] i x at e = none_some at
map_some f (y ∷ ys) i x at e = let bad : f y ∷ map f ys ≡ [] = e in cc

module _ {names : List (List ℕ)} (units : List Unit) (p : Program) (linkable : AreLinkable units) (h : LinkedAt names units p) where
  abbrev j : Joined
  j = joined units h.numbers p.types

  -- the declaration whose type it is
  pub record IsGiver (d : Declared) (name : List ℕ) : Type 0 where
    pub declared : Declared
    pub of : Unit
    pub entity : Entity
    pub of_is : slice_get units declared.unit ≡ Some of
    pub at : slice_get of.entities.items declared.number ≡ Some entity
    pub external : IsExternal entity
    pub named : entity.name ≡ name
    pub type : moved h.numbers declared.unit (type_of of.types entity.ty.0) ≡ type_together j name h.declarations
    pub number : h.entity_numbers declared.unit declared.number ≡ h.entity_numbers d.unit d.number

  pub giver : (d : Declared) (of : Unit) (x y : Entity) → IsNameOf units p linkable h d of x y → IsGiver d x.name
  giver d of x y m =
      let ds = h.declarations in
      let found = maker_found j ds x.name d m.maker in
      let (i, lt, e) = found.contained in
      let (k, here) = filter_has (is_named units x.name) ds i d (slice_get-get_or ds i d lt ∙ ap (λ (z : Declared). Some z) e) found.passes in
      let (n, at) = some_together (map (declared_type j) (of_name units x.name ds)) (map_some (declared_type j) (of_name units x.name ds) k d here) in
      let (c, c_at, c_type) = mapped (declared_type j) (of_name units x.name ds) n (type_together j x.name ds) at in
      let (l, l_at, passes) = filter_back (is_named units x.name) ds n c c_at in
      let among : Contains ds c = (l, slice_get_within ds l c l_at, get_or_from_slice_get ds l c c l_at) in
      let declaration = (h.declared.each c).0 among in
      let inside = in_one units p linkable h (item_of c) declaration.entity declaration.entity_is in
      let named = named_so units x.name c declaration.entity passes declaration.entity_is in
      record {
        declared = c;
        of = inside.of;
        entity = declaration.entity;
        of_is = inside.of_is;
        at = inside.at;
        external = declaration.external;
        named = named;
        type = sym (own_type units p linkable h c.unit inside.of c.number declaration.entity inside.of_is inside.at) ∙ c_type;
        number = (h.entities.one (item_of c) (item_of d) declaration.entity x declaration.entity_is (at_item units p linkable h d.unit d.number of x m.of_is m.at)).1 (inr (record {
          name = x.name;
          first = record { entity = declaration.entity; entity_is = declaration.entity_is; external = declaration.external; named = named };
          second = record { entity = x; entity_is = at_item units p linkable h d.unit d.number of x m.of_is m.at; external = m.external; named = refl };
        }));
      }
