-- What a linked program uses is defined, or the library's.
use Rattle.std.proofs.Common.{◌≡◌, ◌≢◌, ◌∙◌, ℕ, ◌⊎◌, Bool, true, false, cond, is_some, List, [], ◌∷◌, Option, Some, None, refl, sym, ap, subst, inl, inr}
use Rattle.std.specs.Prelude.{◌||◌, ◌&&◌, not}
use Rattle.std.specs.List.{slice_get, find, list_any}
use Rattle.std.specs.Option.{option_map, option_map_or, option_or}
use Rattle.std.proofs.lemmas.Bool.{cases_Bool, false≢true}
use Rattle.std.proofs.lemmas.Option.{slice_get_within}
use Rattle.pta_base.specs.declared.place.Place.{Place}
use Rattle.c_types.specs.Trees.{Ctype}
use Rattle.core_tree.specs.declared.node.Unit.{Unit}
use Rattle.core_tree.specs.declared.node.Program.{Program}
use Rattle.core_tree.specs.declared.node.Entity.{Entity}
use Rattle.core_tree.specs.declared.node.Linkage.TheVariants.{External}
use Rattle.core_tree.specs.declared.node.Storage.{Storage}
use Rattle.core_tree.specs.declared.node.Storage.TheVariants.{Static, Automatic, FunctionBody, Parameter, Declared as DeclaredOnly}
use Rattle.lib_summaries.specs.Table.{Numbered, summary_of}
use Rattle.link_model.specs.declared.item.Item.{Item}
use Rattle.link_names.specs.declared.declared.Declared.{Declared}
use Rattle.link_names.specs.Externals.{Joined, IsExternal, is_external, entity_at, item_of, type_in, is_function_type, is_declared_only, is_placed, has_body, is_defined}
use Rattle.link_names.specs.Together.{of_name, is_own, first_body, first_defined, maker_of}
use Rattle.link_names.specs.Faults.{IsGiven}
use Rattle.link_names.proofs.Ordering.{external_is, is_external_of}
use Rattle.linked_laws.proofs.link_laws.Wholeness.{linked_name}
use Rattle.unit_link.specs.Linked.{IsMovedEntity, IsLinkedName, NameUsed, LinkedAt, joined}
use Rattle.unit_link.specs.Needs.{AreLinkable}
use Rattle.linked_laws.specs.location_laws.named_laws.Units.{AreNamedUnits}
use Rattle.linked_laws.specs.location_laws.named_laws.Whole.{IsDefined, IsLibraryName}
use Rattle.linked_laws.proofs.location_laws.named_laws.Moved.{linked_external}

one_of : {A : Type 0} {a b : A} → Some a ≡ Some b → a ≡ b
one_of h = cc

none_some : {A : Type 0} {a : A} → ◌≡◌ {A = Option A} None (Some a) → ⊥
none_some h = cc

some_mapped : (f : ℕ → ℕ) (o : Option ℕ) → is_some (option_map f o) ≡ is_some o
some_mapped f None = refl
some_mapped f (Some k) = refl

not_declared : (storage : Storage) → not (is_declared_only storage) ≡ true → storage ≢ DeclaredOnly
not_declared DeclaredOnly h e = false≢true h
not_declared Static h e = cc
not_declared Automatic h e = cc
not_declared FunctionBody h e = cc
not_declared Parameter h e = cc

and_right : (a b : Bool) → (a && b) ≡ true → b ≡ true
and_right true b h = h
and_right false b h = absurd (false≢true h)

placed_defined : (t : Ctype) (x : Entity) → is_placed t x ≡ true → IsDefined x
placed_defined t x h = by (is_some x.body) refl h
  where
    by : (b : Bool) → is_some x.body ≡ b → (b || (not (is_function_type t) && not (is_declared_only x.storage))) ≡ true → IsDefined x
    by true e h = inl e
    by false e h = inr (not_declared x.storage (and_right (not (is_function_type t)) (not (is_declared_only x.storage)) h))

moved_defined : (units : List Unit) (entities : ℕ → ℕ → ℕ) (u : ℕ) (x e : Entity) → IsMovedEntity units entities u x e → IsDefined x → IsDefined e
moved_defined units entities u x e m (inl body) = inl (ap is_some m.body ∙ (some_mapped _ x.body ∙ body))
moved_defined units entities u x e m (inr here) = inr (λ s. here (sym m.storage ∙ s))

passes_by : {X : Type 0} (q : X → Bool) (y x : X) (more : Option X) (b : Bool) → q y ≡ b → cond b (Some y) more ≡ Some x → (more ≡ Some x → q x ≡ true) → q x ≡ true
passes_by q y x more true e h f = ap q (sym (one_of h)) ∙ e
passes_by q y x more false e h f = f h

find_passes : {X : Type 0} (q : X → Bool) (xs : List X) (x : X) → find q xs ≡ Some x → q x ≡ true
find_passes q [] x h = absurd (none_some h)
find_passes q (y ∷ xs) x h = passes_by q y x (find q xs) (q y) refl h (find_passes q xs x)

found_by : {X : Type 0} (y : X) (more : Option X) (b any : Bool) → (b || any) ≡ true → cond b (Some y) more ≡ None → (any ≡ true → more ≡ None → ⊥) → ⊥
found_by y more true any h n f = none_some (sym n)
found_by y more false any h n f = f h n

any_found : {X : Type 0} (q : X → Bool) (xs : List X) → list_any q xs ≡ true → find q xs ≡ None → ⊥
any_found q [] h n = false≢true h
any_found q (y ∷ xs) h n = found_by y (find q xs) (q y) (list_any q xs) h n (any_found q xs)

module _ {entered : List (List ℕ)} (units : List Unit) (p : Program) (h : LinkedAt entered units p) where
  abbrev j : Joined
  j = joined units h.numbers p.types

  -- a declaration with a body, or that defines its name
  body_defined : (d : Declared) (x : Entity) → entity_at units (item_of d) ≡ Some x → has_body units (item_of d) ≡ true → IsDefined x
  body_defined d x at body = inl (sym (ap (λ o. option_map_or (λ (y : Entity). is_some y.body) o false) at) ∙ body)

  defined_by : (a : Item) (x : Entity) → entity_at units a ≡ Some x → is_defined j a ≡ true → IsDefined x
  defined_by a x at defined = placed_defined (type_in j a) x (sym (ap (λ o. option_map_or (λ (y : Entity). is_placed (type_in j a) y) o false) at) ∙ defined)

  -- what makes a name that some declaration defines is defined
  maker_defined : (name : List ℕ) (d : Declared) (x : Entity) → is_own j h.declarations name ≡ true → maker_of j h.declarations name ≡ Some d → entity_at units (item_of d) ≡ Some x → IsDefined x
  maker_defined name d x own made at = by (first_body units named) (first_defined j named) refl refl made
    where
      named : List Declared
      named = of_name units name h.declarations

      by : (a b : Option Declared) → first_body units named ≡ a → first_defined j named ≡ b → option_or a (option_or b (find (λ e. true) named)) ≡ Some d → IsDefined x
      by (Some c) b ea eb m = body_defined d x at (find_passes (λ e. has_body units (item_of e)) named d (ea ∙ m))
      by None (Some c) ea eb m = defined_by (item_of d) x at (find_passes (λ e. is_defined j (item_of e)) named d (eb ∙ m))
      by None None ea eb m = absurd (any_found (λ e. is_defined j (item_of e)) named own eb)

  library_row : (name : List ℕ) → ((IsGiven j h.declarations name → ⊥) → ⊥) → (row : Numbered) × (summary_of name ≡ Some row)
  library_row name given = by (summary_of name) refl
    where
      by : (o : Option Numbered) → summary_of name ≡ o → (row : Numbered) × (summary_of name ≡ Some row)
      by (Some row) e = (row, e)
      by None e = absurd (given (λ g. none_some (sym e ∙ g.in_library)))

  external_used : (a : Item) (x e : Entity) (place : Place) → entity_at units a ≡ Some x → IsExternal x → IsLinkedName j h.declarations h.entity_numbers x.name e → e.used ≡ Some place → e.linkage ≡ External → IsDefined e ⊎ IsLibraryName e
  external_used a x e place at external linked used linkage =
      let uses = (subst (NameUsed units x.name) used linked.used).used in
      elim (cases_Bool (is_own j h.declarations x.name)) [
        | inl own ↦ inl (moved_defined units h.entity_numbers linked.declared.unit linked.entity e linked.moved (maker_defined x.name linked.declared linked.entity own linked.maker linked.entity_is))
        | inr not_own ↦
            let (row, found) = library_row x.name (λ not_given. h.faultless.defined.each uses.item uses.entity place (record {
              entity_is = uses.entity_is;
              used = uses.used;
              external = λ ex. record { not_own = ap (is_own j h.declarations) uses.named ∙ not_own; not_given = λ g. not_given (subst (IsGiven j h.declarations) uses.named g) };
              internal = λ no. absurd (no uses.external);
            })) in
            inr (record { linkage = linkage; row = row; in_library = ap summary_of (linked_name j h.declarations h.entity_numbers x.name e linked) ∙ found })
      ]

  other_used : (a : Item) (x : Entity) (place : Place) → entity_at units a ≡ Some x → (IsExternal x → ⊥) → x.used ≡ Some place → IsDefined x
  other_used a x place at other used = elim (cases_Bool (is_defined j a)) [
    | inl its ↦ defined_by a x at its
    | inr isnt ↦ absurd (h.faultless.defined.each a x place (record { entity_is = at; used = used; external = λ ex. absurd (other ex); internal = λ no. isnt }))
  ]

  pub used_defined : (links : AreLinkable units) (each : AreNamedUnits units) (e : ℕ) (x : Entity) (place : Place) → slice_get p.entities.items e ≡ Some x → x.used ≡ Some place → IsDefined x ⊎ IsLibraryName x
  used_defined links each e x place at used =
      let (a, y, there, number) = h.entities.only e (slice_get_within p.entities.items e x at) in
      elim (cases_Bool (is_external y)) [
        | inl its ↦
            let (z, z_is, linked) = h.entities.names a y there (external_is y its) in
            let same : z ≡ x = one_of (sym z_is ∙ (ap (slice_get p.entities.items) number ∙ at)) in
            let external = linked_external units p links each h a y z there (external_is y its) linked in
            subst (λ (w : Entity). IsDefined w ⊎ IsLibraryName w) same
            (external_used a y z place there (external_is y its) linked (ap (λ (w : Entity). w.used) same ∙ used) external)
        | inr not_its ↦
            let (z, z_is, other) = h.entities.others a y there (λ ex. false≢true (sym not_its ∙ is_external_of y ex)) in
            let same : z ≡ x = one_of (sym z_is ∙ (ap (slice_get p.entities.items) number ∙ at)) in
            let own : y.used ≡ Some place = sym other.used ∙ (ap (λ (w : Entity). w.used) same ∙ used) in
            let defined = moved_defined units h.entity_numbers a.unit y z other.moved (other_used a y place there (λ ex. false≢true (sym not_its ∙ is_external_of y ex)) own) in
            inl (subst IsDefined same defined)
      ]
