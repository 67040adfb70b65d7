-- What is known of an external name that is declared.
use Rattle.std.proofs.Common.{◌≡◌, ◌≢◌, ◌⊎◌, ℕ, ◌+◌, ◌<◌, ◌≤◌, Bool, true, false, Option, Some, None, List, [], ◌∷◌, ◌++◌, length, get_or, refl, sym, ap, subst, ◌∙◌, arith, inl, inr, is_some}
use Rattle.std.proofs.lemmas.Option.{slice_get-get_or}
use Rattle.std.specs.List.{Contains, slice_get, slice_index_or}
use Rattle.std.specs.Option.{option_map_or}
use Rattle.pta_base.specs.declared.place.Place.{Place}
use Rattle.c_types.specs.Table.{type_of}
use Rattle.c_types.specs.declared.term.TypeId.{TypeId}
use Rattle.core_tree.specs.declared.node.Unit.{Unit}
use Rattle.core_tree.specs.declared.node.Entity.{Entity}
use Rattle.link_model.specs.Units.{item}
use Rattle.link_names.specs.declared.declared.Declared.{Declared}
use Rattle.link_names.specs.declared.faults.SoFar.{SoFar}
use Rattle.link_names.specs.Externals.{Joined, AreDeclarations, IsDeclaration, IsExternal, entity_at, name_at, item_of, has_body, is_defined, is_placed, declared_type, type_in}
use Rattle.link_names.specs.Firsts.{first_of, first_or, known}
use Rattle.link_names.specs.Together.{maker_of, of_name, type_together, linked_type}
use Rattle.link_names.specs.Said.{Says, IsTogether, nothing_said}
use Rattle.link_names.specs.Scene.{joined_of}
use Rattle.link_names.proofs.FirstLemmas.{first_here, is_named_own}
use Rattle.link_names.proofs.Gathering.{first_in, declared_name}
use Rattle.link_names.proofs.Making.{named_some}
use Rattle.link_names.proofs.Saying.{read_as}
use Rattle.std.specs.Prelude.{IfOk, Result, Ok, Err}
use Rattle.linked_laws.proofs.link_laws.Wholeness.{maker_found}
use Rattle.unit_link.specs.Linked.{Entities, IsMovedEntity, IsLinkedName, UsesName, NameUsed}
use Rattle.link_units.specs.declared.link_entities.entities.Linking.{Linking}
use Rattle.link_units.specs.link_entities.Linking.{IsLinking}
use Rattle.link_units.specs.link_entities.Uses.{Uses, FirstUsed}

abbrev pub no_declaration : Declared
no_declaration = record { unit = 0; line = 0; column = 0; number = 0 }

some_one : {X : Type 0} → {x y : X} → ◌≡◌ {A = Option X} (Some x) (Some y) → x ≡ y
some_one h = cc

none_some : {X : Type 0} → {x : X} → ◌≡◌ {A = Option X} None (Some x) → ⊥
none_some h = cc

pub record IsNamed (k : Linking) (name : List ℕ) (first : ℕ) : Type 0 where
  pub within : first < length k.scene.now.declared.now
  pub made : maker_of (joined_of k.scene.now) k.scene.now.declared.now name ≡ Some (get_or k.makers.now first no_declaration)
  pub maker : IsDeclaration k.scene.now.units.now (get_or k.makers.now first no_declaration)
  pub some : of_name k.scene.now.units.now name k.scene.now.declared.now ≢ []

-- a declaration of the units, where it stands
pub record StandsAt (ds : List Declared) (d : Declared) : Type 0 where
  pub at : ℕ
  pub within : at < length ds
  pub there : slice_get ds at ≡ Some d

pub stands_at : (units : List Unit) (ds : List Declared) (d : Declared) → AreDeclarations units ds → IsDeclaration units d → StandsAt ds d
stands_at units ds d are is =
    let (i, lt, e) = (are.each d).1 is in
    record { at = i; within = lt; there = slice_get-get_or ds i d lt ∙ ap Some e }

-- the first declaration of a name that is declared
pub first_there : (units : List Unit) (ds : List Declared) (u e : ℕ) (x : Entity) → AreDeclarations units ds → entity_at units (item u e) ≡ Some x → IsExternal x
    → (first : ℕ) × (first_of units ds x.name ≡ Some first) × (of_name units x.name ds ≢ [])
first_there units ds u e x are at external =
    let d : Declared = record { unit = u; line = x.place.line; column = x.place.column; number = e } in
    let is : IsDeclaration units d = record { entity = x; entity_is = at; external = external; line = refl; column = refl } in
    let s = stands_at units ds d are is in
    let named : name_at units (item_of d) ≡ Some x.name = declared_name units d is in (
      first_or (first_of units (Rattle.std.proofs.Common.take s.at ds) x.name) s.at,
      first_here units ds s.at d x.name s.within s.there named,
      named_some units ds s.at d x.name s.within s.there (is_named_own units d x.name named),
    )

pub named_at : (k : Linking) (name : List ℕ) (first : ℕ) → IsLinking k → first_of k.scene.now.units.now k.scene.now.declared.now name ≡ Some first
    → of_name k.scene.now.units.now name k.scene.now.declared.now ≢ [] → IsNamed k name first
named_at k name first is found some =
    let units = k.scene.now.units.now in
    let ds = k.scene.now.declared.now in
    let j = joined_of k.scene.now in
    let within = (first_in units ds name first no_declaration found).0 in
    let all = is.makers.all in
    let lt : first < length k.makers.now = omega arith in
    let made : maker_of j ds name ≡ Some (get_or k.makers.now first no_declaration) = sym (is.makers.each name first found) ∙ slice_get-get_or k.makers.now first no_declaration lt in
    let from = maker_found j ds name (get_or k.makers.now first no_declaration) made in
    let (i, l, e) = from.contained in
    record {
      within = within;
      made = made;
      maker = (is.scene.declared.each (get_or k.makers.now first no_declaration)).0 (i, l, e);
      some = some;
    }

-- what is said of a declared name has a type of the table, which is the one that its declarations give together
pub said_at : (k : Linking) (name : List ℕ) (first : ℕ) → IsLinking k → first_of k.scene.now.units.now k.scene.now.declared.now name ≡ Some first
    → Says (joined_of k.scene.now) k.scene.now.declared.now name (slice_index_or k.names.now.said.items first nothing_said)
said_at k name first is found = is.names.said.each name first found

pub typed_some : (j : Joined) (ds : List Declared) (name : List ℕ) (s : SoFar) (id : TypeId) → Says j ds name s → s.ty ≡ Some id → IsTogether j ds name id.0
typed_some j ds name s id h e = here s.ty e h.type
  where
    here : (o : Option TypeId) → o ≡ Some id → Rattle.std.specs.Prelude.MatchOption o (of_name j.units name ds ≡ []) (λ t. IsTogether j ds name t.0) → IsTogether j ds name id.0
    here None e m = absurd (none_some e)
    here (Some t) e m = subst (λ (z : TypeId). IsTogether j ds name z.0) (some_one e) m

pub typed_none : (j : Joined) (ds : List Declared) (name : List ℕ) (s : SoFar) → Says j ds name s → s.ty ≡ None → of_name j.units name ds ≢ [] → ⊥
typed_none j ds name s h e some = here s.ty e h.type
  where
    here : (o : Option TypeId) → o ≡ None → Rattle.std.specs.Prelude.MatchOption o (of_name j.units name ds ≡ []) (λ t. IsTogether j ds name t.0) → ⊥
    here None e m = some m
    here (Some t) e m = none_some (sym e)

-- the first use of a name among all declarations is that of its declarations
to_uses : (units : List Unit) (ds : List Declared) (name : List ℕ) (q : Place) → AreDeclarations units ds → UsesName units name q → Uses units ds name q
to_uses units ds name q are h =
    let d : Declared = record { unit = h.item.unit; line = h.entity.place.line; column = h.entity.place.column; number = h.item.number } in
    let is : IsDeclaration units d = record { entity = h.entity; entity_is = h.entity_is; external = h.external; line = refl; column = refl } in
    record { declared = d; among = (are.each d).1 is; entity = h.entity; entity_is = h.entity_is; named = h.named; used = h.used }

of_uses : (units : List Unit) (ds : List Declared) (name : List ℕ) (q : Place) → AreDeclarations units ds → Uses units ds name q → UsesName units name q
of_uses units ds name q are h =
    let is = (are.each h.declared).0 h.among in
    let one : is.entity ≡ h.entity = some_one (sym is.entity_is ∙ h.entity_is) in
    record { item = item_of h.declared; entity = h.entity; entity_is = h.entity_is; external = subst IsExternal one is.external; named = h.named; used = h.used }

pub name_used : (units : List Unit) (ds : List Declared) (name : List ℕ) (o : Option Place) → AreDeclarations units ds → FirstUsed units ds name o → NameUsed units name o
name_used units ds name None are h = λ q u. h q (to_uses units ds name q are u)
name_used units ds name (Some p) are h = record { used = of_uses units ds name p are h.uses; first = λ q u. h.first q (to_uses units ds name q are u) }

-- what a declaration says of its body and its place
pub body_of : (units : List Unit) (d : Declared) (x : Entity) → entity_at units (item_of d) ≡ Some x → is_some x.body ≡ has_body units (item_of d)
body_of units d x at = sym (ap (λ (o : Option Entity). option_map_or (λ (y : Entity). is_some y.body) o false) at)

pub defined_of : (j : Joined) (d : Declared) (x : Entity) → entity_at j.units (item_of d) ≡ Some x → is_placed (declared_type j d) x ≡ is_defined j (item_of d)
defined_of j d x at = sym (ap (λ (o : Option Entity). option_map_or (λ (y : Entity). is_placed (type_in j (item_of d)) y) o false) at)

-- the first declaration of a declared name, as the code finds it
pub record IsFound (k : Linking) (name : List ℕ) (first : ℕ) : Type 0 where
  pub first_is : first_of k.scene.now.units.now k.scene.now.declared.now name ≡ Some first
  pub named : IsNamed k name first

pub found : (k : Linking) (u e : ℕ) (x : Entity) (o : Option ℕ) (text : List ℕ) (first : ℕ) → IsLinking k → entity_at k.scene.now.units.now (item u e) ≡ Some x → IsExternal x
    → o ≡ known k.names.now.by_name text → text ≡ x.name → o ≡ Some first → IsFound k x.name first
found k u e x o text first is at external by same here =
    let f = first_there k.scene.now.units.now k.scene.now.declared.now u e x is.scene.declared at external in
    let first_is : first_of k.scene.now.units.now k.scene.now.declared.now x.name ≡ Some first = sym (is.names.by_name x.name) ∙ (ap (known k.names.now.by_name) (sym same) ∙ (sym by ∙ here)) in
    record { first_is = first_is; named = named_at k x.name first is first_is f.2 }

-- what was read of what is said of it
pub said_read : (k : Linking) (name : List ℕ) (first : ℕ) (s : SoFar) → IsLinking k → IsFound k name first → s ≡ get_or k.names.now.said.items first s
    → Says (joined_of k.scene.now) k.scene.now.declared.now name s
said_read k name first s is f e =
    let within = f.named.within in
    let all = is.names.said.all in
    let lt : first < length k.names.now.said.items = omega arith in
    subst (Says (joined_of k.scene.now) k.scene.now.declared.now name) (sym (read_as k.names.now.said.items first s nothing_said lt e)) (is.names.said.each name first f.first_is)

-- the program's object or function of a name
pub name_is : (k : Linking) (entities : Entities) (name : List ℕ) (first : ℕ) (x e : Entity) (ty own together : TypeId) (body defined : Bool) → IsLinking k → IsFound k name first
    → (s : SoFar) → Says (joined_of k.scene.now) k.scene.now.declared.now name s → s.ty ≡ Some together
    → entity_at k.scene.now.units.now (item_of (get_or k.makers.now first no_declaration)) ≡ Some x
    → type_of k.scene.now.types.now own.0 ≡ declared_type (joined_of k.scene.now) (get_or k.makers.now first no_declaration)
    → body ≡ is_some x.body
    → defined ≡ is_placed (type_of k.scene.now.types.now own.0) x
    → type_of k.scene.now.types.now ty.0 ≡ linked_type body defined (type_of k.scene.now.types.now own.0) (type_of k.scene.now.types.now together.0)
    → IsMovedEntity k.scene.now.units.now entities (get_or k.makers.now first no_declaration).unit x e
    → e.ty ≡ ty → e.used ≡ get_or k.uses.now first None
    → IsLinkedName (joined_of k.scene.now) k.scene.now.declared.now entities name e
name_is k entities name first x e ty own together body defined is f s says typed at own_is body_is defined_is ty_is moved e_ty e_used =
    let j = joined_of k.scene.now in
    let ds = k.scene.now.declared.now in
    let d = get_or k.makers.now first no_declaration in
    let t = typed_some j ds name s together says typed in
    let b : body ≡ has_body j.units (item_of d) = body_is ∙ body_of j.units d x at in
    let p : defined ≡ is_defined j (item_of d) = defined_is ∙ (ap (λ y. is_placed y x) own_is ∙ defined_of j d x at) in
    record {
      declared = d;
      maker = f.named.made;
      entity = x;
      entity_is = at;
      moved = moved;
      type = ap (λ (i : TypeId). type_of k.scene.now.types.now i.0) e_ty
          ∙ (ty_is
          ∙ (ap (λ y. linked_type body defined y (type_of k.scene.now.types.now together.0)) own_is
          ∙ (ap (λ y. linked_type body defined (declared_type j d) y) t.type
          ∙ (ap (λ y. linked_type y defined (declared_type j d) (type_together j name ds)) b
          ∙ ap (λ y. linked_type (has_body j.units (item_of d)) y (declared_type j d) (type_together j name ds)) p))));
      used = subst (NameUsed j.units name) (sym e_used) (name_used j.units ds name (get_or k.uses.now first None) is.scene.declared (is.uses.each name first f.first_is));
    }

-- what follows of an Ok
pub ok_then : {X E : Type 0} (P Q R S : X → Type 0) (r : Result X E) → IfOk r P → IfOk r Q → IfOk r R → ((x : X) → P x → Q x → R x → S x) → IfOk r S
ok_then P Q R S (Ok x) p q r f = f x p q r
ok_then P Q R S (Err e) p q r f = tt
