-- External names of linked programs.
use Rattle.std.proofs.Common.{◌≡◌, ℕ, zero, suc, ◌⊎◌, Bool, true, false, cond, is_some, Option, Some, None, List, [], ◌∷◌, Contains, refl, sym, ap, subst, ◌∙◌, arith, inl, inr}
use Rattle.std.specs.List.{slice_get, find, filter}
use Rattle.std.specs.Option.{option_map, option_map_or, option_or}
use Rattle.std.specs.Str.{bytes_eq}
use Rattle.std.specs.Cmp.Lexicographic.{bytes_decides}
use Rattle.std.proofs.lemmas.Bool.{cases_Bool, false≢true}
use Rattle.std.proofs.lemmas.Option.{slice_get_within}
use Rattle.core_tree.specs.declared.node.Unit.{Unit}
use Rattle.core_tree.specs.declared.node.Program.{Program}
use Rattle.core_tree.specs.declared.node.Entity.{Entity}
use Rattle.core_tree.specs.Valid.{IsLocal}
use Rattle.link_model.specs.declared.item.Item.{Item}
use Rattle.link_names.specs.declared.declared.Declared.{Declared}
use Rattle.link_names.specs.Externals.{Joined, IsExternal, is_external, entity_at, item_of, is_named, has_body, is_defined}
use Rattle.link_names.specs.Together.{of_name, first_body, first_defined, maker_of, type_made}
use Rattle.link_names.specs.Faults.{IsMainType, main_name}
use Rattle.link_names.proofs.Ordering.{external_is, is_external_of}
use Rattle.unit_link.specs.Linked.{Entities, entity_of, IsMovedEntity, IsLinkedName, EntitiesLinked, LinkedAt, Linked, joined}
use Rattle.unit_link.specs.Places.{node_place}
use Rattle.linked_laws.specs.link_laws.Whole.{NamedOnce, DefinesMain}

none_some : {X : Type 0} → {x : X} → ◌≡◌ {A = Option X} None (Some x) → ⊥
none_some h = cc

one_of : {X : Type 0} → {x y : X} → ◌≡◌ {A = Option X} (Some x) (Some y) → x ≡ y
one_of h = cc

-- what is found in a filtered list passes both tests and stands in the list
pub record IsFound (p : Declared → Bool) (xs : List Declared) (d : Declared) : Type 0 where
  pub passes : p d ≡ true
  pub contained : Contains xs d

found_later : (p : Declared → Bool) (x : Declared) (xs : List Declared) (d : Declared) → IsFound p xs d → IsFound p (x ∷ xs) d
found_later p x xs d h = let (i, lt, e) = h.contained in record { passes = h.passes; contained = (suc i, (omega arith), e) }

pub find_filter : (t p : Declared → Bool) (xs : List Declared) (d : Declared) → find t (filter p xs) ≡ Some d → IsFound p xs d
find_filter t p [] d h = absurd (none_some h)
find_filter t p (x ∷ xs) d h = elim (cases_Bool (p x)) [
  | inl its ↦
      let whole : find t (x ∷ filter p xs) ≡ Some d = sym (ap (λ b. find t (cond b (x ∷ filter p xs) (filter p xs))) its) ∙ h in
      elim (cases_Bool (t x)) [
        | inl here ↦
            let same : x ≡ d = one_of (sym (ap (λ b. cond b (Some x) (find t (filter p xs))) here) ∙ whole) in
            record { passes = ap p (sym same) ∙ its; contained = (zero, (omega arith), same) }
        | inr not_here ↦ found_later p x xs d (find_filter t p xs d (sym (ap (λ b. cond b (Some x) (find t (filter p xs))) not_here) ∙ whole))
      ]
  | inr not_its ↦ found_later p x xs d (find_filter t p xs d (sym (ap (λ b. find t (cond b (x ∷ filter p xs) (filter p xs))) not_its) ∙ h))
]

one_of_three : {X : Type 0} (a b c : Option X) (d : X) → option_or a (option_or b c) ≡ Some d → (a ≡ Some d) ⊎ ((b ≡ Some d) ⊎ (c ≡ Some d))
one_of_three (Some x) b c d h = inl h
one_of_three None (Some x) c d h = inr (inl h)
one_of_three None None c d h = inr (inr h)

-- what makes a name is a declaration of that name
pub maker_found : (j : Joined) (ds : List Declared) (name : List ℕ) (d : Declared) → maker_of j ds name ≡ Some d → IsFound (is_named j.units name) ds d
maker_found j ds name d h =
    let named = of_name j.units name ds in
    elim (one_of_three (first_body j.units named) (first_defined j named) (find (λ (c : Declared). true) named) d h) [
      | inl a ↦ find_filter (λ (c : Declared). has_body j.units (item_of c)) (is_named j.units name) ds d a
      | inr r ↦ elim r [
        | inl b ↦ find_filter (λ (c : Declared). is_defined j (item_of c)) (is_named j.units name) ds d b
        | inr c ↦ find_filter (λ (c : Declared). true) (is_named j.units name) ds d c
      ]
    ]

-- it has the name
pub named_so : (units : List Unit) (name : List ℕ) (d : Declared) (x : Entity) → is_named units name d ≡ true → entity_at units (item_of d) ≡ Some x → x.name ≡ name
named_so units name d x its at =
    (bytes_decides x.name name).0 (sym (ap (λ o. option_map_or (λ other. bytes_eq other name) (option_map (λ (y : Entity). y.name) o) false) at) ∙ its)

-- the program's object or function of a name has the name, and external linkage where its maker has
pub linked_name : (j : Joined) (ds : List Declared) (entities : Entities) (name : List ℕ) (e : Entity) → IsLinkedName j ds entities name e → e.name ≡ name
linked_name j ds entities name e h =
    h.moved.name ∙ named_so j.units name h.declared h.entity (maker_found j ds name h.declared h.maker).passes h.entity_is

external_moved : (units : List Unit) (entities : Entities) (u : ℕ) (x e : Entity) → IsMovedEntity units entities u x e → IsExternal e → IsExternal x
external_moved units entities u x e m h = record {
  linkage = sym m.linkage ∙ h.linkage;
  lasting = λ local. h.lasting (subst IsLocal (sym m.storage) local);
}

pub moved_external : (units : List Unit) (entities : Entities) (u : ℕ) (x e : Entity) → IsMovedEntity units entities u x e → IsExternal x → IsExternal e
moved_external units entities u x e m h = record {
  linkage = m.linkage ∙ h.linkage;
  lasting = λ local. h.lasting (subst IsLocal m.storage local);
}

-- an external entity of the program is one of a unit's, of that name
pub record ComesFrom (units : List Unit) (entities : Entities) (e : ℕ) (x : Entity) : Type 0 where
  pub item : Item
  pub entity : Entity
  pub entity_is : entity_at units item ≡ Some entity
  pub external : IsExternal entity
  pub number : entity_of entities item ≡ e
  pub named : x.name ≡ entity.name

pub comes_from : (j : Joined) (ds : List Declared) (entities : Entities) (p : Program) → EntitiesLinked j ds entities p → (e : ℕ) (x : Entity) → slice_get p.entities.items e ≡ Some x → IsExternal x → ComesFrom j.units entities e x
comes_from j ds entities p h e x at external =
    let (a, y, there, number) = h.only e (slice_get_within p.entities.items e x at) in
    elim (cases_Bool (is_external y)) [
      | inl its ↦
          let (z, z_is, linked) = h.names a y there (external_is y its) in
          let same : x ≡ z = one_of (sym at ∙ (ap (slice_get p.entities.items) (sym number) ∙ z_is)) in
          record {
            item = a;
            entity = y;
            entity_is = there;
            external = external_is y its;
            number = number;
            named = ap (λ (w : Entity). w.name) same ∙ linked_name j ds entities y.name z linked;
          }
      | inr not_its ↦
          let (z, z_is, linked) = h.others a y there (λ ex. false≢true (sym not_its ∙ is_external_of y ex)) in
          let same : x ≡ z = one_of (sym at ∙ (ap (slice_get p.entities.items) (sym number) ∙ z_is)) in
          let ex = external_moved j.units entities a.unit y z linked.moved (subst IsExternal same external) in
          absurd (false≢true (sym not_its ∙ is_external_of y ex))
    ]

pub named_once : {names : List (List ℕ)} (units : List Unit) (p : Program) → LinkedAt names units p → NamedOnce p
named_once units p h = record {
  once = λ e f x y at there ex ey names.
      let j = joined units h.numbers p.types in
      let a = comes_from j h.declarations h.entity_numbers p h.entities e x at ex in
      let b = comes_from j h.declarations h.entity_numbers p h.entities f y there ey in
      let one = (h.entities.one a.item b.item a.entity b.entity a.entity_is b.entity_is).1 (inr (record {
        name = x.name;
        first = record { entity = a.entity; entity_is = a.entity_is; external = a.external; named = sym a.named };
        second = record { entity = b.entity; entity_is = b.entity_is; external = b.external; named = sym b.named ∙ sym names };
      })) in
      sym a.number ∙ (one ∙ b.number);
}

some_mapped : (f : ℕ → ℕ) (o : Option ℕ) → is_some (option_map f o) ≡ is_some o
some_mapped f None = refl
some_mapped f (Some k) = refl

pub defines_main : (units : List Unit) (p : Program) → Linked units p → DefinesMain p
defines_main units p h =
    let j = joined units h.numbers p.types in
    let ds = h.declarations in
    let m = h.faultless.start in
    let d = m.declared in
    let found = maker_found j ds main_name d m.made in
    let declaration = (h.declared.each d).0 found.contained in
    let own = declaration.entity in
    let name : own.name ≡ main_name = named_so units main_name d own found.passes declaration.entity_is in
    let (e, e_is, linked) = h.entities.names (item_of d) own declaration.entity_is declaration.external in
    let same : linked.declared ≡ d = one_of (sym linked.maker ∙ (ap (maker_of j ds) name ∙ m.made)) in
    let there : linked.entity ≡ own = one_of (sym linked.entity_is ∙ (ap (λ (c : Declared). entity_at units (item_of c)) same ∙ declaration.entity_is)) in
    let made : type_made j ds own.name linked.declared ≡ type_made j ds main_name d = ap (λ n. type_made j ds n linked.declared) name ∙ ap (type_made j ds main_name) same in
    let bodied : is_some own.body ≡ true = sym (ap (λ o. option_map_or (λ (x : Entity). is_some x.body) o false) declaration.entity_is) ∙ m.body in
    record {
      number = entity_of h.entity_numbers (item_of d);
      entity = e;
      entity_is = e_is;
      external = moved_external units h.entity_numbers linked.declared.unit linked.entity e linked.moved (subst IsExternal (sym there) declaration.external);
      named = linked_name j ds h.entity_numbers own.name e linked ∙ name;
      body = ap is_some linked.moved.body ∙ (some_mapped (node_place units linked.declared.unit) linked.entity.body ∙ (ap (λ (x : Entity). is_some x.body) there ∙ bodied));
      type = subst IsMainType (sym (linked.type ∙ made)) m.type;
    }
