-- What a linked program begins at: a function with a body in the unit that makes it.
use Rattle.std.proofs.Common.{arith, ◌≡◌, ◌≢◌, ◌∙◌, ℕ, zero, suc, ◌<◌, ◌≤◌, Bool, true, false, cond, is_some, List, [], ◌∷◌, ◌++◌, Contains, length, map, take, Option, Some, None, refl, sym, ap, subst, inl, inr}
use Rattle.std.specs.Prelude.{fold, ◌||◌, ◌&&◌, not, ◌↔◌, All}
use Rattle.std.specs.List.{slice_get, filter, AllZip}
use Rattle.std.proofs.lemmas.List.Elements.{All-head, All-tail, All-cons}
use Rattle.std.specs.Option.{option_map_or}
use Rattle.std.specs.Str.{bytes_eq}
use Rattle.std.specs.Cmp.Lexicographic.{bytes_decides}
use Rattle.std.proofs.lemmas.Bool.{cases_Bool, cases_lt, false≢true}
use Rattle.std.proofs.lemmas.Option.{slice_get_within, slice_get-get_or}
use Rattle.c_types.specs.declared.term.Form.TheVariants.{Fixed, Variadic, Unspecified}
use Rattle.c_types.specs.Trees.{Ctype, ArrayOf, FunctionFrom}
use Rattle.c_types.specs.Table.{type_of}
use Rattle.type_rules.specs.Kinds.{IsFunction, IsEntryType}
use Rattle.type_rules.specs.Conversions.{Agree}
use Rattle.type_rules.specs.Sizes.{with_one}
use Rattle.core_tree.specs.declared.node.Unit.{Unit}
use Rattle.core_tree.specs.declared.node.Program.{Program}
use Rattle.core_tree.specs.declared.node.Entity.{Entity}
use Rattle.core_tree.specs.declared.node.Storage.TheVariants.{FunctionBody}
use Rattle.core_tree.specs.Typed.{trees_of, trees_in}
use Rattle.core_tree.specs.Valid.{HasBody, IsEntryAt}
use Rattle.link_model.specs.declared.item.Item.{Item}
use Rattle.link_model.specs.Units.{item, types_if, types_in}
use Rattle.link_model.specs.Renamed.{renamed}
use Rattle.link_names.specs.declared.declared.Declared.{Declared}
use Rattle.link_names.specs.Externals.{Joined, IsExternal, entities_if, entity_at, item_of, name_at, type_if, type_in, declared_type, is_named, has_body, is_function_type, is_declared_only, is_placed, is_defined}
use Rattle.link_names.specs.Together.{composite, together, of_name, type_together, maker_of, kept_type, linked_type, type_made}
use Rattle.link_names.specs.Faults.{IsClean, AreClean, IsMainType, main_name, HasEntry, IsStarted}
use Rattle.linked_laws.proofs.link_laws.Wholeness.{maker_found, named_so, linked_name, moved_external, named_once}
use Rattle.unit_link.specs.Linked.{entity_of, IsOfName, LinkedAt, joined}
use Rattle.unit_link.specs.Needs.{AreLinkable}
use Rattle.obj_space.specs.Space.{locations_in}
use Rattle.linked_laws.specs.main_laws.Located.{AreEntries}
use Rattle.linked_laws.proofs.main_laws.Objects.{body_located}

none_some : {X : Type 0} → {x : X} → ◌≡◌ {A = Option X} None (Some x) → ⊥
none_some h = cc

some_one : {X : Type 0} → {x y : X} → ◌≡◌ {A = Option X} (Some x) (Some y) → x ≡ y
some_one h = cc

-- types that agree are both functions, or neither
agree_function : (s t : Ctype) → Agree s t → is_function_type s ≡ is_function_type t
agree_function (FunctionFrom r ps Fixed) (FunctionFrom s qs f) h = refl
agree_function (FunctionFrom r ps Variadic) (FunctionFrom s qs f) h = refl
agree_function (FunctionFrom r ps Unspecified) (FunctionFrom s qs f) h = refl
agree_function (ArrayOf a None) (ArrayOf b n) h = refl
agree_function (ArrayOf a (Some m)) (ArrayOf b n) h = refl
agree_function s t h = ap is_function_type h

composite_function : (s t : Ctype) → is_function_type s ≡ is_function_type t → is_function_type (composite s t) ≡ is_function_type s
composite_function (FunctionFrom r ps Unspecified) t e = sym e
composite_function (ArrayOf of None) t e = sym e
composite_function s t e = refl

not_differing : (a b : Bool) → ((a ≡ b → ⊥) → ⊥) → a ≡ b
not_differing true true h = refl
not_differing false false h = refl
not_differing true false h = absurd (h (λ e. false≢true (sym e)))
not_differing false true h = absurd (h false≢true)

-- one declaration more
fold_push : (f : Ctype → Ctype → Ctype) (a : Ctype) (xs : List Ctype) (t : Ctype) → fold f a (xs ++ t ∷ []) ≡ f (fold f a xs) t
fold_push f a [] t = refl
fold_push f a (x ∷ xs) t = fold_push f (f a x) xs t

map_push : (f : Declared → Ctype) (xs : List Declared) (x : Declared) → map f (xs ++ x ∷ []) ≡ map f xs ++ f x ∷ []
map_push f [] x = refl
map_push f (y ∷ xs) x = ap (λ (l : List Ctype). f y ∷ l) (map_push f xs x)

filter_in : (p : Declared → Bool) (xs : List Declared) (x : Declared) → p x ≡ true → filter p (xs ++ x ∷ []) ≡ filter p xs ++ x ∷ []
filter_in p [] x e = ap (λ b. cond b (x ∷ []) []) e
filter_in p (y ∷ xs) x e = elim (cases_Bool (p y)) [
  | inl its ↦
      ap (λ b. cond b (y ∷ filter p (xs ++ x ∷ [])) (filter p (xs ++ x ∷ []))) its
      ∙ (ap (λ (l : List Declared). y ∷ l) (filter_in p xs x e) ∙ sym (ap (λ b. cond b (y ∷ filter p xs) (filter p xs) ++ x ∷ []) its))
  | inr not_its ↦
      ap (λ b. cond b (y ∷ filter p (xs ++ x ∷ [])) (filter p (xs ++ x ∷ []))) not_its
      ∙ (filter_in p xs x e ∙ sym (ap (λ b. cond b (y ∷ filter p xs) (filter p xs) ++ x ∷ []) not_its))
]

filter_out : (p : Declared → Bool) (xs : List Declared) (x : Declared) → p x ≡ false → filter p (xs ++ x ∷ []) ≡ filter p xs
filter_out p [] x e = ap (λ b. cond b (x ∷ []) []) e
filter_out p (y ∷ xs) x e = ap (λ (l : List Declared). cond (p y) (y ∷ l) l) (filter_out p xs x e)

take_one : (xs : List Declared) (n : ℕ) (x : Declared) → slice_get xs n ≡ Some x → take (suc n) xs ≡ take n xs ++ x ∷ []
take_one [] n x e = cc
take_one (y ∷ ys) zero x e = ap (λ (z : Declared). z ∷ []) (some_one e)
take_one (y ∷ ys) (suc n) x e = ap (λ (zs : List Declared). y ∷ zs) (take_one ys n x e)

take_whole : (xs : List Declared) → take (length xs) xs ≡ xs
take_whole [] = refl
take_whole (x ∷ xs) = ap (λ (zs : List Declared). x ∷ zs) (take_whole xs)

present : (xs : List Declared) (k : ℕ) → k < length xs → (x : Declared) × (slice_get xs k ≡ Some x)
present [] k lt = absurd (omega arith)
present (x ∷ xs) zero lt = (x, refl)
present (x ∷ xs) (suc k) lt = present xs k (omega arith)

named_by : (o : Option (List ℕ)) (name : List ℕ) → option_map_or (λ other. bytes_eq other name) o false ≡ true → o ≡ Some name
named_by None name e = absurd (false≢true e)
named_by (Some other) name e = ap Some ((bytes_decides other name).0 e)

-- as many entries as names
zip_none : {X : Type 0} (R : X → ℕ → Type 0) (xs : List X) (es : List ℕ) → AllZip R xs es → (es ≡ []) ↔ (xs ≡ [])
zip_none R [] [] zip = ((λ e. refl), (λ e. refl))
zip_none R [] (e ∷ es) zip = absurd zip
zip_none R (x ∷ xs) [] zip = absurd zip
zip_none R (x ∷ xs) (e ∷ es) zip = ((λ h. absurd (cons_none h)), (λ h. absurd (cons_none h)))
  where
    cons_none : {Y : Type 0} → {y : Y} {ys : List Y} → ◌≡◌ {A = List Y} (y ∷ ys) [] → ⊥
    cons_none h = cc

-- a function of external linkage with a body in a program
record FunctionNamed (p : Program) (name : List ℕ) (t : Ctype) : Type 0 where
  number : ℕ
  entity : Entity
  entity_is : slice_get p.entities.items number ≡ Some entity
  external : IsExternal entity
  named : entity.name ≡ name
  storage : entity.storage ≡ FunctionBody
  type : type_of p.types entity.ty.0 ≡ t

module _ (j : Joined) (ds : List Declared) (name : List ℕ) (clean : AreClean j ds (length ds)) where
  -- the declarations of the name among the first so many are functions where the type that they give together is one
  record AreAlike (k : ℕ) : Type 0 where
    none : of_name j.units name (take k ds) ≡ [] → (i : ℕ) (d : Declared) → i < k → slice_get ds i ≡ Some d → is_named j.units name d ≡ true → ⊥
    same : (i : ℕ) (d : Declared) → i < k → slice_get ds i ≡ Some d → is_named j.units name d ≡ true → is_function_type (declared_type j d) ≡ is_function_type (type_together j name (take k ds))

  agrees : (k : ℕ) (x : Declared) → slice_get ds k ≡ Some x → is_named j.units name x ≡ true → of_name j.units name (take k ds) ≢ [] → is_function_type (type_together j name (take k ds)) ≡ is_function_type (declared_type j x)
  agrees k x at named some =
      let lt = slice_get_within ds k x at in
      let c : IsClean j ds (take k ds) x = clean.each k x lt at in
      let is = named_by (name_at j.units (item_of x)) name named in
      not_differing (is_function_type (type_together j name (take k ds))) (is_function_type (declared_type j x))
      (λ ne. c.agrees name is (inr (record { some = some; types = λ agree. ne (agree_function (type_together j name (take k ds)) (declared_type j x) agree) })))

  by_list : (k : ℕ) (x : Declared) → slice_get ds k ≡ Some x → is_named j.units name x ≡ true → AreAlike k → (list : List Declared) → of_name j.units name (take k ds) ≡ list → AreAlike (suc k)
  by_list k x at named before [] is =
      let now : of_name j.units name (take (suc k) ds) ≡ x ∷ [] = ap (of_name j.units name) (take_one ds k x at) ∙ (filter_in (is_named j.units name) (take k ds) x named ∙ ap (λ (l : List Declared). l ++ x ∷ []) is) in
      record {
        none = λ e i d lt there its. let bad : x ∷ [] ≡ [] = sym now ∙ e in cc;
        same = λ i d lt there its. elim (cases_lt i k) [
          | inl less ↦ absurd (before.none is i d less there its)
          | inr ge ↦
              let here : i ≡ k = omega arith in
              let one : d ≡ x = some_one (sym there ∙ (ap (slice_get ds) here ∙ at)) in
              ap (λ (y : Declared). is_function_type (declared_type j y)) one ∙ sym (ap (λ (l : List Declared). is_function_type (together (map (declared_type j) l))) now)
        ];
      }
  by_list k x at named before (y ∷ ys) is =
      let now : of_name j.units name (take (suc k) ds) ≡ (y ∷ ys) ++ x ∷ [] = ap (of_name j.units name) (take_one ds k x at) ∙ (filter_in (is_named j.units name) (take k ds) x named ∙ ap (λ (l : List Declared). l ++ x ∷ []) is) in
      let old : type_together j name (take k ds) ≡ together (map (declared_type j) (y ∷ ys)) = ap (λ (l : List Declared). together (map (declared_type j) l)) is in
      let new : type_together j name (take (suc k) ds) ≡ composite (type_together j name (take k ds)) (declared_type j x) =
      ap (λ (l : List Declared). together (map (declared_type j) l)) now
      ∙ (ap (fold composite (declared_type j y)) (map_push (declared_type j) ys x)
      ∙ (fold_push composite (declared_type j y) (map (declared_type j) ys) (declared_type j x) ∙ sym (ap (λ (t : Ctype). composite t (declared_type j x)) old))) in
      let alike = agrees k x at named (λ e. let bad : y ∷ ys ≡ [] = sym is ∙ e in cc) in
      let kept : is_function_type (type_together j name (take (suc k) ds)) ≡ is_function_type (type_together j name (take k ds)) = ap is_function_type new ∙ composite_function (type_together j name (take k ds)) (declared_type j x) alike in
      record {
        none = λ e i d lt there its. let bad : y ∷ (ys ++ x ∷ []) ≡ [] = sym now ∙ e in cc;
        same = λ i d lt there its. elim (cases_lt i k) [
          | inl less ↦ before.same i d less there its ∙ sym kept
          | inr ge ↦
              let here : i ≡ k = omega arith in
              let one : d ≡ x = some_one (sym there ∙ (ap (slice_get ds) here ∙ at)) in
              ap (λ (z : Declared). is_function_type (declared_type j z)) one ∙ (sym alike ∙ sym kept)
        ];
      }

  other : (k : ℕ) (x : Declared) → slice_get ds k ≡ Some x → is_named j.units name x ≡ false → AreAlike k → AreAlike (suc k)
  other k x at not_named before =
      let now : of_name j.units name (take (suc k) ds) ≡ of_name j.units name (take k ds) = ap (of_name j.units name) (take_one ds k x at) ∙ filter_out (is_named j.units name) (take k ds) x not_named in
      let type : type_together j name (take (suc k) ds) ≡ type_together j name (take k ds) = ap (λ (l : List Declared). together (map (declared_type j) l)) now in
      let no : (d : Declared) → d ≡ x → is_named j.units name d ≡ true → ⊥ = λ d e its. false≢true (sym not_named ∙ (sym (ap (is_named j.units name) e) ∙ its)) in
      record {
        none = λ e i d lt there its. elim (cases_lt i k) [
          | inl less ↦ before.none (sym now ∙ e) i d less there its
          | inr ge ↦ no d (let here : i ≡ k = omega arith in some_one (sym there ∙ (ap (slice_get ds) here ∙ at))) its
        ];
        same = λ i d lt there its. elim (cases_lt i k) [
          | inl less ↦ before.same i d less there its ∙ sym (ap is_function_type type)
          | inr ge ↦ absurd (no d (let here : i ≡ k = omega arith in some_one (sym there ∙ (ap (slice_get ds) here ∙ at))) its)
        ];
      }

  alike : (k : ℕ) → k ≤ length ds → AreAlike k
  alike zero le = record { none = λ e i d lt there its. omega arith; same = λ i d lt there its. absurd (omega arith) }
  alike (suc k) le =
      let (x, at) = present ds k (omega arith) in
      let before = alike k (omega arith) in
      elim (cases_Bool (is_named j.units name x)) [
        | inl its ↦ by_list k x at its before (of_name j.units name (take k ds)) refl
        | inr not_its ↦ other k x at not_its before
      ]

  pub all_alike : (d : Declared) → Contains ds d → is_named j.units name d ≡ true → is_function_type (declared_type j d) ≡ is_function_type (type_together j name ds)
  all_alike d (i, lt, e) its =
      (alike (length ds) (omega arith)).same i d lt (slice_get-get_or ds i d lt ∙ ap Some e) its ∙ ap (λ (l : List Declared). is_function_type (type_together j name l)) (take_whole ds)

or_true : (a b : Bool) → a ≡ true → (a || b) ≡ true
or_true true b e = refl
or_true false b e = absurd (false≢true e)

-- the types of main and of entries are functions'
main_function : (t : Ctype) → IsMainType t → is_function_type t ≡ true
main_function (FunctionFrom r ps f) h = refl
main_function t h = absurd h

entry_function : (t : Ctype) → IsEntryType t → is_function_type t ≡ true
entry_function (FunctionFrom r ps f) h = refl
entry_function t h = absurd h

with_one_function : (t : Ctype) → is_function_type (with_one t) ≡ is_function_type t
with_one_function (ArrayOf of None) = refl
with_one_function t = refl

own_function : (own t : Ctype) → is_function_type own ≡ is_function_type t → is_function_type (with_one (kept_type true own t)) ≡ true → is_function_type own ≡ true
own_function (FunctionFrom r ps f) t e h = refl
own_function own t e h = e ∙ (sym (with_one_function t) ∙ h)

renamed_function : (f : ℕ → ℕ) (t : Ctype) → is_function_type (renamed f t) ≡ is_function_type t
renamed_function f (FunctionFrom r ps form) = refl
renamed_function f t = refl

function_is : (t : Ctype) → is_function_type t ≡ true → IsFunction t
function_is (FunctionFrom r ps f) e = tt
function_is t e = absurd (false≢true e)

body_of_function : (of : Unit) (e : ℕ) (x : Entity) (o : Option ℕ) → is_some o ≡ true → IsFunction (type_of of.types x.ty.0) → HasBody (trees_of of) e x o → x.storage ≡ FunctionBody
body_of_function of e x None some function h = absurd (false≢true some)
body_of_function of e x (Some b) some function (inl body, only) = body.storage
body_of_function of e x (Some b) some function (inr object, only) = absurd (object.object function)

module _ {names : List (List ℕ)} (units : List Unit) (p : Program) (linkable : AreLinkable units) (h : LinkedAt names units p) where
  unit_of : (a : Item) (x : Entity) → entity_at units a ≡ Some x → (of : Unit) × (slice_get units a.unit ≡ Some of) × (slice_get of.entities.items a.number ≡ Some x)
  unit_of a x at = by (slice_get units a.unit) refl at
    where
      by : (o : Option Unit) → slice_get units a.unit ≡ o → slice_get (entities_if o) a.number ≡ Some x → (of : Unit) × (slice_get units a.unit ≡ Some of) × (slice_get of.entities.items a.number ≡ Some x)
      by (Some of) is e = (of, is, e)
      by None is e = absurd (none_some e)

  -- the type of an entity in its unit is a function's where it is one in the table
  own_type : (a : Item) (x : Entity) (of : Unit) → entity_at units a ≡ Some x → slice_get units a.unit ≡ Some of → slice_get of.entities.items a.number ≡ Some x
      → is_function_type (type_in (joined units h.numbers p.types) a) ≡ is_function_type (type_of of.types x.ty.0)
  own_type a x of at is own =
      let known = (linkable.valid a.unit of is).trees.in_range.entity_types a.number x own in
      let types : types_in units a.unit ≡ of.types = ap types_if is in
      let has = h.types.types (item a.unit x.ty.0) (subst (λ t. x.ty.0 < length t.terms) (sym types) known) in
      ap (λ o. is_function_type (type_if (joined units h.numbers p.types) a.unit o)) at
      ∙ (ap is_function_type has.type_is ∙ (renamed_function (h.numbers.tag a.unit) (type_of (types_in units a.unit) x.ty.0) ∙ ap (λ t. is_function_type (type_of t x.ty.0)) types))

  -- a function with a body that makes a name is in the program
  function_named : (name : List ℕ) (d : Declared) → maker_of (joined units h.numbers p.types) h.declarations name ≡ Some d → has_body units (item_of d) ≡ true
      → is_function_type (type_made (joined units h.numbers p.types) h.declarations name d) ≡ true → FunctionNamed p name (type_made (joined units h.numbers p.types) h.declarations name d)
  function_named name d made body function =
      let j = joined units h.numbers p.types in
      let ds = h.declarations in
      let found = maker_found j ds name d made in
      let declaration = (h.declared.each d).0 found.contained in
      let own = declaration.entity in
      let at = declaration.entity_is in
      let its : own.name ≡ name = named_so units name d own found.passes at in
      let (e, e_is, linked) = h.entities.names (item_of d) own at declaration.external in
      let same : linked.declared ≡ d = some_one (sym linked.maker ∙ (ap (maker_of j ds) its ∙ made)) in
      let there : linked.entity ≡ own = some_one (sym linked.entity_is ∙ (ap (λ (c : Declared). entity_at units (item_of c)) same ∙ at)) in
      let type : type_made j ds own.name linked.declared ≡ type_made j ds name d = ap (λ n. type_made j ds n linked.declared) its ∙ ap (type_made j ds name) same in
      let bodied : is_some own.body ≡ true = sym (ap (λ o. option_map_or (λ (x : Entity). is_some x.body) o false) at) ∙ body in
      let defined : is_defined j (item_of d) ≡ true =
      ap (λ o. option_map_or (λ (x : Entity). is_placed (type_in j (item_of d)) x) o false) at ∙ or_true (is_some own.body) (not (is_function_type (type_in j (item_of d))) && not (is_declared_only own.storage)) bodied in
      let alike = all_alike j ds name h.faultless.clean d found.contained found.passes in
      let whole : is_function_type (linked_type true true (declared_type j d) (type_together j name ds)) ≡ true =
      subst (λ b. is_function_type (linked_type true b (declared_type j d) (type_together j name ds)) ≡ true) defined
      (subst (λ b. is_function_type (linked_type b (is_defined j (item_of d)) (declared_type j d) (type_together j name ds)) ≡ true) body function) in
      let is_function = own_function (declared_type j d) (type_together j name ds) alike whole in
      let (of, is, own_is) = unit_of (item_of d) own at in
      let here : IsFunction (type_of of.types own.ty.0) = function_is (type_of of.types own.ty.0) (sym (own_type (item_of d) own of at is own_is) ∙ is_function) in
      let storage : own.storage ≡ FunctionBody = body_of_function of d.number own own.body bodied here ((linkable.valid d.unit of is).trees.bodied d.number own own_is) in
      record {
        number = entity_of h.entity_numbers (item_of d);
        entity = e;
        entity_is = e_is;
        external = moved_external units h.entity_numbers linked.declared.unit linked.entity e linked.moved (subst IsExternal (sym there) declaration.external);
        named = linked_name j ds h.entity_numbers own.name e linked ∙ its;
        storage = linked.moved.storage ∙ (ap (λ (x : Entity). x.storage) there ∙ storage);
        type = linked.type ∙ type;
      }

  -- an entry in the program
  entry_named : (name : List ℕ) → HasEntry (joined units h.numbers p.types) h.declarations name → (t : Ctype) × IsEntryType t × FunctionNamed p name t
  entry_named name m =
      let j = joined units h.numbers p.types in
      let t = type_made j h.declarations name m.declared in
      (t, m.type, function_named name m.declared m.made m.body (entry_function t m.type))

  -- what the program begins at: `main`, or its first entry
  start_from : (started : List (List ℕ)) → IsStarted (joined units h.numbers p.types) h.declarations started → (e : ℕ) × (x : Entity) × (slice_get p.entities.items e ≡ Some x) × (x.storage ≡ FunctionBody)
  start_from [] m =
      let j = joined units h.numbers p.types in
      let f = function_named main_name m.declared m.made m.body (main_function (type_made j h.declarations main_name m.declared) m.type) in
      (f.number, f.entity, f.entity_is, f.storage)
  start_from (name ∷ rest) all =
      let (t, is, f) = entry_named name (All-head (HasEntry (joined units h.numbers p.types) h.declarations) name rest all) in
      (f.number, f.entity, f.entity_is, f.storage)

  pub start_body : (e : ℕ) × (x : Entity) × (slice_get p.entities.items e ≡ Some x) × (x.storage ≡ FunctionBody)
  start_body = start_from names h.faultless.start

  pub located : 0 < length (locations_in p)
  located = let m = start_body in body_located p m.0 m.1 m.2 m.3

  -- the entity of an entry's name
  entry_at : (name : List ℕ) (e : ℕ) → HasEntry (joined units h.numbers p.types) h.declarations name → IsOfName p name e → IsEntryAt (trees_in p) e
  entry_at name e m own =
      let (t, is, f) = entry_named name m in
      let same : f.number ≡ e = (named_once units p h).once f.number e f.entity own.entity f.entity_is own.entity_is f.external own.external (f.named ∙ sym own.named) in (
        f.entity,
        subst (λ (k : ℕ). slice_get p.entities.items k ≡ Some f.entity) same f.entity_is,
        record { linkage = f.external.linkage; storage = f.storage; type = subst IsEntryType (sym f.type) is },
      )

  entries_at : (named : List (List ℕ)) (entries : List ℕ) → All (HasEntry (joined units h.numbers p.types) h.declarations) named → AllZip (IsOfName p) named entries → All (λ e. IsEntryAt (trees_in p) e) entries
  entries_at [] [] all zip = λ k d lt. absurd (omega (arith, lt))
  entries_at [] (e ∷ es) all zip = absurd zip
  entries_at (name ∷ named) [] all zip = absurd zip
  entries_at (name ∷ named) (e ∷ es) all zip =
      let P = HasEntry (joined units h.numbers p.types) h.declarations in
      All-cons (λ (k : ℕ). IsEntryAt (trees_in p) k) e es (entry_at name e (All-head P name named all) zip.0) (entries_at named es (All-tail P name named all) zip.1)

  started_entries : (named : List (List ℕ)) → IsStarted (joined units h.numbers p.types) h.declarations named → AllZip (IsOfName p) named p.entries.items → All (λ e. IsEntryAt (trees_in p) e) p.entries.items
  started_entries [] m zip = subst (λ (l : List ℕ). All (λ e. IsEntryAt (trees_in p) e) l) (sym ((zip_none (IsOfName p) [] p.entries.items zip).1 refl)) (λ k d lt. absurd (omega (arith, lt)))
  started_entries (name ∷ named) all zip = entries_at (name ∷ named) p.entries.items all zip

  pub linked_entries : AreEntries names p
  linked_entries = record {
    each = started_entries names h.faultless.start h.entries;
    none = zip_none (IsOfName p) names p.entries.items h.entries;
  }
