-- The entities that names are of.
use Rattle.std.proofs.Common.{arith, ◌≡◌, ◌∙◌, ℕ, ◌+◌, ◌<◌, ◌≤◌, Bool, true, false, ◌&&◌, List, [], ◌∷◌, ◌++◌, Option, Some, All, length, take, get_or, refl, sym, ap, subst, inl, inr}
use Rattle.std.specs.List.{AllZip, slice_get}
use Rattle.std.specs.Str.{bytes_eq}
use Rattle.std.specs.Cmp.Lexicographic.{bytes_decides}
use Rattle.std.proofs.lemmas.Bool.{cases_lt, false≢true}
use Rattle.std.proofs.lemmas.List.Elements.{All-head, All-tail, All-cons}
use Rattle.std.proofs.lemmas.Option.{slice_get_within, get_or_from_slice_get}
use Rattle.std.proofs.lemmas.List.{take_more}
use Rattle.core_tree.specs.declared.node.Entity.{Entity}
use Rattle.core_tree.specs.declared.node.Program.{Program}
use Rattle.link_names.specs.declared.declared.Declared.{Declared}
use Rattle.link_names.specs.Externals.{Joined, IsExternal, AreDeclarations, is_external, entity_at, item_of}
use Rattle.link_names.specs.Together.{maker_of}
use Rattle.link_names.specs.Faults.{HasEntry, IsStarted}
use Rattle.link_names.proofs.Ordering.{external_is, is_external_of}
use Rattle.unit_link.specs.Linked.{Entities, entity_of, EntitiesLinked, IsOfName}
use Rattle.unit_link.specs.declared.link_program.numbers.EntityNumbers.{EntityNumbers}
use Rattle.linked_laws.proofs.link_laws.Wholeness.{maker_found, named_so, linked_name, moved_external}
use Rattle.link_units.specs.link_entities.Row.{numbers_of}
use Rattle.link_units.specs.link_whole.Entities.{AreEntitiesOf}
use Rattle.link_units.specs.link_whole.Entries.{IsEntryOf, HasEntryOf}
use Rattle.link_units.proofs.link_whole.Numbered.{entities_linked}

some_one : {X : Type 0} → {x y : X} → ◌≡◌ {A = Option X} (Some x) (Some y) → x ≡ y
some_one h = cc

both : (a b : Bool) → (a && b) ≡ true → (a ≡ true) × (b ≡ true)
both true b h = (refl, h)
both false b h = absurd (false≢true h)

of_both : (a b : Bool) → a ≡ true → b ≡ true → (a && b) ≡ true
of_both true b h k = k
of_both false b h k = absurd (false≢true h)

pub found_at : (list : List Entity) (name : List ℕ) (e : ℕ) (x : Entity) → slice_get list e ≡ Some x → (is_external x && bytes_eq x.name name) ≡ true → IsEntryOf list name e
found_at list name e x at its =
    let (external, named) = both (is_external x) (bytes_eq x.name name) its in
    (x, at, (external_is x external, (bytes_decides x.name name).0 named))

-- one entity more that isn't of the name
pub none_more : (list : List Entity) (name : List ℕ) (e : ℕ) (x : Entity) → slice_get list e ≡ Some x → (is_external x && bytes_eq x.name name) ≡ false → ((k : ℕ) → k < e → IsEntryOf list name k → ⊥)
    → (k : ℕ) → k < e + 1 → IsEntryOf list name k → ⊥
none_more list name e x at not_its before k lt own = elim (cases_lt k e) [
  | inl less ↦ before k less own
  | inr ge ↦
      let here : k ≡ e = omega arith in
      let same : own.0 ≡ x = some_one (sym own.1 ∙ (ap (slice_get list) here ∙ at)) in
      let external = subst IsExternal same own.2.0 in
      let named : x.name ≡ name = sym (ap (λ (y : Entity). y.name) same) ∙ own.2.1 in
      false≢true (sym not_its ∙ of_both (is_external x) (bytes_eq x.name name) (is_external_of x external) ((bytes_decides x.name name).1 named))
]

pub none_at : (list : List Entity) (name : List ℕ) (n : ℕ) → length list ≤ n → ((k : ℕ) → k < n → IsEntryOf list name k → ⊥) → HasEntryOf list name → ⊥
none_at list name n all before (e, own) = before e (let lt = slice_get_within list e own.0 own.1 in omega arith) own

-- one name more
zip_push : {A B : Type 0} (R : A → B → Type 0) (xs : List A) (ys : List B) (x : A) (y : B) → AllZip R xs ys → R x y → AllZip R (xs ++ x ∷ []) (ys ++ y ∷ [])
zip_push R [] [] x y zip h = (h, tt)
zip_push R [] (b ∷ ys) x y zip h = absurd zip
zip_push R (a ∷ xs) [] x y zip h = absurd zip
zip_push R (a ∷ xs) (b ∷ ys) x y zip h = (zip.0, zip_push R xs ys x y zip.1 h)

pub entry_more : (list : List Entity) (names : List (List ℕ)) (i : ℕ) (name : List ℕ) (numbers : List ℕ) (e : ℕ) → slice_get names i ≡ Some name → AllZip (IsEntryOf list) (take i names) numbers → IsEntryOf list name e
    → AllZip (IsEntryOf list) (take (i + 1) names) (numbers ++ e ∷ [])
entry_more list names i name numbers e at zip h =
    subst (λ (l : List (List ℕ)). AllZip (IsEntryOf list) l (numbers ++ e ∷ [])) (sym (take_more names i name (slice_get_within names i name at) ∙ ap (λ (x : List ℕ). take i names ++ x ∷ []) (get_or_from_slice_get names i name name at))) (zip_push (IsEntryOf list) (take i names) numbers name e zip h)

-- the entries of a program by the names of its entities
pub of_names : (p : Program) (names : List (List ℕ)) (numbers : List ℕ) → AllZip (IsEntryOf p.entities.items) names numbers → AllZip (IsOfName p) names numbers
of_names p [] [] zip = tt
of_names p [] (e ∷ es) zip = absurd zip
of_names p (name ∷ names) [] zip = absurd zip
of_names p (name ∷ names) (e ∷ es) zip = (record { entity = zip.0.0; entity_is = zip.0.1; external = zip.0.2.0; named = zip.0.2.1 }, of_names p names es zip.1)

-- the entity of an entry's name stands in the program
has_entry : (j : Joined) (ds : List Declared) (entities : Entities) (p : Program) → AreDeclarations j.units ds → EntitiesLinked j ds entities p → (name : List ℕ) → HasEntry j ds name → HasEntryOf p.entities.items name
has_entry j ds entities p declared linked name h =
    let d = h.declared in
    let found = maker_found j ds name d h.made in
    let declaration = (declared.each d).0 found.contained in
    let own = declaration.entity in
    let its : own.name ≡ name = named_so j.units name d own found.passes declaration.entity_is in
    let (e, e_is, there) = linked.names (item_of d) own declaration.entity_is declaration.external in
    let same : there.declared ≡ d = some_one (sym there.maker ∙ (ap (maker_of j ds) its ∙ h.made)) in
    let one : there.entity ≡ own = some_one (sym there.entity_is ∙ (ap (λ (c : Declared). entity_at j.units (item_of c)) same ∙ declaration.entity_is)) in
    let external = moved_external j.units entities there.declared.unit there.entity e there.moved (subst IsExternal (sym one) declaration.external) in
    (entity_of entities (item_of d), (e, e_is, (external, linked_name j ds entities own.name e there ∙ its)))

have_entries : (j : Joined) (ds : List Declared) (entities : Entities) (p : Program) → AreDeclarations j.units ds → EntitiesLinked j ds entities p → (names : List (List ℕ)) → All (HasEntry j ds) names → All (λ name. HasEntryOf p.entities.items name) names
have_entries j ds entities p declared linked [] all = λ k d lt. absurd (omega (arith, lt))
have_entries j ds entities p declared linked (name ∷ names) all =
    All-cons (λ (n : List ℕ). HasEntryOf p.entities.items n) name names (has_entry j ds entities p declared linked name (All-head (HasEntry j ds) name names all)) (have_entries j ds entities p declared linked names (All-tail (HasEntry j ds) name names all))

pub entries_stand : (j : Joined) (n : EntityNumbers) (p : Program) (names : List (List ℕ)) → AreEntitiesOf names j p.entities.items n → All (λ name. HasEntryOf p.entities.items name) names
entries_stand j n p [] h = λ k d lt. absurd (omega (arith, lt))
entries_stand j n p (name ∷ names) h =
    have_entries j h.declarations (numbers_of n) p h.declared (entities_linked j h.declarations n p h.numbers h.one h.only h.linked) (name ∷ names) h.faultless.start
