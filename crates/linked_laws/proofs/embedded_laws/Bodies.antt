-- A name is defined with a body once, and by what makes it.
use Rattle.std.proofs.Common.{arith, ◌≡◌, ◌∙◌, ℕ, zero, suc, ◌<◌, Bool, true, false, cond, is_some, List, [], ◌∷◌, Contains, length, take, get_or, Option, Some, refl, sym, ap, inl, inr}
use Rattle.std.specs.Prelude.{◌||◌}
use Rattle.std.specs.List.{slice_get, find, filter, list_any}
use Rattle.std.specs.Option.{option_map, option_map_or, option_or}
use Rattle.std.specs.Str.{bytes_eq}
use Rattle.std.specs.Cmp.Lexicographic.{bytes_decides}
use Rattle.std.proofs.lemmas.Bool.{cases_eq, cases_lt, false≢true}
use Rattle.std.proofs.lemmas.Option.{slice_get_within, slice_get-get_or}
use Rattle.core_tree.specs.declared.node.Unit.{Unit}
use Rattle.core_tree.specs.declared.node.Program.{Program}
use Rattle.core_tree.specs.declared.node.Entity.{Entity}
use Rattle.link_model.specs.declared.item.Item.{Item}
use Rattle.link_names.specs.declared.declared.Declared.{Declared}
use Rattle.link_names.specs.Externals.{Joined, IsExternal, entity_at, item_of, declared_as, name_at, is_named, has_body}
use Rattle.link_names.specs.Together.{of_name, first_defined, maker_of}
use Rattle.linked_laws.proofs.link_laws.Wholeness.{maker_found, named_so}
use Rattle.unit_link.specs.Linked.{LinkedAt, joined}
use Rattle.linked_laws.proofs.embedded_laws.Lists.{none_some}

one_of : {A : Type 0} {a b : A} → Some a ≡ Some b → a ≡ b
one_of h = cc

or_left : (a b : Bool) → a ≡ true → (a || b) ≡ true
or_left true b h = refl
or_left false b h = absurd (false≢true h)

or_right : (a b : Bool) → b ≡ true → (a || b) ≡ true
or_right true b h = refl
or_right false b h = h

any_filtered : {X : Type 0} (p q : X → Bool) (xs : List X) (i : ℕ) (x : X) → slice_get xs i ≡ Some x → p x ≡ true → q x ≡ true → list_any q (filter p xs) ≡ true
any_filtered p q [] i x at hp hq = cc
any_filtered p q (y ∷ xs) zero x at hp hq =
    let same : y ≡ x = one_of at in
    ap (λ b. list_any q (cond b (y ∷ filter p xs) (filter p xs))) (ap p same ∙ hp) ∙ or_left (q y) (list_any q (filter p xs)) (ap q same ∙ hq)
any_filtered p q (y ∷ xs) (suc i) x at hp hq = by (p y) (any_filtered p q xs i x at hp hq)
  where
    by : (b : Bool) → list_any q (filter p xs) ≡ true → list_any q (cond b (y ∷ filter p xs) (filter p xs)) ≡ true
    by true h = or_right (q y) (list_any q (filter p xs)) h
    by false h = h

taken : {X : Type 0} (xs : List X) (i j : ℕ) (x : X) → i < j → slice_get xs i ≡ Some x → slice_get (take j xs) i ≡ Some x
taken [] i j x lt at = cc
taken (y ∷ xs) i zero x lt at = absurd (omega arith)
taken (y ∷ xs) zero (suc j) x lt at = at
taken (y ∷ xs) (suc i) (suc j) x lt at = taken xs i j x (omega arith) at

-- what passes a test is found
find_step : (t : Declared → Bool) (z : Declared) (xs : List Declared) (i : ℕ) (x : Declared) (b : Bool) → t z ≡ b → slice_get (z ∷ xs) i ≡ Some x → t x ≡ true
    → ((j : ℕ) → slice_get xs j ≡ Some x → (y : Declared) × (find t xs ≡ Some y) × (t y ≡ true)) → (y : Declared) × (cond b (Some z) (find t xs) ≡ Some y) × (t y ≡ true)
find_step t z xs i x true is at its f = (z, refl, is)
find_step t z xs zero x false is at its f = absurd (false≢true (sym is ∙ (ap t (one_of at) ∙ its)))
find_step t z xs (suc i) x false is at its f = f i at

find_has : (t : Declared → Bool) (xs : List Declared) (i : ℕ) (x : Declared) → slice_get xs i ≡ Some x → t x ≡ true → (y : Declared) × (find t xs ≡ Some y) × (t y ≡ true)
find_has t [] i x at its = absurd (none_some at)
find_has t (z ∷ xs) i x at its = find_step t z xs i x (t z) refl at its (λ j e. find_has t xs j x e its)

filter_step : (q : Declared → Bool) (z : Declared) (xs ys : List Declared) (i : ℕ) (x : Declared) (b : Bool) → q z ≡ b → slice_get (z ∷ xs) i ≡ Some x → q x ≡ true → ((j : ℕ) → slice_get xs j ≡ Some x → (k : ℕ) × (slice_get ys k ≡ Some x))
    → (k : ℕ) × (slice_get (cond b (z ∷ ys) ys) k ≡ Some x)
filter_step q z xs ys zero x true is at its f = (0, at)
filter_step q z xs ys (suc i) x true is at its f = let r = f i at in (suc r.0, r.1)
filter_step q z xs ys zero x false is at its f = absurd (false≢true (sym is ∙ (ap q (one_of at) ∙ its)))
filter_step q z xs ys (suc i) x false is at its f = f i at

pub filter_has : (q : Declared → Bool) (xs : List Declared) (i : ℕ) (x : Declared) → slice_get xs i ≡ Some x → q x ≡ true → (k : ℕ) × (slice_get (filter q xs) k ≡ Some x)
filter_has q [] i x at its = absurd (none_some at)
filter_has q (z ∷ xs) i x at its = filter_step q z xs (filter q xs) i x (q z) refl at its (λ j e. filter_has q xs j x e its)

-- where a declaration has a body, the one that makes its name has one
maker_bodied : (j : Joined) (ds : List Declared) (name : List ℕ) (d c : Declared) → maker_of j ds name ≡ Some d → Contains ds c → is_named j.units name c ≡ true → has_body j.units (item_of c) ≡ true → has_body j.units (item_of d) ≡ true
maker_bodied j ds name d c h (i, lt, e) named bodied =
    let at : slice_get ds i ≡ Some c = slice_get-get_or ds i c lt ∙ ap (λ (z : Declared). Some z) e in
    let k = filter_has (is_named j.units name) ds i c at named in
    let t : Declared → Bool = λ (z : Declared). has_body j.units (item_of z) in
    let y = find_has t (of_name j.units name ds) k.0 c k.1 bodied in
    let same : d ≡ y.0 = one_of (sym h ∙ ap (λ (o : Option Declared). option_or o (option_or (first_defined j (of_name j.units name ds)) (find (λ (z : Declared). true) (of_name j.units name ds)))) y.1) in
    ap t same ∙ y.2

module _ {names : List (List ℕ)} (units : List Unit) (p : Program) (h : LinkedAt names units p) where
  -- a declaration of a name with a body
  pub record IsBody (name : List ℕ) (a : Item) : Type 0 where
    pub entity : Entity
    pub entity_is : entity_at units a ≡ Some entity
    pub external : IsExternal entity
    pub named : entity.name ≡ name
    pub body : is_some entity.body ≡ true

  declaration : (name : List ℕ) (a : Item) → IsBody name a → Declared
  declaration name a b = declared_as a.unit a.number b.entity

  listed : (name : List ℕ) (a : Item) (b : IsBody name a) → Contains h.declarations (declaration name a b)
  unfolding declaration
  listed name a b = (h.declared.each (declaration name a b)).1 (record { entity = b.entity; entity_is = b.entity_is; external = b.external; line = refl; column = refl })

  item_is : (name : List ℕ) (a : Item) (b : IsBody name a) → item_of (declaration name a b) ≡ a
  unfolding declaration
  item_is name a b = refl

  name_is : (name : List ℕ) (a : Item) (b : IsBody name a) → name_at units (item_of (declaration name a b)) ≡ Some name
  name_is name a b = ap (name_at units) (item_is name a b) ∙ (ap (option_map (λ (x : Entity). x.name)) b.entity_is ∙ ap Some b.named)

  named : (name : List ℕ) (a : Item) (b : IsBody name a) → is_named units name (declaration name a b) ≡ true
  named name a b = ap (λ o. option_map_or (λ other. bytes_eq other name) o false) (name_is name a b) ∙ (bytes_decides name name).1 refl

  bodied : (name : List ℕ) (a : Item) (b : IsBody name a) → has_body units (item_of (declaration name a b)) ≡ true
  bodied name a b = ap (has_body units) (item_is name a b) ∙ (ap (λ o. option_map_or (λ (x : Entity). is_some x.body) o false) b.entity_is ∙ b.body)

  stands : (d : Declared) (k : ℕ) → k < length h.declarations → get_or h.declarations k d ≡ d → slice_get h.declarations k ≡ Some d
  stands d k lt is = slice_get-get_or h.declarations k d lt ∙ ap Some is

  -- the later of two bodies is a second definition
  second : (name : List ℕ) (a b : Item) (x : IsBody name a) (y : IsBody name b) (i j : ℕ) → i < j → slice_get h.declarations i ≡ Some (declaration name a x) → slice_get h.declarations j ≡ Some (declaration name b y) → ⊥
  second name a b x y i j lt at there =
      (h.faultless.clean.each j (declaration name b y) (slice_get_within h.declarations j (declaration name b y) there) there).once name (name_is name b y)
      (record {
        body = bodied name b y;
        before = any_filtered (is_named units name) (λ d. has_body units (item_of d)) (take j h.declarations) i (declaration name a x) (taken h.declarations i j (declaration name a x) lt at) (named name a x) (bodied name a x);
      })

  pub one_body : (name : List ℕ) (a b : Item) → IsBody name a → IsBody name b → a ≡ b
  one_body name a b x y =
      let (i, li, is) = listed name a x in
      let (j, lj, its) = listed name b y in
      let at = stands (declaration name a x) i li is in
      let there = stands (declaration name b y) j lj its in
      elim (cases_eq i j) [
        | inl same ↦
            let one : declaration name a x ≡ declaration name b y = one_of (sym at ∙ (ap (slice_get h.declarations) same ∙ there)) in
            sym (item_is name a x) ∙ (ap item_of one ∙ item_is name b y)
        | inr ne ↦ elim (cases_lt i j) [
          | inl less ↦ absurd (second name a b x y i j less at there)
          | inr more ↦ absurd (second name b a y x j i (omega arith) there at)
        ]
      ]

  -- a declaration with a body makes its name
  pub maker_is : (a : Item) (x : Entity) (d : Declared) → entity_at units a ≡ Some x → IsExternal x → is_some x.body ≡ true → maker_of (joined units h.numbers p.types) h.declarations x.name ≡ Some d → item_of d ≡ a
  maker_is a x d at external body made =
      let j = joined units h.numbers p.types in
      let own : IsBody x.name a = record { entity = x; entity_is = at; external = external; named = refl; body = body } in
      let has = maker_bodied j h.declarations x.name d (declaration x.name a own) made (listed x.name a own) (named x.name a own) (bodied x.name a own) in
      let found = maker_found j h.declarations x.name d made in
      let declares = (h.declared.each d).0 found.contained in
      one_body x.name (item_of d) a
      (record {
        entity = declares.entity;
        entity_is = declares.entity_is;
        external = declares.external;
        named = named_so units x.name d declares.entity found.passes declares.entity_is;
        body = sym (ap (λ o. option_map_or (λ (y : Entity). is_some y.body) o false) declares.entity_is) ∙ has;
      }) own
