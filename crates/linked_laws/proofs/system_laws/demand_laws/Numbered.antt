-- The function of an entity with a body, among the functions of a program.
use Rattle.std.proofs.Common.{arith, ◌≡◌, ◌∙◌, ℕ, zero, suc, ◌+◌, ◌==◌, Bool, true, false, cond, List, [], ◌∷◌, ◌++◌, Option, Some, None, length, map, slice_get, refl, sym, ap, subst, inl, inr}
use Rattle.std.specs.List.{range_with_len, filter_map, cons_option, find, enumerate_from}
use Rattle.std.specs.Option.{option_map_or}
use Rattle.std.proofs.lemmas.Bool.{false≢true}
use Rattle.std.proofs.lemmas.Bool.Decides.{eqb_tells}
use Rattle.c_types.specs.declared.key.ObjectKey.{ObjectKey}
use Rattle.c_types.specs.declared.key.ObjectKey.TheVariants.{Entity as EntityKey, Function as FunctionKey}
use Rattle.core_tree.specs.declared.node.Program.{Program}
use Rattle.core_tree.specs.declared.node.Entity.{Entity}
use Rattle.core_tree.specs.declared.node.Storage.{Storage}
use Rattle.core_tree.specs.declared.node.Storage.TheVariants.{FunctionBody}
use Rattle.core_tree.specs.Typed.{CoreTrees, trees_in}
use Rattle.obj_space.specs.declared.location.Location.{Location}
use Rattle.obj_space.specs.Found.{same_object}
use Rattle.obj_space.specs.Space.{locations_in}
use Rattle.obj_space.specs.View.{first_from, view_of}
use Rattle.obj_space.proofs.Indexed.{same_is}
use Rattle.row_numbers.specs.declared.functions.Role.TheVariants.{Defined}
use Rattle.row_numbers.specs.Functions.{has_body, key_if, keys_in, begins_at, object_at, function_keys, functions_below, functions_of, number_at, number_of}
use Rattle.linked_laws.proofs.main_laws.Objects.{body_begins}
use Rattle.linked_laws.proofs.system_laws.Compact.{stands_at}
use Rattle.linked_laws.proofs.system_laws.Calls.{first_below}
use Rattle.linked_laws.proofs.system_laws.Functions.{first_of}

some_one : {X : Type 0} → {x y : X} → ◌≡◌ {A = Option X} (Some x) (Some y) → x ≡ y
some_one h = cc

none_some : {X : Type 0} → {x : X} → ◌≡◌ {A = Option X} None (Some x) → ⊥
none_some h = cc

-- what a filter gives of an element stands in what it gives
record Stands {Y : Type 0} (ys : List Y) (y : Y) : Type 0 where
  at : ℕ
  there : slice_get ys at ≡ Some y

behind_one : {Y : Type 0} (o : Option Y) (ys : List Y) (y : Y) → Stands ys y → Stands (cons_option o ys) y
behind_one None ys y h = h
behind_one (Some z) ys y h = record { at = suc h.at; there = h.there }

goes_by : {Y : Type 0} (o : Option Y) (ys : List Y) (y : Y) → o ≡ Some y → Stands (cons_option o ys) y
goes_by None ys y e = absurd (none_some e)
goes_by (Some z) ys y e = record { at = 0; there = e }

goes_to : {X Y : Type 0} (h : X → Option Y) (xs : List X) (k : ℕ) (x : X) (y : Y) → slice_get xs k ≡ Some x → h x ≡ Some y → Stands (filter_map h xs) y
goes_to h [] k x y at is = absurd (none_some at)
goes_to h (z ∷ xs) zero x y at is = goes_by (h z) (filter_map h xs) y (ap h (some_one at) ∙ is)
goes_to h (z ∷ xs) (suc k) x y at is = behind_one (h z) (filter_map h xs) y (goes_to h xs k x y at is)

numbered_there : {A : Type 0} (n : ℕ) (xs : List A) (k : ℕ) (x : A) → slice_get xs k ≡ Some x → slice_get (enumerate_from n xs) k ≡ Some (n + k, x)
numbered_there n [] k x at = absurd (none_some at)
numbered_there n (y ∷ xs) zero x at = ap (λ (m : ℕ). Some (m, y)) (zero_more n) ∙ ap (λ (z : _). Some (n + 0, z)) (some_one at)
  where
    zero_more : (m : ℕ) → m ≡ m + 0
    zero_more m = omega arith
numbered_there n (y ∷ xs) (suc k) x at = numbered_there (n + 1) xs k x at ∙ ap (λ (m : ℕ). Some (m, x)) (one_more n k)
  where
    one_more : (m j : ℕ) → (m + 1) + j ≡ m + suc j
    one_more m j = omega arith

before_both : {Y : Type 0} (xs ys : List Y) (y : Y) → Stands xs y → Stands (xs ++ ys) y
before_both xs ys y h = record { at = h.at; there = before xs h.at h.there }
  where
    before : (zs : List _) (k : ℕ) → slice_get zs k ≡ Some y → slice_get (zs ++ ys) k ≡ Some y
    before [] k e = absurd (none_some e)
    before (z ∷ zs) zero e = e
    before (z ∷ zs) (suc k) e = before zs k e

find_by : (test : ObjectKey → Bool) (z : ObjectKey) (rest : Option ObjectKey) (b : Bool) → ((b ≡ false) → (y : ObjectKey) × (rest ≡ Some y)) → (y : ObjectKey) × (cond b (Some z) rest ≡ Some y)
find_by test z rest true f = (z, refl)
find_by test z rest false f = f refl

find_some : (test : ObjectKey → Bool) (xs : List ObjectKey) (k : ℕ) (x : ObjectKey) → slice_get xs k ≡ Some x → test x ≡ true → (y : ObjectKey) × (find test xs ≡ Some y)
find_some test [] k x at passes = absurd (none_some at)
find_some test (z ∷ xs) zero x at passes = find_by test z (find test xs) (test z) (λ fails. absurd (false≢true (sym fails ∙ (ap test (some_one at) ∙ passes))))
find_some test (z ∷ xs) (suc k) x at passes = find_by test z (find test xs) (test z) (λ fails. find_some test xs k x at passes)

same_number : (l : ℕ) → (l == l) ≡ true
same_number l = elim (eqb_tells l l) [ inl same ↦ same.0 | inr other ↦ absurd (other.1 refl) ]

-- the first location of an object has its key
record HasFirst (space : List Location) (n l : ℕ) (key : ObjectKey) : Type 0 where
  at : ℕ
  location : Location
  place : l ≡ n + at
  there : slice_get space at ≡ Some location
  key_is : location.key ≡ key

first_by : (n l : ℕ) (x : Location) (rest : List Location) (key : ObjectKey) (b : Bool) → same_object x.key key ≡ b → cond b (Some n) (first_from (n + 1) rest key) ≡ Some l
    → (first_from (n + 1) rest key ≡ Some l → HasFirst rest (n + 1) l key) → HasFirst (x ∷ rest) n l key
first_by n l x rest key true is e f = record { at = 0; location = x; place = (let q = some_one e in omega arith); there = refl; key_is = same_is x.key key is }
first_by n l x rest key false is e f =
    let b = f e in
    let q = b.place in
    record { at = suc b.at; location = b.location; place = omega arith; there = b.there; key_is = b.key_is }

has_first : (n l : ℕ) (space : List Location) (key : ObjectKey) → first_from n space key ≡ Some l → HasFirst space n l key
has_first n l [] key e = absurd (none_some e)
has_first n l (x ∷ rest) key e = first_by n l x rest key (same_object x.key key) refl e (has_first (n + 1) l rest key)

one_object : (space : List Location) (l : ℕ) (a b : ObjectKey) → first_from 0 space a ≡ Some l → first_from 0 space b ≡ Some l → a ≡ b
one_object space l a b x y =
    let f = has_first 0 l space a x in
    let g = has_first 0 l space b y in
    let fp = f.place in
    let gp = g.place in
    let same : f.at ≡ g.at = omega arith in
    sym f.key_is ∙ (ap (λ (z : Location). z.key) (some_one (sym f.there ∙ (ap (slice_get space) same ∙ g.there))) ∙ g.key_is)

module _ (p : Program) (space : List Location) (is_space : space ≡ locations_in p) where
  abbrev u : CoreTrees
  u = trees_in p

  -- it stands at its number
  pub body_stands : (f : ℕ) (function : Entity) → slice_get p.entities.items f ≡ Some function → function.storage ≡ FunctionBody → slice_get (functions_of u (view_of space)) (number_of u (view_of space) f) ≡ Some (EntityKey f)
  unfolding functions_below
  body_stands f function at storage =
      let (l, first) = body_begins p f function at storage in
      let begins : first_from 0 space (EntityKey f) ≡ Some l = ap (λ (list : List Location). first_from 0 list (EntityKey f)) is_space ∙ first in
      let lt = first_below 0 space (EntityKey f) l begins in
      let plays : key_if Defined f function ≡ Some (EntityKey f) = ap (λ (st : Storage). cond (has_body st) (Some (EntityKey f)) None) storage in
      let entry = numbered_there 0 p.entities.items f function at in
      let zero_is : ◌≡◌ {A = ℕ} (0 + f) f = omega arith in
      let key = goes_to (λ (e : ℕ × Entity). key_if Defined e.0 e.1) (enumerate_from 0 p.entities.items) f (0 + f, function) (EntityKey f) entry (ap (λ (n : ℕ). key_if Defined n function) zero_is ∙ plays) in
      let stands = before_both (keys_in Defined p.entities.items) (map (λ k. FunctionKey k) (range_with_len 0 55)) (EntityKey f) key in
      let passes : begins_at (view_of space) l (EntityKey f) ≡ true = ap (λ (o : Option ℕ). option_map_or (λ first. first == l) o false) begins ∙ same_number l in
      let (found, there) = find_some (begins_at (view_of space) l) (function_keys u) stands.at (EntityKey f) stands.there passes in
      let own : found ≡ EntityKey f = one_object space l found (EntityKey f) (first_of u (view_of space) l found there) begins in
      let place = stands_at (object_at (view_of space) (function_keys u)) (length space) l found (omega arith) there in
      subst (λ (o : Option ℕ). slice_get (functions_of u (view_of space)) (option_map_or (number_at u (view_of space)) o 0) ≡ Some (EntityKey f)) (sym begins) (place ∙ ap Some own)
