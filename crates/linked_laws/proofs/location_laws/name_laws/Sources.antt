-- Which objects have which names.
use Rattle.std.proofs.Common.{arith, ◌≡◌, ◌≢◌, ◌∙◌, ℕ, zero, suc, ◌<◌, ◌≤◌, ◌⊎◌, Bool, true, false, cond, List, [], ◌∷◌, Option, Some, None, refl, sym, ap, subst, inl, inr}
use Rattle.std.specs.Prelude.{codes, nat_eq, nat_lt, length}
use Rattle.std.specs.List.{slice_get, count_by}
use Rattle.std.specs.Option.{unwrap_or}
use Rattle.std.specs.Str.{bytes_eq}
use Rattle.std.specs.Cmp.Lexicographic.{bytes_decides}
use Rattle.std.proofs.lemmas.Bool.{cases_eq}
use Rattle.std.proofs.lemmas.Bool.Decides.{nat_tests}
use Rattle.std.proofs.lemmas.List.Sums.{sum_by-cons}
use Rattle.std.proofs.lemmas.Option.{slice_get-get_or}
use Rattle.pta_base.specs.declared.place.Place.{Place}
use Rattle.c_types.specs.declared.key.ObjectKey.{ObjectKey}
use Rattle.c_types.specs.declared.key.ObjectKey.TheVariants.{Entity as EntityKey, Text as TextKey, Call as CallKey, Library as LibraryKey, Star as StarKey, Function as FunctionKey, Varargs as VarargsKey, Outside as OutsideKey}
use Rattle.core_tree.specs.declared.node.Program.{Program}
use Rattle.core_tree.specs.declared.node.Node.{Node}
use Rattle.core_tree.specs.declared.node.NodeKind.TheVariants.{CallNode}
use Rattle.core_tree.specs.declared.node.Entity.{Entity}
use Rattle.core_tree.specs.declared.node.Linkage.{Linkage}
use Rattle.core_tree.specs.declared.node.Linkage.TheVariants.{External, Internal, Local}
use Rattle.core_tree.specs.declared.node.Storage.TheVariants.{Declared}
use Rattle.obj_made.specs.Spelling.{unit_name, is_key, local_key_in, local_key, locals_of, twice_in, stands_twice}
use Rattle.obj_made.specs.Uses.{number_of_name}
use Rattle.linked_laws.specs.location_laws.name_shapes.Shapes.{Spot, Tail, Nothing, Inner, Further, Placed, AnyCall, Shape}
use Rattle.linked_laws.specs.location_laws.name_laws.Named.{IsPlace, IsEntity, IsNode, ByLiteral, IsLocalObject, IsText, HasNames}

abbrev pub shape_of : Option (List ℕ) → List ℕ → Tail → Shape
shape_of unit base tail = record { unit = unit; base = base; tail = tail }

abbrev pub spot_of : Place → Spot
spot_of place = record { line = place.line; column = place.column }

-- a name without a unit and without more
abbrev pub plain : List ℕ → Shape
plain name = shape_of None name Nothing

abbrev pub placed : Program → List ℕ → Place → Shape
placed p kind place = shape_of None kind (Placed (unit_name p.names.items place.unit) (spot_of place))

-- the unit that stands before a name with linkage
abbrev pub unit_by : Program → Linkage → ℕ → Option (List ℕ)
unit_by p External unit = None
unit_by p Internal unit = Some (unit_name p.names.items unit)
unit_by p Local unit = None

abbrev pub unit_before : Program → Entity → Option (List ℕ)
unit_before p x = unit_by p x.linkage x.unit

abbrev pub at_if : Bool → Place → Option Spot
at_if true place = Some (spot_of place)
at_if false place = None

-- ---- where a name comes from
-- an object or function of external linkage
pub record IsExternalObject (p : Program) (key : ObjectKey) (shape : Shape) : Type 0 where
  pub number : ℕ
  pub entity : Entity
  pub entity_is : IsEntity p number entity
  pub key_is : key ≡ EntityKey number
  pub here : entity.storage ≢ Declared
  pub linkage : entity.linkage ≡ External
  pub shape_is : shape ≡ plain entity.name

-- a library function, which some entity declares
pub record IsLibraryFunction (p : Program) (key : ObjectKey) (shape : Shape) : Type 0 where
  pub function : ℕ
  pub key_is : key ≡ FunctionKey function
  pub number : ℕ
  pub entity : Entity
  pub entity_is : IsEntity p number entity
  pub storage : entity.storage ≡ Declared
  pub linkage : entity.linkage ≡ External
  pub library : number_of_name entity.name ≡ Some function
  pub shape_is : shape ≡ plain entity.name

abbrev pub IsPlain : Program → ObjectKey → Shape → Type 0
IsPlain p key shape = IsExternalObject p key shape ⊎ IsLibraryFunction p key shape

pub record IsInternalObject (p : Program) (key : ObjectKey) (shape : Shape) : Type 0 where
  pub number : ℕ
  pub entity : Entity
  pub entity_is : IsEntity p number entity
  pub key_is : key ≡ EntityKey number
  pub linkage : entity.linkage ≡ Internal
  pub shape_is : shape ≡ shape_of (Some (unit_name p.names.items entity.unit)) entity.name Nothing

pub record IsLocalName (p : Program) (key : ObjectKey) (shape : Shape) : Type 0 where
  pub number : ℕ
  pub entity : Entity
  pub entity_is : IsLocalObject p number entity
  pub key_is : key ≡ EntityKey number
  pub owner : ℕ
  pub owner_is : entity.owner ≡ Some owner
  pub function : Entity
  pub function_is : IsEntity p owner function
  pub linked : function.linkage ≢ Local
  pub shape_is : shape ≡ shape_of (unit_before p function) function.name (Inner entity.name (at_if (stands_twice p.entities.items entity) entity.place))

-- the numbers of library rows by their names
pub record IsLibraryObject (numbers : List ℕ → ℕ) (key : ObjectKey) (shape : Shape) : Type 0 where
  pub name : List ℕ
  pub key_is : key ≡ LibraryKey (numbers name)
  pub shape_is : shape ≡ plain name

pub record IsLiteralObject (p : Program) (key : ObjectKey) (shape : Shape) : Type 0 where
  pub number : ℕ
  pub entity : Entity
  pub entity_is : IsEntity p number entity
  pub literal : ByLiteral p number true
  pub key_is : key ≡ EntityKey number
  pub shape_is : shape ≡ placed p (codes "lit") entity.place

pub record IsTextObject (p : Program) (key : ObjectKey) (shape : Shape) : Type 0 where
  pub number : ℕ
  pub node : Node
  pub node_is : IsNode p number node
  pub text : IsText node.kind
  pub key_is : key ≡ TextKey number
  pub shape_is : shape ≡ placed p (codes "str") node.place

pub record IsCallObject (p : Program) (key : ObjectKey) (shape : Shape) : Type 0 where
  pub number : ℕ
  pub node : Node
  pub node_is : IsNode p number node
  pub call : node.kind ≡ CallNode
  pub key_is : key ≡ CallKey number
  pub name : List ℕ
  pub shape_is : shape ≡ placed p name node.place

pub record IsStarObject (key : ObjectKey) (shape : Shape) : Type 0 where
  pub number : ℕ
  pub name : List ℕ
  pub library : number_of_name name ≡ Some number
  pub key_is : key ≡ StarKey number
  pub shape_is : shape ≡ shape_of None name AnyCall

-- what a function is passed past its parameters
pub record IsFurtherObject (p : Program) (key : ObjectKey) (shape : Shape) : Type 0 where
  pub number : ℕ
  pub entity : Entity
  pub entity_is : IsEntity p number entity
  pub key_is : key ≡ VarargsKey number
  pub linked : entity.linkage ≢ Local
  pub shape_is : shape ≡ shape_of (unit_before p entity) entity.name Further

-- what lies outside
pub record IsOutsideObject (key : ObjectKey) : Type 0 where
  pub key_is : key ≡ OutsideKey

-- ---- classes of names
abbrev pub plain_class : List ℕ → ℕ
plain_class [] = 0
plain_class (c ∷ rest) = cond (nat_eq c 60) (cond (bytes_eq rest (codes "outside>")) 9 3) 0

abbrev pub placed_class : List ℕ → ℕ
placed_class kind = cond (bytes_eq kind (codes "lit")) 4 (cond (bytes_eq kind (codes "str")) 5 6)

abbrev pub class_by : Option (List ℕ) → List ℕ → Tail → ℕ
class_by None base Nothing = plain_class base
class_by (Some unit) base Nothing = 1
class_by unit base (Inner name at) = 2
class_by unit base Further = 8
class_by unit base (Placed place spot) = placed_class base
class_by unit base AnyCall = 7

abbrev pub class_of : Shape → ℕ
class_of shape = class_by shape.unit shape.base shape.tail

-- what a name of each class comes from
abbrev pub Body : Program → (List ℕ → ℕ) → ObjectKey → Shape → ℕ → Type 0
Body p numbers key shape zero = IsPlain p key shape
Body p numbers key shape (suc zero) = IsInternalObject p key shape
Body p numbers key shape (suc (suc zero)) = IsLocalName p key shape
Body p numbers key shape (suc (suc (suc zero))) = IsLibraryObject numbers key shape
Body p numbers key shape (suc (suc (suc (suc zero)))) = IsLiteralObject p key shape
Body p numbers key shape (suc (suc (suc (suc (suc zero))))) = IsTextObject p key shape
Body p numbers key shape (suc (suc (suc (suc (suc (suc zero)))))) = IsCallObject p key shape
Body p numbers key shape (suc (suc (suc (suc (suc (suc (suc zero))))))) = IsStarObject key shape
Body p numbers key shape (suc (suc (suc (suc (suc (suc (suc (suc zero)))))))) = IsFurtherObject p key shape
Body p numbers key shape (suc (suc (suc (suc (suc (suc (suc (suc (suc zero))))))))) = IsOutsideObject key
Body p numbers key shape n = ⊥

pub record IsSource (p : Program) (numbers : List ℕ → ℕ) (key : ObjectKey) (shape : Shape) : Type 0 where
  pub class : ℕ
  pub class_is : class_of shape ≡ class
  pub body : Body p numbers key shape class

one_of : {A : Type 0} {a b : A} → Some a ≡ Some b → a ≡ b
one_of h = cc

none_some : {A : Type 0} {a : A} → ◌≡◌ {A = Option A} None (Some a) → ⊥
none_some h = cc

-- what one name says of two objects
bases : {a b : Shape} → a ≡ b → a.base ≡ b.base
bases e = ap (λ (s : Shape). s.base) e

units : {a b : Shape} → a ≡ b → a.unit ≡ b.unit
units e = ap (λ (s : Shape). s.unit) e

tails : {a b : Shape} → a ≡ b → a.tail ≡ b.tail
tails e = ap (λ (s : Shape). s.tail) e

-- the parts of a place's text
placed_units : (u v : List ℕ) (s t : Spot) → Placed u s ≡ Placed v t → (u ≡ v) × (s ≡ t)
placed_units u v s t e = (cc, cc)

inner_names : (x y : List ℕ) (s t : Option Spot) → Inner x s ≡ Inner y t → (x ≡ y) × (s ≡ t)
inner_names x y s t e = (cc, cc)

abbrev place_by : ℕ → ℕ → ℕ → Place
place_by unit line column = record { unit = unit; line = line; column = column }

-- how many pass a test
module _ {X : Type 0} (q : X → Bool) where
  passes : (x : X) → q x ≡ true → ◌≡◌ {A = ℕ} (cond (q x) 1 0) 1
  passes x e = ap (λ (b : Bool). cond b 1 0) e

  some_pass : (xs : List X) (i : ℕ) (x : X) → slice_get xs i ≡ Some x → q x ≡ true → 1 ≤ count_by q xs
  some_pass [] i x at e = cc
  some_pass (y ∷ xs) zero x at e =
      let same : y ≡ x = one_of at in
      let all = sum_by-cons (λ z. cond (q z) 1 0) y xs in
      let one = passes y (ap q same ∙ e) in
      omega arith
  some_pass (y ∷ xs) (suc i) x at e =
      let all = sum_by-cons (λ z. cond (q z) 1 0) y xs in
      let more = some_pass xs i x at e in
      omega arith

  two_pass : (xs : List X) (i j : ℕ) (x y : X) → (i ≡ j → ⊥) → slice_get xs i ≡ Some x → slice_get xs j ≡ Some y → q x ≡ true → q y ≡ true → 2 ≤ count_by q xs
  two_pass [] i j x y ne at there e f = cc
  two_pass (z ∷ xs) zero zero x y ne at there e f = absurd (ne refl)
  two_pass (z ∷ xs) zero (suc j) x y ne at there e f =
      let same : z ≡ x = one_of at in
      let all = sum_by-cons (λ z. cond (q z) 1 0) z xs in
      let one = passes z (ap q same ∙ e) in
      let more = some_pass xs j y there f in
      omega arith
  two_pass (z ∷ xs) (suc i) zero x y ne at there e f =
      let same : z ≡ y = one_of there in
      let all = sum_by-cons (λ z. cond (q z) 1 0) z xs in
      let one = passes z (ap q same ∙ f) in
      let more = some_pass xs i x at e in
      omega arith
  two_pass (z ∷ xs) (suc i) (suc j) x y ne at there e f =
      let all = sum_by-cons (λ z. cond (q z) 1 0) z xs in
      let more = two_pass xs i j x y (λ same. ne (ap suc same)) at there e f in
      omega arith

above_one : (n : ℕ) → 2 ≤ n → nat_lt 1 n ≡ true
above_one n h = grind (arith, nat_tests)

local_key_is : (x : Entity) (f : ℕ) → x.linkage ≡ Local → x.owner ≡ Some f → local_key x ≡ Some (f ∷ x.name)
local_key_is x f linkage owner = ap (λ l. local_key_in l x.owner x.name) linkage ∙ ap (λ o. local_key_in Local o x.name) owner

has_key : (key : List ℕ) (x : Entity) → local_key x ≡ Some key → is_key key (local_key x) ≡ true
has_key key x e = ap (is_key key) e ∙ (bytes_decides key key).1 refl

spots_same : (x y : Place) → Some (spot_of x) ≡ Some (spot_of y) → (x.line ≡ y.line) × (x.column ≡ y.column)
spots_same x y e = let same = one_of e in (ap (λ (s : Spot). s.line) same, ap (λ (s : Spot). s.column) same)

module _ (p : Program) (h : HasNames p) where
  unit_is : (u : ℕ) → u < length p.names.items → slice_get p.names.items u ≡ Some (unit_name p.names.items u)
  unit_is u lt =
      let at = slice_get-get_or p.names.items u [] lt in
      at ∙ ap Some (sym (ap (λ o. unwrap_or o []) at))

  unit_same : (u v : ℕ) → u < length p.names.items → v < length p.names.items → unit_name p.names.items u ≡ unit_name p.names.items v → u ≡ v
  unit_same u v lu lv e = h.units.once u v (unit_name p.names.items u) (unit_is u lu) (unit_is v lv ∙ ap Some (sym e))

  -- two places whose texts are the same
  place_same : (kind other : List ℕ) (x y : Place) → IsPlace p x → IsPlace p y → placed p kind x ≡ placed p other y → x ≡ y
  place_same kind other x y hx hy e =
      let (names, spots) = placed_units (unit_name p.names.items x.unit) (unit_name p.names.items y.unit) (spot_of x) (spot_of y) (tails e) in
      let unit = unit_same x.unit y.unit hx.unit hy.unit names in
      let line = ap (λ (s : Spot). s.line) spots in
      let column = ap (λ (s : Spot). s.column) spots in
      ap (λ u. place_by u x.line x.column) unit ∙ (ap (λ l. place_by y.unit l x.column) line ∙ ap (place_by y.unit y.line) column)

  module _ (key other : ObjectKey) (s t : Shape) (e : s ≡ t) where
    externals : IsExternalObject p key s → IsExternalObject p other t → key ≡ other
    externals a b =
        let n = h.apart.external a.number b.number a.entity b.entity a.entity_is b.entity_is a.linkage b.linkage (bases (sym a.shape_is ∙ (e ∙ b.shape_is))) in
        a.key_is ∙ (ap EntityKey n ∙ sym b.key_is)

    functions : IsLibraryFunction p key s → IsLibraryFunction p other t → key ≡ other
    functions a b =
        let names = bases (sym a.shape_is ∙ (e ∙ b.shape_is)) in
        let n : a.function ≡ b.function = one_of (sym a.library ∙ (ap number_of_name names ∙ b.library)) in
        a.key_is ∙ (ap FunctionKey n ∙ sym b.key_is)

    internals : IsInternalObject p key s → IsInternalObject p other t → key ≡ other
    internals a b =
        let shapes = sym a.shape_is ∙ (e ∙ b.shape_is) in
        let unit = unit_same a.entity.unit b.entity.unit (h.entities.unit a.number a.entity a.entity_is) (h.entities.unit b.number b.entity b.entity_is) (one_of (units shapes)) in
        let n = h.apart.internal a.number b.number a.entity b.entity a.entity_is b.entity_is a.linkage b.linkage unit (bases shapes) in
        a.key_is ∙ (ap EntityKey n ∙ sym b.key_is)

    libraries : (numbers : List ℕ → ℕ) → IsLibraryObject numbers key s → IsLibraryObject numbers other t → key ≡ other
    libraries numbers a b =
        let names : a.name ≡ b.name = bases (sym a.shape_is ∙ (e ∙ b.shape_is)) in
        a.key_is ∙ (ap (λ n. LibraryKey (numbers n)) names ∙ sym b.key_is)

    literals : IsLiteralObject p key s → IsLiteralObject p other t → key ≡ other
    literals a b =
        let place = place_same (codes "lit") (codes "lit") a.entity.place b.entity.place (h.entities.place a.number a.entity a.entity_is) (h.entities.place b.number b.entity b.entity_is) (sym a.shape_is ∙ (e ∙ b.shape_is)) in
        let n = h.apart.literal a.number b.number a.entity b.entity a.entity_is b.entity_is a.literal b.literal place in
        a.key_is ∙ (ap EntityKey n ∙ sym b.key_is)

    texts : IsTextObject p key s → IsTextObject p other t → key ≡ other
    texts a b =
        let place = place_same (codes "str") (codes "str") a.node.place b.node.place (h.nodes.place a.number a.node a.node_is) (h.nodes.place b.number b.node b.node_is) (sym a.shape_is ∙ (e ∙ b.shape_is)) in
        let n = h.nodes.text a.number b.number a.node b.node a.node_is b.node_is a.text b.text place in
        a.key_is ∙ (ap TextKey n ∙ sym b.key_is)

    calls : IsCallObject p key s → IsCallObject p other t → key ≡ other
    calls a b =
        let place = place_same a.name b.name a.node.place b.node.place (h.nodes.place a.number a.node a.node_is) (h.nodes.place b.number b.node b.node_is) (sym a.shape_is ∙ (e ∙ b.shape_is)) in
        let n = h.nodes.call a.number b.number a.node b.node a.node_is b.node_is a.call b.call place in
        a.key_is ∙ (ap CallKey n ∙ sym b.key_is)

    stars : IsStarObject key s → IsStarObject other t → key ≡ other
    stars a b =
        let names : a.name ≡ b.name = bases (sym a.shape_is ∙ (e ∙ b.shape_is)) in
        let n : a.number ≡ b.number = one_of (sym a.library ∙ (ap number_of_name names ∙ b.library)) in
        a.key_is ∙ (ap StarKey n ∙ sym b.key_is)

  -- an object that has its place is no library function
  not_library : (key other : ObjectKey) (s t : Shape) → s ≡ t → IsExternalObject p key s → IsLibraryFunction p other t → ⊥
  not_library key other s t e a b =
      let n = h.apart.external a.number b.number a.entity b.entity a.entity_is b.entity_is a.linkage b.linkage (bases (sym a.shape_is ∙ (e ∙ b.shape_is))) in
      let same : a.entity ≡ b.entity = one_of (sym a.entity_is ∙ (ap (slice_get p.entities.items) n ∙ b.entity_is)) in
      a.here (ap (λ (x : Entity). x.storage) same ∙ b.storage)

  plains : (key other : ObjectKey) (s t : Shape) → s ≡ t → IsPlain p key s → IsPlain p other t → key ≡ other
  plains key other s t e (inl a) (inl b) = externals key other s t e a b
  plains key other s t e (inl a) (inr b) = absurd (not_library key other s t e a b)
  plains key other s t e (inr a) (inl b) = absurd (not_library other key t s (sym e) b a)
  plains key other s t e (inr a) (inr b) = functions key other s t e a b

  -- functions of one name
  owners : (i j : ℕ) (x y : Entity) (k l : Linkage) → IsEntity p i x → IsEntity p j y → x.linkage ≡ k → y.linkage ≡ l → k ≢ Local → l ≢ Local
      → unit_by p k x.unit ≡ unit_by p l y.unit → x.name ≡ y.name → i ≡ j
  owners i j x y External External at there kx ky nk nl u n = h.apart.external i j x y at there kx ky n
  owners i j x y External Internal at there kx ky nk nl u n = absurd (none_some u)
  owners i j x y External Local at there kx ky nk nl u n = absurd (nl refl)
  owners i j x y Internal External at there kx ky nk nl u n = absurd (none_some (sym u))
  owners i j x y Internal Internal at there kx ky nk nl u n =
      h.apart.internal i j x y at there kx ky (unit_same x.unit y.unit (h.entities.unit i x at) (h.entities.unit j y there) (one_of u)) n
  owners i j x y Internal Local at there kx ky nk nl u n = absurd (nl refl)
  owners i j x y Local l at there kx ky nk nl u n = absurd (nk refl)

  -- two locals of one function and name stand twice
  twice : (i j f : ℕ) (x y : Entity) → (i ≡ j → ⊥) → IsEntity p i x → IsEntity p j y → local_key x ≡ Some (f ∷ x.name) → local_key y ≡ Some (f ∷ x.name)
      → (stands_twice p.entities.items x ≡ true) × (stands_twice p.entities.items y ≡ true)
  twice i j f x y ne at there kx ky =
      let key = f ∷ x.name in
      let many = two_pass (λ (z : Entity). is_key key (local_key z)) p.entities.items i j x y ne at there (has_key key x kx) (has_key key y ky) in
      let yes = above_one (locals_of p.entities.items key) many in
      (ap (twice_in p.entities.items) kx ∙ yes, ap (twice_in p.entities.items) ky ∙ yes)

  locals_by : (key other : ObjectKey) (s t : Shape) → s ≡ t → (a : IsLocalName p key s) (b : IsLocalName p other t) → (a.number ≡ b.number) ⊎ (a.number ≡ b.number → ⊥) → key ≡ other
  locals_by key other s t e a b (inl n) = a.key_is ∙ (ap EntityKey n ∙ sym b.key_is)
  locals_by key other s t e a b (inr ne) =
      let shapes = sym a.shape_is ∙ (e ∙ b.shape_is) in
      let function = owners a.owner b.owner a.function b.function a.function.linkage b.function.linkage a.function_is b.function_is refl refl a.linked b.linked (units shapes) (bases shapes) in
      let (names, ats) = inner_names a.entity.name b.entity.name (at_if (stands_twice p.entities.items a.entity) a.entity.place) (at_if (stands_twice p.entities.items b.entity) b.entity.place) (tails shapes) in
      let owner : b.entity.owner ≡ Some a.owner = b.owner_is ∙ ap Some (sym function) in
      let own = local_key_is a.entity a.owner a.entity_is.local a.owner_is in
      let its = local_key_is b.entity a.owner b.entity_is.local owner ∙ ap (λ n. Some (a.owner ∷ n)) (sym names) in
      let (one, two) = twice a.number b.number a.owner a.entity b.entity ne a.entity_is.entity b.entity_is.entity own its in
      let (line, column) = spots_same a.entity.place b.entity.place (sym (ap (λ w. at_if w a.entity.place) one) ∙ (ats ∙ ap (λ w. at_if w b.entity.place) two)) in
      absurd (ne (h.apart.local a.number b.number a.entity b.entity a.entity_is b.entity_is (a.owner_is ∙ sym owner) names line column))

  furthers : (key other : ObjectKey) (s t : Shape) → s ≡ t → IsFurtherObject p key s → IsFurtherObject p other t → key ≡ other
  furthers key other s t e a b =
      let shapes = sym a.shape_is ∙ (e ∙ b.shape_is) in
      let n = owners a.number b.number a.entity b.entity a.entity.linkage b.entity.linkage a.entity_is b.entity_is refl refl a.linked b.linked (units shapes) (bases shapes) in
      a.key_is ∙ (ap VarargsKey n ∙ sym b.key_is)

  same_body : (numbers : List ℕ → ℕ) (key other : ObjectKey) (s t : Shape) (c : ℕ) → s ≡ t → Body p numbers key s c → Body p numbers other t c → key ≡ other
  same_body numbers key other s t zero e a b = plains key other s t e a b
  same_body numbers key other s t (suc zero) e a b = internals key other s t e a b
  same_body numbers key other s t (suc (suc zero)) e a b = locals_by key other s t e a b (cases_eq a.number b.number)
  same_body numbers key other s t (suc (suc (suc zero))) e a b = libraries key other s t e numbers a b
  same_body numbers key other s t (suc (suc (suc (suc zero)))) e a b = literals key other s t e a b
  same_body numbers key other s t (suc (suc (suc (suc (suc zero))))) e a b = texts key other s t e a b
  same_body numbers key other s t (suc (suc (suc (suc (suc (suc zero)))))) e a b = calls key other s t e a b
  same_body numbers key other s t (suc (suc (suc (suc (suc (suc (suc zero))))))) e a b = stars key other s t e a b
  same_body numbers key other s t (suc (suc (suc (suc (suc (suc (suc (suc zero)))))))) e a b = furthers key other s t e a b
  same_body numbers key other s t (suc (suc (suc (suc (suc (suc (suc (suc (suc zero))))))))) e a b = a.key_is ∙ sym b.key_is
  same_body numbers key other s t (suc (suc (suc (suc (suc (suc (suc (suc (suc (suc n)))))))))) e a b = absurd a

  -- objects of one name are one object
  pub same_key : (numbers : List ℕ → ℕ) (key other : ObjectKey) (s t : Shape) → IsSource p numbers key s → IsSource p numbers other t → s ≡ t → key ≡ other
  same_key numbers key other s t a b e =
      let classes : b.class ≡ a.class = sym b.class_is ∙ (ap class_of (sym e) ∙ a.class_is) in
      same_body numbers key other s t a.class e a.body (subst (Body p numbers other t) classes b.body)
