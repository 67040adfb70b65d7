-- What is initialised in a unit has its place in the program.
use Rattle.std.specs.Prelude.{◌≢◌}
use Rattle.std.proofs.Common.{◌≡◌, ◌∙◌, ℕ, zero, suc, Bool, true, false, cond, List, [], ◌∷◌, Contains, Option, Some, None, is_some, refl, sym, ap, subst, inl, inr}
use Rattle.std.specs.List.{slice_get, find, filter}
use Rattle.std.specs.Option.{option_map, option_map_or, option_or}
use Rattle.std.specs.Str.{bytes_eq}
use Rattle.std.specs.Cmp.Lexicographic.{bytes_decides}
use Rattle.std.proofs.lemmas.Bool.{cases_Bool, false≢true}
use Rattle.std.proofs.lemmas.Option.{slice_get-get_or}
use Rattle.c_types.specs.Trees.{Ctype, FunctionFrom}
use Rattle.c_types.specs.Table.{type_of}
use Rattle.type_rules.specs.Kinds.{IsFunction}
use Rattle.core_tree.specs.declared.node.Unit.{Unit}
use Rattle.core_tree.specs.declared.node.Program.{Program}
use Rattle.core_tree.specs.declared.node.Node.{Node}
use Rattle.core_tree.specs.declared.node.Entity.{Entity}
use Rattle.core_tree.specs.declared.node.Storage.{Storage}
use Rattle.core_tree.specs.declared.node.Storage.TheVariants.{Static, Automatic, FunctionBody, Parameter, Declared as DeclaredStorage}
use Rattle.core_tree.specs.declared.node.NodeKind.{NodeKind}
use Rattle.core_tree.specs.declared.node.NodeKind.TheVariants.{Named, FunctionName, Literal, Block, For, Initialise}
use Rattle.core_tree.specs.Typed.{trees_of}
use Rattle.core_tree.specs.Rows.{Initialises, InitialisesEntity, InitialisesIn}
use Rattle.core_tree.specs.Valid.{HasBody, IsBlock, IsBlockIn}
use Rattle.link_model.specs.declared.item.Item.{Item}
use Rattle.link_model.specs.Units.{item}
use Rattle.link_model.specs.Renamed.{renamed}
use Rattle.link_names.specs.declared.declared.Declared.{Declared}
use Rattle.link_names.specs.Externals.{Joined, IsDeclaration, declared_as, entities_if, entity_at, item_of, is_named, is_external, is_function_type, has_body}
use Rattle.link_names.specs.Together.{of_name, first_defined, maker_of}
use Rattle.link_names.proofs.Ordering.{external_is, is_external_of}
use Rattle.linked_laws.proofs.link_laws.Wholeness.{maker_found, named_so}
use Rattle.unit_link.specs.Linked.{entity_of, IsLinkedName, LinkedAt, joined}
use Rattle.unit_link.specs.Needs.{AreLinkable}
use Rattle.unit_link.specs.Places.{kind_renamed}
use Rattle.linked_laws.proofs.Origins.{node_from}
use Rattle.linked_laws.proofs.alike_laws.Entities.{external_keeps}
use Rattle.linked_laws.proofs.alike_laws.Origins.{own_type}
use Rattle.linked_laws.specs.system_laws.item_laws.Items.{HasPlace, IsPlacedIn, IsPlacedAt, KindPlaced, ArePlaced}
use Rattle.link_model.specs.filled_units.Filled.{AreFilled}

some_one : {X : Type 0} → {x y : X} → ◌≡◌ {A = Option X} (Some x) (Some y) → x ≡ y
some_one h = cc

none_some : {X : Type 0} → {x : X} → ◌≡◌ {A = Option X} None (Some x) → ⊥
none_some h = cc

-- what is neither a function nor only declared has its place
has_place : (x : Storage) → x ≢ FunctionBody → x ≢ DeclaredStorage → HasPlace x
has_place Static f d = tt
has_place Automatic f d = tt
has_place Parameter f d = tt
has_place FunctionBody f d = absurd (f refl)
has_place DeclaredStorage f d = absurd (d refl)

-- an initialiser is no block
kind_no_block : (kind : NodeKind) (e : ℕ) → InitialisesEntity kind e → IsBlock kind → ⊥
kind_no_block (Initialise o paths) e a b = b
kind_no_block kind e a b = a

no_block : (o : Option Node) (e : ℕ) → InitialisesIn o e → IsBlockIn o → ⊥
no_block None e a b = a
no_block (Some node) e a b = kind_no_block node.kind e a b

function_true : (t : Ctype) → IsFunction t → is_function_type t ≡ true
function_true (FunctionFrom r ps f) h = refl
function_true t h = absurd h

true_function : (t : Ctype) → is_function_type t ≡ true → IsFunction t
true_function (FunctionFrom r ps f) h = tt
true_function t h = absurd (false≢true h)

renamed_function : (f : ℕ → ℕ) (t : Ctype) → is_function_type (renamed f t) ≡ is_function_type t
renamed_function f (FunctionFrom r ps form) = refl
renamed_function f t = refl

-- what passes a test is found
find_step : (t : Declared → Bool) (z : Declared) (xs : List Declared) (i : ℕ) (x : Declared) (b : Bool) → t z ≡ b → slice_get (z ∷ xs) i ≡ Some x → t x ≡ true
    → ((j : ℕ) → slice_get xs j ≡ Some x → (y : Declared) × (find t xs ≡ Some y) × (t y ≡ true)) → (y : Declared) × (cond b (Some z) (find t xs) ≡ Some y) × (t y ≡ true)
find_step t z xs i x true is at its f = (z, refl, is)
find_step t z xs zero x false is at its f = absurd (false≢true (sym is ∙ (ap t (some_one at) ∙ its)))
find_step t z xs (suc i) x false is at its f = f i at

find_has : (t : Declared → Bool) (xs : List Declared) (i : ℕ) (x : Declared) → slice_get xs i ≡ Some x → t x ≡ true → (y : Declared) × (find t xs ≡ Some y) × (t y ≡ true)
find_has t [] i x at its = absurd (none_some at)
find_has t (z ∷ xs) i x at its = find_step t z xs i x (t z) refl at its (λ j e. find_has t xs j x e its)

filter_step : (q : Declared → Bool) (z : Declared) (xs ys : List Declared) (i : ℕ) (x : Declared) (b : Bool) → q z ≡ b → slice_get (z ∷ xs) i ≡ Some x → q x ≡ true → ((j : ℕ) → slice_get xs j ≡ Some x → (k : ℕ) × (slice_get ys k ≡ Some x))
    → (k : ℕ) × (slice_get (cond b (z ∷ ys) ys) k ≡ Some x)
filter_step q z xs ys zero x true is at its f = (0, at)
filter_step q z xs ys (suc i) x true is at its f = let r = f i at in (suc r.0, r.1)
filter_step q z xs ys zero x false is at its f = absurd (false≢true (sym is ∙ (ap q (some_one at) ∙ its)))
filter_step q z xs ys (suc i) x false is at its f = f i at

filter_has : (q : Declared → Bool) (xs : List Declared) (i : ℕ) (x : Declared) → slice_get xs i ≡ Some x → q x ≡ true → (k : ℕ) × (slice_get (filter q xs) k ≡ Some x)
filter_has q [] i x at its = absurd (none_some at)
filter_has q (z ∷ xs) i x at its = filter_step q z xs (filter q xs) i x (q z) refl at its (λ j e. filter_has q xs j x e its)

-- where a declaration has a body, the one that makes its name has one
maker_bodied : (j : Joined) (ds : List Declared) (name : List ℕ) (d c : Declared) → maker_of j ds name ≡ Some d → Contains ds c → is_named j.units name c ≡ true → has_body j.units (item_of c) ≡ true → has_body j.units (item_of d) ≡ true
maker_bodied j ds name d c h (i, lt, e) named bodied =
    let at : slice_get ds i ≡ Some c = slice_get-get_or ds i c lt ∙ ap (λ (z : Declared). Some z) e in
    let k = filter_has (is_named j.units name) ds i c at named in
    let t : Declared → Bool = λ (z : Declared). has_body j.units (item_of z) in
    let y = find_has t (of_name j.units name ds) k.0 c k.1 bodied in
    let same : d ≡ y.0 = some_one (sym h ∙ ap (λ (o : Option Declared). option_or o (option_or (first_defined j (of_name j.units name ds)) (find (λ (z : Declared). true) (of_name j.units name ds)))) y.1) in
    ap t same ∙ y.2

body_some : (o : Option ℕ) → is_some o ≡ true → (b : ℕ) × (o ≡ Some b)
body_some None h = absurd (false≢true h)
body_some (Some b) h = (b, refl)

module _ {names : List (List ℕ)} (units : List Unit) (p : Program) (linkable : AreLinkable units) (filled : AreFilled units) (h : LinkedAt names units p) where
  abbrev j : Joined
  j = joined units h.numbers p.types

  unit_of : (a : Item) (x : Entity) → entity_at units a ≡ Some x → (of : Unit) × (slice_get units a.unit ≡ Some of) × (slice_get of.entities.items a.number ≡ Some x)
  unit_of a x at = by (slice_get units a.unit) refl at
    where
      by : (o : Option Unit) → slice_get units a.unit ≡ o → slice_get (entities_if o) a.number ≡ Some x → (of : Unit) × (slice_get units a.unit ≡ Some of) × (slice_get of.entities.items a.number ≡ Some x)
      by (Some of) is e = (of, is, e)
      by None is e = absurd (none_some e)

  -- a body that is an object's
  object_placed : (u e : ℕ) (of : Unit) (x : Entity) (b : ℕ) → slice_get units u ≡ Some of → slice_get of.entities.items e ≡ Some x → x.body ≡ Some b → (IsFunction (type_of of.types x.ty.0) → ⊥) → HasPlace x.storage
  object_placed u e of x b is at body object =
      let bodied = subst (λ (o : Option ℕ). HasBody (trees_of of) e x o) body ((linkable.valid u of is).trees.bodied e x at) in
      elim bodied.0 [
        | inl f ↦ absurd (object f.function)
        | inr o ↦
            let (z, z_at, z_body, no_function, no_declaration) = (filled.each u of is).each b e o.initialises in
            subst (λ (y : Entity). HasPlace y.storage) (some_one (sym z_at ∙ at)) (has_place z.storage no_function no_declaration)
      ]

  maker_placed : (u e i : ℕ) (of : Unit) (x y : Entity) → slice_get units u ≡ Some of → slice_get of.entities.items e ≡ Some x → x.body ≡ Some i → Initialises (trees_of of) i e → is_external x ≡ true
      → IsLinkedName j h.declarations h.entity_numbers x.name y → HasPlace y.storage
  maker_placed u e i of x y is x_at body init its linked =
      let at : entity_at units (item u e) ≡ Some x = ap (λ (o : Option Unit). slice_get (entities_if o) e) is ∙ x_at in
      let c = declared_as u e x in
      let declares : IsDeclaration units c = record { entity = x; entity_is = at; external = external_is x its; line = refl; column = refl } in
      let named : is_named units x.name c ≡ true = ap (λ (o : Option Entity). option_map_or (λ other. bytes_eq other x.name) (option_map (λ (z : Entity). z.name) o) false) at ∙ (bytes_decides x.name x.name).1 refl in
      let bodied : has_body units (item_of c) ≡ true = ap (λ (o : Option Entity). option_map_or (λ (z : Entity). is_some z.body) o false) at ∙ ap is_some body in
      let d = linked.declared in
      let makes = maker_bodied j h.declarations x.name d c linked.maker ((h.declared.each c).1 declares) named bodied in
      let (b, own_body) = body_some linked.entity.body (sym (ap (λ (o : Option Entity). option_map_or (λ (z : Entity). is_some z.body) o false) linked.entity_is) ∙ makes) in
      let (of_d, of_d_is, own_is) = unit_of (item_of d) linked.entity linked.entity_is in
      let found = maker_found j h.declarations x.name d linked.maker in
      let declaration = (h.declared.each d).0 found.contained in
      let one : declaration.entity ≡ linked.entity = some_one (sym declaration.entity_is ∙ linked.entity_is) in
      let external : is_external linked.entity ≡ true = ap is_external (sym one) ∙ is_external_of declaration.entity declaration.external in
      let own_name : linked.entity.name ≡ x.name = named_so units x.name d linked.entity found.passes linked.entity_is in
      let own_keeps = external_keeps units p h (item_of d) linked.entity y linked.entity_is external (subst (λ (m : List ℕ). IsLinkedName j h.declarations h.entity_numbers m y) (sym own_name) linked) in
      let keeps = external_keeps units p h (item u e) x y at its linked in
      let alike : is_function_type (type_of of_d.types linked.entity.ty.0) ≡ is_function_type (type_of of.types x.ty.0) =
      sym (renamed_function (h.numbers.tag d.unit) (type_of of_d.types linked.entity.ty.0))
      ∙ (sym (ap is_function_type (own_type units p linkable h d.unit of_d d.number linked.entity of_d_is own_is))
      ∙ (own_keeps.function ∙ (sym keeps.function
      ∙ (ap is_function_type (own_type units p linkable h u of e x is x_at) ∙ renamed_function (h.numbers.tag u) (type_of of.types x.ty.0))))) in
      let x_bodied = subst (λ (o : Option ℕ). HasBody (trees_of of) e x o) body ((linkable.valid u of is).trees.bodied e x x_at) in
      let object : IsFunction (type_of of_d.types linked.entity.ty.0) → ⊥ = λ f. elim x_bodied.0 [
        | inl g ↦ no_block (slice_get of.nodes.items i) e init g.block
        | inr o ↦ o.object (true_function (type_of of.types x.ty.0) (sym alike ∙ function_true (type_of of_d.types linked.entity.ty.0) f))
      ] in
      subst HasPlace (sym linked.moved.storage) (object_placed d.unit d.number of_d linked.entity b of_d_is own_is own_body object)

  entity_placed : (u e i : ℕ) (of : Unit) → slice_get units u ≡ Some of → Initialises (trees_of of) i e → IsPlacedAt p (entity_of h.entity_numbers (item u e))
  entity_placed u e i of is init =
      let (x, x_at, body, no_function, no_declaration) = (filled.each u of is).each i e init in
      let place : HasPlace x.storage = has_place x.storage no_function no_declaration in
      let at : entity_at units (item u e) ≡ Some x = ap (λ (o : Option Unit). slice_get (entities_if o) e) is ∙ x_at in
      elim (cases_Bool (is_external x)) [
        | inl its ↦
            let (y, y_is, linked) = h.entities.names (item u e) x at (external_is x its) in
            subst (λ (o : Option Entity). IsPlacedIn o) (sym y_is) (maker_placed u e i of x y is x_at body init its linked)
        | inr not_its ↦
            let (y, y_is, linked) = h.entities.others (item u e) x at (λ ex. false≢true (sym not_its ∙ is_external_of x ex)) in
            subst (λ (o : Option Entity). IsPlacedIn o) (sym y_is) (subst HasPlace (sym linked.moved.storage) place)
      ]

  kind_placed : (u i : ℕ) (of : Unit) (node : Node) → slice_get units u ≡ Some of → slice_get of.nodes.items i ≡ Some node → (kind : NodeKind) → node.kind ≡ kind → KindPlaced p (kind_renamed (h.entity_numbers u) kind)
  kind_placed u i of node is at (Initialise e paths) kind =
      entity_placed u e i of is (subst (λ (o : Option Node). InitialisesIn o e) (sym at) (subst (λ (k : NodeKind). InitialisesEntity k e) (sym kind) refl))
  kind_placed u i of node is at (Named e) kind = tt
  kind_placed u i of node is at (FunctionName e) kind = tt
  kind_placed u i of node is at (Literal e) kind = tt
  kind_placed u i of node is at (Block es) kind = tt
  kind_placed u i of node is at (For es c a) kind = tt
  kind_placed u i of node is at other kind = tt

pub linked_placed : {names : List (List ℕ)} (units : List Unit) (p : Program) → AreLinkable units → AreFilled units → LinkedAt names units p → ArePlaced p
linked_placed units p linkable filled h n node at =
    let f = node_from units p h n node at in
    subst (λ (k : NodeKind). KindPlaced p k) (sym f.moved.kind) (kind_placed units p linkable filled h f.unit f.number f.of f.own f.of_is f.own_is f.own.kind refl)
