-- The parts of a linked program are told apart by names and places where those of its units are.
use Rattle.std.proofs.Common.{arith, ◌≡◌, ◌≢◌, ◌∙◌, ℕ, zero, suc, ◌<◌, Bool, true, false, is_some, List, [], ◌∷◌, length, map, Option, Some, None, refl, sym, ap, subst, inl, inr}
use Rattle.std.specs.Prelude.{◌||◌}
use Rattle.std.specs.List.{slice_get, list_any}
use Rattle.std.specs.Option.{option_map}
use Rattle.std.proofs.lemmas.Bool.{cases_Bool, false≢true, eqb-true}
use Rattle.std.proofs.lemmas.Option.{slice_get_within}
use Rattle.std.proofs.lemmas.Cmp.{nat_eq_equiv}
use Rattle.pta_base.specs.declared.place.Place.{Place}
use Rattle.core_tree.specs.declared.node.Unit.{Unit}
use Rattle.core_tree.specs.declared.node.Program.{Program}
use Rattle.core_tree.specs.declared.node.Node.{Node}
use Rattle.core_tree.specs.declared.node.NodeKind.{NodeKind}
use Rattle.core_tree.specs.declared.node.NodeKind.TheVariants.{Named, Text, Literal, FunctionName, CallNode, Block, For, Initialise, VarArgs}
use Rattle.core_tree.specs.declared.node.Entity.{Entity}
use Rattle.core_tree.specs.declared.node.Linkage.{Linkage}
use Rattle.core_tree.specs.declared.node.Linkage.TheVariants.{External, Internal, Local}
use Rattle.core_tree.specs.declared.node.Storage.{Storage}
use Rattle.core_tree.specs.declared.node.Storage.TheVariants.{Static, Automatic, FunctionBody, Parameter, Declared as DeclaredOnly}
use Rattle.core_tree.specs.Typed.{trees_of}
use Rattle.core_tree.specs.Valid.{IsLocal, HasBody}
use Rattle.core_tree.specs.Linkages.{IsUnlinked, HasNoLinkage, MakesUnlinked}
use Rattle.link_model.specs.declared.item.Item.{Item}
use Rattle.link_model.specs.Units.{item}
use Rattle.link_names.specs.Externals.{IsExternal, is_external, entities_if, entity_at}
use Rattle.link_names.proofs.Ordering.{external_is, is_external_of}
use Rattle.linked_laws.proofs.link_laws.Wholeness.{maker_found, named_once}
use Rattle.unit_link.specs.Places.{node_place, kind_renamed}
use Rattle.unit_link.specs.Linked.{entity_of, IsMovedEntity, IsLinkedName, LinkedAt, joined}
use Rattle.unit_link.specs.Needs.{AreLinkable}
use Rattle.linked_laws.proofs.Origins.{NodeFrom, node_from, entity_from}
use Rattle.obj_made.specs.Uses.{is_number, literal_entity, is_literal}
use Rattle.linked_laws.specs.location_laws.name_shapes.Bytes.{is_letter, IsMadeOf, IsWord}
use Rattle.linked_laws.specs.location_laws.name_laws.Named.{IsPlace, AreUnitNames, IsEntity, IsNode, ByLiteral, IsLocalObject, HasOwner, AreEntities, AreToldApart, IsText, AreNodes}
use Rattle.linked_laws.specs.location_laws.named_laws.Units.{IsNarrow, IsLocalOf, SamePlace, IsNamedUnit, AreNamedUnits}
use Rattle.linked_laws.proofs.embedded_laws.Bodies.{one_body}

one_of : {A : Type 0} {a b : A} → Some a ≡ Some b → a ≡ b
one_of h = cc

none_some : {A : Type 0} {a : A} → ◌≡◌ {A = Option A} None (Some a) → ⊥
none_some h = cc

external_local : External ≡ Local → ⊥
external_local e = cc

external_internal : External ≡ Internal → ⊥
external_internal e = cc

mapped : {X Y : Type 0} (f : X → Y) (xs : List X) (i : ℕ) (y : Y) → slice_get (map f xs) i ≡ Some y → (x : X) × (slice_get xs i ≡ Some x) × (f x ≡ y)
mapped f [] i y at = absurd (none_some at)
mapped f (x ∷ xs) zero y at = (x, refl, one_of at)
mapped f (x ∷ xs) (suc i) y at = mapped f xs i y at

map_length : {X Y : Type 0} (f : X → Y) (xs : List X) → length (map f xs) ≡ length xs
map_length f [] = refl
map_length f (x ∷ xs) = ap suc (map_length f xs)

-- kinds keep what they are
text_back : (f : ℕ → ℕ) (kind : NodeKind) → IsText (kind_renamed f kind) → IsText kind
text_back f (Text bytes) h = tt
text_back f (Named e) h = h
text_back f (FunctionName e) h = h
text_back f (Literal e) h = h
text_back f (Block es) h = h
text_back f (For es condition after) h = h
text_back f (Initialise e paths) h = h
text_back f kind h = h

call_back : (f : ℕ → ℕ) (kind : NodeKind) → kind_renamed f kind ≡ CallNode → kind ≡ CallNode
call_back f (Named e) h = cc
call_back f (FunctionName e) h = cc
call_back f (Literal e) h = cc
call_back f (VarArgs e) h = cc
call_back f (Block es) h = cc
call_back f (For es condition after) h = cc
call_back f (Initialise e paths) h = cc
call_back f kind h = h

-- what a literal makes
literal_number : (f : ℕ → ℕ) (kind : NodeKind) (e : ℕ) → literal_entity (kind_renamed f kind) ≡ Some e → (k : ℕ) × (kind ≡ Literal k) × (f k ≡ e)
literal_number f (Literal k) e h = (k, refl, one_of h)
literal_number f (Named k) e h = absurd (none_some h)
literal_number f (FunctionName k) e h = absurd (none_some h)
literal_number f (Block es) e h = absurd (none_some h)
literal_number f (For es condition after) e h = absurd (none_some h)
literal_number f (Initialise k paths) e h = absurd (none_some h)
literal_number f kind e h = absurd (none_some h)

any_at : {X : Type 0} (test : X → Bool) (xs : List X) (i : ℕ) (x : X) → slice_get xs i ≡ Some x → test x ≡ true → list_any test xs ≡ true
any_at test [] i x at h = cc
any_at test (y ∷ xs) zero x at h = let same : y ≡ x = one_of at in ap (λ b. b || list_any test xs) (ap test same ∙ h)
any_at test (y ∷ xs) (suc i) x at h = by (test y) (any_at test xs i x at h)
  where
    by : (b : Bool) → list_any test xs ≡ true → (b || list_any test xs) ≡ true
    by true e = refl
    by false e = e

any_one : {X : Type 0} (test : X → Bool) (xs : List X) → list_any test xs ≡ true → (i : ℕ) × (x : X) × (slice_get xs i ≡ Some x) × (test x ≡ true)
any_one test [] h = absurd (false≢true h)
any_one test (x ∷ xs) h = elim (cases_Bool (test x)) [
  | inl its ↦ (0, x, refl, its)
  | inr isnt ↦
      let (i, y, at, is) = any_one test xs (sym (ap (λ b. b || list_any test xs) isnt) ∙ h) in
      (suc i, y, at, is)
]

number_is : (k : ℕ) (o : Option ℕ) → is_number k o ≡ true → o ≡ Some k
number_is k None h = absurd (false≢true h)
number_is k (Some n) h = ap Some (eqb-true n k h)

module _ {entered : List (List ℕ)} (units : List Unit) (p : Program) (links : AreLinkable units) (each : AreNamedUnits units) (h : LinkedAt entered units p) where
  -- ---- units
  units_long : length p.names.items ≡ length units
  units_long = ap length h.names ∙ map_length (λ (x : Unit). x.name) units

  unit_below : (u : ℕ) (x : Unit) → slice_get units u ≡ Some x → u < length p.names.items
  unit_below u x at = let lt = slice_get_within units u x at in let long = units_long in omega arith

  unit_named : (u : ℕ) (name : List ℕ) → slice_get p.names.items u ≡ Some name → (x : Unit) × (slice_get units u ≡ Some x) × (x.name ≡ name)
  unit_named u name at = mapped (λ (x : Unit). x.name) units u name (ap (λ names. slice_get names u) (sym h.names) ∙ at)

  pub unit_names : AreUnitNames p.names.items
  unit_names = record {
    bytes = λ u name at. (let (x, there, is) = unit_named u name at in subst (IsMadeOf _) is (each u x there).name);
    once = λ u v name at there. (let (x, x_is, xn) = unit_named u name at in let (y, y_is, yn) = unit_named v name there in links.distinct u v x y x_is y_is (xn ∙ sym yn));
  }

  place_right : (u : ℕ) (x : Unit) (own place : Place) → slice_get units u ≡ Some x → own.unit ≡ u → place ≡ own → IsNarrow own → IsPlace p place
  place_right u x own place at unit is narrow =
      let lt = unit_below u x at in
      let own_right : IsPlace p own = record { unit = (omega arith); line = narrow.line; column = narrow.column } in
      subst (IsPlace p) (sym is) own_right

  same_unit : (u v : ℕ) (x y : Unit) → slice_get units u ≡ Some x → slice_get units v ≡ Some y → u ≡ v → x ≡ y
  same_unit u v x y at there e = one_of (sym at ∙ (ap (slice_get units) e ∙ there))

  -- ---- nodes
  pub nodes_right : AreNodes p
  nodes_right = record { place = place; text = text; call = call }
    where
      place : (n : ℕ) (node : Node) → IsNode p n node → IsPlace p node.place
      place n node at =
          let f = node_from units p h n node at in
          place_right f.unit f.of f.own.place node.place f.of_is ((links.numbered f.unit f.of f.of_is).nodes f.number f.own f.own_is) f.moved.place
          ((each f.unit f.of f.of_is).nodes.place f.number f.own f.own_is)

      -- the unit's nodes of two places that are one
      same : (n m : ℕ) (x y : Node) (a : NodeFrom units p h n x) (b : NodeFrom units p h m y) → x.place ≡ y.place
          → ((u : Unit) (i j : ℕ) (v w : Node) → IsNamedUnit u → slice_get u.nodes.items i ≡ Some v → slice_get u.nodes.items j ≡ Some w → v ≡ a.own → w ≡ b.own → SamePlace v.place w.place → i ≡ j) → n ≡ m
      same n m x y a b e f =
          let places : a.own.place ≡ b.own.place = sym a.moved.place ∙ (e ∙ b.moved.place) in
          let ua = (links.numbered a.unit a.of a.of_is).nodes a.number a.own a.own_is in
          let ub = (links.numbered b.unit b.of b.of_is).nodes b.number b.own b.own_is in
          let unit : b.unit ≡ a.unit = sym ub ∙ (ap (λ (q : Place). q.unit) (sym places) ∙ ua) in
          let of = same_unit b.unit a.unit b.of a.of b.of_is a.of_is unit in
          let there : slice_get a.of.nodes.items b.number ≡ Some b.own = ap (λ (u : Unit). slice_get u.nodes.items b.number) (sym of) ∙ b.own_is in
          let numbers = f a.of a.number b.number a.own b.own (each a.unit a.of a.of_is) a.own_is there refl refl (record { line = ap (λ (q : Place). q.line) places; column = ap (λ (q : Place). q.column) places }) in
          sym a.place ∙ (ap (node_place units a.unit) numbers ∙ (ap (λ u. node_place units u b.number) (sym unit) ∙ b.place))

      text : (n m : ℕ) (x y : Node) → IsNode p n x → IsNode p m y → IsText x.kind → IsText y.kind → x.place ≡ y.place → n ≡ m
      text n m x y at there tx ty e =
          let a = node_from units p h n x at in
          let b = node_from units p h m y there in
          same n m x y a b e
          (λ u i j v w named vi wj va wb places.
          named.nodes.text i j v w vi wj
          (subst (λ (q : Node). IsText q.kind) (sym va) (text_back (h.entity_numbers a.unit) a.own.kind (subst IsText a.moved.kind tx)))
          (subst (λ (q : Node). IsText q.kind) (sym wb) (text_back (h.entity_numbers b.unit) b.own.kind (subst IsText b.moved.kind ty))) places)

      call : (n m : ℕ) (x y : Node) → IsNode p n x → IsNode p m y → x.kind ≡ CallNode → y.kind ≡ CallNode → x.place ≡ y.place → n ≡ m
      call n m x y at there tx ty e =
          let a = node_from units p h n x at in
          let b = node_from units p h m y there in
          same n m x y a b e
          (λ u i j v w named vi wj va wb places.
          named.nodes.call i j v w vi wj
          (ap (λ (q : Node). q.kind) va ∙ call_back (h.entity_numbers a.unit) a.own.kind (sym a.moved.kind ∙ tx))
          (ap (λ (q : Node). q.kind) wb ∙ call_back (h.entity_numbers b.unit) b.own.kind (sym b.moved.kind ∙ ty)) places)

  -- ---- entities
  -- the entity of an external name has external linkage
  pub linked_external : (a : Item) (x y : Entity) → entity_at units a ≡ Some x → IsExternal x → IsLinkedName (joined units h.numbers p.types) h.declarations h.entity_numbers x.name y → y.linkage ≡ External
  linked_external a x y at external linked =
      let found = maker_found (joined units h.numbers p.types) h.declarations x.name linked.declared linked.maker in
      let d = (h.declared.each linked.declared).0 found.contained in
      let same : linked.entity ≡ d.entity = one_of (sym linked.entity_is ∙ d.entity_is) in
      linked.moved.linkage ∙ (ap (λ (z : Entity). z.linkage) same ∙ d.external.linkage)

  unit_of : (a : Item) (x : Entity) → entity_at units a ≡ Some x → (of : Unit) × (slice_get units a.unit ≡ Some of) × (slice_get of.entities.items a.number ≡ Some x)
  unit_of a x at = by (slice_get units a.unit) refl at
    where
      by : (o : Option Unit) → slice_get units a.unit ≡ o → slice_get (entities_if o) a.number ≡ Some x → (of : Unit) × (slice_get units a.unit ≡ Some of) × (slice_get of.entities.items a.number ≡ Some x)
      by (Some of) is e = (of, is, e)
      by None is e = absurd (none_some e)

  -- an entity without external linkage is one of a unit's
  record OtherFrom (e : ℕ) (x : Entity) : Type 0 where
    at : Item
    of : Unit
    own : Entity
    of_is : slice_get units at.unit ≡ Some of
    own_is : slice_get of.entities.items at.number ≡ Some own
    item_is : entity_at units at ≡ Some own
    number : entity_of h.entity_numbers at ≡ e
    moved : IsMovedEntity units h.entity_numbers at.unit own x

  other_from : (e : ℕ) (x : Entity) → IsEntity p e x → (x.linkage ≡ External → ⊥) → OtherFrom e x
  other_from e x at other =
      let (a, y, there, number) = h.entities.only e (slice_get_within p.entities.items e x at) in
      let (of, of_is, own_is) = unit_of a y there in
      elim (cases_Bool (is_external y)) [
        | inl its ↦
            let (z, z_is, linked) = h.entities.names a y there (external_is y its) in
            let same : z ≡ x = one_of (sym z_is ∙ (ap (slice_get p.entities.items) number ∙ at)) in
            absurd (other (ap (λ (w : Entity). w.linkage) (sym same) ∙ linked_external a y z there (external_is y its) linked))
        | inr not_its ↦
            let (z, z_is, linked) = h.entities.others a y there (λ ex. false≢true (sym not_its ∙ is_external_of y ex)) in
            let same : z ≡ x = one_of (sym z_is ∙ (ap (slice_get p.entities.items) number ∙ at)) in
            record {
              at = a;
              of = of;
              own = y;
              of_is = of_is;
              own_is = own_is;
              item_is = there;
              number = number;
              moved = subst (λ (w : Entity). IsMovedEntity units h.entity_numbers a.unit y w) same linked.moved;
            }
      ]

  -- an entity with linkage stands in the program with linkage
  stands_linked : (a : Item) (z : Entity) → entity_at units a ≡ Some z → z.linkage ≢ Local → (y : Entity) × (slice_get p.entities.items (entity_of h.entity_numbers a) ≡ Some y) × (y.linkage ≢ Local)
  stands_linked a z at linked = elim (cases_Bool (is_external z)) [
    | inl its ↦
        let (y, y_is, name) = h.entities.names a z at (external_is z its) in
        let external = linked_external a z y at (external_is z its) name in
        (y, y_is, (λ local. external_local (sym external ∙ local)))
    | inr not_its ↦
        let (y, y_is, other) = h.entities.others a z at (λ ex. false≢true (sym not_its ∙ is_external_of z ex)) in
        (y, y_is, (λ local. linked (sym other.moved.linkage ∙ local)))
  ]

  numbered_unit : (u : ℕ) (of : Unit) (e : ℕ) (x : Entity) → slice_get units u ≡ Some of → slice_get of.entities.items e ≡ Some x → (x.unit ≡ u) × (x.place.unit ≡ u)
  numbered_unit u of e x of_is at = (links.numbered u of of_is).entities e x at

  -- what no literal of the program makes, none of the unit makes
  not_literal : (u : ℕ) (of : Unit) (k e : ℕ) → slice_get units u ≡ Some of → h.entity_numbers u k ≡ e → ByLiteral p e false → is_literal of.nodes.items k ≡ false
  not_literal u of k e of_is number plain = elim (cases_Bool (is_literal of.nodes.items k)) [
    | inl its ↦
        let (i, node, at, is) = any_one (λ (n : Node). is_number k (literal_entity n.kind)) of.nodes.items its in
        let there = h.nodes.each u i of node of_is at in
        let kind = literal_of node.kind k (number_is k (literal_entity node.kind) is) in
        let moved : there.node.kind ≡ Literal e = there.moved.kind ∙ (ap (kind_renamed (h.entity_numbers u)) kind ∙ ap Literal number) in
        absurd (false≢true (sym plain ∙ any_at (λ (n : Node). is_number e (literal_entity n.kind)) p.nodes.items (node_place units u i) there.node there.node_is
        (ap (λ q. is_number e (literal_entity q)) moved ∙ own_number e)))
    | inr isnt ↦ isnt
  ]
    where
      literal_of : (kind : NodeKind) (k : ℕ) → literal_entity kind ≡ Some k → kind ≡ Literal k
      literal_of (Literal j) k e = ap Literal (one_of e)
      literal_of kind k e = absurd (none_some e)

      own_number : (e : ℕ) → is_number e (Some e) ≡ true
      own_number e = nat_eq_equiv.refl e

  local_from : (e : ℕ) (x : Entity) (l : IsLocalObject p e x) → OtherFrom e x
  local_from e x l = other_from e x l.entity (λ ex. external_local (sym ex ∙ l.local))

  local_of : (e : ℕ) (x : Entity) (l : IsLocalObject p e x) (f : OtherFrom e x) → IsLocalOf f.of f.at.number f.own
  local_of e x l f = record {
    entity = f.own_is;
    plain = not_literal f.at.unit f.of f.at.number e f.of_is f.number l.plain;
    local = sym f.moved.linkage ∙ l.local;
  }

  pub entities_right : AreEntities p
  entities_right = record { letters = letters; unit = unit; place = place; owned = owned; word = word; linked = linked }
    where
      letters : (e : ℕ) (x : Entity) → IsEntity p e x → IsMadeOf is_letter x.name
      letters e x at =
          let f = entity_from units p h e x at in
          subst (IsMadeOf is_letter) (sym f.moved.name) ((each f.unit f.of f.of_is).entities.letters f.number f.own f.own_is)

      unit : (e : ℕ) (x : Entity) → IsEntity p e x → x.unit < length p.names.items
      unit e x at =
          let f = entity_from units p h e x at in
          let (own, its) = numbered_unit f.unit f.of f.number f.own f.of_is f.own_is in
          let is = f.moved.unit_is in
          let lt = unit_below f.unit f.of f.of_is in
          omega arith

      place : (e : ℕ) (x : Entity) → IsEntity p e x → IsPlace p x.place
      place e x at =
          let f = entity_from units p h e x at in
          place_right f.unit f.of f.own.place x.place f.of_is (numbered_unit f.unit f.of f.number f.own f.of_is f.own_is).1 f.moved.place
          ((each f.unit f.of f.of_is).entities.place f.number f.own f.own_is)

      word : (e : ℕ) (x : Entity) → IsLocalObject p e x → IsWord x.name
      word e x l =
          let f = local_from e x l in
          subst IsWord (sym f.moved.name) ((each f.at.unit f.of f.of_is).entities.word f.at.number f.own (local_of e x l f))

      linked : (e : ℕ) (x : Entity) → IsEntity p e x → x.storage ≡ FunctionBody → x.linkage ≢ Local
      linked e x at body =
          let f = entity_from units p h e x at in
          λ local. (each f.unit f.of f.of_is).entities.linked f.number f.own f.own_is (sym f.moved.storage ∙ body) (sym f.moved.linkage ∙ local)

      owned : (e : ℕ) (x : Entity) → IsLocalObject p e x → x.storage ≢ DeclaredOnly → HasOwner p x
      owned e x l here =
          let f = local_from e x l in
          let o = (each f.at.unit f.of f.of_is).entities.owned f.at.number f.own (local_of e x l f) in
          let function = item f.at.unit o.function in
          let there : entity_at units function ≡ Some o.entity = ap (λ (q : Option Unit). slice_get (entities_if q) o.function) f.of_is ∙ o.entity_is in
          let (z, z_is, linked) = stands_linked function o.entity there o.linked in
          record {
            function = entity_of h.entity_numbers function;
            owner = f.moved.owner ∙ ap (option_map (h.entity_numbers f.at.unit)) o.owner;
            entity = z;
            entity_is = z_is;
            linked = linked;
          }

  -- ---- what tells them apart
  unlinked_local : (storage : Storage) (linkage : Linkage) → IsUnlinked storage linkage → IsLocal storage → linkage ≡ Local
  unlinked_local Automatic linkage h l = h
  unlinked_local Parameter linkage h l = h
  unlinked_local Static linkage h l = absurd l
  unlinked_local FunctionBody linkage h l = absurd l
  unlinked_local DeclaredOnly linkage h l = absurd l

  external_object : (e : ℕ) (x : Entity) → IsEntity p e x → x.linkage ≡ External → IsExternal x
  external_object e x at external =
      let f = entity_from units p h e x at in
      let own = (links.valid f.unit f.of f.of_is).linkages.entities f.number f.own f.own_is in
      record {
        linkage = external;
        lasting = λ local. external_local (sym external ∙ (f.moved.linkage ∙ unlinked_local f.own.storage f.own.linkage own (subst IsLocal f.moved.storage local)));
      }

  -- one number of one unit is one entity
  same_entity : (e f : ℕ) (x y : Entity) (a : OtherFrom e x) (b : OtherFrom f y) → b.at.unit ≡ a.at.unit → (slice_get a.of.entities.items b.at.number ≡ Some b.own → a.at.number ≡ b.at.number) → e ≡ f
  same_entity e f x y a b unit numbers =
      let of = same_unit b.at.unit a.at.unit b.of a.of b.of_is a.of_is unit in
      let there : slice_get a.of.entities.items b.at.number ≡ Some b.own = ap (λ (u : Unit). slice_get u.entities.items b.at.number) (sym of) ∙ b.own_is in
      sym a.number ∙ (ap (h.entity_numbers a.at.unit) (numbers there) ∙ (ap (λ u. h.entity_numbers u b.at.number) (sym unit) ∙ b.number))

  own_unit : (e : ℕ) (x : Entity) (a : OtherFrom e x) → (a.own.unit ≡ a.at.unit) × (a.own.place.unit ≡ a.at.unit)
  own_unit e x a = numbered_unit a.at.unit a.of a.at.number a.own a.of_is a.own_is

  -- a function that a unit defines is defined with a body
  body_of : (u : ℕ) (of : Unit) (k : ℕ) (z : Entity) → slice_get units u ≡ Some of → slice_get of.entities.items k ≡ Some z → z.storage ≡ FunctionBody → is_some z.body ≡ true
  body_of u of k z of_is at storage = by z.body ((links.valid u of of_is).trees.bodied k z at)
    where
      by : (o : Option ℕ) → HasBody (trees_of of) k z o → is_some o ≡ true
      by None none = absurd (none storage)
      by (Some b) some = refl

  -- functions that are one entity in the program, and are defined in units, are one
  one_function : (a b : Item) (x y : Entity) (ofa ofb : Unit) → slice_get units a.unit ≡ Some ofa → slice_get units b.unit ≡ Some ofb → slice_get ofa.entities.items a.number ≡ Some x → slice_get ofb.entities.items b.number ≡ Some y
      → x.storage ≡ FunctionBody → y.storage ≡ FunctionBody → entity_of h.entity_numbers a ≡ entity_of h.entity_numbers b → a ≡ b
  one_function a b x y ofa ofb a_is b_is x_is y_is xb yb same =
      let here : entity_at units a ≡ Some x = ap (λ (q : Option Unit). slice_get (entities_if q) a.number) a_is ∙ x_is in
      let there : entity_at units b ≡ Some y = ap (λ (q : Option Unit). slice_get (entities_if q) b.number) b_is ∙ y_is in
      elim ((h.entities.one a b x y here there).0 same) [
        | inl one ↦ one
        | inr share ↦ one_body units p h share.name a b
            (record {
              entity = share.first.entity;
              entity_is = share.first.entity_is;
              external = share.first.external;
              named = share.first.named;
              body = ap (λ (z : Entity). is_some z.body) (one_of (sym share.first.entity_is ∙ here)) ∙ body_of a.unit ofa a.number x a_is x_is xb;
            })
            (record {
              entity = share.second.entity;
              entity_is = share.second.entity_is;
              external = share.second.external;
              named = share.second.named;
              body = ap (λ (z : Entity). is_some z.body) (one_of (sym share.second.entity_is ∙ there)) ∙ body_of b.unit ofb b.number y b_is y_is yb;
            })
      ]

  -- the entity of a literal
  record LiteralFrom (e : ℕ) (x : Entity) : Type 0 where
    from : OtherFrom e x
    literal : is_literal from.of.nodes.items from.at.number ≡ true

  no_linkage : (u : ℕ) (of : Unit) (n k : ℕ) (node : Node) → slice_get units u ≡ Some of → slice_get of.nodes.items n ≡ Some node → node.kind ≡ Literal k → (z : Entity) × (slice_get of.entities.items k ≡ Some z) × (z.linkage ≡ Local)
  no_linkage u of n k node of_is at kind = by (slice_get of.entities.items k) refl (subst (λ q. MakesUnlinked (trees_of of) q) kind ((links.valid u of of_is).linkages.nodes n node at).literal)
    where
      by : (o : Option Entity) → slice_get of.entities.items k ≡ o → HasNoLinkage o → (z : Entity) × (slice_get of.entities.items k ≡ Some z) × (z.linkage ≡ Local)
      by None e none = absurd none
      by (Some z) e local = (z, e, local)

  literal_from : (e : ℕ) (x : Entity) → IsEntity p e x → ByLiteral p e true → LiteralFrom e x
  literal_from e x at literal =
      let (n, node, node_at, is) = any_one (λ (q : Node). is_number e (literal_entity q.kind)) p.nodes.items literal in
      let f = node_from units p h n node node_at in
      let (k, kind, number) = literal_number (h.entity_numbers f.unit) f.own.kind e (ap literal_entity (sym f.moved.kind) ∙ number_is e (literal_entity node.kind) is) in
      let (z, z_is, local) = no_linkage f.unit f.of f.number k f.own f.of_is f.own_is kind in
      let a = item f.unit k in
      let there : entity_at units a ≡ Some z = ap (λ (q : Option Unit). slice_get (entities_if q) k) f.of_is ∙ z_is in
      let (w, w_is, other) = h.entities.others a z there (λ ex. external_local (sym ex.linkage ∙ local)) in
      let same : w ≡ x = one_of (sym w_is ∙ (ap (slice_get p.entities.items) number ∙ at)) in
      record {
        from = record {
          at = a;
          of = f.of;
          own = z;
          of_is = f.of_is;
          own_is = z_is;
          item_is = there;
          number = number;
          moved = subst (λ (q : Entity). IsMovedEntity units h.entity_numbers f.unit z q) same other.moved;
        };
        literal = any_at (λ (q : Node). is_number k (literal_entity q.kind)) f.of.nodes.items f.number f.own f.own_is (ap (λ q. is_number k (literal_entity q)) kind ∙ nat_eq_equiv.refl k);
      }

  places_same : (a b c d : Place) → a ≡ b → c ≡ d → a.line ≡ c.line → a.column ≡ c.column → SamePlace b d
  places_same a b c d ab cd lines columns = record {
    line = ap (λ (q : Place). q.line) (sym ab) ∙ (lines ∙ ap (λ (q : Place). q.line) cd);
    column = ap (λ (q : Place). q.column) (sym ab) ∙ (columns ∙ ap (λ (q : Place). q.column) cd);
  }

  pub told_apart : AreToldApart p
  told_apart = record { external = external; internal = internal; local = local; literal = literal }
    where
      external : (e f : ℕ) (x y : Entity) → IsEntity p e x → IsEntity p f y → x.linkage ≡ External → y.linkage ≡ External → x.name ≡ y.name → e ≡ f
      external e f x y at there lx ly names = (named_once units p h).once e f x y at there (external_object e x at lx) (external_object f y there ly) names

      internal : (e f : ℕ) (x y : Entity) → IsEntity p e x → IsEntity p f y → x.linkage ≡ Internal → y.linkage ≡ Internal → x.unit ≡ y.unit → x.name ≡ y.name → e ≡ f
      internal e f x y at there lx ly unit names =
          let a = other_from e x at (λ ex. external_internal (sym ex ∙ lx)) in
          let b = other_from f y there (λ ex. external_internal (sym ex ∙ ly)) in
          let same : b.at.unit ≡ a.at.unit = sym (own_unit f y b).0 ∙ (sym b.moved.unit_is ∙ (sym unit ∙ (a.moved.unit_is ∙ (own_unit e x a).0))) in
          same_entity e f x y a b same
          (λ own. (each a.at.unit a.of a.of_is).entities.internal a.at.number b.at.number a.own b.own a.own_is own (sym a.moved.linkage ∙ lx) (sym b.moved.linkage ∙ ly) (sym a.moved.name ∙ (names ∙ b.moved.name)))

      local : (e f : ℕ) (x y : Entity) → IsLocalObject p e x → IsLocalObject p f y → x.owner ≡ y.owner → x.name ≡ y.name → x.place.line ≡ y.place.line → x.place.column ≡ y.place.column → e ≡ f
      local e f x y lx ly owners names lines columns =
          let a = local_from e x lx in
          let b = local_from f y ly in
          let la = local_of e x lx a in
          let lb = local_of f y ly b in
          let fa = (each a.at.unit a.of a.of_is).entities.owned a.at.number a.own la in
          let fb = (each b.at.unit b.of b.of_is).entities.owned b.at.number b.own lb in
          let oa : x.owner ≡ Some (h.entity_numbers a.at.unit fa.function) = a.moved.owner ∙ ap (option_map (h.entity_numbers a.at.unit)) fa.owner in
          let ob : y.owner ≡ Some (h.entity_numbers b.at.unit fb.function) = b.moved.owner ∙ ap (option_map (h.entity_numbers b.at.unit)) fb.owner in
          let one = one_function (item a.at.unit fa.function) (item b.at.unit fb.function) fa.entity fb.entity a.of b.of a.of_is b.of_is fa.entity_is fb.entity_is fa.body fb.body (one_of (sym oa ∙ (owners ∙ ob))) in
          let same : b.at.unit ≡ a.at.unit = ap (λ (q : Item). q.unit) (sym one) in
          let of = same_unit b.at.unit a.at.unit b.of a.of b.of_is a.of_is same in
          same_entity e f x y a b same
          (λ own. (each a.at.unit a.of a.of_is).entities.local a.at.number b.at.number a.own b.own la (subst (λ (u : Unit). IsLocalOf u b.at.number b.own) of lb)
          (places_same x.place a.own.place y.place b.own.place a.moved.place b.moved.place lines columns))

      literal : (e f : ℕ) (x y : Entity) → IsEntity p e x → IsEntity p f y → ByLiteral p e true → ByLiteral p f true → x.place ≡ y.place → e ≡ f
      literal e f x y at there lx ly places =
          let la = literal_from e x at lx in
          let lb = literal_from f y there ly in
          let a = la.from in
          let b = lb.from in
          let unit : b.at.unit ≡ a.at.unit = sym (own_unit f y b).1 ∙ (ap (λ (q : Place). q.unit) (sym b.moved.place ∙ (sym places ∙ a.moved.place)) ∙ (own_unit e x a).1) in
          let of = same_unit b.at.unit a.at.unit b.of a.of b.of_is a.of_is unit in
          same_entity e f x y a b unit
          (λ own. (each a.at.unit a.of a.of_is).entities.literal a.at.number b.at.number a.own b.own a.own_is own la.literal (ap (λ (u : Unit). is_literal u.nodes.items b.at.number) (sym of) ∙ lb.literal)
          (places_same x.place a.own.place y.place b.own.place a.moved.place b.moved.place (ap (λ (q : Place). q.line) places) (ap (λ (q : Place). q.column) places)))
