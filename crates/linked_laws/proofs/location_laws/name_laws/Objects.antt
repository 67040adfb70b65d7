-- The names of what tokens make.
use Rattle.std.proofs.Common.{arith, ◌≡◌, ◌≢◌, ◌∙◌, ℕ, ◌+◌, ◌<◌, Bool, true, false, cond, List, [], ◌∷◌, ◌++◌, length, Option, Some, None, refl, sym, ap, subst, inl, append_assoc}
use Rattle.std.specs.Prelude.{codes, if◌then◌else◌}
use Rattle.std.specs.List.{slice_get}
use Rattle.std.specs.Option.{unwrap_or, option_and_then}
use Rattle.std.specs.Fmt.{decimal}
use Rattle.std.specs.Str.{bytes_eq}
use Rattle.std.specs.Cmp.Lexicographic.{bytes_decides}
use Rattle.std.proofs.lemmas.Option.{slice_get-get_or}
use Rattle.pta_base.specs.declared.place.Place.{Place}
use Rattle.c_types.specs.declared.key.ObjectKey.TheVariants.{Entity as EntityKey, Text as TextKey, Call as CallKey, Varargs as VarargsKey}
use Rattle.c_types.specs.Table.{type_of}
use Rattle.core_tree.specs.declared.node.Program.{Program}
use Rattle.core_tree.specs.declared.node.Node.{Node}
use Rattle.core_tree.specs.declared.node.NodeKind.{NodeKind}
use Rattle.core_tree.specs.declared.node.NodeKind.TheVariants.{Text, CallNode}
use Rattle.core_tree.specs.declared.node.Entity.{Entity}
use Rattle.core_tree.specs.declared.node.Linkage.{Linkage}
use Rattle.core_tree.specs.declared.node.Linkage.TheVariants.{External, Internal, Local}
use Rattle.core_tree.specs.declared.node.Storage.{Storage}
use Rattle.core_tree.specs.declared.node.Storage.TheVariants.{Static, Automatic, FunctionBody, Parameter, Declared}
use Rattle.lib_summaries.specs.Table.{rows, summary_of}
use Rattle.obj_made.specs.declared.object.Content.{Content}
use Rattle.obj_made.specs.declared.object.Object.{Object}
use Rattle.obj_made.specs.Spelling.{unit_name, linked_in, linked_name, function_named, owner_name, placed_name, stands_twice, told_apart, local_name, declared_in, entity_name, varargs_name}
use Rattle.obj_made.specs.Uses.{is_literal, entity_number, number_of_name, is_allocator, function_entity, direct_callee}
use Rattle.obj_made.specs.Made.{Spot, entity_content, object_unless_declared, made_at, entity_made, spot_at, typed_by, conversion_above, allocated_content, called_object, object_of_call, entity_by, called_entity, object_of_kind, node_made, has_body, is_variadic, has_varargs, varargs_object, varargs_spot}
use Rattle.linked_laws.specs.location_laws.name_shapes.Bytes.{is_unit_byte, is_base_byte, is_letter, IsMadeOf}
use Rattle.linked_laws.specs.location_laws.name_shapes.Shapes.{Nothing, Inner, Further, head_text, at_text, IsSpot, IsAt, IsHead, IsShape}
use Rattle.linked_laws.proofs.location_laws.name_shapes.Cutting.{both, weaker, letter_base}
use Rattle.linked_laws.specs.location_laws.name_laws.Named.{IsPlace, IsEntity, IsNode, ByLiteral, IsLocalObject, HasOwner, IsText, HasNames}
use Rattle.linked_laws.proofs.location_laws.name_laws.Lists.{Every}
use Rattle.linked_laws.proofs.location_laws.name_laws.Sources.{shape_of, spot_of, plain, placed, unit_by, unit_before, at_if}
use Rattle.linked_laws.proofs.location_laws.name_laws.Library.{IsObject, plain_shape, plain_source, rank, and_then, declared}

one_of : {A : Type 0} {a b : A} → Some a ≡ Some b → a ≡ b
one_of h = cc

none_some : {A : Type 0} {a : A} → ◌≡◌ {A = Option A} None (Some a) → ⊥
none_some h = cc

-- ---- texts in parts
placed_text : (kind u l c s : List ℕ) → (kind ++ (64 ∷ (u ++ (58 ∷ (l ++ (58 ∷ c)))))) ++ s ≡ kind ++ (64 ∷ (u ++ (58 ∷ (l ++ (58 ∷ (c ++ s))))))
placed_text kind u l c s =
    append_assoc kind (64 ∷ (u ++ (58 ∷ (l ++ (58 ∷ c))))) s
    ∙ ap (λ r. kind ++ (64 ∷ r)) (append_assoc u (58 ∷ (l ++ (58 ∷ c))) s ∙ ap (λ r. u ++ (58 ∷ r)) (append_assoc l (58 ∷ c) s))

-- a local's name behind its function's
told_text : (b : Bool) (place : Place) (s : List ℕ) → told_apart b place ++ s ≡ at_text (at_if b place) s
told_text true place s = ap (λ r. 64 ∷ r) (append_assoc (decimal place.line) (58 ∷ decimal place.column) s)
told_text false place s = refl

inner_text : (f n t s rest : List ℕ) → t ++ s ≡ rest → (f ++ (47 ∷ (n ++ t))) ++ s ≡ f ++ (47 ∷ (n ++ rest))
inner_text f n t s rest e = append_assoc f (47 ∷ (n ++ t)) s ∙ ap (λ r. f ++ (47 ∷ r)) (append_assoc n t s ∙ ap (λ r. n ++ r) e)

spot_right : (p : Program) (place : Place) → IsPlace p place → IsSpot (spot_of place)
spot_right p place h = let line = h.line in let column = h.column in record { line = omega arith; column = omega arith }

at_right : (p : Program) (b : Bool) (place : Place) → IsPlace p place → IsAt (at_if b place)
at_right p true place h = spot_right p place h
at_right p false place h = tt

module _ (p : Program) (h : HasNames p) where
  unit_bytes : (u : ℕ) → u < length p.names.items → IsMadeOf is_unit_byte (unit_name p.names.items u)
  unit_bytes u lt =
      let at = slice_get-get_or p.names.items u [] lt in
      h.units.bytes u (unit_name p.names.items u) (at ∙ ap Some (sym (ap (λ o. unwrap_or o []) at)))

  placed_right : (kind : List ℕ) (place : Place) → IsMadeOf is_base_byte kind → IsPlace p place → IsShape (placed p kind place)
  placed_right kind place bytes at = record { unit = tt; base = bytes; tail = (unit_bytes place.unit at.unit, spot_right p place at) }

  -- ---- entities
  abbrev object_by : ℕ → List ℕ → Content → Object
  object_by e name content = record { key = EntityKey e; name = name; content = content }

  pub external_right : (e : ℕ) (x : Entity) (content : Content) → IsEntity p e x → x.storage ≢ Declared → x.linkage ≡ External → IsObject p (object_by e x.name content)
  external_right e x content at here linkage =
      let letters = h.entities.letters e x at in
      record {
        shape = plain x.name;
        right = plain_shape x.name letters;
        text = λ s. refl;
        source = plain_source p (EntityKey e) x.name letters (inl (record { number = e; entity = x; entity_is = at; key_is = refl; here = here; linkage = linkage; shape_is = refl }));
      }

  pub internal_right : (e : ℕ) (x : Entity) (content : Content) → IsEntity p e x → x.linkage ≡ Internal → IsObject p (object_by e (unit_name p.names.items x.unit ++ (58 ∷ x.name)) content)
  internal_right e x content at linkage =
      let letters = h.entities.letters e x at in
      record {
        shape = shape_of (Some (unit_name p.names.items x.unit)) x.name Nothing;
        right = record { unit = unit_bytes x.unit (h.entities.unit e x at); base = weaker is_letter is_base_byte x.name letter_base letters; tail = tt };
        text = λ s. append_assoc (unit_name p.names.items x.unit) (58 ∷ x.name) s;
        source = record { class = 1; class_is = refl; body = record { number = e; entity = x; entity_is = at; key_is = refl; linkage = linkage; shape_is = refl } };
      }

  pub literal_right : (e : ℕ) (x : Entity) (content : Content) → IsEntity p e x → ByLiteral p e true → IsObject p (object_by e (placed_name p.names.items (codes "lit") x.place) content)
  literal_right e x content at literal = record {
    shape = placed p (codes "lit") x.place;
    right = placed_right (codes "lit") x.place refl (h.entities.place e x at);
    text = λ s. placed_text (codes "lit") (unit_name p.names.items x.place.unit) (decimal x.place.line) (decimal x.place.column) s;
    source = record { class = 4; class_is = refl; body = record { number = e; entity = x; entity_is = at; literal = literal; key_is = refl; shape_is = refl } };
  }

  -- the head of a local's name: its function's name
  unit_right : (z : Entity) (l : Linkage) → z.unit < length p.names.items → IsHead (unit_by p l z.unit)
  unit_right z External lt = tt
  unit_right z Internal lt = unit_bytes z.unit lt
  unit_right z Local lt = tt

  linked_text : (z : Entity) (l : Linkage) (t : List ℕ) → l ≢ Local → linked_in p.names.items l z.unit z.name ++ t ≡ head_text (unit_by p l z.unit) (z.name ++ t)
  linked_text z External t n = refl
  linked_text z Internal t n = append_assoc (unit_name p.names.items z.unit) (58 ∷ z.name) t
  linked_text z Local t n = absurd (n refl)

  pub local_right : (e : ℕ) (x : Entity) (content : Content) → IsLocalObject p e x → HasOwner p x → IsObject p (object_by e (local_name p.names.items p.entities.items x) content)
  local_right e x content own o =
      let z = o.entity in
      let twice = stands_twice p.entities.items x in
      let owner : owner_name p.names.items p.entities.items x.owner ≡ linked_name p.names.items z = ap (owner_name p.names.items p.entities.items) o.owner ∙ ap (function_named p.names.items) o.entity_is in
      record {
        shape = shape_of (unit_before p z) z.name (Inner x.name (at_if twice x.place));
        right = record {
          unit = unit_right z z.linkage (h.entities.unit o.function z o.entity_is);
          base = weaker is_letter is_base_byte z.name letter_base (h.entities.letters o.function z o.entity_is);
          tail = (h.entities.word e x own, at_right p twice x.place (h.entities.place e x own.entity));
        };
        text = λ s.
            inner_text (owner_name p.names.items p.entities.items x.owner) x.name (told_apart twice x.place) s (at_text (at_if twice x.place) s) (told_text twice x.place s)
            ∙ (ap (λ f. f ++ (47 ∷ (x.name ++ at_text (at_if twice x.place) s))) owner
            ∙ linked_text z z.linkage (47 ∷ (x.name ++ at_text (at_if twice x.place) s)) o.linked);
        source = record {
          class = 2;
          class_is = refl;
          body = record {
            number = e;
            entity = x;
            entity_is = own;
            key_is = refl;
            owner = o.function;
            owner_is = o.owner;
            function = z;
            function_is = o.entity_is;
            linked = o.linked;
            shape_is = refl;
          };
        };
      }

  entity_by_linkage : (e : ℕ) (x : Entity) (content : Content) (l : Linkage) → x.linkage ≡ l → IsEntity p e x → x.storage ≢ Declared → ByLiteral p e false
      → IsObject p (object_by e (declared_in p.names.items p.entities.items x l) content)
  entity_by_linkage e x content External l at here plain = external_right e x content at here l
  entity_by_linkage e x content Internal l at here plain = internal_right e x content at l
  entity_by_linkage e x content Local l at here plain =
      let own : IsLocalObject p e x = record { entity = at; plain = plain; local = l } in
      local_right e x content own (h.entities.owned e x own here)

  entity_right : (e : ℕ) (x : Entity) (content : Content) (literal : Bool) → ByLiteral p e literal → IsEntity p e x → x.storage ≢ Declared
      → IsObject p (object_by e (entity_name p.names.items p.entities.items literal x) content)
  entity_right e x content true literal at here = literal_right e x content at literal
  entity_right e x content false plain at here = entity_by_linkage e x content x.linkage refl at here plain

  -- what a token makes, with its number
  pub record IsMadeBy (m : Spot × Object) : Type 0 where
    pub object : IsObject p m.1
    pub number : m.0.3 ≡ rank p m.1.key

  unless_declared : (place : Place) (e : ℕ) (storage : Storage) (o : Object) → (storage ≢ Declared → IsObject p o) → rank p o.key ≡ e
      → Every IsMadeBy (made_at (spot_at place e) (object_unless_declared storage o))
  unless_declared place e Declared o f is = tt
  unless_declared place e Static o f is = (record { object = f (λ s. cc); number = sym is }, tt)
  unless_declared place e Automatic o f is = (record { object = f (λ s. cc); number = sym is }, tt)
  unless_declared place e FunctionBody o f is = (record { object = f (λ s. cc); number = sym is }, tt)
  unless_declared place e Parameter o f is = (record { object = f (λ s. cc); number = sym is }, tt)

  pub entity_made_by : (e : ℕ) (x : Entity) → IsEntity p e x → Every IsMadeBy (entity_made p e x)
  entity_made_by e x at =
      unless_declared x.place e x.storage (object_by e (entity_name p.names.items p.entities.items (is_literal p.nodes.items e) x) (entity_content x.storage x.ty))
      (entity_right e x (entity_content x.storage x.ty) (is_literal p.nodes.items e) refl at) refl

  -- ---- nodes
  text_right : (n : ℕ) (node : Node) (content : Content) → IsNode p n node → IsText node.kind
      → IsObject p (record { key = TextKey n; name = placed_name p.names.items (codes "str") node.place; content = content })
  text_right n node content at text = record {
    shape = placed p (codes "str") node.place;
    right = placed_right (codes "str") node.place refl (h.nodes.place n node at);
    text = λ s. placed_text (codes "str") (unit_name p.names.items node.place.unit) (decimal node.place.line) (decimal node.place.column) s;
    source = record { class = 5; class_is = refl; body = record { number = n; node = node; node_is = at; text = text; key_is = refl; shape_is = refl } };
  }

  no_literal : number_of_name (codes "lit") ≡ None
  unfolding summary_of rows
  no_literal = refl

  no_text : number_of_name (codes "str") ≡ None
  unfolding summary_of rows
  no_text = refl

  class_by : (name : List ℕ) (a b : Bool) → bytes_eq name (codes "lit") ≡ a → bytes_eq name (codes "str") ≡ b → (k : ℕ) → number_of_name name ≡ Some k → ◌≡◌ {A = ℕ} (cond a 4 (cond b 5 6)) 6
  class_by name true b ea eb k e = absurd (none_some (sym no_literal ∙ (ap number_of_name (sym ((bytes_decides name (codes "lit")).0 ea)) ∙ e)))
  class_by name false true ea eb k e = absurd (none_some (sym no_text ∙ (ap number_of_name (sym ((bytes_decides name (codes "str")).0 eb)) ∙ e)))
  class_by name false false ea eb k e = refl

  call_right : (n : ℕ) (node : Node) (name : List ℕ) (k : ℕ) (content : Content) → IsNode p n node → node.kind ≡ CallNode → IsMadeOf is_letter name → number_of_name name ≡ Some k
      → IsObject p (record { key = CallKey n; name = placed_name p.names.items name node.place; content = content })
  call_right n node name k content at call letters library = record {
    shape = placed p name node.place;
    right = placed_right name node.place (weaker is_letter is_base_byte name letter_base letters) (h.nodes.place n node at);
    text = λ s. placed_text name (unit_name p.names.items node.place.unit) (decimal node.place.line) (decimal node.place.column) s;
    source = record {
      class = 6;
      class_is = class_by name (bytes_eq name (codes "lit")) (bytes_eq name (codes "str")) refl refl k library;
      body = record {
        number = n;
        node = node;
        node_is = at;
        call = call;
        key_is = refl;
        name = name;
        shape_is = refl;
      };
    };
  }

  module _ (n : ℕ) (node : Node) (at : IsNode p n node) (spot : Spot) (number : spot.3 ≡ length p.entities.items + n) where
    allocated_by : (x : Entity) (k : ℕ) (b : Bool) (content : Content) → node.kind ≡ CallNode → IsMadeOf is_letter x.name → number_of_name x.name ≡ Some k
        → Every IsMadeBy (made_at spot (if b then Some (record { key = CallKey n; name = placed_name p.names.items x.name node.place; content = content }) else None))
    allocated_by x k true content call letters library = (record { object = call_right n node x.name k content at call letters library; number = number }, tt)
    allocated_by x k false content call letters library = tt

    called_by : (x : Entity) (o : Option ℕ) → entity_number x ≡ o → node.kind ≡ CallNode → IsMadeOf is_letter x.name → Every IsMadeBy (made_at spot (called_object p n node x o))
    called_by x None e call letters = tt
    called_by x (Some k) e call letters =
        allocated_by x k (is_allocator k) (allocated_content k (typed_by p.types (conversion_above p.nodes.items n))) call letters (declared x k e).library

    called_letters : (x : Entity) → called_entity p.nodes.items p.entities.items node ≡ Some x → IsMadeOf is_letter x.name
    called_letters x e =
        let (f, there, by) = and_then (entity_by p.nodes.items p.entities.items) (direct_callee p.nodes.items node) x e in
        let (callee, its, names) = and_then (λ (c : Node). option_and_then (slice_get p.entities.items) (function_entity c.kind)) (slice_get p.nodes.items f) x by in
        let (i, function, x_is) = and_then (slice_get p.entities.items) (function_entity callee.kind) x names in
        h.entities.letters i x x_is

    call_by : (o : Option Entity) → called_entity p.nodes.items p.entities.items node ≡ o → node.kind ≡ CallNode → Every IsMadeBy (made_at spot (object_of_call p n node o))
    call_by None e call = tt
    call_by (Some x) e call = called_by x (entity_number x) refl call (called_letters x e)

    kind_by : (kind : NodeKind) → node.kind ≡ kind → Every IsMadeBy (made_at spot (object_of_kind p n node kind))
    kind_by (Text bytes) e = (record { object = text_right n node (Content.Typed node.ty) at (subst IsText (sym e) tt); number = number }, tt)
    kind_by CallNode e = call_by (called_entity p.nodes.items p.entities.items node) refl e
    kind_by kind e = tt

  pub node_made_by : (n : ℕ) (node : Node) → IsNode p n node → Every IsMadeBy (node_made p n node)
  node_made_by n node at = kind_by n node at (spot_at node.place (length p.entities.items + n)) refl node.kind refl

  -- ---- what functions are passed past their parameters
  further_right : (e : ℕ) (x : Entity) (content : Content) → IsEntity p e x → x.linkage ≢ Local → IsObject p (record { key = VarargsKey e; name = varargs_name p.names.items x; content = content })
  further_right e x content at linked = record {
    shape = shape_of (unit_before p x) x.name Further;
    right = record { unit = unit_right x x.linkage (h.entities.unit e x at); base = weaker is_letter is_base_byte x.name letter_base (h.entities.letters e x at); tail = tt };
    text = λ s. append_assoc (linked_name p.names.items x) (codes "/...") s ∙ linked_text x x.linkage (codes "/..." ++ s) linked;
    source = record { class = 8; class_is = refl; body = record { number = e; entity = x; entity_is = at; key_is = refl; linked = linked; shape_is = refl } };
  }

  body_is : (storage : Storage) → has_body storage ≡ true → storage ≡ FunctionBody
  body_is FunctionBody e = refl
  body_is Static e = cc
  body_is Automatic e = cc
  body_is Parameter e = cc
  body_is Declared e = cc

  further_by : (e : ℕ) (x : Entity) (b : Bool) (content : Content) → IsEntity p e x → (b ≡ true → x.storage ≡ FunctionBody)
      → Every IsMadeBy (made_at (varargs_spot p e x) (if b then Some (record { key = VarargsKey e; name = varargs_name p.names.items x; content = content }) else None))
  further_by e x true content at f = (record { object = further_right e x content at (h.entities.linked e x at (f refl)); number = refl }, tt)
  further_by e x false content at f = tt

  pub varargs_made_by : (e : ℕ) (x : Entity) → IsEntity p e x → Every IsMadeBy (made_at (varargs_spot p e x) (varargs_object p e x))
  varargs_made_by e x at =
      further_by e x (has_varargs p.types x) Content.Blob at (λ its. body_is x.storage (both (has_body x.storage) (is_variadic (type_of p.types x.ty.0)) its).0)
