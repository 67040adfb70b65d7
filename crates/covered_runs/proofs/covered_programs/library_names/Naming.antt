-- What declarations of the library's names are in a linked program, and that functions that are named are defined.
use Rattle.std.proofs.Common.{◌≡◌, ◌∙◌, ℕ, ◌||◌, ◌&&◌, not, Bool, true, false, cond, List, [], ◌∷◌, map, Option, Some, None, is_some, refl, sym, ap, subst, inl, inr}
use Rattle.std.specs.List.{slice_get, find, list_any}
use Rattle.std.specs.Option.{option_map, option_map_or, option_or}
use Rattle.std.specs.Str.{bytes_eq}
use Rattle.std.specs.Cmp.Lexicographic.{bytes_decides}
use Rattle.std.proofs.lemmas.Bool.{cases_Bool, false≢true}
use Rattle.std.proofs.lemmas.Option.{slice_get_within}
use Rattle.pta_base.specs.declared.place.Place.{Place}
use Rattle.c_types.specs.declared.term.Form.TheVariants.{Fixed, Variadic, Unspecified}
use Rattle.c_types.specs.Trees.{Ctype, NoTypes, MoreTypes, FunctionFrom}
use Rattle.c_types.specs.Table.{type_of}
use Rattle.type_rules.specs.Kinds.{IsFunction}
use Rattle.type_rules.specs.Conversions.{Agree}
use Rattle.core_tree.specs.declared.node.Unit.{Unit}
use Rattle.core_tree.specs.declared.node.Program.{Program}
use Rattle.core_tree.specs.declared.node.Node.{Node}
use Rattle.core_tree.specs.declared.node.NodeKind.{NodeKind}
use Rattle.core_tree.specs.declared.node.NodeKind.TheVariants.{FunctionName}
use Rattle.core_tree.specs.declared.node.Entity.{Entity}
use Rattle.core_tree.specs.declared.node.Linkage.{Linkage}
use Rattle.core_tree.specs.declared.node.Linkage.TheVariants.{External}
use Rattle.core_tree.specs.declared.node.Storage.{Storage}
use Rattle.core_tree.specs.declared.node.Storage.TheVariants.{FunctionBody, Declared as DeclaredStorage}
use Rattle.core_tree.specs.Typed.{trees_of, trees_in}
use Rattle.core_tree.specs.Rows.{RowOf, IsEntityIn}
use Rattle.core_tree.specs.Valid.{HasBody, IsLocal, IsUsed, IsUseOf, ValidProgram}
use Rattle.lib_summaries.specs.Table.{Numbered, summary_of}
use Rattle.link_model.specs.declared.item.Item.{Item}
use Rattle.link_model.specs.Renamed.{renamed}
use Rattle.link_model.specs.filled_units.Filled.{AreFilled}
use Rattle.link_names.specs.declared.declared.Declared.{Declared}
use Rattle.link_names.specs.Externals.{Joined, IsExternal, entities_if, entity_at, item_of, is_named, is_external, is_function_type, is_declared_only, is_placed, is_defined, has_body, name_at, declared_type, type_in}
use Rattle.link_names.specs.Together.{of_name, first_body, first_defined, is_own, is_listed, has_list, linked_type, type_together, together}
use Rattle.link_names.specs.Shape.{HasShape, is_function_shape}
use Rattle.link_names.proofs.Ordering.{external_is, is_external_of}
use Rattle.unit_link.specs.Linked.{Entities, entity_of, IsMovedEntity, NameUsed, UsesName, IsLinkedName, IsLinkedOther, LinkedAt, joined}
use Rattle.unit_link.specs.Needs.{AreLinkable}
use Rattle.row_numbers.specs.Objects.{is_open, library_number}
use Rattle.linked_laws.proofs.link_laws.Wholeness.{maker_found, named_so, comes_from}
use Rattle.linked_laws.proofs.alike_laws.Entities.{external_keeps}
use Rattle.linked_laws.proofs.alike_laws.Origins.{own_type}
use Rattle.covered_runs.specs.covered_programs.library_names.Names.{IsShaped, AreDeclaredOnly, IsDefined}
use Rattle.covered_runs.proofs.covered_programs.library_names.Deciding.{shape_stable}
use Rattle.covered_runs.proofs.covered_programs.library_names.Gathered.{EachOf, filter_each, none_any, found_passes, Chosen, by_first, by_second, by_third, chosen, together_each, together_listed, function_shaped}
use Rattle.covered_runs.proofs.covered_programs.library_names.Numbers.{numbers_known}

some_one : {X : Type 0} → {x y : X} → ◌≡◌ {A = Option X} (Some x) (Some y) → x ≡ y
some_one h = cc

none_some : {X : Type 0} → {x : X} → ◌≡◌ {A = Option X} None (Some x) → ⊥
none_some h = cc

function_true : (t : Ctype) → IsFunction t → is_function_type t ≡ true
function_true (FunctionFrom r ps f) h = refl
function_true t h = absurd h

true_function : (t : Ctype) → is_function_type t ≡ true → IsFunction t
true_function (FunctionFrom r ps f) h = tt
true_function t h = absurd (false≢true h)

renamed_function : (f : ℕ → ℕ) (t : Ctype) → is_function_type (renamed f t) ≡ is_function_type t
renamed_function f (FunctionFrom r ps form) = refl
renamed_function f t = refl

-- what agrees with a function is one
agrees_function : (s t : Ctype) → Agree s t → IsFunction s → IsFunction t
agrees_function (FunctionFrom r ps Unspecified) (FunctionFrom q qs f) h s = tt
agrees_function (FunctionFrom r ps Unspecified) t h s = absurd (let no : ⊥ = cc in no)
agrees_function (FunctionFrom r ps Fixed) (FunctionFrom q qs f) h s = tt
agrees_function (FunctionFrom r ps Fixed) t h s = absurd (let no : ⊥ = cc in no)
agrees_function (FunctionFrom r ps Variadic) (FunctionFrom q qs f) h s = tt
agrees_function (FunctionFrom r ps Variadic) t h s = absurd (let no : ⊥ = cc in no)
agrees_function s t h own = absurd own

-- what has no body, is a function or is only declared, isn't defined
no_body : (o : Option ℕ) → (b : Bool) → (is_some o || (b && false)) ≡ true → is_some o ≡ true
no_body (Some n) b e = refl
no_body None true e = e
no_body None false e = e

body_function : (o : Option ℕ) (b : Bool) → (is_some o || (false && b)) ≡ true → is_some o ≡ true
body_function (Some n) b e = refl
body_function None b e = e

body_some : (o : Option ℕ) → is_some o ≡ true → (b : ℕ) × (o ≡ Some b)
body_some None h = absurd (false≢true h)
body_some (Some b) h = (b, refl)

body_none : (o : Option ℕ) → is_some o ≡ false → o ≡ None
body_none None h = refl
body_none (Some b) h = absurd (false≢true (sym h))

named_by_true : (o : Option (List ℕ)) (name : List ℕ) → option_map_or (λ other. bytes_eq other name) o false ≡ true → o ≡ Some name
named_by_true None name e = absurd (false≢true e)
named_by_true (Some other) name e = ap (λ (n : List ℕ). Some n) ((bytes_decides other name).0 e)

opened : (linkage : Linkage) (storage : Storage) → linkage ≡ External → storage ≡ DeclaredStorage → is_open linkage storage ≡ true
opened linkage storage l s = ap (λ (x : Linkage). is_open x storage) l ∙ ap (λ (x : Storage). is_open External x) s

numbered : (x : Entity) (found : Numbered) → x.linkage ≡ External → x.storage ≡ DeclaredStorage → summary_of x.name ≡ Some found → library_number x ≡ Some found.number
numbered x found l s is =
    ap (λ (b : Bool). cond b (option_map (λ (y : Numbered). y.number) (summary_of x.name)) None) (opened x.linkage x.storage l s) ∙ ap (option_map (λ (y : Numbered). y.number)) is

moved_external : (units : List Unit) (entities : Entities) (u : ℕ) (x e : Entity) → IsMovedEntity units entities u x e → IsExternal x → IsExternal e
moved_external units entities u x e m h = record { linkage = m.linkage ∙ h.linkage; lasting = λ local. h.lasting (subst IsLocal m.storage local) }

-- a function's shape has more than one letter
pub function_long : (t : Ctype) → IsFunction t → (shape : List ℕ) → HasShape t shape → is_function_shape shape ≡ true
function_long (FunctionFrom r ps Unspecified) f (c ∷ d ∷ rest) has = refl
function_long (FunctionFrom r ps Unspecified) f (c ∷ []) has = absurd has
function_long (FunctionFrom r ps Unspecified) f [] has = absurd has
function_long (FunctionFrom r ps Fixed) f (c ∷ d ∷ rest) has = refl
function_long (FunctionFrom r NoTypes Fixed) f (c ∷ []) has = absurd has
function_long (FunctionFrom r (MoreTypes t NoTypes) Fixed) f (c ∷ []) has = absurd has.1
function_long (FunctionFrom r (MoreTypes t (MoreTypes s ts)) Fixed) f (c ∷ []) has = absurd has.1
function_long (FunctionFrom r NoTypes Fixed) f [] has = absurd has
function_long (FunctionFrom r (MoreTypes t ts) Fixed) f [] has = absurd has
function_long (FunctionFrom r ps Variadic) f (c ∷ d ∷ rest) has = refl
function_long (FunctionFrom r NoTypes Variadic) f (c ∷ []) has = absurd has
function_long (FunctionFrom r (MoreTypes t NoTypes) Variadic) f (c ∷ []) has = absurd has.1
function_long (FunctionFrom r (MoreTypes t (MoreTypes s ts)) Variadic) f (c ∷ []) has = absurd has.1
function_long (FunctionFrom r NoTypes Variadic) f [] has = absurd has
function_long (FunctionFrom r (MoreTypes t ts) Variadic) f [] has = absurd has
function_long t f shape has = absurd f

module _ {entered : List (List ℕ)} (units : List Unit) (p : Program) (linkable : AreLinkable units) (filled : AreFilled units) (h : LinkedAt entered units p) where
  abbrev j : Joined
  j = joined units h.numbers p.types

  abbrev ds : List Declared
  ds = h.declarations

  unit_of : (a : Item) (x : Entity) → entity_at units a ≡ Some x → (of : Unit) × (slice_get units a.unit ≡ Some of) × (slice_get of.entities.items a.number ≡ Some x)
  unit_of a x at = by (slice_get units a.unit) refl at
    where
      by : (o : Option Unit) → slice_get units a.unit ≡ o → slice_get (entities_if o) a.number ≡ Some x → (of : Unit) × (slice_get units a.unit ≡ Some of) × (slice_get of.entities.items a.number ≡ Some x)
      by (Some of) is e = (of, is, e)
      by None is e = absurd (none_some e)

  -- whether an entity is defined
  defined_is : (a : Item) (x : Entity) → entity_at units a ≡ Some x → is_defined j a ≡ is_placed (type_in j a) x
  defined_is a x at = ap (λ (o : Option Entity). option_map_or (λ (y : Entity). is_placed (type_in j a) y) o false) at

  -- what is only declared has no body
  declared_bare : (a : Item) (x : Entity) → entity_at units a ≡ Some x → x.storage ≡ DeclaredStorage → is_some x.body ≡ false
  declared_bare a x at storage = elim (cases_Bool (is_some x.body)) [
    | inr lacks ↦ lacks
    | inl its ↦
        let (of, of_is, own_is) = unit_of a x at in
        let (b, body) = body_some x.body its in
        let bodied = subst (λ (o : Option ℕ). HasBody (trees_of of) a.number x o) body ((linkable.valid a.unit of of_is).trees.bodied a.number x own_is) in
        elim bodied.0 [
          | inl f ↦ absurd (let same : DeclaredStorage ≡ FunctionBody = sym storage ∙ f.storage in let no : ⊥ = cc in no)
          | inr o ↦
              let (z, z_at, z_body, no_function, no_declaration) = (filled.each a.unit of of_is).each b a.number o.initialises in
              absurd (no_declaration (ap (λ (y : Entity). y.storage) (some_one (sym z_at ∙ own_is)) ∙ storage))
        ]
  ]

  declared_undefined : (a : Item) (x : Entity) → entity_at units a ≡ Some x → x.storage ≡ DeclaredStorage → is_defined j a ≡ false
  declared_undefined a x at storage = elim (cases_Bool (is_defined j a)) [
    | inr lacks ↦ lacks
    | inl its ↦
        let placed : is_placed (type_in j a) x ≡ true = sym (defined_is a x at) ∙ its in
        let some = no_body x.body (not (is_function_type (type_in j a))) (subst (λ (s : Storage). (is_some x.body || (not (is_function_type (type_in j a)) && not (is_declared_only s))) ≡ true) storage placed) in
        absurd (false≢true (sym (declared_bare a x at storage) ∙ some))
  ]

  -- a function that is defined has its body
  function_bodied : (a : Item) (x : Entity) → entity_at units a ≡ Some x → is_function_type (type_in j a) ≡ true → is_defined j a ≡ true → x.storage ≡ FunctionBody
  function_bodied a x at function defined =
      let placed : is_placed (type_in j a) x ≡ true = sym (defined_is a x at) ∙ defined in
      let some = body_function x.body (not (is_declared_only x.storage)) (subst (λ (b : Bool). (is_some x.body || (not b && not (is_declared_only x.storage))) ≡ true) function placed) in
      let (of, of_is, own_is) = unit_of a x at in
      let (b, body) = body_some x.body some in
      let bodied = subst (λ (o : Option ℕ). HasBody (trees_of of) a.number x o) body ((linkable.valid a.unit of of_is).trees.bodied a.number x own_is) in
      elim bodied.0 [
        | inl f ↦ f.storage
        | inr o ↦ absurd (o.object (own_function a of x of_is own_is function))
      ]
    where
      own_function : (a : Item) (of : Unit) (x : Entity) → slice_get units a.unit ≡ Some of → slice_get of.entities.items a.number ≡ Some x → is_function_type (type_in j a) ≡ true → IsFunction (type_of of.types x.ty.0)
      own_function a of x of_is own_is function =
          true_function (type_of of.types x.ty.0)
          (sym (renamed_function (h.numbers.tag a.unit) (type_of of.types x.ty.0)) ∙ (sym (ap is_function_type (own_type units p linkable h a.unit of a.number x of_is own_is)) ∙ function))

  -- a name and what makes it
  module _ (name : List ℕ) (x : Entity) (linked : IsLinkedName j ds h.entity_numbers name x) where
    abbrev maker : Item
    maker = item_of linked.declared

    which : Chosen (first_body units (of_name units name ds)) (first_defined j (of_name units name ds)) (find (λ (d : Declared). true) (of_name units name ds)) linked.declared
    which =
        chosen (first_body units (of_name units name ds)) (first_defined j (of_name units name ds)) (find (λ (d : Declared). true) (of_name units name ds)) linked.declared linked.maker

    storage_is : linked.entity.storage ≡ x.storage
    storage_is = sym linked.moved.storage

    -- where some declaration defines the name, so does that one
    own_made : is_own j ds name ≡ true → is_defined j maker ≡ true
    own_made own = by which
      where
        bodied : has_body units maker ≡ true → is_defined j maker ≡ true
        bodied b =
            let some : is_some linked.entity.body ≡ true = sym (ap (λ (o : Option Entity). option_map_or (λ (y : Entity). is_some y.body) o false) linked.entity_is) ∙ b in
            defined_is maker linked.entity linked.entity_is ∙ ap (λ (c : Bool). c || (not (is_function_type (type_in j maker)) && not (is_declared_only linked.entity.storage))) some

        by : Chosen (first_body units (of_name units name ds)) (first_defined j (of_name units name ds)) (find (λ (d : Declared). true) (of_name units name ds)) linked.declared → is_defined j maker ≡ true
        by (by_first e) = bodied (found_passes (λ (d : Declared). has_body units (item_of d)) (of_name units name ds) linked.declared e)
        by (by_second n e) = found_passes (λ (d : Declared). is_defined j (item_of d)) (of_name units name ds) linked.declared e
        by (by_third n m e) = absurd (false≢true (sym (none_any (λ (d : Declared). is_defined j (item_of d)) (of_name units name ds) m) ∙ own))

    -- where that one doesn't, none does
    not_own : is_defined j maker ≡ false → is_own j ds name ≡ false
    not_own lacks = elim (cases_Bool (is_own j ds name)) [
      | inr none ↦ none
      | inl own ↦ absurd (false≢true (sym lacks ∙ own_made own))
    ]

    -- a name of the library that no unit defines
    module _ (storage : x.storage ≡ DeclaredStorage) (found : Numbered) (is : summary_of name ≡ Some found) where
      undefined : is_defined j maker ≡ false
      undefined = declared_undefined maker linked.entity linked.entity_is (storage_is ∙ storage)

      unbodied : has_body units maker ≡ false
      unbodied =
          ap (λ (o : Option Entity). option_map_or (λ (y : Entity). is_some y.body) o false) linked.entity_is ∙ declared_bare maker linked.entity linked.entity_is (storage_is ∙ storage)

      -- each declaration of the name has the shape
      each_shaped : EachOf (λ (d : Declared). HasShape (declared_type j d) found.row.shape) (of_name units name ds)
      each_shaped =
          filter_each (is_named units name) (λ (d : Declared). HasShape (declared_type j d) found.row.shape) ds
          (λ k d at named.
          shape_stable (declared_type j d) found.row.shape
          (λ lacks.
          (h.faultless.clean.each k d (slice_get_within ds k d at) at).agrees name (named_by_true (name_at units (item_of d)) name named)
          (inl (record { row = found; in_library = is; not_own = not_own undefined; shape = lacks }))))

      type_is : type_of p.types x.ty.0 ≡ type_together j name ds
      type_is =
          linked.type
          ∙ (ap (λ (b : Bool). linked_type b (is_defined j maker) (declared_type j linked.declared) (type_together j name ds)) unbodied
          ∙ ap (λ (b : Bool). linked_type false b (declared_type j linked.declared) (type_together j name ds)) undefined)

      pub shaped_so : HasShape (type_of p.types x.ty.0) found.row.shape
      shaped_so = subst (λ (t : Ctype). HasShape t found.row.shape) (sym type_is) (by (of_name units name ds) refl each_shaped)
        where
          by : (list : List Declared) → of_name units name ds ≡ list → EachOf (λ (d : Declared). HasShape (declared_type j d) found.row.shape) list → HasShape (together (map (declared_type j) list)) found.row.shape
          by [] empty r =
              absurd
              (none_some
              (sym (ap (λ (l : List Declared). option_or (first_body units l) (option_or (first_defined j l) (find (λ (d : Declared). true) l))) empty) ∙ linked.maker))
          by (d ∷ rest) list r = together_each (declared_type j) (λ (t : Ctype). HasShape t found.row.shape) d rest r

      -- a function that is used has a list
      module _ (function : is_function_shape found.row.shape ≡ true) (place : Place) (used : x.used ≡ Some place) where
        listed : has_list j ds name ≡ true
        listed = elim (cases_Bool (has_list j ds name)) [
          | inl its ↦ its
          | inr none ↦
              let u : UsesName units name place = (subst (NameUsed units name) used linked.used).used in
              absurd
              (h.faultless.defined.each u.item u.entity place
              (record {
                entity_is = u.entity_is;
                used = u.used;
                external = λ ex. record {
                  not_own = ap (is_own j ds) u.named ∙ not_own undefined;
                  not_given = λ g.
                      false≢true
                      (sym none
                      ∙ (sym (ap (has_list j ds) u.named)
                      ∙ g.listed (ap (λ (r : Numbered). is_function_shape r.row.shape) (some_one (sym g.in_library ∙ (ap summary_of u.named ∙ is))) ∙ function)));
                };
                internal = λ no. absurd (no u.external);
              }))
        ]

        pub listed_so : is_listed (type_of p.types x.ty.0) ≡ true
        listed_so = ap is_listed type_is ∙ by (of_name units name ds) each_function listed
          where
            each_function : EachOf (λ (d : Declared). IsFunction (declared_type j d)) (of_name units name ds)
            each_function = functions (of_name units name ds) each_shaped
              where
                functions : (list : List Declared) → EachOf (λ (d : Declared). HasShape (declared_type j d) found.row.shape) list → EachOf (λ (d : Declared). IsFunction (declared_type j d)) list
                functions [] r = tt
                functions (d ∷ rest) r = (function_shaped (declared_type j d) found.row.shape function r.0, functions rest r.1)

            by : (list : List Declared) → EachOf (λ (d : Declared). IsFunction (declared_type j d)) list → list_any (λ (d : Declared). is_listed (declared_type j d)) list ≡ true → is_listed (together (map (declared_type j) list)) ≡ true
            by [] r e = absurd (false≢true e)
            by (d ∷ rest) r e = together_listed (declared_type j) d rest r e

  -- an external entity of the program is what its name's declarations make
  linked_so : (e : ℕ) (x : Entity) → slice_get p.entities.items e ≡ Some x → IsExternal x → IsLinkedName j ds h.entity_numbers x.name x
  linked_so e x at external =
      let from = comes_from j ds h.entity_numbers p h.entities e x at external in
      let (z, z_is, linked) = h.entities.names from.item from.entity from.entity_is from.external in
      let same : z ≡ x = some_one (sym z_is ∙ (ap (slice_get p.entities.items) from.number ∙ at)) in
      subst (λ (n : List ℕ). IsLinkedName j ds h.entity_numbers n x) (sym from.named) (subst (IsLinkedName j ds h.entity_numbers from.entity.name) same linked)

  declared_external : (x : Entity) → x.linkage ≡ External → x.storage ≡ DeclaredStorage → IsExternal x
  declared_external x linkage storage = record { linkage = linkage; lasting = λ local. subst IsLocal storage local }

  pub shaped : (e : ℕ) (x : Entity) (found : Numbered) → slice_get p.entities.items e ≡ Some x → x.linkage ≡ External → x.storage ≡ DeclaredStorage → summary_of x.name ≡ Some found → IsShaped p x found
  shaped e x found at linkage storage is =
      let linked = linked_so e x at (declared_external x linkage storage) in
      record { shape = shaped_so x.name x linked storage found is; listed = λ function place used. listed_so x.name x linked storage found is function place used }

  -- functions that are named
  module _ (only : AreDeclaredOnly units) (valid : ValidProgram p) where
    module _ (e : ℕ) (x : Entity) (at : slice_get p.entities.items e ≡ Some x) (function : IsFunction (type_of p.types x.ty.0)) (place : Place) (used : x.used ≡ Some place) where
      -- what has internal or no linkage
      internal_defined : (IsExternal x → ⊥) → IsDefined x
      internal_defined inside = by (h.entities.only e (slice_get_within p.entities.items e x at))
        where
          by : (a : Item) × (y : Entity) × (entity_at units a ≡ Some y) × (entity_of h.entity_numbers a ≡ e) → IsDefined x
          by (a, y, there, number) = elim (cases_Bool (is_external y)) [
            | inl its ↦
                let (z, z_is, linked) = h.entities.names a y there (external_is y its) in
                let same : z ≡ x = some_one (sym z_is ∙ (ap (slice_get p.entities.items) number ∙ at)) in
                let made = maker_found j ds y.name linked.declared linked.maker in
                let declaration = (h.declared.each linked.declared).0 made.contained in
                let one : declaration.entity ≡ linked.entity = some_one (sym declaration.entity_is ∙ linked.entity_is) in
                absurd
                (inside
                (subst IsExternal same (moved_external units h.entity_numbers linked.declared.unit linked.entity z linked.moved (subst IsExternal one declaration.external))))
            | inr not_its ↦
                let outside : IsExternal y → ⊥ = λ ex. false≢true (sym not_its ∙ is_external_of y ex) in
                let (z, z_is, linked) = h.entities.others a y there outside in
                let same : z ≡ x = some_one (sym z_is ∙ (ap (slice_get p.entities.items) number ∙ at)) in
                let own : IsLinkedOther j h.entity_numbers a y x = subst (IsLinkedOther j h.entity_numbers a y) same linked in
                let is : is_function_type (type_in j a) ≡ true = sym (ap is_function_type own.type) ∙ function_true (type_of p.types x.ty.0) function in
                inl
                (own.moved.storage
                ∙ function_bodied a y there is
                (elim (cases_Bool (is_defined j a)) [
                  | inl defined ↦ defined
                  | inr none ↦ absurd (h.faultless.defined.each a y place (record {
                    entity_is = there;
                    used = sym own.used ∙ used;
                    external = λ ex. absurd (outside ex);
                    internal = λ no. none;
                  }))
                ]))
          ]

      -- an external name
      module _ (external : IsExternal x) where
        linked : IsLinkedName j ds h.entity_numbers x.name x
        linked = linked_so e x at external

        made_in : (of : Unit) × (slice_get units (maker x.name x linked).unit ≡ Some of) × (slice_get of.entities.items (maker x.name x linked).number ≡ Some linked.entity)
        made_in = unit_of (maker x.name x linked) linked.entity linked.entity_is

        maker_external : is_external linked.entity ≡ true
        maker_external =
            let made = maker_found j ds x.name linked.declared linked.maker in
            let declaration = (h.declared.each linked.declared).0 made.contained in
            ap is_external (some_one (sym linked.entity_is ∙ declaration.entity_is)) ∙ is_external_of declaration.entity declaration.external

        maker_named : linked.entity.name ≡ x.name
        maker_named = named_so units x.name linked.declared linked.entity (maker_found j ds x.name linked.declared linked.maker).passes linked.entity_is

        maker_function : is_function_type (type_in j (maker x.name x linked)) ≡ true
        maker_function =
            (external_keeps units p h (maker x.name x linked) linked.entity x linked.entity_is maker_external (subst (λ (n : List ℕ). IsLinkedName j ds h.entity_numbers n x) (sym maker_named) linked)).function
            ∙ function_true (type_of p.types x.ty.0) function

        -- a function of the library that is only declared
        given_so : (found : Numbered) → summary_of x.name ≡ Some found → is_defined j (maker x.name x linked) ≡ false → IsDefined x
        given_so found is lacks =
            let own_function : IsFunction (type_of made_in.0.types linked.entity.ty.0) =
            true_function (type_of made_in.0.types linked.entity.ty.0)
            (sym (renamed_function (h.numbers.tag linked.declared.unit) (type_of made_in.0.types linked.entity.ty.0))
            ∙ (sym (ap is_function_type (own_type units p linkable h linked.declared.unit made_in.0 linked.declared.number linked.entity made_in.1 made_in.2)) ∙ maker_function)) in
            let storage : x.storage ≡ DeclaredStorage = linked.moved.storage ∙ (only.each linked.declared.unit made_in.0 made_in.1) linked.declared.number linked.entity made_in.2 own_function (bare lacks) in
            let shape = (shaped e x found at external.linkage storage is).shape in
            inr (found.number, numbered x found external.linkage storage is, (numbers_known x.name found is).below (function_long (type_of p.types x.ty.0) function found.row.shape shape))
          where
            bare : is_defined j (maker x.name x linked) ≡ false → linked.entity.body ≡ None
            bare lacks = by (linked.entity.body) (sym (defined_is (maker x.name x linked) linked.entity linked.entity_is) ∙ lacks)
              where
                by : (o : Option ℕ) → (is_some o || (not (is_function_type (type_in j (maker x.name x linked))) && not (is_declared_only linked.entity.storage))) ≡ false → o ≡ None
                by None e = refl
                by (Some b) e = absurd (false≢true (sym e))

        external_defined : IsDefined x
        external_defined = elim (cases_Bool (is_defined j (maker x.name x linked))) [
          | inl its ↦ inl (linked.moved.storage ∙ function_bodied (maker x.name x linked) linked.entity linked.entity_is maker_function its)
          | inr none ↦ by none (summary_of x.name) refl
        ]
          where
            by : is_defined j (maker x.name x linked) ≡ false → (o : Option Numbered) → summary_of x.name ≡ o → IsDefined x
            by none (Some found) is = given_so found is none
            by none None is =
                let u : UsesName units x.name place = (subst (NameUsed units x.name) used linked.used).used in
                absurd
                (h.faultless.defined.each u.item u.entity place
                (record {
                  entity_is = u.entity_is;
                  used = u.used;
                  external = λ ex. record {
                    not_own = ap (is_own j ds) u.named ∙ not_own x.name x linked none;
                    not_given = λ g. none_some (sym is ∙ (sym (ap summary_of u.named) ∙ g.in_library));
                  };
                  internal = λ no. absurd (no u.external);
                }))

      entity_defined : IsDefined x
      entity_defined = elim (cases_Bool (is_external x)) [
        | inl its ↦ external_defined (external_is x its)
        | inr not_its ↦ internal_defined (λ ex. false≢true (sym not_its ∙ is_external_of x ex))
      ]

    -- a node that names a function
    named_function : (children : List ℕ) (e : ℕ) (t : Ctype) → RowOf (trees_in p) (FunctionName e) t children → (x : Entity) × (slice_get p.entities.items e ≡ Some x) × IsFunction (type_of p.types x.ty.0)
    named_function [] e t row = by (slice_get p.entities.items e) refl row.0
      where
        by : (o : Option Entity) → slice_get p.entities.items e ≡ o → IsEntityIn (trees_in p) o t → (x : Entity) × (slice_get p.entities.items e ≡ Some x) × IsFunction (type_of p.types x.ty.0)
        by None is r = absurd r
        by (Some x) is r = (x, is, agrees_function t (type_of p.types x.ty.0) r row.1)
    named_function (c ∷ rest) e t row = absurd row

    pub named_defined : (n : ℕ) (node : Node) (e : ℕ) → slice_get p.nodes.items n ≡ Some node → node.kind ≡ FunctionName e → (x : Entity) × (slice_get p.entities.items e ≡ Some x) × IsDefined x
    named_defined n node e there kind =
        let (x, at, function) = named_function node.children e (type_of p.types node.ty.0) (subst (λ (k : NodeKind). RowOf (trees_in p) k (type_of p.types node.ty.0) node.children) kind (valid.trees.rows n node there)) in
        (x, at, by x at function x.used refl (valid.trees.uses e x at))
      where
        by : (x : Entity) → slice_get p.entities.items e ≡ Some x → IsFunction (type_of p.types x.ty.0) → (o : Option Place) → x.used ≡ o → IsUsed (trees_in p) e o → IsDefined x
        by x at function (Some place) used is = entity_defined e x at function place used
        by x at function None used is = absurd (is n node there (subst (λ (k : NodeKind). IsUseOf k e) (sym kind) refl))

pub names_shaped : {entered : List (List ℕ)} (units : List Unit) (p : Program) → AreLinkable units → AreFilled units → LinkedAt entered units p
    → (e : ℕ) (x : Entity) (found : Numbered) → slice_get p.entities.items e ≡ Some x → x.linkage ≡ External → x.storage ≡ DeclaredStorage → summary_of x.name ≡ Some found → IsShaped p x found
names_shaped units p linkable filled h e x found at linkage storage is = shaped units p linkable filled h e x found at linkage storage is

pub functions_defined : {entered : List (List ℕ)} (units : List Unit) (p : Program) → AreLinkable units → AreFilled units → AreDeclaredOnly units → LinkedAt entered units p → ValidProgram p
    → (n : ℕ) (node : Node) (e : ℕ) → slice_get p.nodes.items n ≡ Some node → node.kind ≡ FunctionName e → (x : Entity) × (slice_get p.entities.items e ≡ Some x) × IsDefined x
functions_defined units p linkable filled only h valid n node e there kind = named_defined units p linkable filled h only valid n node e there kind
