-- External declarations of a right unit stand at the leaves of their names.
use Rattle.std.proofs.Common.{◌≡◌, ◌∙◌, ◌&&◌, ℕ, Bool, true, false, List, Option, Some, None, slice_get, refl, sym, ap, inl, inr}
use Rattle.std.specs.Prelude.{is_some, option_map, if◌then◌else◌}
use Rattle.std.proofs.lemmas.Bool.{cases_Bool}
use Rattle.std.proofs.lemmas.Option.{slice_get_within}
use Rattle.pta_base.specs.declared.place.Place.{Place}
use Rattle.c_types.specs.Trees.{Ctype}
use Rattle.c_lexer.specs.declared.Token.{Token}
use Rattle.core_tree.specs.declared.node.Entity.{Entity}
use Rattle.core_tree.specs.declared.node.Linkage.{Linkage}
use Rattle.core_tree.specs.declared.node.Linkage.TheVariants.{External, Internal, Local}
use Rattle.core_tree.specs.declared.node.Unit.{Unit}
use Rattle.core_tree.specs.Typed.{trees_of}
use Rattle.core_tree.specs.Valid.{entity_at}
use Rattle.c_senses.specs.Tree.{Source, is_leaf, is_name, is_identifier, kind_of_token, token_at, place_at}
use Rattle.c_senses.specs.Entities.{linkage_of, first_of, keep}
use Rattle.c_senses.specs.Sense.{Sense, sense_in}
use Rattle.c_senses.specs.Right.{Declared, sense_of, declares_entity, is_declaring, is_tentative, is_definition_at, of_internal, representative, entity_type, declared_as, declared_name, IsDeclaredAt, Right}
use Rattle.link_names.specs.Externals.{IsExternal}
use Rattle.core_node_laws.proofs.count_laws.single_nodes.Places.{IsPlaced, one_place}
use Rattle.twin_report_laws.specs.outcome_laws.fault_laws.Twins.{PlacesDiffer}

none_some : {X : Type 0} → {x : X} → ◌≡◌ {A = Option X} None (Some x) → ⊥
none_some h = cc

some_one : {X : Type 0} → {x y : X} → ◌≡◌ {A = Option X} (Some x) (Some y) → x ≡ y
some_one h = cc

and_first : (a b : Bool) → (a && b) ≡ true → a ≡ true
and_first true b h = refl
and_first false b h = h

and_second : (a b : Bool) → (a && b) ≡ true → b ≡ true
and_second true b h = h
and_second false b h = cc

module _ (s : Source) (senses : List Sense) where
  -- a name that declares an external entity: it is a leaf with a token, and the entity stands there
  record AtName (d : ℕ) (what : Declared) : Type 0 where
    leafy : is_leaf s d ≡ true
    token : is_some (token_at s d) ≡ true
    place : what.place ≡ place_at s d

  token_there : (o : Option Token) → is_identifier (kind_of_token o) ≡ true → is_some o ≡ true
  token_there None h = cc
  token_there (Some t) h = refl

  record IsNamed (d : ℕ) (what : Declared) : Type 0 where
    declares : declares_entity s senses d ≡ true
    type : Ctype
    what_is : what ≡ declared_as s senses d type

  named_by : (d : ℕ) (what : Declared) → declared_name s senses d ≡ Some what → IsNamed d what
  named_by d what h = elim (cases_Bool (declares_entity s senses d)) [
    | inl its ↦ by (entity_type s senses d) (sym (ap (λ b. if b then option_map (declared_as s senses d) (entity_type s senses d) else None) its) ∙ h) its
    | inr other ↦ absurd (none_some (sym (ap (λ b. if b then option_map (declared_as s senses d) (entity_type s senses d) else None) other) ∙ h))
  ]
    where
      by : (o : Option Ctype) → option_map (declared_as s senses d) o ≡ Some what → declares_entity s senses d ≡ true → IsNamed d what
      by None e its = absurd (none_some e)
      by (Some t) e its = record { declares = its; type = t; what_is = sym (some_one e) }

  -- what has external linkage is known by its own leaf
  own_leaf : (d : ℕ) → linkage_of s (sense_in senses) d ≡ External → representative s senses d ≡ d
  own_leaf d e = ap (λ (l : Linkage). elim l as (λ _. ℕ) [
    | Internal ↦ first_of s (sense_of s senses) (first_of s (sense_of s senses) d (keep s (sense_of s senses) (is_tentative s senses) (of_internal s senses d))) (keep s (sense_of s senses) (is_definition_at s senses) (of_internal s senses d))
    | _ ↦ d
  ]) e

  at_name : (d : ℕ) (what : Declared) → declared_name s senses d ≡ Some what → what.linkage ≡ External → AtName d what
  at_name d what h external =
      let named : IsNamed d what = named_by d what h in
      let declaring : is_declaring s senses d ≡ true = and_first _ _ named.declares in
      let name : is_name s d ≡ true = and_first _ _ declaring in
      let linkage : linkage_of s (sense_in senses) d ≡ External = sym (ap (λ (w : Declared). w.linkage) named.what_is) ∙ external in
      record {
        leafy = and_first (is_leaf s d) (is_identifier (kind_of_token (token_at s d))) name;
        token = token_there (token_at s d) (and_second (is_leaf s d) (is_identifier (kind_of_token (token_at s d))) name);
        place = ap (λ (w : Declared). w.place) named.what_is ∙ ap (place_at s) (own_leaf d linkage);
      }

  at_leaf : (d : ℕ) (what : Declared) → IsDeclaredAt s senses d what → what.linkage ≡ External → AtName d what
  at_leaf d what (inl h) external = at_name d what h external
  at_leaf d what (inr (c, is, same)) external = let local : what.linkage ≡ Local = ap (λ (w : Declared). w.linkage) same in let e : Local ≡ External = sym local ∙ external in cc

module _ (s : Source) (placed : IsPlaced s) (name : List ℕ) (u : Unit) (right : Right s name u) where
  -- the leaf at which an external entity is declared
  record HasLeaf (e : ℕ) (x : Entity) : Type 0 where
    leaf : ℕ
    what : Declared
    number : right.numbering leaf ≡ Some e
    at : AtName s right.senses leaf what
    place : x.place ≡ what.place

  has_leaf : (e : ℕ) (x : Entity) → entity_at (trees_of u) e ≡ Some x → IsExternal x → HasLeaf e x
  has_leaf e x at external =
      let (d, what, declared, number) = right.no_other_entity e (slice_get_within u.entities.items e x at) in
      let (f, entity, again, there, is) = right.each_declared d what declared in
      let same : f ≡ e = some_one (sym again ∙ number) in
      let one : entity ≡ x = some_one (sym there ∙ (ap (λ (k : ℕ). slice_get u.entities.items k) same ∙ at)) in
      let linkage : what.linkage ≡ External = sym is.linkage ∙ (ap (λ (y : Entity). y.linkage) one ∙ external.linkage) in
      record {
        leaf = d;
        what = what;
        number = number;
        at = at_leaf s right.senses d what declared linkage;
        place = ap (λ (y : Entity). y.place) (sym one) ∙ is.place;
      }

  pub places_differ : PlacesDiffer u
  places_differ = record { once = once }
    where
      once : (e f : ℕ) (x y : Entity) → entity_at (trees_of u) e ≡ Some x → entity_at (trees_of u) f ≡ Some y → IsExternal x → IsExternal y → x.place.line ≡ y.place.line → x.place.column ≡ y.place.column → e ≡ f
      once e f x y ex ey h k line column =
          let a : HasLeaf e x = has_leaf e x ex h in
          let b : HasLeaf f y = has_leaf f y ey k in
          let here : x.place ≡ place_at s a.leaf = a.place ∙ a.at.place in
          let there : y.place ≡ place_at s b.leaf = b.place ∙ b.at.place in
          let lines : (place_at s a.leaf).line ≡ (place_at s b.leaf).line = sym (ap (λ (p : Place). p.line) here) ∙ (line ∙ ap (λ (p : Place). p.line) there) in
          let columns : (place_at s a.leaf).column ≡ (place_at s b.leaf).column = sym (ap (λ (p : Place). p.column) here) ∙ (column ∙ ap (λ (p : Place). p.column) there) in
          let same : a.leaf ≡ b.leaf = one_place s placed a.leaf b.leaf a.at.leafy b.at.leafy a.at.token b.at.token lines columns in
          some_one (sym a.number ∙ (ap right.numbering same ∙ b.number))
