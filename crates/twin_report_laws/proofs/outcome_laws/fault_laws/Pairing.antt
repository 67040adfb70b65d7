-- Lists of declarations that say the same, one by one.
use Rattle.std.proofs.Common.{◌≡◌, ◌∙◌, ℕ, zero, suc, Bool, true, false, ◌||◌, cond, List, [], ◌∷◌, Option, Some, None, map, take, length, get_or, refl, sym, ap, subst, inl, inr}
use Rattle.std.specs.Prelude.{⊤, fold, find, filter}
use Rattle.std.specs.List.{list_any, slice_get}
use Rattle.std.specs.Option.{option_map_or, option_or}
use Rattle.std.specs.Str.{bytes_eq}
use Rattle.c_types.specs.Trees.{Ctype}
use Rattle.type_rules.specs.Conversions.{Agree}
use Rattle.type_rules.specs.Kinds.{IsEntryType}
use Rattle.core_tree.specs.declared.node.Entity.{Entity}
use Rattle.core_tree.specs.declared.node.Unit.{Unit}
use Rattle.link_model.specs.declared.item.Item.{Item}
use Rattle.link_model.specs.Renamed.{renamed}
use Rattle.link_names.specs.declared.declared.Declared.{Declared}
use Rattle.link_names.specs.Shape.{HasShape}
use Rattle.link_names.specs.Externals.{Joined, entity_at, item_of, name_at, has_body, is_defined, is_named, declared_type}
use Rattle.link_names.specs.Together.{composite, together, of_name, type_together, is_own, is_made, is_listed, has_list, first_body, first_defined, maker_of, type_made, linked_type}
use Rattle.link_names.specs.Faults.{LacksShape, Disagrees, Conflicts, IsSecond, IsMissing, HasMain, IsMainType, main_name, HasEntry, IsStarted}
use Rattle.twin_report_laws.proofs.outcome_laws.fault_laws.Images.{composite_kept, listed_kept, linked_kept, agree_kept, shape_kept, main_kept, entry_kept}

-- entities that are the same, but for numbers and types
pub record SameWords (x y : Entity) : Type 0 where
  pub name : y.name ≡ x.name
  pub unit_is : y.unit ≡ x.unit
  pub place : y.place ≡ x.place
  pub linkage : y.linkage ≡ x.linkage
  pub storage : y.storage ≡ x.storage

-- what stands at two items is the same
pub record SameItems (us vs : List Unit) (a b : Item) : Type 0 where
  pub entity : Entity
  pub other : Entity
  pub here : entity_at us a ≡ Some entity
  pub there : entity_at vs b ≡ Some other
  pub words : SameWords entity other

-- declarations of two lists of units that say the same, where tags have other numbers
pub record SameDeclared (j k : Joined) (to back : ℕ → ℕ) (d e : Declared) : Type 0 where
  pub items : SameItems j.units k.units (item_of d) (item_of e)
  pub unit : d.unit ≡ e.unit
  pub name : name_at j.units (item_of d) ≡ name_at k.units (item_of e)
  pub body : has_body j.units (item_of d) ≡ has_body k.units (item_of e)
  pub defined : is_defined j (item_of d) ≡ is_defined k (item_of e)
  pub forth : declared_type k e ≡ renamed to (declared_type j d)
  pub returned : declared_type j d ≡ renamed back (declared_type k e)

abbrev pub Pairs : (Declared → Declared → Type 0) → List Declared → List Declared → Type 0
Pairs P [] [] = ⊤
Pairs P (d ∷ ds) (e ∷ es) = P d e × Pairs P ds es
Pairs P ds es = ⊥

abbrev pub SomePair : (Declared → Declared → Type 0) → Option Declared → Option Declared → Type 0
SomePair P None None = ⊤
SomePair P (Some d) (Some e) = P d e
SomePair P a b = ⊥

-- what pairs have in one position
pub record PairAt (P : Declared → Declared → Type 0) (es : List Declared) (i : ℕ) (d : Declared) : Type 0 where
  pub other : Declared
  pub stands : slice_get es i ≡ Some other
  pub pair : P d other

none_some : {X : Type 0} → {x : X} → ◌≡◌ {A = Option X} None (Some x) → ⊥
none_some h = cc

some_one : {X : Type 0} → {x y : X} → ◌≡◌ {A = Option X} (Some x) (Some y) → x ≡ y
some_one h = cc

pub flipped : (P Q : Declared → Declared → Type 0) → ((d e : Declared) → P d e → Q e d) → (ds es : List Declared) → Pairs P ds es → Pairs Q es ds
flipped P Q f [] [] h = tt
flipped P Q f [] (e ∷ es) h = absurd h
flipped P Q f (d ∷ ds) [] h = absurd h
flipped P Q f (d ∷ ds) (e ∷ es) h = (f d e h.0, flipped P Q f ds es h.1)

pub as_many : (P : Declared → Declared → Type 0) (ds es : List Declared) → Pairs P ds es → length ds ≡ length es
as_many P [] [] h = refl
as_many P [] (e ∷ es) h = absurd h
as_many P (d ∷ ds) [] h = absurd h
as_many P (d ∷ ds) (e ∷ es) h = ap suc (as_many P ds es h.1)

pub pair_at : (P : Declared → Declared → Type 0) (ds es : List Declared) (i : ℕ) (d : Declared) → Pairs P ds es → slice_get ds i ≡ Some d → PairAt P es i d
pair_at P [] [] i d h at = absurd (none_some at)
pair_at P [] (e ∷ es) i d h at = absurd h
pair_at P (c ∷ ds) [] i d h at = absurd h
pair_at P (c ∷ ds) (e ∷ es) zero d h at = record { other = e; stands = refl; pair = subst (λ (x : Declared). P x e) (some_one at) h.0 }
pair_at P (c ∷ ds) (e ∷ es) (suc i) d h at =
    let more : PairAt P es i d = pair_at P ds es i d h.1 at in record { other = more.other; stands = more.stands; pair = more.pair }

pub taken : (P : Declared → Declared → Type 0) (n : ℕ) (ds es : List Declared) → Pairs P ds es → Pairs P (take n ds) (take n es)
taken P zero [] [] h = tt
taken P zero (d ∷ ds) (e ∷ es) h = tt
taken P zero [] (e ∷ es) h = absurd h
taken P zero (d ∷ ds) [] h = absurd h
taken P (suc n) [] [] h = tt
taken P (suc n) [] (e ∷ es) h = absurd h
taken P (suc n) (d ∷ ds) [] h = absurd h
taken P (suc n) (d ∷ ds) (e ∷ es) h = (h.0, taken P n ds es h.1)

any_same : (P : Declared → Declared → Type 0) (f g : Declared → Bool) → ((d e : Declared) → P d e → f d ≡ g e) → (ds es : List Declared) → Pairs P ds es → list_any f ds ≡ list_any g es
any_same P f g same [] [] h = refl
any_same P f g same [] (e ∷ es) h = absurd h
any_same P f g same (d ∷ ds) [] h = absurd h
any_same P f g same (d ∷ ds) (e ∷ es) h = ap (λ b. b || list_any f ds) (same d e h.0) ∙ ap (λ b. g e || b) (any_same P f g same ds es h.1)

find_same : (P : Declared → Declared → Type 0) (f g : Declared → Bool) → ((d e : Declared) → P d e → f d ≡ g e) → (ds es : List Declared) → Pairs P ds es → SomePair P (find f ds) (find g es)
find_same P f g same [] [] h = tt
find_same P f g same [] (e ∷ es) h = absurd h
find_same P f g same (d ∷ ds) [] h = absurd h
find_same P f g same (d ∷ ds) (e ∷ es) h =
    subst (λ b. SomePair P (cond b (Some d) (find f ds)) (cond (g e) (Some e) (find g es))) (sym (same d e h.0)) (pick (find_same P f g same ds es h.1) (g e))
  where
    pick : SomePair P (find f ds) (find g es) → (b : Bool) → SomePair P (cond b (Some d) (find f ds)) (cond b (Some e) (find g es))
    pick more true = h.0
    pick more false = more

filter_same : (P : Declared → Declared → Type 0) (f g : Declared → Bool) → ((d e : Declared) → P d e → f d ≡ g e) → (ds es : List Declared) → Pairs P ds es → Pairs P (filter f ds) (filter g es)
filter_same P f g same [] [] h = tt
filter_same P f g same [] (e ∷ es) h = absurd h
filter_same P f g same (d ∷ ds) [] h = absurd h
filter_same P f g same (d ∷ ds) (e ∷ es) h =
    subst (λ b. Pairs P (cond b (d ∷ filter f ds) (filter f ds)) (cond (g e) (e ∷ filter g es) (filter g es))) (sym (same d e h.0)) (pick (filter_same P f g same ds es h.1) (g e))
  where
    pick : Pairs P (filter f ds) (filter g es) → (b : Bool) → Pairs P (cond b (d ∷ filter f ds) (filter f ds)) (cond b (e ∷ filter g es) (filter g es))
    pick more true = (h.0, more)
    pick more false = more

or_same : (P : Declared → Declared → Type 0) (a b c d : Option Declared) → SomePair P a b → SomePair P c d → SomePair P (option_or a c) (option_or b d)
or_same P None None c d h k = k
or_same P None (Some e) c d h k = absurd h
or_same P (Some x) None c d h k = absurd h
or_same P (Some x) (Some e) c d h k = h

pub some_pair : (P : Declared → Declared → Type 0) (a b : Option Declared) (d : Declared) → SomePair P a b → a ≡ Some d → (e : Declared) × (b ≡ Some e) × P d e
some_pair P None b d h at = absurd (none_some at)
some_pair P (Some x) None d h at = absurd h
some_pair P (Some x) (Some e) d h at = (e, refl, subst (λ (y : Declared). P y e) (some_one at) h)

-- a list without pairs is empty
none_left : (P : Declared → Declared → Type 0) (ds es : List Declared) → Pairs P ds es → es ≡ [] → ds ≡ []
none_left P [] es h e = refl
none_left P (d ∷ ds) [] h e = absurd h
none_left P (d ∷ ds) (x ∷ es) h e = cc

module _ (j k : Joined) (to back : ℕ → ℕ) where
  abbrev Same : Declared → Declared → Type 0
  Same d e = SameDeclared j k to back d e

  pub turned : (d e : Declared) → Same d e → SameDeclared k j back to e d
  turned d e h =
      let w = h.items.words in
      record {
        items = record {
          entity = h.items.other;
          other = h.items.entity;
          here = h.items.there;
          there = h.items.here;
          words = record { name = sym w.name; unit_is = sym w.unit_is; place = sym w.place; linkage = sym w.linkage; storage = sym w.storage };
        };
        unit = sym h.unit;
        name = sym h.name;
        body = sym h.body;
        defined = sym h.defined;
        forth = h.returned;
        returned = h.forth;
      }

  named_same : (name : List ℕ) (d e : Declared) → Same d e → is_named j.units name d ≡ is_named k.units name e
  named_same name d e h = ap (λ (o : Option (List ℕ)). option_map_or (λ other. bytes_eq other name) o false) h.name

  pub named_pairs : (name : List ℕ) (ds es : List Declared) → Pairs Same ds es → Pairs Same (of_name j.units name ds) (of_name k.units name es)
  named_pairs name ds es h = filter_same Same (is_named j.units name) (is_named k.units name) (named_same name) ds es h

  folded : (s t : Ctype) (ds es : List Declared) → t ≡ renamed to s → Pairs Same ds es → fold composite t (map (declared_type k) es) ≡ renamed to (fold composite s (map (declared_type j) ds))
  folded s t [] [] e h = e
  folded s t [] (b ∷ es) e h = absurd h
  folded s t (a ∷ ds) [] e h = absurd h
  folded s t (a ∷ ds) (b ∷ es) e h =
      let both : composite t (declared_type k b) ≡ renamed to (composite s (declared_type j a)) =
      ap (λ (x : Ctype). composite x (declared_type k b)) e ∙ (ap (λ (x : Ctype). composite (renamed to s) x) h.0.forth ∙ composite_kept to s (declared_type j a)) in
      folded (composite s (declared_type j a)) (composite t (declared_type k b)) ds es both h.1

  gathered : (ds es : List Declared) → Pairs Same ds es → together (map (declared_type k) es) ≡ renamed to (together (map (declared_type j) ds))
  gathered [] [] h = refl
  gathered [] (b ∷ es) h = absurd h
  gathered (a ∷ ds) [] h = absurd h
  gathered (a ∷ ds) (b ∷ es) h = folded (declared_type j a) (declared_type k b) ds es h.0.forth h.1

  pub together_same : (name : List ℕ) (ds es : List Declared) → Pairs Same ds es → type_together k name es ≡ renamed to (type_together j name ds)
  together_same name ds es h = gathered (of_name j.units name ds) (of_name k.units name es) (named_pairs name ds es h)

  pub own_same : (name : List ℕ) (ds es : List Declared) → Pairs Same ds es → is_own j ds name ≡ is_own k es name
  own_same name ds es h =
      any_same Same (λ d. is_defined j (item_of d)) (λ e. is_defined k (item_of e)) (λ d e p. p.defined) (of_name j.units name ds) (of_name k.units name es) (named_pairs name ds es h)

  made_same : (name : List ℕ) (ds es : List Declared) → Pairs Same ds es → is_made j.units ds name ≡ is_made k.units es name
  made_same name ds es h =
      any_same Same (λ d. has_body j.units (item_of d)) (λ e. has_body k.units (item_of e)) (λ d e p. p.body) (of_name j.units name ds) (of_name k.units name es) (named_pairs name ds es h)

  listed_same : (name : List ℕ) (ds es : List Declared) → Pairs Same ds es → has_list j ds name ≡ has_list k es name
  listed_same name ds es h =
      any_same Same (λ d. is_listed (declared_type j d)) (λ e. is_listed (declared_type k e)) (λ d e p. sym (ap is_listed p.forth ∙ listed_kept to (declared_type j d)))
      (of_name j.units name ds) (of_name k.units name es) (named_pairs name ds es h)

  lacks_same : (name : List ℕ) (ds es : List Declared) (d e : Declared) → Pairs Same ds es → Same d e → LacksShape j ds d name → LacksShape k es e name
  lacks_same name ds es d e all p h = record {
    row = h.row;
    in_library = h.in_library;
    not_own = sym (own_same name ds es all) ∙ h.not_own;
    shape = λ s. h.shape (subst (λ (t : Ctype). HasShape t h.row.row.shape) (sym p.returned) (shape_kept back (declared_type k e) h.row.row.shape s));
  }

  disagrees_same : (name : List ℕ) (earlier before : List Declared) (d e : Declared) → Pairs Same earlier before → Pairs (SameDeclared k j back to) before earlier → Same d e
      → type_together j name earlier ≡ renamed back (type_together k name before) → Disagrees j earlier d name → Disagrees k before e name
  disagrees_same name earlier before d e all turned_all p type h = record {
    some = λ none. h.some (none_left Same (of_name j.units name earlier) (of_name k.units name before) (named_pairs name earlier before all) none);
    types = λ agree. h.types (subst (λ (t : Ctype). Agree t (declared_type j d)) (sym type)
        (subst (λ (t : Ctype). Agree (renamed back (type_together k name before)) t) (sym p.returned) (agree_kept back (type_together k name before) (declared_type k e) agree)));
  }

  pub second_same : (name : List ℕ) (earlier before : List Declared) (d e : Declared) → Pairs Same earlier before → Same d e → IsSecond j.units earlier d name → IsSecond k.units before e name
  second_same name earlier before d e all p h = record { body = sym p.body ∙ h.body; before = sym (made_same name earlier before all) ∙ h.before }

  pub missing_same : (name : List ℕ) (ds es : List Declared) → Pairs Same ds es → IsMissing j ds name → IsMissing k es name
  missing_same name ds es all h = record {
    not_own = sym (own_same name ds es all) ∙ h.not_own;
    not_given = λ g. h.not_given (record { row = g.row; in_library = g.in_library; listed = λ f. listed_same name ds es all ∙ g.listed f });
  }

  pub maker_pair : (name : List ℕ) (ds es : List Declared) → Pairs Same ds es → SomePair Same (maker_of j ds name) (maker_of k es name)
  maker_pair name ds es all =
      let a = of_name j.units name ds in
      let b = of_name k.units name es in
      let pairs : Pairs Same a b = named_pairs name ds es all in
      or_same Same (first_body j.units a) (first_body k.units b) (option_or (first_defined j a) (find (λ (d : Declared). true) a)) (option_or (first_defined k b) (find (λ (d : Declared). true) b))
      (find_same Same (λ d. has_body j.units (item_of d)) (λ e. has_body k.units (item_of e)) (λ d e p. p.body) a b pairs)
      (or_same Same (first_defined j a) (first_defined k b) (find (λ (d : Declared). true) a) (find (λ (d : Declared). true) b)
      (find_same Same (λ d. is_defined j (item_of d)) (λ e. is_defined k (item_of e)) (λ d e p. p.defined) a b pairs)
      (find_same Same (λ d. true) (λ e. true) (λ d e p. refl) a b pairs))

  pub made_type : (name : List ℕ) (ds es : List Declared) (d e : Declared) → Pairs Same ds es → Same d e → type_made k es name e ≡ renamed to (type_made j ds name d)
  made_type name ds es d e all p =
      ap (λ b. linked_type b (is_defined k (item_of e)) (declared_type k e) (type_together k name es)) (sym p.body)
      ∙ (ap (λ b. linked_type (has_body j.units (item_of d)) b (declared_type k e) (type_together k name es)) (sym p.defined)
      ∙ (ap (λ (t : Ctype). linked_type (has_body j.units (item_of d)) (is_defined j (item_of d)) t (type_together k name es)) p.forth
      ∙ (ap (λ (t : Ctype). linked_type (has_body j.units (item_of d)) (is_defined j (item_of d)) (renamed to (declared_type j d)) t) (together_same name ds es all)
      ∙ linked_kept to (has_body j.units (item_of d)) (is_defined j (item_of d)) (declared_type j d) (type_together j name ds))))

  pub main_same : (ds es : List Declared) → Pairs Same ds es → HasMain j ds → HasMain k es
  main_same ds es all h =
      let (e, made, p) = some_pair Same (maker_of j ds main_name) (maker_of k es main_name) h.declared (maker_pair main_name ds es all) h.made in
      record {
        declared = e;
        made = made;
        body = sym p.body ∙ h.body;
        type = subst IsMainType (sym (made_type main_name ds es h.declared e all p)) (main_kept to (type_made j ds main_name h.declared) h.type);
      }

  pub entry_same : (name : List ℕ) (ds es : List Declared) → Pairs Same ds es → HasEntry j ds name → HasEntry k es name
  entry_same name ds es all h =
      let (e, made, p) = some_pair Same (maker_of j ds name) (maker_of k es name) h.declared (maker_pair name ds es all) h.made in
      record {
        declared = e;
        made = made;
        body = sym p.body ∙ h.body;
        type = subst IsEntryType (sym (made_type name ds es h.declared e all p)) (entry_kept to (type_made j ds name h.declared) h.type);
      }

  pub started_same : (entered : List (List ℕ)) (ds es : List Declared) → Pairs Same ds es → IsStarted j ds entered → IsStarted k es entered
  started_same [] ds es all h = main_same ds es all h
  started_same (name ∷ rest) ds es all h = λ i d lt. entry_same (get_or (name ∷ rest) i d) ds es all (h i d lt)

pub conflicts_same : (j k : Joined) (to back : ℕ → ℕ) (name : List ℕ) (ds es earlier before : List Declared) (d e : Declared)
    → Pairs (SameDeclared j k to back) ds es → Pairs (SameDeclared j k to back) earlier before → SameDeclared j k to back d e
    → Conflicts j ds earlier d name → Conflicts k es before e name
conflicts_same j k to back name ds es earlier before d e all some p (inl h) = inl (lacks_same j k to back name ds es d e all p h)
conflicts_same j k to back name ds es earlier before d e all some p (inr h) =
    let other : Pairs (SameDeclared k j back to) before earlier = flipped (SameDeclared j k to back) (SameDeclared k j back to) (turned j k to back) earlier before some in
    inr (disagrees_same j k to back name earlier before d e some other p (together_same k j back to name before earlier other) h)
