-- The names and places of a unit that is right for a tree.
use Rattle.std.proofs.Common.{arith, ◌≡◌, ◌∙◌, ℕ, zero, suc, ◌+◌, ◌<◌, ◌≤◌, ◌&&◌, ◌||◌, ◌==◌, not, cond, Bool, true, false, List, [], ◌∷◌, length, Option, Some, None, slice_get, refl, sym, ap, subst, inl, inr, map}
use Rattle.std.specs.Prelude.{option_map, option_and_then, nat_eq, if◌then◌else◌}
use Rattle.std.specs.List.{All, slice_index_or, list_any}
use Rattle.std.proofs.lemmas.Bool.{eqb-true, eqb-false, and_parts}
use Rattle.std.proofs.lemmas.Option.{slice_get_within, slice_get-get_or}
use Rattle.pta_base.specs.declared.place.Place.{Place}
use Rattle.c_types.specs.Trees.{Ctype}
use Rattle.c_lexer.specs.Cut.{IsTokens}
use Rattle.core_tree.specs.declared.node.Unit.{Unit}
use Rattle.core_tree.specs.declared.node.Node.{Node}
use Rattle.core_tree.specs.declared.node.NodeKind.{NodeKind}
use Rattle.core_tree.specs.declared.node.NodeKind.TheVariants.{Literal}
use Rattle.core_tree.specs.declared.node.Entity.{Entity}
use Rattle.core_tree.specs.declared.node.Linkage.{Linkage}
use Rattle.core_tree.specs.declared.node.Linkage.TheVariants.{External, Internal, Local}
use Rattle.core_tree.specs.Valid.{entity_at}
use Rattle.core_tree.specs.Linkages.{HasNoLinkage, MakesUnlinked}
use Rattle.core_tree.specs.Typed.{trees_of}
use Rattle.core_tree.specs.Range.{child_in}
use Rattle.c_consts.specs.Core.{Core, Cores, Of, NoCores, MoreCores, kind_of, cores_under, core_in}
use Rattle.c_senses.specs.Tree.{Source, is_a, child_of, is_name, spelling_at, place_at}
use Rattle.c_scope.specs.declared.kinds.Declared.{Declared as Declaration}
use Rattle.c_senses.specs.Names.{ordinary_at, entry_of, has_linkage}
use Rattle.c_senses.specs.Sense.{Sense, IsCore, IsMembers, IsInitial, sense_in}
use Rattle.c_types.specs.declared.term.MemberTerm.{MemberTerm}
use Rattle.c_types.specs.Table.{Table, members_in}
use Rattle.c_inits.specs.Made.{Part, TagParts}
use Rattle.c_inits.specs.Tables.{part_of, parts_in}
use Rattle.c_grammar.specs.Productions.{p_struct, p_members}
use Rattle.c_senses.specs.Tags.{tag_of, completed_from, members_under}
use Rattle.c_senses.specs.Rows.{AreSenses}
use Rattle.c_senses.specs.Entities.{keep, first_of, linkage_of, is_internal, is_linked, is_typedef, is_internal_of, internal_among, entity_of, is_defined, initialiser_for}
use Rattle.c_senses.specs.Right.{Numbering, SameKind, StandsBy, AllStandBy, SameBody, IsEntityOf, IsDeclaredAt, IsLiteralOf, IsBody, Within, Itself, Below, sense_of, is_declaring, declares_entity, stands_in_declaration, entity_type, of_internal, is_definition_at, is_tentative, representative, core_of_sense, block_for, body_at, declared_as, declared_name, literal_as, Right}
use Rattle.c_senses.specs.Right as right
use Rattle.obj_made.specs.Uses.{is_literal, is_number, literal_entity}
use Rattle.linked_laws.specs.location_laws.name_shapes.Bytes.{is_unit_byte, is_letter, IsMadeOf, IsWord}
use Rattle.core_node_laws.specs.count_laws.named_units.Named.{HaveNames, IsNarrow, IsLocalOf, SamePlace, HasUnitNames}
use Rattle.core_node_laws.proofs.count_laws.named_units.Standing.{IsSpelled, AreSpelled, IsAt, IsOpening, Fine, fine_at, OfSource, AllOfSource}
use Rattle.core_node_laws.proofs.count_laws.named_units.Giving.{if_holds}
use Rattle.core_node_laws.proofs.count_laws.named_units.Values.{SomeOf}
use Rattle.core_node_laws.proofs.count_laws.named_units.Expressions.{OfSense}
use Rattle.core_node_laws.proofs.count_laws.named_units.All.{all_kept}
use Rattle.core_node_laws.proofs.count_laws.named_units.Spelled.{names_spelled, words_spelled}
use Rattle.core_node_laws.proofs.count_laws.named_units.Parts.{IsCut, HasToken, narrow, one_place, name_token}
use Rattle.core_node_laws.proofs.count_laws.named_units.Tokens.{few_located}
use Rattle.parsed_tree_laws.specs.member_names.Differ.{PartsDiffer}

some_one : {X : Type 0} → {x y : X} → ◌≡◌ {A = Option X} (Some x) (Some y) → x ≡ y
some_one h = cc

none_some : {X : Type 0} → {x : X} → ◌≡◌ {A = Option X} None (Some x) → ⊥
none_some h = cc

-- ---- nodes of a list that pass a test

any_at : (test : Node → Bool) (nodes : List Node) (j : ℕ) (node : Node) → slice_get nodes j ≡ Some node → test node ≡ true → list_any test nodes ≡ true
any_at test [] j node e h = absurd (none_some e)
any_at test (x ∷ nodes) zero node e h = first (test x) (list_any test nodes) (subst (λ (y : Node). test y ≡ true) (sym (some_one e)) h)
  where
    first : (a b : Bool) → a ≡ true → (a || b) ≡ true
    first true b h = refl
    first false b h = cc
any_at test (x ∷ nodes) (suc j) node e h = second (test x) (list_any test nodes) (any_at test nodes j node e h)
  where
    second : (a b : Bool) → b ≡ true → (a || b) ≡ true
    second true b h = refl
    second false b h = h

any_from : (test : Node → Bool) (nodes : List Node) → list_any test nodes ≡ true → (j : ℕ) × (node : Node) × (slice_get nodes j ≡ Some node) × (test node ≡ true)
any_from test [] h = absurd (let never : false ≡ true = h in cc)
any_from test (x ∷ nodes) h = by (test x) refl h (λ g. any_from test nodes g)
  where
    by : (b : Bool) → test x ≡ b → (b || list_any test nodes) ≡ true → (list_any test nodes ≡ true → (j : ℕ) × (node : Node) × (slice_get nodes j ≡ Some node) × (test node ≡ true)) → (j : ℕ) × (node : Node) × (slice_get (x ∷ nodes) j ≡ Some node) × (test node ≡ true)
    by true e h rest = (0, x, refl, e)
    by false e h rest = let (j, node, at, is) = rest h in (suc j, node, at, is)

literal_kind : (e : ℕ) (k : NodeKind) → is_number e (literal_entity k) ≡ true → k ≡ Literal e
literal_kind e (Literal f) h = ap Literal (eqb-true f e h)
literal_kind e k h = absurd (cc)

same_number : (n : ℕ) → nat_eq n n ≡ true
same_number n = by (nat_eq n n) refl
  where
    by : (b : Bool) → nat_eq n n ≡ b → b ≡ true
    by true e = refl
    by false e = absurd (eqb-false n n e refl)

-- ---- what stands at nodes

module _ (m : Numbering) (u : Unit) where
  same_literal : (d e : ℕ) (k : NodeKind) → SameKind m (Literal d) k → m d ≡ Some e → k ≡ Literal e
  same_literal d e (Literal f) h number = ap Literal (some_one (sym h ∙ number))
  same_literal d e k h number = absurd (cc)

  among : (is : List ℕ) (cs : Cores) (k : ℕ) (part : Core) → AllStandBy m u is cs → core_in cs k ≡ Some part → (j : ℕ) × StandsBy m u j part
  among is NoCores k part h e = absurd (none_some e)
  among is (MoreCores c rest) zero part h e = (h.0, subst (λ (x : Core). StandsBy m u h.0 x) (some_one e) h.3)
  among is (MoreCores c rest) (suc k) part h e = among h.1 rest k part h.4 e

  part_stands : (c part : Core) (i k : ℕ) → StandsBy m u i c → core_in (cores_under c) k ≡ Some part → (j : ℕ) × StandsBy m u j part
  part_stands (Of kind place type under) part i k h e = among h.0.children under k part h.5 e

  within_stands : (s : Source) (senses : List Sense) → {c d : Core} → Within s senses c d → (i : ℕ) → StandsBy m u i d → (j : ℕ) × StandsBy m u j c
  within_stands s senses Itself i h = (i, h)
  within_stands s senses (Below {c = c} {part = part} k inside) i h = let below = part_stands c part i k.0 h k.1 in within_stands s senses inside below.0 below.1

  literal_stands : (c : Core) (d e i : ℕ) → kind_of c ≡ Literal d → StandsBy m u i c → m d ≡ Some e → (node : Node) × (slice_get u.nodes.items i ≡ Some node) × (node.kind ≡ Literal e)
  literal_stands (Of kind place type under) d e i is h number =
      (h.0, h.1, same_literal d e h.0.kind (subst (λ (x : NodeKind). SameKind m x h.0.kind) is h.2) number)

  node_is_literal : (e j : ℕ) (node : Node) → slice_get u.nodes.items j ≡ Some node → node.kind ≡ Literal e → is_literal u.nodes.items e ≡ true
  node_is_literal e j node at is = any_at (λ (x : Node). is_number e (literal_entity x.kind)) u.nodes.items j node at (ap (λ (k : NodeKind). is_number e (literal_entity k)) is ∙ same_number e)

  body_stands : (c : Core) (o : Option ℕ) → SameBody m u (Some c) o → (i : ℕ) × StandsBy m u i c
  body_stands c None h = absurd h
  body_stands c (Some i) h = (i, h)

  -- the leaf by which a literal's node knows its entity
  literal_back : (s : Source) (kind : NodeKind) (place : Place) (e : ℕ) → SameKind m kind (Literal e) → Fine s kind place → (d : ℕ) × (m d ≡ Some e) × IsOpening s d
  literal_back s (Literal d) place e h fine = (d, h, fine.1)
  literal_back s kind place e h fine = absurd (cc)

-- ---- what is declared

part_kept : (s : Source) (cs : Cores) (k : ℕ) → AllOfSource s cs → SomeOf s (core_in cs k)
part_kept s NoCores k h = tt
part_kept s (MoreCores c rest) zero h = h.0
part_kept s (MoreCores c rest) (suc k) h = part_kept s rest k h.1

under_kept : (s : Source) (c : Core) → OfSource s c → AllOfSource s (cores_under c)
under_kept s (Of kind place type under) h = h.1

some_kept : (s : Source) (o : Option Core) (c : Core) → o ≡ Some c → SomeOf s o → OfSource s c
some_kept s None c e h = absurd (none_some e)
some_kept s (Some x) c e h = subst (λ (y : Core). OfSource s y) (some_one e) h

module _ (s : Source) (senses : List Sense) (are : AreSenses s senses) where
  core_kept : (x : Sense) → OfSense s x → SomeOf s (core_of_sense s senses x)
  core_kept (IsCore c) h = h
  core_kept (IsInitial c n) h = h
  core_kept x h = tt

  found_kept : (o : Option ℕ) → SomeOf s (option_and_then (λ b. core_of_sense s senses (sense_of s senses b)) o)
  found_kept None = tt
  found_kept (Some b) = core_kept (sense_in senses b) (all_kept s senses are b)

  body_kept : (i : ℕ) → SomeOf s (body_at s senses i)
  body_kept i = if_holds (SomeOf s) (is_defined s (sense_of s senses) i) _ _ (found_kept (block_for s senses i)) (found_kept (initialiser_for s (sense_of s senses) i))

  -- the members of completed tags
  under_spelled : (xs : List Sense) (i tag : ℕ) (parts : List Part) → members_under (completed_from s xs (sense_of s senses) i) tag ≡ Some parts → AreSpelled s parts
  under_spelled [] i tag parts e = absurd (none_some e)
  under_spelled (x ∷ xs) i tag parts e = by_list (if is_a s p_struct i then child_of s p_members i else None) e (λ f. under_spelled xs (suc i) tag parts f)
    where
      by_tag : (b : Bool) (own : List Part) → AreSpelled s own → (if b then Some own else members_under (completed_from s xs (sense_of s senses) (suc i)) tag) ≡ Some parts → (members_under (completed_from s xs (sense_of s senses) (suc i)) tag ≡ Some parts → AreSpelled s parts) → AreSpelled s parts
      by_tag true own h e rest = subst (AreSpelled s) (some_one e) h
      by_tag false own h e rest = rest e

      by_sense : (y : Sense) → OfSense s y
          → members_under (elim y as (λ _. List TagParts) [ IsMembers own ↦ record { tag = tag_of s i; members = own } ∷ completed_from s xs (sense_of s senses) (suc i) | _ ↦ completed_from s xs (sense_of s senses) (suc i) ]) tag ≡ Some parts
          → (members_under (completed_from s xs (sense_of s senses) (suc i)) tag ≡ Some parts → AreSpelled s parts) → AreSpelled s parts
      by_sense (IsMembers own) h e rest = by_tag (tag_of s i == tag) own h e rest
      by_sense y h e rest = rest e

      by_list : (o : Option ℕ)
          → members_under (elim o as (λ _. List TagParts) [
            | None ↦ completed_from s xs (sense_of s senses) (suc i)
            | Some list ↦ elim (sense_of s senses list) as (λ _. List TagParts) [ IsMembers own ↦ record { tag = tag_of s i; members = own } ∷ completed_from s xs (sense_of s senses) (suc i) | _ ↦ completed_from s xs (sense_of s senses) (suc i) ]
          ]) tag ≡ Some parts
          → (members_under (completed_from s xs (sense_of s senses) (suc i)) tag ≡ Some parts → AreSpelled s parts) → AreSpelled s parts
      by_list None e rest = rest e
      by_list (Some list) e rest = by_sense (sense_of s senses list) (all_kept s senses are list) e rest

  -- a leaf that declares an entity
  record IsNamedAs (i : ℕ) (what : right.Declared) : Type 0 where
    declares : declares_entity s senses i ≡ true
    type : Ctype
    as_is : declared_as s senses i type ≡ what

  named_as : (i : ℕ) (what : right.Declared) → declared_name s senses i ≡ Some what → IsNamedAs i what
  named_as i what e = by (declares_entity s senses i) refl (entity_type s senses i) e
    where
      by : (b : Bool) → declares_entity s senses i ≡ b → (o : Option Ctype) → (if b then option_map (declared_as s senses i) o else None) ≡ Some what → IsNamedAs i what
      by false is o e = absurd (none_some e)
      by true is None e = absurd (none_some e)
      by true is (Some t) e = record { declares = is; type = t; as_is = some_one e }

  name_at : (i : ℕ) (what : right.Declared) → IsNamedAs i what → is_name s i ≡ true
  name_at i what h = (and_parts (is_name s i) _ (and_parts (is_declaring s senses i) _ h.declares).0).0

  -- the leaf by which an entity of internal linkage is known: it is the first declaration of its symbol among those
  own_entity : (i : ℕ) (what : right.Declared) → IsNamedAs i what → entity_of s (sense_of s senses) i ≡ i
  own_entity i what h =
      let behind = (and_parts (is_declaring s senses i) _ h.declares).1 in
      let typed = (and_parts (stands_in_declaration s senses i) _ behind).1 in
      eqb-true (entity_of s (sense_of s senses) i) i (and_parts (not (is_typedef s (sense_of s senses) i)) _ typed).1

  internal_is : (a b : Bool) → (if a then Internal else (if b then External else Local)) ≡ Internal → a ≡ true
  internal_is true b e = refl
  internal_is false true e = cc
  internal_is false false e = cc

  linked_at : (i : ℕ) (o : Option Declaration) → ordinary_at s i ≡ o → (elim o as (λ _. Bool) [ None ↦ false | Some d ↦ has_linkage d ]) ≡ true → (d : Declaration) × (ordinary_at s i ≡ Some d)
  linked_at i None at h = absurd (let never : false ≡ true = h in cc)
  linked_at i (Some d) at h = (d, at)

  entry_node : (ds : List Declaration) (i : ℕ) (d : Declaration) → entry_of ds i ≡ Some d → d.node ≡ i
  entry_node [] i d e = absurd (none_some e)
  entry_node (x ∷ ds) i d e = by (x.node == i) refl e (entry_node ds i d)
    where
      by : (b : Bool) → (x.node == i) ≡ b → cond b (Some x) (entry_of ds i) ≡ Some d → (entry_of ds i ≡ Some d → d.node ≡ i) → d.node ≡ i
      by true is e rest = sym (ap (λ (y : Declaration). y.node) (some_one e)) ∙ eqb-true x.node i is
      by false is e rest = rest e

  no_cons : {X : Type 0} → {x : X} → {xs : List X} → x ∷ xs ≡ [] → ⊥
  no_cons e = cc

  some_kept_of : (test : Declaration → Bool) (ds : List Declaration) (i : ℕ) (d : Declaration) → entry_of ds i ≡ Some d → test d ≡ true → keep s (sense_of s senses) test ds ≡ [] → ⊥
  some_kept_of test [] i d e is none = none_some e
  some_kept_of test (x ∷ ds) i d e is none = by (x.node == i) (test x) refl e none (some_kept_of test ds i d)
    where
      by : (b p : Bool) → test x ≡ p → cond b (Some x) (entry_of ds i) ≡ Some d → (if p then x ∷ keep s (sense_of s senses) test ds else keep s (sense_of s senses) test ds) ≡ [] → (entry_of ds i ≡ Some d → test d ≡ true → keep s (sense_of s senses) test ds ≡ [] → ⊥) → ⊥
      by b true at e none rest = no_cons none
      by true false at e none rest = let never : true ≡ false = sym is ∙ (sym (ap test (some_one e)) ∙ at) in cc
      by false false at e none rest = rest e is none

  first_same : (ds : List Declaration) (i j : ℕ) → (ds ≡ [] → ⊥) → first_of s (sense_of s senses) i ds ≡ first_of s (sense_of s senses) j ds
  first_same [] i j some = absurd (some refl)
  first_same (d ∷ ds) i j some = refl

  when_true : {X : Type 0} (b : Bool) (x y : X) → b ≡ true → (if b then x else y) ≡ x
  when_true true x y e = refl
  when_true false x y e = cc

  both_true : (a b : Bool) → a ≡ true → b ≡ true → (a && b) ≡ true
  both_true a b p q = rw (p, q) refl

  abbrev among_symbol : ℕ → List Declaration
  among_symbol symbol = keep s (sense_of s senses) (is_internal_of s (sense_of s senses) symbol) s.declared.ordinary

  first_at : (i : ℕ) (d : Declaration) → is_internal s (sense_of s senses) i ≡ true → ordinary_at s i ≡ Some d → entity_of s (sense_of s senses) i ≡ first_of s (sense_of s senses) i (among_symbol d.symbol)
  first_at i d is at =
      when_true (is_internal s (sense_of s senses) i) _ i is ∙ ap (λ (o : Option Declaration). first_of s (sense_of s senses) i (internal_among s (sense_of s senses) s.declared.ordinary o)) at

  one_internal : (i j : ℕ) (what other : right.Declared) → IsNamedAs i what → IsNamedAs j other → what.linkage ≡ Internal → other.linkage ≡ Internal → ((d e : Declaration) → ordinary_at s i ≡ Some d → ordinary_at s j ≡ Some e → d.symbol ≡ e.symbol) → i ≡ j
  one_internal i j what other a b p q symbols =
      let is : is_internal s (sense_of s senses) i ≡ true = internal_is (is_internal s (sense_of s senses) i) (is_linked s (sense_of s senses) i) (ap (λ (w : right.Declared). w.linkage) a.as_is ∙ p) in
      let js : is_internal s (sense_of s senses) j ≡ true = internal_is (is_internal s (sense_of s senses) j) (is_linked s (sense_of s senses) j) (ap (λ (w : right.Declared). w.linkage) b.as_is ∙ q) in
      let d = linked_at i (ordinary_at s i) refl (and_parts (is_linked s (sense_of s senses) i) _ is).0 in
      let e = linked_at j (ordinary_at s j) refl (and_parts (is_linked s (sense_of s senses) j) _ js).0 in
      let node : d.0.node ≡ i = entry_node s.declared.ordinary i d.0 d.1 in
      let own : is_internal_of s (sense_of s senses) d.0.symbol d.0 ≡ true =
      both_true (d.0.symbol == d.0.symbol) (is_internal s (sense_of s senses) d.0.node) (same_number d.0.symbol) (subst (λ (k : ℕ). is_internal s (sense_of s senses) k ≡ true) (sym node) is) in
      let some : among_symbol d.0.symbol ≡ [] → ⊥ = some_kept_of (is_internal_of s (sense_of s senses) d.0.symbol) s.declared.ordinary i d.0 d.1 own in
      let first : entity_of s (sense_of s senses) j ≡ first_of s (sense_of s senses) j (among_symbol d.0.symbol) =
      first_at j e.0 js e.1 ∙ ap (λ (k : ℕ). first_of s (sense_of s senses) j (among_symbol k)) (sym (symbols d.0 e.0 d.1 e.1)) in
      sym (own_entity i what a) ∙ (first_at i d.0 is d.1 ∙ (first_same (among_symbol d.0.symbol) i j some ∙ (sym first ∙ own_entity j other b)))

  abbrev chosen : ℕ → Linkage → ℕ
  chosen d linkage =
      elim linkage [
        | Internal ↦ first_of s (sense_of s senses) (first_of s (sense_of s senses) d (keep s (sense_of s senses) (is_tentative s senses) (of_internal s senses d))) (keep s (sense_of s senses) (is_definition_at s senses) (of_internal s senses d))
        | _ ↦ d
      ]

  own_leaf : (i : ℕ) → linkage_of s (sense_of s senses) i ≡ Local → representative s senses i ≡ i
  own_leaf i e = ap (chosen i) e

  within_kept : {c d : Core} → Within s senses c d → OfSource s d → OfSource s c
  within_kept Itself h = h
  within_kept (Below {c = c} {part = part} k h) whole = within_kept h (some_kept s (core_in (cores_under c) k.0) part k.1 (part_kept s (cores_under c) k.0 (under_kept s c whole)))

  name_body : (i : ℕ) (what : right.Declared) → declared_name s senses i ≡ Some what → SomeOf s what.body
  name_body i what e = subst (λ (w : right.Declared). SomeOf s w.body) (named_as i what e).as_is (body_kept (representative s senses i))

  declared_body : (i : ℕ) (what : right.Declared) → IsDeclaredAt s senses i what → SomeOf s what.body
  declared_body i what (inl e) = name_body i what e
  declared_body i what (inr l) =
      let c = l.0 in
      let (d, other, body, named, is, inside) = l.1.1 in
      let whole : OfSource s body = some_kept s other.body body is (name_body d other named) in
      subst (λ (w : right.Declared). SomeOf s w.body) (sym l.2) (part_kept s (cores_under c) 0 (under_kept s c (within_kept inside whole)))

  -- what is declared has a letter's name, and stands at a node
  declared_at : (i : ℕ) (what : right.Declared) → IsDeclaredAt s senses i what → IsAt s what.place
  declared_at i what (inl e) = subst (λ (w : right.Declared). IsAt s w.place) (named_as i what e).as_is (representative s senses i, refl)
  declared_at i what (inr l) = subst (λ (w : right.Declared). IsAt s w.place) (sym l.2) (i, refl)

  declared_letters : ((i : ℕ) → is_name s i ≡ true → IsMadeOf is_letter (spelling_at s i)) → (i : ℕ) (what : right.Declared) → IsDeclaredAt s senses i what → IsMadeOf is_letter what.name
  declared_letters spelled i what (inl e) = let told = named_as i what e in subst (λ (w : right.Declared). IsMadeOf is_letter w.name) told.as_is (spelled i (name_at i what told))
  declared_letters spelled i what (inr l) = subst (λ (w : right.Declared). IsMadeOf is_letter w.name) (sym l.2) refl

part_spelled : (s : Source) (table : Table) (members : List MemberTerm) (k : ℕ) (m : MemberTerm) → AreSpelled s (map (part_of table) members) → slice_get members k ≡ Some m → IsSpelled s m.name
part_spelled s table [] k m h e = absurd (none_some e)
part_spelled s table (x ∷ members) zero m h e = subst (λ (y : MemberTerm). IsSpelled s y.name) (some_one e) h.0
part_spelled s table (x ∷ members) (suc k) m h e = part_spelled s table members k m h.1 e

map_there : (table : Table) (members : List MemberTerm) (k : ℕ) (m : MemberTerm) → slice_get members k ≡ Some m → slice_get (map (part_of table) members) k ≡ Some (part_of table m)
map_there table [] k m e = absurd (none_some e)
map_there table (x ∷ members) zero m e = ap (λ (y : MemberTerm). Some (part_of table y)) (some_one e)
map_there table (x ∷ members) (suc k) m e = map_there table members k m e

map_long : (table : Table) (members : List MemberTerm) → length (map (part_of table) members) ≡ length members
map_long table [] = refl
map_long table (x ∷ members) = ap suc (map_long table members)

spelled_letters : (s : Source) → IsTokens s.text s.tokens → (o : Option (List ℕ)) (name : List ℕ) → o ≡ Some name → IsSpelled s o → IsMadeOf is_letter name
spelled_letters s tokens None name e h = absurd (none_some e)
spelled_letters s tokens (Some own) name e h = subst (IsMadeOf is_letter) (sym h.2 ∙ some_one e) (names_spelled s tokens h.0 h.1)

-- ---- the unit

below_at : (list : List ℕ) (n k i : ℕ) → All (λ c. c < n) list → slice_get list k ≡ Some i → i < n
below_at list n k i h at =
    let lt = slice_get_within list k i at in
    let same : slice_index_or list k i ≡ i = some_one (sym (slice_get-get_or list k i lt) ∙ at) in
    subst (λ (c : ℕ). c < n) same (h k i lt)

child_of_some : (o : Option Node) (k i : ℕ) → child_in o k ≡ Some i → (node : Node) × (o ≡ Some node) × (slice_get node.children k ≡ Some i)
child_of_some None k i e = absurd (none_some e)
child_of_some (Some node) k i e = (node, refl, e)

module _ (s : Source) (name : List ℕ) (u : Unit) (cut : IsCut s) (tokens : IsTokens s.text s.tokens) (r : Right s name u) where
  -- a node that stands by a tree of the unit
  Placed : ℕ → Type 0
  Placed i = (c : Core) × StandsBy r.numbering u i c × OfSource s c

  child_placed : (is : List ℕ) (cs : Cores) (k i : ℕ) → AllStandBy r.numbering u is cs → AllOfSource s cs → slice_get is k ≡ Some i → Placed i
  unfolding Placed
  child_placed is NoCores k i stands of at = absurd (none_some (sym (ap (λ (l : List ℕ). slice_get l k) stands) ∙ at))
  child_placed is (MoreCores c rest) zero i stands of at =
      let same : stands.0 ≡ i = some_one (sym (ap (λ (l : List ℕ). slice_get l 0) stands.2) ∙ at) in
      (c, subst (λ (j : ℕ). StandsBy r.numbering u j c) same stands.3, of.0)
  child_placed is (MoreCores c rest) (suc k) i stands of at = child_placed stands.1 rest k i stands.4 of.1 (sym (ap (λ (l : List ℕ). slice_get l (suc k)) stands.2) ∙ at)

  below_placed : (p k i : ℕ) → Placed p → child_in (slice_get u.nodes.items p) k ≡ Some i → Placed i
  unfolding Placed
  below_placed p k i h at = by h.0 h.1 h.2
    where
      by : (c : Core) → StandsBy r.numbering u p c → OfSource s c → (c : Core) × StandsBy r.numbering u i c × OfSource s c
      by (Of kind place type under) stands of = child_placed stands.0.children under k i stands.5 of.1 (sym (ap (λ (o : Option Node). child_in o k) stands.1) ∙ at)

  by_body : (o : Option Core) (i : ℕ) → SameBody r.numbering u o (Some i) → SomeOf s o → Placed i
  unfolding Placed
  by_body None i same of = absurd same
  by_body (Some c) i same of = (c, same, of)

  -- what an entity is
  record IsMade (e : ℕ) (entity : Entity) : Type 0 where
    leaf : ℕ
    what : right.Declared
    declared : IsDeclaredAt s r.senses leaf what
    number : r.numbering leaf ≡ Some e
    is : IsEntityOf r.numbering u s.unit what entity

  made : (e : ℕ) (entity : Entity) → slice_get u.entities.items e ≡ Some entity → IsMade e entity
  made e entity at =
      let (d, what, declared, number) = r.no_other_entity e (slice_get_within u.entities.items e entity at) in
      let (f, other, numbered, there, is) = r.each_declared d what declared in
      let same : f ≡ e = some_one (sym numbered ∙ number) in
      let one : other ≡ entity = some_one (sym there ∙ (ap (slice_get u.entities.items) same ∙ at)) in
      record { leaf = d; what = what; declared = declared; number = number; is = subst (λ (x : Entity). IsEntityOf r.numbering u s.unit what x) one is }

  body_placed : (i : ℕ) → IsBody u i → Placed i
  body_placed i (e, entity, at, body) =
      let m = made e entity at in
      by_body m.what.body i (subst (λ (o : Option ℕ). SameBody r.numbering u m.what.body o) body m.is.body) (declared_body s r.senses r.are_senses m.leaf m.what m.declared)

  placed_from : (fuel i : ℕ) → i < length u.nodes.items → length u.nodes.items ≤ i + fuel → Placed i
  placed_from zero i lt enough = absurd (omega arith)
  placed_from (suc fuel) i lt enough = elim (r.no_other_node i lt) [
    | inl body ↦ body_placed i body
    | inr (p, (k, child)) ↦
        let (node, is, at) = child_of_some (slice_get u.nodes.items p) k i child in
        let before = below_at node.children p k i (r.valid.trees.in_range.children p node is) at in
        below_placed p k i (placed_from fuel p (slice_get_within u.nodes.items p node is) (omega arith)) child
  ]

  placed : (i : ℕ) (node : Node) → slice_get u.nodes.items i ≡ Some node → Placed i
  placed i node at = let lt = slice_get_within u.nodes.items i node at in placed_from (length u.nodes.items) i lt (omega arith)

  node_at : (i : ℕ) (node : Node) → slice_get u.nodes.items i ≡ Some node → Placed i → IsAt s node.place
  unfolding Placed
  node_at i node at h = by h.0 h.1 h.2
    where
      by : (c : Core) → StandsBy r.numbering u i c → OfSource s c → IsAt s node.place
      by (Of kind place type under) stands of =
          let same : stands.0 ≡ node = some_one (sym stands.1 ∙ at) in
          let own : stands.0.place ≡ place = stands.3 in
          subst (λ (x : Place). IsAt s x) (sym own ∙ ap (λ (x : Node). x.place) same) (fine_at s kind place of.0)

  at_narrow : (place : Place) → IsAt s place → IsNarrow place
  at_narrow place h = subst IsNarrow (sym h.1) (narrow s cut h.0)

  -- a literal's entity has a node that makes it
  has_literal : (d e : ℕ) (c : Core) → IsLiteralOf s r.senses d c → r.numbering d ≡ Some e → is_literal u.nodes.items e ≡ true
  has_literal d e c h number =
      let (f, what, body, named, is, inside) = h.1 in
      let (g, entity, own_number, there, entity_is) = r.each_declared f what (inl named) in
      let stands = body_stands r.numbering u body entity.body (subst (λ (o : Option Core). SameBody r.numbering u o entity.body) is entity_is.body) in
      let below = within_stands r.numbering u s r.senses inside stands.0 stands.1 in
      let (node, at, kind) = literal_stands r.numbering u c d e below.0 h.0 below.1 number in
      node_is_literal r.numbering u e below.0 node at kind

  -- a local is known by its leaf
  record HasLeaf (e : ℕ) (y : Entity) : Type 0 where
    leaf : ℕ
    number : r.numbering leaf ≡ Some e
    token : HasToken s leaf
    place : y.place ≡ place_at s leaf

  local_leaf : (e : ℕ) (y : Entity) → IsLocalOf u e y → HasLeaf e y
  local_leaf e y h = by (made e y h.entity)
    where
      by_kind : (m : IsMade e y) → IsDeclaredAt s r.senses m.leaf m.what → HasLeaf e y
      by_kind m (inr l) = absurd (let yes = has_literal m.leaf e l.0 l.1 m.number in let no = h.plain in let never : true ≡ false = sym yes ∙ no in cc)
      by_kind m (inl named) =
          let told = named_as s r.senses r.are_senses m.leaf m.what named in
          let linkage : linkage_of s (sense_of s r.senses) m.leaf ≡ Local = ap (λ (w : right.Declared). w.linkage) told.as_is ∙ (sym m.is.linkage ∙ h.local) in
          let own : representative s r.senses m.leaf ≡ m.leaf = own_leaf s r.senses r.are_senses m.leaf linkage in
          record {
            leaf = m.leaf;
            number = m.number;
            token = (name_token s m.leaf (name_at s r.senses r.are_senses m.leaf m.what told)).0;
            place = m.is.place ∙ (sym (ap (λ (w : right.Declared). w.place) told.as_is) ∙ ap (place_at s) own);
          }

      by : IsMade e y → HasLeaf e y
      by m = by_kind m m.declared

  -- so its name is a word
  local_word : (e : ℕ) (y : Entity) → IsLocalOf u e y → IsWord y.name
  local_word e y h = by (made e y h.entity)
    where
      by_kind : (m : IsMade e y) → IsDeclaredAt s r.senses m.leaf m.what → IsWord y.name
      by_kind m (inr l) = absurd (let yes = has_literal m.leaf e l.0 l.1 m.number in let no = h.plain in let never : true ≡ false = sym yes ∙ no in cc)
      by_kind m (inl named) =
          let told = named_as s r.senses r.are_senses m.leaf m.what named in
          subst IsWord (ap (λ (w : right.Declared). w.name) told.as_is ∙ sym m.is.name) (words_spelled s tokens m.leaf (name_at s r.senses r.are_senses m.leaf m.what told))

      by : IsMade e y → IsWord y.name
      by m = by_kind m m.declared

  -- so is a literal, by its parenthesis
  literal_at : (e j : ℕ) (node : Node) → slice_get u.nodes.items j ≡ Some node → node.kind ≡ Literal e → Placed j → (d : ℕ) × (r.numbering d ≡ Some e) × IsOpening s d
  unfolding Placed
  literal_at e j node at is h = by h.0 h.1 h.2
    where
      by : (c : Core) → StandsBy r.numbering u j c → OfSource s c → (d : ℕ) × (r.numbering d ≡ Some e) × IsOpening s d
      by (Of kind place type under) stands of =
          let same : stands.0.kind ≡ Literal e = ap (λ (x : Node). x.kind) (some_one (sym stands.1 ∙ at)) ∙ is in
          literal_back r.numbering u s kind place e (subst (λ (x : NodeKind). SameKind r.numbering kind x) same stands.2) of.0

  literal_leaf : (e : ℕ) (y : Entity) → slice_get u.entities.items e ≡ Some y → is_literal u.nodes.items e ≡ true → HasLeaf e y
  literal_leaf e y there h = by (made e y there) (any_from (λ (x : Node). is_number e (literal_entity x.kind)) u.nodes.items h)
    where
      by_kind : (m : IsMade e y) → HasToken s m.leaf → y.linkage ≡ Local → IsDeclaredAt s r.senses m.leaf m.what → HasLeaf e y
      by_kind m token local (inl named) =
          let told = named_as s r.senses r.are_senses m.leaf m.what named in
          let linkage : linkage_of s (sense_of s r.senses) m.leaf ≡ Local = ap (λ (w : right.Declared). w.linkage) told.as_is ∙ (sym m.is.linkage ∙ local) in
          let own : representative s r.senses m.leaf ≡ m.leaf = own_leaf s r.senses r.are_senses m.leaf linkage in
          record {
            leaf = m.leaf;
            number = m.number;
            token = token;
            place = m.is.place ∙ (sym (ap (λ (w : right.Declared). w.place) told.as_is) ∙ ap (place_at s) own);
          }
      by_kind m token local (inr l) = record { leaf = m.leaf; number = m.number; token = token; place = m.is.place ∙ ap (λ (w : right.Declared). w.place) l.2 }

      by : IsMade e y → (j : ℕ) × (node : Node) × (slice_get u.nodes.items j ≡ Some node) × (is_number e (literal_entity node.kind) ≡ true) → HasLeaf e y
      by m (j, node, at, test) =
          let kind : node.kind ≡ Literal e = literal_kind e node.kind test in
          let (d, number, opening) = literal_at e j node at kind (placed j node at) in
          let one : d ≡ m.leaf = r.entity_once d m.leaf e number m.number in
          let local : HasNoLinkage (entity_at (trees_of u) e) = subst (λ (k : NodeKind). MakesUnlinked (trees_of u) k) kind (r.valid.linkages.nodes j node at).literal in
          by_kind m (subst (λ (x : ℕ). HasToken s x) one (cut.openings d opening)) (subst (λ (o : Option Entity). HasNoLinkage o) there local) m.declared

  same_places : (a b c d : Place) → a ≡ c → b ≡ d → SamePlace a b → SamePlace c d
  same_places a b c d p q h = subst (λ (x : Place). SamePlace x d) p (subst (λ (x : Place). SamePlace a x) q h)

  one_leafed : (e f : ℕ) (y z : Entity) → HasLeaf e y → HasLeaf f z → SamePlace y.place z.place → e ≡ f
  one_leafed e f y z a b same =
      let one : a.leaf ≡ b.leaf = one_place s cut a.leaf b.leaf a.token b.token (same_places y.place z.place (place_at s a.leaf) (place_at s b.leaf) a.place b.place same) in
      some_one (sym a.number ∙ (ap r.numbering one ∙ b.number))

  no_literal : (e : ℕ) (y : Entity) (m : IsMade e y) → y.linkage ≡ Internal → IsDeclaredAt s r.senses m.leaf m.what → declared_name s r.senses m.leaf ≡ Some m.what
  no_literal e y m h (inl named) = named
  no_literal e y m h (inr l) = absurd (let never : Local ≡ Internal = sym (ap (λ (w : right.Declared). w.linkage) l.2) ∙ (sym m.is.linkage ∙ h) in cc)

  one_named : (e f : ℕ) (y z : Entity) → IsMade e y → IsMade f z → y.linkage ≡ Internal → z.linkage ≡ Internal → y.name ≡ z.name → e ≡ f
  one_named e f y z m o p q same =
      let a = named_as s r.senses r.are_senses m.leaf m.what (no_literal e y m p m.declared) in
      let b = named_as s r.senses r.are_senses o.leaf o.what (no_literal f z o q o.declared) in
      let spelling : spelling_at s m.leaf ≡ spelling_at s o.leaf =
      ap (λ (w : right.Declared). w.name) a.as_is ∙ (sym m.is.name ∙ (same ∙ (o.is.name ∙ sym (ap (λ (w : right.Declared). w.name) b.as_is)))) in
      let one : m.leaf ≡ o.leaf =
      one_internal s r.senses r.are_senses m.leaf o.leaf m.what o.what a b (sym m.is.linkage ∙ p) (sym o.is.linkage ∙ q)
      (λ d g h k. cut.symbols m.leaf o.leaf d g (name_at s r.senses r.are_senses m.leaf m.what a) (name_at s r.senses r.are_senses o.leaf o.what b) spelling h k) in
      some_one (sym m.number ∙ (ap r.numbering one ∙ o.number))

  module _ (
      differ : (tag : ℕ) (parts : List Part) → members_under (completed_from s r.senses (sense_in r.senses) 0) tag ≡ Some parts → PartsDiffer parts
      ) (few : (tag : ℕ) (parts : List Part) → members_under (completed_from s r.senses (sense_in r.senses) 0) tag ≡ Some parts → length parts ≤ length s.tokens) where
    member_names : (tag : ℕ) (members : List MemberTerm) → tag < u.types.tags → members_in u.types tag ≡ Some members → HaveNames members
    member_names tag members lt e =
        let (d, is, number) = r.no_other_tag tag lt in
        let own : members_under (completed_from s r.senses (sense_of s r.senses) 0) tag ≡ Some (map (part_of u.types) members) =
        ap (members_under (completed_from s r.senses (sense_of s r.senses) 0)) (sym number) ∙ (sym (r.members d is) ∙ (ap (λ (k : ℕ). parts_in u.types (members_in u.types k)) number ∙ ap (parts_in u.types) e)) in
        let all = under_spelled s r.senses r.are_senses r.senses 0 tag (map (part_of u.types) members) own in
        let apart = differ tag (map (part_of u.types) members) own in
        let less = few tag (map (part_of u.types) members) own in
        let long = map_long u.types members in
        let short = few_located s.text 0 s.tokens cut.located in
        let text = cut.few in
        record {
          few = omega (arith, less, long, short, text);
          letters = λ k m name at named. spelled_letters s tokens m.name name named (part_spelled s u.types members k m all at);
          once = λ i j m n name at there p q. apart.once i j (part_of u.types m) (part_of u.types n) name (map_there u.types members i m at) (map_there u.types members j n there) p q;
        }

    pub named_unit : IsMadeOf is_unit_byte name → HasUnitNames u
    named_unit bytes = record {
      name = subst (λ (n : List ℕ). IsMadeOf is_unit_byte n) (sym r.named) bytes;
      entities = record {
        letters = λ e y at. let m = made e y at in subst (λ (n : List ℕ). IsMadeOf is_letter n) (sym m.is.name) (declared_letters s r.senses r.are_senses (names_spelled s tokens) m.leaf m.what m.declared);
        word = local_word;
        place = λ e y at. let m = made e y at in subst IsNarrow (sym m.is.place) (at_narrow m.what.place (declared_at s r.senses r.are_senses m.leaf m.what m.declared));
        internal = λ e f y z at there p q same. one_named e f y z (made e y at) (made f z there) p q same;
        local = λ e f y z a b same. one_leafed e f y z (local_leaf e y a) (local_leaf f z b) same;
        literal = λ e f y z a b p q same. one_leafed e f y z (literal_leaf e y a p) (literal_leaf f z b q) same;
      };
      nodes = record { place = λ i node at. at_narrow node.place (node_at i node at (placed i node at)) };
      members = λ tag members lt e. member_names tag members lt e;
    }
