-- An internal name that is defined as a function is known by that definition.
use Rattle.std.proofs.Common.{arith, ◌≡◌, ◌<◌, ℕ, ◌==◌, ◌&&◌, ◌||◌, nat_eq, not, Bool, true, false, cond, List, [], ◌∷◌, All, Option, Some, None, take, length, eq-eqb, refl, sym, ap, ◌∙◌, subst, ◌⊎◌, inl, inr}
use Rattle.std.specs.Prelude.{⊤, is_some, option_and_then, if◌then◌else◌}
use Rattle.std.specs.List.{find}
use Rattle.std.proofs.lemmas.Bool.{eqb-true}
use Rattle.std.proofs.lemmas.List.Elements.{All-head, All-tail}
use Rattle.c_grammar.specs.Productions.{p_external, p_declaration, p_specs}
use Rattle.core_tree.specs.declared.node.Linkage.{Linkage}
use Rattle.core_tree.specs.declared.node.Linkage.TheVariants.{External, Internal, Local}
use Rattle.c_mentions.specs.Syntax as syntax
use Rattle.c_mentions.specs.Symbols.{symbol_of}
use Rattle.c_scope.specs.declared.kinds.Declared.{Declared}
use Rattle.c_scope.specs.Resolves.{bindings}
use Rattle.c_senses.specs.Tree.{Source, children_at, is_a, first_where}
use Rattle.c_senses.specs.Names.{ordinary_at, has_linkage, linked_before, made_before, scopes_at}
use Rattle.c_senses.specs.Declarators.{outermost_of, specs_of}
use Rattle.c_senses.specs.Entities.{is_linked, is_internal, is_internal_of, internal_among, keep, first_of, some_such, is_defined, initialiser_for, initialiser_of, entity_of, linkage_of, defines, internal_agrees}
use Rattle.c_senses.specs.Right.{of_internal, is_definition_at, is_tentative, representative}
use Rattle.c_senses.specs.Rows.{AreSenses}
use Rattle.c_senses.specs.Sense.{Sense, sense_in}
use Rattle.declaration_laws.specs.definition_laws.linkage_laws.PassedOn.{is_definition}
use Rattle.core_node_laws.specs.passed.parsed_tree_laws.family_laws.Families.{Families}
use Rattle.core_node_laws.specs.passed.parsed_tree_laws.member_names.Differ.{InOrder}
use Rattle.declaration_laws.proofs.definition_laws.linkage_laws.Origins.{HasOrigin, origin, origins}
use Rattle.declaration_laws.proofs.definition_laws.linkage_laws.Seen.{nodes, some_same, no_both}
use Rattle.declaration_laws.proofs.definition_laws.linkage_laws.Linked.{Tree}
use Rattle.declaration_laws.specs.definition_laws.function_definitions.Defined.{Defines}
use Rattle.declaration_laws.proofs.definition_laws.function_definitions.Shapes.{Heads}
use Rattle.declaration_laws.proofs.definition_laws.function_definitions.Declaring.{declared_by_outermost, sign_is}
use Rattle.declaration_laws.proofs.definition_laws.function_definitions.Defining as defining
use Rattle.declaration_laws.proofs.declared_type_laws.owner_laws.internal_laws.Sorted as sorted
use Rattle.declaration_laws.proofs.declared_type_laws.owner_laws.internal_laws.Settled.{specs_settled}
use Rattle.declaration_laws.proofs.declared_type_laws.owner_laws.internal_laws.Same as same

abbrev In : Declared → List Declared → Type 0
In d [] = ⊥
In d (x ∷ xs) = (x ≡ d) ⊎ In d xs

in_has : (d : Declared) (ds : List Declared) → In d ds → same.Has d.node ds
in_has d [] h = absurd h
in_has d (x ∷ xs) (inl e) = inl (ap (λ (y : Declared). y.node) e)
in_has d (x ∷ xs) (inr h) = inr (in_has d xs h)

both : (a b : Bool) → (a && b) ≡ true → (a ≡ true) × (b ≡ true)
both true true e = (refl, refl)
both true false e = cc
both false b e = cc

and_of : (a b : Bool) → a ≡ true → b ≡ true → (a && b) ≡ true
and_of true true e f = refl
and_of true false e f = cc
and_of false b e f = cc

module _ (s : Source) (sense : ℕ → Sense) where
  -- the first of those that pass both tests, where none before it does
  first_kept : (ds : List Declared) (test next : Declared → Bool) (leaf x : ℕ) (y : Declared) → find (λ (d : Declared). d.node == leaf) ds ≡ Some y → test y ≡ true → next y ≡ true → ((d : Declared) → In d (made_before leaf ds) → test d ≡ true → next d ≡ true → ⊥)
      → first_of s sense x (keep s sense next (keep s sense test ds)) ≡ y.node
  first_kept [] test next leaf x y e t n none = cc
  first_kept (d ∷ ds) test next leaf x y e t n none = by (nat_eq d.node leaf) e none (λ f g. first_kept ds test next leaf x y f t n g)
    where
      here : (a : Bool) → a ≡ true → first_of s sense x (keep s sense next (d ∷ keep s sense test ds)) ≡ d.node → first_of s sense x (keep s sense next (if a then d ∷ keep s sense test ds else keep s sense test ds)) ≡ d.node
      here true e k = k
      here false e k = cc

      first : (b : Bool) (more : List Declared) → b ≡ true → first_of s sense x (if b then d ∷ more else more) ≡ d.node
      first true more e = refl
      first false more e = cc

      skip : (a b : Bool) → test d ≡ a → next d ≡ b → (test d ≡ true → next d ≡ true → ⊥) → first_of s sense x (keep s sense next (keep s sense test ds)) ≡ y.node
          → first_of s sense x (keep s sense next (if a then d ∷ keep s sense test ds else keep s sense test ds)) ≡ y.node
      skip true true e f never later = absurd (never e f)
      skip true false e f never later = ap (λ (b : Bool). first_of s sense x (if b then d ∷ keep s sense next (keep s sense test ds) else keep s sense next (keep s sense test ds))) f ∙ later
      skip false b e f never later = later

      by : (b : Bool) → cond b (Some d) (find (λ (z : Declared). z.node == leaf) ds) ≡ Some y → ((z : Declared) → In z (if b then [] else d ∷ made_before leaf ds) → test z ≡ true → next z ≡ true → ⊥)
          → (find (λ (z : Declared). z.node == leaf) ds ≡ Some y → ((z : Declared) → In z (made_before leaf ds) → test z ≡ true → next z ≡ true → ⊥) → first_of s sense x (keep s sense next (keep s sense test ds)) ≡ y.node)
          → first_of s sense x (keep s sense next (keep s sense test (d ∷ ds))) ≡ y.node
      by true f none later =
          let is : d ≡ y = cc in
          here (test d) (ap test is ∙ t) (first (next d) (keep s sense next (keep s sense test ds)) (ap next is ∙ n)) ∙ ap (λ (z : Declared). z.node) is
      by false f none later = skip (test d) (next d) refl refl (none d (inl refl)) (later f (λ z i. none z (inr i)))

  such_true : (test pick : Declared → Bool) (ds : List Declared) (d : Declared) → In d ds → test d ≡ true → pick d ≡ true → some_such s sense pick (keep s sense test ds) ≡ true
  such_true test pick [] d h t p = absurd h
  such_true test pick (x ∷ xs) d h t p = by (test x) refl h (λ more. such_true test pick xs d more t p)
    where
      or_then : (a b : Bool) → b ≡ true → (a || b) ≡ true
      or_then true b e = refl
      or_then false b e = e

      by : (b : Bool) → test x ≡ b → (x ≡ d) ⊎ In d xs → (In d xs → some_such s sense pick (keep s sense test xs) ≡ true) → some_such s sense pick (if b then x ∷ keep s sense test xs else keep s sense test xs) ≡ true
      by true e (inl same) later = ap (λ (c : Bool). c || some_such s sense pick (keep s sense test xs)) (ap pick same ∙ p)
      by true e (inr more) later = or_then (pick x) _ (later more)
      by false e (inl same) later = absurd (no_both (test x) (ap test same ∙ t) e)
      by false e (inr more) later = later more

module _ (s : Source) (tree : Tree s) (families : Families s) (order : InOrder s) (only : (q : ℕ) (k : ℕ) (ks : List ℕ) → (is_a s p_external q ≡ true) ⊎ (is_a s p_declaration q ≡ true) → children_at s q ≡ k ∷ ks → first_where (is_a s p_specs) ks ≡ None)
    (senses : List Sense) (are : AreSenses s senses) (whole : length senses ≡ length s.nodes) (d : ℕ) (is : is_definition s d ≡ true) (heads : Heads s.tokens (nodes s) (children_at s d)) where
  abbrev D : ℕ
  D = heads.declarator

  abbrev f : ℕ → Sense
  f i = sense_in senses i

  abbrev before : ℕ → Sense
  before = sense_in (take heads.declarator senses)

  abbrev ordinary : List Declared
  ordinary = s.declared.ordinary

  settles : (y : Declared) (h : HasOrigin s.text s.tokens (nodes s) y) → has_linkage y ≡ true → (c : ℕ) → option_and_then (specs_of s) (outermost_of s y.node) ≡ Some c → c < h.node
  settles = specs_settled s tree families order only

  g : ℕ
  g = (defining.fn s tree senses are whole d is heads).name

  y : Declared
  y = defining.y s tree senses are whole d is heads

  at_name : ordinary_at s g ≡ Some y
  unfolding g y
  at_name = defining.at_name s tree senses are whole d is heads

  found : find (λ (x : Declared). x.node == g) (bindings s.text s.tokens (nodes s)).names ≡ Some y
  found = subst (λ (ds : List Declared). find (λ (x : Declared). x.node == g) ds ≡ Some y) tree.names at_name

  node_is : y.node ≡ g
  node_is = (origin s.text s.tokens (nodes s) g y found).1

  own_at : (h : HasOrigin s.text s.tokens (nodes s) y) → h.node ≡ heads.declarator
  unfolding g
  own_at h = declared_by_outermost s tree.grown y heads.declarator g (defining.outer s tree senses are whole d is heads) (defining.reached s tree senses are whole d is heads) h node_is

  made : same.Before s heads.declarator senses settles (made_before g ordinary)
  made =
      let all = sorted.all_sorted s.text s.tokens (nodes s) in
      let told = (sorted.before_leaf s.text s.tokens (nodes s) g heads.declarator 0 all.0 (bindings s.text s.tokens (nodes s)).names y all.1 found own_at).0 in
      subst (λ (ds : List Declared). same.Before s heads.declarator senses settles (made_before g ds)) (sym tree.names) told

  -- ---- symbols

  abbrev symbol : ℕ → ℕ
  symbol leaf = symbol_of s.text s.tokens (syntax.token_at (nodes s) leaf)

  signed : (x : Declared) → HasOrigin s.text s.tokens (nodes s) x → symbol x.node ≡ x.symbol
  signed x h =
      let sign = sign_is s.tokens (nodes s) s.text (symbol_of s.text s.tokens) h.node h.standing.role h.leaf h.symbol h.linkage h.derivation h.type_name (_) h.mentions in
      let node : x.node ≡ h.leaf = ap (λ (z : Declared). z.node) h.is in
      let own : x.symbol ≡ h.symbol = ap (λ (z : Declared). z.symbol) h.is in
      ap symbol node ∙ (sym sign ∙ sym own)

  abbrev AllSigned : List Declared → Type 0
  AllSigned [] = ⊤
  AllSigned (x ∷ xs) = (symbol x.node ≡ x.symbol) × AllSigned xs

  all_signed : (ds : List Declared) → All (HasOrigin s.text s.tokens (nodes s)) ds → AllSigned ds
  all_signed [] h = tt
  all_signed (x ∷ xs) h = (signed x (All-head (HasOrigin s.text s.tokens (nodes s)) x xs h), all_signed xs (All-tail (HasOrigin s.text s.tokens (nodes s)) x xs h))

  ordinary_signed : AllSigned ordinary
  ordinary_signed = subst AllSigned (sym tree.names) (all_signed (bindings s.text s.tokens (nodes s)).names (origins s.text s.tokens (nodes s)))

  abbrev test : Declared → Bool
  test = is_internal_of s f y.symbol

  module _ (own : is_internal s f g ≡ true) where
    linked : has_linkage y ≡ true
    linked = sym (ap (λ (o : Option Declared). elim o as (λ _. Bool) [ None ↦ false | Some z ↦ has_linkage z ]) at_name) ∙ (both (is_linked s f g) _ own).0

    -- the entity of the name is internal, and has its symbol
    first_is : (ds : List Declared) → AllSigned ds → (is_internal s f (first_of s f g (keep s f test ds)) ≡ true) × (symbol (first_of s f g (keep s f test ds)) ≡ y.symbol)
    first_is [] h = (own, ap symbol (sym node_is) ∙ signed y (origin s.text s.tokens (nodes s) g y found).0)
    first_is (x ∷ xs) h = by (test x) refl (first_is xs h.1)
      where
        by : (b : Bool) → test x ≡ b → (is_internal s f (first_of s f g (keep s f test xs)) ≡ true) × (symbol (first_of s f g (keep s f test xs)) ≡ y.symbol)
            → (is_internal s f (first_of s f g (if b then x ∷ keep s f test xs else keep s f test xs)) ≡ true) × (symbol (first_of s f g (if b then x ∷ keep s f test xs else keep s f test xs)) ≡ y.symbol)
        by true e later = let t = both (nat_eq x.symbol y.symbol) (is_internal s f x.node) e in (t.1, h.0 ∙ eqb-true x.symbol y.symbol t.0)
        by false e later = later

    entity_is : entity_of s f g ≡ first_of s f g (keep s f test ordinary)
    entity_is = ap (λ (b : Bool). if b then first_of s f g (internal_among s f ordinary (ordinary_at s g)) else g) own ∙ ap (λ (o : Option Declared). first_of s f g (internal_among s f ordinary o)) at_name

    entity_internal : is_internal s f (entity_of s f g) ≡ true
    entity_internal = subst (λ (k : ℕ). is_internal s f k ≡ true) (sym entity_is) (first_is ordinary ordinary_signed).0

    entity_symbol : symbol (entity_of s f g) ≡ y.symbol
    entity_symbol = subst (λ (k : ℕ). symbol k ≡ y.symbol) (sym entity_is) (first_is ordinary ordinary_signed).1

    -- all declarations of the entity's name are those of the name
    same_internal : of_internal s senses (entity_of s f g) ≡ keep s f test ordinary
    same_internal = by (ordinary_at s (entity_of s f g)) refl (both (is_linked s f (entity_of s f g)) _ entity_internal).0
      where
        by : (o : Option Declared) → ordinary_at s (entity_of s f g) ≡ o → (elim o as (λ _. Bool) [ None ↦ false | Some z ↦ has_linkage z ]) ≡ true → internal_among s f ordinary o ≡ keep s f test ordinary
        by None e h = cc
        by (Some z) e h =
            let there = origin s.text s.tokens (nodes s) (entity_of s f g) z (subst (λ (ds : List Declared). find (λ (x : Declared). x.node == entity_of s f g) ds ≡ Some z) tree.names e) in
            let sign : z.symbol ≡ y.symbol = sym (signed z there.0) ∙ (ap symbol there.1 ∙ entity_symbol) in
            ap (λ (k : ℕ). keep s f (is_internal_of s f k) ordinary) sign

    -- ---- none before it defines the name

    before_made : (z : Declared) → z.node ≡ g → same.Before s heads.declarator senses settles (made_before z.node ordinary)
    before_made z e = subst (λ (k : ℕ). same.Before s heads.declarator senses settles (made_before k ordinary)) (sym e) made

    own_settled : same.Settled s heads.declarator senses settles g
    own_settled c e =
        let h = (origin s.text s.tokens (nodes s) g y found).0 in
        subst (λ (k : ℕ). c < k) (own_at h) (settles y h linked c (ap (λ (k : ℕ). option_and_then (specs_of s) (outermost_of s k)) node_is ∙ e))

    own_before : is_internal s before g ≡ true
    own_before =
        sym (same.internal_same s heads.declarator senses settles g own_settled
        (subst (λ (o : Option Declared). same.AllSettled s heads.declarator senses settles (linked_before s o)) (sym at_name) (same.along_settled s heads.declarator senses settles (scopes_at s y.node) y.symbol (made_before y.node ordinary) (before_made y node_is)))) ∙ own

    other_before : (x : Declared) → In x (made_before g ordinary) → is_internal s f x.node ≡ true → is_internal s before x.node ≡ true
    other_before x i internal = by (ordinary_at s x.node) refl (both (is_linked s f x.node) _ internal).0
      where
        by : (o : Option Declared) → ordinary_at s x.node ≡ o → (elim o as (λ _. Bool) [ None ↦ false | Some z ↦ has_linkage z ]) ≡ true → is_internal s before x.node ≡ true
        by None e h = cc
        by (Some z) e h =
            let has = in_has x (made_before g ordinary) i in
            let there = same.found_before s heads.declarator senses settles g x.node ordinary z has made e in
            let settled : same.Settled s heads.declarator senses settles x.node = λ c k.
            let small = settles z there.0 h c (ap (λ (j : ℕ). option_and_then (specs_of s) (outermost_of s j)) there.2 ∙ k) in
            let lt = there.1 in omega (arith, small, lt) in
            let earlier = subst (λ (j : ℕ). same.Before s heads.declarator senses settles (made_before j ordinary)) (sym there.2) (same.earlier_before s heads.declarator senses settles g x.node ordinary has made) in
            sym (same.internal_same s heads.declarator senses settles x.node settled
            (subst (λ (o : Option Declared). same.AllSettled s heads.declarator senses settles (linked_before s o)) (sym e) (same.along_settled s heads.declarator senses settles (scopes_at s z.node) z.symbol (made_before z.node ordinary) earlier))) ∙ internal

    -- the row of the definition asks that
    none_before : (x : Declared) → In x (made_before g ordinary) → test x ≡ true → is_definition_at s senses x ≡ true → ⊥
    unfolding g
    none_before x i t q =
        let asked = defining.row_asks s tree senses are whole d is heads in
        let parts = both (nat_eq x.symbol y.symbol) (is_internal s f x.node) t in
        let now = and_of (nat_eq x.symbol y.symbol) (is_internal s before x.node) parts.0 (other_before x i parts.1) in
        let some = such_true s before (is_internal_of s before y.symbol) (λ z. defines (defining.w s tree senses are whole d is heads) s before z.node) (made_before g ordinary) x i now q in
        let listed : some_such s before (λ z. defines (defining.w s tree senses are whole d is heads) s before z.node) (internal_among s before (made_before g ordinary) (ordinary_at s g)) ≡ true
        = ap (λ (o : Option Declared). some_such s before (λ z. defines (defining.w s tree senses are whole d is heads) s before z.node) (internal_among s before (made_before g ordinary) o)) at_name ∙ some in
        refuse (internal_agrees (defining.w s tree senses are whole d is heads) s before asked.0 g) (is_internal s before g) (is_some (initialiser_of s before heads.declarator)) (is_defined s before g)
        (some_such s before (λ z. defines (defining.w s tree senses are whole d is heads) s before z.node) (internal_among s before (made_before g ordinary) (ordinary_at s g))) own_before (defining.defined_is s tree senses are whole d is heads) listed asked.2
      where
        refuse : (a b c e m : Bool) → b ≡ true → e ≡ true → m ≡ true → (a && (not b || not ((c || e) && m))) ≡ true → ⊥
        refuse true true true true true x1 x2 x3 h = cc
        refuse true true false true true x1 x2 x3 h = cc
        refuse false b c e m x1 x2 x3 h = cc
        refuse true false c e m x1 x2 x3 h = cc
        refuse true true true false m x1 x2 x3 h = cc
        refuse true true false false m x1 x2 x3 h = cc
        refuse true true true true false x1 x2 x3 h = cc
        refuse true true false true false x1 x2 x3 h = cc

    known_is : representative s senses (entity_of s f g) ≡ g
    unfolding g
    known_is =
        let linkage : linkage_of s f (entity_of s f g) ≡ Internal = ap (λ (b : Bool). if b then Internal else (if is_linked s f (entity_of s f g) then External else Local)) entity_internal in
        let e0 = entity_of s f g in
        let defined : is_definition_at s senses y ≡ true = ap (λ (k : ℕ). is_defined s f k || is_some (initialiser_for s f k)) node_is ∙ ap (λ (b : Bool). b || is_some (initialiser_for s f g)) (defining.defined_is s tree senses are whole d is heads) in
        let passes : test y ≡ true = and_of (nat_eq y.symbol y.symbol) (is_internal s f y.node) (eq-eqb y.symbol y.symbol refl) (ap (λ (k : ℕ). is_internal s f k) node_is ∙ own) in
        ap (λ (l : Linkage). elim l as (λ _. ℕ) [ Internal ↦ first_of s f (first_of s f e0 (keep s f (is_tentative s senses) (of_internal s senses e0))) (keep s f (is_definition_at s senses) (of_internal s senses e0)) | _ ↦ e0 ]) linkage
        ∙ (ap (λ (ds : List Declared). first_of s f (first_of s f e0 (keep s f (is_tentative s senses) (of_internal s senses e0))) (keep s f (is_definition_at s senses) ds)) same_internal
        ∙ (first_kept s f ordinary test (is_definition_at s senses) g (first_of s f e0 (keep s f (is_tentative s senses) (of_internal s senses e0))) y at_name passes defined none_before ∙ node_is))

  pub known : (h : Defines s senses d) → is_internal s f h.name ≡ true → representative s senses (entity_of s f h.name) ≡ h.name
  unfolding g
  known h internal =
      let same_name : h.name ≡ g = some_same (sym h.named ∙ defining.named s tree senses are whole d is heads) in
      subst (λ (k : ℕ). is_internal s f k ≡ true → representative s senses (entity_of s f k) ≡ k) (sym same_name) known_is internal
