-- What the name of a definition declares.
use Rattle.std.proofs.Common.{arith, ◌≡◌, ◌<◌, ℕ, suc, ◌||◌, ◌&&◌, ◌==◌, nat_eq, not, Bool, true, false, List, ◌∷◌, Option, Some, None, take, length, slice_get, eq-eqb, refl, sym, ap, ◌∙◌, subst, ◌⊎◌, inl, inr}
use Rattle.std.specs.Prelude.{is_some, option_and_then, option_map, if◌then◌else◌}
use Rattle.std.specs.List.{find}
use Rattle.c_types.specs.Trees.{Ctype, Ctypes, FunctionFrom}
use Rattle.c_types.specs.declared.term.Form.{Form}
use Rattle.c_grammar.specs.Productions.{p_external, p_rest, p_specs, p_field, p_parameter, p_block, p_declarator, p_abstract, p_either}
use Rattle.c_grammar.specs.Words.{word_extern, word_static}
use Rattle.c_grammar.specs.Terminals.{contains}
use Rattle.c_grammar.specs.Reads.{Node}
use Rattle.c_mentions.specs.declared.declarators.Derivation.{Derivation as Derived}
use Rattle.c_mentions.specs.declared.declarators.Derivation.TheVariants as derives
use Rattle.c_mentions.specs.declared.mentions.Linkage.{Linkage}
use Rattle.c_mentions.specs.declared.mentions.Linkage.TheVariants as linkage
use Rattle.c_mentions.specs.declared.mentions.Mention.TheVariants as mention
use Rattle.c_mentions.specs.declared.roles.Specifiers.{Specifiers}
use Rattle.c_mentions.specs.declared.roles.Role.TheVariants as role
use Rattle.c_mentions.specs.Syntax as syntax
use Rattle.c_mentions.specs.Declarators.{declarator}
use Rattle.c_mentions.specs.Mentions.{linkage_of}
use Rattle.c_mentions.specs.Roles.{specified}
use Rattle.c_mentions.specs.Settings.{Standing, standings, handed_down, outermost}
use Rattle.c_mentions.specs.Symbols.{symbol_of}
use Rattle.c_scope.specs.declared.kinds.Kind.{Kind}
use Rattle.c_scope.specs.declared.kinds.Kind.TheVariants.{Linked, Typedef}
use Rattle.c_scope.specs.declared.kinds.Declared.{Declared}
use Rattle.c_scope.specs.Known.{first_scope, kind_of, is_function}
use Rattle.c_scope.specs.Resolves.{bindings}
use Rattle.c_senses.specs.Tree.{Source, children_at, is_a, child_of, first_where, parent_of}
use Rattle.c_senses.specs.Names.{ordinary_at, is_linked_kind, is_typedef_kind, has_linkage, names_type}
use Rattle.c_senses.specs.Given.{Given, Fits}
use Rattle.c_senses.specs.World.{World, same_length}
use Rattle.c_senses.specs.Declarators.{is_declarator, is_outermost, outermost_of, declaration_around, specs_of, derived, adjusted, derivations, name_in}
use Rattle.c_senses.specs.Entities.{declaration_of, is_linked, is_parameter, is_defined, is_typedef, declares_function, specified as specified_in, specified_of, own_type, defined_name, with_length, derived_type, parameter_type, length_given_by, initialiser_for, initialiser_of, words_go, internal_fits, has_function_words, only_extern, is_in_for, has_storage, is_at_file, by_place, named_row, parameter_named}
use Rattle.c_senses.specs.Rows.{AreSenses, world_at}
use Rattle.c_senses.specs.Right.{is_declaring}
use Rattle.c_senses.specs.Sense.{Sense, IsSpecified, IsDeclarator, Specified, Derivation, sense_in}
use Rattle.declaration_laws.specs.definition_laws.linkage_laws.PassedOn.{is_definition}
use Rattle.core_node_laws.proofs.count_laws.passed.parsed_tree_laws.placed_laws.Climbing.{Grown}
use Rattle.declaration_laws.proofs.definition_laws.linkage_laws.Origins.{HasOrigin, origin, mentioned}
use Rattle.declaration_laws.proofs.definition_laws.linkage_laws.Standings.{HasParent, parents}
use Rattle.declaration_laws.proofs.definition_laws.linkage_laws.Seen.{nodes, some_same, no_both, production_is, production_same, children_are, child_is, node_has, node_within, apart, parent_is}
use Rattle.declaration_laws.proofs.definition_laws.linkage_laws.Chains.{Reached, name_reached}
use Rattle.declaration_laws.proofs.definition_laws.linkage_laws.Extern.{specs_sense}
use Rattle.declaration_laws.proofs.definition_laws.linkage_laws.Linked.{Tree}
use Rattle.declaration_laws.specs.definition_laws.function_definitions.Defined.{Defines}
use Rattle.declaration_laws.proofs.definition_laws.function_definitions.Shapes.{Heads}
use Rattle.declaration_laws.proofs.definition_laws.function_definitions.Mentioned as says
use Rattle.declaration_laws.proofs.definition_laws.function_definitions.Sensed as sensed
use Rattle.declaration_laws.proofs.definition_laws.function_definitions.Whole as whole_of
use Rattle.declaration_laws.proofs.definition_laws.function_definitions.Found as found
use Rattle.declaration_laws.proofs.definition_laws.function_definitions.Declaring.{declared_by_outermost}

-- a function's type has no length
no_length : (n : Option ℕ) (r : Ctype) (ps : Ctypes) (form : Form) → with_length n (FunctionFrom r ps form) ≡ FunctionFrom r ps form
no_length None r ps form = refl
no_length (Some n) r ps form = refl

left : (a b : Bool) → (a && b) ≡ true → a ≡ true
left true b e = refl
left false b e = cc

module _ (s : Source) (tree : Tree s) (senses : List Sense) (are : AreSenses s senses) (whole : length senses ≡ length s.nodes) (d : ℕ) (is : is_definition s d ≡ true) (heads : Heads s.tokens (nodes s) (children_at s d)) where
  abbrev pub grown : Grown s
  grown = tree.grown

  abbrev pub f : ℕ → Sense
  f i = sense_in senses i

  abbrev pub o : ℕ
  o = heads.declarator

  abbrev pub all : List Standing
  all = standings s.tokens (nodes s) 0 (nodes s)

  pub fn : whole_of.FunctionAt s senses grown are whole o
  fn = whole_of.function_is s senses grown are whole o heads.is

  pub node : (n : Node) × (slice_get (nodes s) o ≡ Some n) × (n.production ≡ 19)
  node = whole_of.function_node s senses grown are whole o heads.is

  pub external : is_a s p_external d ≡ true
  external = left (is_a s p_external d) (is_some (child_of s p_block d)) is

  production_o : syntax.production_at (nodes s) o ≡ 19
  production_o = ap syntax.production_of node.1 ∙ node.2

  declarator_o : is_a s p_declarator o ≡ true
  declarator_o = production_is s p_declarator o refl (ap (λ (p : ℕ). nat_eq p 19) production_o)

  child : contains (children_at s d) o ≡ true
  child = subst (λ (l : List ℕ). contains l o ≡ true) (sym heads.are) (by (nat_eq heads.specs o) (nat_eq o o) (eq-eqb o o refl))
    where
      by : (a b : Bool) → b ≡ true → (a || (b || contains heads.rest o)) ≡ true
      by true b e = refl
      by false true e = refl
      by false false e = cc

  parent : parent_of s o ≡ Some d
  parent = parent_is s grown d o child

  quiet : (i a : ℕ) → is_a s a i ≡ true → nat_eq a 19 ≡ false → nat_eq a 20 ≡ false → nat_eq a 21 ≡ false → is_declarator s i ≡ false
  quiet i a h x y z = by (is_a s 19 i) (is_a s 20 i) (is_a s 21 i) (apart s i a 19 h x) (apart s i a 20 h y) (apart s i a 21 h z)
    where
      by : (a b c : Bool) → a ≡ false → b ≡ false → c ≡ false → (a || b || c) ≡ false
      by true b c e f g = cc
      by false true c e f g = cc
      by false false true e f g = cc
      by false false false e f g = refl

  pub outer : is_outermost s o ≡ true
  outer = ap (λ (x : Option ℕ). is_declarator s o && elim x as (λ _. Bool) [ None ↦ true | Some p ↦ not (is_declarator s p) ]) parent ∙ by (is_a s p_declarator o) (is_declarator s d) declarator_o (quiet d p_external external refl refl refl)
    where
      by : (a b : Bool) → a ≡ true → b ≡ false → ((a || is_a s p_abstract o || is_a s p_either o) && not b) ≡ true
      by true true e f = cc
      by true false e f = refl
      by false b e f = cc

  said_name : (declarator s.tokens (nodes s) o).name ≡ Some fn.name
  unfolding declarator
  said_name = fn.says.name (suc o) (omega arith)

  said_derivation : (declarator s.tokens (nodes s) o).derivation ≡ derives.Function
  unfolding declarator
  said_derivation = fn.says.derivation (suc o) (omega arith)

  pub reached : Reached s grown o fn.name outer
  reached = name_reached s grown o fn.name outer (inl declarator_o) (node_within s p_declarator o declarator_o refl) said_name

  around_d : declaration_around s d ≡ Some d
  around_d = by (is_a s p_rest d) (is_a s p_field d) (apart s d p_external p_rest external refl) (apart s d p_external p_field external refl)
    where
      by : (a b : Bool) → a ≡ false → b ≡ false → (if a || b then parent_of s d else Some d) ≡ Some d
      by true b e f = cc
      by false true e f = cc
      by false false e f = refl

  declaration : declaration_of s f fn.name ≡ Some d
  declaration = ap (λ (x : Option ℕ). option_and_then (declaration_around s) (option_and_then (parent_of s) x)) reached.outermost ∙ (ap (option_and_then (declaration_around s)) parent ∙ around_d)

  specs_is : is_a s p_specs heads.specs ≡ true
  specs_is = production_is s p_specs heads.specs refl (ap (λ (p : ℕ). nat_eq p 6) (ap syntax.production_of heads.before_at ∙ heads.before_is))

  child_declarator : child_of s p_declarator d ≡ Some o
  child_declarator = ap (first_where (is_a s p_declarator)) heads.are ∙ by (is_a s p_declarator heads.specs) (is_a s p_declarator o) (apart s heads.specs p_specs p_declarator specs_is refl) declarator_o
    where
      by : (a b : Bool) → a ≡ false → b ≡ true → (if a then Some heads.specs else (if b then Some o else first_where (is_a s p_declarator) heads.rest)) ≡ Some o
      by true b e g = cc
      by false true e g = refl
      by false false e g = cc

  child_specs : child_of s p_specs d ≡ Some heads.specs
  child_specs = ap (first_where (is_a s p_specs)) heads.are ∙ ap (λ (b : Bool). if b then Some heads.specs else first_where (is_a s p_specs) (o ∷ heads.rest)) specs_is

  abbrev name_of_sense : Sense → Option ℕ
  name_of_sense x = elim x as (λ _. Option ℕ) [ IsDeclarator name ds ↦ name | _ ↦ None ]

  pub named : defined_name s f d ≡ Some fn.name
  named = ap (option_and_then (λ (x : ℕ). name_of_sense (f x))) child_declarator ∙ ap name_of_sense fn.sense

  is_declaring_name : is_declaring s senses fn.name ≡ true
  is_declaring_name =
      ap (λ (b : Bool). b && (elim (outermost_of s fn.name) as (λ _. Bool) [ None ↦ false | Some x ↦ elim (f x) as (λ _. Bool) [ IsDeclarator name ds ↦ same_length name (Some fn.name) | _ ↦ false ] ])) reached.named
      ∙ (ap (λ (y : Option ℕ). elim y as (λ _. Bool) [ None ↦ false | Some x ↦ elim (f x) as (λ _. Bool) [ IsDeclarator name ds ↦ same_length name (Some fn.name) | _ ↦ false ] ]) reached.outermost
      ∙ (ap (λ (y : Sense). elim y as (λ _. Bool) [ IsDeclarator name ds ↦ same_length name (Some fn.name) | _ ↦ false ]) fn.sense ∙ eq-eqb fn.name fn.name refl))

  -- ---- what the resolution of names says of it

  first_child_is : syntax.first_child (nodes s) d ≡ Some heads.specs
  first_child_is = ap syntax.first_of (children_are s d ∙ heads.are)

  standing : (st : Standing) × (slice_get all o ≡ Some st) × (st.role ≡ role.Declaration (specified s.tokens (nodes s) d heads.specs))
  standing = let st = found.stands_there s.text s.tokens (nodes s) o node.0 node.1 in (st.0, st.1, by st.0 (parents s.tokens (nodes s) o st.0 st.1))
    where
      by : (st : Standing) → ((st ≡ outermost (length (nodes s))) × ((k : ℕ) (n : Node) → o < k → slice_get (nodes s) k ≡ Some n → contains n.children o ≡ false)) ⊎ HasParent s.tokens (nodes s) o st → st.role ≡ role.Declaration (specified s.tokens (nodes s) d heads.specs)
      by st (inl none) = let n = node_has s d o child in absurd (no_both (contains n.0.children o) n.2 (none.1 d n.0 (grown.before d o child) n.1))
      by st (inr h) =
          let same : h.parent ≡ d = grown.once h.parent d o (child_is s h.parent o h.node h.there h.child) child in
          let hands = found.external_hands s.text s.tokens (nodes s) d heads.specs h.above.role (production_same s p_external d refl external) first_child_is in
          ap (λ (x : Standing). x.role) h.is ∙ (ap (λ (k : ℕ). (handed_down s.tokens (nodes s) k h.above).role) same ∙ hands)

  abbrev specifiers : Specifiers
  specifiers = specified s.tokens (nodes s) d heads.specs

  abbrev symbol : ℕ
  symbol = symbol_of s.text s.tokens (syntax.token_at (nodes s) fn.name)

  mentions : mentioned s.text s.tokens (nodes s) o standing.0 ≡ mention.Declares fn.name symbol (linkage_of specifiers) (declarator s.tokens (nodes s) o).derivation specifiers.type_name
  mentions = found.declarator_declares s.text s.tokens (nodes s) o fn.name standing.0 specifiers production_o no_name standing.2 said_name
    where
      no_name : syntax.is_name s.tokens (nodes s) o ≡ false
      no_name = ap syntax.is_identifier (says.node_kind_is s.tokens (nodes s) o 19 node.0 node.1 node.2 refl)

  entry : (y : Declared) × (find (λ (x : Declared). x.node == fn.name) (bindings s.text s.tokens (nodes s)).names ≡ Some y)
  entry = found.comes_out s.text s.tokens (nodes s) o standing.0 fn.name symbol (linkage_of specifiers) (declarator s.tokens (nodes s) o).derivation specifiers.type_name standing.1 mentions

  pub y : Declared
  y = entry.0

  pub at_name : ordinary_at s fn.name ≡ Some y
  unfolding y
  at_name = subst (λ (ds : List Declared). find (λ (x : Declared). x.node == fn.name) ds ≡ Some entry.0) (sym tree.names) entry.1

  record Own : Type 0 where
    origin_is : HasOrigin s.text s.tokens (nodes s) y
    linkage_is : origin_is.linkage ≡ linkage_of specifiers
    derivation_is : origin_is.derivation ≡ derives.Function

  same_mention : (a b p q : ℕ) (l m : Linkage) (u v : Derived) (x z : Option ℕ) → mention.Declares a p l u x ≡ mention.Declares b q m v z → (l ≡ m) × (u ≡ v)
  same_mention a b p q l m u v x z e = (cc, cc)

  own : Own
  unfolding y
  own =
      let h = origin s.text s.tokens (nodes s) fn.name entry.0 entry.1 in
      let at : h.0.node ≡ o = declared_by_outermost s grown entry.0 o fn.name outer reached h.0 h.1 in
      let same_standing : h.0.standing ≡ standing.0 = some_same (sym h.0.stands ∙ (ap (slice_get all) at ∙ standing.1)) in
      let told : mention.Declares h.0.leaf h.0.symbol h.0.linkage h.0.derivation h.0.type_name ≡ mention.Declares fn.name symbol (linkage_of specifiers) (declarator s.tokens (nodes s) o).derivation specifiers.type_name
      = sym h.0.mentions ∙ (ap (λ (k : ℕ). mentioned s.text s.tokens (nodes s) k h.0.standing) at ∙ (ap (mentioned s.text s.tokens (nodes s) o) same_standing ∙ mentions)) in
      let both = same_mention h.0.leaf fn.name h.0.symbol symbol h.0.linkage (linkage_of specifiers) h.0.derivation (declarator s.tokens (nodes s) o).derivation h.0.type_name specifiers.type_name told in
      record { origin_is = h.0; linkage_is = both.0; derivation_is = both.1 ∙ said_derivation }

  declares_one : y.is_function ≡ true
  declares_one = ap (λ (x : Declared). x.is_function) own.origin_is.is ∙ ap (λ (x : Derived). is_function own.origin_is.before.functions x own.origin_is.type_name) own.derivation_is

  kind_is : y.kind ≡ kind_of (linkage_of specifiers) (first_scope (length (nodes s)) own.origin_is.standing.scopes == length (nodes s)) true
  kind_is =
      ap (λ (x : Declared). x.kind) own.origin_is.is
      ∙ (ap (λ (l : Linkage). kind_of l (first_scope (length (nodes s)) own.origin_is.standing.scopes == length (nodes s)) (is_function own.origin_is.before.functions own.origin_is.derivation own.origin_is.type_name)) own.linkage_is
      ∙ ap (λ (x : Derived). kind_of (linkage_of specifiers) (first_scope (length (nodes s)) own.origin_is.standing.scopes == length (nodes s)) (is_function own.origin_is.before.functions x own.origin_is.type_name)) own.derivation_is)

  -- ---- what the rows say of it

  pub defined_is : is_defined s f fn.name ≡ true
  defined_is = ap (λ (x : Option ℕ). elim x as (λ _. Bool) [ None ↦ false | Some p ↦ is_a s p_external p && is_some (child_of s p_block p) ]) declaration ∙ is

  abbrev pub before : ℕ → Sense
  before = sense_in (take o senses)

  abbrev pub w : World
  w = world_at s (take o senses) o

  pub row_asks : (t : Ctype) × (words_go w s before (is_some (initialiser_of s before o)) fn.name ≡ true) × (internal_fits w s before (is_some (initialiser_of s before o) || is_defined s before fn.name) t fn.name ≡ true)
  row_asks =
      let n = node.0 in
      let row = sensed.row_is s senses grown are whole o 19 n node.1 node.2 in
      let name : name_in w s before n.children ≡ Some fn.name = declarator_name (name_in w s before n.children) (derivations w s before n.children) (f o) (whole_of.declarator_gives w s before o n.children (f o) row) fn.sense in
      let asked = whole_of.declarator_asks w s before o fn.name n.children (f o) outer name row in
      let ds = derivations w s before n.children in
      let g : Given Sense = Fits (IsDeclarator (Some fn.name) ds) in
      let told = whole_of.named_then w s before o fn.name (derived ds asked.0) g (f o) (placed (derived ds asked.0) (adjusted (derived ds asked.0)) g asked.2) in
      (derived ds asked.0, told.0, told.1)
    where
      declarator_name : (x : Option ℕ) (ds : List Derivation) (z : Sense) → IsDeclarator x ds ≡ z → z ≡ IsDeclarator (Some fn.name) fn.derivations_are → x ≡ Some fn.name
      declarator_name x ds z e h = let same : IsDeclarator x ds ≡ IsDeclarator (Some fn.name) fn.derivations_are = e ∙ h in cc

      placed : (t u : Ctype) (g : Given Sense) → by_place w s before o fn.name t u g ≡ Fits (f o) → named_row w s before o fn.name t g ≡ Fits (f o)
      placed t u g e =
          pick (is_a s p_field d) (is_a s p_parameter d) (apart s d p_external p_field external refl) (apart s d p_external p_parameter external refl)
          (subst (λ (x : Option ℕ). (elim x as (λ _. Given Sense) [ None ↦ g | Some p ↦ if is_a s p_field p then g else (if is_a s p_parameter p then parameter_named w s before o fn.name u g else named_row w s before o fn.name t g) ]) ≡ Fits (f o)) parent e)
        where
          pick : (a b : Bool) → a ≡ false → b ≡ false → (if a then g else (if b then parameter_named w s before o fn.name u g else named_row w s before o fn.name t g)) ≡ Fits (f o) → named_row w s before o fn.name t g ≡ Fits (f o)
          pick true b e h k = cc
          pick false true e h k = cc
          pick false false e h k = k

  no_type : is_typedef s f fn.name ≡ false
  no_type =
      by (has_function_words w s before fn.name) (is_typedef s before fn.name) (declares_function s before fn.name) (is_at_file s before fn.name) (is_some (initialiser_of s before o)) (has_storage s before word_extern fn.name) (only_extern w s before fn.name) (is_in_for w s before fn.name) (has_storage s before word_static fn.name)
      (is_defined s f fn.name) defined_is row_asks.1
    where
      by : (h t fun file init e only loop st def : Bool) → def ≡ true
          → (not (h && (t || not fun)) && (not (init && (t || (fun || (not file && e)))) && (not (fun && (not file && not only)) && (not (t && def) && not (loop && (t || (fun || (st || e)))))))) ≡ true → t ≡ false
      by h false fun file init e only loop st def d g = refl
      by true true fun file init e only loop st def d g = cc
      by false true fun file true e only loop st def d g = cc
      by false true true false false e false loop st def d g = cc
      by false true true false false e true loop st true d g = cc
      by false true true false false e true loop st false d g = cc
      by false true true true false e only loop st true d g = cc
      by false true true true false e only loop st false d g = cc
      by false true false file false e only loop st true d g = cc
      by false true false file false e only loop st false d g = cc

  linked_kind : y.kind ≡ Linked
  linked_kind = by specifiers.is_typedef specifiers.is_extern (first_scope (length (nodes s)) own.origin_is.standing.scopes == length (nodes s)) kind_is (ap (λ (x : Option Declared). elim x as (λ _. Bool) [ None ↦ false | Some z ↦ names_type z ]) (sym at_name) ∙ no_type)
    where
      by : (t e at : Bool) → y.kind ≡ kind_of (if t then linkage.Typedef else if e then linkage.External else linkage.Object) at true → is_typedef_kind y.kind ≡ false → y.kind ≡ Linked
      by true e at k none = absurd (let bad : is_typedef_kind Typedef ≡ false = sym (ap is_typedef_kind k) ∙ none in cc)
      by false true at k none = k
      by false false true k none = k
      by false false false k none = k

  linked_is : is_linked s f fn.name ≡ true
  linked_is = ap (λ (x : Option Declared). elim x as (λ _. Bool) [ None ↦ false | Some z ↦ has_linkage z ]) at_name ∙ ap is_linked_kind linked_kind

  function_is : declares_function s f fn.name ≡ true
  function_is =
      ap (λ (x : Option Declared). elim x as (λ _. Bool) [ None ↦ false | Some z ↦ z.is_function && not (names_type z) ]) at_name
      ∙ (ap (λ (b : Bool). b && not (is_typedef_kind y.kind)) declares_one ∙ ap (λ (k : Kind). not (is_typedef_kind k)) linked_kind)

  -- ---- its type

  no_parameter : is_parameter s f fn.name ≡ false
  no_parameter = ap (λ (x : Option ℕ). elim x as (λ _. Bool) [ None ↦ false | Some p ↦ is_a s p_parameter p ]) declaration ∙ apart s d p_external p_parameter external refl

  specs : (x : Specified) × (f heads.specs ≡ IsSpecified x)
  specs = let h = specs_sense s senses grown are whole heads.specs specs_is in (h.0, h.1)

  specified_is : specified_of s f fn.name ≡ Some specs.0
  specified_is =
      ap (λ (x : Option ℕ). specified_in s f (option_and_then (specs_of s) x)) reached.outermost
      ∙ (ap (λ (x : Option ℕ). specified_in s f (option_and_then (child_of s p_specs) (option_and_then (declaration_around s) x))) parent
      ∙ (ap (λ (x : Option ℕ). specified_in s f (option_and_then (child_of s p_specs) x)) around_d
      ∙ (ap (specified_in s f) child_specs ∙ ap (λ (z : Sense). elim z as (λ _. Option Specified) [ IsSpecified x ↦ Some x | _ ↦ None ]) specs.1)))

  result : Ctype
  result = derived fn.ends.before specs.0.type

  derived_is : derived_type s f (Some specs.0) (Some o) ≡ Some (FunctionFrom result fn.ends.parameters fn.ends.form)
  unfolding result
  derived_is = ap (λ (z : Sense). elim z as (λ _. Option Ctype) [ IsDeclarator name ds ↦ Some (derived ds specs.0.type) | _ ↦ None ]) fn.sense ∙ ap (λ (t : Ctype). Some t) (sensed.derives_function fn.derivations_are specs.0.type fn.ends)

  type_is : own_type s f fn.name ≡ Some (FunctionFrom result fn.ends.parameters fn.ends.form)
  type_is =
      ap (λ (b : Bool). if b then parameter_type s f (declaration_of s f fn.name) else option_map (with_length (length_given_by s f (initialiser_for s f fn.name))) (derived_type s f (specified_of s f fn.name) (outermost_of s fn.name))) no_parameter
      ∙ (ap (λ (x : Option Specified). option_map (with_length (length_given_by s f (initialiser_for s f fn.name))) (derived_type s f x (outermost_of s fn.name))) specified_is
      ∙ (ap (λ (x : Option ℕ). option_map (with_length (length_given_by s f (initialiser_for s f fn.name))) (derived_type s f (Some specs.0) x)) reached.outermost
      ∙ (ap (option_map (with_length (length_given_by s f (initialiser_for s f fn.name)))) derived_is
      ∙ ap (λ (t : Ctype). Some t) (no_length (length_given_by s f (initialiser_for s f fn.name)) result fn.ends.parameters fn.ends.form))))

  pub defines : Defines s senses d
  defines = record {
    name = fn.name;
    named = named;
    declaring = is_declaring_name;
    declaration = declaration;
    function = function_is;
    linked = linked_is;
    result = result;
    parameters = fn.ends.parameters;
    form = fn.ends.form;
    type = type_is;
    declarator = o;
    part = child_declarator;
    outermost = reached.outermost;
    steps = fn.derivations_are;
    sense = fn.sense;
    ends = sensed.further_ends fn.derivations_are fn.ends;
  }
