-- What is seen of a name that isn't internal isn't either.
use Rattle.std.proofs.Common.{arith, ◌≡◌, ◌<◌, ◌==◌, ◌||◌, ◌&&◌, not, ℕ, nat_eq, Bool, true, false, List, [], ◌∷◌, map, Option, Some, None, length, slice_get, refl, sym, ap, ◌∙◌, subst, ◌⊎◌, inl, inr}
use Rattle.std.specs.Prelude.{is_some, option_and_then, if◌then◌else◌}
use Rattle.std.specs.List.{find}
use Rattle.std.proofs.lemmas.Bool.{eqb-true, eqb-false}
use Rattle.c_grammar.specs.declared.trees.SyntaxNode.{SyntaxNode}
use Rattle.c_grammar.specs.Reads.{node_of, leaf}
use Rattle.c_grammar.specs.Productions.{p_external}
use Rattle.c_grammar.specs.Terminals.{contains}
use Rattle.c_grammar.specs.Words.{word_extern, word_static}
use Rattle.c_mentions.specs.Settings.{Standing, standings}
use Rattle.c_scope.specs.declared.kinds.Kind.TheVariants.{Plain}
use Rattle.c_scope.specs.declared.kinds.Declared.{Declared}
use Rattle.c_scope.specs.Known.{first_scope, those_at}
use Rattle.c_scope.specs.Resolves.{bindings}
use Rattle.c_senses.specs.Tree.{Source, is_a}
use Rattle.c_senses.specs.Names.{is_linked_kind, has_linkage, ordinary_at, made_before, linked_before, before_in_scope, scopes_at}
use Rattle.c_senses.specs.World.{World}
use Rattle.c_senses.specs.Declarators.{outermost_of, specs_of}
use Rattle.c_senses.specs.Entities.{is_linked, is_at_file, is_typedef, has_storage, has_function_words, declares_function, is_without_storage, only_extern, takes_over, is_static_at_file, is_internal, some_such, specified_of, same_internal, initialiser_of, initialiser_for}
use Rattle.c_senses.specs.Sense.{Sense, Specified, sense_in}
use Rattle.core_node_laws.proofs.built_unit_laws.run_laws.Times.{known_at, world_of}
use Rattle.declaration_laws.proofs.declared_type_laws.plain_names.Later.{known_later, told, initialiser_same}
use Rattle.declaration_laws.proofs.declared_type_laws.owner_laws.passed.definition_laws.scope_laws.Scopes.{IsOf}
use Rattle.declaration_laws.specs.declared_type_laws.owner_laws.passed.definition_laws.linkage_laws.Linked.{StandsLinked}
use Rattle.declaration_laws.proofs.declared_type_laws.owner_laws.passed.definition_laws.linkage_laws.Origins.{HasOrigin, origin}
use Rattle.declaration_laws.proofs.declared_type_laws.owner_laws.passed.definition_laws.linkage_laws.Seen.{nodes, production_same}
use Rattle.declaration_laws.proofs.declared_type_laws.owner_laws.passed.definition_laws.linkage_laws.Linked.{Named, named, declaration_is, stands_linked}
use Rattle.declaration_laws.proofs.declared_type_laws.owner_laws.internal_laws.Sorted as sorted
use Rattle.declaration_laws.specs.declared_type_laws.seen_onward.Seen.{In}
use Rattle.declaration_laws.proofs.declared_type_laws.seen_onward.Lists.{IsSeen, seen, in_those, all_have}
use Rattle.declaration_laws.proofs.declared_type_laws.seen_onward.Made.{of_all}
use Rattle.declaration_laws.proofs.declared_type_laws.seen_onward.Around.{placed}
use Rattle.declaration_laws.proofs.declared_type_laws.declared_uses.Asked.{Text, IsLinked, entry, site}

no_both : (b : Bool) → b ≡ true → b ≡ false → ⊥
no_both b e f = let both : true ≡ false = sym e ∙ f in cc

two : (a b : Bool) → (a && b) ≡ true → (a ≡ true) × (b ≡ true)
two true true e = (refl, refl)
two true false e = cc
two false b e = cc

-- ---- what goes with a name

words_parts : (a b c d : Bool) → (a && (b && (c && d))) ≡ true → (b ≡ true) × (c ≡ true)
words_parts true true true d e = (refl, refl)
words_parts true true false d e = cc
words_parts true false c d e = cc
words_parts false b c d e = cc

only_where : (function file only : Bool) → not (function && (not file && not only)) ≡ true → function ≡ true → file ≡ false → only ≡ true
only_where true false true e f g = refl
only_where true false false e f g = cc
only_where true true only e f g = cc
only_where false file only e f g = cc

not_initialised : (initialised typedefs function file extern : Bool) → not (initialised && (typedefs || (function || (not file && extern)))) ≡ true → (function || extern) ≡ true → file ≡ false → initialised ≡ false
not_initialised false t f file x e h g = refl
not_initialised true true f file x e h g = cc
not_initialised true false true file x e h g = cc
not_initialised true false false false true e h g = cc
not_initialised true false false false false e h g = cc
not_initialised true false false true x e h g = cc

-- of one that passes
module _ (s : Source) (f : ℕ → Sense) where
  such_there : (test : Declared → Bool) (ds : List Declared) (d : Declared) → In d ds → test d ≡ true → some_such s f test ds ≡ true
  such_there test [] d h e = absurd h
  such_there test (x ∷ xs) d (inl same) e = ap (λ (b : Bool). b || some_such s f test xs) (ap test same ∙ e)
  such_there test (x ∷ xs) d (inr h) e = or_more (test x) (such_there test xs d h e)
    where
      or_more : (b : Bool) → some_such s f test xs ≡ true → (b || some_such s f test xs) ≡ true
      or_more true k = refl
      or_more false k = k

  such_from : (test : Declared → Bool) (ds : List Declared) → some_such s f test ds ≡ true → (d : Declared) × In d ds × (test d ≡ true)
  such_from test [] e = cc
  such_from test (x ∷ xs) e = by (test x) refl e (λ k. such_from test xs k)
    where
      by : (b : Bool) → test x ≡ b → (b || some_such s f test xs) ≡ true → (some_such s f test xs ≡ true → (d : Declared) × In d xs × (test d ≡ true)) → (d : Declared) × In d (x ∷ xs) × (test d ≡ true)
      by true is k later = (x, inl refl, is)
      by false is k later = let more = later k in (more.0, inr more.1, more.2)

  same_in : (w : World) (internal : Bool) (ds : List Declared) (d : Declared) → same_internal w s f internal ds ≡ true → In d ds → is_internal s f d.node ≡ internal
  same_in w internal [] d e h = absurd h
  same_in w internal (x ∷ xs) d e (inl same) = subst (λ (y : Declared). is_internal s f y.node ≡ internal) same (by (is_internal s f x.node) internal (two _ (same_internal w s f internal xs) e).0)
    where
      by : (a b : Bool) → (if a then b else not b) ≡ true → a ≡ b
      by true true k = refl
      by true false k = cc
      by false true k = cc
      by false false k = refl
  same_in w internal (x ∷ xs) d e (inr h) = same_in w internal xs d (two _ (same_internal w s f internal xs) e).1 h

count : (items : List SyntaxNode) → length (map node_of items) ≡ length items
count [] = refl
count (n ∷ items) = let more = count items in omega (arith, more)

module _ (s : Source) (senses : List Sense) (text : Text s senses) where
  abbrev g : ℕ → Sense
  g = sense_in senses

  abbrev Linked : Declared → Type 0
  Linked y = IsLinked s senses text y

  abbrev Origin : Declared → Type 0
  Origin y = HasOrigin s.text s.tokens (nodes s) y

  linked_is : (f : ℕ → Sense) (y : Declared) → Linked y → is_linked s f y.node ≡ true
  linked_is f y (there, linked) = ap (λ (o : Option Declared). elim o as (λ _. Bool) [ None ↦ false | Some z ↦ has_linkage z ]) (entry s senses text y there) ∙ linked

  -- ---- what is seen

  told_seen : (y z : Declared) → In z (linked_before s (Some y)) → IsSeen y.symbol (made_before y.node s.declared.ordinary) (scopes_at s y.node) z
  told_seen y z h = seen y.symbol (made_before y.node s.declared.ordinary) (scopes_at s y.node) z h

  pub seen_linked : (y z : Declared) → In z (linked_before s (Some y)) → Linked z × (z.symbol ≡ y.symbol)
  seen_linked y z h =
      let t = told_seen y z h in
      let there = in_those z.scope y.symbol (made_before y.node s.declared.ordinary) z t.there in
      ((of_all s.text s.tokens (nodes s) y.node s.declared.ordinary z there.0, all_have (those_at z.scope y.symbol (made_before y.node s.declared.ordinary)) z t.linked t.there), there.2)

  -- what is made before comes from nodes before
  made : (y : Declared) (l : Linked y) → sorted.BeforeAll s.text s.tokens (nodes s) (site s senses text y l).at (made_before y.node s.declared.ordinary)
  made y (there, linked) =
      let all = sorted.all_sorted s.text s.tokens (nodes s) in
      let found : find (λ (d : Declared). d.node == y.node) (bindings s.text s.tokens (nodes s)).names ≡ Some y = subst (λ (ds : List Declared). find (λ (d : Declared). d.node == y.node) ds ≡ Some y) text.tree.names (entry s senses text y there) in
      let told = (sorted.before_leaf s.text s.tokens (nodes s) y.node (site s senses text y (there, linked)).at 0 all.0 (bindings s.text s.tokens (nodes s)).names y all.1 found (λ h. some_same (sym (text.outer y h linked) ∙ (site s senses text y (there, linked)).declared.outermost))).0 in
      subst (λ (ds : List Declared). sorted.BeforeAll s.text s.tokens (nodes s) (site s senses text y (there, linked)).at (made_before y.node ds)) (sym text.tree.names) told
    where
      some_same : {a b : ℕ} → ◌≡◌ {A = Option ℕ} (Some a) (Some b) → a ≡ b
      some_same e = cc

  before_in : (n : ℕ) (ds : List Declared) (z : Declared) → sorted.BeforeAll s.text s.tokens (nodes s) n ds → In z ds → (h : Origin z) × (h.node < n)
  before_in n [] z h i = absurd i
  before_in n (x ∷ xs) z h (inl same) = subst (λ (y : Declared). (o : Origin y) × (o.node < n)) same (h.0, h.1)
  before_in n (x ∷ xs) z h (inr i) = before_in n xs z h.2 i

  -- ---- one linkage in a scope

  one_linkage : (y z : Declared) → Linked y → In z (linked_before s (Some y)) → z.scope ≡ y.scope → is_internal s g z.node ≡ is_internal s g y.node
  one_linkage y z l h same =
      let at = site s senses text y l in
      let m : ℕ = at.at in
      let f : ℕ → Sense = known_at s senses m in
      let w : World = world_of s senses m in
      let asked : same_internal w s f (is_internal s f y.node) (before_in_scope s (Some y)) ≡ true = by_linked (is_linked s f y.node) (same_internal w s f (is_internal s f y.node) (before_in_scope s (Some y))) (linked_is f y l)
      (subst (λ (o : Option Declared). (not (is_linked s f y.node) || same_internal w s f (is_internal s f y.node) (before_in_scope s o)) ≡ true) (entry s senses text y l.0) at.linkage) in
      let there : In z (before_in_scope s (Some y)) = subst (λ (n : ℕ). In z (those_at n y.symbol (made_before y.node s.declared.ordinary))) same (told_seen y z h).there in
      let told : is_internal s f z.node ≡ is_internal s f y.node = same_in s f w (is_internal s f y.node) (before_in_scope s (Some y)) z asked there in
      let o = before_in m (made_before y.node s.declared.ordinary) z (made y l) (in_those y.scope y.symbol (made_before y.node s.declared.ordinary) z there).0 in
      let outer = text.outer z o.0 (seen_linked y z h).0.1 in
      let lt = o.1 in
      sym (text.known z.node o.0.node m outer (omega (arith, lt))).internal ∙ (told ∙ (text.known y.node m m at.declared.outermost (omega arith)).internal)
    where
      by_linked : (a b : Bool) → a ≡ true → (not a || b) ≡ true → b ≡ true
      by_linked true b e k = k
      by_linked false b e k = cc

  -- ---- in a block

  file_scope : (y : Declared) → Linked y → is_at_file s g y.node ≡ true → y.scope ≡ length s.nodes
  file_scope y (there, linked) e = by (named s text.tree y.node y (entry s senses text y there))
    where
      own : Origin y
      own =
          let found : find (λ (d : Declared). d.node == y.node) (bindings s.text s.tokens (nodes s)).names ≡ Some y = subst (λ (ds : List Declared). find (λ (d : Declared). d.node == y.node) ds ≡ Some y) text.tree.names (entry s senses text y there) in
          (origin s.text s.tokens (nodes s) y.node y found).0

      some_same : {A : Type 0} → {a b : A} → ◌≡◌ {A = Option A} (Some a) (Some b) → a ≡ b
      some_same h = cc

      by : (y.kind ≡ Plain) ⊎ Named s text.tree y.node y → y.scope ≡ length s.nodes
      by (inl plain) = absurd (let bad : is_linked_kind Plain ≡ true = ap is_linked_kind (sym plain) ∙ linked in cc)
      by (inr n) =
          let node : own.node ≡ n.outer = some_same (sym (text.outer y own linked) ∙ n.reached.outermost) in
          let standing : own.standing ≡ n.standing = some_same (sym own.stands ∙ (ap (slice_get (standings s.tokens (nodes s) 0 (nodes s))) node ∙ n.stands)) in
          let external : is_a s p_external n.at.declaration ≡ true = sym (ap (λ (o : Option ℕ). elim o as (λ _. Bool) [ None ↦ false | Some p ↦ is_a s p_external p ]) (declaration_is s text.tree senses text.are text.whole y.node y n)) ∙ e in
          let is : IsOf s.tokens (nodes s) p_external n.at.declaration = ap (λ (q : ℕ). q == p_external) (production_same s p_external n.at.declaration refl external) in
          let flat = (placed s.tokens (nodes s) text.shape n.at.declaration n.at.at n.at.stands).external is in
          let scope : y.scope ≡ first_scope (length (nodes s)) own.standing.scopes = ap (λ (z : Declared). z.scope) own.is in
          scope ∙ (ap (λ (x : Standing). first_scope (length (nodes s)) x.scopes) standing ∙ (ap (first_scope (length (nodes s))) (n.at.scopes ∙ flat) ∙ count s.nodes))

  record InBlock (y : Declared) : Type 0 where
    takes : takes_over s g y.node ≡ true
    plain : is_some (initialiser_for s g y.node) ≡ false

  in_block : (y : Declared) → Linked y → (y.scope ≡ length s.nodes → ⊥) → InBlock y
  in_block y l off =
      let at = site s senses text y l in
      let m : ℕ = at.at in
      let f : ℕ → Sense = known_at s senses m in
      let w : World = world_of s senses m in
      let before : specified_of s f y.node ≡ Some at.declared.words = at.declared.told in
      let after : specified_of s g y.node ≡ Some at.declared.words = told s f g (known_later s senses m) (option_and_then (specs_of s) (outermost_of s y.node)) at.declared.words before in
      let same : specified_of s f y.node ≡ specified_of s g y.node = before ∙ sym after in
      let file : is_at_file s g y.node ≡ false = no_file (is_at_file s g y.node) (λ e. off (file_scope y l e)) in
      let extern_same : has_storage s f word_extern y.node ≡ has_storage s g word_extern y.node = ap (λ (o : Option Specified). elim o as (λ _. Bool) [ None ↦ false | Some x ↦ contains x.storage word_extern ]) same in
      let bare_same : is_without_storage s f y.node ≡ is_without_storage s g y.node = ap (λ (o : Option Specified). elim o as (λ _. Bool) [ None ↦ true | Some x ↦ elim x.storage as (λ _. Bool) [ [] ↦ true | word ∷ rest ↦ false ] ]) same in
      let stands : StandsLinked s g y.node = stands_linked s text.tree senses text.are text.whole y.node (linked_is g y l) in
      let either : (declares_function s g y.node || has_storage s g word_extern y.node) ≡ true = without_file (declares_function s g y.node) (is_at_file s g y.node) (has_storage s g word_extern y.node) file stands.declared in
      let parts = words_parts (not (has_function_words w s f y.node && (is_typedef s f y.node || not (declares_function s f y.node)))) _ (not (declares_function s f y.node && (not (is_at_file s f y.node) && not (only_extern w s f y.node)))) _ at.words in
      record {
        takes = taken (declares_function s g y.node) (is_at_file s f y.node) (is_without_storage s f y.node) (has_storage s f word_extern y.node) (is_without_storage s g y.node) (has_storage s g word_extern y.node) either file parts.1 bare_same extern_same;
        plain =
            ap is_some (ap (λ (o : Option ℕ). option_and_then (initialiser_of s g) o) at.declared.outermost ∙ sym (initialiser_same s f g m))
            ∙ not_initialised (is_some (initialiser_of s f m)) (is_typedef s f y.node) (declares_function s f y.node) (is_at_file s f y.node) (has_storage s f word_extern y.node) parts.0 (ap (λ (b : Bool). declares_function s f y.node || b) extern_same ∙ either) file;
      }
    where
      no_file : (b : Bool) → (b ≡ true → ⊥) → b ≡ false
      no_file true h = absurd (h refl)
      no_file false h = refl

      without_file : (a b c : Bool) → b ≡ false → (a || (b || c)) ≡ true → (a || c) ≡ true
      without_file true b c e h = refl
      without_file false true c e h = cc
      without_file false false c e h = h

      taken : (function file bare extern without word : Bool) → (function || word) ≡ true → file ≡ false → not (function && (not file && not (bare || extern))) ≡ true → bare ≡ without → extern ≡ word → (word || (function && without)) ≡ true
      taken function file bare extern without true h e k b x = refl
      taken true file bare extern without false h e k b x = last bare extern without (only_where true file (bare || extern) k refl e) b x
        where
          last : (p q r : Bool) → (p || q) ≡ true → p ≡ r → q ≡ false → r ≡ true
          last true q r i j n = sym j
          last false true r i j n = cc
          last false false r i j n = cc
      taken false file bare extern without false h e k b x = cc

  -- ---- what makes a name internal

  abbrev IsStatic : Declared → Type 0
  IsStatic d = is_static_at_file s g d.node ≡ true

  static_internal : (y : Declared) → Linked y → IsStatic y → is_internal s g y.node ≡ true
  static_internal y l e = by (is_linked s g y.node) (is_static_at_file s g y.node) _ (linked_is g y l) e
    where
      by : (a b c : Bool) → a ≡ true → b ≡ true → (a && (b || c)) ≡ true
      by true true c h k = refl
      by true false c h k = cc
      by false b c h k = cc

  -- a declaration that is static and seen makes it so
  pub by_static : (y z : Declared) → Linked y → In z (linked_before s (Some y)) → IsStatic z → is_internal s g y.node ≡ true
  by_static y z l h static = by (nat_eq z.scope y.scope) refl
    where
      by : (b : Bool) → nat_eq z.scope y.scope ≡ b → is_internal s g y.node ≡ true
      by true same = sym (one_linkage y z l h (eqb-true z.scope y.scope same)) ∙ static_internal z (seen_linked y z h).0 static
      by false other =
          let block = in_block y l (λ file. eqb-false z.scope y.scope other (text.sees.file y z l.0 l.1 file h ∙ sym file)) in
          let such : some_such s g (λ d. is_static_at_file s g d.node) (linked_before s (ordinary_at s y.node)) ≡ true
          = ap (λ (o : Option Declared). some_such s g (λ d. is_static_at_file s g d.node) (linked_before s o)) (entry s senses text y l.0) ∙ such_there s g (λ d. is_static_at_file s g d.node) (linked_before s (Some y)) z h static in
          pick (is_linked s g y.node) (is_static_at_file s g y.node) (takes_over s g y.node) (some_such s g (λ d. is_static_at_file s g d.node) (linked_before s (ordinary_at s y.node))) (linked_is g y l) block.takes such
        where
          pick : (a b c d : Bool) → a ≡ true → c ≡ true → d ≡ true → (a && (b || (c && d))) ≡ true
          pick true true c d e f k = refl
          pick true false true true e f k = refl
          pick true false true false e f k = cc
          pick true false false d e f k = cc
          pick false b c d e f k = cc

  -- so does one that is internal
  pub by_internal : (y z : Declared) → Linked y → In z (linked_before s (Some y)) → is_internal s g z.node ≡ true → is_internal s g y.node ≡ true
  by_internal y z l h internal = by (is_static_at_file s g z.node) refl (two (is_linked s g z.node) _ internal).1
    where
      by : (b : Bool) → is_static_at_file s g z.node ≡ b → (b || (takes_over s g z.node && some_such s g (λ d. is_static_at_file s g d.node) (linked_before s (ordinary_at s z.node)))) ≡ true → is_internal s g y.node ≡ true
      by true e k = by_static y z l h e
      by false e k =
          let lz = (seen_linked y z h).0 in
          let such = (two (takes_over s g z.node) _ k).1 in
          let d = such_from s g (λ d. is_static_at_file s g d.node) (linked_before s (Some z)) (sym (ap (λ (o : Option Declared). some_such s g (λ d. is_static_at_file s g d.node) (linked_before s o)) (entry s senses text z lz.0)) ∙ such) in
          by_static y d.0 l (text.sees.on y z d.0 l.0 l.1 h d.1) d.2

  -- what is internal by what is known stays so
  pub stays : (i : ℕ) (y : Declared) → Linked y → is_internal s (known_at s senses i) y.node ≡ true → is_internal s g y.node ≡ true
  stays i y l internal = by (is_static_at_file s (known_at s senses i) y.node) refl (two (is_linked s (known_at s senses i) y.node) _ internal).1
    where
      f : ℕ → Sense
      f = known_at s senses i

      storage_later : (leaf : ℕ) → has_storage s (known_at s senses i) word_static leaf ≡ true → has_storage s g word_static leaf ≡ true
      storage_later leaf h = pick (specified_of s (known_at s senses i) leaf) refl h
        where
          pick : (o : Option Specified) → specified_of s (known_at s senses i) leaf ≡ o → (elim o as (λ _. Bool) [ None ↦ false | Some x ↦ contains x.storage word_static ]) ≡ true → has_storage s g word_static leaf ≡ true
          pick None e k = cc
          pick (Some z) e k =
              ap (λ (o : Option Specified). elim o as (λ _. Bool) [ None ↦ false | Some x ↦ contains x.storage word_static ]) (told s (known_at s senses i) g (known_later s senses i) (option_and_then (specs_of s) (outermost_of s leaf)) z e) ∙ k

      static_later : (leaf : ℕ) → is_static_at_file s (known_at s senses i) leaf ≡ true → is_static_at_file s g leaf ≡ true
      static_later leaf h = pick (is_at_file s g leaf) h
        where
          pick : (b : Bool) → (b && has_storage s (known_at s senses i) word_static leaf) ≡ true → (b && has_storage s g word_static leaf) ≡ true
          pick true k = storage_later leaf k
          pick false k = cc

      by : (b : Bool) → is_static_at_file s (known_at s senses i) y.node ≡ b
          → (b || (takes_over s (known_at s senses i) y.node && some_such s (known_at s senses i) (λ d. is_static_at_file s (known_at s senses i) d.node) (linked_before s (ordinary_at s y.node)))) ≡ true → is_internal s g y.node ≡ true
      by true e k = static_internal y l (static_later y.node e)
      by false e k =
          let such = (two (takes_over s (known_at s senses i) y.node) _ k).1 in
          let d = such_from s (known_at s senses i) (λ d. is_static_at_file s (known_at s senses i) d.node) (linked_before s (Some y)) (sym (ap (λ (o : Option Declared). some_such s (known_at s senses i) (λ d. is_static_at_file s (known_at s senses i) d.node) (linked_before s o)) (entry s senses text y l.0)) ∙ such) in
          by_static y d.0 l d.1 (static_later d.0.node d.2)

  -- ---- where one of those that are seen isn't internal, none is

  pub none_internal : (y z d : Declared) → Linked y → (z ≡ y) ⊎ (In z (linked_before s (Some y)) × (is_some (initialiser_for s g y.node) ≡ true)) → is_internal s g z.node ≡ false
      → (d ≡ y) ⊎ In d (linked_before s (Some y)) → is_internal s g d.node ≡ false
  none_internal y z d l which off seen_d = others (own which)
    where
      own : (z ≡ y) ⊎ (In z (linked_before s (Some y)) × (is_some (initialiser_for s g y.node) ≡ true)) → is_internal s g y.node ≡ false
      own (inl same) = subst (λ (x : Declared). is_internal s g x.node ≡ false) same off
      own (inr (h, init)) = by (nat_eq z.scope y.scope) refl
        where
          by : (b : Bool) → nat_eq z.scope y.scope ≡ b → is_internal s g y.node ≡ false
          by true same = sym (one_linkage y z l h (eqb-true z.scope y.scope same)) ∙ off
          by false other =
              let block = in_block y l (λ file. eqb-false z.scope y.scope other (text.sees.file y z l.0 l.1 file h ∙ sym file)) in
              absurd (no_both (is_some (initialiser_for s g y.node)) init block.plain)

      others : is_internal s g y.node ≡ false → is_internal s g d.node ≡ false
      others no_y = pick seen_d
        where
          pick : (d ≡ y) ⊎ In d (linked_before s (Some y)) → is_internal s g d.node ≡ false
          pick (inl same) = subst (λ (x : Declared). is_internal s g x.node ≡ false) (sym same) no_y
          pick (inr h) = by (is_internal s g d.node) refl
            where
              by : (b : Bool) → is_internal s g d.node ≡ b → b ≡ false
              by true e = absurd (no_both (is_internal s g y.node) (by_internal y d l h e) no_y)
              by false e = refl
