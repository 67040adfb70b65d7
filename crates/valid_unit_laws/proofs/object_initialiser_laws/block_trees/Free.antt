-- No tree of a node that stands neither above a block nor below it names an object of the block.
use Rattle.std.proofs.Common.{arith, ◌≡◌, ◌<◌, ◌&&◌, ◌||◌, nat_eq, ℕ, zero, suc, Bool, true, false, List, [], ◌∷◌, Option, Some, None, length, take, refl, sym, ap, ◌∙◌, subst, ◌⊎◌, inl, inr}
use Rattle.std.specs.Prelude.{⊤, option_and_then, option_map, nat_lt, if◌then◌else◌}
use Rattle.std.proofs.lemmas.Bool.{eqb-false}
use Rattle.c_lexer.specs.declared.Tokens.{Tokens}
use Rattle.c_lexer.specs.Cut.{IsTokens}
use Rattle.c_grammar.specs.declared.trees.Tree.{Tree}
use Rattle.c_grammar.specs.Productions.{p_unit, p_external, p_rest, p_declarator, p_abstract, p_either, p_enumerator, p_block, p_statement, p_cast, p_unary}
use Rattle.c_parser.specs.c_units.Units.{IsUnit}
use Rattle.c_types.specs.Trees.{Ctype}
use Rattle.core_tree.specs.declared.node.NodeKind.TheVariants.{Named, Initialise}
use Rattle.core_tree.specs.Rows.{Has}
use Rattle.c_consts.specs.Core.{Core, Of}
use Rattle.c_scope.specs.declared.kinds.Declared.{Declared}
use Rattle.c_senses.specs.Names.{source_of, numbered, ordinary_at, typing_declarations}
use Rattle.c_senses.specs.Tree.{Source, is_a, children_at, child_of, parent_of, paired, first_where, last_where, last_or}
use Rattle.c_senses.specs.World.{World, Meaning, Object, Function, TypeName, Value}
use Rattle.c_senses.specs.Limits.{is_function_type}
use Rattle.c_senses.specs.Sense.{Sense, IsDeclarator, IsValue, Derivation, sense_in}
use Rattle.c_senses.specs.Entities.{all_together, types_of, type_behind, own_type, is_typedef, is_linked, entity_of, named_by, object_or_function, declared_meaning, enumerated, meaning_of, meaning_at, initialised_by}
use Rattle.c_senses.specs.Initialised.{opening, name_of_declarator}
use Rattle.c_senses.specs.Rows.{AreSenses, world_at}
use Rattle.core_node_laws.specs.near_nodes.Holding.{MeaningGives, OfSense, RowGives, Closed}
use Rattle.core_node_laws.proofs.near_nodes.All.{near_kept}
use Rattle.parsed_tree_laws.proofs.placed_laws.Climbing.{Grown}
use Rattle.parsed_tree_laws.proofs.grown_parts.Reading.{units_bring}
use Rattle.parsed_tree_laws.proofs.span_laws.Whole.{units_are_spanned}
use Rattle.parsed_tree_laws.proofs.span_laws.Lefts.{units_have_lefts}
use Rattle.declaration_laws.specs.declared_type_laws.owner_laws.passed.definition_laws.scope_laws.Beneath.{Beneath, part, deeper}
use Rattle.declaration_laws.specs.declared_type_laws.owner_laws.passed.definition_laws.scope_laws.Scoped.{IsPart, DeclaredOnce, Rooted}
use Rattle.declaration_laws.proofs.declared_type_laws.owner_laws.passed.definition_laws.scope_laws.Tree.{further, compare, Order}
use Rattle.declaration_laws.proofs.declared_type_laws.owner_laws.passed.definition_laws.scope_laws.Whole.{names_declared_once}
use Rattle.core_node_laws.proofs.standing_laws.Climbing.{list_in}
use Rattle.declaration_laws.proofs.declared_type_laws.owner_laws.Naming.{own_leaf}
use Rattle.declaration_laws.proofs.declared_type_laws.owner_laws.passed.definition_laws.linkage_laws.Seen.{some_same, none_some, no_both, apart, parent_holds}
use Rattle.declaration_laws.proofs.declared_type_laws.owner_laws.passed.definition_laws.linkage_laws.Linked as linked
use Rattle.declaration_laws.proofs.declared_type_laws.owner_laws.passed.definition_laws.linkage_laws.Reading.{tree_is}
use Rattle.valid_unit_laws.specs.object_initialiser_laws.internal_name_laws.passed.declared_type_laws.declared_leaves.Leaves.{IsNamed, Own, Inner}
use Rattle.valid_unit_laws.proofs.object_initialiser_laws.internal_name_laws.passed.declared_type_laws.declared_leaves.Naming.{sense_named}
use Rattle.valid_unit_laws.proofs.object_initialiser_laws.once_initialised.Whole.{own_name, opening_differs}
use Rattle.valid_unit_laws.specs.object_initialiser_laws.block_uses.Uses.{OpensOwn}
use Rattle.valid_unit_laws.proofs.object_initialiser_laws.block_uses.Whole.{uses_stay_within}
use Rattle.valid_unit_laws.specs.object_initialiser_laws.block_trees.Covered.{IsBlockOf}
use Rattle.valid_unit_laws.proofs.object_initialiser_laws.block_trees.Off.{Off, IsBlockish, up_one, above_blocks, closed}

-- a declarator that is seen so is one at the end
seen_later : (xs : List Sense) (i m : ℕ) (d : ℕ) (ds : List Derivation) → sense_in (take i xs) m ≡ IsDeclarator (Some d) ds → (sense_in xs m ≡ IsDeclarator (Some d) ds) × (m < length xs)
seen_later [] zero m d ds e = cc
seen_later [] (suc i) m d ds e = cc
seen_later (x ∷ xs) zero m d ds e = cc
seen_later (x ∷ xs) (suc i) zero d ds e = (e, omega arith)
seen_later (x ∷ xs) (suc i) (suc m) d ds e = let (is, lt) = seen_later xs i m d ds e in (is, omega (arith, lt))

-- what is found in a list is in it and passes
last_has : (test : ℕ → Bool) (ks : List ℕ) (x : ℕ) → last_where test ks ≡ Some x → Has ks x × (test x ≡ true)
last_has test [] x e = absurd (none_some e)
last_has test (k ∷ ks) x e = by (last_where test ks) refl e (λ y f. last_has test ks y f)
  where
    own : (b : Bool) → test k ≡ b → (if b then Some k else None) ≡ Some x → Has (k ∷ ks) x × (test x ≡ true)
    own true t f = ((0, f), subst (λ (y : ℕ). test y ≡ true) (some_same f) t)
    own false t f = absurd (none_some f)

    by : (o : Option ℕ) → last_where test ks ≡ o → last_or o (if test k then Some k else None) ≡ Some x → ((y : ℕ) → last_where test ks ≡ Some y → Has ks y × (test y ≡ true)) → Has (k ∷ ks) x × (test x ≡ true)
    by None at f later = own (test k) refl f
    by (Some y) at f later =
        let same : y ≡ x = some_same f in
        let more = later y at in
        ((suc more.0.0, more.0.1 ∙ ap (λ (z : ℕ). Some z) same), subst (λ (z : ℕ). test z ≡ true) same more.1)

first_has : (test : ℕ → Bool) (ks : List ℕ) (x : ℕ) → first_where test ks ≡ Some x → Has ks x × (test x ≡ true)
first_has test [] x e = absurd (none_some e)
first_has test (k ∷ ks) x e = by (test k) refl e (λ f. first_has test ks x f)
  where
    by : (b : Bool) → test k ≡ b → (if b then Some k else first_where test ks) ≡ Some x → (first_where test ks ≡ Some x → Has ks x × (test x ≡ true)) → Has (k ∷ ks) x × (test x ≡ true)
    by true t f later = ((0, f), subst (λ (y : ℕ). test y ≡ true) (some_same f) t)
    by false t f later = let more = later f in ((suc more.0.0, more.0.1), more.1)

and_first : (a b : Bool) → (a && b) ≡ true → a ≡ true
and_first true b e = refl
and_first false b e = cc

-- ---- where the declarator of an initialiser stands

module _ (s : Source) (grown : Grown s) (sense : ℕ → Sense) where
  record Declares (i m : ℕ) : Type 0 where
    node : ℕ
    holds : IsPart s node m
    below : Beneath (IsPart s) node i
    is : is_a s p_declarator m ≡ true

  declares : (i m : ℕ) → initialised_by s sense i ≡ Some m → Declares i m
  declares i m e = by (parent_of s i) refl e
    where
      higher : (p : ℕ) → IsPart s p i → (o : Option ℕ) → parent_of s p ≡ o → option_and_then (child_of s p_declarator) o ≡ Some m → Declares i m
      higher p child None at f = absurd (none_some f)
      higher p child (Some r) at f =
          let own = first_has (is_a s p_declarator) (children_at s r) m f in
          record { node = r; holds = list_in (children_at s r) own.0.0 m own.0.1; below = deeper (part (parent_holds s grown r p at)) child; is = own.1 }

      pick : (p : ℕ) → IsPart s p i → (o : Option ℕ) → last_where (λ (c : ℕ). is_a s p_declarator c && nat_lt c i) (children_at s p) ≡ o
          → (elim o as (λ _. Option ℕ) [ Some x ↦ Some x | None ↦ option_and_then (child_of s p_declarator) (parent_of s p) ]) ≡ Some m → Declares i m
      pick p child None at f = higher p child (parent_of s p) refl f
      pick p child (Some x) at f =
          let same : x ≡ m = some_same f in
          let own = last_has (λ (c : ℕ). is_a s p_declarator c && nat_lt c i) (children_at s p) m (at ∙ f) in
          record { node = p; holds = list_in (children_at s p) own.0.0 m own.0.1; below = part child; is = and_first (is_a s p_declarator m) (nat_lt m i) own.1 }

      by : (o : Option ℕ) → parent_of s i ≡ o
          → (elim o as (λ _. Option ℕ) [ None ↦ None | Some p ↦ elim (last_where (λ (c : ℕ). is_a s p_declarator c && nat_lt c i) (children_at s p)) as (λ _. Option ℕ) [ Some d ↦ Some d | None ↦ option_and_then (child_of s p_declarator) (parent_of s p) ] ]) ≡ Some m → Declares i m
      by None up f = absurd (none_some f)
      by (Some p) up f = pick p (parent_holds s grown p i up) (last_where (λ (c : ℕ). is_a s p_declarator c && nat_lt c i) (children_at s p)) refl f

  -- a name stands below its declarator
  named_below : (m leaf : ℕ) → IsNamed s m leaf → Beneath (IsPart s) m leaf
  named_below m leaf (Own child name) = part child
  named_below m leaf (Inner c child is named) = further (IsPart s) m c leaf (part child) (named_below c leaf named)

-- what neither names the object nor initialises it
abbrev pub IsFree : ℕ → Core → Type 0
IsFree d (Of (Named x) place type under) = x ≡ d → ⊥
IsFree d (Of (Initialise x paths) place type under) = x ≡ d → ⊥
IsFree d c = ⊤

module _ (tokens : Tokens) (unit : ℕ) (tree : Tree) (tag_number : ℕ → ℕ) (senses : List Sense) (cut : IsTokens tokens.text.now tokens.list.items) (is : IsUnit tokens unit tree) where
  abbrev s : Source
  s = numbered tag_number (source_of tokens tree)

  abbrev t : linked.Tree s
  t = tree_is tokens unit tree is tag_number

  module _ (are : AreSenses s senses) (p block b leaf : ℕ) (own : IsBlockOf s senses p block b leaf) where
    abbrev O : ℕ → Type 0
    O i = Off s t.grown t.nested block b i

    pub blockish : IsBlockish s t.grown t.nested block b b
    blockish = by own.opens
      where
        or_left : (x y : Bool) → x ≡ true → (x || y) ≡ true
        or_left true y e = refl
        or_left false y e = cc

        or_right : (x y : Bool) → y ≡ true → (x || y) ≡ true
        or_right true y e = refl
        or_right false y e = e

        by : OpensOwn s b → (is_a s p_block b || is_a s p_statement b) ≡ true
        by (inl h) = or_left (is_a s p_block b) (is_a s p_statement b) h.0
        by (inr h) = or_right (is_a s p_block b) (is_a s p_statement b) h.0

    rooted : Rooted s
    rooted = record { before = t.grown.before; single = t.grown.once; externals = t.nested.externals; units = t.nested.units }

    once : DeclaredOnce s
    once = names_declared_once tokens tree tag_number rooted

    -- the block stands above the name
    above_name : Beneath (IsPart s) b leaf
    above_name = by own.declared.place
      where
        down : Beneath (IsPart s) own.declared.declarator leaf
        down = named_below s t.grown (sense_in senses) own.declared.declarator leaf own.declared.named

        by : IsPart s own.declared.declaration own.declared.declarator ⊎ ((r : ℕ) × IsPart s own.declared.declaration r × (is_a s p_rest r ≡ true) × IsPart s r own.declared.declarator) → Beneath (IsPart s) b leaf
        by (inl child) = further (IsPart s) b own.declared.declarator leaf (deeper (part own.declared.child) child) down
        by (inr (r, child, rest, inner)) = further (IsPart s) b own.declared.declarator leaf (deeper (deeper (part own.declared.child) child) inner) down

    abbrev F : ℕ → ℕ → Sense
    F n = sense_in (take n senses)

    -- ---- names

    module _ (f : ℕ → Sense) where
      type_some : (l : ℕ) (x : Ctype) → type_behind s f l ≡ Some x → (d : Declared) × (ordinary_at s l ≡ Some d)
      type_some l x e = by (ordinary_at s l) refl e
        where
          by : (o : Option Declared) → ordinary_at s l ≡ o → all_together None (types_of s f (typing_declarations s o)) ≡ Some x → (d : Declared) × (ordinary_at s l ≡ Some d)
          by None at e = cc
          by (Some d) at e = (d, at)

      no_object : (at l : ℕ) (x : Ctype) → O at → paired s.uses at ≡ Some l → type_behind s f l ≡ Some x → entity_of s f (named_by s f l) ≡ leaf → ⊥
      no_object at l x off paired_is typed same =
          let unlinked : is_linked s f (entity_of s f (named_by s f l)) ≡ false = subst (λ (k : ℕ). is_linked s f k ≡ false) (sym same) own.linkage in
          let name : l ≡ leaf = sym (own_leaf s f once l unlinked).0 ∙ same in
          let d = type_some l x typed in
          off.2 (uses_stay_within tokens unit tree tag_number is b leaf at d.0 own.opens own.declared (subst (λ (k : ℕ). ordinary_at s k ≡ Some d.0) name d.1) (paired_is ∙ ap (λ (k : ℕ). Some k) name))

      object_gives : (at l : ℕ) (o : Option Ctype) → O at → paired s.uses at ≡ Some l → type_behind s f l ≡ o → MeaningGives (IsFree leaf) (option_map (object_or_function s f (entity_of s f (named_by s f l))) o)
      object_gives at l None off paired_is typed = tt
      object_gives at l (Some x) off paired_is typed = by (is_function_type x)
        where
          by : (z : Bool) → MeaningGives (IsFree leaf) (Some (if z then Function (entity_of s f (named_by s f l)) x else Object (entity_of s f (named_by s f l)) x))
          by true = λ place. tt
          by false = λ place same. no_object at l x off paired_is typed same

      declared_gives : (at l : ℕ) → O at → paired s.uses at ≡ Some l → MeaningGives (IsFree leaf) (declared_meaning s f l)
      declared_gives at l off paired_is = by (is_typedef s f l)
        where
          types : (o : Option Ctype) → MeaningGives (IsFree leaf) (option_map TypeName o)
          types None = tt
          types (Some x) = tt

          by : (z : Bool) → MeaningGives (IsFree leaf) (if z then option_map TypeName (own_type s f l) else option_map (object_or_function s f (entity_of s f (named_by s f l))) (type_behind s f l))
          by true = types (own_type s f l)
          by false = object_gives at l (type_behind s f l) off paired_is refl

      meaning_gives : (at l : ℕ) → O at → paired s.uses at ≡ Some l → MeaningGives (IsFree leaf) (meaning_of s f l)
      meaning_gives at l off paired_is = by (parent_of s l)
        where
          values : (x : Sense) → MeaningGives (IsFree leaf) (elim x as (λ _. Option Meaning) [ IsValue n ↦ Some (Value n) | _ ↦ None ])
          values (IsValue n) = tt
          values x = tt

          pick : (q : ℕ) (z : Bool) → MeaningGives (IsFree leaf) (if z then enumerated s f q else declared_meaning s f l)
          pick q true = values (f q)
          pick q false = declared_gives at l off paired_is

          by : (o : Option ℕ) → MeaningGives (IsFree leaf) (elim o as (λ _. Option Meaning) [ None ↦ None | Some q ↦ if is_a s p_enumerator q then enumerated s f q else declared_meaning s f l ])
          by None = tt
          by (Some q) = pick q (is_a s p_enumerator q)

      use_gives : (at : ℕ) → O at → MeaningGives (IsFree leaf) (meaning_at s f at)
      use_gives at off = by (paired s.uses at) refl
        where
          by : (o : Option ℕ) → paired s.uses at ≡ o → MeaningGives (IsFree leaf) (option_and_then (meaning_of s f) o)
          by None e = tt
          by (Some l) e = meaning_gives at l off e

    -- ---- the initialiser

    named_so : (w : World) (f : ℕ → Sense) (x : Sense) (l : ℕ) → name_of_declarator w s f x ≡ Some l → (ds : List Derivation) × (x ≡ IsDeclarator (Some l) ds)
    named_so w f (IsDeclarator name ds) l e = (ds, ap (λ (o : Option ℕ). IsDeclarator o ds) e)
    named_so w f x l e = absurd (none_some e)

    apart_from : (m : ℕ) → is_a s p_declarator m ≡ true → (q : ℕ) → nat_eq p_declarator q ≡ false → is_a s q m ≡ true → ⊥
    apart_from m declarator q differ other = no_both (is_a s q m) other (apart s m p_declarator q declarator differ)

    no_initialiser : (n m l : ℕ) (w : World) → O n → initialised_by s (F n) n ≡ Some m → name_of_declarator w s (F n) (F n m) ≡ Some l → entity_of s (F n) l ≡ leaf → ⊥
    no_initialiser n m l w off by_it named same = by (compare (IsPart s) t.grown.once m b leaf up above_name)
      where
        where_is : Declares s t.grown (F n) n m
        where_is = declares s t.grown (F n) n m by_it

        name : l ≡ leaf
        name = own_name s (F n) leaf own.linkage l same

        up : Beneath (IsPart s) m leaf
        up =
            let (ds, seen) = named_so w (F n) (F n m) l named in
            let (later, lt) = seen_later senses n m leaf ds (seen ∙ ap (λ (k : ℕ). IsDeclarator (Some k) ds) name) in
            named_below s t.grown (sense_in senses) m leaf (sense_named s senses are t.grown (units_bring tokens unit tree tag_number is) m leaf ds lt (ap (λ (z : Bool). z || is_a s p_abstract m || is_a s p_either m) where_is.is) later)

        no_block : IsBlockish s t.grown t.nested block b m → ⊥
        no_block h = pick (is_a s p_block m) (is_a s p_statement m) refl refl h
          where
            pick : (x y : Bool) → is_a s p_block m ≡ x → is_a s p_statement m ≡ y → (x || y) ≡ true → ⊥
            pick true y ex ey e = apart_from m where_is.is p_block refl ex
            pick false true ex ey e = apart_from m where_is.is p_statement refl ey
            pick false false ex ey e = cc

        under : (b ≡ where_is.node) ⊎ Beneath (IsPart s) b where_is.node → ⊥
        under (inl e) = off.2 (subst (λ (k : ℕ). Beneath (IsPart s) k n) (sym e) where_is.below)
        under (inr d) = off.2 (further (IsPart s) b where_is.node n d where_is.below)

        over : (IsBlockish s t.grown t.nested block b m) ⊎ ((is_a s p_external m ≡ true) ⊎ (is_a s p_unit m ≡ true)) → ⊥
        over (inl h) = no_block h
        over (inr (inl h)) = apart_from m where_is.is p_external refl h
        over (inr (inr h)) = apart_from m where_is.is p_unit refl h

        by : Order (IsPart s) m b → ⊥
        by (inl e) = no_block (subst (λ (k : ℕ). IsBlockish s t.grown t.nested block b k) (sym e) blockish)
        by (inr (inl d)) = over (above_blocks s t.grown t.nested block b m b d (inl blockish))
        by (inr (inr d)) = under (up_one s t.grown t.nested block b b where_is.node m where_is.holds d)

    no_opening : (w : World) (f : ℕ → Sense) (q : ℕ) → (is_a s p_cast q || is_a s p_unary q) ≡ true → opening w s f q ≡ leaf → ⊥
    no_opening w f q over e = eqb-false (opening w s f q) leaf (opening_differs s leaf own.name q over) e

    -- ---- each tree

    off_closed : Closed s O
    off_closed = closed s t.grown t.nested block b blockish (units_are_spanned tokens unit tree tag_number is) (λ i first q rest post e r. units_have_lefts tokens unit tree tag_number is i first q rest post e r)

    row_free : (n : ℕ) → n < length senses → O n → ((c : ℕ) → O c → OfSense s O (IsFree leaf) (sense_in (take n senses) c)) → RowGives (IsFree leaf) (world_at s (take n senses) n) s (sense_in (take n senses)) n (children_at s n)
    row_free n lt off each = record {
      names = λ c has. use_gives (sense_in (take n senses)) c (off_closed.parts n c has off);
      lists = λ entity function place at type asked e. tt;
      objects = λ declarator l by_it named paths values fixed same. no_initialiser n declarator l (world_at s (take n senses) n) off by_it named same;
      initials = λ q above paths values over fixed same. no_opening (world_at s (take n senses) n) (sense_in (take n senses)) q over same;
      literals = λ q above type initial over. tt;
      blocks = λ is_one place under. tt;
      plains = λ c a place under. tt;
      fors = λ is_statement d has is_one c a place under. tt;
    }

    -- what nodes beside the block stand for is free of it
    pub off_free : (i : ℕ) → O i → OfSense s O (IsFree leaf) (sense_in senses i)
    off_free i off = near_kept (IsFree leaf) s senses O are off_closed row_free i off
