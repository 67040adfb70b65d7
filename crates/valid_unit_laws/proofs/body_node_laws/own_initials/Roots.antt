-- The bodies of a unit: the block of a function, or an initialiser that doesn't run where it stands; and how many initialisers of one
-- entity they have.
use Rattle.std.proofs.Common.{arith, ◌≡◌, ◌<◌, ◌≤◌, ◌+◌, ℕ, zero, suc, nat_eq, not, ◌&&◌, ◌||◌, Bool, true, false, List, [], ◌∷◌, Option, Some, None, take, length, slice_get, refl, sym, ap, ◌∙◌, subst, ◌⊎◌, inl, inr}
use Rattle.std.specs.Prelude.{is_none, is_some, option_and_then, option_map, if◌then◌else◌}
use Rattle.std.proofs.lemmas.Bool.{eqb-true, eqb-false}
use Rattle.c_lexer.specs.declared.Tokens.{Tokens}
use Rattle.c_lexer.specs.Cut.{IsTokens}
use Rattle.c_grammar.specs.declared.trees.Tree.{Tree}
use Rattle.c_grammar.specs.Productions.{p_external, p_rest, p_declaration, p_parameter, p_init, p_items, p_block}
use Rattle.c_grammar.specs.Terminals.{contains}
use Rattle.c_grammar.specs.Words.{word_extern, word_static}
use Rattle.c_parser.specs.c_units.Units.{IsUnit}
use Rattle.c_types.specs.Trees.{Ctype}
use Rattle.core_tree.specs.declared.node.Linkage.{Linkage}
use Rattle.core_tree.specs.declared.node.Linkage.TheVariants.{External, Internal, Local}
use Rattle.core_tree.specs.declared.node.Storage.{Storage}
use Rattle.core_tree.specs.declared.node.Storage.TheVariants.{Automatic}
use Rattle.c_consts.specs.Core.{Core}
use Rattle.c_senses.specs.Names.{source_of, numbered}
use Rattle.c_senses.specs.Tree.{Source, is_a, child_of, children_at, parent_of}
use Rattle.c_senses.specs.World.{World}
use Rattle.c_senses.specs.Sense.{Sense, IsCore, IsDeclarator, IsInitial, sense_in}
use Rattle.c_senses.specs.Rows.{AreSenses, world_at}
use Rattle.c_senses.specs.Declarators.{declaration_around, outermost_of}
use Rattle.c_senses.specs.Entities.{keep, first_of, is_typedef, is_defined, is_parameter, is_at_file, is_linked, declares_function, has_storage, declaration_of, storage_of, linkage_of, initialiser_for, initialised_by}
use Rattle.c_senses.specs.Statements.{is_automatic_object, runs_initialiser}
use Rattle.c_senses.specs.Right.{Declared as Declares, core_of_sense, of_internal, is_definition_at, is_tentative, representative, declared_as, declared_name, declares_entity, is_declaring, is_defined_parameter, stands_in_declaration, entity_type, Within, Itself}
use Rattle.parsed_tree_laws.specs.family_laws.Families.{IsChild}
use Rattle.core_node_laws.specs.count_laws.count_rows.Counts.{count_in, count_of}
use Rattle.core_node_laws.specs.count_laws.count_rows.Covers.{stays}
use Rattle.core_node_laws.specs.count_laws.Counting.{sum_below, of_block, bodies}
use Rattle.valid_unit_laws.specs.object_initialiser_laws.once_initialised.Once.{initialises}
use Rattle.core_node_laws.proofs.count_laws.once_nodes.Rooted.{OfBlock, OfInitial, body_is, body_by, block_in}
use Rattle.core_node_laws.proofs.standing_laws.Climbing.{in_list}
use Rattle.core_node_laws.proofs.standing_laws.Descending.{sense_before, child_before}
use Rattle.declaration_laws.proofs.declared_type_laws.passed.owner_laws.Whole.{grown_of}
use Rattle.declaration_laws.proofs.function_laws.passed.definition_laws.linkage_laws.Seen.{some_same, no_both, apart, node_within, parent_holds}
use Rattle.declaration_laws.proofs.function_laws.passed.definition_laws.linkage_laws.Linked as linked
use Rattle.declaration_laws.proofs.function_laws.passed.definition_laws.linkage_laws.Reading.{tree_is}
use Rattle.declaration_laws.proofs.function_laws.passed.definition_laws.linkage_laws.Unlinked.{stands_for}
use Rattle.declaration_laws.proofs.declared_type_laws.passed.owner_laws.automatic_runs.PassedOn.{units_run_initialisers}
use Rattle.valid_unit_laws.proofs.body_node_laws.own_initials.Trees.{within}
use Rattle.valid_unit_laws.proofs.body_node_laws.own_initials.Names.{both}
use Rattle.valid_unit_laws.proofs.body_node_laws.own_initials.Rests.{name_in, seen_later, Place, place_of, rest_in}
use Rattle.valid_unit_laws.proofs.body_node_laws.own_initials.Automatic.{not_at_file, Initial, initial, InFunction, held}
use Rattle.valid_unit_laws.proofs.body_node_laws.own_initials.Functions.{child}

-- one or two numbers of a sum
pub one_below : (f : ℕ → ℕ) (k i : ℕ) → i < k → f i ≤ sum_below f k
one_below f zero i lt = absurd (omega (arith, lt))
one_below f (suc k) i lt = by (nat_eq i k) refl (λ less. one_below f k i less)
  where
    by : (b : Bool) → nat_eq i k ≡ b → (i < k → f i ≤ sum_below f k) → f i ≤ sum_below f k + f k
    by true e later = let same : f i ≡ f k = ap f (eqb-true i k e) in omega (arith, same)
    by false e later = let differ = eqb-false i k e in let h = later (omega (arith, lt, differ)) in omega (arith, h)

pub two_below : (f : ℕ → ℕ) (k i j : ℕ) → i < k → j < k → (i ≡ j → ⊥) → f i + f j ≤ sum_below f k
two_below f zero i j lt less differ = absurd (omega (arith, lt))
two_below f (suc k) i j lt less differ = by (nat_eq i k) refl (nat_eq j k) refl (λ a b. two_below f k i j a b differ)
  where
    by : (b : Bool) → nat_eq i k ≡ b → (c : Bool) → nat_eq j k ≡ c → (i < k → j < k → f i + f j ≤ sum_below f k) → f i + f j ≤ sum_below f k + f k
    by true e true g later = absurd (differ (eqb-true i k e ∙ sym (eqb-true j k g)))
    by true e false g later =
        let same : f i ≡ f k = ap f (eqb-true i k e) in
        let other = eqb-false j k g in
        let h = one_below f k j (omega (arith, less, other)) in
        omega (arith, same, h)
    by false e true g later =
        let same : f j ≡ f k = ap f (eqb-true j k g) in
        let other = eqb-false i k e in
        let h = one_below f k i (omega (arith, lt, other)) in
        omega (arith, same, h)
    by false e false g later = let a = eqb-false i k e in let b = eqb-false j k g in let h = later (omega (arith, lt, a)) (omega (arith, less, b)) in omega (arith, h)

-- what a node brings, by its production
pick_rest : (a b r : Bool) (x y z : ℕ) → a ≡ false → b ≡ false → r ≡ true → (if a || b then x else if r then y else z) ≡ y
pick_rest false false true x y z e f g = refl
pick_rest true b r x y z e f g = cc
pick_rest false true r x y z e f g = cc
pick_rest false false false x y z e f g = cc

pick_block : (a b r t : Bool) (x y z : ℕ) → a ≡ false → b ≡ false → r ≡ false → t ≡ true → (if a || b then x else if r then y else if t then z else 0) ≡ z
pick_block false false false true x y z e f g h = refl
pick_block true b r t x y z e f g h = cc
pick_block false true r t x y z e f g h = cc
pick_block false false true t x y z e f g h = cc
pick_block false false false false x y z e f g h = cc

module _ (d : ℕ) (w : World) (s : Source) (f : ℕ → Sense) where
  stays_has : (list : List ℕ) (k init : ℕ) (c : Core) (n : Option ℕ) → slice_get list k ≡ Some init → f init ≡ IsInitial c n → runs_initialiser w s f init ≡ false → count_in (initialises d) c ≤ stays (initialises d) w s f list
  stays_has [] k init c n e is off = cc
  stays_has (x ∷ rest) zero init c n e is off =
      let same : x ≡ init = cc in
      let h = by (f x) (ap f same ∙ is) (runs_initialiser w s f x) (ap (runs_initialiser w s f) same ∙ off) in
      omega (arith, h)
    where
      by : (y : Sense) → y ≡ IsInitial c n → (b : Bool) → b ≡ false → count_in (initialises d) c ≤ (elim y as (λ _. ℕ) [ IsInitial z m ↦ if b then 0 else count_in (initialises d) z | _ ↦ 0 ])
      by (IsInitial z m) is false e = let same : z ≡ c = cc in subst (λ (v : Core). count_in (initialises d) c ≤ count_in (initialises d) v) (sym same) (omega arith)
      by (IsInitial z m) is true e = cc
      by y is b e = cc
  stays_has (x ∷ rest) (suc k) init c n e is off = let h = stays_has rest k init c n e is off in omega (arith, h)

-- which name an initialiser that runs is of
runs_for : (w : World) (s : Source) (f : ℕ → Sense) (init m : ℕ) → initialised_by s f init ≡ Some m → runs_initialiser w s f init ≡ true → (l : ℕ) × (name_in (f m) ≡ Some l) × (is_automatic_object w s f l ≡ true)
runs_for w s f init m by_it runs =
    by (f m) (sym (ap (λ (o : Option ℕ). elim (option_and_then (λ d. elim (f d) as (λ _. Option ℕ) [ IsDeclarator name ds ↦ name | _ ↦ None ]) o) as (λ _. Bool) [ None ↦ false | Some leaf ↦ is_automatic_object w s f leaf ]) by_it) ∙ runs)
  where
    named : (o : Option ℕ) → (elim o as (λ _. Bool) [ None ↦ false | Some leaf ↦ is_automatic_object w s f leaf ]) ≡ true → (l : ℕ) × (o ≡ Some l) × (is_automatic_object w s f l ≡ true)
    named None e = cc
    named (Some l) e = (l, refl, e)

    by : (y : Sense) → (elim (elim y as (λ _. Option ℕ) [ IsDeclarator name ds ↦ name | _ ↦ None ]) as (λ _. Bool) [ None ↦ false | Some leaf ↦ is_automatic_object w s f leaf ]) ≡ true → (l : ℕ) × (name_in y ≡ Some l) × (is_automatic_object w s f l ≡ true)
    by (IsDeclarator name ds) e = named name e
    by y e = cc

-- it doesn't stand at file scope
not_file : (w : World) (s : Source) (f : ℕ → Sense) (l : ℕ) → is_automatic_object w s f l ≡ true → is_at_file s f l ≡ false
not_file w s f l e =
    (not_at_file (is_parameter s f l) (declares_function s f l) (is_defined s f l) (has_storage s f word_extern l && is_none (initialiser_for s f l)) (is_at_file s f l) (has_storage s f word_static l || has_storage s f word_extern l)
    (automatic (storage_of s f l) (both (not (is_typedef s f l)) _ e).1)).1
  where
    automatic : (x : Storage) → (elim x as (λ _. Bool) [ Automatic ↦ true | _ ↦ false ]) ≡ true → x ≡ Automatic
    automatic Automatic e = refl
    automatic x e = cc

module _ (tokens : Tokens) (unit : ℕ) (tree : Tree) (tag_number : ℕ → ℕ) (senses : List Sense) (cut : IsTokens tokens.text.now tokens.list.items) (read : IsUnit tokens unit tree)
    (are : AreSenses (numbered tag_number (source_of tokens tree)) senses) (whole : length senses ≡ length (numbered tag_number (source_of tokens tree)).nodes)
  where
    abbrev s : Source
    s = numbered tag_number (source_of tokens tree)

    abbrev sense : ℕ → Sense
    sense i = sense_in senses i

    abbrev t : linked.Tree s
    t = tree_is tokens unit tree read tag_number

    abbrev before : ℕ → ℕ → Sense
    before i = sense_in (take i senses)

    abbrev world : ℕ → World
    world i = world_at s (take i senses) i

    pub record IsBlock (i : ℕ) (c : Core) : Type 0 where
      pub block : ℕ
      pub external : is_a s p_external i ≡ true
      pub child : child_of s p_block i ≡ Some block
      pub core : core_of_sense s senses (sense block) ≡ Some c

    pub record Stays (i : ℕ) (c : Core) : Type 0 where
      pub rest : is_a s p_rest i ≡ true
      pub init : ℕ
      pub inside : IsChild s i init
      pub length_given : Option ℕ
      pub is : sense init ≡ IsInitial c length_given
      pub off : runs_initialiser (world i) s (before i) init ≡ false

    abbrev pub IsRoot : ℕ → Core → Type 0
    IsRoot i c = IsBlock i c ⊎ Stays i c

    core_count : (d : ℕ) (x : Sense) (c : Core) → core_of_sense s senses x ≡ Some c → count_of (initialises d) x ≡ count_in (initialises d) c
    core_count d (IsCore y) c e = ap (count_in (initialises d)) (some_same e)
    core_count d (IsInitial y n) c e = ap (count_in (initialises d)) (some_same e)
    core_count d x c e = cc

    pub root_counts : (d i : ℕ) (c : Core) → IsRoot i c → count_in (initialises d) c ≤ bodies (initialises d) s senses i
    root_counts d i c (inl h) =
        let own : bodies (initialises d) s senses i ≡ of_block (initialises d) senses (child_of s p_block i) =
        pick_block (is_a s p_init i) (is_a s p_items i) (is_a s p_rest i) (is_a s p_external i) _ _ _ (apart s i p_external p_init h.external refl) (apart s i p_external p_items h.external refl) (apart s i p_external p_rest h.external refl) h.external in
        let of : of_block (initialises d) senses (child_of s p_block i) ≡ count_in (initialises d) c = ap (of_block (initialises d) senses) h.child ∙ core_count d (sense h.block) c h.core in
        omega (arith, own, of)
    root_counts d i c (inr h) =
        let own : bodies (initialises d) s senses i ≡ stays (initialises d) (world i) s (before i) (children_at s i) =
        pick_rest (is_a s p_init i) (is_a s p_items i) (is_a s p_rest i) _ _ _ (apart s i p_rest p_init h.rest refl) (apart s i p_rest p_items h.rest refl) h.rest in
        let grown = grown_of tokens unit tree tag_number cut read in
        let told : before i h.init ≡ IsInitial c h.length_given = sense_before s senses grown are whole i h.init (child_before s senses grown are whole i h.init h.inside) ∙ h.is in
        let has = stays_has d (world i) s (before i) (children_at s i) h.inside.0 h.init c h.length_given h.inside.1 told h.off in
        omega (arith, own, has)

    pub root_within : (i : ℕ) (c : Core) → IsRoot i c → i < length s.nodes
    root_within i c (inl h) = node_within s p_external i h.external refl
    root_within i c (inr h) = node_within s p_rest i h.rest refl

    pub same_root : (i : ℕ) (b c : Core) → IsBlock i b → IsRoot i c → b ≡ c
    same_root i b c h (inl g) =
        let one : h.block ≡ g.block = some_same (sym h.child ∙ g.child) in
        some_same (sym h.core ∙ (ap (λ (k : ℕ). core_of_sense s senses (sense k)) one ∙ g.core))
    same_root i b c h (inr g) = absurd (no_both (is_a s p_external i) h.external (apart s i p_rest p_external g.rest refl))

    -- a tree in a body
    pub record Rooted (x : Core) : Type 0 where
      pub node : ℕ
      pub core : Core
      pub root : IsRoot node core
      pub inside : Within s senses x core

    pub record InBlock (x : Core) : Type 0 where
      pub node : ℕ
      pub core : Core
      pub root : IsBlock node core
      pub inside : Within s senses x core

    pub in_block : (x : Core) → InFunction tokens unit tree tag_number senses cut read are whole x → InBlock x
    in_block x f = record {
      node = f.definition;
      core = f.own.core;
      root = record {
        block = f.own.block;
        external = (both (is_a s p_external f.definition) (is_some (child_of s p_block f.definition)) f.is).0;
        child = child tokens unit tree tag_number senses cut read are whole f.definition f.own.block f.own.core f.is f.own.part f.own.is_block f.own.sensed;
        core = ap (core_of_sense s senses) f.own.sensed;
      };
      inside = within s senses x f.own.core f.own.stands;
    }

    abbrev chosen : ℕ → Linkage → ℕ
    chosen d linkage =
        elim linkage [
          | Internal ↦ first_of s sense (first_of s sense d (keep s sense (is_tentative s senses) (of_internal s senses d))) (keep s sense (is_definition_at s senses) (of_internal s senses d))
          | _ ↦ d
        ]

    -- the declaration of what stands for a name
    located : (d : ℕ) (what : Declares) → declared_name s senses d ≡ Some what → (a : ℕ) × (declaration_of s sense (representative s senses d) ≡ Some a)
    located d what told = pick (declares_entity s senses d) refl (entity_type s senses d) told
      where
        somewhere : declares_entity s senses d ≡ true → (a : ℕ) × (declaration_of s sense d ≡ Some a)
        somewhere declares = by (declaration_of s sense d) refl (both (stands_in_declaration s senses d) _ (both (is_declaring s senses d) _ declares).1).0
          where
            by : (o : Option ℕ) → declaration_of s sense d ≡ o → (elim o as (λ _. Bool) [ None ↦ false | Some p ↦ is_a s p_external p || (is_a s p_declaration p || (is_a s p_parameter p && is_defined_parameter s senses d)) ]) ≡ true → (a : ℕ) × (declaration_of s sense d ≡ Some a)
            by None e h = cc
            by (Some a) e h = (a, e)

        by : declares_entity s senses d ≡ true → (l : Linkage) → linkage_of s sense d ≡ l → (a : ℕ) × (declaration_of s sense (representative s senses d) ≡ Some a)
        by declares Internal e =
            let is = stands_for s senses (λ l h. linked.stands_linked s t senses are whole l h) d e in
            let n = linked.linked_named s t senses are whole (representative s senses d) (both (is_linked s sense (representative s senses d)) _ is).0 in
            (n.3.at.declaration, linked.declaration_is s t senses are whole (representative s senses d) n.0 n.3)
        by declares External e = let own = somewhere declares in (own.0, ap (declaration_of s sense) (ap (chosen d) e) ∙ own.1)
        by declares Local e = let own = somewhere declares in (own.0, ap (declaration_of s sense) (ap (chosen d) e) ∙ own.1)

        pick : (b : Bool) → declares_entity s senses d ≡ b → (o : Option Ctype) → (if b then option_map (declared_as s senses d) o else None) ≡ Some what → (a : ℕ) × (declaration_of s sense (representative s senses d) ≡ Some a)
        pick false declares o e = cc
        pick true declares o e = by declares (linkage_of s sense d) refl

    -- an initialiser that runs stands in a function's block
    module _ (r init a : ℕ) (i : Initial tokens unit tree tag_number senses cut read are whole r init) (declared : declaration_of s sense r ≡ Some a) (runs : runs_initialiser (world i.place.above) s (before i.place.above) init ≡ true) where
      abbrev q : ℕ
      q = i.place.above

      abbrev m : ℕ
      m = i.own.declarator

      around : option_and_then (declaration_around s) (parent_of s m) ≡ Some a
      around = ap (λ (o : Option ℕ). option_and_then (declaration_around s) (option_and_then (parent_of s) o)) (sym (i.outer ∙ ap (λ (k : ℕ). Some k) (sym i.same))) ∙ declared

      place : Place s t sense init m q
      place = let h = place_of s t sense init m i.own.by_it in subst (λ (k : ℕ). Place s t sense init m k) (some_same (sym h.1 ∙ i.place.parent)) h.2

      parent : parent_of s q ≡ Some a
      parent = rest_in s t sense init m q a place i.place.rest around

      over : contains (children_at s a) q ≡ true
      over = parent_holds s t.grown a q parent

      found : (l : ℕ) × (name_in (before q m) ≡ Some l) × (is_automatic_object (world q) s (before q) l ≡ true)
      found = runs_for (world q) s (before q) init m i.own.by_it runs

      name : found.0 ≡ i.own.leaf
      name = let later = seen_later senses q m found.0 found.1 in let same : IsDeclarator (Some found.0) later.0 ≡ IsDeclarator (Some i.own.leaf) i.own.derives = sym later.1 ∙ i.own.named in cc

      at_file : is_a s p_external a ≡ false
      at_file =
          sym (ap (λ (o : Option ℕ). elim (option_and_then (declaration_around s) (option_and_then (parent_of s) o)) as (λ _. Bool) [ None ↦ false | Some p ↦ is_a s p_external p ]) (ap (outermost_of s) name ∙ i.own.outermost)
          ∙ ap (λ (o : Option ℕ). elim o as (λ _. Bool) [ None ↦ false | Some p ↦ is_a s p_external p ]) around)
          ∙ not_file (world q) s (before q) found.0 found.2

      declaration : is_a s p_declaration a ≡ true
      declaration = by (is_a s p_external a) (is_a s p_declaration a) at_file (t.nested.rests a q over i.place.rest)
        where
          by : (b c : Bool) → b ≡ false → (b || c) ≡ true → c ≡ true
          by false c e h = h
          by true c e h = cc

      runs_inside : InFunction tokens unit tree tag_number senses cut read are whole i.own.core
      runs_inside =
          held tokens unit tree tag_number senses cut read are whole a i.own.core declaration
          ((units_run_initialisers tokens unit tree tag_number senses cut read are whole).each (world q) a q init i.own.core i.own.length_given declaration (in_list (children_at s a) q over) i.place.rest
          (in_list (children_at s q) init (parent_holds s t.grown q init i.place.parent)) i.own.is runs)

    -- so each body stands in one of them
    pub body_rooted : (d : ℕ) (what : Declares) (c : Core) → declared_name s senses d ≡ Some what → what.body ≡ Some c → Rooted c
    body_rooted d what c told body = by (body_by s senses (representative s senses d) c (sym (body_is s senses d what told) ∙ body))
      where
        of_initial : (init : ℕ) (i : Initial tokens unit tree tag_number senses cut read are whole (representative s senses d) init) → (b : Bool) → runs_initialiser (world i.place.above) s (before i.place.above) init ≡ b → Rooted i.own.core
        of_initial init i false off = record {
          node = i.place.above;
          core = i.own.core;
          root = inr (record {
            rest = i.place.rest;
            init = init;
            inside = in_list (children_at s i.place.above) init (parent_holds s t.grown i.place.above init i.place.parent);
            length_given = i.own.length_given;
            is = i.own.is;
            off = off;
          });
          inside = Itself;
        }
        of_initial init i true runs =
            let at = located d what told in
            let h = in_block i.own.core (runs_inside (representative s senses d) init at.0 i at.1 runs) in
            record { node = h.node; core = h.core; root = inl h.root; inside = h.inside }

        by : OfBlock s senses (representative s senses d) c ⊎ OfInitial s senses (representative s senses d) c → Rooted c
        by (inl (defined, (b, block, core))) =
            let (p, external, child_is) = block_in s senses (representative s senses d) b defined block in
            record { node = p; core = c; root = inl (record { block = b; external = external; child = child_is; core = core }); inside = Itself }
        by (inr (init, found, core)) =
            let i = initial tokens unit tree tag_number senses cut read are whole (representative s senses d) init found in
            let same : i.own.core ≡ c = some_same (sym (ap (core_of_sense s senses) i.own.is) ∙ core) in
            subst Rooted same (of_initial init i (runs_initialiser (world i.place.above) s (before i.place.above) init) refl)
