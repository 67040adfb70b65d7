-- A declaration runs the initialisers of its own objects.
use Rattle.std.proofs.Common.{arith, ◌≡◌, ◌<◌, ◌≤◌, ◌⊎◌, inl, inr, nat_eq, ℕ, zero, suc, ◌==◌, Bool, true, false, ◌&&◌, ◌||◌, List, [], ◌∷◌, ◌++◌, length, map, Option, Some, None, slice_get, eq-eqb, refl, sym, ap, ◌∙◌, subst}
use Rattle.std.specs.Prelude.{⊤, nat_lt, option_and_then, if◌then◌else◌}
use Rattle.std.proofs.lemmas.Bool.{eqb-true}
use Rattle.pta_base.specs.declared.kind.Kind.TheVariants.{Operand}
use Rattle.c_types.specs.Trees.{Ctype}
use Rattle.core_tree.specs.declared.node.NodeKind.TheVariants.{Initialise}
use Rattle.core_tree.specs.Rows.{InitialisesOneOf}
use Rattle.c_grammar.specs.Productions.{p_rest, p_declaration, p_declarator, p_init}
use Rattle.c_grammar.specs.Reads.{leaf as leaf_production}
use Rattle.c_grammar.specs.Terminals.{contains}
use Rattle.c_consts.specs.Core.{Core, kind_of}
use Rattle.c_inits.specs.Shapes.{Path}
use Rattle.c_senses.specs.Tree.{Source, production_at, children_at, is_a, first_where, last_where, last_or, child_of, parent_of}
use Rattle.c_senses.specs.Given.{Given, Fits, ◌>>=◌, given_some}
use Rattle.c_senses.specs.World.{World}
use Rattle.c_senses.specs.Entities.{initialised_by, specified_of, derived_type, entity_of}
use Rattle.c_senses.specs.Initialised.{name_of_declarator, initialised_object, initialised_as, init_in}
use Rattle.c_senses.specs.Statements.{is_automatic_object, automatic_name, objects_among, objects_in_rest, objects_declared, runs_initialiser, initials_among, run_in}
use Rattle.c_senses.specs.Sense.{Sense, Nothing, IsDeclarator, IsRun, IsInitial, Derivation, Specified, sense_in}
use Rattle.c_senses.specs.Rows.{AreSenses, row_of}
use Rattle.core_node_laws.specs.standing_laws.PassedOn.{Gives}
use Rattle.core_node_laws.specs.standing_laws.PassedOn.{AllInitialise, RunsIn}
use Rattle.core_node_laws.proofs.standing_laws.PassedOn.{if_holds, and_left}
use Rattle.core_node_laws.specs.standing_laws.Standing.{IsGrown}
use Rattle.core_node_laws.proofs.standing_laws.Climbing.{in_list, found_where, parent_is}
use Rattle.core_node_laws.specs.passed.parsed_tree_laws.grown_parts.Parts.{IsBrought, Brings}
use Rattle.core_node_laws.proofs.passed.parsed_tree_laws.grown_parts.Declaring.{AllIn, IsDeclarationList, Asserts, Alone, Names, NamesAsm, declaration_list, rest_parts, rest_list}
use Rattle.core_node_laws.specs.built_unit_laws.run_laws.Runs.{DeclarationsRun}
use Rattle.core_node_laws.proofs.built_unit_laws.run_laws.Times.{known_at, world_of, known, unknown, told_later, row_as, fitted}
use Rattle.core_node_laws.proofs.built_unit_laws.run_laws.Shapes.{IsPlain, plain_leaf, plain_asm, plain_assert, plain_specs, plain_declarator, Initialises, as_gives}
use Rattle.core_node_laws.proofs.built_unit_laws.run_laws.Automatic.{IsLocal, local_of, of_local, local_entity, local_as, specified_later}

-- lists
contains_left : (xs ys : List ℕ) (n : ℕ) → contains xs n ≡ true → contains (xs ++ ys) n ≡ true
contains_left [] ys n h = cc
contains_left (x ∷ xs) ys n h = by (nat_eq x n) h (contains_left xs ys n)
  where
    by : (b : Bool) → (b || contains xs n) ≡ true → (contains xs n ≡ true → contains (xs ++ ys) n ≡ true) → (b || contains (xs ++ ys) n) ≡ true
    by true e more = refl
    by false e more = more e

contains_right : (xs ys : List ℕ) (n : ℕ) → contains ys n ≡ true → contains (xs ++ ys) n ≡ true
contains_right [] ys n h = h
contains_right (x ∷ xs) ys n h = by (nat_eq x n) (contains_right xs ys n h)
  where
    by : (b : Bool) → contains (xs ++ ys) n ≡ true → (b || contains (xs ++ ys) n) ≡ true
    by true e = refl
    by false e = e

pub listed_in : (f : ℕ → ℕ) (allowed ks : List ℕ) (c : ℕ) → AllIn allowed (map f ks) → contains ks c ≡ true → contains allowed (f c) ≡ true
listed_in f allowed [] c h k = cc
listed_in f allowed (x ∷ ks) c h k = by (nat_eq x c) refl k (λ m. listed_in f allowed ks c h.1 m)
  where
    by : (b : Bool) → nat_eq x c ≡ b → (b || contains ks c) ≡ true → (contains ks c ≡ true → contains allowed (f c) ≡ true) → contains allowed (f c) ≡ true
    by true e m later = subst (λ (n : ℕ). contains allowed (f n) ≡ true) (eqb-true x c e) h.0
    by false e m later = later m

pub first_in : (test : ℕ → Bool) (ks : List ℕ) (x : ℕ) → first_where test ks ≡ Some x → contains ks x ≡ true
first_in test [] x e = cc
first_in test (k ∷ ks) x e = by (test k) e (first_in test ks x)
  where
    with_it : (b : Bool) → contains ks x ≡ true → (b || contains ks x) ≡ true
    with_it true h = refl
    with_it false h = h

    by : (b : Bool) → (if b then Some k else first_where test ks) ≡ Some x → (first_where test ks ≡ Some x → contains ks x ≡ true) → (nat_eq k x || contains ks x) ≡ true
    by true e f = let same : k ≡ x = cc in ap (λ (b : Bool). b || contains ks x) (eq-eqb k x same)
    by false e f = with_it (nat_eq k x) (f e)

pub last_found : (test : ℕ → Bool) (ks : List ℕ) (x : ℕ) → last_where test ks ≡ Some x → (contains ks x ≡ true) × (test x ≡ true)
last_found test [] x e = cc
last_found test (k ∷ ks) x e = by (last_where test ks) refl e (λ f. last_found test ks x f)
  where
    with_it : (b : Bool) → contains ks x ≡ true → (b || contains ks x) ≡ true
    with_it true h = refl
    with_it false h = h

    here : (b : Bool) → test k ≡ b → (if b then Some k else None) ≡ Some x → (contains (k ∷ ks) x ≡ true) × (test x ≡ true)
    here true is h = let same : k ≡ x = cc in (ap (λ (b : Bool). b || contains ks x) (eq-eqb k x same), ap test (sym same) ∙ is)
    here false is h = cc

    by : (o : Option ℕ) → last_where test ks ≡ o → last_or o (if test k then Some k else None) ≡ Some x → (last_where test ks ≡ Some x → (contains ks x ≡ true) × (test x ≡ true)) → (contains (k ∷ ks) x ≡ true) × (test x ≡ true)
    by None found h later = here (test k) refl h
    by (Some y) found h later = let same : y ≡ x = cc in let more = later (found ∙ ap Some same) in (with_it (nat_eq k x) more.0, more.1)

-- one rest at most
abbrev NoRest : List ℕ → Type 0
NoRest [] = ⊤
NoRest (z ∷ zs) = ((z == 2) ≡ false) × NoRest zs

abbrev OneRest : List ℕ → Type 0
OneRest [] = ⊤
OneRest (z ∷ zs) = (((z == 2) ≡ true) × NoRest zs) ⊎ (((z == 2) ≡ false) × OneRest zs)

one_rest : (zs : List ℕ) → IsDeclarationList zs → OneRest zs
one_rest _ Asserts = inr (refl, tt)
one_rest _ Alone = inr (refl, inr (refl, tt))
one_rest _ Names = inr (refl, inr (refl, inl (refl, tt)))
one_rest _ NamesAsm = inr (refl, inr (refl, inr (refl, inl (refl, tt))))

abbrev declared_parts : List ℕ
declared_parts = 4 ∷ 6 ∷ leaf_production ∷ 19 ∷ 5 ∷ 2 ∷ []

declared_in : (zs : List ℕ) → IsDeclarationList zs → AllIn declared_parts zs
declared_in _ Asserts = (refl, tt)
declared_in _ Alone = (refl, (refl, tt))
declared_in _ Names = (refl, (refl, (refl, tt)))
declared_in _ NamesAsm = (refl, (refl, (refl, (refl, tt))))

-- the initialiser of an object, with its declarator
record Begun (s : Source) (sense : ℕ → Sense) (e : ℕ) (x : Core) : Type 0 where
  declarator : ℕ
  leaf : ℕ
  derives : List Derivation
  words : Specified
  paths : List Path
  by : initialised_by s sense e ≡ Some declarator
  is : sense declarator ≡ IsDeclarator (Some leaf) derives
  told : specified_of s sense leaf ≡ Some words
  kind : kind_of x ≡ Initialise (entity_of s sense leaf) paths

module _ (w : World) (s : Source) (sense : ℕ → Sense) (e : ℕ) (x : Core) (n : Option ℕ) where
  begun_object : (declarator leaf : ℕ) (ds : List Derivation) → initialised_by s sense e ≡ Some declarator → sense declarator ≡ IsDeclarator (Some leaf) ds
      → (z : Option Specified) → specified_of s sense leaf ≡ z → (o : Option Ctype) → derived_type s sense z (Some declarator) ≡ o → (given_some o Operand e >>= initialised_as w s sense e declarator leaf) ≡ Fits (IsInitial x n) → Begun s sense e x
  begun_object declarator leaf ds found is None told None made h = cc
  begun_object declarator leaf ds found is None told (Some t) made h = cc
  begun_object declarator leaf ds found is (Some z) told None made h = cc
  begun_object declarator leaf ds found is (Some z) told (Some t) made h =
      let k : Initialises w s sense (entity_of s sense leaf) (IsInitial x n) = fitted (Initialises w s sense (entity_of s sense leaf)) (initialised_as w s sense e declarator leaf t) (IsInitial x n) h (as_gives w s sense e declarator leaf t) in
      record { declarator = declarator; leaf = leaf; derives = ds; words = z; paths = k.0; by = found; is = is; told = told; kind = k.1 }

  begun_at : (declarator : ℕ) → initialised_by s sense e ≡ Some declarator → (y : Sense) → sense declarator ≡ y → initialised_object w s sense e declarator (name_of_declarator w s sense y) ≡ Fits (IsInitial x n) → Begun s sense e x
  begun_at declarator found (IsDeclarator (Some leaf) ds) is h =
      begun_object declarator leaf ds found is (specified_of s sense leaf) refl (derived_type s sense (specified_of s sense leaf) (Some declarator)) refl h
  begun_at declarator found (IsDeclarator None ds) is h = cc
  begun_at declarator found y is h = cc

  begun_in : (o : Option ℕ) → initialised_by s sense e ≡ o → init_in w s sense e o ≡ Fits (IsInitial x n) → Begun s sense e x
  begun_in None found h = cc
  begun_in (Some declarator) found h = begun_at declarator found (sense declarator) refl h

-- the objects of a declaration
module _ (w : World) (s : Source) (sense : ℕ → Sense) where
  among : (list : List ℕ) (d leaf : ℕ) (ds : List Derivation) → contains list d ≡ true → is_a s p_declarator d ≡ true → sense d ≡ IsDeclarator (Some leaf) ds → is_automatic_object w s sense leaf ≡ true
      → contains (objects_among w s sense list) leaf ≡ true
  among [] d leaf ds h is named auto = cc
  among (c ∷ list) d leaf ds h is named auto = by (nat_eq c d) refl h (λ k. among list d leaf ds k is named auto)
    where
      own : contains (automatic_name w s sense (sense d)) leaf ≡ true
      own =
          ap (λ (y : Sense). contains (automatic_name w s sense y) leaf) named
          ∙ (ap (λ (b : Bool). contains (if b then leaf ∷ [] else []) leaf) auto ∙ ap (λ (b : Bool). b || false) (eq-eqb leaf leaf refl))

      by : (b : Bool) → nat_eq c d ≡ b → (b || contains list d) ≡ true → (contains list d ≡ true → contains (objects_among w s sense list) leaf ≡ true)
          → contains (if is_a s p_declarator c then automatic_name w s sense (sense c) ++ objects_among w s sense list else objects_among w s sense list) leaf ≡ true
      by true same k more =
          let e : c ≡ d = eqb-true c d same in
          subst (λ (m : ℕ). contains (if is_a s p_declarator m then automatic_name w s sense (sense m) ++ objects_among w s sense list else objects_among w s sense list) leaf ≡ true) (sym e)
          (ap (λ (b : Bool). contains (if b then automatic_name w s sense (sense d) ++ objects_among w s sense list else objects_among w s sense list) leaf) is
          ∙ contains_left (automatic_name w s sense (sense d)) (objects_among w s sense list) leaf own)
      by false other k more =
          if_holds (λ (l : List ℕ). contains l leaf ≡ true) (is_a s p_declarator c) (automatic_name w s sense (sense c) ++ objects_among w s sense list) (objects_among w s sense list)
          (λ e. contains_right (automatic_name w s sense (sense c)) (objects_among w s sense list) leaf (more k)) (λ e. more k)

  no_rest : (list : List ℕ) (c : ℕ) → NoRest (map (production_at s) list) → contains list c ≡ true → is_a s p_rest c ≡ true → ⊥
  no_rest [] c none h is = cc
  no_rest (k ∷ list) c none h is = by (nat_eq k c) refl h (λ m. no_rest list c none.1 m is)
    where
      by : (b : Bool) → nat_eq k c ≡ b → (b || contains list c) ≡ true → (contains list c ≡ true → ⊥) → ⊥
      by true same m later = let f : is_a s p_rest c ≡ false = subst (λ (x : ℕ). is_a s p_rest x ≡ false) (eqb-true k c same) none.0 in let g : true ≡ false = sym is ∙ f in cc
      by false other m later = later m

  in_rest : (list : List ℕ) (c : ℕ) → OneRest (map (production_at s) list) → contains list c ≡ true → is_a s p_rest c ≡ true → objects_in_rest w s sense list ≡ objects_among w s sense (children_at s c)
  in_rest [] c one h is = cc
  in_rest (k ∷ list) c (inl here) h is =
      ap (λ (b : Bool). if b then objects_among w s sense (children_at s k) else objects_in_rest w s sense list) here.0 ∙ ap (λ (x : ℕ). objects_among w s sense (children_at s x)) (same (nat_eq k c) refl h)
    where
      same : (b : Bool) → nat_eq k c ≡ b → (b || contains list c) ≡ true → k ≡ c
      same true e m = eqb-true k c e
      same false e m = absurd (no_rest list c here.1 m is)
  in_rest (k ∷ list) c (inr later) h is =
      ap (λ (b : Bool). if b then objects_among w s sense (children_at s k) else objects_in_rest w s sense list) later.0 ∙ in_rest list c later.1 (more (nat_eq k c) refl h) is
    where
      more : (b : Bool) → nat_eq k c ≡ b → (b || contains list c) ≡ true → contains list c ≡ true
      more true e m = absurd (let f : is_a s p_rest c ≡ false = subst (λ (x : ℕ). is_a s p_rest x ≡ false) (eqb-true k c e) later.0 in let g : true ≡ false = sym is ∙ f in cc)
      more false e m = m

  -- what runs is what some part runs
  run_is : (list : List ℕ) → (run_in w s sense list ≡ []) ⊎ ((c : ℕ) × (contains list c ≡ true) × (sense c ≡ IsRun (run_in w s sense list)))
  run_is [] = inl refl
  run_is (c ∷ list) = by (sense c) refl (run_is list)
    where
      with_it : (d : ℕ) (b : Bool) → contains list d ≡ true → (b || contains list d) ≡ true
      with_it d true h = refl
      with_it d false h = h

      by : (y : Sense) → sense c ≡ y → (run_in w s sense list ≡ []) ⊎ ((d : ℕ) × (contains list d ≡ true) × (sense d ≡ IsRun (run_in w s sense list)))
          → ((elim y as (λ _. List Core) [ IsRun cores ↦ cores | _ ↦ run_in w s sense list ]) ≡ []) ⊎ ((d : ℕ) × (contains (c ∷ list) d ≡ true) × (sense d ≡ IsRun (elim y as (λ _. List Core) [ IsRun cores ↦ cores | _ ↦ run_in w s sense list ])))
      by (IsRun cores) is more = inr (c, ap (λ (b : Bool). b || contains list c) (eq-eqb c c refl), is)
      by y is (inl none) = inl none
      by y is (inr found) = inr (found.0, with_it found.0 (nat_eq c found.0) found.1, found.2)

module _ (s : Source) (senses : List Sense) (are : AreSenses s senses) (grown : IsGrown s) (brought : IsBrought s) where
  F : ℕ → ℕ → Sense
  F n = known_at s senses n

  before : (p c : ℕ) → contains (children_at s p) c ≡ true → c < p
  before p c h = let found = in_list (children_at s p) c h in grown.first p found.0 c found.1

  parent : (p c : ℕ) → contains (children_at s p) c ≡ true → parent_of s c ≡ Some p
  parent p c h = parent_is s grown p c (in_list (children_at s p) c h)

  -- the sense of a node of one of five productions is plain
  GivesPlain : ℕ → Type 0
  GivesPlain p = (w : World) (f : ℕ → Sense) (at : ℕ) (children : List ℕ) → Gives IsPlain (row_of w s f p at children)

  plain_at : (j p : ℕ) → j < length senses → production_at s j ≡ p → GivesPlain p → IsPlain (sense_in senses j)
  unfolding GivesPlain
  plain_at j p lt same gives =
      fitted IsPlain (row_of (world_of s senses j) s (known_at s senses j) p j (children_at s j)) (sense_in senses j) (row_as s senses are p j lt (eq-eqb (production_at s j) p same)) (gives (world_of s senses j) (known_at s senses j) j (children_at s j))

  no_run : (j : ℕ) (cores : List Core) → sense_in senses j ≡ IsRun cores → IsPlain (sense_in senses j) → ⊥
  no_run j cores e h = subst IsPlain e h

  no_initial : (j : ℕ) (x : Core) (n : Option ℕ) → sense_in senses j ≡ IsInitial x n → IsPlain (sense_in senses j) → ⊥
  no_initial j x n e h = subst IsPlain e h

  -- the declarator of an initialiser in the rest of a declaration
  declarator_in : (c d e k : ℕ) → contains (children_at s d) c ≡ true → contains (children_at s c) e ≡ true → (sense : ℕ → Sense) → initialised_by s sense e ≡ Some k
      → (is_a s p_declarator k ≡ true) × ((contains (children_at s c) k ≡ true) ⊎ (contains (children_at s d) k ≡ true))
  declarator_in c d e k h m sense found = by (last_where (λ j. is_a s p_declarator j && nat_lt j e) (children_at s c)) refl there
    where
      there : (elim (last_where (λ j. is_a s p_declarator j && nat_lt j e) (children_at s c)) as (λ _. Option ℕ) [ Some j ↦ Some j | None ↦ option_and_then (child_of s p_declarator) (parent_of s c) ]) ≡ Some k
      there =
          sym (ap (λ (o : Option ℕ). elim o as (λ _. Option ℕ) [
            | None ↦ None
            | Some p ↦ elim (last_where (λ j. is_a s p_declarator j && nat_lt j e) (children_at s p)) as (λ _. Option ℕ) [ Some j ↦ Some j | None ↦ option_and_then (child_of s p_declarator) (parent_of s p) ]
          ]) (parent c e m)) ∙ found

      by : (o : Option ℕ) → last_where (λ j. is_a s p_declarator j && nat_lt j e) (children_at s c) ≡ o → (elim o as (λ _. Option ℕ) [ Some j ↦ Some j | None ↦ option_and_then (child_of s p_declarator) (parent_of s c) ]) ≡ Some k
          → (is_a s p_declarator k ≡ true) × ((contains (children_at s c) k ≡ true) ⊎ (contains (children_at s d) k ≡ true))
      by (Some j) last g =
          let same : j ≡ k = cc in
          let at = last_found (λ j. is_a s p_declarator j && nat_lt j e) (children_at s c) k (last ∙ ap Some same) in
          (and_left (is_a s p_declarator k) (nat_lt k e) at.1, inl at.0)
      by None last g =
          let up : child_of s p_declarator d ≡ Some k = sym (ap (option_and_then (child_of s p_declarator)) (parent d c h)) ∙ g in
          (found_where (is_a s p_declarator) (children_at s d) k up, inr (first_in (is_a s p_declarator) (children_at s d) k up))

  begun : (c d e : ℕ) → e < length senses → is_a s p_rest c ≡ true → contains (children_at s c) e ≡ true → is_a s p_init e ≡ true → (x : Core) (n : Option ℕ) → sense_in senses e ≡ IsInitial x n → Begun s (known_at s senses e) e x
  begun c d e lt rest m is x n at =
      let w : World = world_of s senses e in
      let f : ℕ → Sense = known_at s senses e in
      let init : Given Sense = init_in w s f e (initialised_by s f e) in
      let step : (elim (parent_of s e) as (λ _. Given Sense) [ None ↦ Fits Nothing | Some p ↦ if is_a s p_rest p then init else Fits Nothing ]) ≡ init =
      ap (λ (o : Option ℕ). elim o as (λ _. Given Sense) [ None ↦ Fits Nothing | Some p ↦ if is_a s p_rest p then init else Fits Nothing ]) (parent c e m) ∙ ap (λ (b : Bool). if b then init else Fits Nothing) rest in
      begun_in w s f e x n (initialised_by s f e) refl (sym step ∙ (row_as s senses are p_init e lt is ∙ ap Fits at))

  -- of what runs, one initialiser
  module _ (i d c : ℕ) (late : d < i) (within : i < length senses) (m : contains (children_at s d) c ≡ true) (rest : is_a s p_rest c ≡ true) (one : OneRest (map (production_at s) (children_at s d))) where
    objects : List ℕ
    objects = objects_declared (world_of s senses i) s (known_at s senses i) d

    initial_runs : (e : ℕ) → contains (children_at s c) e ≡ true → is_a s p_init e ≡ true → (x : Core) (n : Option ℕ) → sense_in senses e ≡ IsInitial x n → runs_initialiser (world_of s senses c) s (known_at s senses c) e ≡ true
        → InitialisesOneOf objects (kind_of x)
    unfolding objects
    initial_runs e k is x n at runs =
        let below : c < d = before d c m in
        let under : e < c = before c e k in
        let b : Begun s (known_at s senses e) e x = begun c d e (omega (arith, under, below, late, within)) rest k is x n at in
        let ec : e ≤ c = omega (arith, under) in
        let ei : e ≤ i = omega (arith, under, below, late) in
        let named : Sense = IsDeclarator (Some b.leaf) b.derives in
        let here : known_at s senses c b.declarator ≡ named = told_later s senses e c b.declarator named b.is (λ no. cc) ec in
        let there : known_at s senses i b.declarator ≡ named = told_later s senses e i b.declarator named b.is (λ no. cc) ei in
        let first = subst (λ (o : Option ℕ). (elim (option_and_then (λ j. elim (known_at s senses c j) as (λ _. Option ℕ) [ IsDeclarator name ds ↦ name | _ ↦ None ]) o) as (λ _. Bool) [ None ↦ false | Some leaf ↦ is_automatic_object (world_of s senses c) s (known_at s senses c) leaf ]) ≡ true) b.by runs in
        let auto : is_automatic_object (world_of s senses c) s (known_at s senses c) b.leaf ≡ true =
        subst (λ (y : Sense). (elim (elim y as (λ _. Option ℕ) [ IsDeclarator name ds ↦ name | _ ↦ None ]) as (λ _. Bool) [ None ↦ false | Some leaf ↦ is_automatic_object (world_of s senses c) s (known_at s senses c) leaf ]) ≡ true) here first in
        let at_c : IsLocal s (known_at s senses c) b.leaf = local_of s (world_of s senses c) (known_at s senses c) b.leaf auto in
        let told_c = specified_later s senses e c b.leaf b.words b.told ec in
        let told_i = specified_later s senses e i b.leaf b.words b.told ei in
        let at_e : IsLocal s (known_at s senses e) b.leaf = local_as s (known_at s senses c) (known_at s senses e) b.leaf b.words told_c b.told at_c in
        let at_i : IsLocal s (known_at s senses i) b.leaf = local_as s (known_at s senses c) (known_at s senses i) b.leaf b.words told_c told_i at_c in
        let auto_i = of_local s (world_of s senses i) (known_at s senses i) b.leaf at_i in
        let kind : kind_of x ≡ Initialise b.leaf b.paths = b.kind ∙ ap (λ (entity : ℕ). Initialise entity b.paths) (local_entity s (known_at s senses e) b.leaf at_e) in
        let place = declarator_in c d e b.declarator m k (known_at s senses e) b.by in
        let w : World = world_of s senses i in
        let f : ℕ → Sense = known_at s senses i in
        let has : contains (objects_among w s f (children_at s d) ++ objects_in_rest w s f (children_at s d)) b.leaf ≡ true = elim place.1 [
          | inl behind ↦ contains_right (objects_among w s f (children_at s d)) (objects_in_rest w s f (children_at s d)) b.leaf
              (ap (λ (l : List ℕ). contains l b.leaf) (in_rest w s f (children_at s d) c one m rest) ∙ among w s f (children_at s c) b.declarator b.leaf b.derives behind place.0 there auto_i)
          | inr own ↦ contains_left (objects_among w s f (children_at s d)) (objects_in_rest w s f (children_at s d)) b.leaf (among w s f (children_at s d) b.declarator b.leaf b.derives own place.0 there auto_i)
        ] in
        subst (InitialisesOneOf objects) (sym kind) (in_list (objects_among w s f (children_at s d) ++ objects_in_rest w s f (children_at s d)) b.leaf has)

    -- what stands in the rest and has an initialiser's sense is an initialiser
    part_runs : (e : ℕ) → contains (children_at s c) e ≡ true → (x : Core) (n : Option ℕ) → known_at s senses c e ≡ IsInitial x n → runs_initialiser (world_of s senses c) s (known_at s senses c) e ≡ true → InitialisesOneOf objects (kind_of x)
    unfolding GivesPlain
    part_runs e k x n is runs =
        let below : c < d = before d c m in
        let under : e < c = before c e k in
        let lt : e < length senses = omega (arith, under, below, late, within) in
        let at : sense_in senses e ≡ IsInitial x n = sym (known s senses c e under) ∙ is in
        let parts : AllIn rest_parts (map (production_at s) (children_at s c)) = rest_list (map (production_at s) (children_at s c)) (subst (λ (p : ℕ). Brings p 0 (map (production_at s) (children_at s c))) (eqb-true (production_at s c) p_rest rest) (brought c)) in
        let found = in_list rest_parts (production_at s e) (listed_in (production_at s) rest_parts (children_at s c) e parts k) in
        by_place lt at found.0 found.1
      where
        some_one : {X : Type 0} → {a b : X} → ◌≡◌ {A = Option X} (Some a) (Some b) → a ≡ b
        some_one h = cc

        by_place : e < length senses → sense_in senses e ≡ IsInitial x n → (j : ℕ) → slice_get rest_parts j ≡ Some (production_at s e) → InitialisesOneOf objects (kind_of x)
        by_place lt at zero h = absurd (no_initial e x n at (plain_at e leaf_production lt (sym (some_one h)) (λ w f at list. plain_leaf w s f at list)))
        by_place lt at (suc zero) h = initial_runs e k (eq-eqb (production_at s e) p_init (sym (some_one h))) x n at runs
        by_place lt at (suc (suc zero)) h = absurd (no_initial e x n at (plain_at e 19 lt (sym (some_one h)) (λ w f at list. plain_declarator w s f at list)))
        by_place lt at (suc (suc (suc zero))) h = absurd (no_initial e x n at (plain_at e 5 lt (sym (some_one h)) (λ w f at list. plain_asm w s f at list)))
        by_place lt at (suc (suc (suc (suc j)))) h = cc

    all_run : (list : List ℕ) → ((e : ℕ) → contains list e ≡ true → contains (children_at s c) e ≡ true) → AllInitialise objects (initials_among (world_of s senses c) s (known_at s senses c) list)
    all_run [] inside = tt
    all_run (e ∷ list) inside = by (known_at s senses c e) refl (all_run list (λ j h. inside j (later (nat_eq e j) j h)))
      where
        later : (b : Bool) (j : ℕ) → contains list j ≡ true → (b || contains list j) ≡ true
        later true j h = refl
        later false j h = h

        by : (y : Sense) → known_at s senses c e ≡ y → AllInitialise objects (initials_among (world_of s senses c) s (known_at s senses c) list)
            → AllInitialise objects (elim y as (λ _. List Core) [
              | IsInitial x n ↦ if runs_initialiser (world_of s senses c) s (known_at s senses c) e then x ∷ initials_among (world_of s senses c) s (known_at s senses c) list else initials_among (world_of s senses c) s (known_at s senses c) list
              | _ ↦ initials_among (world_of s senses c) s (known_at s senses c) list
            ])
        by (IsInitial x n) is more =
            if_holds (AllInitialise objects) (runs_initialiser (world_of s senses c) s (known_at s senses c) e) _ _ (λ r. (part_runs e (inside e (ap (λ (b : Bool). b || contains list e) (eq-eqb e e refl))) x n is r, more)) (λ r. more)
        by y is more = more

    rest_runs : AllInitialise objects (initials_among (world_of s senses c) s (known_at s senses c) (children_at s c))
    rest_runs = all_run (children_at s c) (λ e h. h)

  -- what a declaration runs
  module _ (i d : ℕ) (late : d < i) (within : i < length senses) (is : is_a s p_declaration d ≡ true) where
    list : IsDeclarationList (map (production_at s) (children_at s d))
    list = declaration_list (map (production_at s) (children_at s d)) (subst (λ (p : ℕ). Brings p 0 (map (production_at s) (children_at s d))) (eqb-true (production_at s d) p_declaration is) (brought d))

    objects_of : List ℕ
    objects_of = objects_declared (world_of s senses i) s (known_at s senses i) d

    part_is : (c : ℕ) → contains (children_at s d) c ≡ true → (cores : List Core) → known_at s senses d c ≡ IsRun cores → AllInitialise objects_of cores
    unfolding objects_of objects GivesPlain
    part_is c m cores run =
        let below : c < d = before d c m in
        let lt : c < length senses = omega (arith, below, late, within) in
        let at : sense_in senses c ≡ IsRun cores = sym (known s senses d c below) ∙ run in
        let found = in_list declared_parts (production_at s c) (listed_in (production_at s) declared_parts (children_at s d) c (declared_in (map (production_at s) (children_at s d)) list) m) in
        by_place lt at found.0 found.1
      where
        some_one : {X : Type 0} → {a b : X} → ◌≡◌ {A = Option X} (Some a) (Some b) → a ≡ b
        some_one h = cc

        fits_run : (a b : List Core) → ◌≡◌ {A = Given Sense} (Fits (IsRun a)) (Fits (IsRun b)) → a ≡ b
        fits_run a b h = cc

        by_place : c < length senses → sense_in senses c ≡ IsRun cores → (j : ℕ) → slice_get declared_parts j ≡ Some (production_at s c) → AllInitialise objects_of cores
        by_place lt at zero h = absurd (no_run c cores at (plain_at c 4 lt (sym (some_one h)) (λ w f at list. plain_assert w s f at list)))
        by_place lt at (suc zero) h = absurd (no_run c cores at (plain_at c 6 lt (sym (some_one h)) (λ w f at list. plain_specs w s f at list)))
        by_place lt at (suc (suc zero)) h = absurd (no_run c cores at (plain_at c leaf_production lt (sym (some_one h)) (λ w f at list. plain_leaf w s f at list)))
        by_place lt at (suc (suc (suc zero))) h = absurd (no_run c cores at (plain_at c 19 lt (sym (some_one h)) (λ w f at list. plain_declarator w s f at list)))
        by_place lt at (suc (suc (suc (suc zero)))) h = absurd (no_run c cores at (plain_at c 5 lt (sym (some_one h)) (λ w f at list. plain_asm w s f at list)))
        by_place lt at (suc (suc (suc (suc (suc zero))))) h =
            let rest : is_a s p_rest c ≡ true = eq-eqb (production_at s c) p_rest (sym (some_one h)) in
            let same : initials_among (world_of s senses c) s (known_at s senses c) (children_at s c) ≡ cores = fits_run _ cores (row_as s senses are p_rest c lt rest ∙ ap Fits at) in
            subst (AllInitialise objects_of) same (rest_runs i d c late within m rest (one_rest (map (production_at s) (children_at s d)) list))
        by_place lt at (suc (suc (suc (suc (suc (suc j)))))) h = cc

    whole_run : AllInitialise objects_of (run_in (world_of s senses d) s (known_at s senses d) (children_at s d))
    whole_run = elim (run_is (world_of s senses d) s (known_at s senses d) (children_at s d)) [
      | inl none ↦ subst (AllInitialise objects_of) (sym none) tt
      | inr found ↦ part_is found.0 found.1 (run_in (world_of s senses d) s (known_at s senses d) (children_at s d)) found.2
    ]

    run_here : RunsIn (objects_declared (world_of s senses i) s (known_at s senses i) d) (known_at s senses i d)
    unfolding objects_of
    run_here =
        let row : Fits (IsRun (run_in (world_of s senses d) s (known_at s senses d) (children_at s d))) ≡ Fits (sense_in senses d) = row_as s senses are p_declaration d (omega (arith, late, within)) is in
        let same : known_at s senses i d ≡ IsRun (run_in (world_of s senses d) s (known_at s senses d) (children_at s d)) = known s senses i d late ∙ fits_one _ _ (sym row) in
        subst (RunsIn (objects_declared (world_of s senses i) s (known_at s senses i) d)) (sym same) whole_run
      where
        fits_one : (a b : Sense) → ◌≡◌ {A = Given Sense} (Fits a) (Fits b) → a ≡ b
        fits_one a b h = cc

dec : (a b : ℕ) → (a < b) ⊎ (b ≤ a)
dec a zero = inr (omega arith)
dec zero (suc b) = inl (omega arith)
dec (suc a) (suc b) = elim (dec a b) [ inl lt ↦ inl (omega (arith, lt)) | inr le ↦ inr (omega (arith, le)) ]

pub declarations_run : DeclarationsRun
declarations_run s senses are grown brought i within d is = elim (dec d i) [
  | inl late ↦ run_here s senses are grown brought i d late within is
  | inr early ↦ subst (RunsIn (objects_declared (world_of s senses i) s (known_at s senses i) d)) (sym (unknown s senses i d early)) tt
]
