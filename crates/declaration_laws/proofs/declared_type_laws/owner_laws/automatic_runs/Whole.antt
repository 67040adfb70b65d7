-- From a name to its declarator, its initialiser and its declaration.
use Rattle.std.proofs.Common.{arith, ◌≡◌, ◌<◌, ℕ, suc, nat_eq, not, Bool, true, false, ◌&&◌, ◌||◌, List, [], ◌∷◌, Option, Some, None, take, refl, sym, ap, ◌∙◌, subst, ◌⊎◌, inl, inr}
use Rattle.std.specs.Prelude.{is_none, option_and_then, if◌then◌else◌}
use Rattle.std.proofs.lemmas.Bool.{eqb-true}
use Rattle.std.proofs.lemmas.List.{get_or-take}
use Rattle.c_grammar.specs.Productions.{p_external, p_rest, p_declaration, p_declarator, p_parameter, p_asm_name, p_field}
use Rattle.c_grammar.specs.Terminals.{contains}
use Rattle.c_grammar.specs.Words.{word_extern, word_static, sign_assign}
use Rattle.core_tree.specs.declared.node.Storage.{Storage}
use Rattle.core_tree.specs.declared.node.Storage.TheVariants.{Static, Automatic, FunctionBody, Parameter, Declared}
use Rattle.core_tree.specs.Rows.{Has}
use Rattle.c_consts.specs.Core.{Core}
use Rattle.c_senses.specs.Names.{source_of, numbered}
use Rattle.c_senses.specs.Tree.{Source, production_at, children_at, is_a, is_name, has_sign, parent_of}
use Rattle.c_senses.specs.World.{World, same_length}
use Rattle.c_senses.specs.Sense.{Sense, Nothing, Derivation, IsDeclarator, IsInitial, IsSpecified, Specified, sense_in}
use Rattle.c_senses.specs.Declarators.{outermost_of, declaration_around, specs_of}
use Rattle.c_senses.specs.Entities.{behind, without_asm, in_rest, initialiser_in, initialiser_of, initialised_by, initialiser_for, declaration_of, is_typedef, is_parameter, is_at_file, is_defined, declares_function, has_storage, specified, is_static_object, storage_of, entity_of}
use Rattle.c_senses.specs.Right.{is_declaring, is_defined_parameter, stands_in_declaration, declares_entity}
use Rattle.c_senses.specs.Rows.{world_at}
use Rattle.c_senses.specs.Statements.{is_automatic_object, runs_initialiser}
use Rattle.core_node_laws.specs.passed.parsed_tree_laws.family_laws.Families.{IsChild, Ascend}
use Rattle.core_node_laws.specs.standing_laws.Standing.{IsGrown}
use Rattle.core_node_laws.proofs.standing_laws.Climbing.{parent_holds, in_list, list_in}
use Rattle.declaration_laws.proofs.declared_type_laws.owner_laws.Whole.{grown_of}
use Rattle.core_node_laws.proofs.marked_trees.Beneath.{ascend_above}
use Rattle.core_node_laws.proofs.marked_trees.Earlier.{earlier}
use Rattle.declaration_laws.specs.definition_laws.initialiser_laws.Initialisers.{InitialisersAreOf}
use Rattle.declaration_laws.proofs.definition_laws.initialiser_laws.Found.{initialisers_found}
use Rattle.declaration_laws.specs.declared_type_laws.owner_laws.run_initialisers.Run.{InitialisersRun}
use Rattle.declaration_laws.proofs.declared_type_laws.owner_laws.run_initialisers.Whole.{units_run_initialisers}
use Rattle.declaration_laws.specs.declared_type_laws.owner_laws.automatic_runs.Automatic.{RunsFor, AutomaticRuns}

both : (a b : Bool) → (a && b) ≡ true → (a ≡ true) × (b ≡ true)
both true b e = (refl, e)
both false b e = cc

some_same : {A : Type 0} → {x y : A} → ◌≡◌ {A = Option A} (Some x) (Some y) → x ≡ y
some_same e = cc

-- what is behind a number of an ascending list is more
after : (low o : ℕ) (ks : List ℕ) (r : ℕ) → Ascend low ks → Has (behind o ks) r → o < r
after low o [] r a h = cc
after low o (k ∷ ks) r a h = by (nat_eq k o) refl h (λ g. after (suc k) o ks r a.1 g)
  where
    by : (b : Bool) → nat_eq k o ≡ b → Has (if b then ks else behind o ks) r → (Has (behind o ks) r → o < r) → o < r
    by true e h later = let same = eqb-true k o e in let le = ascend_above (suc k) ks r a.1 h in omega (arith, same, le)
    by false e h later = later h

behind_has : (o : ℕ) (ks : List ℕ) (r : ℕ) → Has (behind o ks) r → Has ks r
behind_has o [] r h = h
behind_has o (k ∷ ks) r h = by (nat_eq k o) h (λ g. behind_has o ks r g)
  where
    by : (b : Bool) → Has (if b then ks else behind o ks) r → (Has (behind o ks) r → Has ks r) → Has (k ∷ ks) r
    by true h later = (suc h.0, h.1)
    by false h later = let more = later h in (suc more.0, more.1)

asm_has : (s : Source) (sense : ℕ → Sense) (l : List ℕ) (r : ℕ) → Has (without_asm s sense l) r → Has l r
asm_has s sense [] r h = h
asm_has s sense (c ∷ rest) r h = by (is_a s p_asm_name c) h
  where
    by : (b : Bool) → Has (if b then rest else c ∷ rest) r → Has (c ∷ rest) r
    by true h = (suc h.0, h.1)
    by false h = h

in_has : (s : Source) (sense : ℕ → Sense) (l : List ℕ) (init : ℕ) → initialiser_in s sense l ≡ Some init → Has l init
in_has s sense [] init e = cc
in_has s sense (a ∷ []) init e = cc
in_has s sense (a ∷ i ∷ l) init e = by (has_sign s sign_assign a) e
  where
    by : (b : Bool) → (if b then Some i else None) ≡ Some init → Has (a ∷ i ∷ l) init
    by true e = (1, e)
    by false e = cc

module _ (s : Source) (grown : IsGrown s) (sense : ℕ → Sense) where
  -- the rest in which an initialiser stands, behind the declarator
  pub record InRest (o p init : ℕ) : Type 0 where
    pub rest : ℕ
    pub is_rest : is_a s p_rest rest ≡ true
    pub child : IsChild s rest init
    pub after : o < rest
    pub place : (rest ≡ p) ⊎ (IsChild s p rest × (is_a s p_rest p ≡ false))

  rest_of : (o p init : ℕ) → parent_of s o ≡ Some p → initialiser_of s sense o ≡ Some init → InRest o p init
  rest_of o p init up e = by (is_a s p_rest p) refl (sym (ap (λ (q : Option ℕ). elim q as (λ _. Option ℕ) [ None ↦ None | Some p ↦ if is_a s p_rest p then initialiser_in s sense (without_asm s sense (behind o (children_at s p))) else in_rest s sense (without_asm s sense (behind o (children_at s p))) ]) up) ∙ e)
    where
      holds : IsChild s p o
      holds = in_list (children_at s p) o (parent_holds s grown p o up)

      first : (l : List ℕ) → without_asm s sense (behind o (children_at s p)) ≡ l → is_a s p_rest p ≡ false → in_rest s sense l ≡ Some init → InRest o p init
      first [] le off e = cc
      first (c ∷ l) le off e = pick (is_a s p_rest c) refl e
        where
          has : Has (behind o (children_at s p)) c
          has = asm_has s sense (behind o (children_at s p)) c (subst (λ (k : List ℕ). Has k c) (sym le) (0, refl))

          pick : (b : Bool) → is_a s p_rest c ≡ b → (if b then initialiser_in s sense (children_at s c) else None) ≡ Some init → InRest o p init
          pick true is e = record {
            rest = c;
            is_rest = is;
            child = in_has s sense (children_at s c) init e;
            after = after 0 o (children_at s p) c (grown.families.ascend p) has;
            place = inr (behind_has o (children_at s p) c has, off);
          }
          pick false is e = cc

      by : (b : Bool) → is_a s p_rest p ≡ b → (if b then initialiser_in s sense (without_asm s sense (behind o (children_at s p))) else in_rest s sense (without_asm s sense (behind o (children_at s p)))) ≡ Some init → InRest o p init
      by true is e = record {
        rest = p;
        is_rest = is;
        child = behind_has o (children_at s p) init (asm_has s sense (behind o (children_at s p)) init (in_has s sense (without_asm s sense (behind o (children_at s p))) init e));
        after = grown.first p holds.0 o holds.1;
        place = inl refl;
      }
      by false is e = first (without_asm s sense (behind o (children_at s p))) refl is e

storage_parts : (p f d e t : Bool) → (if p then Parameter else if f then (if d then FunctionBody else Declared) else if e then Declared else if t then Static else Automatic) ≡ Automatic → (p ≡ false) × (f ≡ false) × (t ≡ false)
storage_parts true f d e t h = cc
storage_parts false true true e t h = cc
storage_parts false true false e t h = cc
storage_parts false false d true t h = cc
storage_parts false false d false true h = cc
storage_parts false false d false false h = (refl, refl, refl)

storage_made : (p f d x i t : Bool) → p ≡ false → f ≡ false → x ≡ false → t ≡ false → (if p then Parameter else if f then (if d then FunctionBody else Declared) else if x && i then Declared else if t then Static else Automatic) ≡ Automatic
storage_made false false d false i false ep ef ex et = refl
storage_made true f d x i t ep ef ex et = cc
storage_made false true d x i t ep ef ex et = cc
storage_made false false d true i t ep ef ex et = cc
storage_made false false d false i true ep ef ex et = cc

none_of : (a b c : Bool) → (a || (b || c)) ≡ false → (a ≡ false) × (b ≡ false) × (c ≡ false)
none_of false false false e = (refl, refl, refl)
none_of true b c e = cc
none_of false true c e = cc
none_of false false true e = cc

all_off : (a b c : Bool) → a ≡ false → b ≡ false → c ≡ false → (a || (b || c)) ≡ false
all_off false false false x y z = refl
all_off true b c x y z = cc
all_off false true c x y z = cc
all_off false false true x y z = cc

module _ (s : Source) (grown : IsGrown s) (senses : List Sense) (found : InitialisersAreOf s) (runs : InitialisersRun s senses) (leaf : ℕ) where
  abbrev g : ℕ → Sense
  g = sense_in senses

  abbrev told : ℕ → Sense → Bool
  told word y = elim (elim y as (λ _. Option Specified) [ IsSpecified x ↦ Some x | _ ↦ None ]) as (λ _. Bool) [ None ↦ false | Some x ↦ contains x.storage word ]

  -- what the first senses say of storage, all say
  word_off : (i word : ℕ) (o : Option ℕ) → (elim (specified s g o) as (λ _. Bool) [ None ↦ false | Some x ↦ contains x.storage word ]) ≡ false
      → (elim (specified s (sense_in (take i senses)) o) as (λ _. Bool) [ None ↦ false | Some x ↦ contains x.storage word ]) ≡ false
  word_off i word None e = refl
  word_off i word (Some c) e = by (earlier senses i c)
    where
      by : (sense_in (take i senses) c ≡ g c) ⊎ (sense_in (take i senses) c ≡ Nothing) → told word (sense_in (take i senses) c) ≡ false
      by (inl same) = ap (told word) same ∙ e
      by (inr none) = ap (told word) none

  has_off : (i word : ℕ) → has_storage s g word leaf ≡ false → has_storage s (sense_in (take i senses)) word leaf ≡ false
  has_off i word e = word_off i word (option_and_then (specs_of s) (outermost_of s leaf)) e

  automatic_before : (w : World) (i : ℕ) → is_typedef s g leaf ≡ false → storage_of s g leaf ≡ Automatic → is_automatic_object w s (sense_in (take i senses)) leaf ≡ true
  automatic_before w i off h = both_are (is_typedef s g leaf) (storage_of s (sense_in (take i senses)) leaf) off before
    where
      parts : (is_parameter s g leaf ≡ false) × (declares_function s g leaf ≡ false) × (is_static_object s g leaf ≡ false)
      parts = storage_parts (is_parameter s g leaf) (declares_function s g leaf) (is_defined s g leaf) (has_storage s g word_extern leaf && is_none (initialiser_for s g leaf)) (is_static_object s g leaf) h

      words : (is_at_file s g leaf ≡ false) × (has_storage s g word_static leaf ≡ false) × (has_storage s g word_extern leaf ≡ false)
      words = none_of (is_at_file s g leaf) (has_storage s g word_static leaf) (has_storage s g word_extern leaf) parts.2

      before : storage_of s (sense_in (take i senses)) leaf ≡ Automatic
      before =
          storage_made (is_parameter s g leaf) (declares_function s g leaf) (is_defined s g leaf) (has_storage s (sense_in (take i senses)) word_extern leaf) (is_none (initialiser_for s g leaf)) (is_static_object s (sense_in (take i senses)) leaf) parts.0 parts.1
          (has_off i word_extern words.2)
          (all_off (is_at_file s g leaf) (has_storage s (sense_in (take i senses)) word_static leaf) (has_storage s (sense_in (take i senses)) word_extern leaf) words.0 (has_off i word_static words.1) (has_off i word_extern words.2))

      both_are : (t : Bool) (y : Storage) → t ≡ false → y ≡ Automatic → (not t && elim y as (λ _. Bool) [ Automatic ↦ true | _ ↦ false ]) ≡ true
      both_are false Automatic a b = refl
      both_are true y a b = cc
      both_are false Static a b = cc
      both_are false FunctionBody a b = cc
      both_are false Parameter a b = cc
      both_are false Declared a b = cc

  -- the outermost declarator is the name's
  declarator_of : is_declaring s senses leaf ≡ true → (o : ℕ) × (outermost_of s leaf ≡ Some o) × ((ds : List Derivation) × (g o ≡ IsDeclarator (Some leaf) ds))
  declarator_of e = by (outermost_of s leaf) refl (both (is_name s leaf) _ e).1
    where
      named : (name : Option ℕ) → same_length name (Some leaf) ≡ true → name ≡ Some leaf
      named None e = cc
      named (Some a) e = ap (λ (x : ℕ). Some x) (eqb-true a leaf e)

      told : (y : Sense) → (elim y as (λ _. Bool) [ IsDeclarator name ds ↦ same_length name (Some leaf) | _ ↦ false ]) ≡ true → (ds : List Derivation) × (y ≡ IsDeclarator (Some leaf) ds)
      told (IsDeclarator name ds) e = (ds, ap (λ (n : Option ℕ). IsDeclarator n ds) (named name e))
      told y e = cc

      by : (q : Option ℕ) → outermost_of s leaf ≡ q → (elim q as (λ _. Bool) [ None ↦ false | Some d ↦ elim (g d) as (λ _. Bool) [ IsDeclarator name ds ↦ same_length name (Some leaf) | _ ↦ false ] ]) ≡ true
          → (o : ℕ) × (outermost_of s leaf ≡ Some o) × ((ds : List Derivation) × (g o ≡ IsDeclarator (Some leaf) ds))
      by None at e = cc
      by (Some o) at e = (o, at, told (g o) e)

  declaration_is : stands_in_declaration s senses leaf ≡ true → is_at_file s g leaf ≡ false → is_parameter s g leaf ≡ false → (d : ℕ) × (declaration_of s g leaf ≡ Some d) × (is_a s p_declaration d ≡ true)
  declaration_is stands file parameter = by (declaration_of s g leaf) refl stands file parameter
    where
      pick : (a b c e : Bool) → a ≡ false → c ≡ false → (a || (b || (c && e))) ≡ true → b ≡ true
      pick false true c e x y h = refl
      pick false false false e x y h = cc
      pick true b c e x y h = cc
      pick false false true e x y h = cc

      by : (o : Option ℕ) → declaration_of s g leaf ≡ o → (elim o as (λ _. Bool) [ None ↦ false | Some p ↦ is_a s p_external p || (is_a s p_declaration p || (is_a s p_parameter p && is_defined_parameter s senses leaf)) ]) ≡ true
          → (elim o as (λ _. Bool) [ None ↦ false | Some p ↦ is_a s p_external p ]) ≡ false → (elim o as (λ _. Bool) [ None ↦ false | Some p ↦ is_a s p_parameter p ]) ≡ false
          → (d : ℕ) × (declaration_of s g leaf ≡ Some d) × (is_a s p_declaration d ≡ true)
      by None e h file parameter = cc
      by (Some d) e h file parameter = (d, e, pick (is_a s p_external d) (is_a s p_declaration d) (is_a s p_parameter d) (is_defined_parameter s senses leaf) file parameter h)

  negated : (b : Bool) → not b ≡ true → b ≡ false
  negated true e = cc
  negated false e = refl

  -- the declaration around what a rest stands in
  rest_in : (o p init d : ℕ) → (h : InRest s grown g o p init) → declaration_around s p ≡ Some d → IsChild s d h.rest
  rest_in o p init d h around = by h.place
    where
      when_true : (b : Bool) → b ≡ true → (if b || is_a s p_field p then parent_of s p else Some p) ≡ Some d → parent_of s p ≡ Some d
      when_true true e f = f
      when_true false e f = cc

      no_field : (a b : Bool) → is_a s p_external p ≡ a → is_a s p_declaration p ≡ b → (a || b) ≡ true → is_a s p_field p ≡ true → ⊥
      no_field true b ea eb e f = let x = eqb-true (production_at s p) p_external ea in let y = eqb-true (production_at s p) p_field f in absurd (omega (arith, x, y))
      no_field false true ea eb e f = let x = eqb-true (production_at s p) p_declaration eb in let y = eqb-true (production_at s p) p_field f in absurd (omega (arith, x, y))
      no_field false false ea eb e f = cc

      when_false : (a b : Bool) → a ≡ false → (b ≡ true → ⊥) → (if a || b then parent_of s p else Some p) ≡ Some d → p ≡ d
      when_false false false e n f = some_same f
      when_false false true e n f = absurd (n refl)
      when_false true b e n f = cc

      by : (h.rest ≡ p) ⊎ (IsChild s p h.rest × (is_a s p_rest p ≡ false)) → IsChild s d h.rest
      by (inl same) =
          let up = when_true (is_a s p_rest p) (subst (λ (k : ℕ). is_a s p_rest k ≡ true) same h.is_rest) around in
          subst (λ (k : ℕ). IsChild s d k) (sym same) (in_list (children_at s d) p (parent_holds s grown d p up))
      by (inr (child, off)) =
          let nested = grown.nested.rests p h.rest (list_in (children_at s p) child.0 h.rest child.1) h.is_rest in
          let same = when_false (is_a s p_rest p) (is_a s p_field p) off (λ f. no_field (is_a s p_external p) (is_a s p_declaration p) refl refl nested f) around in
          subst (λ (k : ℕ). IsChild s k h.rest) same child

  runs_at : (w : World) (r o init : ℕ) (ds : List Derivation) → o < r → is_a s p_declarator o ≡ true → initialiser_of s g o ≡ Some init → g o ≡ IsDeclarator (Some leaf) ds → is_typedef s g leaf ≡ false → storage_of s g leaf ≡ Automatic
      → runs_initialiser w s (sense_in (take r senses)) init ≡ true
  runs_at w r o init ds lt declares e is off auto =
      let f : ℕ → Sense = sense_in (take r senses) in
      let by : initialised_by s f init ≡ Some o = found f o init declares e in
      let seen : f o ≡ IsDeclarator (Some leaf) ds = get_or-take r senses o Nothing lt ∙ is in
      ap (λ (q : Option ℕ). elim (option_and_then (λ d. elim (f d) as (λ _. Option ℕ) [ IsDeclarator name ds ↦ name | _ ↦ None ]) q) as (λ _. Bool) [ None ↦ false | Some leaf ↦ is_automatic_object w s f leaf ]) by
      ∙ (ap (λ (y : Sense). elim (elim y as (λ _. Option ℕ) [ IsDeclarator name ds ↦ name | _ ↦ None ]) as (λ _. Bool) [ None ↦ false | Some leaf ↦ is_automatic_object w s f leaf ]) seen ∙ automatic_before w r off auto)

  pub runs_for : (init : ℕ) (x : Core) (n : Option ℕ) → declares_entity s senses leaf ≡ true → storage_of s g leaf ≡ Automatic → ((o : ℕ) → outermost_of s leaf ≡ Some o → is_a s p_declarator o ≡ true) → initialiser_for s g leaf ≡ Some init
      → g init ≡ IsInitial x n → RunsFor s senses leaf x
  runs_for init x n declares auto outer initial is = by (parent_of s o.0) refl
    where
      a : (is_declaring s senses leaf ≡ true) × ((stands_in_declaration s senses leaf && (not (is_typedef s g leaf) && nat_eq (entity_of s g leaf) leaf)) ≡ true)
      a = both (is_declaring s senses leaf) _ declares

      b : (stands_in_declaration s senses leaf ≡ true) × ((not (is_typedef s g leaf) && nat_eq (entity_of s g leaf) leaf) ≡ true)
      b = both (stands_in_declaration s senses leaf) _ a.1

      off : is_typedef s g leaf ≡ false
      off = negated (is_typedef s g leaf) (both (not (is_typedef s g leaf)) _ b.1).0

      o : (o : ℕ) × (outermost_of s leaf ≡ Some o) × ((ds : List Derivation) × (g o ≡ IsDeclarator (Some leaf) ds))
      o = declarator_of a.0

      parts : (is_parameter s g leaf ≡ false) × (declares_function s g leaf ≡ false) × (is_static_object s g leaf ≡ false)
      parts = storage_parts (is_parameter s g leaf) (declares_function s g leaf) (is_defined s g leaf) (has_storage s g word_extern leaf && is_none (initialiser_for s g leaf)) (is_static_object s g leaf) auto

      file : is_at_file s g leaf ≡ false
      file = (none_of (is_at_file s g leaf) (has_storage s g word_static leaf) (has_storage s g word_extern leaf) parts.2).0

      d : (d : ℕ) × (declaration_of s g leaf ≡ Some d) × (is_a s p_declaration d ≡ true)
      d = declaration_is b.0 file parts.0

      own : initialiser_of s g o.0 ≡ Some init
      own = sym (ap (λ (q : Option ℕ). option_and_then (initialiser_of s g) q) o.1) ∙ initial

      by : (q : Option ℕ) → parent_of s o.0 ≡ q → RunsFor s senses leaf x
      by None up =
          absurd (let never : None ≡ Some init = sym (ap (λ (q : Option ℕ). elim q as (λ _. Option ℕ) [ None ↦ None | Some p ↦ if is_a s p_rest p then initialiser_in s g (without_asm s g (behind o.0 (children_at s p))) else in_rest s g (without_asm s g (behind o.0 (children_at s p))) ]) up) ∙ own in cc)
      by (Some p) up =
          let h = rest_of s grown g o.0 p init up own in
          let around : declaration_around s p ≡ Some d.0 =
          sym (ap (λ (q : Option ℕ). option_and_then (declaration_around s) (option_and_then (parent_of s) q)) o.1 ∙ ap (λ (q : Option ℕ). option_and_then (declaration_around s) q) up) ∙ d.1 in
          record {
            declaration = d.0;
            is_declaration = d.2;
            declares = d.1;
            runs = runs.each (world_at s (take h.rest senses) h.rest) d.0 h.rest init x n d.2 (rest_in o.0 p init d.0 h around) h.is_rest h.child is (runs_at (world_at s (take h.rest senses) h.rest) h.rest o.0 init o.2.0 h.after (outer o.0 o.1) own o.2.1 off auto);
          }

pub automatic_runs : AutomaticRuns
automatic_runs tokens unit tree tag_number senses cut is are whole leaf init x n declares auto outer initial sensed =
    runs_for (numbered tag_number (source_of tokens tree)) (grown_of tokens unit tree tag_number cut is) senses (initialisers_found tokens unit tree tag_number cut is) (units_run_initialisers tokens unit tree tag_number senses cut is are whole) leaf init x n
    declares auto outer initial sensed
