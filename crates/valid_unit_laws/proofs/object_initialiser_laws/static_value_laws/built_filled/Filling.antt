-- What is initialised in a right unit is an object that the unit defines.
use Rattle.std.proofs.Common.{arith, ◌≡◌, ◌<◌, ℕ, ◌&&◌, not, Bool, true, false, cond, List, [], Option, Some, None, length, slice_get, take, refl, sym, ap, ◌∙◌, subst, inl, inr}
use Rattle.std.specs.Prelude.{⊤, ◌≢◌, is_none, is_some, option_and_then, option_map, if◌then◌else◌}
use Rattle.std.proofs.lemmas.Bool.{eqb-true}
use Rattle.std.proofs.lemmas.Option.{slice_get_within}
use Rattle.c_types.specs.Trees.{Ctype}
use Rattle.c_grammar.specs.declared.trees.SyntaxNode.{SyntaxNode}
use Rattle.c_grammar.specs.Productions.{p_block}
use Rattle.c_grammar.specs.Words.{word_extern}
use Rattle.c_scope.specs.declared.kinds.Declared.{Declared as Declaration}
use Rattle.core_tree.specs.declared.node.Unit.{Unit}
use Rattle.core_tree.specs.declared.node.Node.{Node}
use Rattle.core_tree.specs.declared.node.Entity.{Entity}
use Rattle.core_tree.specs.declared.node.NodeKind.{NodeKind}
use Rattle.core_tree.specs.declared.node.NodeKind.TheVariants.{Block, Initialise}
use Rattle.core_tree.specs.declared.node.Linkage.{Linkage}
use Rattle.core_tree.specs.declared.node.Linkage.TheVariants.{External, Internal, Local}
use Rattle.core_tree.specs.declared.node.Storage.{Storage}
use Rattle.core_tree.specs.declared.node.Storage.TheVariants.{Static, Automatic, FunctionBody, Parameter, Declared}
use Rattle.core_tree.specs.Typed.{trees_of}
use Rattle.core_tree.specs.Rows.{Initialises, InitialisesEntity, InitialisesIn}
use Rattle.c_consts.specs.Core.{Core, Of, kind_of}
use Rattle.c_grammar.specs.Names.{no_names}
use Rattle.c_parser.specs.Parse.{begin}
use Rattle.c_senses.specs.Names.{source_of, numbered}
use Rattle.parsed_tree_laws.proofs.placed_laws.Growing.{grown_read}
use Rattle.declaration_laws.specs.declared_type_laws.passed.built_unit_laws.built_units.Built.{IsBuilt}
use Rattle.valid_unit_laws.specs.object_initialiser_laws.static_value_laws.built_filled.Filled.{BuiltAreFilled}
use Rattle.c_senses.specs.Names.{ordinary_at, names_type}
use Rattle.c_senses.specs.Tree.{Source, production_of, children_at, is_a, child_of, place_at}
use Rattle.c_senses.specs.World.{World}
use Rattle.c_senses.specs.Given.{Given, Fits}
use Rattle.c_senses.specs.Sense.{Sense, IsCore, sense_in}
use Rattle.c_senses.specs.Rows.{AreSenses, row_of, world_at}
use Rattle.c_senses.specs.Statements.{statement, objects_in, cores_in}
use Rattle.c_senses.specs.Entities.{keep, first_of, declares_function, initialiser_for, is_defined, is_parameter, is_static_object, declaration_of, has_storage, storage_of, linkage_of, function_around}
use Rattle.c_senses.specs.Right.{Numbering, SameKind, StandsBy, SameBody, IsEntityOf, Declared as Declares, core_of_sense, block_for, body_at, of_internal, is_definition_at, is_tentative, representative, storage_at, declared_as, declares_entity, entity_type, IsDeclaredAt}
use Rattle.link_model.specs.filled_units.Filled.{IsFilled}
use Rattle.parsed_tree_laws.proofs.placed_laws.Climbing.{Grown, found_where, row_at, unfilled}

abbrev IsPlaced : Storage → Type 0
IsPlaced FunctionBody = ⊥
IsPlaced Declared = ⊥
IsPlaced storage = ⊤

fits_same : {A : Type 0} → {x y : A} → ◌≡◌ {A = Given A} (Fits x) (Fits y) → x ≡ y
fits_same e = cc

placed_not : (x : Storage) → IsPlaced x → (x ≢ FunctionBody) × (x ≢ Declared)
placed_not FunctionBody h = absurd h
placed_not Declared h = absurd h
placed_not Static h = (λ e. cc, λ e. cc)
placed_not Automatic h = (λ e. cc, λ e. cc)
placed_not Parameter h = (λ e. cc, λ e. cc)

abbrev IsNoBlock : NodeKind → Type 0
IsNoBlock (Block ds) = ⊥
IsNoBlock kind = ⊤

-- the kind of an initialiser's tree
no_block : (n : Numbering) (kind other : NodeKind) (e : ℕ) → SameKind n kind other → InitialisesEntity other e → IsNoBlock kind
no_block n (Block ds) (Initialise o paths) e same is = cc
no_block n (Block ds) other e same is = absurd is
no_block n kind other e same is = tt

some_same : {A : Type 0} → {x y : A} → ◌≡◌ {A = Option A} (Some x) (Some y) → x ≡ y
some_same e = cc

when_true : {A : Type 0} (b : Bool) (x y : A) → b ≡ true → cond b x y ≡ x
when_true true x y e = refl
when_true false x y e = cc

when_false : {A : Type 0} (b : Bool) (x y : A) → b ≡ false → cond b x y ≡ y
when_false true x y e = cc
when_false false x y e = refl

first_of_two : (a b : Bool) → (a && b) ≡ true → a ≡ true
first_of_two true b e = refl
first_of_two false b e = cc

module _ (s : Source) (senses : List Sense) (grown : Grown s) (are : AreSenses s senses) (whole : length senses ≡ length s.nodes) where
  abbrev sense : ℕ → Sense
  sense i = sense_in senses i

  -- a block's tree is a block
  block_core : (b : ℕ) (c : Core) → is_a s p_block b ≡ true → core_of_sense s senses (sense b) ≡ Some c → IsNoBlock (kind_of c) → ⊥
  block_core b c is e quiet = by (slice_get s.nodes b) refl (eqb-true (production_of (slice_get s.nodes b)) p_block is)
    where
      by : (o : Option SyntaxNode) → slice_get s.nodes b ≡ o → production_of o ≡ p_block → ⊥
      by None at p = absurd (omega (arith, p))
      by (Some n) at p =
          let before : ℕ → Sense = sense_in (take b senses) in
          let w : World = world_at s (take b senses) b in
          let own : row_of w s before n.production b n.children.items ≡ Fits (sense b) = row_at s senses grown are whole b n at in
          let block : Core = statement (Block (objects_in w s before n.children.items)) (place_at s b) (cores_in w s before n.children.items) in
          let told : Fits (IsCore block) ≡ Fits (sense b) = subst (λ (q : ℕ). row_of w s before q b n.children.items ≡ Fits (sense b)) p own in
          let core : Some block ≡ Some c = ap (λ (x : Sense). core_of_sense s senses x) (fits_same told) ∙ e in
          subst (λ (x : Core). IsNoBlock (kind_of x)) (sym (some_same core)) quiet

  abbrev left_over : ℕ → Storage
  left_over r = if is_static_object s sense r then Static else Automatic

  abbrev object : ℕ → Storage
  object r = if has_storage s sense word_extern r && is_none (initialiser_for s sense r) then Declared else left_over r

  -- a name that has an initialiser has its place
  storage_placed : (r init : ℕ) → is_defined s sense r ≡ false → initialiser_for s sense r ≡ Some init → IsPlaced (storage_of s sense r)
  storage_placed r init defined initial = by (is_parameter s sense r) refl
    where
      lasting : (b : Bool) → IsPlaced (if b then Static else Automatic)
      lasting true = tt
      lasting false = tt

      never : (a b : Bool) → b ≡ false → (a && b) ≡ false
      never true false e = refl
      never false false e = refl
      never a true e = cc

      by_function : (b : Bool) → declares_function s sense r ≡ b → is_parameter s sense r ≡ false → IsPlaced (if b then (if is_defined s sense r then FunctionBody else Declared) else object r)
      by_function true function parameter = absurd (named (ordinary_at s r) refl function)
        where
          named : (o : Option Declaration) → ordinary_at s r ≡ o → (elim o as (λ _. Bool) [ None ↦ false | Some d ↦ d.is_function && not (names_type d) ]) ≡ true → ⊥
          named None at h = cc
          named (Some y) at h = unfilled s senses grown are whole r init y at (first_of_two y.is_function (not (names_type y)) h) initial parameter function
      by_function false function parameter =
          subst IsPlaced (sym (when_false (has_storage s sense word_extern r && is_none (initialiser_for s sense r)) Declared (left_over r) (never (has_storage s sense word_extern r) (is_none (initialiser_for s sense r)) (ap is_none initial)))) (lasting (is_static_object s sense r))

      by : (b : Bool) → is_parameter s sense r ≡ b → IsPlaced (if b then Parameter else if declares_function s sense r then (if is_defined s sense r then FunctionBody else Declared) else object r)
      by true parameter = tt
      by false parameter = by_function (declares_function s sense r) refl parameter

  body_placed : (r : ℕ) (c : Core) → body_at s senses r ≡ Some c → IsNoBlock (kind_of c) → IsPlaced (storage_of s sense r)
  body_placed r c body quiet = by (is_defined s sense r) refl body
    where
      by_declaration : (o : Option ℕ) → option_and_then (λ b. core_of_sense s senses (sense b)) (option_and_then (child_of s p_block) o) ≡ Some c → ⊥
      by_declaration None e = cc
      by_declaration (Some d) e = by_child (child_of s p_block d) refl e
        where
          by_child : (o : Option ℕ) → child_of s p_block d ≡ o → option_and_then (λ b. core_of_sense s senses (sense b)) o ≡ Some c → ⊥
          by_child None is e = cc
          by_child (Some b) is e = block_core b c (found_where (is_a s p_block) (children_at s d) b is) e quiet

      by_initial : (o : Option ℕ) → initialiser_for s sense r ≡ o → option_and_then (λ init. core_of_sense s senses (sense init)) o ≡ Some c → is_defined s sense r ≡ false → IsPlaced (storage_of s sense r)
      by_initial None is e defined = cc
      by_initial (Some init) is e defined = storage_placed r init defined is

      by : (b : Bool) → is_defined s sense r ≡ b → (if b then option_and_then (λ b. core_of_sense s senses (sense b)) (block_for s senses r) else option_and_then (λ init. core_of_sense s senses (sense init)) (initialiser_for s sense r)) ≡ Some c
          → IsPlaced (storage_of s sense r)
      by true defined e = absurd (by_declaration (declaration_of s sense r) e)
      by false defined e = by_initial (initialiser_for s sense r) refl e defined

  -- the storage of an entity is that of the declaration that has its body
  kept_storage : (x : Storage) (function : Bool) → IsPlaced x → IsPlaced (elim x as (λ _. Storage) [ Declared ↦ if function then Declared else Static | other ↦ other ])
  kept_storage Static function h = tt
  kept_storage Automatic function h = tt
  kept_storage Parameter function h = tt
  kept_storage FunctionBody function h = absurd h
  kept_storage Declared function h = absurd h

  abbrev chosen : ℕ → Linkage → ℕ
  chosen d linkage =
      elim linkage [
        | Internal ↦ first_of s sense (first_of s sense d (keep s sense (is_tentative s senses) (of_internal s senses d))) (keep s sense (is_definition_at s senses) (of_internal s senses d))
        | _ ↦ d
      ]

  entity_placed : (d : ℕ) → IsPlaced (storage_of s sense (representative s senses d)) → IsPlaced (storage_at s senses d)
  entity_placed d h = by (linkage_of s sense d) refl
    where
      by : (linkage : Linkage) → linkage_of s sense d ≡ linkage
          → IsPlaced (elim linkage as (λ _. Storage) [ Internal ↦ (elim (storage_of s sense (representative s senses d)) as (λ _. Storage) [ Declared ↦ if declares_function s sense d then Declared else Static | other ↦ other ]) | _ ↦ storage_of s sense d ])
      by Internal is = kept_storage (storage_of s sense (representative s senses d)) (declares_function s sense d) h
      by External is = let same : representative s senses d ≡ d = ap (chosen d) is in subst (λ (x : ℕ). IsPlaced (storage_of s sense x)) same h
      by Local is = let same : representative s senses d ≡ d = ap (chosen d) is in subst (λ (x : ℕ). IsPlaced (storage_of s sense x)) same h

  -- what stands at an initialiser's node
  stands_no_block : (n : Numbering) (u : Unit) (i e : ℕ) (c : Core) → Initialises (trees_of u) i e → StandsBy n u i c → IsNoBlock (kind_of c)
  stands_no_block n u i e (Of kind place type under) init (node, at, same, place_is, type_is, under_are) =
      no_block n kind node.kind e same (subst (λ (o : Option Node). InitialisesIn o e) at init)

  declared_placed : (n : Numbering) (u : Unit) (i e d : ℕ) (what : Declares) → Initialises (trees_of u) i e → IsDeclaredAt s senses d what → SameBody n u what.body (Some i) → IsPlaced what.storage
  declared_placed n u i e d what init (inr (c, literal, is)) body = subst (λ (x : Declares). IsPlaced x.storage) (sym is) (by (is_some (function_around s sense d)))
    where
      by : (b : Bool) → IsPlaced (if b then Automatic else Static)
      by true = tt
      by false = tt
  declared_placed n u i e d what init (inl is) body = by (declares_entity s senses d) (entity_type s senses d) is
    where
      by_body : (o : Option Core) → body_at s senses (representative s senses d) ≡ o → SameBody n u o (Some i) → IsPlaced (storage_at s senses d)
      by_body None at body = absurd body
      by_body (Some c) at body = entity_placed d (body_placed (representative s senses d) c at (stands_no_block n u i e c init body))

      by : (b : Bool) (t : Option Ctype) → (if b then option_map (declared_as s senses d) t else None) ≡ Some what → IsPlaced what.storage
      by false t is = cc
      by true None is = cc
      by true (Some t) is =
          let same : declared_as s senses d t ≡ what = some_same is in
          subst (λ (x : Declares). IsPlaced x.storage) same (by_body (body_at s senses (representative s senses d)) refl (subst (λ (x : Declares). SameBody n u x.body (Some i)) (sym same) body))

pub built_filled : (s : Source) (name : List ℕ) (u : Unit) → Grown s → IsBuilt s name u → IsFilled u
built_filled s name u grown built = record {
  each = λ i e init.
      let (entity, at, body) = built.initialises_once i e init in
      let lt : e < length u.entities.items = slice_get_within u.entities.items e entity at in
      let (d, what, declared, number) = built.no_other_entity e lt in
      let (e2, x2, number2, at2, is) = built.each_declared d what declared in
      let same_number : e2 ≡ e = some_same (sym number2 ∙ number) in
      let same : x2 ≡ entity = some_same (sym at2 ∙ (ap (λ (k : ℕ). slice_get u.entities.items k) same_number ∙ at)) in
      let own : IsEntityOf built.numbering u s.unit what entity = subst (λ (x : Entity). IsEntityOf built.numbering u s.unit what x) same is in
      let placed = declared_placed s built.senses grown built.are_senses built.whole built.numbering u i e d what init declared (subst (λ (o : Option ℕ). SameBody built.numbering u what.body o) body own.body) in
      let nots = placed_not entity.storage (subst IsPlaced (sym own.storage) placed) in
      (entity, at, body, nots.0, nots.1);
}

pub built_are_filled : BuiltAreFilled
built_are_filled tokens unit tree tag_number name u is built =
    let read = is.0 in
    built_filled (numbered tag_number (source_of tokens tree)) name u (grown_read tokens tree tag_number (begin 0 no_names []) read.0 refl refl read.1 read.2) built
