-- The bodies of a unit: each node stands under one, and a function's is its block.
use Rattle.std.proofs.Common.{arith, ◌≡◌, ◌<◌, ◌≤◌, ◌+◌, ℕ, zero, suc, ◌&&◌, Bool, true, false, List, [], ◌∷◌, Option, Some, None, All, length, slice_get, refl, sym, ap, ◌∙◌, subst, ◌⊎◌, inl, inr}
use Rattle.std.specs.Prelude.{is_none, is_some, option_and_then, option_map, if◌then◌else◌}
use Rattle.std.proofs.lemmas.Option.{slice_get_within}
use Rattle.std.proofs.lemmas.List.Elements.{All-head, All-tail}
use Rattle.c_types.specs.Trees.{Ctype}
use Rattle.c_grammar.specs.Productions.{p_external, p_block}
use Rattle.c_grammar.specs.Words.{word_extern}
use Rattle.core_tree.specs.declared.node.Unit.{Unit}
use Rattle.core_tree.specs.declared.node.Entity.{Entity}
use Rattle.core_tree.specs.declared.node.NodeKind.TheVariants.{Block}
use Rattle.core_tree.specs.declared.node.Linkage.{Linkage}
use Rattle.core_tree.specs.declared.node.Linkage.TheVariants.{External, Internal, Local}
use Rattle.core_tree.specs.declared.node.Storage.{Storage}
use Rattle.core_tree.specs.declared.node.Storage.TheVariants.{Static, Automatic, FunctionBody, Parameter, Declared}
use Rattle.core_tree.specs.Typed.{trees_of, StatementNode}
use Rattle.core_tree.specs.Range.{Under, here, below, IsChild, entity_at}
use Rattle.core_tree.proofs.Climb.{child_has, parent_node, parent_within}
use Rattle.c_consts.specs.Core.{Core, core_sort}
use Rattle.core_nodes.specs.passed.c_senses.Tree.{Source, children_at, is_a, child_of, first_where, place_at}
use Rattle.core_nodes.specs.passed.c_senses.Given.{Fits}
use Rattle.core_nodes.specs.passed.c_senses.Sense.{Sense, IsCore, sense_in}
use Rattle.core_nodes.specs.passed.c_senses.Statements.{statement, objects_in, cores_in}
use Rattle.core_nodes.specs.passed.c_senses.Entities.{keep, first_of, declares_function, initialiser_for, is_defined, is_parameter, is_static_object, declaration_of, has_storage, storage_of, linkage_of, function_around}
use Rattle.core_nodes.specs.passed.c_senses.Right.{Numbering, StandsBy, SameBody, IsEntityOf, Declared as Declares, core_of_sense, block_for, body_at, of_internal, is_definition_at, is_tentative, representative, storage_at, declared_as, declares_entity, entity_type, IsDeclaredAt}
use Rattle.parsed_tree_laws.specs.family_laws.Families.{IsChild as IsPart}
use Rattle.core_node_laws.specs.standing_laws.Standing.{IsGrown, IsMade}
use Rattle.core_node_laws.proofs.standing_laws.Climbing.{child_inside}
use Rattle.core_node_laws.proofs.standing_laws.Descending.{W, F, row_there, same_given}

some_same : {A : Type 0} → {x y : A} → ◌≡◌ {A = Option A} (Some x) (Some y) → x ≡ y
some_same e = cc

-- a number that is found is one of the list
pub found_part : (test : ℕ → Bool) (ks : List ℕ) (x : ℕ) → first_where test ks ≡ Some x → ((k : ℕ) × (slice_get ks k ≡ Some x)) × (test x ≡ true)
found_part test [] x e = cc
found_part test (k ∷ ks) x e = by (test k) refl e (found_part test ks x)
  where
    by : (b : Bool) → test k ≡ b → (if b then Some k else first_where test ks) ≡ Some x → (first_where test ks ≡ Some x → ((j : ℕ) × (slice_get ks j ≡ Some x)) × (test x ≡ true)) → ((j : ℕ) × (slice_get (k ∷ ks) j ≡ Some x)) × (test x ≡ true)
    by true is e f = let same : k ≡ x = cc in ((0, ap Some same), subst (λ (y : ℕ). test y ≡ true) same is)
    by false is e f = let more = f e in ((suc more.0.0, more.0.1), more.1)

of_all : (P : ℕ → Type 0) (list : List ℕ) (k j : ℕ) → All P list → slice_get list k ≡ Some j → P j
of_all P [] k j all e = cc
of_all P (x ∷ list) zero j all e = subst P (let same : x ≡ j = cc in same) (All-head P x list all)
of_all P (x ∷ list) (suc k) j all e = of_all P list k j (All-tail P x list all) e

both : (a b : Bool) → (a && b) ≡ true → (a ≡ true) × (b ≡ true)
both true true e = (refl, refl)
both true false e = cc
both false b e = cc

module _ (s : Source) (senses : List Sense) (numbering : Numbering) (u : Unit) (grown : IsGrown s) (made : IsMade s senses numbering u) where
  abbrev sense : ℕ → Sense
  sense i = sense_in senses i

  -- a body that a node stands under
  pub record Above (n : ℕ) : Type 0 where
    pub number : ℕ
    pub entity : Entity
    pub stands : entity_at (trees_of u) number ≡ Some entity
    pub top : ℕ
    pub body : entity.body ≡ Some top
    pub under : Under (trees_of u) top n

  above_by : (k n : ℕ) → length u.nodes.items ≤ n + k → n < length u.nodes.items → Above n
  above_by zero n long lt = absurd (omega (arith, long, lt))
  above_by (suc k) n long lt = by (made.no_other_node n lt) (λ p less in_range. above_by k p (omega (arith, long, less)) in_range)
    where
      by : ((e : ℕ) × (entity : Entity) × (entity_at (trees_of u) e ≡ Some entity) × (entity.body ≡ Some n)) ⊎ ((p : ℕ) × IsChild (trees_of u) p n) → ((p : ℕ) → n < p → p < length u.nodes.items → Above p) → Above n
      by (inl (e, entity, at, body)) later = record { number = e; entity = entity; stands = at; top = n; body = body; under = here }
      by (inr (p, child)) later =
          let node = parent_node (trees_of u) p n child in
          let has = child_has (trees_of u) p n node.0 node.1 child in
          let less = of_all (λ (x : ℕ). x < p) node.0.children has.0 n (made.ready.children p node.0 node.1) has.1 in
          let up = later p less (parent_within (trees_of u) p n child) in
          record { number = up.number; entity = up.entity; stands = up.stands; top = up.top; body = up.body; under = below up.under child }

  pub above : (n : ℕ) → n < length u.nodes.items → Above n
  above n lt = above_by (length u.nodes.items) n (omega arith) lt

  -- the block of a function
  pub record FunctionBlock (b : ℕ) : Type 0 where
    pub external : ℕ
    pub block : ℕ
    pub core : Core
    pub is_external : is_a s p_external external ≡ true
    pub part : IsPart s external block
    pub is_block : is_a s p_block block ≡ true
    pub inside : block < length senses
    pub sensed : sense block ≡ IsCore core
    pub sorted : core_sort core ≡ StatementNode
    pub stands : StandsBy numbering u b core

  abbrev left_over : ℕ → Storage
  left_over r = if is_static_object s sense r then Static else Automatic

  abbrev object : ℕ → Storage
  object r = if has_storage s sense word_extern r && is_none (initialiser_for s sense r) then Declared else left_over r

  -- what has the storage of a function's body is defined
  defined : (r : ℕ) → storage_of s sense r ≡ FunctionBody → is_defined s sense r ≡ true
  defined r h = by (is_parameter s sense r) (declares_function s sense r) (is_defined s sense r) (has_storage s sense word_extern r && is_none (initialiser_for s sense r)) (is_static_object s sense r) h
    where
      by : (p f d e t : Bool) → (if p then Parameter else if f then (if d then FunctionBody else Declared) else if e then Declared else if t then Static else Automatic) ≡ FunctionBody → d ≡ true
      by true f d e t h = cc
      by false true true e t h = refl
      by false true false e t h = cc
      by false false d true t h = cc
      by false false d false true h = cc
      by false false d false false h = cc

  kept_storage : (x : Storage) (function : Bool) → (elim x as (λ _. Storage) [ Declared ↦ if function then Declared else Static | other ↦ other ]) ≡ FunctionBody → x ≡ FunctionBody
  kept_storage FunctionBody function h = refl
  kept_storage Declared true h = cc
  kept_storage Declared false h = cc
  kept_storage x function h = h

  abbrev chosen : ℕ → Linkage → ℕ
  chosen d linkage =
      elim linkage [
        | Internal ↦ first_of s sense (first_of s sense d (keep s sense (is_tentative s senses) (of_internal s senses d))) (keep s sense (is_definition_at s senses) (of_internal s senses d))
        | _ ↦ d
      ]

  own_storage : (d : ℕ) → storage_at s senses d ≡ FunctionBody → storage_of s sense (representative s senses d) ≡ FunctionBody
  own_storage d h = by (linkage_of s sense d) refl h
    where
      by : (linkage : Linkage) → linkage_of s sense d ≡ linkage
          → (elim linkage as (λ _. Storage) [ Internal ↦ (elim (storage_of s sense (representative s senses d)) as (λ _. Storage) [ Declared ↦ if declares_function s sense d then Declared else Static | other ↦ other ]) | _ ↦ storage_of s sense d ]) ≡ FunctionBody
          → storage_of s sense (representative s senses d) ≡ FunctionBody
      by Internal is h = kept_storage (storage_of s sense (representative s senses d)) (declares_function s sense d) h
      by External is h = let same : representative s senses d ≡ d = ap (chosen d) is in subst (λ (x : ℕ). storage_of s sense x ≡ FunctionBody) (sym same) h
      by Local is h = let same : representative s senses d ≡ d = ap (chosen d) is in subst (λ (x : ℕ). storage_of s sense x ≡ FunctionBody) (sym same) h

  -- a block's tree
  block_core : (b : ℕ) (c : Core) → is_a s p_block b ≡ true → core_of_sense s senses (sense b) ≡ Some c → b < length senses → (sense b ≡ IsCore c) × (core_sort c ≡ StatementNode)
  block_core b c is e inside =
      let block : Core = statement (Block (objects_in (W s senses grown made.are_senses made.whole b) s (F s senses grown made.are_senses made.whole b) (children_at s b))) (place_at s b) (cores_in (W s senses grown made.are_senses made.whole b) s (F s senses grown made.are_senses made.whole b) (children_at s b)) in
      let own : Fits (IsCore block) ≡ Fits (sense b) = row_there s senses grown made.are_senses made.whole b p_block inside is in
      let same = same_given (IsCore block) (sense b) own in
      let core : Some block ≡ Some c = ap (λ (x : Sense). core_of_sense s senses x) same ∙ e in
      (sym same ∙ ap IsCore (some_same core), subst (λ (x : Core). core_sort x ≡ StatementNode) (some_same core) refl)

  block_at : (r : ℕ) (c : Core) (b : ℕ) → is_defined s sense r ≡ true → body_at s senses r ≡ Some c → StandsBy numbering u b c → FunctionBlock b
  block_at r c b defined body stands = by (declaration_of s sense r) defined (whole (is_defined s sense r) defined body)
    where
      whole : (d : Bool) → d ≡ true → (if d then option_and_then (λ b. core_of_sense s senses (sense b)) (block_for s senses r) else option_and_then (λ init. core_of_sense s senses (sense init)) (initialiser_for s sense r)) ≡ Some c
          → option_and_then (λ b. core_of_sense s senses (sense b)) (block_for s senses r) ≡ Some c
      whole true e h = h
      whole false e h = cc

      within : (d k c : ℕ) → slice_get (children_at s d) k ≡ Some c → c < length senses
      within d k c h =
          let lt = grown.first d k c h in
          let inside = child_inside (slice_get s.nodes d) s.nodes d k c refl h in
          omega (arith, lt, inside, made.whole)

      in_external : (d : ℕ) (o : Option ℕ) → child_of s p_block d ≡ o → is_a s p_external d ≡ true → option_and_then (λ b. core_of_sense s senses (sense b)) o ≡ Some c → FunctionBlock b
      in_external d None is external e = cc
      in_external d (Some block) is external e =
          let found = found_part (is_a s p_block) (children_at s d) block is in
          let inside = within d found.0.0 block found.0.1 in
          let told = block_core block c found.1 e inside in
          record {
            external = d;
            block = block;
            core = c;
            is_external = external;
            part = found.0;
            is_block = found.1;
            inside = inside;
            sensed = told.0;
            sorted = told.1;
            stands = stands;
          }

      by : (o : Option ℕ) → (elim o as (λ _. Bool) [ None ↦ false | Some p ↦ is_a s p_external p && is_some (child_of s p_block p) ]) ≡ true
          → option_and_then (λ b. core_of_sense s senses (sense b)) (option_and_then (child_of s p_block) o) ≡ Some c → FunctionBlock b
      by None h e = cc
      by (Some d) h e = in_external d (child_of s p_block d) refl (both (is_a s p_external d) (is_some (child_of s p_block d)) h).0 e

  declared_block : (d b : ℕ) (what : Declares) → IsDeclaredAt s senses d what → what.storage ≡ FunctionBody → SameBody numbering u what.body (Some b) → FunctionBlock b
  declared_block d b what (inr (c, literal, is)) storage body = absurd (by (is_some (function_around s sense d)) (ap (λ (x : Declares). x.storage) (sym is) ∙ storage))
    where
      by : (b : Bool) → (if b then Automatic else Static) ≡ FunctionBody → ⊥
      by true e = cc
      by false e = cc
  declared_block d b what (inl is) storage body = by (declares_entity s senses d) (entity_type s senses d) is
    where
      by_body : (o : Option Core) → body_at s senses (representative s senses d) ≡ o → storage_at s senses d ≡ FunctionBody → SameBody numbering u o (Some b) → FunctionBlock b
      by_body None at storage body = absurd body
      by_body (Some c) at storage body = block_at (representative s senses d) c b (defined (representative s senses d) (own_storage d storage)) at body

      by : (x : Bool) (t : Option Ctype) → (if x then option_map (declared_as s senses d) t else None) ≡ Some what → FunctionBlock b
      by false t is = cc
      by true None is = cc
      by true (Some t) is =
          let same : declared_as s senses d t ≡ what = some_same is in
          by_body (body_at s senses (representative s senses d)) refl (ap (λ (x : Declares). x.storage) same ∙ storage) (subst (λ (x : Declares). SameBody numbering u x.body (Some b)) (sym same) body)

  -- a function's body is the tree of its block
  pub function_block : (e : ℕ) (entity : Entity) (b : ℕ) → entity_at (trees_of u) e ≡ Some entity → entity.storage ≡ FunctionBody → entity.body ≡ Some b → FunctionBlock b
  function_block e entity b at storage body =
      let lt : e < length u.entities.items = slice_get_within u.entities.items e entity at in
      let (d, what, declared, number) = made.no_other_entity e lt in
      let (e2, x2, number2, at2, is) = made.each_declared d what declared in
      let same_number : e2 ≡ e = some_same (sym number2 ∙ number) in
      let same : x2 ≡ entity = some_same (sym at2 ∙ (ap (λ (k : ℕ). slice_get u.entities.items k) same_number ∙ at)) in
      let own : IsEntityOf numbering u s.unit what entity = subst (λ (x : Entity). IsEntityOf numbering u s.unit what x) same is in
      declared_block d b what declared (sym own.storage ∙ storage) (subst (λ (o : Option ℕ). SameBody numbering u what.body o) body own.body)
