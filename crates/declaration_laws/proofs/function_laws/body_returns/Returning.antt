-- A value that is returned has the result type of the function in whose body it stands.
use Rattle.std.proofs.Common.{arith, ◌≡◌, ◌<◌, ◌≤◌, ◌+◌, ℕ, zero, suc, ◌&&◌, ◌||◌, not, nat_eq, Bool, true, false, List, [], ◌∷◌, Option, Some, None, length, slice_get, refl, sym, ap, ◌∙◌, subst, ◌⊎◌, inl, inr}
use Rattle.std.specs.Prelude.{⊤, is_some, option_and_then, if◌then◌else◌}
use Rattle.std.proofs.lemmas.Bool.{eqb-true}
use Rattle.c_types.specs.declared.term.Form.{Form}
use Rattle.c_types.specs.Trees.{Ctype, Ctypes, FunctionFrom}
use Rattle.c_types.specs.Table.{type_of}
use Rattle.type_rules.specs.Conversions as rules
use Rattle.c_grammar.specs.Productions.{p_external, p_declarator, p_parameter, p_block, p_statement}
use Rattle.core_tree.specs.declared.node.Unit.{Unit}
use Rattle.core_tree.specs.declared.node.Node.{Node}
use Rattle.core_tree.specs.declared.node.Entity.{Entity}
use Rattle.core_tree.specs.declared.node.Storage.TheVariants.{FunctionBody}
use Rattle.core_tree.specs.declared.node.NodeKind.{NodeKind}
use Rattle.core_tree.specs.declared.node.NodeKind.TheVariants.{Named, Literal, FunctionName, VarArgs, Block, For, Return, Initialise}
use Rattle.core_tree.specs.Typed.{trees_of, type_at, type_in}
use Rattle.core_tree.specs.Range.{Under, entity_at}
use Rattle.core_tree.specs.Rows.{IsFunction}
use Rattle.core_tree.specs.Valid.{InRows, Bodied, HasBody, IsFunctionBody, IsObjectBody, OnlyBody, ReturnsRight}
use Rattle.c_consts.specs.Core.{Core, Cores, Of, NoCores, MoreCores, ctype_of}
use Rattle.c_scope.specs.declared.kinds.Declared.{Declared as Declaration}
use Rattle.c_senses.specs.Names.{ordinary_at, names_type}
use Rattle.c_senses.specs.Tree.{Source, production_at, is_a, child_of, parent_of, above_within, nearest_above}
use Rattle.c_senses.specs.Given.{Given, Fits, Refuses}
use Rattle.c_senses.specs.World.{World}
use Rattle.c_senses.specs.Conversions.{conversion}
use Rattle.c_senses.specs.Declarators.{outermost_of, declaration_around}
use Rattle.c_senses.specs.Entities.{own_type, is_parameter, defined_name, result_of}
use Rattle.c_senses.specs.Statements.{one, returned_type}
use Rattle.c_senses.specs.Sense.{Sense, IsDeclarator, sense_in}
use Rattle.c_senses.specs.Right.{Numbering, AllStandBy}
use Rattle.parsed_tree_laws.specs.family_laws.Families.{IsChild as IsPart}
use Rattle.parsed_tree_laws.specs.sense_laws.parsed_laws.PassedOn.{Gives}
use Rattle.declaration_laws.specs.passed.core_node_laws.standing_laws.Standing.{IsGrown, IsMade, RunsInitialise}
use Rattle.declaration_laws.proofs.passed.core_node_laws.standing_laws.Kept.{is_plain, block_part, RowGood, KeptSense}
use Rattle.declaration_laws.proofs.passed.core_node_laws.standing_laws.Rows.{acts, acts_in}
use Rattle.declaration_laws.proofs.passed.core_node_laws.standing_laws.Climbing.{child_inside, parent_is}
use Rattle.declaration_laws.proofs.passed.core_node_laws.standing_laws.Descending.{W, F, child_before, each_kept}
use Rattle.declaration_laws.proofs.passed.core_node_laws.standing_laws.Walking.{Blind, same_test, Stopped, Held, walk}
use Rattle.parsed_tree_laws.proofs.placed_laws.Climbing.{IsNamedPart, Grown}
use Rattle.parsed_tree_laws.specs.counted_parts.Counted.{CountedParts}
use Rattle.declaration_laws.specs.function_laws.body_returns.Returns.{IsReturnOf}
use Rattle.declaration_laws.proofs.function_laws.body_returns.Naming.{declares, outermost_declares}
use Rattle.declaration_laws.proofs.function_laws.body_returns.Body.{Definition, definition, only_declarator}
use Rattle.declaration_laws.proofs.function_laws.body_returns.Earlier.{Below, earlier, same_function, same_name, HasType, conversion_typed}

some_same : {A : Type 0} → {x y : A} → ◌≡◌ {A = Option A} (Some x) (Some y) → x ≡ y
some_same e = cc

both : (a b : Bool) → (a && b) ≡ true → (a ≡ true) × (b ≡ true)
both true b e = (refl, e)
both false b e = cc

-- ---- what is asked of a return

abbrev OneIs : Ctype → Cores → Type 0
OneIs t (MoreCores x NoCores) = ctype_of x ≡ t
OneIs t under = ⊤

abbrev GoodFor : Ctype → NodeKind → Cores → Type 0
GoodFor t Return under = OneIs t under
GoodFor t kind under = ⊤

plain_good : (t : Ctype) (kind : NodeKind) (under : Cores) → is_plain kind ≡ true → GoodFor t kind under
plain_good t Return under e = cc
plain_good t kind under e = tt

abbrev never : NodeKind → Bool
never kind = false

blind_never : Blind never
blind_never kind = refl

abbrev is_return : NodeKind → Bool
is_return Return = true
is_return kind = false

blind_return : Blind is_return
blind_return (Named e) = refl
blind_return (FunctionName e) = refl
blind_return (Literal e) = refl
blind_return (VarArgs e) = refl
blind_return (Initialise e paths) = refl
blind_return (Block es) = refl
blind_return (For es c a) = refl
blind_return kind = refl

return_good : (t : Ctype) (kind : NodeKind) (under : Cores) → is_return kind ≡ true → GoodFor t kind under → OneIs t under
return_good t Return under e h = h
return_good t kind under e h = cc

typed_gives : (t : Ctype) (g : Given Core) → HasType t g → Gives (λ x. GoodFor t Return (one x)) g
typed_gives t (Fits x) h = h
typed_gives t (Refuses kind node) h = tt

function_is : (t : Ctype) → IsFunction t → (r : Ctype) × (ps : Ctypes) × (form : Form) × (t ≡ FunctionFrom r ps form)
function_is (FunctionFrom r ps form) h = (r, ps, form, refl)
function_is t h = absurd h

function_named : (o : Option Declaration) → (elim o as (λ _. Bool) [ None ↦ false | Some d ↦ d.is_function && not (names_type d) ]) ≡ true → (y : Declaration) × (o ≡ Some y) × (y.is_function ≡ true)
function_named None h = cc
function_named (Some y) h = (y, refl, (both y.is_function (not (names_type y)) h).0)

module _ (s : Source) where
  abbrev is_definition : ℕ → Bool
  is_definition p = is_a s p_external p && is_some (child_of s p_block p)

  -- more levels find the same
  more_levels : (test : ℕ → Bool) (k m d : ℕ) (o : Option ℕ) → above_within s test k o ≡ Some d → k ≤ m → above_within s test m o ≡ Some d
  more_levels test zero m d o e le = cc
  more_levels test (suc k) zero d o e le = absurd (omega (arith, le))
  more_levels test (suc k) (suc m) d None e le = cc
  more_levels test (suc k) (suc m) d (Some p) e le = by (test p) e (λ f. more_levels test k m d (parent_of s p) f (omega (arith, le)))
    where
      by : (b : Bool) → (if b then Some p else above_within s test k (parent_of s p)) ≡ Some d → (above_within s test k (parent_of s p) ≡ Some d → above_within s test m (parent_of s p) ≡ Some d) → (if b then Some p else above_within s test m (parent_of s p)) ≡ Some d
      by true e later = e
      by false e later = later e

module _
    (s : Source) (senses : List Sense) (numbering : Numbering) (u : Unit) (grown : IsGrown s) (made : IsMade s senses numbering u) (placed : Grown s) (counted : CountedParts s) (runs : RunsInitialise senses) (rows : InRows (trees_of u))
    (bodied : Bodied (trees_of u))
  where
    abbrev f : ℕ → Sense
    f = sense_in senses

    abbrev g : ℕ → ℕ → Sense
    g i = F s senses grown made.are_senses made.whole i

    abbrev w : ℕ → World
    w i = W s senses grown made.are_senses made.whole i

    module _ (e : ℕ) (entity : Entity) (b : ℕ) (at : entity_at (trees_of u) e ≡ Some entity) (storage : entity.storage ≡ FunctionBody) (body : entity.body ≡ Some b) where
      def : Definition s senses numbering u grown made entity b
      def = definition s senses numbering u grown made e entity b at storage body

      function_type : IsFunction (type_of u.types entity.ty.0)
      function_type = by (subst (λ (o : Option ℕ). HasBody (trees_of u) e entity o) body (bodied e entity at))
        where
          by : (IsFunctionBody (trees_of u) entity b ⊎ IsObjectBody (trees_of u) e entity b) × OnlyBody (trees_of u) e b → IsFunction (type_of u.types entity.ty.0)
          by (inl h, only) = h.function
          by (inr h, only) = absurd (h.storage storage)

      abbrev t : Ctype
      t = type_of u.types entity.ty.0

      abbrev result : Ctype
      result = rules.result_of t

      -- its name is that of the only declarator
      named : IsNamedPart s def.name
      named = let y = function_named (ordinary_at s def.name) def.function in placed.named def.name y.0 y.1 y.2

      name_of : (c : ℕ) → child_of s p_declarator def.external ≡ Some c → (leaf : ℕ) → (elim (f c) as (λ _. Option ℕ) [ IsDeclarator name ds ↦ name | _ ↦ None ]) ≡ Some leaf → leaf ≡ def.name
      name_of c first leaf told = by (outermost_of s def.name) refl def.declared
        where
          by : (o : Option ℕ) → outermost_of s def.name ≡ o → option_and_then (declaration_around s) (option_and_then (parent_of s) o) ≡ Some def.external → leaf ≡ def.name
          by None is h = cc
          by (Some o) is h =
              let same : c ≡ o = only_declarator s senses numbering u grown made counted def.external def.block def.is_external def.child o (outermost_declares s senses placed made.are_senses made.whole def.name o named is) h c first in
              let own = declares s senses placed made.are_senses made.whole def.name o named is in
              let here : Some def.name ≡ Some leaf = subst (λ (x : Sense). (elim x as (λ _. Option ℕ) [ IsDeclarator name ds ↦ name | _ ↦ None ]) ≡ Some leaf) own.1 (subst (λ (x : ℕ). (elim (f x) as (λ _. Option ℕ) [ IsDeclarator name ds ↦ name | _ ↦ None ]) ≡ Some leaf) same told) in
              sym (some_same here)

      no_parameter : is_parameter s f def.name ≡ false
      no_parameter = ap (λ (o : Option ℕ). elim o as (λ _. Bool) [ None ↦ false | Some p ↦ is_a s p_parameter p ]) def.declared ∙ ap (λ (q : ℕ). nat_eq q p_parameter) (eqb-true (production_at s def.external) p_external def.is_external)

      -- the node stands so many levels below its definition
      abbrev Stands : ℕ → Type 0
      Stands i = (k : ℕ) × (i + k ≤ def.external) × (above_within s (is_definition s) k (parent_of s i) ≡ Some def.external)

      external_inside : def.external < length s.nodes
      external_inside = child_inside (slice_get s.nodes def.external) s.nodes def.external def.part.0 def.block refl def.part.1

      is_defined : is_definition s def.external ≡ true
      is_defined = by (is_a s p_external def.external) (child_of s p_block def.external) def.is_external def.child
        where
          by : (a : Bool) (o : Option ℕ) → a ≡ true → o ≡ Some def.block → (a && is_some o) ≡ true
          by true (Some x) ea eo = refl
          by true None ea eo = cc
          by false o ea eo = cc

      start : Stands def.block
      start =
          let lt = child_before s senses grown made.are_senses made.whole def.external def.block def.part in
          let parent = parent_is s grown def.external def.block def.part in
          (1, omega (arith, lt), ap (λ (o : Option ℕ). above_within s (is_definition s) 1 o) parent ∙ taken (is_definition s def.external) is_defined)
        where
          taken : (b : Bool) → b ≡ true → (if b then Some def.external else None) ≡ Some def.external
          taken true e = refl
          taken false e = cc

      undefined : (i : ℕ) → (is_a s p_statement i || is_a s p_block i) ≡ true → is_definition s i ≡ false
      undefined i h = by (is_a s p_statement i) (is_a s p_block i) refl refl h
        where
          off : (q : ℕ) → production_at s i ≡ q → nat_eq q p_external ≡ false → is_definition s i ≡ false
          off q e differ = ap (λ (p : ℕ). nat_eq p p_external && is_some (child_of s p_block i)) e ∙ ap (λ (x : Bool). x && is_some (child_of s p_block i)) differ

          by : (a b : Bool) → is_a s p_statement i ≡ a → is_a s p_block i ≡ b → (a || b) ≡ true → is_definition s i ≡ false
          by true b ea eb h = off p_statement (eqb-true (production_at s i) p_statement ea) refl
          by false true ea eb h = off p_block (eqb-true (production_at s i) p_block eb) refl
          by false false ea eb h = cc

      onward : (i c : ℕ) → Stands i → (is_a s p_statement i || is_a s p_block i) ≡ true → IsPart s i c → Stands c
      onward i c (k, le, up) is part =
          let lt = child_before s senses grown made.are_senses made.whole i c part in
          let parent = parent_is s grown i c part in
          (suc k, omega (arith, lt, le), ap (λ (o : Option ℕ). above_within s (is_definition s) (suc k) o) parent ∙ (skipped (is_definition s i) (undefined i is) ∙ up))
        where
          skipped : (b : Bool) → b ≡ false → (if b then Some i else above_within s (is_definition s) k (parent_of s i)) ≡ above_within s (is_definition s) k (parent_of s i)
          skipped true e = cc
          skipped false e = refl

      found : (i : ℕ) → Stands i → nearest_above s (is_definition s) i ≡ Some def.external
      found i (k, le, up) = more_levels s (is_definition s) k (length s.nodes) def.external (parent_of s i) up (omega (arith, le, external_inside))

      -- what is returned there is converted to the result type
      returned_is : (i : ℕ) → Stands i → (x : Ctype) → returned_type (w i) s (g i) i ≡ Some x → x ≡ result
      returned_is i stands x told = by_name (defined_name s (g i) def.external) refl (subst (λ (o : Option ℕ). (elim (option_and_then (own_type s (g i)) (option_and_then (defined_name s (g i)) o)) as (λ _. Option Ctype) [ None ↦ None | Some t ↦ Some (result_of (w i) s (g i) t) ]) ≡ Some x) (found i stands) told)
        where
          below : Below (g i) f
          below c = earlier senses i c

          by_type : (leaf : ℕ) → leaf ≡ def.name → (o : Option Ctype) → own_type s (g i) leaf ≡ o → (elim o as (λ _. Option Ctype) [ None ↦ None | Some t ↦ Some (result_of (w i) s (g i) t) ]) ≡ Some x → x ≡ result
          by_type leaf same None is h = cc
          by_type leaf same (Some y) is h =
              let (r, ps, form, shape) = function_is t function_type in
              let whole : own_type s f leaf ≡ Some (FunctionFrom r ps form) = subst (λ (z : ℕ). own_type s f z ≡ Some (FunctionFrom r ps form)) (sym same) (def.type ∙ ap (λ (z : Ctype). Some z) shape) in
              let parameter : is_parameter s f leaf ≡ false = subst (λ (z : ℕ). is_parameter s f z ≡ false) (sym same) no_parameter in
              let own : y ≡ FunctionFrom r ps form = same_function s (g i) f below leaf y r ps form parameter whole is in
              let here : result_of (w i) s (g i) y ≡ x = some_same h in
              sym here ∙ (ap (λ (z : Ctype). result_of (w i) s (g i) z) own ∙ sym (ap rules.result_of shape))

          by_child : (leaf : ℕ) (c : Option ℕ) → child_of s p_declarator def.external ≡ c → defined_name s (g i) def.external ≡ Some leaf → leaf ≡ def.name
          by_child leaf None is e = let none : None ≡ Some leaf = subst (λ (o : Option ℕ). option_and_then (λ d. elim (g i d) as (λ _. Option ℕ) [ IsDeclarator name ds ↦ name | _ ↦ None ]) o ≡ Some leaf) is e in cc
          by_child leaf (Some c) is e = same_name s (g i) f below def.external c leaf def.name is (λ name own. name_of c is leaf own) e

          by_name : (o : Option ℕ) → defined_name s (g i) def.external ≡ o → (elim (option_and_then (own_type s (g i)) o) as (λ _. Option Ctype) [ None ↦ None | Some t ↦ Some (result_of (w i) s (g i) t) ]) ≡ Some x → x ≡ result
          by_name None is h = cc
          by_name (Some leaf) is h = by_type leaf (by_child leaf (child_of s p_declarator def.external) refl is) (own_type s (g i) leaf) refl h

      row_good : (i : ℕ) → Stands i → RowGood (GoodFor result) never (w i) s (g i) i
      row_good i stands = record {
        breaks = λ h. tt;
        continues = λ h. tt;
        cases = λ switch h n under. tt;
        defaults = λ switch h under. tt;
        gotos = λ name. tt;
        empties = tt;
        returns = λ x v h.
            let same = returned_is i stands x h in
            subst (λ (y : Ctype). Gives (λ c. GoodFor result Return (one c)) (conversion (w i) false i v y)) (sym same) (typed_gives result (conversion (w i) false i v result) (conversion_typed (w i) i v result));
      }

      block_held : Held (GoodFor result) never blind_never numbering u rows b
      block_held =
          let kept = each_kept s senses grown made.are_senses made.whole runs (GoodFor result) never (plain_good result) Stands (λ i. false) (λ i c stands is off part. onward i c stands is part) (λ i v h e. cc) (λ i h. refl) row_good
          def.block def.inside start (block_part s def.block def.is_block) in
          (def.core, def.stands, subst (λ (x : Sense). KeptSense (GoodFor result) never x) def.sensed kept def.sorted)

      -- the part of a return
      part_typed : (children : List ℕ) (under : Cores) → AllStandBy numbering u children under → OneIs result under → (v : ℕ) → children ≡ v ∷ [] → type_at (trees_of u) v ≡ result
      part_typed children NoCores stand good v e = let none : [] ≡ v ∷ [] = sym stand ∙ e in cc
      part_typed children (MoreCores (Of kind place type under) NoCores) (i, more, same, own, none) good v e =
          let first : i ∷ more ≡ v ∷ [] = sym same ∙ e in
          let is : i ≡ v = cc in
          let (node, there, kinds, place_is, type_is, under_are) = own in
          subst (λ (x : ℕ). type_at (trees_of u) x ≡ result) is (ap (λ (o : Option Node). type_in u.types o) there ∙ (type_is ∙ good))
      part_typed children (MoreCores c (MoreCores d rest)) (i, more, same, own, (j, others, same_more, next, last)) good v e =
          let whole : i ∷ (j ∷ others) ≡ v ∷ [] = sym (same ∙ ap (λ (l : List ℕ). i ∷ l) same_more) ∙ e in
          cc

      pub returns : (n : ℕ) (node : Node) → slice_get u.nodes.items n ≡ Some node → Under (trees_of u) b n → IsReturnOf (trees_of u) entity node.kind node.children
      returns n node there under = by node.kind refl
        where
          has_value : (v : ℕ) → node.children ≡ v ∷ [] → node.kind ≡ Return → type_at (trees_of u) v ≡ result
          has_value v children is = state (walk (GoodFor result) never blind_never numbering u rows b n under (inr (inr block_held)))
            where
              state : Stopped (GoodFor result) never blind_never numbering u rows b n ⊎ ((acts_in (slice_get u.nodes.items n) ≡ false) ⊎ Held (GoodFor result) never blind_never numbering u rows n) → type_at (trees_of u) v ≡ result
              state (inl (top, other, at, stop, above, deeper)) = cc
              state (inr (inl still)) = let none : true ≡ false = sym (ap acts is) ∙ (sym (ap acts_in there) ∙ still) in cc
              state (inr (inr (Of kind place type parts, (other, at, same, place_is, type_is, under_are), kept))) =
                  let one : other ≡ node = some_same (sym at ∙ there) in
                  let returned : is_return kind ≡ true = same_test is_return blind_return numbering kind other.kind same ∙ (ap (λ (x : Node). is_return x.kind) one ∙ ap is_return is) in
                  part_typed other.children parts under_are (return_good result kind parts returned kept.0) v (ap (λ (x : Node). x.children) one ∙ children)

          right : (children : List ℕ) → node.children ≡ children → node.kind ≡ Return → ReturnsRight (trees_of u) entity children
          right [] e is = tt
          right (v ∷ []) e is = has_value v e is
          right (v ∷ x ∷ rest) e is = tt

          by : (kind : NodeKind) → node.kind ≡ kind → IsReturnOf (trees_of u) entity kind node.children
          by Return is = right node.children refl is
          by kind is = tt
