-- From a declaration up to the block of the definition, and down from a node to what stands in its tree.
use Rattle.std.proofs.Common.{arith, ◌≡◌, ◌<◌, ℕ, suc, nat_eq, Bool, true, false, ◌||◌, List, Option, Some, length, slice_get, refl, sym, ap, ◌∙◌, subst, ◌⊎◌, inl, inr}
use Rattle.std.proofs.lemmas.Bool.{eqb-true}
use Rattle.c_grammar.specs.Productions.{p_unit, p_external, p_declaration, p_block, p_statement}
use Rattle.core_tree.specs.declared.node.Unit.{Unit}
use Rattle.core_tree.specs.declared.node.Node.{Node}
use Rattle.core_tree.specs.declared.node.NodeKind.{NodeKind}
use Rattle.core_tree.specs.declared.node.NodeKind.TheVariants.{Initialise, Block}
use Rattle.core_tree.specs.Typed.{trees_of}
use Rattle.core_tree.specs.Rows.{InitialisesIn, InitialisesEntity, Initialises}
use Rattle.core_tree.specs.Range.{Under, here, below, child_in}
use Rattle.c_consts.specs.Core.{Core, Cores, Of, NoCores, MoreCores, kind_of}
use Rattle.c_inits.specs.Shapes.{Path}
use Rattle.c_senses.specs.Names.{source_of, numbered}
use Rattle.c_senses.specs.Tree.{Source, production_at, children_at, is_a, place_at}
use Rattle.c_senses.specs.Given.{Fits}
use Rattle.c_senses.specs.Sense.{Sense, IsCore, sense_in}
use Rattle.c_senses.specs.Statements.{statement, objects_in, cores_in}
use Rattle.c_senses.specs.Rows.{AreSenses}
use Rattle.c_senses.specs.Right.{Numbering, SameKind, StandsBy, AllStandBy, InitialisesOnce}
use Rattle.declaration_laws.specs.definition_laws.scope_laws.Beneath.{Beneath, part, deeper}
use Rattle.declaration_laws.specs.definition_laws.scope_laws.Scoped.{IsPart}
use Rattle.core_node_laws.specs.standing_laws.Standing.{IsGrown}
use Rattle.core_node_laws.proofs.standing_laws.Climbing.{in_list, child_inside}
use Rattle.core_node_laws.proofs.standing_laws.Descending.{F, W, row_there, same_given}
use Rattle.declaration_laws.proofs.declared_type_laws.owner_laws.held_parts.PassedOn.{grown_of}
use Rattle.declaration_laws.proofs.declared_type_laws.owner_laws.held_parts.PassedOn.{under_further}
use Rattle.declaration_laws.specs.declared_type_laws.owner_laws.held_parts.Held.{StandsIn, InSome, IsHeld, PartsHeld}
use Rattle.declaration_laws.proofs.declared_type_laws.owner_laws.held_parts.Whole.{units_hold_parts}
use Rattle.declaration_laws.specs.declared_type_laws.owner_laws.held_runs.Runs.{BlockWith, NodeOf, RunsHeld}

clash : {X : Type 0} → (b : Bool) → b ≡ true → b ≡ false → X
clash true e f = cc
clash false e f = cc

or_left : (a b : Bool) → a ≡ true → (a || b) ≡ true
or_left true b e = refl
or_left false b e = cc

or_right : (a b : Bool) → b ≡ true → (a || b) ≡ true
or_right true b e = refl
or_right false b e = e

-- ---- up

module _ (s : Source) (senses : List Sense) (grown : IsGrown s) (are : AreSenses s senses) (whole : length senses ≡ length s.nodes) (kept : PartsHeld s senses) (p : ℕ) (is : is_a s p_external p ≡ true) (x : Core) where
  no_two : (y a b : ℕ) → is_a s a y ≡ true → nat_eq a b ≡ false → is_a s b y ≡ true → ⊥
  no_two y a b h differ other = clash (is_a s b y) other (subst (λ (z : ℕ). nat_eq z b ≡ false) (sym (eqb-true (production_at s y) a h)) differ)

  no_external : (q : ℕ) → Beneath (IsPart s) p q → is_a s p_external q ≡ true → ⊥
  no_external q (part r) other = no_two p p_external p_unit is refl (grown.nested.externals p q r other)
  no_external q (deeper {i = i} b r) other = no_unit i b (grown.nested.externals i q r other)
    where
      no_unit : (c : ℕ) → Beneath (IsPart s) p c → is_a s p_unit c ≡ true → ⊥
      no_unit c (part h) e = clash (is_a s p_unit c) e (grown.nested.units p c h)
      no_unit c (deeper {i = j} y h) e = clash (is_a s p_unit c) e (grown.nested.units j c h)

  abbrev Sort : ℕ → Type 0
  Sort c = (is_a s p_declaration c || (is_a s p_statement c || is_a s p_block c)) ≡ true

  -- what a part stands in
  above : (i c : ℕ) → IsPart s i c → Sort c → ((is_a s p_external i ≡ true) × (is_a s p_block c ≡ true)) ⊎ ((is_a s p_statement i || is_a s p_block i) ≡ true)
  above i c r sort = by (is_a s p_declaration c) (is_a s p_statement c) (is_a s p_block c) refl refl refl sort
    where
      turned : (a b : Bool) → (a || b) ≡ true → (b || a) ≡ true
      turned true true e = refl
      turned true false e = refl
      turned false true e = refl
      turned false false e = cc

      of_block : is_a s p_block c ≡ true → (a : Bool) → is_a s p_external i ≡ a → (a || is_a s p_statement i) ≡ true → ((is_a s p_external i ≡ true) × (is_a s p_block c ≡ true)) ⊎ ((is_a s p_statement i || is_a s p_block i) ≡ true)
      of_block block true ea e = inl (ea, block)
      of_block block false ea e = inr (or_left (is_a s p_statement i) (is_a s p_block i) e)

      by : (a b d : Bool) → is_a s p_declaration c ≡ a → is_a s p_statement c ≡ b → is_a s p_block c ≡ d → (a || (b || d)) ≡ true
          → ((is_a s p_external i ≡ true) × (is_a s p_block c ≡ true)) ⊎ ((is_a s p_statement i || is_a s p_block i) ≡ true)
      by true b d ea eb ed e = inr (turned (is_a s p_block i) (is_a s p_statement i) (grown.nested.declarations i c r ea))
      by false true d ea eb ed e = inr (turned (is_a s p_block i) (is_a s p_statement i) (grown.nested.statements i c r eb))
      by false false true ea eb ed e = of_block ed (is_a s p_external i) refl (grown.nested.blocks i c r ed)
      by false false false ea eb ed e = cc

  of_block : (c : ℕ) → IsPart s p c → is_a s p_block c ≡ true → IsHeld x (sense_in senses c) → BlockWith s senses p x
  of_block c r block held =
      let k = in_list (children_at s p) c r in
      let lt = grown.first p k.0 c k.1 in
      let inside = child_inside (slice_get s.nodes p) s.nodes p k.0 c refl k.1 in
      let within : c < length senses = omega (arith, lt, inside, whole) in
      let core : Core = statement (Block (objects_in (W s senses grown are whole c) s (F s senses grown are whole c) (children_at s c))) (place_at s c) (cores_in (W s senses grown are whole c) s (F s senses grown are whole c) (children_at s c)) in
      let own : Fits (IsCore core) ≡ Fits (sense_in senses c) = row_there s senses grown are whole c p_block within block in
      let same : IsCore core ≡ sense_in senses c = same_given (IsCore core) (sense_in senses c) own in
      record { block = c; core = core; part = r; is_block = block; sensed = sym same; stands = subst (λ (y : Sense). IsHeld x y) (sym same) held }

  pub climb : (c : ℕ) → Beneath (IsPart s) p c → Sort c → IsHeld x (sense_in senses c) → BlockWith s senses p x
  climb c (part r) sort held = by (above p c r sort)
    where
      by : ((is_a s p_external p ≡ true) × (is_a s p_block c ≡ true)) ⊎ ((is_a s p_statement p || is_a s p_block p) ≡ true) → BlockWith s senses p x
      by (inl own) = of_block c r own.1 held
      by (inr h) = absurd (pick (is_a s p_statement p) (is_a s p_block p) refl refl h)
        where
          pick : (a b : Bool) → is_a s p_statement p ≡ a → is_a s p_block p ≡ b → (a || b) ≡ true → ⊥
          pick true b ea eb e = no_two p p_external p_statement is refl ea
          pick false true ea eb e = no_two p p_external p_block is refl eb
          pick false false ea eb e = cc
  climb c (deeper {i = i} b r) sort held = by (above i c r sort) (λ sort held. climb i b sort held)
    where
      by : ((is_a s p_external i ≡ true) × (is_a s p_block c ≡ true)) ⊎ ((is_a s p_statement i || is_a s p_block i) ≡ true) → (Sort i → IsHeld x (sense_in senses i) → BlockWith s senses p x) → BlockWith s senses p x
      by (inl own) later = absurd (no_external i b own.0)
      by (inr h) later = later (or_right (is_a s p_declaration i) (is_a s p_statement i || is_a s p_block i) h) (kept.each i c x h (in_list (children_at s i) c r) sort held)

-- ---- down

module _ (m : Numbering) (u : Unit) (x : Core) where
  abbrev Below : ℕ → Type 0
  Below i = (n : ℕ) × Under (trees_of u) i n × StandsBy m u n x

  abbrev Among : List ℕ → Type 0
  Among is = (k child : ℕ) × (slice_get is k ≡ Some child) × Below child

  mutual
    under_core : (i : ℕ) (c : Core) → StandsBy m u i c → StandsIn x c → Below i
    under_core i (Of kind place type under) stands (inl e) = (i, here, subst (λ (y : Core). StandsBy m u i y) (sym e) stands)
    under_core i (Of kind place type under) (node, at, same, place_is, type_is, are) (inr h) =
        let (k, child, e, found) = under_some node.children under are h in
        let (n, down, stands) = found in
        (n, under_further u i child n (below here (k, ap (λ (o : Option Node). child_in o k) at ∙ e)) down, stands)

    under_some : (is : List ℕ) (cs : Cores) → AllStandBy m u is cs → InSome x cs → Among is
    under_some is NoCores are h = absurd h
    under_some is (MoreCores c rest) (i, more, same, own, others) (inl h) =
        (0, i, ap (λ (l : List ℕ). slice_get l 0) same, under_core i c own h)
    under_some is (MoreCores c rest) (i, more, same, own, others) (inr h) =
        let (k, child, e, found) = under_some more rest others h in
        (suc k, child, ap (λ (l : List ℕ). slice_get l (suc k)) same ∙ e, found)

  -- an initialiser initialises its entity
  initialises : (n leaf e : ℕ) (paths : List Path) (c : Core) → kind_of c ≡ Initialise leaf paths → m leaf ≡ Some e → StandsBy m u n c → Initialises (trees_of u) n e
  initialises n leaf e paths (Of kind place type under) is number (node, at, same, place_is, type_is, are) =
      subst (λ (o : Option Node). InitialisesIn o e) (sym at) (by node.kind (subst (λ (k : NodeKind). SameKind m k node.kind) is same))
    where
      by : (k : NodeKind) → SameKind m (Initialise leaf paths) k → InitialisesEntity k e
      by (Initialise o others) h = let one : ◌≡◌ {A = Option ℕ} (Some o) (Some e) = sym h.0 ∙ number in cc
      by k h = cc

  pub node_of : InitialisesOnce u → (b : ℕ) (c : Core) → StandsBy m u b c → StandsIn x c → NodeOf m u b x
  node_of once b c stands h =
      let own = under_core b c stands h in
      record { node = own.0; under = own.1; stands = own.2; body = λ leaf e paths is number. once own.0 e (initialises own.0 leaf e paths x is number own.2) }

pub runs_are_held : RunsHeld
runs_are_held tokens unit tree tag_number name u cut is built d p x declares external stands held =
    let s : Source = numbered tag_number (source_of tokens tree) in
    let kept = units_hold_parts tokens unit tree tag_number built.senses cut is built.are_senses built.whole in
    let own = climb s built.senses (grown_of tokens unit tree tag_number cut is) built.are_senses built.whole kept p external x d stands (or_left (is_a s p_declaration d) (is_a s p_statement d || is_a s p_block d) declares) held in
    (own, λ b by. node_of built.numbering u x built.initialises_once b own.core by own.stands)
