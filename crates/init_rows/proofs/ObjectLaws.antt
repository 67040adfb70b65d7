-- What an initialiser gives an object, by its outcome.
use Rattle.std.proofs.Common.{◌≡◌, ℕ, refl, ap, sym, ◌∙◌, subst, Bool, Option, Some, None, List, Result, Ok, Err, IfOk, slice_get}
use Rattle.std.proofs.Math.Path.{fun_ext}
use Rattle.pta_base.specs.declared.kind.Kind.TheVariants.{Initialiser}
use Rattle.pta_base.specs.declared.place.Place.{Place}
use Rattle.c_types.specs.declared.term.OutOfMemory.{OutOfMemory as Want}
use Rattle.c_types.specs.Trees.{Ctype}
use Rattle.c_types.specs.Table.{Table, type_of}
use Rattle.core_tree.specs.declared.node.Unit.{Unit}
use Rattle.c_grammar.specs.declared.trees.SyntaxNode.{SyntaxNode}
use Rattle.c_grammar.specs.Productions.{p_init}
use Rattle.c_inits.specs.Shapes.{Shape}
use Rattle.c_inits.specs.Made.{Look, shape_for}
use Rattle.c_inits.specs.Tables.{shape_in}
use Rattle.c_inits.specs.Syntax.{Init, Items, Braces, init_node}
use Rattle.c_inits.specs.Initial.{Outcome, NoPlace}
use Rattle.c_inits.specs.View as view
use Rattle.c_initialise.specs.declared.c_braces.items.Initialised.{Initialised}
use Rattle.c_initialise.specs.c_braces.Initialised.{outcome_for}
use Rattle.c_senses.specs.Given.{Given, Refuses, ◌>>=◌}
use Rattle.c_senses.specs.World.{World}
use Rattle.c_senses.specs.Tree.{Source, production_of}
use Rattle.c_senses.specs.Sense.{Sense}
use Rattle.c_senses.specs.Initialised.{most_elements, seen, outcome_of, made_of, braced, Made}
use Rattle.c_initialise.specs.Facts.{no_world}
use Rattle.c_initialise.specs.Read.{before, Answers}
use Rattle.c_initialise.proofs.Viewed.{whole, kids, init_is}
use Rattle.c_initialise.proofs.Given.{seen_init}
use Rattle.core_nodes.specs.declared.fault.CheckFault.{CheckFault}
use Rattle.core_nodes.specs.declared.fault.CheckFault.TheVariants.{BadOperand, Unsupported, OutOfMemory}
use Rattle.c_initials.specs.Filling.{Fills}
use Rattle.c_initials.specs.Scope.{ObjectMade}
use Rattle.init_rows.specs.declared.objects.Object.{Object}
use Rattle.init_rows.specs.Objects.{OutcomeIs, object_given, list_given, IsOutcome, IsOutcomeOf, ObjectGiven}

some_is : {A : Type 0} (x y : A) → ◌≡◌ {A = Option A} (Some x) (Some y) → x ≡ y
some_is x y e = cc

-- the node of an initialiser is its own
node_of : (v : view.Source) (at : ℕ) (o : Option Items) → init_node (view.braced_or_value v at o) ≡ at
node_of v at None = refl
node_of v at (Some items) = refl

node_is : (v : view.Source) (nodes : List SyntaxNode) (at : ℕ) (init : Init) → production_of (slice_get nodes at) ≡ p_init → view.init_at v nodes at ≡ Some init → init_node init ≡ at
node_is v nodes at init p e =
    let o : Option Items = view.first_list (before at (whole v nodes)) (kids v nodes at) in
    let is : view.init_at v nodes at ≡ Some (view.braced_or_value v at o) = seen_init v nodes at (view.braced_or_value v at o) (init_is v nodes at p) in
    sym (ap init_node (some_is (view.braced_or_value v at o) init (sym is ∙ e))) ∙ node_of v at o

outcome_read : (table : Table) (limit id : ℕ) (init : Init) (answer : Result Initialised ℕ) → Answers table limit id init answer → OutcomeIs (type_of table id) (outcome_for (shape_in table limit id) init) answer
outcome_read table limit id init (Ok made) h = h
outcome_read table limit id init (Err bad) h = h

module _ (w : World) (s : Source) (sense : ℕ → Sense) where
  -- where the type has no shape the whole initialiser has no place
  by_shape : (static : Bool) (entity : ℕ) (place : Place) (t : Ctype) (at : ℕ) (shape : Option Shape) (init : Init) → init_node init ≡ at
      → (outcome_of w s sense at shape (Some init) >>= made_of w s sense static entity place t) ≡ made_of w s sense static entity place t (outcome_for shape init)
  by_shape static entity place t at None init n = ap (λ (k : ℕ). Refuses Initialiser k) (sym n)
  by_shape static entity place t at (Some shape) init n = refl

  module _ (u : Unit) (fills : Fills w u) (id : ℕ) where
    abbrev t : Ctype
    t = type_of u.types id

    shape_is : shape_for w.fillable most_elements t ≡ shape_in u.types most_elements id
    shape_is = ap (λ (look : Look). shape_for look most_elements t) (fun_ext fills.fillable)

    outcome_is : (static : Bool) (entity : ℕ) (place : Place) (at : ℕ) (o : Option Init) (init : Init) → o ≡ Some init → init_node init ≡ at
        → (outcome_of w s sense at (shape_for w.fillable most_elements t) o >>= made_of w s sense static entity place t) ≡ made_of w s sense static entity place t (outcome_for (shape_in u.types most_elements id) init)
    outcome_is static entity place at o init e n =
        ap (λ (shape : Option Shape). outcome_of w s sense at shape o >>= made_of w s sense static entity place t) shape_is
        ∙ (ap (λ (i : Option Init). outcome_of w s sense at (shape_in u.types most_elements id) i >>= made_of w s sense static entity place t) e
        ∙ by_shape static entity place t at (shape_in u.types most_elements id) init n)

    pub init_read : (at : ℕ) (r : Result (Result Initialised ℕ) Want) → production_of (slice_get s.nodes at) ≡ p_init
        → IfOk r (λ answer. (init : Init) × (view.init_at (seen no_world s sense) s.nodes at ≡ Some init) × Answers u.types most_elements id init answer)
        → IfOk r (λ answer. (o : Outcome) × IsOutcome w s sense t at o × OutcomeIs t o answer)
    init_read at (Err e) p h = tt
    init_read at (Ok answer) p h = (
      outcome_for (shape_in u.types most_elements id) h.0,
      λ static entity place. outcome_is static entity place at (view.init_at (seen w s sense) s.nodes at) h.0 h.1 (node_is (seen w s sense) s.nodes at h.0 p h.1),
      outcome_read u.types most_elements id h.0 answer h.2,
    )

    pub list_read : (brace at : ℕ) (r : Result (Result Initialised ℕ) Want)
        → IfOk r (λ answer. (items : Items) × (view.items_at (seen no_world s sense) s.nodes at ≡ Some items) × Answers u.types most_elements id (Braces brace items) answer)
        → IfOk r (λ answer. (o : Outcome) × IsOutcomeOf w s sense t brace at o × OutcomeIs t o answer)
    list_read brace at (Err e) h = tt
    list_read brace at (Ok answer) h = (
      outcome_for (shape_in u.types most_elements id) (Braces brace h.0),
      λ static entity place. outcome_is static entity place brace (braced w s sense brace (view.items_at (seen w s sense) s.nodes at)) (Braces brace h.0) (ap (braced w s sense brace) h.1) refl,
      outcome_read u.types most_elements id (Braces brace h.0) answer h.2,
    )

  pub given_same : (u : Unit) (r : Result Object CheckFault) (g h : Given (Made w s sense)) → g ≡ h → ObjectGiven w s sense u r h → ObjectGiven w s sense u r g
  given_same u r g h e made = subst (λ (x : Given (Made w s sense)). ObjectGiven w s sense u r x) (sym e) made

  pub fault_given : (u v : Unit) (e : CheckFault) (n : Option ℕ) (g : Given (Made w s sense)) → ObjectMade w s sense u (Err e) n g → ObjectGiven w s sense v (Err e) g
  fault_given u v (BadOperand k) n g h = h
  fault_given u v (Unsupported kind k) n g h = h
  fault_given u v OutOfMemory n g h = tt

  pub no_place : (static : Bool) (entity : ℕ) (place : Place) (t : Ctype) (o : Outcome) (bad : ℕ) → o ≡ NoPlace bad → made_of w s sense static entity place t o ≡ Refuses Initialiser bad
  no_place static entity place t o bad e = ap (made_of w s sense static entity place t) e

-- in a unit that has grown
module _ (w : World) (s : Source) (f g : ℕ → Sense) (t t' : Ctype) (same : f ≡ g) (is : t ≡ t') (u : Unit) (r : Result Object CheckFault) (static : Bool) (entity : ℕ) (place : Place) where
  pub object_moved : (at : ℕ) → ObjectGiven w s f u r (object_given w s f static entity place t at) → ObjectGiven w s g u r (object_given w s g static entity place t' at)
  object_moved at h =
      subst (λ (x : Ctype). ObjectGiven w s g u r (object_given w s g static entity place x at)) is
      (subst (λ (x : ℕ → Sense). ObjectGiven w s x u r (object_given w s x static entity place t at)) same h)

  pub list_moved : (brace at : ℕ) → ObjectGiven w s f u r (list_given w s f static entity place t brace at) → ObjectGiven w s g u r (list_given w s g static entity place t' brace at)
  list_moved brace at h =
      subst (λ (x : Ctype). ObjectGiven w s g u r (list_given w s g static entity place x brace at)) is
      (subst (λ (x : ℕ → Sense). ObjectGiven w s x u r (list_given w s x static entity place t brace at)) same h)
