-- What is given of an object asks nothing of the uses of names.
use Rattle.std.proofs.Common.{◌≡◌, ℕ, refl, ap, sym, ◌∙◌, Bool, List, [], Result, Ok, Err}
use Rattle.pta_base.specs.declared.place.Place.{Place}
use Rattle.c_types.specs.Trees.{Ctype}
use Rattle.core_tree.specs.declared.node.Unit.{Unit}
use Rattle.c_consts.specs.Core.{Cores}
use Rattle.c_inits.specs.Made.{shape_for}
use Rattle.c_inits.specs.Initial.{Outcome, Places, NoPlace, Action, lasting}
use Rattle.c_inits.specs.View as view
use Rattle.c_senses.specs.Given.{Given, Fits, Refuses, ◌>>=◌}
use Rattle.c_senses.specs.World.{World}
use Rattle.c_senses.specs.Tree.{Source}
use Rattle.c_senses.specs.Sense.{Sense}
use Rattle.c_senses.specs.Entities.{with_length}
use Rattle.c_senses.specs.Initialised.{most_elements, seen, outcome_of, made_of, braced, placed_cores, new_length, initialise_core, Made}
use Rattle.core_nodes.specs.declared.fault.CheckFault.{CheckFault}
use Rattle.core_nodes.specs.declared.fault.CheckFault.TheVariants.{BadOperand, Unsupported, OutOfMemory}
use Rattle.tree_reads.specs.declared.syntax.Syntax.{Syntax}
use Rattle.tree_reads.specs.Sources.{source_in, source_read}
use Rattle.init_rows.specs.declared.objects.Object.{Object}
use Rattle.init_rows.specs.Objects.{object_given, list_given, ObjectGiven}

bind_assoc : {A B C : Type 0} (g : Given A) (f : A → Given B) (h : B → Given C) → ((g >>= f) >>= h) ≡ (g >>= (λ x. f x >>= h))
bind_assoc (Fits x) f h = refl
bind_assoc (Refuses kind node) f h = refl

bind_same : {A B : Type 0} (g : Given A) (f h : A → Given B) → ((x : A) → f x ≡ h x) → (g >>= f) ≡ (g >>= h)
bind_same (Fits x) f h e = e x
bind_same (Refuses kind node) f h e = refl

module _ (w : World) (syntax : Syntax) (uses : List (ℕ × ℕ)) (sense : ℕ → Sense) where
  abbrev from : Source
  from = source_read syntax

  abbrev to : Source
  to = source_in syntax uses

  abbrev turned : Made w from sense → Given (Made w to sense)
  turned m = Fits (record { initial = m.initial; length = m.length })

  module _ (static : Bool) (entity : ℕ) (place : Place) (t : Ctype) where
    values_turned : (actions : List Action) (g : Given Cores)
        → ((g >>= (λ values. Fits (record { initial = initialise_core w from sense entity place (lasting [] actions) values; length = new_length w from sense t actions }))) >>= turned)
        ≡ (g >>= (λ values. Fits (record { initial = initialise_core w to sense entity place (lasting [] actions) values; length = new_length w to sense t actions })))
    values_turned actions (Fits values) = refl
    values_turned actions (Refuses kind node) = refl

    made_turned : (o : Outcome) → (made_of w from sense static entity place t o >>= turned) ≡ made_of w to sense static entity place t o
    made_turned (NoPlace node) = refl
    made_turned (Places actions) = values_turned actions (placed_cores w from sense static (with_length (new_length w from sense t actions) t) (lasting [] actions))

    of_outcome : (g : Given Outcome) → ((g >>= made_of w from sense static entity place t) >>= turned) ≡ (g >>= made_of w to sense static entity place t)
    of_outcome g = bind_assoc g (made_of w from sense static entity place t) turned ∙ bind_same g _ _ made_turned

    given_turned : (u : Unit) (r : Result Object CheckFault) (g : Given (Made w from sense)) (h : Given (Made w to sense)) → (g >>= turned) ≡ h → ObjectGiven w from sense u r g → ObjectGiven w to sense u r h
    given_turned u (Ok object) g h e made = sym e ∙ ap (λ (x : Given (Made w from sense)). x >>= turned) made
    given_turned u (Err (BadOperand node)) g h e made = sym e ∙ ap (λ (x : Given (Made w from sense)). x >>= turned) made
    given_turned u (Err (Unsupported kind node)) g h e made = sym e ∙ ap (λ (x : Given (Made w from sense)). x >>= turned) made
    given_turned u (Err OutOfMemory) g h e made = tt

    pub object_turned : (u : Unit) (r : Result Object CheckFault) (at : ℕ) → ObjectGiven w from sense u r (object_given w from sense static entity place t at) → ObjectGiven w to sense u r (object_given w to sense static entity place t at)
    object_turned u r at made =
        given_turned u r _ _ (of_outcome (outcome_of w from sense at (shape_for w.fillable most_elements t) (view.init_at (seen w from sense) from.nodes at))) made

    pub list_turned : (u : Unit) (r : Result Object CheckFault) (brace at : ℕ) → ObjectGiven w from sense u r (list_given w from sense static entity place t brace at) → ObjectGiven w to sense u r (list_given w to sense static entity place t brace at)
    list_turned u r brace at made =
        given_turned u r _ _ (of_outcome (outcome_of w from sense brace (shape_for w.fillable most_elements t) (braced w from sense brace (view.items_at (seen w from sense) from.nodes at)))) made
