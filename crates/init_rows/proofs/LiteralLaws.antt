-- Rows of compound literals by their parts.
use Rattle.std.proofs.Common.{◌≡◌, ℕ, refl, ap, sym, ◌∙◌, subst, Bool, true, false, ◌&&◌, ◌||◌, not, Option, Some, None, Result, Ok, Err, IfOk, if◌then◌else◌}
use Rattle.pta_base.specs.declared.kind.Kind.{Kind}
use Rattle.pta_base.specs.declared.kind.Kind.TheVariants.{Operand}
use Rattle.pta_base.specs.declared.place.Place.{Place}
use Rattle.c_types.specs.Trees.{Ctype}
use Rattle.core_tree.specs.declared.node.Unit.{Unit}
use Rattle.core_tree.specs.declared.node.NodeKind.TheVariants.{Literal}
use Rattle.c_consts.specs.Core.{Core, over}
use Rattle.c_grammar.specs.Productions.{p_cast, p_unary, p_type_name}
use Rattle.c_inits.specs.Made.{shape_for}
use Rattle.c_inits.specs.View as view
use Rattle.c_senses.specs.Given.{Given, Fits, Refuses, ◌>>=◌, given_if}
use Rattle.c_senses.specs.World.{World, extent}
use Rattle.c_senses.specs.Tree.{Source, is_a, parent_of, child_of, place_at}
use Rattle.c_senses.specs.Limits.{is_small, within_limits}
use Rattle.c_senses.specs.Conversions.{typed}
use Rattle.c_senses.specs.Sense.{Sense, Nothing, IsType, fits}
use Rattle.c_senses.specs.Entities.{with_length, is_in_static}
use Rattle.c_senses.specs.Initialised.{most_elements, seen, outcome_of, made_of, braced, is_in_body, opening, brace, literal_core, literal_of, literal_type, literal_in, items_row, Made}
use Rattle.core_nodes.specs.declared.fault.CheckFault.{CheckFault}
use Rattle.core_nodes.specs.declared.fault.CheckFault.TheVariants.{BadOperand, Unsupported, OutOfMemory}
use Rattle.core_nodes.specs.Standing.{core_at, Made as CoreMade}
use Rattle.c_conversions.specs.Constants.{HasRows}
use Rattle.c_results.specs.Standing.{Rowed}
use Rattle.c_results.specs.Parts.{type_in}
use Rattle.init_rows.specs.declared.objects.Object.{Object}
use Rattle.init_rows.specs.Objects.{list_given, ObjectGiven}
use Rattle.init_rows.specs.Literals.{fitting}
use Rattle.init_rows.proofs.TypeLaws.{length_limits}

bind_assoc : {A B C : Type 0} (g : Given A) (f : A → Given B) (h : B → Given C) → ((g >>= f) >>= h) ≡ (g >>= (λ x. f x >>= h))
bind_assoc (Fits x) f h = refl
bind_assoc (Refuses kind node) f h = refl

module _ (w : World) (s : Source) (sense : ℕ → Sense) where
  -- what is judged of the object of a literal
  abbrev pub judge : ℕ → ℕ → Ctype → Made w s sense → Given Core
  judge at p t made =
      given_if (within_limits w (with_length made.length t) && not (is_in_body w s sense at && is_in_static s sense at)) Operand (opening w s sense p) (Fits (literal_core w s sense p t made))

  pub literal_is : (at p : ℕ) (t : Ctype) → literal_of w s sense at p t ≡ (list_given w s sense (not (is_in_body w s sense at)) (opening w s sense p) (place_at s (brace w s sense p)) t (brace w s sense p) at >>= judge at p t)
  literal_is at p t =
      sym (bind_assoc (outcome_of w s sense (brace w s sense p) (shape_for w.fillable most_elements t) (braced w s sense (brace w s sense p) (view.items_at (seen w s sense) s.nodes at)))
      (made_of w s sense (not (is_in_body w s sense at)) (opening w s sense p) (place_at s (brace w s sense p)) t) (judge at p t))

  -- by what has been read of the parts
  abbrev pub judged : Bool → ℕ → Place → Ctype → Made w s sense → Given Core
  judged refused entity place t made =
      given_if (within_limits w (with_length made.length t) && not refused) Operand entity (Fits (over (Literal entity) place (with_length made.length t) made.initial))

  pub literal_parts : (at p : ℕ) (t : Ctype) (static refused : Bool) (entity brace_read : ℕ) (place outer : Place)
      → static ≡ not (is_in_body w s sense at) → entity ≡ opening w s sense p → brace_read ≡ brace w s sense p → place ≡ place_at s brace_read → outer ≡ place_at s entity
      → refused ≡ (is_in_body w s sense at && is_in_static s sense at)
      → literal_of w s sense at p t ≡ (list_given w s sense static entity place t brace_read at >>= judged refused entity outer t)
  literal_parts at p t static refused entity brace_read place outer e0 e1 e2 e3 e4 e5 =
      literal_is at p t
      ∙ (ap (λ (b : Bool). list_given w s sense b (opening w s sense p) (place_at s (brace w s sense p)) t (brace w s sense p) at >>= judge at p t) (sym e0)
      ∙ (ap (λ (b : Bool). list_given w s sense static (opening w s sense p) (place_at s (brace w s sense p)) t (brace w s sense p) at >>= judged b (opening w s sense p) (place_at s (opening w s sense p)) t) (sym e5)
      ∙ (ap (λ (e : ℕ). list_given w s sense static e (place_at s (brace w s sense p)) t (brace w s sense p) at >>= judged refused e (place_at s e) t) (sym e1)
      ∙ (ap (λ (k : ℕ). list_given w s sense static entity (place_at s k) t k at >>= judged refused entity (place_at s entity) t) (sym e2)
      ∙ (ap (λ (x : Place). list_given w s sense static entity x t brace_read at >>= judged refused entity (place_at s entity) t) (sym e3)
      ∙ ap (λ (x : Place). list_given w s sense static entity place t brace_read at >>= judged refused entity x t) (sym e4))))))

  -- the object has been made
  pub literal_made : (u v : Unit) (object : Object) (r : Result ℕ CheckFault) (g : Given (Made w s sense)) (h : Given Core) (refused : Bool) (entity : ℕ) (outer : Place) (t t' : Ctype) → h ≡ (g >>= judged refused entity outer t) → ObjectGiven w s sense u (Ok object) g → t' ≡ t
      → CoreMade v r (given_if (within_limits w (with_length object.length t') && not refused) Operand entity (Fits (over (Literal entity) outer (with_length object.length t') (core_at u object.node)))) → CoreMade v r h
  literal_made u v object r g h refused entity outer t t' same made is result =
      subst (λ (x : Given Core). CoreMade v r x)
      (sym (same ∙ (ap (λ (x : Given (Made w s sense)). x >>= judged refused entity outer t) made
      ∙ ap (λ (x : Ctype). given_if (within_limits w (with_length object.length x) && not refused) Operand entity (Fits (over (Literal entity) outer (with_length object.length x) (core_at u object.node)))) (sym is))))
      result

  pub refused : (u v : Unit) (e : CheckFault) (g : Given (Made w s sense)) (f : Made w s sense → Given Core) (h : Given Core) → h ≡ (g >>= f) → ObjectGiven w s sense u (Err e) g → CoreMade v (Err e) h
  refused u v (BadOperand k) g f h same made = same ∙ ap (λ (x : Given (Made w s sense)). x >>= f) made
  refused u v (Unsupported kind k) g f h same made = same ∙ ap (λ (x : Given (Made w s sense)). x >>= f) made
  refused u v OutOfMemory g f h same made = tt

  module _ (at : ℕ) where
    abbrev by_parent : Option ℕ → Given Sense
    by_parent o =
        elim o [ None ↦ Fits Nothing | Some p ↦ if is_a s p_cast p || is_a s p_unary p then literal_in w s sense at p (child_of s p_type_name p) else Fits Nothing ]

    pub no_parent : None ≡ parent_of s at → items_row w s sense at ≡ Fits Nothing
    no_parent e = ap by_parent (sym e)

    module _ (p : ℕ) (parent : Some p ≡ parent_of s at) where
      of_parent : items_row w s sense at ≡ by_parent (Some p)
      of_parent = ap by_parent (sym parent)

      pub other_parent : false ≡ (is_a s p_cast p || is_a s p_unary p) → items_row w s sense at ≡ Fits Nothing
      other_parent e = of_parent ∙ ap (λ (b : Bool). if b then literal_in w s sense at p (child_of s p_type_name p) else Fits Nothing) (sym e)

      module _ (behind : true ≡ (is_a s p_cast p || is_a s p_unary p)) where
        behind_name : items_row w s sense at ≡ literal_in w s sense at p (child_of s p_type_name p)
        behind_name = of_parent ∙ ap (λ (b : Bool). if b then literal_in w s sense at p (child_of s p_type_name p) else Fits Nothing) (sym behind)

        pub no_name : None ≡ child_of s p_type_name p → items_row w s sense at ≡ Refuses Operand at
        no_name e = behind_name ∙ ap (literal_in w s sense at p) (sym e)

        module _ (named : ℕ) (child : Some named ≡ child_of s p_type_name p) where
          abbrev with_type : Given Ctype → Given Sense
          with_type g = (g >>= (λ type. typed (opening w s sense p) type (literal_of w s sense at p type))) >>= fits

          of_name : items_row w s sense at ≡ with_type (literal_type w s sense at (sense named))
          of_name = behind_name ∙ ap (literal_in w s sense at p) (sym child)

          none_typed : (x : Sense) → type_in x ≡ None → literal_type w s sense at x ≡ Refuses Operand at
          none_typed (IsType t) e = cc
          none_typed x e = refl

          some_typed : (x : Sense) (t : Ctype) → type_in x ≡ Some t → literal_type w s sense at x ≡ Fits t
          some_typed (IsType y) t e = let is : y ≡ t = cc in ap Fits is
          some_typed x t e = cc

          pub no_type : type_in (sense named) ≡ None → items_row w s sense at ≡ Refuses Operand at
          no_type e = of_name ∙ ap with_type (none_typed (sense named) e)

          pub of_type : (t : Ctype) → type_in (sense named) ≡ Some t → items_row w s sense at ≡ fitting (typed (opening w s sense p) t (literal_of w s sense at p t))
          of_type t e = of_name ∙ ap with_type (some_typed (sense named) t e)

-- a literal's type is judged with its length
pub literal_judged : (w : World) (t : Ctype) (n : Option ℕ) (small refused may : Bool) → within_limits w t ≡ true → small ≡ is_small (extent w (with_length n t)) → may ≡ (small && not refused) → may ≡ (within_limits w (with_length n t) && not refused)
literal_judged w t n small refused may limited e f =
    f ∙ (ap (λ (b : Bool). b && not refused) e
    ∙ ap (λ (b : Bool). b && not refused) (sym (length_limits w n t ∙ ap (λ (b : Bool). b && is_small (extent w (with_length n t))) limited)))

pub judged_false : {A : Type 0} (b : Bool) (kind : Kind) (node : ℕ) (g : Given A) → false ≡ b → given_if b kind node g ≡ Refuses kind node
judged_false b kind node g e = sym (ap (λ (x : Bool). given_if x kind node g) e)

pub judged_true : {A : Type 0} (b : Bool) (kind : Kind) (node : ℕ) (g : Given A) → true ≡ b → given_if b kind node g ≡ g
judged_true b kind node g e = sym (ap (λ (x : Bool). given_if x kind node g) e)

-- what is made of a core tree is a sense
pub fitting_fault : (u v : Unit) (e : CheckFault) (g : Given Core) → CoreMade u (Err e) g → Rowed v (Err e) (fitting g)
fitting_fault u v (BadOperand k) g h = ap fitting h
fitting_fault u v (Unsupported kind k) g h = ap fitting h
fitting_fault u v OutOfMemory g h = tt

pub core_same : (u : Unit) (r : Result ℕ CheckFault) (g h : Given Core) → g ≡ h → CoreMade u r h → CoreMade u r g
core_same u r g h e made = subst (λ (x : Given Core). CoreMade u r x) (sym e) made

pub over_rows : (e : ℕ) (place : Place) (t : Ctype) (c : Core) → HasRows c → HasRows (over (Literal e) place t c)
over_rows e place t c h = (tt, (h, tt))

pub made_rows : (u : Unit) (r : Result ℕ CheckFault) (c : Core) → CoreMade u r (Fits c) → HasRows c → IfOk r (λ i. HasRows (core_at u i))
made_rows u (Ok i) c made h = subst HasRows (core_of (Fits (core_at u i)) made) h
  where
    or_this : Given Core → Core
    or_this (Fits x) = x
    or_this (Refuses kind node) = c

    core_of : (g : Given Core) → Fits c ≡ g → c ≡ or_this g
    core_of g e = ap or_this e
made_rows u (Err e) c made h = tt
