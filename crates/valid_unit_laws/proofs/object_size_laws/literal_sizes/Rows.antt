-- What the row of a compound literal's list asks of its type.
use Rattle.std.proofs.Common.{◌≡◌, ℕ, true, ◌&&◌, not, List, [], Option, Some, None, refl, sym, ap, ◌∙◌, subst}
use Rattle.std.specs.Prelude.{⊤, is_some, option_map}
use Rattle.pta_base.specs.declared.kind.Kind.TheVariants.{Operand}
use Rattle.c_types.specs.Trees.{Ctype, VoidType, BoolType, IntegerType, FloatingType, VaListType, PointerTo, ArrayOf, FunctionFrom, StructureOf, UnionOf}
use Rattle.c_types.specs.Layout.{Extent, repeated}
use Rattle.c_consts.specs.Core.{Core, ctype_of}
use Rattle.c_inits.specs.Made.{shape_for, shape_of}
use Rattle.c_inits.specs.Shapes.{Shape}
use Rattle.c_inits.specs.Syntax.{Init}
use Rattle.c_inits.specs.Initial.{Outcome, Places, NoPlace, Action, lasting, length_given}
use Rattle.c_inits.specs.View as view
use Rattle.c_senses.specs.Tree.{Source, place_at}
use Rattle.c_senses.specs.Given.{Given, Fits, Refuses, ◌>>=◌}
use Rattle.c_senses.specs.World.{World, extent, has_size}
use Rattle.c_senses.specs.Conversions.{typed}
use Rattle.c_senses.specs.Limits.{within_limits}
use Rattle.c_senses.specs.Entities.{with_length, is_in_static}
use Rattle.c_senses.specs.Initialised.{new_length, most_elements, seen, outcome_of, opening, brace, braced, made_of, placed_cores, is_in_body, literal_of, literal_core, literal_type, literal_in, Made}
use Rattle.c_senses.specs.Sense.{Sense, IsType, fits, sense_in}
use Rattle.c_senses.specs.Rows.{world_at}
use Rattle.parsed_tree_laws.specs.sense_laws.Sound.{Gives}
use Rattle.parsed_tree_laws.proofs.sense_laws.Giving.{then_gives, if_given, and_left}
use Rattle.parsed_tree_laws.proofs.sense_laws.Types.{anything}
use Rattle.core_node_laws.specs.built_unit_laws.built_rows.Rows.{core_type_of}
use Rattle.valid_unit_laws.proofs.object_size_laws.literal_sizes.Shapes.{shape_complete, complete_sized}

some_map : {A B : Type 0} (g : A → B) (o : Option A) → is_some (option_map g o) ≡ true → is_some o ≡ true
some_map g (Some x) h = refl
some_map g None h = cc

some_repeated : (n : ℕ) (o : Option Extent) → is_some o ≡ true → is_some (repeated n o) ≡ true
some_repeated n (Some e) h = refl
some_repeated n None h = cc

module _ (s : Source) (senses : List Sense) (i p : ℕ) where
  abbrev w : World
  w = world_at s senses i

  abbrev f : ℕ → Sense
  f = sense_in senses

  abbrev IsFit : Ctype → Type 0
  IsFit t = (has_size w t ≡ true) × (within_limits w t ≡ true)

  -- with the length that a list gives, what has a shape has a size
  whole_sized : (t : Ctype) (actions : List Action) → is_some (shape_for w.fillable most_elements t) ≡ true → within_limits w (with_length (new_length w s f t actions) t) ≡ true → has_size w (with_length (new_length w s f t actions) t) ≡ true
  whole_sized VoidType actions h e = complete_sized w VoidType (shape_complete s senses i VoidType h) e
  whole_sized BoolType actions h e = complete_sized w BoolType (shape_complete s senses i BoolType h) e
  whole_sized (IntegerType size rank signed) actions h e = complete_sized w (IntegerType size rank signed) (shape_complete s senses i (IntegerType size rank signed) h) e
  whole_sized FloatingType actions h e = complete_sized w FloatingType (shape_complete s senses i FloatingType h) e
  whole_sized VaListType actions h e = complete_sized w VaListType (shape_complete s senses i VaListType h) e
  whole_sized (PointerTo to) actions h e = complete_sized w (PointerTo to) (shape_complete s senses i (PointerTo to) h) e
  whole_sized (ArrayOf of None) actions h e = complete_sized w (ArrayOf of (Some (length_given actions))) (some_repeated (length_given actions) (extent w of) (shape_complete s senses i of (some_map _ (shape_of w.fillable of) h))) e
  whole_sized (ArrayOf of (Some n)) actions h e = complete_sized w (ArrayOf of (Some n)) (shape_complete s senses i (ArrayOf of (Some n)) h) e
  whole_sized (FunctionFrom r ps form) actions h e = complete_sized w (FunctionFrom r ps form) (shape_complete s senses i (FunctionFrom r ps form) h) e
  whole_sized (StructureOf tag) actions h e = complete_sized w (StructureOf tag) (shape_complete s senses i (StructureOf tag) h) e
  whole_sized (UnionOf tag) actions h e = complete_sized w (UnionOf tag) (shape_complete s senses i (UnionOf tag) h) e

  module _ (t : Ctype) where
    abbrev HasLength : Made w s f → Type 0
    HasLength m = (actions : List Action) × (m.length ≡ new_length w s f t actions)

    abbrev IsFitting : Core → Type 0
    IsFitting c = IsFit (ctype_of c)

    shaped : (shape : Option Shape) (init : Option Init) → Gives (λ o. is_some shape ≡ true) (outcome_of w s f (brace w s f p) shape init)
    shaped None init = tt
    shaped (Some shape) None = tt
    shaped (Some shape) (Some init) = refl

    made_length : (o : Outcome) → Gives HasLength (made_of w s f (not (is_in_body w s f i)) (opening w s f p) (place_at s (brace w s f p)) t o)
    made_length (NoPlace node) = tt
    made_length (Places actions) =
        then_gives (λ x. ⊤) HasLength (placed_cores w s f (not (is_in_body w s f i)) (with_length (new_length w s f t actions) t) (lasting [] actions)) _ (anything _) (λ values k. (actions, refl))

    literal_fits : Gives IsFitting (literal_of w s f i p t)
    literal_fits =
        then_gives (λ o. is_some (shape_for w.fillable most_elements t) ≡ true) IsFitting (outcome_of w s f (brace w s f p) (shape_for w.fillable most_elements t) (braced w s f (brace w s f p) (view.items_at (seen w s f) s.nodes i))) _
        (shaped (shape_for w.fillable most_elements t) (braced w s f (brace w s f p) (view.items_at (seen w s f) s.nodes i)))
        (λ o shape.
        then_gives HasLength IsFitting (made_of w s f (not (is_in_body w s f i)) (opening w s f p) (place_at s (brace w s f p)) t o) _ (made_length o)
        (λ m h.
        if_given IsFitting (within_limits w (with_length m.length t) && not (is_in_body w s f i && is_in_static s f i)) Operand (opening w s f p) (Fits (literal_core w s f p t m))
        (λ small.
        let limited : within_limits w (with_length m.length t) ≡ true = and_left (within_limits w (with_length m.length t)) _ small in
        let here : within_limits w (with_length (new_length w s f t h.0) t) ≡ true = ap (λ (n : Option ℕ). within_limits w (with_length n t)) (sym h.1) ∙ limited in
        (ap (λ (n : Option ℕ). has_size w (with_length n t)) h.1 ∙ whole_sized t h.0 shape here, limited))))

    as_typed : (at : ℕ) (x : Ctype) (g : Given Core) → Gives IsFitting g → Gives IsFitting (typed at x g)
    as_typed at FloatingType g h = tt
    as_typed at x g h = h

  -- the type of a core is fit
  abbrev pub CoreFits : Sense → Type 0
  CoreFits x = (t : Ctype) → core_type_of x ≡ Some t → IsFit t

  as_core : (g : Given Core) → Gives (λ c. IsFit (ctype_of c)) g → Gives CoreFits (g >>= fits)
  as_core (Fits c) h = λ t e. let same : ctype_of c ≡ t = cc in subst IsFit same h
  as_core (Refuses kind node) h = tt

  typed_literal : (name : ℕ) (x : Sense) → Gives (λ c. IsFit (ctype_of c)) (literal_type w s f name x >>= (λ type. typed (opening w s f p) type (literal_of w s f i p type)))
  typed_literal name (IsType t) = as_typed t (opening w s f p) t (literal_of w s f i p t) (literal_fits t)
  typed_literal name x = tt

  pub literal_row : (o : Option ℕ) → Gives CoreFits (literal_in w s f i p o)
  literal_row None = tt
  literal_row (Some name) = as_core (literal_type w s f i (f name) >>= (λ type. typed (opening w s f p) type (literal_of w s f i p type))) (typed_literal i (f name))
