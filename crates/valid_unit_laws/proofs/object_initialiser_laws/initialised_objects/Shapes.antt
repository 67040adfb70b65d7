-- Functions have no shape, so nothing initialises one.
use Rattle.std.proofs.Common.{arith, ◌≡◌, ◌<◌, ℕ, List, length, Option, Some, None, refl, sym, ap, ◌∙◌}
use Rattle.std.proofs.lemmas.List.{take_all}
use Rattle.c_types.specs.Trees.{Ctype, VoidType, BoolType, IntegerType, FloatingType, VaListType, PointerTo, ArrayOf, FunctionFrom, StructureOf, UnionOf}
use Rattle.core_tree.specs.Rows.{IsFunction}
use Rattle.c_inits.specs.Made.{Look, shape_for}
use Rattle.c_inits.specs.Shapes.{Shape}
use Rattle.c_inits.specs.Syntax.{Init}
use Rattle.c_senses.specs.Tree.{Source}
use Rattle.c_senses.specs.World.{World}
use Rattle.c_senses.specs.Entities.{with_length}
use Rattle.c_senses.specs.Initialised.{outcome_of}
use Rattle.c_senses.specs.Sense.{Sense, Nothing, sense_in}
use Rattle.parsed_tree_laws.specs.sense_laws.Sound.{Gives}
use Rattle.core_node_laws.proofs.built_unit_laws.run_laws.Times.{told_before}

none_some : {X : Type 0} → {x : X} → ◌≡◌ {A = Option X} None (Some x) → ⊥
none_some h = cc

pub no_shape : (look : Look) (limit : ℕ) (t : Ctype) → IsFunction t → shape_for look limit t ≡ None
no_shape look limit (FunctionFrom r ps f) h = refl
no_shape look limit VoidType h = absurd h
no_shape look limit BoolType h = absurd h
no_shape look limit (IntegerType size rank signed) h = absurd h
no_shape look limit FloatingType h = absurd h
no_shape look limit VaListType h = absurd h
no_shape look limit (PointerTo to) h = absurd h
no_shape look limit (ArrayOf of n) h = absurd h
no_shape look limit (StructureOf tag) h = absurd h
no_shape look limit (UnionOf tag) h = absurd h

-- a length makes no function of a type
pub function_below : (n : Option ℕ) (t : Ctype) → IsFunction (with_length n t) → IsFunction t
function_below None t h = h
function_below (Some n) (ArrayOf of None) h = h
function_below (Some n) (ArrayOf of (Some k)) h = h
function_below (Some n) VoidType h = h
function_below (Some n) BoolType h = h
function_below (Some n) (IntegerType size rank signed) h = h
function_below (Some n) FloatingType h = h
function_below (Some n) VaListType h = h
function_below (Some n) (PointerTo to) h = h
function_below (Some n) (FunctionFrom r ps f) h = h
function_below (Some n) (StructureOf tag) h = h
function_below (Some n) (UnionOf tag) h = h

-- where an initialiser has an outcome, its type is an object's
pub outcome_object : (w : World) (s : Source) (sense : ℕ → Sense) (at : ℕ) (look : Look) (limit : ℕ) (t : Ctype) (init : Option Init) → Gives (λ o. IsFunction t → ⊥) (outcome_of w s sense at (shape_for look limit t) init)
outcome_object w s sense at look limit t init = by (shape_for look limit t) refl init
  where
    by : (o : Option Shape) → shape_for look limit t ≡ o → (i : Option Init) → Gives (λ x. IsFunction t → ⊥) (outcome_of w s sense at o i)
    by None e i = tt
    by (Some shape) e None = tt
    by (Some shape) e (Some i) = λ h. none_some (sym (no_shape look limit t h) ∙ e)

-- a node that has a sense stands among those that have one
pub has_sense : (s : Source) (senses : List Sense) (i : ℕ) (x : Sense) → sense_in senses i ≡ x → (x ≡ Nothing → ⊥) → i < length senses
has_sense s senses i x is some = told_before s senses (length senses) i x (ap (λ (l : List Sense). sense_in l i) (take_all (length senses) senses (omega arith)) ∙ is) some
