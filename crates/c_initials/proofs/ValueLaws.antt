-- Values of items, and what stands in their rows.
use Rattle.std.proofs.Common.{◌≡◌, ◌<◌, ℕ, ℤ, refl, ap, sym, ◌∙◌, subst, Bool, true, false, not, Option, Some, None, List, Result, Ok, Err, IfOk, length, All}
use Rattle.std.specs.Prelude.{IfSome, ◌||◌}
use Rattle.pta_base.specs.declared.kind.Kind.TheVariants.{Operand}
use Rattle.pta_base.specs.declared.place.Place.{Place}
use Rattle.c_types.specs.Trees.{Ctype}
use Rattle.c_types.specs.Table.{type_of, look_in, members_in}
use Rattle.core_tree.specs.declared.node.Unit.{Unit}
use Rattle.core_tree.specs.declared.node.NodeKind.TheVariants.{Number}
use Rattle.core_tree.specs.Typed.{Holds}
use Rattle.c_consts.specs.Core.{Core, leaf}
use Rattle.c_inits.specs.Initial.{Placed}
use Rattle.c_senses.specs.Given.{Given, Fits, Refuses, ◌>>=◌, given_if, given_some}
use Rattle.c_senses.specs.World.{World}
use Rattle.c_senses.specs.Tree.{Source}
use Rattle.c_senses.specs.Sense.{Sense, IsCore, core_of, sense_in}
use Rattle.c_senses.specs.Conversions.{value_of, conversion}
use Rattle.c_senses.specs.Initialised.{type_along, expression_of, expression_core, character_core, placed_core, fixed_or, is_fixed, is_automatic}
use Rattle.core_nodes.specs.Standing.{core_at, Builds, Made, Knows, parts_in}
use Rattle.core_nodes.specs.declared.fault.CheckFault.{CheckFault}
use Rattle.core_nodes.proofs.Growing.{knows_on}
use Rattle.core_nodes.proofs.Failing.{follows, fits_core}
use Rattle.c_conversions.specs.Constants.{HasRows}
use Rattle.parsed_tree_laws.specs.sense_laws.Sound.{Gives}
use Rattle.parsed_tree_laws.specs.sense_laws.row_trees.Trees.{RowsValue, RowsOf}
use Rattle.parsed_tree_laws.proofs.sense_laws.row_trees.Conversions.{value_rows, conversion_rows}
use Rattle.c_conversions.specs.constant_values.Constants.{HasConstants}
use Rattle.c_conversions.proofs.constant_values.Valuing.{rows_read}
use Rattle.c_results.specs.declared.made.Made.{Made as MadeNode}
use Rattle.c_results.specs.Standing.{senses_made}
use Rattle.c_results.specs.Parts.{NodeSeen, core_in}
use Rattle.c_initials.specs.Scope.{value_as, item_value, item_given}

-- a world of what a unit's types say
abbrev world_of : Unit → World
world_of u = record {
  meaning = λ leaf. None;
  members = λ tag. parts_in u.types (members_in u.types tag);
  look = look_in u.types;
  fillable = λ tag. None;
  tags = u.types.tags;
  may_name = λ entity. true;
  may_call = true;
  own_name = None;
  further = λ leaf. None;
}

knows_own : (u : Unit) → Knows (world_of u) u
knows_own u = record { members = λ tag. refl; extents = λ t. refl; tags = refl }

gives_fits : (P : Core → Type 0) (g : Given Core) (c : Core) → Gives P g → g ≡ Fits c → P c
gives_fits P g c h e = subst (λ (x : Given Core). Gives P x) e h

pub value_sorted : (u v : Unit) (at node i : ℕ) → HasRows (core_at u node) → ((w : World) → Knows w u → Made v (Ok i) (value_of w at (core_at u node))) → RowsValue (core_at v i)
value_sorted u v at node i rows made =
    gives_fits RowsValue (value_of (world_of u) at (core_at u node)) (core_at v i) (value_rows (world_of u) at (core_at u node) rows) (made (world_of u) (knows_own u))

pub conversion_keeps : (u v : Unit) (at i : ℕ) (t : Ctype) (r : Result ℕ CheckFault) → RowsValue (core_at u i) → ((w : World) → Knows w u → Made v r (conversion w false at (core_at u i) t)) → IfOk r (λ j. HasRows (core_at v j))
conversion_keeps u v at i t (Ok j) rows made =
    (gives_fits (RowsOf t) (conversion (world_of u) false at (core_at u i) t) (core_at v j) (conversion_rows (world_of u) (core_at u i) rows false at t) (made (world_of u) (knows_own u))).0
conversion_keeps u v at i t (Err e) rows made = tt

pub converted_value : (w : World) (old mid new : Unit) (at node i ty : ℕ) (r : Result ℕ CheckFault) → Knows w old → Builds old mid → ty < length old.types.terms → Made mid (Ok i) (value_of w at (core_at old node))
    → ((x : World) → Knows x mid → Made new r (conversion x false at (core_at mid i) (type_of mid.types ty))) → Made new r (value_as w at (core_at old node) (type_of old.types ty))
converted_value w old mid new at node i ty r k b lt made conv =
    follows mid new i r (value_of w at (core_at old node)) (λ (v : Core). conversion w false at v (type_of old.types ty)) made
    (subst (λ (t : Ctype). Made new r (conversion w false at (core_at mid i) t)) (b.types ty lt) (conv w (knows_on w old mid b k)))

pub number_rows : (u : Unit) (r : Result ℕ CheckFault) (n : ℤ) (place : Place) (t : Ctype) → Made u r (Fits (leaf (Number n) place t)) → Holds t n → IfOk r (λ i. HasRows (core_at u i))
number_rows u (Ok i) n place t made holds = subst HasRows (sym (fits_core u i (leaf (Number n) place t) made)) (holds, tt)
number_rows u (Err e) n place t made holds = tt

pub rows_seen : (u : Unit) (results : List MadeNode) (child : ℕ) (o : Option ℕ) → All (HasConstants u) results → NodeSeen u o (core_in (sense_in (senses_made u results) child)) → IfSome o (λ i. HasRows (core_at u i))
rows_seen u results child (Some i) all seen = rows_read u results child (core_at u i) all seen
rows_seen u results child None all seen = tt

some_core : (at : ℕ) (x : Sense) (c : Core) → core_in x ≡ Some c → core_of at x ≡ Fits c
some_core at (IsCore d) c e = let same : d ≡ c = cc in ap Fits same
some_core at x c e = cc

no_core : (at : ℕ) (x : Sense) → core_in x ≡ None → core_of at x ≡ Refuses Operand at
no_core at (IsCore d) e = cc
no_core at x e = refl

module _ (w : World) (s : Source) (sense : ℕ → Sense) where
  core_character : (x : Sense) (c : Core) (t : Ctype) (k : ℕ) → core_in x ≡ Some c → character_core w s sense (IsCore c) t k ≡ character_core w s sense x t k
  core_character (IsCore d) c t k e = let same : c ≡ d = cc in ap (λ (y : Core). character_core w s sense (IsCore y) t k) same
  core_character x c t k e = cc

  no_character : (x : Sense) (t : Ctype) (k : ℕ) → core_in x ≡ None → character_core w s sense x t k ≡ Refuses Operand 0
  no_character (IsCore d) t k e = cc
  no_character x t k e = refl

  module _ (p : Placed) (t : Ctype) where
    abbrev x : Sense
    x = expression_of w s sense p.node

    pub item_expression : (c : Core) → p.character ≡ None → core_in x ≡ Some c → value_as w p.node c t ≡ item_value w s sense p t
    item_expression c e h =
        sym (ap (λ (o : Option ℕ). elim o as (λ q. Given Core) [ None ↦ expression_core w s sense p.node t | Some k ↦ character_core w s sense x t k ]) e
        ∙ ap (λ (g : Given Core). (g >>= value_of w p.node) >>= (λ (v : Core). conversion w false p.node v t)) (some_core p.node x c h))

    pub item_character : (c : Core) (k : ℕ) → p.character ≡ Some k → core_in x ≡ Some c → character_core w s sense (IsCore c) t k ≡ item_value w s sense p t
    item_character c k e h =
        core_character x c t k h ∙ sym (ap (λ (o : Option ℕ). elim o as (λ q. Given Core) [ None ↦ expression_core w s sense p.node t | Some k ↦ character_core w s sense x t k ]) e)

    pub item_nothing : p.character ≡ None → core_in x ≡ None → item_value w s sense p t ≡ Refuses Operand p.node
    item_nothing e h =
        ap (λ (o : Option ℕ). elim o as (λ q. Given Core) [ None ↦ expression_core w s sense p.node t | Some k ↦ character_core w s sense x t k ]) e
        ∙ ap (λ (g : Given Core). (g >>= value_of w p.node) >>= (λ (v : Core). conversion w false p.node v t)) (no_core p.node x h)

    pub item_no_character : (k : ℕ) → p.character ≡ Some k → core_in x ≡ None → item_value w s sense p t ≡ Refuses Operand 0
    item_no_character k e h =
        ap (λ (o : Option ℕ). elim o as (λ q. Given Core) [ None ↦ expression_core w s sense p.node t | Some k ↦ character_core w s sense x t k ]) e ∙ no_character x t k h

  -- an item at its place
  pub placed_at : (static : Bool) (t here : Ctype) (p : Placed) → type_along w (Some t) p.path ≡ Some here → item_value w s sense p here >>= fixed_or w s sense static p.node ≡ item_given w s sense static t p
  placed_at static t here p e = sym (ap (λ (o : Option Ctype). given_some o Operand p.node >>= placed_core w s sense static p) e)

  -- a value that has to be fixed
  module _ (static : Bool) (init : ℕ) (c : Core) where
    abbrev firm : Bool
    firm = is_fixed (is_automatic w s sense) c

    pub may_move : not static ≡ true → fixed_or w s sense static init c ≡ Fits c
    may_move e = ap (λ (b : Bool). given_if (b || firm) Operand init (Fits c)) e

    held : (b : Bool) → not static ≡ false → b ≡ firm → fixed_or w s sense static init c ≡ given_if b Operand init (Fits c)
    held b e h = ap (λ (b : Bool). given_if (b || firm) Operand init (Fits c)) e ∙ ap (λ (b : Bool). given_if b Operand init (Fits c)) (sym h)

    pub is_held : not static ≡ false → true ≡ firm → fixed_or w s sense static init c ≡ Fits c
    is_held e h = held true e h

    pub is_loose : not static ≡ false → false ≡ firm → fixed_or w s sense static init c ≡ Refuses Operand init
    is_loose e h = held false e h
