-- Expressions that must be integer constants (C11 6.6).
use Rattle.std.specs.Prelude.{ℕ, ◌==◌, ℤ, Bool, true, false, ◌&&◌, Some, None, List}
use Rattle.c_scope.specs.passed.pta_base.declared.kind.Kind.{Kind}
use Rattle.c_scope.specs.passed.pta_base.declared.kind.Kind.TheVariants.{Constant, ConstantRange, DivideByZero}
use Rattle.c_scope.specs.passed.pta_base.declared.place.Place.{Place}
use Rattle.c_consts.specs.Core.{Core, place_of, part_at}
use Rattle.c_consts.specs.Operators.{Wrong, NoForm, OutOfRange, ZeroDivisor}
use Rattle.c_consts.specs.Answer.{Found, Value, Fails, answer}
use Rattle.c_senses.specs.Tree.{Source, is_leaf, place_at, first_where, all_nodes}
use Rattle.c_senses.specs.Given.{Given, Fits, Refuses, ◌>>=◌}
use Rattle.c_senses.specs.World.{World}
use Rattle.c_senses.specs.Conversions.{OperandSort, Whole}
use Rattle.c_senses.specs.Sense.{Sense, value_in}

abbrev pub kind_of_wrong : Wrong → Kind
kind_of_wrong NoForm = Constant
kind_of_wrong OutOfRange = ConstantRange
kind_of_wrong ZeroDivisor = DivideByZero

abbrev pub same_place : Place → Place → Bool
same_place p q = (p.unit == q.unit) && ((p.line == q.line) && (p.column == q.column))

-- the leaf whose token stands at a place: each core node has the place of one
abbrev pub leaf_of_place : Source → ℕ → Place → ℕ
leaf_of_place s at place =
    elim
    (first_where (λ i. is_leaf s i && same_place (place_at s i) place) (all_nodes s)) [ None ↦ at | Some i ↦ i ]

abbrev pub place_of_part : Core → List ℕ → Place
place_of_part c path = elim (part_at c path) [ None ↦ place_of c | Some d ↦ place_of d ]

-- the value of a constant, or the first node in it that is none
abbrev pub valued : Source → ℕ → Core → Found → Given ℤ
valued s at c (Value n) = Fits n
valued s at c (Fails wrong path) = Refuses (kind_of_wrong wrong) (leaf_of_place s at (place_of_part c path))

abbrev pub constant_in : World → Source → ℕ → Sense → Given ℤ
constant_in w s at sense = value_in w at sense >>= (λ c. valued s at c (answer c true))

-- a length: an integer, or `operand`; a constant, or `vla`
abbrev pub is_whole : OperandSort → Bool
is_whole Whole = true
is_whole sort = false
