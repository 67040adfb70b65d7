-- What is fixed before the program runs, as code sees it.
use Rattle.std.specs.Prelude.{ℕ, ◌<◌, Bool, true, false, not, ⊤}
use Rattle.core_tree.specs.declared.node.Unit.{Unit}
use Rattle.c_senses.specs.Initialised.{FixedForm, Always, OfNumbers, Never, is_fixed_place, is_fixed_pointer}
use Rattle.core_nodes.specs.Standing.{core_at}
use Rattle.c_initials.specs.declared.numbers.NumberForm.{NumberForm}
use Rattle.c_initials.specs.declared.numbers.NumberForm.TheVariants as numbers
use Rattle.c_initials.specs.declared.fixed.Base.{Base}
use Rattle.c_initials.specs.declared.fixed.Base.TheVariants as bases
use Rattle.c_initials.specs.declared.fixed.Step.{Step}
use Rattle.c_initials.specs.declared.fixed.Step.TheVariants as steps

abbrev pub form_seen : NumberForm → FixedForm
form_seen numbers.Always = Always
form_seen numbers.OfNumbers = OfNumbers
form_seen numbers.Never = Never

-- whether what a place rests on is fixed, by the entities that are automatic
abbrev pub is_firm : (ℕ → Bool) → Base → Bool
is_firm automatic bases.Firm = true
is_firm automatic (bases.Entity e) = not (automatic e)
is_firm automatic bases.Loose = false

-- whether a node is fixed, by one step down from it
abbrev pub is_firm_by : (ℕ → Bool) → Unit → Step → Bool
is_firm_by automatic u (steps.Ends base) = is_firm automatic base
is_firm_by automatic u (steps.Place i) = is_fixed_place automatic (core_at u i)
is_firm_by automatic u (steps.Pointer i) = is_fixed_pointer automatic (core_at u i)

-- a step goes to a node before
abbrev pub IsDown : ℕ → Step → Type 0
IsDown node (steps.Ends base) = ⊤
IsDown node (steps.Place i) = i < node
IsDown node (steps.Pointer i) = i < node

-- a node as a pointer, or as a place
abbrev pub is_fixed_as : (ℕ → Bool) → Unit → (pointer : Bool) → ℕ → Bool
is_fixed_as automatic u true i = is_fixed_pointer automatic (core_at u i)
is_fixed_as automatic u false i = is_fixed_place automatic (core_at u i)
