use Rattle.std.proofs.Common.{◌≡◌, ◌∙◌, ℕ, List, refl, sym, ap, subst}
use Rattle.c_types.specs.declared.term.Term.{Term}
use Rattle.c_types.specs.declared.term.Term.TheVariants.{Void, Bool as BoolTerm, Integer, Floating, VaList, Pointer, Array, Function, Structure, Union}
use Rattle.c_types.specs.Trees.{Ctype, grow}
use Rattle.c_types.specs.Table.{types_of, type_of}
use Rattle.c_consts.specs.Core.{Core}
use Rattle.c_senses.specs.Given.{Given}
use Rattle.c_senses.specs.Conversions.{typed}
use Rattle.core_nodes.specs.Standing.{core_at, Made}
use Rattle.value_rows.specs.Assignments.{cast_to}
use Rattle.value_rows.proofs.assignments.cast_row.Goals as goal

-- a type that isn't floating refuses nothing by itself
not_floating : (types : List Ctype) (term : Term) → (term ≡ Floating → ⊥) → (at : ℕ) (g : Given Core) → typed at (grow types term) g ≡ g
not_floating types Floating h at g = absurd (h refl)
not_floating types Void h at g = refl
not_floating types BoolTerm h at g = refl
not_floating types (Integer size rank signed) h at g = refl
not_floating types VaList h at g = refl
not_floating types (Pointer to) h at g = refl
not_floating types (Array element n) h at g = refl
not_floating types (Function result parameters form) h at g = refl
not_floating types (Structure tag) h at g = refl
not_floating types (Union tag) h at g = refl

pub returns-in_default : goal.returns-in_default
returns-in_default c =
    let u = c.args.unit.now in
    let at = c.args.at in
    let x : Core = core_at u c.args.x in
    let t : Ctype = type_of u.types c.args.ty.0 in
    let term : Term = c.term.result.now in
    record {
      ready = c.cast_to.ensures.ready;
      builds = c.cast_to.ensures.builds;
      within = c.cast_to.ensures.within;
      made = λ w k.
          let g : Given Core = cast_to w at x t in
          let plain : typed at t g ≡ g = ap (λ (o : Ctype). typed at o g) c.term.ensures.tree ∙ not_floating (types_of u.types) term (λ e. c.in_default.not-Floating e) at g in
          subst (λ (h : Given Core). Made c.cast_to.new.unit c.cast_to.result h) (sym plain) (c.cast_to.ensures.made w k);
    }
