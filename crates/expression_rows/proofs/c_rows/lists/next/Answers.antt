use Rattle.std.proofs.Common.{◌≡◌, ◌∙◌, ◌&&◌, ℕ, List, refl, sym, ap, subst}
use Rattle.pta_base.specs.declared.kind.Kind.TheVariants.{Operand}
use Rattle.c_types.specs.declared.term.Term.{Term}
use Rattle.c_types.specs.declared.term.Term.TheVariants.{Void, Bool as BoolTerm, Integer, Floating, VaList, Pointer, Array, Function, Structure, Union}
use Rattle.c_types.specs.Trees.{Ctype, grow}
use Rattle.c_types.specs.Table.{types_of, type_of}
use Rattle.core_tree.specs.declared.node.NodeKind.TheVariants.{NextArg}
use Rattle.c_consts.specs.Core.{Core, over}
use Rattle.c_senses.specs.Given.{Given, Fits, given_if}
use Rattle.c_senses.specs.Conversions.{typed, is_scalar, operand_of}
use Rattle.c_senses.specs.Objects.{is_list_place}
use Rattle.core_nodes.specs.Standing.{core_at, Made}
use Rattle.expression_rows.proofs.c_rows.lists.next.Goals as goal

-- a type that isn't floating refuses nothing by itself
not_floating : (types : List Ctype) (term : Term) → (term ≡ Floating → ⊥) → (at : ℕ) (g : Given Core) → typed at (grow types term) g ≡ g
not_floating types Floating h at g = absurd (h refl)
not_floating types Void h at g = refl
not_floating types BoolTerm h at g = refl
not_floating types (Integer size rank signed) h at g = refl
not_floating types VaList h at g = refl
not_floating types (Pointer to) h at g = refl
not_floating types (Array element n) h at g = refl
not_floating types (Function result parameters form) h at g = refl
not_floating types (Structure tag) h at g = refl
not_floating types (Union tag) h at g = refl

pub returns-in_default : goal.returns-in_default
returns-in_default c =
    let u = c.args.unit.now in
    let at = c.args.at in
    let a : Core = core_at u c.args.a in
    let t : Ctype = type_of u.types c.args.ty.0 in
    let g : Given Core = given_if (is_list_place a && is_scalar (operand_of t)) Operand at (Fits (over NextArg c.args.place t a)) in
    let plain : typed at t g ≡ g = ap (λ (o : Ctype). typed at o g) c.term.ensures.tree ∙ not_floating (types_of u.types) c.term.result.now (λ e. c.in_default.not-Floating e) at g in
    record {
      ready = c.taken.ensures.ready;
      builds = c.taken.ensures.builds;
      within = c.taken.ensures.within;
      made = subst (λ (h : Given Core). Made c.taken.new.unit c.taken.result h) (sym plain) c.taken.ensures.made;
    }
