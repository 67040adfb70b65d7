-- What a system stands on stays so over a table with more types.
use Rattle.std.proofs.Common.{arith, ◌≡◌, ◌∙◌, inl, inr, ℕ, ◌<◌, Bool, false, List, [], ◌∷◌, length, Option, Some, None, IsSome, slice_get, refl, sym, ap, subst}
use Rattle.std.proofs.lemmas.Bool.{cases_lt, false≢true}
use Rattle.std.proofs.lemmas.List.{get_or_past}
use Rattle.c_types.specs.declared.term.PathStep.{PathStep}
use Rattle.c_types.specs.declared.term.PathStep.TheVariants.{Index, Member}
use Rattle.c_types.specs.declared.term.Term.{Term}
use Rattle.c_types.specs.declared.term.TypeId.{TypeId}
use Rattle.c_types.specs.Trees.{Ctype, VoidType, ArrayOf}
use Rattle.c_types.specs.Layout.{Extent}
use Rattle.c_types.specs.Table.{Table, types_of, type_of, extent_in}
use Rattle.c_types.specs.Made.{IsMade, AreNamed}
use Rattle.c_types.proofs.Grow.{grown_length}
use Rattle.core_tree.specs.declared.node.Program.{Program}
use Rattle.sol_model.specs.declared.system.System.{System}
use Rattle.obj_made.specs.declared.object.Content.{Content}
use Rattle.obj_made.specs.declared.object.Content.TheVariants.{Function, Blob, Scalar, Scalars, Typed, Elements}
use Rattle.obj_space.specs.declared.location.Location.{Location}
use Rattle.obj_space.specs.Parts.{nodes_of}
use Rattle.obj_space.specs.Space.{locations_in}
use Rattle.obj_space.specs.Spots.{Reached, reached, member_reached, step_by, step_from, part_at, type_made, whole_reached}
use Rattle.obj_space.proofs.Followed.{step_member}
use Rattle.covering_laws.proofs.object_contents.Contents.{contents_known}
use Rattle.covering_laws.specs.grown_programs.Grown.{with_terms, MayFollow, IsKept}
use Rattle.covering_laws.proofs.grown_programs.Tables.{tables_grow}
use Rattle.covering_laws.proofs.grown_programs.Types.{both, field_same, part_type_same, facts_same}
use Rattle.covering_laws.specs.covered_memory.Demands.{Grounds}
use Rattle.covering_laws.specs.covered_needs.Needs.{GroundsGrow}

none_some : {X : Type 0} → {x : X} → ◌≡◌ {A = Option X} None (Some x) → ⊥
none_some h = cc

some_one : {X : Type 0} → {x y : X} → ◌≡◌ {A = Option X} (Some x) (Some y) → x ≡ y
some_one h = cc

-- a complete type of a number is the table's
pub complete_known : (table : Table) (id : ℕ) → IsSome (extent_in table (type_of table id)) → id < length table.terms
complete_known table id complete = elim (cases_lt id (length table.terms)) [
  | inl less ↦ less
  | inr past ↦
      let long = grown_length [] table.terms in
      let void : type_of table id ≡ VoidType = get_or_past (types_of table) id VoidType (omega arith) in
      absurd (false≢true (subst (λ (t : Ctype). IsSome (extent_in table t)) void complete))
]

module _ (p : Program) (more : List Term) (made : IsMade p.types) (named : AreNamed p.types) (follow : MayFollow (length p.types.terms) more) where
  abbrev new : Table
  new = with_terms p.types more

  kept : IsKept p.types (with_terms p.types more)
  kept = tables_grow p.types more made named follow

  step_same : (t : Ctype) (node : ℕ) (inside : Bool) (step : PathStep) → step_by new t node inside step ≡ step_by p.types t node inside step
  step_same (ArrayOf of n) node inside (Index i) = refl
  step_same t node inside (Index i) = refl
  step_same t node inside (Member k) =
      step_member new t node inside k
      ∙ (both (λ (o : Option Ctype) (f : Option ℕ). member_reached t o f node inside) (part_type_same p.types more made follow kept t (Member k)) (field_same p.types more made follow kept t k)
      ∙ sym (step_member p.types t node inside k))

  from_same : (r : Option Reached) (step : PathStep) → step_from new r step ≡ step_from p.types r step
  from_same None step = refl
  from_same (Some r) step = step_same r.ty r.node r.inside step

  pub part_same : (path : List PathStep) (r : Option Reached) → part_at new r path ≡ part_at p.types r path
  part_same [] r = refl
  part_same (step ∷ rest) r = ap (λ (o : Option Reached). part_at new o rest) (from_same r step) ∙ part_same rest (step_from p.types r step)

  whole_same : (content : Content) → ((id : TypeId) → type_made content ≡ Some id → id.0 < length p.types.terms) → whole_reached new content ≡ whole_reached p.types content
  whole_same Function known = refl
  whole_same Blob known = refl
  whole_same (Scalar number) known = refl
  whole_same (Scalars number) known = refl
  whole_same (Typed id) known = ap (λ (t : Ctype). Some (reached t 0 false)) (kept.types id.0 (known id refl))
  whole_same (Elements id) known = ap (λ (t : Ctype). Some (reached (ArrayOf t None) 0 false)) (kept.types id.0 (known id refl))

  id_known : (l : ℕ) (x : Location) → slice_get (locations_in p) l ≡ Some x → (id : TypeId) → type_made x.content ≡ Some id → id.0 < length p.types.terms
  id_known l x at id is = complete_known p.types id.0 ((contents_known p l x made at).1 id is)

  grounds_more : (system : System) → Grounds p.types (locations_in p) system → Grounds (with_terms p.types more) (locations_in p) system
  grounds_more system g = record {
    made = kept.made;
    named = kept.named;
    reaches = λ key l x id path r t first at is complete part out node.
        g.reaches key l x id path r t first at is
        (subst (λ (o : Option Extent). IsSome o) (ap (extent_in new) (kept.types id.0 (id_known l x at id is)) ∙ kept.extents (type_of p.types id.0)) complete)
        (sym (ap (λ (o : Option Reached). part_at new o path) (whole_same x.content (id_known l x at)) ∙ part_same path (whole_reached p.types x.content)) ∙ part) out
        (sym (ap (λ (o : Option Extent). slice_get (nodes_of o) 0) (kept.extents r.ty)) ∙ node);
    contents = g.contents;
    facts = g.facts;
    types = g.types ∙ sym (facts_same p.types more made follow kept);
  }

pub grounds_grow : GroundsGrow
grounds_grow p more system made named follow g = grounds_more p more made named follow system g
