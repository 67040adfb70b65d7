-- The types of the library's objects in the machine's table, and the program's own there.
use Rattle.std.proofs.Common.{arith, ◌≡◌, ◌∙◌, ℕ, ◌+◌, true, false, length, Option, Some, IsSome, slice_get, refl, sym, ap, subst}
use Rattle.c_types.specs.declared.term.Term.{Term}
use Rattle.c_types.specs.declared.term.Term.TheVariants.{Integer, Pointer, Array}
use Rattle.c_types.specs.declared.term.TypeId.{TypeId}
use Rattle.c_types.specs.Trees.{Ctype, IntegerType, PointerTo, ArrayOf, grow}
use Rattle.c_types.specs.Layout.{Extent}
use Rattle.c_types.specs.Table.{types_of, type_of, extent_in}
use Rattle.c_types.specs.Made.{IsMade, AreNamed}
use Rattle.core_tree.specs.declared.node.Program.{Program}
use Rattle.type_rules.proofs.term_types.Grown.{types_grown}
use Rattle.obj_space.proofs.Preorder.{get_behind}
use Rattle.ref_state.specs.ref_types.Types.{id, library_terms}
use Rattle.covering_laws.specs.grown_programs.Grown.{MayFollow, IsKept}
use Rattle.covering_laws.proofs.grown_programs.Tables.{tables_grow}
use Rattle.covering_laws.proofs.covered_needs.Grounded.{complete_known}
use Rattle.covered_runs.specs.machine_sound.covered_start.Objects.{terms_behind, machine_table}

infixr 10 ◌&◌
◌&◌ : {A B : Type 0} → A → B → A × B
a & b = (a, b)

-- the types of the library's objects may stand behind those of any table
pub library_follow : (n : ℕ) → MayFollow n (library_terms n)
library_follow n =
    (tt, refl, tt) & (omega arith, tt, tt) & (omega arith, tt, tt) & (tt, refl, tt) & (omega arith, tt, tt) & (omega arith, tt, tt) & (omega arith, tt, tt) & (tt, refl, tt) & tt

module _ (p : Program) (made : IsMade p.types) (named : AreNamed p.types) where
  pub longer : IsKept p.types (machine_table p)
  longer = tables_grow p.types (terms_behind p) made named (library_follow (length p.types.terms))

  -- a complete type of the program is the same in the machine's table
  pub own_type : (i : TypeId) → IsSome (extent_in p.types (type_of p.types i.0)) → (type_of (machine_table p) i.0 ≡ type_of p.types i.0) × IsSome (extent_in (machine_table p) (type_of (machine_table p) i.0))
  own_type i h =
      let same = longer.types i.0 (complete_known p.types i.0 h) in
      (same, subst (λ (o : Option Extent). IsSome o) (sym (longer.extents (type_of (machine_table p) i.0) ∙ ap (extent_in p.types) same)) h)

  type_behind : (i j : ℕ) (t : Term) → i ≡ length p.types.terms + j → slice_get (library_terms (length p.types.terms)) j ≡ Some t → type_of (machine_table p) i ≡ grow (types_of (machine_table p)) t
  type_behind i j t place e = types_grown (machine_table p) i t longer.named (get_behind p.types.terms (terms_behind p) i j place ∙ e)

  pub character_type : type_of (machine_table p) (length p.types.terms) ≡ IntegerType 1 1 true
  character_type = type_behind (length p.types.terms) 0 (Integer 1 1 true) (omega arith) refl

  pub argument_type : type_of (machine_table p) (length p.types.terms + 1) ≡ ArrayOf (IntegerType 1 1 true) (Some 8)
  argument_type = type_behind (length p.types.terms + 1) 1 (Array (id (length p.types.terms)) (Some 8)) refl refl ∙ ap (λ (t : Ctype). ArrayOf t (Some 8)) character_type

  pub text_type : type_of (machine_table p) (length p.types.terms + 2) ≡ ArrayOf (IntegerType 1 1 true) (Some 64)
  text_type = type_behind (length p.types.terms + 2) 2 (Array (id (length p.types.terms)) (Some 64)) refl refl ∙ ap (λ (t : Ctype). ArrayOf t (Some 64)) character_type

  class_type : type_of (machine_table p) (length p.types.terms + 3) ≡ IntegerType 2 3 false
  class_type = type_behind (length p.types.terms + 3) 3 (Integer 2 3 false) refl refl

  pub classes_type : type_of (machine_table p) (length p.types.terms + 4) ≡ ArrayOf (IntegerType 2 3 false) (Some 384)
  classes_type = type_behind (length p.types.terms + 4) 4 (Array (id (length p.types.terms + 3)) (Some 384)) refl refl ∙ ap (λ (t : Ctype). ArrayOf t (Some 384)) class_type

  pub pointer_type : type_of (machine_table p) (length p.types.terms + 5) ≡ PointerTo (IntegerType 1 1 true)
  pointer_type = type_behind (length p.types.terms + 5) 5 (Pointer (id (length p.types.terms))) refl refl ∙ ap PointerTo character_type

  pub arguments_type : type_of (machine_table p) (length p.types.terms + 6) ≡ ArrayOf (PointerTo (IntegerType 1 1 true)) (Some 9)
  arguments_type =
      type_behind (length p.types.terms + 6) 6 (Array (id (length p.types.terms + 5)) (Some 9)) refl refl
      ∙ ap (λ (t : Ctype). ArrayOf t (Some 9)) pointer_type

  pub number_type : type_of (machine_table p) (length p.types.terms + 7) ≡ IntegerType 4 4 true
  number_type = type_behind (length p.types.terms + 7) 7 (Integer 4 4 true) refl refl
