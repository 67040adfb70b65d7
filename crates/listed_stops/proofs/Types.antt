-- The type by which a function of a linked program is called is one of the program's table, and its signature is that of no other type.
use Rattle.std.proofs.Common.{arith, ◌≡◌, ◌∙◌, ◌⊎◌, inl, inr, ℕ, zero, suc, ◌+◌, ◌<◌, true, length, length-append, map, Option, Some, None, slice_get, refl, sym, ap, subst}
use Rattle.std.specs.Prelude.{⊤}
use Rattle.std.specs.List.{range_with_len}
use Rattle.std.specs.Option.{option_map}
use Rattle.std.proofs.lemmas.Bool.{false≢true, cases_lt}
use Rattle.c_types.specs.declared.key.ObjectKey.{ObjectKey}
use Rattle.c_types.specs.declared.key.ObjectKey.TheVariants.{Entity as EntityKey, Function as FunctionKey}
use Rattle.c_types.specs.declared.term.Form.TheVariants.{Unspecified}
use Rattle.c_types.specs.declared.term.TypeId.{TypeId}
use Rattle.c_types.specs.Trees.{Ctype, VoidType, FunctionFrom, NoTypes, MoreTypes}
use Rattle.c_types.specs.Table.{type_of, IsFirstOf}
use Rattle.type_rules.specs.Sizes.{HasSignature}
use Rattle.core_tree.specs.declared.node.Entity.{Entity}
use Rattle.core_tree.specs.declared.node.Program.{Program}
use Rattle.core_tree.specs.Typed.{CoreTrees, trees_in}
use Rattle.core_tree.specs.Valid.{ValidProgram}
use Rattle.sol_model.specs.declared.system.System.{System}
use Rattle.sol_model.specs.Families.{Family}
use Rattle.link_names.specs.Together.{is_listed}
use Rattle.linked_laws.specs.alike_laws.Plain.{IsPlain}
use Rattle.obj_space.specs.View.{SpaceView}
use Rattle.row_numbers.specs.declared.functions.Role.TheVariants.{Defined}
use Rattle.row_numbers.specs.Functions.{keys_in, function_keys, functions_below, functions_of, key_id, type_or_void, key_type}
use Rattle.call_sites.specs.Signatures.{IsSignature, compares, ends, known, unknown, called_type}
use Rattle.covering_laws.specs.grown_programs.Grown.{IsKept}
use Rattle.covering_laws.proofs.grown_programs.Listed.{IsFunctionKey, function_there}
use Rattle.covering_laws.proofs.grown_programs.Numbers.{key_known, key_id_same, key_type_same}
use Rattle.covering_laws.proofs.covered_state.Stays.{each_append, each_change}
use Rattle.covering_laws.specs.covered_state.World.{World, trees_of, view_in, IsFunctionAt}
use Rattle.covering_laws.specs.covered_state.Items.{Each}
use Rattle.covered_runs.specs.covered_steps.covered_effects.Served.{IsServed}
use Rattle.covered_runs.proofs.covered_steps.covered_effects.Needs.{called_listed, function_first}
use Rattle.covered_runs.specs.covered_steps.covered_statements.Runnable.{IsRunnable}
use Rattle.covered_runs.proofs.covered_steps.covered_statements.Keys.{IsInRole, in_role, ordered_from, function_body}
use Rattle.covered_runs.specs.machine_sound.covered_start.Objects.{terms_behind, machine_table, IsSolved}
use Rattle.covered_runs.specs.machine_sound.covered_start.Start.{machine_world}
use Rattle.covered_runs.proofs.machine_sound.covered_start.Types.{library_follow, longer}
use Rattle.listed_stops.specs.Listed.{TellsTypes}

-- ---- a function of the library has one of its first 55 numbers
abbrev IsLow : ObjectKey → Type 0
IsLow (FunctionKey k) = k < 55
IsLow key = ⊤

low_entity : (e : ℕ) (key : ObjectKey) → key ≡ EntityKey e → IsLow key
low_entity e key is = subst IsLow (sym is) tt

low_numbers : (a n : ℕ) → a + n ≡ 55 → Each IsLow (map (λ k. FunctionKey k) (range_with_len a n))
low_numbers a zero e = tt
low_numbers a (suc n) e = ((omega (arith, e)), low_numbers (a + 1) n (omega (arith, e)))

pub function_low : (u : CoreTrees) (s : SpaceView) (number k : ℕ) → slice_get (functions_of u s) number ≡ Some (FunctionKey k) → k < 55
unfolding functions_below
function_low u s number k at =
    (ordered_from s IsLow (function_keys u) s.count number (FunctionKey k)
    (each_append IsLow (keys_in Defined u.entities) (map (λ j. FunctionKey j) (range_with_len 0 55))
    (each_change (IsInRole u Defined) IsLow (λ key h. low_entity h.0 key h.2) (keys_in Defined u.entities) (in_role u Defined)) (low_numbers 0 55 refl)) at).0

-- a type of the program's own
pub record HasId (p : Program) (t : Ctype) : Type 0 where
  pub number : ℕ
  pub within : number < length p.types.terms
  pub same : type_of (machine_table p) number ≡ t

module _ (p : Program) (system : System) (family : Family) (valid : ValidProgram p) (told : TellsTypes p) (s : IsSolved p system family) where
  abbrev world : World
  world = machine_world p system family s

  kept : IsKept p.types (machine_table p)
  kept = longer p s.made s.named

  own_id : (key : ObjectKey) (id : TypeId) → key_id (trees_in p) key ≡ Some id → id.0 < length p.types.terms
  own_id = key_known p (terms_behind p) s.made (library_follow (length p.types.terms)) kept valid.trees.in_range.types valid.trees.in_range.entity_types

  key_named : (key : ObjectKey) → (key_type (trees_of world) key ≡ VoidType) ⊎ HasId p (key_type (trees_of world) key)
  key_named key = by (key_id (trees_of world) key) refl
    where
      by : (o : Option TypeId) → key_id (trees_of world) key ≡ o → (key_type (trees_of world) key ≡ VoidType) ⊎ HasId p (key_type (trees_of world) key)
      by None is = inl (ap (type_or_void (machine_table p)) is)
      by (Some id) is =
          inr (record {
            number = id.0;
            within = own_id key id
                (sym (key_id_same p (terms_behind p) s.made (library_follow (length p.types.terms)) kept valid.trees.in_range.types valid.trees.in_range.entity_types key) ∙ is);
            same = sym (ap (type_or_void (machine_table p)) is);
          })

  -- a type with a list is the one by which its function is called
  listed_called : (t : Ctype) → is_listed t ≡ true → (t ≡ VoidType) ⊎ HasId p t → HasId p (called_type t)
  listed_called t listed (inl void) = absurd (false≢true (sym (ap is_listed void) ∙ listed))
  listed_called t listed (inr h) = subst (HasId p) (sym (called_listed t listed)) h

  module _ (x : Entity) (within : x.ty.0 < length p.types.terms) where
    entity_called : (t : Ctype) → type_of p.types x.ty.0 ≡ t → HasSignature p.types t → IsPlain t → HasId p (called_type t)
    entity_called (FunctionFrom r NoTypes Unspecified) is signature plain = record { number = signature.0; within = signature.1; same = kept.types signature.0 signature.1 ∙ signature.2 }
    entity_called (FunctionFrom r (MoreTypes a more) Unspecified) is signature plain = absurd plain
    entity_called t is signature plain = record { number = x.ty.0; within = within; same = kept.types x.ty.0 within ∙ is }

  module _ (runs : IsRunnable world) (characters : TypeId) (served : IsServed world runs.stands characters) where
    -- the type by which a function is called
    pub called_id : (number : ℕ) (key : ObjectKey) → IsFunctionAt world number key → HasId p (called_type (key_type (trees_of world) key))
    called_id number key at = by key refl
      where
        library : (k : ℕ) → key ≡ FunctionKey k → HasId p (called_type (key_type (trees_of world) (FunctionKey k)))
        library k is =
            let own : IsFunctionAt world number (FunctionKey k) = subst (IsFunctionAt world number) is at in
            let l = function_first (trees_of world) (view_in world) number (FunctionKey k) own in
            listed_called (key_type (trees_of world) (FunctionKey k)) (served.shapes k l.0 (function_low (trees_of world) (view_in world) number k own) l.1).listed (key_named (FunctionKey k))

        body : (e : ℕ) → key ≡ EntityKey e → HasId p (called_type (key_type (trees_of world) (EntityKey e)))
        body e is =
            let h = function_body (trees_of world) (view_in world) number (EntityKey e) (subst (IsFunctionAt world number) is at) in
            let type : key_type (trees_of world) (EntityKey e) ≡ type_of p.types h.0.ty.0 =
            key_type_same p (terms_behind p) s.made (library_follow (length p.types.terms)) kept valid.trees.in_range.types valid.trees.in_range.entity_types (EntityKey e)
            ∙ ap (λ (o : Option Entity). type_or_void p.types (option_map (λ (y : Entity). y.ty) o)) h.1 in
            subst (λ (t : Ctype). HasId p (called_type t)) (sym type)
            (entity_called h.0 (valid.trees.in_range.entity_types e h.0 h.1) (type_of p.types h.0.ty.0) refl (valid.signatures e h.0 h.1 h.2) (told.plain e h.0 h.1 h.2))

        by : (own : ObjectKey) → key ≡ own → HasId p (called_type (key_type (trees_of world) own))
        by (EntityKey e) is = body e is
        by (FunctionKey k) is = library k is
        by own is = absurd (subst IsFunctionKey is (function_there (trees_of world) (view_in world) number key at).0)

  -- of a type of the table, and one with the same signature, the types are one
  module _ (t r : Ctype) (a b : ℕ) (h : HasId p t) (same : a ≡ b) where
    long : length (machine_table p).terms ≡ length p.types.terms + length (terms_behind p)
    long = length-append p.types.terms (terms_behind p)

    -- the first of its numbers is one of the program's own
    first_own : (j : ℕ) → IsFirstOf (machine_table p) t j → j < length p.types.terms
    first_own j first = elim (cases_lt h.number j) [ inl less ↦ absurd (first.least h.number less h.same) | inr le ↦ (let w = h.within in omega (arith, le, w)) ]

    pub same_types : IsSignature (machine_table p) t a → IsSignature (machine_table p) r b → t ≡ r
    same_types (compares e is) (compares f also) = e ∙ sym f
    same_types (compares e is) (ends f also) = absurd (omega (arith, is, also, same))
    same_types (compares e is) (known {id = k} other first also) = absurd (omega (arith, is, also, same))
    same_types (compares e is) (unknown other none also) = absurd (omega (arith, is, also, same))
    same_types (ends e is) (compares f also) = absurd (omega (arith, is, also, same))
    same_types (ends e is) (ends f also) = e ∙ sym f
    same_types (ends e is) (known {id = k} other first also) = absurd (omega (arith, is, also, same))
    same_types (ends e is) (unknown other none also) = absurd (omega (arith, is, also, same))
    same_types (known {id = j} other first is) (compares f also) = absurd (omega (arith, is, also, same))
    same_types (known {id = j} other first is) (ends f also) = absurd (omega (arith, is, also, same))
    same_types (known {id = j} other first is) (known {id = k} other_too second also) =
        let one : j ≡ k = omega (arith, is, also, same) in
        sym first.same ∙ (ap (type_of (machine_table p)) one ∙ second.same)
    same_types (known {id = j} other first is) (unknown other_too none also) =
        (let own = first_own j first in let room = told.room in absurd (omega (arith, is, also, same, own, room)))
    same_types (unknown other none is) k = (let w = h.within in let l = long in absurd (none.none h.number (omega (arith, w, l)) h.same))
