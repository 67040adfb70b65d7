-- What an entry is given has types of the machine's table.
use Rattle.std.proofs.Common.{ℕ, zero, suc, ◌+◌, ◌%◌, List, [], ◌∷◌, Option, Some, None, length, slice_get}
use Rattle.std.proofs.lemmas.List.Elements.{All-nil, All-cons, All-append}
use Rattle.c_types.specs.declared.key.ObjectKey.{ObjectKey}
use Rattle.c_types.specs.declared.term.TypeId.{TypeId}
use Rattle.c_types.specs.Trees.{Ctype, PointerTo, FunctionFrom}
use Rattle.c_types.specs.Table.{type_of}
use Rattle.core_tree.specs.Typed.{CoreTrees}
use Rattle.row_numbers.specs.Functions.{key_id}
use Rattle.ref_cells.specs.declared.cells.Cell.{Cell}
use Rattle.ref_cells.specs.declared.instance.Instance.{Instance}
use Rattle.ref_cells.specs.Places.{IsKnown, AreKnown}
use Rattle.ref_values.specs.Memory.{pointee, complete_only}
use Rattle.ref_start.specs.Entries.{Given, handed_as, outside_object, with_object, with_new, with_pointer, given_as, given_under, given_one, given_all}
use Rattle.ref_machine.proofs.Known.{complete_only_known}

module _ (u : CoreTrees) where
  abbrev G : Given → Type 0
  G given = AreKnown (length u.types.terms) given.fresh

  object_given : (number : ℕ) (ty : TypeId) (to : Option TypeId) (given : Given) → IsKnown (length u.types.terms) to → G given → G (with_object number ty to given)
  object_given number ty to given known h =
      All-append (λ (inst : Instance). IsKnown (length u.types.terms) inst.ty) given.fresh (outside_object to ∷ []) h
      (All-cons (λ (inst : Instance). IsKnown (length u.types.terms) inst.ty) (outside_object to) [] known
      (All-nil (λ (inst : Instance). IsKnown (length u.types.terms) inst.ty)))

  new_given : (number : ℕ) (ty : TypeId) (to : Ctype) (given : Given) → G given → G (with_new u.types number ty to given)
  new_given number ty (FunctionFrom result parameters form) given h = h
  new_given number ty to given h =
      object_given number ty (complete_only u.types (pointee (slice_get u.types.terms ty.0))) given
      (complete_only_known u.types (pointee (slice_get u.types.terms ty.0))) h

  pointer_given : (number : ℕ) (ty : TypeId) (to : Ctype) (cells : List Cell) (choice : ℕ) (given : Given) → G given → G (with_pointer u.types number ty to cells choice given)
  pointer_given number ty to cells zero given h = h
  pointer_given number ty to cells (suc zero) given h = new_given number ty to given h
  pointer_given number ty to cells (suc (suc k)) given h = h

  as_given : (count h : ℕ) (ty : TypeId) (t : Ctype) (given : Given) → G given → G (given_as u.types count h ty t given)
  as_given count h ty (PointerTo to) given k =
      pointer_given (count + length given.fresh) ty to (handed_as u.types (PointerTo to) given.handed)
      (h % (length (handed_as u.types (PointerTo to) given.handed) + 2)) given k
  as_given count h ty t given k = k

  under_given : (count h : ℕ) (o : Option TypeId) (given : Given) → G given → G (given_under u.types count h o given)
  under_given count h None given k = k
  under_given count h (Some ty) given k = as_given count h ty (type_of u.types ty.0) given k

  pub all_given : (count h : ℕ) (given : Given) (keys : List ObjectKey) → G given → G (given_all u count h given keys)
  all_given count h given [] k = k
  all_given count h given (key ∷ keys) k = all_given count h (given_one u count h given key) keys (under_given count h (key_id u key) given k)
