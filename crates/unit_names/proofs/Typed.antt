-- The types and the storage of internal names.
use Rattle.std.proofs.Common.{◌≡◌, ℕ, Bool, true, false, cond, List, [], ◌∷◌, Option, Some, None, option_map, refl, sym, ap, ◌∙◌}
use Rattle.core_tree.specs.declared.node.Linkage.{Linkage}
use Rattle.core_tree.specs.declared.node.Linkage.TheVariants.{Internal}
use Rattle.core_tree.specs.declared.node.Storage.{Storage}
use Rattle.core_tree.specs.declared.node.Storage.TheVariants.{Static, Automatic, FunctionBody, Parameter as ParameterStorage, Declared as DeclaredStorage}
use Rattle.c_types.specs.Trees.{Ctype, VoidType, BoolType, IntegerType, FloatingType, VaListType, PointerTo, ArrayOf, FunctionFrom, StructureOf, UnionOf}
use Rattle.c_scope.specs.declared.kinds.Declared.{Declared}
use Rattle.c_senses.specs.Tree.{Source}
use Rattle.c_senses.specs.Sense.{Sense, sense_in}
use Rattle.c_senses.specs.Entities.{own_type, types_of, all_together, with_length, is_internal, is_defined, declares_function, storage_of}
use Rattle.c_senses.specs.Right.{of_internal, representative, internal_type, entity_type, with_one, storage_at}
use Rattle.c_named.specs.Lists.{leaves_of, with_type, types_at}
use Rattle.unit_names.specs.Typing.{type_of_internal}
use Rattle.unit_names.specs.Storages.{internal_storage}
use Rattle.unit_names.proofs.Places.{of_internal_name, of_other_name}

module _ (s : Source) (senses : List Sense) where
  abbrev sense : ℕ → Sense
  sense = sense_in senses

  with_elim : (o : Option Ctype) (rest : List Ctype) → with_type o rest ≡ elim o [ None ↦ rest | Some t ↦ t ∷ rest ]
  with_elim None rest = refl
  with_elim (Some t) rest = refl

  types_all : (ds : List Declared) → types_at s sense (leaves_of ds) ≡ types_of s sense ds
  types_all [] = refl
  types_all (d ∷ rest) =
      with_elim (own_type s sense d.node) (types_at s sense (leaves_of rest))
      ∙ ap (λ (ts : List Ctype). elim (own_type s sense d.node) [ None ↦ ts | Some t ↦ t ∷ ts ]) (types_all rest)

  -- an array without a length gets one element
  one_is : (t : Ctype) → with_length (Some 1) t ≡ with_one s senses t
  one_is VoidType = refl
  one_is BoolType = refl
  one_is (IntegerType size rank signed) = refl
  one_is FloatingType = refl
  one_is VaListType = refl
  one_is (PointerTo to) = refl
  one_is (ArrayOf of None) = refl
  one_is (ArrayOf of (Some n)) = refl
  one_is (FunctionFrom r ps f) = refl
  one_is (StructureOf tag) = refl
  one_is (UnionOf tag) = refl

  ones_are : (o : Option Ctype) → option_map (with_length (Some 1)) o ≡ option_map (with_one s senses) o
  ones_are None = refl
  ones_are (Some t) = ap (λ (x : Ctype). Some x) (one_is t)

  abbrev type_by : ℕ → Linkage → Option Ctype
  type_by leaf l = elim l as (λ q. Option Ctype) [ Internal ↦ internal_type s senses leaf | _ ↦ own_type s sense leaf ]

  pub typed_internal : (leaf : ℕ) (at : ℕ) (list : List ℕ) → is_internal s sense leaf ≡ true → at ≡ representative s senses leaf → list ≡ leaves_of (of_internal s senses leaf)
      → type_of_internal s sense at list ≡ entity_type s senses leaf
  typed_internal leaf at list e place those =
      let ds = of_internal s senses leaf in
      let here = representative s senses leaf in
      let all : option_map (with_length (Some 1)) (all_together None (types_at s sense (leaves_of ds))) ≡ option_map (with_one s senses) (all_together None (types_of s sense ds)) =
      ap (λ (ts : List Ctype). option_map (with_length (Some 1)) (all_together None ts)) (types_all ds) ∙ ones_are (all_together None (types_of s sense ds)) in
      ap (λ (n : ℕ). type_of_internal s sense n list) place
      ∙ (ap (type_of_internal s sense here) those
      ∙ (ap (λ (o : Option Ctype). cond (is_defined s sense here) (own_type s sense here) o) all ∙ sym (of_internal_name s sense leaf (type_by leaf) e)))

  pub typed_own : (leaf : ℕ) → is_internal s sense leaf ≡ false → own_type s sense leaf ≡ entity_type s senses leaf
  typed_own leaf e = sym (of_other_name s sense leaf (type_by leaf) (own_type s sense leaf) refl refl e)

  -- storage
  abbrev stored : Storage → Bool → Storage
  stored storage function = elim storage as (λ q. Storage) [ DeclaredStorage ↦ cond function DeclaredStorage Static | other ↦ other ]

  stored_is : (storage : Storage) (function : Bool) → internal_storage storage function ≡ stored storage function
  stored_is Static function = refl
  stored_is Automatic function = refl
  stored_is FunctionBody function = refl
  stored_is ParameterStorage function = refl
  stored_is DeclaredStorage function = refl

  abbrev storage_by : ℕ → Linkage → Storage
  storage_by leaf l = elim l as (λ q. Storage) [ Internal ↦ stored (storage_of s sense (representative s senses leaf)) (declares_function s sense leaf) | _ ↦ storage_of s sense leaf ]

  pub stored_internal : (leaf at : ℕ) (storage : Storage) (function : Bool) → is_internal s sense leaf ≡ true → at ≡ representative s senses leaf
      → storage ≡ storage_of s sense at → function ≡ declares_function s sense leaf → internal_storage storage function ≡ storage_at s senses leaf
  stored_internal leaf at storage function e place is so =
      stored_is storage function
      ∙ (ap (λ (x : Storage). stored x function) (is ∙ ap (storage_of s sense) place)
      ∙ (ap (stored (storage_of s sense (representative s senses leaf))) so ∙ sym (of_internal_name s sense leaf (storage_by leaf) e)))

  pub stored_own : (leaf : ℕ) → is_internal s sense leaf ≡ false → storage_of s sense leaf ≡ storage_at s senses leaf
  stored_own leaf e = sym (of_other_name s sense leaf (storage_by leaf) (storage_of s sense leaf) refl refl e)
