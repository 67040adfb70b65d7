-- What is asked of a value where it is made holds at the end, since worlds grow.
use Rattle.std.proofs.Common.{◌≡◌, ℕ, ◌≤◌, arith, Bool, ◌||◌, true, false, List, take, length, Option, Some, None, refl, sym, ap, ◌∙◌}
use Rattle.std.specs.Prelude.{is_some}
use Rattle.c_types.specs.Trees.{Ctype, VoidType, BoolType, IntegerType, FloatingType, VaListType, PointerTo, ArrayOf, FunctionFrom, StructureOf, UnionOf}
use Rattle.c_types.specs.Layout.{Extent}
use Rattle.c_types.specs.Table.{size_below}
use Rattle.c_inits.specs.Made.{Part}
use Rattle.core_nodes.specs.passed.c_senses.Tree.{Source}
use Rattle.core_nodes.specs.passed.c_senses.World.{World, Meaning, Object, Function, TypeName, Tag, Value, extent, has_size}
use Rattle.core_nodes.specs.passed.c_senses.Conversions.{OperandSort, Whole, Address, Aggregate, Other, operand_of, is_fetched, is_list}
use Rattle.core_nodes.specs.passed.c_senses.Objects.{is_returned}
use Rattle.core_nodes.specs.passed.c_senses.Rows.{world_at}
use Rattle.core_nodes.specs.passed.c_senses.Sense.{Sense, sense_in}
use Rattle.parsed_tree_laws.specs.passed.sense_laws.Laws.{Grows}
use Rattle.core_node_laws.proofs.fetched_nodes.Growing.{grows_to}
use Rattle.core_node_laws.specs.fetched_nodes.Holding.{MeaningGives, RowGives, Tests}
use Rattle.core_node_laws.specs.fetched_nodes.Tested.{IsTested, ValuesTested}
use Rattle.core_node_laws.proofs.fetched_nodes.All.{all_kept}

module _ (old new : World) (grows : Grows old new) where
  members_stay : (tag : ℕ) (o : Option (List Part)) → old.members tag ≡ o → is_some (old.members tag) ≡ true → is_some (new.members tag) ≡ true
  members_stay tag (Some parts) e h = ap is_some (grows.members tag parts e)
  members_stay tag None e h = let never : false ≡ true = sym (ap is_some e) ∙ h in cc

  pub fetched_stays : (x : OperandSort) → is_fetched old x ≡ true → is_fetched new x ≡ true
  fetched_stays Whole h = refl
  fetched_stays (Address to) h = refl
  fetched_stays (Aggregate tag) h = members_stay tag (old.members tag) refl h
  fetched_stays Other h = cc

  size_stays : (t : Ctype) (o : Option Extent) → extent old t ≡ o → has_size old t ≡ true → has_size new t ≡ true
  size_stays t (Some x) e h = ap (λ (o : Option Extent). is_some (size_below o)) (grows.extents t x e ∙ sym e) ∙ h
  size_stays t None e h = let never : false ≡ true = sym (ap (λ (o : Option Extent). is_some (size_below o)) e) ∙ h in cc

  pub returned_stays : (t : Ctype) → is_returned old t ≡ true → is_returned new t ≡ true
  returned_stays VoidType h = refl
  returned_stays BoolType h = size_stays BoolType (extent old BoolType) refl h
  returned_stays (IntegerType size rank signed) h = size_stays (IntegerType size rank signed) (extent old (IntegerType size rank signed)) refl h
  returned_stays FloatingType h = size_stays FloatingType (extent old FloatingType) refl h
  returned_stays VaListType h = size_stays VaListType (extent old VaListType) refl h
  returned_stays (PointerTo to) h = size_stays (PointerTo to) (extent old (PointerTo to)) refl h
  returned_stays (ArrayOf of n) h = size_stays (ArrayOf of n) (extent old (ArrayOf of n)) refl h
  returned_stays (FunctionFrom r ps form) h = size_stays (FunctionFrom r ps form) (extent old (FunctionFrom r ps form)) refl h
  returned_stays (StructureOf tag) h = size_stays (StructureOf tag) (extent old (StructureOf tag)) refl h
  returned_stays (UnionOf tag) h = size_stays (UnionOf tag) (extent old (UnionOf tag)) refl h

  list_or_fetched : (t : Ctype) (l : Bool) → is_fetched old (operand_of t) || l ≡ true → is_fetched new (operand_of t) || l ≡ true
  list_or_fetched t true h = by (is_fetched new (operand_of t))
    where
      by : (b : Bool) → b || true ≡ true
      by true = refl
      by false = refl
  list_or_fetched t false h = by (is_fetched old (operand_of t)) (is_fetched new (operand_of t)) (fetched_stays (operand_of t)) h
    where
      by : (a b : Bool) → (a ≡ true → b ≡ true) → a || false ≡ true → b || false ≡ true
      by true b k e = ap (λ (x : Bool). x || false) (k refl)
      by false b k e = cc

  tested : Tests (IsTested new) old
  tested = record {
    fetched = λ place t under h. list_or_fetched t (is_list t) h;
    returned = λ place t under h. returned_stays t h;
  }

  meaning_gives : (o : Option Meaning) → MeaningGives (IsTested new) o
  meaning_gives None = tt
  meaning_gives (Some (Object e t)) = λ place. tt
  meaning_gives (Some (Function e t)) = λ place. tt
  meaning_gives (Some (TypeName t)) = tt
  meaning_gives (Some (Tag tag)) = tt
  meaning_gives (Some (Value n)) = tt

  pub row_gives : (s : Source) (sense : ℕ → Sense) → RowGives (IsTested new) old s sense
  row_gives s sense = record {
    tests = tested;
    names = λ leaf. meaning_gives (old.meaning leaf);
    objects = λ leaf at paths values fixed. tt;
    initials = λ at p paths values over fixed. tt;
    literals = λ p type initial over. tt;
  }

pub values_tested : ValuesTested
values_tested s senses are first i =
    all_kept (IsTested (world_at s senses (length senses))) s senses are
    (λ n lt. row_gives (world_at s (take n senses) n) (world_at s senses (length senses)) (grows_to s first senses n (let le : n ≤ length senses = omega (arith, lt) in le)) s (sense_in (take n senses))) i
