-- The parts of what is declared.
use Rattle.std.proofs.Common.{◌≡◌, ℕ, Bool, true, false, cond, List, [], Option, Some, None, option_map, option_and_then, refl, sym, ap, ◌∙◌}
use Rattle.pta_base.specs.declared.place.Place.{Place}
use Rattle.c_types.specs.Trees.{Ctype}
use Rattle.core_tree.specs.declared.node.Linkage.{Linkage}
use Rattle.core_tree.specs.declared.node.Linkage.TheVariants.{Local}
use Rattle.core_tree.specs.declared.node.Storage.{Storage}
use Rattle.c_consts.specs.Core.{Core}
use Rattle.c_senses.specs.Tree.{Source, place_at}
use Rattle.c_senses.specs.Sense.{Sense, Nothing, IsCore, IsType, IsSpecified, IsDeclarator, IsDerivation, IsParameter, IsMembers, IsValue, IsRun, IsInitial, sense_in}
use Rattle.c_senses.specs.Entities.{is_defined, initialiser_for, entity_of, function_around}
use Rattle.c_senses.specs.Right.{core_of_sense, block_for, body_at, declares_entity, entity_type, declared_as, declared_name, literal_storage}
use Rattle.c_senses.specs.Right as right
use Rattle.unit_finish.specs.declared.unit_parts.declared.Declared.{Declared}
use Rattle.unit_finish.specs.declared.unit_parts.literals.LiteralAt.{LiteralAt}
use Rattle.unit_finish.specs.Walked.{literal_entry}
use Rattle.unit_names.specs.Bodies.{core_of, place_of_body}

same_through : {A B : Type 0} (f g : A → Option B) → ((x : A) → f x ≡ g x) → (o : Option A) → option_and_then f o ≡ option_and_then g o
same_through f g h None = refl
same_through f g h (Some x) = h x

module _ (s : Source) (senses : List Sense) where
  abbrev sense : ℕ → Sense
  sense = sense_in senses

  core_is : (x : Sense) → core_of x ≡ core_of_sense s senses x
  core_is Nothing = refl
  core_is (IsCore a) = refl
  core_is (IsType a) = refl
  core_is (IsSpecified a) = refl
  core_is (IsDeclarator a b) = refl
  core_is (IsDerivation a) = refl
  core_is (IsParameter a) = refl
  core_is (IsMembers a) = refl
  core_is (IsValue a) = refl
  core_is (IsRun a) = refl
  core_is (IsInitial a b) = refl

  abbrev made_at : ℕ → Option Core
  made_at i = core_of_sense s senses (sense i)

  -- a body is what is made for its node
  pub body_is : (leaf : ℕ) → option_and_then (λ i. core_of (sense i)) (place_of_body s senses leaf) ≡ body_at s senses leaf
  body_is leaf = same_through (λ i. core_of (sense i)) made_at (λ i. core_is (sense i)) (place_of_body s senses leaf) ∙ by_test (is_defined s sense leaf)
    where
      by_test : (b : Bool) → option_and_then made_at (cond b (block_for s senses leaf) (initialiser_for s sense leaf)) ≡ cond b (option_and_then made_at (block_for s senses leaf)) (option_and_then made_at (initialiser_for s sense leaf))
      by_test true = refl
      by_test false = refl

  -- what a leaf declares
  pub named_none : (leaf : ℕ) → declares_entity s senses leaf ≡ false → ◌≡◌ {A = Option right.Declared} None (declared_name s senses leaf)
  named_none leaf e = sym (ap (λ (b : Bool). cond b (option_map (declared_as s senses leaf) (entity_type s senses leaf)) None) e)

  pub named_by : (leaf : ℕ) (o : Option Ctype) → declares_entity s senses leaf ≡ true → o ≡ entity_type s senses leaf → option_map (declared_as s senses leaf) o ≡ declared_name s senses leaf
  named_by leaf o e types =
      ap (λ (x : Option Ctype). option_map (declared_as s senses leaf) x) types
      ∙ sym (ap (λ (b : Bool). cond b (option_map (declared_as s senses leaf) (entity_type s senses leaf)) None) e)

-- two that are declared with the same parts
pub same_parts : (name name' : List ℕ) (place place' : Place) (type : Ctype) (linkage linkage' : Linkage) (storage storage' : Storage) (owner owner' : Option ℕ) (body body' : Option Core)
    → name ≡ name' → place ≡ place' → linkage ≡ linkage' → storage ≡ storage' → owner ≡ owner' → body ≡ body'
    → ◌≡◌ {A = right.Declared} (record { name = name; place = place; type = type; linkage = linkage; storage = storage; owner = owner; body = body })
    (record { name = name'; place = place'; type = type; linkage = linkage'; storage = storage'; owner = owner'; body = body' })
same_parts name name' place place' type linkage linkage' storage storage' owner owner' body body' e0 e1 e2 e3 e4 e5 =
    let R : List ℕ → Place → Linkage → Storage → Option ℕ → Option Core → right.Declared = λ n p l st o b. record { name = n; place = p; type = type; linkage = l; storage = st; owner = o; body = b } in
    ap (λ (x : List ℕ). R x place linkage storage owner body) e0
    ∙ (ap (λ (x : Place). R name' x linkage storage owner body) e1
    ∙ (ap (λ (x : Linkage). R name' place' x storage owner body) e2
    ∙ (ap (λ (x : Storage). R name' place' linkage' x owner body) e3
    ∙ (ap (λ (x : Option ℕ). R name' place' linkage' storage' x body) e4 ∙ ap (λ (x : Option Core). R name' place' linkage' storage' owner' x) e5))))

-- what is declared at a compound literal
pub same_entry : (s : Source) (senses : List Sense) (l : LiteralAt) (name : List ℕ) (place : Place) (storage : Storage) (owner : Option ℕ) → name ≡ [] → place ≡ place_at s l.leaf
    → storage ≡ literal_storage s senses l.leaf → owner ≡ option_map (entity_of s (sense_in senses)) (function_around s (sense_in senses) l.leaf)
    → ◌≡◌ {A = Declared} (record { leaf = l.leaf; name = name; place = place; ty = l.ty; linkage = Local; storage = storage; owner = owner; body = l.body }) (literal_entry s senses l)
same_entry s senses l name place storage owner e0 e1 e2 e3 =
    let R : List ℕ → Place → Storage → Option ℕ → Declared = λ n p st o. record { leaf = l.leaf; name = n; place = p; ty = l.ty; linkage = Local; storage = st; owner = o; body = l.body } in
    ap (λ (x : List ℕ). R x place storage owner) e0
    ∙ (ap (λ (x : Place). R [] x storage owner) e1
    ∙ (ap (λ (x : Storage). R [] (place_at s l.leaf) x owner) e2 ∙ ap (λ (x : Option ℕ). R [] (place_at s l.leaf) (literal_storage s senses l.leaf) x) e3))
