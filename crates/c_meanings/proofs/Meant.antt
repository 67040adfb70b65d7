-- What a name means by the own type of a declaration.
use Rattle.std.proofs.Common.{◌≡◌, ℕ, Bool, true, false, ◌&&◌, not, cond, Option, Some, None, is_some, List, [], ◌∷◌, length, get_or, option_map, refl, sym, ap, ◌∙◌, arith}
use Rattle.c_types.specs.Trees.{Ctype}
use Rattle.c_scope.specs.declared.kinds.Declared.{Declared}
use Rattle.c_senses.specs.Tree.{Source}
use Rattle.c_senses.specs.Sense.{Sense}
use Rattle.c_senses.specs.World.{TypeName}
use Rattle.c_senses.specs.Entities.{declared_meaning, is_typedef, own_type, type_behind, named_by, has_earlier_length, entity_of, object_or_function, all_together, types_of, is_open, initialiser_for, last_of}
use Rattle.c_senses.specs.Names.{linked_before, ordinary_at}
use Rattle.c_entities.specs.remembered_names.Remembering.{named}

-- a list of one
pub single : (ds : List Declared) (z : Declared) → length ds ≡ 1 → ds ≡ get_or ds 0 z ∷ []
single [] z e = absurd (cc)
single (d ∷ []) z e = refl
single (d ∷ x ∷ ds) z e = absurd (omega (e, arith))

and_not : (a b : Bool) → (a && (b && not b)) ≡ false
and_not true true = refl
and_not true false = refl
and_not false b = refl

module _ (s : Source) (F : ℕ → Sense) where
  alone : (o : Option Ctype) → all_together None (elim o as (λ p. List Ctype) [ None ↦ [] | Some t ↦ t ∷ [] ]) ≡ o
  alone None = refl
  alone (Some t) = refl

  pub type_of_one : (d : Declared) → all_together None (types_of s F (d ∷ [])) ≡ own_type s F d.node
  type_of_one d = alone (own_type s F d.node)

  map_type : (e : ℕ) (o : Option Ctype) → option_map (named s F true e) o ≡ option_map TypeName o
  map_type e None = refl
  map_type e (Some t) = refl

  map_other : (e : ℕ) (o : Option Ctype) → option_map (named s F false e) o ≡ option_map (object_or_function s F e) o
  map_other e None = refl
  map_other e (Some t) = refl

  pub meant_type : (leaf : ℕ) (b : Bool) → b ≡ is_typedef s F leaf → b ≡ true → declared_meaning s F leaf ≡ option_map (named s F b (entity_of s F leaf)) (own_type s F leaf)
  meant_type leaf b e t =
      let e1 = entity_of s F leaf in
      ap (λ (x : Bool). cond x (option_map TypeName (own_type s F leaf)) (option_map (object_or_function s F (entity_of s F (named_by s F leaf))) (type_behind s F leaf))) (sym e ∙ t)
      ∙ (sym (map_type e1 (own_type s F leaf)) ∙ ap (λ (x : Bool). option_map (named s F x e1) (own_type s F leaf)) (sym t))

  pub meant_other : (leaf by : ℕ) (b : Bool) → b ≡ is_typedef s F leaf → b ≡ false → type_behind s F leaf ≡ own_type s F by → named_by s F leaf ≡ leaf
      → declared_meaning s F leaf ≡ option_map (named s F b (entity_of s F leaf)) (own_type s F by)
  meant_other leaf by b e t same name =
      let e1 = entity_of s F leaf in
      ap (λ (x : Bool). cond x (option_map TypeName (own_type s F leaf)) (option_map (object_or_function s F (entity_of s F (named_by s F leaf))) (type_behind s F leaf))) (sym e ∙ t)
      ∙ (ap (λ (n : ℕ). option_map (object_or_function s F (entity_of s F n)) (type_behind s F leaf)) name
      ∙ (ap (option_map (object_or_function s F e1)) same
      ∙ (sym (map_other e1 (own_type s F by)) ∙ ap (λ (x : Bool). option_map (named s F x e1) (own_type s F by)) (sym t))))

  -- a name is known by its own declaration
  named_if : (leaf : ℕ) → has_earlier_length s F leaf ≡ false → named_by s F leaf ≡ leaf
  named_if leaf e = ap (λ (b : Bool). cond b (last_of s F leaf (linked_before s (ordinary_at s leaf))) leaf) e

  pub named_plain : (leaf : ℕ) → is_some (initialiser_for s F leaf) ≡ false → named_by s F leaf ≡ leaf
  named_plain leaf e = named_if leaf (ap (λ (b : Bool). b && (is_open s F (own_type s F leaf) && not (is_open s F (type_behind s F leaf)))) e)

  pub named_own : (leaf : ℕ) → type_behind s F leaf ≡ own_type s F leaf → named_by s F leaf ≡ leaf
  named_own leaf e =
      named_if leaf
      (ap (λ (o : Option Ctype). is_some (initialiser_for s F leaf) && (is_open s F (own_type s F leaf) && not (is_open s F o))) e ∙ and_not (is_some (initialiser_for s F leaf)) (is_open s F (own_type s F leaf)))
