-- What names mean has a proper type, where the senses of their declarations have.
use Rattle.std.proofs.Common.{arith, T, ◌≡◌, ◌≤◌, ℕ, Bool, true, false, List, [], ◌∷◌, Option, Some, None, subst}
use Rattle.std.specs.Prelude.{⊤, ℤ, pos, negsuc, neg_ℤ, ◌+ℤ◌, nat_le, nat_lt, int_le, ◌&&◌, option_map, option_and_then, if◌then◌else◌}
use Rattle.c_types.specs.declared.term.Form.TheVariants.{Fixed, Variadic, Unspecified}
use Rattle.c_types.specs.Trees.{Ctype, ArrayOf, FunctionFrom}
use Rattle.c_conversions.specs.passed.core_tree.Rows.{int}
use Rattle.c_conversions.specs.passed.core_tree.Typed.{Holds}
use Rattle.c_grammar.specs.Productions.{p_enumerator, p_conditional}
use Rattle.c_senses.specs.PassedOn.{Declared as Declaration}
use Rattle.c_senses.specs.Tree.{Source, is_a, child_of, parent_of, paired}
use Rattle.c_senses.specs.Names.{typing_declarations, ordinary_at}
use Rattle.c_senses.specs.World.{World, Meaning, Object, Function, TypeName, Tag, Value}
use Rattle.c_senses.specs.Declarators.{derived, outermost_of, specs_of}
use Rattle.c_senses.specs.Entities.{agree, fuller, together, all_together, with_length, specified, specified_of, parameter_type, derived_type, own_type, is_parameter, declaration_of, length_given_by, initialiser_for, types_of, type_behind, object_or_function, declared_meaning, enumerated, meaning_of, meaning_at, is_typedef, entity_of, named_by, function_around, result_of}
use Rattle.c_senses.specs.Statements.{returned_type}
use Rattle.c_senses.specs.Sense.{Sense, IsSpecified, IsDeclarator, IsParameter, IsValue, Specified}
use Rattle.parsed_tree_laws.specs.sense_laws.Sound.{IsProper, ProperMeaning, SoundMeaning, MeaningFits, SoundWorld, ProperWorld, Gives}
use Rattle.parsed_tree_laws.specs.sense_laws.Asked.{PrimaryFits}
use Rattle.parsed_tree_laws.specs.sense_laws.Senses.{SoundSense, IsIntSense}
use Rattle.std.proofs.lemmas.Bool.{lt-ltb, leb-true}
use Rattle.pta_base.specs.declared.kind.Kind.TheVariants.{Operand}
use Rattle.c_senses.specs.Given.{Fits}
use Rattle.c_senses.specs.Constants.{constant_in}
use Rattle.c_senses.specs.Tags.{is_int, value_before, before_enumerator, enumerator_of, enumerator_named, enumerator_row}
use Rattle.parsed_tree_laws.proofs.sense_laws.Giving.{then_gives, if_given, if_holds, and_left, and_right}
use Rattle.parsed_tree_laws.proofs.sense_laws.Types.{derived_proper, anything}

abbrev pub SomeProper : Option Ctype → Type 0
SomeProper None = ⊤
SomeProper (Some t) = IsProper t

abbrev pub SomeSpecified : Option Specified → Type 0
SomeSpecified None = ⊤
SomeSpecified (Some x) = IsProper x.type

abbrev AllProper : List Ctype → Type 0
AllProper [] = ⊤
AllProper (t ∷ rest) = IsProper t × AllProper rest

abbrev SomeMeaning : Option Meaning → Type 0
SomeMeaning None = ⊤
SomeMeaning (Some m) = ProperMeaning m

pub length_proper : (n : Option ℕ) (t : Ctype) → IsProper t → IsProper (with_length n t)
length_proper (Some n) (ArrayOf of None) h = h
length_proper n t h = h

mapped_proper : (n : Option ℕ) (o : Option Ctype) → SomeProper o → SomeProper (option_map (with_length n) o)
mapped_proper n None h = tt
mapped_proper n (Some t) h = length_proper n t h

fuller_proper : (a b : Ctype) → IsProper a → IsProper b → IsProper (fuller a b)
fuller_proper (FunctionFrom r ps Fixed) (FunctionFrom q qs Unspecified) h k = h
fuller_proper (FunctionFrom r ps Variadic) (FunctionFrom q qs Unspecified) h k = h
fuller_proper (ArrayOf a (Some n)) (ArrayOf b None) h k = h
fuller_proper a b h k = k

together_proper : (a b : Ctype) → IsProper a → IsProper b → IsProper (together a b)
together_proper a b h k = if_holds IsProper (agree a b) (fuller a b) b (λ e. fuller_proper a b h k) (λ e. k)

all_together_proper : (o : Option Ctype) (l : List Ctype) → SomeProper o → AllProper l → SomeProper (all_together o l)
all_together_proper o [] h k = h
all_together_proper None (t ∷ rest) h k = all_together_proper (Some t) rest k.0 k.1
all_together_proper (Some a) (t ∷ rest) h k = all_together_proper (Some (together a t)) rest (together_proper a t h k.0) k.1

function_proper : (s : Source) (sense : ℕ → Sense) (e : ℕ) (t : Ctype) → IsProper t → ProperMeaning (object_or_function s sense e t)
function_proper s sense e (FunctionFrom r ps f) h = (h, tt)
function_proper s sense e t h = (h, λ k. k)

module _ (w : World) (entities : ℕ → Option Ctype) (s : Source) (sense : ℕ → Sense) (sound : (i : ℕ) → SoundSense w entities (sense i)) where
  parameter_proper : (o : Option ℕ) → SomeProper (parameter_type s sense o)
  parameter_proper None = tt
  parameter_proper (Some p) = by_sense (sense p) (sound p)
    where
      by_sense : (x : Sense) → SoundSense w entities x → SomeProper (elim x as (λ _. Option Ctype) [ IsParameter y ↦ Some y.type | _ ↦ None ])
      by_sense (IsParameter y) h = h
      by_sense x h = tt

  pub specified_proper : (o : Option ℕ) → SomeSpecified (specified s sense o)
  specified_proper None = tt
  specified_proper (Some i) = by_sense (sense i) (sound i)
    where
      by_sense : (x : Sense) → SoundSense w entities x → SomeSpecified (elim x as (λ _. Option Specified) [ IsSpecified y ↦ Some y | _ ↦ None ])
      by_sense (IsSpecified y) h = h
      by_sense x h = tt

  pub derived_is_proper : (x : Option Specified) (d : Option ℕ) → SomeSpecified x → SomeProper (derived_type s sense x d)
  derived_is_proper None d h = tt
  derived_is_proper (Some x) None h = tt
  derived_is_proper (Some x) (Some d) h = by_sense (sense d) (sound d)
    where
      by_sense : (y : Sense) → SoundSense w entities y → SomeProper (elim y as (λ _. Option Ctype) [ IsDeclarator name ds ↦ Some (derived ds x.type) | _ ↦ None ])
      by_sense (IsDeclarator name ds) k = derived_proper ds x.type k h
      by_sense y k = tt

  pub own_proper : (leaf : ℕ) → SomeProper (own_type s sense leaf)
  own_proper leaf =
      let made : Option Ctype = option_map (with_length (length_given_by s sense (initialiser_for s sense leaf))) (derived_type s sense (specified_of s sense leaf) (outermost_of s leaf)) in
      if_holds SomeProper (is_parameter s sense leaf) (parameter_type s sense (declaration_of s sense leaf)) made (λ e. parameter_proper (declaration_of s sense leaf))
      (λ e. mapped_proper (length_given_by s sense (initialiser_for s sense leaf)) (derived_type s sense (specified_of s sense leaf) (outermost_of s leaf))
      (derived_is_proper (specified_of s sense leaf) (outermost_of s leaf) (specified_proper (option_and_then (specs_of s) (outermost_of s leaf)))))

  types_are_proper : (ds : List Declaration) → AllProper (types_of s sense ds)
  types_are_proper [] = tt
  types_are_proper (d ∷ rest) = by_type (own_type s sense d.node) (own_proper d.node) (types_of s sense rest) (types_are_proper rest)
    where
      by_type : (o : Option Ctype) → SomeProper o → (l : List Ctype) → AllProper l → AllProper (elim o as (λ _. List Ctype) [ None ↦ l | Some t ↦ t ∷ l ])
      by_type None h l k = k
      by_type (Some t) h l k = (h, k)

  behind_proper : (leaf : ℕ) → SomeProper (type_behind s sense leaf)
  behind_proper leaf = all_together_proper None (types_of s sense (typing_declarations s (ordinary_at s leaf))) tt (types_are_proper (typing_declarations s (ordinary_at s leaf)))

  named_type : (o : Option Ctype) → SomeProper o → SomeMeaning (option_map TypeName o)
  named_type None h = tt
  named_type (Some t) h = h

  named_object : (e : ℕ) (o : Option Ctype) → SomeProper o → SomeMeaning (option_map (object_or_function s sense e) o)
  named_object e None h = tt
  named_object e (Some t) h = function_proper s sense e t h

  declared_proper : (leaf : ℕ) → SomeMeaning (declared_meaning s sense leaf)
  declared_proper leaf =
      if_holds SomeMeaning (is_typedef s sense leaf) _ _ (λ e. named_type (own_type s sense leaf) (own_proper leaf))
      (λ e. named_object (entity_of s sense (named_by s sense leaf)) (type_behind s sense leaf) (behind_proper leaf))

  enumerated_proper : (i : ℕ) → IsIntSense (sense i) → SomeMeaning (enumerated s sense i)
  enumerated_proper i int = by_sense (sense i) int
    where
      by_sense : (x : Sense) → IsIntSense x → SomeMeaning (elim x as (λ _. Option Meaning) [ IsValue n ↦ Some (Value n) | _ ↦ None ])
      by_sense (IsValue n) h = h
      by_sense x h = tt

  abbrev AreInts : Type 0
  AreInts = (i : ℕ) → is_a s p_enumerator i ≡ true → IsIntSense (sense i)

  of_proper : AreInts → (leaf : ℕ) → SomeMeaning (meaning_of s sense leaf)
  of_proper ints leaf = by_parent (parent_of s leaf)
    where
      by_parent : (o : Option ℕ) → SomeMeaning (elim o as (λ _. Option Meaning) [ None ↦ None | Some p ↦ if is_a s p_enumerator p then enumerated s sense p else declared_meaning s sense leaf ])
      by_parent None = tt
      by_parent (Some p) = if_holds SomeMeaning (is_a s p_enumerator p) _ _ (λ e. enumerated_proper p (ints p e)) (λ e. declared_proper leaf)

  at_proper : AreInts → (i : ℕ) → SomeMeaning (meaning_at s sense i)
  at_proper ints i = by_use (paired s.uses i)
    where
      by_use : (o : Option ℕ) → SomeMeaning (option_and_then (meaning_of s sense) o)
      by_use None = tt
      by_use (Some leaf) = of_proper ints leaf

  -- a name means something proper
  pub meaning_proper : AreInts → (i : ℕ) (m : Meaning) → meaning_at s sense i ≡ Some m → ProperMeaning m
  meaning_proper ints i m e = subst SomeMeaning e (at_proper ints i)

  result_proper : (t : Ctype) → IsProper t → IsProper (result_of w s sense t)
  result_proper (FunctionFrom r ps f) h = h.0
  result_proper t h = h

  pub returned_proper : (i : ℕ) (t : Ctype) → returned_type w s sense i ≡ Some t → IsProper t
  returned_proper i t e = subst SomeProper e (by_function (function_around s sense i))
    where
      by_type : (o : Option Ctype) → SomeProper o → SomeProper (elim o as (λ _. Option Ctype) [ None ↦ None | Some x ↦ Some (result_of w s sense x) ])
      by_type None h = tt
      by_type (Some x) h = result_proper x h

      by_function : (o : Option ℕ) → SomeProper (elim (option_and_then (own_type s sense) o) as (λ _. Option Ctype) [ None ↦ None | Some x ↦ Some (result_of w s sense x) ])
      by_function None = tt
      by_function (Some leaf) = by_type (own_type s sense leaf) (own_proper leaf)

true_is : (b : Bool) → b ≡ true → T b
true_is true e = tt
true_is false e = cc

below_half : (k : ℕ) → nat_le k 2147483647 ≡ true → nat_lt k 2147483648 ≡ true
below_half k e = lt-ltb k 2147483648 (let le : k ≤ 2147483647 = leb-true k 2147483647 e in omega (arith, le))

-- what is in the range of int is held by it
pub int_holds : (n : ℤ) → (int_le (neg_ℤ (pos 2147483648)) n && int_le n (pos 2147483647)) ≡ true → Holds int n
int_holds (pos k) h = (record { le = tt }, record { lt = true_is (nat_lt k 2147483648) (below_half k (and_right (int_le (neg_ℤ (pos 2147483648)) (pos k)) (int_le (pos k) (pos 2147483647)) h)) })
int_holds (negsuc k) h = (record { le = true_is (nat_le k 2147483647) (and_left (int_le (neg_ℤ (pos 2147483648)) (negsuc k)) (int_le (negsuc k) (pos 2147483647)) h) }, record { lt = tt })

-- 6.7.2.2: an enumerator's value is an int's
pub enumerator_int : (w : World) (s : Source) (sense : ℕ → Sense) (at : ℕ) (children : List ℕ) → Gives IsIntSense (enumerator_row w s sense at children)
enumerator_int w s sense at [] = tt
enumerator_int w s sense at (leaf ∷ rest) = by_expression (child_of s p_conditional at)
  where
    by_value : (n : ℤ) → Gives IsIntSense (enumerator_of w s sense at leaf n)
    by_value n = if_given IsIntSense (is_int w s sense n) Operand leaf (Fits (IsValue n)) (λ e. int_holds n e)

    by_expression : (o : Option ℕ) → Gives IsIntSense (enumerator_named w s sense at leaf o)
    by_expression None = by_value (value_before w s sense (before_enumerator w s sense at) +ℤ pos 1)
    by_expression (Some e) = then_gives (λ n. ⊤) IsIntSense (constant_in w s at (sense e)) (enumerator_of w s sense at leaf) (anything (constant_in w s at (sense e))) (λ n k. by_value n)

-- a sound world is proper
pub proper_world : (w : World) (entities : ℕ → Option Ctype) → SoundWorld w entities → ProperWorld w
proper_world w entities world = record { parts = world.parts; names = λ leaf m e. proper m (world.names leaf m e); aligns = world.aligns }
  where
    proper : (m : Meaning) → SoundMeaning entities m → ProperMeaning m
    proper (Object e t) h = (h.0, h.2)
    proper (Function e t) h = (h.0, h.2)
    proper (TypeName t) h = h
    proper (Tag tag) h = tt
    proper (Value n) h = h

pub meanings_fit : (w : World) (entities : ℕ → Option Ctype) → SoundWorld w entities → (children : List ℕ) → PrimaryFits w entities children
meanings_fit w entities world [] = (tt, world.further)
meanings_fit w entities world (first ∷ rest) = (λ m e. fits m (world.names first m e), world.further)
  where
    fits : (m : Meaning) → SoundMeaning entities m → MeaningFits entities m
    fits (Object e t) h = h.1
    fits (Function e t) h = h.1
    fits (TypeName t) h = tt
    fits (Tag tag) h = tt
    fits (Value n) h = tt
