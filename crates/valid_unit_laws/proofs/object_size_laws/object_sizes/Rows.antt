-- What the row of an outermost declarator asks of an object's type.
use Rattle.std.proofs.Common.{◌≡◌, ℕ, Bool, true, false, ◌&&◌, ◌||◌, not, cond, Option, Some, None, refl, sym, ap, ◌∙◌}
use Rattle.std.specs.Prelude.{is_some, if◌then◌else◌}
use Rattle.pta_base.specs.declared.kind.Kind.TheVariants.{Operand}
use Rattle.c_types.specs.Trees.{Ctype}
use Rattle.c_grammar.specs.Productions.{p_field, p_parameter}
use Rattle.c_grammar.specs.Words.{word_extern}
use Rattle.c_senses.specs.Tree.{Source, is_a, parent_of}
use Rattle.c_senses.specs.World.{World, has_size}
use Rattle.c_senses.specs.Given.{Given, Fits, given_if}
use Rattle.c_senses.specs.Entities.{initialiser_of, is_defined, is_typedef, is_linked, declares_function, has_storage, words_go, is_same_again, has_one_linkage, internal_fits, is_name_complete, definition_row, parameter_named, named_row, by_place, element_has_size, will_have_size, may_stay_open, is_object_complete}
use Rattle.c_senses.specs.Sense.{Sense}

module _ (w : World) (s : Source) (sense : ℕ → Sense) (at : ℕ) where
  named_told : (r : ℕ) (t : Ctype) (g : Given Sense) (x : Sense) → named_row w s sense at r t g ≡ Fits x → is_name_complete w s sense (is_some (initialiser_of s sense at)) t r ≡ true
  named_told r t g x e =
      by (words_go w s sense (is_some (initialiser_of s sense at)) r) (is_same_again w s sense t r) (has_one_linkage w s sense r) (internal_fits w s sense (is_some (initialiser_of s sense at) || is_defined s sense r) t r)
      (is_name_complete w s sense (is_some (initialiser_of s sense at)) t r) e
    where
      by : (a b c d f : Bool) → given_if a Operand r (given_if b Operand r (given_if c Operand r (given_if d Operand r (given_if f Operand r (definition_row w s sense t r g))))) ≡ Fits x → f ≡ true
      by false b c d f e = cc
      by true false c d f e = cc
      by true true false d f e = cc
      by true true true false f e = cc
      by true true true true false e = cc
      by true true true true true e = refl

  when_false : {A : Type 0} (b : Bool) (x y : A) → b ≡ false → cond b x y ≡ y
  when_false true x y e = cc
  when_false false x y e = refl

  -- neither a field nor a parameter
  placed_told : (r : ℕ) (t adjusted : Ctype) (g : Given Sense) (x : Sense) → by_place w s sense at r t adjusted g ≡ Fits x → (p : ℕ) → parent_of s at ≡ Some p → is_a s p_field p ≡ false → is_a s p_parameter p ≡ false
      → is_name_complete w s sense (is_some (initialiser_of s sense at)) t r ≡ true
  placed_told r t adjusted g x e p parent field parameter =
      let other : Given Sense = if is_a s p_parameter p then parameter_named w s sense at r adjusted g else named_row w s sense at r t g in
      let told : (if is_a s p_field p then g else other) ≡ Fits x =
      sym (ap (λ (o : Option ℕ). elim o as (λ _. Given Sense) [
        | None ↦ g
        | Some q ↦ if is_a s p_field q then g else (if is_a s p_parameter q then parameter_named w s sense at r adjusted g else named_row w s sense at r t g)
      ]) parent) ∙ e in
      named_told r t g x (sym (when_false (is_a s p_parameter p) (parameter_named w s sense at r adjusted g) (named_row w s sense at r t g) parameter) ∙ (sym (when_false (is_a s p_field p) g other field) ∙ told))

  either : (a b c : Bool) → a ≡ false → b ≡ false → (a || (b || c)) ≡ true → c ≡ true
  either true b c e f h = cc
  either false true c e f h = cc
  either false false c e f h = h

  -- the ways in which an object's type is complete at the end
  pub data Ways (t : Ctype) (leaf : ℕ) (initialised : Bool) : Type 0 where
    Now : has_size w t ≡ true → Ways t leaf initialised
    Elements : element_has_size w s sense t ≡ true → (initialised || is_linked s sense leaf) ≡ true → Ways t leaf initialised
    Later : will_have_size w s sense t ≡ true → Ways t leaf initialised
    Never : may_stay_open w s sense t ≡ true → has_storage s sense word_extern leaf ≡ true → initialised ≡ false → Ways t leaf initialised

  ways : (t : Ctype) (leaf : ℕ) (initialised : Bool) → is_object_complete w s sense initialised t leaf ≡ true → Ways t leaf initialised
  ways t leaf initialised h =
      by (has_size w t) (element_has_size w s sense t) (initialised || is_linked s sense leaf) (will_have_size w s sense t) (may_stay_open w s sense t) (has_storage s sense word_extern leaf) initialised refl refl refl refl refl refl refl h
    where
      by : (a b c d e x i : Bool) → has_size w t ≡ a → element_has_size w s sense t ≡ b → (initialised || is_linked s sense leaf) ≡ c → will_have_size w s sense t ≡ d → may_stay_open w s sense t ≡ e → has_storage s sense word_extern leaf ≡ x
          → initialised ≡ i → (a || ((b && c) || (d || (e && (x && not i))))) ≡ true → Ways t leaf initialised
      by true b c d e x i ea eb ec ed ee ex ei k = Now ea
      by false true true d e x i ea eb ec ed ee ex ei k = Elements eb ec
      by false true false true e x i ea eb ec ed ee ex ei k = Later ed
      by false false c true e x i ea eb ec ed ee ex ei k = Later ed
      by false true false false true true false ea eb ec ed ee ex ei k = Never ee ex ei
      by false false c false true true false ea eb ec ed ee ex ei k = Never ee ex ei
      by false true false false true true true ea eb ec ed ee ex ei k = cc
      by false false c false true true true ea eb ec ed ee ex ei k = cc
      by false true false false true false i ea eb ec ed ee ex ei k = cc
      by false false c false true false i ea eb ec ed ee ex ei k = cc
      by false true false false false x i ea eb ec ed ee ex ei k = cc
      by false false c false false x i ea eb ec ed ee ex ei k = cc

  pub object_ways : (r : ℕ) (t adjusted : Ctype) (g : Given Sense) (x : Sense) → by_place w s sense at r t adjusted g ≡ Fits x → (p : ℕ) → parent_of s at ≡ Some p → is_a s p_field p ≡ false → is_a s p_parameter p ≡ false
      → is_typedef s sense r ≡ false → declares_function s sense r ≡ false → Ways t r (is_some (initialiser_of s sense at))
  object_ways r t adjusted g x e p parent field parameter typedefs function =
      ways t r (is_some (initialiser_of s sense at))
      (either (is_typedef s sense r) (declares_function s sense r) (is_object_complete w s sense (is_some (initialiser_of s sense at)) t r) typedefs function (placed_told r t adjusted g x e p parent field parameter))
