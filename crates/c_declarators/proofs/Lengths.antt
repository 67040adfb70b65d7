-- Lengths of arrays.
use Rattle.std.proofs.Common.{arith, ◌≡◌, ℕ, ◌≤◌, Bool, true, false, cond, ◌||◌, not, List, [], ◌∷◌, Option, Some, None, Result, Ok, Err, length, get_or, slice_get, drop, refl, sym, ap, ◌∙◌, subst}
use Rattle.std.specs.Prelude.{ℤ}
use Rattle.std.proofs.lemmas.Bool.{false≢true}
use Rattle.pta_base.specs.declared.kind.Kind.TheVariants.{Operand, Vla, ConstantRange, DivideByZero}
use Rattle.pta_base.specs.declared.place.Place.{Place}
use Rattle.c_types.specs.Trees.{Ctype, VoidType, BoolType, IntegerType, FloatingType, VaListType, PointerTo, ArrayOf, FunctionFrom, StructureOf, UnionOf}
use Rattle.c_types.specs.Table.{Table}
use Rattle.core_tree.specs.declared.node.Node.{Node}
use Rattle.core_tree.specs.declared.node.NodeKind.{NodeKind}
use Rattle.core_tree.specs.declared.node.Unit.{Unit}
use Rattle.core_tree.specs.Typed.{Sort, PlaceNode, ValueNode}
use Rattle.c_consts.specs.Core.{Core, Cores, Of, Stands, number_at, ctype_of, core_sort}
use Rattle.c_consts.specs.declared.fault.ConstFault.TheVariants.{NotConstant, Range, DivideByZero as ZeroFault}
use Rattle.c_consts.specs.Operators.{NoForm, OutOfRange, ZeroDivisor}
use Rattle.c_consts.specs.Answer.{Found, Value, Fails, answer, located}
use Rattle.core_nodes.specs.passed.c_senses.Tree.{Source, any_where, has_sign, has_word, is_a, child_of}
use Rattle.c_grammar.specs.Productions.{p_assignment, p_qualifier}
use Rattle.c_grammar.specs.Words.{word_static, sign_star, sign_left_bracket, sign_ellipsis}
use Rattle.core_nodes.specs.passed.c_senses.Given.{Given, Fits, Refuses, given_if, ◌>>=◌}
use Rattle.core_nodes.specs.passed.c_senses.World.{World}
use Rattle.core_nodes.specs.passed.c_senses.Conversions.{operand_of, value_of_sort}
use Rattle.core_nodes.specs.passed.c_senses.Constants.{is_whole, leaf_of_place, place_of_part}
use Rattle.core_nodes.specs.passed.c_senses.Sense.{Sense, Derivation, Elements, IsCore, IsDerivation, value_in}
use Rattle.core_nodes.specs.passed.c_senses.Declarators.{length_of, length_found, positive, is_parameter_array, array_length, has_array_words, array_suffix, suffix_row, list_of, parameters_in}
use Rattle.core_nodes.specs.declared.fault.CheckFault.{CheckFault}
use Rattle.core_nodes.specs.declared.fault.CheckFault.TheVariants.{BadOperand, Unsupported, OutOfMemory}
use Rattle.c_results.specs.Standing.{Rowed}
use Rattle.c_results.specs.Parts.{core_in}
use Rattle.c_conversions.specs.constant_values.Constants.{place_in}
use Rattle.c_conversions.proofs.constant_values.Valuing.{found_value, wrong_place}
use Rattle.c_declarators.specs.Suffixes.{LengthMade, open_length, length_by}

-- what is found of a constant that fails
found_form : (nodes : List Node) (i : ℕ) (found : Found) (j : ℕ) → Err (NotConstant j) ≡ located nodes i found → (path : List ℕ) × (found ≡ Fails NoForm path)
found_form nodes i (Value x) j e = cc
found_form nodes i (Fails NoForm path) j e = (path, refl)
found_form nodes i (Fails OutOfRange path) j e = cc
found_form nodes i (Fails ZeroDivisor path) j e = cc

found_range : (nodes : List Node) (i : ℕ) (found : Found) (j : ℕ) → Err (Range j) ≡ located nodes i found → (path : List ℕ) × (found ≡ Fails OutOfRange path) × (j ≡ number_at nodes i path)
found_range nodes i (Value x) j e = cc
found_range nodes i (Fails NoForm path) j e = cc
found_range nodes i (Fails OutOfRange path) j e = (path, refl, cc)
found_range nodes i (Fails ZeroDivisor path) j e = cc

found_zero : (nodes : List Node) (i : ℕ) (found : Found) (j : ℕ) → Err (ZeroFault j) ≡ located nodes i found → (path : List ℕ) × (found ≡ Fails ZeroDivisor path) × (j ≡ number_at nodes i path)
found_zero nodes i (Value x) j e = cc
found_zero nodes i (Fails NoForm path) j e = cc
found_zero nodes i (Fails OutOfRange path) j e = cc
found_zero nodes i (Fails ZeroDivisor path) j e = (path, refl, cc)

module _ (w : World) (s : Source) (sense : ℕ → Sense) (at : ℕ) (c : Core) (whole : is_whole (operand_of (ctype_of c)) ≡ true) where
  of_length : length_of w s sense at c ≡ cond (is_parameter_array w s sense at) (elim (answer c true) [ Fails NoForm path ↦ Fits (Elements None) | found ↦ length_found w s sense at c found ]) (length_found w s sense at c (answer c true))
  of_length = ap (λ (b : Bool). given_if b Operand at (cond (is_parameter_array w s sense at) (elim (answer c true) [ Fails NoForm path ↦ Fits (Elements None) | found ↦ length_found w s sense at c found ]) (length_found w s sense at c (answer c true)))) whole

  by_answer : (found : Found) → answer c true ≡ found → length_of w s sense at c ≡ cond (is_parameter_array w s sense at) (elim found [ Fails NoForm path ↦ Fits (Elements None) | x ↦ length_found w s sense at c x ]) (length_found w s sense at c found)
  by_answer found e =
      of_length ∙ ap (λ (f : Found). cond (is_parameter_array w s sense at) (elim f [ Fails NoForm path ↦ Fits (Elements None) | x ↦ length_found w s sense at c x ]) (length_found w s sense at c f)) e

  same_both : (b : Bool) (g : Given Derivation) → cond b g g ≡ g
  same_both true g = refl
  same_both false g = refl

  pub length_value : (v : ℤ) → answer c true ≡ Value v → length_of w s sense at c ≡ positive w s sense at v
  length_value v e = by_answer (Value v) e ∙ same_both (is_parameter_array w s sense at) (positive w s sense at v)

  pub length_form : (path : List ℕ) → answer c true ≡ Fails NoForm path → length_of w s sense at c ≡ open_length (is_parameter_array w s sense at) at
  length_form path e = by_answer (Fails NoForm path) e

  pub length_range : (path : List ℕ) → answer c true ≡ Fails OutOfRange path → length_of w s sense at c ≡ Refuses ConstantRange (leaf_of_place s at (place_of_part c path))
  length_range path e = by_answer (Fails OutOfRange path) e ∙ same_both (is_parameter_array w s sense at) (Refuses ConstantRange (leaf_of_place s at (place_of_part c path)))

  pub length_zero : (path : List ℕ) → answer c true ≡ Fails ZeroDivisor path → length_of w s sense at c ≡ Refuses DivideByZero (leaf_of_place s at (place_of_part c path))
  length_zero path e = by_answer (Fails ZeroDivisor path) e ∙ same_both (is_parameter_array w s sense at) (Refuses DivideByZero (leaf_of_place s at (place_of_part c path)))

-- the outcomes of a constant that stands
module _ (w : World) (s : Source) (sense : ℕ → Sense) (at : ℕ) (t : Table) (nodes : List Node) (i : ℕ) (c : Core) (stands : Stands t nodes i c) (whole : is_whole (operand_of (ctype_of c)) ≡ true) where
  pub value_made : (v : ℤ) (r : Result (Option ℕ) CheckFault) → Ok v ≡ located nodes i (answer c true) → LengthMade r (positive w s sense at v) → LengthMade r (length_of w s sense at c)
  value_made v r e m = subst (λ (g : Given Derivation). LengthMade r g) (sym (length_value w s sense at c whole v (found_value nodes i (answer c true) v e))) m

  pub form_made : (j : ℕ) (r : Result (Option ℕ) CheckFault) → Err (NotConstant j) ≡ located nodes i (answer c true) → LengthMade r (open_length (is_parameter_array w s sense at) at) → LengthMade r (length_of w s sense at c)
  form_made j r e m =
      let (path, f) = found_form nodes i (answer c true) j e in
      subst (λ (g : Given Derivation). LengthMade r g) (sym (length_form w s sense at c whole path f)) m

  pub range_made : (j leaf : ℕ) → Err (Range j) ≡ located nodes i (answer c true) → leaf ≡ leaf_of_place s at (place_in (slice_get nodes j)) → length_of w s sense at c ≡ Refuses ConstantRange leaf
  range_made j leaf e el =
      let (path, f, n) = found_range nodes i (answer c true) j e in
      length_range w s sense at c whole path f
      ∙ ap (Refuses ConstantRange) (sym (el ∙ ap (leaf_of_place s at) (wrong_place t nodes i c OutOfRange path _ j stands f n refl)))

  pub zero_made : (j leaf : ℕ) → Err (ZeroFault j) ≡ located nodes i (answer c true) → leaf ≡ leaf_of_place s at (place_in (slice_get nodes j)) → length_of w s sense at c ≡ Refuses DivideByZero leaf
  zero_made j leaf e el =
      let (path, f, n) = found_zero nodes i (answer c true) j e in
      length_zero w s sense at c whole path f
      ∙ ap (Refuses DivideByZero) (sym (el ∙ ap (leaf_of_place s at) (wrong_place t nodes i c ZeroDivisor path _ j stands f n refl)))

-- by the sort of what is read
module _ (w : World) (s : Source) (sense : ℕ → Sense) (at : ℕ) where
  pub of_value : (c : Core) (r : Result (Option ℕ) CheckFault) → core_sort c ≡ ValueNode → LengthMade r (length_of w s sense at c) → LengthMade r (length_by w s sense at c)
  of_value c r e m = subst (λ (x : Sort). LengthMade r (value_of_sort w at c x >>= length_of w s sense at)) (sym e) m

  place_length : (kind : NodeKind) (place : Place) (type : Ctype) (under : Cores) → is_whole (operand_of type) ≡ true → (value_of_sort w at (Of kind place type under) PlaceNode >>= length_of w s sense at) ≡ open_length (is_parameter_array w s sense at) at
  place_length kind place BoolType under h = refl
  place_length kind place (IntegerType size rank signed) under h = refl
  place_length kind place VoidType under h = absurd (false≢true h)
  place_length kind place FloatingType under h = absurd (false≢true h)
  place_length kind place VaListType under h = absurd (false≢true h)
  place_length kind place (PointerTo to) under h = absurd (false≢true h)
  place_length kind place (ArrayOf of n) under h = absurd (false≢true h)
  place_length kind place (FunctionFrom r ps f) under h = absurd (false≢true h)
  place_length kind place (StructureOf tag) under h = absurd (false≢true h)
  place_length kind place (UnionOf tag) under h = absurd (false≢true h)

  pub of_place : (c : Core) (r : Result (Option ℕ) CheckFault) → core_sort c ≡ PlaceNode → is_whole (operand_of (ctype_of c)) ≡ true → LengthMade r (open_length (is_parameter_array w s sense at) at) → LengthMade r (length_by w s sense at c)
  of_place (Of kind place type under) r e h m =
      subst (λ (x : Sort). LengthMade r (value_of_sort w at (Of kind place type under) x >>= length_of w s sense at)) (sym e)
      (subst (λ (g : Given Derivation). LengthMade r g) (sym (place_length kind place type under h)) m)

  -- by what stands in the brackets
  in_sense : (x : Sense) (c : Core) → core_in x ≡ Some c → (value_in w at x >>= length_of w s sense at) ≡ length_by w s sense at c
  in_sense (IsCore d) c e = let same : d ≡ c = cc in ap (length_by w s sense at) same
  in_sense x c e = cc

  in_nothing : (x : Sense) → core_in x ≡ None → (value_in w at x >>= length_of w s sense at) ≡ Refuses Operand at
  in_nothing (IsCore d) e = cc
  in_nothing x e = refl

  abbrev by_child : (rest : List ℕ) (o : Option ℕ) → Given Derivation
  by_child rest o =
      elim o [
        | Some c ↦ value_in w at (sense c) >>= length_of w s sense at
        | None ↦ cond (any_where (has_sign s sign_star) rest) (given_if (is_parameter_array w s sense at) Vla at (Fits (Elements None))) (Fits (Elements None))
      ]

  pub brackets_core : (rest : List ℕ) (e : ℕ) (c : Core) (r : Result (Option ℕ) CheckFault) → Some e ≡ child_of s p_assignment at → core_in (sense e) ≡ Some c → LengthMade r (length_by w s sense at c) → LengthMade r (array_length w s sense at rest)
  brackets_core rest e c r child here m =
      subst (λ (o : Option ℕ). LengthMade r (by_child rest o)) child (subst (λ (g : Given Derivation). LengthMade r g) (sym (in_sense (sense e) c here)) m)

  pub brackets_none : (rest : List ℕ) (e : ℕ) → Some e ≡ child_of s p_assignment at → core_in (sense e) ≡ None → array_length w s sense at rest ≡ Refuses Operand at
  brackets_none rest e child here = sym (ap (by_child rest) child) ∙ in_nothing (sense e) here

  star_length : (b : Bool) → open_length b at ≡ given_if b Vla at (Fits (Elements None))
  star_length true = refl
  star_length false = refl

  pub brackets_star : (rest : List ℕ) (r : Result (Option ℕ) CheckFault) → None ≡ child_of s p_assignment at → true ≡ any_where (has_sign s sign_star) rest → LengthMade r (open_length (is_parameter_array w s sense at) at) → LengthMade r (array_length w s sense at rest)
  brackets_star rest r child star m =
      let g : Given Derivation = given_if (is_parameter_array w s sense at) Vla at (Fits (Elements None)) in
      let e : array_length w s sense at rest ≡ g = sym (ap (by_child rest) child) ∙ sym (ap (λ (b : Bool). cond b g (Fits (Elements None))) star) in
      subst (λ (x : Given Derivation). LengthMade r x) (star_length (is_parameter_array w s sense at) ∙ sym e) m

  -- the words in the brackets
  any_or : (f g : ℕ → Bool) (xs : List ℕ) → any_where (λ c. f c || g c) xs ≡ (any_where f xs || any_where g xs)
  any_or f g [] = refl
  any_or f g (x ∷ xs) = ap (λ (b : Bool). (f x || g x) || b) (any_or f g xs) ∙ or_swap (f x) (g x) (any_where f xs) (any_where g xs)
    where
      or_swap : (a b d e : Bool) → ((a || b) || (d || e)) ≡ ((a || d) || (b || e))
      or_swap true b d e = refl
      or_swap false true true e = refl
      or_swap false true false e = refl
      or_swap false false d e = refl

  pub words_then : (rest : List ℕ) (a : Bool) → a ≡ true → a ≡ any_where (has_word s word_static) rest → a ≡ has_array_words w s sense rest
  words_then rest a h e =
      h ∙ (ap (λ (b : Bool). b || any_where (is_a s p_qualifier) rest) (sym h ∙ e) ∙ sym (any_or (has_word s word_static) (is_a s p_qualifier) rest))

  pub words_else : (rest : List ℕ) (a b : Bool) → a ≡ false → a ≡ any_where (has_word s word_static) rest → b ≡ any_where (is_a s p_qualifier) rest → b ≡ has_array_words w s sense rest
  words_else rest a b h e eb =
      eb ∙ (ap (λ (x : Bool). x || any_where (is_a s p_qualifier) rest) (sym h ∙ e) ∙ sym (any_or (has_word s word_static) (is_a s p_qualifier) rest))

  or_true : (b : Bool) → true ≡ (b || true)
  or_true true = refl
  or_true false = refl

  or_false : (b : Bool) → b ≡ (b || false)
  or_false true = refl
  or_false false = refl

  pub allowed_plain : (rest : List ℕ) → false ≡ has_array_words w s sense rest → true ≡ (is_parameter_array w s sense at || not (has_array_words w s sense rest))
  allowed_plain rest e = or_true (is_parameter_array w s sense at) ∙ ap (λ (b : Bool). is_parameter_array w s sense at || not b) e

  pub allowed_array : (rest : List ℕ) (p : Bool) → true ≡ has_array_words w s sense rest → p ≡ is_parameter_array w s sense at → p ≡ (is_parameter_array w s sense at || not (has_array_words w s sense rest))
  allowed_array rest p e ep = ep ∙ (or_false (is_parameter_array w s sense at) ∙ ap (λ (b : Bool). is_parameter_array w s sense at || not b) e)

  pub suffix_given : (rest : List ℕ) (b : Bool) → b ≡ (is_parameter_array w s sense at || not (has_array_words w s sense rest)) → given_if b Operand at (array_length w s sense at rest) ≡ array_suffix w s sense at rest
  suffix_given rest b e = ap (λ (x : Bool). given_if x Operand at (array_length w s sense at rest)) e

  -- the row of a suffix
  pub row_array : (f : ℕ) (rest : List ℕ) (n : Option ℕ) → true ≡ has_sign s sign_left_bracket f → array_suffix w s sense at rest ≡ Fits (Elements n) → suffix_row w s sense at (f ∷ rest) ≡ Fits (IsDerivation (Elements n))
  row_array f rest n sign e =
      let other = Fits (IsDerivation (list_of w s sense (any_where (has_sign s sign_ellipsis) rest) (parameters_in w s sense rest))) in
      sym (ap (λ (b : Bool). cond b (array_suffix w s sense at rest >>= (λ d. Fits (IsDerivation d))) other) sign) ∙ ap (λ (g : Given Derivation). g >>= (λ d. Fits (IsDerivation d))) e

  pub row_fault : (u : Unit) (fault : CheckFault) (f : ℕ) (rest : List ℕ) → true ≡ has_sign s sign_left_bracket f → LengthMade (Err fault) (array_suffix w s sense at rest) → Rowed u (Err fault) (suffix_row w s sense at (f ∷ rest))
  row_fault u (BadOperand node) f rest sign e =
      let other = Fits (IsDerivation (list_of w s sense (any_where (has_sign s sign_ellipsis) rest) (parameters_in w s sense rest))) in
      sym (ap (λ (b : Bool). cond b (array_suffix w s sense at rest >>= (λ d. Fits (IsDerivation d))) other) sign) ∙ ap (λ (g : Given Derivation). g >>= (λ d. Fits (IsDerivation d))) e
  row_fault u (Unsupported kind node) f rest sign e =
      let other = Fits (IsDerivation (list_of w s sense (any_where (has_sign s sign_ellipsis) rest) (parameters_in w s sense rest))) in
      sym (ap (λ (b : Bool). cond b (array_suffix w s sense at rest >>= (λ d. Fits (IsDerivation d))) other) sign) ∙ ap (λ (g : Given Derivation). g >>= (λ d. Fits (IsDerivation d))) e
  row_fault u OutOfMemory f rest sign e = tt

  pub row_list : (f : ℕ) (rest : List ℕ) (d : Derivation) (variadic : Bool) → false ≡ has_sign s sign_left_bracket f → variadic ≡ any_where (has_sign s sign_ellipsis) rest → d ≡ list_of w s sense variadic (parameters_in w s sense rest) → suffix_row w s sense at (f ∷ rest) ≡ Fits (IsDerivation d)
  row_list f rest d variadic sign v e =
      let other = Fits (IsDerivation (list_of w s sense (any_where (has_sign s sign_ellipsis) rest) (parameters_in w s sense rest))) in
      sym (ap (λ (b : Bool). cond b (array_suffix w s sense at rest >>= (λ x. Fits (IsDerivation x))) other) sign)
      ∙ sym (ap (λ (x : Derivation). Fits (IsDerivation x)) (e ∙ ap (λ (b : Bool). list_of w s sense b (parameters_in w s sense rest)) v))

pub first_and_rest : (xs rest : List ℕ) → 1 ≤ length xs → rest ≡ drop 1 xs → get_or xs 0 0 ∷ rest ≡ xs
first_and_rest [] rest h e = absurd (omega arith)
first_and_rest (x ∷ xs) rest h e = ap (λ (ys : List ℕ). x ∷ ys) e
