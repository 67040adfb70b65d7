-- What stands before an operand.
use Rattle.std.proofs.Common.{arith, ◌≡◌, ℕ, ◌+◌, ◌<◌, List, [], ◌∷◌, Some, Result, Ok, Err, IfOk, length, get_or, drop, inl, inr, Bool, true, false, cond, eqb, refl, sym, ap, ◌∙◌, subst}
use Rattle.std.proofs.lemmas.Bool.Decides.{eqb_tells}
use Rattle.pta_base.specs.declared.kind.Kind.TheVariants.{Operand}
use Rattle.pta_base.specs.declared.place.Place.{Place}
use Rattle.core_tree.specs.declared.node.Unit.{Unit}
use Rattle.c_consts.specs.Core.{Core, core_sort}
use Rattle.c_grammar.specs.Productions.{p_type_name}
use Rattle.c_lexer.specs.declared.TokenKind.{TokenKind}
use Rattle.c_lexer.specs.declared.TokenKind.TheVariants.{Identifier, Keyword, Punctuator, Integer, Floating, Character, Text, End}
use Rattle.c_senses.specs.Given.{Given, Fits, Refuses, ◌>>=◌}
use Rattle.c_senses.specs.World.{World}
use Rattle.c_senses.specs.Tree.{Source, is_a, kind_at, is_leaf}
use Rattle.c_senses.specs.Sense.{Sense, core_of, type_of_sense, last_of}
use Rattle.c_senses.specs.Conversions.{value_of}
use Rattle.c_senses.specs.Objects.{address_row, size_row, sized_expression}
use Rattle.c_senses.specs.Expressions.{operator_core, value_core, as_sense, sized, unary_of, unary_row}
use Rattle.core_nodes.specs.Standing.{core_at, Made as CoreMade}
use Rattle.core_nodes.specs.declared.fault.CheckFault.{CheckFault}
use Rattle.core_nodes.specs.declared.fault.CheckFault.TheVariants.{BadOperand, Unsupported, OutOfMemory}
use Rattle.c_conversions.specs.Constants.{HasRows}
use Rattle.c_results.specs.declared.made.Made.{Made}
use Rattle.c_results.specs.Standing.{sense_made, Rowed}
use Rattle.parsed_tree_laws.specs.sense_laws.Sound.{Gives}
use Rattle.expression_rows.specs.whole_rows.Constants.{SenseHasRows}
use Rattle.expression_rows.specs.whole_rows.Prefix.{sized_part, begun}

-- any operator but an address takes its operand's value
pub takes_value : (w : World) (place : Place) (at : ℕ) (x : Core) (sign : ℕ) → (sign ≡ 10 → ⊥) → (value_of w at x >>= (λ v. value_core w place at v sign)) ≡ operator_core w place at x sign
takes_value w place at x sign apart =
    let e : eqb sign 10 ≡ false = elim (eqb_tells sign 10) [ inl p ↦ absurd (apart p.1) | inr p ↦ p.0 ] in
    sym (ap (λ (b : Bool). cond b (address_row w place at x (core_sort x)) (value_of w at x >>= (λ v. value_core w place at v sign))) e)

last_is : (x : ℕ) (xs : List ℕ) → last_of x xs ≡ get_or (x ∷ xs) (length xs) 0
last_is x [] = refl
last_is x (y ∷ rest) = last_is y rest

two_ways : (t : Bool) (g h : Given Core) → as_sense (cond t g h) ≡ cond t (as_sense g) (as_sense h)
two_ways true g h = refl
two_ways false g h = refl

-- rows by their first parts
module _ (w : World) (s : Source) (sense : ℕ → Sense) where
  pub sized_same : (place : Place) (at c : ℕ) → as_sense (sized_part w s sense place at c) ≡ sized w s sense place at (Some c)
  sized_same place at c = two_ways (is_a s p_type_name c) (type_of_sense at (sense c) >>= size_row w place at) (core_of at (sense c) >>= sized_expression w place at)

  pub unary_last : (at : ℕ) (xs : List ℕ) (k : ℕ) → k + 1 ≡ length xs → is_leaf s (get_or xs 0 0) ≡ false → unary_row w s sense at xs ≡ Fits (sense (get_or xs k 0))
  unary_last at [] k h e = absurd (omega arith)
  unary_last at (x ∷ rest) k h e =
      let same : length rest ≡ k = omega (arith, h) in
      ap (λ (b : Bool). unary_of w s sense at x rest b (kind_at s x)) e
      ∙ (ap (λ (j : ℕ). Fits (sense j)) (last_is x rest) ∙ ap (λ (j : ℕ). Fits (sense (get_or (x ∷ rest) j 0))) same)

  begun_is : (at x : ℕ) (rest : List ℕ) (kind : TokenKind) → unary_of w s sense at x rest true kind ≡ begun w s sense at x rest kind
  begun_is at x rest Identifier = refl
  begun_is at x rest (Keyword k) = refl
  begun_is at x rest (Punctuator p) = refl
  begun_is at x rest Integer = refl
  begun_is at x rest Floating = refl
  begun_is at x rest Character = refl
  begun_is at x rest Text = refl
  begun_is at x rest End = refl

  pub unary_begun : (at : ℕ) (xs : List ℕ) → 0 < length xs → is_leaf s (get_or xs 0 0) ≡ true → begun w s sense at (get_or xs 0 0) (drop 1 xs) (kind_at s (get_or xs 0 0)) ≡ unary_row w s sense at xs
  unary_begun at [] h e = absurd (omega arith)
  unary_begun at (x ∷ rest) h e = sym (ap (λ (b : Bool). unary_of w s sense at x rest b (kind_at s x)) e ∙ begun_is at x rest (kind_at s x))

-- what is made of a row keeps what the row gives
pub made_rows : (u : Unit) (r : Result Made CheckFault) (g : Given Sense) → Rowed u r g → Gives SenseHasRows g → IfOk r (λ m. SenseHasRows (sense_made u m))
made_rows u (Ok m) g e h = subst (Gives SenseHasRows) e h
made_rows u (Err fault) g e h = tt

of_core : (u : Unit) (c : Core) (m : Result Made CheckFault) → HasRows c → Rowed u m (as_sense (Fits c)) → IfOk m (λ x. SenseHasRows (sense_made u x))
of_core u c m h e = made_rows u m (as_sense (Fits c)) e h

of_refusal : (u : Unit) (m : Result Made CheckFault) (n : ℕ) → Rowed u m (as_sense (Refuses Operand n)) → IfOk m (λ x. SenseHasRows (sense_made u x))
of_refusal u m n e = made_rows u m (as_sense (Refuses Operand n)) e tt

-- a core tree's sense has its rows
pub sensed_rows : (u : Unit) (r : Result ℕ CheckFault) (m : Result Made CheckFault) → ((v : Unit) (g : Given Core) → CoreMade v r g → Rowed v m (as_sense g)) → IfOk r (λ i. HasRows (core_at u i)) → IfOk m (λ x. SenseHasRows (sense_made u x))
sensed_rows u (Ok i) m row h = of_core u (core_at u i) m h (row u (Fits (core_at u i)) refl)
sensed_rows u (Err (BadOperand n)) m row h = of_refusal u m n (row u (Refuses Operand n) refl)
sensed_rows u (Err (Unsupported k n)) m row h = made_rows u m (as_sense (Refuses k n)) (row u (Refuses k n) refl) tt
sensed_rows u (Err OutOfMemory) m row h = of_refusal u m 0 (row u (Refuses Operand 0) tt)
