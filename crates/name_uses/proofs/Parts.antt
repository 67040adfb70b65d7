-- Each built row is part of that of C11 6.5.
use Rattle.std.proofs.Common.{◌≡◌, ℕ, ◌==◌, ◌^◌, nat_lt, Bool, true, false, cond, List, [], ◌∷◌, ◌⊎◌, inl, inr, refl, ap}
use Rattle.pta_base.specs.declared.kind.Kind.TheVariants.{NotBuilt}
use Rattle.c_lexer.specs.declared.TokenKind.{TokenKind}
use Rattle.c_lexer.specs.declared.TokenKind.TheVariants.{Identifier, Keyword, Punctuator, Integer, Floating, Character, Text, End}
use Rattle.c_grammar.specs.Productions.{p_primary}
use Rattle.c_senses.specs.Tree.{Source, place_at, spelling_at, kind_at}
use Rattle.c_senses.specs.Given.{Given, Fits, Refuses, ◌>>=◌, given_if}
use Rattle.c_senses.specs.World.{World}
use Rattle.c_senses.specs.Sense.{Sense, fits}
use Rattle.c_senses.specs.Objects.{text_core}
use Rattle.c_senses.specs.Literals.{value_of_integer}
use Rattle.c_senses.specs.Expressions as whole
use Rattle.c_senses.specs.Expressions.{string_bytes, expression_row}
use Rattle.expression_rows.specs.c_rows.Literals.{integer_core, are_bytes}
use Rattle.expression_rows.specs.c_rows.Built.{built_primary, built_primary_of}
use Rattle.expression_rows.specs.Built.{built_row}
use Rattle.name_uses.specs.Built.{names_strangely, RowsArePart}

abbrev PartAt : {A : Type 0} → ℕ → Given A → Given A → Type 0
PartAt at built all = (built ≡ all) ⊎ (built ≡ Refuses NotBuilt at)

bound : {A B : Type 0} (at : ℕ) (g h : Given A) (f : A → Given B) → PartAt at g h → PartAt at (g >>= f) (h >>= f)
bound at g h f (inl e) = inl (ap (λ x. x >>= f) e)
bound at g h f (inr e) = inr (ap (λ x. x >>= f) e)

where_built : {A : Type 0} (t : Bool) (at : ℕ) (g : Given A) → PartAt at (given_if t NotBuilt at g) g
where_built true at g = inl refl
where_built false at g = inr refl

module _ (w : World) (s : Source) (sense : ℕ → Sense) where
  kind_part : (at first : ℕ) (rest : List ℕ) (kind : TokenKind) → PartAt at (built_primary_of w s sense at first rest kind) (whole.primary_of w s sense at first rest kind)
  kind_part at first rest Identifier = inl refl
  kind_part at first rest Integer =
      bound at _ _ fits (where_built (nat_lt (value_of_integer (spelling_at s first)) (2 ^ 64)) at (Fits (integer_core (place_at s first) (spelling_at s first))))
  kind_part at first rest Character = inl refl
  kind_part at first rest Text =
      bound at _ _ fits (where_built (are_bytes (string_bytes w s sense (first ∷ rest))) at (Fits (text_core (place_at s first) (string_bytes w s sense (first ∷ rest)))))
  kind_part at first rest (Punctuator p) = inl refl
  kind_part at first rest (Keyword k) = inl refl
  kind_part at first rest Floating = inl refl
  kind_part at first rest End = inl refl

  primary_part : (at : ℕ) (xs : List ℕ) → PartAt at (built_primary w s sense at xs) (whole.primary_row w s sense at xs)
  primary_part at [] = inl refl
  primary_part at (first ∷ rest) = kind_part at first rest (kind_at s first)

  both_primary : (at : ℕ) (t : Bool) (a b c : Given Sense) → PartAt at a b → PartAt at (cond t a (cond t b c)) (cond t b c)
  both_primary at true a b c p = p
  both_primary at false a b c p = inl refl

  built_part : (production at : ℕ) (xs : List ℕ) → PartAt at (built_row w s sense production at xs) (expression_row w s sense production at xs)
  built_part production at xs = both_primary at (production == p_primary) _ _ _ (primary_part at xs)

  strange_part : (t : Bool) (at : ℕ) (g h : Given Sense) → PartAt at g h → PartAt at (cond t (Refuses NotBuilt at) g) h
  strange_part true at g h p = inr refl
  strange_part false at g h p = p

pub rows_part : RowsArePart
rows_part w s sense production at children =
    strange_part w s sense (names_strangely w s production children) at (built_row w s sense production at children) (expression_row w s sense production at children) (built_part w s sense production at children)
