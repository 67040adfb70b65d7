-- The rows of primaries whose constants and strings can be read.
use Rattle.std.proofs.Common.{arith, ◌≡◌, ◌<◌, ◌^◌, ℕ, zero, suc, ◌++◌, ◌==◌, nat_lt, Bool, true, false, cond, List, [], ◌∷◌, All, length, get_or, inl, inr, refl, ap, ◌∙◌}
use Rattle.std.proofs.lemmas.Bool.{eqb-true, le-leb}
use Rattle.std.proofs.lemmas.List.Elements.{All-head, All-tail}
use Rattle.std.proofs.lemmas.List.Folds.{list_all-append}
use Rattle.pta_base.specs.declared.kind.Kind.TheVariants.{NotBuilt}
use Rattle.c_lexer.specs.declared.TokenKind.{TokenKind}
use Rattle.c_lexer.specs.declared.TokenKind.TheVariants.{Identifier, Keyword, Punctuator, Integer, Floating, Character, Text, End}
use Rattle.c_grammar.specs.Productions.{p_primary}
use Rattle.c_consts.specs.Core.{Core}
use Rattle.c_senses.specs.Given.{Given, Fits, given_if}
use Rattle.c_senses.specs.Tree.{Source, production_at, children_at, place_at, spelling_at, kind_at}
use Rattle.c_senses.specs.World.{World}
use Rattle.c_senses.specs.Literals.{value_of_integer, bytes_of_string}
use Rattle.c_senses.specs.Objects.{text_core}
use Rattle.c_senses.specs.Sense.{Sense}
use Rattle.c_senses.specs.Expressions.{as_sense, string_bytes, primary_of, primary_row, expression_row}
use Rattle.c_literals.specs.Laws.{AreBytes}
use Rattle.expression_rows.specs.c_rows.Literals.{integer_core, are_bytes}
use Rattle.expression_rows.specs.c_rows.Built.{built_primary, built_primary_of}
use Rattle.expression_rows.proofs.c_rows.Bytes.{tested, and_both}
use Rattle.expression_rows.specs.Built.{built_row}
use Rattle.expression_rows.specs.Readable.{LiteralsFit, IsReadable, BuiltIsWhole}

module _ (w : World) (s : Source) (sense : ℕ → Sense) where
  all_bytes : (leaves : List ℕ) → All (λ i. AreBytes (bytes_of_string (spelling_at s i))) leaves → are_bytes (string_bytes w s sense leaves) ≡ true
  all_bytes [] h = refl
  all_bytes (i ∷ rest) h =
      list_all-append (λ b. nat_lt b 256) (bytes_of_string (spelling_at s i)) (string_bytes w s sense rest)
      ∙ and_both (are_bytes (bytes_of_string (spelling_at s i))) (are_bytes (string_bytes w s sense rest)) (tested (bytes_of_string (spelling_at s i)) (All-head (λ i. AreBytes (bytes_of_string (spelling_at s i))) i rest h))
      (all_bytes rest (All-tail (λ i. AreBytes (bytes_of_string (spelling_at s i))) i rest h))

  is_given : (b : Bool) (at : ℕ) (c : Core) → b ≡ true → as_sense (given_if b NotBuilt at (Fits c)) ≡ as_sense (Fits c)
  is_given b at c e = ap (λ (t : Bool). as_sense (given_if t NotBuilt at (Fits c))) e

  of_kind : (at first : ℕ) (rest : List ℕ) (kind : TokenKind) → (kind ≡ Integer → value_of_integer (spelling_at s first) < 2 ^ 64) → (kind ≡ Text → All (λ i. AreBytes (bytes_of_string (spelling_at s i))) (first ∷ rest)) → built_primary_of w s sense at first rest kind ≡ primary_of w s sense at first rest kind
  of_kind at first rest Identifier small bytes = refl
  of_kind at first rest Integer small bytes =
      let lt : value_of_integer (spelling_at s first) < 2 ^ 64 = small refl in
      is_given (nat_lt (value_of_integer (spelling_at s first)) (2 ^ 64)) at (integer_core (place_at s first) (spelling_at s first)) (le-leb (suc (value_of_integer (spelling_at s first))) (2 ^ 64) (omega arith))
  of_kind at first rest Character small bytes = refl
  of_kind at first rest Text small bytes =
      is_given (are_bytes (string_bytes w s sense (first ∷ rest))) at (text_core (place_at s first) (string_bytes w s sense (first ∷ rest))) (all_bytes (first ∷ rest) (bytes refl))
  of_kind at first rest (Punctuator p) small bytes = refl
  of_kind at first rest (Keyword k) small bytes = refl
  of_kind at first rest Floating small bytes = refl
  of_kind at first rest End small bytes = refl

  primary_whole : (at : ℕ) (xs : List ℕ) → LiteralsFit s xs → built_primary w s sense at xs ≡ primary_row w s sense at xs
  primary_whole at [] fit = refl
  primary_whole at (first ∷ rest) fit = of_kind at first rest (kind_at s first) fit.0 fit.1

  chosen : (t : Bool) (a b c : Given Sense) → (t ≡ true → a ≡ b) → cond t a (cond t b c) ≡ cond t b c
  chosen true a b c h = h refl
  chosen false a b c h = refl

  pub row_whole : (production at : ℕ) (xs : List ℕ) → (production ≡ p_primary → LiteralsFit s xs) → built_row w s sense production at xs ≡ expression_row w s sense production at xs
  row_whole production at xs fit = chosen (production == p_primary) _ _ _ (λ e. primary_whole at xs (fit (eqb-true production p_primary e)))

pub built_whole : BuiltIsWhole
built_whole w s sense at fit = row_whole w s sense (production_at s at) at (children_at s at) fit
