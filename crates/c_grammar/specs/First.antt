-- The terminals that a production begins with, read off the table.
use Rattle.std.specs.Prelude.{ℕ, zero, suc, ◌==◌, Bool, true, false, ◌||◌, List, [], ◌∷◌, ◌++◌}
use Rattle.c_grammar.specs.declared.rows.Item.{Item}
use Rattle.c_grammar.specs.declared.rows.Item.TheVariants.{Token, Use, Choice, Repeat, Scope}
use Rattle.c_grammar.specs.Table.{row}
use Rattle.c_grammar.specs.Terminals.{list_names}
use Rattle.c_grammar.specs.Terminals.{contains, terminals, sign, plain_name, typeof_name, builtin_name, floating}
use Rattle.c_grammar.specs.Words.{word_asm, word_generic, sign_both}
use Rattle.c_grammar.specs.Productions.{p_external, p_type, p_abstract, p_either, p_parameter, p_items, p_statement}
use Rattle.c_grammar.specs.Productions.{p_cast, p_primary, p_nothing, p_either_1, p_array_length}

-- the productions that can take no token
unfoldable pub can_be_empty : ℕ → Bool
can_be_empty production =
    contains (p_abstract ∷ p_either ∷ p_items ∷ p_nothing ∷ p_either_1 ∷ p_array_length ∷ []) production

-- a token that is refused at its place begins the production that refuses it
abbrev pub refused_firsts : ℕ → List ℕ
refused_firsts p =
    elim (p == p_primary) [
      | true ↦ floating ∷ word_generic ∷ []
      | false ↦
          elim (p == p_cast) [
            | true ↦ sign sign_both ∷ []
            | false ↦
                elim ((p == p_statement) || (p == p_external)) [
                  | true ↦ word_asm ∷ []
                  | false ↦
                      elim (p == p_type) [
                        | true ↦ typeof_name ∷ []
                        | false ↦
                            elim (p == p_parameter) [ true ↦ plain_name ∷ (builtin_name ∷ list_names) | false ↦ [] ]
                      ]
                ]
          ]
    ]

-- the terminals that a row begins with, where first gives those of each production
abbrev pub row_firsts : (ℕ → List ℕ) → ℕ → List Item → List ℕ
row_firsts first p [] = []
row_firsts first p (Token k ∷ items) = terminals p k
row_firsts first p (Use q ∷ items) =
    first q ++ elim (can_be_empty q) [ true ↦ row_firsts first p items | false ↦ [] ]
row_firsts first p (Choice a b ∷ items) =
    first a ++ (first b ++ elim (can_be_empty a || can_be_empty b) [ true ↦ row_firsts first p items | false ↦ [] ])
row_firsts first p (Repeat q ∷ items) = first q ++ row_firsts first p items
row_firsts first p (Scope n ∷ items) = row_firsts first p items

-- the terminals that a production begins with, as far as they are found so many productions deep
unfoldable pub firsts_within : ℕ → ℕ → List ℕ
firsts_within zero p = []
firsts_within (suc n) p = refused_firsts p ++ row_firsts (firsts_within n) p (row p)

-- no production leads through more than 38 others to its first token
unfoldable pub firsts : ℕ → List ℕ
firsts p = firsts_within 39 p
