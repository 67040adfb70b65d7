-- What is looked up around a node is what the world says there.
use Rattle.std.specs.Prelude.{ℕ, ◌≡◌, ⊤, List, [], ◌∷◌}
use Rattle.std.specs.Option.{option_copied}
use Rattle.c_lexer.specs.declared.TokenKind.TheVariants.{Identifier}
use Rattle.core_tree.specs.declared.node.Unit.{Unit}
use Rattle.c_grammar.specs.Productions.{p_post, p_primary}
use Rattle.c_senses.specs.Tree.{Source, kind_at}
use Rattle.c_senses.specs.World.{World}
use Rattle.c_senses.specs.Sense.{Sense}
use Rattle.expression_rows.specs.c_rows.Named.{NameFits}
use Rattle.expression_rows.specs.c_rows.Lists.{FurtherFits}
use Rattle.expression_rows.specs.declared.around.Around.{Around}

-- what a name alone means, and the own name of the function whose body is read, of which only a name that means
-- nothing asks; and of an operation on lists the function whose last parameter is named
abbrev pub IdentifierFits : World → Unit → Source → (ℕ → Sense) → ℕ → List ℕ → Around → Type 0
IdentifierFits w u s sense first [] around =
    NameFits w u around.first (option_copied around.own_name) (w.meaning first)
IdentifierFits w u s sense first (c ∷ rest) around = FurtherFits w s sense (c ∷ rest) around.further

abbrev pub FirstFits : World → Unit → Source → (ℕ → Sense) → List ℕ → Around → Type 0
FirstFits w u s sense [] around = ⊤
FirstFits w u s sense (first ∷ rest) around =
    kind_at s first ≡ Identifier → IdentifierFits w u s sense first rest around

-- the name of a primary, and whether what stands behind an operand may be a call
pub record FitsAround (w : World) (u : Unit) (s : Source) (sense : ℕ → Sense) (production : ℕ)
    (children : List ℕ) (around : Around) : Type 0 where
  pub primary : production ≡ p_primary → FirstFits w u s sense children around
  pub post : production ≡ p_post → w.may_call ≡ around.may_call
