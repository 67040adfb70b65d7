-- Names that are found, and defaults where their switch has none before.
use Rattle.std.proofs.Common.{◌≡◌, ℕ, Bool, true, false, cond, not, List, [], ◌∷◌, Option, Some, refl, sym, ap, ◌∙◌}
use Rattle.pta_base.specs.declared.kind.Kind.TheVariants.{Operand}
use Rattle.core_tree.specs.declared.node.NodeKind.TheVariants.{Default}
use Rattle.c_consts.specs.Core.{Core}
use Rattle.c_senses.specs.Given.{Given, Fits, given_if, given_some, ◌>>=◌}
use Rattle.c_senses.specs.Tree.{Source, place_at, any_where, first_where, numbers_from}
use Rattle.c_senses.specs.World.{World}
use Rattle.c_senses.specs.Sense.{Sense}
use Rattle.c_senses.specs.Statements.{switch_around, is_default_again, default_row, body_of, statements_among, statement, one}

-- the first of a list that passes a test passes it
passes_here : (test : ℕ → Bool) (x c : ℕ) (later : Option ℕ) (b : Bool) → test x ≡ b → (Some c ≡ later → test c ≡ true) → Some c ≡ cond b (Some x) later → test c ≡ true
passes_here test x c later true t rest e = let same : c ≡ x = cc in ap test same ∙ t
passes_here test x c later false t rest e = rest e

pub first_passes : (test : ℕ → Bool) (list : List ℕ) (c : ℕ) → Some c ≡ first_where test list → test c ≡ true
first_passes test [] c e = cc
first_passes test (x ∷ xs) c e = passes_here test x c (first_where test xs) (test x) refl (first_passes test xs c) e

module _ (w : World) (s : Source) (sense : ℕ → Sense) (at : ℕ) (children : List ℕ) where
  abbrev pub over_body : Given Core
  over_body = body_of w s sense at (statements_among w s sense children) >>= (λ body. Fits (statement Default (place_at s at) (one body)))

  pub default_is : (switch : ℕ) → Some switch ≡ switch_around w s sense at → any_where (is_default_again w s sense switch) (numbers_from 0 at) ≡ false → over_body ≡ default_row w s sense at children
  default_is switch e none =
      let test : ℕ → Bool = λ i. not (any_where (is_default_again w s sense i) (numbers_from 0 at)) in
      sym (ap (λ (b : Bool). given_if (not b) Operand at over_body) none) ∙ ap (λ (o : Option ℕ). given_some o Operand at >>= (λ i. given_if (test i) Operand at over_body)) e
