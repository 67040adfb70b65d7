-- What is seen of an initialiser, by what was made for its nodes.
use Rattle.std.proofs.Common.{◌≡◌, ℕ, ℤ, pos, negsuc, refl, ap, sym, ◌∙◌, Option, Some, None, false}
use Rattle.c_types.specs.Trees.{VoidType}
use Rattle.c_grammar.specs.Productions.{p_assignment}
use Rattle.c_consts.specs.Core.{Core, kind_of, ctype_of}
use Rattle.c_inits.specs.Syntax.{Designator, AtIndex, AtName}
use Rattle.c_inits.specs.View as view
use Rattle.c_inits.specs.View.{index_or_name}
use Rattle.c_senses.specs.Tree.{Source, child_of}
use Rattle.c_senses.specs.Sense.{Sense, Nothing, IsCore, IsType, IsSpecified, IsDeclarator, IsDerivation, IsParameter, IsMembers, IsValue, IsRun, IsInitial}
use Rattle.c_senses.specs.Initialised.{expression_of, core_type, is_text, is_text_kind, index_of}
use Rattle.c_results.specs.Parts.{core_in, number_in}
use Rattle.c_initialise.specs.Facts.{no_world, index_told}

module _ (s : Source) (sense : ℕ → Sense) where
  of_core_text : (x : Sense) (c : Core) → core_in x ≡ Some c → is_text no_world s sense x ≡ is_text_kind no_world s sense (kind_of c)
  of_core_text (IsCore d) c e = let same : d ≡ c = cc in ap (λ (y : Core). is_text_kind no_world s sense (kind_of y)) same
  of_core_text x c e = cc

  of_none_type : (x : Sense) → core_in x ≡ None → core_type no_world s sense x ≡ VoidType
  of_none_type (IsCore d) e = cc
  of_none_type x e = refl

  of_none_text : (x : Sense) → core_in x ≡ None → is_text no_world s sense x ≡ false
  of_none_text (IsCore d) e = cc
  of_none_text x e = refl

  abbrev of_child : Option ℕ → Sense
  of_child o = elim o [ None ↦ Nothing | Some c ↦ sense c ]

  module _ (node child : ℕ) (at : child_of s p_assignment node ≡ Some child) where
    here : expression_of no_world s sense node ≡ sense child
    here = ap of_child at

    pub text_is : (c : Core) → core_in (sense child) ≡ Some c → is_text no_world s sense (expression_of no_world s sense node) ≡ is_text_kind no_world s sense (kind_of c)
    text_is c e = ap (is_text no_world s sense) here ∙ of_core_text (sense child) c e

    pub type_none : core_in (sense child) ≡ None → core_type no_world s sense (expression_of no_world s sense node) ≡ VoidType
    type_none e = ap (core_type no_world s sense) here ∙ of_none_type (sense child) e

    pub text_none : core_in (sense child) ≡ None → is_text no_world s sense (expression_of no_world s sense node) ≡ false
    text_none e = ap (is_text no_world s sense) here ∙ of_none_text (sense child) e

  told_index : (n : ℤ) → index_of no_world s sense (IsValue n) ≡ Some (index_told n)
  told_index (pos k) = refl
  told_index (negsuc k) = refl

  pub index_is : (x : Sense) (n : ℤ) → number_in x ≡ Some n → index_of no_world s sense x ≡ Some (index_told n)
  index_is (IsValue m) n e = let same : m ≡ n = cc in ap (λ (k : ℤ). index_of no_world s sense (IsValue k)) same ∙ told_index n
  index_is x n e = cc

  pub index_none : (x : Sense) → number_in x ≡ None → index_of no_world s sense x ≡ None
  index_none (IsValue m) e = cc
  index_none x e = refl
