-- What is looked up, and what a call answers that looks it up.
use Rattle.std.proofs.Common.{arith, ◌≡◌, ℕ, Bool, true, false, cond, ◌==◌, List, [], ◌∷◌, All, length, get_or, drop, ◌<◌, ◌≤◌, Option, Some, None, Result, Ok, Err, refl, sym, ap, ◌∙◌, subst}
use Rattle.std.specs.Prelude.{◌&&◌}
use Rattle.std.specs.Option.{option_copied}
use Rattle.pta_base.specs.declared.kind.Kind.TheVariants.{NotBuilt}
use Rattle.c_lexer.specs.declared.TokenKind.{TokenKind}
use Rattle.c_lexer.specs.declared.TokenKind.TheVariants.{Identifier}
use Rattle.c_grammar.specs.Productions.{p_post, p_primary}
use Rattle.core_tree.specs.declared.node.Unit.{Unit}
use Rattle.core_nodes.specs.Standing.{Builds}
use Rattle.core_nodes.specs.declared.fault.CheckFault.{CheckFault}
use Rattle.core_nodes.specs.declared.fault.CheckFault.TheVariants.{BadOperand, Unsupported, OutOfMemory}
use Rattle.c_senses.specs.Tree.{Source, kind_at, is_identifier}
use Rattle.c_senses.specs.Given.{Given, Refuses}
use Rattle.c_senses.specs.World.{World, Meaning}
use Rattle.c_senses.specs.Sense.{Sense, sense_in}
use Rattle.c_results.specs.declared.made.Made.{Made}
use Rattle.c_results.specs.Standing.{senses_made, IsWithin, Rowed}
use Rattle.c_results.proofs.Keeping.{mades_kept}
use Rattle.expression_rows.specs.declared.c_rows.names.Named.{Named}
use Rattle.expression_rows.specs.c_rows.Named.{NameFits}
use Rattle.expression_rows.specs.declared.around.Around.{Around}
use Rattle.expression_rows.specs.Built.{built_row}
use Rattle.expression_rows.specs.c_rows.Lists.{FurtherFits}
use Rattle.expression_rows.specs.Fitting.{IdentifierFits, FirstFits, FitsAround}
use Rattle.name_uses.specs.Built.{is_strange, alone_is_strange, first_is_strange, names_strangely, named_row}
use Rattle.name_uses.specs.Looked.{Looked, NamedUnless}

-- the same of another test, and of what is weaker
pub looked_on : {A : Type 0} (P Q : A → Type 0) (a b : Bool) (at : ℕ) (r : Result A CheckFault) → ((x : A) → P x → Q x) → a ≡ b → Looked P a at r → Looked Q b at r
looked_on P Q a b at (Ok x) f e h = (f x h.0, sym e ∙ h.1)
looked_on P Q a b at (Err (BadOperand node)) f e h = h
looked_on P Q a b at (Err (Unsupported kind node)) f e h = (h.0, h.1, sym e ∙ h.2)
looked_on P Q a b at (Err OutOfMemory) f e h = tt

-- a name that is found, and one that is strange
pub name_fits : (w : World) (u : Unit) (count : ℕ) (m meant : Option Meaning) (named : Named) (own : Option (List ℕ)) → m ≡ meant → NamedUnless w u count m (Some named) → (m ≡ None → w.own_name ≡ own)
    → NameFits w u named own meant × (is_strange count meant ≡ false)
name_fits w u count m meant named own e h f =
    subst (λ (x : Option Meaning). NameFits w u named own x × (is_strange count x ≡ false)) e (record { meant = h.0; own = f }, h.1)

pub name_strange : (count : ℕ) (m meant : Option Meaning) → m ≡ meant → is_strange count m ≡ true → is_strange count meant ≡ true
name_strange count m meant e h = sym (ap (is_strange count) e) ∙ h

-- a row with and without what is looked up
pub row_refused : {A : Type 0} (P : A → Type 0) (u : Unit) (strange : Bool) (at : ℕ) (fault : CheckFault) (g : Given Sense) → Looked {A = A} P strange at (Err fault) → Rowed u (Err fault) (cond strange (Refuses NotBuilt at) g)
row_refused P u strange at (BadOperand node) g h = absurd h
row_refused P u strange at (Unsupported kind node) g h = ap (λ (t : Bool). cond t (Refuses NotBuilt at) g) h.2 ∙ cc
row_refused P u strange at OutOfMemory g h = tt

pub row_found : (u : Unit) (strange : Bool) (at : ℕ) (r : Result Made CheckFault) (g : Given Sense) → strange ≡ false → Rowed u r g → Rowed u r (cond strange (Refuses NotBuilt at) g)
row_found u strange at r g e h = subst (λ (t : Bool). Rowed u r (cond t (Refuses NotBuilt at) g)) (sym e) h

-- where no name is strange nothing but memory wants
pub never_refused : {A : Type 0} (P : A → Type 0) (u : Unit) (strange : Bool) (at : ℕ) (fault : CheckFault) (g : Given Sense) → strange ≡ false → Looked {A = A} P strange at (Err fault) → Rowed u (Err fault) g
never_refused P u strange at (BadOperand node) g e h = absurd h
never_refused P u strange at (Unsupported kind node) g e h = let no : true ≡ false = sym h.2 ∙ e in cc
never_refused P u strange at OutOfMemory g e h = tt

-- a name that stands first in a primary
pub first_looked : (w : World) (u : Unit) (s : Source) (sense : ℕ → Sense) (xs : List ℕ) (at : ℕ) (r : Result Around CheckFault) → false ≡ (length xs == 0) → Identifier ≡ kind_at s (get_or xs 0 0)
    → Looked (IdentifierFits w u s sense (get_or xs 0 0) (drop 1 xs)) (alone_is_strange w s (get_or xs 0 0) (drop 1 xs)) at r
    → Looked (FirstFits w u s sense xs) (first_is_strange w s xs) at r
first_looked w u s sense [] at r some kind h = cc
first_looked w u s sense (x ∷ xs) at r some kind h =
    looked_on (IdentifierFits w u s sense x xs) (FirstFits w u s sense (x ∷ xs)) (alone_is_strange w s x xs) (first_is_strange w s (x ∷ xs)) at r (λ a fits k. fits)
    (ap (λ (k : TokenKind). is_identifier k && alone_is_strange w s x xs) kind) h

-- a name alone, and what has parts
pub alone_looked : (w : World) (u : Unit) (s : Source) (sense : ℕ → Sense) (xs : List ℕ) (at : ℕ) (r : Result Around CheckFault) → 0 < length xs → length xs < 2
    → Looked (λ (a : Around). NameFits w u a.first (option_copied a.own_name) (w.meaning (get_or xs 0 0))) (is_strange (length s.nodes) (w.meaning (get_or xs 0 0))) at r
    → Looked (IdentifierFits w u s sense (get_or xs 0 0) (drop 1 xs)) (alone_is_strange w s (get_or xs 0 0) (drop 1 xs)) at r
alone_looked w u s sense [] at r some few h = absurd (omega arith)
alone_looked w u s sense (x ∷ []) at r some few h = h
alone_looked w u s sense (x ∷ y ∷ xs) at r some few h = absurd (omega arith)

pub parts_looked : (w : World) (u : Unit) (s : Source) (sense : ℕ → Sense) (xs : List ℕ) (a : Around) → 2 ≤ length xs → FurtherFits w s sense (drop 1 xs) a.further
    → IdentifierFits w u s sense (get_or xs 0 0) (drop 1 xs) a × (alone_is_strange w s (get_or xs 0 0) (drop 1 xs) ≡ false)
parts_looked w u s sense [] a more h = absurd (omega arith)
parts_looked w u s sense (x ∷ []) a more h = absurd (omega arith)
parts_looked w u s sense (x ∷ y ∷ xs) a more h = (h, refl)

-- what is looked up for a primary, and for what stands behind an operand
module _ (w : World) (u : Unit) (s : Source) (sense : ℕ → Sense) (xs : List ℕ) where
  by_primary : (at : ℕ) (r : Result Around CheckFault) → Looked (FirstFits w u s sense xs) (first_is_strange w s xs) at r → Looked (FitsAround w u s sense p_primary xs) (names_strangely w s p_primary xs) at r
  by_primary at r h =
      looked_on (FirstFits w u s sense xs) (FitsAround w u s sense p_primary xs) (first_is_strange w s xs) (names_strangely w s p_primary xs) at r (λ a fits. record { primary = λ e. fits; post = λ e. absurd (omega (arith, e)) }) refl h

  pub primary_looked : (p at : ℕ) (r : Result Around CheckFault) → p ≡ p_primary → Looked (FirstFits w u s sense xs) (first_is_strange w s xs) at r → Looked (FitsAround w u s sense p xs) (names_strangely w s p xs) at r
  primary_looked p at r e h = subst (λ (q : ℕ). Looked (FitsAround w u s sense q xs) (names_strangely w s q xs) at r) (sym e) (by_primary at r h)

  pub post_looked : (p : ℕ) (a : Around) → p ≡ p_post → w.may_call ≡ a.may_call → FitsAround w u s sense p xs a × (names_strangely w s p xs ≡ false)
  post_looked p a e calls =
      subst (λ (q : ℕ). FitsAround w u s sense q xs a × (names_strangely w s q xs ≡ false)) (sym e) (record { primary = λ e. absurd (omega (arith, e)); post = λ e. calls }, refl)

-- the row over what is looked up
module _ (w : World) (s : Source) (old mid new : Unit) (rs : List Made) (b : Builds old mid) (all : All (IsWithin old) rs) (p at : ℕ) (xs : List ℕ) (r : Result Made CheckFault) where
  pub built_kept : Rowed new r (built_row w s (sense_in (senses_made mid rs)) p at xs) → Rowed new r (built_row w s (sense_in (senses_made old rs)) p at xs)
  built_kept h = subst (λ (senses : List Sense). Rowed new r (built_row w s (sense_in senses) p at xs)) (mades_kept old mid b rs all) h

  pub named_kept : names_strangely w s p xs ≡ false → Rowed new r (built_row w s (sense_in (senses_made mid rs)) p at xs) → Rowed new r (named_row w s (sense_in (senses_made old rs)) p at xs)
  named_kept e h = row_found new (names_strangely w s p xs) at r (built_row w s (sense_in (senses_made old rs)) p at xs) e (built_kept h)
