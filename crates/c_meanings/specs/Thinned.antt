-- Lists of declarations without those that give their name no more than those before them: a round of declarations
-- that is made again.
use Rattle.std.specs.Prelude.{ℕ, ⊤, ◌≡◌, ◌<◌, ◌||◌, Bool, true, false, List, [], ◌∷◌, ◌++◌, length, get_or, Option}
use Rattle.std.specs.Prelude.{Some, None, IfSome}
use Rattle.core_tree.specs.declared.node.Unit.{Unit}
use Rattle.c_types.specs.declared.term.TypeId.{TypeId}
use Rattle.c_types.specs.Trees.{Ctype}
use Rattle.c_types.specs.Table.{type_of}
use Rattle.c_scope.specs.declared.kinds.Declared.{Declared}
use Rattle.c_senses.specs.Tree.{Source}
use Rattle.c_senses.specs.World.{World}
use Rattle.c_senses.specs.Names.{typing_declarations, ordinary_at}
use Rattle.c_senses.specs.Sense.{Sense, sense_in}
use Rattle.c_senses.specs.Declarators.{outermost_of, specs_of}
use Rattle.c_senses.specs.Entities.{own_type, is_parameter, initialiser_for, is_internal, keep, some_such, first_of}
use Rattle.c_senses.specs.Entities.{types_of, all_together, all_same, defines}
use Rattle.c_results.specs.declared.derivation.Derivation.{Derivation}
use Rattle.c_results.specs.declared.made.Made.{Made}
use Rattle.c_results.specs.Parts.{specified_in, declarator_in}
use Rattle.c_results.specs.Standing.{senses_made, derivations_seen}
use Rattle.tree_reads.specs.declared.syntax.Syntax.{Syntax}
use Rattle.tree_reads.specs.Sources.{source_in}
use Rattle.name_chains.specs.declared.links.Link.{Link}
use Rattle.name_chains.specs.Links.{listed, IsLinkOf, AreBackward, HaveLeaves}
use Rattle.c_meanings.specs.declared.alike.Parts.{Parts}
use Rattle.c_meanings.specs.declared.thinned.End.{End}
use Rattle.c_meanings.specs.declared.thinned.Thinned.{Thinned}
use Rattle.c_meanings.specs.Known.{nodes_in}
use Rattle.c_meanings.specs.Later.{later}

-- the nodes of a declaration that is no parameter; they are among so many
pub record AreParts (s : Source) (count leaf : ℕ) (p : Parts) : Type 0 where
  pub parameter : (sense : ℕ → Sense) → is_parameter s sense leaf ≡ false
  pub initialiser : (sense : ℕ → Sense) → initialiser_for s sense leaf ≡ p.initialiser
  pub declarator : outermost_of s leaf ≡ Some p.declarator
  pub specifiers : specs_of s p.declarator ≡ Some p.specifiers
  pub initialiser_below : IfSome p.initialiser (λ i. i < count)
  pub declarator_below : p.declarator < count
  pub specifiers_below : p.specifiers < count

-- a type and steps have been made for them
pub record IsMade (results : List Made) (p : Parts) (ty : TypeId) (steps : List Derivation) : Type 0 where
  pub name : Option ℕ
  pub specified : (u : Unit)
      → specified_in (sense_in (senses_made u results) p.specifiers) ≡ Some (type_of u.types ty.0)
  pub declared : (u : Unit)
      → declarator_in (sense_in (senses_made u results) p.declarator)
      ≡ Some (name, derivations_seen u.types steps)

-- for both the same type and the same steps
pub record AreMadeAlike (results : List Made) (one other : Parts) : Type 0 where
  pub ty : TypeId
  pub steps : List Derivation
  pub first : IsMade results one ty steps
  pub second : IsMade results other ty steps

-- a declaration gives its name the type that another one gives, and defines it only where that does
pub record IsAlike (s : Source) (sense : ℕ → Sense) (one other : ℕ) : Type 0 where
  pub types : own_type s sense other ≡ own_type s sense one
  pub defined : (w : World) → (defines w s sense one || defines w s sense other) ≡ defines w s sense one

abbrev pub StaysAlike : Syntax → List Made → ℕ → ℕ → Type 0
StaysAlike syntax results one other =
    (u : Unit) (uses : List (ℕ × ℕ)) (more : List Made)
    → IsAlike (source_in syntax uses) (later u results more) one other

-- each of some declarations is like the one at its place among others
abbrev pub StayAlike : Syntax → List Made → List Declared → List Declared → Type 0
StayAlike syntax results [] [] = ⊤
StayAlike syntax results (d ∷ ds) (e ∷ es) =
    StaysAlike syntax results d.node e.node × StayAlike syntax results ds es
StayAlike syntax results ds es = ⊥

-- a list with a declaration more is one that is kept with a round behind it, and what is kept ends with
-- declarations that those are like
pub record IsRound (syntax : Syntax) (results : List Made) (ds kept : List Declared) (d : Declared) : Type 0 where
  pub front : List Declared
  pub first : List Declared
  pub second : List Declared
  pub ends : kept ≡ front ++ first
  pub more : ds ++ d ∷ [] ≡ kept ++ second
  pub alike : StayAlike syntax results first second

-- some of a list of declarations that give what all of it give: the type together, one type, a definition, and the
-- first of them
pub record IsThin (s : Source) (sense : ℕ → Sense) (ds thin : List Declared) : Type 0 where
  pub together : all_together None (types_of s sense thin) ≡ all_together None (types_of s sense ds)
  pub same : (w : World) (t : Ctype) → all_same w s sense t thin ≡ all_same w s sense t ds
  pub defined : (w : World)
      → some_such s sense (λ d. defines w s sense d.node) thin
      ≡ some_such s sense (λ d. defines w s sense d.node) ds
  pub first : (leaf : ℕ) → first_of s sense leaf thin ≡ first_of s sense leaf ds

-- a declaration, if it is wanted
abbrev pub one_if : Bool → Declared → List Declared
one_if true d = d ∷ []
one_if false d = []

-- with more declarations that stays so, whatever is made
abbrev pub GoesOn : Syntax → List Made → List Declared → List Declared → List Declared → Type 0
GoesOn syntax results old added new =
    (u : Unit) (uses : List (ℕ × ℕ)) (more : List Made) (ds : List Declared) →
    IsThin (source_in syntax uses) (later u results more) ds old
    → IsThin (source_in syntax uses) (later u results more) (ds ++ added) new

-- those that give their name internal linkage alone, or all
abbrev pub passes : Bool → Source → (ℕ → Sense) → ℕ → Bool
passes true s sense leaf = is_internal s sense leaf
passes false s sense leaf = true

abbrev pub those : Bool → Source → (ℕ → Sense) → List Declared → List Declared
those true s sense ds = keep s sense (λ d. is_internal s sense d.node) ds
those false s sense ds = ds

abbrev pub StaysWanted : Syntax → List Made → Bool → ℕ → Bool → Type 0
StaysWanted syntax results internal leaf b =
    (u : Unit) (uses : List (ℕ × ℕ)) (more : List Made)
    → b ≡ passes internal (source_in syntax uses) (later u results more) leaf

abbrev pub StaysThin : Syntax → List Made → Bool → List Declared → List Declared → Type 0
StaysThin syntax results internal ds thin =
    (u : Unit) (uses : List (ℕ × ℕ)) (more : List Made)
    → IsThin (source_in syntax uses) (later u results more)
    (those internal (source_in syntax uses) (later u results more) ds) thin

-- the declarations that together give a name its type, thinned, whatever more is made
abbrev pub StaysTyping : Syntax → List Made → ℕ → List Declared → Type 0
StaysTyping syntax results leaf thin =
    (u : Unit) (uses : List (ℕ × ℕ)) (more : List Made) →
    IsThin (source_in syntax uses) (later u results more)
    (typing_declarations (source_in syntax uses) (ordinary_at (source_in syntax uses) leaf)) thin

-- the ends that are kept are those of lists of declarations at so many nodes
pub record AreEnds (n : ℕ) (t : Thinned) : Type 0 where
  pub backward : AreBackward t.links.items
  pub leaves : HaveLeaves n t.links.items
  pub ends : (place : ℕ) (e : End) → get_or t.ends.items place None ≡ Some e → IsLinkOf t.links.items e.last

-- and for each link the end of the thinned list, where one is kept
pub record AreThinned (syntax : Syntax) (results : List Made) (internal : Bool) (links : List Link)
    (t : Thinned) : Type 0 where
  pub many : length t.ends.items ≡ length links
  pub shape : AreEnds (nodes_in syntax) t
  pub thin : (place : ℕ) (e : End)
      → get_or t.ends.items place None ≡ Some e
      → StaysThin syntax results internal (listed links (Some place)) (listed t.links.items e.last)

-- the end that is kept for a list, by its last link; a list without links has no last link
abbrev pub IsEndOf : List (Option End) → Option ℕ → End → Type 0
IsEndOf ends None e = e.last ≡ None
IsEndOf ends (Some place) e = get_or ends place None ≡ Some e
