-- Declarations that give their name the same type for sure.
use Rattle.std.proofs.Common.{◌≡◌, ℕ, ◌<◌, ◌||◌, Option, Some, None, IfSome, List, length, option_map, option_and_then, refl, sym, ap, ◌∙◌}
use Rattle.core_tree.specs.declared.node.Unit.{Unit}
use Rattle.c_types.specs.declared.term.TypeId.{TypeId}
use Rattle.c_types.specs.Trees.{Ctype}
use Rattle.c_types.specs.Table.{type_of}
use Rattle.c_senses.specs.Tree.{Source}
use Rattle.c_senses.specs.World.{World}
use Rattle.c_senses.specs.Sense.{Sense, IsInitial, sense_in}
use Rattle.c_senses.specs.Sense as senses
use Rattle.c_senses.specs.Declarators.{derived, outermost_of, specs_of}
use Rattle.c_senses.specs.Entities.{own_type, is_parameter, parameter_type, declaration_of, length_given_by, with_length, derived_type, specified, specified_of, initialiser_for, defines}
use Rattle.c_results.specs.declared.derivation.Derivation.{Derivation}
use Rattle.c_results.specs.declared.made.Made.{Made}
use Rattle.c_results.specs.Parts.{specified_in, declarator_in}
use Rattle.c_results.specs.Standing.{senses_made, derivations_seen}
use Rattle.c_entities.proofs.Reading.{other, type_seen}
use Rattle.tree_reads.specs.declared.syntax.Syntax.{Syntax}
use Rattle.tree_reads.specs.Sources.{source_read, source_in}
use Rattle.c_meanings.specs.declared.alike.Parts.{Parts}
use Rattle.c_meanings.specs.Later.{later}
use Rattle.c_meanings.specs.Thinned.{AreParts, IsMade, AreMadeAlike, StaysAlike}
use Rattle.c_meanings.proofs.Onward.{still}

-- the type that a declaration gives, with the length that its initialiser gives
own_made : (s : Source) (F : ℕ → Sense) (count leaf : ℕ) (p : Parts) → AreParts s count leaf p → (t : Ctype) (name : Option ℕ) (ds : List senses.Derivation) → specified_in (F p.specifiers) ≡ Some t
    → declarator_in (F p.declarator) ≡ Some (name, ds) → own_type s F leaf ≡ Some (with_length (length_given_by s F p.initialiser) (derived ds t))
own_made s F count leaf p a t name ds base e =
    let at : specified_of s F leaf ≡ specified s F (Some p.specifiers) = ap (λ (o : Option ℕ). specified s F (option_and_then (specs_of s) o)) a.declarator ∙ ap (specified s F) a.specifiers in
    let found : derived_type s F (specified_of s F leaf) (outermost_of s leaf) ≡ Some (derived ds t) =
    sym (type_seen s F (specified_of s F leaf) (outermost_of s leaf) p.specifiers p.declarator t at a.declarator base name ds e) in
    sym (other (is_parameter s F leaf) (parameter_type s F (declaration_of s F leaf)) _ (a.parameter F))
    ∙ (ap (λ (o : Option ℕ). option_map (with_length (length_given_by s F o)) (derived_type s F (specified_of s F leaf) (outermost_of s leaf))) (a.initialiser F)
    ∙ ap (λ (o : Option Ctype). option_map (with_length (length_given_by s F p.initialiser)) o) found)

module _ (syntax : Syntax) (results : List Made) where
  own_later : (leaf : ℕ) (p : Parts) (ty : TypeId) (steps : List Derivation) → AreParts (source_read syntax) (length results) leaf p → IsMade results p ty steps → (u : Unit) (uses : List (ℕ × ℕ)) (more : List Made)
      → own_type (source_in syntax uses) (later u results more) leaf ≡ Some (with_length (length_given_by (source_read syntax) (later u results more) p.initialiser) (derived (derivations_seen u.types steps) (type_of u.types ty.0)))
  own_later leaf p ty steps a m u uses more =
      own_made (source_read syntax) (later u results more) (length results) leaf p a (type_of u.types ty.0) m.name (derivations_seen u.types steps)
      (ap specified_in (still u results more p.specifiers a.specifiers_below) ∙ m.specified u)
      (ap declarator_in (still u results more p.declarator a.declarator_below) ∙ m.declared u)

  -- the length that an initialiser has given stays
  length_still : (o : Option ℕ) → IfSome o (λ i. i < length results) → (u : Unit) (more : List Made) → length_given_by (source_read syntax) (later u results more) o ≡ length_given_by (source_read syntax) (sense_in (senses_made u results)) o
  length_still None h u more = refl
  length_still (Some i) h u more = ap (λ (x : Sense). elim x as (λ _. Option ℕ) [ IsInitial c n ↦ n | _ ↦ None ]) (still u results more i h)

  length_now : (leaf : ℕ) (p : Parts) → AreParts (source_read syntax) (length results) leaf p → (u : Unit) (more : List Made)
      → length_given_by (source_read syntax) (later u results more) p.initialiser
      ≡ length_given_by (source_read syntax) (sense_in (senses_made u results)) (initialiser_for (source_read syntax) (sense_in (senses_made u results)) leaf)
  length_now leaf p a u more =
      let now = sense_in (senses_made u results) in
      length_still p.initialiser a.initialiser_below u more ∙ ap (length_given_by (source_read syntax) now) (sym (a.initialiser now))

  pub alike_stays : (one two : ℕ) (p q : Parts) → AreParts (source_read syntax) (length results) one p → AreParts (source_read syntax) (length results) two q → AreMadeAlike results p q
      → ((u : Unit)
      → length_given_by (source_read syntax) (sense_in (senses_made u results)) (initialiser_for (source_read syntax) (sense_in (senses_made u results)) one)
      ≡ length_given_by (source_read syntax) (sense_in (senses_made u results)) (initialiser_for (source_read syntax) (sense_in (senses_made u results)) two))
      → ((w : World) (sense : ℕ → Sense) → (defines w (source_read syntax) sense one || defines w (source_read syntax) sense two) ≡ defines w (source_read syntax) sense one) → StaysAlike syntax results one two
  alike_stays one two p q a b m lengths d = λ u uses more.
      let F = later u results more in
      let whole : Option ℕ → Option Ctype = λ n. Some (with_length n (derived (derivations_seen u.types m.steps) (type_of u.types m.ty.0))) in
      record {
        types =
            own_later two q m.ty m.steps b m.second u uses more
            ∙ (ap whole (length_now two q b u more ∙ (sym (lengths u) ∙ sym (length_now one p a u more))) ∙ sym (own_later one p m.ty m.steps a m.first u uses more));
        defined = λ w. d w F;
      }
