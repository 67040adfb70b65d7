-- What is remembered stays so whatever more is made.
use Rattle.std.proofs.Common.{◌≡◌, ℕ, ◌<◌, Option, Some, None, List, [], ◌∷◌, ◌++◌, append-nil, append_assoc, length, length-append, get_or, option_map, refl, sym, ap, ◌∙◌, subst, arith}
use Rattle.std.proofs.lemmas.List.{get_or_append_left, map-append, length-map}
use Rattle.core_tree.specs.declared.node.Unit.{Unit}
use Rattle.c_types.specs.declared.term.TypeId.{TypeId}
use Rattle.c_types.specs.Trees.{Ctype}
use Rattle.c_types.specs.Table.{type_of}
use Rattle.c_results.specs.declared.made.Made.{Made}
use Rattle.c_results.specs.Parts.{declarator_in}
use Rattle.c_results.specs.Standing.{sense_made, senses_made}
use Rattle.core_nodes.specs.passed.c_senses.Sense.{Sense, Derivation, Nothing, sense_in}
use Rattle.core_nodes.specs.passed.c_senses.Declarators.{derived}
use Rattle.core_nodes.specs.passed.c_senses.Entities.{declared_meaning}
use Rattle.tree_reads.specs.declared.syntax.Syntax.{Syntax}
use Rattle.tree_reads.specs.Sources.{source_in}
use Rattle.c_entities.specs.declared.remembered_names.remembered.Remembered.{Remembered}
use Rattle.c_entities.specs.remembered_names.Steps.{with_more, type_by, IsMadeBy}
use Rattle.c_entities.specs.remembered_names.Remembering.{named, IsRemembered, AreRemembered}

-- what has been made stays
pub still : (u : Unit) (results more : List Made) (i : ℕ) → i < length results → with_more u results more i ≡ sense_in (senses_made u results) i
still u results more i lt =
    ap (λ (l : List Sense). get_or l i Nothing) (map-append (sense_made u) results more)
    ∙ get_or_append_left (senses_made u results) (senses_made u more) Nothing i (let long = length-map results (sense_made u) in omega (arith, lt, long))

pub type_later : (u : Unit) (results more : List Made) (base : TypeId) (declarator : Option ℕ) → IsMadeBy results declarator → type_by u (results ++ more) base declarator ≡ type_by u results base declarator
type_later u results more base None m = refl
type_later u results more base (Some d) m =
    ap (λ (x : Sense). option_map (λ (p : Option ℕ × List Derivation). derived p.1 (type_of u.types base.0)) (declarator_in x)) (still u results more d m)

made_later : (results more : List Made) (declarator : Option ℕ) → IsMadeBy results declarator → IsMadeBy (results ++ more) declarator
made_later results more None m = tt
made_later results more (Some d) m = omega (arith, m, length-append results more)

remembered_later : (syntax : Syntax) (results : List Made) (m : Made) (e : Remembered) → IsRemembered syntax results e → IsRemembered syntax (results ++ m ∷ []) e
remembered_later syntax results m e h = record {
  made = made_later results (m ∷ []) e.steps.declarator h.made;
  means = λ u uses more t typed.
      let s = source_in syntax uses in
      let here = h.means u uses (m ∷ more) t (sym (type_later u results (m ∷ []) e.steps.base e.steps.declarator h.made) ∙ typed) in
      subst (λ (l : List Made). declared_meaning s (sense_in (senses_made u l)) e.leaf ≡ Some (named s (sense_in (senses_made u l)) e.is_type e.entity t)) (sym (append_assoc results (m ∷ []) more)) here;
}

-- with one more result
pub memory_more : (syntax : Syntax) (results : List Made) (m : Made) (list : List (Option Remembered)) → AreRemembered syntax results list → AreRemembered syntax (results ++ m ∷ []) list
memory_more syntax results m list h = λ slot e at. remembered_later syntax results m e (h slot e at)

-- what is remembered means that now
pub means_now : (syntax : Syntax) (results : List Made) (e : Remembered) → IsRemembered syntax results e → (u : Unit) (uses : List (ℕ × ℕ)) (t : Ctype) → type_by u results e.steps.base e.steps.declarator ≡ Some t
    → declared_meaning (source_in syntax uses) (sense_in (senses_made u results)) e.leaf ≡ Some (named (source_in syntax uses) (sense_in (senses_made u results)) e.is_type e.entity t)
means_now syntax results e h u uses t typed =
    let s = source_in syntax uses in
    subst (λ (l : List Made). declared_meaning s (sense_in (senses_made u l)) e.leaf ≡ Some (named s (sense_in (senses_made u l)) e.is_type e.entity t)) (append-nil results) (h.means u uses [] t typed)
