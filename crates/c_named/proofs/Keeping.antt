-- What goes on standing while types are added.
use Rattle.std.proofs.Common.{arith, ◌≡◌, ℕ, ◌+◌, ◌<◌, Bool, true, false, ◌&&◌, List, All, Option, Some, None, IfSome, length, drop, get_or, refl, sym, ap, ◌∙◌}
use Rattle.std.proofs.lemmas.List.{drop_more}
use Rattle.c_types.specs.declared.term.TypeId.{TypeId}
use Rattle.c_types.specs.Trees.{Ctype}
use Rattle.c_types.specs.Table.{type_of}
use Rattle.core_tree.specs.declared.node.Unit.{Unit}
use Rattle.c_senses.specs.Tree.{Source}
use Rattle.c_senses.specs.Sense.{Sense, sense_in}
use Rattle.c_senses.specs.Entities.{own_type, all_together}
use Rattle.core_nodes.specs.Standing.{Builds}
use Rattle.c_results.specs.declared.made.Made.{Made}
use Rattle.c_results.specs.Standing.{senses_made, IsWithin}
use Rattle.c_results.proofs.Keeping.{mades_kept}
use Rattle.c_entities.specs.Types.{type_in}
use Rattle.c_named.specs.Lists.{is_of, all_of, with_type, types_at}

more_than : (old new : Unit) → Builds old new → (ty : TypeId) → ty.0 < length old.types.terms → ty.0 < length new.types.terms
more_than old new b ty h = omega (arith, b.terms)

module _ (old new : Unit) (b : Builds old new) (results : List Made) (all : All (IsWithin old) results) where
  -- what is read of the senses
  pub read_kept : {X : Type 0} (f : (ℕ → Sense) → X) → f (sense_in (senses_made new results)) ≡ f (sense_in (senses_made old results))
  read_kept f = ap (λ (senses : List Sense). f (sense_in senses)) (mades_kept old new b results all)

  pub own_kept : (s : Source) (leaf : ℕ) → own_type s (sense_in (senses_made new results)) leaf ≡ own_type s (sense_in (senses_made old results)) leaf
  own_kept s leaf = read_kept (λ sense. own_type s sense leaf)

-- a type that is there, if there is one
pub type_kept : (old new : Unit) (b : Builds old new) (o : Option TypeId) → IfSome o (λ t. t.0 < length old.types.terms) → type_in new.types o ≡ type_in old.types o
type_kept old new b None h = refl
type_kept old new b (Some t) h = ap (λ (x : Ctype). Some x) (b.types t.0 h)

types_more : (s : Source) (sense : ℕ → Sense) (leaves : List ℕ) (i : ℕ) → i < length leaves → types_at s sense (drop i leaves) ≡ with_type (own_type s sense (get_or leaves i 0)) (types_at s sense (drop (i + 1) leaves))
types_more s sense leaves i h = ap (types_at s sense) (drop_more leaves i 0 h)

of_more : (s : Source) (sense : ℕ → Sense) (t : Ctype) (leaves : List ℕ) (i : ℕ) → i < length leaves → all_of s sense t (drop i leaves) ≡ (is_of t (own_type s sense (get_or leaves i 0)) && all_of s sense t (drop (i + 1) leaves))
of_more s sense t leaves i h = ap (all_of s sense t) (drop_more leaves i 0 h)

-- one declaration more, in a unit that has grown
module _ (old mid new : Unit) (b : Builds old mid) (d : Builds mid new) (results : List Made) (all : All (IsWithin old) results) (s : Source) (leaves : List ℕ) (i : ℕ) where
  abbrev pub before : ℕ → Sense
  before = sense_in (senses_made old results)

  own_is : (found : Option TypeId) → type_in new.types found ≡ own_type s (sense_in (senses_made mid results)) (get_or leaves i 0) → type_in new.types found ≡ own_type s before (get_or leaves i 0)
  own_is found made = made ∙ own_kept old mid b results all s (get_or leaves i 0)

  pub together_more : (so_far found result : Option TypeId) → i < length leaves → IfSome so_far (λ t. t.0 < length mid.types.terms)
      → ((rest : List Ctype) → all_together (type_in new.types result) rest ≡ all_together (type_in new.types so_far) (with_type (type_in new.types found) rest))
      → type_in new.types found ≡ own_type s (sense_in (senses_made mid results)) (get_or leaves i 0)
      → all_together (type_in mid.types so_far) (types_at s before (drop i leaves)) ≡ all_together None (types_at s before leaves)
      → all_together (type_in new.types result) (types_at s before (drop (i + 1) leaves)) ≡ all_together None (types_at s before leaves)
  together_more so_far found result h within joined made rest =
      let others = types_at s before (drop (i + 1) leaves) in
      joined others
      ∙ (ap (λ (o : Option Ctype). all_together o (with_type (type_in new.types found) others)) (type_kept mid new d so_far within)
      ∙ (ap (λ (o : Option Ctype). all_together (type_in mid.types so_far) (with_type o others)) (own_is found made)
      ∙ (ap (λ (ts : List Ctype). all_together (type_in mid.types so_far) ts) (sym (types_more s before leaves i h)) ∙ rest)))

  of_is : (ty : TypeId) (found : Option TypeId) → ty.0 < length old.types.terms → type_in new.types found ≡ own_type s (sense_in (senses_made mid results)) (get_or leaves i 0)
      → is_of (type_of new.types ty.0) (type_in new.types found) ≡ is_of (type_of old.types ty.0) (own_type s before (get_or leaves i 0))
  of_is ty found within made =
      ap (λ (t : Ctype). is_of t (type_in new.types found)) (d.types ty.0 (more_than old mid b ty within) ∙ b.types ty.0 within)
      ∙ ap (λ (o : Option Ctype). is_of (type_of old.types ty.0) o) (own_is found made)

  pub all_stops : (ty : TypeId) (found : Option TypeId) → i < length leaves → ty.0 < length old.types.terms → type_in new.types found ≡ own_type s (sense_in (senses_made mid results)) (get_or leaves i 0)
      → false ≡ is_of (type_of new.types ty.0) (type_in new.types found)
      → all_of s before (type_of old.types ty.0) (drop i leaves) ≡ all_of s before (type_of old.types ty.0) leaves
      → false ≡ all_of s before (type_of old.types ty.0) leaves
  all_stops ty found h within made fails rest =
      ap (λ (x : Bool). x && all_of s before (type_of old.types ty.0) (drop (i + 1) leaves)) (fails ∙ of_is ty found within made)
      ∙ (sym (of_more s before (type_of old.types ty.0) leaves i h) ∙ rest)

  pub all_more : (ty : TypeId) (found : Option TypeId) → i < length leaves → ty.0 < length old.types.terms → type_in new.types found ≡ own_type s (sense_in (senses_made mid results)) (get_or leaves i 0)
      → true ≡ is_of (type_of new.types ty.0) (type_in new.types found)
      → all_of s before (type_of old.types ty.0) (drop i leaves) ≡ all_of s before (type_of old.types ty.0) leaves
      → all_of s before (type_of old.types ty.0) (drop (i + 1) leaves) ≡ all_of s before (type_of old.types ty.0) leaves
  all_more ty found h within made holds rest =
      ap (λ (x : Bool). x && all_of s before (type_of old.types ty.0) (drop (i + 1) leaves)) (holds ∙ of_is ty found within made)
      ∙ (sym (of_more s before (type_of old.types ty.0) leaves i h) ∙ rest)
