-- The types of instances stay those of a table, and their keys stay, where instances change, end and come.
use Rattle.std.proofs.Common.{◌≡◌, ℕ, zero, suc, List, [], ◌∷◌, ◌++◌, Option, Some, None, map, filter, set, get_or, slice_get, refl, ap, sym, ◌∙◌}
use Rattle.std.specs.Prelude.{Bool, true, false, if◌then◌else◌, is_some}
use Rattle.c_types.specs.declared.key.ObjectKey.{ObjectKey}
use Rattle.c_types.specs.declared.term.TypeId.{TypeId}
use Rattle.c_types.specs.Table.{Table, type_of, extent_in}
use Rattle.std.proofs.lemmas.List.Elements.{All-append, All-map, All-set}
use Rattle.core_tree.specs.declared.node.Entity.{Entity}
use Rattle.core_tree.specs.Typed.{CoreTrees}
use Rattle.core_tree.specs.Range.{InRange}
use Rattle.std.specs.Prelude.{length}
use Rattle.ref_cells.specs.declared.instance.Instance.{Instance}
use Rattle.ref_cells.specs.Places.{IsKnown, AreKnown}
use Rattle.ref_mem.specs.Writes.{changed}
use Rattle.ref_values.specs.Memory.{complete_only}
use Rattle.covering_laws.proofs.covered_needs.Grounded.{complete_known}
use Rattle.ref_lib.specs.memory_laws.Kept.{Follows, Stands, is_ended}
use Rattle.ref_lib.proofs.memory_laws.Follow.{known_at}
use Rattle.ref_state.specs.Changes.{Blocks, ended_one, ended_all}
use Rattle.ref_blocks.specs.declared.block.Block.{Block}
use Rattle.ref_blocks.specs.declared.block.Block.TheVariants.{Part}
use Rattle.ref_blocks.specs.Around.{objects_of}
use Rattle.ref_blocks.specs.Blocks.{id_in, unset_object, is_of, entered, left, all_left, all_entered}
use Rattle.ref_statements.specs.Statements.{parts_left}
use Rattle.ref_machine.specs.Standing.{key_in, IsAfter}

set_keys : (memory : List Instance) (i j : ℕ) (a b : Instance) → slice_get memory i ≡ Some a → b.key ≡ a.key → key_in (slice_get (set memory i b) j) ≡ key_in (slice_get memory j)
set_keys [] i j a b at e = refl
set_keys (x ∷ xs) zero zero a b at e = let same : x ≡ a = cc in ap Some (e ∙ ap (λ (y : Instance). y.key) (sym same))
set_keys (x ∷ xs) zero (suc j) a b at e = refl
set_keys (x ∷ xs) (suc i) zero a b at e = refl
set_keys (x ∷ xs) (suc i) (suc j) a b at e = set_keys xs i j a b at e

append_key : (memory fresh : List Instance) (i : ℕ) (key : ObjectKey) → key_in (slice_get memory i) ≡ Some key → key_in (slice_get (memory ++ fresh) i) ≡ Some key
append_key [] fresh i key h = cc
append_key (x ∷ xs) fresh zero key h = h
append_key (x ∷ xs) fresh (suc i) key h = append_key xs fresh i key h

-- a memory is after itself
pub after_itself : (types : ℕ) (memory : List Instance) → AreKnown types memory → IsAfter types memory memory
after_itself types memory known = record { known = known; keys = λ i inst at. ap key_in at }

-- objects come behind a memory
pub joined_known : (types : ℕ) (first memory fresh : List Instance) → IsAfter types first memory → AreKnown types fresh → IsAfter types first (memory ++ fresh)
joined_known types first memory fresh h k = record {
  known = All-append (λ (inst : Instance). IsKnown types inst.ty) memory fresh h.known k;
  keys = λ i inst at. append_key memory fresh i inst.key (h.keys i inst at);
}

-- what a call of the library leaves
pub followed : (types : ℕ) (ends : Option ℕ) (first old new : List Instance) → Follows types ends old new → IsAfter types first old → IsAfter types first new
followed types ends first old new f h = record {
  known = f.known;
  keys = λ i inst at. by i inst.key (slice_get old i) refl (h.keys i inst at);
}
  where
    stood : (ended : Bool) (y : Instance) (key : ObjectKey) (o : Option Instance) → Stands ended y o → y.key ≡ key → key_in o ≡ Some key
    stood ended y key None s e = absurd s
    stood ended y key (Some z) s e = ap Some (s.key ∙ e)

    by : (i : ℕ) (key : ObjectKey) (o : Option Instance) → slice_get old i ≡ o → key_in o ≡ Some key → key_in (slice_get new i) ≡ Some key
    by i key None at e = cc
    by i key (Some y) at e = let same : y.key ≡ key = cc in stood (is_ended ends i) y key (slice_get new i) (f.stands i y at) same

pub changed_known : (types : ℕ) (first memory : List Instance) (i : ℕ) (change : Instance → Instance) → IsAfter types first memory →
    ((a : Instance) → IsKnown types a.ty → IsKnown types (change a).ty) → ((a : Instance) → (change a).key ≡ a.key) →
    IsAfter types first (changed memory i (slice_get memory i) change)
changed_known types first memory i change h keeps same = at (slice_get memory i) refl
  where
    at : (o : Option Instance) → slice_get memory i ≡ o → IsAfter types first (changed memory i o change)
    at None e = h
    at (Some a) e = record {
      known = All-set (λ (inst : Instance). IsKnown types inst.ty) memory i (change a) (keeps a (known_at types memory i a h.known e)) h.known;
      keys = λ j inst found. set_keys memory i j a (change a) e (same a) ∙ h.keys j inst found;
    }

ended_one_known : (types : ℕ) (first memory : List Instance) (i : ℕ) → IsAfter types first memory → IsAfter types first (ended_one memory i)
ended_one_known types first memory i h = changed_known types first memory i (λ inst. record inst { live = false }) h (λ a k. k) (λ a. refl)

pub ended_known : (types : ℕ) (first memory : List Instance) (ended : List ℕ) → IsAfter types first memory → IsAfter types first (ended_all memory ended)
ended_known types first memory [] h = h
ended_known types first memory (i ∷ rest) h = ended_known types first (ended_one memory i) rest (ended_one_known types first memory i h)

-- an object that gets a type gets a complete one
complete_if : (table : Table) (b : Bool) (to : TypeId) → is_some (extent_in table (type_of table to.0)) ≡ b → IsKnown (length table.terms) (if b then Some to else None)
complete_if table true to q = complete_known table to.0 q
complete_if table false to q = tt

pub complete_only_known : (table : Table) (o : Option TypeId) → IsKnown (length table.terms) (complete_only table o)
complete_only_known table None = tt
complete_only_known table (Some to) = complete_if table (is_some (extent_in table (type_of table to.0))) to refl

module _ (u : CoreTrees) (first : List Instance) (range : InRange u) where
  abbrev K : List Instance → Type 0
  K memory = IsAfter (length u.types.terms) first memory

  object_known : (e : ℕ) → IsKnown (length u.types.terms) (id_in (slice_get u.entities e))
  object_known e = at (slice_get u.entities e) refl
    where
      at : (o : Option Entity) → slice_get u.entities e ≡ o → IsKnown (length u.types.terms) (id_in o)
      at None h = tt
      at (Some x) h = range.entity_types e x h

  pub entered_known : (b : Block) (s : Blocks) → K s.memory → K (entered u b s).memory
  entered_known b s h =
      joined_known (length u.types.terms) first s.memory (map (unset_object u) (objects_of u b)) h
      (All-map (λ (inst : Instance). IsKnown (length u.types.terms) inst.ty) (unset_object u) (objects_of u b) (λ i d less. object_known (get_or (objects_of u b) i d)))

  pub left_known : (b : Block) (s : Blocks) → K s.memory → K (left u b s).memory
  left_known b s h = ended_known (length u.types.terms) first s.memory (filter (λ i. is_of (objects_of u b) (slice_get s.memory i)) s.own) h

  pub all_left_known : (bs : List Block) (s : Blocks) → K s.memory → K (all_left u bs s).memory
  all_left_known [] s h = h
  all_left_known (b ∷ bs) s h = all_left_known bs (left u b s) (left_known b s h)

  pub all_entered_known : (bs : List Block) (s : Blocks) → K s.memory → K (all_entered u bs s).memory
  all_entered_known [] s h = h
  all_entered_known (b ∷ bs) s h = all_entered_known bs (entered u b s) (entered_known b s h)

  pub parts_left_known : (parts : List ℕ) (s : Blocks) → K s.memory → K (parts_left u parts s).memory
  parts_left_known [] s h = h
  parts_left_known (part ∷ rest) s h = parts_left_known rest (left u (Part part) s) (left_known (Part part) s h)
