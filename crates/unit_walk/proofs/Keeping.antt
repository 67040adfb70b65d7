-- What has been made goes on standing while a unit grows.
use Rattle.std.proofs.Common.{arith, ◌≡◌, ℕ, ◌<◌, List, [], ◌∷◌, All, length, map, refl, sym, ap, subst}
use Rattle.std.proofs.lemmas.List.Elements.{All-head, All-tail, All-weaker, All-cons}
use Rattle.c_types.specs.declared.term.MemberTerm.{MemberTerm}
use Rattle.c_types.specs.Trees.{Ctype}
use Rattle.c_consts.specs.Core.{Core}
use Rattle.core_tree.specs.declared.node.Unit.{Unit}
use Rattle.c_inits.specs.Made.{Part, TagParts}
use Rattle.c_inits.specs.Tables.{part_with, part_of}
use Rattle.c_senses.specs.Sense.{IsCore, IsType, IsSpecified, IsDeclarator, IsDerivation, IsParameter, IsMembers, IsRun, IsInitial}
use Rattle.core_nodes.specs.Once.{HasOnce}
use Rattle.core_nodes.specs.Standing.{core_at}
use Rattle.c_results.specs.declared.made.Made.{Made}
use Rattle.c_results.specs.declared.made.Made.TheVariants as made
use Rattle.c_results.specs.Standing.{sense_made, senses_made, IsWithin}
use Rattle.c_results.proofs.Keeping.{derivation_kept, derivations_kept, derivable_more, derivables_more, made_kept, within_kept}
use Rattle.unit_walk.specs.unit_rows.PassedOn.{Keeps}
use Rattle.unit_worlds.specs.Growing.{Completes, Grows}
use Rattle.unit_walk.specs.unit_rows.Standing.{AreKept}

map_same : {X Y : Type 0} (P : X → Type 0) (f g : X → Y) → ((x : X) → P x → f x ≡ g x) → (xs : List X) → All P xs → map f xs ≡ map g xs
map_same P f g h [] all = refl
map_same {X} {Y} P f g h (x ∷ xs) all =
    let first : f x ≡ g x = h x (All-head P x xs all) in
    let rest : map f xs ≡ map g xs = map_same P f g h xs (All-tail P x xs all) in
    cc

-- when a tag is completed
module _ (old new : Unit) (tag : ℕ) (parts : List Part) (b : Completes old new tag parts) where
  made_completed : (m : Made) → IsWithin old m → sense_made new m ≡ sense_made old m
  made_completed made.Nothing h = refl
  made_completed (made.Node i) h = ap IsCore (b.cores i h)
  made_completed (made.Typed t) h = ap IsType (b.types t.0 h)
  made_completed (made.Specifiers storage functions ty) h =
      ap (λ (t : Ctype). IsSpecified (record { storage = storage.items; functions = functions.items; type = t })) (b.types ty.0 h)
  made_completed (made.Declarator name ds) h = ap (IsDeclarator name) (derivations_kept old.types new.types b.types ds.items h)
  made_completed (made.Derived d) h = ap IsDerivation (derivation_kept old.types new.types b.types d h)
  made_completed (made.Parameter name ty) h = ap (λ (t : Ctype). IsParameter (record { name = name; type = t })) (b.types ty.0 h)
  made_completed (made.Members members) h =
      ap IsMembers (map_same (λ (m : MemberTerm). m.ty.0 < length old.types.terms) (part_of new.types) (part_of old.types) (λ m k. ap (λ (t : Ctype). part_with m t) (b.types m.ty.0 k)) members.items h)
  made_completed (made.Value n) h = refl
  made_completed (made.Run nodes) h = ap IsRun (map_same (λ (i : ℕ). i < length old.nodes.items) (core_at new) (core_at old) b.cores nodes.items h)
  made_completed (made.Initial node count) h = ap (λ (c : Core). IsInitial c count) (b.cores node h)

  within_completed : (m : Made) → IsWithin old m → IsWithin new m
  within_completed made.Nothing h = tt
  within_completed (made.Node i) h = omega (arith, b.more)
  within_completed (made.Typed t) h = omega (arith, b.terms)
  within_completed (made.Specifiers storage functions ty) h = omega (arith, b.terms)
  within_completed (made.Declarator name ds) h = derivables_more old.types new.types b.terms ds.items h
  within_completed (made.Derived d) h = derivable_more old.types new.types b.terms d h
  within_completed (made.Parameter name ty) h = omega (arith, b.terms)
  within_completed (made.Members members) h =
      All-weaker (λ (m : MemberTerm). m.ty.0 < length old.types.terms) (λ (m : MemberTerm). m.ty.0 < length new.types.terms) (λ m k. omega (arith, b.terms)) members.items h
  within_completed (made.Value n) h = tt
  within_completed (made.Run nodes) h =
      All-weaker (λ (i : ℕ). i < length old.nodes.items) (λ (i : ℕ). i < length new.nodes.items) (λ i k. omega (arith, b.more)) nodes.items h
  within_completed (made.Initial node count) h = omega (arith, b.more)

module _ (old new : Unit) where
  made_grown : (es : List TagParts) → Grows old new es → (m : Made) → IsWithin old m → sense_made new m ≡ sense_made old m
  made_grown [] b m h = made_kept old new b m h
  made_grown (c ∷ rest) b m h = made_completed old new c.tag c.members b m h

  within_grown : (es : List TagParts) → Grows old new es → (m : Made) → IsWithin old m → IsWithin new m
  within_grown [] b m h = within_kept old new b m h
  within_grown (c ∷ rest) b m h = within_completed old new c.tag c.members b m h

  pub mades_grown : (es : List TagParts) → Grows old new es → (ms : List Made) → All (IsWithin old) ms → senses_made new ms ≡ senses_made old ms
  mades_grown es b ms all = map_same (IsWithin old) (sense_made new) (sense_made old) (made_grown es b) ms all

  pub withins_grown : (es : List TagParts) → Grows old new es → (ms : List Made) → All (IsWithin old) ms → All (IsWithin new) ms
  withins_grown es b ms all = All-weaker (IsWithin old) (IsWithin new) (within_grown es b) ms all

  pub kept_grown : (count : ℕ) (es : List TagParts) → Grows old new es → (ms : List Made) → All (IsWithin old) ms → AreKept count old ms → AreKept count new ms
  kept_grown count es b [] all h = λ k d lt. absurd (omega arith)
  kept_grown count es b (m ∷ ms) all h =
      All-cons (λ (r : Made). Keeps count (sense_made new r)) m ms
      (subst (Keeps count) (sym (made_grown es b m (All-head (IsWithin old) m ms all))) (All-head (λ (r : Made). Keeps count (sense_made old r)) m ms h))
      (kept_grown count es b ms (All-tail (IsWithin old) m ms all) (All-tail (λ (r : Made). Keeps count (sense_made old r)) m ms h))

  pub entities_grown : (es : List TagParts) → Grows old new es → new.entities.items ≡ old.entities.items
  entities_grown [] b = b.entities
  entities_grown (c ∷ rest) b = b.entities

  pub once_grown : (es : List TagParts) → Grows old new es → HasOnce old.types → HasOnce new.types
  once_grown [] b = b.once
  once_grown (c ∷ rest) b = b.once
