-- The location of a part, as the code finds it.
use Rattle.std.proofs.Common.{arith, ◌≡◌, ◌∙◌, inl, inr, ℕ, zero, suc, ◌+◌, ◌<◌, ◌≤◌, ◌^◌, ◌↔◌, List, Option, Some, None, IsSome, IsTrue, slice_get, refl, sym, ap, subst}
use Rattle.std.specs.Option.{option_map, is_some}
use Rattle.std.proofs.lemmas.Bool.{cases_lt, false≢true}
use Rattle.std.proofs.lemmas.Bool.Decides.{nat_tests}
use Rattle.c_types.specs.declared.key.ObjectKey.{ObjectKey}
use Rattle.c_types.specs.declared.term.PathStep.{PathStep}
use Rattle.c_types.specs.Parts.{within_32}
use Rattle.c_types.specs.Table.{Table}
use Rattle.sol_model.specs.Families.{Family, Has}
use Rattle.obj_space.specs.declared.location.Location.{Location}
use Rattle.obj_space.specs.Found.{HasKey, NoObject}
use Rattle.obj_space.specs.Spots.{Reached, node_in, IsSpot}
use Rattle.obj_space.specs.View.{first_from}
use Rattle.covering_laws.specs.covered_memory.Spots.{spot_at, spot_from, spot}
use Rattle.covering_laws.proofs.covered_memory.Firsts.{is_first}
use Rattle.covering_laws.proofs.object_contents.Made.{first_some}
use Rattle.row_covers.specs.declared.parts.End.{End}
use Rattle.row_covers.specs.Parts.{IsEnd}
use Rattle.row_covers.specs.Cells.{Falls}

none_some : {X : Type 0} → {x : X} → ◌≡◌ {A = Option X} None (Some x) → ⊥
none_some h = cc

pub found_is : (table : Table) (space : List Location) (key : ObjectKey) (path : List PathStep) (found : Option ℕ) → IsSpot space table key path found → found ≡ within_32 (spot table space key path)
found_is table space key path found s = by (first_from 0 space key) refl
  where
    nowhere : first_from 0 space key ≡ None → NoObject space key
    nowhere e l has = none_some (sym e ∙ (first_some 0 l space has.0 key has.1 has.2).1)

    by : (o : Option ℕ) → first_from 0 space key ≡ o → found ≡ within_32 (spot_from table space o path)
    by None e = s.none (nowhere e)
    by (Some f) e =
        let first = is_first space key f e in
        let y = first.here in
        s.some f y.0 first y.1 ∙ ap (λ (x : Option Location). within_32 (spot_at table f x path)) (sym y.1)

within_small : (n : ℕ) → n < 2 ^ 32 → within_32 (Some n) ≡ Some n
within_small n small = grind (arith, nat_tests)

within_far : (n : ℕ) → 2 ^ 32 ≤ n → within_32 (Some n) ≡ None
within_far n far = grind (arith, nat_tests)

module _ (F : Family) (small : (row l : ℕ) → Has F row l → l < 2 ^ 32) where
  pub falls_out : (row o : Option ℕ) → Falls F row (within_32 o) → Falls F row o
  falls_out None o h = absurd h
  falls_out (Some row) None h = absurd h
  falls_out (Some row) (Some n) h = elim (cases_lt n (2 ^ 32)) [
    | inl lt ↦ subst (λ (x : Option ℕ). Falls F (Some row) x) (within_small n lt) h
    | inr ge ↦ absurd (subst (λ (x : Option ℕ). Falls F (Some row) x) (within_far n ge) h)
  ]

  pub falls_in : (row o : Option ℕ) → Falls F row o → Falls F row (within_32 o)
  falls_in None o h = absurd h
  falls_in (Some row) None h = absurd h
  falls_in (Some row) (Some n) h = subst (λ (x : Option ℕ). Falls F (Some row) x) (sym (within_small n (small row n h))) h

-- a path has an end where it stands in the tree
pub end_there : (r : Option Reached) (e : Option End) → IsEnd r e → IsTrue (is_some e) → IsSome r
end_there r None h t = absurd (false≢true t)
end_there r (Some e) h t = subst (λ (o : Option Reached). IsSome o) (sym h.1) refl

pub there_end : (r : Option Reached) (e : Option End) → IsEnd r e → IsSome r → IsTrue (is_some e)
there_end r None h t = absurd (false≢true (subst (λ (o : Option Reached). IsSome o) h t))
there_end r (Some e) h t = refl
