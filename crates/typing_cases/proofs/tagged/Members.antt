-- Members of complete types stay so with a further tag and term.
use Rattle.std.proofs.Common.{arith, ◌≡◌, ◌∙◌, ◌<◌, ◌++◌, ◌∷◌, [], ℕ, List, sym, ap, subst, inl, length, length-append, Option, IsSome}
use Rattle.c_types.specs.declared.term.Term.{Term}
use Rattle.c_types.specs.declared.term.MemberTerm.{MemberTerm}
use Rattle.c_types.specs.Trees.{Ctype}
use Rattle.c_types.specs.Layout.{Extent}
use Rattle.c_types.specs.Table.{Table, type_of, extent_in}
use Rattle.c_types.specs.Made.{AreMembers, HasBits}
use Rattle.typing_cases.specs.tagged.Members.{AllFit}

pub fit_members : (old new : Table) (t : Term) (tag : ℕ) (ms : List MemberTerm) → new.terms ≡ old.terms ++ t ∷ [] → ((i : ℕ) → i < length old.terms → type_of new i ≡ type_of old i) → ((x : Ctype) → extent_in new x ≡ extent_in old x) → AllFit old ms → AreMembers new tag ms
fit_members old new t tag ms longer kept extents fit k m at =
    let (lt, complete, bits) = fit k m at in (
      omega (arith, lt, ap length longer, length-append old.terms (t ∷ [])),
      record {
        object = inl (subst (λ (o : Option Extent). IsSome o) (sym (ap (extent_in new) (kept m.ty.0 lt) ∙ extents (type_of old m.ty.0))) complete);
        bits = subst (λ (x : Ctype). HasBits x m.bits) (sym (kept m.ty.0 lt)) bits;
      },
    )
