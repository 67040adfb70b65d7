-- Members of complete types stay so with a further tag and term.
use Rattle.std.proofs.Common.{arith, ◌≡◌, ◌∙◌, ◌<◌, ◌++◌, ◌∷◌, [], ℕ, List, sym, ap, subst, inl, length, length-append, slice_get, Some, Option, IsSome, refl}
use Rattle.c_types.specs.declared.term.Term.{Term}
use Rattle.c_types.specs.declared.term.MemberTerm.{MemberTerm}
use Rattle.c_types.specs.Trees.{Ctype}
use Rattle.c_types.specs.Layout.{Extent}
use Rattle.c_types.specs.Table.{Table, type_of, extent_in}
use Rattle.c_types.specs.Made.{ArePlain, AreMembers, HasBits}

pub plain_members : (old new : Table) (t : Term) (tag : ℕ) (ms : List MemberTerm) → new.terms ≡ old.terms ++ t ∷ [] → ((i : ℕ) → i < length old.terms → type_of new i ≡ type_of old i) → ((x : Ctype) → extent_in new x ≡ extent_in old x) → ArePlain old ms → AreMembers new tag ms
plain_members old new t tag ms longer kept extents plain k m at =
    let (lt, complete, bits) = plain k m at in (
      omega (arith, lt, ap length longer, length-append old.terms (t ∷ [])),
      record {
        object = inl (subst (λ (o : Option Extent). IsSome o) (sym (ap (extent_in new) (kept m.ty.0 lt) ∙ extents (type_of old m.ty.0))) complete);
        bits = subst (HasBits (type_of new m.ty.0)) (sym bits) tt;
      },
    )

pub last_term : (ts : List Term) (t : Term) → slice_get (ts ++ t ∷ []) (length ts) ≡ Some t
last_term [] t = refl
last_term (x ∷ ts) t = last_term ts t
