-- A table with more types.
use Rattle.std.proofs.Common.{arith, ◌≡◌, ◌∙◌, inl, inr, ℕ, suc, ◌+◌, ◌<◌, List, [], ◌∷◌, ◌++◌, length, length-append, append-nil, append_assoc, map, Some, slice_get, refl, sym, ap, subst}
use Rattle.c_types.specs.declared.term.Term.{Term}
use Rattle.c_types.specs.declared.term.Term.TheVariants.{Void, Bool as BoolTerm, Integer, Floating, VaList, Pointer, Array, Function, Structure, Union}
use Rattle.c_types.specs.declared.term.MemberTerm.{MemberTerm}
use Rattle.c_types.specs.Trees.{Ctype}
use Rattle.c_types.specs.Layout.{Completed, extent_of, looked_up, laid_out}
use Rattle.c_types.specs.Table.{Table, TagMembers, IsAfter, HasTag, type_of, completions}
use Rattle.c_types.specs.Made.{IsMade, AreNamed, AreMembers, IsSized, KeepsApart}
use Rattle.c_types.proofs.Kept.{type_kept}
use Rattle.c_types.proofs.Push.{slice_get_push}
use Rattle.c_types.proofs.MadeLemmas.{made_longer}
use Rattle.covering_laws.specs.grown_programs.Grown.{with_terms, IsSimple, MayFollow, IsKept, TablesGrow}

pub map_same : {X Y : Type 0} (f g : X → Y) (xs : List X) → ((k : ℕ) (x : X) → slice_get xs k ≡ Some x → f x ≡ g x) → map f xs ≡ map g xs
map_same f g [] h = refl
map_same f g (x ∷ xs) h =
    let first = h 0 x refl in
    let rest = map_same f g xs (λ k y at. h (suc k) y at) in
    cc

-- one term more
module _ (table : Table) (t : Term) (made : IsMade table) (named : AreNamed table) (after : IsAfter (length table.terms) t) (sized : IsSized t) (simple : IsSimple t) where
  abbrev longer : Table
  longer = with_terms table (t ∷ [])

  same_type : (id : ℕ) → id < length table.terms → type_of longer id ≡ type_of table id
  same_type id lt = type_kept table.terms t id lt

  same_members : (tag : ℕ) (ms : List MemberTerm) → AreMembers table tag ms → map (λ (m : MemberTerm). type_of longer m.ty.0) ms ≡ map (λ (m : MemberTerm). type_of table m.ty.0) ms
  same_members tag ms are = map_same (λ (m : MemberTerm). type_of longer m.ty.0) (λ (m : MemberTerm). type_of table m.ty.0) ms (λ k m at. same_type m.ty.0 (are k m at).0)

  completed_one : (k : ℕ) (c : TagMembers) → slice_get table.completed k ≡ Some c
      → ◌≡◌ {A = Completed} (record { tag = c.tag; types = map (λ (m : MemberTerm). type_of longer m.ty.0) c.members }) (record { tag = c.tag; types = map (λ (m : MemberTerm). type_of table m.ty.0) c.members })
  completed_one k c at =
      ap (λ (ts : List Ctype). let r : Completed = record { tag = c.tag; types = ts } in r)
      (map_same (λ (m : MemberTerm). type_of longer m.ty.0) (λ (m : MemberTerm). type_of table m.ty.0) c.members (λ j m there. same_type m.ty.0 ((made.ordered k c at) j m there).0))

  same : completions longer ≡ completions table
  same =
      map_same (λ (c : TagMembers). let r : Completed = record { tag = c.tag; types = map (λ (m : MemberTerm). type_of longer m.ty.0) c.members } in r)
      (λ (c : TagMembers). let r : Completed = record { tag = c.tag; types = map (λ (m : MemberTerm). type_of table m.ty.0) c.members } in r) table.completed completed_one

  apart_by : (x : Term) → IsSimple x → KeepsApart table.terms x
  apart_by (Structure tag) h = absurd h
  apart_by (Union tag) h = absurd h
  apart_by (Function r ps f) h = absurd h
  apart_by Void h = tt
  apart_by BoolTerm h = tt
  apart_by (Integer size rank signed) h = tt
  apart_by Floating h = tt
  apart_by VaList h = tt
  apart_by (Pointer to) h = tt
  apart_by (Array of n) h = tt

  tag_by : (x : Term) → IsSimple x → HasTag table.tags x
  tag_by (Structure tag) h = absurd h
  tag_by (Union tag) h = absurd h
  tag_by (Function r ps f) h = absurd h
  tag_by Void h = tt
  tag_by BoolTerm h = tt
  tag_by (Integer size rank signed) h = tt
  tag_by Floating h = tt
  tag_by VaList h = tt
  tag_by (Pointer to) h = tt
  tag_by (Array of n) h = tt

  one_more : IsKept table longer
  one_more = record {
    types = same_type;
    look = ap (λ (cs : List Completed). looked_up (laid_out [] cs)) same;
    extents = λ x. ap (λ (cs : List Completed). extent_of (looked_up (laid_out [] cs)) x) same;
    made = made_longer table t made sized (apart_by t simple) same;
    named = λ i x at. elim (slice_get_push table.terms t i x at) [
      | inl p ↦ named i x p.1
      | inr p ↦ (subst (λ (n : ℕ). IsAfter n x) (sym p.0) (subst (IsAfter (length table.terms)) (sym p.1) after), subst (HasTag table.tags) (sym p.1) (tag_by t simple))
    ];
  }

no_more : (table : Table) → IsMade table → AreNamed table → IsKept table (with_terms table [])
no_more table made named =
    subst (λ (ts : List Term). IsKept table (record table { terms = ts })) (sym (append-nil table.terms)) (record { types = λ id lt. refl; look = refl; extents = λ t. refl; made = made; named = named })

kept_then : (a b c : Table) → ((id : ℕ) → id < length a.terms → id < length b.terms) → IsKept a b → IsKept b c → IsKept a c
kept_then a b c longer first second = record {
  types = λ id lt. second.types id (longer id lt) ∙ first.types id lt;
  look = second.look ∙ first.look;
  extents = λ t. second.extents t ∙ first.extents t;
  made = second.made;
  named = second.named;
}

pub tables_grow : TablesGrow
tables_grow table [] made named follow = no_more table made named
tables_grow table (t ∷ rest) made named follow =
    let one = one_more table t made named follow.0.0 follow.0.1 follow.0.2 in
    let more : length (table.terms ++ t ∷ []) ≡ length table.terms + 1 = length-append table.terms (t ∷ []) in
    let last = tables_grow (with_terms table (t ∷ [])) rest one.made one.named (subst (λ (n : ℕ). MayFollow n rest) (sym more) follow.1) in
    subst (λ (ts : List Term). IsKept table (record table { terms = ts })) (append_assoc table.terms (t ∷ []) rest)
    (kept_then table (with_terms table (t ∷ [])) (with_terms (with_terms table (t ∷ [])) rest) (λ id lt. omega arith) one last)
