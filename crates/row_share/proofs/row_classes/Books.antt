-- Steps of gathering copies in a book, and small steps of other loops.
use Rattle.std.proofs.Common.{◌≡◌, ◌↔◌, ◌⊎◌, ℕ, ◌+◌, ◌<◌, ◌≤◌, Bool, true, false, List, [], ◌∷◌, ◌++◌, Result, Ok, Err, OnOk, IfOk, length, take, drop, get_or, Some, slice_get, MatchBool, Contains, sym, ◌∙◌, ap, subst, inl, inr, arith}
use Rattle.std.proofs.lemmas.List.{take_more, take_all, drop_all, append-nil, get_or_default}
use Rattle.std.proofs.lemmas.List.Elements.{Contains-append_left, Contains-push, Contains-push_cases}
use Rattle.std.proofs.lemmas.Option.{get_or_from_slice_get, slice_get_within}
use Rattle.sol_model.specs.declared.system.System.{System}
use Rattle.sol_model.specs.declared.system.Constraint.{Constraint}
use Rattle.sol_model.specs.declared.system.Constraint.TheVariants.{Copy}
use Rattle.edge_book.specs.Leaving.{targets_of}
use Rattle.edge_book.proofs.Targets.{target_listed, listed_target}
use Rattle.row_share.specs.share_laws.Orders.{AreTargets, AreSources}
use Rattle.row_share.specs.declared.row_classes.inflow.Inflow.{Inflow}
use Rattle.row_share.specs.declared.row_classes.inflow.Inflow.TheVariants.{More}
use Rattle.row_share.specs.row_classes.Flowing.{inflow_at}

book_after : (b : Bool) (old new : List (ℕ × ℕ)) (p q : ℕ × ℕ) → MatchBool b (new ≡ old ++ p ∷ []) (new ≡ old) → MatchBool b (Contains old p → ⊥) (Contains old p) → Contains new q ↔ (Contains old q ⊎ (p ≡ q))
book_after true old new p q e n = (
  λ h. Contains-push_cases old p q (subst (λ (xs : List (ℕ × ℕ)). Contains xs q) e h),
  λ h. subst (λ (xs : List (ℕ × ℕ)). Contains xs q) (sym e) (elim h [
    | inl older ↦ Contains-append_left old (p ∷ []) q older
    | inr same ↦ subst (Contains (old ++ p ∷ [])) same (Contains-push old p)
  ]),
)
book_after false old new p q e has = (
  λ h. inl (subst (λ (xs : List (ℕ × ℕ)). Contains xs q) e h),
  λ h. subst (λ (xs : List (ℕ × ℕ)). Contains xs q) (sym e) (elim h [ inl older ↦ older | inr same ↦ subst (Contains old) same has ]),
)

pub copy_after : (b : Bool) (old new : List (ℕ × ℕ)) (f t : ℕ) (constraint : Constraint) → MatchBool b (new ≡ old ++ (f, t) ∷ []) (new ≡ old) → MatchBool b (Contains old (f, t) → ⊥) (Contains old (f, t)) → constraint ≡ Copy f t
    → (from to : ℕ) → Contains new (from, to) ↔ (Contains old (from, to) ⊎ (constraint ≡ Copy from to))
copy_after b old new f t constraint e n is from to =
    let w = book_after b old new (f, t) (from, to) e n in (
      λ h. elim (w.0 h) [ inl older ↦ inl older | inr same ↦ inr (is ∙ ap (λ (p : ℕ × ℕ). Copy p.0 p.1) same) ],
      λ h. w.1 (elim h [
        | inl older ↦ inl older
        | inr also ↦ (let both = sym is ∙ also in let x : f ≡ from = cc in let y : t ≡ to = cc in inr (λ i. (x i, y i)))
      ]),
    )

pub copy_after_back : (b : Bool) (old new : List (ℕ × ℕ)) (f t : ℕ) (constraint : Constraint) → MatchBool b (new ≡ old ++ (t, f) ∷ []) (new ≡ old) → MatchBool b (Contains old (t, f) → ⊥) (Contains old (t, f)) → constraint ≡ Copy f t
    → (from to : ℕ) → Contains new (to, from) ↔ (Contains old (to, from) ⊎ (constraint ≡ Copy from to))
copy_after_back b old new f t constraint e n is from to =
    let w = book_after b old new (t, f) (to, from) e n in (
      λ h. elim (w.0 h) [ inl older ↦ inl older | inr same ↦ inr (is ∙ ap (λ (p : ℕ × ℕ). Copy p.1 p.0) same) ],
      λ h. w.1 (elim h [
        | inl older ↦ inl older
        | inr also ↦ (let both = sym is ∙ also in let x : f ≡ from = cc in let y : t ≡ to = cc in inr (λ i. (y i, x i)))
      ]),
    )

-- one constraint more
pub book_more : (A A' : Type 0) (constraints : List Constraint) (i : ℕ) (constraint x : Constraint) → slice_get constraints i ≡ Some constraint → A ↔ Contains (take i constraints) x → A' ↔ (A ⊎ (constraint ≡ x)) → A' ↔ Contains (take (i + 1) constraints) x
book_more A A' constraints i constraint x at old new =
    let e : take (i + 1) constraints ≡ take i constraints ++ constraint ∷ [] =
    take_more constraints i constraint (slice_get_within constraints i constraint at) ∙ ap (λ (c : Constraint). take i constraints ++ c ∷ []) (get_or_from_slice_get constraints i constraint constraint at) in (
      λ h. subst (λ (cs : List Constraint). Contains cs x) (sym e) (elim (new.0 h) [
        | inl older ↦ Contains-append_left (take i constraints) (constraint ∷ []) x (old.0 older)
        | inr same ↦ subst (Contains (take i constraints ++ constraint ∷ [])) same (Contains-push (take i constraints) constraint)
      ]),
      λ h. new.1 (elim (Contains-push_cases (take i constraints) constraint x (subst (λ (cs : List Constraint). Contains cs x) e h)) [
        | inl older ↦ inl (old.1 older)
        | inr same ↦ inr same
      ]),
    )

pub are_targets : (S : System) (book : List (ℕ × ℕ)) (i : ℕ) → length S.constraints ≤ i → ((from to : ℕ) → Contains book (from, to) ↔ Contains (take i S.constraints) (Copy from to)) → AreTargets S (λ row. targets_of row book)
are_targets S book i all h = record {
  listed = λ from to copy. target_listed from to book ((h from to).1 (subst (λ (cs : List Constraint). Contains cs (Copy from to)) (sym (take_all i S.constraints all)) copy));
  copies = λ from to there. subst (λ (cs : List Constraint). Contains cs (Copy from to)) (take_all i S.constraints all) ((h from to).0 (listed_target from to book there));
}

pub are_sources : (S : System) (book : List (ℕ × ℕ)) (i : ℕ) → length S.constraints ≤ i → ((from to : ℕ) → Contains book (to, from) ↔ Contains (take i S.constraints) (Copy from to)) → AreSources S (λ row. targets_of row book)
are_sources S book i all h = record {
  listed = λ from to copy. target_listed to from book ((h from to).1 (subst (λ (cs : List Constraint). Contains cs (Copy from to)) (sym (take_all i S.constraints all)) copy));
  copies = λ from to there. subst (λ (cs : List Constraint). Contains cs (Copy from to)) (take_all i S.constraints all) ((h from to).0 (listed_target to from book there));
}

pub at_any : (xs : List Inflow) (i : ℕ) (d x : Inflow) → i < length xs → get_or xs i d ≡ x → inflow_at xs i ≡ x
at_any xs i d x lt e = get_or_default xs i More d lt ∙ e

pub on_ok : {X E : Type 0} (r : Result X E) (P Q : Type 0) → (P → Q) → OnOk r P → OnOk r Q
on_ok (Ok x) P Q f h = f h
on_ok (Err e) P Q f h = h

-- what was written over the whole of a vector
pub written : {X : Type 0} (n : ℕ) (old new : List X) → length new ≡ n → length old ≤ n → take n (new ++ drop (length new) old) ≡ new
written {X} n old new long short =
    ap (λ (xs : List X). take n (new ++ xs)) (drop_all (length new) old (omega arith)) ∙ ap (take n) (append-nil new) ∙ take_all n new (omega arith)

pub if_ok : {X E : Type 0} (r : Result X E) (P Q : X → Type 0) → ((x : X) → P x → Q x) → IfOk r P → IfOk r Q
if_ok (Ok x) P Q f h = f x h
if_ok (Err e) P Q f h = h
