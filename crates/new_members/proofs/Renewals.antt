-- What a row's readers demand for its new members, one after another.
use Rattle.std.proofs.Common.{◌≡◌, ◌⊎◌, ◌↔◌, ℕ, ◌+◌, ◌<◌, ◌≤◌, true≢false, eqb, List, [], length, get_or, Some, slice_get, Contains, sym, ap, ◌∙◌, subst, inl, inr, arith, eqb-true}
use Rattle.std.specs.List.{list_any}
use Rattle.std.proofs.lemmas.Bool.{cases_eq, cases_Bool}
use Rattle.std.proofs.lemmas.Cmp.{nat_eq_equiv}
use Rattle.std.proofs.lemmas.List.{append-nil}
use Rattle.std.proofs.lemmas.Map.Views.{list_any-from_Contains, Contains-from_any}
use Rattle.std.proofs.lemmas.Option.{same_Some, get_or_from_slice_get}
use Rattle.sol_model.specs.declared.system.System.{System}
use Rattle.sol_model.specs.declared.system.Constraint.{Constraint}
use Rattle.sol_model.specs.Families.{Family}
use Rattle.sol_model.proofs.Members.{Contains-at, at_Contains}
use Rattle.edge_book.specs.Edges.{Gains}
use Rattle.edge_book.specs.Leaving.{targets_of}
use Rattle.edge_book.proofs.Targets.{target_listed}
use Rattle.new_members.specs.News.{Extends, IsGrown, IsReader, Reads, Renews}

pub renews_from : (old new : List (ℕ × ℕ)) (Edge Before After : ℕ → ℕ → Type 0) → Gains old new Edge → ((a b : ℕ) → Edge a b → After a b) → ((a b : ℕ) → After a b → Before a b ⊎ Edge a b) → Renews old new Before After
renews_from old new Edge Before After g to from = record {
  stays = λ a b h. (g a b).1 (inl h);
  sound = λ a b h. elim ((g a b).0 h) [ inl o ↦ inl o | inr e ↦ inr (to a b e) ];
  whole = λ a b h. elim (from a b h) [ inl o ↦ inl o | inr e ↦ inr ((g a b).1 (inr e)) ];
}

pub extends_none : (old : List (ℕ × ℕ)) → Extends old old
extends_none old = ([], sym (append-nil old))

-- a constraint that reads a row
pub reads_of : (S : System) (row number : ℕ) (constraint : Constraint) → IsReader S row number → slice_get S.constraints number ≡ Some constraint → Reads S constraint row
reads_of S row number constraint r at = subst (λ (c : Constraint). Reads S c row) (same_Some r.0 constraint (sym r.1 ∙ at)) r.2

-- the first i of the constraints of a list
pub record Renewing (S : System) (D : Family → Constraint → ℕ → ℕ → Type 0) (G : Family) (row : ℕ) (new items : List ℕ) (i : ℕ) (old mid : List (ℕ × ℕ)) : Type 0 where
  pub stays : (a b : ℕ) → Contains old (a, b) → Contains mid (a, b)
  pub sound : (a b : ℕ) → Contains mid (a, b) → Contains old (a, b) ⊎ ((constraint : Constraint) × Contains S.constraints constraint × D G constraint a b)
  pub whole : (F : Family) → IsGrown F G row new → (k : ℕ) (constraint : Constraint) → k < i → slice_get S.constraints (get_or items k 0) ≡ Some constraint → (a b : ℕ) → D G constraint a b → D F constraint a b ⊎ Contains mid (a, b)

module _ (S : System) (D : Family → Constraint → ℕ → ℕ → Type 0) (G : Family) (row : ℕ) (new items : List ℕ) where
  pub renewing_start : (old : List (ℕ × ℕ)) → Renewing S D G row new items 0 old old
  renewing_start old = record { stays = λ a b h. h; sound = λ a b h. inl h; whole = λ F g k constraint lt. absurd (omega arith) }

  pub renewing_next : (i : ℕ) (old mid next : List (ℕ × ℕ)) (listed : Constraint) → Renewing S D G row new items i old mid → slice_get S.constraints (get_or items i 0) ≡ Some listed
      → ((F : Family) (constraint : Constraint) → IsGrown F G row new → slice_get S.constraints (get_or items i 0) ≡ Some constraint → Renews mid next (D F constraint) (D G constraint))
      → Renewing S D G row new items (i + 1) old next
  renewing_next i old mid next listed r there more =
      let here : Renews mid next (D G listed) (D G listed) = more G listed (λ r l h. inl h) there in record {
        stays = λ a b h. here.stays a b (r.stays a b h);
        sound = λ a b h. elim (here.sound a b h) [
          | inl m ↦ r.sound a b m
          | inr e ↦ inr (listed, Contains-at S.constraints (get_or items i 0) listed there, e)
        ];
        whole = λ F g k constraint lt at a b d. elim (cases_eq k i) [
          | inl e ↦ (more F constraint g (ap (λ (n : ℕ). slice_get S.constraints (get_or items n 0)) (sym e) ∙ at)).whole a b d
          | inr ne ↦ elim (r.whole F g k constraint (omega arith) at a b d) [ inl o ↦ inl o | inr m ↦ inr (here.stays a b m) ]
        ];
      }

  pub renewing_done : (i : ℕ) (old next readers : List (ℕ × ℕ)) → length items ≤ i → items ≡ targets_of row readers → ((at number : ℕ) → (Contains readers (at, number) ↔ IsReader S at number))
      → ((F : Family) → IsGrown F G row new → (constraint : Constraint) (a b : ℕ) → (Reads S constraint row → ⊥) → D G constraint a b → D F constraint a b)
      → Renewing S D G row new items i old next → (F : Family) → IsGrown F G row new
      → Renews old next (λ a b. (constraint : Constraint) × Contains S.constraints constraint × D F constraint a b) (λ a b. (constraint : Constraint) × Contains S.constraints constraint × D G constraint a b)
  renewing_done i old next readers past are iff unread r F g = record {
    stays = r.stays;
    sound = r.sound;
    whole = λ a b h.
        (let constraint : Constraint = h.0 in
        let n = at_Contains S.constraints constraint h.1 in
        elim (cases_Bool (list_any (eqb n.0) items)) [
          | inl holds ↦ (let has = at_Contains items n.0 (Contains-from_any eqb-true n.0 items holds) in
              let same : get_or items has.0 0 ≡ n.0 = get_or_from_slice_get items has.0 n.0 0 has.2 in
              let lt : has.0 < i = (let l = has.1 in omega arith) in
              elim (r.whole F g has.0 constraint lt (ap (slice_get S.constraints) same ∙ n.2) a b h.2) [ inl o ↦ inl (constraint, h.1, o) | inr m ↦ inr m ])
          | inr fails ↦ inl (
            constraint,
            h.1,
            unread F g constraint a b (λ reads.
                (let listed : Contains items n.0 = subst (λ (xs : List ℕ). Contains xs n.0) (sym are) (target_listed row n.0 readers ((iff row n.0).1 (constraint, n.2, reads))) in
                true≢false (sym (list_any-from_Contains nat_eq_equiv n.0 items listed) ∙ fails))) h.2,
          )
        ]);
  }
