-- Own tags, opened one after another.
use Rattle.std.proofs.Common.{arith, ◌≡◌, ◌∙◌, ℕ, zero, suc, ◌+◌, ◌<◌, ◌≤◌, Bool, true, false, cond, inl, inr, List, [], ◌∷◌, ◌++◌, length, get_or, Option, Some, None, refl, sym, ap, subst}
use Rattle.std.proofs.lemmas.Bool.Decides.{eqb_tells}
use Rattle.std.proofs.lemmas.List.{get_or_append_left}
use Rattle.std.proofs.Math.Seq.{get_or-append_seam}
use Rattle.c_types.specs.Trees.{Ctype}
use Rattle.c_types.specs.Table.{Table, type_of}
use Rattle.c_inits.specs.Tables.{tagged}
use Rattle.c_senses.specs.Tree.{Source}
use Rattle.c_senses.specs.Tags.{tag_declared, is_union}
use Rattle.c_tags.proofs.tag_numbers.Listing.{all_next}
use Rattle.carried_trees.specs.carried_types.Terms.{AreTagIds, IsIdIn}
use Rattle.c_check.specs.declared.known_tags.known.Meaning.{Meaning}
use Rattle.c_check.specs.declared.known_tags.known.Meaning.TheVariants.{Tag}
use Rattle.c_check.specs.known_tags.Own.{is_own_first, own_tags, own_number, numbered_from, own_pairs, id_at, IsOpened, pair_if, AreOpened}

module _ (s : Source) (first : ℕ → ℕ) where
  numbered_append : (next : ℕ) (a b : List ℕ) → numbered_from s first next (a ++ b) ≡ numbered_from s first next a ++ numbered_from s first (next + length a) b
  numbered_append next [] b = let e : next ≡ next + 0 = omega arith in ap (λ (n : ℕ). numbered_from s first n b) e
  numbered_append next (k ∷ a) b =
      let e : suc next + length a ≡ next + suc (length a) = omega arith in
      ap (λ (l : List (ℕ × Meaning)). (tag_declared s (first k), Tag next) ∷ l) (numbered_append (suc next) a b ∙ ap (λ (n : ℕ). numbered_from s first (suc next) a ++ numbered_from s first n b) e)

  numbered_length : (next : ℕ) (a : List ℕ) → length (numbered_from s first next a) ≡ length a
  numbered_length next [] = refl
  numbered_length next (k ∷ a) = ap suc (numbered_length (suc next) a)

  last_pair : (own : Bool) (next k : ℕ) → numbered_from s first next (cond own (k ∷ []) []) ≡ pair_if own (tag_declared s (first k)) next
  last_pair true next k = refl
  last_pair false next k = refl

  module _ (node : ℕ) (list : List (ℕ × Meaning)) (next : ℕ) where
    pub pairs_next : (k : ℕ) (pairs more : List (ℕ × Meaning)) (number : ℕ) → pairs ≡ own_pairs s first node list next k → number ≡ next + length pairs → more ≡ pairs ++ pair_if (is_own_first s node list (first k)) (tag_declared s (first k)) number → more ≡ own_pairs s first node list next (k + 1)
    pairs_next k pairs more number e n m =
        let tags = own_tags s first node list k in
        let own = is_own_first s node list (first k) in
        let l : length pairs ≡ length tags = ap length e ∙ numbered_length next tags in
        let same : number ≡ next + length tags = omega arith in
        m
        ∙ (ap (λ (x : List (ℕ × Meaning)). x ++ pair_if own (tag_declared s (first k)) number) e
        ∙ (ap (λ (x : ℕ). numbered_from s first next tags ++ pair_if own (tag_declared s (first k)) x) same
        ∙ (ap (λ (x : List (ℕ × Meaning)). numbered_from s first next tags ++ x) (sym (last_pair own (next + length tags) k))
        ∙ (sym (numbered_append next tags (cond own (k ∷ []) []))
        ∙ ap (λ (x : List ℕ). numbered_from s first next x) (sym (all_next (λ (j : ℕ). is_own_first s node list (first j)) k))))))

    pub number_here : (k : ℕ) (pairs : List (ℕ × Meaning)) (number : ℕ) → pairs ≡ own_pairs s first node list next k → number ≡ next + length pairs → number ≡ own_number s first node list next k
    number_here k pairs number e n =
        let l : length pairs ≡ length (own_tags s first node list k) = ap length e ∙ numbered_length next (own_tags s first node list k) in
        omega arith

    -- what was opened in a table goes on being so in one with more types
    opened_kept : (old new : Table) → ((id : ℕ) → id < length old.terms → type_of new id ≡ type_of old id) → (own : Bool) (t : Ctype) (known id : Option ℕ) → IsIdIn old id → IsOpened own old t known id → IsOpened own new t known id
    opened_kept old new kept true t known id within h = (h.0, h.1, kept h.0 (subst (IsIdIn old) h.1 within) ∙ h.2)
    opened_kept old new kept false t known id within h = h

    pub opened_next : (old new : Table) → ((id : ℕ) → id < length old.terms → type_of new id ≡ type_of old id) → (known ids more : List (Option ℕ)) (id : Option ℕ) (k : ℕ) (pairs pairs' : List (ℕ × Meaning)) → length ids ≡ k → more ≡ ids ++ id ∷ [] → AreTagIds ids old → AreOpened s first node list next old known k ids pairs
        → (number : ℕ) → number ≡ next + length pairs → IsOpened (is_own_first s node list (first k)) new (tagged (is_union s (first k)) number) (id_at known k) id → pairs' ≡ pairs ++ pair_if (is_own_first s node list (first k)) (tag_declared s (first k)) number → AreOpened s first node list next new known (k + 1) more pairs'
    opened_next old new kept known ids more id k pairs pairs' long e within h number n here m = record {
      each = λ j lt. elim (eqb_tells j k) [
        | inl p ↦
            let at : id_at more k ≡ id = ap (λ (l : List (Option ℕ)). get_or l k None) e ∙ (ap (λ (i : ℕ). get_or (ids ++ id ∷ []) i None) (sym long) ∙ get_or-append_seam ids id [] None) in
            subst (λ (i : ℕ). IsOpened (is_own_first s node list (first i)) new (tagged (is_union s (first i)) (own_number s first node list next i)) (id_at known i) (id_at more i)) (sym p.1)
            (subst (λ (x : Option ℕ). IsOpened (is_own_first s node list (first k)) new (tagged (is_union s (first k)) (own_number s first node list next k)) (id_at known k) x) (sym at)
            (subst (λ (x : ℕ). IsOpened (is_own_first s node list (first k)) new (tagged (is_union s (first k)) x) (id_at known k) id) (number_here k pairs number h.pairs_are n) here))
        | inr p ↦
            let few : j < k = omega (arith, lt, p.1) in
            let at : id_at more j ≡ id_at ids j = ap (λ (l : List (Option ℕ)). get_or l j None) e ∙ get_or_append_left ids (id ∷ []) None j (omega (arith, few, long)) in
            subst (λ (x : Option ℕ). IsOpened (is_own_first s node list (first j)) new (tagged (is_union s (first j)) (own_number s first node list next j)) (id_at known j) x) (sym at)
            (opened_kept old new kept (is_own_first s node list (first j)) (tagged (is_union s (first j)) (own_number s first node list next j)) (id_at known j) (id_at ids j) (within j) (h.each j few))
      ];
      pairs_are = pairs_next k pairs pairs' number h.pairs_are n m;
    }

-- the numbers of types, with one more
pub ids_next : (old new : Table) → length old.terms ≤ length new.terms → (ids more : List (Option ℕ)) (id : Option ℕ) → more ≡ ids ++ id ∷ [] → AreTagIds ids old → IsIdIn new id → AreTagIds more new
ids_next old new terms ids more id e h here tag = subst (IsIdIn new) (sym (ap (λ (l : List (Option ℕ)). get_or l tag None) e)) (at ids (λ k. larger (get_or ids k None) (h k)) tag)
  where
    larger : (o : Option ℕ) → IsIdIn old o → IsIdIn new o
    larger None h = tt
    larger (Some i) h = omega (arith, h, terms)

    at : (xs : List (Option ℕ)) → ((k : ℕ) → IsIdIn new (get_or xs k None)) → (k : ℕ) → IsIdIn new (get_or (xs ++ id ∷ []) k None)
    at [] all zero = here
    at [] all (suc k) = tt
    at (x ∷ xs) all zero = all 0
    at (x ∷ xs) all (suc k) = at xs (λ j. all (suc j)) k

-- the same of what the steps of the loop say
pub opened_step : (s : Source) (first : ℕ → ℕ) (node : ℕ) (list : List (ℕ × Meaning)) (next : ℕ) (old new : Table) → ((id : ℕ) → id < length old.terms → type_of new id ≡ type_of old id) → (known ids more : List (Option ℕ)) (id : Option ℕ) (k : ℕ) (pairs pairs' : List (ℕ × Meaning)) → length ids ≡ k → more ≡ ids ++ id ∷ [] → AreTagIds ids old → AreOpened s first node list next old known k ids pairs
    → (number : ℕ) → number ≡ next + length pairs → (f : ℕ) → f ≡ first k → (own : Bool) → own ≡ is_own_first s node list f → (before : Option ℕ) → before ≡ id_at known k → IsOpened own new (tagged (is_union s f) number) before id → pairs' ≡ pairs ++ pair_if own (tag_declared s f) number → AreOpened s first node list next new known (k + 1) more pairs'
opened_step s first node list next old new kept known ids more id k pairs pairs' long e within h number n f is own is_own before is_before here m =
    let same : own ≡ is_own_first s node list (first k) = is_own ∙ ap (is_own_first s node list) is in
    opened_next s first node list next old new kept known ids more id k pairs pairs' long e within h number n
    (subst (λ (b : Bool). IsOpened b new (tagged (is_union s (first k)) number) (id_at known k) id) same
    (subst (λ (x : ℕ). IsOpened own new (tagged (is_union s x) number) (id_at known k) id) is
    (subst (λ (o : Option ℕ). IsOpened own new (tagged (is_union s f) number) o id) is_before here)))
    (m ∙ (ap (λ (b : Bool). pairs ++ pair_if b (tag_declared s f) number) same ∙ ap (λ (x : ℕ). pairs ++ pair_if (is_own_first s node list (first k)) (tag_declared s x) number) is))

pub opened_none : (s : Source) (first : ℕ → ℕ) (node : ℕ) (list : List (ℕ × Meaning)) (next : ℕ) (table : Table) (known ids : List (Option ℕ)) (pairs : List (ℕ × Meaning)) → pairs ≡ [] → AreOpened s first node list next table known 0 ids pairs
opened_none s first node list next table known ids pairs e = record { each = λ k lt. absurd (omega arith); pairs_are = e }
