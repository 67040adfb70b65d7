-- Terms of two units side by side: their kids, where their types match.
use Rattle.std.proofs.Common.{◌≡◌, ℕ, zero, suc, ◌+◌, ◌<◌, ◌⊎◌, inl, inr, List, [], ◌∷◌, length, map, refl, ap, sym, ◌∙◌, Option, Some, None, All}
use Rattle.std.specs.List.{slice_get}
use Rattle.std.proofs.lemmas.List.{length-map}
use Rattle.std.proofs.lemmas.List.Elements.{All-head, All-tail}
use Rattle.c_types.specs.declared.term.Term.{Term}
use Rattle.c_types.specs.declared.term.Term.TheVariants.{Void, Bool as BoolTerm, Integer, Floating, VaList, Pointer, Array, Function, Structure, Union}
use Rattle.c_types.specs.declared.term.TypeId.{TypeId}
use Rattle.c_types.specs.Trees.{Ctype, tree_at, trees_at, grow}
use Rattle.c_types.specs.Table.{IsAfter, HasTag}
use Rattle.link_model.specs.declared.item.Item.{Item}
use Rattle.link_model.specs.Units.{item}
use Rattle.link_model.specs.Matching.{Matches, AllMatch, Mentions, SomeMention}
use Rattle.link_merge.specs.Kids.{term_kids}

none_some : {X : Type 0} → {x : X} → ◌≡◌ {A = Option X} None (Some x) → ⊥
none_some h = cc

some_one : {X : Type 0} → {x y : X} → ◌≡◌ {A = Option X} (Some x) (Some y) → x ≡ y
some_one h = cc

module _ (R : Item → Item → Type 0) (u v : ℕ) (trees trees' : List Ctype) (types tags types' tags' : ℕ) where
  -- kids that are types
  pub record ByType (s t : Term) (c d : ℕ) : Type 0 where
    pub to : ℕ
    pub from : ℕ
    pub first : c ≡ types + to
    pub second : d ≡ types' + from
    pub first_below : (n : ℕ) → IsAfter n s → to < n
    pub second_below : (n : ℕ) → IsAfter n t → from < n
    pub match : Matches R u v (grow trees s) (grow trees' t) → Matches R u v (tree_at trees to) (tree_at trees' from)
    pub mention : (e f : Item) → Mentions u v e f (tree_at trees to) (tree_at trees' from) → Mentions u v e f (grow trees s) (grow trees' t)

  -- kids that are tags
  pub record ByTag (s t : Term) (c d : ℕ) : Type 0 where
    pub own : ℕ
    pub other : ℕ
    pub first : c ≡ tags + own
    pub second : d ≡ tags' + other
    pub first_known : (n : ℕ) → HasTag n s → own < n
    pub second_known : (n : ℕ) → HasTag n t → other < n
    pub match : Matches R u v (grow trees s) (grow trees' t) → R (item u own) (item v other)
    pub mention : Mentions u v (item u own) (item v other) (grow trees s) (grow trees' t)

  abbrev pub KidCase : Term → Term → ℕ → ℕ → Type 0
  KidCase s t c d = ByType s t c d ⊎ (ByTag s t c d ⊎ (Matches R u v (grow trees s) (grow trees' t) → ⊥))

  -- kids at one place of two parameter lists
  record AtParameter (ps qs : List TypeId) (c d : ℕ) : Type 0 where
    to : ℕ
    from : ℕ
    first : c ≡ types + to
    second : d ≡ types' + from
    first_below : (n : ℕ) → All (λ id. id.0 < n) ps → to < n
    second_below : (n : ℕ) → All (λ id. id.0 < n) qs → from < n
    match : AllMatch R u v (trees_at trees ps) (trees_at trees' qs) → Matches R u v (tree_at trees to) (tree_at trees' from)
    mention : (e f : Item) → Mentions u v e f (tree_at trees to) (tree_at trees' from) → SomeMention u v e f (trees_at trees ps) (trees_at trees' qs)

  at_parameter : (ps qs : List TypeId) (k c d : ℕ) → slice_get (map (λ id. types + id.0) ps) k ≡ Some c → slice_get (map (λ id. types' + id.0) qs) k ≡ Some d → AtParameter ps qs c d
  at_parameter [] qs k c d e f = absurd (none_some e)
  at_parameter (p ∷ ps) [] k c d e f = absurd (none_some f)
  at_parameter (p ∷ ps) (q ∷ qs) zero c d e f = record {
    to = p.0;
    from = q.0;
    first = sym (some_one e);
    second = sym (some_one f);
    first_below = λ n all. All-head (λ id. id.0 < n) p ps all;
    second_below = λ n all. All-head (λ id. id.0 < n) q qs all;
    match = λ m. m.0;
    mention = λ g h m. inl m;
  }
  at_parameter (p ∷ ps) (q ∷ qs) (suc k) c d e f =
      let r = at_parameter ps qs k c d e f in
      record {
        to = r.to;
        from = r.from;
        first = r.first;
        second = r.second;
        first_below = λ n all. r.first_below n (All-tail (λ id. id.0 < n) p ps all);
        second_below = λ n all. r.second_below n (All-tail (λ id. id.0 < n) q qs all);
        match = λ m. r.match m.1;
        mention = λ g h m. inr (r.mention g h m);
      }

  count_parameters : (ps qs : List TypeId) → AllMatch R u v (trees_at trees ps) (trees_at trees' qs) → length ps ≡ length qs
  count_parameters [] [] h = refl
  count_parameters [] (q ∷ qs) h = absurd h
  count_parameters (p ∷ ps) [] h = absurd h
  count_parameters (p ∷ ps) (q ∷ qs) h = ap suc (count_parameters ps qs h.1)

  -- types that match have as many kids
  pub kid_count : (s t : Term) → Matches R u v (grow trees s) (grow trees' t) → length (term_kids types tags s) ≡ length (term_kids types' tags' t)
  kid_count Void Void h = refl
  kid_count Void BoolTerm h = refl
  kid_count Void (Integer size' rank' signed') h = refl
  kid_count Void Floating h = refl
  kid_count Void VaList h = refl
  kid_count Void (Pointer to') h = cc
  kid_count Void (Array of' n') h = cc
  kid_count Void (Function result' parameters' form') h = cc
  kid_count Void (Structure tag') h = cc
  kid_count Void (Union tag') h = cc
  kid_count BoolTerm Void h = refl
  kid_count BoolTerm BoolTerm h = refl
  kid_count BoolTerm (Integer size' rank' signed') h = refl
  kid_count BoolTerm Floating h = refl
  kid_count BoolTerm VaList h = refl
  kid_count BoolTerm (Pointer to') h = cc
  kid_count BoolTerm (Array of' n') h = cc
  kid_count BoolTerm (Function result' parameters' form') h = cc
  kid_count BoolTerm (Structure tag') h = cc
  kid_count BoolTerm (Union tag') h = cc
  kid_count (Integer size rank signed) Void h = refl
  kid_count (Integer size rank signed) BoolTerm h = refl
  kid_count (Integer size rank signed) (Integer size' rank' signed') h = refl
  kid_count (Integer size rank signed) Floating h = refl
  kid_count (Integer size rank signed) VaList h = refl
  kid_count (Integer size rank signed) (Pointer to') h = cc
  kid_count (Integer size rank signed) (Array of' n') h = cc
  kid_count (Integer size rank signed) (Function result' parameters' form') h = cc
  kid_count (Integer size rank signed) (Structure tag') h = cc
  kid_count (Integer size rank signed) (Union tag') h = cc
  kid_count Floating Void h = refl
  kid_count Floating BoolTerm h = refl
  kid_count Floating (Integer size' rank' signed') h = refl
  kid_count Floating Floating h = refl
  kid_count Floating VaList h = refl
  kid_count Floating (Pointer to') h = cc
  kid_count Floating (Array of' n') h = cc
  kid_count Floating (Function result' parameters' form') h = cc
  kid_count Floating (Structure tag') h = cc
  kid_count Floating (Union tag') h = cc
  kid_count VaList Void h = refl
  kid_count VaList BoolTerm h = refl
  kid_count VaList (Integer size' rank' signed') h = refl
  kid_count VaList Floating h = refl
  kid_count VaList VaList h = refl
  kid_count VaList (Pointer to') h = cc
  kid_count VaList (Array of' n') h = cc
  kid_count VaList (Function result' parameters' form') h = cc
  kid_count VaList (Structure tag') h = cc
  kid_count VaList (Union tag') h = cc
  kid_count (Pointer to) Void h = absurd h
  kid_count (Pointer to) BoolTerm h = absurd h
  kid_count (Pointer to) (Integer size' rank' signed') h = absurd h
  kid_count (Pointer to) Floating h = absurd h
  kid_count (Pointer to) VaList h = absurd h
  kid_count (Pointer to) (Pointer to') h = refl
  kid_count (Pointer to) (Array of' n') h = absurd h
  kid_count (Pointer to) (Function result' parameters' form') h = absurd h
  kid_count (Pointer to) (Structure tag') h = absurd h
  kid_count (Pointer to) (Union tag') h = absurd h
  kid_count (Array of n) Void h = absurd h
  kid_count (Array of n) BoolTerm h = absurd h
  kid_count (Array of n) (Integer size' rank' signed') h = absurd h
  kid_count (Array of n) Floating h = absurd h
  kid_count (Array of n) VaList h = absurd h
  kid_count (Array of n) (Pointer to') h = absurd h
  kid_count (Array of n) (Array of' n') h = refl
  kid_count (Array of n) (Function result' parameters' form') h = absurd h
  kid_count (Array of n) (Structure tag') h = absurd h
  kid_count (Array of n) (Union tag') h = absurd h
  kid_count (Function result parameters form) Void h = absurd h
  kid_count (Function result parameters form) BoolTerm h = absurd h
  kid_count (Function result parameters form) (Integer size' rank' signed') h = absurd h
  kid_count (Function result parameters form) Floating h = absurd h
  kid_count (Function result parameters form) VaList h = absurd h
  kid_count (Function result parameters form) (Pointer to') h = absurd h
  kid_count (Function result parameters form) (Array of' n') h = absurd h
  kid_count (Function result parameters form) (Function result' parameters' form') h = ap suc (length-map parameters (λ id. types + id.0) ∙ (count_parameters parameters parameters' h.1 ∙ sym (length-map parameters' (λ id. types' + id.0))))
  kid_count (Function result parameters form) (Structure tag') h = absurd h
  kid_count (Function result parameters form) (Union tag') h = absurd h
  kid_count (Structure tag) Void h = absurd h
  kid_count (Structure tag) BoolTerm h = absurd h
  kid_count (Structure tag) (Integer size' rank' signed') h = absurd h
  kid_count (Structure tag) Floating h = absurd h
  kid_count (Structure tag) VaList h = absurd h
  kid_count (Structure tag) (Pointer to') h = absurd h
  kid_count (Structure tag) (Array of' n') h = absurd h
  kid_count (Structure tag) (Function result' parameters' form') h = absurd h
  kid_count (Structure tag) (Structure tag') h = refl
  kid_count (Structure tag) (Union tag') h = absurd h
  kid_count (Union tag) Void h = absurd h
  kid_count (Union tag) BoolTerm h = absurd h
  kid_count (Union tag) (Integer size' rank' signed') h = absurd h
  kid_count (Union tag) Floating h = absurd h
  kid_count (Union tag) VaList h = absurd h
  kid_count (Union tag) (Pointer to') h = absurd h
  kid_count (Union tag) (Array of' n') h = absurd h
  kid_count (Union tag) (Function result' parameters' form') h = absurd h
  kid_count (Union tag) (Structure tag') h = absurd h
  kid_count (Union tag) (Union tag') h = refl

  one_type : (a b c d k : ℕ) → slice_get ((types + a) ∷ []) k ≡ Some c → slice_get ((types' + b) ∷ []) k ≡ Some d → (c ≡ types + a) × (d ≡ types' + b)
  one_type a b c d zero e f = (sym (some_one e), sym (some_one f))
  one_type a b c d (suc k) e f = absurd (none_some e)

  one_tag : (a b c d k : ℕ) → slice_get ((tags + a) ∷ []) k ≡ Some c → slice_get ((tags' + b) ∷ []) k ≡ Some d → (c ≡ tags + a) × (d ≡ tags' + b)
  one_tag a b c d zero e f = (sym (some_one e), sym (some_one f))
  one_tag a b c d (suc k) e f = absurd (none_some e)

  -- the kids at one place
  pub kid_case : (s t : Term) (k c d : ℕ) → slice_get (term_kids types tags s) k ≡ Some c → slice_get (term_kids types' tags' t) k ≡ Some d → KidCase s t c d
  kid_case Void t k c d e f = absurd (none_some e)
  kid_case BoolTerm t k c d e f = absurd (none_some e)
  kid_case (Integer size rank signed) t k c d e f = absurd (none_some e)
  kid_case Floating t k c d e f = absurd (none_some e)
  kid_case VaList t k c d e f = absurd (none_some e)
  kid_case (Pointer to) Void k c d e f = absurd (none_some f)
  kid_case (Pointer to) BoolTerm k c d e f = absurd (none_some f)
  kid_case (Pointer to) (Integer size' rank' signed') k c d e f = absurd (none_some f)
  kid_case (Pointer to) Floating k c d e f = absurd (none_some f)
  kid_case (Pointer to) VaList k c d e f = absurd (none_some f)
  kid_case (Pointer to) (Pointer to') k c d e f =
      let at = one_type to.0 to'.0 c d k e f in
      inl (record {
        to = to.0;
        from = to'.0;
        first = at.0;
        second = at.1;
        first_below = λ m h. h;
        second_below = λ m h. h;
        match = λ h. h;
        mention = λ g i h. h;
      })
  kid_case (Pointer to) (Array of' n') k c d e f = inr (inr (λ h. h))
  kid_case (Pointer to) (Function result' parameters' form') k c d e f = inr (inr (λ h. h))
  kid_case (Pointer to) (Structure tag') k c d e f = inr (inr (λ h. h))
  kid_case (Pointer to) (Union tag') k c d e f = inr (inr (λ h. h))
  kid_case (Array of n) Void k c d e f = absurd (none_some f)
  kid_case (Array of n) BoolTerm k c d e f = absurd (none_some f)
  kid_case (Array of n) (Integer size' rank' signed') k c d e f = absurd (none_some f)
  kid_case (Array of n) Floating k c d e f = absurd (none_some f)
  kid_case (Array of n) VaList k c d e f = absurd (none_some f)
  kid_case (Array of n) (Pointer to') k c d e f = inr (inr (λ h. h))
  kid_case (Array of n) (Array of' n') k c d e f =
      let at = one_type of.0 of'.0 c d k e f in
      inl (record {
        to = of.0;
        from = of'.0;
        first = at.0;
        second = at.1;
        first_below = λ m h. h;
        second_below = λ m h. h;
        match = λ h. h.0;
        mention = λ g i h. h;
      })
  kid_case (Array of n) (Function result' parameters' form') k c d e f = inr (inr (λ h. h))
  kid_case (Array of n) (Structure tag') k c d e f = inr (inr (λ h. h))
  kid_case (Array of n) (Union tag') k c d e f = inr (inr (λ h. h))
  kid_case (Function result parameters form) Void k c d e f = absurd (none_some f)
  kid_case (Function result parameters form) BoolTerm k c d e f = absurd (none_some f)
  kid_case (Function result parameters form) (Integer size' rank' signed') k c d e f = absurd (none_some f)
  kid_case (Function result parameters form) Floating k c d e f = absurd (none_some f)
  kid_case (Function result parameters form) VaList k c d e f = absurd (none_some f)
  kid_case (Function result parameters form) (Pointer to') k c d e f = inr (inr (λ h. h))
  kid_case (Function result parameters form) (Array of' n') k c d e f = inr (inr (λ h. h))
  kid_case (Function result parameters form) (Function result' parameters' form') zero c d e f =
      inl (record {
        to = result.0;
        from = result'.0;
        first = sym (some_one e);
        second = sym (some_one f);
        first_below = λ m h. h.0;
        second_below = λ m h. h.0;
        match = λ h. h.0;
        mention = λ g i h. inl h;
      })
  kid_case (Function result parameters form) (Function result' parameters' form') (suc k) c d e f =
      let at = at_parameter parameters parameters' k c d e f in
      inl (record {
        to = at.to;
        from = at.from;
        first = at.first;
        second = at.second;
        first_below = λ m h. at.first_below m h.1;
        second_below = λ m h. at.second_below m h.1;
        match = λ h. at.match h.1;
        mention = λ g i h. inr (at.mention g i h);
      })
  kid_case (Function result parameters form) (Structure tag') k c d e f = inr (inr (λ h. h))
  kid_case (Function result parameters form) (Union tag') k c d e f = inr (inr (λ h. h))
  kid_case (Structure tag) Void k c d e f = absurd (none_some f)
  kid_case (Structure tag) BoolTerm k c d e f = absurd (none_some f)
  kid_case (Structure tag) (Integer size' rank' signed') k c d e f = absurd (none_some f)
  kid_case (Structure tag) Floating k c d e f = absurd (none_some f)
  kid_case (Structure tag) VaList k c d e f = absurd (none_some f)
  kid_case (Structure tag) (Pointer to') k c d e f = inr (inr (λ h. h))
  kid_case (Structure tag) (Array of' n') k c d e f = inr (inr (λ h. h))
  kid_case (Structure tag) (Function result' parameters' form') k c d e f = inr (inr (λ h. h))
  kid_case (Structure tag) (Structure tag') k c d e f =
      let at = one_tag tag tag' c d k e f in
      inr (inl (record {
        own = tag;
        other = tag';
        first = at.0;
        second = at.1;
        first_known = λ m h. h;
        second_known = λ m h. h;
        match = λ h. h;
        mention = (refl, refl);
      }))
  kid_case (Structure tag) (Union tag') k c d e f = inr (inr (λ h. h))
  kid_case (Union tag) Void k c d e f = absurd (none_some f)
  kid_case (Union tag) BoolTerm k c d e f = absurd (none_some f)
  kid_case (Union tag) (Integer size' rank' signed') k c d e f = absurd (none_some f)
  kid_case (Union tag) Floating k c d e f = absurd (none_some f)
  kid_case (Union tag) VaList k c d e f = absurd (none_some f)
  kid_case (Union tag) (Pointer to') k c d e f = inr (inr (λ h. h))
  kid_case (Union tag) (Array of' n') k c d e f = inr (inr (λ h. h))
  kid_case (Union tag) (Function result' parameters' form') k c d e f = inr (inr (λ h. h))
  kid_case (Union tag) (Structure tag') k c d e f = inr (inr (λ h. h))
  kid_case (Union tag) (Union tag') k c d e f =
      let at = one_tag tag tag' c d k e f in
      inr (inl (record {
        own = tag;
        other = tag';
        first = at.0;
        second = at.1;
        first_known = λ m h. h;
        second_known = λ m h. h;
        match = λ h. h;
        mention = (refl, refl);
      }))
