-- An initialiser in the rest of a declaration is the one of its declarator.
use Rattle.std.proofs.Common.{arith, ◌≡◌, ◌<◌, ℕ, suc, ◌⊎◌, inl, inr, ◌||◌, nat_eq, Bool, true, false, List, [], ◌∷◌, ◌++◌, map, length, slice_get, Option, Some, None, refl, sym, ap, ◌∙◌, subst}
use Rattle.std.specs.Prelude.{All, option_and_then, if◌then◌else◌}
use Rattle.std.proofs.lemmas.Option.{slice_get_within, get_or_from_slice_get}
use Rattle.std.proofs.lemmas.Bool.{eqb-true}
use Rattle.c_lexer.specs.declared.Token.{Token}
use Rattle.c_lexer.specs.declared.TokenKind.{TokenKind}
use Rattle.c_lexer.specs.Laws.{Stands}
use Rattle.c_lexer.proofs.OneCut.{stand}
use Rattle.c_grammar.specs.Names.{no_names}
use Rattle.c_grammar.specs.Productions.{p_external, p_rest, p_declaration, p_init, p_asm_name, p_declarator, p_specs, p_assert, p_block}
use Rattle.c_grammar.specs.Terminals.{contains}
use Rattle.c_grammar.specs.Words.{sign_assign}
use Rattle.c_grammar.specs.Reads.{leaf}
use Rattle.c_parser.specs.Parse.{begin}
use Rattle.c_senses.specs.Names.{source_of, numbered}
use Rattle.c_senses.specs.Tree.{Source, production_at, children_at, is_a, has_sign, first_where, last_where, child_of, parent_of}
use Rattle.c_senses.specs.Entities.{behind, without_asm, in_rest, initialiser_in, initialiser_of, initialised_by}
use Rattle.c_senses.specs.Sense.{Sense}
use Rattle.core_node_laws.specs.count_laws.passed.parsed_tree_laws.family_laws.Families.{Families, Ascend}
use Rattle.core_node_laws.proofs.count_laws.passed.parsed_tree_laws.family_laws.Reading.{units_families}
use Rattle.core_node_laws.specs.count_laws.passed.parsed_tree_laws.nesting_laws.Nested.{Nested}
use Rattle.core_node_laws.proofs.count_laws.passed.parsed_tree_laws.nesting_laws.Nesting.{units_nest}
use Rattle.core_node_laws.proofs.count_laws.passed.parsed_tree_laws.placed_laws.Climbing.{Grown, exists_at}
use Rattle.core_node_laws.proofs.count_laws.passed.parsed_tree_laws.placed_laws.Growing.{grown_read}
use Rattle.declaration_laws.proofs.definition_laws.function_definitions.PassedOn.{parent_is, parent_holds}
use Rattle.core_node_laws.specs.count_laws.passed.parsed_tree_laws.sign_parts.Parts.{Mark, mark_of, mark_at, Brings, Takes, IsBrought}
use Rattle.core_node_laws.proofs.count_laws.passed.parsed_tree_laws.sign_parts.Reading.{units_bring}
use Rattle.declaration_laws.specs.definition_laws.own_initialisers.Own.{InitialisersStand}
use Rattle.declaration_laws.proofs.definition_laws.own_initialisers.Parts.{mark, MaybeInit, Absent, Present, MaybeAsm, NoAsm, Asm, IsRestList, Begins, IsNaming, Naming, IsOther, Assert, Alone, Body, rest_list, external_list, declaration_list}
use Rattle.declaration_laws.proofs.definition_laws.own_initialisers.Searching.{member, head_in, next_in, last_none, apart, not_same, Reads, is_as, sign_is, test, FoundIn, skip, behind_sign, further}

module _ (s : Source) (tree : Grown s) (nested : Nested s) (families : Families s) (standing : (k : ℕ) (t : Token) → slice_get s.tokens k ≡ Some t → Stands s.text t) (brought : IsBrought s) (known all : ℕ → Sense) where
  abbrev T : ℕ → TokenKind → ℕ → Type 0
  T = Takes s.text s.tokens

  -- parts stand as their marks say
  reads : (ks : List ℕ) (ms : List Mark) → map (mark_at s) ks ≡ ms → ((k : ℕ) → contains ks k ≡ true → k < length s.nodes) → Reads s all ks ms
  reads [] [] e inside = tt
  reads [] (m ∷ ms) e inside = cc
  reads (k ∷ ks) [] e inside = cc
  reads (k ∷ ks) (m ∷ ms) e inside =
      let first : mark_at s k ≡ m = cc in
      let rest : map (mark_at s) ks ≡ ms = cc in
      let there = exists_at s.nodes k (inside k (head_in k ks)) in
      let same : mark_of (Some there.0) ≡ m = sym (ap mark_of there.1) ∙ first in
      ((there.0, there.1, ap (λ (x : Mark). x.production) same, ap (λ (x : Mark). x.token) same), reads ks ms rest (λ j h. inside j (next_in k j ks h)))

  pub parts : (p : ℕ) (ms : List Mark) → map (mark_at s) (children_at s p) ≡ ms → Reads s all (children_at s p) ms
  parts p ms e = reads (children_at s p) ms e (λ c h. let low = tree.before p c h in let high = tree.within p c h in omega (arith, low, high))

  drop_other : (x q k a : ℕ) (ks : List ℕ) → is_a s q x ≡ true → is_a s a k ≡ true → nat_eq a q ≡ false → contains (k ∷ ks) x ≡ true → contains ks x ≡ true
  drop_other x q k a ks is other differ h = elim (member k x ks h) [
    | inl same ↦ absurd (let no : is_a s q k ≡ false = apart s k a q other differ in let yes : is_a s q k ≡ true = ap (is_a s q) same ∙ is in let both : true ≡ false = sym yes ∙ no in cc)
    | inr more ↦ more
  ]

  the_one : (x k : ℕ) → contains (k ∷ []) x ≡ true → k ≡ x
  the_one x k h = elim (member k x [] h) [ inl same ↦ same | inr more ↦ absurd (cc) ]

  module _ (init p d : ℕ) (is : is_a s p_init init ≡ true) (parent : parent_of s init ≡ Some p) (rest : is_a s p_rest p ≡ true) (by_it : initialised_by s known init ≡ Some d) where
    abbrev tested : ℕ → Bool
    tested = test s all standing init is

    abbrev from_last : Option ℕ → Option ℕ
    from_last o = elim o as (λ _. Option ℕ) [ Some j ↦ Some j | None ↦ option_and_then (child_of s p_declarator) (parent_of s p) ]

    there : from_last (last_where tested (children_at s p)) ≡ Some d
    there =
        sym (ap (λ (o : Option ℕ). elim o as (λ _. Option ℕ) [
          | None ↦ None
          | Some q ↦ elim (last_where tested (children_at s q)) as (λ _. Option ℕ) [ Some j ↦ Some j | None ↦ option_and_then (child_of s p_declarator) (parent_of s q) ]
        ]) parent) ∙ by_it

    abbrev from_parent : Option ℕ → Option ℕ
    from_parent o = elim o as (λ _. Option ℕ) [
      | None ↦ None
      | Some q ↦ if is_a s p_rest q then initialiser_in s all (without_asm s all (behind d (children_at s q))) else in_rest s all (without_asm s all (behind d (children_at s q)))
    ]

    -- a declarator of the rest
    by_found : FoundIn s all standing init is (children_at s p) → initialiser_of s all d ≡ Some init
    by_found f =
        let same : f.declarator ≡ d = let both : ◌≡◌ {A = Option ℕ} (Some f.declarator) (Some d) = sym (ap from_last f.last) ∙ there in cc in
        let inside : contains (children_at s p) d ≡ true = subst (λ (x : ℕ). contains (children_at s p) x ≡ true) same f.inside in
        ap from_parent (parent_is s tree p d inside)
        ∙ (ap (λ (b : Bool). if b then initialiser_in s all (without_asm s all (behind d (children_at s p))) else in_rest s all (without_asm s all (behind d (children_at s p)))) rest
        ∙ (ap (λ (x : ℕ). initialiser_in s all (without_asm s all (behind x (children_at s p)))) (sym same) ∙ f.own))

    -- the declaration's own declarator
    module _ (e : ℕ) (more : List ℕ) (are : children_at s p ≡ e ∷ init ∷ more) (sign : has_sign s sign_assign e ≡ true) where
      given : initialiser_in s all (children_at s p) ≡ Some init
      given = ap (initialiser_in s all) are ∙ ap (λ (b : Bool). if b then Some init else None) sign

      -- what is behind the declarator
      in_tail : (xs : List Mark) (place : ℕ) → MaybeAsm T xs → (tail : List ℕ) → Reads s all tail (xs ++ mark 2 place ∷ []) → contains tail p ≡ true → in_rest s all (without_asm s all tail) ≡ Some init
      in_tail xs place NoAsm [] r h = absurd r
      in_tail xs place NoAsm (x ∷ []) r h =
          let same : x ≡ p = the_one p x h in
          ap (λ (b : Bool). in_rest s all (if b then [] else x ∷ [])) (apart s x p_rest p_asm_name (is_as s all x p_rest place r.0) refl)
          ∙ (ap (λ (b : Bool). if b then initialiser_in s all (children_at s x) else None) (is_as s all x p_rest place r.0) ∙ (ap (λ (y : ℕ). initialiser_in s all (children_at s y)) same ∙ given))
      in_tail xs place NoAsm (x ∷ y ∷ more) r h = absurd r.1
      in_tail xs place (Asm at) [] r h = absurd r
      in_tail xs place (Asm at) (y ∷ []) r h = absurd r.1
      in_tail xs place (Asm at) (y ∷ x ∷ []) r h =
          let asm = is_as s all y p_asm_name at r.0 in
          let same : x ≡ p = the_one p x (drop_other p p_rest y p_asm_name (x ∷ []) rest asm refl h) in
          ap (λ (b : Bool). in_rest s all (if b then x ∷ [] else y ∷ x ∷ [])) asm
          ∙ (ap (λ (b : Bool). if b then initialiser_in s all (children_at s x) else None) (is_as s all x p_rest place r.1.0) ∙ (ap (λ (y : ℕ). initialiser_in s all (children_at s y)) same ∙ given))
      in_tail xs place (Asm at) (y ∷ x ∷ z ∷ more) r h = absurd r.1.1

      none_after : (xs : List Mark) (block : ℕ) → MaybeAsm T xs → (tail : List ℕ) → Reads s all tail (xs ++ mark 29 block ∷ []) → contains tail p ≡ true → ⊥
      none_after xs block NoAsm [] r h = r
      none_after xs block NoAsm (x ∷ []) r h = let no : contains [] p ≡ true = drop_other p p_rest x p_block [] rest (is_as s all x p_block block r.0) refl h in cc
      none_after xs block NoAsm (x ∷ y ∷ more) r h = r.1
      none_after xs block (Asm at) [] r h = r
      none_after xs block (Asm at) (y ∷ []) r h = r.1
      none_after xs block (Asm at) (y ∷ x ∷ []) r h =
          let no : contains [] p ≡ true = drop_other p p_rest x p_block [] rest (is_as s all x p_block block r.1.0) refl (drop_other p p_rest y p_asm_name (x ∷ []) rest (is_as s all y p_asm_name at r.0) refl h) in cc
      none_after xs block (Asm at) (y ∷ x ∷ z ∷ more) r h = r.1.1

      module _ (a : ℕ) (inside : contains (children_at s a) p ≡ true) (child : child_of s p_declarator a ≡ Some d) (no_rest : is_a s p_rest a ≡ false) where
        up : contains (children_at s a) d ≡ true → in_rest s all (without_asm s all (behind d (children_at s a))) ≡ Some init → initialiser_of s all d ≡ Some init
        up at found =
            ap from_parent (parent_is s tree a d at)
            ∙ (ap (λ (b : Bool). if b then initialiser_in s all (without_asm s all (behind d (children_at s a))) else in_rest s all (without_asm s all (behind d (children_at s a)))) no_rest ∙ found)

        named : (xs : List Mark) (specs declarator place : ℕ) → MaybeAsm T xs → (ks : List ℕ) → children_at s a ≡ ks → Reads s all ks (mark 6 specs ∷ mark 19 declarator ∷ (xs ++ mark 2 place ∷ [])) → initialiser_of s all d ≡ Some init
        named xs specs declarator place asm [] e r = absurd r
        named xs specs declarator place asm (k ∷ []) e r = absurd r.1
        named xs specs declarator place asm (k ∷ j ∷ tail) e r =
            let first = is_as s all k p_specs specs r.0 in
            let second = is_as s all j p_declarator declarator r.1.0 in
            let asc : Ascend 0 (k ∷ j ∷ tail) = subst (Ascend 0) e (families.ascend a) in
            let found : first_where (is_a s p_declarator) (k ∷ j ∷ tail) ≡ Some j =
            ap (λ (b : Bool). if b then Some k else (if is_a s p_declarator j then Some j else first_where (is_a s p_declarator) tail)) (apart s k p_specs p_declarator first refl) ∙ ap (λ (b : Bool). if b then Some j else first_where (is_a s p_declarator) tail) second in
            let same : j ≡ d = let both : ◌≡◌ {A = Option ℕ} (Some j) (Some d) = sym (ap (first_where (is_a s p_declarator)) e ∙ found) ∙ child in cc in
            let lt : k < j = asc.1.0 in
            let after : behind d (children_at s a) ≡ tail =
            ap (behind d) e
            ∙ (ap (λ (x : ℕ). behind x (k ∷ j ∷ tail)) (sym same)
            ∙ (ap (λ (b : Bool). if b then j ∷ tail else behind j (j ∷ tail)) (not_same k j lt) ∙ behind_head j tail)) in
            let in_both : contains (k ∷ j ∷ tail) p ≡ true = subst (λ (l : List ℕ). contains l p ≡ true) e inside in
            let in_last : contains tail p ≡ true = drop_other p p_rest j p_declarator tail rest second refl (drop_other p p_rest k p_specs (j ∷ tail) rest first refl in_both) in
            up (subst (λ (l : List ℕ). contains l d ≡ true) (sym e) (next_in k d (j ∷ tail) (subst (λ (x : ℕ). contains (j ∷ tail) x ≡ true) same (head_in j tail))))
            (ap (λ (l : List ℕ). in_rest s all (without_asm s all l)) after ∙ in_tail xs place asm tail r.1.1 in_last)
          where
            behind_head : (j : ℕ) (tail : List ℕ) → behind j (j ∷ tail) ≡ tail
            behind_head j tail = ap (λ (b : Bool). if b then tail else behind j tail) (let h : contains (j ∷ []) j ≡ true = head_in j [] in same_number j)
              where
                same_number : (x : ℕ) → nat_eq x x ≡ true
                same_number x = by (nat_eq x x) (head_in x [])
                  where
                    by : (b : Bool) → (b || false) ≡ true → b ≡ true
                    by true h = refl
                    by false h = cc

        other : (ms : List Mark) → IsOther T ms → (ks : List ℕ) → Reads s all ks ms → contains ks p ≡ true → ⊥
        other ms (Assert place) [] r h = r
        other ms (Assert place) (k ∷ []) r h = let no : contains [] p ≡ true = drop_other p p_rest k p_assert [] rest (is_as s all k p_assert place r.0) refl h in cc
        other ms (Assert place) (k ∷ j ∷ ks) r h = r.1
        other ms (Alone specs place) [] r h = r
        other ms (Alone specs place) (k ∷ []) r h = r.1
        other ms (Alone specs place) (k ∷ j ∷ []) r h =
            let no : contains [] p ≡ true = drop_other p p_rest j leaf [] rest (is_as s all j leaf place r.1.0) refl (drop_other p p_rest k p_specs (j ∷ []) rest (is_as s all k p_specs specs r.0) refl h) in cc
        other ms (Alone specs place) (k ∷ j ∷ i ∷ ks) r h = r.1.1
        other ms (Body {asm = xs} specs declarator block asm) [] r h = r
        other ms (Body {asm = xs} specs declarator block asm) (k ∷ []) r h = r.1
        other ms (Body {asm = xs} specs declarator block asm) (k ∷ j ∷ tail) r h =
            none_after xs block asm tail r.1.1
            (drop_other p p_rest j p_declarator tail rest (is_as s all j p_declarator declarator r.1.0) refl (drop_other p p_rest k p_specs (j ∷ tail) rest (is_as s all k p_specs specs r.0) refl h))

        by_list : (ms : List Mark) → map (mark_at s) (children_at s a) ≡ ms → IsNaming T ms ⊎ IsOther T ms → initialiser_of s all d ≡ Some init
        by_list ms e (inl (Naming {asm = xs} specs declarator place asm)) = named xs specs declarator place asm (children_at s a) refl (parts a (mark 6 specs ∷ mark 19 declarator ∷ (xs ++ mark 2 place ∷ [])) e)
        by_list ms e (inr o) = absurd (other ms o (children_at s a) (parts a ms e) inside)

      either_one : (a : ℕ) → (is_a s p_external a || is_a s p_declaration a) ≡ true → (is_a s p_external a ≡ true) ⊎ (is_a s p_declaration a ≡ true)
      either_one a h = by (is_a s p_external a) (is_a s p_declaration a) refl refl h
        where
          by : (x y : Bool) → is_a s p_external a ≡ x → is_a s p_declaration a ≡ y → (x || y) ≡ true → (is_a s p_external a ≡ true) ⊎ (is_a s p_declaration a ≡ true)
          by true y e f k = inl e
          by false true e f k = inr f
          by false false e f k = cc

      above : (a : ℕ) → contains (children_at s a) p ≡ true → child_of s p_declarator a ≡ Some d → (is_a s p_external a ≡ true) ⊎ (is_a s p_declaration a ≡ true) → initialiser_of s all d ≡ Some init
      above a inside child (inl h) =
          by_list a inside child (apart s a p_external p_rest h refl) (map (mark_at s) (children_at s a)) refl
          (external_list T (map (mark_at s) (children_at s a)) (subst (λ (q : ℕ). Brings T q 0 (map (mark_at s) (children_at s a))) (eqb-true (production_at s a) p_external h) (brought a)))
      above a inside child (inr h) =
          by_list a inside child (apart s a p_declaration p_rest h refl) (map (mark_at s) (children_at s a)) refl
          (declaration_list T (map (mark_at s) (children_at s a)) (subst (λ (q : ℕ). Brings T q 0 (map (mark_at s) (children_at s a))) (eqb-true (production_at s a) p_declaration h) (brought a)))

      by_first : initialiser_of s all d ≡ Some init
      by_first =
          let asc : Ascend 0 (e ∷ init ∷ more) = subst (Ascend 0) are (families.ascend p) in
          let none : last_where tested (children_at s p) ≡ None = ap (last_where tested) are ∙ last_none tested (e ∷ init ∷ more) (behind_sign s all standing init is 0 e more asc sign) in
          by (parent_of s p) refl (sym (ap from_last none) ∙ there)
        where
          by : (o : Option ℕ) → parent_of s p ≡ o → option_and_then (child_of s p_declarator) o ≡ Some d → initialiser_of s all d ≡ Some init
          by None up h = cc
          by (Some a) up h = let inside = parent_holds s tree a p up in above a inside h (either_one a (nested.rests a p inside rest))

    by_rest : (ms : List Mark) → map (mark_at s) (children_at s p) ≡ ms → IsRestList T ms → initialiser_of s all d ≡ Some init
    by_rest ms e (Begins {init = xs} {more = ys} maybe more) = by xs maybe (children_at s p) refl (parts p (xs ++ ys) e)
      where
        inside : contains (children_at s p) init ≡ true
        inside = parent_holds s tree p init parent

        by : (xs : List Mark) → MaybeInit T xs → (ks : List ℕ) → children_at s p ≡ ks → Reads s all ks (xs ++ ys) → initialiser_of s all d ≡ Some init
        by xs Absent ks at r = by_found (subst (FoundIn s all standing init is) (sym at) (further s all standing init is ys more 0 ks r (subst (Ascend 0) at (families.ascend p)) (subst (λ (l : List ℕ). contains l init ≡ true) at inside)))
        by xs (Present equals place takes) [] at r = absurd r
        by xs (Present equals place takes) (e ∷ []) at r = absurd r.1
        by xs (Present equals place takes) (e ∷ i ∷ ks) at r =
            let asc : Ascend 0 (e ∷ i ∷ ks) = subst (Ascend 0) at (families.ascend p) in
            let in_both : contains (e ∷ i ∷ ks) init ≡ true = subst (λ (l : List ℕ). contains l init ≡ true) at inside in
            elim (member i init ks (drop_other init p_init e leaf (i ∷ ks) is (is_as s all e leaf equals r.0) refl in_both)) [
              | inl same ↦ by_first e ks (at ∙ ap (λ (x : ℕ). e ∷ x ∷ ks) same) (sign_is s all standing e equals r.0 takes)
              | inr later ↦ by_found (subst (FoundIn s all standing init is) (sym at) (skip s all standing init is 0 e (i ∷ ks) asc (skip s all standing init is (suc e) i ks asc.1 (further s all standing init is ys more (suc i) ks r.1.1 asc.1.1 later))))
            ]

    pub owned : initialiser_of s all d ≡ Some init
    owned = by_rest (map (mark_at s) (children_at s p)) refl (rest_list T (map (mark_at s) (children_at s p)) (subst (λ (q : ℕ). Brings T q 0 (map (mark_at s) (children_at s p))) (eqb-true (production_at s p) p_rest rest) (brought p)))

token_has : (P : Token → Type 0) (list : List Token) (k : ℕ) (t : Token) → All P list → slice_get list k ≡ Some t → P t
token_has P list k t h e = subst P (get_or_from_slice_get list k t t e) (h k t (slice_get_within list k t e))

pub initialisers_stand : InitialisersStand
unfolding source_of
initialisers_stand tokens unit tree tag_number cut is known all init p d init_is parent rest by_it =
    let s : Source = numbered tag_number (source_of tokens tree) in
    let read = is.0 in
    let grown : Grown s = grown_read tokens tree tag_number (begin 0 no_names []) read.0 refl refl read.1 read.2 in
    owned s grown (units_nest tokens unit tree tag_number is) (units_families tokens unit tree tag_number cut is) (λ k t e. token_has (Stands tokens.text.now) tokens.list.items k t (stand tokens.text.now tokens.list.items cut) e) (units_bring tokens unit tree tag_number is) known all init p d init_is parent rest by_it
