-- What a row brings, item by item.
use Rattle.std.proofs.Common.{◌≡◌, ℕ, ◌+◌, ◌⊎◌, inl, inr, true, false, List, [], ◌∷◌, ◌++◌, Some, None, sym, ◌∙◌, subst}
use Rattle.c_lexer.specs.declared.TokenKind.{TokenKind}
use Rattle.c_grammar.specs.declared.rows.Item.TheVariants as item
use Rattle.c_grammar.specs.Table.{item_of}
use Rattle.c_grammar.specs.Tree.{makes_node}
use Rattle.parsed_tree_laws.specs.sign_parts.Parts.{Mark, leaf_mark, Brings, ended, token, use_of, choice, again, enough, scope, Part, own_node, own_row}

module _ (T : ℕ → TokenKind → ℕ → Type 0) where
  pub of_end : (p at : ℕ) (zs : List Mark) → Brings T p at zs → item_of p at ≡ None → zs ≡ []
  of_end p at zs (ended h e) i = e
  of_end p at zs (token h takes e b) i = absurd (cc)
  of_end p at zs (use_of h e x b) i = absurd (cc)
  of_end p at zs (choice h c e x b) i = absurd (cc)
  of_end p at zs (again h e x b) i = absurd (cc)
  of_end p at zs (enough h b) i = absurd (cc)
  of_end p at zs (scope h b) i = absurd (cc)

  pub of_token : (p at : ℕ) (k : TokenKind) (zs : List Mark) → Brings T p at zs → item_of p at ≡ Some (item.Token k) → (place : ℕ) × (ys : List Mark) × T p k place × (zs ≡ leaf_mark place ∷ ys) × Brings T p (at + 1) ys
  of_token p at k zs (ended h e) i = absurd (cc)
  of_token p at k zs (token {place = place} {k = j} {ys = ys} h takes e b) i = let same : j ≡ k = cc in (place, ys, subst (λ (n : TokenKind). T p n place) same takes, e, b)
  of_token p at k zs (use_of h e x b) i = absurd (cc)
  of_token p at k zs (choice h c e x b) i = absurd (cc)
  of_token p at k zs (again h e x b) i = absurd (cc)
  of_token p at k zs (enough h b) i = absurd (cc)
  of_token p at k zs (scope h b) i = absurd (cc)

  pub of_use : (p at q : ℕ) (zs : List Mark) → Brings T p at zs → item_of p at ≡ Some (item.Use q) → (xs ys : List Mark) × (zs ≡ xs ++ ys) × Part T q xs × Brings T p (at + 1) ys
  of_use p at q zs (ended h e) i = absurd (cc)
  of_use p at q zs (token h takes e b) i = absurd (cc)
  of_use p at q zs (use_of {q = r} {xs = xs} {ys = ys} h e x b) i = let same : r ≡ q = cc in (xs, ys, e, subst (λ (n : ℕ). Part T n xs) same x, b)
  of_use p at q zs (choice h c e x b) i = absurd (cc)
  of_use p at q zs (again h e x b) i = absurd (cc)
  of_use p at q zs (enough h b) i = absurd (cc)
  of_use p at q zs (scope h b) i = absurd (cc)

  pub of_choice : (p at a b : ℕ) (zs : List Mark) → Brings T p at zs → item_of p at ≡ Some (item.Choice a b) → (xs ys : List Mark) × (zs ≡ xs ++ ys) × (Part T a xs ⊎ Part T b xs) × Brings T p (at + 1) ys
  of_choice p at a b zs (ended h e) i = absurd (cc)
  of_choice p at a b zs (token h takes e m) i = absurd (cc)
  of_choice p at a b zs (use_of h e x m) i = absurd (cc)
  of_choice p at a b zs (choice {a = c} {b = d} {q = q} {xs = xs} {ys = ys} h o e x more) i = let first : c ≡ a = cc in let second : d ≡ b = cc in (xs, ys, e, elim o [ inl f ↦ inl (subst (λ (n : ℕ). Part T n xs) (sym f ∙ first) x) | inr f ↦ inr (subst (λ (n : ℕ). Part T n xs) (sym f ∙ second) x) ], more)
  of_choice p at a b zs (again h e x m) i = absurd (cc)
  of_choice p at a b zs (enough h m) i = absurd (cc)
  of_choice p at a b zs (scope h m) i = absurd (cc)

  pub of_repeat : (p at q : ℕ) (zs : List Mark) → Brings T p at zs → item_of p at ≡ Some (item.Repeat q) → ((xs ys : List Mark) × (zs ≡ xs ++ ys) × Part T q xs × Brings T p at ys) ⊎ Brings T p (at + 1) zs
  of_repeat p at q zs (ended h e) i = absurd (cc)
  of_repeat p at q zs (token h takes e b) i = absurd (cc)
  of_repeat p at q zs (use_of h e x b) i = absurd (cc)
  of_repeat p at q zs (choice h c e x b) i = absurd (cc)
  of_repeat p at q zs (again {q = r} {xs = xs} {ys = ys} h e x b) i = let same : r ≡ q = cc in inl (xs, ys, e, subst (λ (n : ℕ). Part T n xs) same x, b)
  of_repeat p at q zs (enough h b) i = inr b
  of_repeat p at q zs (scope h b) i = absurd (cc)

  pub of_scope : (p at n : ℕ) (zs : List Mark) → Brings T p at zs → item_of p at ≡ Some (item.Scope n) → Brings T p (at + 1) zs
  of_scope p at n zs (ended h e) i = absurd (cc)
  of_scope p at n zs (token h takes e b) i = absurd (cc)
  of_scope p at n zs (use_of h e x b) i = absurd (cc)
  of_scope p at n zs (choice h c e x b) i = absurd (cc)
  of_scope p at n zs (again h e x b) i = absurd (cc)
  of_scope p at n zs (enough h b) i = absurd (cc)
  of_scope p at n zs (scope h b) i = b

  pub of_node : (q : ℕ) (zs : List Mark) → Part T q zs → makes_node q ≡ true → (place : ℕ) × (zs ≡ record { production = q; token = place } ∷ [])
  of_node q zs (own_node {place = place} h e) i = (place, e)
  of_node q zs (own_row h b) i = absurd (let f : false ≡ true = sym h ∙ i in cc)

  pub of_row : (q : ℕ) (zs : List Mark) → Part T q zs → makes_node q ≡ false → Brings T q 0 zs
  of_row q zs (own_node h e) i = absurd (let f : true ≡ false = sym h ∙ i in cc)
  of_row q zs (own_row h b) i = b

  -- a fact of all that a repetition brings, and what follows it
  pub all_repeated : (P : List Mark → Type 0) (p at q : ℕ) → item_of p at ≡ Some (item.Repeat q) → ((zs : List Mark) → Brings T p (at + 1) zs → P zs) → ((xs ys : List Mark) → Part T q xs → P ys → P (xs ++ ys)) → (zs : List Mark) → Brings T p at zs → P zs
  all_repeated P p at q i last more zs (ended h e) = absurd (cc)
  all_repeated P p at q i last more zs (token h takes e b) = absurd (cc)
  all_repeated P p at q i last more zs (use_of h e x b) = absurd (cc)
  all_repeated P p at q i last more zs (choice h c e x b) = absurd (cc)
  all_repeated P p at q i last more zs (again {q = r} {xs = xs} {ys = ys} h e x b) =
      let same : r ≡ q = cc in subst P (sym e) (more xs ys (subst (λ (n : ℕ). Part T n xs) same x) (all_repeated P p at q i last more ys b))
  all_repeated P p at q i last more zs (enough h b) = last zs b
  all_repeated P p at q i last more zs (scope h b) = absurd (cc)
