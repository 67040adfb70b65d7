-- An external declaration has one block at most.
use Rattle.std.proofs.Common.{◌≡◌, ◌==◌, ◌||◌, ℕ, zero, suc, nat_eq, Bool, true, false, List, [], ◌∷◌, ◌++◌, map, Option, Some, None, length, slice_get, refl, sym, ap, ◌∙◌, subst, ◌⊎◌, inl, inr}
use Rattle.std.specs.Prelude.{⊤, option_map}
use Rattle.std.proofs.lemmas.Bool.{eqb-true}
use Rattle.std.proofs.lemmas.Option.{slice_get-map}
use Rattle.c_lexer.specs.declared.TokenKind.{TokenKind}
use Rattle.c_grammar.specs.declared.trees.SyntaxNode.{SyntaxNode}
use Rattle.c_grammar.specs.Productions.{p_external, p_block}
use Rattle.c_grammar.specs.Terminals.{contains}
use Rattle.c_senses.specs.Tree.{Source, production_of, production_at, children_at, is_a}
use Rattle.core_node_laws.specs.count_laws.passed.parsed_tree_laws.sign_parts.Parts.{Mark, Takes, mark_of, mark_at, IsBrought, Brings}
use Rattle.declaration_laws.proofs.declared_type_laws.owner_laws.passed.definition_laws.own_initialisers.Parts.{mark, NoAsm, Asm, IsNaming, Naming, IsOther, Assert, Alone, Body, external_list}

-- none is a block, and only the last one is
abbrev NoBlocks : List Mark → Type 0
NoBlocks [] = ⊤
NoBlocks (x ∷ xs) = (nat_eq x.production p_block ≡ false) × NoBlocks xs

record EndsInBlock (zs : List Mark) : Type 0 where
  before : List Mark
  last : Mark
  are : zs ≡ before ++ last ∷ []
  none : NoBlocks before

no_both : (b : Bool) → b ≡ true → b ≡ false → ⊥
no_both b e f = let both : true ≡ false = sym e ∙ f in cc

some_same : {A : Type 0} → {x y : A} → ◌≡◌ {A = Option A} (Some x) (Some y) → x ≡ y
some_same e = cc

none_there : (zs : List Mark) (k : ℕ) (x : Mark) → NoBlocks zs → slice_get zs k ≡ Some x → nat_eq x.production p_block ≡ true → ⊥
none_there [] k x h e is = cc
none_there (z ∷ zs) zero x h e is = no_both (nat_eq x.production p_block) is (subst (λ (y : Mark). nat_eq y.production p_block ≡ false) (some_same e) h.0)
none_there (z ∷ zs) (suc k) x h e is = none_there zs k x h.1 e is

at_last : (xs : List Mark) (last : Mark) (k : ℕ) (x : Mark) → NoBlocks xs → slice_get (xs ++ last ∷ []) k ≡ Some x → nat_eq x.production p_block ≡ true → k ≡ length xs
at_last [] last zero x h e is = refl
at_last [] last (suc k) x h e is = cc
at_last (y ∷ xs) last zero x h e is = absurd (no_both (nat_eq x.production p_block) is (subst (λ (z : Mark). nat_eq z.production p_block ≡ false) (some_same e) h.0))
at_last (y ∷ xs) last (suc k) x h e is = ap suc (at_last xs last k x h.1 e is)

module _ (T : ℕ → TokenKind → ℕ → Type 0) where
  naming : (zs : List Mark) → IsNaming T zs → NoBlocks zs
  naming zs (Naming specs declarator rest NoAsm) = (refl, (refl, (refl, tt)))
  naming zs (Naming specs declarator rest (Asm place)) = (refl, (refl, (refl, (refl, tt))))

  other : (zs : List Mark) → IsOther T zs → NoBlocks zs ⊎ EndsInBlock zs
  other zs (Assert place) = inl (refl, tt)
  other zs (Alone specs place) = inl (refl, (refl, tt))
  other zs (Body specs declarator block NoAsm) = inr (record { before = mark 6 specs ∷ mark 19 declarator ∷ []; last = mark 29 block; are = refl; none = (refl, (refl, tt)) })
  other zs (Body specs declarator block (Asm place)) = inr (record { before = mark 6 specs ∷ mark 19 declarator ∷ mark 5 place ∷ []; last = mark 29 block; are = refl; none = (refl, (refl, (refl, tt))) })

  external : (zs : List Mark) → Brings T 1 0 zs → NoBlocks zs ⊎ EndsInBlock zs
  external zs h = by (external_list T zs h)
    where
      by : IsNaming T zs ⊎ IsOther T zs → NoBlocks zs ⊎ EndsInBlock zs
      by (inl n) = inl (naming zs n)
      by (inr o) = other zs o

in_list : (list : List ℕ) (i : ℕ) → contains list i ≡ true → (k : ℕ) × (slice_get list k ≡ Some i)
in_list [] i h = cc
in_list (x ∷ list) i h = by (nat_eq x i) refl h (λ f. in_list list i f)
  where
    by : (b : Bool) → nat_eq x i ≡ b → (b || contains list i) ≡ true → (contains list i ≡ true → (k : ℕ) × (slice_get list k ≡ Some i)) → (k : ℕ) × (slice_get (x ∷ list) k ≡ Some i)
    by true e f later = (0, ap (λ (n : ℕ). Some n) (eqb-true x i e))
    by false e f later = let more = later f in (suc more.0, more.1)

module _ (s : Source) (brought : IsBrought s) where
  block_mark : (i : ℕ) → is_a s p_block i ≡ true → nat_eq (mark_at s i).production p_block ≡ true
  block_mark i h = by (slice_get s.nodes i) h
    where
      by : (o : Option SyntaxNode) → (production_of o == p_block) ≡ true → nat_eq (mark_of o).production p_block ≡ true
      by None e = cc
      by (Some n) e = e

  there : (i a : ℕ) → contains (children_at s i) a ≡ true → (k : ℕ) × (slice_get (children_at s i) k ≡ Some a) × (slice_get (map (mark_at s) (children_at s i)) k ≡ Some (mark_at s a))
  there i a h = let k = in_list (children_at s i) a h in (k.0, k.1, slice_get-map (mark_at s) (children_at s i) k.0 ∙ ap (option_map (mark_at s)) k.1)

  pub one_block : (i a b : ℕ) → is_a s p_external i ≡ true → contains (children_at s i) a ≡ true → contains (children_at s i) b ≡ true → is_a s p_block a ≡ true → is_a s p_block b ≡ true → a ≡ b
  one_block i a b external_is one other first second =
      by (external (Takes s.text s.tokens) (map (mark_at s) (children_at s i)) (subst (λ (q : ℕ). Brings (Takes s.text s.tokens) q 0 (map (mark_at s) (children_at s i))) (eqb-true (production_at s i) p_external external_is) (brought i)))
    where
      by : NoBlocks (map (mark_at s) (children_at s i)) ⊎ EndsInBlock (map (mark_at s) (children_at s i)) → a ≡ b
      by (inl none) = let j = there i a one in absurd (none_there (map (mark_at s) (children_at s i)) j.0 (mark_at s a) none j.2 (block_mark a first))
      by (inr e) =
          let j = there i a one in
          let k = there i b other in
          let x : j.0 ≡ length e.before = at_last e.before e.last j.0 (mark_at s a) e.none (subst (λ (l : List Mark). slice_get l j.0 ≡ Some (mark_at s a)) e.are j.2) (block_mark a first) in
          let y : k.0 ≡ length e.before = at_last e.before e.last k.0 (mark_at s b) e.none (subst (λ (l : List Mark). slice_get l k.0 ≡ Some (mark_at s b)) e.are k.2) (block_mark b second) in
          some_same (sym j.1 ∙ (ap (slice_get (children_at s i)) (x ∙ sym y) ∙ k.1))
