-- Names with linkage that are declared earlier, and used later.
use Rattle.std.proofs.Common.{arith, ◌≡◌, ◌<◌, ◌≤◌, ◌+◌, inl, inr, ℕ, true, List, [], ◌∷◌, ◌++◌, length, Option, Some, sym, ◌∙◌, subst}
use Rattle.c_grammar.specs.Productions.{p_primary}
use Rattle.c_grammar.specs.Terminals.{contains}
use Rattle.c_scope.specs.declared.kinds.Declared.{Declared}
use Rattle.c_senses.specs.Tree.{Source, children_at, is_a, paired}
use Rattle.c_senses.specs.Names.{has_linkage, made_before, ordinary_at}
use Rattle.c_senses.specs.Declarators.{outermost_of}
use Rattle.parsed_tree_laws.proofs.placed_laws.Climbing.{Grown}
use Rattle.parsed_tree_laws.specs.grown_parts.Parts.{IsBrought}
use Rattle.declaration_laws.specs.name_order.Order.{Declares, Rises, IsOrdered}
use Rattle.declaration_laws.proofs.declared_type_laws.declared_leaves.Climbing.{outermost_is}
use Rattle.declaration_laws.proofs.declared_type_laws.declared_once.Knowing.{In}
use Rattle.declaration_laws.proofs.declared_type_laws.declared_once.Standing.{HasDeclarator, has_declarator, declares_once}
use Rattle.valid_unit_laws.proofs.object_initialiser_laws.internal_name_laws.internal_types.PassedOn.{found_at}

some_one : {X : Type 0} → {x y : X} → ◌≡◌ {A = Option X} (Some x) (Some y) → x ≡ y
some_one h = cc

-- in order, an earlier declaration is made by an earlier node
module _ (s : Source) where
  last_declares : (low high : ℕ) (front : List Declared) (d : Declared) (back : List Declared) → Rises s low high (front ++ d ∷ back) → (b : ℕ) × (low ≤ b) × Declares s b d.node
  last_declares low high [] d back h = (h.0, h.1, h.2)
  last_declares low high (x ∷ front) d back h =
      let more = last_declares (h.0 + 1) high front d back h.3 in
      let le = more.1 in
      let lower = h.1 in
      (more.0, omega (arith, le, lower), more.2)

  in_order : (low high : ℕ) (front : List Declared) (d : Declared) (back : List Declared) → Rises s low high (front ++ d ∷ back) → (x : Declared) → In x front → (a b : ℕ) × Declares s a x.node × Declares s b d.node × (a < b)
  in_order low high [] d back h x i = absurd i
  in_order low high (y ∷ front) d back h x (inl same) =
      let last = last_declares (h.0 + 1) high front d back h.3 in
      let le = last.1 in
      (h.0, last.0, subst (λ (z : Declared). Declares s h.0 z.node) same h.2, last.2, omega (arith, le))
  in_order low high (y ∷ front) d back h x (inr more) = in_order (h.0 + 1) high front d back h.3 x more

module _ (s : Source) (tree : Grown s) (brought : IsBrought s) (ordered : IsOrdered s) where
  -- the declarator of a name with linkage alone declares it
  declarator_is : (leaf m : ℕ) (d : Declared) → ordinary_at s leaf ≡ Some d → has_linkage d ≡ true → outermost_of s leaf ≡ Some m → (a : ℕ) → Declares s a leaf → a ≡ m
  declarator_is leaf m d at linked up a declares =
      let one : HasDeclarator s tree brought leaf = has_declarator s tree brought ordered leaf d at linked in
      let below = tree.before one.stands.0 one.declarator one.stands.2 in
      let within = tree.within one.stands.0 one.declarator one.stands.2 in
      let own : outermost_of s leaf ≡ Some one.declarator = outermost_is s tree one.declarator leaf one.named (omega (arith, below, within)) one.outer in
      declares_once s tree brought leaf a one declares ∙ some_one (sym own ∙ up)

  -- what is made before has an earlier declarator
  pub earlier : (leaf m other k : ℕ) (d e : Declared) → ordinary_at s leaf ≡ Some d → has_linkage d ≡ true → outermost_of s leaf ≡ Some m → ordinary_at s other ≡ Some e → has_linkage e ≡ true → outermost_of s other ≡ Some k
      → d.node ≡ leaf → e.node ≡ other → In e (made_before leaf s.declared.ordinary) → k < m
  earlier leaf m other k d e at linked up at_other linked_other up_other node node_other i =
      let found = found_at s.declared.ordinary leaf d at in
      let two = in_order s 0 (length s.nodes) (made_before leaf s.declared.ordinary) d found.0 (subst (Rises s 0 (length s.nodes)) found.1 ordered.names) e i in
      let first = declarator_is other k e at_other linked_other up_other two.0 (subst (λ (n : ℕ). Declares s two.0 n) node_other two.2) in
      let second = declarator_is leaf m d at linked up two.1 (subst (λ (n : ℕ). Declares s two.1 n) node two.3) in
      let lt = two.4 in
      omega (arith, first, second, lt)

  -- and so has a name that is used
  pub used : (leaf m i first : ℕ) (d : Declared) → ordinary_at s leaf ≡ Some d → has_linkage d ≡ true → outermost_of s leaf ≡ Some m → paired s.uses first ≡ Some leaf → is_a s p_primary i ≡ true → contains (children_at s i) first ≡ true → m < i
  used leaf m i first d at linked up pair primary inside =
      let declared = ordered.uses first leaf i pair primary inside in
      let same = declarator_is leaf m d at linked up declared.0 declared.2 in
      let lt = declared.1 in
      let before = tree.before i first inside in
      omega (arith, same, lt, before)
