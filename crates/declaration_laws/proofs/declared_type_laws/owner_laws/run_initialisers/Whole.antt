-- The rows of the rest of a declaration and of a declaration.
use Rattle.std.proofs.Common.{arith, ◌≡◌, ◌<◌, ℕ, zero, suc, nat_eq, Bool, true, false, ◌||◌, List, [], ◌∷◌, Option, Some, length, take, slice_get, refl, sym, ap, ◌∙◌, subst, inl, inr}
use Rattle.std.specs.Prelude.{if◌then◌else◌}
use Rattle.std.proofs.lemmas.Bool.{eqb-true}
use Rattle.pta_base.specs.declared.kind.Kind.TheVariants.{Operand}
use Rattle.core_tree.specs.Rows.{Has}
use Rattle.c_grammar.specs.Productions.{p_rest, p_declaration, p_asm_name, p_specs, p_declarator}
use Rattle.c_grammar.specs.Reads.{leaf}
use Rattle.c_consts.specs.Core.{Core, Of}
use Rattle.c_senses.specs.Names.{source_of, numbered}
use Rattle.c_senses.specs.Tree.{Source, production_at, children_at, is_a}
use Rattle.c_senses.specs.Given.{Fits, given_if}
use Rattle.c_senses.specs.World.{World}
use Rattle.c_senses.specs.Sense.{Sense, Nothing, IsSpecified, IsRun, IsInitial, Specified, sense_in}
use Rattle.c_senses.specs.Rows.{AreSenses}
use Rattle.c_senses.specs.Statements.{runs_initialiser, initials_among, run_in}
use Rattle.core_node_laws.specs.passed.parsed_tree_laws.family_laws.Families.{IsChild}
use Rattle.core_node_laws.specs.standing_laws.Standing.{IsGrown}
use Rattle.core_node_laws.proofs.standing_laws.Climbing.{child_inside}
use Rattle.core_node_laws.proofs.standing_laws.Descending.{F, W, row_there, sense_before, child_before, same_given}
use Rattle.declaration_laws.proofs.declared_type_laws.owner_laws.held_parts.PassedOn.{grown_of}
use Rattle.declaration_laws.proofs.definition_laws.function_definitions.Whole.{declarator_gives}
use Rattle.declaration_laws.specs.declared_type_laws.owner_laws.held_parts.Held.{StandsIn, InRun, IsHeld}
use Rattle.declaration_laws.specs.declared_type_laws.owner_laws.run_initialisers.Run.{UnitsRunInitialisers}
use Rattle.declaration_laws.proofs.declared_type_laws.owner_laws.run_initialisers.Shapes.{Calm, EndsIn, rest_last}

clash : {X : Type 0} → (b : Bool) → b ≡ true → b ≡ false → X
clash true e f = cc
clash false e f = cc

itself : (x : Core) → StandsIn x x
itself (Of kind place type under) = inl refl

abbrev NoRun : Sense → Type 0
NoRun y = (cores : List Core) → y ≡ IsRun cores → ⊥

module _ (w : World) (s : Source) (sense : ℕ → Sense) where
  -- the rest runs the initialisers that run where they stand
  initials_have : (list : List ℕ) (k c : ℕ) (x : Core) (n : Option ℕ) → slice_get list k ≡ Some c → sense c ≡ IsInitial x n → runs_initialiser w s sense c ≡ true → InRun x (initials_among w s sense list)
  initials_have [] k c x n e is runs = cc
  initials_have (d ∷ rest) zero c x n e is runs = let same : d ≡ c = cc in by (sense d) (ap sense same ∙ is) (runs_initialiser w s sense d) (subst (λ (y : ℕ). runs_initialiser w s sense y ≡ true) (sym same) runs)
    where
      by : (y : Sense) → y ≡ IsInitial x n → (b : Bool) → b ≡ true
          → InRun x (elim y as (λ _. List Core) [ IsInitial z m ↦ if b then z ∷ initials_among w s sense rest else initials_among w s sense rest | _ ↦ initials_among w s sense rest ])
      by (IsInitial z m) is true t = let same : x ≡ z = cc in inl (subst (λ (v : Core). StandsIn x v) same (itself x))
      by (IsInitial z m) is false t = cc
      by y is b t = cc
  initials_have (d ∷ rest) (suc k) c x n e is runs = by (sense d) (runs_initialiser w s sense d) (initials_have rest k c x n e is runs)
    where
      by : (y : Sense) (b : Bool) → InRun x (initials_among w s sense rest)
          → InRun x (elim y as (λ _. List Core) [ IsInitial z m ↦ if b then z ∷ initials_among w s sense rest else initials_among w s sense rest | _ ↦ initials_among w s sense rest ])
      by (IsInitial z m) true h = inr h
      by (IsInitial z m) false h = h
      by y b h = h

  -- and the declaration what its rest runs
  run_is : (list : List ℕ) (r : ℕ) (cores : List Core) → EndsIn s r list → ((c : ℕ) → Has list c → Calm s c → NoRun (sense c)) → sense r ≡ IsRun cores → run_in w s sense list ≡ cores
  run_is [] r cores ends calm is = absurd ends
  run_is (d ∷ rest) r cores (inl same) calm is = by (sense d) (ap sense same ∙ is)
    where
      by : (y : Sense) → y ≡ IsRun cores → (elim y as (λ _. List Core) [ IsRun z ↦ z | _ ↦ run_in w s sense rest ]) ≡ cores
      by (IsRun z) e = cc
      by y e = cc
  run_is (d ∷ rest) r cores (inr (own, ends)) calm is = by (sense d) (calm d (0, refl) own) ∙ run_is rest r cores ends (λ c h quiet. calm c (suc h.0, h.1) quiet) is
    where
      by : (y : Sense) → NoRun y → (elim y as (λ _. List Core) [ IsRun z ↦ z | _ ↦ run_in w s sense rest ]) ≡ run_in w s sense rest
      by (IsRun z) h = absurd (h z refl)
      by y h = refl

module _ (s : Source) (senses : List Sense) (grown : IsGrown s) (are : AreSenses s senses) (whole : length senses ≡ length s.nodes) where
  inside : (i c : ℕ) → IsChild s i c → i < length senses
  inside i c h = let k = child_inside (slice_get s.nodes i) s.nodes i h.0 c refl h.1 in omega (arith, k, whole)

  below : (i c : ℕ) → IsChild s i c → c < length senses
  below i c h = let lt = child_before s senses grown are whole i c h in let k = inside i c h in omega (arith, lt, k)

  no_run : (c : ℕ) → c < length senses → Calm s c → NoRun (sense_in senses c)
  no_run c lt quiet cores e = by quiet
    where
      of_specs : (b : Bool) (x : Specified) → given_if b Operand c (Fits (IsSpecified x)) ≡ Fits (sense_in senses c) → ⊥
      of_specs true x h = let same = same_given (IsSpecified x) (sense_in senses c) h in let never : IsSpecified x ≡ IsRun cores = same ∙ e in cc
      of_specs false x h = cc

      nothing : Fits Nothing ≡ Fits (sense_in senses c) → ⊥
      nothing h = let same = same_given Nothing (sense_in senses c) h in let never : Nothing ≡ IsRun cores = same ∙ e in cc

      declarator : is_a s p_declarator c ≡ true → ⊥
      declarator is =
          let same = declarator_gives (W s senses grown are whole c) s (F s senses grown are whole c) c (children_at s c) (sense_in senses c) (row_there s senses grown are whole c p_declarator lt is) in
          let never = same ∙ e in
          cc

      of : (a b d : Bool) → nat_eq 5 (production_at s c) ≡ a → nat_eq 6 (production_at s c) ≡ b → nat_eq 19 (production_at s c) ≡ d → (a || (b || (d || false))) ≡ true → ⊥
      of true b d ea eb ed h = nothing (row_there s senses grown are whole c p_asm_name lt (ap (λ (x : ℕ). nat_eq x 5) (sym (eqb-true 5 (production_at s c) ea))))
      of false true d ea eb ed h = of_specs _ _ (row_there s senses grown are whole c p_specs lt (ap (λ (x : ℕ). nat_eq x 6) (sym (eqb-true 6 (production_at s c) eb))))
      of false false true ea eb ed h = declarator (ap (λ (x : ℕ). nat_eq x 19) (sym (eqb-true 19 (production_at s c) ed)))
      of false false false ea eb ed h = cc

      by : Calm s c → ⊥
      by (inl is) = nothing (row_there s senses grown are whole c leaf lt (ap (λ (x : ℕ). nat_eq x leaf) is))
      by (inr is) = of (nat_eq 5 (production_at s c)) (nat_eq 6 (production_at s c)) (nat_eq 19 (production_at s c)) refl refl refl is

  pub run_of : (ends : (d k r : ℕ) → is_a s p_declaration d ≡ true → slice_get (children_at s d) k ≡ Some r → is_a s p_rest r ≡ true → EndsIn s r (children_at s d)) → (w : World) (d r c : ℕ) (x : Core) (n : Option ℕ)
      → is_a s p_declaration d ≡ true → IsChild s d r → is_a s p_rest r ≡ true → IsChild s r c → sense_in senses c ≡ IsInitial x n → runs_initialiser w s (sense_in (take r senses)) c ≡ true → IsHeld x (sense_in senses d)
  run_of ends w d r c x n declares h rests k is runs =
      let wr : World = W s senses grown are whole r in
      let fr : ℕ → Sense = F s senses grown are whole r in
      let wd : World = W s senses grown are whole d in
      let fd : ℕ → Sense = F s senses grown are whole d in
      let cores : List Core = initials_among wr s fr (children_at s r) in
      let rest : Fits (IsRun cores) ≡ Fits (sense_in senses r) = row_there s senses grown are whole r p_rest (inside r c k) rests in
      let own : Fits (IsRun (run_in wd s fd (children_at s d))) ≡ Fits (sense_in senses d) = row_there s senses grown are whole d p_declaration (inside d r h) declares in
      let held : InRun x cores = initials_have wr s fr (children_at s r) k.0 c x n k.1 (sense_before s senses grown are whole r c (child_before s senses grown are whole r c k) ∙ is) runs in
      let seen : fd r ≡ IsRun cores = sense_before s senses grown are whole d r (child_before s senses grown are whole d r h) ∙ sym (same_given (IsRun cores) (sense_in senses r) rest) in
      let runs_are : run_in wd s fd (children_at s d) ≡ cores =
      run_is wd s fd (children_at s d) r cores (ends d h.0 r declares h.1 rests)
      (λ c has quiet run same. no_run c (below d c has) quiet run (sym (sense_before s senses grown are whole d c (child_before s senses grown are whole d c has)) ∙ same)) seen in
      subst (λ (y : Sense). IsHeld x y) (same_given (IsRun (run_in wd s fd (children_at s d))) (sense_in senses d) own) (subst (λ (l : List Core). InRun x l) (sym runs_are) held)

pub units_run_initialisers : UnitsRunInitialisers
units_run_initialisers tokens unit tree tag_number senses cut is are whole = record {
  each = run_of (numbered tag_number (source_of tokens tree)) senses (grown_of tokens unit tree tag_number cut is) are whole (rest_last tokens unit tree tag_number is);
}
