-- The first declaration with a fault, of two lists that say the same.
use Rattle.std.proofs.Common.{arith, ◌≡◌, ◌∙◌, ◌<◌, ℕ, List, Option, Some, take, sym, ap, subst, inl, inr}
use Rattle.std.specs.List.{slice_get}
use Rattle.std.proofs.lemmas.Bool.{cases_lt}
use Rattle.link_names.specs.declared.declared.Declared.{Declared}
use Rattle.link_names.specs.declared.fault.LinkFault.{LinkFault}
use Rattle.link_names.specs.declared.fault.LinkFault.TheVariants.{Conflict, Twice, Undefined, NoMain, NoEntry, OutOfMemory}
use Rattle.link_names.specs.Externals.{Joined}
use Rattle.link_names.specs.Faults.{Conflicts, IsClean, AreClean, FaultOf, IsFirstFault}
use Rattle.twin_report_laws.proofs.outcome_laws.fault_laws.Pairing.{SameDeclared, Pairs, PairAt, pair_at, taken, flipped, turned, conflicts_same, second_same}

some_one : {X : Type 0} → {x y : X} → ◌≡◌ {A = Option X} (Some x) (Some y) → x ≡ y
some_one h = cc

-- a declaration with a fault isn't clean
faulty : (j : Joined) (ds earlier : List Declared) (d : Declared) (fault : LinkFault) → FaultOf j ds earlier d fault → IsClean j ds earlier d → ⊥
faulty j ds earlier d (Conflict name unit) h clean = clean.agrees name h.0 h.2
faulty j ds earlier d (Twice name unit) h clean = clean.once name h.0 h.3
faulty j ds earlier d (Undefined place name) h clean = absurd h
faulty j ds earlier d NoMain h clean = absurd h
faulty j ds earlier d (NoEntry name) h clean = absurd h
faulty j ds earlier d OutOfMemory h clean = absurd h

-- it has one fault
one_fault_of : (j : Joined) (ds earlier : List Declared) (d : Declared) (fault other : LinkFault) → FaultOf j ds earlier d fault → FaultOf j ds earlier d other → fault ≡ other
one_fault_of j ds earlier d (Conflict name unit) (Conflict again more) h k =
    ap (λ (n : List ℕ). Conflict n unit) (some_one (sym h.0 ∙ k.0)) ∙ ap (λ (u : ℕ). Conflict again u) (h.1 ∙ sym k.1)
one_fault_of j ds earlier d (Conflict name unit) (Twice again more) h k =
    absurd (k.2 (subst (λ (n : List ℕ). Conflicts j ds earlier d n) (some_one (sym h.0 ∙ k.0)) h.2))
one_fault_of j ds earlier d (Twice name unit) (Conflict again more) h k =
    absurd (h.2 (subst (λ (n : List ℕ). Conflicts j ds earlier d n) (some_one (sym k.0 ∙ h.0)) k.2))
one_fault_of j ds earlier d (Twice name unit) (Twice again more) h k =
    ap (λ (n : List ℕ). Twice n unit) (some_one (sym h.0 ∙ k.0)) ∙ ap (λ (u : ℕ). Twice again u) (h.1 ∙ sym k.1)
one_fault_of j ds earlier d (Conflict name unit) (Undefined place again) h k = absurd k
one_fault_of j ds earlier d (Conflict name unit) NoMain h k = absurd k
one_fault_of j ds earlier d (Conflict name unit) (NoEntry again) h k = absurd k
one_fault_of j ds earlier d (Conflict name unit) OutOfMemory h k = absurd k
one_fault_of j ds earlier d (Twice name unit) (Undefined place again) h k = absurd k
one_fault_of j ds earlier d (Twice name unit) NoMain h k = absurd k
one_fault_of j ds earlier d (Twice name unit) (NoEntry again) h k = absurd k
one_fault_of j ds earlier d (Twice name unit) OutOfMemory h k = absurd k
one_fault_of j ds earlier d (Undefined place name) other h k = absurd h
one_fault_of j ds earlier d NoMain other h k = absurd h
one_fault_of j ds earlier d (NoEntry name) other h k = absurd h
one_fault_of j ds earlier d OutOfMemory other h k = absurd h

module _ (j k : Joined) (to back : ℕ → ℕ) (ds es : List Declared) (all : Pairs (SameDeclared j k to back) ds es) where
  abbrev Same : Declared → Declared → Type 0
  Same d e = SameDeclared j k to back d e

  abbrev Turned : Declared → Declared → Type 0
  Turned e d = SameDeclared k j back to e d

  turn : (xs ys : List Declared) → Pairs Same xs ys → Pairs Turned ys xs
  turn xs ys h = flipped Same Turned (turned j k to back) xs ys h

  conflict_back : (i : ℕ) (d e : Declared) (name : List ℕ) → Same d e → Conflicts k es (take i es) e name → Conflicts j ds (take i ds) d name
  conflict_back i d e name p h = conflicts_same k j back to name es ds (take i es) (take i ds) e d (turn ds es all) (turn (take i ds) (take i es) (taken Same i ds es all)) (turned j k to back d e p) h

  -- the fault of a declaration is that of its like
  fault_same : (i : ℕ) (d e : Declared) (fault : LinkFault) → Same d e → FaultOf j ds (take i ds) d fault → FaultOf k es (take i es) e fault
  fault_same i d e (Conflict name unit) p h =
      (sym p.name ∙ h.0, h.1 ∙ p.unit, conflicts_same j k to back name ds es (take i ds) (take i es) d e all (taken Same i ds es all) p h.2)
  fault_same i d e (Twice name unit) p h =
      (sym p.name ∙ h.0, h.1 ∙ p.unit, (λ c. h.2 (conflict_back i d e name p c)), second_same j k to back name (take i ds) (take i es) d e (taken Same i ds es all) p h.3)
  fault_same i d e (Undefined place name) p h = absurd h
  fault_same i d e NoMain p h = absurd h
  fault_same i d e (NoEntry name) p h = absurd h
  fault_same i d e OutOfMemory p h = absurd h

  -- where the first so many are clean, the first fault of the others comes later
  pub not_clean : (fault : LinkFault) (count : ℕ) (f : IsFirstFault j ds fault) → AreClean k es count → f.at < count → ⊥
  not_clean fault count f clean before =
      let at : PairAt Same es f.at f.declared = pair_at Same ds es f.at f.declared all f.declared_is in
      faulty k es (take f.at es) at.other fault (fault_same f.at f.declared at.other fault at.pair f.fault_is) (clean.each f.at at.other before at.stands)

  same_at : (fault other : LinkFault) (f : IsFirstFault j ds fault) (g : IsFirstFault k es other) → f.at ≡ g.at → fault ≡ other
  same_at fault other f g same =
      let at : PairAt Same es f.at f.declared = pair_at Same ds es f.at f.declared all f.declared_is in
      let moved : FaultOf k es (take f.at es) at.other fault = fault_same f.at f.declared at.other fault at.pair f.fault_is in
      let one : at.other ≡ g.declared = some_one (sym at.stands ∙ (ap (slice_get es) same ∙ g.declared_is)) in
      let here : FaultOf k es (take g.at es) g.declared fault = subst (λ (n : ℕ). FaultOf k es (take n es) g.declared fault) same (subst (λ (x : Declared). FaultOf k es (take f.at es) x fault) one moved) in
      one_fault_of k es (take g.at es) g.declared fault other here g.fault_is

pub one_first : (j k : Joined) (to back : ℕ → ℕ) (ds es : List Declared) → Pairs (SameDeclared j k to back) ds es → (fault other : LinkFault) → IsFirstFault j ds fault → IsFirstFault k es other → fault ≡ other
one_first j k to back ds es all fault other f g = elim (cases_lt f.at g.at) [
  | inl less ↦ absurd (not_clean j k to back ds es all fault g.at f g.clean less)
  | inr not_less ↦ elim (cases_lt g.at f.at) [
    | inl more ↦ absurd (not_clean k j back to es ds (turn j k to back ds es all ds es all) other f.at g f.clean more)
    | inr not_more ↦ same_at j k to back ds es all fault other f g (omega (arith, not_less, not_more))
  ]
]
