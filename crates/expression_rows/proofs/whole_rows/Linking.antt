-- Steps of chains of operators.
use Rattle.std.proofs.Common.{arith, ◌≡◌, ℕ, zero, suc, ◌+◌, Ok, Err, ◌<◌, List, [], ◌∷◌, Option, Some, length, get_or, drop, drop-cons, inl, inr, Bool, false, cond, eqb, refl, sym, ap, ◌∙◌}
use Rattle.std.proofs.lemmas.Bool.Decides.{eqb_tells}
use Rattle.pta_base.specs.declared.place.Place.{Place}
use Rattle.core_tree.specs.declared.node.Unit.{Unit}
use Rattle.c_consts.specs.Core.{Core}
use Rattle.c_senses.specs.Given.{Given, Fits, Refuses, ◌>>=◌}
use Rattle.c_senses.specs.World.{World}
use Rattle.c_senses.specs.Tree.{Source, sign_at, place_at}
use Rattle.c_senses.specs.Sense.{Sense, core_of}
use Rattle.c_senses.specs.Operators.{Between, between, operator}
use Rattle.c_senses.specs.Expressions.{step, chained, is_single, binary_row, as_sense}
use Rattle.core_nodes.specs.Standing.{core_at, Made}
use Rattle.core_nodes.specs.declared.fault.CheckFault.{CheckFault}
use Rattle.core_nodes.proofs.Failing.{made_same, fails}
use Rattle.expression_rows.specs.whole_rows.Whole.{joined_values, linked}

-- a step of a chain of operators
bind_assoc : (g : Given Core) (f h : Core → Given Core) → ((g >>= f) >>= h) ≡ (g >>= (λ x. f x >>= h))
bind_assoc (Fits x) f h = refl
bind_assoc (Refuses kind node) f h = refl

pub chain_of : (w : World) (s : Source) (sense : ℕ → Sense) (at : ℕ) (single : Bool) (a : Core) (o c : ℕ) (tail : List ℕ) → (linked w s sense (cond single at o) o a (sense c) >>= (λ x. chained w s sense (between w) at single x tail)) ≡ chained w s sense (between w) at single a (o ∷ c ∷ tail)
chain_of w s sense at single a o c tail =
    bind_assoc (core_of (cond single at o) (sense c)) (λ b. step w s sense (between w) (cond single at o) o a b (sign_at s o)) (λ x. chained w s sense (between w) at single x tail)

pub drop_two : (xs : List ℕ) (i : ℕ) → i + 1 < length xs → drop i xs ≡ get_or xs i 0 ∷ get_or xs (i + 1) 0 ∷ drop (i + 2) xs
drop_two xs i h =
    let lt : i < length xs = omega arith in
    let e1 : suc i ≡ i + 1 = omega arith in
    let e2 : suc (i + 1) ≡ i + 2 = omega arith in
    drop-cons xs i 0 lt
    ∙ ap (λ (t : List ℕ). get_or xs i 0 ∷ t) (ap (λ (j : ℕ). drop j xs) e1 ∙ (drop-cons xs (i + 1) 0 h ∙ ap (λ (j : ℕ). get_or xs (i + 1) 0 ∷ drop j xs) e2))

-- one operator more in a chain
module _ (w : World) (s : Source) (sense : ℕ → Sense) (at : ℕ) (single : Bool) (a : Core) (children : List ℕ) (i : ℕ) (within : i + 1 < length children) where
  chain_here : (linked w s sense (cond single at (get_or children i 0)) (get_or children i 0) a (sense (get_or children (i + 1) 0)) >>= (λ x. chained w s sense (between w) at single x (drop (i + 2) children))) ≡ chained w s sense (between w) at single a (drop i children)
  chain_here =
      chain_of w s sense at single a (get_or children i 0) (get_or children (i + 1) 0) (drop (i + 2) children)
      ∙ sym (ap (chained w s sense (between w) at single a) (drop_two children i within))

  pub chain_goes_on : (u : Unit) (node : ℕ) → Made u (Ok node) (linked w s sense (cond single at (get_or children i 0)) (get_or children i 0) a (sense (get_or children (i + 1) 0))) → chained w s sense (between w) at single a (drop i children) ≡ chained w s sense (between w) at single (core_at u node) (drop (i + 2) children)
  chain_goes_on u node m = sym chain_here ∙ ap (λ (g : Given Core). g >>= (λ x. chained w s sense (between w) at single x (drop (i + 2) children))) m

  pub chain_fails : (u : Unit) (fault : CheckFault) → Made u (Err fault) (linked w s sense (cond single at (get_or children i 0)) (get_or children i 0) a (sense (get_or children (i + 1) 0))) → Made u (Err fault) (chained w s sense (between w) at single a (drop i children))
  chain_fails u fault m =
      made_same u (Err fault) _ _ chain_here (fails u u fault (linked w s sense (cond single at (get_or children i 0)) (get_or children i 0) a (sense (get_or children (i + 1) 0))) (λ x. chained w s sense (between w) at single x (drop (i + 2) children)) m)

drop_nil : (k : ℕ) → drop {A = ℕ} k [] ≡ []
drop_nil zero = refl
drop_nil (suc k) = refl

pub drop_none : (xs : List ℕ) (i : ℕ) → i ≡ length xs → drop i xs ≡ []
drop_none [] i h = drop_nil i
drop_none (x ∷ xs) zero h = absurd (omega arith)
drop_none (x ∷ xs) (suc i) h = drop_none xs i (omega arith)

pub drop_one : (xs : List ℕ) (i : ℕ) → i + 1 ≡ length xs → (x : ℕ) × (drop i xs ≡ x ∷ [])
drop_one [] i h = absurd (omega arith)
drop_one (x ∷ []) zero h = (x, refl)
drop_one (x ∷ y ∷ xs) zero h = absurd (omega arith)
drop_one (x ∷ xs) (suc i) h = drop_one xs i (omega arith)

-- an operator that its token tells
pub link_same : (w : World) (s : Source) (sense : ℕ → Sense) (named o : ℕ) (a b : Core) (sign : ℕ) (op : Between) (place : Place) → Some sign ≡ sign_at s o → op ≡ operator sign → place ≡ place_at s o → joined_values w op place named a b ≡ step w s sense (between w) named o a b (sign_at s o)
link_same w s sense named o a b sign op place es eo ep =
    ap (λ (p : Place). joined_values w op p named a b) ep
    ∙ (ap (λ (q : Between). joined_values w q (place_at s o) named a b) eo ∙ ap (λ (x : Option ℕ). step w s sense (between w) named o a b x) es)

pub first_and_rest : (xs : List ℕ) → 0 < length xs → xs ≡ get_or xs 0 0 ∷ drop 1 xs
first_and_rest [] h = absurd (omega arith)
first_and_rest (x ∷ xs) h = refl

-- operands with operators between them
module _ (w : World) (s : Source) (sense : ℕ → Sense) (at : ℕ) where
  single_is : (o : ℕ) (rest : List ℕ) (b : Bool) → b ≡ eqb (length (o ∷ rest)) 2 → is_single w s sense (between w) (o ∷ rest) ≡ b
  single_is o [] b e = sym e
  single_is o (c ∷ []) b e = sym e
  single_is o (c ∷ d ∷ rest) b e = let n : eqb (length (o ∷ c ∷ d ∷ rest)) 2 ≡ false = elim (eqb_tells (length (o ∷ c ∷ d ∷ rest)) 2) [ inl p ↦ absurd (omega (arith, p.1)) | inr p ↦ p.0 ] in sym (e ∙ n)

  pub binary_chain : (xs rest : List ℕ) (single : Bool) → 0 < length xs → rest ≡ drop 1 xs → (length rest ≡ 0 → ⊥) → single ≡ eqb (length rest) 2 → as_sense (core_of at (sense (get_or xs 0 0)) >>= (λ a. chained w s sense (between w) at single a rest)) ≡ binary_row w s sense (between w) at xs
  binary_chain [] rest single some er apart es = absurd (omega arith)
  binary_chain (f ∷ []) rest single some er apart es = absurd (apart (ap length er))
  binary_chain (f ∷ o ∷ tail) rest single some er apart es =
      let e : single ≡ eqb (length (o ∷ tail)) 2 = es ∙ ap (λ (t : List ℕ). eqb (length t) 2) er in
      ap (λ (t : List ℕ). as_sense (core_of at (sense f) >>= (λ a. chained w s sense (between w) at single a t))) er
      ∙ ap (λ (b : Bool). as_sense (core_of at (sense f) >>= (λ a. chained w s sense (between w) at b a (o ∷ tail)))) (sym (single_is o tail single e))

  pub binary_alone : (xs rest : List ℕ) → 0 < length xs → rest ≡ drop 1 xs → length rest ≡ 0 → binary_row w s sense (between w) at xs ≡ Fits (sense (get_or xs 0 0))
  binary_alone [] rest some er e = absurd (omega arith)
  binary_alone (f ∷ []) rest some er e = refl
  binary_alone (f ∷ o ∷ tail) rest some er e = absurd (omega (arith, ap length er))
