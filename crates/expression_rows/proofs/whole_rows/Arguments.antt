-- The trees of a call's arguments, one after another.
use Rattle.std.proofs.Common.{arith, ◌≡◌, ℕ, zero, suc, ◌<◌, ◌≤◌, ◌+◌, All, not, Bool, true, false, cond, List, [], ◌∷◌, ◌++◌, Some, Ok, Err, map, length, get_or, drop, drop-cons, refl, sym, ap, ◌∙◌, subst}
use Rattle.std.proofs.lemmas.List.{map-append}
use Rattle.std.proofs.lemmas.List.Elements.{All-same, All-push}
use Rattle.core_tree.specs.declared.node.Unit.{Unit}
use Rattle.c_grammar.specs.Words.{sign_left_parenthesis}
use Rattle.c_consts.specs.Core.{Core}
use Rattle.c_senses.specs.Given.{Given, Fits, Refuses, ◌>>=◌}
use Rattle.c_senses.specs.World.{World}
use Rattle.c_senses.specs.Tree.{Source, is_leaf, all_where, place_at, sign_at, left_of}
use Rattle.c_senses.specs.Sense.{Sense, core_of}
use Rattle.c_senses.specs.Expressions.{all_cores, as_sense, post_of, post_signed, post_row}
use Rattle.core_nodes.specs.Standing.{core_at, Made}
use Rattle.core_nodes.specs.declared.fault.CheckFault.{CheckFault}
use Rattle.core_nodes.specs.declared.fault.CheckFault.TheVariants.{BadOperand, Unsupported, OutOfMemory}
use Rattle.c_conversions.specs.Constants.{HasRows}
use Rattle.expression_rows.specs.whole_rows.Calls.{CoresGiven, call_parts}

-- some trees before those that are given
abbrev pub glued : List Core → Given (List Core) → Given (List Core)
glued done g = g >>= (λ more. Fits (done ++ more))

append_nil : (xs : List Core) → (xs ++ []) ≡ xs
append_nil [] = refl
append_nil (x ∷ xs) = ap (λ (t : List Core). x ∷ t) (append_nil xs)

append_one : (xs : List Core) (x : Core) (ys : List Core) → (xs ++ x ∷ ys) ≡ ((xs ++ x ∷ []) ++ ys)
append_one [] x ys = refl
append_one (z ∷ xs) x ys = ap (λ (t : List Core). z ∷ t) (append_one xs x ys)

pub none_done : (g : Given (List Core)) → g ≡ glued [] g
none_done (Fits x) = refl
none_done (Refuses kind node) = refl

pub all_done : (xs : List Core) → glued xs (Fits []) ≡ Fits xs
all_done xs = ap Fits (append_nil xs)

glue_on : (xs : List Core) (x : Core) (g : Given (List Core)) → glued xs (g >>= (λ more. Fits (x ∷ more))) ≡ glued (xs ++ x ∷ []) g
glue_on xs x (Fits more) = ap Fits (append_one xs x more)
glue_on xs x (Refuses kind node) = refl

module _ (w : World) (s : Source) (sense : ℕ → Sense) (at : ℕ) where
  skip : (c : ℕ) (rest : List ℕ) (b : Bool) → is_leaf s c ≡ b → all_where (λ c. not (is_leaf s c)) (c ∷ rest) ≡ cond (not b) (c ∷ all_where (λ c. not (is_leaf s c)) rest) (all_where (λ c. not (is_leaf s c)) rest)
  skip c rest b e = ap (λ (t : Bool). cond (not t) (c ∷ all_where (λ c. not (is_leaf s c)) rest) (all_where (λ c. not (is_leaf s c)) rest)) e

  module _ (parts : List ℕ) (k : ℕ) (lt : k < length parts) where
    here : drop k parts ≡ get_or parts k 0 ∷ drop (k + 1) parts
    here = let e : suc k ≡ k + 1 = omega arith in drop-cons parts k 0 lt ∙ ap (λ (j : ℕ). get_or parts k 0 ∷ drop j parts) e

    pub token_skipped : is_leaf s (get_or parts k 0) ≡ true → all_cores w s sense at (all_where (λ c. not (is_leaf s c)) (drop k parts)) ≡ all_cores w s sense at (all_where (λ c. not (is_leaf s c)) (drop (k + 1) parts))
    token_skipped e =
        ap (λ (t : List ℕ). all_cores w s sense at (all_where (λ c. not (is_leaf s c)) t)) here
        ∙ ap (all_cores w s sense at) (skip (get_or parts k 0) (drop (k + 1) parts) true e)

    taken : is_leaf s (get_or parts k 0) ≡ false → all_cores w s sense at (all_where (λ c. not (is_leaf s c)) (drop k parts)) ≡ (core_of at (sense (get_or parts k 0)) >>= (λ x. all_cores w s sense at (all_where (λ c. not (is_leaf s c)) (drop (k + 1) parts)) >>= (λ more. Fits (x ∷ more))))
    taken e =
        ap (λ (t : List ℕ). all_cores w s sense at (all_where (λ c. not (is_leaf s c)) t)) here
        ∙ ap (all_cores w s sense at) (skip (get_or parts k 0) (drop (k + 1) parts) false e)

    pub part_taken : (u : Unit) (node : ℕ) (nodes more : List ℕ) → is_leaf s (get_or parts k 0) ≡ false → Made u (Ok node) (core_of at (sense (get_or parts k 0))) → more ≡ nodes ++ node ∷ [] → glued (map (λ i. core_at u i) nodes) (all_cores w s sense at (all_where (λ c. not (is_leaf s c)) (drop k parts))) ≡ glued (map (λ i. core_at u i) more) (all_cores w s sense at (all_where (λ c. not (is_leaf s c)) (drop (k + 1) parts)))
    part_taken u node nodes more e m em =
        let rest : Given (List Core) = all_cores w s sense at (all_where (λ c. not (is_leaf s c)) (drop (k + 1) parts)) in
        let step = taken e ∙ ap (λ (g : Given Core). g >>= (λ x. rest >>= (λ more. Fits (x ∷ more)))) m in
        ap (glued (map (λ i. core_at u i) nodes)) step
        ∙ (glue_on (map (λ i. core_at u i) nodes) (core_at u node) rest
        ∙ ap (λ (l : List Core). glued l rest) (sym (ap (map (λ i. core_at u i)) em ∙ map-append (λ i. core_at u i) nodes (node ∷ []))))

    pub part_refused : (u : Unit) (fault : CheckFault) (done : List Core) → is_leaf s (get_or parts k 0) ≡ false → Made u (Err fault) (core_of at (sense (get_or parts k 0))) → CoresGiven u (Err fault) (glued done (all_cores w s sense at (all_where (λ c. not (is_leaf s c)) (drop k parts))))
    part_refused u (BadOperand n) done e m =
        ap (glued done) (taken e ∙ ap (λ (g : Given Core). g >>= (λ x. all_cores w s sense at (all_where (λ c. not (is_leaf s c)) (drop (k + 1) parts)) >>= (λ more. Fits (x ∷ more)))) m)
    part_refused u (Unsupported kind n) done e m =
        ap (glued done) (taken e ∙ ap (λ (g : Given Core). g >>= (λ x. all_cores w s sense at (all_where (λ c. not (is_leaf s c)) (drop (k + 1) parts)) >>= (λ more. Fits (x ∷ more)))) m)
    part_refused u OutOfMemory done e m = tt

-- the trees of the parts up to the k-th are these nodes' and stand before those of the parts that are left
pub record Gathered (u : Unit) (s : Source) (sense : ℕ → Sense) (at : ℕ) (parts : List ℕ) (k : ℕ) (nodes : List ℕ) : Type 0 where
  pub within : All (λ i. i < length u.nodes.items) nodes
  pub rows : All (λ i. HasRows (core_at u i)) nodes
  pub left : (w : World) → all_cores w s sense at (all_where (λ c. not (is_leaf s c)) parts) ≡ glued (map (λ i. core_at u i) nodes) (all_cores w s sense at (all_where (λ c. not (is_leaf s c)) (drop k parts)))

module _ (u : Unit) (s : Source) (sense : ℕ → Sense) (at : ℕ) (parts : List ℕ) where
  pub none_gathered : (nodes : List ℕ) → nodes ≡ [] → Gathered u s sense at parts 0 nodes
  none_gathered [] e = record {
    within = λ i d lt. absurd (omega arith);
    rows = λ i d lt. absurd (omega arith);
    left = λ w. none_done (all_cores w s sense at (all_where (λ c. not (is_leaf s c)) parts));
  }
  none_gathered (x ∷ xs) e = cc

  module _ (k : ℕ) (lt : k < length parts) (nodes : List ℕ) where
    pub gathered_token : is_leaf s (get_or parts k 0) ≡ true → Gathered u s sense at parts k nodes → Gathered u s sense at parts (k + 1) nodes
    gathered_token e g = record {
      within = g.within;
      rows = g.rows;
      left = λ w. g.left w ∙ ap (glued (map (λ i. core_at u i) nodes)) (token_skipped w s sense at parts k lt e);
    }

    pub gathered_more : (more : List ℕ) (node : ℕ) → is_leaf s (get_or parts k 0) ≡ false → more ≡ nodes ++ node ∷ [] → Made u (Ok node) (core_of at (sense (get_or parts k 0))) → node < length u.nodes.items → HasRows (core_at u node) → Gathered u s sense at parts k nodes → Gathered u s sense at parts (k + 1) more
    gathered_more more node e em m within rows g = record {
      within = All-same (λ i. i < length u.nodes.items) more (nodes ++ node ∷ []) em (All-push (λ i. i < length u.nodes.items) nodes node g.within within);
      rows = All-same (λ i. HasRows (core_at u i)) more (nodes ++ node ∷ []) em (All-push (λ i. HasRows (core_at u i)) nodes node g.rows rows);
      left = λ w. g.left w ∙ part_taken w s sense at parts k lt u node nodes more e m em;
    }

nothing_left : (xs : List ℕ) (k : ℕ) → length xs ≤ k → drop k xs ≡ []
nothing_left [] zero h = refl
nothing_left [] (suc k) h = refl
nothing_left (x ∷ xs) zero h = absurd (omega arith)
nothing_left (x ∷ xs) (suc k) h = nothing_left xs k (omega arith)

pub all_gathered : (w : World) (u : Unit) (s : Source) (sense : ℕ → Sense) (at : ℕ) (parts : List ℕ) (k : ℕ) → length parts ≤ k → (nodes given : List ℕ) → nodes ≡ given → all_cores w s sense at (all_where (λ c. not (is_leaf s c)) parts) ≡ glued (map (λ i. core_at u i) nodes) (all_cores w s sense at (all_where (λ c. not (is_leaf s c)) (drop k parts))) → all_cores w s sense at (all_where (λ c. not (is_leaf s c)) parts) ≡ Fits (map (λ i. core_at u i) given)
all_gathered w u s sense at parts k h nodes given eg e =
    e
    ∙ (ap (λ (t : List ℕ). glued (map (λ i. core_at u i) nodes) (all_cores w s sense at (all_where (λ c. not (is_leaf s c)) t))) (nothing_left parts k h)
    ∙ (all_done (map (λ i. core_at u i) nodes) ∙ ap (λ (l : List ℕ). Fits (map (λ i. core_at u i) l)) eg))

-- what stands behind an operand, by its punctuator
module _ (w : World) (s : Source) (sense : ℕ → Sense) (at : ℕ) where
  pub call_is : (xs parts : List ℕ) (sign : ℕ) → 0 < length xs → parts ≡ drop 1 xs → sign ≡ sign_left_parenthesis → Some sign ≡ sign_at s (get_or xs 0 0) → as_sense (call_parts w s sense at (get_or xs 0 0) parts) ≡ post_row w s sense at xs
  call_is [] parts sign some er call es = absurd (omega arith)
  call_is (x ∷ tail) parts sign some er call es =
      ap (λ (l : List ℕ). as_sense (call_parts w s sense at x l)) er
      ∙ ap (post_signed w s sense (place_at s x) at (sense (left_of s x)) tail) (ap Some (sym call) ∙ es)

  pub other_is : (xs : List ℕ) (sign left : ℕ) → 0 < length xs → Some sign ≡ sign_at s (get_or xs 0 0) → left ≡ left_of s (get_or xs 0 0) → post_of w s sense (place_at s (get_or xs 0 0)) at (sense left) (drop 1 xs) sign ≡ post_row w s sense at xs
  other_is [] sign left some es el = absurd (omega arith)
  other_is (x ∷ rest) sign left some es el =
      ap (λ (y : ℕ). post_of w s sense (place_at s x) at (sense y) rest sign) el
      ∙ ap (post_signed w s sense (place_at s x) at (sense (left_of s x)) rest) es

-- a refusal of the arguments is one of the call
pub cores_fail : (u v : Unit) (fault : CheckFault) (g : Given (List Core)) (f : List Core → Given Core) → CoresGiven u (Err fault) g → Made v (Err fault) (g >>= f)
cores_fail u v (BadOperand n) g f m = ap (λ (z : Given (List Core)). z >>= f) m
cores_fail u v (Unsupported kind n) g f m = ap (λ (z : Given (List Core)). z >>= f) m
cores_fail u v OutOfMemory g f m = tt

pub fault_same : (u : Unit) (fault : CheckFault) (g h : Given (List Core)) → g ≡ h → CoresGiven u (Err fault) h → CoresGiven u (Err fault) g
fault_same u fault g h e m = subst (CoresGiven u (Err fault)) (sym e) m
