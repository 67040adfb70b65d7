-- The sub-objects behind a path, one step of a cursor at a time.
use Rattle.std.proofs.Common.{arith, ◌≡◌, ℕ, zero, suc, ◌-◌, subst, List, [], ◌∷◌, ◌++◌, refl, ap, sym, ◌∙◌, Option, Some, None, Bool, true, false, cond, eqb, nat_lt}
use Rattle.std.proofs.lemmas.Bool.{eqb-true, eq-eqb}
use Rattle.c_types.specs.declared.term.PathStep.{PathStep}
use Rattle.c_types.specs.declared.term.PathStep.TheVariants.{Index, Member}
use Rattle.c_inits.specs.Shapes.{Shape, Fields, Scalar, Elements, Structured, Overlaid, NoFields, Field, Path, SubObject, whole, inner, subs, within, elements, members, onward, onward_in, onward_at, from, behind}
use Rattle.c_inits.specs.Parts.{Part, shape_at, Apart, Distinct, DistinctIn, shape_in, first_part, first_field, next_part, next_field}

-- a start at a longer path is a start farther in
mutual
  pub onward_along : (f : Shape → List SubObject) (t : Shape) (p q : Path) → onward f t (p ++ q) ≡ onward (λ s. onward f s q) t p
  onward_along f t [] q = refl
  onward_along f (Scalar type) (step ∷ p) q = refl
  onward_along f (Elements type of length) (Index k ∷ p) q = ap (λ l. within (Index k) l ++ elements (suc k) (length - suc k) (subs of)) (onward_along f of p q)
  onward_along f (Elements type of length) (Member m ∷ p) q = refl
  onward_along f (Structured type list) (Index k ∷ p) q = refl
  onward_along f (Structured type list) (Member m ∷ p) q = along_in f list m p q
  onward_along f (Overlaid type list) (Index k ∷ p) q = refl
  onward_along f (Overlaid type list) (Member m ∷ p) q = along_at f list m p q

  along_in : (f : Shape → List SubObject) (fs : Fields) (m : ℕ) (p q : Path) → onward_in f fs m (p ++ q) ≡ onward_in (λ s. onward f s q) fs m p
  along_in f NoFields m p q = refl
  along_in f (Field name number shape rest) m p q =
      ap (λ l. cond (eqb number m) (within (Member number) l ++ members rest) (onward_in f rest m (p ++ q))) (onward_along f shape p q)
      ∙ ap (λ l. cond (eqb number m) (within (Member number) (onward (λ s. onward f s q) shape p) ++ members rest) l) (along_in f rest m p q)

  along_at : (f : Shape → List SubObject) (fs : Fields) (m : ℕ) (p q : Path) → onward_at f fs m (p ++ q) ≡ onward_at (λ s. onward f s q) fs m p
  along_at f NoFields m p q = refl
  along_at f (Field name number shape rest) m p q =
      ap (λ l. cond (eqb number m) (within (Member number) l) (onward_at f rest m (p ++ q))) (onward_along f shape p q)
      ∙ ap (λ l. cond (eqb number m) (within (Member number) (onward (λ s. onward f s q) shape p)) l) (along_at f rest m p q)

pub injected : {A : Type 0} (x y : A) → ◌≡◌ {A = Option A} (Some x) (Some y) → x ≡ y
injected x y e = cc

pub on_true : {A : Type 0} (b : Bool) (x y z : A) → cond b x y ≡ z → b ≡ true → x ≡ z
on_true true x y z e t = e
on_true false x y z e t = cc

pub on_false : {A : Type 0} (b : Bool) (x y z : A) → cond b x y ≡ z → b ≡ false → y ≡ z
on_false false x y z e t = e
on_false true x y z e t = cc

both : {A : Type 0} (b : Bool) (x y u v : A) → (b ≡ true → x ≡ u) → (b ≡ false → y ≡ v) → cond b x y ≡ cond b u v
both true x y u v e f = e refl
both false x y u v e f = f refl

either : {A B : Type 0} (g : B → A) (b : Bool) (x y : A) (u v : B) → (b ≡ true → x ≡ g u) → (b ≡ false → y ≡ g v) → cond b x y ≡ g (cond b u v)
either g true x y u v e f = e refl
either g false x y u v e f = f refl

-- two starts that agree at the path's shape
mutual
  pub onward_same : (f g : Shape → List SubObject) (t : Shape) (p : Path) (s : Shape) → shape_at t p ≡ Some s → f s ≡ g s → onward f t p ≡ onward g t p
  onward_same f g t [] s at e = let r : t ≡ s = injected t s at in ap f r ∙ e ∙ sym (ap g r)
  onward_same f g (Scalar type) (step ∷ p) s at e = refl
  onward_same f g (Elements type of length) (Index k ∷ p) s at e = ap (λ l. within (Index k) l ++ elements (suc k) (length - suc k) (subs of)) (onward_same f g of p s at e)
  onward_same f g (Elements type of length) (Member m ∷ p) s at e = refl
  onward_same f g (Structured type list) (Index k ∷ p) s at e = refl
  onward_same f g (Structured type list) (Member m ∷ p) s at e = same_in f g list m p s at e
  onward_same f g (Overlaid type list) (Index k ∷ p) s at e = refl
  onward_same f g (Overlaid type list) (Member m ∷ p) s at e = same_at f g list m p s at e

  same_in : (f g : Shape → List SubObject) (fs : Fields) (m : ℕ) (p : Path) (s : Shape) → shape_in fs m p ≡ Some s → f s ≡ g s → onward_in f fs m p ≡ onward_in g fs m p
  same_in f g NoFields m p s at e = refl
  same_in f g (Field name number shape rest) m p s at e =
      both (eqb number m) _ _ _ _
      (λ t. ap (λ l. within (Member number) l ++ members rest) (onward_same f g shape p s (on_true (eqb number m) _ _ _ at t) e))
      (λ t. same_in f g rest m p s (on_false (eqb number m) _ _ _ at t) e)

  same_at : (f g : Shape → List SubObject) (fs : Fields) (m : ℕ) (p : Path) (s : Shape) → shape_in fs m p ≡ Some s → f s ≡ g s → onward_at f fs m p ≡ onward_at g fs m p
  same_at f g NoFields m p s at e = refl
  same_at f g (Field name number shape rest) m p s at e =
      both (eqb number m) _ _ _ _
      (λ t. ap (λ l. within (Member number) l) (onward_same f g shape p s (on_true (eqb number m) _ _ _ at t) e))
      (λ t. same_at f g rest m p s (on_false (eqb number m) _ _ _ at t) e)

-- the sub-object itself comes first
mutual
  pub onward_head : (f : Shape → List SubObject) (t : Shape) (p : Path) (s : Shape) → shape_at t p ≡ Some s →
      onward (λ u. whole u ∷ f u) t p ≡ record { path = p; shape = s } ∷ onward f t p
  onward_head f t [] s at = ap (λ u. record { path = []; shape = u } ∷ f t) (injected t s at)
  onward_head f (Scalar type) (step ∷ p) s at = cc
  onward_head f (Elements type of length) (Index k ∷ p) s at = ap (λ l. within (Index k) l ++ elements (suc k) (length - suc k) (subs of)) (onward_head f of p s at)
  onward_head f (Elements type of length) (Member m ∷ p) s at = cc
  onward_head f (Structured type list) (Index k ∷ p) s at = cc
  onward_head f (Structured type list) (Member m ∷ p) s at = head_in f list m p s at
  onward_head f (Overlaid type list) (Index k ∷ p) s at = cc
  onward_head f (Overlaid type list) (Member m ∷ p) s at = head_at f list m p s at

  head_in : (f : Shape → List SubObject) (fs : Fields) (m : ℕ) (p : Path) (s : Shape) → shape_in fs m p ≡ Some s →
      onward_in (λ u. whole u ∷ f u) fs m p ≡ record { path = Member m ∷ p; shape = s } ∷ onward_in f fs m p
  head_in f NoFields m p s at = cc
  head_in f (Field name number shape rest) m p s at =
      either (λ l. record { path = Member m ∷ p; shape = s } ∷ l) (eqb number m) _ _ _ _
      (λ t. ap (λ l. within (Member number) l ++ members rest) (onward_head f shape p s (on_true (eqb number m) _ _ _ at t))
      ∙ ap (λ n. record { path = Member n ∷ p; shape = s } ∷ (within (Member number) (onward f shape p) ++ members rest)) (eqb-true number m t))
      (λ t. head_in f rest m p s (on_false (eqb number m) _ _ _ at t))

  head_at : (f : Shape → List SubObject) (fs : Fields) (m : ℕ) (p : Path) (s : Shape) → shape_in fs m p ≡ Some s →
      onward_at (λ u. whole u ∷ f u) fs m p ≡ record { path = Member m ∷ p; shape = s } ∷ onward_at f fs m p
  head_at f NoFields m p s at = cc
  head_at f (Field name number shape rest) m p s at =
      either (λ l. record { path = Member m ∷ p; shape = s } ∷ l) (eqb number m) _ _ _ _
      (λ t. ap (λ l. within (Member number) l) (onward_head f shape p s (on_true (eqb number m) _ _ _ at t))
      ∙ ap (λ n. record { path = Member n ∷ p; shape = s } ∷ within (Member number) (onward f shape p)) (eqb-true number m t))
      (λ t. head_at f rest m p s (on_false (eqb number m) _ _ _ at t))

-- one level down

eqb_same : (n : ℕ) → eqb n n ≡ true
eqb_same n = eq-eqb n n refl

pub chosen : {A : Type 0} (b : Bool) (x y : A) → b ≡ true → cond b x y ≡ x
chosen true x y e = refl
chosen false x y e = cc

-- what is in an object begins with its first part
pub down_here : (s : Shape) (p : Part) → first_part s ≡ Some p → inner s ≡ onward subs s (p.step ∷ [])
down_here (Scalar type) p e = cc
down_here (Elements type of zero) p e = cc
down_here (Elements type of (suc more)) p e =
    let r : record { step = Index 0; shape = of } ≡ p = injected _ p e in
    let n : more ≡ suc more - 1 = omega arith in
    ap (λ k. within (Index 0) (subs of) ++ elements 1 k (subs of)) n ∙ ap (λ (q : Part). onward subs (Elements type of (suc more)) (q.step ∷ [])) r
down_here (Structured type NoFields) p e = cc
down_here (Structured type (Field name number shape rest)) p e =
    let r : record { step = Member number; shape = shape } ≡ p = injected _ p e in
    sym (chosen (eqb number number) (within (Member number) (subs shape) ++ members rest) (onward_in subs rest number []) (eqb_same number))
    ∙ ap (λ (q : Part). onward subs (Structured type (Field name number shape rest)) (q.step ∷ [])) r
down_here (Overlaid type NoFields) p e = cc
down_here (Overlaid type (Field name number shape rest)) p e =
    let r : record { step = Member number; shape = shape } ≡ p = injected _ p e in
    sym (chosen (eqb number number) (within (Member number) (subs shape)) (onward_at subs rest number []) (eqb_same number))
    ∙ ap (λ (q : Part). onward subs (Overlaid type (Field name number shape rest)) (q.step ∷ [])) r

-- nothing is in an object without parts
pub empty_here : (s : Shape) → first_part s ≡ None → inner s ≡ []
empty_here (Scalar type) e = refl
empty_here (Elements type of zero) e = refl
empty_here (Elements type of (suc more)) e = cc
empty_here (Structured type NoFields) e = refl
empty_here (Structured type (Field name number shape rest)) e = cc
empty_here (Overlaid type NoFields) e = refl
empty_here (Overlaid type (Field name number shape rest)) e = cc

-- where a sub-object has parts, its first one follows it in order
pub down : (t : Shape) (path : Path) (s : Shape) (p : Part) → shape_at t path ≡ Some s → first_part s ≡ Some p →
    from t path ≡ record { path = path; shape = s } ∷ from t (path ++ p.step ∷ [])
down t path s p at first =
    onward_head inner t path s at
    ∙ ap (λ l. record { path = path; shape = s } ∷ l)
    (onward_same inner (λ u. onward subs u (p.step ∷ [])) t path s at (down_here s p first) ∙ sym (onward_along subs t path (p.step ∷ [])))

-- where it has none, what is behind it follows
pub over : (t : Shape) (path : Path) (s : Shape) → shape_at t path ≡ Some s → first_part s ≡ None →
    from t path ≡ record { path = path; shape = s } ∷ behind t path
over t path s at none =
    onward_head inner t path s at
    ∙ ap (λ l. record { path = path; shape = s } ∷ l) (onward_same inner (λ u. []) t path s at (empty_here s none))

-- one step on

pub chosen_not : {A : Type 0} (b : Bool) (x y : A) → b ≡ false → cond b x y ≡ y
chosen_not false x y e = refl
chosen_not true x y e = cc

no_more : (n k : ℕ) → nat_lt (suc k) n ≡ false → n - suc k ≡ 0
no_more n k e = grind arith

one_more : (n k : ℕ) → nat_lt (suc k) n ≡ true → n - suc k ≡ suc (n - suc (suc k))
one_more n k e = grind arith

none_of : {A : Type 0} (b : Bool) (x : A) → ◌≡◌ {A = Option A} (cond b (Some x) None) None → b ≡ false
none_of true x e = cc
none_of false x e = refl

some_of : {A : Type 0} (b : Bool) (x y : A) → ◌≡◌ {A = Option A} (cond b (Some x) None) (Some y) → b ≡ true
some_of true x y e = refl
some_of false x y e = cc

pub value_of : {A : Type 0} (b : Bool) (x y : A) → ◌≡◌ {A = Option A} (cond b (Some x) None) (Some y) → x ≡ y
value_of true x y e = injected x y e
value_of false x y e = cc

-- behind the last part is what is behind the whole
pub up_in : (fs : Fields) (m : ℕ) → next_field fs m ≡ None → onward_in (λ u. []) fs m [] ≡ []
up_in NoFields m e = refl
up_in (Field name number shape NoFields) m e = both (eqb number m) _ _ [] [] (λ t. refl) (λ t. refl) ∙ same_choice (eqb number m)
  where
    same_choice : (b : Bool) → ◌≡◌ {A = List SubObject} (cond b [] []) []
    same_choice true = refl
    same_choice false = refl
up_in (Field name number shape (Field other n s rest)) m e =
    chosen_not (eqb number m) _ _ (not_first (eqb number m) _ _ e)
    ∙ up_in (Field other n s rest) m (on_false (eqb number m) _ _ _ e (not_first (eqb number m) _ _ e))
  where
    not_first : (b : Bool) (x : Part) (y : Option Part) → cond b (Some x) y ≡ None → b ≡ false
    not_first true x y e = cc
    not_first false x y e = refl

up_at : (fs : Fields) (m : ℕ) → onward_at (λ u. []) fs m [] ≡ []
up_at NoFields m = refl
up_at (Field name number shape rest) m = pick (eqb number m) _ (up_at rest m)
  where
    pick : (b : Bool) (y : List SubObject) → y ≡ [] → cond b [] y ≡ []
    pick true y e = refl
    pick false y e = e

pub up_here : (s : Shape) (step : PathStep) → next_part s step ≡ None → onward (λ u. []) s (step ∷ []) ≡ []
up_here (Scalar type) step e = refl
up_here (Elements type of length) (Index k) e = ap (λ n. elements (suc k) n (subs of)) (no_more length k (none_of (nat_lt (suc k) length) _ e))
up_here (Elements type of length) (Member m) e = refl
up_here (Structured type list) (Index k) e = refl
up_here (Structured type list) (Member m) e = up_in list m e
up_here (Overlaid type list) (Index k) e = refl
up_here (Overlaid type list) (Member m) e = up_at list m

pub up : (t : Shape) (path : Path) (step : PathStep) (s : Shape) → shape_at t path ≡ Some s → next_part s step ≡ None →
    behind t (path ++ step ∷ []) ≡ behind t path
up t path step s at none =
    onward_along (λ u. []) t path (step ∷ []) ∙ onward_same (λ u. onward (λ v. []) u (step ∷ [])) (λ u. []) t path s at (up_here s step none)

-- what a list of members begins with
onward_first : (fs : Fields) (p : Part) (m : ℕ) → first_field fs ≡ Some p → p.step ≡ Member m → members fs ≡ onward_in subs fs m []
onward_first NoFields p m e f = cc
onward_first (Field name number shape rest) p m e f =
    let r : record { step = Member number; shape = shape } ≡ p = injected _ p e in
    let n : number ≡ m = cc in
    sym (chosen (eqb number m) _ _ (eq-eqb number m n))

pub by_cases : {A : Type 0} (b : Bool) → (b ≡ true → A) → (b ≡ false → A) → A
by_cases true e f = e refl
by_cases false e f = f refl

pub apart_first : (fs : Fields) (n : ℕ) (p : Part) (m : ℕ) → Apart fs n → first_field fs ≡ Some p → p.step ≡ Member m → eqb n m ≡ false
apart_first NoFields n p m a e f = cc
apart_first (Field name number shape rest) n p m a e f =
    let r : record { step = Member number; shape = shape } ≡ p = injected _ p e in
    let k : number ≡ m = cc in
    subst (λ j. eqb n j ≡ false) k a.0

pub apart_next : (fs : Fields) (n m : ℕ) (p : Part) (l : ℕ) → Apart fs n → next_field fs m ≡ Some p → p.step ≡ Member l → eqb n l ≡ false
apart_next NoFields n m p l a e f = cc
apart_next (Field name number shape rest) n m p l a e f =
    by_cases (eqb number m)
    (λ t. apart_first rest n p l a.1 (on_true (eqb number m) _ _ _ e t) f)
    (λ t. apart_next rest n m p l a.1 (on_false (eqb number m) _ _ _ e t) f)

across_in : (fs : Fields) → Distinct fs → (m : ℕ) (p : Part) (l : ℕ) → next_field fs m ≡ Some p → p.step ≡ Member l →
    onward_in (λ u. []) fs m [] ≡ onward_in subs fs l []
across_in NoFields d m p l e f = cc
across_in (Field name number shape rest) d m p l e f =
    by_cases (eqb number m)
    (λ t.
    let first = on_true (eqb number m) _ _ _ e t in
    chosen (eqb number m) _ _ t ∙ onward_first rest p l first f ∙ sym (chosen_not (eqb number l) _ _ (apart_first rest number p l d.0 first f)))
    (λ t.
    let later = on_false (eqb number m) _ _ _ e t in
    chosen_not (eqb number m) _ _ t ∙ across_in rest d.1 m p l later f ∙ sym (chosen_not (eqb number l) _ _ (apart_next rest number m p l d.0 later f)))

is_member_first : (fs : Fields) (p : Part) → first_field fs ≡ Some p → (l : ℕ) × (p.step ≡ Member l)
is_member_first NoFields p e = cc
is_member_first (Field name number shape rest) p e = (number, sym (ap (λ (q : Part). q.step) (injected _ p e)))

pub is_member : (fs : Fields) (m : ℕ) (p : Part) → next_field fs m ≡ Some p → (l : ℕ) × (p.step ≡ Member l)
is_member NoFields m p e = cc
is_member (Field name number shape rest) m p e =
    by_cases (eqb number m)
    (λ t. is_member_first rest p (on_true (eqb number m) _ _ _ e t))
    (λ t. is_member rest m p (on_false (eqb number m) _ _ _ e t))

pub across_here : (s : Shape) (step : PathStep) (p : Part) → DistinctIn s → next_part s step ≡ Some p →
    onward (λ u. []) s (step ∷ []) ≡ onward subs s (p.step ∷ [])
across_here (Scalar type) step p d e = cc
across_here (Elements type of length) (Index k) p d e =
    let r = value_of (nat_lt (suc k) length) _ p e in
    ap (λ n. elements (suc k) n (subs of)) (one_more length k (some_of (nat_lt (suc k) length) _ p e))
    ∙ ap (λ (q : Part). onward subs (Elements type of length) (q.step ∷ [])) r
across_here (Elements type of length) (Member m) p d e = cc
across_here (Structured type list) (Index k) p d e = cc
across_here (Structured type list) (Member m) p d e =
    let (l, f) = is_member list m p e in
    across_in list d m p l e f ∙ sym (ap (λ q. onward subs (Structured type list) (q ∷ [])) f)
across_here (Overlaid type list) step p d e = cc

-- behind another part is the next one, with what is behind that
pub across : (t : Shape) (path : Path) (step : PathStep) (s : Shape) (p : Part) → shape_at t path ≡ Some s → DistinctIn s → next_part s step ≡ Some p →
    behind t (path ++ step ∷ []) ≡ from t (path ++ p.step ∷ [])
across t path step s p at d e =
    onward_along (λ u. []) t path (step ∷ [])
    ∙ onward_same (λ u. onward (λ v. []) u (step ∷ [])) (λ u. onward subs u (p.step ∷ [])) t path s at (across_here s step p d e)
    ∙ sym (onward_along subs t path (p.step ∷ []))
