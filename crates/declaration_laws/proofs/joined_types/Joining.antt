-- Types that agree, joined.
use Rattle.std.proofs.Common.{◌≡◌, ℕ, Bool, true, List, [], ◌∷◌, ◌++◌, Option, Some, None, refl, sym, ap, ◌∙◌, subst}
use Rattle.std.specs.Prelude.{if◌then◌else◌}
use Rattle.c_types.specs.declared.term.Form.{Form}
use Rattle.c_types.specs.declared.term.Form.TheVariants.{Fixed, Variadic, Unspecified}
use Rattle.c_types.specs.Trees.{Ctype, Ctypes, VoidType, BoolType, IntegerType, FloatingType, VaListType, PointerTo, ArrayOf, FunctionFrom, StructureOf, UnionOf}
use Rattle.core_tree.specs.Rows.{Agree}
use Rattle.core_nodes.proofs.SameTypes.{type_sound}
use Rattle.c_senses.specs.Entities.{agree, fuller, together, all_together}
use Rattle.parsed_tree_laws.proofs.sense_laws.Giving.{if_holds}
use Rattle.declaration_laws.specs.joined_types.Joined.{Below, AllAgree, AllBelow, TypesJoined}

some_one : {X : Type 0} → {x y : X} → ◌≡◌ {A = Option X} (Some x) (Some y) → x ≡ y
some_one h = cc

agree_self : (t : Ctype) → Agree t t
agree_self VoidType = refl
agree_self BoolType = refl
agree_self (IntegerType size rank signed) = refl
agree_self FloatingType = refl
agree_self VaListType = refl
agree_self (PointerTo to) = refl
agree_self (ArrayOf of None) = refl
agree_self (ArrayOf of (Some n)) = refl
agree_self (FunctionFrom r ps Fixed) = refl
agree_self (FunctionFrom r ps Variadic) = refl
agree_self (FunctionFrom r ps Unspecified) = refl
agree_self (StructureOf tag) = refl
agree_self (UnionOf tag) = refl

below_self : (t : Ctype) → Below t t
below_self VoidType = refl
below_self BoolType = refl
below_self (IntegerType size rank signed) = refl
below_self FloatingType = refl
below_self VaListType = refl
below_self (PointerTo to) = refl
below_self (ArrayOf of None) = refl
below_self (ArrayOf of (Some n)) = refl
below_self (FunctionFrom r ps Fixed) = refl
below_self (FunctionFrom r ps Variadic) = refl
below_self (FunctionFrom r ps Unspecified) = refl
below_self (StructureOf tag) = refl
below_self (UnionOf tag) = refl

-- the four ways in which types agree that aren't the same
data Agreeing : Ctype → Ctype → Type 0 where
  Same : {t : Ctype} → Agreeing t t
  LessLeft : {r q : Ctype} {ps qs : Ctypes} {f : Form} → r ≡ q → Agreeing (FunctionFrom r ps Unspecified) (FunctionFrom q qs f)
  LessRight : {r q : Ctype} {ps qs : Ctypes} {f : Form} → r ≡ q → Agreeing (FunctionFrom r ps f) (FunctionFrom q qs Unspecified)
  OpenLeft : {a b : Ctype} {n : Option ℕ} → a ≡ b → Agreeing (ArrayOf a None) (ArrayOf b n)
  OpenRight : {a b : Ctype} {n : Option ℕ} → a ≡ b → Agreeing (ArrayOf a n) (ArrayOf b None)

same_agreeing : (a b : Ctype) → a ≡ b → Agreeing a b
same_agreeing a b e = subst (Agreeing a) e Same

agreeing : (a b : Ctype) → agree a b ≡ true → Agreeing a b
agreeing (FunctionFrom r ps Unspecified) (FunctionFrom q qs g) h = LessLeft (type_sound r q h)
agreeing (FunctionFrom r ps Fixed) (FunctionFrom q qs Unspecified) h = LessRight (type_sound r q h)
agreeing (FunctionFrom r ps Variadic) (FunctionFrom q qs Unspecified) h = LessRight (type_sound r q h)
agreeing (FunctionFrom r ps Fixed) (FunctionFrom q qs Fixed) h = same_agreeing _ _ (type_sound (FunctionFrom r ps Fixed) (FunctionFrom q qs Fixed) h)
agreeing (FunctionFrom r ps Fixed) (FunctionFrom q qs Variadic) h = same_agreeing _ _ (type_sound (FunctionFrom r ps Fixed) (FunctionFrom q qs Variadic) h)
agreeing (FunctionFrom r ps Variadic) (FunctionFrom q qs Fixed) h = same_agreeing _ _ (type_sound (FunctionFrom r ps Variadic) (FunctionFrom q qs Fixed) h)
agreeing (FunctionFrom r ps Variadic) (FunctionFrom q qs Variadic) h = same_agreeing _ _ (type_sound (FunctionFrom r ps Variadic) (FunctionFrom q qs Variadic) h)
agreeing (ArrayOf a None) (ArrayOf b n) h = OpenLeft (type_sound a b h)
agreeing (ArrayOf a (Some n)) (ArrayOf b None) h = OpenRight (type_sound a b h)
agreeing (ArrayOf a (Some n)) (ArrayOf b (Some m)) h = same_agreeing _ _ (type_sound (ArrayOf a (Some n)) (ArrayOf b (Some m)) h)
agreeing a b h = same_agreeing a b (type_sound a b h)

agreeing_agrees : (a b : Ctype) → Agreeing a b → Agree a b
agreeing_agrees a b Same = agree_self a
agreeing_agrees _ _ (LessLeft e) = e
agreeing_agrees _ _ (LessRight {f = Fixed} e) = e
agreeing_agrees _ _ (LessRight {f = Variadic} e) = e
agreeing_agrees _ _ (LessRight {f = Unspecified} e) = e
agreeing_agrees _ _ (OpenLeft e) = e
agreeing_agrees _ _ (OpenRight {n = None} e) = e
agreeing_agrees _ _ (OpenRight {n = Some k} e) = e

fuller_same : (t : Ctype) → fuller t t ≡ t
fuller_same VoidType = refl
fuller_same BoolType = refl
fuller_same (IntegerType size rank signed) = refl
fuller_same FloatingType = refl
fuller_same VaListType = refl
fuller_same (PointerTo to) = refl
fuller_same (ArrayOf of None) = refl
fuller_same (ArrayOf of (Some n)) = refl
fuller_same (FunctionFrom r ps Fixed) = refl
fuller_same (FunctionFrom r ps Variadic) = refl
fuller_same (FunctionFrom r ps Unspecified) = refl
fuller_same (StructureOf tag) = refl
fuller_same (UnionOf tag) = refl

-- what is joined has both below it
fuller_over : (a b : Ctype) → Agreeing a b → Below a (fuller a b) × Below b (fuller a b)
fuller_over a _ Same = (subst (Below a) (sym (fuller_same a)) (below_self a), subst (Below a) (sym (fuller_same a)) (below_self a))
fuller_over _ _ (LessLeft {f = Fixed} e) = (e, refl)
fuller_over _ _ (LessLeft {f = Variadic} e) = (e, refl)
fuller_over _ _ (LessLeft {f = Unspecified} e) = (e, refl)
fuller_over _ _ (LessRight {f = Fixed} e) = (refl, sym e)
fuller_over _ _ (LessRight {f = Variadic} e) = (refl, sym e)
fuller_over _ _ (LessRight {f = Unspecified} e) = (e, refl)
fuller_over _ _ (OpenLeft {n = None} e) = (e, refl)
fuller_over _ _ (OpenLeft {n = Some k} e) = (e, refl)
fuller_over _ _ (OpenRight {n = None} e) = (e, refl)
fuller_over _ _ (OpenRight {n = Some k} e) = (refl, sym e)

-- and agrees with the second
fuller_last : (a b : Ctype) → Agreeing a b → Agree (fuller a b) b
fuller_last a _ Same = subst (λ (x : Ctype). Agree x a) (sym (fuller_same a)) (agree_self a)
fuller_last _ _ (LessLeft {f = Fixed} e) = refl
fuller_last _ _ (LessLeft {f = Variadic} e) = refl
fuller_last _ _ (LessLeft {f = Unspecified} e) = refl
fuller_last _ _ (LessRight {f = Fixed} e) = e
fuller_last _ _ (LessRight {f = Variadic} e) = e
fuller_last _ _ (LessRight {f = Unspecified} e) = refl
fuller_last _ _ (OpenLeft {n = None} e) = refl
fuller_last _ _ (OpenLeft {n = Some k} e) = refl
fuller_last _ _ (OpenRight {n = None} e) = refl
fuller_last _ _ (OpenRight {n = Some k} e) = e

together_last : (a b : Ctype) → Agree (together a b) b
together_last a b = if_holds (λ (x : Ctype). Agree x b) (agree a b) (fuller a b) b (λ e. fuller_last a b (agreeing a b e)) (λ e. agree_self b)

together_over : (a b : Ctype) → agree a b ≡ true → Below a (together a b) × Below b (together a b)
together_over a b e = subst (λ (x : Ctype). Below a x × Below b x) (sym (ap (λ (d : Bool). if d then fuller a b else b) e)) (fuller_over a b (agreeing a b e))

last_joined : (o : Option Ctype) (ts : List Ctype) (t whole : Ctype) → all_together o (ts ++ t ∷ []) ≡ Some whole → Agree whole t
last_joined None [] t whole e = subst (λ (x : Ctype). Agree x t) (some_one e) (agree_self t)
last_joined (Some a) [] t whole e = subst (λ (x : Ctype). Agree x t) (some_one e) (together_last a t)
last_joined None (x ∷ ts) t whole e = last_joined (Some x) ts t whole e
last_joined (Some a) (x ∷ ts) t whole e = last_joined (Some (together a x)) ts t whole e

-- what is below what is below
below_on : (a b c : Ctype) → Below a b → Below b c → Below a c
below_on (ArrayOf a None) (ArrayOf b None) (ArrayOf c n) h k = h ∙ k
below_on (ArrayOf a None) (ArrayOf b (Some n)) c h k = subst (Below (ArrayOf a None)) k h
below_on (ArrayOf a (Some n)) b c h k = subst (λ (x : Ctype). Below x c) (sym h) k
below_on (FunctionFrom r ps Unspecified) (FunctionFrom q qs Unspecified) (FunctionFrom t us f) h k = h ∙ k
below_on (FunctionFrom r ps Unspecified) (FunctionFrom q qs Fixed) c h k = subst (Below (FunctionFrom r ps Unspecified)) k h
below_on (FunctionFrom r ps Unspecified) (FunctionFrom q qs Variadic) c h k = subst (Below (FunctionFrom r ps Unspecified)) k h
below_on (FunctionFrom r ps Fixed) b c h k = subst (λ (x : Ctype). Below x c) (sym h) k
below_on (FunctionFrom r ps Variadic) b c h k = subst (λ (x : Ctype). Below x c) (sym h) k
below_on VoidType b c h k = subst (λ (x : Ctype). Below x c) (sym h) k
below_on BoolType b c h k = subst (λ (x : Ctype). Below x c) (sym h) k
below_on (IntegerType size rank signed) b c h k = subst (λ (x : Ctype). Below x c) (sym h) k
below_on FloatingType b c h k = subst (λ (x : Ctype). Below x c) (sym h) k
below_on VaListType b c h k = subst (λ (x : Ctype). Below x c) (sym h) k
below_on (PointerTo to) b c h k = subst (λ (x : Ctype). Below x c) (sym h) k
below_on (StructureOf tag) b c h k = subst (λ (x : Ctype). Below x c) (sym h) k
below_on (UnionOf tag) b c h k = subst (λ (x : Ctype). Below x c) (sym h) k
below_on a b c h k = cc

all_over : (a : Ctype) (ts : List Ctype) (whole : Ctype) → AllAgree (Some a) ts → all_together (Some a) ts ≡ Some whole → Below a whole × AllBelow ts whole
all_over a [] whole h e = (subst (Below a) (some_one e) (below_self a), tt)
all_over a (t ∷ ts) whole h e =
    let more = all_over (together a t) ts whole h.1 e in
    let both = together_over a t h.0 in
    (below_on a (together a t) whole both.0 more.0, (below_on t (together a t) whole both.1 more.0, more.1))

all_below : (ts : List Ctype) (whole : Ctype) → AllAgree None ts → all_together None ts ≡ Some whole → AllBelow ts whole
all_below [] whole h e = cc
all_below (t ∷ ts) whole h e = all_over t ts whole h e

-- the ways to be below
data Under : Ctype → Ctype → Type 0 where
  Itself : {t : Ctype} → Under t t
  Open : {a : Ctype} (n : Option ℕ) → Under (ArrayOf a None) (ArrayOf a n)
  Less : {r : Ctype} {ps qs : Ctypes} (f : Form) → Under (FunctionFrom r ps Unspecified) (FunctionFrom r qs f)

under_itself : (a b : Ctype) → a ≡ b → Under a b
under_itself a b e = subst (Under a) e Itself

under : (a b : Ctype) → Below a b → Under a b
under (ArrayOf a None) (ArrayOf b n) h = subst (λ (x : Ctype). Under (ArrayOf a None) (ArrayOf x n)) h (Open n)
under (FunctionFrom r ps Unspecified) (FunctionFrom q qs f) h = subst (λ (x : Ctype). Under (FunctionFrom r ps Unspecified) (FunctionFrom x qs f)) h (Less f)
under (ArrayOf a (Some n)) b h = under_itself (ArrayOf a (Some n)) b h
under (FunctionFrom r ps Fixed) b h = under_itself (FunctionFrom r ps Fixed) b h
under (FunctionFrom r ps Variadic) b h = under_itself (FunctionFrom r ps Variadic) b h
under a b h = under_itself a b h

agree_sym_open : (b whole : Ctype) → Under b whole → Agree b whole
agree_sym_open b _ Itself = agree_self b
agree_sym_open _ _ (Open n) = refl
agree_sym_open _ _ (Less f) = refl

-- of an array, and of a function
array_agrees : (a : Ctype) (n : Option ℕ) (b : Ctype) (whole : Ctype) → whole ≡ ArrayOf a n → Under b whole → Agree (ArrayOf a None) b
array_agrees a n b _ e Itself = subst (Agree (ArrayOf a None)) (sym e) refl
array_agrees a n _ _ e (Open {a = x} m) = let same : x ≡ a = cc in sym same
array_agrees a n _ _ e (Less f) = absurd (cc)

function_agrees : (r : Ctype) (ps qs : Ctypes) (f : Form) (b : Ctype) (whole : Ctype) → whole ≡ FunctionFrom r qs f → Under b whole → Agree (FunctionFrom r ps Unspecified) b
function_agrees r ps qs f b _ e Itself = subst (Agree (FunctionFrom r ps Unspecified)) (sym e) refl
function_agrees r ps qs f _ _ e (Open m) = absurd (cc)
function_agrees r ps qs f _ _ e (Less {r = x} g) = let same : x ≡ r = cc in sym same

whole_agrees : (a b : Ctype) → Under b a → Agree a b
whole_agrees a _ Itself = agree_self a
whole_agrees _ _ (Open None) = refl
whole_agrees _ _ (Open (Some n)) = refl
whole_agrees _ _ (Less Fixed) = refl
whole_agrees _ _ (Less Variadic) = refl
whole_agrees _ _ (Less Unspecified) = refl

under_agree : (a b whole : Ctype) → Under a whole → Under b whole → Agree a b
under_agree a b _ Itself k = whole_agrees a b k
under_agree _ b _ (Open {a = x} n) k = array_agrees x n b (ArrayOf x n) refl k
under_agree _ b _ (Less {r = r} {ps = ps} {qs = qs} f) k = function_agrees r ps qs f b (FunctionFrom r qs f) refl k

both_agree : (a b whole : Ctype) → Below a whole → Below b whole → Agree a b
both_agree a b whole h k = under_agree a b whole (under a whole h) (under b whole k)

pub types_joined : TypesJoined
types_joined = record { last = last_joined; below = all_below; agrees = both_agree }
