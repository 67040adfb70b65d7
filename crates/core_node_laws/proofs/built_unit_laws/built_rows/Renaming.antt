-- Sound trees go on being sound where their entities have numbers in place of leaves.
use Rattle.std.proofs.Common.{◌≡◌, ℕ, zero, suc, Bool, true, false, List, [], ◌∷◌, Option, Some, None, refl, sym, ap, ◌∙◌, subst, All, slice_get, inl, inr}
use Rattle.std.specs.Prelude.{⊤, ◌≢◌, reverse}
use mathlib.Core.List.{reverse_aux}
use Rattle.std.proofs.lemmas.List.Elements.{All-cons, All-nil, All-head, All-tail}
use Rattle.pta_base.specs.declared.place.Place.{Place}
use Rattle.c_types.specs.Trees.{Ctype, Ctypes, NoTypes, MoreTypes, VoidType, PointerTo, FunctionFrom}
use Rattle.c_types.specs.declared.term.Form.{Form}
use Rattle.c_types.specs.declared.term.Form.TheVariants.{Fixed, Variadic, Unspecified}
use Rattle.c_types.specs.declared.term.PathStep.{PathStep}
use Rattle.core_tree.specs.declared.node.Op.{Op}
use Rattle.core_tree.specs.declared.node.NodeKind.{NodeKind}
use Rattle.core_tree.specs.declared.node.NodeKind.TheVariants.{Named, Text, Literal, FunctionName, Deref, Member, Number, NullValue, Fetch, AddressOf, Decay, PointerAdd, Convert, Upcast, Assign, Update, Choose, Sequence, CallNode, MemberOfValue, Arith, VarArgs, NextArg, Expression, Block, If, While, DoWhile, For, Switch, Case, Default, Label, Goto, Break, Continue, Return, Initialise, Skip}
use Rattle.core_tree.specs.Typed.{Sort, PlaceNode, ValueNode, sort_of, IsInteger, IsScalar, IsList, IsStored, IsPassed, LacksLength, decayed}
use Rattle.core_tree.specs.Rows.{IsArray, Converts, Unary, Binary, Updates, InitialisesEntity, InitialisesOneOf}
use Rattle.c_consts.specs.Core.{Core, Cores, Of, NoCores, MoreCores, kind_of, ctype_of, core_sort}
use Rattle.c_senses.specs.World.{World, members_of}
use Rattle.c_senses.specs.Conversions.{place_width, width_in}
use Rattle.c_senses.specs.Right.{Numbering, SameKind, SameEntities}
use Rattle.c_initialise.specs.passed.sense_laws.Sound.{Sound, AllSound, RowOver, IsProper, HasNoType, list_of, IsVariadicOf, AgreesWith, IsPartOf, PointsToSized, IsFirstPart, IsValueCore, IsPlaceCore, IsStatementCore, IsConditionCore, IsNumeralCore, IsFurtherCore, AreArguments, CallsWith, InitialOver, IsOneExpressionCore, IsForFirst, IsForCondition, IsForAfter, AreForParts, IfOver, ReturnOver, ArithOver, ChooseOver, CallOver, One, Two, IsEmpty}

some_one : {X : Type 0} → {x y : X} → ◌≡◌ {A = Option X} (Some x) (Some y) → x ≡ y
some_one h = cc

none_some : {X : Type 0} → {x : X} → ◌≡◌ {A = Option X} None (Some x) → ⊥
none_some h = cc

module _ (w : World) (n : Numbering) where
  -- one tree with other numbers of entities
  abbrev mutual
    pub Renames : Core → Core → Type 0
    Renames (Of kind place type under) (Of other there same below) = SameKind n kind other × (type ≡ same) × AllRename under below

    pub AllRename : Cores → Cores → Type 0
    AllRename NoCores NoCores = ⊤
    AllRename (MoreCores a as') (MoreCores b bs) = Renames a b × AllRename as' bs
    AllRename as' bs = ⊥

  -- a kind that names no entity
  abbrev IsPlain : NodeKind → Type 0
  IsPlain (Named d) = ⊥
  IsPlain (FunctionName d) = ⊥
  IsPlain (Literal d) = ⊥
  IsPlain (VarArgs d) = ⊥
  IsPlain (Initialise d paths) = ⊥
  IsPlain (Block ds) = ⊥
  IsPlain (For ds c a) = ⊥
  IsPlain kind = ⊤

  same_sort : (kind other : NodeKind) → SameKind n kind other → sort_of kind ≡ sort_of other
  same_sort (Named d) (Named e) h = refl
  same_sort (FunctionName d) (FunctionName e) h = refl
  same_sort (Literal d) (Literal e) h = refl
  same_sort (VarArgs d) (VarArgs e) h = refl
  same_sort (Initialise d paths) (Initialise e others) h = refl
  same_sort (Block ds) (Block es) h = refl
  same_sort (For ds c a) (For es d b) h = refl
  same_sort kind other h = ap sort_of h

  type_same : (a b : Core) → Renames a b → ctype_of a ≡ ctype_of b
  type_same (Of kind place type under) (Of other there same below) h = h.1

  sort_same : (a b : Core) → Renames a b → core_sort a ≡ core_sort b
  sort_same (Of kind place type under) (Of other there same below) h = same_sort kind other h.0

  kinds_same : (a b : Core) → Renames a b → SameKind n (kind_of a) (kind_of b)
  kinds_same (Of kind place type under) (Of other there same below) h = h.0

  -- the width of a member of a place
  width_under : (kind : NodeKind) (p q : Place) (t r : Ctype) (under below : Cores) → AllRename under below → place_width w (Of kind p t under) ≡ place_width w (Of kind q r below)
  width_under (Member k) p q t r NoCores NoCores h = refl
  width_under (Member k) p q t r NoCores (MoreCores b bs) h = absurd h
  width_under (Member k) p q t r (MoreCores a as') NoCores h = absurd h
  width_under (Member k) p q t r (MoreCores a NoCores) (MoreCores b NoCores) h = ap (λ (x : Ctype). width_in (members_of w x) k) (type_same a b h.0)
  width_under (Member k) p q t r (MoreCores a NoCores) (MoreCores b (MoreCores d bs)) h = absurd h.1
  width_under (Member k) p q t r (MoreCores a (MoreCores c as')) (MoreCores b NoCores) h = absurd h.1
  width_under (Member k) p q t r (MoreCores a (MoreCores c as')) (MoreCores b (MoreCores d bs)) h = refl
  width_under kind p q t r under below h = refl

  width_by : (kind other : NodeKind) (p q : Place) (t r : Ctype) (under below : Cores) → SameKind n kind other → AllRename under below → place_width w (Of kind p t under) ≡ place_width w (Of other q r below)
  width_by (Named d) (Named e) p q t r under below h al = refl
  width_by (FunctionName d) (FunctionName e) p q t r under below h al = refl
  width_by (Literal d) (Literal e) p q t r under below h al = refl
  width_by (VarArgs d) (VarArgs e) p q t r under below h al = refl
  width_by (Initialise d paths) (Initialise e others) p q t r under below h al = refl
  width_by (Block ds) (Block es) p q t r under below h al = refl
  width_by (For ds c a) (For es d b) p q t r under below h al = refl
  width_by kind other p q t r under below h al = width_under kind p q t r under below al ∙ ap (λ (x : NodeKind). place_width w (Of x q r below)) h

  width_same : (a b : Core) → Renames a b → place_width w a ≡ place_width w b
  width_same (Of kind place type under) (Of other there same below) h = width_by kind other place there type same under below h.0 h.2

  -- what rows see of a part
  pub record Alike (a b : Core) : Type 0 where
    pub sort : core_sort a ≡ core_sort b
    pub type : ctype_of a ≡ ctype_of b
    pub width : place_width w a ≡ place_width w b
    pub kind : SameKind n (kind_of a) (kind_of b)

  abbrev pub AllAlike : List Core → List Core → Type 0
  AllAlike [] [] = ⊤
  AllAlike (a ∷ as') (b ∷ bs) = Alike a b × AllAlike as' bs
  AllAlike as' bs = ⊥

  alike : (a b : Core) → Renames a b → Alike a b
  alike a b h = record { sort = sort_same a b h; type = type_same a b h; width = width_same a b h; kind = kinds_same a b h }

  all_alike : (cs ds : Cores) → AllRename cs ds → AllAlike (list_of cs) (list_of ds)
  all_alike NoCores NoCores h = tt
  all_alike NoCores (MoreCores b bs) h = absurd h
  all_alike (MoreCores a as') NoCores h = absurd h
  all_alike (MoreCores a as') (MoreCores b bs) h = (alike a b h.0, all_alike as' bs h.1)

  -- parts in the other order
  turned : (xs ys us vs : List Core) → AllAlike xs ys → AllAlike us vs → AllAlike (reverse_aux xs us) (reverse_aux ys vs)
  turned [] [] us vs h k = k
  turned [] (y ∷ ys) us vs h k = absurd h
  turned (x ∷ xs) [] us vs h k = absurd h
  turned (x ∷ xs) (y ∷ ys) us vs h k = turned xs ys (x ∷ us) (y ∷ vs) h.1 (h.0, k)

  reversed : (xs ys : List Core) → AllAlike xs ys → AllAlike (reverse xs) (reverse ys)
  reversed xs ys h = turned xs ys [] [] h tt

  -- one part, and what it is
  sorted : (a b : Core) (s : Sort) → Alike a b → core_sort a ≡ s → core_sort b ≡ s
  sorted a b s k h = sym k.sort ∙ h

  typed_on : (P : Ctype → Type 0) (a b : Core) → Alike a b → P (ctype_of a) → P (ctype_of b)
  typed_on P a b k h = subst P k.type h

  value_on : (t : Ctype) (a b : Core) → Alike a b → IsValueCore a t → IsValueCore b t
  value_on t a b k h = (sym k.sort ∙ h.0, sym k.type ∙ h.1)

  place_on : (t : Ctype) (a b : Core) → Alike a b → IsPlaceCore a t → IsPlaceCore b t
  place_on t a b k h = (sym k.sort ∙ h.0, sym k.type ∙ h.1)

  statement_on : (a b : Core) → Alike a b → IsStatementCore a → IsStatementCore b
  statement_on a b k h = sym k.sort ∙ h

  condition_on : (a b : Core) → Alike a b → IsConditionCore a → IsConditionCore b
  condition_on a b k h = (sym k.sort ∙ h.0, subst IsScalar k.type h.1)

  numeral_on : (a b : Core) → Alike a b → IsNumeralCore a → IsNumeralCore b
  numeral_on a b k h = (sym k.sort ∙ h.0, subst IsInteger k.type h.1)

  further_on : (a b : Core) → Alike a b → IsFurtherCore a → IsFurtherCore b
  further_on a b k h = (sym k.sort ∙ h.0, subst IsPassed k.type h.1)

  -- lists of parts
  empty_on : (xs ys : List Core) → AllAlike xs ys → IsEmpty xs → IsEmpty ys
  empty_on [] [] k h = tt
  empty_on [] (y ∷ ys) k h = absurd k
  empty_on (x ∷ xs) ys k h = absurd h

  one_on : (P Q : Core → Type 0) → ((a b : Core) → Alike a b → P a → Q b) → (xs ys : List Core) → AllAlike xs ys → One P xs → One Q ys
  one_on P Q f [] ys k h = absurd h
  one_on P Q f (a ∷ []) [] k h = absurd k
  one_on P Q f (a ∷ []) (b ∷ []) k h = f a b k.0 h
  one_on P Q f (a ∷ []) (b ∷ c ∷ ys) k h = absurd k.1
  one_on P Q f (a ∷ b ∷ xs) ys k h = absurd h

  two_on : (P Q : Core → Core → Type 0) → ((a c b d : Core) → Alike a b → Alike c d → P a c → Q b d) → (xs ys : List Core) → AllAlike xs ys → Two P xs → Two Q ys
  two_on P Q f [] ys k h = absurd h
  two_on P Q f (a ∷ []) ys k h = absurd h
  two_on P Q f (a ∷ c ∷ []) [] k h = absurd k
  two_on P Q f (a ∷ c ∷ []) (b ∷ []) k h = absurd k.1
  two_on P Q f (a ∷ c ∷ []) (b ∷ d ∷ []) k h = f a c b d k.0 k.1.0 h
  two_on P Q f (a ∷ c ∷ []) (b ∷ d ∷ e ∷ ys) k h = absurd k.1.1
  two_on P Q f (a ∷ c ∷ e ∷ xs) ys k h = absurd h

  all_on : (P Q : Core → Type 0) → ((a b : Core) → Alike a b → P a → Q b) → (xs ys : List Core) → AllAlike xs ys → All P xs → All Q ys
  all_on P Q f [] [] k h = All-nil Q
  all_on P Q f [] (y ∷ ys) k h = absurd k
  all_on P Q f (x ∷ xs) [] k h = absurd k
  all_on P Q f (x ∷ xs) (y ∷ ys) k h = All-cons Q y ys (f x y k.0 (All-head P x xs h)) (all_on P Q f xs ys k.1 (All-tail P x xs h))

  -- a row of no parts, which says something of the type alone
  none_on : (P : List Core → Type 0) → ((x : Core) (xs : List Core) → P (x ∷ xs) → ⊥) → (xs ys : List Core) → AllAlike xs ys → P xs → P ys
  none_on P f [] [] k h = h
  none_on P f [] (y ∷ ys) k h = absurd k
  none_on P f (x ∷ xs) ys k h = absurd (f x xs h)

  arguments_on : (ps : Ctypes) (f : Form) (xs ys : List Core) → AllAlike xs ys → AreArguments ps f xs → AreArguments ps f ys
  arguments_on NoTypes Fixed [] [] k h = tt
  arguments_on NoTypes Fixed [] (y ∷ ys) k h = absurd k
  arguments_on NoTypes Fixed (x ∷ xs) ys k h = absurd h
  arguments_on NoTypes Variadic xs ys k h = all_on IsFurtherCore IsFurtherCore further_on xs ys k h
  arguments_on NoTypes Unspecified xs ys k h = all_on IsFurtherCore IsFurtherCore further_on xs ys k h
  arguments_on (MoreTypes t rest) Unspecified [] ys k h = absurd h
  arguments_on (MoreTypes t rest) Unspecified (x ∷ xs) ys k h = absurd h
  arguments_on (MoreTypes t rest) Fixed [] ys k h = absurd h
  arguments_on (MoreTypes t rest) Variadic [] ys k h = absurd h
  arguments_on (MoreTypes t rest) Fixed (x ∷ xs) [] k h = absurd k
  arguments_on (MoreTypes t rest) Variadic (x ∷ xs) [] k h = absurd k
  arguments_on (MoreTypes t rest) Fixed (x ∷ xs) (y ∷ ys) k h = (value_on t x y k.0 h.0, arguments_on rest Fixed xs ys k.1 h.1)
  arguments_on (MoreTypes t rest) Variadic (x ∷ xs) (y ∷ ys) k h = (value_on t x y k.0 h.0, arguments_on rest Variadic xs ys k.1 h.1)

  calls_on : (callee t : Ctype) (xs ys : List Core) → AllAlike xs ys → CallsWith callee t xs → CallsWith callee t ys
  calls_on (PointerTo (FunctionFrom r ps f)) t xs ys k h = (h.0, arguments_on ps f xs ys k h.1)
  calls_on callee t xs ys k h = absurd h

  call_on : (t : Ctype) (xs ys : List Core) → AllAlike xs ys → CallOver t xs → CallOver t ys
  call_on t [] ys k h = absurd h
  call_on t (c ∷ xs) [] k h = absurd k
  call_on t (c ∷ xs) (d ∷ ys) k h = (sym k.0.sort ∙ h.0, subst (λ (x : Ctype). CallsWith x t ys) k.0.type (calls_on (ctype_of c) t xs ys k.1 h.1))

  choose_on : (t : Ctype) (xs ys : List Core) → AllAlike xs ys → ChooseOver t xs → ChooseOver t ys
  choose_on t [] ys k h = absurd h
  choose_on t (c ∷ []) ys k h = absurd h
  choose_on t (c ∷ a ∷ []) ys k h = absurd h
  choose_on t (c ∷ a ∷ b ∷ []) [] k h = absurd k
  choose_on t (c ∷ a ∷ b ∷ []) (x ∷ []) k h = absurd k.1
  choose_on t (c ∷ a ∷ b ∷ []) (x ∷ y ∷ []) k h = absurd k.1.1
  choose_on t (c ∷ a ∷ b ∷ []) (x ∷ y ∷ z ∷ []) k h = (condition_on c x k.0 h.0, value_on t a y k.1.0 h.1, value_on t b z k.1.1.0 h.2)
  choose_on t (c ∷ a ∷ b ∷ []) (x ∷ y ∷ z ∷ v ∷ ys) k h = absurd k.1.1.1
  choose_on t (c ∷ a ∷ b ∷ d ∷ xs) ys k h = absurd h

  arith_on : (op : Op) (t : Ctype) (xs ys : List Core) → AllAlike xs ys → ArithOver op t xs → ArithOver op t ys
  arith_on op t [] ys k h = absurd h
  arith_on op t (a ∷ []) [] k h = absurd k
  arith_on op t (a ∷ []) (b ∷ []) k h = (sym k.0.sort ∙ h.0, subst (λ (x : Ctype). Unary op x t) k.0.type h.1)
  arith_on op t (a ∷ []) (b ∷ d ∷ ys) k h = absurd k.1
  arith_on op t (a ∷ c ∷ []) [] k h = absurd k
  arith_on op t (a ∷ c ∷ []) (b ∷ []) k h = absurd k.1
  arith_on op t (a ∷ c ∷ []) (b ∷ d ∷ []) k h =
      (sym k.0.sort ∙ h.0, sym k.1.0.sort ∙ h.1, subst (λ (x : Ctype). Binary op x (ctype_of d) t) k.0.type (subst (λ (x : Ctype). Binary op (ctype_of a) x t) k.1.0.type h.2))
  arith_on op t (a ∷ c ∷ []) (b ∷ d ∷ e ∷ ys) k h = absurd k.1.1
  arith_on op t (a ∷ c ∷ e ∷ xs) ys k h = absurd h

  if_on : (xs ys : List Core) → AllAlike xs ys → IfOver xs → IfOver ys
  if_on [] ys k h = absurd h
  if_on (c ∷ []) ys k h = absurd h
  if_on (c ∷ s ∷ []) [] k h = absurd k
  if_on (c ∷ s ∷ []) (x ∷ []) k h = absurd k.1
  if_on (c ∷ s ∷ []) (x ∷ y ∷ []) k h = (condition_on c x k.0 h.0, statement_on s y k.1.0 h.1)
  if_on (c ∷ s ∷ []) (x ∷ y ∷ z ∷ ys) k h = absurd k.1.1
  if_on (c ∷ s ∷ o ∷ []) [] k h = absurd k
  if_on (c ∷ s ∷ o ∷ []) (x ∷ []) k h = absurd k.1
  if_on (c ∷ s ∷ o ∷ []) (x ∷ y ∷ []) k h = absurd k.1.1
  if_on (c ∷ s ∷ o ∷ []) (x ∷ y ∷ z ∷ []) k h = (condition_on c x k.0 h.0, statement_on s y k.1.0 h.1, statement_on o z k.1.1.0 h.2)
  if_on (c ∷ s ∷ o ∷ []) (x ∷ y ∷ z ∷ v ∷ ys) k h = absurd k.1.1.1
  if_on (c ∷ s ∷ o ∷ r ∷ xs) ys k h = absurd h

  return_on : (xs ys : List Core) → AllAlike xs ys → ReturnOver xs → ReturnOver ys
  return_on [] [] k h = tt
  return_on [] (y ∷ ys) k h = absurd k
  return_on (a ∷ []) [] k h = absurd k
  return_on (a ∷ []) (b ∷ []) k h = sym k.0.sort ∙ h
  return_on (a ∷ []) (b ∷ c ∷ ys) k h = absurd k.1
  return_on (a ∷ b ∷ xs) ys k h = absurd h

  initial_on : (t : Option Ctype) (paths : List (List PathStep)) (xs ys : List Core) → AllAlike xs ys → InitialOver w t paths xs → InitialOver w t paths ys
  initial_on t [] [] [] k h = tt
  initial_on t [] [] (y ∷ ys) k h = absurd k
  initial_on t [] (x ∷ xs) ys k h = absurd h
  initial_on t (path ∷ paths) [] ys k h = absurd h
  initial_on t (path ∷ paths) (x ∷ xs) [] k h = absurd k
  initial_on t (path ∷ paths) (x ∷ xs) (y ∷ ys) k h = (sym k.0.sort ∙ h.0, h.1 ∙ ap Some k.0.type, initial_on t paths xs ys k.1 h.2)

  -- entities of a list, and initialisers
  listed_on : (ds es : List ℕ) (k d : ℕ) → SameEntities n ds es → slice_get ds k ≡ Some d → (e : ℕ) × (slice_get es k ≡ Some e) × (n d ≡ Some e)
  listed_on [] [] k d h at = absurd (none_some at)
  listed_on [] (e ∷ es) k d h at = absurd h
  listed_on (c ∷ ds) [] k d h at = absurd h
  listed_on (c ∷ ds) (e ∷ es) zero d h at = (e, refl, subst (λ (x : ℕ). n x ≡ Some e) (some_one at) h.0)
  listed_on (c ∷ ds) (e ∷ es) (suc k) d h at = listed_on ds es k d h.1 at

  runs_on : (ds es : List ℕ) (kind other : NodeKind) → SameEntities n ds es → SameKind n kind other → InitialisesOneOf ds kind → InitialisesOneOf es other
  runs_on ds es (Initialise d paths) (Initialise e others) all same h =
      let (f, at, number) = listed_on ds es h.0 d all h.1 in
      let one : f ≡ e = some_one (sym number ∙ same.0) in
      (h.0, at ∙ ap Some one)
  runs_on ds es (Initialise d paths) other all same h = cc
  runs_on ds es kind other all same h = absurd h

  begins_on : (kind other : NodeKind) (d e : ℕ) → n d ≡ Some e → SameKind n kind other → InitialisesEntity kind d → InitialisesEntity other e
  begins_on (Initialise c paths) (Initialise f others) d e number same h = some_one (sym same.0 ∙ (ap n h ∙ number))
  begins_on (Initialise c paths) other d e number same h = cc
  begins_on kind other d e number same h = absurd h

  expression_kind : (kind other : NodeKind) → SameKind n kind other → kind ≡ Expression → other ≡ Expression
  expression_kind kind other h e = sym (subst (λ (k : NodeKind). SameKind n k other) e h)

  -- the parts of a For
  one_expression_on : (xs ys : List Core) → AllAlike xs ys → IsOneExpressionCore xs → IsOneExpressionCore ys
  one_expression_on [] ys k h = absurd h
  one_expression_on (a ∷ []) [] k h = absurd k
  one_expression_on (a ∷ []) (b ∷ []) k h = expression_kind (kind_of a) (kind_of b) k.0.kind h
  one_expression_on (a ∷ []) (b ∷ c ∷ ys) k h = absurd k.1
  one_expression_on (a ∷ b ∷ xs) ys k h = absurd h

  first_on : (ds es : List ℕ) → SameEntities n ds es → (xs ys : List Core) → AllAlike xs ys → IsForFirst ds xs → IsForFirst es ys
  first_on ds es all xs ys k (inl h) = inl (all_on (λ c. InitialisesOneOf ds (kind_of c)) (λ c. InitialisesOneOf es (kind_of c)) (λ a b same is. runs_on ds es (kind_of a) (kind_of b) all same.kind is) xs ys k h)
  first_on ds es all xs ys k (inr h) = inr (one_expression_on xs ys k h)

  for_condition_on : (ds es : List ℕ) → SameEntities n ds es → (condition : Bool) (xs ys : List Core) → AllAlike xs ys → IsForCondition ds condition xs → IsForCondition es condition ys
  for_condition_on ds es all true [] ys k h = absurd h
  for_condition_on ds es all true (x ∷ xs) [] k h = absurd k
  for_condition_on ds es all true (x ∷ xs) (y ∷ ys) k h = (condition_on x y k.0 h.0, first_on ds es all (reverse xs) (reverse ys) (reversed xs ys k.1) h.1)
  for_condition_on ds es all false xs ys k h = first_on ds es all (reverse xs) (reverse ys) (reversed xs ys k) h

  for_after_on : (ds es : List ℕ) → SameEntities n ds es → (condition after : Bool) (xs ys : List Core) → AllAlike xs ys → IsForAfter ds condition after xs → IsForAfter es condition after ys
  for_after_on ds es all condition true [] ys k h = absurd h
  for_after_on ds es all condition true (x ∷ xs) [] k h = absurd k
  for_after_on ds es all condition true (x ∷ xs) (y ∷ ys) k h = (sym k.0.sort ∙ h.0, for_condition_on ds es all condition xs ys k.1 h.1)
  for_after_on ds es all condition false xs ys k h = for_condition_on ds es all condition xs ys k h

  for_on : (ds es : List ℕ) → SameEntities n ds es → (condition after : Bool) (xs ys : List Core) → AllAlike xs ys → AreForParts ds condition after xs → AreForParts es condition after ys
  for_on ds es all condition after [] ys k h = absurd h
  for_on ds es all condition after (x ∷ xs) [] k h = absurd k
  for_on ds es all condition after (x ∷ xs) (y ∷ ys) k h = (statement_on x y k.0 h.0, for_after_on ds es all condition after xs ys k.1 h.1)

  -- where entities have the types that they had by their leaves
  module _ (old new : ℕ → Option Ctype) (typed : (d e : ℕ) → n d ≡ Some e → old d ≡ new e) where
    named_on : (P : Option Ctype → Type 0) (d e : ℕ) → n d ≡ Some e → P (old d) → P (new e)
    named_on P d e number h = subst P (typed d e number) h

    plain_on : (kind : NodeKind) → IsPlain kind → (t : Ctype) (xs ys : List Core) → AllAlike xs ys → RowOver w old kind t xs → RowOver w new kind t ys
    plain_on (Named d) p t xs ys k h = absurd p
    plain_on (FunctionName d) p t xs ys k h = absurd p
    plain_on (Literal d) p t xs ys k h = absurd p
    plain_on (VarArgs d) p t xs ys k h = absurd p
    plain_on (Initialise d paths) p t xs ys k h = absurd p
    plain_on (Block ds) p t xs ys k h = absurd p
    plain_on (For ds c a) p t xs ys k h = absurd p
    plain_on (Text bytes) p t xs ys k h = none_on (λ (l : List Core). RowOver w new (Text bytes) t l) (λ x rest no. no) xs ys k h
    plain_on Deref p t xs ys k h = one_on (λ v. IsValueCore v (PointerTo t) × (t ≢ VoidType)) (λ v. IsValueCore v (PointerTo t) × (t ≢ VoidType)) (λ a b same is. (value_on (PointerTo t) a b same is.0, is.1)) xs ys k h
    plain_on (Member m) p t xs ys k h =
        one_on (λ c. (core_sort c ≡ PlaceNode) × IsPartOf w (ctype_of c) m t × (LacksLength t → ⊥)) (λ c. (core_sort c ≡ PlaceNode) × IsPartOf w (ctype_of c) m t × (LacksLength t → ⊥))
        (λ a b same is. (sym same.sort ∙ is.0, subst (λ (x : Ctype). IsPartOf w x m t) same.type is.1, is.2)) xs ys k h
    plain_on (Number z) p t xs ys k h = none_on (λ (l : List Core). RowOver w new (Number z) t l) (λ x rest no. no) xs ys k h
    plain_on NullValue p t xs ys k h = none_on (λ (l : List Core). RowOver w new NullValue t l) (λ x rest no. no) xs ys k h
    plain_on Fetch p t xs ys k h = one_on (λ c. IsPlaceCore c t × IsStored t) (λ c. IsPlaceCore c t × IsStored t) (λ a b same is. (place_on t a b same is.0, is.1)) xs ys k h
    plain_on AddressOf p t xs ys k h =
        one_on (λ c. (core_sort c ≡ PlaceNode) × (t ≡ PointerTo (ctype_of c)) × (place_width w c ≡ None)) (λ c. (core_sort c ≡ PlaceNode) × (t ≡ PointerTo (ctype_of c)) × (place_width w c ≡ None))
        (λ a b same is. (sym same.sort ∙ is.0, is.1 ∙ ap PointerTo same.type, sym same.width ∙ is.2)) xs ys k h
    plain_on Decay p t xs ys k h =
        one_on (λ c. (core_sort c ≡ PlaceNode) × (decayed (ctype_of c) ≡ Some t)) (λ c. (core_sort c ≡ PlaceNode) × (decayed (ctype_of c) ≡ Some t))
        (λ a b same is. (sym same.sort ∙ is.0, subst (λ (x : Ctype). decayed x ≡ Some t) same.type is.1)) xs ys k h
    plain_on (PointerAdd minus) p t xs ys k h =
        two_on (λ v i. IsValueCore v t × PointsToSized w t × IsNumeralCore i) (λ v i. IsValueCore v t × PointsToSized w t × IsNumeralCore i)
        (λ a c b d first second is. (value_on t a b first is.0, is.1, numeral_on c d second is.2)) xs ys k h
    plain_on Convert p t xs ys k h =
        one_on (λ v. (core_sort v ≡ ValueNode) × (ctype_of v ≢ t) × Converts (ctype_of v) t) (λ v. (core_sort v ≡ ValueNode) × (ctype_of v ≢ t) × Converts (ctype_of v) t)
        (λ a b same is. (sym same.sort ∙ is.0, subst (λ (x : Ctype). x ≢ t) same.type is.1, subst (λ (x : Ctype). Converts x t) same.type is.2)) xs ys k h
    plain_on Upcast p t xs ys k h =
        one_on (λ v. (core_sort v ≡ ValueNode) × IsFirstPart w (ctype_of v) t) (λ v. (core_sort v ≡ ValueNode) × IsFirstPart w (ctype_of v) t)
        (λ a b same is. (sym same.sort ∙ is.0, subst (λ (x : Ctype). IsFirstPart w x t) same.type is.1)) xs ys k h
    plain_on Assign p t xs ys k h =
        two_on (λ c v. IsPlaceCore c t × IsValueCore v t × IsStored t) (λ c v. IsPlaceCore c t × IsValueCore v t × IsStored t)
        (λ a c b d first second is. (place_on t a b first is.0, value_on t c d second is.1, is.2)) xs ys k h
    plain_on (Update op post) p t xs ys k h =
        two_on (λ c v. IsPlaceCore c t × IsNumeralCore v × Updates op t) (λ c v. IsPlaceCore c t × IsNumeralCore v × Updates op t)
        (λ a c b d first second is. (place_on t a b first is.0, numeral_on c d second is.1, is.2)) xs ys k h
    plain_on Choose p t xs ys k h = choose_on t xs ys k h
    plain_on Sequence p t xs ys k h =
        two_on (λ a b. (core_sort a ≡ ValueNode) × IsValueCore b t) (λ a b. (core_sort a ≡ ValueNode) × IsValueCore b t)
        (λ a c b d first second is. (sym first.sort ∙ is.0, value_on t c d second is.1)) xs ys k h
    plain_on CallNode p t xs ys k h = call_on t xs ys k h
    plain_on (MemberOfValue m) p t xs ys k h =
        one_on (λ v. (core_sort v ≡ ValueNode) × IsPartOf w (ctype_of v) m t × (IsArray t → ⊥)) (λ v. (core_sort v ≡ ValueNode) × IsPartOf w (ctype_of v) m t × (IsArray t → ⊥))
        (λ a b same is. (sym same.sort ∙ is.0, subst (λ (x : Ctype). IsPartOf w x m t) same.type is.1, is.2)) xs ys k h
    plain_on (Arith op) p t xs ys k h = arith_on op t xs ys k h
    plain_on NextArg p t xs ys k h =
        one_on (λ c. (core_sort c ≡ PlaceNode) × IsList (ctype_of c) × IsScalar t) (λ c. (core_sort c ≡ PlaceNode) × IsList (ctype_of c) × IsScalar t)
        (λ a b same is. (sym same.sort ∙ is.0, subst IsList same.type is.1, is.2)) xs ys k h
    plain_on Expression p t xs ys k h = one_on (λ v. core_sort v ≡ ValueNode) (λ v. core_sort v ≡ ValueNode) (λ a b same is. sym same.sort ∙ is) xs ys k h
    plain_on If p t xs ys k h = if_on xs ys k h
    plain_on While p t xs ys k h =
        two_on (λ c s. IsConditionCore c × IsStatementCore s) (λ c s. IsConditionCore c × IsStatementCore s) (λ a c b d first second is. (condition_on a b first is.0, statement_on c d second is.1)) xs ys k h
    plain_on DoWhile p t xs ys k h =
        two_on (λ s c. IsConditionCore c × IsStatementCore s) (λ s c. IsConditionCore c × IsStatementCore s) (λ a c b d first second is. (condition_on c d second is.0, statement_on a b first is.1)) xs ys k h
    plain_on Switch p t xs ys k h =
        two_on (λ c s. IsNumeralCore c × IsStatementCore s) (λ c s. IsNumeralCore c × IsStatementCore s) (λ a c b d first second is. (numeral_on a b first is.0, statement_on c d second is.1)) xs ys k h
    plain_on (Case z) p t xs ys k h = one_on IsStatementCore IsStatementCore statement_on xs ys k h
    plain_on Default p t xs ys k h = one_on IsStatementCore IsStatementCore statement_on xs ys k h
    plain_on (Label name) p t xs ys k h = one_on IsStatementCore IsStatementCore statement_on xs ys k h
    plain_on (Goto name) p t xs ys k h = empty_on xs ys k h
    plain_on Break p t xs ys k h = empty_on xs ys k h
    plain_on Continue p t xs ys k h = empty_on xs ys k h
    plain_on Return p t xs ys k h = return_on xs ys k h
    plain_on Skip p t xs ys k h = empty_on xs ys k h

    -- a name stands over nothing
    name_on : (d e : ℕ) (t : Ctype) (xs ys : List Core) → n d ≡ Some e → AllAlike xs ys → RowOver w old (Named d) t xs → RowOver w new (Named e) t ys
    name_on d e t [] [] number k h = (named_on (λ (o : Option Ctype). AgreesWith o t) d e number h.0, h.1)
    name_on d e t [] (y ∷ ys) number k h = absurd k
    name_on d e t (x ∷ xs) ys number k h = absurd h

    function_on : (d e : ℕ) (t : Ctype) (xs ys : List Core) → n d ≡ Some e → AllAlike xs ys → RowOver w old (FunctionName d) t xs → RowOver w new (FunctionName e) t ys
    function_on d e t [] [] number k h = (named_on (λ (o : Option Ctype). AgreesWith o t) d e number h.0, h.1)
    function_on d e t [] (y ∷ ys) number k h = absurd k
    function_on d e t (x ∷ xs) ys number k h = absurd h

    literal_on : (d e : ℕ) (t : Ctype) (xs ys : List Core) → n d ≡ Some e → AllAlike xs ys → RowOver w old (Literal d) t xs → RowOver w new (Literal e) t ys
    literal_on d e t xs ys number k h =
        one_on (λ i. (old d ≡ Some t) × InitialisesEntity (kind_of i) d) (λ i. (new e ≡ Some t) × InitialisesEntity (kind_of i) e)
        (λ a b same is. (named_on (λ (o : Option Ctype). o ≡ Some t) d e number is.0, begins_on (kind_of a) (kind_of b) d e number same.kind is.1)) xs ys k h

    varargs_on : (d e : ℕ) (t : Ctype) (xs ys : List Core) → n d ≡ Some e → AllAlike xs ys → RowOver w old (VarArgs d) t xs → RowOver w new (VarArgs e) t ys
    varargs_on d e t xs ys number k h = (empty_on xs ys k h.0, h.1, named_on IsVariadicOf d e number h.2)

    row_on : (kind other : NodeKind) (t : Ctype) (xs ys : List Core) → SameKind n kind other → AllAlike xs ys → RowOver w old kind t xs → RowOver w new other t ys
    row_on (Named d) (Named e) t xs ys same k h = name_on d e t xs ys same k h
    row_on (FunctionName d) (FunctionName e) t xs ys same k h = function_on d e t xs ys same k h
    row_on (Literal d) (Literal e) t xs ys same k h = literal_on d e t xs ys same k h
    row_on (VarArgs d) (VarArgs e) t xs ys same k h = varargs_on d e t xs ys same k h
    row_on (Initialise d paths) (Initialise e others) t xs ys same k h =
        subst (λ (l : List (List PathStep)). InitialOver w (new e) l ys) same.1 (initial_on (new e) paths xs ys k (named_on (λ (o : Option Ctype). InitialOver w o paths xs) d e same.0 h))
    row_on (Block ds) (Block es) t xs ys same k h = all_on IsStatementCore IsStatementCore statement_on xs ys k h
    row_on (For ds c a) (For es d b) t xs ys same k h =
        subst (λ (x : Bool). AreForParts es x b (reverse ys)) same.1 (subst (λ (x : Bool). AreForParts es c x (reverse ys)) same.2 (for_on ds es same.0 c a (reverse xs) (reverse ys) (reversed xs ys k) h))
    row_on (Named d) other t xs ys same k h = cc
    row_on (FunctionName d) other t xs ys same k h = cc
    row_on (Literal d) other t xs ys same k h = cc
    row_on (VarArgs d) other t xs ys same k h = cc
    row_on (Initialise d paths) other t xs ys same k h = cc
    row_on (Block ds) other t xs ys same k h = cc
    row_on (For ds c a) other t xs ys same k h = cc
    row_on kind other t xs ys same k h = subst (λ (x : NodeKind). RowOver w new x t ys) same (plain_on kind tt t xs ys k h)

    mutual
      pub sound_on : (a b : Core) → Renames a b → Sound w old a → Sound w new b
      sound_on (Of kind place type under) (Of other there same below) r h = (
        subst (λ (t : Ctype). RowOver w new other t (list_of below)) r.1 (row_on kind other type (list_of under) (list_of below) r.0 (all_alike under below r.2) h.0),
        subst IsProper r.1 h.1,
        subst (λ (t : Ctype). HasNoType (sort_of other) t) r.1 (subst (λ (x : Sort). HasNoType x type) (same_sort kind other r.0) h.2),
        all_sound_on under below r.2 h.3,
      )

      all_sound_on : (cs ds : Cores) → AllRename cs ds → AllSound w old cs → AllSound w new ds
      all_sound_on NoCores NoCores r h = tt
      all_sound_on NoCores (MoreCores b bs) r h = absurd r
      all_sound_on (MoreCores a as') NoCores r h = absurd r
      all_sound_on (MoreCores a as') (MoreCores b bs) r h = (sound_on a b r.0 h.0, all_sound_on as' bs r.1 h.1)
