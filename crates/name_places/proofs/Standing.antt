-- Where nodes stand.
use Rattle.std.proofs.Common.{inl, inr, slice_get, length, IfSome, ◌≡◌, ℕ, ◌<◌, Bool, true, false, cond, ◌&&◌, List, [], ◌∷◌, Option, Some, None, option_and_then, refl, sym, ap, ◌∙◌}
use Rattle.std.proofs.lemmas.Option.{slice_get_cases}
use Rattle.c_types.specs.Trees.{Ctype}
use Rattle.c_grammar.specs.declared.trees.SyntaxNode.{SyntaxNode}
use Rattle.c_senses.specs.Tree.{Source, first_where, is_name, is_leaf, is_identifier, kind_at, kind_of_token, token_of, nearest_above}
use Rattle.c_senses.specs.World.{World, same_length}
use Rattle.c_senses.specs.Sense.{Sense, Nothing, IsCore, IsType, IsSpecified, IsDeclarator, IsDerivation, IsParameter, IsMembers, IsValue, IsRun, IsInitial, sense_in}
use Rattle.c_senses.specs.Declarators.{outermost_of}
use Rattle.c_senses.specs.Entities.{is_boundary, is_object_initialiser, initialises_static, is_in_static, function_around, own_type, result_of}
use Rattle.c_senses.specs.Statements.{returned_type}
use Rattle.c_senses.specs.Right.{is_declaring}
use Rattle.name_places.specs.Named.{name_within}

-- a name is a node of the tree: what is none has no token that is an identifier
and_false : (b c : Bool) → c ≡ false → (b && c) ≡ false
and_false true c e = e
and_false false c e = refl

pub no_name : (s : Source) (i : ℕ) → slice_get s.nodes i ≡ None → is_name s i ≡ false
no_name s i e = and_false (is_leaf s i) (is_identifier (kind_at s i)) (ap (λ (o : Option SyntaxNode). is_identifier (kind_of_token (token_of s o))) e)

pub name_below : (s : Source) (i : ℕ) → is_name s i ≡ true → i < length s.nodes
name_below s i h =
    elim (slice_get_cases s.nodes i).1 [
      | inl found ↦ found.1
      | inr past ↦ let no = no_name s i past.1 in absurd (cc)
    ]

-- the first name of some nodes is a node of the tree
pub first_name_below : (s : Source) (list : List ℕ) → IfSome (first_where (is_name s) list) (λ leaf. leaf < length s.nodes)
first_name_below s [] = tt
first_name_below s (c ∷ rest) = here (is_name s c) refl (first_name_below s rest)
  where
    here : (b : Bool) → is_name s c ≡ b → IfSome (first_where (is_name s) rest) (λ leaf. leaf < length s.nodes) → IfSome (cond b (Some c) (first_where (is_name s) rest)) (λ leaf. leaf < length s.nodes)
    here true e others = name_below s c e
    here false e others = others

-- what stands in a static object's initialiser
pub in_static : (s : Source) (sense : ℕ → Sense) (i b : ℕ) (x y : Bool) → Some b ≡ nearest_above s (is_boundary s sense) i → x ≡ is_object_initialiser s sense b → y ≡ initialises_static s sense b → (x && y) ≡ is_in_static s sense i
in_static s sense i b x y up ex ey =
    ap (λ (z : Bool). z && y) ex
    ∙ (ap (λ (z : Bool). is_object_initialiser s sense b && z) ey
    ∙ ap (λ (o : Option ℕ). elim o as (λ q. Bool) [ None ↦ false | Some p ↦ is_object_initialiser s sense p && initialises_static s sense p ]) up)

-- the type that a function returns, by its name
pub returned_some : (w : World) (s : Source) (sense : ℕ → Sense) (at leaf : ℕ) (t : Ctype) → Some leaf ≡ function_around s sense at → Some t ≡ own_type s sense leaf → returned_type w s sense at ≡ Some (result_of w s sense t)
returned_some w s sense at leaf t around own =
    sym (ap (λ (o : Option Ctype). elim o as (λ q. Option Ctype) [ None ↦ None | Some x ↦ Some (result_of w s sense x) ]) (own ∙ ap (λ (o : Option ℕ). option_and_then (own_type s sense) o) around))

pub returned_none : (w : World) (s : Source) (sense : ℕ → Sense) (at leaf : ℕ) → Some leaf ≡ function_around s sense at → ◌≡◌ {A = Option Ctype} None (own_type s sense leaf) → returned_type w s sense at ≡ None
returned_none w s sense at leaf around own =
    sym (ap (λ (o : Option Ctype). elim o as (λ q. Option Ctype) [ None ↦ None | Some x ↦ Some (result_of w s sense x) ]) (own ∙ ap (λ (o : Option ℕ). option_and_then (own_type s sense) o) around))

pub returned_outside : (w : World) (s : Source) (sense : ℕ → Sense) (at : ℕ) → ◌≡◌ {A = Option ℕ} None (function_around s sense at) → returned_type w s sense at ≡ None
returned_outside w s sense at around =
    sym (ap (λ (x : Option ℕ). elim (option_and_then (own_type s sense) x) as (λ q. Option Ctype) [ None ↦ None | Some t ↦ Some (result_of w s sense t) ]) around)

-- whether a declarator's name is that leaf
that_name : (x : Sense) (i : ℕ) → same_length (name_within x) (Some i) ≡ (elim x as (λ q. Bool) [ IsDeclarator name ds ↦ same_length name (Some i) | _ ↦ false ])
that_name Nothing i = refl
that_name (IsCore a) i = refl
that_name (IsType a) i = refl
that_name (IsSpecified a) i = refl
that_name (IsDeclarator a b) i = refl
that_name (IsDerivation a) i = refl
that_name (IsParameter a) i = refl
that_name (IsMembers a) i = refl
that_name (IsValue a) i = refl
that_name (IsRun a) i = refl
that_name (IsInitial a b) i = refl

pub declaring_is : (s : Source) (senses : List Sense) (i d : ℕ) (name : Option ℕ) (r : Bool) → true ≡ is_name s i → Some d ≡ outermost_of s i → name ≡ name_within (sense_in senses d) → r ≡ same_length name (Some i) → r ≡ is_declaring s senses i
declaring_is s senses i d name r named up en er =
    let F : Option ℕ → Bool = λ o. elim o as (λ q. Bool) [ None ↦ false | Some e ↦ elim (sense_in senses e) as (λ q. Bool) [ IsDeclarator n ds ↦ same_length n (Some i) | _ ↦ false ] ] in
    er ∙ (ap (λ (n : Option ℕ). same_length n (Some i)) en ∙ (that_name (sense_in senses d) i ∙ (ap F up ∙ ap (λ (b : Bool). b && F (outermost_of s i)) named)))
