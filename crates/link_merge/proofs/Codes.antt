-- Codes of member lists tell their members.
use Rattle.std.proofs.Common.{◌≡◌, ℕ, ◌+◌, ◌<◌, Option, Some, None, List, [], ◌∷◌, ◌++◌, length, get_or, append_assoc, refl, sym, ap, ◌∙◌, arith, inl, inr}
use Rattle.std.proofs.lemmas.Bool.{cases_lt}
use Rattle.c_types.specs.declared.term.MemberTerm.{MemberTerm}
use Rattle.c_types.specs.Table.{Table, type_of}
use Rattle.link_merge.specs.Codes.{name_code, bits_code, member_code, members_code, AreFirstIds}

-- lists of one length in front of others
pub append_same : (xs ys r s : List ℕ) → length xs ≡ length ys → xs ++ r ≡ ys ++ s → (xs ≡ ys) × (r ≡ s)
append_same [] [] r s e h = (refl, h)
append_same [] (y ∷ ys) r s e h = absurd (omega arith)
append_same (x ∷ xs) [] r s e h = absurd (omega arith)
append_same (x ∷ xs) (y ∷ ys) r s e h =
    let head : x ≡ y = cc in
    let tail : xs ++ r ≡ ys ++ s = cc in
    let rest = append_same xs ys r s (omega arith) tail in
    (ap (λ z. z ∷ xs) head ∙ ap (λ zs. y ∷ zs) rest.0, rest.1)

-- the code of a name in front of a list
name_split : (n m : Option (List ℕ)) (r s : List ℕ) → name_code n ++ r ≡ name_code m ++ s → (n ≡ m) × (r ≡ s)
name_split None None r s h = (refl, cc)
name_split None (Some m) r s h = (let zero_is : 0 ≡ length m + 1 = cc in absurd (omega arith))
name_split (Some n) None r s h = (let zero_is : length n + 1 ≡ 0 = cc in absurd (omega arith))
name_split (Some n) (Some m) r s h =
    let long : length n + 1 ≡ length m + 1 = cc in
    let rest : n ++ r ≡ m ++ s = cc in
    let both = append_same n m r s (omega arith) rest in
    (ap Some both.0, both.1)

bits_same : (a b : Option ℕ) → bits_code a ≡ bits_code b → a ≡ b
bits_same None None e = refl
bits_same None (Some b) e = absurd (omega arith)
bits_same (Some a) None e = absurd (omega arith)
bits_same (Some a) (Some b) e = (let same : a ≡ b = omega arith in ap Some same)

-- members alike in name, width and the first of their type
pub record CodedAlike (firsts : List ℕ) (s t : ℕ) (m n : MemberTerm) : Type 0 where
  pub name : m.name ≡ n.name
  pub bits : m.bits ≡ n.bits
  pub first : get_or firsts (s + m.ty.0) 0 ≡ get_or firsts (t + n.ty.0) 0

member_split : (firsts : List ℕ) (s t : ℕ) (m n : MemberTerm) (r q : List ℕ) → member_code firsts s m ++ r ≡ member_code firsts t n ++ q → CodedAlike firsts s t m n × (r ≡ q)
member_split firsts s t m n r q h =
    let a = bits_code m.bits ∷ get_or firsts (s + m.ty.0) 0 ∷ [] in
    let b = bits_code n.bits ∷ get_or firsts (t + n.ty.0) 0 ∷ [] in
    let whole : name_code m.name ++ (a ++ r) ≡ name_code n.name ++ (b ++ q) = sym (append_assoc (name_code m.name) a r) ∙ (h ∙ append_assoc (name_code n.name) b q) in
    let both = name_split m.name n.name (a ++ r) (b ++ q) whole in
    let rest : bits_code m.bits ∷ get_or firsts (s + m.ty.0) 0 ∷ r ≡ bits_code n.bits ∷ get_or firsts (t + n.ty.0) 0 ∷ q = both.1 in
    (record { name = both.0; bits = bits_same m.bits n.bits cc; first = cc }, cc)

member_some : (firsts : List ℕ) (s : ℕ) (m : MemberTerm) (r : List ℕ) → [] ≡ member_code firsts s m ++ r → ⊥
member_some firsts s m r h = here m.name h
  where
    here : (n : Option (List ℕ)) → [] ≡ (name_code n ++ bits_code m.bits ∷ get_or firsts (s + m.ty.0) 0 ∷ []) ++ r → ⊥
    here None e = cc
    here (Some n) e = cc

-- lists whose members are alike, in order
abbrev pub AllAlike : List ℕ → ℕ → ℕ → List MemberTerm → List MemberTerm → Type 0
AllAlike firsts s t [] [] = Unit {0}
AllAlike firsts s t (m ∷ ms) (n ∷ ns) = CodedAlike firsts s t m n × AllAlike firsts s t ms ns
AllAlike firsts s t ms ns = ⊥

pub alike_coded : (firsts : List ℕ) (s t : ℕ) (k l : List MemberTerm) → members_code firsts s k ≡ members_code firsts t l → AllAlike firsts s t k l
alike_coded firsts s t [] [] h = tt
alike_coded firsts s t [] (n ∷ ns) h = absurd (member_some firsts t n (members_code firsts t ns) h)
alike_coded firsts s t (m ∷ ms) [] h = absurd (member_some firsts s m (members_code firsts s ms) (sym h))
alike_coded firsts s t (m ∷ ms) (n ∷ ns) h =
    let both = member_split firsts s t m n (members_code firsts s ms) (members_code firsts t ns) h in
    (both.0, alike_coded firsts s t ms ns both.1)

code_alike : (firsts : List ℕ) (s t : ℕ) (m n : MemberTerm) → CodedAlike firsts s t m n → member_code firsts s m ≡ member_code firsts t n
code_alike firsts s t m n h =
    ap (λ x. name_code x ++ bits_code m.bits ∷ get_or firsts (s + m.ty.0) 0 ∷ []) h.name
    ∙ (ap (λ x. name_code n.name ++ bits_code x ∷ get_or firsts (s + m.ty.0) 0 ∷ []) h.bits ∙ ap (λ x. name_code n.name ++ bits_code n.bits ∷ x ∷ []) h.first)

pub coded_alike : (firsts : List ℕ) (s t : ℕ) (k l : List MemberTerm) → AllAlike firsts s t k l → members_code firsts s k ≡ members_code firsts t l
coded_alike firsts s t [] [] h = refl
coded_alike firsts s t [] (n ∷ ns) h = absurd h
coded_alike firsts s t (m ∷ ms) [] h = absurd h
coded_alike firsts s t (m ∷ ms) (n ∷ ns) h =
    ap (λ c. c ++ members_code firsts s ms) (code_alike firsts s t m n h.0) ∙ ap (λ c. member_code firsts t n ++ c) (coded_alike firsts s t ms ns h.1)

-- types are one exactly where the first of the same type is
pub first_if_same : (table : Table) (firsts : List ℕ) → AreFirstIds table firsts → (i j : ℕ) → i < length table.terms → j < length table.terms → type_of table i ≡ type_of table j → get_or firsts i 0 ≡ get_or firsts j 0
first_if_same table firsts are i j li lj e =
    let a = are.each i li in
    let b = are.each j lj in
    let fi = get_or firsts i 0 in
    let fj = get_or firsts j 0 in
    let not_below = a.least fj in
    let not_above = b.least fi in
    elim (cases_lt fi fj) [
      | inl lt ↦ absurd (not_above lt (a.same ∙ e))
      | inr ge ↦ elim (cases_lt fj fi) [
        | inl lt ↦ absurd (not_below lt (b.same ∙ sym e))
        | inr other ↦ omega arith
      ]
    ]

pub same_if_first : (table : Table) (firsts : List ℕ) → AreFirstIds table firsts → (i j : ℕ) → i < length table.terms → j < length table.terms → get_or firsts i 0 ≡ get_or firsts j 0 → type_of table i ≡ type_of table j
same_if_first table firsts are i j li lj e = sym (are.each i li).same ∙ (ap (type_of table) e ∙ (are.each j lj).same)
