-- Lists of arguments and of initial values, one element further on.
use Rattle.std.proofs.Common.{arith, ◌≡◌, ℕ, ◌+◌, ◌-◌, ◌<◌, ◌≤◌, ◌↔◌, List, [], ◌∷◌, Option, Some, length, get_or, take, drop, refl, sym, ap, subst, take_all}
use Rattle.std.proofs.lemmas.List.{at_drop_more}
use Rattle.c_types.specs.Trees.{Ctype, Ctypes, MoreTypes, tree_at, trees_at}
use Rattle.c_types.specs.Paths.{type_at_path}
use Rattle.c_types.specs.declared.term.Form.{Form}
use Rattle.c_types.specs.declared.term.Form.TheVariants.{Fixed, Variadic, Unspecified}
use Rattle.c_types.specs.declared.term.TypeId.{TypeId}
use Rattle.c_types.specs.declared.term.PathStep.{PathStep}
use Rattle.core_tree.specs.Typed.{CoreTrees, IsValue, sort_at, type_at, ValueNode}
use Rattle.core_tree.specs.Rows.{Arguments, InitialValues}

-- a list that isn't empty is its first element and what stands past it
pub first_and_rest : (xs : List ℕ) (e : ℕ) → 1 ≤ length xs → xs ≡ get_or xs 0 e ∷ take (length xs - 1) (drop 1 xs)
first_and_rest [] e h = absurd (omega arith)
first_and_rest (x ∷ xs) e h = ap (λ (rest : List ℕ). x ∷ rest) (sym (take_all (length (x ∷ xs) - 1) xs (omega arith)))

next_types : (trees : List Ctype) (ps : List TypeId) (i : ℕ) (d : TypeId) → i < length ps → trees_at trees (drop i ps) ≡ MoreTypes (tree_at trees (get_or ps i d).0) (trees_at trees (drop (i + 1) ps))
next_types trees ps i d h = at_drop_more (λ (rest : List TypeId). trees_at trees rest) ps i d h

-- an argument of its type leaves the rest to be told
taken : (u : CoreTrees) (t : Ctype) (rest : Ctypes) (f : Form) (a : ℕ) (more : List ℕ) → (f ≡ Unspecified → ⊥) → IsValue u a t → Arguments u (MoreTypes t rest) f (a ∷ more) ↔ Arguments u rest f more
taken u t rest Fixed a more told v = (λ h. h.1, λ h. (v, h))
taken u t rest Variadic a more told v = (λ h. h.1, λ h. (v, h))
taken u t rest Unspecified a more told v = absurd (told refl)

pub next_argument : (u : CoreTrees) (trees : List Ctype) (ps : List TypeId) (i : ℕ) (d : TypeId) (f : Form) (args : List ℕ) (e : ℕ) → i < length ps → 1 ≤ length args → (f ≡ Unspecified → ⊥) × IsValue u (get_or args 0 e) (tree_at trees (get_or ps i d).0) → Arguments u (trees_at trees (drop i ps)) f args ↔ Arguments u (trees_at trees (drop (i + 1) ps)) f (take (length args - 1) (drop 1 args))
next_argument u trees ps i d f args e h many v =
    let rest = trees_at trees (drop (i + 1) ps) in
    let more = take (length args - 1) (drop 1 args) in
    let first = taken u (tree_at trees (get_or ps i d).0) rest f (get_or args 0 e) more v.0 v.1 in
    let second = subst (λ (list : List ℕ). Arguments u (MoreTypes (tree_at trees (get_or ps i d).0) rest) f list ↔ Arguments u rest f more) (sym (first_and_rest args e many)) first in
    subst (λ (ts : Ctypes). Arguments u ts f args ↔ Arguments u rest f more) (sym (next_types trees ps i d h)) second

none_left : (u : CoreTrees) (t : Ctype) (rest : Ctypes) (f : Form) → Arguments u (MoreTypes t rest) f [] → ⊥
none_left u t rest Fixed h = h
none_left u t rest Variadic h = h
none_left u t rest Unspecified h = h

-- a list that ends before its parameters do has too few
pub lacks_argument : (u : CoreTrees) (trees : List Ctype) (ps : List TypeId) (i : ℕ) (f : Form) (args : List ℕ) → i < length ps → length args < 1 → Arguments u (trees_at trees (drop i ps)) f args → ⊥
lacks_argument u trees ps i f (x ∷ xs) h none there = absurd (omega arith)
lacks_argument u trees (p ∷ ps) i f [] h none there =
    let d = p in
    none_left u (tree_at trees (get_or (p ∷ ps) i d).0) (trees_at trees (drop (i + 1) (p ∷ ps))) f (subst (λ (ts : Ctypes). Arguments u ts f []) (next_types trees (p ∷ ps) i d h) there)
lacks_argument u trees [] i f [] h none there = absurd (omega arith)

-- a value of the type at its path
abbrev pub IsValueAt : CoreTrees → Option Ctype → List PathStep → ℕ → Type 0
IsValueAt u t path v = (sort_at u v ≡ ValueNode) × (type_at_path u.types t path ≡ Some (type_at u v))

path_ahead : (paths : List (List PathStep)) (i : ℕ) (d : List PathStep) → i < length paths → drop i paths ≡ get_or paths i d ∷ drop (i + 1) paths
path_ahead paths i d h = at_drop_more (λ (list : List (List PathStep)). list) paths i d h

-- a value at its path leaves the rest to be told
pub next_value : (u : CoreTrees) (t : Option Ctype) (paths : List (List PathStep)) (i : ℕ) (d : List PathStep) (values : List ℕ) (e : ℕ) → i < length paths → 1 ≤ length values → IsValueAt u t (get_or paths i d) (get_or values 0 e) → InitialValues u t (drop i paths) values ↔ InitialValues u t (drop (i + 1) paths) (take (length values - 1) (drop 1 values))
next_value u t paths i d values e h many v =
    let rest = drop (i + 1) paths in
    let more = take (length values - 1) (drop 1 values) in
    let first : InitialValues u t (get_or paths i d ∷ rest) (get_or values 0 e ∷ more) ↔ InitialValues u t rest more = (λ k. k.2, λ k. (v.0, v.1, k)) in
    let second = subst (λ (list : List ℕ). InitialValues u t (get_or paths i d ∷ rest) list ↔ InitialValues u t rest more) (sym (first_and_rest values e many)) first in
    subst (λ (list : List (List PathStep)). InitialValues u t list values ↔ InitialValues u t rest more) (sym (path_ahead paths i d h)) second
