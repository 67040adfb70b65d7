-- Initialisers that are put behind others.
use Rattle.std.proofs.Common.{arith, ◌≡◌, ◌<◌, ℕ, zero, suc, ◌+◌, List, [], ◌∷◌, ◌++◌, append_assoc, refl, ap, sym, ◌∙◌, subst, length, length-append, get_or, slice_get, Some, ◌⊎◌, inl, inr, Vec, Global}
use Rattle.c_types.specs.Table.{Table, type_of}
use Rattle.c_inits.specs.declared.cursor.Expression.{Expression}
use Rattle.c_initialise.specs.declared.c_braces.tree.InitNode.{InitNode}
use Rattle.c_initialise.specs.declared.c_braces.tree.InitNode.TheVariants.{Value as ValueNode, Braces as BracesNode}
use Rattle.c_initialise.specs.declared.c_braces.tree.InitEntry.{InitEntry}
use Rattle.c_inits.specs.Syntax.{Init, Value, Braces}
use Rattle.c_initialise.specs.c_braces.Tree.{no_init, items_over, init_over, inits_of, init_at, IsBefore, AreInits, ItemsBefore, Grows}
use Rattle.c_initialise.proofs.c_braces.Inits.{read_done, items_same, all_at, init_is}

list_long : (table : Table) (done : List Init) (nodes : List InitNode) → length (inits_of table done nodes) ≡ length done + length nodes
list_long table done [] = omega arith
list_long table done (n ∷ rest) =
    let next : length (inits_of table (done ++ init_over table (λ i. get_or done i no_init) n ∷ []) rest) ≡ length (done ++ init_over table (λ i. get_or done i no_init) n ∷ []) + length rest =
    list_long table (done ++ init_over table (λ i. get_or done i no_init) n ∷ []) rest in
    omega (arith, next, length-append done (init_over table (λ i. get_or done i no_init) n ∷ []))

in_two : (table : Table) (done : List Init) (xs ys : List InitNode) → inits_of table done (xs ++ ys) ≡ inits_of table (inits_of table done xs) ys
in_two table done [] ys = refl
in_two table done (x ∷ xs) ys = in_two table (done ++ init_over table (λ i. get_or done i no_init) x ∷ []) xs ys

-- what was there stays
pub kept : (table : Table) (old more : List InitNode) (i : ℕ) → i < length old → init_at table (old ++ more) i ≡ init_at table old i
unfolding init_at
kept table old more i lt =
    let long : length (inits_of table [] old) ≡ 0 + length old = list_long table [] old in
    ap (λ l. get_or l i no_init) (in_two table [] old more) ∙ read_done table (inits_of table [] old) more i (omega (arith, lt, long))

pub kept_in : (table : Table) (old new : List InitNode) (i : ℕ) → Grows table old new → i < length old → init_at table new i ≡ init_at table old i
kept_in table old new i g lt = ap (λ l. init_at table l i) g.behind ∙ kept table old g.more i lt

pub items_kept : (table : Table) (old new : List InitNode) (es : List InitEntry) → Grows table old new → ItemsBefore (length old) es → items_over (init_at table new) es ≡ items_over (init_at table old) es
items_kept table old new es g before =
    items_same (init_at table new) (init_at table old) (length old) es (λ j lt. kept_in table old new j g lt) (λ k e at. all_at (λ x. x.init < length old) es before k e at)

pub longer : (table : Table) (old new : List InitNode) (i : ℕ) → Grows table old new → i < length old → i < length new
longer table old new i g lt =
    let long : length new ≡ length (old ++ g.more) = ap length g.behind in
    omega (arith, lt, long, length-append old g.more)

append_none : {A : Type 0} (xs : List A) → xs ≡ xs ++ []
append_none [] = refl
append_none (x ∷ xs) = ap (λ l. x ∷ l) (append_none xs)

pub stays : (table : Table) (old : List InitNode) → AreInits table old → Grows table old old
stays table old all = record { more = []; behind = append_none old; inits = all }

pub grows_on : (table : Table) (a b c : List InitNode) → Grows table a b → Grows table b c → Grows table a c
grows_on table a b c g h = record { more = g.more ++ h.more; behind = h.behind ∙ ap (λ l. l ++ h.more) g.behind ∙ append_assoc a g.more h.more; inits = h.inits }

at_end : (xs : List InitNode) (n : InitNode) → slice_get (xs ++ n ∷ []) (length xs) ≡ Some n
at_end [] n = refl
at_end (x ∷ xs) n = at_end xs n

old_or_end : (xs : List InitNode) (n : InitNode) (i : ℕ) (m : InitNode) → slice_get (xs ++ n ∷ []) i ≡ Some m → (slice_get xs i ≡ Some m) ⊎ ((i ≡ length xs) × (n ≡ m))
old_or_end [] n zero m e = let same : n ≡ m = cc in inr (refl, same)
old_or_end [] n (suc i) m e = cc
old_or_end (x ∷ xs) n zero m e = inl e
old_or_end (x ∷ xs) n (suc i) m e = elim (old_or_end xs n i m e) [ inl h ↦ inl h | inr h ↦ inr (ap suc h.0, h.1) ]

pub pushed : (table : Table) (old : List InitNode) (n : InitNode) → AreInits table old → IsBefore table (length old) n → AreInits table (old ++ n ∷ [])
pushed table old n all b = record {
  each = λ i m e. elim (old_or_end old n i m e) [ inl h ↦ all.each i m h | inr h ↦ subst (λ (x : InitNode). IsBefore table i x) h.1 (subst (λ k. IsBefore table k n) (sym h.0) b) ];
}

pub push_grows : (table : Table) (old new : List InitNode) (n : InitNode) → new ≡ old ++ n ∷ [] → AreInits table old → IsBefore table (length old) n → Grows table old new
push_grows table old new n e all b = record { more = n ∷ []; behind = e; inits = subst (AreInits table) (sym e) (pushed table old n all b) }

pub push_below : (old new : List InitNode) (n : InitNode) (at : ℕ) → new ≡ old ++ n ∷ [] → at ≡ length old → at < length new
push_below old new n at e h =
    let long : length new ≡ length (old ++ n ∷ []) = ap length e in
    omega (arith, h, long, length-append old (n ∷ []))

-- the last one
push_is : (table : Table) (old new : List InitNode) (n : InitNode) (at : ℕ) → new ≡ old ++ n ∷ [] → at ≡ length old → AreInits table old → IsBefore table (length old) n → init_at table new at ≡ init_over table (init_at table new) n
push_is table old new n at e h all b =
    let there : slice_get new at ≡ Some n = ap (λ l. slice_get l at) e ∙ ap (slice_get (old ++ n ∷ [])) h ∙ at_end old n in
    init_is table new at n (push_grows table old new n e all b).inits there

pub value_pushed : (table : Table) (old new : List InitNode) (node : ℕ) (value : Expression) (at : ℕ) → new ≡ old ++ ValueNode node value ∷ [] → at ≡ length old → AreInits table old → value.ty.0 < length table.terms →
    init_at table new at ≡ Value node (type_of table value.ty.0) value.text
value_pushed table old new node value at e h all b = push_is table old new (ValueNode node value) at e h all b

pub braces_pushed : (table : Table) (old new : List InitNode) (node : ℕ) (items : Vec InitEntry Global) (at : ℕ) → new ≡ old ++ BracesNode node items ∷ [] → at ≡ length old → AreInits table old → ItemsBefore (length old) items.items →
    init_at table new at ≡ Braces node (items_over (init_at table old) items.items)
braces_pushed table old new node items at e h all b =
    push_is table old new (BracesNode node items) at e h all b
    ∙ ap (λ l. Braces node l) (items_kept table old new items.items (push_grows table old new (BracesNode node items) e all b) b)
