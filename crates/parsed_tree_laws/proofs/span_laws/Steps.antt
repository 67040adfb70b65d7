-- Nodes that are read one after another.
use Rattle.std.proofs.Common.{◌≤◌, ◌≡◌, ℕ, zero, suc, nat_eq, ◌||◌, true, false, List, [], ◌∷◌, ◌++◌, Some, length, slice_get, refl, sym, ap, ◌∙◌, subst, append_assoc, append-nil, ◌⊎◌, inl, inr}
use Rattle.std.specs.Prelude.{⊤}
use Rattle.c_grammar.specs.Terminals.{contains}
use Rattle.c_grammar.specs.Tree.{makes_node}
use Rattle.c_grammar.specs.Reads.{Node, leaf}
use Rattle.parsed_tree_laws.proofs.span_laws.Table.{ok, none_post, bringing, beginning, rest_rows, all_rest, lists_in}

abbrev pub Extends : List Node → List Node → Type 0
Extends before nodes = (more : List Node) × (nodes ≡ before ++ more)

pub same : (nodes : List Node) → Extends nodes nodes
same nodes = ([], sym (append-nil nodes))

pub then : (a b c : List Node) → Extends a b → Extends b c → Extends a c
then a b c x y = (x.0 ++ y.0, y.1 ∙ (ap (λ (l : List Node). l ++ y.0) x.1 ∙ append_assoc a x.0 y.0))

there_on : (a more : List Node) (i : ℕ) (m : Node) → slice_get a i ≡ Some m → slice_get (a ++ more) i ≡ Some m
there_on [] more i m e = cc
there_on (x ∷ a) more zero m e = e
there_on (x ∷ a) more (suc i) m e = there_on a more i m e

pub there : (a b : List Node) → Extends a b → (i : ℕ) (m : Node) → slice_get a i ≡ Some m → slice_get b i ≡ Some m
there a b x i m e = subst (λ (l : List Node). slice_get l i ≡ Some m) (sym x.1) (there_on a x.0 i m e)

pub more_length : (nodes : List Node) (n : Node) → length (nodes ++ n ∷ []) ≡ suc (length nodes)
more_length [] n = refl
more_length (m ∷ nodes) n = ap suc (more_length nodes n)

pub last_there : (nodes : List Node) (n : Node) → slice_get (nodes ++ n ∷ []) (length nodes) ≡ Some n
last_there [] n = refl
last_there (m ∷ nodes) n = last_there nodes n

or_last : (nodes : List Node) (n m : Node) (i : ℕ) → slice_get (nodes ++ n ∷ []) i ≡ Some m → (slice_get nodes i ≡ Some m) ⊎ ((i ≡ length nodes) × (n ≡ m))
or_last [] n m zero e = inr (refl, cc)
or_last [] n m (suc i) e = cc
or_last (x ∷ nodes) n m zero e = inl e
or_last (x ∷ nodes) n m (suc i) e = by (or_last nodes n m i e)
  where
    by : (slice_get nodes i ≡ Some m) ⊎ ((i ≡ length nodes) × (n ≡ m)) → (slice_get nodes i ≡ Some m) ⊎ ((suc i ≡ suc (length nodes)) × (n ≡ m))
    by (inl h) = inl h
    by (inr h) = inr (ap suc h.0, h.1)

-- a node and all under it
mutual
  pub data SpansIn (nodes : List Node) : ℕ → ℕ → Type 0 where
    over : {low i : ℕ} {m : Node} → slice_get nodes i ≡ Some m → RunsIn nodes low m.children i → SpansIn nodes low i

  pub data RunsIn (nodes : List Node) : ℕ → List ℕ → ℕ → Type 0 where
    no_more : {low : ℕ} → RunsIn nodes low [] low
    one_more : {low c high : ℕ} {rest : List ℕ} → SpansIn nodes low c → RunsIn nodes (suc c) rest high → RunsIn nodes low (c ∷ rest) high

module _ (a b : List Node) (x : Extends a b) where
  mutual
    pub spans_on : (low i : ℕ) → SpansIn a low i → SpansIn b low i
    spans_on low i (over {m = m} e runs) = over {m = m} (there a b x i m e) (runs_on low m.children i runs)

    pub runs_on : (low : ℕ) (list : List ℕ) (high : ℕ) → RunsIn a low list high → RunsIn b low list high
    runs_on low list high no_more = no_more
    runs_on low list high (one_more {c = c} {rest = rest} s r) = one_more (spans_on low c s) (runs_on (suc c) rest high r)

pub runs_both : (nodes : List Node) (low mid high : ℕ) (xs ys : List ℕ) → RunsIn nodes low xs mid → RunsIn nodes mid ys high → RunsIn nodes low (xs ++ ys) high
runs_both nodes low mid high xs ys no_more r = r
runs_both nodes low mid high xs ys (one_more {c = c} {rest = rest} s q) r = one_more s (runs_both nodes (suc c) mid high rest ys q r)

-- nodes of those productions
abbrev pub IsOf : List Node → ℕ → ℕ → Type 0
IsOf nodes c p = (m : Node) × (slice_get nodes c ≡ Some m) × (m.production ≡ p)

abbrev pub Are : List Node → List ℕ → List ℕ → Type 0
Are nodes [] [] = ⊤
Are nodes (c ∷ xs) (p ∷ ps) = IsOf nodes c p × Are nodes xs ps
Are nodes xs ps = ⊥

pub are_on : (a b : List Node) → Extends a b → (xs ps : List ℕ) → Are a xs ps → Are b xs ps
are_on a b x [] [] h = tt
are_on a b x (c ∷ xs) (p ∷ ps) h = ((h.0.0, there a b x c h.0.0 h.0.1, h.0.2), are_on a b x xs ps h.1)
are_on a b x [] (p ∷ ps) h = absurd h
are_on a b x (c ∷ xs) [] h = absurd h

pub are_both : (nodes : List Node) (xs ps ys qs : List ℕ) → Are nodes xs ps → Are nodes ys qs → Are nodes (xs ++ ys) (ps ++ qs)
are_both nodes [] [] ys qs h k = k
are_both nodes (c ∷ xs) (p ∷ ps) ys qs h k = (h.0, are_both nodes xs ps ys qs h.1 k)
are_both nodes [] (p ∷ ps) ys qs h k = absurd h
are_both nodes (c ∷ xs) [] ys qs h k = absurd h

abbrev pub Starts : List ℕ → Type 0
Starts ps = (more : List ℕ) × (ps ≡ leaf ∷ more)

-- what is known of a node
pub record FactOf (nodes : List Node) (i : ℕ) (m : Node) : Type 0 where
  pub low : ℕ
  pub runs : RunsIn nodes low m.children i
  pub ps : List ℕ
  pub are : Are nodes m.children ps
  pub posts : ok 0 ps ≡ true
  pub none_in : contains bringing m.production ≡ false → none_post ps ≡ true
  pub starts : contains beginning m.production ≡ true → Starts ps
  pub node : (nat_eq m.production leaf || makes_node m.production) ≡ true
  pub childless : nat_eq m.production leaf ≡ true → m.children ≡ []
  pub rests : contains rest_rows m.production ≡ true → all_rest ps ≡ true
  pub lists : lists_in ps ≤ 1

abbrev pub AllFacts : List Node → Type 0
AllFacts nodes = (i : ℕ) (m : Node) → slice_get nodes i ≡ Some m → FactOf nodes i m

fact_on : (a b : List Node) → Extends a b → (i : ℕ) (m : Node) → FactOf a i m → FactOf b i m
fact_on a b x i m f = record {
  low = f.low;
  runs = runs_on a b x f.low m.children i f.runs;
  ps = f.ps;
  are = are_on a b x m.children f.ps f.are;
  posts = f.posts;
  none_in = f.none_in;
  starts = f.starts;
  node = f.node;
  childless = f.childless;
  rests = f.rests;
  lists = f.lists;
}

pub facts_more : (nodes : List Node) (n : Node) → AllFacts nodes → FactOf (nodes ++ n ∷ []) (length nodes) n → AllFacts (nodes ++ n ∷ [])
facts_more nodes n all f i m e = by (or_last nodes n m i e)
  where
    by : (slice_get nodes i ≡ Some m) ⊎ ((i ≡ length nodes) × (n ≡ m)) → FactOf (nodes ++ n ∷ []) i m
    by (inl h) = fact_on nodes (nodes ++ n ∷ []) (n ∷ [], refl) i m (all i m h)
    by (inr h) = subst (λ (j : ℕ). FactOf (nodes ++ n ∷ []) j m) (sym h.0) (subst (λ (q : Node). FactOf (nodes ++ n ∷ []) (length nodes) q) h.1 f)

-- what a reading leaves of nodes and children, which have those productions
pub record Keeps (a b : List Node) (x y ps : List ℕ) : Type 0 where
  pub more : List ℕ
  pub appends : y ≡ x ++ more
  pub extends : Extends a b
  pub runs : RunsIn b (length a) more (length b)
  pub are : Are b more ps
  pub facts : AllFacts a → AllFacts b

pub keeps_same : (a : List Node) (x : List ℕ) → Keeps a a x x []
keeps_same a x = record { more = []; appends = sym (append-nil x); extends = same a; runs = no_more; are = tt; facts = λ f. f }

pub keeps_then : (a b c : List Node) (x y z ps qs : List ℕ) → Keeps a b x y ps → Keeps b c y z qs → Keeps a c x z (ps ++ qs)
keeps_then a b c x y z ps qs k m = record {
  more = k.more ++ m.more;
  appends = m.appends ∙ (ap (λ (l : List ℕ). l ++ m.more) k.appends ∙ append_assoc x k.more m.more);
  extends = then a b c k.extends m.extends;
  runs = runs_both c (length a) (length b) (length c) k.more m.more (runs_on b c m.extends (length a) k.more (length b) k.runs) m.runs;
  are = are_both c k.more ps m.more qs (are_on b c m.extends k.more ps k.are) m.are;
  facts = λ f. m.facts (k.facts f);
}

-- a node over those that were read before it
pub keeps_node : (n : Node) (a b : List Node) (x more ps : List ℕ) → Extends a b → RunsIn b (length a) n.children (length b) → Are b n.children ps → ok 0 ps ≡ true
    → (contains bringing n.production ≡ false → none_post ps ≡ true) → (contains beginning n.production ≡ true → Starts ps) → (nat_eq n.production leaf || makes_node n.production) ≡ true → (nat_eq n.production leaf ≡ true → n.children ≡ []) → (contains rest_rows n.production ≡ true → all_rest ps ≡ true) → lists_in ps ≤ 1 → (AllFacts a → AllFacts b) → Keeps a (b ++ n ∷ []) x (x ++ length b ∷ []) (n.production ∷ [])
keeps_node n a b x more ps ext runs are good no_post starting node bare rest one facts =
    let new : List Node = b ++ n ∷ [] in
    let on : Extends b new = (n ∷ [], refl) in
    let runs1 = runs_on b new on (length a) n.children (length b) runs in
    record {
      more = length b ∷ [];
      appends = refl;
      extends = then a b new ext on;
      runs = one_more (over {m = n} (last_there b n) runs1) (subst (λ (k : ℕ). RunsIn new (suc (length b)) [] k) (sym (more_length b n)) no_more);
      are = ((n, last_there b n, refl), tt);
      facts = λ f. facts_more b n (facts f) (record { low = length a; runs = runs1; ps = ps; are = are_on b new on n.children ps are; posts = good; none_in = no_post; starts = starting; node = node; childless = bare; rests = rest; lists = one });
    }
