-- A for over what has been made for its parts.
use Rattle.std.proofs.Common.{arith, ◌≡◌, ℕ, zero, suc, ◌<◌, ◌≤◌, ◌+◌, ◌-◌, eqb, take, Bool, true, false, cond, List, [], ◌∷◌, ◌++◌, Option, Some, None, is_some, Result, Ok, Err, All, IfSome, length, map, drop, get_or, slice_get, refl, sym, ap, ◌∙◌, subst}
use Rattle.std.proofs.lemmas.List.Elements.{All-append, All-nil, All-head, All-tail, All-weaker}
use Rattle.pta_base.specs.declared.place.Place.{Place}
use Rattle.core_tree.specs.declared.node.NodeKind.{NodeKind}
use Rattle.core_tree.specs.declared.node.Unit.{Unit}
use Rattle.c_consts.specs.Core.{Core, Cores, NoCores, MoreCores}
use Rattle.c_senses.specs.Given.{Given, Fits, ◌>>=◌}
use Rattle.c_senses.specs.Statements.{appended, with_some, one, statement, for_first, expression_statement, ForParts, for_parts, behind_semicolon, expression_before}
use Rattle.core_nodes.specs.declared.fault.CheckFault.{CheckFault}
use Rattle.core_nodes.specs.declared.fault.CheckFault.TheVariants.{BadOperand, Unsupported, OutOfMemory}
use Rattle.core_nodes.specs.Standing.{core_at, cores_at, Builds, Made}
use Rattle.core_nodes.proofs.Failing.{fails}
use Rattle.core_tree.specs.declared.node.NodeKind.TheVariants.{For}
use Rattle.c_grammar.specs.Productions.{p_declaration}
use Rattle.std.specs.Prelude.{IfOk, IsOkUnless}
use Rattle.std.proofs.lemmas.List.{drop_more, take_rest}
use Rattle.c_senses.specs.Tree.{Source, is_a, has_sign}
use Rattle.c_statements.proofs.Gathering.{drop_past}
use Rattle.c_senses.specs.World.{World}
use Rattle.c_senses.specs.Sense.{Sense, IsRun, sense_in}
use Rattle.c_results.specs.declared.made.Made.{Made as Result_of}
use Rattle.c_results.specs.Standing.{senses_made, sense_read, IsWithin}
use Rattle.c_statements.specs.Others.{OtherMade}
use Rattle.c_results.specs.declared.made.Made.TheVariants as made
use Rattle.c_statements.proofs.Brought.{sense_at}
use Rattle.c_statements.specs.Fors.{RunMade, some_nodes, run_of_made, run_made}

-- the tree of a node, if there is one
abbrev pub some_core : Unit → Option ℕ → Option Core
some_core u None = None
some_core u (Some i) = Some (core_at u i)

pub other_fits : (u : Unit) (o : Option ℕ) (g : Given (Option Core)) → OtherMade u (Ok o) g → g ≡ Fits (some_core u o)
other_fits u None g m = m
other_fits u (Some i) g m = m

abbrev pub tree_of : (Option Core → Option Core → NodeKind) → Place → List Core → Option Core → Option Core → Core → Core
tree_of kind q x y z t = statement (kind y z) q (appended x (with_some y (with_some z (one t))))

abbrev pub chain : (Option Core → Option Core → NodeKind) → Place → Given (List Core) → Given (Option Core) → Given (Option Core) → Given Core → Given Core
chain kind q g h k b = g >>= (λ x. h >>= (λ y. k >>= (λ z. b >>= (λ t. Fits (tree_of kind q x y z t)))))

module _ (kind : Option Core → Option Core → NodeKind) (q : Place) (g : Given (List Core)) (h k : Given (Option Core)) (b : Given Core) where
  to_second : (x : List Core) → g ≡ Fits x → chain kind q g h k b ≡ (h >>= (λ y. k >>= (λ z. b >>= (λ t. Fits (tree_of kind q x y z t)))))
  to_second x e = ap (λ (c : Given (List Core)). chain kind q c h k b) e

  to_third : (x : List Core) (y : Option Core) → g ≡ Fits x → h ≡ Fits y → chain kind q g h k b ≡ (k >>= (λ z. b >>= (λ t. Fits (tree_of kind q x y z t))))
  to_third x y e f = to_second x e ∙ ap (λ (c : Given (Option Core)). c >>= (λ y. k >>= (λ z. b >>= (λ t. Fits (tree_of kind q x y z t))))) f

  to_last : (x : List Core) (y z : Option Core) → g ≡ Fits x → h ≡ Fits y → k ≡ Fits z → chain kind q g h k b ≡ (b >>= (λ t. Fits (tree_of kind q x y z t)))
  to_last x y z e f i = to_third x y e f ∙ ap (λ (c : Given (Option Core)). c >>= (λ z. b >>= (λ t. Fits (tree_of kind q x y z t)))) i

  pub first_fails : (u v : Unit) (e : CheckFault) → RunMade u (Err e) g → Made v (Err e) (chain kind q g h k b)
  first_fails u v (BadOperand node) m = ap (λ (c : Given (List Core)). chain kind q c h k b) m
  first_fails u v (Unsupported reason node) m = ap (λ (c : Given (List Core)). chain kind q c h k b) m
  first_fails u v OutOfMemory m = tt

  pub second_fails : (u v : Unit) (e : CheckFault) (x : List Core) → g ≡ Fits x → OtherMade u (Err e) h → Made v (Err e) (chain kind q g h k b)
  second_fails u v (BadOperand node) x eg m = to_second x eg ∙ ap (λ (c : Given (Option Core)). c >>= (λ y. k >>= (λ z. b >>= (λ t. Fits (tree_of kind q x y z t))))) m
  second_fails u v (Unsupported reason node) x eg m = to_second x eg ∙ ap (λ (c : Given (Option Core)). c >>= (λ y. k >>= (λ z. b >>= (λ t. Fits (tree_of kind q x y z t))))) m
  second_fails u v OutOfMemory x eg m = tt

  pub third_fails : (u v : Unit) (e : CheckFault) (x : List Core) (y : Option Core) → g ≡ Fits x → h ≡ Fits y → OtherMade u (Err e) k → Made v (Err e) (chain kind q g h k b)
  third_fails u v (BadOperand node) x y eg eh m = to_third x y eg eh ∙ ap (λ (c : Given (Option Core)). c >>= (λ z. b >>= (λ t. Fits (tree_of kind q x y z t)))) m
  third_fails u v (Unsupported reason node) x y eg eh m = to_third x y eg eh ∙ ap (λ (c : Given (Option Core)). c >>= (λ z. b >>= (λ t. Fits (tree_of kind q x y z t)))) m
  third_fails u v OutOfMemory x y eg eh m = tt

  pub last_fails : (u v : Unit) (e : CheckFault) (x : List Core) (y z : Option Core) → g ≡ Fits x → h ≡ Fits y → k ≡ Fits z → Made u (Err e) b → Made v (Err e) (chain kind q g h k b)
  last_fails u v e x y z eg eh ek m =
      subst (λ (c : Given Core). Made v (Err e) c) (sym (to_last x y z eg eh ek)) (fails u v e b (λ t. Fits (tree_of kind q x y z t)) m)

  pub all_fit : (u v : Unit) (r : Result ℕ CheckFault) (x : List Core) (y z : Option Core) (t : Core) → g ≡ Fits x → h ≡ Fits y → k ≡ Fits z → b ≡ Fits t → Made v r (Fits (tree_of kind q x y z t)) → Made v r (chain kind q g h k b)
  all_fit u v r x y z t eg eh ek eb m =
      subst (λ (c : Given Core). Made v r c) (sym (to_last x y z eg eh ek ∙ ap (λ (c : Given Core). c >>= (λ t. Fits (tree_of kind q x y z t))) eb)) m

-- the trees of the parts in the unit at the end
run_on : (old new : Unit) → Builds old new → (nodes : List ℕ) (rest : Cores) (more : List ℕ) → All (λ i. i < length old.nodes.items) nodes → cores_at new more ≡ rest → cores_at new (nodes ++ more) ≡ appended (map (core_at old) nodes) rest
run_on old new b [] rest more all e = e
run_on old new b (i ∷ nodes) rest more all e =
    let tail = run_on old new b nodes rest more (All-tail (λ (j : ℕ). j < length old.nodes.items) i nodes all) e in
    let here = b.cores i (All-head (λ (j : ℕ). j < length old.nodes.items) i nodes all) in
    ap (λ (c : Core). MoreCores c (cores_at new (nodes ++ more))) here ∙ ap (λ (cs : Cores). MoreCores (core_at old i) cs) tail

some_on : (old new : Unit) → Builds old new → (o : Option ℕ) (rest : Cores) (more : List ℕ) → IfSome o (λ i. i < length old.nodes.items) → cores_at new more ≡ rest → cores_at new (some_nodes o ++ more) ≡ with_some (some_core old o) rest
some_on old new b None rest more h e = e
some_on old new b (Some i) rest more h e = ap (λ (c : Core). MoreCores c (cores_at new more)) (b.cores i h) ∙ ap (λ (cs : Cores). MoreCores (core_at old i) cs) e

pub parts_on : (u1 u2 u3 new : Unit) → Builds u1 new → Builds u2 new → Builds u3 new → (first : List ℕ) (condition after : Option ℕ) (body : ℕ)
    → All (λ i. i < length u1.nodes.items) first → IfSome condition (λ i. i < length u2.nodes.items) → IfSome after (λ i. i < length u3.nodes.items) → body < length u3.nodes.items
    → cores_at new (first ++ (some_nodes condition ++ (some_nodes after ++ body ∷ []))) ≡ appended (map (core_at u1) first) (with_some (some_core u2 condition) (with_some (some_core u3 after) (one (core_at u3 body))))
parts_on u1 u2 u3 new b1 b2 b3 first condition after body h1 h2 h3 h4 =
    let last : cores_at new (body ∷ []) ≡ one (core_at u3 body) = ap (λ (c : Core). MoreCores c NoCores) (b3.cores body h4) in
    run_on u1 new b1 first _ _ h1 (some_on u2 new b2 condition _ _ h2 (some_on u3 new b3 after _ _ h3 last))

-- they are the unit's
one_within : (i n : ℕ) → i < n → All (λ j. j < n) (i ∷ [])
one_within i n h = λ k d l. subst (λ (x : ℕ). x < n) (get_first i k d l) h
  where
    get_first : (i k d : ℕ) → k < 1 → i ≡ get_or (i ∷ []) k d
    get_first i zero d l = refl
    get_first i (suc k) d l = absurd (omega (arith, l))

some_within : (o : Option ℕ) (m n : ℕ) → m ≤ n → IfSome o (λ i. i < m) → All (λ i. i < n) (some_nodes o)
some_within None m n l h = All-nil (λ (i : ℕ). i < n)
some_within (Some i) m n l h = one_within i n (omega (arith, l, h))

pub parts_within : (n1 n2 n3 n : ℕ) (first : List ℕ) (condition after : Option ℕ) (body : ℕ) → n1 ≤ n → n2 ≤ n → n3 ≤ n → All (λ i. i < n1) first → IfSome condition (λ i. i < n2) → IfSome after (λ i. i < n3) → body < n3 → All (λ i. i < n) (first ++ (some_nodes condition ++ (some_nodes after ++ body ∷ [])))
parts_within n1 n2 n3 n first condition after body l1 l2 l3 h1 h2 h3 h4 =
    All-append (λ (i : ℕ). i < n) first _ (All-weaker (λ (i : ℕ). i < n1) (λ (i : ℕ). i < n) (λ i l. omega (arith, l1, l)) first h1)
    (All-append (λ (i : ℕ). i < n) (some_nodes condition) _ (some_within condition n2 n l2 h2)
    (All-append (λ (i : ℕ). i < n) (some_nodes after) (body ∷ []) (some_within after n3 n l3 h3) (one_within body n (omega (arith, l3, h4)))))

pub some_same : (u : Unit) (o : Option ℕ) → is_some o ≡ is_some (some_core u o)
some_same u None = refl
some_same u (Some i) = refl

pub kind_same : (a b : List ℕ) (x y z t : Bool) → a ≡ b → x ≡ y → z ≡ t → For a x z ≡ For b y t
kind_same a b x y z t e f g = ap (λ (l : List ℕ). For l x z) e ∙ (ap (λ (c : Bool). For b c z) f ∙ ap (λ (c : Bool). For b y c) g)

-- what stands behind a semicolon
behind_step : (w : World) (s : Source) (sense : ℕ → Sense) (list : List ℕ) (i : ℕ) → i < length list → behind_semicolon w s sense (drop i list) ≡ behind_semicolon w s sense list
    → cond (has_sign s 32 (get_or list i 0)) (drop (i + 1) list) (behind_semicolon w s sense (drop (i + 1) list)) ≡ behind_semicolon w s sense list
behind_step w s sense list i h so_far = sym (ap (behind_semicolon w s sense) (drop_more list i 0 h)) ∙ so_far

pub behind_here : (w : World) (s : Source) (sense : ℕ → Sense) (list : List ℕ) (i : ℕ) → i < length list → behind_semicolon w s sense (drop i list) ≡ behind_semicolon w s sense list
    → true ≡ has_sign s 32 (get_or list i 0) → take (length list - (i + 1)) (drop (i + 1) list) ≡ behind_semicolon w s sense list
behind_here w s sense list i h so_far e =
    take_rest list (i + 1)
    ∙ (ap (λ (b : Bool). cond b (drop (i + 1) list) (behind_semicolon w s sense (drop (i + 1) list))) e ∙ behind_step w s sense list i h so_far)

pub behind_on : (w : World) (s : Source) (sense : ℕ → Sense) (list : List ℕ) (i : ℕ) → i < length list → behind_semicolon w s sense (drop i list) ≡ behind_semicolon w s sense list
    → false ≡ has_sign s 32 (get_or list i 0) → behind_semicolon w s sense (drop (i + 1) list) ≡ behind_semicolon w s sense list
behind_on w s sense list i h so_far e =
    ap (λ (b : Bool). cond b (drop (i + 1) list) (behind_semicolon w s sense (drop (i + 1) list))) e ∙ behind_step w s sense list i h so_far

pub behind_end : (w : World) (s : Source) (sense : ℕ → Sense) (list : List ℕ) (i : ℕ) → length list ≤ i → behind_semicolon w s sense (drop i list) ≡ behind_semicolon w s sense list
    → take (length list - length list) (drop (length list) list) ≡ behind_semicolon w s sense list
behind_end w s sense list i h so_far =
    let same : length list ≤ length list = omega arith in
    take_rest list (length list) ∙ (drop_past list (length list) same ∙ (sym (ap (behind_semicolon w s sense) (drop_past list i h)) ∙ so_far))

parts_same : (f g a b x y : Option ℕ) → f ≡ g → a ≡ b → x ≡ y → ◌≡◌ {A = ForParts} (record { first = f; condition = a; after = x }) (record { first = g; condition = b; after = y })
parts_same f g a b x y e h i =
    ap (λ (o : Option ℕ). record { first = o; condition = a; after = x }) e
    ∙ (ap (λ (o : Option ℕ). record { first = g; condition = o; after = x }) h ∙ ap (λ (o : Option ℕ). record { first = g; condition = b; after = o }) i)

-- the parts of a for whose list isn't empty
pub begins_declared : (w : World) (s : Source) (sense : ℕ → Sense) (list : List ℕ) (a b : Option ℕ) → eqb (length list) 0 ≡ false → true ≡ is_a s p_declaration (get_or list 0 0)
    → a ≡ expression_before w s sense (take (length list - 1) (drop 1 list)) → b ≡ expression_before w s sense (behind_semicolon w s sense (take (length list - 1) (drop 1 list)))
    → record { first = Some (get_or list 0 0); condition = a; after = b } ≡ for_parts w s sense list
begins_declared w s sense [] a b e d f g = absurd (cc)
begins_declared w s sense (c ∷ rest) a b e d f g =
    let all : take (length (c ∷ rest) - 1) (drop 1 (c ∷ rest)) ≡ rest = take_rest (c ∷ rest) 1 in
    let a_is : a ≡ expression_before w s sense rest = f ∙ ap (expression_before w s sense) all in
    let b_is : b ≡ expression_before w s sense (behind_semicolon w s sense rest) = g ∙ ap (λ (l : List ℕ). expression_before w s sense (behind_semicolon w s sense l)) all in
    let declared : ForParts = record { first = Some c; condition = expression_before w s sense rest; after = expression_before w s sense (behind_semicolon w s sense rest) } in
    let behind : List ℕ = behind_semicolon w s sense (c ∷ rest) in
    let other : ForParts = record { first = expression_before w s sense (c ∷ rest); condition = expression_before w s sense behind; after = expression_before w s sense (behind_semicolon w s sense behind) } in
    let same : ◌≡◌ {A = ForParts} (record { first = Some c; condition = a; after = b }) declared = parts_same (Some c) (Some c) a (expression_before w s sense rest) b (expression_before w s sense (behind_semicolon w s sense rest)) refl a_is b_is in
    same ∙ ap (λ (t : Bool). cond t declared other) d

pub begins_otherwise : (w : World) (s : Source) (sense : ℕ → Sense) (list : List ℕ) (rest : List ℕ) (f a b : Option ℕ) → eqb (length list) 0 ≡ false → false ≡ is_a s p_declaration (get_or list 0 0)
    → rest ≡ behind_semicolon w s sense list → f ≡ expression_before w s sense list → a ≡ expression_before w s sense rest → b ≡ expression_before w s sense (behind_semicolon w s sense rest)
    → record { first = f; condition = a; after = b } ≡ for_parts w s sense list
begins_otherwise w s sense [] rest f a b e d r x y z = absurd (cc)
begins_otherwise w s sense (c ∷ tail) rest f a b e d r x y z =
    let declared : ForParts = record { first = Some c; condition = expression_before w s sense tail; after = expression_before w s sense (behind_semicolon w s sense tail) } in
    let behind : List ℕ = behind_semicolon w s sense (c ∷ tail) in
    let other : ForParts = record { first = expression_before w s sense (c ∷ tail); condition = expression_before w s sense behind; after = expression_before w s sense (behind_semicolon w s sense behind) } in
    let y_is : a ≡ expression_before w s sense behind = y ∙ ap (expression_before w s sense) r in
    let z_is : b ≡ expression_before w s sense (behind_semicolon w s sense behind) = z ∙ ap (λ (l : List ℕ). expression_before w s sense (behind_semicolon w s sense l)) r in
    let same : ◌≡◌ {A = ForParts} (record { first = f; condition = a; after = b }) other = parts_same f (expression_before w s sense (c ∷ tail)) a (expression_before w s sense behind) b (expression_before w s sense (behind_semicolon w s sense behind)) x y_is z_is in
    same ∙ ap (λ (t : Bool). cond t declared other) d

-- a part that may lack
pub some_made : (u : Unit) (i : ℕ) (g : Given Core) → Made u (Ok i) g → OtherMade u (Ok (Some i)) (g >>= (λ v. Fits (Some v)))
some_made u i g m = ap (λ (z : Given Core). z >>= (λ v. Fits (Some v))) m

pub some_fails : (u v : Unit) (e : CheckFault) (g : Given Core) → Made u (Err e) g → OtherMade v (Err e) (g >>= (λ x. Fits (Some x)))
some_fails u v (BadOperand node) g m = ap (λ (z : Given Core). z >>= (λ x. Fits (Some x))) m
some_fails u v (Unsupported kind node) g m = ap (λ (z : Given Core). z >>= (λ x. Fits (Some x))) m
some_fails u v OutOfMemory g m = tt

-- what a declaration runs
run_of_same : (u : Unit) (m : Option Result_of) → map (core_at u) (run_of_made m) ≡ (elim (sense_read u m) [ IsRun cores ↦ cores | _ ↦ [] ])
run_of_same u (Some (made.Run nodes)) = refl
run_of_same u m = refl

run_same : (u : Unit) (results : List Result_of) (part : ℕ) → map (core_at u) (run_made results part) ≡ (elim (sense_in (senses_made u results) part) [ IsRun cores ↦ cores | _ ↦ [] ])
run_same u results part = run_of_same u (slice_get results part) ∙ sym (ap (λ (x : Sense). elim x [ IsRun cores ↦ cores | _ ↦ [] ]) (sense_at u results part))

run_stands : (u : Unit) (m : Result_of) → IsWithin u m → All (λ i. i < length u.nodes.items) (run_of_made (Some m))
run_stands u (made.Run nodes) h = h
run_stands u m h = All-nil (λ (i : ℕ). i < length u.nodes.items)

pub run_within : (u : Unit) (results : List Result_of) (part : ℕ) → All (IsWithin u) results → All (λ i. i < length u.nodes.items) (run_made results part)
run_within u [] part all = All-nil (λ (i : ℕ). i < length u.nodes.items)
run_within u (m ∷ results) zero all = run_stands u m (All-head (IsWithin u) m results all)
run_within u (m ∷ results) (suc part) all = run_within u results part (All-tail (IsWithin u) m results all)

pub run_first : (u : Unit) (w : World) (s : Source) (results : List Result_of) (at c : ℕ) (list : List ℕ) → true ≡ is_a s p_declaration c → list ≡ run_made results c → for_first w s (sense_in (senses_made u results)) at (Some c) ≡ Fits (map (core_at u) list)
run_first u w s results at c list e h =
    let sense = sense_in (senses_made u results) in
    let ran : Given (List Core) = Fits (elim (sense c) [ IsRun cores ↦ cores | _ ↦ [] ]) in
    sym (ap (λ (d : Bool). cond d ran (expression_statement w s sense at c >>= (λ x. Fits (x ∷ [])))) e) ∙ ap Fits (sym (ap (map (core_at u)) h ∙ run_same u results c))

pub lone_first : (w : World) (s : Source) (sense : ℕ → Sense) (at c : ℕ) → false ≡ is_a s p_declaration c → (expression_statement w s sense at c >>= (λ x. Fits (x ∷ []))) ≡ for_first w s sense at (Some c)
lone_first w s sense at c e =
    let ran : Given (List Core) = Fits (elim (sense c) [ IsRun cores ↦ cores | _ ↦ [] ]) in
    ap (λ (d : Bool). cond d ran (expression_statement w s sense at c >>= (λ x. Fits (x ∷ [])))) e

pub lone_made : (u : Unit) (i : ℕ) (list : List ℕ) (g : Given Core) → Made u (Ok i) g → list ≡ i ∷ [] → (g >>= (λ x. Fits (x ∷ []))) ≡ Fits (map (core_at u) list)
lone_made u i list g m e = ap (λ (z : Given Core). z >>= (λ x. Fits (x ∷ []))) m ∙ sym (ap (λ (l : List ℕ). Fits (map (core_at u) l)) e)

pub lone_fails : (u v : Unit) (e : CheckFault) (g : Given Core) → Made u (Err e) g → RunMade v (Err e) (g >>= (λ x. Fits (x ∷ [])))
lone_fails u v (BadOperand node) g m = ap (λ (z : Given Core). z >>= (λ x. Fits (x ∷ []))) m
lone_fails u v (Unsupported kind node) g m = ap (λ (z : Given Core). z >>= (λ x. Fits (x ∷ []))) m
lone_fails u v OutOfMemory g m = tt

-- the answers of calls that make those lists
pub runs_first : (u : Unit) (w : World) (s : Source) (results : List Result_of) (at c : ℕ) (r : Result (List ℕ) CheckFault) → true ≡ is_a s p_declaration c → IfOk r (λ list. list ≡ run_made results c) → IsOkUnless r OutOfMemory → RunMade u r (for_first w s (sense_in (senses_made u results)) at (Some c))
runs_first u w s results at c (Ok list) e h only = run_first u w s results at c list e h
runs_first u w s results at c (Err OutOfMemory) e h only = tt
runs_first u w s results at c (Err (BadOperand node)) e h only = let no : BadOperand node ≡ OutOfMemory = only in cc
runs_first u w s results at c (Err (Unsupported kind node)) e h only = let no : Unsupported kind node ≡ OutOfMemory = only in cc

pub runs_lone : (u : Unit) (i : ℕ) (r : Result (List ℕ) CheckFault) (g : Given Core) → Made u (Ok i) g → IfOk r (λ list. list ≡ i ∷ []) → IsOkUnless r OutOfMemory → RunMade u r (g >>= (λ x. Fits (x ∷ [])))
runs_lone u i (Ok list) g m h only = lone_made u i list g m h
runs_lone u i (Err OutOfMemory) g m h only = tt
runs_lone u i (Err (BadOperand node)) g m h only = let no : BadOperand node ≡ OutOfMemory = only in cc
runs_lone u i (Err (Unsupported kind node)) g m h only = let no : Unsupported kind node ≡ OutOfMemory = only in cc
