-- Parts of rows are read at once as the table says.
use Rattle.std.proofs.Common.{◌≡◌, ℕ, ◌+◌, ◌≤◌, true, false, Some, None, Result, Ok, Err, List, refl, sym, ap, ◌∙◌, subst, arith}
use Rattle.std.specs.Result.{MatchResult}
use Rattle.c_lexer.specs.declared.Token.{Token}
use Rattle.c_lexer.specs.declared.TokenKind.{TokenKind}
use Rattle.c_grammar.specs.declared.trees.SyntaxNode.{SyntaxNode}
use Rattle.c_grammar.specs.Names.{Names}
use Rattle.c_grammar.specs.Notes.{Noted, noted}
use Rattle.c_grammar.specs.Table.{item_of}
use Rattle.c_grammar.specs.Fits.{chosen}
use Rattle.c_grammar.specs.Terminals.{takes, nothing}
use Rattle.c_grammar.specs.Refusals.{refusal}
use Rattle.c_grammar.specs.Tree.{nests}
use Rattle.c_grammar.specs.Reads.{State, Fault, Walks, Opens, at_end, token, choice, no_choice, no_alternative, first, second, taken, chosen_at, misfit}
use Rattle.c_parser.specs.declared.reader.Progress.{Progress}
use Rattle.c_parser.specs.declared.ParseFault.{ParseFault}
use Rattle.c_parser.specs.Parse.{state, Sees}
use Rattle.c_parser.specs.Leads.{IsAdvanced, IsFaulty}
use Rattle.c_parser.specs.Parts.{IsPart, Forks, IsWord, IsReadAs}
use Rattle.c_parser.proofs.Steps.{helper, faults_map}

part_opens : (text : List ℕ) (tokens : List Token) (q d : ℕ) (s : State) (r : Result State Fault) → IsPart q (first text tokens s) (second text tokens s) d → Walks text tokens q 0 d s r → Opens text tokens q d s r
part_opens text tokens q d s r p w =
    let n : nests q ≡ 0 = p.1 in
    let e : d ≡ d + nests q = omega (arith, n) in
    let fits : d + nests q ≤ 256 = omega (arith, n, p.3) in
    helper text tokens q d s fits p.2 r p.0 (subst (λ k. Walks text tokens q 0 k s r) e w)

-- the same at tokens of these terminals
part_here : (q a b a' b' d : ℕ) → a ≡ a' → b ≡ b' → IsPart q a' b' d → IsPart q a b d
part_here q a b a' b' d e f p = (p.0, p.1, ap (λ x. refusal q x b) e ∙ (ap (λ y. refusal q a' y) f ∙ p.2), p.3)

fork_chosen : (text : List ℕ) (tokens : List Token) (q u v next d : ℕ) (s : State) (r : Result State Fault) → Forks q u v → chosen_at text tokens u v s ≡ Some next → Opens text tokens next d s r → Walks text tokens q 0 d s r
fork_chosen text tokens q u v next d s (Ok t) f e o = choice f.0 e o (at_end f.1)
fork_chosen text tokens q u v next d s (Err x) f e o = no_choice f.0 e o

chosen_here : (text : List ℕ) (tokens : List Token) (u v a b : ℕ) (notes : Noted) (s : State) → first text tokens s ≡ a → second text tokens s ≡ b → s.notes ≡ notes → chosen_at text tokens u v s ≡ chosen u v a b notes
chosen_here text tokens u v a b notes s e f g =
    ap (λ x. chosen u v x (second text tokens s) s.notes) e ∙ (ap (λ y. chosen u v a y s.notes) f ∙ ap (λ (n : Noted). chosen u v a b n) g)

pub reads_itself : (q a b d : ℕ) (notes : Noted) → IsReadAs q a b d notes (Some q)
reads_itself q a b d notes = λ text tokens s e f g r o. o

pub reads_chosen : (used q u v next a b d : ℕ) (notes : Noted) → IsReadAs used a b d notes (Some q) → IsPart q a b d → Forks q u v → chosen u v a b notes ≡ Some next → IsReadAs used a b d notes (Some next)
reads_chosen used q u v next a b d notes before p forks e = λ text tokens s x y n r o.
    before text tokens s x y n r (part_opens text tokens q d s r (part_here q (first text tokens s) (second text tokens s) a b d x y p) (fork_chosen text tokens q u v next d s r forks (chosen_here text tokens u v a b notes s x y n ∙ e) o))

pub reads_none : (used q u v a b d : ℕ) (notes : Noted) → IsReadAs used a b d notes (Some q) → IsPart q a b d → Forks q u v → chosen u v a b notes ≡ None → IsReadAs used a b d notes None
reads_none used q u v a b d notes before p forks e = λ text tokens s x y n.
    let c : chosen_at text tokens u v s ≡ None = chosen_here text tokens u v a b notes s x y n ∙ e in
    before text tokens s x y n (Err (misfit text tokens s)) (part_opens text tokens q d s (Err (misfit text tokens s)) (part_here q (first text tokens s) (second text tokens s) a b d x y p) (no_alternative forks.0 c))

pub word_opens : (text : List ℕ) (tokens : List Token) (q a b d : ℕ) (s : State) → first text tokens s ≡ a → second text tokens s ≡ b → IsPart q a b d → IsWord q a → Opens text tokens q d s (Ok (taken text tokens q s))
word_opens text tokens q a b d s x y p (k, i, n, t) =
    let e : takes q k (first text tokens s) ≡ true = ap (λ v. takes q k v) x ∙ t in
    part_opens text tokens q d s (Ok (taken text tokens q s)) (part_here q (first text tokens s) (second text tokens s) a b d x y p) (token i e (at_end n))

pub nothing_opens : (text : List ℕ) (tokens : List Token) (q a b d : ℕ) (s : State) → first text tokens s ≡ a → second text tokens s ≡ b → IsPart q a b d → item_of q 0 ≡ None → Opens text tokens q d s (Ok s)
nothing_opens text tokens q a b d s x y p n = part_opens text tokens q d s (Ok s) (part_here q (first text tokens s) (second text tokens s) a b d x y p) (at_end n)

-- what a production is read as has advanced
pub as_advances : (text : List ℕ) (tokens : List Token) (old new : Progress) (scopes : Names) (nodes nodes' : List SyntaxNode) (used q on : ℕ) → Sees text tokens scopes old.ahead → IsReadAs used old.ahead.first old.ahead.second old.top.depth (noted old.own.notes) (Some q)
    → (r : Result (Unit {0}) ParseFault)
    → MatchResult r (λ done. IsAdvanced text tokens q on old scopes nodes new nodes') (λ fault. IsFaulty text tokens q old.ahead old.top.depth old.own fault)
    → MatchResult r (λ done. IsAdvanced text tokens used on old scopes nodes new nodes') (λ fault. IsFaulty text tokens used old.ahead old.top.depth old.own fault)
as_advances text tokens old new scopes nodes nodes' used q on sees same (Ok u) h = λ r l.
    let m = h r l in
    (m.0, same text tokens (state old.ahead.place scopes nodes old.own) (sym sees.0) (sym sees.1) refl m.0 m.1, m.2)
as_advances text tokens old new scopes nodes nodes' used q on sees same (Err f) h = λ scopes nodes sees.
    let s = state old.ahead.place scopes nodes old.own in
    faults_map (Opens text tokens q old.top.depth s) (Opens text tokens used old.top.depth s) f (λ e o. same text tokens s (sym sees.0) (sym sees.1) refl (Err e) o) (h scopes nodes sees)

takes_nothing : (q : ℕ) (k : TokenKind) → takes q k nothing ≡ false
unfolding takes
takes_nothing q k = refl

-- a word is a token
pub word_real : (q a : ℕ) → IsWord q a → a ≡ nothing → ⊥
word_real q a (k, i, n, t) e = let f : takes q k nothing ≡ true = subst (λ x. takes q k x ≡ true) e t in let g = takes_nothing q k in cc
