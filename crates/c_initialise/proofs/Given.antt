-- What the initialiser that was read gives.
use Rattle.std.proofs.Common.{◌≡◌, ℕ, ap, sym, subst, List, [], Some, Result, Ok, Err, MatchResult}
use Rattle.c_types.specs.Table.{Table, type_of}
use Rattle.c_grammar.specs.declared.trees.SyntaxNode.{SyntaxNode}
use Rattle.c_inits.specs.Syntax.{Init, Items}
use Rattle.c_inits.specs.Initial.{NoPlace}
use Rattle.c_inits.specs.Tables.{shape_in}
use Rattle.c_inits.specs.View.{Source, AnInit, AList, init_part, list_part, init_at as init_seen, items_at as items_seen}
use Rattle.c_initialise.specs.declared.c_braces.tree.InitNode.{InitNode}
use Rattle.c_initialise.specs.declared.c_braces.items.Initialised.{Initialised}
use Rattle.c_initialise.specs.c_braces.Tree.{AreInits}
use Rattle.c_initialise.specs.c_braces.Initialised.{IsGiven, outcome_for}
use Rattle.c_initialise.specs.Read.{part_at, Answers}

pub no_inits : (table : Table) (list : List InitNode) → list ≡ [] → AreInits table list
no_inits table list e = subst (AreInits table) (sym e) (record { each = λ i n at. cc })

pub seen_init : (s : Source) (nodes : List SyntaxNode) (i : ℕ) (init : Init) → part_at s nodes i ≡ AnInit init → init_seen s nodes i ≡ Some init
unfolding part_at
seen_init s nodes i init e = ap init_part e

pub seen_items : (s : Source) (nodes : List SyntaxNode) (i : ℕ) (items : Items) → part_at s nodes i ≡ AList items → items_seen s nodes i ≡ Some items
unfolding part_at
seen_items s nodes i items e = ap list_part e

pub answers : (table : Table) (limit id : ℕ) (x init : Init) (r : Result Initialised ℕ) → x ≡ init →
    MatchResult r (λ made. IsGiven (type_of table id) (outcome_for (shape_in table limit id) x) made) (λ bad. outcome_for (shape_in table limit id) x ≡ NoPlace bad) → Answers table limit id init r
answers table limit id x init (Ok made) e h = subst (λ (i : Init). IsGiven (type_of table id) (outcome_for (shape_in table limit id) i) made) e h
answers table limit id x init (Err bad) e h = subst (λ (i : Init). outcome_for (shape_in table limit id) i ≡ NoPlace bad) e h
